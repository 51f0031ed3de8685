-- What is said of a refusal, by what it is about.
use Rattle.std.proofs.Common.{◌≡◌, ℕ, ◌≤◌, List, Option, Some, None, Result, Ok, Err, refl, sym, subst, ◌∙◌, inl, inr, arith}
use Rattle.std.specs.Prelude.{IfOk, IfSome, IsNone}
use Rattle.outside_world.specs.Told.{Contents, HoldsFile}
use Rattle.no_memory.specs.declared.NoMemory.{NoMemory}
use Rattle.smlserver_top.specs.declared.sentences.Shows.{Shows}
use Rattle.smlserver_top.specs.declared.sentences.Shows.TheVariants as shows
use Rattle.smlserver_top.specs.Explained.{on_file, on_line, on_place, shows_of, IsUnread, IsSaid, IsExplained}
use Rattle.smlserver_top.specs.Told.{Parts, told_of}
use Rattle.smlserver_top.specs.RefusedLine.{Tells}
use Rattle.smlserver_top.proofs.LineRead.{told_is}

-- what is answered is explained
abbrev pub Explains : Contents → ℕ → ℕ → List ℕ → List ℕ → ℕ → Shows → List ℕ → Type 0
Explains contents before after project file place s text = (sentence : List ℕ) × IsExplained contents before after project file place sentence s text

same_some : {A : Type 0} (x y : A) → Some x ≡ Some y → x ≡ y
same_some x y e = cc

pub line_said : (contents : Contents) (before after : ℕ) (project file : List ℕ) (place : ℕ) (sentence : List ℕ) (s : Shows) (source : Option (List ℕ)) (r : Result (List ℕ) NoMemory)
    → s ≡ shows.Line → IfSome source (HoldsFile contents project) → (IsNone source → IsUnread contents before after project)
    → IfOk r (λ text. IfSome source (λ t. text ≡ on_line project t place sentence)) → IfOk r (λ text. IsNone source → text ≡ on_file project sentence)
    → IfOk r (Explains contents before after project file place s)
line_said contents before after project file place sentence s source (Err e) is held none read unread = tt
line_said contents before after project file place sentence s (Some t) (Ok text) is held none read unread =
    (sentence, subst (λ k. IsExplained contents before after project file place sentence k text) (sym is) (inl (t, held, read)))
line_said contents before after project file place sentence s None (Ok text) is held none read unread =
    (sentence, subst (λ k. IsExplained contents before after project file place sentence k text) (sym is) (inr (none refl, unread refl)))

unread_since : (contents : Contents) (before mid after : ℕ) (name : List ℕ) → before ≤ mid → IsUnread contents mid after name → IsUnread contents before after name
unread_since contents before mid after name less (inl lacks) = inl lacks
unread_since contents before mid after name less (inr (inl long)) = inr (inl long)
unread_since contents before mid after name less (inr (inr rose)) = inr (inr (omega (arith, less, rose)))

pub place_said : (contents then : Contents) (before mid after : ℕ) (project file : List ℕ) (place : ℕ) (sentence : List ℕ) (s : Shows) (r : Result (List ℕ) NoMemory)
    → s ≡ shows.Place → then ≡ contents → before ≤ mid
    → IfOk r (IsSaid then mid after file sentence (λ source. on_place file source place sentence))
    → IfOk r (Explains contents before after project file place s)
place_said contents then before mid after project file place sentence s (Err e) is same less said = tt
place_said contents then before mid after project file place sentence s (Ok text) is same less (inl read) =
    (sentence, subst (λ k. IsExplained contents before after project file place sentence k text) (sym is) (inl (read.0, subst (λ c. HoldsFile c file read.0) same read.1, read.2)))
place_said contents then before mid after project file place sentence s (Ok text) is same less (inr unread) =
    (sentence, subst (λ k. IsExplained contents before after project file place sentence k text) (sym is) (inr (unread_since contents before mid after file less (subst (λ c. IsUnread c mid after file) same unread.0), unread.1)))

pub whole_said : (contents : Contents) (before after : ℕ) (project file : List ℕ) (place : ℕ) (sentence : List ℕ) (s : Shows) (r : Result (List ℕ) NoMemory)
    → s ≡ shows.Whole → IfOk r (λ text. text ≡ on_file file sentence) → IfOk r (Explains contents before after project file place s)
whole_said contents before after project file place sentence s (Err e) is said = tt
whole_said contents before after project file place sentence s (Ok text) is said =
    (sentence, subst (λ k. IsExplained contents before after project file place sentence k text) (sym is) said)

-- what the line tells is explained
pub told_said : (contents : Contents) (before after : ℕ) (project line : List ℕ) (f : List ℕ) (p : ℕ) (n : List ℕ) (l : Option (List ℕ)) (r : Result (List ℕ) NoMemory)
    → Some (f, p, n, l) ≡ told_of line → IfOk r (Explains contents before after project f p (shows_of n l))
    → IfOk r (λ text. (file : List ℕ) → (place : ℕ) → (name : List ℕ) → (lack : Option (List ℕ)) → Tells line file place name lack → Explains contents before after project file place (shows_of name lack) text)
told_said contents before after project line f p n l (Err e) is said = tt
told_said contents before after project line f p n l (Ok text) is said = λ file place name lack t.
    subst (λ (q : Parts). Explains contents before after project q.0 q.1 (shows_of q.2 q.3) text) (same_some (f, p, n, l) (file, place, name, lack) (is ∙ told_is line file place name lack t)) said

pub none_told : (line file : List ℕ) (place : ℕ) (name : List ℕ) (lack : Option (List ℕ)) → None ≡ told_of line → Tells line file place name lack → ⊥
none_told line file place name lack none t = let e = none ∙ told_is line file place name lack t in absurd (cc)
