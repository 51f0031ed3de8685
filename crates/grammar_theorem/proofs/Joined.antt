-- The two halves together: the machine finds each tree, and has one where it accepts.
use Rattle.std.proofs.Common.{◌≡◌, ◌<◌, ◌≤◌, ℕ, List, [], ◌∷◌, ◌++◌, length, Option, Some, None, refl, ap, sym, ◌∙◌, arith}
use Rattle.sml_syntax.specs.declared.token.Token.{Token}
use Rattle.sml_syntax.specs.declared.tree.Program.{Program}
use Rattle.sml_syntax.specs.NestedTypes.{Found}
use Rattle.grammar_rules.specs.Programs.{IsWide, IsUnexpected}
use Rattle.sml_grammar.specs.declared.act.Made.{Made}
use Rattle.sml_grammar.specs.declared.symbol.Sym.{Sym}
use Rattle.sml_grammar.specs.declared.symbol.Sym.TheVariants as s
use Rattle.sml_grammar.specs.declared.symbol.FunPhrase.{FunPhrase}
use Rattle.sml_grammar.specs.declared.symbol.FunPhrase.TheVariants as fp
use Rattle.sml_grammar.specs.declared.token_sort.TokenSort.{TokenSort}
use Rattle.sml_grammar.specs.Sorts.{sort_of}
use Rattle.sml_grammar.specs.Moves.{Move, Takes, Skips, Acts, Fails}
use Rattle.sml_grammar.specs.Machine.{move_at, made, Fed, Goes, Empties, Stuck, feed_by, Accepts, Stops, end_of, next_of, start, outcome_of, place_of}
use Rattle.parse_build.specs.Building.{program_of}
use Rattle.grammar_trees.specs.Exact as trees
use Rattle.grammar_trees.specs.Accepted.{IsAccepted, whole}
use Rattle.grammar_trees.proofs.Complete.{complete}
use Rattle.grammar_sound.specs.Exact.{exact_fun, exact_move, exact_move_of, exact_feed, exact_run, exact_outcome}
use Rattle.grammar_sound.specs.Soundness.{FitsSlice}
use Rattle.grammar_sound.proofs.Sound.{same_outcome, exact_tree}
use Rattle.grammar_sound.proofs.Viable.{machine_unexpected}

-- the two exact machines are one
same-fun : (phrase : FunPhrase) (sort : TokenSort) (t : Token) → trees.exact_fun phrase sort t ≡ exact_fun phrase sort t
same-fun (fp.Patterns from name count) sort t = refl
same-fun fp.Bind sort t = refl
same-fun fp.Rest sort t = refl
same-fun (fp.Op from) sort t = refl
same-fun (fp.Head from name_at name) sort t = refl
same-fun (fp.Infix from) sort t = refl
same-fun (fp.Equals from count) sort t = refl

same-move : (x : Sym) (sort : TokenSort) (t : Token) → trees.move_at x sort t ≡ exact_move x sort t
unfolding trees.move_at move_at
same-move (s.Fun phrase) sort t = same-fun phrase sort t
same-move (s.Do act) sort t = refl
same-move (s.Want mark) sort t = refl
same-move (s.Exp phrase) sort t = refl
same-move (s.ExpRest phrase) sort t = refl
same-move (s.ExpItems phrase) sort t = refl
same-move (s.Quoted phrase) sort t = refl
same-move (s.Pat phrase) sort t = refl
same-move (s.PatItems phrase) sort t = refl
same-move (s.Ty phrase) sort t = refl
same-move (s.Dec phrase) sort t = refl
same-move (s.Head phrase) sort t = refl
same-move (s.Con phrase) sort t = refl
same-move (s.Later phrase) sort t = refl

same-move-of : (x : Sym) (t : Option Token) → trees.move_of x t ≡ exact_move_of x t
unfolding trees.move_of
same-move-of x None = refl
same-move-of x (Some t) = same-move x (sort_of t.form) t

same-feed : (t : Option Token) (st : List Sym) (to : ℕ) (acts : List Made) → trees.feed t st to acts ≡ exact_feed t st to acts
unfolding trees.feed exact_feed
same-feed t [] to acts = refl
same-feed t (x ∷ st) to acts = ap (λ move. feed_by move st to acts (trees.feed t st to)) (same-move-of x t) ∙ go (exact_move_of x t) (λ made_. same-feed t st to made_)
  where
    go : (move : Move) → ((made_ : List Made) → trees.feed t st to made_ ≡ exact_feed t st to made_) → feed_by move st to acts (trees.feed t st to) ≡ feed_by move st to acts (exact_feed t st to)
    go (Takes β) below = refl
    go Skips below = below acts
    go (Acts act) below = below (acts ++ made act to ∷ [])
    go Fails below = refl

same-run : (ts : List Token) (st : List Sym) (to : ℕ) (acts : List Made) → trees.run ts st to acts ≡ exact_run ts st to acts
unfolding trees.run exact_run
same-run [] st to acts = ap (λ fed. end_of fed to) (same-feed None st to acts)
same-run (t ∷ ts) st to acts = ap (λ fed. next_of fed (t ∷ ts) to (λ σ made_. trees.run ts σ t.span.to made_)) (same-feed (Some t) st to acts) ∙ go (exact_feed (Some t) st to acts) (λ σ made_. same-run ts σ t.span.to made_)
  where
    go : (fed : Fed) → ((σ : List Sym) (made_ : List Made) → trees.run ts σ t.span.to made_ ≡ exact_run ts σ t.span.to made_) → next_of fed (t ∷ ts) to (λ σ made_. trees.run ts σ t.span.to made_) ≡ next_of fed (t ∷ ts) to (λ σ made_. exact_run ts σ t.span.to made_)
    go (Goes σ made_) later = later σ made_
    go (Empties made_) later = refl
    go Stuck later = refl

pub same-outcome : (tokens : List Token) → trees.exact_outcome tokens ≡ exact_outcome tokens
unfolding trees.exact_outcome exact_outcome
same-outcome tokens = same-run tokens start 0 []

fits : (n : ℕ) → n < 18446744073709551616 → n ≤ 18446744073709551615
fits n h = omega arith

accepts-tree : (tokens : List Token) (program : Program) (lacks : List Found) → IsWide tokens program lacks → IsAccepted tokens program lacks
accepts-tree tokens program lacks d = complete tokens program lacks d

exact-accepts : (tokens : List Token) (program : Program) (lacks : List Found) → IsWide tokens program lacks → (acts : List Made) × (exact_outcome tokens ≡ Accepts acts)
exact-accepts tokens program lacks d = let a : IsAccepted tokens program lacks = accepts-tree tokens program lacks d in (whole a.new, sym (same-outcome tokens) ∙ a.accepts)

pub each_tree : (tokens : List Token) (program : Program) (lacks : List Found) → FitsSlice tokens → IsWide tokens program lacks → (acts : List Made) × (outcome_of tokens ≡ Accepts acts) × (lacks ≡ [] → program_of acts ≡ program.items)
each_tree tokens program lacks l d =
    let a : IsAccepted tokens program lacks = accepts-tree tokens program lacks d in
    (whole a.new, same_outcome tokens (fits (length tokens) l) ∙ (sym (same-outcome tokens) ∙ a.accepts), a.builds)

same-acts : (first second : List Made) → Accepts first ≡ Accepts second → first ≡ second
same-acts first second h = cc

pub accepted_tree : (tokens : List Token) (acts : List Made) → FitsSlice tokens → outcome_of tokens ≡ Accepts acts → (program : Program) × (lacks : List Found) × IsWide tokens program lacks × (lacks ≡ [] → program_of acts ≡ program.items)
accepted_tree tokens acts l h =
    let exact : exact_outcome tokens ≡ Accepts acts = sym (same_outcome tokens (fits (length tokens) l)) ∙ h in
    let tree : (program : Program) × (lacks : List Found) × IsWide tokens program lacks = exact_tree tokens acts exact in
    let a : IsAccepted tokens tree.0 tree.1 = accepts-tree tokens tree.0 tree.1 tree.2 in
    let same : acts ≡ whole a.new = same-acts acts (whole a.new) (sym exact ∙ (sym (same-outcome tokens) ∙ a.accepts)) in
    (tree.0, tree.1, tree.2, λ none. ap program_of same ∙ a.builds none)

pub stops_unexpected : (tokens left : List Token) (to : ℕ) → FitsSlice tokens → outcome_of tokens ≡ Stops left to → IsUnexpected tokens (place_of left to)
stops_unexpected tokens left to l h = machine_unexpected exact-accepts tokens left to (fits (length tokens) l) h
