-- Where the machine stops: the tokens before that place begin a program, and with the next one they don't.
use Rattle.std.proofs.Common.{◌≡◌, ◌≤◌, ◌<◌, ℕ, List, [], ◌∷◌, ◌++◌, length, Some, None, refl, ap, sym, ◌∙◌, subst, append_assoc, arith}
use Rattle.sml_syntax.specs.declared.token.Token.{Token}
use Rattle.sml_syntax.specs.declared.tree.Program.{Program}
use Rattle.sml_syntax.specs.NestedTypes.{Found}
use Rattle.grammar_rules.specs.Nodes.{last_of, last_after}
use Rattle.grammar_rules.specs.Programs.{IsWide, BeginsProgram, IsUnexpected, place_behind}
use Rattle.sml_grammar.specs.declared.act.Made.{Made}
use Rattle.sml_grammar.specs.declared.symbol.Sym.{Sym}
use Rattle.sml_grammar.specs.Machine.{Fed, Goes, Empties, Stuck, Accepts, Stops, end_of, next_of, start, outcome_of, place_of}
use Rattle.grammar_sound.specs.Exact.{exact_feed, exact_run, exact_outcome}
use Rattle.grammar_sound.proofs.Sem.{Fulfils}
use Rattle.grammar_sound.proofs.Fine.{Good, fin}
use Rattle.grammar_sound.proofs.Finishes.{fulfil}
use Rattle.grammar_sound.specs.Soundness.{FitsSlice}
use Rattle.grammar_sound.proofs.Sound.{fed_sound, fed_good, program_of, same_outcome, has_tree}

-- a stack that takes no first token of these
Blocked : List Sym → ℕ → List Made → List Token → Type 0
Blocked st to acts [] = Unit {0}
Blocked st to acts (w ∷ ts) = (q : List Token) → exact_run (w ∷ q) st to acts ≡ Stops (w ∷ q) to

-- the tokens that were taken, the stack behind them, and those that are left
data Stopped (st : List Sym) (to : ℕ) (acts : List Made) (left : List Token) (end_ : ℕ) : List Token → Type 0 where
  stopped : (p : List Token) (st' : List Sym) (acts' : List Made) → Good st' → ((rest : List Token) → Fulfils st' rest None → Fulfils st (p ++ rest) None)
      → ((q : List Token) → exact_run (p ++ q) st to acts ≡ exact_run q st' end_ acts') → end_ ≡ last_after to p → Blocked st' end_ acts' left → Stopped st to acts left end_ (p ++ left)

stop-later : (w : Token) (st st' : List Sym) (to : ℕ) (acts acts' : List Made) (left : List Token) (end_ : ℕ) {ts : List Token} → exact_feed (Some w) st to acts ≡ Goes st' acts' → Stopped st' w.span.to acts' left end_ ts → Stopped st to acts left end_ (w ∷ ts)
unfolding exact_run
stop-later w st st' to acts acts' left end_ h (stopped p st2 acts2 g f k l b) =
    stopped (w ∷ p) st2 acts2 g (λ rest x. fed_sound w st st' to acts acts' (p ++ rest) None h (f rest x))
    (λ q. ap (λ fed. next_of fed (w ∷ (p ++ q)) to (λ σ made_. exact_run (p ++ q) σ w.span.to made_)) h ∙ k q) l b

end-stops : (fed : Fed) (to : ℕ) (left : List Token) (end_ : ℕ) → end_of fed to ≡ Stops left end_ → ([] ≡ left) × (to ≡ end_)
end-stops (Goes st acts) to left end_ h = (cc, cc)
end-stops (Empties acts) to left end_ h = cc
end-stops Stuck to left end_ h = (cc, cc)

here : (st : List Sym) (to : ℕ) (acts : List Made) (ts : List Token) → Good st → Blocked st to acts ts → Stopped st to acts ts to ts
here st to acts ts g b = stopped [] st acts g (λ rest f. f) (λ q. refl) refl b

stops : (ts : List Token) (st : List Sym) (to : ℕ) (acts : List Made) (left : List Token) (end_ : ℕ) → Good st → exact_run ts st to acts ≡ Stops left end_ → Stopped st to acts left end_ ts
unfolding exact_run Blocked
stops [] st to acts left end_ g h =
    let both : ([] ≡ left) × (to ≡ end_) = end-stops (exact_feed None st to acts) to left end_ h in
    subst (λ l. Stopped st to acts l end_ []) both.0 (subst (λ n. Stopped st to acts [] n []) both.1 (here st to acts [] g tt))
stops (w ∷ ts) st to acts left end_ g h =
    go (exact_feed (Some w) st to acts) refl (λ σ made_ k l. stops ts σ w.span.to made_ left end_ k l) h
  where
    stuck : (fed : Fed) → exact_feed (Some w) st to acts ≡ fed → ((q : List Token) → next_of fed (w ∷ q) to (λ σ made_. exact_run q σ w.span.to made_) ≡ Stops (w ∷ q) to) → Stops (w ∷ ts) to ≡ Stops left end_ → Stopped st to acts left end_ (w ∷ ts)
    stuck fed q b h =
        let same : (w ∷ ts) ≡ left = cc in
        let ends : to ≡ end_ = cc in
        subst (λ l. Stopped st to acts l end_ (w ∷ ts)) same (subst (λ n. Stopped st to acts (w ∷ ts) n (w ∷ ts)) ends
        (here st to acts (w ∷ ts) g (λ r. ap (λ f. next_of f (w ∷ r) to (λ σ made_. exact_run r σ w.span.to made_)) q ∙ b r)))

    go : (fed : Fed) → exact_feed (Some w) st to acts ≡ fed → ((σ : List Sym) (made_ : List Made) → Good σ → exact_run ts σ w.span.to made_ ≡ Stops left end_ → Stopped σ w.span.to made_ left end_ ts)
        → next_of fed (w ∷ ts) to (λ σ made_. exact_run ts σ w.span.to made_) ≡ Stops left end_ → Stopped st to acts left end_ (w ∷ ts)
    go (Goes σ made_) q later h = stop-later w st σ to acts made_ left end_ q (later σ made_ (fed_good w st σ to acts made_ q g) h)
    go (Empties made_) q later h = stuck (Empties made_) q (λ r. refl) h
    go Stuck q later h = stuck Stuck q (λ r. refl) h

good-start : Good start
good-start = (record { no_or = tt; no_handle = tt; no_bar = tt; no_infix = tt }, tt)

-- what was read before a stop begins a program
pub data Read (left : List Token) (end_ : ℕ) : List Token → Type 0 where
  was_read : (p : List Token) → BeginsProgram p → end_ ≡ last_of p → ((t : Token) (q : List Token) → (ts : List Token) → left ≡ t ∷ ts → exact_outcome (p ++ t ∷ q) ≡ Stops (t ∷ q) end_) → Read left end_ (p ++ left)

blocked-at : (st : List Sym) (end_ : ℕ) (acts : List Made) (left : List Token) → Blocked st end_ acts left → (t : Token) (q ts : List Token) → left ≡ t ∷ ts → exact_run (t ∷ q) st end_ acts ≡ Stops (t ∷ q) end_
unfolding Blocked
blocked-at st end_ acts [] b t q ts e = cc
blocked-at st end_ acts (w ∷ us) b t q ts e = let same : w ≡ t = cc in subst (λ v. exact_run (v ∷ q) st end_ acts ≡ Stops (v ∷ q) end_) same (b q)

pub read_before : (tokens left : List Token) (end_ : ℕ) → exact_outcome tokens ≡ Stops left end_ → Read left end_ tokens
unfolding exact_outcome
read_before tokens left end_ h = go (stops tokens start 0 [] left end_ good-start h)
  where
    go : {ts : List Token} → Stopped start 0 [] left end_ ts → Read left end_ ts
    go (stopped p st acts g f k l b) =
        let tree : (program : Program) × (lacks : List Found) × IsWide (p ++ fin st) program lacks = program_of (f (fin st) (fulfil st g)) in
        was_read p (fin st, tree.0, tree.1, tree.2) l (λ t q ts e. k (t ∷ q) ∙ blocked-at st end_ acts left b t q ts e)

-- where the machine stops is where the tokens stop being a program, given that it finds each tree
pub unexpected : ((tokens : List Token) (program : Program) (lacks : List Found) → IsWide tokens program lacks → (acts : List Made) × (exact_outcome tokens ≡ Accepts acts)) →
    (tokens left : List Token) (end_ : ℕ) → exact_outcome tokens ≡ Stops left end_ → IsUnexpected tokens (place_of left end_)
unexpected complete tokens left end_ h = go (read_before tokens left end_ h) (λ program lacks d. none (complete tokens program lacks d))
  where
    apart : (acts : List Made) (ts : List Token) (n : ℕ) → Accepts acts ≡ Stops ts n → ⊥
    apart acts ts n h = cc

    none : (acts : List Made) × (exact_outcome tokens ≡ Accepts acts) → ⊥
    none (acts, k) = apart acts left end_ (sym k ∙ h)

    place : (p left : List Token) → end_ ≡ last_of p → place_of left end_ ≡ place_behind p left
    place p [] l = l
    place p (t ∷ ts) l = refl

    go : {ts : List Token} → Read left end_ ts → ((program : Program) (lacks : List Found) → IsWide ts program lacks → ⊥) → IsUnexpected ts (place_of left end_)
    go (was_read p b l k) n = record {
      before = p;
      after = left;
      split = refl;
      none = n;
      begins = b;
      longest = λ t ts e (rest, program, lacks, d).
          (let found : (acts : List Made) × (exact_outcome (p ++ t ∷ rest) ≡ Accepts acts) = complete (p ++ t ∷ rest) program lacks (subst (λ us. IsWide us program lacks) (append_assoc p (t ∷ []) rest) d) in
          apart found.0 (t ∷ rest) end_ (sym found.1 ∙ k t rest ts e));
      place_is = place p left l;
    }

-- the same of the machine, on tokens of a slice
pub machine_unexpected : ((tokens : List Token) (program : Program) (lacks : List Found) → IsWide tokens program lacks → (acts : List Made) × (exact_outcome tokens ≡ Accepts acts)) →
    (tokens left : List Token) (end_ : ℕ) → length tokens ≤ 18446744073709551615 → outcome_of tokens ≡ Stops left end_ → IsUnexpected tokens (place_of left end_)
machine_unexpected complete tokens left end_ l h = unexpected complete tokens left end_ (sym (same_outcome tokens l) ∙ h)

-- the laws, on tokens of a slice
fits : (n : ℕ) → n < 18446744073709551616 → n ≤ 18446744073709551615
fits n h = omega arith

pub accepted_have_tree : (tokens : List Token) (acts : List Made) → FitsSlice tokens → outcome_of tokens ≡ Accepts acts → (program : Program) × (lacks : List Found) × IsWide tokens program lacks
accepted_have_tree tokens acts l h = has_tree tokens acts (fits (length tokens) l) h

pub read_begins : (tokens left : List Token) (to : ℕ) → FitsSlice tokens → outcome_of tokens ≡ Stops left to → (before : List Token) × (tokens ≡ before ++ left) × BeginsProgram before × (place_of left to ≡ place_behind before left)
read_begins tokens left to l h = go (read_before tokens left to (sym (same_outcome tokens (fits (length tokens) l)) ∙ h))
  where
    place : (p left : List Token) → to ≡ last_of p → place_of left to ≡ place_behind p left
    place p [] k = k
    place p (t ∷ ts) k = refl

    go : {ts : List Token} → Read left to ts → (before : List Token) × (ts ≡ before ++ left) × BeginsProgram before × (place_of left to ≡ place_behind before left)
    go (was_read p b k _) = (p, refl, b, place p left k)
