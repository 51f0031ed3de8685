-- Entries tried one after another are a legal history, or stop at one that is none.
use Rattle.std.proofs.Common.{◌≡◌, ◌≤◌, ◌+◌, ◌++◌, ℕ, zero, suc, List, [], ◌∷◌, take, drop, length, Bool, true, false, Some, slice_get, refl, ap, sym, ◌∙◌, subst, arith, add-one}
use Rattle.history_core.specs.declared.entry.Entry.{Entry}
use Rattle.history_core.specs.LegalHistory.{Database, Machines, EntryStep, LegalRun, LegalHistory, start}
use Rattle.history_core.specs.ByObject.{NamesDiffer}
use Rattle.history_check.specs.Replaying.{Tried, IsSingle}
use Rattle.history_check.proofs.OneStep.{no-history, run-more, stays-single}

-- what a test of an entry says
pub no-step : (old : Machines) (e : Entry) (new : Machines) (b : Bool) → Tried old e new b → b ≡ false → (other : Machines) → EntryStep old e other → ⊥
no-step old e new true h t = absurd cc
no-step old e new false h t = h

pub yes-step : (old : Machines) (e : Entry) (new : Machines) (b : Bool) → Tried old e new b → b ≡ true → EntryStep old e new
yes-step old e new true h t = h
yes-step old e new false h t = absurd cc

split-at : {X : Type 0} (xs : List X) (i : ℕ) (x : X) → slice_get xs i ≡ Some x → xs ≡ take i xs ++ x ∷ drop (suc i) xs
split-at [] i x h = absurd cc
split-at (y ∷ xs) zero x h = let e : y ≡ x = cc in ap (λ z. z ∷ xs) e
split-at (y ∷ xs) (suc i) x h = ap (λ z. y ∷ z) (split-at xs i x h)

take-more : {X : Type 0} (xs : List X) (i : ℕ) (x : X) → slice_get xs i ≡ Some x → take (suc i) xs ≡ take i xs ++ x ∷ []
take-more [] i x h = absurd cc
take-more (y ∷ xs) zero x h = let e : y ≡ x = cc in ap (λ z. z ∷ []) e
take-more (y ∷ xs) (suc i) x h = ap (λ z. y ∷ z) (take-more xs i x h)

take-all : {X : Type 0} (xs : List X) (n : ℕ) → length xs ≤ n → take n xs ≡ xs
take-all [] zero h = refl
take-all [] (suc n) h = refl
take-all (x ∷ xs) zero h = absurd (omega (arith, h))
take-all (x ∷ xs) (suc n) h = ap (λ z. x ∷ z) (take-all xs n (omega (arith, h)))

module _ (ds : List Database) (es : List Entry) where
  abbrev pub Goes : ℕ → Machines → Type 0
  Goes i m = LegalRun (start ds) (take i es) m × IsSingle m

  pub going : (i : ℕ) (e : Entry) (old new : Machines) → slice_get es i ≡ Some e → Goes i old → EntryStep old e new → Goes (i + 1) new
  going i e old new h g s = subst (λ k. Goes k new) (sym (add-one i)) (subst (λ z. LegalRun (start ds) z new) (sym (take-more es i e h)) (run-more (take i es) (start ds) old e new g.0 s), stays-single old e new g.1 s)

  pub stuck : NamesDiffer ds → (i : ℕ) (e : Entry) (old : Machines) → slice_get es i ≡ Some e → Goes i old → ((other : Machines) → EntryStep old e other → ⊥) → LegalHistory ds es → ⊥
  stuck differ i e old h g none legal =
      no-history ds (take i es) (drop (suc i) es) e old differ g.0 none (subst (LegalHistory ds) (split-at es i e h) legal)

  pub over : (n : ℕ) (m : Machines) → length es ≤ n → Goes n m → LegalHistory ds es
  over n m h g = (m, subst (λ z. LegalRun (start ds) z m) (take-all es n h) g.0)
