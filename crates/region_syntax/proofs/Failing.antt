-- The first failing node, and the answers of all.
use Rattle.std.proofs.Common.{◌≡◌, ◌∙◌, ℕ, suc, Bool, true, false, cond, List, [], ◌∷◌, ◌++◌, length, Option, Some, None, refl, sym, ap, arith}
use Rattle.std.specs.Option.{option_map}
use Rattle.region_syntax.specs.RegionTerms.{Program}
use Rattle.region_syntax.specs.RegionTyping.{first_failing, failing_after, all_hold}
use Rattle.region_syntax.specs.TopLevel.{program_answers, program_fits, program_tables, item_answers}

no_successor : (o : Option ℕ) → option_map suc o ≡ None → o ≡ None
no_successor None e = refl
no_successor (Some n) e = absurd (cc)

all_from : (bs : List Bool) → first_failing bs ≡ None → all_hold bs ≡ true
unfolding first_failing
all_from [] e = refl
all_from (true ∷ bs) e = all_from bs (no_successor (first_failing bs) e)
all_from (false ∷ bs) e = absurd (cc)

none_from : (bs : List Bool) → all_hold bs ≡ true → first_failing bs ≡ None
unfolding first_failing
none_from [] e = refl
none_from (true ∷ bs) e = ap (option_map suc) (none_from bs e)
none_from (false ∷ bs) e = absurd (cc)

pub all_from_none : (p : Program) → first_failing (program_answers p) ≡ None → all_hold (program_answers p) ≡ true
all_from_none p h = all_from (program_answers p) h

pub none_from_all : (p : Program) → all_hold (program_answers p) ≡ true → first_failing (program_answers p) ≡ None
none_from_all p h = none_from (program_answers p) h

-- ---- one list after another

further : (n : ℕ) (o p : Option ℕ) → option_map suc (failing_after n o p) ≡ failing_after (suc n) (option_map suc o) p
further n (Some i) p = refl
further n None (Some i) = ap Some (omega arith)
further n None None = refl

pub by_parts : (bs cs : List Bool) → first_failing (bs ++ cs) ≡ failing_after (length bs) (first_failing bs) (first_failing cs)
unfolding first_failing
by_parts [] cs = sym (none_before (first_failing cs))
  where
    none_before : (o : Option ℕ) → failing_after 0 None o ≡ o
    none_before None = refl
    none_before (Some i) = ap Some (omega arith)
by_parts (true ∷ bs) cs = ap (option_map suc) (by_parts bs cs) ∙ further (length bs) (first_failing bs) (first_failing cs)
by_parts (false ∷ bs) cs = refl

-- a program that is accepted has its basis in front, and binds each region and effect variable once
fits_by : (b : Bool) (bs : List Bool) → all_hold (cond b bs (false ∷ [])) ≡ true → b ≡ true
fits_by true bs h = refl
fits_by false bs h = absurd (cc)

pub accepted_fits : (p : Program) → all_hold (program_answers p) ≡ true → program_fits p ≡ true
accepted_fits p h = fits_by (program_fits p) (item_answers (program_tables p) [] p.items) h
