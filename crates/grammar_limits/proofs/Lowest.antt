-- The lowest of lacks, and acts that have some.
use Rattle.std.proofs.Common.{◌≡◌, ℕ, ◌<◌, ◌≤◌, nat_lt, cond, List, [], ◌∷◌, ◌++◌, Bool, true, false, Option, Some, None, refl, ap, ap₂, sym, ◌∙◌, append_assoc, subst, arith, ltb-true, ltb-false}
use Rattle.sml_syntax.specs.declared.token.Lack.{Lack}
use Rattle.sml_syntax.specs.NestedTypes.{Found}
use Rattle.grammar_rules.specs.Programs.{IsFirstLack}
use Rattle.sml_grammar.specs.declared.act.Made.{Made}
use Rattle.sml_grammar.specs.declared.act.Act.{Act}
use Rattle.sml_grammar.specs.declared.act.Act.TheVariants as a
use Rattle.sml_grammar.specs.declared.act.DecAct.TheVariants as b
use Rattle.sml_grammar.specs.Machine.{made}
use Rattle.parse_limits.specs.Lacks.{Own, lower, lack_of, own_after, own_types, lack_from, begins_datatypes, ends_datatypes}
use Rattle.grammar_limits.specs.Finds.{lowest, FindsIn, Finds}

pub lowest-both : (found : Option Found) (ls ms : List Found) → lowest found (ls ++ ms) ≡ lowest (lowest found ls) ms
lowest-both found [] ms = refl
lowest-both found (l ∷ ls) ms = lowest-both (lower found (Some l)) ls ms

pub lower-none : (found : Option Found) → lower found None ≡ found
lower-none None = refl
lower-none (Some l) = refl

-- nothing more
pub f-end : {own : Own} → FindsIn own [] []
f-end {own} = record { finds = λ found before more. ap (λ z. lack_from found own z more) (sym (append_nil before)) }
  where
    append_nil : (ms : List Made) → ms ++ [] ≡ ms
    append_nil [] = refl
    append_nil (m ∷ ms) = ap (λ z. m ∷ z) (append_nil ms)

-- acts, and then others
pub f-then : {own : Own} {n m : List Made} {ls ms : List Found} → FindsIn own n ls → FindsIn own m ms → FindsIn own (n ++ m) (ls ++ ms)
f-then {own} {n} {m} {ls} {ms} p q = record {
  finds = λ found before more.
      ap (λ z. lack_from found own before z) (append_assoc n m more)
      ∙ p.finds found before (m ++ more)
      ∙ q.finds (lowest found ls) (before ++ n) more
      ∙ ap₂ (λ y z. lack_from y own z more) (sym (lowest-both found ls ms)) (append_assoc before n m);
}

append_nil : {A : Type 0} (ms : List A) → ms ++ [] ≡ ms
append_nil [] = refl
append_nil (m ∷ ms) = ap (λ z. m ∷ z) (append_nil ms)

-- acts, and then others without lacks
pub f-last : {own : Own} {n m : List Made} {ls : List Found} → FindsIn own n ls → FindsIn own m [] → FindsIn own (n ++ m) ls
f-last {own} {n} {m} {ls} p q = subst (λ z. FindsIn own (n ++ m) z) (append_nil ls) (f-then p q)

-- the same lacks
pub f-same : {own : Own} {n : List Made} {ls ms : List Found} → ls ≡ ms → FindsIn own n ls → FindsIn own n ms
f-same {own} {n} e p = subst (λ z. FindsIn own n z) e p

-- an act without a lack
pub f-act : {own : Own} {f : Act} {to : ℕ} {n : List Made} {ls : List Found} → ((before : List Made) → lack_of own before f ≡ None) → ((more : List Made) → own_after own f more ≡ own) → FindsIn own n ls → FindsIn own (made f to ∷ n) ls
unfolding lack_from
f-act {own} {f} {to} {n} {ls} e h p = record {
  finds = λ found before more.
      ap₂ (λ y z. lack_from y z (before ++ made f to ∷ []) (n ++ more)) (ap (λ z. lower found z) (e before) ∙ lower-none found) (h (n ++ more))
      ∙ p.finds found (before ++ made f to ∷ []) more
      ∙ ap (λ z. lack_from (lowest found ls) own z more) (append_assoc before (made f to ∷ []) n);
}

-- a lack
pub f-lack : {own : Own} {place to : ℕ} {lack : Lack} {n : List Made} {ls : List Found} → FindsIn own n ls → FindsIn own (made (a.Lack place lack) to ∷ n) ((place, lack) ∷ ls)
unfolding lack_from lack_of begins_datatypes ends_datatypes
f-lack {own} {place} {to} {lack} {n} {ls} p = record {
  finds = λ found before more.
      p.finds (lower found (Some (place, lack))) (before ++ made (a.Lack place lack) to ∷ []) more
      ∙ ap (λ z. lack_from (lowest (lower found (Some (place, lack))) ls) own z more) (append_assoc before (made (a.Lack place lack) to ∷ []) n);
}

-- a declaration of datatypes, whose types are these
pub f-datatype : {own : Own} {n : List Made} {ls : List Found} (from to end_ : ℕ) → ((more : List Made) → own_types [] (n ++ made (a.Dec (b.DataDef from)) end_ ∷ more) ≡ own) → FindsIn own n ls →
    Finds (made (a.Dec b.NoDatas) to ∷ (n ++ (made (a.Dec (b.DataDef from)) end_ ∷ []))) ls
unfolding lack_from lack_of begins_datatypes ends_datatypes
f-datatype {own} {n} {ls} from to end_ h p = record {
  finds = λ found before more.
      let last : Made = made (a.Dec (b.DataDef from)) end_ in
      let first : Made = made (a.Dec b.NoDatas) to in
      ap₂ (λ y z. lack_from y (own_types [] z) (before ++ first ∷ []) z) (lower-none found) (append_assoc n (last ∷ []) more)
      ∙ ap (λ y. lack_from found y (before ++ first ∷ []) (n ++ last ∷ more)) (h more)
      ∙ p.finds found (before ++ first ∷ []) (last ∷ more)
      ∙ ap₂ (λ y z. lack_from y [] z more) (lower-none (lowest found ls))
      (append_assoc (before ++ first ∷ []) n (last ∷ []) ∙ append_assoc before (first ∷ []) (n ++ last ∷ []));
}

head-or : Found → List Found → Found
head-or l [] = l
head-or l (m ∷ ms) = m

rest-of : List Found → List Found
rest-of [] = []
rest-of (m ∷ ms) = ms

same-head : {x y : Found} {xs ys : List Found} → x ∷ xs ≡ y ∷ ys → x ≡ y
unfolding head-or
same-head {x = x} e = ap (head-or x) e

same-rest : {x y : Found} {xs ys : List Found} → x ∷ xs ≡ y ∷ ys → xs ≡ ys
unfolding rest-of
same-rest e = ap rest-of e

-- one that isn't lower than the first, behind it
kept-first : (l m : Found) (ms : List Found) (found : Found) → l.0 ≤ m.0 → IsFirstLack (l ∷ ms) found → IsFirstLack (l ∷ m ∷ ms) found
kept-first l m ms found u ([], after, s, b) = ([], m ∷ after, ap₂ (λ y z. y ∷ m ∷ z) (same-head s) (same-rest s), (b.0, (up found b.0 u, b.1)))
  where
    up : (x : Found) → x.0 ≤ l.0 → l.0 ≤ m.0 → x.0 ≤ m.0
    up x v w = omega (arith, v, w)
kept-first l m ms found u (x ∷ before, after, s, b) = (x ∷ m ∷ before, after, ap₂ (λ y z. y ∷ m ∷ z) (same-head s) (same-rest s), (b.0, (up found b.0 u, b.1)))
  where
    up : (x : Found) → x.0 ≤ l.0 → l.0 ≤ m.0 → x.0 ≤ m.0
    up x v w = omega (arith, v, w)

-- a lower one behind the first
passed-by : (l m : Found) (ms : List Found) (found : Found) → m.0 < l.0 → IsFirstLack (m ∷ ms) found → IsFirstLack (l ∷ m ∷ ms) found
passed-by l m ms found u (before, after, s, b) = (l ∷ before, after, ap (λ z. l ∷ z) s, (down found b.0 u, b))
  where
    down : (x : Found) → x.0 ≤ m.0 → m.0 < l.0 → x.0 ≤ l.0
    down x v w = omega (arith, v, w)

-- what is found is one of them, and none is lower
abbrev pub LowestIs : Option Found → List Found → Type 0
LowestIs result lacks = (found : Found) × (result ≡ Some found) × IsFirstLack lacks found

lowest-by : (l m : Found) (ms : List Found) (w : Bool) → nat_lt m.0 l.0 ≡ w → LowestIs (lowest (Some m) ms) (m ∷ ms) → LowestIs (lowest (Some l) ms) (l ∷ ms) → LowestIs (lowest (Some (cond w m l)) ms) (l ∷ m ∷ ms)
lowest-by l m ms true h p q = (p.0, p.1, passed-by l m ms p.0 (ltb-true m.0 l.0 h) p.2)
lowest-by l m ms false h p q = (q.0, q.1, kept-first l m ms q.0 (ltb-false m.0 l.0 h) q.2)

pub lowest-found : (l : Found) (ls : List Found) → LowestIs (lowest (Some l) ls) (l ∷ ls)
lowest-found l [] = (l, refl, ([], [], refl, (low l.0, tt)))
  where
    low : (n : ℕ) → n ≤ n
    low n = omega arith
lowest-found l (m ∷ ms) = lowest-by l m ms (nat_lt m.0 l.0) refl (lowest-found m ms) (lowest-found l ms)
