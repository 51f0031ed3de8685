-- The later clauses of a function: each entry of the table derives a form of the grammar.
use Rattle.std.proofs.Common.{◌≡◌, ◌==◌, ◌-◌, ℕ, zero, suc, List, [], ◌∷◌, ◌++◌, Bool, true, false, cond, Option, Some, None, refl, sym, ◌∙◌, subst, arith, codes}
use Rattle.std.specs.Str.{bytes_eq}
use Rattle.std.proofs.lemmas.Slice.Eq.{bytes_eq-Decides}
use Rattle.std.proofs.lemmas.Bool.{eqb-true, eqb-false}
use Rattle.sml_syntax.specs.declared.token.Token.{Token}
use Rattle.grammar_rules.specs.InfixNames.{infix_level}
use Rattle.grammar_rules.specs.Grammar.{IsMark, IsInfixName, atpat, atpats}
use Rattle.sml_grammar.specs.declared.mark.Mark.TheVariants as m
use Rattle.sml_grammar.specs.declared.token_sort.TokenSort.{TokenSort}
use Rattle.sml_grammar.specs.declared.symbol.Sym.TheVariants as s
use Rattle.sml_grammar.specs.declared.symbol.PatPhrase.TheVariants as pp
use Rattle.sml_grammar.specs.declared.symbol.FunPhrase.TheVariants as fp
use Rattle.sml_grammar.specs.declared.symbol.LaterPhrase.{LaterPhrase}
use Rattle.sml_grammar.specs.declared.symbol.LaterPhrase.TheVariants as lp
use Rattle.sml_grammar.specs.Sorts.{is_mark, begins_pat, is_type_name, is_any_name, is_infix_name, level_of}
use Rattle.sml_grammar.specs.Tokens.{text_of, may_be_infix, has_level}
use Rattle.sml_grammar.specs.Tables.{at_later}
use Rattle.grammar_sound.proofs.Seen.{Seen, marked, type_name_of, any_name_of, infix_of}
use Rattle.grammar_sound.proofs.Sem.{Fulfils, reads, first_or, ExPat, ExPats, HeadOf, empty, EqualsS, equals_s, CountedPats, ClauseS, clause_s, LaterS, no_later, a_later, last, nil}
use Rattle.grammar_sound.proofs.Fine.{Fine, takes, skips, fails, by_cond, Begun, begun}
use Rattle.grammar_sound.proofs.Patterns.{pat_start, atpat_began, atpat_good, atpat_low}
use Rattle.grammar_sound.proofs.Functions.{plain_clause, infix_clause, counted, clauses-of, head-of, op-head, head-pat}

-- a name that may stand between two patterns has a level, and the function one pattern
may-infix : (name : List ℕ) (count : ℕ) → may_be_infix name count ≡ true → (count ≡ 1) × ((level : ℕ) × (infix_level name ≡ Some level))
unfolding may_be_infix
may-infix name count h = go (count == 1) (infix_level name) refl refl h
  where
    go : (b : Bool) (level : Option ℕ) → (count == 1) ≡ b → infix_level name ≡ level → cond b (has_level level) false ≡ true → (count ≡ 1) × ((level : ℕ) × (infix_level name ≡ Some level))
    go true (Some level) p q h = (eqb-true count 1 p, (level, q))
    go true None p q h = cc
    go false level p q h = cc

-- one pattern is all
one-pattern : (name : List ℕ) (count k : ℕ) (ts : List Token) (z : Option TokenSort) → count ≡ 1 → count ≡ suc k → ClauseS name 1 ts z → ClauseS name (suc k) ts z
one-pattern name count k ts z one e c = subst (λ n. ClauseS name n ts z) (sym one ∙ e) c

-- a clause that has its name before its patterns
plain-of : (name : List ℕ) (k : ℕ) (ts0 u : List Token) (z : Option TokenSort) {rest : List Token} → HeadOf name ts0 → ExPats (atpats (suc k)) u → EqualsS rest z → ClauseS name (suc k) (ts0 ++ (u ++ rest)) z
plain-of name k ts0 u z h x (equals_s o b ends) = clause_s o (plain_clause k ts0 u h x b) ends

pats-of : (count k : ℕ) (u : List Token) → count ≡ suc k → CountedPats count u → ExPats (atpats (suc k)) u
pats-of count k u e c = subst (λ n. CountedPats n u) e c

plain-takes : (name : List ℕ) (from count k : ℕ) (ts0 us : List Token) (z : Option TokenSort) → count ≡ suc k → HeadOf name ts0 → Fulfils (s.Later (lp.Patterns count) ∷ s.Fun (fp.Equals from count) ∷ []) us z → ClauseS name (suc k) (ts0 ++ us) z
plain-takes name from count k ts0 _ z e h (reads u rest x f) = plain-of name k ts0 u z h (pats-of count k u e x) (last f)

named-head : (name found : List ℕ) (ts : List Token) → bytes_eq name found ≡ true → HeadOf found ts → HeadOf name ts
named-head name found ts q h = subst (λ n. HeadOf n ts) (sym ((bytes_eq-Decides name found).0 q)) h

named-infix : (name : List ℕ) (level : ℕ) (w : Token) → bytes_eq name (text_of w.form) ≡ true → IsInfixName level (text_of w.form) w → IsInfixName level name w
named-infix name level w q h = subst (λ n. IsInfixName level n w) (sym ((bytes_eq-Decides name (text_of w.form)).0 q)) h

-- a clause that has its name between two patterns
infix-of : (name : List ℕ) (level : ℕ) (w : Token) (ts0 u : List Token) (z : Option TokenSort) {rest : List Token} → IsInfixName level name w → ExPat atpat ts0 → ExPat atpat u → EqualsS rest z → ClauseS name 1 (ts0 ++ w ∷ (u ++ rest)) z
infix-of name level w ts0 u z n x y (equals_s o b ends) = clause_s o (infix_clause w level ts0 u x n y b) ends

infix-takes : (name : List ℕ) (level from count : ℕ) (w : Token) (ts0 us : List Token) (z : Option TokenSort) → IsInfixName level name w → ExPat atpat ts0 → Fulfils (s.Pat pp.Atomic ∷ s.Fun (fp.Equals from count) ∷ []) us z → ClauseS name 1 (ts0 ++ w ∷ us) z
infix-takes name level from count w ts0 _ z n x (reads u rest y f) = infix-of name level w ts0 u z n x y (last f)

-- one pattern behind the name
single : (name : List ℕ) (from count : ℕ) (w : Token) (ts0 : List Token) (z : Option TokenSort) {us : List Token} → HeadOf name ts0 → Begun (ExPat atpat) (s.Fun (fp.Equals from count) ∷ []) w z us → ClauseS name 1 (ts0 ++ w ∷ us) z
single name from count w ts0 z h (begun us rest d f) = subst (λ ts. ClauseS name 1 (ts0 ++ (ts ++ rest)) z) (sym (nil (w ∷ us))) (plain-of name 0 ts0 ((w ∷ us) ++ []) z h (counted 0 (w ∷ us) [] d empty) (last f))

infix-begun : (name : List ℕ) (from level : ℕ) (w : Token) (z : Option TokenSort) {us : List Token} → infix_level name ≡ Some level → Begun (ExPat atpat) (s.Later (lp.Infix from name) ∷ []) w z us → ClauseS name 1 (w ∷ us) z
infix-begun name from level w z h (begun us rest d f) = last {x = s.Later (lp.Infix from name)} f level (w ∷ us) h d

-- the clauses behind a bar
later-of : (name : List ℕ) (k : ℕ) (w : Token) (u : List Token) (z : Option TokenSort) {rest : List Token} → IsMark (codes "|") w → ClauseS name (suc k) u (first_or rest z) → LaterS name (suc k) z rest → LaterS name (suc k) z (w ∷ u ++ rest)
later-of name k w u z {rest} i (clause_s o d ends) l = a_later w (u ++ rest) i (clauses-of o u z d ends l)

later-takes : (name : List ℕ) (count k : ℕ) (w : Token) (us : List Token) (z : Option TokenSort) → count ≡ suc k → IsMark (codes "|") w → Fulfils (s.Later (lp.Clause name count) ∷ s.Later (lp.Rest name count) ∷ []) us z → LaterS name (suc k) z (w ∷ us)
later-takes name count k w _ z e i (reads u rest c f) = later-of name k w u z i (c k e) (last f k e)

-- so many patterns
counted-begun : (count j : ℕ) (w : Token) (z : Option TokenSort) {us : List Token} → count ≡ j → Begun (ExPat atpat) (s.Later (lp.Patterns count) ∷ []) w z us → CountedPats (suc j) (w ∷ us)
counted-begun count j w z q (begun us rest d f) = counted j (w ∷ us) rest d (subst (λ n. CountedPats n rest) q (last f))

patterns-takes : (count : ℕ) (w : Token) (z : Option TokenSort) {us : List Token} → (count ≡ 0 → ⊥) → Begun (ExPat atpat) (s.Later (lp.Patterns (count - 1)) ∷ []) w z us → CountedPats count (w ∷ us)
patterns-takes zero w z n b = absurd (n refl)
patterns-takes (suc j) w z n b = counted-begun (suc j - 1) j w z (less j) b
  where
    less : (j : ℕ) → suc j - 1 ≡ j
    less j = omega arith

pub no-patterns : (count : ℕ) → count ≡ 0 → CountedPats count []
no-patterns count h = subst (λ n. CountedPats n []) (sym h) empty

pub fine_later : (phrase : LaterPhrase) (w : Token) (sort : TokenSort) → Seen w.form sort → Fine (s.Later phrase) w sort (at_later phrase sort w)
fine_later (lp.Rest name count) w sort e = by_cond (is_mark m.Bar sort) (λ h. takes (λ us z f. λ k c. later-takes name count k w us z c (marked m.Bar w sort e h) f) (λ st (q, g). (q, (q, g))) (λ n l. refl)) (λ h. skips (λ k c. no_later h))
fine_later (lp.Clause name count) w sort e = by_cond (is_mark m.Op sort) (λ h. takes (λ us z f. λ k c. last {x = s.Later (lp.Op w.span.from name count)} f k w c (marked m.Op w sort e h)) (λ st (q, g). (q, g)) (λ n l. refl))
    (λ _. by_cond (is_type_name sort)
    (λ h. by_cond (may_be_infix name count)
    (λ i. takes (λ us z f. λ k c. one-pattern name count k (w ∷ us) z (may-infix name count i).0 c (last {x = s.Later (lp.Head w.span.from w.span.from (text_of w.form) name)} f (may-infix name count i).1.0 (w ∷ []) (may-infix name count i).1.1 (head-of w (type_name_of w sort e h)))) (λ st (q, g). (q, g)) (λ n l. refl))
    (λ i. by_cond (bytes_eq name (text_of w.form)) (λ b. takes (λ us z f. λ k c. plain-takes name w.span.from count k (w ∷ []) us z c (named-head name (text_of w.form) (w ∷ []) b (head-of w (type_name_of w sort e h))) f) (λ st (q, g). (q, g)) (λ n l. refl)) (λ b. fails)))
    (λ _. by_cond (begins_pat sort)
    (λ h. by_cond (may_be_infix name count)
    (λ i. takes (λ us z f. λ k c. one-pattern name count k (w ∷ us) z (may-infix name count i).0 c (infix-begun name w.span.from (may-infix name count i).1.0 w z (may-infix name count i).1.1 (atpat_began w sort (s.Later (lp.Infix w.span.from name) ∷ []) z us (pat_start w sort e h) f)))
    (λ st (q, g). atpat_good w sort (s.Later (lp.Infix w.span.from name) ∷ []) st (pat_start w sort e h) (q, g))
    (λ n l. atpat_low w sort (suc n) (s.Later (lp.Infix w.span.from name) ∷ []) (pat_start w sort e h) refl))
    (λ i. fails))
    (λ h. fails)))
fine_later (lp.Op from name count) w sort e = by_cond (is_any_name sort)
    (λ h. by_cond (may_be_infix name count)
    (λ i. takes (λ us z f. λ k op c j. one-pattern name count k (op ∷ w ∷ us) z (may-infix name count i).0 c (last {x = s.Later (lp.Head from w.span.from (text_of w.form) name)} f (may-infix name count i).1.0 (op ∷ w ∷ []) (may-infix name count i).1.1 (op-head op w j (any_name_of w sort e h)))) (λ st (q, g). (q, g)) (λ n l. refl))
    (λ i. by_cond (bytes_eq name (text_of w.form)) (λ b. takes (λ us z f. λ k op c j. plain-takes name from count k (op ∷ w ∷ []) us z c (named-head name (text_of w.form) (op ∷ w ∷ []) b (op-head op w j (any_name_of w sort e h))) f) (λ st (q, g). (q, g)) (λ n l. refl)) (λ b. fails)))
    (λ h. fails)
fine_later (lp.Head from name_at found name) w sort e = by_cond (is_infix_name sort)
    (λ h. by_cond (bytes_eq name (text_of w.form)) (λ b. takes (λ us z f. λ level ts0 l d. infix-takes name (level_of sort) from 1 w ts0 us z (named-infix name (level_of sort) w b (infix_of w sort e h)) (head-pat found ts0 d) f) (λ st (q, g). (q, g)) (λ n l. refl)) (λ b. fails))
    (λ _. by_cond (begins_pat sort)
    (λ h. by_cond (bytes_eq found name)
    (λ b. takes (λ us z f. λ level ts0 l d. single name from 1 w ts0 z (subst (λ n. HeadOf n ts0) ((bytes_eq-Decides found name).0 b) d) (atpat_began w sort (s.Do _ ∷ s.Fun (fp.Equals from 1) ∷ []) z us (pat_start w sort e h) f))
    (λ st (q, g). atpat_good w sort (s.Do _ ∷ s.Fun (fp.Equals from 1) ∷ []) st (pat_start w sort e h) (q, g))
    (λ n l. atpat_low w sort (suc n) (s.Do _ ∷ s.Fun (fp.Equals from 1) ∷ []) (pat_start w sort e h) refl))
    (λ b. fails))
    (λ h. fails))
fine_later (lp.Infix from name) w sort e = by_cond (is_infix_name sort)
    (λ h. by_cond (bytes_eq name (text_of w.form)) (λ b. takes (λ us z f. λ level ts0 l d. infix-takes name (level_of sort) from 1 w ts0 us z (named-infix name (level_of sort) w b (infix_of w sort e h)) d f) (λ st (q, g). (q, g)) (λ n l. refl)) (λ b. fails))
    (λ h. fails)
fine_later (lp.Patterns count) w sort e = by_cond (count == 0) (λ h. skips (no-patterns count (eqb-true count 0 h)))
    (λ h. by_cond (begins_pat sort)
    (λ k. takes (λ us z f. patterns-takes count w z (eqb-false count 0 h) (atpat_began w sort (s.Do _ ∷ s.Later (lp.Patterns (count - 1)) ∷ []) z us (pat_start w sort e k) f))
    (λ st g. atpat_good w sort (s.Do _ ∷ s.Later (lp.Patterns (count - 1)) ∷ []) st (pat_start w sort e k) g)
    (λ n l. atpat_low w sort (suc n) (s.Do _ ∷ s.Later (lp.Patterns (count - 1)) ∷ []) (pat_start w sort e k) refl))
    (λ h. fails))
