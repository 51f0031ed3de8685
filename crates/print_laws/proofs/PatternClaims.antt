-- What is printed of a pattern is a pattern of its level again.
use Rattle.std.proofs.Common.{◌≡◌, ℕ, ℤ, ◌≤◌, List, [], ◌∷◌, ◌++◌, refl, sym, subst, map, arith}
use Rattle.std.specs.Prelude.{codes, cond, nat_lt, Bool, true, false}
use Rattle.std.proofs.lemmas.Slice.Eq.{bytes_eq-Decides}
use Rattle.std.proofs.lemmas.Bool.{ltb-false}
use Rattle.sml_syntax.specs.declared.token.Token.{Token}
use Rattle.sml_syntax.specs.declared.token.TokenForm.TheVariants as f
use Rattle.sml_syntax.specs.declared.tree.Span.{Span}
use Rattle.sml_syntax.specs.declared.tree.Ty.{Ty}
use Rattle.sml_syntax.specs.declared.tree.Pat.{Pat}
use Rattle.sml_syntax.specs.declared.tree.PatForm.TheVariants as p
use Rattle.grammar_rules.specs.Programs.{Each}
use Rattle.grammar_rules.specs.Nodes.{pat_at, cons_pat, span_of, extent, last_of}
use Rattle.grammar_rules.specs.Grammar.{Is, pat_tree, pats_tree, ty_tree, ty, atpat, apat, cpat, pat, pats, atpats, atpat_any, atpat_int, atpat_char, atpat_str, atpat_name, atpat_unit, atpat_paren, atpat_tuple, atpat_no_list, atpat_list, pats_one, pats_more, apat_one, apat_con, cpat_one, cpat_cons, pat_one, pat_typed}
use Rattle.print_laws.specs.SameTree.{Same, same_any, same_pat_int, same_pat_char, same_pat_str, same_pat_unit, same_pat_name, same_pat_tuple, same_pat_list, same_pat_con, same_pat_typed, no_pats, more_pats}
use Rattle.print_laws.specs.Printing.{Part, PatInk, closed, in_parens, put, head_forms, ty_forms, is_cons, applied_pat, con_pat, pats_forms, pat_ink, pat_part, pat_forms, put_pat}
use Rattle.print_laws.proofs.Lists.{parted_map}
use Rattle.print_laws.proofs.Bearing.{At, one, both, bin, wrap}
use Rattle.print_laws.proofs.Made.{pat-Any, pat-Int, pat-Char, pat-Str, pat-Unit, pat-Name, pat-Tuple, pat-List, pat-Con, pat-Typed}
use Rattle.print_laws.proofs.Claims.{Of, Many, Several, TyClaim, PatRanked, PatLevelOf, PatAtLeast, PatPartAt, PatMembersOf, PatInkClaim, PatClaim, IsHead, head_at, mark, two, parted_at, each_map}
use Rattle.print_laws.proofs.TypeClaims.{whole_ty_at}

-- from the phrase of each level
pub by_pat : {ts : List Token} {x : Pat} → Is pat ts (pat_tree x) [] → PatRanked 0 ts x
by_pat d = record {
  anywhere = d;
  between = λ h. absurd (omega (arith, h));
  applied = λ h. absurd (omega (arith, h));
  alone = λ h. absurd (omega (arith, h));
}

pub by_cpat : {ts : List Token} {x : Pat} → Is cpat ts (pat_tree x) [] → PatRanked 1 ts x
by_cpat d = record {
  anywhere = pat_one d;
  between = λ h. d;
  applied = λ h. absurd (omega (arith, h));
  alone = λ h. absurd (omega (arith, h));
}

pub by_apat : {ts : List Token} {x : Pat} → Is apat ts (pat_tree x) [] → PatRanked 2 ts x
by_apat d = record {
  anywhere = pat_one (cpat_one d);
  between = λ h. cpat_one d;
  applied = λ h. d;
  alone = λ h. absurd (omega (arith, h));
}

pub by_atpat : {ts : List Token} {x : Pat} → Is atpat ts (pat_tree x) [] → PatRanked 3 ts x
by_atpat d = record {
  anywhere = pat_one (cpat_one (apat_one d));
  between = λ h. cpat_one (apat_one d);
  applied = λ h. apat_one d;
  alone = λ h. d;
}

made : (x : Pat) (i : PatInk) → pat_ink x ≡ i → PatPartAt i.part x → PatMembersOf i.members x → PatClaim x
made x i h a m = subst (λ j. PatInkClaim j x) (sym h) (a, m)

-- where any pattern stands
pub whole_pat_at : (x : Pat) → PatClaim x → At (Of pat_tree pat x) (pat_forms x)
whole_pat_at x a = λ ts k. let q = a.0 ts k in (q.0, q.1.anywhere, q.2)

-- in parentheses
paren_at : (x : Pat) (p : Part) → PatPartAt p x → At (Of pat_tree atpat x) (in_parens p.forms)
paren_at x p a = wrap (PatLevelOf p.level x) (Of pat_tree atpat x) (f.Mark (codes "(")) p.forms (f.Mark (codes ")")) (λ o ts c h g q. (q.0, atpat_paren o c (mark h) q.1.anywhere (mark g), q.2)) a

-- where a pattern of that level stands
put_at : (level : ℕ) (x : Pat) (p : Part) → level ≤ 3 → PatPartAt p x → At (PatAtLeast level x) (put level p)
unfolding put
put_at level x p l a = go (nat_lt p.level level) refl
  where
    go : (b : Bool) → nat_lt p.level level ≡ b → At (PatAtLeast level x) (cond b (in_parens p.forms) p.forms)
    go true h = λ ts k. let q = paren_at x p a ts k in (q.0, 3, l, by_atpat q.1, q.2)
    go false h = λ ts k. let q = a ts k in (q.0, p.level, ltb-false p.level level h, q.1, q.2)

-- where an atomic one stands
pub alone_at : (x : Pat) → PatClaim x → At (Of pat_tree atpat x) (put_pat 3 x)
alone_at x a = λ ts k. let q = put_at 3 x (pat_part x) (omega arith) a.0 ts k in (q.0, q.3.alone q.2, q.4)

pub any_claim : (s : Span) → PatClaim (pat_at s p.Any)
any_claim s = made (pat_at s p.Any) _ (pat-Any s) (one (PatLevelOf 3 (pat_at s p.Any)) (f.Mark (codes "_")) (λ w h. (pat_at w.span p.Any, by_atpat (atpat_any w (mark h)), same_any s w.span))) tt

pub pat_int_claim : (s : Span) (n : ℤ) → PatClaim (pat_at s (p.Int n))
pat_int_claim s n = made (pat_at s (p.Int n)) _ (pat-Int s n) (one (PatLevelOf 3 (pat_at s (p.Int n))) (f.Int n) (λ w h. (pat_at w.span (p.Int n), by_atpat (atpat_int w n h), same_pat_int s w.span n))) tt

pub pat_char_claim : (s : Span) (n : ℕ) → PatClaim (pat_at s (p.Char n))
pat_char_claim s n = made (pat_at s (p.Char n)) _ (pat-Char s n) (one (PatLevelOf 3 (pat_at s (p.Char n))) (f.Char n) (λ w h. (pat_at w.span (p.Char n), by_atpat (atpat_char w n h), same_pat_char s w.span n))) tt

pub pat_str_claim : (s : Span) (n : List ℕ) → PatClaim (pat_at s (p.Str n))
pat_str_claim s n = made (pat_at s (p.Str n)) _ (pat-Str s n) (one (PatLevelOf 3 (pat_at s (p.Str n))) (f.Str n) (λ w h. (pat_at w.span (p.Str n), by_atpat (atpat_str w n h), same_pat_str s w.span n))) tt

pub pat_unit_claim : (s : Span) → PatClaim (pat_at s p.Unit)
pat_unit_claim s = made (pat_at s p.Unit) _ (pat-Unit s) (two (PatLevelOf 3 (pat_at s p.Unit)) (f.Mark (codes "(")) (f.Mark (codes ")")) (λ v w h g. (pat_at (span_of v.span.from w.span.to) p.Unit, by_atpat (atpat_unit v w (mark h) (mark g)), same_pat_unit s (span_of v.span.from w.span.to)))) tt

pub pat_name_claim : (s : Span) (n : List ℕ) → PatClaim (pat_at s (p.Name n))
pat_name_claim s n = made (pat_at s (p.Name n)) _ (pat-Name s n) (λ ts b. let q = head_at n ts b in (pat_at (span_of q.0 (last_of ts)) (p.Name n), by_atpat (atpat_name q.1), same_pat_name s (span_of q.0 (last_of ts)) n)) tt

-- patterns with commas between
pub pats_at : (x : Pat) (xs : List Pat) → Each PatClaim (x ∷ xs) → At (Many pats_tree pats (x ∷ xs)) (pats_forms (map pat_ink (x ∷ xs)))
pats_at x xs h = subst (At (Many pats_tree pats (x ∷ xs))) (sym (parted_map (codes ",") (λ (i : PatInk). i.part.forms) pat_ink (x ∷ xs)))
    (parted_at pat_forms (codes ",") (Of pat_tree pat) (Many pats_tree pats)
    (λ y ts q. (q.0, [], pats_one q.1, more_pats q.2 no_pats))
    (λ y z zs ts w us e q r. (q.0, r.0 ∷ r.1, pats_more w q.1 (mark e) r.2, more_pats q.2 r.3))
    x xs (each_map PatClaim (λ y. At (Of pat_tree pat y) (pat_forms y)) whole_pat_at (x ∷ xs) h))

two_pats_at : (x y : Pat) (ys : List Pat) → Each PatClaim (x ∷ y ∷ ys) → At (Several pats_tree pats (x ∷ y ∷ ys)) (pats_forms (map pat_ink (x ∷ y ∷ ys)))
two_pats_at x y ys h = bin (Of pat_tree pat x) (Many pats_tree pats (y ∷ ys)) (Several pats_tree pats (x ∷ y ∷ ys)) (pat_forms x) (f.Mark (codes ",")) (pats_forms (map pat_ink (y ∷ ys)))
    (λ ts w us e q r. (q.0, r.0, r.1, pats_more w q.1 (mark e) r.2, more_pats q.2 r.3)) (whole_pat_at x h.0) (pats_at y ys h.1)

members_of : (s : Span) (x y : Pat) (ys : List Pat) → PatClaim x → PatClaim y → PatMembersOf (map (λ (i : PatInk). i.part) (map pat_ink (x ∷ y ∷ ys))) (pat_at s (p.Tuple (x ∷ y ∷ ys)))
members_of s x y [] a b = (x, y, a.0, b.0, λ r u v h g. same_pat_tuple s r (more_pats h (more_pats g no_pats)))
members_of s x y (z ∷ zs) a b = tt

pub pat_tuple_claim : (s : Span) (x y : Pat) (ys : List Pat) → Each PatClaim (x ∷ y ∷ ys) → PatClaim (pat_at s (p.Tuple (x ∷ y ∷ ys)))
pat_tuple_claim s x y ys h = made (pat_at s (p.Tuple (x ∷ y ∷ ys))) _ (pat-Tuple s (x ∷ y ∷ ys))
    (wrap (Several pats_tree pats (x ∷ y ∷ ys)) (PatLevelOf 3 (pat_at s (p.Tuple (x ∷ y ∷ ys)))) (f.Mark (codes "(")) (pats_forms (map pat_ink (x ∷ y ∷ ys))) (f.Mark (codes ")"))
    (λ o ts c e g q. (pat_at (span_of o.span.from c.span.to) (p.Tuple (q.0 ∷ q.1 ∷ q.2)), by_atpat (atpat_tuple o c (mark e) q.3 (mark g)), same_pat_tuple s (span_of o.span.from c.span.to) q.4))
    (two_pats_at x y ys h))
    (members_of s x y ys h.0 h.1.0)

pub pat_no_list_claim : (s : Span) → PatClaim (pat_at s (p.List []))
pat_no_list_claim s = made (pat_at s (p.List [])) _ (pat-List s []) (two (PatLevelOf 3 (pat_at s (p.List []))) (f.Mark (codes "[")) (f.Mark (codes "]")) (λ v w h g. (pat_at (span_of v.span.from w.span.to) (p.List []), by_atpat (atpat_no_list v w (mark h) (mark g)), same_pat_list s (span_of v.span.from w.span.to) no_pats))) tt

pub pat_list_claim : (s : Span) (x : Pat) (xs : List Pat) → Each PatClaim (x ∷ xs) → PatClaim (pat_at s (p.List (x ∷ xs)))
pat_list_claim s x xs h = made (pat_at s (p.List (x ∷ xs))) _ (pat-List s (x ∷ xs))
    (wrap (Many pats_tree pats (x ∷ xs)) (PatLevelOf 3 (pat_at s (p.List (x ∷ xs)))) (f.Mark (codes "[")) (pats_forms (map pat_ink (x ∷ xs))) (f.Mark (codes "]"))
    (λ o ts c e g q. (pat_at (span_of o.span.from c.span.to) (p.List (q.0 ∷ q.1)), by_atpat (atpat_list o c (mark e) q.2 (mark g)), same_pat_list s (span_of o.span.from c.span.to) q.3))
    (pats_at x xs h))
    tt

-- a constructor on its argument
applied_at : (s : Span) (n : List ℕ) (x : Pat) → PatPartAt (pat_part x) x → PatPartAt (applied_pat n (pat_part x)) (pat_at s (p.Con n x))
applied_at s n x a = both (IsHead n) (PatAtLeast 3 x) (PatLevelOf 2 (pat_at s (p.Con n x))) (head_forms n) (put 3 (pat_part x))
    (λ ts us q r. (pat_at (span_of q.0 (last_of us)) (p.Con n r.0), by_apat (apat_con q.1 (r.3.alone r.2)), same_pat_con s (span_of q.0 (last_of us)) n r.4))
    (head_at n) (put_at 3 x (pat_part x) (omega arith) a)

cons_at : (s : Span) (x : Pat) (l r : Part) → PatMembersOf (l ∷ r ∷ []) x → PatPartAt (closed 1 (put 2 l ++ f.Name (codes "::") ∷ put 1 r)) (pat_at s (p.Con (codes "::") x))
cons_at s x l r m = bin (PatAtLeast 2 m.0) (PatAtLeast 1 m.1) (PatLevelOf 1 (pat_at s (p.Con (codes "::") x))) (put 2 l) (f.Name (codes "::")) (put 1 r)
    (λ ts w us e q t. (
      cons_pat (extent (ts ++ w ∷ us)) q.0 t.0,
      by_cpat (cpat_cons w (q.3.applied q.2) (record { is = e }) (t.3.between t.2)),
      same_pat_con s (extent (ts ++ w ∷ us)) (codes "::") (m.4 (extent (ts ++ w ∷ us)) q.0 t.0 q.4 t.4),
    ))
    (put_at 2 m.0 l (omega arith) m.2) (put_at 1 m.1 r (omega arith) m.3)

con_at : (s : Span) (n : List ℕ) (x : Pat) (ps : List Part) → PatPartAt (pat_part x) x → PatMembersOf ps x → PatPartAt (con_pat n ps (pat_part x)) (pat_at s (p.Con n x))
con_at s n x [] a m = applied_at s n x a
con_at s n x (l ∷ []) a m = applied_at s n x a
con_at s n x (l ∷ r ∷ []) a m = go (is_cons n) refl
  where
    go : (b : Bool) → is_cons n ≡ b → PatPartAt (cond b (closed 1 (put 2 l ++ f.Name (codes "::") ∷ put 1 r)) (applied_pat n (pat_part x))) (pat_at s (p.Con n x))
    go true h = subst (λ w. PatPartAt (closed 1 (put 2 l ++ f.Name (codes "::") ∷ put 1 r)) (pat_at s (p.Con w x))) (sym ((bytes_eq-Decides n (codes "::")).0 h)) (cons_at s x l r m)
    go false h = applied_at s n x a
con_at s n x (l ∷ r ∷ q ∷ qs) a m = applied_at s n x a

pub pat_con_claim : (s : Span) (n : List ℕ) (x : Pat) → PatClaim x → PatClaim (pat_at s (p.Con n x))
pat_con_claim s n x a = made (pat_at s (p.Con n x)) _ (pat-Con s n x) (con_at s n x (pat_ink x).members a.0 a.1) tt

pub pat_typed_claim : (s : Span) (x : Pat) (t : Ty) → PatClaim x → TyClaim false t → PatClaim (pat_at s (p.Typed x t))
pat_typed_claim s x t a b = made (pat_at s (p.Typed x t)) _ (pat-Typed s x t)
    (bin (PatAtLeast 1 x) (Of ty_tree (ty false) t) (PatLevelOf 0 (pat_at s (p.Typed x t))) (put 1 (pat_part x)) (f.Mark (codes ":")) (ty_forms t)
    (λ ts w us e q r. (pat_at (extent (ts ++ w ∷ us)) (p.Typed q.0 r.0), by_pat (pat_typed w (q.3.between q.2) (mark e) r.1), same_pat_typed s (extent (ts ++ w ∷ us)) q.4 r.2))
    (put_at 1 x (pat_part x) (omega arith) a.0) (whole_ty_at false t b))
    tt

-- the patterns of a clause
abbrev pub Row : ℕ → List Pat → List Token → Type 0
Row count xs ts = (ys : List Pat) × Is (atpats count) ts (pats_tree ys) [] × Same (pats_tree xs) (pats_tree ys)
