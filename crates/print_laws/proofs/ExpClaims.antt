-- What is printed of an expression is an expression of its level again.
use Rattle.std.proofs.Common.{◌≡◌, ℕ, ℤ, zero, suc, ◌+◌, ◌-◌, ◌<◌, ◌≤◌, List, [], ◌∷◌, ◌++◌, Option, Some, None, refl, sym, subst, map, arith}
use Rattle.std.specs.Prelude.{codes, cond, nat_lt, Bool, true, false}
use Rattle.std.specs.Str.{bytes_eq}
use Rattle.std.proofs.lemmas.Slice.Eq.{bytes_eq-Decides}
use Rattle.std.proofs.lemmas.Bool.{ltb-false}
use Rattle.sml_syntax.specs.declared.token.Token.{Token}
use Rattle.sml_syntax.specs.declared.token.TokenForm.{TokenForm}
use Rattle.sml_syntax.specs.declared.token.TokenForm.TheVariants as f
use Rattle.sml_syntax.specs.declared.tree.Span.{Span}
use Rattle.sml_syntax.specs.declared.tree.Ty.{Ty}
use Rattle.sml_syntax.specs.declared.tree.Pat.{Pat}
use Rattle.sml_syntax.specs.declared.tree.Rule.{Rule}
use Rattle.sml_syntax.specs.declared.tree.Exp.{Exp}
use Rattle.sml_syntax.specs.declared.tree.ExpForm.TheVariants as e
use Rattle.grammar_rules.specs.InfixNames.{infix_level, symbol_level, word_level, or_else, groups_right}
use Rattle.grammar_rules.specs.Programs.{Each}
use Rattle.grammar_rules.specs.Nodes.{exp_at, rule_of, span_of, extent, infix_exp}
use Rattle.grammar_rules.specs.Grammar.{Is, exp_tree, exps_tree, rule_tree, rules_tree, pat_tree, ty_tree, ty, pat, atx, app, inf, tyx, andc, orc, expr, exps, antiquoted, match_of, rule_of_match, short, long, IsInfix, by_name, by_equals, atx_int, atx_char, atx_str, atx_name, atx_op, atx_op_equals, atx_unit, atx_paren, atx_tuple, atx_seq, atx_no_list, atx_list, anti_name, anti_exp, exps_one, exps_more, app_one, app_to, inf_top, inf_up, inf_left, inf_right, tyx_one, tyx_typed, andc_one, andc_both, orc_one, orc_either, exp_tail, exp_orc, exp_handle, tail_raise, tail_if, tail_case, tail_fn, match_last, match_more, one_rule}
use Rattle.print_laws.specs.SameTree.{same_int, same_char, same_str, same_name, same_unit, same_tuple, same_list, same_seq, same_app, same_fn, same_case, same_handle, same_raise, same_if, same_both, same_either, same_typed, no_exps, more_exps, same_rule, no_rules, more_rules}
use Rattle.print_laws.specs.Printing.{Forms, Part, Ink, RuleInk, closed, in_parens, has_dot, with_op, head_forms, name_forms, infix_word, infix_by, infix_of, is_lone, ty_forms, pat_forms, put, barred, body_forms, left_place, right_place, app_part, exps_forms, exp_part, exp_forms, exp_ink, rule_ink, rule_forms, match_forms, anti_forms}
use Rattle.print_laws.proofs.Lists.{parted_map, alternatives_map}
use Rattle.print_laws.proofs.Bearing.{At, one, word, both, bin, wrap, tri}
use Rattle.print_laws.proofs.Made.{ink-Int, ink-Char, ink-Str, ink-Name, ink-Unit, ink-Tuple, ink-List, ink-Seq, ink-App, ink-Fn, ink-Case, ink-Handle, ink-Raise, ink-If, ink-Both, ink-Either, ink-Typed, ink-rule}
use Rattle.print_laws.proofs.Claims.{Of, Many, Several, TyClaim, PatClaim, Ranked, LevelOf, AtLeast, PartAt, OperatorOf, MembersOf, InkClaim, ExpClaim, mark, two, parted_at, alternatives_at, each_map}
use Rattle.print_laws.proofs.TypeClaims.{whole_ty_at}
use Rattle.print_laws.proofs.PatternClaims.{whole_pat_at}

-- from the phrase of each level
pub by_expr : {ts : List Token} {x : Exp} (o : Bool) → Is (expr o) ts (exp_tree x) [] → Ranked 0 o ts x
by_expr o d = record {
  anywhere = d;
  orelse = λ h. absurd (omega (arith, h));
  andalso = λ h. absurd (omega (arith, h));
  typed = λ h. absurd (omega (arith, h));
  operand = λ k h. absurd (omega (arith, h));
  applied = λ h. absurd (omega (arith, h));
  alone = λ h. absurd (omega (arith, h));
}

pub by_orc : {ts : List Token} {x : Exp} → Is orc ts (exp_tree x) [] → Ranked 1 false ts x
by_orc d = record {
  anywhere = exp_orc d;
  orelse = λ h. d;
  andalso = λ h. absurd (omega (arith, h));
  typed = λ h. absurd (omega (arith, h));
  operand = λ k h. absurd (omega (arith, h));
  applied = λ h. absurd (omega (arith, h));
  alone = λ h. absurd (omega (arith, h));
}

pub by_andc : {ts : List Token} {x : Exp} → Is andc ts (exp_tree x) [] → Ranked 2 false ts x
by_andc d = record {
  anywhere = exp_orc (orc_one d);
  orelse = λ h. orc_one d;
  andalso = λ h. d;
  typed = λ h. absurd (omega (arith, h));
  operand = λ k h. absurd (omega (arith, h));
  applied = λ h. absurd (omega (arith, h));
  alone = λ h. absurd (omega (arith, h));
}

pub by_tyx : {ts : List Token} {x : Exp} → Is tyx ts (exp_tree x) [] → Ranked 3 false ts x
by_tyx d = record {
  anywhere = exp_orc (orc_one (andc_one d));
  orelse = λ h. orc_one (andc_one d);
  andalso = λ h. andc_one d;
  typed = λ h. d;
  operand = λ k h. absurd (omega (arith, h));
  applied = λ h. absurd (omega (arith, h));
  alone = λ h. absurd (omega (arith, h));
}

inf_down : (n k : ℕ) {ts : List Token} {x : Exp} → Is (inf (n + k)) ts (exp_tree x) [] → Is (inf k) ts (exp_tree x) []
inf_down zero k {ts = ts} {x = x} d = subst (λ m. Is (inf m) ts (exp_tree x) []) (omega (arith)) d
inf_down (suc n) k {ts = ts} {x = x} d = inf_down n k (inf_up (subst (λ m. Is (inf m) ts (exp_tree x) []) (omega (arith)) d))

inf_below : (m k : ℕ) {ts : List Token} {x : Exp} → k ≤ m → Is (inf m) ts (exp_tree x) [] → Is (inf k) ts (exp_tree x) []
inf_below m k {ts = ts} {x = x} h d = inf_down (m - k) k (subst (λ n. Is (inf n) ts (exp_tree x) []) (omega (arith, h)) d)

pub by_inf : (level : ℕ) {ts : List Token} {x : Exp} → level < 10 → Is (inf level) ts (exp_tree x) [] → Ranked (4 + level) false ts x
by_inf level {ts = ts} {x = x} l d = let low : Is (inf 0) ts (exp_tree x) [] = inf_below level 0 (omega arith) d in record {
  anywhere = exp_orc (orc_one (andc_one (tyx_one low)));
  orelse = λ h. orc_one (andc_one (tyx_one low));
  andalso = λ h. andc_one (tyx_one low);
  typed = λ h. tyx_one low;
  operand = λ k h. inf_below level k (omega (arith, h)) d;
  applied = λ h. absurd (omega (arith, h, l));
  alone = λ h. absurd (omega (arith, h, l));
}

pub by_app : {ts : List Token} {x : Exp} → Is app ts (exp_tree x) [] → Ranked 14 false ts x
by_app d = record {
  anywhere = exp_orc (orc_one (andc_one (tyx_one (inf_top d))));
  orelse = λ h. orc_one (andc_one (tyx_one (inf_top d)));
  andalso = λ h. andc_one (tyx_one (inf_top d));
  typed = λ h. tyx_one (inf_top d);
  operand = λ k h. inf_top d;
  applied = λ h. d;
  alone = λ h. absurd (omega (arith, h));
}

pub by_atx : {ts : List Token} {x : Exp} → Is atx ts (exp_tree x) [] → Ranked 15 false ts x
by_atx d = record {
  anywhere = exp_orc (orc_one (andc_one (tyx_one (inf_top (app_one d)))));
  orelse = λ h. orc_one (andc_one (tyx_one (inf_top (app_one d))));
  andalso = λ h. andc_one (tyx_one (inf_top (app_one d)));
  typed = λ h. tyx_one (inf_top (app_one d));
  operand = λ k h. inf_top (app_one d);
  applied = λ h. app_one d;
  alone = λ h. d;
}

-- an expression that isn't a name, as an antiquotation
pub solid : (x : Exp) (i : Ink) → exp_ink x ≡ i → i.lone ≡ None → PartAt i.part x → OperatorOf i.operator x → MembersOf i.members x → ExpClaim x
solid x i h g a o m = subst (λ j. InkClaim j x) (sym h) (
  a,
  subst (λ n. At (Of exp_tree antiquoted x) (anti_forms i.part.forms n)) (sym g)
      (wrap (LevelOf i.part.level i.part.opens x) (Of exp_tree antiquoted x) f.AntiFrom i.part.forms f.AntiTo (λ v ts w k l q. (q.0, anti_exp v w k q.1.anywhere l, q.2)) a),
  o,
  m,
)

-- in parentheses
pub paren_at : (x : Exp) (p : Part) → PartAt p x → At (Of exp_tree atx x) (in_parens p.forms)
paren_at x p a = wrap (LevelOf p.level p.opens x) (Of exp_tree atx x) (f.Mark (codes "(")) p.forms (f.Mark (codes ")")) (λ v ts w h g q. (q.0, atx_paren v w (mark h) q.1.anywhere (mark g), q.2)) a

-- where an expression of that level stands
pub put_at : (level : ℕ) (x : Exp) (p : Part) → level ≤ 15 → PartAt p x → At (AtLeast level x) (put level p)
unfolding put
put_at level x p l a = go (nat_lt p.level level) refl
  where
    go : (b : Bool) → nat_lt p.level level ≡ b → At (AtLeast level x) (cond b (in_parens p.forms) p.forms)
    go true h = λ ts k. let q = paren_at x p a ts k in (q.0, 15, false, l, by_atx q.1, q.2)
    go false h = λ ts k. let q = a ts k in (q.0, p.level, p.opens, ltb-false p.level level h, q.1, q.2)

-- as a body, before a bar where no match may be open, or the last one
abbrev pub Ends : Bool → Bool → Type 0
Ends last opens = last ≡ false → opens ≡ false

abbrev pub BodyOf : Bool → Exp → List Token → Type 0
BodyOf last x ts = (o : Bool) × Ends last o × Of exp_tree (expr o) x ts

pub body_at : (last : Bool) (x : Exp) (p : Part) → PartAt p x → At (BodyOf last x) (body_forms last p)
unfolding barred
body_at true x p a = λ ts k. let q = a ts k in (p.opens, λ h. absurd (cc), (q.0, q.1.anywhere, q.2))
body_at false x p a = go p.opens refl
  where
    go : (b : Bool) → p.opens ≡ b → At (BodyOf false x) (cond b (in_parens p.forms) p.forms)
    go true h = λ ts k. let q = paren_at x p a ts k in let r = by_atx q.1 in (false, λ h. refl, (q.0, r.anywhere, q.2))
    go false h = λ ts k. let q = a ts k in (p.opens, λ g. h, (q.0, q.1.anywhere, q.2))

-- constants and names
pub int_claim : (s : Span) (n : ℤ) → ExpClaim (exp_at s (e.Int n))
int_claim s n = solid (exp_at s (e.Int n)) _ (ink-Int s n) refl (one (LevelOf 15 false (exp_at s (e.Int n))) (f.Int n) (λ w h. (exp_at w.span (e.Int n), by_atx (atx_int w n h), same_int s w.span n))) tt tt

pub char_claim : (s : Span) (n : ℕ) → ExpClaim (exp_at s (e.Char n))
char_claim s n = solid (exp_at s (e.Char n)) _ (ink-Char s n) refl (one (LevelOf 15 false (exp_at s (e.Char n))) (f.Char n) (λ w h. (exp_at w.span (e.Char n), by_atx (atx_char w n h), same_char s w.span n))) tt tt

pub str_claim : (s : Span) (n : List ℕ) → ExpClaim (exp_at s (e.Str n))
str_claim s n = solid (exp_at s (e.Str n)) _ (ink-Str s n) refl (one (LevelOf 15 false (exp_at s (e.Str n))) (f.Str n) (λ w h. (exp_at w.span (e.Str n), by_atx (atx_str w n h), same_str s w.span n))) tt tt

pub unit_claim : (s : Span) → ExpClaim (exp_at s e.Unit)
unit_claim s = solid (exp_at s e.Unit) _ (ink-Unit s) refl (two (LevelOf 15 false (exp_at s e.Unit)) (f.Mark (codes "(")) (f.Mark (codes ")")) (λ v w h g. (exp_at (span_of v.span.from w.span.to) e.Unit, by_atx (atx_unit v w (mark h) (mark g)), same_unit s (span_of v.span.from w.span.to)))) tt tt

-- a name at any place is the same as at another one
abbrev pub NameAt : Span → List ℕ → List Token → Type 0
NameAt s name = Of exp_tree atx (exp_at s (e.Name name))

headed_at : (s : Span) (name : List ℕ) → At (NameAt s name) (head_forms name)
unfolding head_forms
headed_at s name = go (has_dot name) (infix_level name) refl
  where
    go : (b : Bool) (o : Option ℕ) → infix_level name ≡ o → At (NameAt s name) (cond b (f.Long name ∷ []) (with_op o (f.Name name)))
    go true o h = one (NameAt s name) (f.Long name) (λ w k. (exp_at w.span (e.Name name), atx_name w name (long name w (record { is = k })), same_name s w.span name))
    go false None h = one (NameAt s name) (f.Name name) (λ w k. (exp_at w.span (e.Name name), atx_name w name (short name w (record { is = k; plain = h })), same_name s w.span name))
    go false (Some l) h = two (NameAt s name) (f.Mark (codes "op")) (f.Name name) (λ v w k g. (exp_at w.span (e.Name name), atx_op v w name (mark k) (record { is = g }), same_name s w.span name))

equals_at : (s : Span) → At (NameAt s (codes "=")) (f.Mark (codes "op") ∷ f.Mark (codes "=") ∷ [])
equals_at s = two (NameAt s (codes "=")) (f.Mark (codes "op")) (f.Mark (codes "=")) (λ v w k g. (exp_at w.span (e.Name (codes "=")), atx_op_equals v w (mark k) (mark g), same_name s w.span (codes "=")))

pub named_at : (s : Span) (name : List ℕ) → At (NameAt s name) (name_forms name)
unfolding name_forms
named_at s name = go (bytes_eq name (codes "=")) refl
  where
    go : (b : Bool) → bytes_eq name (codes "=") ≡ b → At (NameAt s name) (cond b (f.Mark (codes "op") ∷ f.Mark (codes "=") ∷ []) (head_forms name))
    go true h = subst (λ n. At (NameAt s n) (f.Mark (codes "op") ∷ f.Mark (codes "=") ∷ [])) (sym ((bytes_eq-Decides name (codes "=")).0 h)) (equals_at s)
    go false h = headed_at s name

-- the word of an infix name
abbrev below_ten : Option ℕ → Type 0
below_ten None = Unit {0}
below_ten (Some n) = n < 10

symbols_below : (name : List ℕ) → below_ten (symbol_level name)
unfolding symbol_level
symbols_below name = go (bytes_eq name (codes "*")) (bytes_eq name (codes "+")) (bytes_eq name (codes "-")) (bytes_eq name (codes "^")) (bytes_eq name (codes "::")) (bytes_eq name (codes "@")) (bytes_eq name (codes "=")) (bytes_eq name (codes "<>")) (bytes_eq name (codes "<")) (bytes_eq name (codes "<=")) (bytes_eq name (codes ">")) (bytes_eq name (codes ">=")) (bytes_eq name (codes ":="))
  where
    go : (b0 b1 b2 b3 b4 b5 b6 b7 b8 b9 b10 b11 b12 : Bool) → below_ten (cond b0 (Some 7) (cond b1 (Some 6) (cond b2 (Some 6) (cond b3 (Some 6) (cond b4 (Some 5) (cond b5 (Some 5) (cond b6 (Some 4) (cond b7 (Some 4) (cond b8 (Some 4) (cond b9 (Some 4) (cond b10 (Some 4) (cond b11 (Some 4) (cond b12 (Some 3) None)))))))))))))
    go true b1 b2 b3 b4 b5 b6 b7 b8 b9 b10 b11 b12 = omega arith
    go false true b2 b3 b4 b5 b6 b7 b8 b9 b10 b11 b12 = omega arith
    go false false true b3 b4 b5 b6 b7 b8 b9 b10 b11 b12 = omega arith
    go false false false true b4 b5 b6 b7 b8 b9 b10 b11 b12 = omega arith
    go false false false false true b5 b6 b7 b8 b9 b10 b11 b12 = omega arith
    go false false false false false true b6 b7 b8 b9 b10 b11 b12 = omega arith
    go false false false false false false true b7 b8 b9 b10 b11 b12 = omega arith
    go false false false false false false false true b8 b9 b10 b11 b12 = omega arith
    go false false false false false false false false true b9 b10 b11 b12 = omega arith
    go false false false false false false false false false true b10 b11 b12 = omega arith
    go false false false false false false false false false false true b11 b12 = omega arith
    go false false false false false false false false false false false true b12 = omega arith
    go false false false false false false false false false false false false true = omega arith
    go false false false false false false false false false false false false false = tt

words_below : (name : List ℕ) → below_ten (word_level name)
unfolding word_level
words_below name = go (bytes_eq name (codes "div")) (bytes_eq name (codes "mod")) (bytes_eq name (codes "o")) (bytes_eq name (codes "before"))
  where
    go : (b0 b1 b2 b3 : Bool) → below_ten (cond b0 (Some 7) (cond b1 (Some 7) (cond b2 (Some 3) (cond b3 (Some 0) None))))
    go true b1 b2 b3 = omega arith
    go false true b2 b3 = omega arith
    go false false true b3 = omega arith
    go false false false true = omega arith
    go false false false false = tt

low_or : (o p : Option ℕ) → below_ten o → below_ten p → below_ten (or_else o p)
low_or None p h k = k
low_or (Some n) p h k = h

levels_below : (name : List ℕ) → below_ten (infix_level name)
unfolding infix_level
levels_below name = low_or (symbol_level name) (word_level name) (symbols_below name) (words_below name)

some_is : (m n : ℕ) → Some m ≡ Some n → m ≡ n
some_is m n h = cc

equals_infix : (level : ℕ) (w : Token) → infix_level (codes "=") ≡ Some level → w.form ≡ f.Mark (codes "=") → IsInfix level (codes "=") w
unfolding infix_level symbol_level
equals_infix level w h k = subst (λ n. IsInfix n (codes "=") w) (some_is 4 level h) (by_equals w (mark k))

word_is : (level : ℕ) (name : List ℕ) (w : Token) → infix_level name ≡ Some level → w.form ≡ infix_word name → IsInfix level name w
unfolding infix_word
word_is level name w h = go (bytes_eq name (codes "=")) refl
  where
    go : (b : Bool) → bytes_eq name (codes "=") ≡ b → w.form ≡ cond b (f.Mark (codes "=")) (f.Name name) → IsInfix level name w
    go true g k = let i : name ≡ codes "=" = (bytes_eq-Decides name (codes "=")).0 g in
        subst (λ n. IsInfix level n w) (sym i) (equals_infix level w (subst (λ n. infix_level n ≡ Some level) i h) k)
    go false g k = by_name level name w (record { is = k; level_is = h })

operator_of : (s : Span) (name : List ℕ) → OperatorOf (infix_of name) (exp_at s (e.Name name))
unfolding infix_of
operator_of s name = go (has_dot name) (infix_level name) refl
  where
    go : (b : Bool) (o : Option ℕ) → infix_level name ≡ o → OperatorOf (cond b None (infix_by o name)) (exp_at s (e.Name name))
    go true o h = tt
    go false None h = tt
    go false (Some level) h = (subst below_ten h (levels_below name), λ w k. (name, word_is level name w h k, λ r. same_name s r name))

pub name_claim : (s : Span) (name : List ℕ) → ExpClaim (exp_at s (e.Name name))
name_claim s name = subst (λ j. InkClaim j x) (sym (ink-Name s name)) (λ ts k. let q = named_at s name ts k in (q.0, by_atx q.1, q.2), go (is_lone name), operator_of s name, tt)
  where
    x : Exp
    x = exp_at s (e.Name name)

    go : (b : Bool) → At (Of exp_tree antiquoted x) (anti_forms (name_forms name) (cond b (Some name) None))
    go true = one (Of exp_tree antiquoted x) (f.Anti name) (λ w h. (_, anti_name w name h, same_name s _ name))
    go false = wrap (NameAt s name) (Of exp_tree antiquoted x) f.AntiFrom (name_forms name) f.AntiTo (λ v ts w k l q. let r = by_atx q.1 in (q.0, anti_exp v w k r.anywhere l, q.2)) (named_at s name)

-- expressions with marks between
abbrev pub WholeOf : Exp → List Token → Type 0
WholeOf x = LevelOf (exp_part x).level (exp_part x).opens x

pub exps_at : (m : List ℕ) (x : Exp) (xs : List Exp) → Each ExpClaim (x ∷ xs) → At (Many exps_tree (exps m) (x ∷ xs)) (exps_forms m (map exp_ink (x ∷ xs)))
exps_at m x xs h = subst (At (Many exps_tree (exps m) (x ∷ xs))) (sym (parted_map m (λ (i : Ink). i.part.forms) exp_ink (x ∷ xs)))
    (parted_at exp_forms m WholeOf (Many exps_tree (exps m))
    (λ y ts q. (q.0, [], exps_one q.1.anywhere, more_exps q.2 no_exps))
    (λ y z zs ts w us k q r. (q.0, r.0 ∷ r.1, exps_more w q.1.anywhere (mark k) r.2, more_exps q.2 r.3)) x xs (each_map ExpClaim (λ y. PartAt (exp_part y) y) (λ y c. c.0) (x ∷ xs) h))

pub two_exps_at : (m : List ℕ) (x y : Exp) (ys : List Exp) → Each ExpClaim (x ∷ y ∷ ys) → At (Several exps_tree (exps m) (x ∷ y ∷ ys)) (exps_forms m (map exp_ink (x ∷ y ∷ ys)))
two_exps_at m x y ys h = bin (WholeOf x) (Many exps_tree (exps m) (y ∷ ys)) (Several exps_tree (exps m) (x ∷ y ∷ ys)) (exp_forms x) (f.Mark m) (exps_forms m (map exp_ink (y ∷ ys)))
    (λ ts w us k q r. (q.0, r.0, r.1, exps_more w q.1.anywhere (mark k) r.2, more_exps q.2 r.3)) h.0.0 (exps_at m y ys h.1)

members_of : (s : Span) (x y : Exp) (ys : List Exp) → ExpClaim x → ExpClaim y → MembersOf (map (λ (i : Ink). i.part) (map exp_ink (x ∷ y ∷ ys))) (exp_at s (e.Tuple (x ∷ y ∷ ys)))
members_of s x y [] a b = (x, y, a.0, b.0, λ r u v h g. same_tuple s r (more_exps h (more_exps g no_exps)))
members_of s x y (z ∷ zs) a b = tt

pub tuple_claim : (s : Span) (x y : Exp) (ys : List Exp) → Each ExpClaim (x ∷ y ∷ ys) → ExpClaim (exp_at s (e.Tuple (x ∷ y ∷ ys)))
tuple_claim s x y ys h = solid (exp_at s (e.Tuple (x ∷ y ∷ ys))) _ (ink-Tuple s (x ∷ y ∷ ys)) refl
    (wrap (Several exps_tree (exps (codes ",")) (x ∷ y ∷ ys)) (LevelOf 15 false (exp_at s (e.Tuple (x ∷ y ∷ ys)))) (f.Mark (codes "(")) (exps_forms (codes ",") (map exp_ink (x ∷ y ∷ ys))) (f.Mark (codes ")"))
    (λ o ts c k g q. (exp_at (span_of o.span.from c.span.to) (e.Tuple (q.0 ∷ q.1 ∷ q.2)), by_atx (atx_tuple o c (mark k) q.3 (mark g)), same_tuple s (span_of o.span.from c.span.to) q.4)) (two_exps_at (codes ",") x y ys h))
    tt (members_of s x y ys h.0 h.1.0)

pub seq_claim : (s : Span) (x y : Exp) (ys : List Exp) → Each ExpClaim (x ∷ y ∷ ys) → ExpClaim (exp_at s (e.Seq (x ∷ y ∷ ys)))
seq_claim s x y ys h = solid (exp_at s (e.Seq (x ∷ y ∷ ys))) _ (ink-Seq s (x ∷ y ∷ ys)) refl
    (wrap (Several exps_tree (exps (codes ";")) (x ∷ y ∷ ys)) (LevelOf 15 false (exp_at s (e.Seq (x ∷ y ∷ ys)))) (f.Mark (codes "(")) (exps_forms (codes ";") (map exp_ink (x ∷ y ∷ ys))) (f.Mark (codes ")"))
    (λ o ts c k g q. (exp_at (span_of o.span.from c.span.to) (e.Seq (q.0 ∷ q.1 ∷ q.2)), by_atx (atx_seq o c (mark k) q.3 (mark g)), same_seq s (span_of o.span.from c.span.to) q.4)) (two_exps_at (codes ";") x y ys h))
    tt tt

pub no_list_claim : (s : Span) → ExpClaim (exp_at s (e.List []))
no_list_claim s = solid (exp_at s (e.List [])) _ (ink-List s []) refl (two (LevelOf 15 false (exp_at s (e.List []))) (f.Mark (codes "[")) (f.Mark (codes "]")) (λ v w h g. (exp_at (span_of v.span.from w.span.to) (e.List []), by_atx (atx_no_list v w (mark h) (mark g)), same_list s (span_of v.span.from w.span.to) no_exps))) tt tt

pub list_claim : (s : Span) (x : Exp) (xs : List Exp) → Each ExpClaim (x ∷ xs) → ExpClaim (exp_at s (e.List (x ∷ xs)))
list_claim s x xs h = solid (exp_at s (e.List (x ∷ xs))) _ (ink-List s (x ∷ xs)) refl
    (wrap (Many exps_tree (exps (codes ",")) (x ∷ xs)) (LevelOf 15 false (exp_at s (e.List (x ∷ xs)))) (f.Mark (codes "[")) (exps_forms (codes ",") (map exp_ink (x ∷ xs))) (f.Mark (codes "]"))
    (λ o ts c k g q. (exp_at (span_of o.span.from c.span.to) (e.List (q.0 ∷ q.1)), by_atx (atx_list o c (mark k) q.2 (mark g)), same_list s (span_of o.span.from c.span.to) q.3)) (exps_at (codes ",") x xs h))
    tt tt

-- applications
applied_at : (s : Span) (x y : Exp) → ExpClaim x → ExpClaim y → PartAt (closed 14 (put 14 (exp_part x) ++ put 15 (exp_part y))) (exp_at s (e.App x y))
applied_at s x y a b = both (AtLeast 14 x) (AtLeast 15 y) (LevelOf 14 false (exp_at s (e.App x y))) (put 14 (exp_part x)) (put 15 (exp_part y))
    (λ ts us q r. (exp_at (extent (ts ++ us)) (e.App q.0 r.0), by_app (app_to (q.4.applied q.3) (r.4.alone r.3)), same_app s (extent (ts ++ us)) q.5 r.5))
    (put_at 14 x (exp_part x) (omega arith) a.0) (put_at 15 y (exp_part y) (omega arith) b.0)

infix_at : (s : Span) (x y : Exp) (o : ℕ × TokenForm) (l r : Part) → OperatorOf (Some o) x → MembersOf (l ∷ r ∷ []) y
    → PartAt (closed (4 + o.0) (put (left_place o.0) l ++ o.1 ∷ put (right_place o.0) r)) (exp_at s (e.App x y))
infix_at s x y o l r k m = go (groups_right o.0) refl
  where
    S : List Token → Type 0
    S = LevelOf (4 + o.0) false (exp_at s (e.App x y))

    low : o.0 < 10
    low = k.0

    go : (b : Bool) → groups_right o.0 ≡ b → At S (put (cond b (5 + o.0) (4 + o.0)) l ++ o.1 ∷ put (cond b (4 + o.0) (5 + o.0)) r)
    go true h = bin (AtLeast (5 + o.0) m.0) (AtLeast (4 + o.0) m.1) S (put (5 + o.0) l) o.1 (put (4 + o.0) r)
        (λ ts w us g q t. let n = k.1 w g in (
          infix_exp (extent (ts ++ w ∷ us)) (exp_at w.span (e.Name n.0)) q.0 t.0,
          by_inf o.0 low (inf_right w n.1 h (q.4.operand (suc o.0) (omega (arith, q.3))) (t.4.operand o.0 t.3)),
          same_app s (extent (ts ++ w ∷ us)) (n.2 w.span) (m.4 (extent (ts ++ w ∷ us)) q.0 t.0 q.5 t.5),
        ))
        (put_at (5 + o.0) m.0 l (omega (arith, low)) m.2) (put_at (4 + o.0) m.1 r (omega (arith, low)) m.3)
    go false h = bin (AtLeast (4 + o.0) m.0) (AtLeast (5 + o.0) m.1) S (put (4 + o.0) l) o.1 (put (5 + o.0) r)
        (λ ts w us g q t. let n = k.1 w g in (
          infix_exp (extent (ts ++ w ∷ us)) (exp_at w.span (e.Name n.0)) q.0 t.0,
          by_inf o.0 low (inf_left w n.1 h (q.4.operand o.0 q.3) (t.4.operand (suc o.0) (omega (arith, t.3)))),
          same_app s (extent (ts ++ w ∷ us)) (n.2 w.span) (m.4 (extent (ts ++ w ∷ us)) q.0 t.0 q.5 t.5),
        ))
        (put_at (4 + o.0) m.0 l (omega (arith, low)) m.2) (put_at (5 + o.0) m.1 r (omega (arith, low)) m.3)

app_at : (s : Span) (x y : Exp) → ExpClaim x → ExpClaim y → (o : Option (ℕ × TokenForm)) (ps : List Part) → OperatorOf o x → MembersOf ps y → PartAt (app_part o ps (exp_part x) (exp_part y)) (exp_at s (e.App x y))
app_at s x y a b None ps k m = applied_at s x y a b
app_at s x y a b (Some o) [] k m = applied_at s x y a b
app_at s x y a b (Some o) (l ∷ []) k m = applied_at s x y a b
app_at s x y a b (Some o) (l ∷ r ∷ []) k m = infix_at s x y o l r k m
app_at s x y a b (Some o) (l ∷ r ∷ p ∷ ps) k m = applied_at s x y a b

pub app_claim : (s : Span) (x y : Exp) → ExpClaim x → ExpClaim y → ExpClaim (exp_at s (e.App x y))
app_claim s x y a b = solid (exp_at s (e.App x y)) _ (ink-App s x y) refl (app_at s x y a b (exp_ink x).operator (exp_ink y).members a.2 b.3) tt tt

-- between two expressions
pub both_claim : (s : Span) (x y : Exp) → ExpClaim x → ExpClaim y → ExpClaim (exp_at s (e.Both x y))
both_claim s x y a b = solid (exp_at s (e.Both x y)) _ (ink-Both s x y) refl
    (bin (AtLeast 3 x) (AtLeast 2 y) (LevelOf 2 false (exp_at s (e.Both x y))) (put 3 (exp_part x)) (f.Mark (codes "andalso")) (put 2 (exp_part y))
    (λ ts w us k q r. (exp_at (extent (ts ++ w ∷ us)) (e.Both q.0 r.0), by_andc (andc_both w (q.4.typed q.3) (mark k) (r.4.andalso r.3)), same_both s (extent (ts ++ w ∷ us)) q.5 r.5))
    (put_at 3 x (exp_part x) (omega arith) a.0) (put_at 2 y (exp_part y) (omega arith) b.0))
    tt tt

pub either_claim : (s : Span) (x y : Exp) → ExpClaim x → ExpClaim y → ExpClaim (exp_at s (e.Either x y))
either_claim s x y a b = solid (exp_at s (e.Either x y)) _ (ink-Either s x y) refl
    (bin (AtLeast 2 x) (AtLeast 1 y) (LevelOf 1 false (exp_at s (e.Either x y))) (put 2 (exp_part x)) (f.Mark (codes "orelse")) (put 1 (exp_part y))
    (λ ts w us k q r. (exp_at (extent (ts ++ w ∷ us)) (e.Either q.0 r.0), by_orc (orc_either w (q.4.andalso q.3) (mark k) (r.4.orelse r.3)), same_either s (extent (ts ++ w ∷ us)) q.5 r.5))
    (put_at 2 x (exp_part x) (omega arith) a.0) (put_at 1 y (exp_part y) (omega arith) b.0))
    tt tt

pub typed_claim : (s : Span) (x : Exp) (t : Ty) → ExpClaim x → TyClaim false t → ExpClaim (exp_at s (e.Typed x t))
typed_claim s x t a b = solid (exp_at s (e.Typed x t)) _ (ink-Typed s x t) refl
    (bin (AtLeast 3 x) (Of ty_tree (ty false) t) (LevelOf 3 false (exp_at s (e.Typed x t))) (put 3 (exp_part x)) (f.Mark (codes ":")) (ty_forms t)
    (λ ts w us k q r. (exp_at (extent (ts ++ w ∷ us)) (e.Typed q.0 r.0), by_tyx (tyx_typed w (q.4.typed q.3) (mark k) r.1), same_typed s (extent (ts ++ w ∷ us)) q.5 r.2))
    (put_at 3 x (exp_part x) (omega arith) a.0) (whole_ty_at false t b))
    tt tt

pub raise_claim : (s : Span) (x : Exp) → ExpClaim x → ExpClaim (exp_at s (e.Raise x))
raise_claim s x a = solid (exp_at s (e.Raise x)) _ (ink-Raise s x) refl
    (word (WholeOf x) (LevelOf 0 (exp_part x).opens (exp_at s (e.Raise x))) (f.Mark (codes "raise")) (exp_forms x)
    (λ w ts k q. (exp_at (extent (w ∷ ts)) (e.Raise q.0), by_expr (exp_part x).opens (exp_tail (tail_raise w (mark k) q.1.anywhere)), same_raise s (extent (w ∷ ts)) q.2)) a.0)
    tt tt

-- behind a first word
abbrev pub Behind : List ℕ → (List Token → Type 0) → List Token → Type 0
Behind m Q us = (w : Token) × (ts : List Token) × (us ≡ w ∷ ts) × (w.form ≡ f.Mark m) × Q ts

pub behind_at : (m : List ℕ) (Q : List Token → Type 0) (p : Forms) → At Q p → At (Behind m Q) (f.Mark m ∷ p)
behind_at m Q p a = word Q (Behind m Q) (f.Mark m) p (λ w ts h q. (w, ts, refl, h, q)) a

pub if_claim : (s : Span) (x y z : Exp) → ExpClaim x → ExpClaim y → ExpClaim z → ExpClaim (exp_at s (e.If x y z))
if_claim s x y z a b c = solid (exp_at s (e.If x y z)) _ (ink-If s x y z) refl
    (tri (Behind (codes "if") (WholeOf x)) (WholeOf y) (WholeOf z) S (f.Mark (codes "if") ∷ exp_forms x) (f.Mark (codes "then")) (exp_forms y) (f.Mark (codes "else")) (exp_forms z)
    (λ ts v us w ws k l q r t. subst (λ n. S ((n ++ v ∷ us) ++ w ∷ ws)) (sym q.2)
    (exp_at (extent (((q.0 ∷ q.1) ++ v ∷ us) ++ w ∷ ws)) (e.If q.4.0 r.0 t.0), by_expr (exp_part z).opens (exp_tail (tail_if q.0 v w (mark q.3) q.4.1.anywhere (mark k) r.1.anywhere (mark l) t.1.anywhere)), same_if s (extent (((q.0 ∷ q.1) ++ v ∷ us) ++ w ∷ ws)) q.4.2 r.2 t.2))
    (behind_at (codes "if") (WholeOf x) (exp_forms x) a.0) b.0 c.0)
    tt tt
  where
    S : List Token → Type 0
    S = LevelOf 0 (exp_part z).opens (exp_at s (e.If x y z))

-- rules: a pattern and a body
pub record RuleClaim (r : Rule) : Type 0 where
  pub left : Pat
  pub body : Exp
  pub is : rule_of left body ≡ r
  pub pat_claim : PatClaim left
  pub exp_claim : ExpClaim body

abbrev RuleOf : Bool → Rule → List Token → Type 0
RuleOf last r ts = (o : Bool) × Ends last o × Of rule_tree (rule_of_match o) r ts

rule_at : (r : Rule) → RuleClaim r → (last : Bool) → At (RuleOf last r) (rule_forms last (rule_ink r))
rule_at r c last = subst (λ q. At (RuleOf last q) (rule_forms last (rule_ink q))) c.is
    (subst (λ (i : RuleInk). At (RuleOf last (rule_of c.left c.body)) (rule_forms last i)) (sym (ink-rule c.left c.body))
    (bin (Of pat_tree pat c.left) (BodyOf last c.body) (RuleOf last (rule_of c.left c.body)) (pat_forms c.left) (f.Mark (codes "=>")) (body_forms last (exp_part c.body))
    (λ ts w us k q r. (r.0, r.1, (rule_of q.0 r.2.0, one_rule w q.1 (mark k) r.2.1, same_rule q.2 r.2.2))) (whole_pat_at c.left c.pat_claim) (body_at last c.body (exp_part c.body) c.exp_claim.0)))

pub match_at : (r : Rule) (rs : List Rule) → Each RuleClaim (r ∷ rs) → At (Many rules_tree match_of (r ∷ rs)) (match_forms (map rule_ink (r ∷ rs)))
match_at r rs h = subst (At (Many rules_tree match_of (r ∷ rs))) (sym (alternatives_map rule_forms rule_ink (r ∷ rs)))
    (alternatives_at (λ last q. rule_forms last (rule_ink q)) RuleOf (Many rules_tree match_of)
    (λ y ts q. (q.2.0, [], match_last q.2.1, more_rules q.2.2 no_rules))
    (λ y z zs ts w us k q r. (q.2.0, r.0 ∷ r.1, match_more w (subst (λ o. Is (rule_of_match o) ts (rule_tree q.2.0) []) (q.1 refl) q.2.1) (mark k) r.2, more_rules q.2.2 r.3))
    r rs (each_map RuleClaim (λ q. (last : Bool) → At (RuleOf last q) (rule_forms last (rule_ink q))) rule_at (r ∷ rs) h))

pub fn_claim : (s : Span) (r : Rule) (rs : List Rule) → Each RuleClaim (r ∷ rs) → ExpClaim (exp_at s (e.Fn (r ∷ rs)))
fn_claim s r rs h = solid (exp_at s (e.Fn (r ∷ rs))) _ (ink-Fn s (r ∷ rs)) refl
    (word (Many rules_tree match_of (r ∷ rs)) (LevelOf 0 true (exp_at s (e.Fn (r ∷ rs)))) (f.Mark (codes "fn")) (match_forms (map rule_ink (r ∷ rs)))
    (λ w ts k q. (exp_at (extent (w ∷ ts)) (e.Fn (q.0 ∷ q.1)), by_expr true (exp_tail (tail_fn w (mark k) q.2)), same_fn s (extent (w ∷ ts)) q.3)) (match_at r rs h))
    tt tt

pub case_claim : (s : Span) (x : Exp) (r : Rule) (rs : List Rule) → ExpClaim x → Each RuleClaim (r ∷ rs) → ExpClaim (exp_at s (e.Case x (r ∷ rs)))
case_claim s x r rs a h = solid (exp_at s (e.Case x (r ∷ rs))) _ (ink-Case s x (r ∷ rs)) refl
    (bin (Behind (codes "case") (WholeOf x)) (Many rules_tree match_of (r ∷ rs)) S (f.Mark (codes "case") ∷ exp_forms x) (f.Mark (codes "of")) (match_forms (map rule_ink (r ∷ rs)))
    (λ ts w us k q t. subst (λ n. S (n ++ w ∷ us)) (sym q.2)
    (exp_at (extent ((q.0 ∷ q.1) ++ w ∷ us)) (e.Case q.4.0 (t.0 ∷ t.1)), by_expr true (exp_tail (tail_case q.0 w (mark q.3) q.4.1.anywhere (mark k) t.2)), same_case s (extent ((q.0 ∷ q.1) ++ w ∷ us)) q.4.2 t.3))
    (behind_at (codes "case") (WholeOf x) (exp_forms x) a.0) (match_at r rs h))
    tt tt
  where
    S : List Token → Type 0
    S = LevelOf 0 true (exp_at s (e.Case x (r ∷ rs)))

pub handle_claim : (s : Span) (x : Exp) (r : Rule) (rs : List Rule) → ExpClaim x → Each RuleClaim (r ∷ rs) → ExpClaim (exp_at s (e.Handle x (r ∷ rs)))
handle_claim s x r rs a h = solid (exp_at s (e.Handle x (r ∷ rs))) _ (ink-Handle s x (r ∷ rs)) refl
    (bin (AtLeast 1 x) (Many rules_tree match_of (r ∷ rs)) (LevelOf 0 true (exp_at s (e.Handle x (r ∷ rs)))) (put 1 (exp_part x)) (f.Mark (codes "handle")) (match_forms (map rule_ink (r ∷ rs)))
    (λ ts w us k q t. (exp_at (extent (ts ++ w ∷ us)) (e.Handle q.0 (t.0 ∷ t.1)), by_expr true (exp_handle w (q.4.orelse q.3) (mark k) t.2), same_handle s (extent (ts ++ w ∷ us)) q.5 t.3)) (put_at 1 x (exp_part x) (omega arith) a.0) (match_at r rs h))
    tt tt
