-- Expressions: what may follow their parts, and expressions between marks.
use Rattle.std.proofs.Common.{◌≡◌, ◌==◌, ℕ, zero, suc, ◌≤◌, ◌<◌, ◌+◌, inl, inr, nat_le, nat_lt, List, [], ◌∷◌, ◌++◌, Bool, true, false, cond, Option, Some, None, refl, ap, sym, ◌∙◌, subst, append_assoc, arith, codes}
use Rattle.std.proofs.lemmas.Bool.{leb-true, leb-false, eqb-true, eqb-false, lt-ltb}
use Rattle.std.proofs.lemmas.Bool.Decides.{leb_tells}
use Rattle.sml_syntax.specs.declared.token.Token.{Token}
use Rattle.sml_syntax.specs.declared.token.TokenForm.TheVariants as f
use Rattle.sml_syntax.specs.declared.tree.ExpForm.TheVariants as ef
use Rattle.grammar_rules.specs.Nodes.{exp_at, extent, infix_exp}
use Rattle.grammar_rules.specs.Grammar.{IsMark, IsInfix, atx, app, tyx, inf, ty, atx_op, atx_op_equals, app_to, inf_up, inf_left, inf_right, tyx_typed, andc_one, andc_both, ande_tail, ande_more, orc_one, orc_either, ore_one, ore_tail, ore_more, exp_tail, exp_orc, exp_ore, exp_handle}
use Rattle.sml_grammar.specs.declared.mark.Mark.{Mark}
use Rattle.sml_grammar.specs.declared.mark.Mark.TheVariants as m
use Rattle.sml_grammar.specs.declared.token_sort.TokenSort.{TokenSort}
use Rattle.sml_grammar.specs.declared.symbol.Sym.{Sym}
use Rattle.sml_grammar.specs.declared.symbol.Sym.TheVariants as s
use Rattle.sml_grammar.specs.declared.symbol.ExpPhrase.{ExpPhrase}
use Rattle.sml_grammar.specs.declared.symbol.ExpPhrase.TheVariants as xp
use Rattle.sml_grammar.specs.declared.symbol.ExpRest.{ExpRest}
use Rattle.sml_grammar.specs.declared.symbol.ExpRest.TheVariants as xr
use Rattle.sml_grammar.specs.declared.symbol.TyPhrase.TheVariants as tp
use Rattle.sml_grammar.specs.Marks.{same_mark}
use Rattle.sml_grammar.specs.Sorts.{sort_of, is_mark, begins_exp, begins_atom, begins_tail, is_infix, level_of, is_op_name, equal_mark}
use Rattle.sml_grammar.specs.Tokens.{text_of, operand_level}
use Rattle.sml_grammar.specs.Takes.{atom_take, tail_take, exp_take, exp_rests}
use Rattle.sml_grammar.specs.Tables.{at_exp, at_exp_rest}
use Rattle.grammar_sound.proofs.Seen.{Seen, seen, seen_name, seen_infix, seen_star, seen_cons, seen_mark, spelling, same-marks, marked, mark_is, infix_exp_of}
use Rattle.grammar_sound.proofs.Sem.{Sem, Fulfils, done, reads, Split, parts, split, first_or, first-append, Not, NoInfix, Under, Clear, left_level, ExExp, ExTy, ExprS, expr_s, AndS, closed_and, open_and, OrS, closed_or, open_or, TailS, no_tail, a_tail, MatchS, match_s, BarS, no_more, a_bar, last, nil}
use Rattle.grammar_sound.proofs.Fine.{Fine, takes, skips, fails, by_cond, Begun, begun, strip, strip_by, Good, Quiet, fin, low, low_sym}
use Rattle.grammar_sound.proofs.Expressions.{over, AtomStart, atom_start, TailStart, tail_start, atom_began, atom_good, atom_low, match_takes, TailD, tail_d, tail_took, tail_good, tail_low, operand-rest, and-rest, or-rest, whole-rest, and-end, or-end, operand-end}

-- acts apart, two stacks
strip-by : (x : Sym) (a b : List Sym) → strip_by x (a ++ b) ≡ strip_by x a ++ b
strip-by (s.Do act) a b = refl
strip-by (s.Want mark) a b = refl
strip-by (s.Exp phrase) a b = refl
strip-by (s.ExpRest phrase) a b = refl
strip-by (s.ExpItems phrase) a b = refl
strip-by (s.Quoted phrase) a b = refl
strip-by (s.Pat phrase) a b = refl
strip-by (s.PatItems phrase) a b = refl
strip-by (s.Ty phrase) a b = refl
strip-by (s.Dec phrase) a b = refl
strip-by (s.Head phrase) a b = refl
strip-by (s.Con phrase) a b = refl
strip-by (s.Fun phrase) a b = refl
strip-by (s.Later phrase) a b = refl

pub strip_append : (a b : List Sym) → strip (a ++ b) ≡ strip a ++ strip b
strip_append [] b = refl
strip_append (x ∷ a) b = ap (strip_by x) (strip_append a b) ∙ strip-by x (strip a) (strip b)

pub low_append : (n : ℕ) (a b : List Sym) → low n a ≡ true → low n b ≡ true → low n (a ++ b) ≡ true
low_append n [] b h k = k
low_append n (x ∷ a) b h k = go (low_sym n x) (λ g. low_append n a b g k) h
  where
    go : (c : Bool) → (low n a ≡ true → low n (a ++ b) ≡ true) → cond c (low n a) false ≡ true → cond c (low n (a ++ b)) false ≡ true
    go true later h = later h
    go false later h = h

-- a token that begins an expression
pub data ExpStart (w : Token) (sort : TokenSort) : Type 0 where
  by_atom : begins_atom sort ≡ true → AtomStart w sort → ExpStart w sort
  by_tail : begins_atom sort ≡ false → TailStart w sort → ExpStart w sort

pub exp_start : (w : Token) (sort : TokenSort) → Seen w.form sort → begins_exp sort ≡ true → ExpStart w sort
unfolding begins_exp
exp_start w sort e h = go (begins_atom sort) refl h
  where
    go : (b : Bool) → begins_atom sort ≡ b → cond b true (begins_tail sort) ≡ true → ExpStart w sort
    go true q h = by_atom q (atom_start w sort e q)
    go false q h = by_tail q (tail_start w sort e h)

take-atom : (w : Token) (sort : TokenSort) → begins_atom sort ≡ true → exp_take sort w ≡ atom_take sort w ++ exp_rests w.span.from
unfolding exp_take
take-atom w sort h = ap (λ b. cond b (atom_take sort w ++ exp_rests w.span.from) (tail_take sort w.span.from)) h

take-tail : (w : Token) (sort : TokenSort) → begins_atom sort ≡ false → exp_take sort w ≡ tail_take sort w.span.from
unfolding exp_take
take-tail w sort h = ap (λ b. cond b (atom_take sort w ++ exp_rests w.span.from) (tail_take sort w.span.from)) h

tail-whole : (w : Token) (us : List Token) (z : Option TokenSort) → TailD w us z → ExprS (w ∷ us) z
tail-whole w us z (tail_d o (x, ls, d) ends) = expr_s o (x, ls, exp_tail d) ends

-- a whole expression
pub exp_took : (w : Token) (sort : TokenSort) (us : List Token) (z : Option TokenSort) → ExpStart w sort → Fulfils (strip (exp_take sort w)) us z → ExprS (w ∷ us) z
exp_took w sort us z (by_atom h b) f =
    whole-rest w.span.from w z (or-rest w.span.from _ w z (and-rest w.span.from w.span.from _ w z (operand-rest 0 w.span.from w.span.from _ w z
    (atom_began w sort (exp_rests w.span.from) z us b (subst (λ β. Fulfils (strip β) us z) (take-atom w sort h) f)))))
exp_took w sort us z (by_tail h b) f = tail-whole w us z (tail_took w sort w.span.from us z b (subst (λ β. Fulfils (strip β) us z) (take-tail w sort h) f))

pub exp_good : (w : Token) (sort : TokenSort) (st : List Sym) → ExpStart w sort → Quiet (first_or (fin st) None) → Good st → Good (exp_take sort w ++ st)
exp_good w sort st (by_atom h b) q g = subst (λ β. Good (β ++ st)) (sym (take-atom w sort h)) (atom_good w sort (exp_rests w.span.from) st b q (q, (q, (q, (q, (q, (q, g)))))))
exp_good w sort st (by_tail h b) q g = subst (λ β. Good (β ++ st)) (sym (take-tail w sort h)) (tail_good w sort w.span.from st b q g)

pub exp_low : (w : Token) (sort : TokenSort) (n : ℕ) → ExpStart w sort → low n (exp_take sort w) ≡ true
exp_low w sort n (by_atom h b) = subst (λ β. low n β ≡ true) (sym (take-atom w sort h)) (atom_low w sort n (exp_rests w.span.from) b refl)
exp_low w sort n (by_tail h b) = subst (λ β. low n β ≡ true) (sym (take-tail w sort h)) (tail_low w sort w.span.from n b)

-- an expression that begins with this token, and what follows it
pub data ExpBegun (R : List Sym) (w : Token) (z : Option TokenSort) : List Token → Type 0 where
  exp_begun : (us rest : List Token) → ExprS (w ∷ us) (first_or rest z) → Fulfils R rest z → ExpBegun R w z (us ++ rest)

pub exp_began : (w : Token) (sort : TokenSort) (R : List Sym) (z : Option TokenSort) (us : List Token) → ExpStart w sort → Fulfils (strip (exp_take sort w ++ R)) us z → ExpBegun (strip R) w z us
exp_began w sort R z us b f = go (split (strip (exp_take sort w)) (strip R) z (subst (λ β. Fulfils β us z) (strip_append (exp_take sort w) R) f))
  where
    go : {ts : List Token} → Split (strip (exp_take sort w)) (strip R) z ts → ExpBegun (strip R) w z ts
    go (parts u rest g k) = exp_begun u rest (exp_took w sort u (first_or rest z) b g) k

-- parts of conjunctions
and-tail : (w : Token) (us : List Token) (z : Option TokenSort) → TailD w us z → TailS (AndS (w ∷ us) z) (w ∷ us) z
and-tail w us z (tail_d o x ends) = a_tail o x ends

or-tail : (w : Token) (us : List Token) (z : Option TokenSort) → TailD w us z → TailS (OrS (w ∷ us) z) (w ∷ us) z
or-tail w us z (tail_d o x ends) = a_tail o x ends

op-takes : (w : Token) (sort : TokenSort) → Seen w.form sort → is_op_name sort ≡ true → (op : Token) → IsMark (codes "op") op → ExExp atx (op ∷ w ∷ [])
unfolding is_op_name equal_mark
op-takes w _ (seen_name e n) h op i = (exp_at w.span (ef.Name (text_of w.form)), [], atx_op op w (text_of w.form) i (record { is = e }))
op-takes w _ (seen_infix level e n) h op i = (exp_at w.span (ef.Name (text_of w.form)), [], atx_op op w (text_of w.form) i (record { is = e }))
op-takes w _ (seen_star e) h op i = (exp_at w.span (ef.Name (codes "*")), [], atx_op op w (codes "*") i (record { is = e }))
op-takes w _ (seen_cons e) h op i = (exp_at w.span (ef.Name (codes "::")), [], atx_op op w (codes "::") i (record { is = e }))
op-takes w _ (seen_mark mark e) h op i = go (same_mark mark m.Equal) refl h
  where
    go : (b : Bool) → same_mark mark m.Equal ≡ b → cond b true false ≡ true → ExExp atx (op ∷ w ∷ [])
    go true q h = (exp_at w.span (ef.Name (codes "=")), [], atx_op_equals op w i (record { is = e ∙ ap (λ (k : Mark). f.Mark (spelling k)) (same-marks mark m.Equal q) }))
    go false q h = cc
op-takes w _ _ h op i = cc

op-sound : (w : Token) (sort : TokenSort) (us : List Token) (z : Option TokenSort) → Seen w.form sort → is_op_name sort ≡ true → Fulfils [] us z → (op : Token) → IsMark (codes "op") op → ExExp atx (op ∷ w ∷ us)
op-sound w sort _ z e h done op i = op-takes w sort e h op i

pub fine_exp : (phrase : ExpPhrase) (w : Token) (sort : TokenSort) → Seen w.form sort → Fine (s.Exp phrase) w sort (at_exp phrase sort w)
fine_exp xp.Whole w sort e = by_cond (begins_exp sort)
    (λ h. takes (λ us z f. exp_took w sort us z (exp_start w sort e h) f) (λ st (q, g). exp_good w sort st (exp_start w sort e h) q g) (λ n l. exp_low w sort (suc n) (exp_start w sort e h)))
    (λ h. fails)
fine_exp xp.AndPart w sort e = by_cond (begins_atom sort)
    (λ h. takes (λ us z f. no_tail (and-end w z (and-rest w.span.from w.span.from _ w z (operand-rest 0 w.span.from w.span.from _ w z (atom_began w sort _ z us (atom_start w sort e h) f)))))
    (λ st (q, g). atom_good w sort _ st (atom_start w sort e h) q (q, (q, (q, (q, g))))) (λ n l. atom_low w sort (suc n) _ (atom_start w sort e h) refl))
    (λ k. by_cond (begins_tail sort)
    (λ h. takes (λ us z f. and-tail w us z (tail_took w sort w.span.from us z (tail_start w sort e h) f)) (λ st (q, g). tail_good w sort w.span.from st (tail_start w sort e h) q g) (λ n l. tail_low w sort w.span.from (suc n) (tail_start w sort e h)))
    (λ h. fails))
fine_exp xp.OrPart w sort e = by_cond (begins_atom sort)
    (λ h. takes (λ us z f. no_tail (or-end w z (or-rest w.span.from _ w z (and-rest w.span.from w.span.from _ w z (operand-rest 0 w.span.from w.span.from _ w z (atom_began w sort _ z us (atom_start w sort e h) f))))))
    (λ st (q, g). atom_good w sort _ st (atom_start w sort e h) q (q, (q, (q, (q, (q, g)))))) (λ n l. atom_low w sort (suc n) _ (atom_start w sort e h) refl))
    (λ k. by_cond (begins_tail sort)
    (λ h. takes (λ us z f. or-tail w us z (tail_took w sort w.span.from us z (tail_start w sort e h) f)) (λ st (q, g). tail_good w sort w.span.from st (tail_start w sort e h) q g) (λ n l. tail_low w sort w.span.from (suc n) (tail_start w sort e h)))
    (λ h. fails))
fine_exp (xp.Operand n) w sort e = by_cond (begins_atom sort)
    (λ h. takes (λ us z f. operand-end n w z (operand-rest n w.span.from w.span.from _ w z (atom_began w sort _ z us (atom_start w sort e h) f)))
    (λ st (q, g). atom_good w sort _ st (atom_start w sort e h) q (q, (q, g))) (λ k l. atom_low w sort (suc k) _ (atom_start w sort e h) refl))
    (λ h. fails)
fine_exp xp.OpName w sort e = by_cond (is_op_name sort) (λ h. takes (λ us z f. op-sound w sort us z e h f) (λ st (q, g). g) (λ n l. refl)) (λ h. fails)

-- infix names
inf-down : (j k : ℕ) (ts : List Token) → j ≤ k → ExExp (inf k) ts → ExExp (inf j) ts
inf-down j zero ts h x = subst (λ n. ExExp (inf n) ts) (same-zero j h) x
  where
    same-zero : (j : ℕ) → j ≤ zero → zero ≡ j
    same-zero j h = omega arith
inf-down j (suc k) ts h (x, ls, d) = elim (leb_tells j k) [ inl w ↦ inf-down j k ts w.1 (x, ls, inf_up d) | inr w ↦ subst (λ n. ExExp (inf n) ts) (same-suc j k h w.1) (x, ls, d) ]
  where
    same-suc : (j k : ℕ) → j ≤ suc k → k < j → suc k ≡ j
    same-suc j k h g = omega arith

-- the right operand of a level that groups to the left begins one level above it
next-level : (l : ℕ) → l < 8 → cond (nat_lt l 8) (l + 1) 8 ≡ suc l
next-level l h = ap (λ b. cond b (l + 1) 8) (lt-ltb l 8 h) ∙ plus l
  where
    plus : (l : ℕ) → l + 1 ≡ suc l
    plus l = omega arith

infix-form : (w : Token) (name : List ℕ) (l k : ℕ) (ts us : List Token) → IsInfix l name w → l < 8 → left_level l ≤ k → ExExp (inf k) ts → ExExp (inf (operand_level l)) us → ExExp (inf l) (ts ++ w ∷ us)
unfolding operand_level
infix-form w name l k ts us i low_ h x y = go (l == 5) refl h y
  where
    left : ExExp (inf (suc l)) ts → ExExp (inf 5) us → (l == 5) ≡ true → ExExp (inf l) (ts ++ w ∷ us)
    left (x, ls, d) y r = let z : ExExp (inf l) us = subst (λ n. ExExp (inf n) us) (sym (eqb-true l 5 r)) y in
        (infix_exp (extent (ts ++ w ∷ us)) (exp_at w.span (ef.Name name)) x z.0, ls ++ z.1, inf_right w i r d z.2)

    right : ExExp (inf l) ts → ExExp (inf (cond (nat_lt l 8) (l + 1) 8)) us → (l == 5) ≡ false → ExExp (inf l) (ts ++ w ∷ us)
    right (x, ls, d) y r = let z : ExExp (inf (suc l)) us = subst (λ n. ExExp (inf n) us) (next-level l low_) y in
        (infix_exp (extent (ts ++ w ∷ us)) (exp_at w.span (ef.Name name)) x z.0, ls ++ z.1, inf_left w i r d z.2)

    go : (b : Bool) → (l == 5) ≡ b → cond b (suc l) l ≤ k → ExExp (inf (cond b 5 (cond (nat_lt l 8) (l + 1) 8))) us → ExExp (inf l) (ts ++ w ∷ us)
    go true r g y = left (inf-down (suc l) k ts g x) y r
    go false r g y = right (inf-down l k ts g x) y r

-- what doesn't go on with a right operand is clear behind the infix form
under-clear : (l : ℕ) (z : Option TokenSort) → l < 8 → Under (operand_level l) z → Clear l z
unfolding operand_level
under-clear l None low_ h = tt
under-clear l (Some sort) low_ h = λ k. go (l == 5) (level_of sort == 5) refl refl (h k)
  where
    go : (b c : Bool) → (l == 5) ≡ b → (level_of sort == 5) ≡ c → level_of sort < cond b 5 (cond (nat_lt l 8) (l + 1) 8) → cond c (suc (level_of sort)) (level_of sort) ≤ l
    go true true p q g = five (level_of sort) (eqb-true (level_of sort) 5 q) g
      where
        five : (a : ℕ) → a ≡ 5 → a < 5 → suc a ≤ l
        five a e g = omega arith
    go true false p q g = four (level_of sort) l (eqb-true l 5 p) g
      where
        four : (a l : ℕ) → l ≡ 5 → a < 5 → a ≤ l
        four a l e g = omega arith
    go false true p q g = above (level_of sort) l (eqb-true (level_of sort) 5 q) (eqb-false l 5 p) (subst (λ n. level_of sort < n) (next-level l low_) g)
      where
        above : (a l : ℕ) → a ≡ 5 → (l ≡ 5 → ⊥) → a < suc l → suc a ≤ l
        above a l e n g = omega arith
    go false false p q g = below (level_of sort) l (subst (λ n. level_of sort < n) (next-level l low_) g)
      where
        below : (a l : ℕ) → a < suc l → a ≤ l
        below a l g = omega arith

infix-takes : (w : Token) (name : List ℕ) (l n from : ℕ) (us : List Token) (z : Option TokenSort) → IsInfix l name w → l < 8 → n ≤ l →
    Fulfils (s.Exp (xp.Operand (operand_level l)) ∷ s.ExpRest (xr.Infix n from) ∷ []) us z →
    (k : ℕ) (ts0 : List Token) → n ≤ k → ExExp (inf k) ts0 → left_level l ≤ k → ExExp (inf n) (ts0 ++ w ∷ us) × Under n z
infix-takes w name l n from _ z i low_ g (reads u1 _ y (reads u2 _ h done)) = λ k ts0 nk x cl.
    let grown : ExExp (inf l) (ts0 ++ w ∷ u1) = infix-form w name l k ts0 u1 i low_ cl x y.0 in
    let clear : Clear l (first_or u2 z) = subst (λ v. Clear l v) (first-append u2 [] z) (under-clear l (first_or (u2 ++ []) z) low_ y.1) in
    let rest : ExExp (inf n) ((ts0 ++ w ∷ u1) ++ u2) × Under n z = h l (ts0 ++ w ∷ u1) g grown clear in
    (over (append_assoc ts0 (w ∷ u1) u2 ∙ ap (λ ts. ts0 ++ w ∷ (u1 ++ ts)) (nil u2)) rest.0, rest.1)

infix-skip : (n k : ℕ) (ts0 : List Token) (sort : TokenSort) → n ≤ k → ExExp (inf k) ts0 → (is_infix sort ≡ true → level_of sort < n) → ExExp (inf n) (ts0 ++ []) × Under n (Some sort)
infix-skip n k ts0 sort h x u = (over (nil ts0) (inf-down n k ts0 h x), u)

-- applications, and what binds weaker
app-takes : (w : Token) (from : ℕ) (z : Option TokenSort) {us : List Token} → Begun (ExExp atx) (s.ExpRest (xr.App from) ∷ []) w z us → (ts0 : List Token) → ExExp app ts0 → ExExp app (ts0 ++ w ∷ us)
app-takes w from z (begun us rest (y, ms, k) f) ts0 (x, ls, d) =
    over (append_assoc ts0 (w ∷ us) rest) (last f (ts0 ++ w ∷ us) (exp_at (extent (ts0 ++ w ∷ us)) (ef.App x y), ls ++ ms, app_to d k))

typed-more : (w : Token) (u ts0 : List Token) → IsMark (codes ":") w → ExTy (ty false) u → ExExp tyx ts0 → ExExp tyx (ts0 ++ w ∷ u)
typed-more w u ts0 i (y, ms, k) (x, ls, d) = (exp_at (extent (ts0 ++ w ∷ u)) (ef.Typed x y), ls ++ ms, tyx_typed w d i k)

typed-takes : (w : Token) (from : ℕ) (us : List Token) (z : Option TokenSort) → IsMark (codes ":") w → Fulfils (s.Ty (tp.Whole false) ∷ s.ExpRest (xr.Typed from) ∷ []) us z → (ts0 : List Token) → ExExp tyx ts0 → ExExp tyx (ts0 ++ w ∷ us)
typed-takes w from _ z i (reads u1 u2 y f) ts0 x = over (append_assoc ts0 (w ∷ u1) u2) (last f (ts0 ++ w ∷ u1) (typed-more w u1 ts0 i y x))

and-sound : (w : Token) (us ts0 : List Token) (z : Option TokenSort) → IsMark (codes "andalso") w → TailS (AndS us z) us z → ExExp tyx ts0 → AndS (ts0 ++ w ∷ us) z
and-sound w us ts0 z i (no_tail (closed_and (y, ms, k))) (x, ls, d) = closed_and (exp_at (extent (ts0 ++ w ∷ us)) (ef.Both x y), ls ++ ms, andc_both w d i k)
and-sound w us ts0 z i (no_tail (open_and o (y, ms, k) ends)) (x, ls, d) = open_and o (exp_at (extent (ts0 ++ w ∷ us)) (ef.Both x y), ls ++ ms, ande_more w d i k) ends
and-sound w us ts0 z i (a_tail o (y, ms, k) ends) (x, ls, d) = open_and o (exp_at (extent (ts0 ++ w ∷ us)) (ef.Both x y), ls ++ ms, ande_tail w d i k) ends

both-ways : (b : Bool) → b ≡ true → b ≡ false → ⊥
both-ways b h k = cc

or-sound : (w : Token) (us ts0 : List Token) (z : Option TokenSort) → IsMark (codes "orelse") w → TailS (OrS us z) us z → AndS ts0 (Some (sort_of w.form)) → OrS (ts0 ++ w ∷ us) z
or-sound w us ts0 z i (no_tail (closed_or (y, ms, k) h)) (closed_and (x, ls, d)) = closed_or (exp_at (extent (ts0 ++ w ∷ us)) (ef.Either x y), ls ++ ms, orc_either w d i k) h
or-sound w us ts0 z i (no_tail (open_or o (y, ms, k) ends)) (closed_and (x, ls, d)) = open_or o (exp_at (extent (ts0 ++ w ∷ us)) (ef.Either x y), ls ++ ms, ore_more w d i k) ends
or-sound w us ts0 z i (a_tail o (y, ms, k) ends) (closed_and (x, ls, d)) = open_or o (exp_at (extent (ts0 ++ w ∷ us)) (ef.Either x y), ls ++ ms, ore_tail w d i k) ends
or-sound w us ts0 z i y (open_and o x ends) = absurd (both-ways (is_mark m.OrElse (sort_of w.form)) (mark_is m.OrElse w i) ends.no_or)

handle-sound : (w : Token) (us ts0 : List Token) (z : Option TokenSort) → IsMark (codes "handle") w → MatchS us z → OrS ts0 (Some (sort_of w.form)) → ExprS (ts0 ++ w ∷ us) z
handle-sound w us ts0 z i (match_s (rs, ms, k) ends) (closed_or (x, ls, d) h) = expr_s true (exp_at (extent (ts0 ++ w ∷ us)) (ef.Handle x rs), ls ++ ms, exp_handle w d i k) ends
handle-sound w us ts0 z i y (open_or o x ends) = absurd (both-ways (is_mark m.Handle (sort_of w.form)) (mark_is m.Handle w i) ends.no_handle)

and-skip : (ts0 : List Token) (z : Option TokenSort) → ExExp tyx ts0 → AndS (ts0 ++ []) z
and-skip ts0 z (x, ls, d) = closed_and (over (nil ts0) (x, ls, andc_one d))

or-skip : (ts0 : List Token) (z : Option TokenSort) → Not m.OrElse z → AndS ts0 z → OrS (ts0 ++ []) z
or-skip ts0 z h (closed_and (x, ls, d)) = closed_or (over (nil ts0) (x, ls, orc_one d)) h
or-skip ts0 z h (open_and o (x, ls, d) ends) = open_or o (over (nil ts0) (x, ls, ore_one d)) ends

handle-skip : (ts0 : List Token) (z : Option TokenSort) → Not m.Handle z → OrS ts0 z → ExprS (ts0 ++ []) z
handle-skip ts0 z h (closed_or (x, ls, d) k) = expr_s false (over (nil ts0) (x, ls, exp_orc d)) (record { no_or = k; no_handle = h; no_bar = tt })
handle-skip ts0 z h (open_or o (x, ls, d) ends) = expr_s o (over (nil ts0) (x, ls, exp_ore d)) ends

bar-takes : (w : Token) (us : List Token) (z : Option TokenSort) → IsMark (codes "|") w → MatchS us z → BarS z (w ∷ us)
bar-takes w us z i h = a_bar w us i h

-- the symbols that stand behind an `and`, an `or` and a match
pub rest_end : (phrase : ExpRest) (z : Option TokenSort) → Quiet z → Sem (s.ExpRest phrase) [] z
rest_end (xr.App from) z q = λ ts0 d. over (nil ts0) d
rest_end (xr.Infix n from) z q = λ k ts0 h x c. (over (nil ts0) (inf-down n k ts0 h x), under n z q.no_infix)
  where
    under : (n : ℕ) (z : Option TokenSort) → NoInfix z → Under n z
    under n None h = tt
    under n (Some sort) h = λ k. absurd (both-ways (is_infix sort) k h)
rest_end (xr.Typed from) z q = λ ts0 d. over (nil ts0) d
rest_end (xr.And from) z q = λ ts0 d. and-skip ts0 z d
rest_end (xr.Or from) z q = λ ts0 d. or-skip ts0 z q.no_or d
rest_end (xr.Handle from) z q = λ ts0 d. handle-skip ts0 z q.no_handle d
rest_end xr.Match z q = no_more q.no_bar

pub fine_exp_rest : (phrase : ExpRest) (w : Token) → Fine (s.ExpRest phrase) w (sort_of w.form) (at_exp_rest phrase (sort_of w.form) w)
fine_exp_rest (xr.App from) w = by_cond (begins_atom (sort_of w.form))
    (λ h. takes (λ us z f. app-takes w from z (atom_began w (sort_of w.form) _ z us (atom_start w (sort_of w.form) (seen w.form) h) f))
    (λ st (q, g). atom_good w (sort_of w.form) _ st (atom_start w (sort_of w.form) (seen w.form) h) q (q, g)) (λ n l. atom_low w (sort_of w.form) (suc n) _ (atom_start w (sort_of w.form) (seen w.form) h) refl))
    (λ h. skips (λ ts0 d. over (nil ts0) d))
fine_exp_rest (xr.Infix n from) w = by_cond (is_infix (sort_of w.form))
    (λ h. by_cond (nat_le n (level_of (sort_of w.form)))
    (λ k. takes (λ us z f. λ i ts0 ni x c. (let name : (name : List ℕ) × IsInfix (level_of (sort_of w.form)) name w × (level_of (sort_of w.form) < 8) = infix_exp_of w (sort_of w.form) (seen w.form) h in
    infix-takes w name.0 (level_of (sort_of w.form)) n from us z name.1 name.2 (leb-true n (level_of (sort_of w.form)) k) f i ts0 ni x (c h)))
    (λ st (q, g). (q, (q, g))) (λ j l. refl))
    (λ k. skips (λ i ts0 ni x c. infix-skip n i ts0 (sort_of w.form) ni x (λ j. leb-false n (level_of (sort_of w.form)) k))))
    (λ h. skips (λ i ts0 ni x c. infix-skip n i ts0 (sort_of w.form) ni x (λ j. absurd (both-ways (is_infix (sort_of w.form)) j h))))
fine_exp_rest (xr.Typed from) w = by_cond (is_mark m.Colon (sort_of w.form)) (λ h. takes (λ us z f. typed-takes w from us z (marked m.Colon w (sort_of w.form) (seen w.form) h) f) (λ st (q, g). (q, g)) (λ n l. refl)) (λ h. skips (λ ts0 d. over (nil ts0) d))
fine_exp_rest (xr.And from) w = by_cond (is_mark m.AndAlso (sort_of w.form)) (λ h. takes (λ us z f. λ ts0 x. and-sound w us ts0 z (marked m.AndAlso w (sort_of w.form) (seen w.form) h) (last f) x) (λ st (q, g). (q, g)) (λ n l. refl)) (λ h. skips (λ ts0 d. and-skip ts0 (Some (sort_of w.form)) d))
fine_exp_rest (xr.Or from) w = by_cond (is_mark m.OrElse (sort_of w.form)) (λ h. takes (λ us z f. λ ts0 x. or-sound w us ts0 z (marked m.OrElse w (sort_of w.form) (seen w.form) h) (last f) x) (λ st (q, g). (q, g)) (λ n l. refl)) (λ h. skips (λ ts0 d. or-skip ts0 (Some (sort_of w.form)) h d))
fine_exp_rest (xr.Handle from) w = by_cond (is_mark m.Handle (sort_of w.form)) (λ h. takes (λ us z f. λ ts0 x. handle-sound w us ts0 z (marked m.Handle w (sort_of w.form) (seen w.form) h) (match_takes us z f) x) (λ st (q, g). (q, (q, g))) (λ n l. refl)) (λ h. skips (λ ts0 d. handle-skip ts0 (Some (sort_of w.form)) h d))
fine_exp_rest xr.Match w = by_cond (is_mark m.Bar (sort_of w.form)) (λ h. takes (λ us z f. bar-takes w us z (marked m.Bar w (sort_of w.form) (seen w.form) h) (match_takes us z f)) (λ st (q, g). (q, (q, g))) (λ n l. refl)) (λ h. skips (no_more h))
