-- Patterns: each entry of the table derives a form of the grammar.
use Rattle.std.proofs.Common.{◌≡◌, ℕ, suc, List, [], ◌∷◌, ◌++◌, true, false, Option, refl, ap, sym, ◌∙◌, subst, append_assoc, append-nil, codes, ℤ}
use Rattle.sml_syntax.specs.declared.token.Token.{Token}
use Rattle.sml_syntax.specs.declared.token.TokenForm.TheVariants as f
use Rattle.sml_syntax.specs.declared.tree.PatForm.TheVariants as p
use Rattle.grammar_rules.specs.Nodes.{pat_at, extent, span_of, last_of, cons_pat}
use Rattle.grammar_rules.specs.Grammar.{Phrase, IsMark, IsAnyName, IsTypeName, atpat, apat, cpat, pat, ty, head_name, head_op, atpat_any, atpat_int, atpat_char, atpat_str, atpat_name, atpat_unit, atpat_paren, atpat_tuple, atpat_no_list, atpat_list, pats_one, pats_more, apat_one, apat_con, cpat_one, cpat_cons, pat_one, pat_typed}
use Rattle.sml_grammar.specs.declared.mark.Mark.{Mark}
use Rattle.sml_grammar.specs.declared.mark.Mark.TheVariants as m
use Rattle.sml_grammar.specs.declared.token_sort.TokenSort.{TokenSort}
use Rattle.sml_grammar.specs.declared.token_sort.TokenSort.TheVariants as o
use Rattle.sml_grammar.specs.declared.symbol.Sym.{Sym}
use Rattle.sml_grammar.specs.declared.symbol.Sym.TheVariants as s
use Rattle.sml_grammar.specs.declared.symbol.PatPhrase.{PatPhrase}
use Rattle.sml_grammar.specs.declared.symbol.PatPhrase.TheVariants as pp
use Rattle.sml_grammar.specs.declared.symbol.PatItems.{PatItems}
use Rattle.sml_grammar.specs.declared.symbol.PatItems.TheVariants as pi
use Rattle.sml_grammar.specs.Marks.{same_mark, mark_number}
use Rattle.sml_grammar.specs.Sorts.{is_mark, begins_pat, pattern_mark, is_type_name, is_any_name, is_cons}
use Rattle.sml_grammar.specs.Tokens.{text_of}
use Rattle.sml_grammar.specs.Takes.{pat_take, apat_take, atpat_take, pat_mark_take}
use Rattle.sml_grammar.specs.Tables.{at_pat, at_pat_items}
use Rattle.grammar_sound.proofs.Seen.{Seen, seen_int, seen_char, seen_str, seen_name, seen_long, seen_mark, spelling, marked, type_named, long_named, cons_of, any_name_of}
use Rattle.grammar_sound.proofs.Sem.{Sem, Fulfils, done, reads, ExPat, ExHead, ExTy, PatItemsS, no_pats, more_pats, last, nil}
use Rattle.grammar_sound.proofs.Fine.{Fine, takes, skips, fails, by_cond, Begun, begun, strip, Good, low}

-- the same form over tokens that are grouped otherwise
pub over : {c : Phrase} {ts us : List Token} → ts ≡ us → ExPat c ts → ExPat c us
over {c} h d = subst (λ w. ExPat c w) h d

-- the token that begins a pattern
pub data PatStart (w : Token) : TokenSort → Type 0 where
  start_int : (number : ℤ) → w.form ≡ f.Int number → PatStart w (o.Int number)
  start_char : (byte : ℕ) → w.form ≡ f.Char byte → PatStart w (o.Char byte)
  start_str : w.form ≡ f.Str (text_of w.form) → PatStart w o.Str
  start_name : IsTypeName (text_of w.form) w → PatStart w o.Name
  start_long : IsTypeName (text_of w.form) w → PatStart w o.Long
  start_any : IsMark (codes "_") w → PatStart w (o.Mark m.Wildcard)
  start_op : IsMark (codes "op") w → PatStart w (o.Mark m.Op)
  start_open : IsMark (codes "(") w → PatStart w (o.Mark m.Open)
  start_bracket : IsMark (codes "[") w → PatStart w (o.Mark m.OpenBracket)

mark-start : (w : Token) (mark : Mark) → IsMark (spelling mark) w → pattern_mark mark ≡ true → PatStart w (o.Mark mark)
unfolding pattern_mark same_mark mark_number
mark-start w m.Wildcard i h = start_any i
mark-start w m.Op i h = start_op i
mark-start w m.Open i h = start_open i
mark-start w m.OpenBracket i h = start_bracket i
mark-start w _ i h = cc

pub pat_start : (w : Token) (sort : TokenSort) → Seen w.form sort → begins_pat sort ≡ true → PatStart w sort
unfolding begins_pat
pat_start w _ (seen_int number e) h = start_int number e
pat_start w _ (seen_char byte e) h = start_char byte e
pat_start w _ (seen_str e) h = start_str e
pat_start w _ (seen_name e n) h = start_name (type_named w e n)
pat_start w _ (seen_long e) h = start_long (long_named w e)
pat_start w _ (seen_mark mark e) h = mark-start w mark (record { is = e }) h
pat_start w _ _ h = cc

-- an atomic pattern that begins with this token
pub atpat_began : (w : Token) (sort : TokenSort) (R : List Sym) (z : Option TokenSort) (us : List Token) → PatStart w sort → Fulfils (strip (atpat_take sort w ++ R)) us z → Begun (ExPat atpat) (strip R) w z us
unfolding atpat_take pat_mark_take same_mark mark_number
atpat_began w _ R z us (start_int number e) f = begun [] us (pat_at w.span (p.Int number), [], atpat_int w number e) f
atpat_began w _ R z us (start_char byte e) f = begun [] us (pat_at w.span (p.Char byte), [], atpat_char w byte e) f
atpat_began w _ R z us (start_str e) f = begun [] us (pat_at w.span (p.Str (text_of w.form)), [], atpat_str w (text_of w.form) e) f
atpat_began w _ R z us (start_name h) f = begun [] us (pat_at (span_of w.span.from w.span.to) (p.Name (text_of w.form)), [], atpat_name (head_name w (text_of w.form) h)) f
atpat_began w _ R z us (start_long h) f = begun [] us (pat_at (span_of w.span.from w.span.to) (p.Name (text_of w.form)), [], atpat_name (head_name w (text_of w.form) h)) f
atpat_began w _ R z us (start_any i) f = begun [] us (pat_at w.span p.Any, [], atpat_any w i) f
atpat_began w _ R z _ (start_op i) (reads u rest h f) = begun u rest (h w i) f
atpat_began w _ R z _ (start_open i) (reads u rest h f) = begun u rest (h w i) f
atpat_began w _ R z _ (start_bracket i) (reads u rest h f) = begun u rest (h w i) f

pub atpat_good : (w : Token) (sort : TokenSort) (R st : List Sym) → PatStart w sort → Good (R ++ st) → Good ((atpat_take sort w ++ R) ++ st)
unfolding atpat_take pat_mark_take same_mark mark_number
atpat_good w _ R st (start_int number e) g = g
atpat_good w _ R st (start_char byte e) g = g
atpat_good w _ R st (start_str e) g = g
atpat_good w _ R st (start_name h) g = g
atpat_good w _ R st (start_long h) g = g
atpat_good w _ R st (start_any i) g = g
atpat_good w _ R st (start_op i) g = g
atpat_good w _ R st (start_open i) g = g
atpat_good w _ R st (start_bracket i) g = g

pub atpat_low : (w : Token) (sort : TokenSort) (n : ℕ) (R : List Sym) → PatStart w sort → low n R ≡ true → low n (atpat_take sort w ++ R) ≡ true
unfolding atpat_take pat_mark_take same_mark mark_number
atpat_low w _ n R (start_int number e) g = g
atpat_low w _ n R (start_char byte e) g = g
atpat_low w _ n R (start_str e) g = g
atpat_low w _ n R (start_name h) g = g
atpat_low w _ n R (start_long h) g = g
atpat_low w _ n R (start_any i) g = g
atpat_low w _ n R (start_op i) g = g
atpat_low w _ n R (start_open i) g = g
atpat_low w _ n R (start_bracket i) g = g

-- a pattern without `::` that begins with this token
only : (w : Token) (R : List Sym) (z : Option TokenSort) {us : List Token} → Begun (ExPat atpat) R w z us → Begun (ExPat apat) R w z us
only w R z (begun us rest d f) = begun us rest (d.0, d.1, apat_one d.2) f

pub apat_began : (w : Token) (sort : TokenSort) (R : List Sym) (z : Option TokenSort) (us : List Token) → PatStart w sort → Fulfils (strip (apat_take sort w ++ R)) us z → Begun (ExPat apat) (strip R) w z us
unfolding apat_take is_type_name is_mark same_mark mark_number
apat_began w _ R z us (start_int number e) f = only w (strip R) z (atpat_began w _ R z us (start_int number e) f)
apat_began w _ R z us (start_char byte e) f = only w (strip R) z (atpat_began w _ R z us (start_char byte e) f)
apat_began w _ R z us (start_str e) f = only w (strip R) z (atpat_began w _ R z us (start_str e) f)
apat_began w _ R z _ (start_name i) (reads u rest h f) = begun u rest (h (w ∷ []) (w.span.from, text_of w.form, head_name w (text_of w.form) i)) f
apat_began w _ R z _ (start_long i) (reads u rest h f) = begun u rest (h (w ∷ []) (w.span.from, text_of w.form, head_name w (text_of w.form) i)) f
apat_began w _ R z us (start_any i) f = only w (strip R) z (atpat_began w _ R z us (start_any i) f)
apat_began w _ R z _ (start_op i) (reads u rest h f) = begun u rest (h w i) f
apat_began w _ R z us (start_open i) f = only w (strip R) z (atpat_began w _ R z us (start_open i) f)
apat_began w _ R z us (start_bracket i) f = only w (strip R) z (atpat_began w _ R z us (start_bracket i) f)

pub apat_good : (w : Token) (sort : TokenSort) (R st : List Sym) → PatStart w sort → Good (R ++ st) → Good ((apat_take sort w ++ R) ++ st)
unfolding apat_take is_type_name is_mark same_mark mark_number
apat_good w _ R st (start_int number e) g = atpat_good w _ R st (start_int number e) g
apat_good w _ R st (start_char byte e) g = atpat_good w _ R st (start_char byte e) g
apat_good w _ R st (start_str e) g = atpat_good w _ R st (start_str e) g
apat_good w _ R st (start_name h) g = g
apat_good w _ R st (start_long h) g = g
apat_good w _ R st (start_any i) g = atpat_good w _ R st (start_any i) g
apat_good w _ R st (start_op i) g = g
apat_good w _ R st (start_open i) g = atpat_good w _ R st (start_open i) g
apat_good w _ R st (start_bracket i) g = atpat_good w _ R st (start_bracket i) g

pub apat_low : (w : Token) (sort : TokenSort) (n : ℕ) (R : List Sym) → PatStart w sort → low n R ≡ true → low n (apat_take sort w ++ R) ≡ true
unfolding apat_take is_type_name is_mark same_mark mark_number
apat_low w _ n R (start_int number e) g = atpat_low w _ n R (start_int number e) g
apat_low w _ n R (start_char byte e) g = atpat_low w _ n R (start_char byte e) g
apat_low w _ n R (start_str e) g = atpat_low w _ n R (start_str e) g
apat_low w _ n R (start_name h) g = g
apat_low w _ n R (start_long h) g = g
apat_low w _ n R (start_any i) g = atpat_low w _ n R (start_any i) g
apat_low w _ n R (start_op i) g = g
apat_low w _ n R (start_open i) g = atpat_low w _ n R (start_open i) g
apat_low w _ n R (start_bracket i) g = atpat_low w _ n R (start_bracket i) g

-- a pattern that begins with this token
typed : (w : Token) (a b : ℕ) (R : List Sym) (z : Option TokenSort) {us : List Token} → Begun (ExPat apat) (s.Pat (pp.ConsRest a) ∷ s.Pat (pp.TypedRest b) ∷ R) w z us → Begun (ExPat pat) R w z us
typed w a b R z (begun us _ d (reads u1 _ h (reads u2 rest k f))) =
    subst (Begun (ExPat pat) R w z) (append_assoc (us ++ u1) u2 rest ∙ append_assoc us u1 (u2 ++ rest)) (begun ((us ++ u1) ++ u2) rest (k (w ∷ us ++ u1) (h (w ∷ us) d)) f)

pub pat_began : (w : Token) (sort : TokenSort) (R : List Sym) (z : Option TokenSort) (us : List Token) → PatStart w sort → Fulfils (strip (pat_take sort w ++ R)) us z → Begun (ExPat pat) (strip R) w z us
unfolding pat_take
pat_began w sort R z us b f =
    typed w w.span.from w.span.from (strip R) z (apat_began w sort (s.Pat (pp.ConsRest w.span.from) ∷ s.Pat (pp.TypedRest w.span.from) ∷ R) z us b
    (subst (λ st. Fulfils (strip st) us z) (append_assoc (apat_take sort w) (s.Pat (pp.ConsRest w.span.from) ∷ s.Pat (pp.TypedRest w.span.from) ∷ []) R) f))

pub pat_good : (w : Token) (sort : TokenSort) (R st : List Sym) → PatStart w sort → Good (R ++ st) → Good ((pat_take sort w ++ R) ++ st)
unfolding pat_take
pat_good w sort R st b g =
    subst (λ β. Good (β ++ st)) (sym (append_assoc (apat_take sort w) (s.Pat (pp.ConsRest w.span.from) ∷ s.Pat (pp.TypedRest w.span.from) ∷ []) R))
    (apat_good w sort (s.Pat (pp.ConsRest w.span.from) ∷ s.Pat (pp.TypedRest w.span.from) ∷ R) st b g)

pub pat_low : (w : Token) (sort : TokenSort) (n : ℕ) (R : List Sym) → PatStart w sort → low n R ≡ true → low n (pat_take sort w ++ R) ≡ true
unfolding pat_take
pat_low w sort n R b g =
    subst (λ β. low n β ≡ true) (sym (append_assoc (apat_take sort w) (s.Pat (pp.ConsRest w.span.from) ∷ s.Pat (pp.TypedRest w.span.from) ∷ []) R))
    (apat_low w sort n (s.Pat (pp.ConsRest w.span.from) ∷ s.Pat (pp.TypedRest w.span.from) ∷ R) b g)

-- a form that ends with what it began with
pub alone : {P : List Token → Type 0} {w : Token} {z : Option TokenSort} {us : List Token} → Begun P [] w z us → P (w ∷ us)
alone {P} {w} (begun us _ d done) = subst (λ ts. P (w ∷ ts)) (nil us) d

-- the rests
cons-rest : (w : Token) (R : List Sym) (a : ℕ) (z : Option TokenSort) {us : List Token} → Begun (ExPat apat) (s.Pat (pp.ConsRest a) ∷ []) w z us → ExPat cpat (w ∷ us)
cons-rest w R a z (begun us rest d f) = last f (w ∷ us) d

cons-takes : (w : Token) (us ts0 : List Token) → IsAnyName (codes "::") w → ExPat cpat us → ExPat apat ts0 → ExPat cpat (ts0 ++ w ∷ us)
cons-takes w us ts0 i (y, ms, e) (x, ls, d) = (cons_pat (extent (ts0 ++ w ∷ us)) x y, ls ++ ms, cpat_cons w d i e)

typed-takes : (w : Token) (us ts0 : List Token) → IsMark (codes ":") w → ExTy (ty false) us → ExPat cpat ts0 → ExPat pat (ts0 ++ w ∷ us)
typed-takes w us ts0 i (y, ms, e) (x, ls, d) = (pat_at (extent (ts0 ++ w ∷ us)) (p.Typed x y), ls ++ ms, pat_typed w d i e)

con-takes : (w : Token) (us ts0 : List Token) → ExPat atpat (w ∷ us) → ExHead ts0 → ExPat apat (ts0 ++ w ∷ us)
con-takes w us ts0 (x, ls, d) (place, name, h) = (pat_at (span_of place (last_of (w ∷ us))) (p.Con name x), ls, apat_con h d)

pub name-form : (ts : List Token) → ExHead ts → ExPat atpat ts
name-form ts (place, name, h) = (pat_at (span_of place (last_of ts)) (p.Name name), [], atpat_name h)

pub apat_of : {ts : List Token} → ExPat atpat ts → ExPat apat ts
apat_of d = (d.0, d.1, apat_one d.2)

op-head : (op w : Token) → IsMark (codes "op") op → IsAnyName (text_of w.form) w → ExHead (op ∷ w ∷ [])
op-head op w i h = (w.span.from, text_of w.form, head_op op w (text_of w.form) i h)

op-takes : (w : Token) (a : ℕ) (us : List Token) (z : Option TokenSort) → IsAnyName (text_of w.form) w → Fulfils (s.Pat (pp.Argument a) ∷ []) us z → (op : Token) → IsMark (codes "op") op → ExPat apat (op ∷ w ∷ us)
op-takes w a us z h f op i = last f (op ∷ w ∷ []) (op-head op w i h)

op-atom : (w : Token) (us : List Token) (z : Option TokenSort) → IsAnyName (text_of w.form) w → Fulfils [] us z → (op : Token) → IsMark (codes "op") op → ExPat atpat (op ∷ w ∷ us)
op-atom w _ z h done op i = name-form (op ∷ w ∷ []) (op-head op w i h)

pub fine_pat : (phrase : PatPhrase) (w : Token) (sort : TokenSort) → Seen w.form sort → Fine (s.Pat phrase) w sort (at_pat phrase sort w)
fine_pat pp.Whole w sort e = by_cond (begins_pat sort)
    (λ h. takes (λ us z f. alone (pat_began w sort [] z us (pat_start w sort e h) (subst (λ β. Fulfils (strip β) us z) (sym (append-nil (pat_take sort w))) f)))
    (λ st g. subst (λ β. Good (β ++ st)) (append-nil (pat_take sort w)) (pat_good w sort [] st (pat_start w sort e h) g))
    (λ n l. subst (λ β. low (suc n) β ≡ true) (append-nil (pat_take sort w)) (pat_low w sort (suc n) [] (pat_start w sort e h) refl)))
    (λ h. fails)
fine_pat pp.ConsPart w sort e = by_cond (begins_pat sort)
    (λ h. takes (λ us z f. cons-rest w [] w.span.from z (apat_began w sort (s.Pat (pp.ConsRest w.span.from) ∷ []) z us (pat_start w sort e h) f))
    (λ st g. apat_good w sort (s.Pat (pp.ConsRest w.span.from) ∷ []) st (pat_start w sort e h) g)
    (λ n l. apat_low w sort (suc n) (s.Pat (pp.ConsRest w.span.from) ∷ []) (pat_start w sort e h) refl))
    (λ h. fails)
fine_pat (pp.ConsRest from) w sort e = by_cond (is_cons sort) (λ h. takes (λ us z f. λ ts0 d. cons-takes w us ts0 (cons_of w sort e h) (last f) d) (λ st g. g) (λ n l. refl)) (λ h. skips (λ ts0 d. over (nil ts0) (d.0, d.1, cpat_one d.2)))
fine_pat (pp.TypedRest from) w sort e = by_cond (is_mark m.Colon sort) (λ h. takes (λ us z f. λ ts0 d. typed-takes w us ts0 (marked m.Colon w sort e h) (last f) d) (λ st g. g) (λ n l. refl)) (λ h. skips (λ ts0 d. over (nil ts0) (d.0, d.1, pat_one d.2)))
fine_pat pp.OpName w sort e = by_cond (is_any_name sort) (λ h. takes (λ us z f. op-takes w w.span.from us z (any_name_of w sort e h) f) (λ st g. g) (λ n l. refl)) (λ h. fails)
fine_pat (pp.Argument from) w sort e = by_cond (begins_pat sort)
    (λ h. takes (λ us z f. λ ts0 d. con-takes w us ts0 (alone (atpat_began w sort (s.Do _ ∷ []) z us (pat_start w sort e h) f)) d)
    (λ st g. atpat_good w sort (s.Do _ ∷ []) st (pat_start w sort e h) g)
    (λ n l. atpat_low w sort (suc n) (s.Do _ ∷ []) (pat_start w sort e h) refl))
    (λ h. skips (λ ts0 d. over (nil ts0) (apat_of (name-form ts0 d))))
fine_pat pp.Atomic w sort e = by_cond (begins_pat sort)
    (λ h. takes (λ us z f. alone (atpat_began w sort [] z us (pat_start w sort e h) (subst (λ β. Fulfils (strip β) us z) (sym (append-nil (atpat_take sort w))) f)))
    (λ st g. subst (λ β. Good (β ++ st)) (append-nil (atpat_take sort w)) (atpat_good w sort [] st (pat_start w sort e h) g))
    (λ n l. subst (λ β. low (suc n) β ≡ true) (append-nil (atpat_take sort w)) (atpat_low w sort (suc n) [] (pat_start w sort e h) refl)))
    (λ h. fails)
fine_pat pp.OpAtomic w sort e = by_cond (is_any_name sort) (λ h. takes (λ us z f. op-atom w us z (any_name_of w sort e h) f) (λ st g. g) (λ n l. refl)) (λ h. fails)

-- patterns in brackets
more-items : (spelled : List ℕ) (w : Token) (u : List Token) {rest : List Token} → IsMark (codes ",") w → ExPat pat u → PatItemsS spelled rest → PatItemsS spelled (w ∷ u ++ rest)
more-items spelled w u i (x, ls, d) (no_pats closing j) = more_pats w closing u i (x, [], ls, pats_one d) j
more-items spelled w u i (x, ls, d) (more_pats comma closing us h (y, more, ms, e) j) =
    subst (λ ts. PatItemsS spelled (w ∷ ts)) (append_assoc u (comma ∷ us) (closing ∷ [])) (more_pats w closing (u ++ comma ∷ us) i (x, y ∷ more, ls ++ ms, pats_more comma d h e) j)

items-takes : (spelled : List ℕ) (w : Token) (x : PatItems) (us : List Token) (z : Option TokenSort) → ((ts : List Token) → Sem (s.PatItems x) ts z → PatItemsS spelled ts) → IsMark (codes ",") w → Fulfils (s.Pat pp.Whole ∷ s.PatItems x ∷ []) us z → PatItemsS spelled (w ∷ us)
items-takes spelled w x _ z k i (reads u1 u2 d f) = more-items spelled w u1 i d (k u2 (last f))

close-takes : (spelled : List ℕ) (w : Token) (us : List Token) (z : Option TokenSort) → IsMark spelled w → Fulfils [] us z → PatItemsS spelled (w ∷ us)
close-takes spelled w _ z i done = no_pats w i

in-parens : (opening : Token) (u : List Token) {rest : List Token} → IsMark (codes "(") opening → ExPat pat u → PatItemsS (codes ")") rest → ExPat atpat (opening ∷ u ++ rest)
in-parens opening u i (x, ls, d) (no_pats closing j) = (x, ls, atpat_paren opening closing i d j)
in-parens opening u i (x, ls, d) (more_pats comma closing us h (y, more, ms, e) j) =
    over (ap (λ ts. opening ∷ ts) (append_assoc u (comma ∷ us) (closing ∷ []))) (pat_at (span_of opening.span.from closing.span.to) (p.Tuple (x ∷ y ∷ more)), ls ++ ms, atpat_tuple opening closing i (pats_more comma d h e) j)

in-brackets : (opening : Token) (u : List Token) {rest : List Token} → IsMark (codes "[") opening → ExPat pat u → PatItemsS (codes "]") rest → ExPat atpat (opening ∷ u ++ rest)
in-brackets opening u i (x, ls, d) (no_pats closing j) = (pat_at (span_of opening.span.from closing.span.to) (p.List (x ∷ [])), ls, atpat_list opening closing i (pats_one d) j)
in-brackets opening u i (x, ls, d) (more_pats comma closing us h (y, more, ms, e) j) =
    over (ap (λ ts. opening ∷ ts) (append_assoc u (comma ∷ us) (closing ∷ []))) (pat_at (span_of opening.span.from closing.span.to) (p.List (x ∷ y ∷ more)), ls ++ ms, atpat_list opening closing i (pats_more comma d h e) j)

first-parens : (w : Token) (a : ℕ) (z : Option TokenSort) {us : List Token} → Begun (ExPat pat) (s.PatItems (pi.AfterFirst a) ∷ []) w z us → (opening : Token) → IsMark (codes "(") opening → ExPat atpat (opening ∷ w ∷ us)
first-parens w a z (begun us rest d f) opening i = in-parens opening (w ∷ us) i d (last f)

first-brackets : (w : Token) (a : ℕ) (z : Option TokenSort) {us : List Token} → Begun (ExPat pat) (s.PatItems (pi.List a) ∷ []) w z us → (opening : Token) → IsMark (codes "[") opening → ExPat atpat (opening ∷ w ∷ us)
first-brackets w a z (begun us rest d f) opening i = in-brackets opening (w ∷ us) i d (last f)

unit-takes : (w : Token) (us : List Token) (z : Option TokenSort) → IsMark (codes ")") w → Fulfils [] us z → (opening : Token) → IsMark (codes "(") opening → ExPat atpat (opening ∷ w ∷ us)
unit-takes w _ z j done opening i = (pat_at (span_of opening.span.from w.span.to) p.Unit, [], atpat_unit opening w i j)

no-list : (w : Token) (us : List Token) (z : Option TokenSort) → IsMark (codes "]") w → Fulfils [] us z → (opening : Token) → IsMark (codes "[") opening → ExPat atpat (opening ∷ w ∷ us)
no-list w _ z j done opening i = (pat_at (span_of opening.span.from w.span.to) (p.List []), [], atpat_no_list opening w i j)

pub fine_pat_items : (phrase : PatItems) (w : Token) (sort : TokenSort) → Seen w.form sort → Fine (s.PatItems phrase) w sort (at_pat_items phrase sort w)
fine_pat_items (pi.Opened from) w sort e = by_cond (is_mark m.Close sort) (λ h. takes (λ us z f. unit-takes w us z (marked m.Close w sort e h) f) (λ st g. g) (λ n l. refl))
    (λ k. by_cond (begins_pat sort)
    (λ h. takes (λ us z f. first-parens w from z (pat_began w sort (s.PatItems (pi.AfterFirst from) ∷ []) z us (pat_start w sort e h) f))
    (λ st g. pat_good w sort (s.PatItems (pi.AfterFirst from) ∷ []) st (pat_start w sort e h) g)
    (λ n l. pat_low w sort (suc n) (s.PatItems (pi.AfterFirst from) ∷ []) (pat_start w sort e h) refl))
    (λ h. fails))
fine_pat_items (pi.AfterFirst from) w sort e = by_cond (is_mark m.Close sort) (λ h. takes (λ us z f. close-takes (codes ")") w us z (marked m.Close w sort e h) f) (λ st g. g) (λ n l. refl))
    (λ k. by_cond (is_mark m.Comma sort) (λ h. takes (λ us z f. items-takes (codes ")") w (pi.Tuple from) us z (λ ts x. x) (marked m.Comma w sort e h) f) (λ st g. g) (λ n l. refl)) (λ h. fails))
fine_pat_items (pi.Tuple from) w sort e = by_cond (is_mark m.Comma sort) (λ h. takes (λ us z f. items-takes (codes ")") w (pi.Tuple from) us z (λ ts x. x) (marked m.Comma w sort e h) f) (λ st g. g) (λ n l. refl))
    (λ k. by_cond (is_mark m.Close sort) (λ h. takes (λ us z f. close-takes (codes ")") w us z (marked m.Close w sort e h) f) (λ st g. g) (λ n l. refl)) (λ h. fails))
fine_pat_items (pi.OpenedList from) w sort e = by_cond (is_mark m.CloseBracket sort) (λ h. takes (λ us z f. no-list w us z (marked m.CloseBracket w sort e h) f) (λ st g. g) (λ n l. refl))
    (λ k. by_cond (begins_pat sort)
    (λ h. takes (λ us z f. first-brackets w from z (pat_began w sort (s.Do _ ∷ s.PatItems (pi.List from) ∷ []) z us (pat_start w sort e h) f))
    (λ st g. pat_good w sort (s.Do _ ∷ s.PatItems (pi.List from) ∷ []) st (pat_start w sort e h) g)
    (λ n l. pat_low w sort (suc n) (s.Do _ ∷ s.PatItems (pi.List from) ∷ []) (pat_start w sort e h) refl))
    (λ h. fails))
fine_pat_items (pi.List from) w sort e = by_cond (is_mark m.Comma sort) (λ h. takes (λ us z f. items-takes (codes "]") w (pi.List from) us z (λ ts x. x) (marked m.Comma w sort e h) f) (λ st g. g) (λ n l. refl))
    (λ k. by_cond (is_mark m.CloseBracket sort) (λ h. takes (λ us z f. close-takes (codes "]") w us z (marked m.CloseBracket w sort e h) f) (λ st g. g) (λ n l. refl)) (λ h. fails))
