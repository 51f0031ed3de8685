-- Declarations and items: each entry of the table derives a form of the grammar.
use Rattle.std.proofs.Common.{◌≡◌, ℕ, suc, List, [], ◌∷◌, ◌++◌, length, Bool, true, false, Option, None, refl, ap, sym, subst, append_assoc, codes}
use Rattle.sml_syntax.specs.declared.token.Token.{Token}
use Rattle.sml_syntax.specs.declared.token.Lack.TheVariants as l
use Rattle.sml_syntax.specs.declared.tree.DecForm.TheVariants as d
use Rattle.sml_syntax.specs.NestedTypes.{nested_in_bindings}
use Rattle.grammar_rules.specs.Nodes.{dec_at, extent, span_of, it_dec, function_rules}
use Rattle.grammar_rules.specs.Grammar.{Phrase, IsMark, IsName, local_lack, expr, pat, decs, recs, funs, exns, items, items_after, dec_val, dec_rec, dec_fun, dec_type, dec_datatype, dec_exception, dec_local, dec_replication, decs_none, decs_more, decs_parted, binds_one, binds_more, recs_one, recs_more, funs_one, funs_more, items_dec, items_exp, items_exp_more, items_after_dec, items_after_semicolon}
use Rattle.sml_grammar.specs.declared.mark.Mark.{Mark}
use Rattle.sml_grammar.specs.declared.mark.Mark.TheVariants as m
use Rattle.sml_grammar.specs.declared.token_sort.TokenSort.{TokenSort}
use Rattle.sml_grammar.specs.declared.token_sort.TokenSort.TheVariants as o
use Rattle.sml_grammar.specs.declared.symbol.Sym.{Sym}
use Rattle.sml_grammar.specs.declared.symbol.Sym.TheVariants as s
use Rattle.sml_grammar.specs.declared.symbol.ExpPhrase.TheVariants as xp
use Rattle.sml_grammar.specs.declared.symbol.ExpRest.TheVariants as xr
use Rattle.sml_grammar.specs.declared.symbol.PatPhrase.TheVariants as pp
use Rattle.sml_grammar.specs.declared.symbol.DecPhrase.{DecPhrase}
use Rattle.sml_grammar.specs.declared.symbol.DecPhrase.TheVariants as dp
use Rattle.sml_grammar.specs.declared.symbol.ConPhrase.TheVariants as cp
use Rattle.sml_grammar.specs.declared.symbol.FunPhrase.TheVariants as fp
use Rattle.sml_grammar.specs.Marks.{same_mark, mark_number}
use Rattle.sml_grammar.specs.Sorts.{is_mark, begins_dec, declaration_mark, begins_exp, begins_pat, is_name}
use Rattle.sml_grammar.specs.Tokens.{text_of}
use Rattle.sml_grammar.specs.Takes.{dec_take, type_dec_take}
use Rattle.sml_grammar.specs.Tables.{at_dec}
use Rattle.grammar_sound.proofs.Seen.{Seen, seen_mark, spelling, marked, name_of}
use Rattle.grammar_sound.proofs.Sem.{Fulfils, done, reads, Split, parts, split, first_or, ExPat, ExExp, ExDec, ExDecs, ExBinds, ExRecs, ExAbbrevs, ExCons, one_mark, expr_s, MatchS, match_s, AndBinds, no_binds, and_binds, RecBindS, rec_bind, AndRecs, no_recs, and_recs, DataS, data_s, data_same, FunS, last, nil}
use Rattle.grammar_sound.proofs.Fine.{Fine, takes, skips, fails, by_cond, Begun, begun, strip, Good, Quiet, fin, low}
use Rattle.grammar_sound.proofs.Expressions.{match_takes, quiet_in, quiet_end}
use Rattle.grammar_sound.proofs.Rests.{strip_append, low_append, exp_start, ExpBegun, exp_begun, exp_began}
use Rattle.grammar_sound.proofs.Enclosed.{exp_then_good, exp_then_low}
use Rattle.grammar_sound.proofs.Patterns.{pat_start, pat_began, pat_good, pat_low}
use Rattle.grammar_sound.proofs.Definitions.{exns_form}

over-decs : {c : Phrase} {ts us : List Token} → ts ≡ us → ExDecs c ts → ExDecs c us
over-decs {c} h d = subst (ExDecs c) h d

over-binds : {ts us : List Token} → ts ≡ us → ExBinds ts → ExBinds us
over-binds h d = subst ExBinds h d

over-recs : {c : Phrase} {ts us : List Token} → ts ≡ us → ExRecs c ts → ExRecs c us
over-recs {c} h d = subst (ExRecs c) h d

-- the token that begins a declaration
data DecStart (w : Token) : TokenSort → Type 0 where
  start_val : IsMark (codes "val") w → DecStart w (o.Mark m.Val)
  start_fun : IsMark (codes "fun") w → DecStart w (o.Mark m.Fun)
  start_local : IsMark (codes "local") w → DecStart w (o.Mark m.Local)
  start_type : IsMark (codes "type") w → DecStart w (o.Mark m.TypeWord)
  start_datatype : IsMark (codes "datatype") w → DecStart w (o.Mark m.Datatype)
  start_exception : IsMark (codes "exception") w → DecStart w (o.Mark m.Exception)

mark-start : (w : Token) (mark : Mark) → IsMark (spelling mark) w → declaration_mark mark ≡ true → DecStart w (o.Mark mark)
unfolding declaration_mark same_mark mark_number
mark-start w m.Val i h = start_val i
mark-start w m.Fun i h = start_fun i
mark-start w m.Local i h = start_local i
mark-start w m.TypeWord i h = start_type i
mark-start w m.Datatype i h = start_datatype i
mark-start w m.Exception i h = start_exception i
mark-start w _ i h = cc

dec-start : (w : Token) (sort : TokenSort) → Seen w.form sort → begins_dec sort ≡ true → DecStart w sort
unfolding begins_dec
dec-start w _ (seen_mark mark e) h = mark-start w mark (record { is = e }) h
dec-start w _ _ h = cc

-- functions joined by `and`
pub funs_form : {u rest : List Token} → FunS u → AndRecs funs rest → ExRecs funs (u ++ rest)
funs_form {u} (name, count, (rs, ls, d)) no_recs = over-recs (nil u) ((name, function_rules (extent u) count rs) ∷ [], ls, funs_one d)
funs_form {u} (name, count, (rs, ls, d)) (and_recs and_ us i (more, ms, k)) = ((name, function_rules (extent u) count rs) ∷ more, ls ++ ms, funs_more and_ d i k)

fun-form : (inner : Bool) (w : Token) (us : List Token) (z : Option TokenSort) → IsMark (codes "fun") w → Fulfils (s.Fun fp.Bind ∷ s.Fun fp.Rest ∷ []) us z → ExDec inner (w ∷ us)
fun-form inner w _ z i (reads u1 u2 x f) = go (funs_form x (last f))
  where
    go : ExRecs funs (u1 ++ u2) → ExDec inner (w ∷ u1 ++ u2)
    go (all, ls, k) = (dec_at (extent (w ∷ u1 ++ u2)) (d.ValRec all), ls, dec_fun w i k)

local-form : (inner : Bool) (w : Token) (us : List Token) (z : Option TokenSort) → IsMark (codes "local") w → Fulfils (s.Dec dp.Inner ∷ s.Want m.In ∷ s.Dec dp.Inner ∷ s.Want m.End ∷ []) us z → ExDec inner (w ∷ us)
local-form inner w _ z i (reads u1 _ (xs, ls, h) (reads _ _ (one_mark in_ j) (reads u2 _ (ys, ms, k) (reads _ _ (one_mark end_ n) done)))) =
    subst (ExDec inner) (append_assoc (w ∷ u1) (in_ ∷ u2) (end_ ∷ [])) (dec_at (span_of w.span.from end_.span.to) (d.Local xs ys), ls ++ ms, dec_local w in_ end_ i h j k n)

type-form : (inner : Bool) (w : Token) (us : List Token) → IsMark (codes "type") w → ExAbbrevs us → ExDec inner (w ∷ us)
type-form inner w us i (all, ls, k) = (dec_at (extent (w ∷ us)) (d.Abbrev all), local_lack inner w ++ ls, dec_type w i k)

data-form : (inner first : Bool) (w : Token) {us : List Token} → IsMark (codes "datatype") w → DataS first us → ExDec inner (w ∷ us)
data-form inner first w i (data_s us (all, ls, k)) = (dec_at (extent (w ∷ us)) (d.DataDef all), local_lack inner w ++ ls ++ nested_in_bindings (length us) all all, dec_datatype w i k)
data-form inner first w i (data_same word_ equals again other name old e j k h n) = (dec_at (span_of w.span.from other.span.to) (d.DataDef (([], name, []) ∷ [])), local_lack inner w ++ (again.span.from, l.Replication) ∷ [], dec_replication w word_ equals again other name old i j k h n)

exn-form : (inner : Bool) (w : Token) (us : List Token) (z : Option TokenSort) → IsMark (codes "exception") w → Fulfils (s.Con cp.Exn ∷ s.Con cp.ExnRest ∷ []) us z → ExDec inner (w ∷ us)
exn-form inner w _ z i (reads u1 u2 x f) = go (exns_form x (last f))
  where
    go : ExCons exns (u1 ++ u2) → ExDec inner (w ∷ u1 ++ u2)
    go (all, ls, k) = (dec_at (extent (w ∷ u1 ++ u2)) (d.ExnDef all), local_lack inner w ++ ls, dec_exception w i k)

-- a declaration that begins with this token
dec-took : (inner : Bool) (w : Token) (sort : TokenSort) (at : ℕ) (us : List Token) (z : Option TokenSort) → DecStart w sort → Fulfils (strip (dec_take inner sort at)) us z → ExDec inner (w ∷ us)
unfolding dec_take type_dec_take is_mark same_mark mark_number
dec-took inner w _ at us z (start_val i) f = last {x = s.Dec (dp.ValFirst at)} f inner w i
dec-took inner w _ at us z (start_fun i) f = fun-form inner w us z i f
dec-took inner w _ at us z (start_local i) f = local-form inner w us z i f
dec-took true w _ at us z (start_type i) f = type-form true w us i (last f)
dec-took false w _ at us z (start_type i) f = type-form false w us i (last f)
dec-took true w _ at us z (start_datatype i) f = data-form true true w i (last f)
dec-took false w _ at us z (start_datatype i) f = data-form false true w i (last f)
dec-took true w _ at us z (start_exception i) f = exn-form true w us z i f
dec-took false w _ at us z (start_exception i) f = exn-form false w us z i f

dec-good : (inner : Bool) (w : Token) (sort : TokenSort) (at : ℕ) (st : List Sym) → DecStart w sort → Quiet (first_or (fin st) None) → Good st → Good (dec_take inner sort at ++ st)
unfolding dec_take type_dec_take is_mark same_mark mark_number
dec-good inner w _ at st (start_val i) q g = (q, g)
dec-good inner w _ at st (start_fun i) q g = (q, (q, g))
dec-good inner w _ at st (start_local i) q g = (quiet_in, (quiet_end, g))
dec-good true w _ at st (start_type i) q g = g
dec-good false w _ at st (start_type i) q g = g
dec-good true w _ at st (start_datatype i) q g = g
dec-good false w _ at st (start_datatype i) q g = g
dec-good true w _ at st (start_exception i) q g = g
dec-good false w _ at st (start_exception i) q g = g

dec-low : (inner : Bool) (w : Token) (sort : TokenSort) (at n : ℕ) → DecStart w sort → low n (dec_take inner sort at) ≡ true
unfolding dec_take type_dec_take is_mark same_mark mark_number
dec-low inner w _ at n (start_val i) = refl
dec-low inner w _ at n (start_fun i) = refl
dec-low inner w _ at n (start_local i) = refl
dec-low true w _ at n (start_type i) = refl
dec-low false w _ at n (start_type i) = refl
dec-low true w _ at n (start_datatype i) = refl
dec-low false w _ at n (start_datatype i) = refl
dec-low true w _ at n (start_exception i) = refl
dec-low false w _ at n (start_exception i) = refl

dec-began : (inner : Bool) (w : Token) (sort : TokenSort) (at : ℕ) (R : List Sym) (z : Option TokenSort) (us : List Token) → DecStart w sort → Fulfils (strip (dec_take inner sort at ++ R)) us z → Begun (ExDec inner) (strip R) w z us
dec-began inner w sort at R z us b f = go (split (strip (dec_take inner sort at)) (strip R) z (subst (λ β. Fulfils β us z) (strip_append (dec_take inner sort at) R) f))
  where
    go : {ts : List Token} → Split (strip (dec_take inner sort at)) (strip R) z ts → Begun (ExDec inner) (strip R) w z ts
    go (parts u rest g k) = begun u rest (dec-took inner w sort at u (first_or rest z) b g) k

dec-then-good : (inner : Bool) (w : Token) (sort : TokenSort) (at : ℕ) (R st : List Sym) → DecStart w sort → Quiet (first_or (fin (R ++ st)) None) → Good (R ++ st) → Good ((dec_take inner sort at ++ R) ++ st)
dec-then-good inner w sort at R st b q g = subst Good (sym (append_assoc (dec_take inner sort at) R st)) (dec-good inner w sort at (R ++ st) b q g)

-- items
item-dec : (w : Token) (z : Option TokenSort) {us : List Token} → Begun (ExDec false) (s.Dec dp.AfterDec ∷ []) w z us → ExDecs items (w ∷ us)
item-dec w z (begun us rest (x, ls, k) f) = let more : ExDecs items_after rest = last f in (x ∷ more.0, ls ++ more.1, items_dec k more.2)

after-dec : (w : Token) (z : Option TokenSort) {us : List Token} → Begun (ExDec false) (s.Dec dp.AfterDec ∷ []) w z us → ExDecs items_after (w ∷ us)
after-dec w z (begun us rest (x, ls, k) f) = let more : ExDecs items_after rest = last f in (x ∷ more.0, ls ++ more.1, items_after_dec k more.2)

item-exp : (w : Token) (z : Option TokenSort) {us : List Token} → ExpBegun (s.Dec dp.AfterExp ∷ []) w z us → ExDecs items (w ∷ us)
item-exp w z (exp_begun us rest (expr_s o x ends) f) = last {x = s.Dec dp.AfterExp} f (w ∷ us) o x

after-exp : (w : Token) (us ts0 : List Token) (o : Bool) → IsMark (codes ";") w → ExDecs items us → ExExp (expr o) ts0 → ExDecs items (ts0 ++ w ∷ us)
after-exp w us ts0 o i (more, ms, k) (x, ls, h) = (it_dec (extent ts0) x ∷ more, ls ++ ms, items_exp_more w h i k)

pub exp-end : (ts0 : List Token) (o : Bool) → ExExp (expr o) ts0 → ExDecs items (ts0 ++ [])
exp-end ts0 o (x, ls, h) = over-decs (nil ts0) (it_dec (extent ts0) x ∷ [], ls, items_exp h)

semicolon : (w : Token) (us : List Token) → IsMark (codes ";") w → ExDecs items us → ExDecs items_after (w ∷ us)
semicolon w us i (more, ms, k) = (more, ms, items_after_semicolon w i k)

-- declarations inside `let` and `local`
inner-dec : (w : Token) (z : Option TokenSort) {us : List Token} → Begun (ExDec true) (s.Dec dp.AfterInner ∷ []) w z us → ExDecs decs (w ∷ us)
inner-dec w z (begun us rest x f) = last {x = s.Dec dp.AfterInner} f (w ∷ us) x

pub one-more : (ts0 us : List Token) → ExDec true ts0 → ExDecs decs us → ExDecs decs (ts0 ++ us)
one-more ts0 us (x, ls, h) (more, ms, k) = (x ∷ more, ls ++ ms, decs_more h k)

parted : (w : Token) (ts0 us : List Token) → IsMark (codes ";") w → ExDec true ts0 → ExDecs decs us → ExDecs decs (ts0 ++ w ∷ us)
parted w ts0 us i (x, ls, h) (more, ms, k) = (x ∷ more, ls ++ ms, decs_parted w h i k)

pub no-decs : ExDecs decs []
no-decs = ([], [], decs_none)

-- values
pub binds-form : (u1 u2 : List Token) (o : Bool) (equals : Token) {rest : List Token} → ExPat pat u1 → IsMark (codes "=") equals → ExExp (expr o) u2 → AndBinds rest → ExBinds (u1 ++ equals ∷ (u2 ++ rest))
binds-form u1 u2 o equals (p, ls, h) i (x, ms, k) no_binds = over-binds (ap (λ ts. u1 ++ equals ∷ ts) (nil u2)) ((p, x) ∷ [], ls ++ ms, binds_one equals h i k)
binds-form u1 u2 o equals (p, ls, h) i (x, ms, k) (and_binds and_ us j (more, ns, n)) =
    over-binds (append_assoc u1 (equals ∷ u2) (and_ ∷ us)) ((p, x) ∷ more, ls ++ ms ++ ns, binds_more equals and_ h i k j n)

binds-takes : (us : List Token) (z : Option TokenSort) → Fulfils (s.Pat pp.Whole ∷ s.Want m.Equal ∷ s.Exp xp.Whole ∷ s.Dec dp.ValRest ∷ []) us z → ExBinds us
binds-takes _ z (reads u1 _ p (reads _ _ (one_mark equals i) (reads u2 rest (expr_s o x ends) f))) = binds-form u1 u2 o equals p i x (last f)

binds-begun : (w : Token) (z : Option TokenSort) {us : List Token} → Begun (ExPat pat) (s.Want m.Equal ∷ s.Exp xp.Whole ∷ s.Dec dp.ValRest ∷ []) w z us → ExBinds (w ∷ us)
binds-begun w z (begun us _ p (reads _ _ (one_mark equals i) (reads u2 rest (expr_s o x ends) f))) = binds-form (w ∷ us) u2 o equals p i x (last f)

pub val-form : (inner : Bool) (word_ : Token) (us : List Token) → IsMark (codes "val") word_ → ExBinds us → ExDec inner (word_ ∷ us)
val-form inner word_ us i (all, ls, k) = (dec_at (extent (word_ ∷ us)) (d.Val all), ls, dec_val word_ i k)

recs-form : {u rest : List Token} → RecBindS u → AndRecs recs rest → ExRecs recs (u ++ rest)
recs-form (rec_bind w equals fn_ name us i j k (rs, ls, h)) no_recs = over-recs (nil (w ∷ equals ∷ fn_ ∷ us)) ((name, rs) ∷ [], ls, recs_one w equals fn_ name i j k h)
recs-form (rec_bind w equals fn_ name us i j k (rs, ls, h)) (and_recs and_ ws n (more, ms, g)) = ((name, rs) ∷ more, ls ++ ms, recs_more w equals fn_ and_ name i j k h n g)

recs-takes : (us : List Token) (z : Option TokenSort) → Fulfils (s.Dec dp.RecBind ∷ s.Dec dp.RecRest ∷ []) us z → ExRecs recs us
recs-takes _ z (reads u rest x f) = recs-form x (last f)

rec-form : (inner : Bool) (word_ w : Token) (us : List Token) → IsMark (codes "val") word_ → IsMark (codes "rec") w → ExRecs recs us → ExDec inner (word_ ∷ w ∷ us)
rec-form inner word_ w us i j (all, ls, k) = (dec_at (extent (word_ ∷ w ∷ us)) (d.ValRec all), ls, dec_rec word_ w i j k)

rec-of : (w equals fn_ : Token) (us : List Token) (z : Option TokenSort) → IsName (text_of w.form) w → IsMark (codes "=") equals → IsMark (codes "fn") fn_ → MatchS us z → RecBindS (w ∷ equals ∷ fn_ ∷ us)
rec-of w equals fn_ us z i j k (match_s x ends) = rec_bind w equals fn_ (text_of w.form) us i j k x

rec-takes : (w : Token) (us : List Token) (z : Option TokenSort) → IsName (text_of w.form) w → Fulfils (s.Want m.Equal ∷ s.Want m.Fn ∷ s.Pat pp.Whole ∷ s.Want m.DoubleArrow ∷ s.Exp xp.Whole ∷ s.ExpRest xr.Match ∷ []) us z → RecBindS (w ∷ us)
rec-takes w _ z i (reads _ _ (one_mark equals j) (reads _ us (one_mark fn_ k) f)) = rec-of w equals fn_ us z i j k (match_takes us z f)

pub fine_dec : (phrase : DecPhrase) (w : Token) (sort : TokenSort) → Seen w.form sort → Fine (s.Dec phrase) w sort (at_dec phrase sort w)
fine_dec dp.Items w sort e = by_cond (begins_dec sort)
    (λ h. takes (λ us z f. item-dec w z (dec-began false w sort w.span.from (s.Do _ ∷ s.Dec dp.AfterDec ∷ []) z us (dec-start w sort e h) f))
    (λ st (q, g). dec-then-good false w sort w.span.from (s.Do _ ∷ s.Dec dp.AfterDec ∷ []) st (dec-start w sort e h) q (q, g))
    (λ n l. low_append (suc n) (dec_take false sort w.span.from) (s.Do _ ∷ s.Dec dp.AfterDec ∷ []) (dec-low false w sort w.span.from (suc n) (dec-start w sort e h)) refl))
    (λ k. by_cond (begins_exp sort)
    (λ h. takes (λ us z f. item-exp w z (exp_began w sort (s.Do _ ∷ s.Do _ ∷ s.Dec dp.AfterExp ∷ []) z us (exp_start w sort e h) f))
    (λ st (q, g). exp_then_good w sort (s.Do _ ∷ s.Do _ ∷ s.Dec dp.AfterExp ∷ []) st (exp_start w sort e h) q (q, g))
    (λ n l. exp_then_low w sort (suc n) (s.Do _ ∷ s.Do _ ∷ s.Dec dp.AfterExp ∷ []) (exp_start w sort e h) refl))
    (λ h. fails))
fine_dec dp.AfterDec w sort e = by_cond (is_mark m.Semicolon sort) (λ h. takes (λ us z f. semicolon w us (marked m.Semicolon w sort e h) (last f)) (λ st (q, g). (q, g)) (λ n l. refl))
    (λ k. by_cond (begins_dec sort)
    (λ h. takes (λ us z f. after-dec w z (dec-began false w sort w.span.from (s.Do _ ∷ s.Dec dp.AfterDec ∷ []) z us (dec-start w sort e h) f))
    (λ st (q, g). dec-then-good false w sort w.span.from (s.Do _ ∷ s.Dec dp.AfterDec ∷ []) st (dec-start w sort e h) q (q, g))
    (λ n l. low_append (suc n) (dec_take false sort w.span.from) (s.Do _ ∷ s.Dec dp.AfterDec ∷ []) (dec-low false w sort w.span.from (suc n) (dec-start w sort e h)) refl))
    (λ h. fails))
fine_dec dp.AfterExp w sort e = by_cond (is_mark m.Semicolon sort) (λ h. takes (λ us z f. λ ts0 o x. after-exp w us ts0 o (marked m.Semicolon w sort e h) (last f) x) (λ st (q, g). (q, g)) (λ n l. refl)) (λ h. fails)
fine_dec dp.Inner w sort e = by_cond (begins_dec sort)
    (λ h. takes (λ us z f. inner-dec w z (dec-began true w sort w.span.from (s.Do _ ∷ s.Dec dp.AfterInner ∷ []) z us (dec-start w sort e h) f))
    (λ st (q, g). dec-then-good true w sort w.span.from (s.Do _ ∷ s.Dec dp.AfterInner ∷ []) st (dec-start w sort e h) q (q, g))
    (λ n l. low_append (suc n) (dec_take true sort w.span.from) (s.Do _ ∷ s.Dec dp.AfterInner ∷ []) (dec-low true w sort w.span.from (suc n) (dec-start w sort e h)) refl))
    (λ h. skips no-decs)
fine_dec dp.AfterInner w sort e = by_cond (is_mark m.Semicolon sort) (λ h. takes (λ us z f. λ ts0 x. parted w ts0 us (marked m.Semicolon w sort e h) x (last f)) (λ st (q, g). (q, g)) (λ n l. refl))
    (λ k. by_cond (begins_dec sort)
    (λ h. takes (λ us z f. λ ts0 x. one-more ts0 (w ∷ us) x (inner-dec w z (dec-began true w sort w.span.from (s.Do _ ∷ s.Dec dp.AfterInner ∷ []) z us (dec-start w sort e h) f)))
    (λ st (q, g). dec-then-good true w sort w.span.from (s.Do _ ∷ s.Dec dp.AfterInner ∷ []) st (dec-start w sort e h) q (q, g))
    (λ n l. low_append (suc n) (dec_take true sort w.span.from) (s.Do _ ∷ s.Dec dp.AfterInner ∷ []) (dec-low true w sort w.span.from (suc n) (dec-start w sort e h)) refl))
    (λ h. skips (λ ts0 x. one-more ts0 [] x no-decs)))
fine_dec (dp.ValFirst from) w sort e = by_cond (is_mark m.Rec sort) (λ h. takes (λ us z f. λ inner word_ i. rec-form inner word_ w us i (marked m.Rec w sort e h) (recs-takes us z f)) (λ st (q, g). (q, (q, g))) (λ n l. refl))
    (λ k. by_cond (begins_pat sort)
    (λ h. takes (λ us z f. λ inner word_ i. val-form inner word_ (w ∷ us) i (binds-begun w z (pat_began w sort (s.Want m.Equal ∷ s.Exp xp.Whole ∷ s.Do _ ∷ s.Dec dp.ValRest ∷ s.Do _ ∷ []) z us (pat_start w sort e h) f)))
    (λ st (q, g). pat_good w sort (s.Want m.Equal ∷ s.Exp xp.Whole ∷ s.Do _ ∷ s.Dec dp.ValRest ∷ s.Do _ ∷ []) st (pat_start w sort e h) (q, (q, g)))
    (λ n l. pat_low w sort (suc n) (s.Want m.Equal ∷ s.Exp xp.Whole ∷ s.Do _ ∷ s.Dec dp.ValRest ∷ s.Do _ ∷ []) (pat_start w sort e h) refl))
    (λ h. fails))
fine_dec dp.ValRest w sort e = by_cond (is_mark m.And sort) (λ h. takes (λ us z f. and_binds w us (marked m.And w sort e h) (binds-takes us z f)) (λ st (q, g). (q, (q, g))) (λ n l. refl)) (λ h. skips no_binds)
fine_dec dp.RecBind w sort e = by_cond (is_name sort) (λ h. takes (λ us z f. rec-takes w us z (name_of w sort e h) f) (λ st (q, g). (q, (q, g))) (λ n l. refl)) (λ h. fails)
fine_dec dp.RecRest w sort e = by_cond (is_mark m.And sort) (λ h. takes (λ us z f. and_recs w us (marked m.And w sort e h) (recs-takes us z f)) (λ st (q, g). (q, (q, g))) (λ n l. refl)) (λ h. skips no_recs)
