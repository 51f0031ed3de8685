-- Types, constructors and exceptions that are declared.
use Rattle.std.proofs.Common.{◌≡◌, ℕ, List, [], ◌∷◌, ◌++◌, Bool, true, false, Option, Some, None, refl, ap, ◌∙◌, subst, append_assoc, codes}
use Rattle.sml_syntax.specs.declared.token.Token.{Token}
use Rattle.sml_syntax.specs.declared.token.Lack.TheVariants as l
use Rattle.grammar_rules.specs.Grammar.{Phrase, IsMark, IsName, IsTypeName, IsTyVar, ty, cons, exns, vars_none, vars_one, vars_several, more_vars_one, more_vars_more, abbrevs_one, abbrevs_more, datas_one, datas_more, cons_one, cons_of, cons_more, cons_of_more, exns_one, exns_of, exns_same, exns_more, exns_of_more, exns_same_more}
use Rattle.sml_grammar.specs.declared.mark.Mark.TheVariants as m
use Rattle.sml_grammar.specs.declared.token_sort.TokenSort.{TokenSort}
use Rattle.sml_grammar.specs.declared.symbol.Sym.{Sym}
use Rattle.sml_grammar.specs.declared.symbol.Sym.TheVariants as s
use Rattle.sml_grammar.specs.declared.symbol.HeadPhrase.{HeadPhrase}
use Rattle.sml_grammar.specs.declared.symbol.HeadPhrase.TheVariants as hp
use Rattle.sml_grammar.specs.declared.symbol.ConPhrase.{ConPhrase}
use Rattle.sml_grammar.specs.declared.symbol.ConPhrase.TheVariants as cp
use Rattle.sml_grammar.specs.declared.symbol.TyPhrase.TheVariants as tp
use Rattle.sml_grammar.specs.Sorts.{is_mark, is_name, is_ty_var, is_type_name}
use Rattle.sml_grammar.specs.Tokens.{text_of}
use Rattle.sml_grammar.specs.Tables.{at_head, at_con}
use Rattle.grammar_sound.proofs.Seen.{Seen, marked, name_of, var_of, type_name_of}
use Rattle.grammar_sound.proofs.Sem.{Fulfils, done, reads, ExTy, ExVars, ExMoreVars, ExAbbrevs, ExDatas, ExCons, one_mark, OneVar, one_var, VarItemsS, no_vars, more_vars_s, AndAbbrevs, no_abbrevs, and_abbrevs, AndDatas, no_datas, and_datas, DataS, data_s, data_same, BodyS, body_s, body_same, ArgumentS, no_argument, an_argument, ConS, con_s, BarCons, no_cons, bar_cons, ExnArgumentS, exn_argument, exn_same, ExnS, exn_s, AndExns, no_exns, and_exns, OneTypeName, one_type_name, last, nil}
use Rattle.grammar_sound.proofs.Fine.{Fine, takes, skips, fails, by_cond}

-- the same forms over tokens that are grouped otherwise
over-abbrevs : {ts us : List Token} → ts ≡ us → ExAbbrevs ts → ExAbbrevs us
over-abbrevs h d = subst ExAbbrevs h d

over-datas : {ts us : List Token} → ts ≡ us → ExDatas ts → ExDatas us
over-datas h d = subst ExDatas h d

over-cons : {c : Phrase} {ts us : List Token} → ts ≡ us → ExCons c ts → ExCons c us
over-cons {c} h d = subst (ExCons c) h d

-- a type's name with the variables before it
pub abbrev-form : (w equals : Token) (name : List ℕ) (ts0 u : List Token) {rest : List Token} → ExVars ts0 → IsName name w → IsMark (codes "=") equals → ExTy (ty true) u → AndAbbrevs rest → ExAbbrevs (ts0 ++ w ∷ equals ∷ (u ++ rest))
abbrev-form w equals name ts0 u (names, v) i j (x, ls, d) no_abbrevs = over-abbrevs (ap (λ ts. ts0 ++ w ∷ equals ∷ ts) (nil u)) ((names, name, x) ∷ [], ls, abbrevs_one w equals name v i j d)
abbrev-form w equals name ts0 u (names, v) i j (x, ls, d) (and_abbrevs and_ us h (more, ms, k)) =
    over-abbrevs (append_assoc ts0 (w ∷ equals ∷ u) (and_ ∷ us)) ((names, name, x) ∷ more, ls ++ ms, abbrevs_more w equals and_ name v i j d h k)

abbrev-takes : (w : Token) (ts0 us : List Token) (z : Option TokenSort) → ExVars ts0 → IsName (text_of w.form) w → Fulfils (s.Want m.Equal ∷ s.Ty (tp.Whole true) ∷ s.Head hp.TypeRest ∷ []) us z → ExAbbrevs (ts0 ++ w ∷ us)
abbrev-takes w ts0 _ z v i (reads _ _ (one_mark equals j) (reads u rest x f)) = abbrev-form w equals (text_of w.form) ts0 u v i j x (last f)

pub no-vars : ExVars []
no-vars = ([], vars_none)

one-form : (w : Token) → IsTyVar (text_of w.form) w → ExVars (w ∷ [])
one-form w i = (text_of w.form ∷ [], vars_one w (text_of w.form) i)

-- several variables
data ClosedVars : List Token → Type 0 where
  closed_vars : (us : List Token) (closing : Token) → ExMoreVars us → IsMark (codes ")") closing → ClosedVars (us ++ closing ∷ [])

close-vars : {u rest : List Token} → OneVar u → VarItemsS rest → ClosedVars (u ++ rest)
close-vars (one_var word_ name i) (no_vars closing j) = closed_vars (word_ ∷ []) closing (name, [], more_vars_one word_ name i) j
close-vars (one_var word_ name i) (more_vars_s comma closing us h (x, more, k) j) = closed_vars (word_ ∷ comma ∷ us) closing (name, x ∷ more, more_vars_more word_ comma name i h k) j

vars-of : (w : Token) {u rest : List Token} → IsMark (codes "(") w → OneVar u → (comma : Token) → IsMark (codes ",") comma → ClosedVars rest → ExVars (w ∷ u ++ comma ∷ rest)
vars-of w i (one_var word_ name h) comma j (closed_vars us closing (x, more, k) e) = (name ∷ x ∷ more, vars_several w closing i (more_vars_more word_ comma name h j k) e)

-- `(` variables `)` and what follows them
data VarsBegun (R : List Sym) (w : Token) (z : Option TokenSort) : List Token → Type 0 where
  vars_begun : (us rest : List Token) → ExVars (w ∷ us) → Fulfils R rest z → VarsBegun R w z (us ++ rest)

vars-began : (w : Token) (R : List Sym) (us : List Token) (z : Option TokenSort) → IsMark (codes "(") w → Fulfils (s.Head hp.Var ∷ s.Want m.Comma ∷ s.Head hp.Var ∷ s.Head hp.Vars ∷ R) us z → VarsBegun R w z us
vars-began w R _ z i (reads u1 _ v (reads _ _ (one_mark comma j) (reads u2 _ x (reads u3 rest h f)))) =
    subst (VarsBegun R w z) (append_assoc u1 (comma ∷ (u2 ++ u3)) rest ∙ ap (λ ts. u1 ++ comma ∷ ts) (append_assoc u2 u3 rest))
    (vars_begun (u1 ++ comma ∷ (u2 ++ u3)) rest (vars-of w i v comma j (close-vars x h)) f)

abbrev-vars : (w : Token) (z : Option TokenSort) {us : List Token} → VarsBegun (s.Head hp.TypeName ∷ []) w z us → ExAbbrevs (w ∷ us)
abbrev-vars w z (vars_begun us rest v f) = last f (w ∷ us) v

data-vars : (w : Token) (z : Option TokenSort) {us : List Token} → VarsBegun (s.Head hp.DataName ∷ []) w z us → ExDatas (w ∷ us)
data-vars w z (vars_begun us rest v f) = last f (w ∷ us) v

-- a datatype with its constructors
pub data-form : (w equals : Token) (name : List ℕ) (ts0 u : List Token) {rest : List Token} → ExVars ts0 → IsName name w → IsMark (codes "=") equals → ExCons cons u → AndDatas rest → ExDatas (ts0 ++ w ∷ equals ∷ (u ++ rest))
data-form w equals name ts0 u (names, v) i j (cs, ls, d) no_datas = over-datas (ap (λ ts. ts0 ++ w ∷ equals ∷ ts) (nil u)) ((names, name, cs) ∷ [], ls, datas_one w equals name v i j d)
data-form w equals name ts0 u (names, v) i j (cs, ls, d) (and_datas and_ us h (more, ms, k)) =
    over-datas (append_assoc ts0 (w ∷ equals ∷ u) (and_ ∷ us)) ((names, name, cs) ∷ more, ls ++ ms, datas_more w equals and_ name v i j d h k)

false-true : false ≡ true → ⊥
false-true h = cc

data-body : (w equals : Token) (name : List ℕ) (ts0 : List Token) {us : List Token} → ExVars ts0 → IsName name w → IsMark (codes "=") equals → BodyS false us → ExDatas (ts0 ++ w ∷ equals ∷ us)
data-body w equals name ts0 v i j (body_s u rest d h) = data-form w equals name ts0 u v i j d h
data-body w equals name ts0 v i j (body_same again other old e k n) = absurd (false-true e)

data-takes : (w : Token) (ts0 us : List Token) (z : Option TokenSort) → ExVars ts0 → IsName (text_of w.form) w → Fulfils (s.Want m.Equal ∷ s.Con (cp.Body false) ∷ []) us z → ExDatas (ts0 ++ w ∷ us)
data-takes w ts0 _ z v i (reads _ us (one_mark equals j) f) = data-body w equals (text_of w.form) ts0 v i j (last f)

first-body : (first : Bool) (w equals : Token) (name : List ℕ) {us : List Token} → IsName name w → IsMark (codes "=") equals → BodyS first us → DataS first (w ∷ equals ∷ us)
first-body first w equals name i j (body_s u rest d h) = data_s (w ∷ equals ∷ (u ++ rest)) (data-form w equals name [] u no-vars i j d h)
first-body first w equals name i j (body_same again other old e k n) = data_same w equals again other name old e i j k n

first-takes : (first : Bool) (w : Token) (us : List Token) (z : Option TokenSort) → IsName (text_of w.form) w → Fulfils (s.Want m.Equal ∷ s.Con (cp.Body first) ∷ []) us z → DataS first (w ∷ us)
first-takes first w _ z i (reads _ us (one_mark equals j) f) = first-body first w equals (text_of w.form) i j (last f)

var-takes : (w : Token) (us : List Token) (z : Option TokenSort) → IsTyVar (text_of w.form) w → Fulfils [] us z → OneVar (w ∷ us)
var-takes w _ z i done = one_var w (text_of w.form) i

more-of : (w : Token) {us : List Token} → IsMark (codes ",") w → ClosedVars us → VarItemsS (w ∷ us)
more-of w i (closed_vars us closing d j) = more_vars_s w closing us i d j

vars-takes : (w : Token) (us : List Token) (z : Option TokenSort) → IsMark (codes ",") w → Fulfils (s.Head hp.Var ∷ s.Head hp.Vars ∷ []) us z → VarItemsS (w ∷ us)
vars-takes w _ z i (reads u rest v f) = more-of w i (close-vars v (last f))

close-takes : (w : Token) (us : List Token) (z : Option TokenSort) → IsMark (codes ")") w → Fulfils [] us z → VarItemsS (w ∷ us)
close-takes w _ z i done = no_vars w i

pub fine_head : (phrase : HeadPhrase) (w : Token) (sort : TokenSort) → Seen w.form sort → Fine (s.Head phrase) w sort (at_head phrase sort w)
fine_head hp.Type w sort e = by_cond (is_name sort) (λ h. takes (λ us z f. abbrev-takes w [] us z no-vars (name_of w sort e h) f) (λ st g. g) (λ n l. refl))
    (λ k. by_cond (is_ty_var sort) (λ h. takes (λ us z f. last {x = s.Head hp.TypeName} f (w ∷ []) (one-form w (var_of w sort e h))) (λ st g. g) (λ n l. refl))
    (λ k. by_cond (is_mark m.Open sort) (λ h. takes (λ us z f. abbrev-vars w z (vars-began w _ us z (marked m.Open w sort e h) f)) (λ st g. g) (λ n l. refl)) (λ h. fails)))
fine_head hp.TypeName w sort e = by_cond (is_name sort) (λ h. takes (λ us z f. λ ts0 v. abbrev-takes w ts0 us z v (name_of w sort e h) f) (λ st g. g) (λ n l. refl)) (λ h. fails)
fine_head (hp.Data first) w sort e = by_cond (is_name sort) (λ h. takes (λ us z f. first-takes first w us z (name_of w sort e h) f) (λ st g. g) (λ n l. refl))
    (λ k. by_cond (is_ty_var sort) (λ h. takes (λ us z f. data_s (w ∷ us) (last {x = s.Head hp.DataName} f (w ∷ []) (one-form w (var_of w sort e h)))) (λ st g. g) (λ n l. refl))
    (λ k. by_cond (is_mark m.Open sort) (λ h. takes (λ us z f. data_s (w ∷ us) (data-vars w z (vars-began w _ us z (marked m.Open w sort e h) f))) (λ st g. g) (λ n l. refl)) (λ h. fails)))
fine_head hp.DataName w sort e = by_cond (is_name sort) (λ h. takes (λ us z f. λ ts0 v. data-takes w ts0 us z v (name_of w sort e h) f) (λ st g. g) (λ n l. refl)) (λ h. fails)
fine_head hp.Var w sort e = by_cond (is_ty_var sort) (λ h. takes (λ us z f. var-takes w us z (var_of w sort e h) f) (λ st g. g) (λ n l. refl)) (λ h. fails)
fine_head hp.Vars w sort e = by_cond (is_mark m.Comma sort) (λ h. takes (λ us z f. vars-takes w us z (marked m.Comma w sort e h) f) (λ st g. g) (λ n l. refl))
    (λ k. by_cond (is_mark m.Close sort) (λ h. takes (λ us z f. close-takes w us z (marked m.Close w sort e h) f) (λ st g. g) (λ n l. refl)) (λ h. fails))
fine_head hp.TypeRest w sort e = by_cond (is_mark m.And sort) (λ h. takes (λ us z f. and_abbrevs w us (marked m.And w sort e h) (last f)) (λ st g. g) (λ n l. refl)) (λ h. skips no_abbrevs)

-- constructors
pub cons-form : (w : Token) (name : List ℕ) {u rest : List Token} → IsName name w → ArgumentS true u → BarCons rest → ExCons cons (w ∷ u ++ rest)
cons-form w name i no_argument no_cons = ((name, None) ∷ [], [], cons_one w name i)
cons-form w name i no_argument (bar_cons bar us j (more, ms, k)) = ((name, None) ∷ more, ms, cons_more w bar name i j k)
cons-form w name i (an_argument of_ us j (x, ls, d)) no_cons = over-cons (ap (λ ts. w ∷ of_ ∷ ts) (nil us)) ((name, Some x) ∷ [], ls, cons_of w of_ name i j d)
cons-form w name i (an_argument of_ us j (x, ls, d)) (bar_cons bar ws h (more, ms, k)) = ((name, Some x) ∷ more, ls ++ ms, cons_of_more w of_ bar name i j d h k)

body-takes : (first : Bool) (w : Token) (us : List Token) (z : Option TokenSort) → IsName (text_of w.form) w → Fulfils (s.Con cp.Argument ∷ s.Con cp.Rest ∷ s.Con cp.DataRest ∷ []) us z → BodyS first (w ∷ us)
body-takes first w _ z i (reads u1 _ a (reads u2 rest b f)) = subst (λ ts. BodyS first (w ∷ ts)) (append_assoc u1 u2 rest) (body_s (w ∷ u1 ++ u2) rest (cons-form w (text_of w.form) i a b) (last f))

same-of : (first : Bool) (w : Token) {us : List Token} → first ≡ true → IsMark (codes "datatype") w → OneTypeName us → BodyS first (w ∷ us)
same-of first w e i (one_type_name word_ name j) = body_same w word_ name e i j

one-takes : (w : Token) (us : List Token) (z : Option TokenSort) → IsTypeName (text_of w.form) w → Fulfils [] us z → OneTypeName (w ∷ us)
one-takes w _ z i done = one_type_name w (text_of w.form) i

bar-of : (bar : Token) {u rest : List Token} → IsMark (codes "|") bar → ConS u → BarCons rest → BarCons (bar ∷ u ++ rest)
bar-of bar i (con_s word_ name us j a) b = bar_cons bar _ i (cons-form word_ name j a b)

bar-takes : (w : Token) (us : List Token) (z : Option TokenSort) → IsMark (codes "|") w → Fulfils (s.Con cp.Bind ∷ s.Con cp.Rest ∷ []) us z → BarCons (w ∷ us)
bar-takes w _ z i (reads u rest c f) = bar-of w i c (last f)

plain-datas : (us : List Token) → DataS false us → ExDatas us
plain-datas us d = go d
  where
    go : {ts : List Token} → DataS false ts → ExDatas ts
    go (data_s us d) = d
    go (data_same word_ equals again other name old e i j k n) = absurd (false-true e)

-- exceptions
pub exns_form : {u rest : List Token} → ExnS u → AndExns rest → ExCons exns (u ++ rest)
exns_form (exn_s w name _ i (exn_argument _ no_argument)) no_exns = ((name, None) ∷ [], [], exns_one w name i)
exns_form (exn_s w name _ i (exn_argument _ no_argument)) (and_exns and_ us h (more, ms, k)) = ((name, None) ∷ more, ms, exns_more w and_ name i h k)
exns_form (exn_s w name _ i (exn_argument _ (an_argument of_ us j (x, ls, d)))) no_exns = over-cons (ap (λ ts. w ∷ of_ ∷ ts) (nil us)) ((name, Some x) ∷ [], ls, exns_of w of_ name i j d)
exns_form (exn_s w name _ i (exn_argument _ (an_argument of_ us j (x, ls, d)))) (and_exns and_ ws h (more, ms, k)) = ((name, Some x) ∷ more, ls ++ ms, exns_of_more w of_ and_ name i j d h k)
exns_form (exn_s w name _ i (exn_same equals other old j n)) no_exns = ((name, None) ∷ [], (w.span.from, l.Replication) ∷ [], exns_same w equals other name old i j n)
exns_form (exn_s w name _ i (exn_same equals other old j n)) (and_exns and_ us h (more, ms, k)) = ((name, None) ∷ more, (w.span.from, l.Replication) ∷ ms, exns_same_more w equals other and_ name old i j n h k)

exn-same : (w : Token) {us : List Token} → IsMark (codes "=") w → OneTypeName us → ExnArgumentS (w ∷ us)
exn-same w i (one_type_name word_ name j) = exn_same w word_ name i j

exn-takes : (w : Token) (us : List Token) (z : Option TokenSort) → IsMark (codes "and") w → Fulfils (s.Con cp.Exn ∷ s.Con cp.ExnRest ∷ []) us z → AndExns (w ∷ us)
exn-takes w _ z i (reads u rest x f) = and_exns w (u ++ rest) i (exns_form x (last f))

pub fine_con : (phrase : ConPhrase) (w : Token) (sort : TokenSort) → Seen w.form sort → Fine (s.Con phrase) w sort (at_con phrase sort w)
fine_con (cp.Body first) w sort e = by_cond (is_name sort) (λ h. takes (λ us z f. body-takes first w us z (name_of w sort e h) f) (λ st g. g) (λ n l. refl))
    (λ k. by_cond (is_mark m.Datatype sort) (λ h. by_cond first (λ q. takes (λ us z f. same-of first w q (marked m.Datatype w sort e h) (last f)) (λ st g. g) (λ n l. refl)) (λ q. fails)) (λ h. fails))
fine_con cp.Original w sort e = by_cond (is_type_name sort) (λ h. takes (λ us z f. one-takes w us z (type_name_of w sort e h) f) (λ st g. g) (λ n l. refl)) (λ h. fails)
fine_con cp.Bind w sort e = by_cond (is_name sort) (λ h. takes (λ us z f. con_s w (text_of w.form) us (name_of w sort e h) (last f)) (λ st g. g) (λ n l. refl)) (λ h. fails)
fine_con cp.Argument w sort e = by_cond (is_mark m.Of sort) (λ h. takes (λ us z f. an_argument w us (marked m.Of w sort e h) (last f)) (λ st g. g) (λ n l. refl)) (λ h. skips no_argument)
fine_con cp.Rest w sort e = by_cond (is_mark m.Bar sort) (λ h. takes (λ us z f. bar-takes w us z (marked m.Bar w sort e h) f) (λ st g. g) (λ n l. refl)) (λ h. skips no_cons)
fine_con cp.DataRest w sort e = by_cond (is_mark m.And sort) (λ h. takes (λ us z f. and_datas w us (marked m.And w sort e h) (plain-datas us (last f))) (λ st g. g) (λ n l. refl)) (λ h. skips no_datas)
fine_con cp.Exn w sort e = by_cond (is_name sort) (λ h. takes (λ us z f. exn_s w (text_of w.form) us (name_of w sort e h) (last f)) (λ st g. g) (λ n l. refl)) (λ h. fails)
fine_con (cp.ExnArgument from) w sort e = by_cond (is_mark m.Of sort) (λ h. takes (λ us z f. exn_argument (w ∷ us) (an_argument w us (marked m.Of w sort e h) (last f))) (λ st g. g) (λ n l. refl))
    (λ k. by_cond (is_mark m.Equal sort) (λ h. takes (λ us z f. exn-same w (marked m.Equal w sort e h) (last f)) (λ st g. g) (λ n l. refl)) (λ h. skips (exn_argument [] no_argument)))
fine_con cp.ExnRest w sort e = by_cond (is_mark m.And sort) (λ h. takes (λ us z f. exn-takes w us z (marked m.And w sort e h) f) (λ st g. g) (λ n l. refl)) (λ h. skips no_exns)
