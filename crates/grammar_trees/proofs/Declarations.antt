-- Declarations, as the machine reads them.
use Rattle.std.proofs.Common.{◌≡◌, ℕ, List, [], ◌∷◌, ◌++◌, Bool, true, false, refl, ap, sym, ◌∙◌, codes}
use Rattle.sml_syntax.specs.declared.token.Token.{Token}
use Rattle.sml_syntax.specs.declared.token.Lack.TheVariants as l
use Rattle.grammar_rules.specs.Nodes.{last_of, last_after}
use Rattle.grammar_rules.specs.Grammar.{IsMark, IsName, IsTypeName}
use Rattle.sml_grammar.specs.declared.mark.Mark.{Mark}
use Rattle.sml_grammar.specs.declared.mark.Mark.TheVariants as m
use Rattle.sml_grammar.specs.declared.token_sort.TokenSort.{TokenSort}
use Rattle.sml_grammar.specs.declared.token_sort.TokenSort.TheVariants as o
use Rattle.sml_grammar.specs.declared.act.Made.{Made}
use Rattle.sml_grammar.specs.declared.act.Act.TheVariants as a
use Rattle.sml_grammar.specs.declared.act.ExpAct.TheVariants as x
use Rattle.sml_grammar.specs.declared.act.DecAct.TheVariants as b
use Rattle.sml_grammar.specs.declared.symbol.Sym.{Sym}
use Rattle.sml_grammar.specs.declared.symbol.Sym.TheVariants as s
use Rattle.sml_grammar.specs.declared.symbol.ExpPhrase.TheVariants as xp
use Rattle.sml_grammar.specs.declared.symbol.ExpRest.TheVariants as xr
use Rattle.sml_grammar.specs.declared.symbol.PatPhrase.TheVariants as pp
use Rattle.sml_grammar.specs.declared.symbol.DecPhrase.TheVariants as dp
use Rattle.sml_grammar.specs.declared.symbol.HeadPhrase.TheVariants as hp
use Rattle.sml_grammar.specs.declared.symbol.ConPhrase.TheVariants as cp
use Rattle.sml_grammar.specs.declared.symbol.FunPhrase.TheVariants as fp
use Rattle.sml_grammar.specs.Marks.{same_mark, mark_number}
use Rattle.sml_grammar.specs.Sorts.{sort_of, is_mark, is_name, begins_pat, begins_exp, begins_dec, declaration_mark, pattern_mark}
use Rattle.sml_grammar.specs.Tokens.{text_of}
use Rattle.sml_grammar.specs.Moves.{Takes}
use Rattle.sml_grammar.specs.Takes.{pat_take, dec_take, type_dec_take, inner_lack}
use Rattle.sml_grammar.specs.Machine.{made}
use Rattle.grammar_trees.specs.Exact.{move_at}
use Rattle.grammar_trees.specs.Tells.{first_to, local_acts}
use Rattle.grammar_trees.specs.Ends.{first, InnerEnds}
use Rattle.grammar_trees.specs.Claims.{Comes, Starting, starting, PatC, ExprC, MatchC}
use Rattle.grammar_trees.specs.DecClaims.{HeadGoes, ExnsC, DatasC, AbbrevsC, BindsC, RecsC, FunsC, DecC, InnersC}
use Rattle.grammar_trees.proofs.Words
use Rattle.grammar_trees.proofs.Words.{type-sort}
use Rattle.grammar_trees.proofs.Patterns
use Rattle.grammar_trees.proofs.ExpEnds
use Rattle.grammar_trees.proofs.ExpEnds.{ends-all}
use Rattle.grammar_trees.proofs.Expressions.{wanted, want-takes}
use Rattle.grammar_trees.proofs.Definitions.{want-equal, name-is, exn-takes, original-takes, data-goes, body-of}
use Rattle.grammar_trees.proofs.DecEnding.{renamed, inner-in, inner-end, before-semicolon, begins-ends}
use Rattle.grammar_trees.proofs.Steps.{stays, skips, acts, acts-at, takes, takes-as, then, ends-at, grouped, pushed, stacked, after-both}

-- bindings
binds-and : (t : Token) → move_at (s.Dec dp.ValRest) (o.Mark m.And) t ≡ Takes (s.Pat pp.Whole ∷ s.Want m.Equal ∷ s.Exp xp.Whole ∷ s.Do (a.Dec b.AddBind) ∷ s.Dec dp.ValRest ∷ [])
unfolding move_at is_mark same_mark mark_number
binds-and t = refl

pub c-binds-one : {flag : Bool} {n k : List Made} {ts us : List Token} {equals : Token} → Starting begins_pat (PatC n) ts → IsMark (codes "=") equals → Starting begins_exp (ExprC flag k) us →
    Starting begins_pat (BindsC (n ++ (k ++ (made (a.Dec b.AddBind) (last_of (ts ++ equals ∷ us)) ∷ [])))) (ts ++ equals ∷ us)
c-binds-one {us = us} {equals = equals} (starting x ts h p) i q = starting x (ts ++ equals ∷ us) h (record {
  comes = λ st rest e.
      ends-at (sym (after-both x.span.to ts (equals ∷ us)))
      (grouped ts (equals ∷ us) rest
      (then (p.comes (s.Want m.Equal ∷ s.Exp xp.Whole ∷ s.Do (a.Dec b.AddBind) ∷ s.Dec dp.ValRest ∷ st) (equals ∷ us ++ rest) (Patterns.equal-ends i))
      (takes-as (Words.is-equal i) (want-equal equals)
      (then (wanted q (s.Do (a.Dec b.AddBind) ∷ s.Dec dp.ValRest ∷ st) rest equals.span.to (ends-all e.exp))
      (acts-at (sym (after-both x.span.to ts (equals ∷ us)))
      (skips e.binds
      (stays rest st (last_after equals.span.to us))))))));
})

-- where the last of tokens ends, whatever stands before
later-end : (to : ℕ) {test : TokenSort → Bool} {P : Token → List Token → Type 0} {us : List Token} → Starting test P us → last_after to us ≡ last_of us
later-end to (starting u vs k p) = refl

pub c-binds-more : {flag : Bool} {n k j : List Made} {ts us ws : List Token} {equals and_ : Token} → Starting begins_pat (PatC n) ts → IsMark (codes "=") equals → Starting begins_exp (ExprC flag k) us → IsMark (codes "and") and_ → Starting begins_pat (BindsC j) ws →
    Starting begins_pat (BindsC (n ++ (k ++ (made (a.Dec b.AddBind) (last_of us) ∷ j)))) (ts ++ equals ∷ us ++ and_ ∷ ws)
c-binds-more {us = us} {equals = equals} {and_ = and_} (starting x ts h p) i q c (starting w ws g r) = starting x ((ts ++ equals ∷ us) ++ and_ ∷ w ∷ ws) h (record {
  comes = λ st rest e.
      ends-at (sym (after-both x.span.to (ts ++ equals ∷ us) (and_ ∷ w ∷ ws)))
      (grouped (ts ++ equals ∷ us) (and_ ∷ w ∷ ws) rest
      (grouped ts (equals ∷ us) (and_ ∷ (w ∷ ws) ++ rest)
      (then (p.comes (s.Want m.Equal ∷ s.Exp xp.Whole ∷ s.Do (a.Dec b.AddBind) ∷ s.Dec dp.ValRest ∷ st) (equals ∷ us ++ (and_ ∷ (w ∷ ws) ++ rest)) (Patterns.equal-ends i))
      (takes-as (Words.is-equal i) (want-equal equals)
      (then (wanted q (s.Do (a.Dec b.AddBind) ∷ s.Dec dp.ValRest ∷ st) (and_ ∷ (w ∷ ws) ++ rest) equals.span.to (ExpEnds.before-and c))
      (acts-at (later-end equals.span.to q)
      (takes-as (Words.is-and c) (binds-and and_)
      (takes (Patterns.whole-takes _ w g)
      (r.comes st rest e)))))))));
})

-- recursive bindings
bind-takes : (sort : TokenSort) (t : Token) → is_name sort ≡ true → move_at (s.Dec dp.RecBind) sort t ≡
    Takes (s.Want m.Equal ∷ s.Want m.Fn ∷ s.Do (a.Exp x.NoRules) ∷ s.Pat pp.Whole ∷ s.Want m.DoubleArrow ∷ s.Exp xp.Whole ∷ s.Do (a.Exp x.AddRule) ∷ s.ExpRest xr.Match ∷ s.Do (a.Dec (b.AddRec (text_of t.form))) ∷ [])
unfolding move_at
bind-takes sort t h = rw h refl

want-fn : (t : Token) → move_at (s.Want m.Fn) (o.Mark m.Fn) t ≡ Takes []
unfolding same_mark mark_number
want-fn t = want-takes m.Fn t refl

recs-and : (t : Token) → move_at (s.Dec dp.RecRest) (o.Mark m.And) t ≡ Takes (s.Dec dp.RecBind ∷ s.Dec dp.RecRest ∷ [])
unfolding move_at is_mark same_mark mark_number
recs-and t = refl

pub c-recs-one : {n : List Made} {ts : List Token} {word equals fn_ : Token} {name : List ℕ} → IsName name word → IsMark (codes "=") equals → IsMark (codes "fn") fn_ → MatchC n ts → last_after fn_.span.to ts ≡ last_of ts →
    RecsC (made (a.Exp x.NoRules) fn_.span.to ∷ (n ++ (made (a.Dec (b.AddRec name)) (last_of ts) ∷ []))) (word ∷ equals ∷ fn_ ∷ ts)
c-recs-one {ts = ts} {word = word} {equals = equals} {fn_ = fn_} {name = name} h i j p same = record {
  comes = λ st rest to e.
      takes (bind-takes _ word (name-is h))
      (takes-as (Words.is-equal i) (want-equal equals)
      (takes-as (Words.is-fn j) (want-fn fn_)
      (acts
      (then (p.comes (s.Do (a.Dec (b.AddRec (text_of word.form))) ∷ s.Dec dp.RecRest ∷ st) rest fn_.span.to e.exp)
      (renamed (λ z. a.Dec (b.AddRec z)) (Words.name-text h) (acts-at same
      (skips e.recs
      (stays rest st (last_after fn_.span.to ts)))))))));
}

pub c-recs-more : {n k : List Made} {ts us : List Token} {word equals fn_ and_ : Token} {name : List ℕ} → IsName name word → IsMark (codes "=") equals → IsMark (codes "fn") fn_ → MatchC n ts → last_after fn_.span.to ts ≡ last_of ts → IsMark (codes "and") and_ → RecsC k us →
    RecsC (made (a.Exp x.NoRules) fn_.span.to ∷ (n ++ (made (a.Dec (b.AddRec name)) (last_of ts) ∷ k))) (word ∷ equals ∷ fn_ ∷ ts ++ and_ ∷ us)
c-recs-more {ts = ts} {us = us} {word = word} {equals = equals} {fn_ = fn_} {and_ = and_} {name = name} h i j p same c q = record {
  comes = λ st rest to e.
      ends-at (sym (after-both fn_.span.to ts (and_ ∷ us)))
      (grouped (word ∷ equals ∷ fn_ ∷ ts) (and_ ∷ us) rest
      (takes (bind-takes _ word (name-is h))
      (takes-as (Words.is-equal i) (want-equal equals)
      (takes-as (Words.is-fn j) (want-fn fn_)
      (acts
      (then (p.comes (s.Do (a.Dec (b.AddRec (text_of word.form))) ∷ s.Dec dp.RecRest ∷ st) (and_ ∷ us ++ rest) fn_.span.to (ExpEnds.before-and c))
      (renamed (λ z. a.Dec (b.AddRec z)) (Words.name-text h) (acts-at same
      (takes-as (Words.is-and c) (recs-and and_)
      (q.comes st rest and_.span.to e))))))))));
}

-- declarations: each begins with its word
dec-is : (word : Token) (mark : Mark) → sort_of word.form ≡ o.Mark mark → declaration_mark mark ≡ true → begins_dec (sort_of word.form) ≡ true
unfolding begins_dec
dec-is word mark e h = ap begins_dec e ∙ h

val-take : (i : Bool) (from : ℕ) → dec_take i (o.Mark m.Val) from ≡ s.Dec (dp.ValFirst from) ∷ []
unfolding dec_take is_mark same_mark mark_number
val-take i from = refl

not-rec-mark : (mark : Mark) → pattern_mark mark ≡ true → same_mark mark m.Rec ≡ false
unfolding pattern_mark same_mark mark_number
not-rec-mark m.Rec h = cc
not-rec-mark _ h = refl

not-rec : (sort : TokenSort) → begins_pat sort ≡ true → is_mark m.Rec sort ≡ false
unfolding begins_pat is_mark
not-rec (o.Mark mark) h = not-rec-mark mark h
not-rec _ h = refl

first-takes : (from : ℕ) (sort : TokenSort) (t : Token) → begins_pat sort ≡ true → move_at (s.Dec (dp.ValFirst from)) sort t ≡
    Takes (s.Do (a.Dec b.NoBinds) ∷ (pat_take sort t ++ (s.Want m.Equal ∷ s.Exp xp.Whole ∷ s.Do (a.Dec b.AddBind) ∷ s.Dec dp.ValRest ∷ s.Do (a.Dec (b.Val from)) ∷ [])))
unfolding move_at
first-takes from sort t h = let k = not-rec sort h in rw (k, h) refl

pub c-dec-val : {i : Bool} {n : List Made} {ts : List Token} {word : Token} → IsMark (codes "val") word → Starting begins_pat (BindsC n) ts →
    Starting begins_dec (DecC i (made (a.Dec b.NoBinds) (first_to ts) ∷ (n ++ (made (a.Dec (b.Val word.span.from)) (last_of (word ∷ ts)) ∷ [])))) (word ∷ ts)
unfolding declaration_mark same_mark mark_number
c-dec-val {i} {word = word} h (starting u vs k p) = starting word (u ∷ vs) (dec-is word m.Val (Words.is-val h) refl) (record {
  comes = λ st rest e.
      stacked st (ap (λ z. dec_take i z word.span.from) (Words.is-val h) ∙ val-take i word.span.from)
      (takes (first-takes word.span.from _ u k)
      (acts
      (pushed (pat_take (sort_of u.form) u) (s.Want m.Equal ∷ s.Exp xp.Whole ∷ s.Do (a.Dec b.AddBind) ∷ s.Dec dp.ValRest ∷ s.Do (a.Dec (b.Val word.span.from)) ∷ []) st
      (then (p.comes (s.Do (a.Dec (b.Val word.span.from)) ∷ st) rest e)
      (acts
      (stays rest st (last_after u.span.to vs)))))));
})

rec-takes : (from : ℕ) (t : Token) → move_at (s.Dec (dp.ValFirst from)) (o.Mark m.Rec) t ≡ Takes (s.Do (a.Dec b.NoRecs) ∷ s.Dec dp.RecBind ∷ s.Dec dp.RecRest ∷ s.Do (a.Dec (b.ValRec from)) ∷ [])
unfolding move_at is_mark same_mark mark_number
rec-takes from t = refl

pub c-dec-rec : {i : Bool} {n : List Made} {ts : List Token} {word rec_ : Token} → IsMark (codes "val") word → IsMark (codes "rec") rec_ → RecsC n ts →
    Starting begins_dec (DecC i (made (a.Dec b.NoRecs) rec_.span.to ∷ (n ++ (made (a.Dec (b.ValRec word.span.from)) (last_of (word ∷ rec_ ∷ ts)) ∷ [])))) (word ∷ rec_ ∷ ts)
unfolding declaration_mark same_mark mark_number
c-dec-rec {i} {ts = ts} {word = word} {rec_ = rec_} h j p = starting word (rec_ ∷ ts) (dec-is word m.Val (Words.is-val h) refl) (record {
  comes = λ st rest e.
      stacked st (ap (λ z. dec_take i z word.span.from) (Words.is-val h) ∙ val-take i word.span.from)
      (takes-as (Words.is-rec j) (rec-takes word.span.from rec_)
      (acts
      (then (p.comes (s.Do (a.Dec (b.ValRec word.span.from)) ∷ st) rest rec_.span.to e)
      (acts
      (stays rest st (last_after rec_.span.to ts))))));
})

fun-take : (i : Bool) (from : ℕ) → dec_take i (o.Mark m.Fun) from ≡ s.Do (a.Dec b.NoRecs) ∷ s.Fun fp.Bind ∷ s.Fun fp.Rest ∷ s.Do (a.Dec (b.ValRec from)) ∷ []
unfolding dec_take is_mark same_mark mark_number
fun-take i from = refl

pub c-dec-fun : {i : Bool} {n : List Made} {ts : List Token} {word : Token} → IsMark (codes "fun") word → FunsC n ts →
    Starting begins_dec (DecC i (made (a.Dec b.NoRecs) word.span.to ∷ (n ++ (made (a.Dec (b.ValRec word.span.from)) (last_of (word ∷ ts)) ∷ [])))) (word ∷ ts)
unfolding declaration_mark same_mark mark_number
c-dec-fun {i} {ts = ts} {word = word} h p = starting word ts (dec-is word m.Fun (Words.is-fun h) refl) (record {
  comes = λ st rest e.
      stacked st (ap (λ z. dec_take i z word.span.from) (Words.is-fun h) ∙ fun-take i word.span.from)
      (acts
      (then (p.comes (s.Do (a.Dec (b.ValRec word.span.from)) ∷ st) rest word.span.to e)
      (acts
      (stays rest st (last_after word.span.to ts)))));
})

-- declarations of types and exceptions, which are a lack inside `let` and `local`
inner-told : (i : Bool) (word : Token) (β st : List Sym) {us rest : List Token} {st' : List Sym} {to' : ℕ} {new : List Made} → Comes rest (β ++ st) word.span.to new us st' to' →
    Comes rest ((inner_lack i word.span.from ++ β) ++ st) word.span.to (local_acts i word ++ new) us st' to'
inner-told false word β st c = c
inner-told true word β st c = acts c

type-take : (i : Bool) (from : ℕ) → dec_take i (o.Mark m.TypeWord) from ≡ inner_lack i from ++ (s.Do (a.Dec b.NoAbbrevs) ∷ s.Head hp.Type ∷ s.Do (a.Dec (b.Abbrev from)) ∷ [])
unfolding dec_take type_dec_take is_mark same_mark mark_number
type-take i from = refl

datatype-take : (i : Bool) (from : ℕ) → dec_take i (o.Mark m.Datatype) from ≡ inner_lack i from ++ (s.Do (a.Dec b.NoDatas) ∷ s.Head (hp.Data true) ∷ s.Do (a.Dec (b.DataDef from)) ∷ [])
unfolding dec_take type_dec_take is_mark same_mark mark_number
datatype-take i from = refl

exception-take : (i : Bool) (from : ℕ) → dec_take i (o.Mark m.Exception) from ≡ inner_lack i from ++ (s.Do (a.Dec b.NoCons) ∷ s.Con cp.Exn ∷ s.Con cp.ExnRest ∷ s.Do (a.Dec (b.ExnDef from)) ∷ [])
unfolding dec_take type_dec_take is_mark same_mark mark_number
exception-take i from = refl

pub c-dec-type : {i : Bool} {n : List Made} {ts : List Token} {word : Token} → IsMark (codes "type") word → AbbrevsC n ts →
    Starting begins_dec (DecC i (local_acts i word ++ (made (a.Dec b.NoAbbrevs) word.span.to ∷ (n ++ (made (a.Dec (b.Abbrev word.span.from)) (last_of (word ∷ ts)) ∷ []))))) (word ∷ ts)
unfolding declaration_mark same_mark mark_number
c-dec-type {i} {ts = ts} {word = word} h p = starting word ts (dec-is word m.TypeWord (Words.is-type-word h) refl) (record {
  comes = λ st rest e.
      stacked st (ap (λ z. dec_take i z word.span.from) (Words.is-type-word h) ∙ type-take i word.span.from)
      (inner-told i word _ st
      (acts
      (then (p.comes (s.Do (a.Dec (b.Abbrev word.span.from)) ∷ st) rest word.span.to e)
      (acts
      (stays rest st (last_after word.span.to ts))))));
})

pub c-dec-datatype : {i : Bool} {n : List Made} {ts : List Token} {word : Token} → IsMark (codes "datatype") word → DatasC n ts →
    Starting begins_dec (DecC i (local_acts i word ++ (made (a.Dec b.NoDatas) word.span.to ∷ (n ++ (made (a.Dec (b.DataDef word.span.from)) (last_of (word ∷ ts)) ∷ []))))) (word ∷ ts)
unfolding declaration_mark same_mark mark_number
c-dec-datatype {i} {ts = ts} {word = word} h p = starting word ts (dec-is word m.Datatype (Words.is-datatype h) refl) (record {
  comes = λ st rest e.
      stacked st (ap (λ z. dec_take i z word.span.from) (Words.is-datatype h) ∙ datatype-take i word.span.from)
      (inner-told i word _ st
      (acts
      (then (p.comes true (s.Do (a.Dec (b.DataDef word.span.from)) ∷ st) rest word.span.to e)
      (acts
      (stays rest st (last_after word.span.to ts))))));
})

pub c-dec-exception : {i : Bool} {n : List Made} {ts : List Token} {word : Token} → IsMark (codes "exception") word → Starting is_name (ExnsC n) ts →
    Starting begins_dec (DecC i (local_acts i word ++ (made (a.Dec b.NoCons) word.span.to ∷ (n ++ (made (a.Dec (b.ExnDef word.span.from)) (last_of (word ∷ ts)) ∷ []))))) (word ∷ ts)
unfolding declaration_mark same_mark mark_number
c-dec-exception {i} {word = word} h (starting u vs k p) = starting word (u ∷ vs) (dec-is word m.Exception (Words.is-exception h) refl) (record {
  comes = λ st rest e.
      stacked st (ap (λ z. dec_take i z word.span.from) (Words.is-exception h) ∙ exception-take i word.span.from)
      (inner-told i word _ st
      (acts
      (takes (exn-takes _ u k)
      (then (p.comes (s.Do (a.Dec (b.ExnDef word.span.from)) ∷ st) rest e)
      (acts
      (stays rest st (last_after u.span.to vs)))))));
})

replicates : (t : Token) → move_at (s.Con (cp.Body true)) (o.Mark m.Datatype) t ≡ Takes (s.Do (a.Lack t.span.from l.Replication) ∷ s.Do (a.Dec b.NoCons) ∷ s.Con cp.Original ∷ s.Do (a.Dec b.AddData) ∷ [])
unfolding move_at is_name is_mark same_mark mark_number
replicates t = refl

data-named : (g : HeadGoes (s.Head (hp.Data true)) (s.Head hp.DataName) body-of true) (t : Token) → move_at (s.Head (hp.Data true)) o.Name t ≡ Takes (s.Do (a.Dec b.NoVars) ∷ s.Do (a.Dec (b.Head (text_of t.form))) ∷ s.Want m.Equal ∷ s.Con (cp.Body true) ∷ [])
unfolding body-of
data-named g t = g.named t

pub c-dec-replication : {i : Bool} {word short_ equals again long_ : Token} {name other : List ℕ} → IsMark (codes "datatype") word → IsName name short_ → IsMark (codes "=") equals → IsMark (codes "datatype") again → IsTypeName other long_ →
    Starting begins_dec (DecC i (local_acts i word ++ (made (a.Dec b.NoDatas) word.span.to ∷ (made (a.Dec b.NoVars) short_.span.to ∷ (made (a.Dec (b.Head name)) short_.span.to ∷ (made (a.Lack again.span.from l.Replication) again.span.to ∷ (made (a.Dec b.NoCons) again.span.to ∷ (made (a.Dec b.AddData) long_.span.to ∷ (made (a.Dec (b.DataDef word.span.from)) long_.span.to ∷ [])))))))))
    (word ∷ short_ ∷ equals ∷ again ∷ long_ ∷ [])
unfolding declaration_mark same_mark mark_number
c-dec-replication {i} {word} {short_} {equals} {again} {long_} h j k g c = starting word (short_ ∷ equals ∷ again ∷ long_ ∷ []) (dec-is word m.Datatype (Words.is-datatype h) refl) (record {
  comes = λ st rest e.
      stacked st (ap (λ z. dec_take i z word.span.from) (Words.is-datatype h) ∙ datatype-take i word.span.from)
      (inner-told i word _ st
      (acts
      (takes-as (Words.is-name j) (data-named (data-goes true) short_)
      (acts (renamed (λ z. a.Dec (b.Head z)) (Words.name-text j) (acts
      (takes-as (Words.is-equal k) (want-equal equals)
      (takes-as (Words.is-datatype g) (replicates again)
      (acts (acts
      (takes (original-takes long_ (type-sort c))
      (acts (acts
      (stays rest st long_.span.to))))))))))))));
})

want-in : (t : Token) → move_at (s.Want m.In) (o.Mark m.In) t ≡ Takes []
unfolding same_mark mark_number
want-in t = want-takes m.In t refl

want-end : (t : Token) → move_at (s.Want m.End) (o.Mark m.End) t ≡ Takes []
unfolding same_mark mark_number
want-end t = want-takes m.End t refl

local-take : (i : Bool) (from : ℕ) → dec_take i (o.Mark m.Local) from ≡ s.Do (a.Dec b.NoDecs) ∷ s.Dec dp.Inner ∷ s.Want m.In ∷ s.Do (a.Dec b.NoDecs) ∷ s.Dec dp.Inner ∷ s.Want m.End ∷ s.Do (a.Dec (b.Local from)) ∷ []
unfolding dec_take is_mark same_mark mark_number
local-take i from = refl

pub c-dec-local : {i : Bool} {n k : List Made} {ts us : List Token} {local_ in_ end_ : Token} → IsMark (codes "local") local_ → InnersC n ts → IsMark (codes "in") in_ → InnersC k us → IsMark (codes "end") end_ →
    Starting begins_dec (DecC i (made (a.Dec b.NoDecs) local_.span.to ∷ (n ++ (made (a.Dec b.NoDecs) in_.span.to ∷ (k ++ (made (a.Dec (b.Local local_.span.from)) end_.span.to ∷ [])))))) (local_ ∷ ts ++ in_ ∷ us ++ end_ ∷ [])
unfolding declaration_mark same_mark mark_number
c-dec-local {i} {ts = ts} {us = us} {local_ = local_} {in_ = in_} {end_ = end_} h p j q g = starting local_ ((ts ++ in_ ∷ us) ++ end_ ∷ []) (dec-is local_ m.Local (Words.is-local h) refl) (record {
  comes = λ st rest e.
      ends-at (sym (after-both local_.span.to (ts ++ in_ ∷ us) (end_ ∷ [])))
      (grouped (ts ++ in_ ∷ us) (end_ ∷ []) rest
      (grouped ts (in_ ∷ us) (end_ ∷ rest)
      (stacked st (ap (λ z. dec_take i z local_.span.from) (Words.is-local h) ∙ local-take i local_.span.from)
      (acts
      (then (p.begins (s.Want m.In ∷ s.Do (a.Dec b.NoDecs) ∷ s.Dec dp.Inner ∷ s.Want m.End ∷ s.Do (a.Dec (b.Local local_.span.from)) ∷ st) (in_ ∷ us ++ (end_ ∷ rest)) local_.span.to (inner-in j))
      (takes-as (Words.is-in j) (want-in in_)
      (acts
      (then (q.begins (s.Want m.End ∷ s.Do (a.Dec (b.Local local_.span.from)) ∷ st) (end_ ∷ rest) in_.span.to (inner-end g))
      (takes-as (Words.is-end g) (want-end end_)
      (acts
      (stays rest st end_.span.to)))))))))));
})

-- declarations inside `let` and `local`
inner-takes : (sort : TokenSort) (t : Token) → begins_dec sort ≡ true → move_at (s.Dec dp.Inner) sort t ≡ Takes (dec_take true sort t.span.from ++ (s.Do (a.Dec b.AddDec) ∷ s.Dec dp.AfterInner ∷ []))
unfolding move_at
inner-takes sort t h = rw h refl

dec-no-semicolon-mark : (mark : Mark) → declaration_mark mark ≡ true → same_mark mark m.Semicolon ≡ false
unfolding declaration_mark same_mark mark_number
dec-no-semicolon-mark m.Semicolon h = cc
dec-no-semicolon-mark _ h = refl

pub dec-no-semicolon : (sort : TokenSort) → begins_dec sort ≡ true → is_mark m.Semicolon sort ≡ false
unfolding begins_dec is_mark
dec-no-semicolon (o.Mark mark) h = dec-no-semicolon-mark mark h
dec-no-semicolon _ h = refl

after-takes : (sort : TokenSort) (t : Token) → begins_dec sort ≡ true → move_at (s.Dec dp.AfterInner) sort t ≡ Takes (dec_take true sort t.span.from ++ (s.Do (a.Dec b.AddDec) ∷ s.Dec dp.AfterInner ∷ []))
unfolding move_at
after-takes sort t h = let k = dec-no-semicolon sort h in rw (k, h) refl

after-semicolon : (t : Token) → move_at (s.Dec dp.AfterInner) (o.Mark m.Semicolon) t ≡ Takes (s.Dec dp.Inner ∷ [])
unfolding move_at is_mark same_mark mark_number
after-semicolon t = refl

pub c-decs-none : InnersC [] []
c-decs-none = record {
  begins = λ st rest to e. skips e.inner (stays rest st to);
  follows = λ st rest to e. skips e.after (stays rest st to);
  ends = λ rest e. e.dec;
}

pub c-decs-more : {n k : List Made} {ts us : List Token} → Starting begins_dec (DecC true n) ts → InnersC k us → InnersC (n ++ (made (a.Dec b.AddDec) (last_of ts) ∷ k)) (ts ++ us)
c-decs-more {n} {k} {us = us} (starting x ts h p) q = record {
  begins = λ st rest to e. takes (inner-takes _ x h) (go st rest to e);
  follows = λ st rest to e. takes (after-takes _ x h) (go st rest to e);
  ends = λ rest e. begins-ends x h;
}
  where
    go : (st : List Sym) (rest : List Token) (to : ℕ) → InnerEnds (first rest) → Comes ((ts ++ us) ++ rest) ((dec_take true (sort_of x.form) x.span.from ++ (s.Do (a.Dec b.AddDec) ∷ s.Dec dp.AfterInner ∷ [])) ++ st) x.span.to (n ++ (made (a.Dec b.AddDec) (last_of (x ∷ ts)) ∷ k)) rest st (last_after to (x ∷ ts ++ us))
    go st rest to e =
        ends-at (sym (after-both x.span.to ts us))
        (grouped ts us rest
        (pushed (dec_take true (sort_of x.form) x.span.from) (s.Do (a.Dec b.AddDec) ∷ s.Dec dp.AfterInner ∷ []) st
        (then (p.comes (s.Do (a.Dec b.AddDec) ∷ s.Dec dp.AfterInner ∷ st) (us ++ rest) (q.ends rest e))
        (acts
        (q.follows st rest (last_after x.span.to ts) e)))))

pub c-decs-parted : {n k : List Made} {ts us : List Token} {word : Token} → Starting begins_dec (DecC true n) ts → IsMark (codes ";") word → InnersC k us → InnersC (n ++ (made (a.Dec b.AddDec) (last_of ts) ∷ k)) (ts ++ word ∷ us)
c-decs-parted {n} {k} {us = us} {word = word} (starting x ts h p) i q = record {
  begins = λ st rest to e. takes (inner-takes _ x h) (go st rest to e);
  follows = λ st rest to e. takes (after-takes _ x h) (go st rest to e);
  ends = λ rest e. begins-ends x h;
}
  where
    go : (st : List Sym) (rest : List Token) (to : ℕ) → InnerEnds (first rest) → Comes ((ts ++ word ∷ us) ++ rest) ((dec_take true (sort_of x.form) x.span.from ++ (s.Do (a.Dec b.AddDec) ∷ s.Dec dp.AfterInner ∷ [])) ++ st) x.span.to (n ++ (made (a.Dec b.AddDec) (last_of (x ∷ ts)) ∷ k)) rest st (last_after to (x ∷ ts ++ word ∷ us))
    go st rest to e =
        ends-at (sym (after-both x.span.to ts (word ∷ us)))
        (grouped ts (word ∷ us) rest
        (pushed (dec_take true (sort_of x.form) x.span.from) (s.Do (a.Dec b.AddDec) ∷ s.Dec dp.AfterInner ∷ []) st
        (then (p.comes (s.Do (a.Dec b.AddDec) ∷ s.Dec dp.AfterInner ∷ st) (word ∷ us ++ rest) (before-semicolon i))
        (acts
        (takes-as (Words.is-semicolon i) (after-semicolon word)
        (q.begins st rest word.span.to e))))))
