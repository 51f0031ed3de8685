-- Expressions that take all they can, matches, brackets, `let` and quotations, as the machine reads them.
use Rattle.std.proofs.Common.{◌≡◌, ℕ, suc, ◌==◌, List, [], ◌∷◌, ◌++◌, length, Bool, true, false, refl, ap, sym, ◌∙◌, codes, cond, arith, ne_eqb}
use Rattle.sml_syntax.specs.declared.token.Token.{Token}
use Rattle.sml_syntax.specs.declared.token.TokenForm.TheVariants as f
use Rattle.grammar_rules.specs.Nodes.{last_of, last_after, name_place}
use Rattle.grammar_rules.specs.Grammar.{IsMark}
use Rattle.sml_grammar.specs.declared.mark.Mark.{Mark}
use Rattle.sml_grammar.specs.declared.mark.Mark.TheVariants as m
use Rattle.sml_grammar.specs.declared.token_sort.TokenSort.{TokenSort}
use Rattle.sml_grammar.specs.declared.token_sort.TokenSort.TheVariants as o
use Rattle.sml_grammar.specs.declared.act.Made.{Made}
use Rattle.sml_grammar.specs.declared.act.Act.TheVariants as a
use Rattle.sml_grammar.specs.declared.act.ExpAct.TheVariants as e
use Rattle.sml_grammar.specs.declared.act.DecAct.TheVariants as d
use Rattle.sml_grammar.specs.declared.symbol.Sym.{Sym}
use Rattle.sml_grammar.specs.declared.symbol.Sym.TheVariants as s
use Rattle.sml_grammar.specs.declared.symbol.ExpPhrase.TheVariants as xp
use Rattle.sml_grammar.specs.declared.symbol.ExpRest.TheVariants as xr
use Rattle.sml_grammar.specs.declared.symbol.ExpItems.TheVariants as xi
use Rattle.sml_grammar.specs.declared.symbol.Quoted.TheVariants as q
use Rattle.sml_grammar.specs.declared.symbol.PatPhrase.TheVariants as pp
use Rattle.sml_grammar.specs.declared.symbol.DecPhrase.TheVariants as dp
use Rattle.sml_grammar.specs.Marks.{same_mark, mark_number}
use Rattle.sml_grammar.specs.Sorts.{sort_of, plain_sort, is_mark, begins_exp, begins_atom, begins_tail, atom_mark, tail_mark, begins_pat, is_plain, is_anti, is_anti_from, is_anti_to, is_quote_to}
use Rattle.sml_grammar.specs.Tokens.{text_of}
use Rattle.sml_grammar.specs.Moves.{Takes}
use Rattle.sml_grammar.specs.Takes.{atom_take, atom_mark_take, tail_take, exp_take}
use Rattle.sml_grammar.specs.Machine.{made}
use Rattle.grammar_trees.specs.Exact.{move_at}
use Rattle.grammar_trees.specs.Tells.{first_to}
use Rattle.grammar_trees.specs.Claims.{Comes, Starting, starting, PatC, AtomC, TailC, ExprC, Parts, ExpsC, RuleC, MatchC, TextC, AntiC, QuotedC, DecsC}
use Rattle.grammar_trees.proofs.Words
use Rattle.grammar_trees.proofs.Patterns
use Rattle.grammar_trees.proofs.ExpEnds
use Rattle.grammar_trees.proofs.ExpEnds.{ends-all}
use Rattle.grammar_trees.proofs.DecEnding
use Rattle.grammar_trees.proofs.Expressions.{wanted, whole-takes, want-takes}
use Rattle.grammar_trees.proofs.Steps.{stays, skips, acts, acts-at, takes, takes-as, then, lastly, ends-at, grouped, pushed, stacked, after-both}

-- a mark that is wanted
wants : {mark : Mark} {t : Token} {ts us : List Token} {st st' : List Sym} {to to' : ℕ} {new : List Made} → sort_of t.form ≡ o.Mark mark → same_mark mark mark ≡ true → Comes ts st t.span.to new us st' to' → Comes (t ∷ ts) (s.Want mark ∷ st) to new us st' to'
wants {mark = mark} {t = t} e h c = takes-as e (want-takes mark t h) c

same : (mark : Mark) → same_mark mark mark ≡ true
unfolding same_mark mark_number
same m.And = refl
same _ = refl

-- tails
raise-take : (at : ℕ) → tail_take (o.Mark m.Raise) at ≡ s.Exp xp.Whole ∷ s.Do (a.Exp (e.Raise at)) ∷ []
unfolding tail_take is_mark same_mark mark_number
raise-take at = refl

if-take : (at : ℕ) → tail_take (o.Mark m.If) at ≡ s.Exp xp.Whole ∷ s.Want m.Then ∷ s.Exp xp.Whole ∷ s.Want m.Else ∷ s.Exp xp.Whole ∷ s.Do (a.Exp (e.If at)) ∷ []
unfolding tail_take is_mark same_mark mark_number
if-take at = refl

case-take : (at : ℕ) → tail_take (o.Mark m.Case) at ≡ s.Exp xp.Whole ∷ s.Want m.Of ∷ s.Do (a.Exp e.NoRules) ∷ s.Pat pp.Whole ∷ s.Want m.DoubleArrow ∷ s.Exp xp.Whole ∷ s.Do (a.Exp e.AddRule) ∷ s.ExpRest xr.Match ∷ s.Do (a.Exp (e.Case at)) ∷ []
unfolding tail_take is_mark same_mark mark_number
case-take at = refl

fn-take : (at : ℕ) → tail_take (o.Mark m.Fn) at ≡ s.Do (a.Exp e.NoRules) ∷ s.Pat pp.Whole ∷ s.Want m.DoubleArrow ∷ s.Exp xp.Whole ∷ s.Do (a.Exp e.AddRule) ∷ s.ExpRest xr.Match ∷ s.Do (a.Exp (e.Fn at)) ∷ []
unfolding tail_take is_mark same_mark mark_number
fn-take at = refl

raise-begins : begins_tail (o.Mark m.Raise) ≡ true
unfolding begins_tail tail_mark same_mark mark_number
raise-begins = refl

if-begins : begins_tail (o.Mark m.If) ≡ true
unfolding begins_tail tail_mark same_mark mark_number
if-begins = refl

case-begins : begins_tail (o.Mark m.Case) ≡ true
unfolding begins_tail tail_mark same_mark mark_number
case-begins = refl

fn-begins : begins_tail (o.Mark m.Fn) ≡ true
unfolding begins_tail tail_mark same_mark mark_number
fn-begins = refl

pub c-tail-raise : {open_ : Bool} {n : List Made} {ts : List Token} {word : Token} → IsMark (codes "raise") word → Starting begins_exp (ExprC open_ n) ts →
    Starting begins_tail (TailC open_ (n ++ (made (a.Exp (e.Raise word.span.from)) (last_of (word ∷ ts)) ∷ []))) (word ∷ ts)
c-tail-raise {ts = ts} {word = word} h p = starting word ts (ap begins_tail (Words.is-raise h) ∙ raise-begins) (record {
  comes = λ st rest ends.
      stacked st (ap (λ z. tail_take z word.span.from) (Words.is-raise h) ∙ raise-take word.span.from)
      (then (wanted p (s.Do (a.Exp (e.Raise word.span.from)) ∷ st) rest word.span.to ends)
      (acts (stays rest st (last_after word.span.to ts))));
})

pub c-tail-if : {oi oj open_ : Bool} {n m k : List Made} {ts us ws : List Token} {if_ then_ else_ : Token} → IsMark (codes "if") if_ → Starting begins_exp (ExprC oi n) ts → IsMark (codes "then") then_ → Starting begins_exp (ExprC oj m) us →
    IsMark (codes "else") else_ → Starting begins_exp (ExprC open_ k) ws →
    Starting begins_tail (TailC open_ (n ++ (m ++ (k ++ (made (a.Exp (e.If if_.span.from)) (last_of (if_ ∷ ts ++ then_ ∷ us ++ else_ ∷ ws)) ∷ []))))) (if_ ∷ ts ++ then_ ∷ us ++ else_ ∷ ws)
c-tail-if {ts = ts} {us = us} {ws = ws} {if_ = if_} {then_ = then_} {else_ = else_} h p i q j r = starting if_ ((ts ++ then_ ∷ us) ++ else_ ∷ ws) (ap begins_tail (Words.is-if h) ∙ if-begins) (record {
  comes = λ st rest ends.
      ends-at (sym (after-both if_.span.to (ts ++ then_ ∷ us) (else_ ∷ ws)))
      (grouped (ts ++ then_ ∷ us) (else_ ∷ ws) rest
      (grouped ts (then_ ∷ us) (else_ ∷ ws ++ rest)
      (stacked st (ap (λ z. tail_take z if_.span.from) (Words.is-if h) ∙ if-take if_.span.from)
      (then (wanted p (s.Want m.Then ∷ s.Exp xp.Whole ∷ s.Want m.Else ∷ s.Exp xp.Whole ∷ s.Do (a.Exp (e.If if_.span.from)) ∷ st) (then_ ∷ us ++ (else_ ∷ ws ++ rest)) if_.span.to (ExpEnds.before-then i))
      (wants (Words.is-then i) (same m.Then)
      (then (wanted q (s.Want m.Else ∷ s.Exp xp.Whole ∷ s.Do (a.Exp (e.If if_.span.from)) ∷ st) (else_ ∷ ws ++ rest) then_.span.to (ExpEnds.before-else j))
      (wants (Words.is-else j) (same m.Else)
      (then (wanted r (s.Do (a.Exp (e.If if_.span.from)) ∷ st) rest else_.span.to ends)
      (acts-at (sym (after-both if_.span.to (ts ++ then_ ∷ us) (else_ ∷ ws)))
      (stays rest st (last_after else_.span.to ws)))))))))));
})

pub c-tail-case : {oi : Bool} {n m : List Made} {ts us : List Token} {case_ of_ : Token} → IsMark (codes "case") case_ → Starting begins_exp (ExprC oi n) ts → IsMark (codes "of") of_ → MatchC m us →
    Starting begins_tail (TailC true (n ++ (made (a.Exp e.NoRules) of_.span.to ∷ (m ++ (made (a.Exp (e.Case case_.span.from)) (last_of (case_ ∷ ts ++ of_ ∷ us)) ∷ []))))) (case_ ∷ ts ++ of_ ∷ us)
c-tail-case {ts = ts} {us = us} {case_ = case_} {of_ = of_} h p i r = starting case_ (ts ++ of_ ∷ us) (ap begins_tail (Words.is-case h) ∙ case-begins) (record {
  comes = λ st rest ends.
      ends-at (sym (after-both case_.span.to ts (of_ ∷ us)))
      (grouped ts (of_ ∷ us) rest
      (stacked st (ap (λ z. tail_take z case_.span.from) (Words.is-case h) ∙ case-take case_.span.from)
      (then (wanted p (s.Want m.Of ∷ s.Do (a.Exp e.NoRules) ∷ s.Pat pp.Whole ∷ s.Want m.DoubleArrow ∷ s.Exp xp.Whole ∷ s.Do (a.Exp e.AddRule) ∷ s.ExpRest xr.Match ∷ s.Do (a.Exp (e.Case case_.span.from)) ∷ st) (of_ ∷ us ++ rest) case_.span.to (ExpEnds.before-of i))
      (wants (Words.is-of i) (same m.Of)
      (acts
      (then (r.comes (s.Do (a.Exp (e.Case case_.span.from)) ∷ st) rest of_.span.to ends)
      (acts-at (sym (after-both case_.span.to ts (of_ ∷ us)))
      (stays rest st (last_after of_.span.to us)))))))));
})

pub c-tail-fn : {m : List Made} {us : List Token} {word : Token} → IsMark (codes "fn") word → MatchC m us →
    Starting begins_tail (TailC true (made (a.Exp e.NoRules) word.span.to ∷ (m ++ (made (a.Exp (e.Fn word.span.from)) (last_of (word ∷ us)) ∷ [])))) (word ∷ us)
c-tail-fn {us = us} {word = word} h r = starting word us (ap begins_tail (Words.is-fn h) ∙ fn-begins) (record {
  comes = λ st rest ends.
      stacked st (ap (λ z. tail_take z word.span.from) (Words.is-fn h) ∙ fn-take word.span.from)
      (acts
      (then (r.comes (s.Do (a.Exp (e.Fn word.span.from)) ∷ st) rest word.span.to ends)
      (acts (stays rest st (last_after word.span.to us)))));
})

-- matches
pub c-one-rule : {open_ : Bool} {n m : List Made} {ts us : List Token} {arrow : Token} → Starting begins_pat (PatC n) ts → IsMark (codes "=>") arrow → Starting begins_exp (ExprC open_ m) us →
    RuleC open_ (n ++ (m ++ (made (a.Exp e.AddRule) (last_of (ts ++ arrow ∷ us)) ∷ []))) (ts ++ arrow ∷ us)
c-one-rule {us = us} {arrow = arrow} (starting x ts k p) h r = record {
  comes = λ st rest to ends.
      ends-at (sym (after-both to (x ∷ ts) (arrow ∷ us)))
      (grouped (x ∷ ts) (arrow ∷ us) rest
      (takes (Patterns.whole-takes _ x k)
      (then (p.comes (s.Want m.DoubleArrow ∷ s.Exp xp.Whole ∷ s.Do (a.Exp e.AddRule) ∷ st) (arrow ∷ us ++ rest) (Patterns.arrow-ends h))
      (wants (Words.is-double-arrow h) (same m.DoubleArrow)
      (then (wanted r (s.Do (a.Exp e.AddRule) ∷ st) rest arrow.span.to ends)
      (acts-at (sym (after-both 0 (x ∷ ts) (arrow ∷ us)))
      (stays rest st (last_after arrow.span.to us))))))));
}

pub c-match-last : {open_ : Bool} {n : List Made} {ts : List Token} → RuleC open_ n ts → MatchC n ts
c-match-last {ts = ts} p = record {
  comes = λ st rest to ends.
      lastly (p.comes (s.ExpRest xr.Match ∷ st) rest to (ends-all ends))
      (skips (ends.bar refl) (stays rest st (last_after to ts)));
}

bar-takes : (t : Token) → move_at (s.ExpRest xr.Match) (o.Mark m.Bar) t ≡ Takes (s.Pat pp.Whole ∷ s.Want m.DoubleArrow ∷ s.Exp xp.Whole ∷ s.Do (a.Exp e.AddRule) ∷ s.ExpRest xr.Match ∷ [])
unfolding move_at is_mark same_mark mark_number
bar-takes t = refl

pub c-match-more : {n m : List Made} {ts us : List Token} {bar : Token} → RuleC false n ts → IsMark (codes "|") bar → MatchC m us → MatchC (n ++ m) (ts ++ bar ∷ us)
c-match-more {ts = ts} {us = us} {bar = bar} p h r = record {
  comes = λ st rest to ends.
      ends-at (sym (after-both to ts (bar ∷ us)))
      (grouped ts (bar ∷ us) rest
      (then (p.comes (s.ExpRest xr.Match ∷ st) (bar ∷ us ++ rest) to (ExpEnds.before-bar h))
      (takes-as (Words.is-bar h) (bar-takes bar)
      (r.comes st rest bar.span.to ends))));
}

-- expressions between marks
pub c-exps-one : {spelling : List ℕ} {open_ : Bool} {n : List Made} {ts : List Token} → Starting begins_exp (ExprC open_ n) ts → Starting begins_exp (ExpsC spelling (n ++ (made (a.Exp e.Push) (last_of ts) ∷ []))) ts
c-exps-one (starting x us k p) = starting x us k (record {
  comes = λ z parts st rest ends.
      then (p.comes (s.Do (a.Exp e.Push) ∷ z ∷ st) rest (ends-all ends))
      (acts (stays rest (z ∷ st) (last_after x.span.to us)));
})

pub c-exps-more : {spelling : List ℕ} {open_ : Bool} {n m : List Made} {ts us : List Token} {word : Token} → Starting begins_exp (ExprC open_ n) ts → IsMark spelling word → Starting begins_exp (ExpsC spelling m) us →
    Starting begins_exp (ExpsC spelling (n ++ (made (a.Exp e.Push) (last_of ts) ∷ m))) (ts ++ word ∷ us)
c-exps-more {word = word} (starting x ts k p) h (starting u us l r) = starting x (ts ++ word ∷ u ∷ us) k (record {
  comes = λ z parts st rest ends.
      ends-at (sym (after-both x.span.to ts (word ∷ u ∷ us)))
      (grouped ts (word ∷ u ∷ us) rest
      (then (p.comes (s.Do (a.Exp e.Push) ∷ z ∷ st) (word ∷ u ∷ us ++ rest) (ends-all (parts.ends word h)))
      (acts
      (takes (parts.goes word h)
      (takes (whole-takes _ u l)
      (r.comes z parts st rest ends))))));
})

-- brackets
open-take : (t : Token) → atom_take (o.Mark m.Open) t ≡ s.ExpItems (xi.Opened t.span.from) ∷ []
unfolding atom_take atom_mark_take same_mark mark_number
open-take t = refl

bracket-take : (t : Token) → atom_take (o.Mark m.OpenBracket) t ≡ s.ExpItems (xi.OpenedList t.span.from) ∷ []
unfolding atom_take atom_mark_take same_mark mark_number
bracket-take t = refl

open-begins : begins_atom (o.Mark m.Open) ≡ true
unfolding begins_atom atom_mark same_mark mark_number
open-begins = refl

bracket-begins : begins_atom (o.Mark m.OpenBracket) ≡ true
unfolding begins_atom atom_mark same_mark mark_number
bracket-begins = refl

opened-close : (from : ℕ) (t : Token) → move_at (s.ExpItems (xi.Opened from)) (o.Mark m.Close) t ≡ Takes (s.Do (a.Exp (e.Unit from)) ∷ [])
unfolding move_at is_mark same_mark mark_number
opened-close from t = refl

list-close : (from : ℕ) (t : Token) → move_at (s.ExpItems (xi.OpenedList from)) (o.Mark m.CloseBracket) t ≡ Takes (s.Do (a.Exp e.NoExps) ∷ s.Do (a.Exp (e.List from)) ∷ [])
unfolding move_at is_mark same_mark mark_number
list-close from t = refl

not-closing : (mark : Mark) → cond (atom_mark mark) true (tail_mark mark) ≡ true → (same_mark mark m.Close ≡ false) × (same_mark mark m.CloseBracket ≡ false)
unfolding atom_mark tail_mark same_mark mark_number
not-closing m.Close h = cc
not-closing m.CloseBracket h = cc
not-closing m.Open h = (refl, refl)
not-closing _ h = (refl, refl)

begins-no-close : (sort : TokenSort) → begins_exp sort ≡ true → (is_mark m.Close sort ≡ false) × (is_mark m.CloseBracket sort ≡ false)
unfolding begins_exp begins_atom begins_tail is_mark
begins-no-close (o.Mark mark) h = not-closing mark h
begins-no-close _ h = (refl, refl)

opened-takes : (from : ℕ) (sort : TokenSort) (t : Token) → begins_exp sort ≡ true → move_at (s.ExpItems (xi.Opened from)) sort t ≡ Takes (exp_take sort t ++ (s.ExpItems (xi.AfterFirst from) ∷ []))
unfolding move_at
opened-takes from sort t h = let k = (begins-no-close sort h).0 in rw (k, h) refl

list-takes : (from : ℕ) (sort : TokenSort) (t : Token) → begins_exp sort ≡ true → move_at (s.ExpItems (xi.OpenedList from)) sort t ≡ Takes (s.Do (a.Exp e.NoExps) ∷ (exp_take sort t ++ (s.Do (a.Exp e.Push) ∷ s.ExpItems (xi.List from) ∷ [])))
unfolding move_at
list-takes from sort t h = let k = (begins-no-close sort h).1 in rw (k, h) refl

first-close : (from : ℕ) (t : Token) → move_at (s.ExpItems (xi.AfterFirst from)) (o.Mark m.Close) t ≡ Takes []
unfolding move_at is_mark same_mark mark_number
first-close from t = refl

first-comma : (from : ℕ) (t : Token) → move_at (s.ExpItems (xi.AfterFirst from)) (o.Mark m.Comma) t ≡ Takes (s.Do (a.Exp e.First) ∷ s.Exp xp.Whole ∷ s.Do (a.Exp e.Push) ∷ s.ExpItems (xi.Tuple from) ∷ [])
unfolding move_at is_mark same_mark mark_number
first-comma from t = refl

first-semicolon : (from : ℕ) (t : Token) → move_at (s.ExpItems (xi.AfterFirst from)) (o.Mark m.Semicolon) t ≡ Takes (s.Do (a.Exp e.First) ∷ s.Exp xp.Whole ∷ s.Do (a.Exp e.Push) ∷ s.ExpItems (xi.Seq from) ∷ [])
unfolding move_at is_mark same_mark mark_number
first-semicolon from t = refl

tuple-goes : (from : ℕ) (t : Token) → move_at (s.ExpItems (xi.Tuple from)) (o.Mark m.Comma) t ≡ Takes (s.Exp xp.Whole ∷ s.Do (a.Exp e.Push) ∷ s.ExpItems (xi.Tuple from) ∷ [])
unfolding move_at is_mark same_mark mark_number
tuple-goes from t = refl

seq-goes : (from : ℕ) (t : Token) → move_at (s.ExpItems (xi.Seq from)) (o.Mark m.Semicolon) t ≡ Takes (s.Exp xp.Whole ∷ s.Do (a.Exp e.Push) ∷ s.ExpItems (xi.Seq from) ∷ [])
unfolding move_at is_mark same_mark mark_number
seq-goes from t = refl

list-goes : (from : ℕ) (t : Token) → move_at (s.ExpItems (xi.List from)) (o.Mark m.Comma) t ≡ Takes (s.Exp xp.Whole ∷ s.Do (a.Exp e.Push) ∷ s.ExpItems (xi.List from) ∷ [])
unfolding move_at is_mark same_mark mark_number
list-goes from t = refl

let-goes : (t : Token) → move_at (s.ExpItems xi.Let) (o.Mark m.Semicolon) t ≡ Takes (s.Exp xp.Whole ∷ s.Do (a.Exp e.Push) ∷ s.ExpItems xi.Let ∷ [])
unfolding move_at is_mark same_mark mark_number
let-goes t = refl

tuple-parts : (from : ℕ) → Parts (codes ",") (s.ExpItems (xi.Tuple from))
tuple-parts from = record { ends = λ t h. ExpEnds.before-comma h; goes = λ t h. ap (λ z. move_at (s.ExpItems (xi.Tuple from)) z t) (Words.is-comma h) ∙ tuple-goes from t }

seq-parts : (from : ℕ) → Parts (codes ";") (s.ExpItems (xi.Seq from))
seq-parts from = record { ends = λ t h. ExpEnds.before-semicolon h; goes = λ t h. ap (λ z. move_at (s.ExpItems (xi.Seq from)) z t) (Words.is-semicolon h) ∙ seq-goes from t }

list-parts : (from : ℕ) → Parts (codes ",") (s.ExpItems (xi.List from))
list-parts from = record { ends = λ t h. ExpEnds.before-comma h; goes = λ t h. ap (λ z. move_at (s.ExpItems (xi.List from)) z t) (Words.is-comma h) ∙ list-goes from t }

let-parts : Parts (codes ";") (s.ExpItems xi.Let)
let-parts = record { ends = λ t h. ExpEnds.before-semicolon h; goes = λ t h. ap (λ z. move_at (s.ExpItems xi.Let) z t) (Words.is-semicolon h) ∙ let-goes t }

tuple-closes : (from : ℕ) (t : Token) → move_at (s.ExpItems (xi.Tuple from)) (o.Mark m.Close) t ≡ Takes (s.Do (a.Exp (e.Tuple from)) ∷ [])
unfolding move_at is_mark same_mark mark_number
tuple-closes from t = refl

seq-closes : (from : ℕ) (t : Token) → move_at (s.ExpItems (xi.Seq from)) (o.Mark m.Close) t ≡ Takes (s.Do (a.Exp (e.Seq from)) ∷ [])
unfolding move_at is_mark same_mark mark_number
seq-closes from t = refl

list-closes : (from : ℕ) (t : Token) → move_at (s.ExpItems (xi.List from)) (o.Mark m.CloseBracket) t ≡ Takes (s.Do (a.Exp (e.List from)) ∷ [])
unfolding move_at is_mark same_mark mark_number
list-closes from t = refl

let-closes : (t : Token) → move_at (s.ExpItems xi.Let) (o.Mark m.End) t ≡ Takes []
unfolding move_at is_mark same_mark mark_number
let-closes t = refl

pub c-atx-unit : {opening closing : Token} → IsMark (codes "(") opening → IsMark (codes ")") closing → Starting begins_atom (AtomC (made (a.Exp (e.Unit opening.span.from)) closing.span.to ∷ [])) (opening ∷ closing ∷ [])
c-atx-unit {opening} {closing} h i = starting opening (closing ∷ []) (ap begins_atom (Words.is-open h) ∙ open-begins) (record {
  comes = λ st rest.
      stacked st (ap (λ z. atom_take z opening) (Words.is-open h) ∙ open-take opening)
      (takes-as (Words.is-close i) (opened-close opening.span.from closing)
      (acts (stays rest st closing.span.to)));
})

pub c-atx-no-list : {opening closing : Token} → IsMark (codes "[") opening → IsMark (codes "]") closing →
    Starting begins_atom (AtomC (made (a.Exp e.NoExps) closing.span.to ∷ made (a.Exp (e.List opening.span.from)) closing.span.to ∷ [])) (opening ∷ closing ∷ [])
c-atx-no-list {opening} {closing} h i = starting opening (closing ∷ []) (ap begins_atom (Words.is-open-bracket h) ∙ bracket-begins) (record {
  comes = λ st rest.
      stacked st (ap (λ z. atom_take z opening) (Words.is-open-bracket h) ∙ bracket-take opening)
      (takes-as (Words.is-close-bracket i) (list-close opening.span.from closing)
      (acts (acts (stays rest st closing.span.to))));
})

pub c-atx-paren : {open_ : Bool} {n : List Made} {ts : List Token} {opening closing : Token} → IsMark (codes "(") opening → Starting begins_exp (ExprC open_ n) ts → IsMark (codes ")") closing →
    Starting begins_atom (AtomC n) (opening ∷ ts ++ closing ∷ [])
c-atx-paren {opening = opening} {closing = closing} h (starting x us k p) i = starting opening ((x ∷ us) ++ closing ∷ []) (ap begins_atom (Words.is-open h) ∙ open-begins) (record {
  comes = λ st rest.
      ends-at (sym (after-both opening.span.to (x ∷ us) (closing ∷ [])))
      (grouped (x ∷ us) (closing ∷ []) rest
      (stacked st (ap (λ z. atom_take z opening) (Words.is-open h) ∙ open-take opening)
      (takes (opened-takes opening.span.from _ x k)
      (pushed (exp_take (sort_of x.form) x) (s.ExpItems (xi.AfterFirst opening.span.from) ∷ []) st
      (lastly (p.comes (s.ExpItems (xi.AfterFirst opening.span.from) ∷ st) (closing ∷ rest) (ExpEnds.before-close i))
      (takes-as (Words.is-close i) (first-close opening.span.from closing)
      (stays rest st closing.span.to)))))));
})

pub c-atx-tuple : {open_ : Bool} {n m : List Made} {ts us : List Token} {opening word closing : Token} →
    IsMark (codes "(") opening → Starting begins_exp (ExprC open_ n) ts → IsMark (codes ",") word → Starting begins_exp (ExpsC (codes ",") m) us → IsMark (codes ")") closing →
    Starting begins_atom (AtomC (n ++ (made (a.Exp e.First) word.span.to ∷ (m ++ (made (a.Exp (e.Tuple opening.span.from)) closing.span.to ∷ []))))) (opening ∷ (ts ++ word ∷ us) ++ closing ∷ [])
c-atx-tuple {opening = opening} {word = word} {closing = closing} h (starting x ts k p) i (starting u us l r) j =
    starting opening (((x ∷ ts) ++ word ∷ u ∷ us) ++ closing ∷ []) (ap begins_atom (Words.is-open h) ∙ open-begins) (record {
      comes = λ st rest.
          ends-at (sym (after-both opening.span.to ((x ∷ ts) ++ word ∷ u ∷ us) (closing ∷ [])))
          (grouped ((x ∷ ts) ++ word ∷ u ∷ us) (closing ∷ []) rest
          (grouped (x ∷ ts) (word ∷ u ∷ us) (closing ∷ rest)
          (stacked st (ap (λ z. atom_take z opening) (Words.is-open h) ∙ open-take opening)
          (takes (opened-takes opening.span.from _ x k)
          (pushed (exp_take (sort_of x.form) x) (s.ExpItems (xi.AfterFirst opening.span.from) ∷ []) st
          (then (p.comes (s.ExpItems (xi.AfterFirst opening.span.from) ∷ st) (word ∷ u ∷ us ++ closing ∷ rest) (ExpEnds.before-comma i))
          (takes-as (Words.is-comma i) (first-comma opening.span.from word)
          (acts
          (takes (whole-takes _ u l)
          (then (r.comes (s.ExpItems (xi.Tuple opening.span.from)) (tuple-parts opening.span.from) st (closing ∷ rest) (ExpEnds.before-close j))
          (takes-as (Words.is-close j) (tuple-closes opening.span.from closing)
          (acts (stays rest st closing.span.to)))))))))))));
    })

pub c-atx-seq : {open_ : Bool} {n m : List Made} {ts us : List Token} {opening word closing : Token} →
    IsMark (codes "(") opening → Starting begins_exp (ExprC open_ n) ts → IsMark (codes ";") word → Starting begins_exp (ExpsC (codes ";") m) us → IsMark (codes ")") closing →
    Starting begins_atom (AtomC (n ++ (made (a.Exp e.First) word.span.to ∷ (m ++ (made (a.Exp (e.Seq opening.span.from)) closing.span.to ∷ []))))) (opening ∷ (ts ++ word ∷ us) ++ closing ∷ [])
c-atx-seq {opening = opening} {word = word} {closing = closing} h (starting x ts k p) i (starting u us l r) j =
    starting opening (((x ∷ ts) ++ word ∷ u ∷ us) ++ closing ∷ []) (ap begins_atom (Words.is-open h) ∙ open-begins) (record {
      comes = λ st rest.
          ends-at (sym (after-both opening.span.to ((x ∷ ts) ++ word ∷ u ∷ us) (closing ∷ [])))
          (grouped ((x ∷ ts) ++ word ∷ u ∷ us) (closing ∷ []) rest
          (grouped (x ∷ ts) (word ∷ u ∷ us) (closing ∷ rest)
          (stacked st (ap (λ z. atom_take z opening) (Words.is-open h) ∙ open-take opening)
          (takes (opened-takes opening.span.from _ x k)
          (pushed (exp_take (sort_of x.form) x) (s.ExpItems (xi.AfterFirst opening.span.from) ∷ []) st
          (then (p.comes (s.ExpItems (xi.AfterFirst opening.span.from) ∷ st) (word ∷ u ∷ us ++ closing ∷ rest) (ExpEnds.before-semicolon i))
          (takes-as (Words.is-semicolon i) (first-semicolon opening.span.from word)
          (acts
          (takes (whole-takes _ u l)
          (then (r.comes (s.ExpItems (xi.Seq opening.span.from)) (seq-parts opening.span.from) st (closing ∷ rest) (ExpEnds.before-close j))
          (takes-as (Words.is-close j) (seq-closes opening.span.from closing)
          (acts (stays rest st closing.span.to)))))))))))));
    })

pub c-atx-list : {n : List Made} {ts : List Token} {opening closing : Token} → IsMark (codes "[") opening → Starting begins_exp (ExpsC (codes ",") n) ts → IsMark (codes "]") closing →
    Starting begins_atom (AtomC (made (a.Exp e.NoExps) (first_to ts) ∷ (n ++ (made (a.Exp (e.List opening.span.from)) closing.span.to ∷ [])))) (opening ∷ ts ++ closing ∷ [])
c-atx-list {opening = opening} {closing = closing} h (starting x us k p) i = starting opening ((x ∷ us) ++ closing ∷ []) (ap begins_atom (Words.is-open-bracket h) ∙ bracket-begins) (record {
  comes = λ st rest.
      ends-at (sym (after-both opening.span.to (x ∷ us) (closing ∷ [])))
      (grouped (x ∷ us) (closing ∷ []) rest
      (stacked st (ap (λ z. atom_take z opening) (Words.is-open-bracket h) ∙ bracket-take opening)
      (takes (list-takes opening.span.from _ x k)
      (acts
      (pushed (exp_take (sort_of x.form) x) (s.Do (a.Exp e.Push) ∷ s.ExpItems (xi.List opening.span.from) ∷ []) st
      (then (p.comes (s.ExpItems (xi.List opening.span.from)) (list-parts opening.span.from) st (closing ∷ rest) (ExpEnds.before-close-bracket i))
      (takes-as (Words.is-close-bracket i) (list-closes opening.span.from closing)
      (acts (stays rest st closing.span.to)))))))));
})

-- `let`
let-begins : begins_atom (o.Mark m.Let) ≡ true
unfolding begins_atom atom_mark same_mark mark_number
let-begins = refl

let-take : (t : Token) → atom_take (o.Mark m.Let) t ≡ s.Do (a.Dec d.NoDecs) ∷ s.Dec dp.Inner ∷ s.Want m.In ∷ s.Do (a.Exp e.NoExps) ∷ s.Exp xp.Whole ∷ s.Do (a.Exp e.Push) ∷ s.ExpItems xi.Let ∷ s.Do (a.Exp (e.Let t.span.from)) ∷ []
unfolding atom_take atom_mark_take same_mark mark_number
let-take t = refl

pub c-atx-let : {n m : List Made} {ts us : List Token} {let_ in_ end_ : Token} → IsMark (codes "let") let_ → DecsC n ts → IsMark (codes "in") in_ → Starting begins_exp (ExpsC (codes ";") m) us → IsMark (codes "end") end_ →
    Starting begins_atom (AtomC (made (a.Dec d.NoDecs) let_.span.to ∷ (n ++ (made (a.Exp e.NoExps) in_.span.to ∷ (m ++ (made (a.Exp (e.Let let_.span.from)) end_.span.to ∷ [])))))) (let_ ∷ ts ++ in_ ∷ us ++ end_ ∷ [])
c-atx-let {ts = ts} {let_ = let_} {in_ = in_} {end_ = end_} h p i (starting u us l r) j = starting let_ ((ts ++ in_ ∷ u ∷ us) ++ end_ ∷ []) (ap begins_atom (Words.is-let h) ∙ let-begins) (record {
  comes = λ st rest.
      ends-at (sym (after-both let_.span.to (ts ++ in_ ∷ u ∷ us) (end_ ∷ [])))
      (grouped (ts ++ in_ ∷ u ∷ us) (end_ ∷ []) rest
      (grouped ts (in_ ∷ u ∷ us) (end_ ∷ rest)
      (stacked st (ap (λ z. atom_take z let_) (Words.is-let h) ∙ let-take let_)
      (acts
      (then (p.comes (s.Want m.In ∷ s.Do (a.Exp e.NoExps) ∷ s.Exp xp.Whole ∷ s.Do (a.Exp e.Push) ∷ s.ExpItems xi.Let ∷ s.Do (a.Exp (e.Let let_.span.from)) ∷ st) (in_ ∷ u ∷ us ++ end_ ∷ rest) let_.span.to (DecEnding.inner-in i))
      (wants (Words.is-in i) (same m.In)
      (acts
      (takes (whole-takes _ u l)
      (then (r.comes (s.ExpItems xi.Let) let-parts (s.Do (a.Exp (e.Let let_.span.from)) ∷ st) (end_ ∷ rest) (ExpEnds.before-end j))
      (takes-as (Words.is-end j) (let-closes end_)
      (acts (stays rest st end_.span.to))))))))))));
})

-- quotations
pub c-no-text : {next : ℕ} → TextC next (made (a.Exp e.EmptyPlain) next ∷ []) []
c-no-text {next} = record {
  comes = λ t β st rest to h after any.
      takes any (acts-at h (ends-at h (stays rest (β ++ st) t.span.to)));
}

some-plain : (byte : ℕ) (bytes : List ℕ) → plain_sort (byte ∷ bytes) ≡ o.Plain
unfolding plain_sort
some-plain byte bytes = let k : (suc (length bytes) == 0) ≡ false = ne_eqb (suc (length bytes)) 0 (λ h. omega arith) in rw k refl

plain-takes : (t : Token) → move_at (s.Quoted q.Any) o.Plain t ≡ Takes (s.Do (a.Exp (e.Plain (text_of t.form))) ∷ s.Quoted q.AfterPlain ∷ [])
unfolding move_at is_plain
plain-takes t = refl

plain-is : (word : Token) {byte : ℕ} {bytes : List ℕ} → word.form ≡ f.Plain (byte ∷ bytes) → sort_of word.form ≡ o.Plain
unfolding sort_of
plain-is word {byte} {bytes} h = ap sort_of h ∙ some-plain byte bytes

plain-text : (word : Token) {text : List ℕ} → word.form ≡ f.Plain text → text_of word.form ≡ text
unfolding text_of
plain-text word h = ap text_of h

pub c-some-text : {next : ℕ} {word : Token} {byte : ℕ} {bytes : List ℕ} → word.form ≡ f.Plain (byte ∷ bytes) → TextC next (made (a.Exp (e.Plain (byte ∷ bytes))) word.span.to ∷ []) (word ∷ [])
c-some-text {next} {word} {byte} {bytes} h = record {
  comes = λ t β st rest to i after any.
      takes-as (plain-is word h) (plain-takes word ∙ ap (λ z. Takes (s.Do (a.Exp (e.Plain z)) ∷ s.Quoted q.AfterPlain ∷ [])) (plain-text word h))
      (acts
      (takes after (ends-at i (stays rest (β ++ st) t.span.to))));
}

anti-after : (t : Token) → move_at (s.Quoted q.AfterPlain) o.Anti t ≡ Takes (s.Do (a.Exp (e.Name (name_place t.span) (text_of t.form))) ∷ s.Do (a.Exp e.AddAnti) ∷ s.Quoted q.Any ∷ [])
unfolding move_at is_anti
anti-after t = refl

anti-any : (t : Token) → move_at (s.Quoted q.Any) o.Anti t ≡ Takes (s.Do (a.Exp e.EmptyPlain) ∷ s.Do (a.Exp (e.Name (name_place t.span) (text_of t.form))) ∷ s.Do (a.Exp e.AddAnti) ∷ s.Quoted q.Any ∷ [])
unfolding move_at is_anti is_plain
anti-any t = refl

from-after : (t : Token) → move_at (s.Quoted q.AfterPlain) o.AntiFrom t ≡ Takes (s.Exp xp.Whole ∷ s.Quoted q.AntiEnd ∷ s.Do (a.Exp e.AddAnti) ∷ s.Quoted q.Any ∷ [])
unfolding move_at is_anti is_anti_from
from-after t = refl

from-any : (t : Token) → move_at (s.Quoted q.Any) o.AntiFrom t ≡ Takes (s.Do (a.Exp e.EmptyPlain) ∷ s.Exp xp.Whole ∷ s.Quoted q.AntiEnd ∷ s.Do (a.Exp e.AddAnti) ∷ s.Quoted q.Any ∷ [])
unfolding move_at is_anti is_anti_from is_plain
from-any t = refl

to-takes : (t : Token) → move_at (s.Quoted q.AntiEnd) o.AntiTo t ≡ Takes []
unfolding move_at is_anti_to
to-takes t = refl

quote-after : (t : Token) → move_at (s.Quoted q.AfterPlain) o.QuoteTo t ≡ Takes []
unfolding move_at is_anti is_anti_from is_quote_to
quote-after t = refl

quote-any : (t : Token) → move_at (s.Quoted q.Any) o.QuoteTo t ≡ Takes (s.Do (a.Exp e.EmptyPlain) ∷ [])
unfolding move_at is_anti is_anti_from is_quote_to is_plain
quote-any t = refl

anti-is : (word : Token) {name : List ℕ} → word.form ≡ f.Anti name → sort_of word.form ≡ o.Anti
unfolding sort_of
anti-is word h = ap sort_of h

anti-text : (word : Token) {name : List ℕ} → word.form ≡ f.Anti name → text_of word.form ≡ name
unfolding text_of
anti-text word h = ap text_of h

from-is : (word : Token) → word.form ≡ f.AntiFrom → sort_of word.form ≡ o.AntiFrom
unfolding sort_of
from-is word h = ap sort_of h

to-is : (word : Token) → word.form ≡ f.AntiTo → sort_of word.form ≡ o.AntiTo
unfolding sort_of
to-is word h = ap sort_of h

quote-to-is : (word : Token) → word.form ≡ f.QuoteTo → sort_of word.form ≡ o.QuoteTo
unfolding sort_of
quote-to-is word h = ap sort_of h

quote-from-is : (word : Token) → word.form ≡ f.QuoteFrom → sort_of word.form ≡ o.QuoteFrom
unfolding sort_of
quote-from-is word h = ap sort_of h

unfoldable pub any-first : TokenSort → Bool
any-first sort = true

pub c-anti-name : {word : Token} {name : List ℕ} → word.form ≡ f.Anti name → Starting any-first (AntiC (made (a.Exp (e.Name (name_place word.span) name)) word.span.to ∷ [])) (word ∷ [])
unfolding any-first
c-anti-name {word} {name} h = starting word [] refl (record {
  symbols = s.Do (a.Exp (e.Name (name_place word.span) name)) ∷ [];
  after = ap (λ z. move_at (s.Quoted q.AfterPlain) z word) (anti-is word h) ∙ anti-after word ∙ ap (λ z. Takes (s.Do (a.Exp (e.Name (name_place word.span) z)) ∷ s.Do (a.Exp e.AddAnti) ∷ s.Quoted q.Any ∷ [])) (anti-text word h);
  any = ap (λ z. move_at (s.Quoted q.Any) z word) (anti-is word h) ∙ anti-any word ∙ ap (λ z. Takes (s.Do (a.Exp e.EmptyPlain) ∷ s.Do (a.Exp (e.Name (name_place word.span) z)) ∷ s.Do (a.Exp e.AddAnti) ∷ s.Quoted q.Any ∷ [])) (anti-text word h);
  comes = λ st rest. acts (stays rest st word.span.to);
})

pub c-anti-exp : {open_ : Bool} {n : List Made} {ts : List Token} (from to : Token) → from.form ≡ f.AntiFrom → Starting begins_exp (ExprC open_ n) ts → to.form ≡ f.AntiTo → Starting any-first (AntiC n) (from ∷ ts ++ to ∷ [])
unfolding any-first
c-anti-exp {ts = ts} from to h p i = starting from (ts ++ to ∷ []) refl (record {
  symbols = s.Exp xp.Whole ∷ s.Quoted q.AntiEnd ∷ [];
  after = ap (λ z. move_at (s.Quoted q.AfterPlain) z from) (from-is from h) ∙ from-after from;
  any = ap (λ z. move_at (s.Quoted q.Any) z from) (from-is from h) ∙ from-any from;
  comes = λ st rest.
      ends-at (sym (after-both from.span.to ts (to ∷ [])))
      (grouped ts (to ∷ []) rest
      (lastly (wanted p (s.Quoted q.AntiEnd ∷ st) (to ∷ rest) from.span.to (ExpEnds.before-anti-to i))
      (takes-as (to-is to i) (to-takes to)
      (stays rest st to.span.to))));
})

pub c-quoted-last : {next : ℕ} {n : List Made} {ts : List Token} → TextC next n ts → QuotedC next n ts
c-quoted-last {next} p = record {
  comes = λ t st rest to h i.
      p.comes t [] st rest to i (ap (λ z. move_at (s.Quoted q.AfterPlain) z t) (quote-to-is t h) ∙ quote-after t) (ap (λ z. move_at (s.Quoted q.Any) z t) (quote-to-is t h) ∙ quote-any t);
}

pub c-quoted-more : {next : ℕ} {n m k : List Made} {ts us ws : List Token} → TextC (first_to us) n ts → Starting any-first (AntiC m) us → QuotedC next k ws →
    QuotedC next (n ++ (m ++ (made (a.Exp e.AddAnti) (last_of us) ∷ k))) (ts ++ us ++ ws)
c-quoted-more {ts = ts} {ws = ws} p (starting x us l r) w = record {
  comes = λ t st rest to h i.
      grouped (ts ++ x ∷ us) ws (t ∷ rest)
      (grouped ts (x ∷ us) (ws ++ t ∷ rest)
      (then (p.comes x (r.symbols ++ (s.Do (a.Exp e.AddAnti) ∷ s.Quoted q.Any ∷ [])) st (us ++ (ws ++ t ∷ rest)) to refl r.after r.any)
      (pushed r.symbols (s.Do (a.Exp e.AddAnti) ∷ s.Quoted q.Any ∷ []) st
      (then (r.comes (s.Do (a.Exp e.AddAnti) ∷ s.Quoted q.Any ∷ st) (ws ++ t ∷ rest))
      (acts
      (w.comes t st rest (last_after x.span.to us) h i))))));
}

quote-begins : begins_atom o.QuoteFrom ≡ true
unfolding begins_atom
quote-begins = refl

quote-take : (t : Token) → atom_take o.QuoteFrom t ≡ s.Do (a.Exp e.NoPieces) ∷ s.Quoted q.Any ∷ s.Do (a.Exp (e.Quote t.span.from)) ∷ []
unfolding atom_take
quote-take t = refl

pub c-atx-quote : {n : List Made} {ts : List Token} (from to : Token) → from.form ≡ f.QuoteFrom → QuotedC to.span.to n ts → to.form ≡ f.QuoteTo →
    Starting begins_atom (AtomC (made (a.Exp e.NoPieces) from.span.to ∷ (n ++ (made (a.Exp (e.Quote from.span.from)) to.span.to ∷ [])))) (from ∷ ts ++ to ∷ [])
c-atx-quote {ts = ts} from to h p i = starting from (ts ++ to ∷ []) (ap begins_atom (quote-from-is from h) ∙ quote-begins) (record {
  comes = λ st rest.
      ends-at (sym (after-both from.span.to ts (to ∷ [])))
      (grouped ts (to ∷ []) rest
      (stacked st (ap (λ z. atom_take z from) (quote-from-is from h) ∙ quote-take from)
      (acts
      (then (p.comes to (s.Do (a.Exp (e.Quote from.span.from)) ∷ st) rest from.span.to i refl)
      (acts (stays rest st to.span.to))))));
})
