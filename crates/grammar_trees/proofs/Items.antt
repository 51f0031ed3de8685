-- Items of programs, as the machine reads them.
use Rattle.std.proofs.Common.{◌≡◌, ℕ, List, [], ◌∷◌, ◌++◌, Bool, true, false, None, refl, ap, sym, ◌∙◌, subst, codes, cond}
use Rattle.sml_syntax.specs.declared.token.Token.{Token}
use Rattle.grammar_rules.specs.Nodes.{first_of, last_of, last_after}
use Rattle.grammar_rules.specs.Grammar.{IsMark}
use Rattle.sml_grammar.specs.declared.mark.Mark.{Mark}
use Rattle.sml_grammar.specs.declared.mark.Mark.TheVariants as m
use Rattle.sml_grammar.specs.declared.token_sort.TokenSort.{TokenSort}
use Rattle.sml_grammar.specs.declared.token_sort.TokenSort.TheVariants as o
use Rattle.sml_grammar.specs.declared.act.Made.{Made}
use Rattle.sml_grammar.specs.declared.act.Act.TheVariants as a
use Rattle.sml_grammar.specs.declared.act.DecAct.TheVariants as b
use Rattle.sml_grammar.specs.declared.symbol.Sym.{Sym}
use Rattle.sml_grammar.specs.declared.symbol.Sym.TheVariants as s
use Rattle.sml_grammar.specs.declared.symbol.DecPhrase.TheVariants as dp
use Rattle.sml_grammar.specs.Marks.{same_mark, mark_number}
use Rattle.sml_grammar.specs.Sorts.{sort_of, is_mark, begins_exp, begins_dec, begins_atom, begins_tail, declaration_mark, atom_mark, tail_mark}
use Rattle.sml_grammar.specs.Moves.{Takes, Skips}
use Rattle.sml_grammar.specs.Takes.{exp_take, dec_take}
use Rattle.sml_grammar.specs.Machine.{made, move_end}
use Rattle.grammar_trees.specs.Exact.{move_at, move_of}
use Rattle.grammar_trees.specs.Claims.{Comes, Starting, starting, ExprC}
use Rattle.grammar_trees.specs.DecClaims.{DecC, ItemsC, ItemsAfterC}
use Rattle.grammar_trees.proofs.Words
use Rattle.grammar_trees.proofs.ExpEnds
use Rattle.grammar_trees.proofs.DecEnding.{before-semicolon, begins-ends, at-end}
use Rattle.grammar_trees.proofs.Declarations.{dec-no-semicolon}
use Rattle.grammar_trees.proofs.Steps.{stays, skips, acts, takes, takes-as, then, ends-at, pushed, after-both}

item-takes : (sort : TokenSort) (t : Token) → begins_dec sort ≡ true → move_at (s.Dec dp.Items) sort t ≡ Takes (dec_take false sort t.span.from ++ (s.Do (a.Dec (b.Item t.span.from)) ∷ s.Dec dp.AfterDec ∷ []))
unfolding move_at
item-takes sort t h = rw h refl

after-takes : (sort : TokenSort) (t : Token) → begins_dec sort ≡ true → move_at (s.Dec dp.AfterDec) sort t ≡ Takes (dec_take false sort t.span.from ++ (s.Do (a.Dec (b.Item t.span.from)) ∷ s.Dec dp.AfterDec ∷ []))
unfolding move_at
after-takes sort t h = let k = dec-no-semicolon sort h in rw (k, h) refl

after-semicolon : (t : Token) → move_at (s.Dec dp.AfterDec) (o.Mark m.Semicolon) t ≡ Takes (s.Dec dp.Items ∷ [])
unfolding move_at is_mark same_mark mark_number
after-semicolon t = refl

exp-semicolon : (t : Token) → move_at (s.Dec dp.AfterExp) (o.Mark m.Semicolon) t ≡ Takes (s.Dec dp.Items ∷ [])
unfolding move_at is_mark same_mark mark_number
exp-semicolon t = refl

exp-no-dec-mark : (mark : Mark) → declaration_mark mark ≡ true → cond (atom_mark mark) true (tail_mark mark) ≡ false
unfolding declaration_mark atom_mark tail_mark same_mark mark_number
exp-no-dec-mark m.Val h = refl
exp-no-dec-mark m.Fun h = refl
exp-no-dec-mark m.TypeWord h = refl
exp-no-dec-mark m.Datatype h = refl
exp-no-dec-mark m.Exception h = refl
exp-no-dec-mark m.Local h = refl
exp-no-dec-mark _ h = cc

no : false ≡ true → ⊥
no e = cc

-- a token that begins an expression begins no declaration
exp-no-dec : (sort : TokenSort) → begins_exp sort ≡ true → begins_dec sort ≡ false
unfolding begins_exp begins_dec begins_atom begins_tail
exp-no-dec (o.Mark mark) h = go (declaration_mark mark) refl
  where
    go : (w : Bool) → declaration_mark mark ≡ w → w ≡ false
    go false e = refl
    go true e = absurd (no (sym (exp-no-dec-mark mark e) ∙ h))
exp-no-dec _ h = refl

exp-takes : (sort : TokenSort) (t : Token) → begins_exp sort ≡ true → move_at (s.Dec dp.Items) sort t ≡ Takes (exp_take sort t ++ (s.Do (a.Dec (b.It t.span.from)) ∷ s.Do (a.Dec (b.Item t.span.from)) ∷ s.Dec dp.AfterExp ∷ []))
unfolding move_at
exp-takes sort t h = let k = exp-no-dec sort h in rw (k, h) refl

items-end : move_of (s.Dec dp.Items) None ≡ Skips
unfolding move_of move_end
items-end = refl

after-end : move_of (s.Dec dp.AfterDec) None ≡ Skips
unfolding move_of move_end
after-end = refl

exp-end : move_of (s.Dec dp.AfterExp) None ≡ Skips
unfolding move_of move_end
exp-end = refl

-- nothing follows
ends-here : (ts : List Token) {st : List Sym} {to to' : ℕ} {new : List Made} → Comes (ts ++ []) st to new [] [] to' → Comes ts st to new [] [] to'
ends-here ts {st} {to} {to'} {new} c = subst (λ z. Comes z st to new [] [] to') (all ts) c
  where
    all : (ts : List Token) → ts ++ [] ≡ ts
    all [] = refl
    all (t ∷ ts) = ap (λ z. t ∷ z) (all ts)

pub c-items-none : ItemsC [] []
c-items-none = record { comes = λ to. skips items-end (stays [] [] to) }

pub c-after-none : ItemsAfterC [] []
c-after-none = record { comes = λ to. skips after-end (stays [] [] to); ends = at-end }

-- a declaration, and what follows it
dec-then : {n k : List Made} {x : Token} {ts us : List Token} (to : ℕ) → DecC false n x ts → ItemsAfterC k us →
    Comes (ts ++ us) (dec_take false (sort_of x.form) x.span.from ++ (s.Do (a.Dec (b.Item x.span.from)) ∷ s.Dec dp.AfterDec ∷ [])) x.span.to (n ++ (made (a.Dec (b.Item x.span.from)) (last_after x.span.to ts) ∷ k)) [] [] (last_after x.span.to (ts ++ us))
dec-then {x = x} {ts = ts} {us = us} to p q =
    ends-at (sym (after-both x.span.to ts us))
    (then (p.comes (s.Do (a.Dec (b.Item x.span.from)) ∷ s.Dec dp.AfterDec ∷ []) us q.ends)
    (acts
    (q.comes (last_after x.span.to ts))))

pub c-items-dec : {n k : List Made} {ts us : List Token} → Starting begins_dec (DecC false n) ts → ItemsAfterC k us → ItemsC (n ++ (made (a.Dec (b.Item (first_of ts))) (last_of ts) ∷ k)) (ts ++ us)
c-items-dec (starting x ts h p) q = record { comes = λ to. takes (item-takes _ x h) (pushed (dec_take false (sort_of x.form) x.span.from) (s.Do (a.Dec (b.Item x.span.from)) ∷ s.Dec dp.AfterDec ∷ []) [] (dec-then to p q)) }

pub c-after-dec : {n k : List Made} {ts us : List Token} → Starting begins_dec (DecC false n) ts → ItemsAfterC k us → ItemsAfterC (n ++ (made (a.Dec (b.Item (first_of ts))) (last_of ts) ∷ k)) (ts ++ us)
c-after-dec (starting x ts h p) q = record { comes = λ to. takes (after-takes _ x h) (pushed (dec_take false (sort_of x.form) x.span.from) (s.Do (a.Dec (b.Item x.span.from)) ∷ s.Dec dp.AfterDec ∷ []) [] (dec-then to p q)); ends = begins-ends x h }

pub c-after-semicolon : {n : List Made} {us : List Token} {word : Token} → IsMark (codes ";") word → ItemsC n us → ItemsAfterC n (word ∷ us)
c-after-semicolon {word = word} h q = record { comes = λ to. takes-as (Words.is-semicolon h) (after-semicolon word) (q.comes word.span.to); ends = before-semicolon h }

pub c-items-exp : {flag : Bool} {n : List Made} {ts : List Token} → Starting begins_exp (ExprC flag n) ts →
    ItemsC (n ++ (made (a.Dec (b.It (first_of ts))) (last_of ts) ∷ (made (a.Dec (b.Item (first_of ts))) (last_of ts) ∷ []))) ts
c-items-exp (starting x ts h p) = record {
  comes = λ to.
      ends-here (x ∷ ts)
      (takes (exp-takes _ x h)
      (pushed (exp_take (sort_of x.form) x) (s.Do (a.Dec (b.It x.span.from)) ∷ s.Do (a.Dec (b.Item x.span.from)) ∷ s.Dec dp.AfterExp ∷ []) []
      (then (p.comes (s.Do (a.Dec (b.It x.span.from)) ∷ s.Do (a.Dec (b.Item x.span.from)) ∷ s.Dec dp.AfterExp ∷ []) [] ExpEnds.at-end)
      (acts (acts
      (skips exp-end
      (stays [] [] (last_after x.span.to ts))))))));
}

pub c-items-exp-more : {flag : Bool} {n k : List Made} {ts us : List Token} {word : Token} → Starting begins_exp (ExprC flag n) ts → IsMark (codes ";") word → ItemsC k us →
    ItemsC (n ++ (made (a.Dec (b.It (first_of ts))) (last_of ts) ∷ (made (a.Dec (b.Item (first_of ts))) (last_of ts) ∷ k))) (ts ++ word ∷ us)
c-items-exp-more {us = us} {word = word} (starting x ts h p) i q = record {
  comes = λ to.
      ends-at (sym (after-both x.span.to ts (word ∷ us)))
      (takes (exp-takes _ x h)
      (pushed (exp_take (sort_of x.form) x) (s.Do (a.Dec (b.It x.span.from)) ∷ s.Do (a.Dec (b.Item x.span.from)) ∷ s.Dec dp.AfterExp ∷ []) []
      (then (p.comes (s.Do (a.Dec (b.It x.span.from)) ∷ s.Do (a.Dec (b.Item x.span.from)) ∷ s.Dec dp.AfterExp ∷ []) (word ∷ us) (ExpEnds.before-semicolon i))
      (acts (acts
      (takes-as (Words.is-semicolon i) (exp-semicolon word)
      (q.comes word.span.to)))))));
}
