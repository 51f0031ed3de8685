-- Expressions without brackets, as the machine reads them.
use Rattle.std.proofs.Common.{◌≡◌, ℕ, suc, ◌≤◌, ◌<◌, List, [], ◌∷◌, ◌++◌, Bool, true, false, refl, ap, sym, ◌∙◌, Option, Some, codes, nat_le, arith, ℤ}
use Rattle.std.proofs.lemmas.Bool.{le-leb}
use Rattle.sml_syntax.specs.declared.token.Token.{Token}
use Rattle.sml_syntax.specs.declared.token.TokenForm.TheVariants as f
use Rattle.grammar_rules.specs.InfixNames.{groups_right}
use Rattle.grammar_rules.specs.Nodes.{first_of, last_of, last_after}
use Rattle.grammar_rules.specs.Grammar.{IsMark, IsAnyName, IsTypeName, IsInfix}
use Rattle.sml_grammar.specs.declared.mark.Mark.{Mark}
use Rattle.sml_grammar.specs.declared.mark.Mark.TheVariants as m
use Rattle.sml_grammar.specs.declared.token_sort.TokenSort.{TokenSort}
use Rattle.sml_grammar.specs.declared.token_sort.TokenSort.TheVariants as o
use Rattle.sml_grammar.specs.declared.act.Made.{Made}
use Rattle.sml_grammar.specs.declared.act.Act.TheVariants as a
use Rattle.sml_grammar.specs.declared.act.ExpAct.TheVariants as e
use Rattle.sml_grammar.specs.declared.symbol.Sym.{Sym}
use Rattle.sml_grammar.specs.declared.symbol.Sym.TheVariants as s
use Rattle.sml_grammar.specs.declared.symbol.ExpPhrase.TheVariants as xp
use Rattle.sml_grammar.specs.declared.symbol.ExpRest.TheVariants as xr
use Rattle.sml_grammar.specs.declared.symbol.PatPhrase.TheVariants as pp
use Rattle.sml_grammar.specs.declared.symbol.TyPhrase.TheVariants as tp
use Rattle.sml_grammar.specs.Marks.{same_mark, mark_number}
use Rattle.sml_grammar.specs.Sorts.{sort_of, is_mark, begins_exp, begins_atom, begins_tail, atom_mark, tail_mark, begins_ty, is_op_name, equal_mark}
use Rattle.sml_grammar.specs.Tokens.{text_of, operand_level}
use Rattle.sml_grammar.specs.Moves.{Takes}
use Rattle.sml_grammar.specs.Takes.{atom_take, atom_mark_take, tail_take, exp_take, exp_rests}
use Rattle.sml_grammar.specs.Machine.{made}
use Rattle.grammar_trees.specs.Exact.{move_at}
use Rattle.grammar_trees.specs.Ends.{first, Skipped, LevelEnds, AndEnds, OrEnds, Ends}
use Rattle.grammar_trees.specs.Claims.{Comes, Starting, starting, TyC, AtomC, AppC, InfC, TyxC, AndC, OrC, TailC, ExprC, MatchC}
use Rattle.grammar_trees.proofs.Words
use Rattle.grammar_trees.proofs.Words.{TypeSort, at_name, at_long, type-sort, type-text, AnySort, any_name, any_star, any_cons, any_infix, any-sort, any-text, InfixSort, infix-text}
use Rattle.grammar_trees.proofs.Infix.{infix-is, infix-level, level-below, operand-left, operand-right}
use Rattle.grammar_trees.proofs.ExpEnds
use Rattle.grammar_trees.proofs.ExpEnds.{level-zero, op-ends, ends-all}
use Rattle.grammar_trees.proofs.Steps.{stays, skips, acts, acts-at, takes, takes-as, then, lastly, ends-at, grouped, pushed, stacked, at-word, after-both}

-- atoms of one token
pub c-atx-int : {word : Token} {number : ℤ} → word.form ≡ f.Int number → Starting begins_atom (AtomC (made (a.Exp (e.Int word.span.from number)) word.span.to ∷ [])) (word ∷ [])
unfolding begins_atom sort_of atom_take
c-atx-int {word} {number} h = starting word [] (ap (λ z. begins_atom (sort_of z)) h) (record { comes = λ st rest. stacked st (ap (λ z. atom_take (sort_of z) word) h) (acts (stays rest st word.span.to)) })

pub c-atx-char : {word : Token} {byte : ℕ} → word.form ≡ f.Char byte → Starting begins_atom (AtomC (made (a.Exp (e.Char word.span.from byte)) word.span.to ∷ [])) (word ∷ [])
unfolding begins_atom sort_of atom_take
c-atx-char {word} {byte} h = starting word [] (ap (λ z. begins_atom (sort_of z)) h) (record { comes = λ st rest. stacked st (ap (λ z. atom_take (sort_of z) word) h) (acts (stays rest st word.span.to)) })

pub c-atx-str : {word : Token} {text : List ℕ} → word.form ≡ f.Str text → Starting begins_atom (AtomC (made (a.Exp (e.Str word.span.from text)) word.span.to ∷ [])) (word ∷ [])
unfolding begins_atom sort_of atom_take text_of
c-atx-str {word} {text} h = starting word [] (ap (λ z. begins_atom (sort_of z)) h) (record {
  comes = λ st rest.
      stacked st (ap (λ z. atom_take (sort_of z) word) h ∙ ap (λ z. s.Do (a.Exp (e.Str word.span.from (text_of z))) ∷ []) h) (acts (stays rest st word.span.to));
})

name-begins : {sort : TokenSort} → TypeSort sort → begins_atom sort ≡ true
unfolding begins_atom
name-begins at_name = refl
name-begins at_long = refl

name-take : {sort : TokenSort} (word : Token) → TypeSort sort → atom_take sort word ≡ s.Do (a.Exp (e.Name word.span.from (text_of word.form))) ∷ []
unfolding atom_take
name-take word at_name = refl
name-take word at_long = refl

pub c-atx-name : {word : Token} {name : List ℕ} → IsTypeName name word → Starting begins_atom (AtomC (made (a.Exp (e.Name word.span.from name)) word.span.to ∷ [])) (word ∷ [])
c-atx-name {word} {name} h = starting word [] (name-begins (type-sort h)) (record {
  comes = λ st rest.
      stacked st (name-take word (type-sort h) ∙ ap (λ z. s.Do (a.Exp (e.Name word.span.from z)) ∷ []) (type-text h)) (acts (stays rest st word.span.to));
})

op-begins : begins_atom (o.Mark m.Op) ≡ true
unfolding begins_atom atom_mark same_mark mark_number
op-begins = refl

op-take : (t : Token) → atom_take (o.Mark m.Op) t ≡ s.Exp xp.OpName ∷ []
unfolding atom_take atom_mark_take same_mark mark_number
op-take t = refl

any-takes : {sort : TokenSort} (word : Token) → AnySort sort → move_at (s.Exp xp.OpName) sort word ≡ Takes (s.Do (a.Exp (e.Name word.span.from (text_of word.form))) ∷ [])
unfolding move_at is_op_name
any-takes word any_name = refl
any-takes word any_star = refl
any-takes word any_cons = refl
any-takes word (any_infix level) = refl

equal-takes : (word : Token) → move_at (s.Exp xp.OpName) (o.Mark m.Equal) word ≡ Takes (s.Do (a.Exp (e.Name word.span.from (text_of word.form))) ∷ [])
unfolding move_at is_op_name equal_mark same_mark mark_number
equal-takes word = refl

pub c-atx-op : {op word : Token} {name : List ℕ} → IsMark (codes "op") op → IsAnyName name word → Starting begins_atom (AtomC (made (a.Exp (e.Name word.span.from name)) word.span.to ∷ [])) (op ∷ word ∷ [])
c-atx-op {op} {word} {name} h i = starting op (word ∷ []) (ap begins_atom (Words.is-op h) ∙ op-begins) (record {
  comes = λ st rest.
      stacked st (ap (λ z. atom_take z op) (Words.is-op h) ∙ op-take op)
      (takes (any-takes word (any-sort i) ∙ ap (λ z. Takes (s.Do (a.Exp (e.Name word.span.from z)) ∷ [])) (any-text i))
      (acts (stays rest st word.span.to)));
})

mark-text : {spelling : List ℕ} {word : Token} → IsMark spelling word → text_of word.form ≡ spelling
unfolding text_of
mark-text h = ap text_of h.is

pub c-atx-op-equals : {op word : Token} → IsMark (codes "op") op → IsMark (codes "=") word → Starting begins_atom (AtomC (made (a.Exp (e.Name word.span.from (codes "="))) word.span.to ∷ [])) (op ∷ word ∷ [])
c-atx-op-equals {op} {word} h i = starting op (word ∷ []) (ap begins_atom (Words.is-op h) ∙ op-begins) (record {
  comes = λ st rest.
      stacked st (ap (λ z. atom_take z op) (Words.is-op h) ∙ op-take op)
      (takes-as (Words.is-equal i) (equal-takes word ∙ ap (λ z. Takes (s.Do (a.Exp (e.Name word.span.from z)) ∷ [])) (mark-text i))
      (acts (stays rest st word.span.to)));
})

-- application
pub c-app-one : {n : List Made} {ts : List Token} → Starting begins_atom (AtomC n) ts → Starting begins_atom (AppC n) ts
c-app-one (starting x us k p) = starting x us k (record { comes = λ st rest. p.comes (s.ExpRest (xr.App x.span.from) ∷ st) rest })

app-takes : (from : ℕ) (sort : TokenSort) (t : Token) → begins_atom sort ≡ true → move_at (s.ExpRest (xr.App from)) sort t ≡ Takes (atom_take sort t ++ (s.Do (a.Exp (e.App from)) ∷ s.ExpRest (xr.App from) ∷ []))
unfolding move_at
app-takes from sort t h = rw h refl

pub c-app-to : {n m : List Made} {ts us : List Token} → Starting begins_atom (AppC n) ts → Starting begins_atom (AtomC m) us →
    Starting begins_atom (AppC (n ++ (m ++ (made (a.Exp (e.App (first_of (ts ++ us)))) (last_of (ts ++ us)) ∷ [])))) (ts ++ us)
c-app-to {n} {m} (starting x ts k p) (starting u us l q) = starting x (ts ++ u ∷ us) k (record {
  comes = λ st rest.
      ends-at (sym (after-both x.span.to ts (u ∷ us)))
      (grouped ts (u ∷ us) rest
      (then (p.comes st (u ∷ us ++ rest))
      (takes (app-takes x.span.from _ u l)
      (pushed (atom_take (sort_of u.form) u) (s.Do (a.Exp (e.App x.span.from)) ∷ s.ExpRest (xr.App x.span.from) ∷ []) st
      (then (q.comes (s.Do (a.Exp (e.App x.span.from)) ∷ s.ExpRest (xr.App x.span.from) ∷ st) rest)
      (acts-at (sym (after-both x.span.to ts (u ∷ us)))
      (stays rest (s.ExpRest (xr.App x.span.from) ∷ st) (last_after u.span.to us))))))));
})

-- levels
le-refl : (n : ℕ) → n ≤ n
le-refl n = omega arith

le-up : (m n : ℕ) → m ≤ n → m ≤ suc n
le-up m n h = omega arith

le-both : (m n k : ℕ) → m ≤ n → n ≤ k → m ≤ k
le-both m n k h i = omega arith

pub c-inf-top : {level : ℕ} {n : List Made} {ts : List Token} → Starting begins_atom (AppC n) ts → Starting begins_atom (InfC level n) ts
c-inf-top (starting x us k p) = starting x us k (record {
  comes = λ m st rest le ends.
      lastly (p.comes (s.ExpRest (xr.Infix m x.span.from) ∷ st) rest)
      (skips (ends.app x.span.from)
      (stays rest (s.ExpRest (xr.Infix m x.span.from) ∷ st) (last_after x.span.to us)));
})

lt-suc : (level n : ℕ) → suc level < n → level < n
lt-suc level n h = omega arith

lt-next : (level : ℕ) → level < suc level
lt-next level = omega arith

level-up : (level : ℕ) {z : Option Token} → LevelEnds level z → LevelEnds (suc level) z
level-up level ends = record {
  app = ends.app;
  above = λ n from h. ends.above n from (lt-suc level n h);
  right = λ from g. ends.above (suc level) from (lt-next level);
}

pub c-inf-up : {level : ℕ} {n : List Made} {ts : List Token} → Starting begins_atom (InfC (suc level) n) ts → Starting begins_atom (InfC level n) ts
c-inf-up {level} (starting x us k p) = starting x us k (record { comes = λ m st rest le ends. p.comes m st rest (le-up m level le) (level-up level ends) })

infix-takes : {level : ℕ} {sort : TokenSort} (m from : ℕ) (word : Token) → InfixSort level sort → m ≤ level → move_at (s.ExpRest (xr.Infix m from)) sort word ≡
    Takes (s.Do (a.Exp (e.Name word.span.from (text_of word.form))) ∷ s.Exp (xp.Operand (operand_level level)) ∷ s.Do (a.Exp (e.Infix from)) ∷ s.ExpRest (xr.Infix m from) ∷ [])
unfolding move_at
infix-takes {level} m from word h le = let i = infix-is h in let l = infix-level h in let b : nat_le m level ≡ true = le-leb m level le in rw (i, l, b) refl

operand-takes : (level : ℕ) (sort : TokenSort) (t : Token) → begins_atom sort ≡ true → move_at (s.Exp (xp.Operand level)) sort t ≡ Takes (atom_take sort t ++ (s.ExpRest (xr.App t.span.from) ∷ s.ExpRest (xr.Infix level t.span.from) ∷ []))
unfolding move_at
operand-takes level sort t h = rw h refl

-- both groups: i is the level of the left operand, j that of the right one
c-infix : {level : ℕ} {name : List ℕ} {n m : List Made} {ts us : List Token} {word : Token} (i j : ℕ) → IsInfix level name word → level ≤ i → (groups_right i ≡ true → level < i) → operand_level level ≡ j →
    ((z : Option Token) → LevelEnds level z → LevelEnds j z × ((from : ℕ) → Skipped (s.ExpRest (xr.Infix j from)) z)) →
    Starting begins_atom (InfC i n) ts → Starting begins_atom (InfC j m) us →
    Starting begins_atom (InfC level (n ++ (made (a.Exp (e.Name word.span.from name)) word.span.to ∷ (m ++ (made (a.Exp (e.Infix (first_of (ts ++ word ∷ us)))) (last_of (ts ++ word ∷ us)) ∷ []))))) (ts ++ word ∷ us)
c-infix {level} {name} {n} {m} {word = word} i j w le r op after (starting x ts k p) (starting u us l q) = starting x (ts ++ word ∷ u ∷ us) k (record {
  comes = λ d st rest dl ends.
      ends-at (sym (after-both x.span.to ts (word ∷ u ∷ us)))
      (grouped ts (word ∷ u ∷ us) rest
      (then (p.comes d st (word ∷ u ∷ us ++ rest) (le-both d level i dl le) (op-ends word i (Words.infix-sort w) le r))
      (takes (infix-takes d x.span.from word (Words.infix-sort w) dl
      ∙ ap (λ z. Takes (s.Do (a.Exp (e.Name word.span.from z)) ∷ s.Exp (xp.Operand (operand_level level)) ∷ s.Do (a.Exp (e.Infix x.span.from)) ∷ s.ExpRest (xr.Infix d x.span.from) ∷ [])) (infix-text w)
      ∙ ap (λ z. Takes (s.Do (a.Exp (e.Name word.span.from name)) ∷ s.Exp (xp.Operand z) ∷ s.Do (a.Exp (e.Infix x.span.from)) ∷ s.ExpRest (xr.Infix d x.span.from) ∷ [])) op)
      (acts
      (takes (operand-takes j _ u l)
      (pushed (atom_take (sort_of u.form) u) (s.ExpRest (xr.App u.span.from) ∷ s.ExpRest (xr.Infix j u.span.from) ∷ []) (s.Do (a.Exp (e.Infix x.span.from)) ∷ s.ExpRest (xr.Infix d x.span.from) ∷ st)
      (then (q.comes j (s.Do (a.Exp (e.Infix x.span.from)) ∷ s.ExpRest (xr.Infix d x.span.from) ∷ st) rest (le-refl j) ((after (first rest) ends).0))
      (skips ((after (first rest) ends).1 u.span.from)
      (acts-at (sym (after-both x.span.to ts (word ∷ u ∷ us)))
      (stays rest (s.ExpRest (xr.Infix d x.span.from) ∷ st) (last_after u.span.to us)))))))))));
})

true-false : {b : Bool} → b ≡ false → b ≡ true → ⊥
true-false h k = cc

pub c-inf-left : {level : ℕ} {name : List ℕ} {n m : List Made} {ts us : List Token} {word : Token} → IsInfix level name word → groups_right level ≡ false →
    Starting begins_atom (InfC level n) ts → Starting begins_atom (InfC (suc level) m) us →
    Starting begins_atom (InfC level (n ++ (made (a.Exp (e.Name word.span.from name)) word.span.to ∷ (m ++ (made (a.Exp (e.Infix (first_of (ts ++ word ∷ us)))) (last_of (ts ++ word ∷ us)) ∷ []))))) (ts ++ word ∷ us)
c-inf-left {level} w g = c-infix level (suc level) w (le-refl level) (λ h. absurd (true-false g h)) (operand-left level (level-below w) g)
    (λ z ends. (level-up level ends, λ from. ends.above (suc level) from (lt-next level)))

pub c-inf-right : {level : ℕ} {name : List ℕ} {n m : List Made} {ts us : List Token} {word : Token} → IsInfix level name word → groups_right level ≡ true →
    Starting begins_atom (InfC (suc level) n) ts → Starting begins_atom (InfC level m) us →
    Starting begins_atom (InfC level (n ++ (made (a.Exp (e.Name word.span.from name)) word.span.to ∷ (m ++ (made (a.Exp (e.Infix (first_of (ts ++ word ∷ us)))) (last_of (ts ++ word ∷ us)) ∷ []))))) (ts ++ word ∷ us)
c-inf-right {level} w g = c-infix (suc level) level w (le-up level level (le-refl level)) (λ h. lt-next level) (operand-right level g) (λ z ends. (ends, λ from. ends.right from g))

-- types of expressions
pub c-tyx-one : {n : List Made} {ts : List Token} → Starting begins_atom (InfC 0 n) ts → Starting begins_atom (TyxC n) ts
c-tyx-one (starting x us k p) = starting x us k (record {
  comes = λ st rest ends.
      lastly (p.comes 0 (s.ExpRest (xr.Typed x.span.from) ∷ st) rest (le-refl 0) (level-zero ends))
      (skips (ends.levels 0 x.span.from)
      (stays rest (s.ExpRest (xr.Typed x.span.from) ∷ st) (last_after x.span.to us)));
})

typed-takes : (from : ℕ) (t : Token) → move_at (s.ExpRest (xr.Typed from)) (o.Mark m.Colon) t ≡ Takes (s.Ty (tp.Whole false) ∷ s.Do (a.Exp (e.Typed from)) ∷ s.ExpRest (xr.Typed from) ∷ [])
unfolding move_at is_mark same_mark mark_number
typed-takes from t = refl

pub c-tyx-typed : {n m : List Made} {ts us : List Token} {word : Token} → Starting begins_atom (TyxC n) ts → IsMark (codes ":") word → Starting begins_ty (TyC false m) us →
    Starting begins_atom (TyxC (n ++ (m ++ (made (a.Exp (e.Typed (first_of (ts ++ word ∷ us)))) (last_of (ts ++ word ∷ us)) ∷ [])))) (ts ++ word ∷ us)
c-tyx-typed {n} {m} {word = word} (starting x ts k p) h (starting u us l q) = starting x (ts ++ word ∷ u ∷ us) k (record {
  comes = λ st rest ends.
      ends-at (sym (after-both x.span.to ts (word ∷ u ∷ us)))
      (grouped ts (word ∷ u ∷ us) rest
      (then (p.comes st (word ∷ u ∷ us ++ rest) (ExpEnds.before-colon h))
      (takes-as (Words.is-colon h) (typed-takes x.span.from word)
      (then (q.comes (s.Do (a.Exp (e.Typed x.span.from)) ∷ s.ExpRest (xr.Typed x.span.from) ∷ st) rest word.span.to ends.type_)
      (acts-at (sym (after-both x.span.to ts (word ∷ u ∷ us)))
      (stays rest (s.ExpRest (xr.Typed x.span.from) ∷ st) (last_after u.span.to us)))))));
})

-- `andalso`
pub c-andc-one : {n : List Made} {ts : List Token} → Starting begins_atom (TyxC n) ts → Starting begins_atom (AndC AndEnds n) ts
c-andc-one (starting x us k p) = starting x us k (record {
  comes = λ st rest ends.
      lastly (p.comes (s.ExpRest (xr.And x.span.from) ∷ st) rest ends.tyx)
      (skips (ends.typed x.span.from)
      (skips (ends.both x.span.from)
      (stays rest st (last_after x.span.to us))));
})

and-skips : {word : Token} (from : ℕ) → IsMark (codes "andalso") word → Skipped (s.ExpRest (xr.Typed from)) (Some word)
unfolding move_at is_mark same_mark mark_number
and-skips {word} from h = at-word (s.ExpRest (xr.Typed from)) word (Words.is-and-also h) refl

and-takes : (from : ℕ) (t : Token) → move_at (s.ExpRest (xr.And from)) (o.Mark m.AndAlso) t ≡ Takes (s.Exp xp.AndPart ∷ s.Do (a.Exp (e.Both from)) ∷ [])
unfolding move_at is_mark same_mark mark_number
and-takes from t = refl

and-part : (sort : TokenSort) (t : Token) → begins_atom sort ≡ true →
    move_at (s.Exp xp.AndPart) sort t ≡ Takes (atom_take sort t ++ (s.ExpRest (xr.App t.span.from) ∷ s.ExpRest (xr.Infix 0 t.span.from) ∷ s.ExpRest (xr.Typed t.span.from) ∷ s.ExpRest (xr.And t.span.from) ∷ []))
unfolding move_at
and-part sort t h = rw h refl

-- a tail begins with no atom
tail-no-atom-mark : (mark : Mark) → tail_mark mark ≡ true → atom_mark mark ≡ false
unfolding tail_mark atom_mark same_mark mark_number
tail-no-atom-mark m.Op h = cc
tail-no-atom-mark m.Open h = cc
tail-no-atom-mark m.OpenBracket h = cc
tail-no-atom-mark m.Let h = cc
tail-no-atom-mark _ h = refl

pub tail-no-atom : (sort : TokenSort) → begins_tail sort ≡ true → begins_atom sort ≡ false
unfolding begins_tail begins_atom
tail-no-atom (o.Mark mark) h = tail-no-atom-mark mark h
tail-no-atom (o.Int _) h = cc
tail-no-atom (o.Char _) h = cc
tail-no-atom o.Str h = cc
tail-no-atom o.Name h = cc
tail-no-atom o.Long h = cc
tail-no-atom o.QuoteFrom h = cc
tail-no-atom _ h = refl

and-tail : (sort : TokenSort) (t : Token) → begins_tail sort ≡ true → move_at (s.Exp xp.AndPart) sort t ≡ Takes (tail_take sort t.span.from)
unfolding move_at
and-tail sort t h = let k = tail-no-atom sort h in rw (k, h) refl

-- the left side of `andalso`, and what follows
and-left : {n more : List Made} {ts us : List Token} {st st' : List Sym} {word x : Token} {rest : List Token} {to' : ℕ} → TyxC n x ts → IsMark (codes "andalso") word →
    Comes us (s.Exp xp.AndPart ∷ s.Do (a.Exp (e.Both x.span.from)) ∷ st) word.span.to more rest st' to' →
    Comes (ts ++ (word ∷ us)) (atom_take (sort_of x.form) x ++ (s.ExpRest (xr.App x.span.from) ∷ s.ExpRest (xr.Infix 0 x.span.from) ∷ s.ExpRest (xr.Typed x.span.from) ∷ s.ExpRest (xr.And x.span.from) ∷ st)) x.span.to (n ++ more) rest st' to'
and-left {us = us} {st = st} {word = word} {x = x} p h c =
    then (p.comes (s.ExpRest (xr.And x.span.from) ∷ st) (word ∷ us) (ExpEnds.before-and-also h))
    (skips (and-skips x.span.from h)
    (takes-as (Words.is-and-also h) (and-takes x.span.from word) c))

pub c-and-more : {E : Option Token → Type 0} {n m : List Made} {ts us : List Token} {word : Token} → Starting begins_atom (TyxC n) ts → IsMark (codes "andalso") word → Starting begins_atom (AndC E m) us →
    Starting begins_atom (AndC E (n ++ (m ++ (made (a.Exp (e.Both (first_of (ts ++ word ∷ us)))) (last_of (ts ++ word ∷ us)) ∷ [])))) (ts ++ word ∷ us)
c-and-more {E} {n} {m} {word = word} (starting x ts k p) h (starting u us l q) = starting x (ts ++ word ∷ u ∷ us) k (record {
  comes = λ st rest ends.
      ends-at (sym (after-both x.span.to ts (word ∷ u ∷ us)))
      (grouped ts (word ∷ u ∷ us) rest
      (and-left p h
      (takes (and-part _ u l)
      (pushed (atom_take (sort_of u.form) u) (s.ExpRest (xr.App u.span.from) ∷ s.ExpRest (xr.Infix 0 u.span.from) ∷ s.ExpRest (xr.Typed u.span.from) ∷ s.ExpRest (xr.And u.span.from) ∷ []) (s.Do (a.Exp (e.Both x.span.from)) ∷ st)
      (then (q.comes (s.Do (a.Exp (e.Both x.span.from)) ∷ st) rest ends)
      (acts-at (sym (after-both x.span.to ts (word ∷ u ∷ us)))
      (stays rest st (last_after u.span.to us))))))));
})

pub c-and-tail : {open_ : Bool} {n m : List Made} {ts us : List Token} {word : Token} → Starting begins_atom (TyxC n) ts → IsMark (codes "andalso") word → Starting begins_tail (TailC open_ m) us →
    Starting begins_atom (AndC (Ends open_) (n ++ (m ++ (made (a.Exp (e.Both (first_of (ts ++ word ∷ us)))) (last_of (ts ++ word ∷ us)) ∷ [])))) (ts ++ word ∷ us)
c-and-tail {open_} {n} {m} {word = word} (starting x ts k p) h (starting u us l q) = starting x (ts ++ word ∷ u ∷ us) k (record {
  comes = λ st rest ends.
      ends-at (sym (after-both x.span.to ts (word ∷ u ∷ us)))
      (grouped ts (word ∷ u ∷ us) rest
      (and-left p h
      (takes (and-tail _ u l)
      (then (q.comes (s.Do (a.Exp (e.Both x.span.from)) ∷ st) rest ends)
      (acts-at (sym (after-both x.span.to ts (word ∷ u ∷ us)))
      (stays rest st (last_after u.span.to us)))))));
})

-- `orelse`
pub c-orc-one : {n : List Made} {ts : List Token} → Starting begins_atom (AndC AndEnds n) ts → Starting begins_atom (OrC OrEnds n) ts
c-orc-one (starting x us k p) = starting x us k (record {
  comes = λ st rest ends.
      lastly (p.comes (s.ExpRest (xr.Or x.span.from) ∷ st) rest ends.and_)
      (skips (ends.either x.span.from)
      (stays rest st (last_after x.span.to us)));
})

pub c-ore-one : {open_ : Bool} {n : List Made} {ts : List Token} → Starting begins_atom (AndC (Ends open_) n) ts → Starting begins_atom (OrC (Ends open_) n) ts
c-ore-one (starting x us k p) = starting x us k (record {
  comes = λ st rest ends.
      lastly (p.comes (s.ExpRest (xr.Or x.span.from) ∷ st) rest ends)
      (skips (ends.or_.either x.span.from)
      (stays rest st (last_after x.span.to us)));
})

or-takes : (from : ℕ) (t : Token) → move_at (s.ExpRest (xr.Or from)) (o.Mark m.OrElse) t ≡ Takes (s.Exp xp.OrPart ∷ s.Do (a.Exp (e.Either from)) ∷ [])
unfolding move_at is_mark same_mark mark_number
or-takes from t = refl

or-part : (sort : TokenSort) (t : Token) → begins_atom sort ≡ true →
    move_at (s.Exp xp.OrPart) sort t ≡ Takes (atom_take sort t ++ (s.ExpRest (xr.App t.span.from) ∷ s.ExpRest (xr.Infix 0 t.span.from) ∷ s.ExpRest (xr.Typed t.span.from) ∷ s.ExpRest (xr.And t.span.from) ∷ s.ExpRest (xr.Or t.span.from) ∷ []))
unfolding move_at
or-part sort t h = rw h refl

or-tail : (sort : TokenSort) (t : Token) → begins_tail sort ≡ true → move_at (s.Exp xp.OrPart) sort t ≡ Takes (tail_take sort t.span.from)
unfolding move_at
or-tail sort t h = let k = tail-no-atom sort h in rw (k, h) refl

or-left : {n more : List Made} {ts us : List Token} {st st' : List Sym} {word x : Token} {rest : List Token} {to' : ℕ} → AndC AndEnds n x ts → IsMark (codes "orelse") word →
    Comes us (s.Exp xp.OrPart ∷ s.Do (a.Exp (e.Either x.span.from)) ∷ st) word.span.to more rest st' to' →
    Comes (ts ++ (word ∷ us)) (atom_take (sort_of x.form) x ++ (s.ExpRest (xr.App x.span.from) ∷ s.ExpRest (xr.Infix 0 x.span.from) ∷ s.ExpRest (xr.Typed x.span.from) ∷ s.ExpRest (xr.And x.span.from) ∷ s.ExpRest (xr.Or x.span.from) ∷ st)) x.span.to (n ++ more) rest st' to'
or-left {us = us} {st = st} {word = word} {x = x} p h c =
    then (p.comes (s.ExpRest (xr.Or x.span.from) ∷ st) (word ∷ us) (ExpEnds.before-or-else h))
    (takes-as (Words.is-or-else h) (or-takes x.span.from word) c)

pub c-or-more : {E : Option Token → Type 0} {n m : List Made} {ts us : List Token} {word : Token} → Starting begins_atom (AndC AndEnds n) ts → IsMark (codes "orelse") word → Starting begins_atom (OrC E m) us →
    Starting begins_atom (OrC E (n ++ (m ++ (made (a.Exp (e.Either (first_of (ts ++ word ∷ us)))) (last_of (ts ++ word ∷ us)) ∷ [])))) (ts ++ word ∷ us)
c-or-more {E} {n} {m} {word = word} (starting x ts k p) h (starting u us l q) = starting x (ts ++ word ∷ u ∷ us) k (record {
  comes = λ st rest ends.
      ends-at (sym (after-both x.span.to ts (word ∷ u ∷ us)))
      (grouped ts (word ∷ u ∷ us) rest
      (or-left p h
      (takes (or-part _ u l)
      (pushed (atom_take (sort_of u.form) u) (s.ExpRest (xr.App u.span.from) ∷ s.ExpRest (xr.Infix 0 u.span.from) ∷ s.ExpRest (xr.Typed u.span.from) ∷ s.ExpRest (xr.And u.span.from) ∷ s.ExpRest (xr.Or u.span.from) ∷ []) (s.Do (a.Exp (e.Either x.span.from)) ∷ st)
      (then (q.comes (s.Do (a.Exp (e.Either x.span.from)) ∷ st) rest ends)
      (acts-at (sym (after-both x.span.to ts (word ∷ u ∷ us)))
      (stays rest st (last_after u.span.to us))))))));
})

pub c-or-tail : {open_ : Bool} {n m : List Made} {ts us : List Token} {word : Token} → Starting begins_atom (AndC AndEnds n) ts → IsMark (codes "orelse") word → Starting begins_tail (TailC open_ m) us →
    Starting begins_atom (OrC (Ends open_) (n ++ (m ++ (made (a.Exp (e.Either (first_of (ts ++ word ∷ us)))) (last_of (ts ++ word ∷ us)) ∷ [])))) (ts ++ word ∷ us)
c-or-tail {open_} {n} {m} {word = word} (starting x ts k p) h (starting u us l q) = starting x (ts ++ word ∷ u ∷ us) k (record {
  comes = λ st rest ends.
      ends-at (sym (after-both x.span.to ts (word ∷ u ∷ us)))
      (grouped ts (word ∷ u ∷ us) rest
      (or-left p h
      (takes (or-tail _ u l)
      (then (q.comes (s.Do (a.Exp (e.Either x.span.from)) ∷ st) rest ends)
      (acts-at (sym (after-both x.span.to ts (word ∷ u ∷ us)))
      (stays rest st (last_after u.span.to us)))))));
})

-- whole expressions
atom-exp : (sort : TokenSort) → begins_atom sort ≡ true → begins_exp sort ≡ true
unfolding begins_exp
atom-exp sort h = rw h refl

tail-exp : (sort : TokenSort) → begins_tail sort ≡ true → begins_exp sort ≡ true
unfolding begins_exp
tail-exp sort h = let k = tail-no-atom sort h in rw (k, h) refl

exp-atom-take : (sort : TokenSort) (t : Token) → begins_atom sort ≡ true → exp_take sort t ≡ atom_take sort t ++ exp_rests t.span.from
unfolding exp_take
exp-atom-take sort t h = rw h refl

exp-tail-take : (sort : TokenSort) (t : Token) → begins_tail sort ≡ true → exp_take sort t ≡ tail_take sort t.span.from
unfolding exp_take
exp-tail-take sort t h = let k = tail-no-atom sort h in rw k refl

pub c-exp-tail : {open_ : Bool} {n : List Made} {ts : List Token} → Starting begins_tail (TailC open_ n) ts → Starting begins_exp (ExprC open_ n) ts
c-exp-tail (starting x us k p) = starting x us (tail-exp _ k) (record { comes = λ st rest ends. stacked st (exp-tail-take _ x k) (p.comes st rest ends) })

pub c-exp-orc : {n : List Made} {ts : List Token} → Starting begins_atom (OrC OrEnds n) ts → Starting begins_exp (ExprC false n) ts
c-exp-orc (starting x us k p) = starting x us (atom-exp _ k) (record {
  comes = λ st rest ends.
      stacked st (exp-atom-take _ x k)
      (pushed (atom_take (sort_of x.form) x) (exp_rests x.span.from) st
      (lastly (p.comes (s.ExpRest (xr.Handle x.span.from) ∷ st) rest ends.or_)
      (skips (ends.handle x.span.from)
      (stays rest st (last_after x.span.to us)))));
})

pub c-exp-ore : {open_ : Bool} {n : List Made} {ts : List Token} → Starting begins_atom (OrC (Ends open_) n) ts → Starting begins_exp (ExprC open_ n) ts
c-exp-ore (starting x us k p) = starting x us (atom-exp _ k) (record {
  comes = λ st rest ends.
      stacked st (exp-atom-take _ x k)
      (pushed (atom_take (sort_of x.form) x) (exp_rests x.span.from) st
      (lastly (p.comes (s.ExpRest (xr.Handle x.span.from) ∷ st) rest ends)
      (skips (ends.handle x.span.from)
      (stays rest st (last_after x.span.to us)))));
})

handle-takes : (from : ℕ) (t : Token) → move_at (s.ExpRest (xr.Handle from)) (o.Mark m.Handle) t ≡
    Takes (s.Do (a.Exp e.NoRules) ∷ s.Pat pp.Whole ∷ s.Want m.DoubleArrow ∷ s.Exp xp.Whole ∷ s.Do (a.Exp e.AddRule) ∷ s.ExpRest xr.Match ∷ s.Do (a.Exp (e.Handle from)) ∷ [])
unfolding move_at is_mark same_mark mark_number
handle-takes from t = refl

pub c-exp-handle : {n m : List Made} {ts us : List Token} {word : Token} → Starting begins_atom (OrC OrEnds n) ts → IsMark (codes "handle") word → MatchC m us →
    Starting begins_exp (ExprC true (n ++ (made (a.Exp e.NoRules) word.span.to ∷ (m ++ (made (a.Exp (e.Handle (first_of (ts ++ word ∷ us)))) (last_of (ts ++ word ∷ us)) ∷ []))))) (ts ++ word ∷ us)
c-exp-handle {n} {m} {us = us} {word = word} (starting x ts k p) h q = starting x (ts ++ word ∷ us) (atom-exp _ k) (record {
  comes = λ st rest ends.
      ends-at (sym (after-both x.span.to ts (word ∷ us)))
      (grouped ts (word ∷ us) rest
      (stacked st (exp-atom-take _ x k)
      (pushed (atom_take (sort_of x.form) x) (exp_rests x.span.from) st
      (then (p.comes (s.ExpRest (xr.Handle x.span.from) ∷ st) (word ∷ us ++ rest) (ExpEnds.before-handle h))
      (takes-as (Words.is-handle h) (handle-takes x.span.from word)
      (acts
      (then (q.comes (s.Do (a.Exp (e.Handle x.span.from)) ∷ st) rest word.span.to ends)
      (acts-at (sym (after-both x.span.to ts (word ∷ us)))
      (stays rest st (last_after word.span.to us))))))))));
})

-- where an expression is wanted
pub whole-takes : (sort : TokenSort) (t : Token) → begins_exp sort ≡ true → move_at (s.Exp xp.Whole) sort t ≡ Takes (exp_take sort t)
unfolding move_at
whole-takes sort t h = rw h refl

pub wanted : {open_ : Bool} {n : List Made} {ts : List Token} → Starting begins_exp (ExprC open_ n) ts → (st : List Sym) (rest : List Token) (to : ℕ) → Ends open_ (first rest) →
    Comes (ts ++ rest) (s.Exp xp.Whole ∷ st) to n rest st (last_after to ts)
wanted (starting x us k p) st rest to ends = takes (whole-takes _ x k) (p.comes st rest ends)

-- a mark that is wanted
pub want-takes : (mark : Mark) (t : Token) → same_mark mark mark ≡ true → move_at (s.Want mark) (o.Mark mark) t ≡ Takes []
unfolding move_at is_mark
want-takes mark t h = rw h refl
