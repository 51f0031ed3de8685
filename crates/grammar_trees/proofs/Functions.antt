-- Functions and their clauses, as the machine reads them.
use Rattle.std.proofs.Common.{◌≡◌, ℕ, suc, ◌+◌, ◌-◌, ◌≤◌, ◌==◌, List, [], ◌∷◌, ◌++◌, Bool, true, false, refl, ap, sym, ◌∙◌, subst, Option, Some, None, codes, cond, nat_lt, arith, append_assoc, ne_eqb}
use Rattle.std.proofs.lemmas.Bool.{eqb-true}
use Rattle.std.proofs.lemmas.List.{append-nil}
use Rattle.std.specs.Str.{bytes_eq}
use Rattle.std.proofs.lemmas.Slice.Eq.{bytes_eq-Decides}
use Rattle.sml_syntax.specs.declared.token.Token.{Token}
use Rattle.sml_syntax.specs.declared.token.Lack.TheVariants as l
use Rattle.grammar_rules.specs.InfixNames.{infix_level}
use Rattle.sml_syntax.specs.NestedTypes.{Found}
use Rattle.grammar_rules.specs.Nodes.{first_of, last_of, last_after}
use Rattle.grammar_rules.specs.Grammar as g
use Rattle.grammar_rules.specs.Grammar.{IsMark, IsAnyName, IsTypeName, IsInfixName}
use Rattle.sml_grammar.specs.declared.mark.Mark.{Mark}
use Rattle.sml_grammar.specs.declared.mark.Mark.TheVariants as m
use Rattle.sml_grammar.specs.declared.token_sort.TokenSort.{TokenSort}
use Rattle.sml_grammar.specs.declared.token_sort.TokenSort.TheVariants as o
use Rattle.sml_grammar.specs.declared.act.Made.{Made}
use Rattle.sml_grammar.specs.declared.act.Act.TheVariants as a
use Rattle.sml_grammar.specs.declared.act.ExpAct.TheVariants as e
use Rattle.sml_grammar.specs.declared.act.PatAct.TheVariants as p
use Rattle.sml_grammar.specs.declared.act.DecAct.TheVariants as b
use Rattle.sml_grammar.specs.declared.symbol.Sym.{Sym}
use Rattle.sml_grammar.specs.declared.symbol.Sym.TheVariants as s
use Rattle.sml_grammar.specs.declared.symbol.ExpPhrase.TheVariants as xp
use Rattle.sml_grammar.specs.declared.symbol.PatPhrase.TheVariants as pp
use Rattle.sml_grammar.specs.declared.symbol.TyPhrase.TheVariants as tp
use Rattle.sml_grammar.specs.declared.symbol.FunPhrase.TheVariants as fp
use Rattle.sml_grammar.specs.declared.symbol.LaterPhrase.TheVariants as lp
use Rattle.sml_grammar.specs.Marks.{same_mark, mark_number}
use Rattle.sml_grammar.specs.Sorts.{sort_of, name_sort, infix_sort, is_mark, begins_exp, begins_pat, begins_ty, begins_body, pattern_mark, body_mark, is_infix_name, is_any_name, is_type_name}
use Rattle.sml_grammar.specs.Tokens.{text_of, may_be_infix, has_level}
use Rattle.sml_grammar.specs.Moves.{Takes}
use Rattle.sml_grammar.specs.Takes.{atpat_take, body_take, tupled_take, end_take}
use Rattle.sml_grammar.specs.Machine.{made, move_end}
use Rattle.grammar_trees.specs.Exact.{move_at, move_of}
use Rattle.grammar_trees.specs.Tells as tl
use Rattle.grammar_trees.specs.Tells.{NotHead, tupled_acts, end_acts, first_to}
use Rattle.grammar_trees.specs.Ends.{first, Skipped, Ends, DecEnds}
use Rattle.grammar_trees.specs.Claims.{Comes, Starting, starting, AtpatC, ExprC, TyC}
use Rattle.grammar_trees.specs.DecClaims.{FunsC}
use Rattle.grammar_trees.specs.FunClaims.{ClauseHead, AtpatsC, BodyC, ClauseC, FunEnds, ClausesC}
use Rattle.grammar_trees.proofs.Words
use Rattle.grammar_trees.proofs.Words.{TypeSort, at_name, at_long, type-sort, type-text, AnySort, any_name, any_star, any_cons, any_infix, any-sort, any-text, sorted, is_star, is_cons, is_other}
use Rattle.grammar_trees.proofs.Types
use Rattle.grammar_trees.proofs.Patterns
use Rattle.grammar_trees.proofs.ExpEnds
use Rattle.grammar_trees.proofs.ExpEnds.{ends-all}
use Rattle.grammar_trees.proofs.Expressions.{wanted, want-takes}
use Rattle.grammar_trees.proofs.Tails.{any-first}
use Rattle.grammar_trees.proofs.DecEnding.{told}
use Rattle.grammar_trees.proofs.Steps.{stays, skips, acts, acts-at, takes, takes-as, then, lastly, ends-at, grouped, pushed, stacked, at-word, after-both}

-- an infix name that may be bound
star-infix : is_infix_name (name_sort (codes "*")) ≡ true
unfolding name_sort is_infix_name
star-infix = refl

cons-infix : is_infix_name (name_sort (codes "::")) ≡ true
unfolding name_sort is_infix_name
cons-infix = refl

level-infix : (level : ℕ) → is_infix_name (infix_sort (Some level)) ≡ true
unfolding is_infix_name
level-infix level = refl

infix-is : {level : ℕ} {name : List ℕ} {word : Token} → IsInfixName level name word → is_infix_name (sort_of word.form) ≡ true
unfolding sort_of
infix-is {level} {name} h = ap (λ z. is_infix_name (sort_of z)) h.is ∙ elim (sorted name) [
  | is_star k ↦ ap (λ z. is_infix_name (name_sort z)) k ∙ star-infix
  | is_cons k ↦ ap (λ z. is_infix_name (name_sort z)) k ∙ cons-infix
  | is_other k ↦ ap is_infix_name (k ∙ ap infix_sort h.level_is) ∙ level-infix level
]

infix-text : {level : ℕ} {name : List ℕ} {word : Token} → IsInfixName level name word → text_of word.form ≡ name
unfolding text_of
infix-text h = ap text_of h.is

same-text : (name : List ℕ) → bytes_eq name name ≡ true
same-text name = (bytes_eq-Decides name name).1 refl

infix-may : {level : ℕ} {name : List ℕ} {word : Token} → IsInfixName level name word → may_be_infix name 1 ≡ true
unfolding may_be_infix
infix-may h = ap has_level h.level_is

-- heads
bind-op : (t : Token) → move_at (s.Fun fp.Bind) (o.Mark m.Op) t ≡ Takes (s.Do (a.Exp e.NoRules) ∷ s.Do (a.Pat p.NoPats) ∷ s.Fun (fp.Op t.span.from) ∷ [])
unfolding move_at is_mark same_mark mark_number
bind-op t = refl

bind-name : {sort : TokenSort} (t : Token) → TypeSort sort → move_at (s.Fun fp.Bind) sort t ≡ Takes (s.Do (a.Exp e.NoRules) ∷ s.Do (a.Pat p.NoPats) ∷ s.Fun (fp.Head t.span.from t.span.from (text_of t.form)) ∷ [])
unfolding move_at is_mark is_type_name
bind-name t at_name = refl
bind-name t at_long = refl

bind-other : (sort : TokenSort) (t : Token) → is_type_name sort ≡ false → is_mark m.Op sort ≡ false → begins_pat sort ≡ true → move_at (s.Fun fp.Bind) sort t ≡ Takes (s.Do (a.Exp e.NoRules) ∷ s.Do (a.Pat p.NoPats) ∷ (atpat_take sort t ++ (s.Fun (fp.Infix t.span.from) ∷ [])))
unfolding move_at
bind-other sort t h i k = rw (i, h, k) refl

op-name : {sort : TokenSort} (from : ℕ) (t : Token) → AnySort sort → move_at (s.Fun (fp.Op from)) sort t ≡ Takes (s.Fun (fp.Head from t.span.from (text_of t.form)) ∷ [])
unfolding move_at is_any_name
op-name from t any_name = refl
op-name from t any_star = refl
op-name from t any_cons = refl
op-name from t (any_infix level) = refl

clause-op : (name : List ℕ) (count : ℕ) (t : Token) → move_at (s.Later (lp.Clause name count)) (o.Mark m.Op) t ≡ Takes (s.Do (a.Pat p.NoPats) ∷ s.Later (lp.Op t.span.from name count) ∷ [])
unfolding move_at is_mark same_mark mark_number
clause-op name count t = refl

clause-name : {sort : TokenSort} (name : List ℕ) (count : ℕ) (t : Token) → TypeSort sort → may_be_infix name count ≡ false → bytes_eq name (text_of t.form) ≡ true →
    move_at (s.Later (lp.Clause name count)) sort t ≡ Takes (s.Do (a.Pat p.NoPats) ∷ s.Later (lp.Patterns count) ∷ s.Fun (fp.Equals t.span.from count) ∷ [])
unfolding move_at is_mark is_type_name
clause-name name count t at_name h i = rw (h, i) refl
clause-name name count t at_long h i = rw (h, i) refl

clause-infixed : {sort : TokenSort} (name : List ℕ) (count : ℕ) (t : Token) → TypeSort sort → may_be_infix name count ≡ true →
    move_at (s.Later (lp.Clause name count)) sort t ≡ Takes (s.Do (a.Pat p.NoPats) ∷ s.Later (lp.Head t.span.from t.span.from (text_of t.form) name) ∷ [])
unfolding move_at is_mark is_type_name
clause-infixed name count t at_name h = rw h refl
clause-infixed name count t at_long h = rw h refl

clause-other : (sort : TokenSort) (name : List ℕ) (count : ℕ) (t : Token) → is_type_name sort ≡ false → is_mark m.Op sort ≡ false → begins_pat sort ≡ true → may_be_infix name count ≡ true →
    move_at (s.Later (lp.Clause name count)) sort t ≡ Takes (s.Do (a.Pat p.NoPats) ∷ (atpat_take sort t ++ (s.Later (lp.Infix t.span.from name) ∷ [])))
unfolding move_at
clause-other sort name count t h i k j = rw (i, h, k, j) refl

later-op : {sort : TokenSort} (from : ℕ) (name : List ℕ) (count : ℕ) (t : Token) → AnySort sort → may_be_infix name count ≡ false → bytes_eq name (text_of t.form) ≡ true →
    move_at (s.Later (lp.Op from name count)) sort t ≡ Takes (s.Later (lp.Patterns count) ∷ s.Fun (fp.Equals from count) ∷ [])
unfolding move_at is_any_name
later-op from name count t any_name h i = rw (h, i) refl
later-op from name count t any_star h i = rw (h, i) refl
later-op from name count t any_cons h i = rw (h, i) refl
later-op from name count t (any_infix level) h i = rw (h, i) refl

later-op-infixed : {sort : TokenSort} (from : ℕ) (name : List ℕ) (count : ℕ) (t : Token) → AnySort sort → may_be_infix name count ≡ true →
    move_at (s.Later (lp.Op from name count)) sort t ≡ Takes (s.Later (lp.Head from t.span.from (text_of t.form) name) ∷ [])
unfolding move_at is_any_name
later-op-infixed from name count t any_name h = rw h refl
later-op-infixed from name count t any_star h = rw h refl
later-op-infixed from name count t any_cons h = rw h refl
later-op-infixed from name count t (any_infix level) h = rw h refl

head-name : {word : Token} {name : List ℕ} → IsTypeName name word → Starting any-first (ClauseHead word.span.from name) (word ∷ [])
unfolding any-first
head-name {word} {name} h = starting word [] refl (record {
  begins = λ st rest to. takes (bind-name word (type-sort h) ∙ ap (λ z. Takes (s.Do (a.Exp e.NoRules) ∷ s.Do (a.Pat p.NoPats) ∷ s.Fun (fp.Head word.span.from word.span.from z) ∷ [])) (type-text h))
      (acts (acts (stays rest (s.Fun (fp.Head word.span.from word.span.from name) ∷ st) word.span.to)));
  follows = λ count i st rest to. takes (clause-name name count word (type-sort h) i (ap (bytes_eq name) (type-text h) ∙ same-text name))
      (acts (stays rest (s.Later (lp.Patterns count) ∷ s.Fun (fp.Equals word.span.from count) ∷ st) word.span.to));
  infixed = λ full count i st rest to. takes (clause-infixed full count word (type-sort h) i ∙ ap (λ z. Takes (s.Do (a.Pat p.NoPats) ∷ s.Later (lp.Head word.span.from word.span.from z full) ∷ [])) (type-text h))
      (acts (stays rest (s.Later (lp.Head word.span.from word.span.from name full) ∷ st) word.span.to));
})

head-op : {op word : Token} {name : List ℕ} → IsMark (codes "op") op → IsAnyName name word → Starting any-first (ClauseHead word.span.from name) (op ∷ word ∷ [])
unfolding any-first
head-op {op} {word} {name} h i = starting op (word ∷ []) refl (record {
  begins = λ st rest to. takes-as (Words.is-op h) (bind-op op) (acts (acts
      (takes (op-name op.span.from word (any-sort i) ∙ ap (λ z. Takes (s.Fun (fp.Head op.span.from word.span.from z) ∷ [])) (any-text i))
      (stays rest (s.Fun (fp.Head op.span.from word.span.from name) ∷ st) word.span.to))));
  follows = λ count k st rest to. takes-as (Words.is-op h) (clause-op name count op) (acts
      (takes (later-op op.span.from name count word (any-sort i) k (ap (bytes_eq name) (any-text i) ∙ same-text name))
      (stays rest (s.Later (lp.Patterns count) ∷ s.Fun (fp.Equals op.span.from count) ∷ st) word.span.to)));
  infixed = λ full count k st rest to. takes-as (Words.is-op h) (clause-op full count op) (acts
      (takes (later-op-infixed op.span.from full count word (any-sort i) k ∙ ap (λ z. Takes (s.Later (lp.Head op.span.from word.span.from z full) ∷ [])) (any-text i))
      (stays rest (s.Later (lp.Head op.span.from word.span.from name full) ∷ st) word.span.to)));
})

pub head-of : {ts : List Token} {place : ℕ} {name : List ℕ} {ls : List Found} → g.Is g.head ts (g.name_tree place name) ls → Starting any-first (ClauseHead place name) ts
head-of (g.head_name word name h) = head-name h
head-of (g.head_op op word name h i) = head-op h i

pub head-told : {ts : List Token} {next place : ℕ} {name : List ℕ} {ls : List Found} {new : List Made} → tl.Tells g.head next ts (g.name_tree place name) ls new → Starting any-first (ClauseHead place name) ts
head-told (tl.head_name word name h) = head-name h
head-told (tl.head_op op word name h i) = head-op h i

-- patterns
no-patterns : (z : Option Token) → Skipped (s.Later (lp.Patterns 0)) z
unfolding move_of move_at move_end
no-patterns None = refl
no-patterns (Some t) = refl

plus-none : (n : ℕ) → n ≡ n + 0
plus-none n = omega arith

zero-suc : {n : ℕ} → suc n ≡ 0 → ⊥
zero-suc h = omega arith

not-one : 1 ≤ 0 → ⊥
not-one h = omega arith

zero-one : {n : ℕ} → n ≡ 0 → n ≡ 1 → ⊥
zero-one h k = omega arith

pub c-atpats-none : AtpatsC 0 [] []
c-atpats-none = record {
  none = λ h. (refl, refl);
  later = λ st rest to. skips (no-patterns (first rest)) (stays rest st to);
  further = λ so_far from name st rest to. subst (λ z. Comes rest (s.Fun (fp.Patterns from name so_far) ∷ st) to [] rest (s.Fun (fp.Patterns from name z) ∷ st) to) (plus-none so_far) (stays rest (s.Fun (fp.Patterns from name so_far) ∷ st) to);
  all = λ h. absurd (not-one h);
  only = λ h. absurd (zero-one {n = 0} refl h);
}

later-patterns : (count : ℕ) (sort : TokenSort) (t : Token) → begins_pat sort ≡ true → move_at (s.Later (lp.Patterns (suc count))) sort t ≡ Takes (atpat_take sort t ++ (s.Do (a.Pat p.Push) ∷ s.Later (lp.Patterns count) ∷ []))
unfolding move_at
later-patterns count sort t h = let k : (suc count == 0) ≡ false = ne_eqb (suc count) 0 (λ i. omega arith) in let j : suc count - 1 ≡ count = omega arith in rw (k, h, j) refl

first-patterns : (so_far from : ℕ) (name : List ℕ) (sort : TokenSort) (t : Token) → begins_pat sort ≡ true → move_at (s.Fun (fp.Patterns from name so_far)) sort t ≡ Takes (atpat_take sort t ++ (s.Do (a.Pat p.Push) ∷ s.Fun (fp.Patterns from name (suc so_far)) ∷ []))
unfolding move_at
first-patterns so_far from name sort t h = rw h refl

begins-no-infix : (sort : TokenSort) → begins_pat sort ≡ true → is_infix_name sort ≡ false
unfolding begins_pat is_infix_name
begins-no-infix (o.Infix level) h = cc
begins-no-infix o.Star h = cc
begins-no-infix o.Cons h = cc
begins-no-infix _ h = refl

head-patterns : (from place : ℕ) (name : List ℕ) (sort : TokenSort) (t : Token) → begins_pat sort ≡ true → move_at (s.Fun (fp.Head from place name)) sort t ≡ Takes (atpat_take sort t ++ (s.Do (a.Pat p.Push) ∷ s.Fun (fp.Patterns from name 1) ∷ []))
unfolding move_at
head-patterns from place name sort t h = let k = begins-no-infix sort h in rw (k, h) refl

later-only : (from place : ℕ) (name : List ℕ) (sort : TokenSort) (t : Token) → begins_pat sort ≡ true → move_at (s.Later (lp.Head from place name name)) sort t ≡ Takes (atpat_take sort t ++ (s.Do (a.Pat p.Push) ∷ s.Fun (fp.Equals from 1) ∷ []))
unfolding move_at
later-only from place name sort t h = let k = begins-no-infix sort h in let j = same-text name in rw (k, h, j) refl

plus-next : (n count : ℕ) → suc n + count ≡ n + suc count
plus-next n count = omega arith

one-plus : (count : ℕ) → 1 + count ≡ suc count
one-plus count = omega arith

suc-one : (count : ℕ) → suc count ≡ 1 → count ≡ 0
suc-one count h = omega arith

pub c-atpats-more : {count : ℕ} {n k : List Made} {ts us : List Token} → Starting begins_pat (AtpatC n) ts → AtpatsC count k us → AtpatsC (suc count) (n ++ (made (a.Pat p.Push) (last_of ts) ∷ k)) (ts ++ us)
c-atpats-more {count} {n} {k} {us = us} (starting x ts h q) r = record {
  none = λ e. absurd (zero-suc e);
  later = λ st rest to.
      ends-at (sym (after-both x.span.to ts us))
      (grouped (x ∷ ts) us rest
      (takes (later-patterns count _ x h)
      (pushed (atpat_take (sort_of x.form) x) (s.Do (a.Pat p.Push) ∷ s.Later (lp.Patterns count) ∷ []) st
      (then (q.comes (s.Do (a.Pat p.Push) ∷ s.Later (lp.Patterns count) ∷ st) (us ++ rest))
      (acts (r.later st rest (last_after x.span.to ts)))))));
  further = λ so_far from name st rest to.
      subst (λ z. Comes (((x ∷ ts) ++ us) ++ rest) (s.Fun (fp.Patterns from name so_far) ∷ st) to (n ++ (made (a.Pat p.Push) (last_of (x ∷ ts)) ∷ k)) rest (s.Fun (fp.Patterns from name z) ∷ st) (last_after to ((x ∷ ts) ++ us))) (plus-next so_far count)
      (ends-at (sym (after-both x.span.to ts us))
      (grouped (x ∷ ts) us rest
      (takes (first-patterns so_far from name _ x h)
      (pushed (atpat_take (sort_of x.form) x) (s.Do (a.Pat p.Push) ∷ s.Fun (fp.Patterns from name (suc so_far)) ∷ []) st
      (then (q.comes (s.Do (a.Pat p.Push) ∷ s.Fun (fp.Patterns from name (suc so_far)) ∷ st) (us ++ rest))
      (acts (r.further (suc so_far) from name st rest (last_after x.span.to ts))))))));
  all = λ one from place name st rest to.
      subst (λ z. Comes (((x ∷ ts) ++ us) ++ rest) (s.Fun (fp.Head from place name) ∷ st) to (n ++ (made (a.Pat p.Push) (last_of (x ∷ ts)) ∷ k)) rest (s.Fun (fp.Patterns from name z) ∷ st) (last_after to ((x ∷ ts) ++ us))) (one-plus count)
      (ends-at (sym (after-both x.span.to ts us))
      (grouped (x ∷ ts) us rest
      (takes (head-patterns from place name _ x h)
      (pushed (atpat_take (sort_of x.form) x) (s.Do (a.Pat p.Push) ∷ s.Fun (fp.Patterns from name 1) ∷ []) st
      (then (q.comes (s.Do (a.Pat p.Push) ∷ s.Fun (fp.Patterns from name 1) ∷ st) (us ++ rest))
      (acts (r.further 1 from name st rest (last_after x.span.to ts))))))));
  only = λ e from place name st rest to. let none = r.none (suc-one count e) in
      ends-at (sym (after-both x.span.to ts us))
      (grouped (x ∷ ts) us rest
      (takes (later-only from place name _ x h)
      (pushed (atpat_take (sort_of x.form) x) (s.Do (a.Pat p.Push) ∷ s.Fun (fp.Equals from 1) ∷ []) st
      (then (q.comes (s.Do (a.Pat p.Push) ∷ s.Fun (fp.Equals from 1) ∷ st) (us ++ rest))
      (acts (nothing none.0 none.1 rest (s.Fun (fp.Equals from 1) ∷ st) (last_after x.span.to ts)))))));
}
  where
    nothing : {us : List Token} {k : List Made} → us ≡ [] → k ≡ [] → (rest : List Token) (st : List Sym) (to : ℕ) → Comes (us ++ rest) st to k rest st (last_after to us)
    nothing {us = []} {k = []} e f rest st to = stays rest st to
    nothing {us = []} {k = y ∷ k} e f rest st to = cc
    nothing {us = y ∷ us} e f rest st to = cc

-- bodies
tupled : (count : ℕ) {ts us : List Token} {st st' : List Sym} {to to' : ℕ} {new : List Made} → Comes ts st to new us st' to' → Comes ts (tupled_take count ++ st) to (tupled_acts count to ++ new) us st' to'
unfolding tupled_take
tupled count {ts} {us} {st} {st'} {to} {to'} {new} c = go (nat_lt 1 count)
  where
    go : (b : Bool) → Comes ts (cond b (s.Do (a.Pat p.Tupled) ∷ []) [] ++ st) to (cond b (made (a.Pat p.Tupled) to ∷ []) [] ++ new) us st' to'
    go true = acts c
    go false = c

body-equal : (from count : ℕ) → body_take from count (o.Mark m.Equal) ≡ tupled_take count ++ (s.Exp xp.Whole ∷ s.Do (a.Dec (b.AddClause from)) ∷ [])
unfolding body_take is_mark same_mark mark_number
body-equal from count = refl

body-colon : (from count : ℕ) → body_take from count (o.Mark m.Colon) ≡ tupled_take count ++ (s.Ty (tp.Whole false) ∷ s.Want m.Equal ∷ s.Exp xp.Whole ∷ s.Do (a.Dec (b.Constrain from)) ∷ s.Do (a.Dec (b.AddClause from)) ∷ [])
unfolding body_take is_mark same_mark mark_number
body-colon from count = refl

equal-begins : begins_body (o.Mark m.Equal) ≡ true
unfolding begins_body body_mark same_mark mark_number
equal-begins = refl

colon-begins : begins_body (o.Mark m.Colon) ≡ true
unfolding begins_body body_mark same_mark mark_number
colon-begins = refl

plain-body : {o : Bool} {n : List Made} {ws : List Token} {equals : Token} (from count at : ℕ) → IsMark (codes "=") equals → Starting begins_exp (ExprC o n) ws → last_after equals.span.to ws ≡ at →
    Starting begins_body (BodyC o from count (tupled_acts count equals.span.to ++ (n ++ (made (a.Dec (b.AddClause from)) at ∷ [])))) (equals ∷ ws)
plain-body {ws = ws} {equals = equals} from count at h q e = starting equals ws (ap begins_body (Words.is-equal h) ∙ equal-begins) (record {
  comes = λ st rest ends.
      stacked st (ap (body_take from count) (Words.is-equal h) ∙ body-equal from count)
      (pushed (tupled_take count) (s.Exp xp.Whole ∷ s.Do (a.Dec (b.AddClause from)) ∷ []) st
      (tupled count
      (then (wanted q (s.Do (a.Dec (b.AddClause from)) ∷ st) rest equals.span.to ends)
      (acts-at e (stays rest st (last_after equals.span.to ws))))));
})

same-equal : same_mark m.Equal m.Equal ≡ true
unfolding same_mark mark_number
same-equal = refl

ty-before-equal : {word : Token} → IsMark (codes "=") word → sort_of word.form ≡ o.Mark m.Equal → same_mark m.Equal m.Arrow ≡ false
unfolding same_mark mark_number
ty-before-equal h e = refl

typed-body : {o : Bool} {n k : List Made} {vs ws : List Token} {colon equals : Token} (from count at : ℕ) → IsMark (codes ":") colon → Starting begins_ty (TyC false k) vs → IsMark (codes "=") equals → Starting begins_exp (ExprC o n) ws → last_after equals.span.to ws ≡ at →
    Starting begins_body (BodyC o from count (tupled_acts count colon.span.to ++ (k ++ (n ++ (made (a.Dec (b.Constrain from)) at ∷ (made (a.Dec (b.AddClause from)) at ∷ [])))))) (colon ∷ vs ++ equals ∷ ws)
typed-body {ws = ws} {colon = colon} {equals = equals} from count at h (starting v vs l r) i q e = starting colon ((v ∷ vs) ++ equals ∷ ws) (ap begins_body (Words.is-colon h) ∙ colon-begins) (record {
  comes = λ st rest ends.
      ends-at (sym (after-both colon.span.to (v ∷ vs) (equals ∷ ws)))
      (grouped (v ∷ vs) (equals ∷ ws) rest
      (stacked st (ap (body_take from count) (Words.is-colon h) ∙ body-colon from count)
      (pushed (tupled_take count) (s.Ty (tp.Whole false) ∷ s.Want m.Equal ∷ s.Exp xp.Whole ∷ s.Do (a.Dec (b.Constrain from)) ∷ s.Do (a.Dec (b.AddClause from)) ∷ []) st
      (tupled count
      (then (r.comes (s.Want m.Equal ∷ s.Exp xp.Whole ∷ s.Do (a.Dec (b.Constrain from)) ∷ s.Do (a.Dec (b.AddClause from)) ∷ st) (equals ∷ ws ++ rest) colon.span.to (Types.mark-ends equals (Words.is-equal i) (ty-before-equal i (Words.is-equal i))))
      (takes-as (Words.is-equal i) (want-takes m.Equal equals same-equal)
      (then (wanted q (s.Do (a.Dec (b.Constrain from)) ∷ s.Do (a.Dec (b.AddClause from)) ∷ st) rest equals.span.to ends)
      (acts-at e (acts-at e (stays rest st (last_after equals.span.to ws)))))))))));
})

-- clauses of a name and patterns
body-no-mark : (mark : Mark) → body_mark mark ≡ true → pattern_mark mark ≡ false
unfolding body_mark pattern_mark same_mark mark_number
body-no-mark m.Wildcard h = cc
body-no-mark m.Op h = cc
body-no-mark m.Open h = cc
body-no-mark m.OpenBracket h = cc
body-no-mark _ h = refl

body-no-pattern : (sort : TokenSort) → begins_body sort ≡ true → begins_pat sort ≡ false
unfolding begins_body begins_pat
body-no-pattern (o.Mark mark) h = body-no-mark mark h
body-no-pattern (o.Int _) h = cc
body-no-pattern (o.Char _) h = cc
body-no-pattern o.Str h = cc
body-no-pattern o.Name h = cc
body-no-pattern o.Long h = cc
body-no-pattern _ h = refl

first-body : (from : ℕ) (name : List ℕ) (count : ℕ) (sort : TokenSort) (t : Token) → begins_body sort ≡ true →
    move_at (s.Fun (fp.Patterns from name count)) sort t ≡ Takes (body_take from count sort ++ (s.Later (lp.Rest name count) ∷ end_take from name count))
unfolding move_at
first-body from name count sort t h = let k = body-no-pattern sort h in rw (k, h) refl

equals-body : (from count : ℕ) (sort : TokenSort) (t : Token) → begins_body sort ≡ true → move_at (s.Fun (fp.Equals from count)) sort t ≡ Takes (body_take from count sort)
unfolding move_at
equals-body from count sort t h = rw h refl

may-one : (name : List ℕ) (count : ℕ) → may_be_infix name count ≡ true → count ≡ 1
unfolding may_be_infix
may-one name count h = go (count == 1) refl h
  where
    go : (b : Bool) → (count == 1) ≡ b → cond b (has_level (infix_level name)) false ≡ true → count ≡ 1
    go true e k = eqb-true count 1 e
    go false e k = cc

one-least : (count : ℕ) → 1 ≤ suc count
one-least count = omega arith

pub c-clause : {o : Bool} {place count : ℕ} {name : List ℕ} {n k : List Made} {ts us bs : List Token} → Starting any-first (ClauseHead place name) ts → AtpatsC (suc count) n us → Starting begins_body (BodyC o (first_of ts) (suc count) k) bs →
    Starting any-first (ClauseC name (suc count) o (made (a.Pat p.NoPats) (first_to ts) ∷ (n ++ k))) ((ts ++ us) ++ bs)
c-clause {o} {place} {count} {name} {n} {k} {us = us} (starting x ts h q) r (starting y bs l w) = starting x ((ts ++ us) ++ y ∷ bs) h (record {
  begins = λ st rest to ends.
      ends-at (sym (after-both x.span.to (ts ++ us) (y ∷ bs)))
      (grouped ((x ∷ ts) ++ us) (y ∷ bs) rest
      (grouped (x ∷ ts) us (y ∷ bs ++ rest)
      (then (q.begins st (us ++ (y ∷ bs ++ rest)) to)
      (then (r.all (one-least count) x.span.from place name st (y ∷ bs ++ rest) (last_after x.span.to ts))
      (takes (first-body x.span.from name (suc count) _ y l)
      (pushed (body_take x.span.from (suc count) (sort_of y.form)) (s.Later (lp.Rest name (suc count)) ∷ end_take x.span.from name (suc count)) st
      (w.comes (s.Later (lp.Rest name (suc count)) ∷ (end_take x.span.from name (suc count) ++ st)) rest ends)))))));
  follows = λ st rest to ends.
      ends-at (sym (after-both x.span.to (ts ++ us) (y ∷ bs)))
      (grouped ((x ∷ ts) ++ us) (y ∷ bs) rest
      (grouped (x ∷ ts) us (y ∷ bs ++ rest)
      (later (may_be_infix name (suc count)) refl st rest to ends)));
})
  where
    later : (f : Bool) → may_be_infix name (suc count) ≡ f → (st : List Sym) (rest : List Token) (to : ℕ) → Ends o (first rest) →
        Comes ((x ∷ ts) ++ (us ++ (y ∷ bs ++ rest))) (s.Later (lp.Clause name (suc count)) ∷ st) to (made (a.Pat p.NoPats) x.span.to ∷ (n ++ k)) rest st (last_after y.span.to bs)
    later true e st rest to ends =
        then (q.infixed name (suc count) e st (us ++ (y ∷ bs ++ rest)) to)
        (then (r.only (may-one name (suc count) e) x.span.from place name st (y ∷ bs ++ rest) (last_after x.span.to ts))
        (subst (λ z. Comes (y ∷ bs ++ rest) (s.Fun (fp.Equals x.span.from z) ∷ st) (last_after (last_after x.span.to ts) us) k rest st (last_after y.span.to bs)) (may-one name (suc count) e)
        (takes (equals-body x.span.from (suc count) _ y l)
        (w.comes st rest ends))))
    later false e st rest to ends =
        then (q.follows (suc count) e st (us ++ (y ∷ bs ++ rest)) to)
        (then (r.later (s.Fun (fp.Equals x.span.from (suc count)) ∷ st) (y ∷ bs ++ rest) (last_after x.span.to ts))
        (takes (equals-body x.span.from (suc count) _ y l)
        (w.comes st rest ends)))

pub c-clause-plain : {o : Bool} {place count : ℕ} {name : List ℕ} {n k : List Made} {ts us ws : List Token} {equals : Token} → Starting any-first (ClauseHead place name) ts → AtpatsC (suc count) n us → IsMark (codes "=") equals → Starting begins_exp (ExprC o k) ws →
    Starting any-first (ClauseC name (suc count) o (made (a.Pat p.NoPats) (first_to ts) ∷ (n ++ (tupled_acts (suc count) equals.span.to ++ (k ++ (made (a.Dec (b.AddClause (first_of (ts ++ us ++ equals ∷ ws)))) (last_of (ts ++ us ++ equals ∷ ws)) ∷ [])))))) (ts ++ us ++ equals ∷ ws)
c-clause-plain {o} {place} {count} {us = us} {ws = ws} {equals = equals} (starting x ts h q) r i w =
    c-clause (starting x ts h q) r (plain-body x.span.from (suc count) (last_of ((x ∷ ts) ++ us ++ equals ∷ ws)) i w (sym (after-both 0 ((x ∷ ts) ++ us) (equals ∷ ws))))

-- the tokens regrouped
regrouped : {name : List ℕ} {count : ℕ} {o : Bool} {new : List Made} (ts us vs : List Token) → Starting any-first (ClauseC name count o new) (ts ++ (us ++ vs)) → Starting any-first (ClauseC name count o new) ((ts ++ us) ++ vs)
regrouped {name} {count} {o} {new} ts us vs c = subst (λ z. Starting any-first (ClauseC name count o new) z) (sym (append_assoc ts us vs)) c

pub c-clause-typed : {o : Bool} {place count : ℕ} {name : List ℕ} {n j k : List Made} {ts us vs ws : List Token} {colon equals : Token} → Starting any-first (ClauseHead place name) ts → AtpatsC (suc count) n us → IsMark (codes ":") colon → Starting begins_ty (TyC false j) vs →
    IsMark (codes "=") equals → Starting begins_exp (ExprC o k) ws →
    Starting any-first (ClauseC name (suc count) o (made (a.Pat p.NoPats) (first_to ts) ∷ (n ++ (tupled_acts (suc count) colon.span.to ++ (j ++ (k ++ (made (a.Dec (b.Constrain (first_of (ts ++ us ++ colon ∷ vs ++ equals ∷ ws)))) (last_of (ts ++ us ++ colon ∷ vs ++ equals ∷ ws)) ∷ (made (a.Dec (b.AddClause (first_of (ts ++ us ++ colon ∷ vs ++ equals ∷ ws)))) (last_of (ts ++ us ++ colon ∷ vs ++ equals ∷ ws)) ∷ []))))))))
    (ts ++ us ++ colon ∷ vs ++ equals ∷ ws)
c-clause-typed {o} {place} {count} {name} {us = us} {vs = vs} {ws = ws} {colon = colon} {equals = equals} (starting x ts h q) r i t e w =
    regrouped ((x ∷ ts) ++ us) (colon ∷ vs) (equals ∷ ws)
    (c-clause (starting x ts h q) r (typed-body x.span.from (suc count) (last_of ((x ∷ ts) ++ us ++ colon ∷ vs ++ equals ∷ ws)) i t e w (sym (after-both 0 ((x ∷ ts) ++ us ++ colon ∷ vs) (equals ∷ ws)))))

-- clauses with an infix name
head-infix : (from place : ℕ) (head : List ℕ) (sort : TokenSort) (t : Token) → is_infix_name sort ≡ true → move_at (s.Fun (fp.Head from place head)) sort t ≡
    Takes (s.Do (a.Pat (p.Name place head)) ∷ s.Do (a.Lack t.span.from l.InfixClause) ∷ s.Pat pp.Atomic ∷ s.Do (a.Pat (p.Pair from)) ∷ s.Do (a.Pat p.Push) ∷ s.Fun (fp.Equals from 1) ∷ s.Later (lp.Rest (text_of t.form) 1) ∷ s.Do (a.Dec (b.AddRec (text_of t.form))) ∷ [])
unfolding move_at
head-infix from place head sort t h = rw h refl

other-infix : (from : ℕ) (sort : TokenSort) (t : Token) → is_infix_name sort ≡ true → move_at (s.Fun (fp.Infix from)) sort t ≡
    Takes (s.Do (a.Lack t.span.from l.InfixClause) ∷ s.Pat pp.Atomic ∷ s.Do (a.Pat (p.Pair from)) ∷ s.Do (a.Pat p.Push) ∷ s.Fun (fp.Equals from 1) ∷ s.Later (lp.Rest (text_of t.form) 1) ∷ s.Do (a.Dec (b.AddRec (text_of t.form))) ∷ [])
unfolding move_at
other-infix from sort t h = rw h refl

later-head-infix : (from place : ℕ) (head name : List ℕ) (sort : TokenSort) (t : Token) → is_infix_name sort ≡ true → bytes_eq name (text_of t.form) ≡ true → move_at (s.Later (lp.Head from place head name)) sort t ≡
    Takes (s.Do (a.Pat (p.Name place head)) ∷ s.Do (a.Lack t.span.from l.InfixClause) ∷ s.Pat pp.Atomic ∷ s.Do (a.Pat (p.Pair from)) ∷ s.Do (a.Pat p.Push) ∷ s.Fun (fp.Equals from 1) ∷ [])
unfolding move_at
later-head-infix from place head name sort t h i = rw (h, i) refl

later-other-infix : (from : ℕ) (name : List ℕ) (sort : TokenSort) (t : Token) → is_infix_name sort ≡ true → bytes_eq name (text_of t.form) ≡ true → move_at (s.Later (lp.Infix from name)) sort t ≡
    Takes (s.Do (a.Lack t.span.from l.InfixClause) ∷ s.Pat pp.Atomic ∷ s.Do (a.Pat (p.Pair from)) ∷ s.Do (a.Pat p.Push) ∷ s.Fun (fp.Equals from 1) ∷ [])
unfolding move_at
later-other-infix from name sort t h i = rw (h, i) refl

end-one : (from : ℕ) (name : List ℕ) → s.Do (a.Dec (b.AddRec name)) ∷ [] ≡ end_take from name 1
unfolding end_take
end-one from name = refl

-- from the pattern behind the name on
after-infix : {o : Bool} {m k : List Made} {us bs : List Token} (from to : ℕ) → Starting begins_pat (AtpatC m) us → Starting begins_body (BodyC o from 1 k) bs → (st : List Sym) (rest : List Token) → Ends o (first rest) →
    Comes (us ++ (bs ++ rest)) (s.Pat pp.Atomic ∷ s.Do (a.Pat (p.Pair from)) ∷ s.Do (a.Pat p.Push) ∷ s.Fun (fp.Equals from 1) ∷ st) to
    (m ++ (made (a.Pat (p.Pair from)) (last_of us) ∷ (made (a.Pat p.Push) (last_of us) ∷ k))) rest st (last_after to bs)
after-infix from to (starting u us h q) (starting y bs l w) st rest ends =
    takes (Patterns.atomic-takes _ u h)
    (then (q.comes (s.Do (a.Pat (p.Pair from)) ∷ s.Do (a.Pat p.Push) ∷ s.Fun (fp.Equals from 1) ∷ st) (y ∷ bs ++ rest))
    (acts (acts
    (takes (equals-body from 1 _ y l)
    (w.comes st rest ends)))))

-- the end of a body is that of all
body-end : {o : Bool} {from count : ℕ} {k : List Made} {bs : List Token} (to at : ℕ) → Starting begins_body (BodyC o from count k) bs → last_after to bs ≡ last_after at bs
body-end to at (starting y bs l w) = refl

pub c-clause-infix-name : {o : Bool} {level place : ℕ} {name head : List ℕ} {m k : List Made} {ts us bs : List Token} {word : Token} → Starting any-first (ClauseHead place head) ts → IsInfixName level name word → Starting begins_pat (AtpatC m) us → Starting begins_body (BodyC o (first_of ts) 1 k) bs →
    Starting any-first (ClauseC name 1 o (made (a.Pat p.NoPats) (first_to ts) ∷ (made (a.Pat (p.Name place head)) word.span.to ∷ (made (a.Lack word.span.from l.InfixClause) word.span.to ∷ (m ++ (made (a.Pat (p.Pair (first_of ts))) (last_of us) ∷ (made (a.Pat p.Push) (last_of us) ∷ k))))))) ((ts ++ word ∷ us) ++ bs)
c-clause-infix-name {o} {level} {place} {name} {head} {us = us} {bs = bs} {word = word} (starting x ts h q) i r w = starting x ((ts ++ word ∷ us) ++ bs) h (record {
  begins = λ st rest to ends.
      ends-at (sym (after-both x.span.to (ts ++ word ∷ us) bs ∙ body-end (last_after x.span.to (ts ++ word ∷ us)) word.span.to w))
      (grouped ((x ∷ ts) ++ word ∷ us) bs rest
      (grouped (x ∷ ts) (word ∷ us) (bs ++ rest)
      (then (q.begins st (word ∷ us ++ (bs ++ rest)) to)
      (takes (head-infix x.span.from place head _ word (infix-is i)
      ∙ ap (λ z. Takes (s.Do (a.Pat (p.Name place head)) ∷ s.Do (a.Lack word.span.from l.InfixClause) ∷ s.Pat pp.Atomic ∷ s.Do (a.Pat (p.Pair x.span.from)) ∷ s.Do (a.Pat p.Push) ∷ s.Fun (fp.Equals x.span.from 1) ∷ s.Later (lp.Rest z 1) ∷ s.Do (a.Dec (b.AddRec z)) ∷ [])) (infix-text i)
      ∙ ap (λ z. Takes (s.Do (a.Pat (p.Name place head)) ∷ s.Do (a.Lack word.span.from l.InfixClause) ∷ s.Pat pp.Atomic ∷ s.Do (a.Pat (p.Pair x.span.from)) ∷ s.Do (a.Pat p.Push) ∷ s.Fun (fp.Equals x.span.from 1) ∷ s.Later (lp.Rest name 1) ∷ z)) (end-one x.span.from name))
      (acts (acts (after-infix x.span.from word.span.to r w (s.Later (lp.Rest name 1) ∷ (end_take x.span.from name 1 ++ st)) rest ends)))))));
  follows = λ st rest to ends.
      ends-at (sym (after-both x.span.to (ts ++ word ∷ us) bs ∙ body-end (last_after x.span.to (ts ++ word ∷ us)) word.span.to w))
      (grouped ((x ∷ ts) ++ word ∷ us) bs rest
      (grouped (x ∷ ts) (word ∷ us) (bs ++ rest)
      (then (q.infixed name 1 (infix-may i) st (word ∷ us ++ (bs ++ rest)) to)
      (takes (later-head-infix x.span.from place head name _ word (infix-is i) (ap (bytes_eq name) (infix-text i) ∙ same-text name))
      (acts (acts (after-infix x.span.from word.span.to r w st rest ends)))))));
})

pub c-clause-infix : {o : Bool} {level : ℕ} {name : List ℕ} {n m k : List Made} {ts us bs : List Token} {word : Token} → Starting begins_pat (AtpatC n) ts → NotHead ts → IsInfixName level name word → Starting begins_pat (AtpatC m) us → Starting begins_body (BodyC o (first_of ts) 1 k) bs →
    Starting any-first (ClauseC name 1 o (made (a.Pat p.NoPats) (first_to ts) ∷ (n ++ (made (a.Lack word.span.from l.InfixClause) word.span.to ∷ (m ++ (made (a.Pat (p.Pair (first_of ts))) (last_of us) ∷ (made (a.Pat p.Push) (last_of us) ∷ k))))))) ((ts ++ word ∷ us) ++ bs)
unfolding any-first
c-clause-infix {o} {level} {name} {us = us} {bs = bs} {word = word} (starting x ts h q) free i r w = starting x ((ts ++ word ∷ us) ++ bs) refl (record {
  begins = λ st rest to ends.
      ends-at (sym (after-both x.span.to (ts ++ word ∷ us) bs ∙ body-end (last_after x.span.to (ts ++ word ∷ us)) word.span.to w))
      (grouped ((x ∷ ts) ++ word ∷ us) bs rest
      (grouped (x ∷ ts) (word ∷ us) (bs ++ rest)
      (takes (bind-other _ x free.0 free.1 h)
      (acts (acts
      (pushed (atpat_take (sort_of x.form) x) (s.Fun (fp.Infix x.span.from) ∷ []) st
      (then (q.comes (s.Fun (fp.Infix x.span.from) ∷ st) (word ∷ us ++ (bs ++ rest)))
      (takes (other-infix x.span.from _ word (infix-is i)
      ∙ ap (λ z. Takes (s.Do (a.Lack word.span.from l.InfixClause) ∷ s.Pat pp.Atomic ∷ s.Do (a.Pat (p.Pair x.span.from)) ∷ s.Do (a.Pat p.Push) ∷ s.Fun (fp.Equals x.span.from 1) ∷ s.Later (lp.Rest z 1) ∷ s.Do (a.Dec (b.AddRec z)) ∷ [])) (infix-text i)
      ∙ ap (λ z. Takes (s.Do (a.Lack word.span.from l.InfixClause) ∷ s.Pat pp.Atomic ∷ s.Do (a.Pat (p.Pair x.span.from)) ∷ s.Do (a.Pat p.Push) ∷ s.Fun (fp.Equals x.span.from 1) ∷ s.Later (lp.Rest name 1) ∷ z)) (end-one x.span.from name))
      (acts (after-infix x.span.from word.span.to r w (s.Later (lp.Rest name 1) ∷ (end_take x.span.from name 1 ++ st)) rest ends))))))))));
  follows = λ st rest to ends.
      ends-at (sym (after-both x.span.to (ts ++ word ∷ us) bs ∙ body-end (last_after x.span.to (ts ++ word ∷ us)) word.span.to w))
      (grouped ((x ∷ ts) ++ word ∷ us) bs rest
      (grouped (x ∷ ts) (word ∷ us) (bs ++ rest)
      (takes (clause-other _ name 1 x free.0 free.1 h (infix-may i))
      (acts
      (pushed (atpat_take (sort_of x.form) x) (s.Later (lp.Infix x.span.from name) ∷ []) st
      (then (q.comes (s.Later (lp.Infix x.span.from name) ∷ st) (word ∷ us ++ (bs ++ rest)))
      (takes (later-other-infix x.span.from name _ word (infix-is i) (ap (bytes_eq name) (infix-text i) ∙ same-text name))
      (acts (after-infix x.span.from word.span.to r w st rest ends)))))))));
})

pub c-infix-name : {o : Bool} {level place : ℕ} {name head : List ℕ} {m k : List Made} {ts us ws : List Token} {word equals : Token} → Starting any-first (ClauseHead place head) ts → IsInfixName level name word → Starting begins_pat (AtpatC m) us → IsMark (codes "=") equals → Starting begins_exp (ExprC o k) ws →
    Starting any-first (ClauseC name 1 o (made (a.Pat p.NoPats) (first_to ts) ∷ (made (a.Pat (p.Name place head)) word.span.to ∷ (made (a.Lack word.span.from l.InfixClause) word.span.to ∷ (m ++ (made (a.Pat (p.Pair (first_of ts))) (last_of us) ∷ (made (a.Pat p.Push) (last_of us)
    ∷ (k ++ (made (a.Dec (b.AddClause (first_of (ts ++ word ∷ us ++ equals ∷ ws)))) (last_of (ts ++ word ∷ us ++ equals ∷ ws)) ∷ []))))))))) (ts ++ word ∷ us ++ equals ∷ ws)
c-infix-name {us = us} {ws = ws} {word = word} {equals = equals} (starting x ts h q) i r j w =
    c-clause-infix-name (starting x ts h q) i r (plain-body x.span.from 1 (last_of ((x ∷ ts) ++ word ∷ us ++ equals ∷ ws)) j w (sym (after-both 0 ((x ∷ ts) ++ word ∷ us) (equals ∷ ws))))

pub c-infix-typed-name : {o : Bool} {level place : ℕ} {name head : List ℕ} {m k g : List Made} {ts us vs ws : List Token} {word colon equals : Token} → Starting any-first (ClauseHead place head) ts → IsInfixName level name word → Starting begins_pat (AtpatC m) us →
    IsMark (codes ":") colon → Starting begins_ty (TyC false g) vs → IsMark (codes "=") equals → Starting begins_exp (ExprC o k) ws →
    Starting any-first (ClauseC name 1 o (made (a.Pat p.NoPats) (first_to ts) ∷ (made (a.Pat (p.Name place head)) word.span.to ∷ (made (a.Lack word.span.from l.InfixClause) word.span.to ∷ (m ++ (made (a.Pat (p.Pair (first_of ts))) (last_of us) ∷ (made (a.Pat p.Push) (last_of us)
    ∷ (g ++ (k ++ (made (a.Dec (b.Constrain (first_of (ts ++ word ∷ us ++ colon ∷ vs ++ equals ∷ ws)))) (last_of (ts ++ word ∷ us ++ colon ∷ vs ++ equals ∷ ws)) ∷ (made (a.Dec (b.AddClause (first_of (ts ++ word ∷ us ++ colon ∷ vs ++ equals ∷ ws)))) (last_of (ts ++ word ∷ us ++ colon ∷ vs ++ equals ∷ ws)) ∷ [])))))))))))
    (ts ++ word ∷ us ++ colon ∷ vs ++ equals ∷ ws)
c-infix-typed-name {us = us} {vs = vs} {ws = ws} {word = word} {colon = colon} {equals = equals} (starting x ts h q) i r f t j w =
    regrouped ((x ∷ ts) ++ word ∷ us) (colon ∷ vs) (equals ∷ ws)
    (c-clause-infix-name (starting x ts h q) i r (typed-body x.span.from 1 (last_of ((x ∷ ts) ++ word ∷ us ++ colon ∷ vs ++ equals ∷ ws)) f t j w (sym (after-both 0 ((x ∷ ts) ++ word ∷ us ++ colon ∷ vs) (equals ∷ ws)))))

pub c-infix-other : {o : Bool} {level : ℕ} {name : List ℕ} {n m k : List Made} {ts us ws : List Token} {word equals : Token} → Starting begins_pat (AtpatC n) ts → NotHead ts → IsInfixName level name word → Starting begins_pat (AtpatC m) us → IsMark (codes "=") equals → Starting begins_exp (ExprC o k) ws →
    Starting any-first (ClauseC name 1 o (made (a.Pat p.NoPats) (first_to ts) ∷ (n ++ (made (a.Lack word.span.from l.InfixClause) word.span.to ∷ (m ++ (made (a.Pat (p.Pair (first_of ts))) (last_of us) ∷ (made (a.Pat p.Push) (last_of us)
    ∷ (k ++ (made (a.Dec (b.AddClause (first_of (ts ++ word ∷ us ++ equals ∷ ws)))) (last_of (ts ++ word ∷ us ++ equals ∷ ws)) ∷ []))))))))) (ts ++ word ∷ us ++ equals ∷ ws)
c-infix-other {us = us} {ws = ws} {word = word} {equals = equals} (starting x ts h q) free i r j w =
    c-clause-infix (starting x ts h q) free i r (plain-body x.span.from 1 (last_of ((x ∷ ts) ++ word ∷ us ++ equals ∷ ws)) j w (sym (after-both 0 ((x ∷ ts) ++ word ∷ us) (equals ∷ ws))))

pub c-infix-typed-other : {o : Bool} {level : ℕ} {name : List ℕ} {n m k g : List Made} {ts us vs ws : List Token} {word colon equals : Token} → Starting begins_pat (AtpatC n) ts → NotHead ts → IsInfixName level name word → Starting begins_pat (AtpatC m) us →
    IsMark (codes ":") colon → Starting begins_ty (TyC false g) vs → IsMark (codes "=") equals → Starting begins_exp (ExprC o k) ws →
    Starting any-first (ClauseC name 1 o (made (a.Pat p.NoPats) (first_to ts) ∷ (n ++ (made (a.Lack word.span.from l.InfixClause) word.span.to ∷ (m ++ (made (a.Pat (p.Pair (first_of ts))) (last_of us) ∷ (made (a.Pat p.Push) (last_of us)
    ∷ (g ++ (k ++ (made (a.Dec (b.Constrain (first_of (ts ++ word ∷ us ++ colon ∷ vs ++ equals ∷ ws)))) (last_of (ts ++ word ∷ us ++ colon ∷ vs ++ equals ∷ ws)) ∷ (made (a.Dec (b.AddClause (first_of (ts ++ word ∷ us ++ colon ∷ vs ++ equals ∷ ws)))) (last_of (ts ++ word ∷ us ++ colon ∷ vs ++ equals ∷ ws)) ∷ [])))))))))))
    (ts ++ word ∷ us ++ colon ∷ vs ++ equals ∷ ws)
c-infix-typed-other {us = us} {vs = vs} {ws = ws} {word = word} {colon = colon} {equals = equals} (starting x ts h q) free i r f t j w =
    regrouped ((x ∷ ts) ++ word ∷ us) (colon ∷ vs) (equals ∷ ws)
    (c-clause-infix (starting x ts h q) free i r (typed-body x.span.from 1 (last_of ((x ∷ ts) ++ word ∷ us ++ colon ∷ vs ++ equals ∷ ws)) f t j w (sym (after-both 0 ((x ∷ ts) ++ word ∷ us ++ colon ∷ vs) (equals ∷ ws)))))

-- clauses
rest-bar : (name : List ℕ) (count : ℕ) (t : Token) → move_at (s.Later (lp.Rest name count)) (o.Mark m.Bar) t ≡ Takes (s.Later (lp.Clause name count) ∷ s.Later (lp.Rest name count) ∷ [])
unfolding move_at is_mark same_mark mark_number
rest-bar name count t = refl

pub c-clauses-last : {o : Bool} {count : ℕ} {name : List ℕ} {n : List Made} {ts : List Token} → Starting any-first (ClauseC name count o n) ts → Starting any-first (ClausesC name count n) ts
c-clauses-last {o} {count} {name} (starting x us h q) = starting x us h (record {
  begins = λ st rest to ends. lastly (q.begins st rest to (ends-all ends.exp)) (skips (ends.later name count) (stays rest (end_take x.span.from name count ++ st) (last_after x.span.to us)));
  follows = λ st rest to ends. lastly (q.follows (s.Later (lp.Rest name count) ∷ st) rest to (ends-all ends.exp)) (skips (ends.later name count) (stays rest st (last_after x.span.to us)));
})

pub c-clauses-more : {count : ℕ} {name : List ℕ} {n k : List Made} {ts us : List Token} {bar : Token} → Starting any-first (ClauseC name count false n) ts → IsMark (codes "|") bar → Starting any-first (ClausesC name count k) us →
    Starting any-first (ClausesC name count (n ++ k)) (ts ++ bar ∷ us)
c-clauses-more {count} {name} {bar = bar} (starting x ts h q) i (starting u us l r) = starting x (ts ++ bar ∷ u ∷ us) h (record {
  begins = λ st rest to ends.
      ends-at (sym (after-both x.span.to ts (bar ∷ u ∷ us)))
      (grouped (x ∷ ts) (bar ∷ u ∷ us) rest
      (then (q.begins st (bar ∷ u ∷ us ++ rest) to (ExpEnds.before-bar i))
      (takes-as (Words.is-bar i) (rest-bar name count bar)
      (r.follows (end_take x.span.from name count ++ st) rest bar.span.to ends))));
  follows = λ st rest to ends.
      ends-at (sym (after-both x.span.to ts (bar ∷ u ∷ us)))
      (grouped (x ∷ ts) (bar ∷ u ∷ us) rest
      (then (q.follows (s.Later (lp.Rest name count) ∷ st) (bar ∷ u ∷ us ++ rest) to (ExpEnds.before-bar i))
      (takes-as (Words.is-bar i) (rest-bar name count bar)
      (r.follows st rest bar.span.to ends))));
})

-- functions
end-told : (from : ℕ) (name : List ℕ) (count : ℕ) {ts us : List Token} {st st' : List Sym} {to to' : ℕ} {new : List Made} → Comes ts st to new us st' to' → Comes ts (end_take from name count ++ st) to (end_acts from name count to ++ new) us st' to'
unfolding end_take
end-told from name count {ts} {us} {st} {st'} {to} {to'} {new} c = go (nat_lt 1 count)
  where
    go : (f : Bool) → Comes ts (cond f (s.Do (a.Dec (b.Curry from count)) ∷ s.Do (a.Dec (b.AddRec name)) ∷ []) (s.Do (a.Dec (b.AddRec name)) ∷ []) ++ st) to
        (cond f (made (a.Dec (b.Curry from count)) to ∷ made (a.Dec (b.AddRec name)) to ∷ []) (made (a.Dec (b.AddRec name)) to ∷ []) ++ new) us st' to'
    go true = acts (acts c)
    go false = acts c

dec-fun : {z : Option Token} → DecEnds z → FunEnds z
dec-fun ends = record { exp = ends.exp; later = ends.later }

and-fun : {word : Token} → IsMark (codes "and") word → FunEnds (Some word)
unfolding move_at is_mark same_mark mark_number
and-fun {word} h = record { exp = ExpEnds.before-and h; later = λ name count. at-word (s.Later (lp.Rest name count)) word (Words.is-and h) refl }

rest-and : (t : Token) → move_at (s.Fun fp.Rest) (o.Mark m.And) t ≡ Takes (s.Fun fp.Bind ∷ s.Fun fp.Rest ∷ [])
unfolding move_at is_mark same_mark mark_number
rest-and t = refl

pub c-funs-one : {count : ℕ} {name : List ℕ} {n : List Made} {ts : List Token} → Starting any-first (ClausesC name count n) ts → FunsC (made (a.Exp e.NoRules) (first_to ts) ∷ (n ++ end_acts (first_of ts) name count (last_of ts))) ts
c-funs-one {count} {name} {n} (starting x us h q) = record {
  comes = λ st rest to ends.
      told (ap (λ z. made (a.Exp e.NoRules) x.span.to ∷ (n ++ z)) (append-nil (end_acts x.span.from name count (last_after x.span.to us))))
      (then (q.begins (s.Fun fp.Rest ∷ st) rest to (dec-fun ends))
      (end-told x.span.from name count
      (skips ends.funs
      (stays rest st (last_after x.span.to us)))));
}

pub c-funs-more : {count : ℕ} {name : List ℕ} {n k : List Made} {ts us : List Token} {and_ : Token} → Starting any-first (ClausesC name count n) ts → IsMark (codes "and") and_ → FunsC k us →
    FunsC (made (a.Exp e.NoRules) (first_to ts) ∷ (n ++ (end_acts (first_of ts) name count (last_of ts) ++ k))) (ts ++ and_ ∷ us)
c-funs-more {count} {name} {us = us} {and_ = and_} (starting x ts h q) i r = record {
  comes = λ st rest to ends.
      ends-at (sym (after-both to (x ∷ ts) (and_ ∷ us)))
      (grouped (x ∷ ts) (and_ ∷ us) rest
      (then (q.begins (s.Fun fp.Rest ∷ st) (and_ ∷ us ++ rest) to (and-fun i))
      (end-told x.span.from name count
      (takes-as (Words.is-and i) (rest-and and_)
      (r.comes st rest and_.span.to ends)))));
}
