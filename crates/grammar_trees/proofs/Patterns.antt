-- Patterns, as the machine reads them.
use Rattle.std.proofs.Common.{◌≡◌, ℕ, List, [], ◌∷◌, ◌++◌, true, false, refl, ap, sym, ◌∙◌, Some, codes, ℤ}
use Rattle.sml_syntax.specs.declared.token.Token.{Token}
use Rattle.sml_syntax.specs.declared.token.TokenForm.TheVariants as f
use Rattle.grammar_rules.specs.Nodes.{first_of, last_of, last_after}
use Rattle.grammar_rules.specs.Grammar.{IsMark, IsAnyName, IsTypeName}
use Rattle.sml_grammar.specs.declared.mark.Mark.{Mark}
use Rattle.sml_grammar.specs.declared.mark.Mark.TheVariants as m
use Rattle.sml_grammar.specs.declared.token_sort.TokenSort.{TokenSort}
use Rattle.sml_grammar.specs.declared.token_sort.TokenSort.TheVariants as o
use Rattle.sml_grammar.specs.declared.act.Made.{Made}
use Rattle.sml_grammar.specs.declared.act.Act.TheVariants as a
use Rattle.sml_grammar.specs.declared.act.PatAct.TheVariants as p
use Rattle.sml_grammar.specs.declared.symbol.Sym.{Sym}
use Rattle.sml_grammar.specs.declared.symbol.Sym.TheVariants as s
use Rattle.sml_grammar.specs.declared.symbol.PatPhrase.TheVariants as pp
use Rattle.sml_grammar.specs.declared.symbol.PatItems.TheVariants as pi
use Rattle.sml_grammar.specs.declared.symbol.TyPhrase.TheVariants as tp
use Rattle.sml_grammar.specs.Marks.{same_mark, mark_number}
use Rattle.sml_grammar.specs.Sorts.{sort_of, is_mark, is_type_name, is_any_name, is_cons, begins_pat, pattern_mark, begins_ty}
use Rattle.sml_grammar.specs.Tokens.{text_of}
use Rattle.sml_grammar.specs.Moves.{Takes}
use Rattle.sml_grammar.specs.Takes.{atpat_take, apat_take, pat_take, pat_mark_take}
use Rattle.sml_grammar.specs.Machine.{made}
use Rattle.grammar_trees.specs.Exact.{move_at}
use Rattle.grammar_trees.specs.Tells.{first_to}
use Rattle.grammar_trees.specs.Ends.{ApatEnds, CpatEnds, PatEnds}
use Rattle.grammar_trees.specs.Claims.{Comes, Starting, starting, TyC, HeadC, AtpatC, ApatC, CpatC, PatC, PatsC, PatsGo}
use Rattle.grammar_trees.proofs.Words
use Rattle.grammar_trees.proofs.Words.{TypeSort, at_name, at_long, type-sort, type-text, AnySort, any_name, any_star, any_cons, any_infix, any-sort, any-text}
use Rattle.grammar_trees.proofs.Types
use Rattle.grammar_trees.proofs.Steps.{stays, skips, acts, acts-at, takes, takes-as, then, lastly, ends-at, grouped, pushed, stacked, at-word, after-both}

-- marks that neither begin a pattern nor go on with one end patterns
pub mark-ends : (word : Token) {mark : Mark} → sort_of word.form ≡ o.Mark mark → pattern_mark mark ≡ false → same_mark mark m.Colon ≡ false → same_mark mark m.Arrow ≡ false → PatEnds (Some word)
unfolding move_at is_mark is_cons begins_pat
mark-ends word e h i j = record {
  cpat = record {
    apat = record { argument = λ from. at-word (s.Pat (pp.Argument from)) word e (rw h refl) };
    cons = λ from. at-word (s.Pat (pp.ConsRest from)) word e refl;
  };
  typed = λ from. at-word (s.Pat (pp.TypedRest from)) word e (rw i refl);
  type_ = Types.mark-ends word e j;
}

pub close-ends : {word : Token} → IsMark (codes ")") word → PatEnds (Some word)
unfolding same_mark mark_number pattern_mark
close-ends h = mark-ends _ (Words.is-close h) refl refl refl

pub comma-ends : {word : Token} → IsMark (codes ",") word → PatEnds (Some word)
unfolding same_mark mark_number pattern_mark
comma-ends h = mark-ends _ (Words.is-comma h) refl refl refl

pub bracket-ends : {word : Token} → IsMark (codes "]") word → PatEnds (Some word)
unfolding same_mark mark_number pattern_mark
bracket-ends h = mark-ends _ (Words.is-close-bracket h) refl refl refl

pub equal-ends : {word : Token} → IsMark (codes "=") word → PatEnds (Some word)
unfolding same_mark mark_number pattern_mark
equal-ends h = mark-ends _ (Words.is-equal h) refl refl refl

pub arrow-ends : {word : Token} → IsMark (codes "=>") word → PatEnds (Some word)
unfolding same_mark mark_number pattern_mark
arrow-ends h = mark-ends _ (Words.is-double-arrow h) refl refl refl

pub colon-ends : {word : Token} → IsMark (codes ":") word → CpatEnds (Some word)
unfolding move_at is_mark is_cons begins_pat same_mark mark_number pattern_mark
colon-ends {word} h = record {
  apat = record { argument = λ from. at-word (s.Pat (pp.Argument from)) word (Words.is-colon h) refl };
  cons = λ from. at-word (s.Pat (pp.ConsRest from)) word (Words.is-colon h) refl;
}

cons-ends : {word : Token} → IsAnyName (codes "::") word → ApatEnds (Some word)
unfolding move_at begins_pat
cons-ends {word} h = record { argument = λ from. at-word (s.Pat (pp.Argument from)) word (Words.is-cons h) refl }

-- where a pattern is wanted
pub whole-takes : (sort : TokenSort) (word : Token) → begins_pat sort ≡ true → move_at (s.Pat pp.Whole) sort word ≡ Takes (pat_take sort word)
unfolding move_at
whole-takes sort word h = rw h refl

part-takes : (sort : TokenSort) (word : Token) → begins_pat sort ≡ true → move_at (s.Pat pp.ConsPart) sort word ≡ Takes (apat_take sort word ++ (s.Pat (pp.ConsRest word.span.from) ∷ []))
unfolding move_at
part-takes sort word h = rw h refl

pub atomic-takes : (sort : TokenSort) (word : Token) → begins_pat sort ≡ true → move_at (s.Pat pp.Atomic) sort word ≡ Takes (atpat_take sort word)
unfolding move_at
atomic-takes sort word h = rw h refl

argument-takes : (from : ℕ) (sort : TokenSort) (word : Token) → begins_pat sort ≡ true → move_at (s.Pat (pp.Argument from)) sort word ≡ Takes (atpat_take sort word ++ (s.Do (a.Pat (p.Con from)) ∷ []))
unfolding move_at
argument-takes from sort word h = rw h refl

-- names
name-begins : {sort : TokenSort} → TypeSort sort → begins_pat sort ≡ true
unfolding begins_pat
name-begins at_name = refl
name-begins at_long = refl

name-atomic : {sort : TokenSort} (word : Token) → TypeSort sort → atpat_take sort word ≡ s.Do (a.Pat (p.Name word.span.from (text_of word.form))) ∷ []
unfolding atpat_take
name-atomic word at_name = refl
name-atomic word at_long = refl

name-applied : {sort : TokenSort} (word : Token) → TypeSort sort → apat_take sort word ≡ s.Do (a.Pat (p.Name word.span.from (text_of word.form))) ∷ s.Pat (pp.Argument word.span.from) ∷ []
unfolding apat_take is_type_name
name-applied word at_name = refl
name-applied word at_long = refl

op-atomic : (word : Token) → atpat_take (o.Mark m.Op) word ≡ s.Pat pp.OpAtomic ∷ []
unfolding atpat_take pat_mark_take same_mark mark_number
op-atomic word = refl

op-applied : (word : Token) → apat_take (o.Mark m.Op) word ≡ s.Pat pp.OpName ∷ []
unfolding apat_take is_type_name is_mark same_mark mark_number
op-applied word = refl

op-begins : begins_pat (o.Mark m.Op) ≡ true
unfolding begins_pat pattern_mark same_mark mark_number
op-begins = refl

any-atomic : {sort : TokenSort} (word : Token) → AnySort sort → move_at (s.Pat pp.OpAtomic) sort word ≡ Takes (s.Do (a.Pat (p.Name word.span.from (text_of word.form))) ∷ [])
unfolding move_at is_any_name
any-atomic word any_name = refl
any-atomic word any_star = refl
any-atomic word any_cons = refl
any-atomic word (any_infix level) = refl

any-applied : {sort : TokenSort} (word : Token) → AnySort sort → move_at (s.Pat pp.OpName) sort word ≡ Takes (s.Do (a.Pat (p.Name word.span.from (text_of word.form))) ∷ s.Pat (pp.Argument word.span.from) ∷ [])
unfolding move_at is_any_name
any-applied word any_name = refl
any-applied word any_star = refl
any-applied word any_cons = refl
any-applied word (any_infix level) = refl

pub c-head-name : {word : Token} {name : List ℕ} → IsTypeName name word → Starting begins_pat (HeadC word.span.from (made (a.Pat (p.Name word.span.from name)) word.span.to ∷ [])) (word ∷ [])
c-head-name {word} {name} h = starting word [] (name-begins (type-sort h)) (record {
  atomic = λ st rest. stacked st (name-atomic word (type-sort h) ∙ ap (λ z. s.Do (a.Pat (p.Name word.span.from z)) ∷ []) (type-text h)) (acts (stays rest st word.span.to));
  applied = λ st rest. stacked st (name-applied word (type-sort h) ∙ ap (λ z. s.Do (a.Pat (p.Name word.span.from z)) ∷ s.Pat (pp.Argument word.span.from) ∷ []) (type-text h)) (acts (stays rest (s.Pat (pp.Argument word.span.from) ∷ st) word.span.to));
})

pub c-head-op : {op word : Token} {name : List ℕ} → IsMark (codes "op") op → IsAnyName name word → Starting begins_pat (HeadC word.span.from (made (a.Pat (p.Name word.span.from name)) word.span.to ∷ [])) (op ∷ word ∷ [])
c-head-op {op} {word} {name} h i = starting op (word ∷ []) (ap begins_pat (Words.is-op h) ∙ op-begins) (record {
  atomic = λ st rest. stacked st (ap (λ z. atpat_take z op) (Words.is-op h) ∙ op-atomic op)
      (takes (any-atomic word (any-sort i) ∙ ap (λ z. Takes (s.Do (a.Pat (p.Name word.span.from z)) ∷ [])) (any-text i)) (acts (stays rest st word.span.to)));
  applied = λ st rest. stacked st (ap (λ z. apat_take z op) (Words.is-op h) ∙ op-applied op)
      (takes (any-applied word (any-sort i) ∙ ap (λ z. Takes (s.Do (a.Pat (p.Name word.span.from z)) ∷ s.Pat (pp.Argument word.span.from) ∷ [])) (any-text i)) (acts (stays rest (s.Pat (pp.Argument word.span.from) ∷ st) word.span.to)));
})

pub c-atpat-name : {place : ℕ} {n : List Made} {ts : List Token} → Starting begins_pat (HeadC place n) ts → Starting begins_pat (AtpatC n) ts
c-atpat-name {place} {n} (starting x us k p) = starting x us k (record {
  comes = p.atomic;
  alone = λ st rest e. lastly (p.applied st rest) (skips (e.argument place) (stays rest st (last_after x.span.to us)));
})

-- a pattern that begins with no name
plain-take : (sort : TokenSort) (t : Token) → is_type_name sort ≡ false → is_mark m.Op sort ≡ false → apat_take sort t ≡ atpat_take sort t
unfolding apat_take
plain-take sort t h i = rw (h, i) refl

plain : {n : List Made} {x : Token} {us : List Token} → is_type_name (sort_of x.form) ≡ false → is_mark m.Op (sort_of x.form) ≡ false →
    ((st : List Sym) (rest : List Token) → Comes (us ++ rest) (atpat_take (sort_of x.form) x ++ st) x.span.to n rest st (last_after x.span.to us)) → AtpatC n x us
plain {x = x} h i c = record { comes = c; alone = λ st rest e. stacked st (plain-take (sort_of x.form) x h i) (c st rest) }

as-mark : {n : List Made} {x : Token} {us : List Token} {mark : Mark} → sort_of x.form ≡ o.Mark mark → same_mark mark m.Op ≡ false →
    ((st : List Sym) (rest : List Token) → Comes (us ++ rest) (atpat_take (o.Mark mark) x ++ st) x.span.to n rest st (last_after x.span.to us)) → AtpatC n x us
unfolding is_type_name is_mark
as-mark {x = x} e h c = plain (ap is_type_name e) (ap (is_mark m.Op) e ∙ h) (λ st rest. stacked st (ap (λ z. atpat_take z x) e) (c st rest))

any-take : (t : Token) → atpat_take (o.Mark m.Wildcard) t ≡ s.Do (a.Pat (p.Any t.span.from)) ∷ []
unfolding atpat_take pat_mark_take same_mark mark_number
any-take t = refl

pub c-atpat-any : {word : Token} → IsMark (codes "_") word → Starting begins_pat (AtpatC (made (a.Pat (p.Any word.span.from)) word.span.to ∷ [])) (word ∷ [])
unfolding begins_pat pattern_mark same_mark mark_number
c-atpat-any {word} h = starting word [] (ap begins_pat (Words.is-wildcard h)) (as-mark (Words.is-wildcard h) refl (λ st rest. stacked st (any-take word) (acts (stays rest st word.span.to))))

pub c-atpat-int : {word : Token} {number : ℤ} → word.form ≡ f.Int number → Starting begins_pat (AtpatC (made (a.Pat (p.Int word.span.from number)) word.span.to ∷ [])) (word ∷ [])
unfolding begins_pat sort_of is_type_name is_mark atpat_take
c-atpat-int {word} {number} h = starting word [] (ap (λ z. begins_pat (sort_of z)) h) (plain (ap (λ z. is_type_name (sort_of z)) h) (ap (λ z. is_mark m.Op (sort_of z)) h) (λ st rest. stacked st (ap (λ z. atpat_take (sort_of z) word) h) (acts (stays rest st word.span.to))))

pub c-atpat-char : {word : Token} {byte : ℕ} → word.form ≡ f.Char byte → Starting begins_pat (AtpatC (made (a.Pat (p.Char word.span.from byte)) word.span.to ∷ [])) (word ∷ [])
unfolding begins_pat sort_of is_type_name is_mark atpat_take
c-atpat-char {word} {byte} h = starting word [] (ap (λ z. begins_pat (sort_of z)) h) (plain (ap (λ z. is_type_name (sort_of z)) h) (ap (λ z. is_mark m.Op (sort_of z)) h) (λ st rest. stacked st (ap (λ z. atpat_take (sort_of z) word) h) (acts (stays rest st word.span.to))))

pub c-atpat-str : {word : Token} {text : List ℕ} → word.form ≡ f.Str text → Starting begins_pat (AtpatC (made (a.Pat (p.Str word.span.from text)) word.span.to ∷ [])) (word ∷ [])
unfolding begins_pat sort_of is_type_name is_mark atpat_take text_of
c-atpat-str {word} {text} h = starting word [] (ap (λ z. begins_pat (sort_of z)) h) (plain (ap (λ z. is_type_name (sort_of z)) h) (ap (λ z. is_mark m.Op (sort_of z)) h) (λ st rest. stacked st (ap (λ z. atpat_take (sort_of z) word) h ∙ ap (λ z. s.Do (a.Pat (p.Str word.span.from (text_of z))) ∷ []) h) (acts (stays rest st word.span.to))))

-- brackets
open-take : (t : Token) → atpat_take (o.Mark m.Open) t ≡ s.PatItems (pi.Opened t.span.from) ∷ []
unfolding atpat_take pat_mark_take same_mark mark_number
open-take t = refl

bracket-take : (t : Token) → atpat_take (o.Mark m.OpenBracket) t ≡ s.PatItems (pi.OpenedList t.span.from) ∷ []
unfolding atpat_take pat_mark_take same_mark mark_number
bracket-take t = refl

opened-close : (from : ℕ) (t : Token) → move_at (s.PatItems (pi.Opened from)) (o.Mark m.Close) t ≡ Takes (s.Do (a.Pat (p.Unit from)) ∷ [])
unfolding move_at is_mark same_mark mark_number
opened-close from t = refl

list-close : (from : ℕ) (t : Token) → move_at (s.PatItems (pi.OpenedList from)) (o.Mark m.CloseBracket) t ≡ Takes (s.Do (a.Pat p.NoPats) ∷ s.Do (a.Pat (p.List from)) ∷ [])
unfolding move_at is_mark same_mark mark_number
list-close from t = refl

-- no token that begins a pattern is a closing bracket
not-closing : (mark : Mark) → pattern_mark mark ≡ true → (same_mark mark m.Close ≡ false) × (same_mark mark m.CloseBracket ≡ false)
unfolding pattern_mark same_mark mark_number
not-closing m.Close h = cc
not-closing m.CloseBracket h = cc
not-closing m.Wildcard h = (refl, refl)
not-closing m.Op h = (refl, refl)
not-closing m.Open h = (refl, refl)
not-closing m.OpenBracket h = (refl, refl)
not-closing _ h = (refl, refl)

begins-no-close : (sort : TokenSort) → begins_pat sort ≡ true → (is_mark m.Close sort ≡ false) × (is_mark m.CloseBracket sort ≡ false)
unfolding begins_pat is_mark
begins-no-close (o.Mark mark) h = not-closing mark h
begins-no-close _ h = (refl, refl)

opened-takes : (from : ℕ) (sort : TokenSort) (t : Token) → begins_pat sort ≡ true → move_at (s.PatItems (pi.Opened from)) sort t ≡ Takes (pat_take sort t ++ (s.PatItems (pi.AfterFirst from) ∷ []))
unfolding move_at
opened-takes from sort t h = let e = (begins-no-close sort h).0 in rw (e, h) refl

list-takes : (from : ℕ) (sort : TokenSort) (t : Token) → begins_pat sort ≡ true → move_at (s.PatItems (pi.OpenedList from)) sort t ≡ Takes (s.Do (a.Pat p.NoPats) ∷ (pat_take sort t ++ (s.Do (a.Pat p.Push) ∷ s.PatItems (pi.List from) ∷ [])))
unfolding move_at
list-takes from sort t h = let e = (begins-no-close sort h).1 in rw (e, h) refl

first-close : (from : ℕ) (t : Token) → move_at (s.PatItems (pi.AfterFirst from)) (o.Mark m.Close) t ≡ Takes []
unfolding move_at is_mark same_mark mark_number
first-close from t = refl

first-comma : (from : ℕ) (t : Token) → move_at (s.PatItems (pi.AfterFirst from)) (o.Mark m.Comma) t ≡ Takes (s.Do (a.Pat p.First) ∷ s.Pat pp.Whole ∷ s.Do (a.Pat p.Push) ∷ s.PatItems (pi.Tuple from) ∷ [])
unfolding move_at is_mark same_mark mark_number
first-comma from t = refl

tuple-goes : (from : ℕ) → PatsGo (s.PatItems (pi.Tuple from))
unfolding move_at is_mark same_mark mark_number
tuple-goes from t = refl

list-goes : (from : ℕ) → PatsGo (s.PatItems (pi.List from))
unfolding move_at is_mark same_mark mark_number
list-goes from t = refl

tuple-closes : (from : ℕ) (t : Token) → move_at (s.PatItems (pi.Tuple from)) (o.Mark m.Close) t ≡ Takes (s.Do (a.Pat (p.Tuple from)) ∷ [])
unfolding move_at is_mark same_mark mark_number
tuple-closes from t = refl

list-closes : (from : ℕ) (t : Token) → move_at (s.PatItems (pi.List from)) (o.Mark m.CloseBracket) t ≡ Takes (s.Do (a.Pat (p.List from)) ∷ [])
unfolding move_at is_mark same_mark mark_number
list-closes from t = refl

open-begins : begins_pat (o.Mark m.Open) ≡ true
unfolding begins_pat pattern_mark same_mark mark_number
open-begins = refl

bracket-begins : begins_pat (o.Mark m.OpenBracket) ≡ true
unfolding begins_pat pattern_mark same_mark mark_number
bracket-begins = refl

open-no-op : same_mark m.Open m.Op ≡ false
unfolding same_mark mark_number
open-no-op = refl

bracket-no-op : same_mark m.OpenBracket m.Op ≡ false
unfolding same_mark mark_number
bracket-no-op = refl

pub c-atpat-unit : {opening closing : Token} → IsMark (codes "(") opening → IsMark (codes ")") closing → Starting begins_pat (AtpatC (made (a.Pat (p.Unit opening.span.from)) closing.span.to ∷ [])) (opening ∷ closing ∷ [])
c-atpat-unit {opening} {closing} h i = starting opening (closing ∷ []) (ap begins_pat (Words.is-open h) ∙ open-begins) (as-mark (Words.is-open h) open-no-op (λ st rest.
    stacked st (open-take opening)
    (takes-as (Words.is-close i) (opened-close opening.span.from closing)
    (acts (stays rest st closing.span.to)))))

pub c-atpat-no-list : {opening closing : Token} → IsMark (codes "[") opening → IsMark (codes "]") closing →
    Starting begins_pat (AtpatC (made (a.Pat p.NoPats) closing.span.to ∷ made (a.Pat (p.List opening.span.from)) closing.span.to ∷ [])) (opening ∷ closing ∷ [])
c-atpat-no-list {opening} {closing} h i = starting opening (closing ∷ []) (ap begins_pat (Words.is-open-bracket h) ∙ bracket-begins) (as-mark (Words.is-open-bracket h) bracket-no-op (λ st rest.
    stacked st (bracket-take opening)
    (takes-as (Words.is-close-bracket i) (list-close opening.span.from closing)
    (acts (acts (stays rest st closing.span.to))))))

pub c-atpat-paren : {n : List Made} {ts : List Token} {opening closing : Token} → IsMark (codes "(") opening → Starting begins_pat (PatC n) ts → IsMark (codes ")") closing →
    Starting begins_pat (AtpatC n) (opening ∷ ts ++ closing ∷ [])
c-atpat-paren {n} {opening = opening} {closing = closing} h (starting x us k q) i = starting opening ((x ∷ us) ++ closing ∷ []) (ap begins_pat (Words.is-open h) ∙ open-begins) (as-mark (Words.is-open h) open-no-op (λ st rest.
    ends-at (sym (after-both opening.span.to (x ∷ us) (closing ∷ [])))
    (grouped (x ∷ us) (closing ∷ []) rest
    (stacked st (open-take opening)
    (takes (opened-takes opening.span.from _ x k)
    (pushed (pat_take (sort_of x.form) x) (s.PatItems (pi.AfterFirst opening.span.from) ∷ []) st
    (lastly (q.comes (s.PatItems (pi.AfterFirst opening.span.from) ∷ st) (closing ∷ rest) (close-ends i))
    (takes-as (Words.is-close i) (first-close opening.span.from closing)
    (stays rest st closing.span.to)))))))))

pub c-pats-one : {n : List Made} {ts : List Token} → Starting begins_pat (PatC n) ts → Starting begins_pat (PatsC (n ++ made (a.Pat p.Push) (last_of ts) ∷ [])) ts
c-pats-one {n} (starting x us k q) = starting x us k (record {
  comes = λ z go st rest e.
      then (q.comes (s.Do (a.Pat p.Push) ∷ z ∷ st) rest e)
      (acts (stays rest (z ∷ st) (last_after x.span.to us)));
})

pub c-pats-more : {n m : List Made} {ts us : List Token} {comma : Token} → Starting begins_pat (PatC n) ts → IsMark (codes ",") comma → Starting begins_pat (PatsC m) us →
    Starting begins_pat (PatsC (n ++ made (a.Pat p.Push) (last_of ts) ∷ m)) (ts ++ comma ∷ us)
c-pats-more {n} {m} {comma = comma} (starting x ts k q) h (starting u us l r) = starting x (ts ++ comma ∷ u ∷ us) k (record {
  comes = λ z go st rest e.
      ends-at (sym (after-both x.span.to ts (comma ∷ u ∷ us)))
      (grouped ts (comma ∷ u ∷ us) rest
      (then (q.comes (s.Do (a.Pat p.Push) ∷ z ∷ st) (comma ∷ u ∷ us ++ rest) (comma-ends h))
      (acts
      (takes-as (Words.is-comma h) (go comma)
      (takes (whole-takes _ u l)
      (r.comes z go st rest e))))));
})

pub c-atpat-tuple : {n m : List Made} {ts us : List Token} {opening comma closing : Token} →
    IsMark (codes "(") opening → Starting begins_pat (PatC n) ts → IsMark (codes ",") comma → Starting begins_pat (PatsC m) us → IsMark (codes ")") closing →
    Starting begins_pat (AtpatC (n ++ (made (a.Pat p.First) comma.span.to ∷ (m ++ (made (a.Pat (p.Tuple opening.span.from)) closing.span.to ∷ []))))) (opening ∷ (ts ++ comma ∷ us) ++ closing ∷ [])
c-atpat-tuple {n} {m} {opening = opening} {comma = comma} {closing = closing} h (starting x ts k q) i (starting u us l r) j =
    starting opening (((x ∷ ts) ++ comma ∷ u ∷ us) ++ closing ∷ []) (ap begins_pat (Words.is-open h) ∙ open-begins) (as-mark (Words.is-open h) open-no-op (λ st rest.
    ends-at (sym (after-both opening.span.to ((x ∷ ts) ++ comma ∷ u ∷ us) (closing ∷ [])))
    (grouped ((x ∷ ts) ++ comma ∷ u ∷ us) (closing ∷ []) rest
    (grouped (x ∷ ts) (comma ∷ u ∷ us) (closing ∷ rest)
    (stacked st (open-take opening)
    (takes (opened-takes opening.span.from _ x k)
    (pushed (pat_take (sort_of x.form) x) (s.PatItems (pi.AfterFirst opening.span.from) ∷ []) st
    (then (q.comes (s.PatItems (pi.AfterFirst opening.span.from) ∷ st) (comma ∷ u ∷ us ++ closing ∷ rest) (comma-ends i))
    (takes-as (Words.is-comma i) (first-comma opening.span.from comma)
    (acts
    (takes (whole-takes _ u l)
    (then (r.comes (s.PatItems (pi.Tuple opening.span.from)) (tuple-goes opening.span.from) st (closing ∷ rest) (close-ends j))
    (takes-as (Words.is-close j) (tuple-closes opening.span.from closing)
    (acts (stays rest st closing.span.to)))))))))))))))

pub c-atpat-list : {n : List Made} {ts : List Token} {opening closing : Token} → IsMark (codes "[") opening → Starting begins_pat (PatsC n) ts → IsMark (codes "]") closing →
    Starting begins_pat (AtpatC (made (a.Pat p.NoPats) (first_to ts) ∷ (n ++ (made (a.Pat (p.List opening.span.from)) closing.span.to ∷ [])))) (opening ∷ ts ++ closing ∷ [])
c-atpat-list {n} {opening = opening} {closing = closing} h (starting x us k q) i = starting opening ((x ∷ us) ++ closing ∷ []) (ap begins_pat (Words.is-open-bracket h) ∙ bracket-begins) (as-mark (Words.is-open-bracket h) bracket-no-op (λ st rest.
    ends-at (sym (after-both opening.span.to (x ∷ us) (closing ∷ [])))
    (grouped (x ∷ us) (closing ∷ []) rest
    (stacked st (bracket-take opening)
    (takes (list-takes opening.span.from _ x k)
    (acts
    (pushed (pat_take (sort_of x.form) x) (s.Do (a.Pat p.Push) ∷ s.PatItems (pi.List opening.span.from) ∷ []) st
    (then (q.comes (s.PatItems (pi.List opening.span.from)) (list-goes opening.span.from) st (closing ∷ rest) (bracket-ends i))
    (takes-as (Words.is-close-bracket i) (list-closes opening.span.from closing)
    (acts (stays rest st closing.span.to)))))))))))

pub c-apat-one : {n : List Made} {ts : List Token} → Starting begins_pat (AtpatC n) ts → Starting begins_pat (ApatC n) ts
c-apat-one (starting x us k q) = starting x us k (record { comes = q.alone })

pub c-apat-con : {place : ℕ} {n m : List Made} {ts us : List Token} → Starting begins_pat (HeadC place n) ts → Starting begins_pat (AtpatC m) us →
    Starting begins_pat (ApatC (n ++ (m ++ (made (a.Pat (p.Con place)) (last_of us) ∷ [])))) (ts ++ us)
c-apat-con {place} {n} {m} (starting x ts k q) (starting u us l r) = starting x (ts ++ u ∷ us) k (record {
  comes = λ st rest e.
      ends-at (sym (after-both x.span.to ts (u ∷ us)))
      (grouped ts (u ∷ us) rest
      (then (q.applied st (u ∷ us ++ rest))
      (takes (argument-takes place _ u l)
      (pushed (atpat_take (sort_of u.form) u) (s.Do (a.Pat (p.Con place)) ∷ []) st
      (then (r.comes (s.Do (a.Pat (p.Con place)) ∷ st) rest)
      (acts (stays rest st (last_after u.span.to us))))))));
})

pub c-cpat-one : {n : List Made} {ts : List Token} → Starting begins_pat (ApatC n) ts → Starting begins_pat (CpatC n) ts
c-cpat-one (starting x us k q) = starting x us k (record {
  comes = λ st rest e.
      lastly (q.comes (s.Pat (pp.ConsRest x.span.from) ∷ st) rest e.apat)
      (skips (e.cons x.span.from) (stays rest st (last_after x.span.to us)));
})

cons-takes : (from : ℕ) (t : Token) → move_at (s.Pat (pp.ConsRest from)) o.Cons t ≡ Takes (s.Pat pp.ConsPart ∷ s.Do (a.Pat (p.Cons from)) ∷ [])
unfolding move_at is_cons
cons-takes from t = refl

pub c-cpat-cons : {n m : List Made} {ts us : List Token} {word : Token} → Starting begins_pat (ApatC n) ts → IsAnyName (codes "::") word → Starting begins_pat (CpatC m) us →
    Starting begins_pat (CpatC (n ++ (m ++ (made (a.Pat (p.Cons (first_of (ts ++ word ∷ us)))) (last_of (ts ++ word ∷ us)) ∷ [])))) (ts ++ word ∷ us)
c-cpat-cons {n} {m} {word = word} (starting x ts k q) h (starting u us l r) = starting x (ts ++ word ∷ u ∷ us) k (record {
  comes = λ st rest e.
      ends-at (sym (after-both x.span.to ts (word ∷ u ∷ us)))
      (grouped ts (word ∷ u ∷ us) rest
      (then (q.comes (s.Pat (pp.ConsRest x.span.from) ∷ st) (word ∷ u ∷ us ++ rest) (cons-ends h))
      (takes-as (Words.is-cons h) (cons-takes x.span.from word)
      (takes (part-takes _ u l)
      (pushed (apat_take (sort_of u.form) u) (s.Pat (pp.ConsRest u.span.from) ∷ []) (s.Do (a.Pat (p.Cons x.span.from)) ∷ st)
      (then (r.comes (s.Do (a.Pat (p.Cons x.span.from)) ∷ st) rest e)
      (acts-at (sym (after-both x.span.to ts (word ∷ u ∷ us)))
      (stays rest st (last_after u.span.to us)))))))));
})

whole-take : (sort : TokenSort) (t : Token) → pat_take sort t ≡ apat_take sort t ++ (s.Pat (pp.ConsRest t.span.from) ∷ s.Pat (pp.TypedRest t.span.from) ∷ [])
unfolding pat_take
whole-take sort t = refl

pub c-pat-one : {n : List Made} {ts : List Token} → Starting begins_pat (CpatC n) ts → Starting begins_pat (PatC n) ts
c-pat-one (starting x us k q) = starting x us k (record {
  comes = λ st rest e.
      stacked st (whole-take (sort_of x.form) x)
      (pushed (apat_take (sort_of x.form) x) (s.Pat (pp.ConsRest x.span.from) ∷ s.Pat (pp.TypedRest x.span.from) ∷ []) st
      (lastly (q.comes (s.Pat (pp.TypedRest x.span.from) ∷ st) rest e.cpat)
      (skips (e.typed x.span.from) (stays rest st (last_after x.span.to us)))));
})

typed-takes : (from : ℕ) (t : Token) → move_at (s.Pat (pp.TypedRest from)) (o.Mark m.Colon) t ≡ Takes (s.Ty (tp.Whole false) ∷ s.Do (a.Pat (p.Typed from)) ∷ [])
unfolding move_at is_mark same_mark mark_number
typed-takes from t = refl

pub c-pat-typed : {n m : List Made} {ts us : List Token} {word : Token} → Starting begins_pat (CpatC n) ts → IsMark (codes ":") word → Starting begins_ty (TyC false m) us →
    Starting begins_pat (PatC (n ++ (m ++ (made (a.Pat (p.Typed (first_of (ts ++ word ∷ us)))) (last_of (ts ++ word ∷ us)) ∷ [])))) (ts ++ word ∷ us)
c-pat-typed {n} {m} {word = word} (starting x ts k q) h (starting u us l r) = starting x (ts ++ word ∷ u ∷ us) k (record {
  comes = λ st rest e.
      ends-at (sym (after-both x.span.to ts (word ∷ u ∷ us)))
      (grouped ts (word ∷ u ∷ us) rest
      (stacked st (whole-take (sort_of x.form) x)
      (pushed (apat_take (sort_of x.form) x) (s.Pat (pp.ConsRest x.span.from) ∷ s.Pat (pp.TypedRest x.span.from) ∷ []) st
      (then (q.comes (s.Pat (pp.TypedRest x.span.from) ∷ st) (word ∷ u ∷ us ++ rest) (colon-ends h))
      (takes-as (Words.is-colon h) (typed-takes x.span.from word)
      (then (r.comes (s.Do (a.Pat (p.Typed x.span.from)) ∷ st) rest word.span.to e.type_)
      (acts-at (sym (after-both x.span.to ts (word ∷ u ∷ us)))
      (stays rest st (last_after u.span.to us)))))))));
})
