-- What the machine sees of the words of the grammar.
use Rattle.std.proofs.Common.{◌≡◌, ℕ, List, Bool, true, false, Option, Some, None, refl, ap, sym, subst, ◌∙◌, codes}
use Rattle.std.specs.Str.{bytes_eq}
use Rattle.std.proofs.lemmas.Slice.Eq.{bytes_eq-Decides}
use Rattle.sml_syntax.specs.declared.token.Token.{Token}
use Rattle.grammar_rules.specs.InfixNames.{infix_level, symbol_level}
use Rattle.grammar_rules.specs.Grammar.{IsMark, IsName, IsAnyName, IsLongName, IsInfixName, IsInfix, by_name, by_equals, IsTypeName, short, long, IsTyVar}
use Rattle.sml_grammar.specs.declared.mark.Mark.{Mark}
use Rattle.sml_grammar.specs.declared.mark.Mark.TheVariants as m
use Rattle.sml_grammar.specs.declared.token_sort.TokenSort.{TokenSort}
use Rattle.sml_grammar.specs.declared.token_sort.TokenSort.TheVariants as o
use Rattle.sml_grammar.specs.Marks.{mark_of, early_word, late_word, symbol_mark}
use Rattle.sml_grammar.specs.Sorts.{sort_of, mark_sort, found_sort, name_sort, infix_sort}
use Rattle.sml_grammar.specs.Tokens.{text_of}

-- a mark by its spelling
abbrev pub Spelled : List ℕ → Mark → Type 0
Spelled spelling mark = mark_of spelling ≡ Some mark

pub mark-sort : {spelling : List ℕ} {mark : Mark} {word : Token} → Spelled spelling mark → IsMark spelling word → sort_of word.form ≡ o.Mark mark
unfolding sort_of mark_sort
mark-sort e h = ap sort_of h.is ∙ ap found_sort e

and-spelled : Spelled (codes "and") m.And
unfolding mark_of early_word late_word symbol_mark
and-spelled = refl

pub is-and : {word : Token} → IsMark (codes "and") word → sort_of word.form ≡ o.Mark m.And
is-and h = mark-sort and-spelled h

and-also-spelled : Spelled (codes "andalso") m.AndAlso
unfolding mark_of early_word late_word symbol_mark
and-also-spelled = refl

pub is-and-also : {word : Token} → IsMark (codes "andalso") word → sort_of word.form ≡ o.Mark m.AndAlso
is-and-also h = mark-sort and-also-spelled h

case-spelled : Spelled (codes "case") m.Case
unfolding mark_of early_word late_word symbol_mark
case-spelled = refl

pub is-case : {word : Token} → IsMark (codes "case") word → sort_of word.form ≡ o.Mark m.Case
is-case h = mark-sort case-spelled h

datatype-spelled : Spelled (codes "datatype") m.Datatype
unfolding mark_of early_word late_word symbol_mark
datatype-spelled = refl

pub is-datatype : {word : Token} → IsMark (codes "datatype") word → sort_of word.form ≡ o.Mark m.Datatype
is-datatype h = mark-sort datatype-spelled h

else-spelled : Spelled (codes "else") m.Else
unfolding mark_of early_word late_word symbol_mark
else-spelled = refl

pub is-else : {word : Token} → IsMark (codes "else") word → sort_of word.form ≡ o.Mark m.Else
is-else h = mark-sort else-spelled h

end-spelled : Spelled (codes "end") m.End
unfolding mark_of early_word late_word symbol_mark
end-spelled = refl

pub is-end : {word : Token} → IsMark (codes "end") word → sort_of word.form ≡ o.Mark m.End
is-end h = mark-sort end-spelled h

exception-spelled : Spelled (codes "exception") m.Exception
unfolding mark_of early_word late_word symbol_mark
exception-spelled = refl

pub is-exception : {word : Token} → IsMark (codes "exception") word → sort_of word.form ≡ o.Mark m.Exception
is-exception h = mark-sort exception-spelled h

fn-spelled : Spelled (codes "fn") m.Fn
unfolding mark_of early_word late_word symbol_mark
fn-spelled = refl

pub is-fn : {word : Token} → IsMark (codes "fn") word → sort_of word.form ≡ o.Mark m.Fn
is-fn h = mark-sort fn-spelled h

fun-spelled : Spelled (codes "fun") m.Fun
unfolding mark_of early_word late_word symbol_mark
fun-spelled = refl

pub is-fun : {word : Token} → IsMark (codes "fun") word → sort_of word.form ≡ o.Mark m.Fun
is-fun h = mark-sort fun-spelled h

handle-spelled : Spelled (codes "handle") m.Handle
unfolding mark_of early_word late_word symbol_mark
handle-spelled = refl

pub is-handle : {word : Token} → IsMark (codes "handle") word → sort_of word.form ≡ o.Mark m.Handle
is-handle h = mark-sort handle-spelled h

if-spelled : Spelled (codes "if") m.If
unfolding mark_of early_word late_word symbol_mark
if-spelled = refl

pub is-if : {word : Token} → IsMark (codes "if") word → sort_of word.form ≡ o.Mark m.If
is-if h = mark-sort if-spelled h

in-spelled : Spelled (codes "in") m.In
unfolding mark_of early_word late_word symbol_mark
in-spelled = refl

pub is-in : {word : Token} → IsMark (codes "in") word → sort_of word.form ≡ o.Mark m.In
is-in h = mark-sort in-spelled h

let-spelled : Spelled (codes "let") m.Let
unfolding mark_of early_word late_word symbol_mark
let-spelled = refl

pub is-let : {word : Token} → IsMark (codes "let") word → sort_of word.form ≡ o.Mark m.Let
is-let h = mark-sort let-spelled h

local-spelled : Spelled (codes "local") m.Local
unfolding mark_of early_word late_word symbol_mark
local-spelled = refl

pub is-local : {word : Token} → IsMark (codes "local") word → sort_of word.form ≡ o.Mark m.Local
is-local h = mark-sort local-spelled h

of-spelled : Spelled (codes "of") m.Of
unfolding mark_of early_word late_word symbol_mark
of-spelled = refl

pub is-of : {word : Token} → IsMark (codes "of") word → sort_of word.form ≡ o.Mark m.Of
is-of h = mark-sort of-spelled h

op-spelled : Spelled (codes "op") m.Op
unfolding mark_of early_word late_word symbol_mark
op-spelled = refl

pub is-op : {word : Token} → IsMark (codes "op") word → sort_of word.form ≡ o.Mark m.Op
is-op h = mark-sort op-spelled h

or-else-spelled : Spelled (codes "orelse") m.OrElse
unfolding mark_of early_word late_word symbol_mark
or-else-spelled = refl

pub is-or-else : {word : Token} → IsMark (codes "orelse") word → sort_of word.form ≡ o.Mark m.OrElse
is-or-else h = mark-sort or-else-spelled h

raise-spelled : Spelled (codes "raise") m.Raise
unfolding mark_of early_word late_word symbol_mark
raise-spelled = refl

pub is-raise : {word : Token} → IsMark (codes "raise") word → sort_of word.form ≡ o.Mark m.Raise
is-raise h = mark-sort raise-spelled h

rec-spelled : Spelled (codes "rec") m.Rec
unfolding mark_of early_word late_word symbol_mark
rec-spelled = refl

pub is-rec : {word : Token} → IsMark (codes "rec") word → sort_of word.form ≡ o.Mark m.Rec
is-rec h = mark-sort rec-spelled h

then-spelled : Spelled (codes "then") m.Then
unfolding mark_of early_word late_word symbol_mark
then-spelled = refl

pub is-then : {word : Token} → IsMark (codes "then") word → sort_of word.form ≡ o.Mark m.Then
is-then h = mark-sort then-spelled h

type-word-spelled : Spelled (codes "type") m.TypeWord
unfolding mark_of early_word late_word symbol_mark
type-word-spelled = refl

pub is-type-word : {word : Token} → IsMark (codes "type") word → sort_of word.form ≡ o.Mark m.TypeWord
is-type-word h = mark-sort type-word-spelled h

val-spelled : Spelled (codes "val") m.Val
unfolding mark_of early_word late_word symbol_mark
val-spelled = refl

pub is-val : {word : Token} → IsMark (codes "val") word → sort_of word.form ≡ o.Mark m.Val
is-val h = mark-sort val-spelled h

colon-spelled : Spelled (codes ":") m.Colon
unfolding mark_of early_word late_word symbol_mark
colon-spelled = refl

pub is-colon : {word : Token} → IsMark (codes ":") word → sort_of word.form ≡ o.Mark m.Colon
is-colon h = mark-sort colon-spelled h

bar-spelled : Spelled (codes "|") m.Bar
unfolding mark_of early_word late_word symbol_mark
bar-spelled = refl

pub is-bar : {word : Token} → IsMark (codes "|") word → sort_of word.form ≡ o.Mark m.Bar
is-bar h = mark-sort bar-spelled h

equal-spelled : Spelled (codes "=") m.Equal
unfolding mark_of early_word late_word symbol_mark
equal-spelled = refl

pub is-equal : {word : Token} → IsMark (codes "=") word → sort_of word.form ≡ o.Mark m.Equal
is-equal h = mark-sort equal-spelled h

double-arrow-spelled : Spelled (codes "=>") m.DoubleArrow
unfolding mark_of early_word late_word symbol_mark
double-arrow-spelled = refl

pub is-double-arrow : {word : Token} → IsMark (codes "=>") word → sort_of word.form ≡ o.Mark m.DoubleArrow
is-double-arrow h = mark-sort double-arrow-spelled h

arrow-spelled : Spelled (codes "->") m.Arrow
unfolding mark_of early_word late_word symbol_mark
arrow-spelled = refl

pub is-arrow : {word : Token} → IsMark (codes "->") word → sort_of word.form ≡ o.Mark m.Arrow
is-arrow h = mark-sort arrow-spelled h

open-spelled : Spelled (codes "(") m.Open
unfolding mark_of early_word late_word symbol_mark
open-spelled = refl

pub is-open : {word : Token} → IsMark (codes "(") word → sort_of word.form ≡ o.Mark m.Open
is-open h = mark-sort open-spelled h

close-spelled : Spelled (codes ")") m.Close
unfolding mark_of early_word late_word symbol_mark
close-spelled = refl

pub is-close : {word : Token} → IsMark (codes ")") word → sort_of word.form ≡ o.Mark m.Close
is-close h = mark-sort close-spelled h

open-bracket-spelled : Spelled (codes "[") m.OpenBracket
unfolding mark_of early_word late_word symbol_mark
open-bracket-spelled = refl

pub is-open-bracket : {word : Token} → IsMark (codes "[") word → sort_of word.form ≡ o.Mark m.OpenBracket
is-open-bracket h = mark-sort open-bracket-spelled h

close-bracket-spelled : Spelled (codes "]") m.CloseBracket
unfolding mark_of early_word late_word symbol_mark
close-bracket-spelled = refl

pub is-close-bracket : {word : Token} → IsMark (codes "]") word → sort_of word.form ≡ o.Mark m.CloseBracket
is-close-bracket h = mark-sort close-bracket-spelled h

comma-spelled : Spelled (codes ",") m.Comma
unfolding mark_of early_word late_word symbol_mark
comma-spelled = refl

pub is-comma : {word : Token} → IsMark (codes ",") word → sort_of word.form ≡ o.Mark m.Comma
is-comma h = mark-sort comma-spelled h

semicolon-spelled : Spelled (codes ";") m.Semicolon
unfolding mark_of early_word late_word symbol_mark
semicolon-spelled = refl

pub is-semicolon : {word : Token} → IsMark (codes ";") word → sort_of word.form ≡ o.Mark m.Semicolon
is-semicolon h = mark-sort semicolon-spelled h

wildcard-spelled : Spelled (codes "_") m.Wildcard
unfolding mark_of early_word late_word symbol_mark
wildcard-spelled = refl

pub is-wildcard : {word : Token} → IsMark (codes "_") word → sort_of word.form ≡ o.Mark m.Wildcard
is-wildcard h = mark-sort wildcard-spelled h

-- names: the two that have sorts of their own, and any other
pub data Sorted (name : List ℕ) : Type 0 where
  is_star : name ≡ codes "*" → Sorted name
  is_cons : name ≡ codes "::" → Sorted name
  is_other : name_sort name ≡ infix_sort (infix_level name) → Sorted name

pub sorted : (name : List ℕ) → Sorted name
unfolding name_sort
sorted name = go (bytes_eq name (codes "*")) (bytes_eq name (codes "::")) refl refl
  where
    go : (a b : Bool) → bytes_eq name (codes "*") ≡ a → bytes_eq name (codes "::") ≡ b → Sorted name
    go true b e k = is_star ((bytes_eq-Decides name (codes "*")).0 e)
    go false true e k = is_cons ((bytes_eq-Decides name (codes "::")).0 k)
    go false false e k = is_other (rw (e, k) refl)

star-level : infix_level (codes "*") ≡ Some 7
unfolding infix_level symbol_level
star-level = refl

cons-level : infix_level (codes "::") ≡ Some 5
unfolding infix_level symbol_level
cons-level = refl

star-sort : name_sort (codes "*") ≡ o.Star
unfolding name_sort
star-sort = refl

cons-sort : name_sort (codes "::") ≡ o.Cons
unfolding name_sort
cons-sort = refl

none-some : {level : ℕ} → Some level ≡ None → ⊥
none-some h = cc

some-some : {a b : ℕ} → Some a ≡ Some b → a ≡ b
some-some h = cc

name-none : (name : List ℕ) → infix_level name ≡ None → name_sort name ≡ o.Name
name-none name h = elim (sorted name) [
  | is_star e ↦ absurd (none-some (sym star-level ∙ sym (ap infix_level e) ∙ h))
  | is_cons e ↦ absurd (none-some (sym cons-level ∙ sym (ap infix_level e) ∙ h))
  | is_other e ↦ e ∙ ap infix_sort h
]

-- the sort of an infix name of a level
pub data InfixSort (level : ℕ) : TokenSort → Type 0 where
  at_star : level ≡ 7 → InfixSort level o.Star
  at_cons : level ≡ 5 → InfixSort level o.Cons
  at_infix : InfixSort level (o.Infix level)
  at_equal : level ≡ 4 → InfixSort level (o.Mark m.Equal)

name-infix : (name : List ℕ) (level : ℕ) → infix_level name ≡ Some level → InfixSort level (name_sort name)
name-infix name level h = elim (sorted name) [
  | is_star e ↦ subst (InfixSort level) (sym (ap name_sort e ∙ star-sort)) (at_star (some-some (sym h ∙ ap infix_level e ∙ star-level)))
  | is_cons e ↦ subst (InfixSort level) (sym (ap name_sort e ∙ cons-sort)) (at_cons (some-some (sym h ∙ ap infix_level e ∙ cons-level)))
  | is_other e ↦ subst (InfixSort level) (sym (e ∙ ap infix_sort h)) at_infix
]

pub is-name : {name : List ℕ} {word : Token} → IsName name word → sort_of word.form ≡ o.Name
unfolding sort_of
is-name {name} h = ap sort_of h.is ∙ name-none name h.plain

pub is-long : {name : List ℕ} {word : Token} → IsLongName name word → sort_of word.form ≡ o.Long
unfolding sort_of
is-long h = ap sort_of h.is

pub is-ty-var : {name : List ℕ} {word : Token} → IsTyVar name word → sort_of word.form ≡ o.TyVar
unfolding sort_of
is-ty-var h = ap sort_of h.is

pub is-star : {word : Token} → IsAnyName (codes "*") word → sort_of word.form ≡ o.Star
unfolding sort_of
is-star h = ap sort_of h.is ∙ star-sort

pub is-cons : {word : Token} → IsAnyName (codes "::") word → sort_of word.form ≡ o.Cons
unfolding sort_of
is-cons h = ap sort_of h.is ∙ cons-sort

-- a name that types may have
pub data TypeSort : TokenSort → Type 0 where
  at_name : TypeSort o.Name
  at_long : TypeSort o.Long

pub type-sort : {name : List ℕ} {word : Token} → IsTypeName name word → TypeSort (sort_of word.form)
type-sort (short name word h) = subst TypeSort (sym (is-name h)) at_name
type-sort (long name word h) = subst TypeSort (sym (is-long h)) at_long

-- the text of names
pub name-text : {name : List ℕ} {word : Token} → IsName name word → text_of word.form ≡ name
unfolding text_of
name-text h = ap text_of h.is

pub any-text : {name : List ℕ} {word : Token} → IsAnyName name word → text_of word.form ≡ name
unfolding text_of
any-text h = ap text_of h.is

pub long-text : {name : List ℕ} {word : Token} → IsLongName name word → text_of word.form ≡ name
unfolding text_of
long-text h = ap text_of h.is

pub var-text : {name : List ℕ} {word : Token} → IsTyVar name word → text_of word.form ≡ name
unfolding text_of
var-text h = ap text_of h.is

pub type-text : {name : List ℕ} {word : Token} → IsTypeName name word → text_of word.form ≡ name
type-text (short name word h) = name-text h
type-text (long name word h) = long-text h

pub infix-text : {level : ℕ} {name : List ℕ} {word : Token} → IsInfix level name word → text_of word.form ≡ name
unfolding text_of
infix-text (by_name level name word h) = ap text_of h.is
infix-text (by_equals word h) = ap text_of h.is

pub infix-name-sort : {level : ℕ} {name : List ℕ} {word : Token} → IsInfixName level name word → InfixSort level (sort_of word.form)
unfolding sort_of
infix-name-sort {level} {name} h = subst (InfixSort level) (sym (ap sort_of h.is)) (name-infix name level h.level_is)

pub infix-sort : {level : ℕ} {name : List ℕ} {word : Token} → IsInfix level name word → InfixSort level (sort_of word.form)
infix-sort (by_name level name word h) = infix-name-sort h
infix-sort (by_equals word h) = subst (InfixSort 4) (sym (is-equal h)) (at_equal refl)

-- any name
pub data AnySort : TokenSort → Type 0 where
  any_name : AnySort o.Name
  any_star : AnySort o.Star
  any_cons : AnySort o.Cons
  any_infix : (level : ℕ) → AnySort (o.Infix level)

name-any : (name : List ℕ) → AnySort (name_sort name)
name-any name = elim (sorted name) [
  | is_star e ↦ subst AnySort (sym (ap name_sort e ∙ star-sort)) any_star
  | is_cons e ↦ subst AnySort (sym (ap name_sort e ∙ cons-sort)) any_cons
  | is_other e ↦ subst AnySort (sym e) (go (infix_level name))
]
  where
    go : (l : Option ℕ) → AnySort (infix_sort l)
    go None = any_name
    go (Some level) = any_infix level

pub any-sort : {name : List ℕ} {word : Token} → IsAnyName name word → AnySort (sort_of word.form)
unfolding sort_of
any-sort {name} h = subst AnySort (sym (ap sort_of h.is)) (name-any name)
