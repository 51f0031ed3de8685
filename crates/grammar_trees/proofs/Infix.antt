-- Infix names and their levels.
use Rattle.std.proofs.Common.{◌≡◌, ℕ, suc, ◌<◌, List, Bool, true, false, refl, sym, subst, Option, Some, None, codes, cond, arith, add-one}
use Rattle.std.proofs.lemmas.Bool.{lt-ltb, eqb-true}
use Rattle.std.specs.Str.{bytes_eq}
use Rattle.sml_syntax.specs.declared.token.Token.{Token}
use Rattle.grammar_rules.specs.InfixNames.{infix_level, symbol_level, word_level, or_else, groups_right}
use Rattle.grammar_rules.specs.Grammar.{IsInfix, by_name, by_equals}
use Rattle.sml_grammar.specs.declared.token_sort.TokenSort.{TokenSort}
use Rattle.sml_grammar.specs.Marks.{same_mark, mark_number}
use Rattle.sml_grammar.specs.Sorts.{is_infix, level_of, begins_atom, atom_mark, equal_mark}
use Rattle.sml_grammar.specs.Tokens.{operand_level}
use Rattle.grammar_trees.proofs.Words.{InfixSort, at_star, at_cons, at_infix, at_equal}

pub infix-is : {level : ℕ} {sort : TokenSort} → InfixSort level sort → is_infix sort ≡ true
unfolding is_infix equal_mark same_mark mark_number
infix-is (at_star e) = refl
infix-is (at_cons e) = refl
infix-is at_infix = refl
infix-is (at_equal e) = refl

pub infix-level : {level : ℕ} {sort : TokenSort} → InfixSort level sort → level_of sort ≡ level
unfolding level_of
infix-level (at_star e) = sym e
infix-level (at_cons e) = sym e
infix-level at_infix = refl
infix-level (at_equal e) = sym e

pub infix-no-atom : {level : ℕ} {sort : TokenSort} → InfixSort level sort → begins_atom sort ≡ false
unfolding begins_atom atom_mark same_mark mark_number
infix-no-atom (at_star e) = refl
infix-no-atom (at_cons e) = refl
infix-no-atom at_infix = refl
infix-no-atom (at_equal e) = refl

-- each level is below 8
data Below : Option ℕ → Type 0 where
  none : Below None
  some : (level : ℕ) → level < 8 → Below (Some level)

below-cond : (b : Bool) (level : ℕ) (l : Option ℕ) → level < 8 → Below l → Below (cond b (Some level) l)
below-cond true level l h p = some level h
below-cond false level l h p = p

below-or : {a b : Option ℕ} → Below a → Below b → Below (or_else a b)
below-or none p = p
below-or (some level h) p = some level h

levels-below : (name : List ℕ) → Below (infix_level name)
unfolding infix_level symbol_level word_level
levels-below name = below-or
    (below-cond (bytes_eq name (codes "*")) 7 _ (omega arith) (below-cond (bytes_eq name (codes "+")) 6 _ (omega arith) (below-cond (bytes_eq name (codes "-")) 6 _ (omega arith) (below-cond (bytes_eq name (codes "^")) 6 _ (omega arith) (below-cond (bytes_eq name (codes "::")) 5 _ (omega arith) (below-cond (bytes_eq name (codes "@")) 5 _ (omega arith) (below-cond (bytes_eq name (codes "=")) 4 _ (omega arith) (below-cond (bytes_eq name (codes "<>")) 4 _ (omega arith) (below-cond (bytes_eq name (codes "<")) 4 _ (omega arith) (below-cond (bytes_eq name (codes "<=")) 4 _ (omega arith) (below-cond (bytes_eq name (codes ">")) 4 _ (omega arith) (below-cond (bytes_eq name (codes ">=")) 4 _ (omega arith) (below-cond (bytes_eq name (codes ":=")) 3 _ (omega arith) none)))))))))))))
    (below-cond (bytes_eq name (codes "div")) 7 _ (omega arith) (below-cond (bytes_eq name (codes "mod")) 7 _ (omega arith) (below-cond (bytes_eq name (codes "o")) 3 _ (omega arith) (below-cond (bytes_eq name (codes "before")) 0 _ (omega arith) none))))

some-below : {level : ℕ} {l : Option ℕ} → l ≡ Some level → Below l → level < 8
some-below e none = cc
some-below {level} e (some k h) = let f : k ≡ level = cc in subst (λ z. z < 8) f h

pub level-below : {level : ℕ} {name : List ℕ} {word : Token} → IsInfix level name word → level < 8
level-below (by_name level name word h) = some-below h.level_is (levels-below name)
level-below (by_equals word h) = omega arith

-- the level of the right operand
pub operand-left : (level : ℕ) → level < 8 → groups_right level ≡ false → operand_level level ≡ suc level
unfolding operand_level
operand-left level h g = let k = lt-ltb level 8 h in rw (g, k) (add-one level)

pub operand-right : (level : ℕ) → groups_right level ≡ true → operand_level level ≡ level
unfolding operand_level
operand-right level g = rw g (sym (eqb-true level 5 g))
