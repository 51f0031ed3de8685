-- The names of numbers and the functions of them, one more.
use Rattle.std.proofs.Common.{◌≡◌, ℕ, zero, suc, ◌+◌, ◌-◌, ◌<◌, ◌≤◌, List, [], ◌∷◌, ◌++◌, refl, ap, sym, ◌∙◌, arith}
use Rattle.std.specs.Fmt.{decimal}
use Rattle.sml_syntax.specs.declared.tree.Span.{Span}
use Rattle.sml_syntax.specs.declared.tree.Exp.{Exp}
use Rattle.sml_syntax.specs.declared.tree.ExpForm.TheVariants as e
use Rattle.grammar_rules.specs.Nodes.{exp_at, number_fn, numbers, nested}

abbrev name_exp : Span → ℕ → Exp
name_exp span number = exp_at span (e.Name (decimal number))

pub numbers_none : (span : Span) (first : ℕ) → numbers span first 0 ≡ []
unfolding numbers
numbers_none span first = refl

numbers_last : (span : Span) (first count : ℕ) → numbers span first (suc count) ≡ numbers span first count ++ name_exp span (first + count) ∷ []
unfolding numbers
numbers_last span first zero = ap (λ k. name_exp span k ∷ []) (plus_none first)
  where
    plus_none : (n : ℕ) → n ≡ n + 0
    plus_none n = omega arith
numbers_last span first (suc count) =
    ap (λ more. name_exp span first ∷ more) (numbers_last span (suc first) count ∙ ap (λ k. numbers span (suc first) count ++ name_exp span k ∷ []) (shift first count))
  where
    shift : (n m : ℕ) → suc n + m ≡ n + suc m
    shift n m = omega arith

pub numbers_next : (span : Span) (count : ℕ) → numbers span 1 (count + 1) ≡ numbers span 1 count ++ exp_at span (e.Name (decimal (count + 1))) ∷ []
numbers_next span count =
    ap (numbers span 1) (one_more count) ∙ numbers_last span 1 count ∙ ap (λ k. numbers span 1 count ++ name_exp span k ∷ []) (turned count)
  where
    one_more : (n : ℕ) → n + 1 ≡ suc n
    one_more n = omega arith

    turned : (n : ℕ) → 1 + n ≡ n + 1
    turned n = omega arith

nested_last : (span : Span) (first count : ℕ) (body : Exp) → nested span first (suc count) body ≡ nested span first count (number_fn span (first + count) body)
unfolding nested
nested_last span first zero body = ap (λ k. number_fn span k body) (plus_none first)
  where
    plus_none : (n : ℕ) → n ≡ n + 0
    plus_none n = omega arith
nested_last span first (suc count) body =
    ap (number_fn span first) (nested_last span (suc first) count body ∙ ap (λ k. nested span (suc first) count (number_fn span k body)) (shift first count))
  where
    shift : (n m : ℕ) → suc n + m ≡ n + suc m
    shift n m = omega arith

pub nested_none : (span : Span) (number : ℕ) (body : Exp) → number ≤ 1 → nested span 2 (number - 1) body ≡ body
unfolding nested
nested_none span number body h = ap (λ k. nested span 2 k body) (none number h)
  where
    none : (n : ℕ) → n ≤ 1 → n - 1 ≡ 0
    none n h = omega arith

pub nested_next : (span : Span) (number : ℕ) (body : Exp) → 1 < number → nested span 2 (number - 1 - 1) (number_fn span number body) ≡ nested span 2 (number - 1) body
nested_next span number body h =
    sym (ap (λ k. nested span 2 k body) (before number h) ∙ nested_last span 2 (number - 1 - 1) body
    ∙ ap (λ k. nested span 2 (number - 1 - 1) (number_fn span k body)) (same number h))
  where
    before : (n : ℕ) → 1 < n → n - 1 ≡ suc (n - 1 - 1)
    before n h = omega arith

    same : (n : ℕ) → 1 < n → 2 + (n - 1 - 1) ≡ n
    same n h = omega arith
