-- The searches for lacks, one step further.
use Rattle.std.proofs.Common.{◌≡◌, ℕ, zero, suc, ◌+◌, ◌<◌, ◌≤◌, List, [], ◌∷◌, ◌++◌, length, get_or, drop, true, false, cond, Option, Some, None, refl, ap, sym, ◌∙◌, arith}
use Rattle.std.proofs.Math.Dec.{eqb-zero-suc, eqb-suc-suc}
use Rattle.std.proofs.lemmas.List.{append_assoc}
use Rattle.std.specs.Prelude.{nat_eq}
use Rattle.std.specs.Str.{bytes_eq}
use Rattle.sml_syntax.specs.NestedTypes.{Found}
use Rattle.sml_grammar.specs.declared.act.Made.{Made}
use Rattle.parse_limits.proofs.Folds.{at_item}
use Rattle.parse_limits.specs.Lacks.{Own, ends_datatypes, head_of, own_of, own_types, vars_after, variables_of, pushed, same_name, var_of, is_push, lack_from, lower, lack_of, own_after, first_lack}

pub own_none : (vars : List (List ℕ)) (ms : List Made) → ms ≡ [] → own_types vars ms ≡ []
unfolding own_types
own_none vars ms e = ap (own_types vars) e

pub own_end : (vars : List (List ℕ)) (ms more : List Made) (m : Made) → ms ≡ m ∷ more → ends_datatypes m.act ≡ true → own_types vars ms ≡ []
unfolding own_types
own_end vars ms more m e h = ap (own_types vars) e ∙ ap (λ b. cond b [] (own_of vars (head_of m.act) ++ own_types (vars_after vars m.act) more)) h

pub own_next : (vars : List (List ℕ)) (ms more : List Made) (m : Made) → ms ≡ m ∷ more → ends_datatypes m.act ≡ false → own_types vars ms ≡ own_of vars (head_of m.act) ++ own_types (vars_after vars m.act) more
unfolding own_types
own_next vars ms more m e h = ap (own_types vars) e ∙ ap (λ b. cond b [] (own_of vars (head_of m.act) ++ own_types (vars_after vars m.act) more)) h

pub variables_none : (name : List ℕ) (own : Own) → own ≡ [] → variables_of name own ≡ None
unfolding variables_of
variables_none name own e = ap (variables_of name) e

pub variables_here : (name : List ℕ) (own others : Own) (one : List (List ℕ) × List ℕ) → own ≡ one ∷ others → bytes_eq one.1 name ≡ true → variables_of name own ≡ Some one.0
unfolding variables_of
variables_here name own others one e h = ap (variables_of name) e ∙ ap (λ b. cond b (Some one.0) (variables_of name others)) h

pub variables_next : (name : List ℕ) (own others : Own) (one : List (List ℕ) × List ℕ) → own ≡ one ∷ others → bytes_eq one.1 name ≡ false → variables_of name own ≡ variables_of name others
unfolding variables_of
variables_next name own others one e h = ap (variables_of name) e ∙ ap (λ b. cond b (Some one.0) (variables_of name others)) h

pub lack_none : (found : Option Found) (own : Own) (before ms : List Made) → ms ≡ [] → lack_from found own before ms ≡ found
unfolding lack_from
lack_none found own before ms e = ap (lack_from found own before) e

pub lack_next : (found : Option Found) (own : Own) (before ms more : List Made) (m : Made) → ms ≡ m ∷ more → lack_from found own before ms ≡ lack_from (lower found (lack_of own before m.act)) (own_after own m.act more) (before ++ m ∷ []) more
unfolding lack_from
lack_next found own before ms more m e = ap (lack_from found own before) e

pub lack_start : (acts : List Made) → lack_from None [] [] acts ≡ first_lack acts
unfolding first_lack
lack_start acts = refl

-- one act more of a datatype declaration: its types so far and those of the acts that are left
pub own_kept : (ms more : List Made) (m : Made) (own own' : Own) (vars vars' given : List (List ℕ)) (named : Option (List ℕ)) (whole : Own) → ms ≡ m ∷ more → ends_datatypes m.act ≡ false → own' ≡ own ++ own_of given named → given ≡ vars → named ≡ head_of m.act → vars' ≡ vars_after vars m.act → own ++ own_types vars ms ≡ whole → own' ++ own_types vars' more ≡ whole
own_kept ms more m own own' vars vars' given named whole e h a b d f inv =
    ap (λ w. w ++ own_types vars' more) (a ∙ ap (λ g. own ++ own_of g named) b ∙ ap (λ n. own ++ own_of vars n) d)
    ∙ ap (λ v. (own ++ own_of vars (head_of m.act)) ++ own_types v more) f
    ∙ append_assoc own (own_of vars (head_of m.act)) (own_types (vars_after vars m.act) more)
    ∙ ap (λ w. own ++ w) (sym (own_next vars ms more m e h))
    ∙ inv

pub pushed_short : (name : List ℕ) (names : List (List ℕ)) (ms : List Made) → length ms < 2 → pushed (name ∷ names) ms ≡ false
unfolding pushed
pushed_short name names [] h = refl
pushed_short name names (m ∷ []) h = refl
pushed_short name names (m ∷ n ∷ ms) h = absurd (omega arith)

pub pushed_other : (name : List ℕ) (names : List (List ℕ)) (m n : Made) (ms : List Made) → same_name name (var_of m.act) ≡ false → pushed (name ∷ names) (m ∷ n ∷ ms) ≡ false
unfolding pushed
pushed_other name names m n ms h = ap (λ b. cond b (cond (is_push n.act) (pushed names ms) false) false) h

pub pushed_no_push : (name : List ℕ) (names : List (List ℕ)) (m n : Made) (ms : List Made) → same_name name (var_of m.act) ≡ true → is_push n.act ≡ false → pushed (name ∷ names) (m ∷ n ∷ ms) ≡ false
unfolding pushed
pushed_no_push name names m n ms h k = ap (λ b. cond b (cond (is_push n.act) (pushed names ms) false) false) h ∙ ap (λ b. cond b (pushed names ms) false) k

pub pushed_next : (name : List ℕ) (names : List (List ℕ)) (m n : Made) (ms : List Made) → same_name name (var_of m.act) ≡ true → is_push n.act ≡ true → pushed (name ∷ names) (m ∷ n ∷ ms) ≡ pushed names ms
unfolding pushed
pushed_next name names m n ms h k = ap (λ b. cond b (cond (is_push n.act) (pushed names ms) false) false) h ∙ ap (λ b. cond b (pushed names ms) false) k

pub pushed_of : (names names' : List (List ℕ)) (ms ms' : List Made) → names ≡ names' → ms ≡ ms' → pushed names ms ≡ pushed names' ms'
pushed_of names names' ms ms' e f = ap (λ w. pushed w ms) e ∙ ap (pushed names') f

-- no variable is left: nor is an act
pub pushed_none : (ms : List Made) (at : ℕ) → at ≤ length ms → nat_eq at (length ms) ≡ pushed [] (drop at ms)
unfolding pushed
pushed_none [] zero h = refl
pushed_none [] (suc at) h = absurd (omega arith)
pushed_none (m ∷ ms) zero h = eqb-zero-suc (length ms)
pushed_none (m ∷ ms) (suc at) h = eqb-suc-suc at (length ms) ∙ pushed_none ms at (omega arith)

-- two acts, and those behind them
pub two_items : (ms : List Made) (at : ℕ) (d e m n : Made) → m ≡ get_or ms at d → n ≡ get_or ms (at + 1) e → at + 2 ≤ length ms → drop at ms ≡ m ∷ n ∷ drop (at + 2) ms
two_items ms at d e m n p q h = at_item ms at d m p (omega arith) ∙ ap (λ w. m ∷ w) (at_item ms (at + 1) e n q (omega arith)) ∙ ap (λ k. m ∷ n ∷ drop k ms) (next at)
  where
    next : (n : ℕ) → n + 1 + 1 ≡ n + 2
    next n = omega arith

-- one act more of the search for the first lack
pub lack_kept : (found found' looked : Option Found) (own own' given : Own) (before before' ms more : List Made) (m : Made) (whole : Option Found) → ms ≡ m ∷ more → before' ≡ before ++ m ∷ [] → found' ≡ lower found looked → looked ≡ lack_of given before m.act → given ≡ own → own' ≡ own_after own m.act more → lack_from found own before ms ≡ whole → lack_from found' own' before' more ≡ whole
lack_kept found found' looked own own' given before before' ms more m whole e b a d g o inv =
    ap (λ w. lack_from found' own' w more) b
    ∙ ap (λ w. lack_from w own' (before ++ m ∷ []) more) (a ∙ ap (lower found) (d ∙ ap (λ w. lack_of w before m.act) g))
    ∙ ap (λ w. lack_from (lower found (lack_of own before m.act)) w (before ++ m ∷ []) more) o
    ∙ sym (lack_next found own before ms more m e)
    ∙ inv
