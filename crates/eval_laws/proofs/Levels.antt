-- Heights and answers, side by side.
use Rattle.std.proofs.Common.{◌≡◌, ℕ, zero, suc, ◌+◌, ◌≤◌, List, [], ◌∷◌, refl, sym, subst, arith}
use Rattle.web_data.specs.declared.database.WebAns.{WebAns}
use Rattle.sml_syntax.specs.declared.tree.Exp.{Exp}
use Rattle.sml_syntax.specs.declared.tree.Dec.{Dec}
use Rattle.sml_syntax.specs.declared.tree.Pat.{Pat}
use Rattle.sml_syntax.specs.Layers.{form_of_exp, form_of_pat, form_of_dec}
use Rattle.sml_evaluation.specs.declared.value.Value.{Value}
use Rattle.sml_evaluation.specs.ValueLayers.{form_of_value}
use Rattle.sml_evaluation.specs.Values.{Env}
use Rattle.sml_evaluation.specs.RunState.{Done, Over, then_do, counted, state_left, count_of}
use Rattle.sml_evaluation.specs.Outcome.{State, Outcome}
use Rattle.sml_evaluation.specs.Evaluation.{Level, Plan, plan_of, each_value, exp_result, pat_result, same_result, with_dec, with_binding, Coming, Comes, Ends, coming, with_coming, over_scope, nothing, exp_above, above, level, eval, eval_decs}
use Rattle.eval_laws.specs.Heights.{Betters, with_more, Begins, calls_of, Extends}
use Rattle.eval_laws.proofs.Relations.{Mode, Higher, Longer, along, Onward, on, stays, R, done_here, weaker, then_R, ran_out, betters_at, as_extends, then_betters, one_more, and_more}
use Rattle.eval_laws.proofs.Rows.{S}
use Rattle.eval_laws.proofs.Walks.{Evaluates, Levels, Walk, walk_of, base, then_S, each_value_R}
use Rattle.eval_laws.proofs.Patterns.{pat_R, same_R}
use Rattle.eval_laws.proofs.Expressions.{exp_R, scope_R, with_coming_R, binding_starts, dec_R}

exp_above_R : (w : Walk) → Evaluates w.m (exp_above w.l) (exp_above w.h)
exp_above_R w env s e = weaker (on (omega arith) refl) (exp_R w env (counted 1 s) (form_of_exp e))

above_R : (w : Walk) → Levels w.m (above w.l) (above w.h)
above_R w = record {
  exp = exp_above_R w;
  pat = λ env s p v. weaker (on (omega arith) refl) (pat_R w env (counted 1 s) (form_of_pat p) v);
  same = λ a b s. weaker (on (omega arith) refl) (same_R w (form_of_value a) (form_of_value b) (counted 1 s));
  scope = scope_R w (exp_above w.l) (exp_above w.h) (exp_above_R w) (exp_above_R (base w));
}

-- ---- at height 0, and at the same height

-- both evaluations have the same height
pub data SameHeight : Mode → Type 0 where
  no_higher : SameHeight (Higher 0)
  longer : (more : List WebAns) → SameHeight (Longer more)

over_here : {A : Type 0} {m : Mode} → SameHeight m → (s : State) → S {A = A} m s (Over s) (Over (along m s))
over_here no_higher s = record { low = stays s; high = on (omega arith) refl; better = omega arith }
over_here (longer more) s = record { low = stays s; high = on (omega arith) refl; better = refl }

over_scope_R : {m : Mode} → SameHeight m → (outer env : Env) (s : State) (bindings : List (Pat × Exp)) (plan : Plan) → S m s (over_scope outer env s bindings plan) (over_scope outer env (along m s) bindings plan)
over_scope_R q outer env s (bind ∷ bindings) plan = over_here q s
over_scope_R {m = m} q outer env s [] plan = ended (coming env plan.decs plan.pending plan.body)
  where
    ended : (c : Coming) → S m s (with_coming (λ env1 s1 e. Over s1) (λ env1 s1 d plan1. Over s) s plan.body c) (with_coming (λ env1 s1 e. Over s1) (λ env1 s1 d plan1. Over (along m s)) (along m s) plan.body c)
    ended (Comes env1 d plan1) = over_here q s
    ended (Ends env1) = then_S (λ vs s1. Done (env1, vs) s1)
        (each_value_R (λ env2 s1 e. Over s1) (λ env2 s1 e. Over s1) (λ env2 s1 e. over_here q s1) (λ env2 s1 e. over_here no_higher s1) env1 s plan.body) (λ k vs s1. done_here)

nothing_R : {m : Mode} → SameHeight m → Levels m nothing nothing
nothing_R q = record {
  exp = λ env s e. over_here q s;
  pat = λ env s p v. over_here q s;
  same = λ a b s. over_here q s;
  scope = over_scope_R q;
}

pub itself : {m : Mode} → SameHeight m → (n : ℕ) → Levels m (level n) (level n)
itself q zero = nothing_R q
itself {m = m} q (suc n) = above_R (walk_of m (level n) (level n) (itself q n) (itself no_higher n))

-- ---- what runs out at height 0 counts one more at height 1

abbrev at_nothing : Walk
at_nothing = walk_of (Higher 0) nothing nothing (nothing_R no_higher) (nothing_R no_higher)

first_exp : Evaluates (Higher 1) nothing.exp (above nothing).exp
first_exp env s e = ran_out {t = counted 1 s} (omega arith) refl (exp_R at_nothing env (counted 1 s) (form_of_exp e)).high

first_scope : (outer env : Env) (s : State) (bindings : List (Pat × Exp)) (plan : Plan) → S (Higher 1) s (nothing.scope outer env s bindings plan) ((above nothing).scope outer env (with_more [] s) bindings plan)
first_scope outer env s (bind ∷ bindings) plan = ran_out {t = counted 1 s} (omega arith) refl (binding_starts at_nothing outer env s bind bindings plan).high
first_scope outer env s [] plan = begun (coming env plan.decs plan.pending plan.body)
  where
    begun : (c : Coming) → S (Higher 1) s (with_coming (λ env1 s1 e. Over s1) (λ env1 s1 d plan1. Over s) s plan.body c) (with_coming (exp_above nothing) (with_dec nothing) (with_more [] s) plan.body c)
    begun (Comes env1 d plan1) = ran_out {t = counted 1 s} (omega arith) refl (dec_R at_nothing env1 (counted 1 s) (form_of_dec d) plan1).high
    begun (Ends env1) = then_S (λ vs s1. Done (env1, vs) s1) (each_value_R (λ env2 s1 e. Over s1) (exp_above nothing) first_exp (exp_above_R at_nothing) env1 s plan.body) (λ k vs s1. done_here)

first_R : Levels (Higher 1) nothing (above nothing)
first_R = record {
  exp = first_exp;
  pat = λ env s p v. ran_out {t = counted 1 s} (omega arith) refl (pat_R at_nothing env (counted 1 s) (form_of_pat p) v).high;
  same = λ a b s. ran_out {t = counted 1 s} (omega arith) refl (same_R at_nothing (form_of_value a) (form_of_value b) (counted 1 s)).high;
  scope = first_scope;
}

pub next_height : (n : ℕ) → Levels (Higher 1) (level n) (level (suc n))
next_height zero = first_R
next_height (suc n) = above_R (walk_of (Higher 1) (level n) (level (suc n)) (next_height n) (itself no_higher (suc n)))

-- ---- whole evaluations

next_exp : (n : ℕ) (env : Env) (s : State) (e : Exp) → Betters 1 (eval n env s e) (eval (suc n) env s e)
next_exp n env s e = betters_at 1 (λ t. eval (suc n) env t e) (eval n env s e) s ((next_height n).exp env s e)

pub higher_exp : (n m : ℕ) (env : Env) (s : State) (e : Exp) → Betters 1 (eval n env s e) (eval (n + suc m) env s e)
higher_exp n zero env s e = subst (λ x. Betters 1 (eval n env s e) (eval x env s e)) (one_more n) (next_exp n env s e)
higher_exp n (suc m) env s e =
    subst (λ x. Betters 1 (eval n env s e) (eval x env s e)) (and_more n m)
    (then_betters (eval n env s e) (eval (n + suc m) env s e) (eval (suc (n + suc m)) env s e) (higher_exp n m env s e) (next_exp (n + suc m) env s e))

decs_R : {m : Mode} {l h : Level} → Levels m l h → (env : Env) (s : State) (decs : List Dec)
    → S m s (then_do (l.scope env env s [] (plan_of decs [] [])) (λ r s1. Done r.0 s1)) (then_do (h.scope env env (along m s) [] (plan_of decs [] [])) (λ r s1. Done r.0 s1))
decs_R r env s decs = then_S (λ (x : Env × List Value) s1. Done x.0 s1) (r.scope env env s [] (plan_of decs [] [])) (λ k x s1. done_here)

next_decs : (n : ℕ) (env : Env) (s : State) (decs : List Dec) → Betters 1 (eval_decs n env s decs) (eval_decs (suc n) env s decs)
next_decs n env s decs = betters_at 1 (λ t. eval_decs (suc n) env t decs) (eval_decs n env s decs) s (decs_R (next_height n) env s decs)

pub higher_decs : (n m : ℕ) (env : Env) (s : State) (decs : List Dec) → Betters 1 (eval_decs n env s decs) (eval_decs (n + suc m) env s decs)
higher_decs n zero env s decs = subst (λ x. Betters 1 (eval_decs n env s decs) (eval_decs x env s decs)) (one_more n) (next_decs n env s decs)
higher_decs n (suc m) env s decs =
    subst (λ x. Betters 1 (eval_decs n env s decs) (eval_decs x env s decs)) (and_more n m)
    (then_betters (eval_decs n env s decs) (eval_decs (n + suc m) env s decs) (eval_decs (suc (n + suc m)) env s decs) (higher_decs n m env s decs) (next_decs (n + suc m) env s decs))

pub grown_exp : (n : ℕ) (env : Env) (s : State) (e : Exp) → s.count ≤ count_of (eval n env s e)
grown_exp n env s e = ((itself no_higher n).exp env s e).low.count

pub grown_decs : (n : ℕ) (env : Env) (s : State) (decs : List Dec) → s.count ≤ count_of (eval_decs n env s decs)
grown_decs n env s decs = (decs_R (itself no_higher n) env s decs).low.count

pub calls_exp : (n : ℕ) (env : Env) (s : State) (e : Exp) → Begins s.shared.calls (calls_of (eval n env s e))
calls_exp n env s e = ((itself no_higher n).exp env s e).low.calls

pub calls_decs : (n : ℕ) (env : Env) (s : State) (decs : List Dec) → Begins s.shared.calls (calls_of (eval_decs n env s decs))
calls_decs n env s decs = (decs_R (itself no_higher n) env s decs).low.calls

pub more_exp : (more : List WebAns) (n : ℕ) (env : Env) (s : State) (e : Exp) → Extends more (eval n env s e) (eval n env (with_more more s) e)
more_exp more n env s e = as_extends more (eval n env s e) (eval n env (with_more more s) e) ((itself (longer more) n).exp env s e).better

pub more_decs : (more : List WebAns) (n : ℕ) (env : Env) (s : State) (decs : List Dec) → Extends more (eval_decs n env s decs) (eval_decs n env (with_more more s) decs)
more_decs more n env s decs = as_extends more (eval_decs n env s decs) (eval_decs n env (with_more more s) decs) (decs_R (itself (longer more) n) env s decs).better
