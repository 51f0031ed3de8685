-- Heights of region terms, side by side.
use Rattle.std.proofs.Common.{ℕ, zero, suc, ◌+◌, ◌≤◌, [], subst, arith}
use Rattle.region_syntax.specs.RegionTerms as r
use Rattle.region_syntax.specs.Cost.{meeting}
use Rattle.sml_evaluation.specs.RunState.{Done, Over, then_do, counted, count_of, storing}
use Rattle.region_eval.specs.RegionStore.{Env, Store, Around, State, Outcome, opened}
use Rattle.region_eval.specs.RegionEvaluation.{Level, Plan, plan_of, Coming, Comes, Ends, coming, with_dec, with_coming, over_scope, nothing, exp_above, parts_above, above, level, eval, eval_decs}
use Rattle.eval_laws.specs.Heights.{Betters}
use Rattle.region_eval.proofs.Relations.{done_R, weaker, then_R, one_more, and_more, then_betters}
use Rattle.region_eval.proofs.RegionPatterns.{S, pat_R, spread_R, same_R}
use Rattle.region_eval.proofs.RegionExpressions.{Evaluates, EvaluatesParts, Levels, each_value_R, form_R, with_binding_R, dec_starts, scope_R}

pub parts_above_R : {k : ℕ} (l h : Level) → Levels k l h → EvaluatesParts k (parts_above l) (parts_above h)
parts_above_R l h q around env s es =
    then_R (weaker (s.count + 1) (omega arith) (each_value_R l.exp h.exp q.exp around env (counted 1 s) es)) (λ vs s1. done_R (omega arith))

pub exp_above_R : {k : ℕ} (l h : Level) → Levels k l h → Evaluates k (exp_above l) (exp_above h)
exp_above_R l h q around env s (r.exp a (r.LetRegion rs e)) =
    let made : Around × Store = opened (meeting rs (around.choice e)) around s.store in exp_above_R l h q made.0 env (storing made.1 s) e
exp_above_R l h q around env s (r.exp a form) = weaker (s.count + 1) (omega arith) (form_R l h q around env (counted 1 s) a form)

pub above_R : {k : ℕ} (l h : Level) → Levels k l h → Levels k (above l) (above h)
above_R l h q = record {
  exp = exp_above_R l h q;
  parts = parts_above_R l h q;
  pat = λ around s p v. weaker (s.count + 1) (omega arith) (pat_R l.pat h.pat q.pat around (counted 1 s) p v);
  spread = λ around s p vs. weaker (s.count + 1) (omega arith) (spread_R l.pat h.pat q.pat around (counted 1 s) p vs);
  same = λ around inside a v w s. weaker (s.count + 1) (omega arith) (same_R l.same h.same q.same around inside a v w (counted 1 s));
  scope = scope_R l h q (exp_above l) (exp_above h) (exp_above_R l h q);
}

-- at height 0
pub over_R : {A : Type 0} (s : State) → S {A = A} 0 s.count (Over s) (Over s)
over_R s = record { low = omega arith; high = omega arith; better = omega arith }

pub over_scope_R : (around : Around) (outer env : Env) (s : State) (bindings : r.Rules) (plan : Plan) → S 0 s.count (over_scope around outer env s bindings plan) (over_scope around outer env s bindings plan)
over_scope_R around outer env s (r.rules p e bindings) plan = over_R s
over_scope_R around outer env s r.no_rules plan = ended (coming env plan.decs plan.pending plan.body)
  where
    ended : (c : Coming) → S 0 s.count (with_coming (λ around1 env1 s1 e. Over s1) (λ env1 s1 d plan1. Over s) around s plan.body c) (with_coming (λ around1 env1 s1 e. Over s1) (λ env1 s1 d plan1. Over s) around s plan.body c)
    ended (Comes env1 d plan1) = over_R s
    ended (Ends env1) = then_R (each_value_R (λ around1 env2 s1 e. Over s1) (λ around1 env2 s1 e. Over s1) (λ around1 env2 s1 e. over_R s1) around env1 s plan.body) (λ vs s1. done_R (omega arith))

pub nothing_R : Levels 0 nothing nothing
nothing_R = record {
  exp = λ around env s e. over_R s;
  parts = λ around env s es. over_R s;
  pat = λ around s p v. over_R s;
  spread = λ around s p vs. over_R s;
  same = λ around inside a v w s. over_R s;
  scope = over_scope_R;
}

-- counts only grow
pub itself : (n : ℕ) → Levels 0 (level n) (level n)
itself zero = nothing_R
itself (suc n) = above_R (level n) (level n) (itself n)

-- what runs out at height 0 counts one more at height 1
pub begins : {A : Type 0} (s : State) (o : Outcome A) → S 0 (s.count + 1) o o → S 1 s.count (Over s) o
begins s o r0 = let a = r0.high in record { low = omega arith; high = omega (arith, a); better = a }

pub first_exp : (around : Around) (env : Env) (s : State) (e : r.Exp) → S 1 s.count (Over s) (exp_above nothing around env s e)
first_exp around env s (r.exp a (r.LetRegion rs e)) =
    let made : Around × Store = opened (meeting rs (around.choice e)) around s.store in
    let inside : S 1 s.count (Over (storing made.1 s)) (exp_above nothing made.0 env (storing made.1 s) e) = first_exp made.0 env (storing made.1 s) e in
    record { low = omega arith; high = inside.high; better = inside.better }
first_exp around env s (r.exp a form) = begins s _ (form_R nothing nothing nothing_R around env (counted 1 s) a form)

pub first_scope : (around : Around) (outer env : Env) (s : State) (bindings : r.Rules) (plan : Plan) → S 1 s.count (nothing.scope around outer env s bindings plan) ((above nothing).scope around outer env s bindings plan)
first_scope around outer env s (r.rules p e bindings) plan = begins s _ (with_binding_R nothing nothing nothing_R around outer env s p e bindings plan)
first_scope around outer env s r.no_rules plan = begun (coming env plan.decs plan.pending plan.body)
  where
    begun : (c : Coming)
        → S 1 s.count (with_coming (λ around1 env1 s1 e. Over s1) (λ env1 s1 d plan1. Over s) around s plan.body c) (with_coming (exp_above nothing) (with_dec nothing around) around s plan.body c)
    begun (Comes env1 d plan1) = begins s _ (dec_starts nothing nothing nothing_R around env1 s d plan1)
    begun (Ends env1) = then_R (each_value_R (λ around1 env2 s1 e. Over s1) (exp_above nothing) first_exp around env1 s plan.body) (λ vs s1. done_R (omega arith))

pub first_R : Levels 1 nothing (above nothing)
first_R = record {
  exp = first_exp;
  parts = λ around env s es.
      begins s _ (then_R (each_value_R nothing.exp nothing.exp nothing_R.exp around env (counted 1 s) es) (λ vs s1. done_R (omega arith)));
  pat = λ around s p v. begins s _ (pat_R nothing.pat nothing.pat nothing_R.pat around (counted 1 s) p v);
  spread = λ around s p vs. begins s _ (spread_R nothing.pat nothing.pat nothing_R.pat around (counted 1 s) p vs);
  same = λ around inside a v w s. begins s _ (same_R nothing.same nothing.same nothing_R.same around inside a v w (counted 1 s));
  scope = first_scope;
}

pub next_height : (n : ℕ) → Levels 1 (level n) (level (suc n))
next_height zero = first_R
next_height (suc n) = above_R (level n) (level (suc n)) (next_height n)

-- ---- whole evaluations

pub higher_exp : (n m : ℕ) (around : Around) (env : Env) (s : State) (e : r.Exp) → Betters 1 (eval n around env s e) (eval (n + suc m) around env s e)
higher_exp n zero around env s e = subst (λ x. Betters 1 (eval n around env s e) (eval x around env s e)) (one_more n) ((next_height n).exp around env s e).better
higher_exp n (suc m) around env s e =
    subst (λ x. Betters 1 (eval n around env s e) (eval x around env s e)) (and_more n m)
    (then_betters (eval n around env s e) (eval (n + suc m) around env s e) (eval (suc (n + suc m)) around env s e) (higher_exp n m around env s e) ((next_height (n + suc m)).exp around env s e).better)

pub decs_R : {k : ℕ} (l h : Level) → Levels k l h → (around : Around) (env : Env) (s : State) (decs : r.Decs)
    → S k s.count (then_do (l.scope around env env s r.no_rules (plan_of decs [] r.no_exps)) (λ x s1. Done x.0 s1)) (then_do (h.scope around env env s r.no_rules (plan_of decs [] r.no_exps)) (λ x s1. Done x.0 s1))
decs_R l h q around env s decs = then_R (q.scope around env env s r.no_rules (plan_of decs [] r.no_exps)) (λ x s1. done_R (omega arith))

pub higher_decs : (n m : ℕ) (around : Around) (env : Env) (s : State) (decs : r.Decs) → Betters 1 (eval_decs n around env s decs) (eval_decs (n + suc m) around env s decs)
higher_decs n zero around env s decs =
    subst (λ x. Betters 1 (eval_decs n around env s decs) (eval_decs x around env s decs)) (one_more n) (decs_R (level n) (level (suc n)) (next_height n) around env s decs).better
higher_decs n (suc m) around env s decs =
    subst (λ x. Betters 1 (eval_decs n around env s decs) (eval_decs x around env s decs)) (and_more n m)
    (then_betters (eval_decs n around env s decs) (eval_decs (n + suc m) around env s decs) (eval_decs (suc (n + suc m)) around env s decs) (higher_decs n m around env s decs)
    (decs_R (level (n + suc m)) (level (suc (n + suc m))) (next_height (n + suc m)) around env s decs).better)

pub grown_exp : (n : ℕ) (around : Around) (env : Env) (s : State) (e : r.Exp) → s.count ≤ count_of (eval n around env s e)
grown_exp n around env s e = ((itself n).exp around env s e).low

pub grown_decs : (n : ℕ) (around : Around) (env : Env) (s : State) (decs : r.Decs) → s.count ≤ count_of (eval_decs n around env s decs)
grown_decs n around env s decs = (decs_R (level n) (level n) (itself n) around env s decs).low
