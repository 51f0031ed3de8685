-- Specialised expressions and declarations, side by side.
use Rattle.std.proofs.Common.{ℕ, ◌+◌, true, false, [], ◌∷◌, Option, Some, None, refl, arith}
use Rattle.sml_evaluation.specs.Values.{same_con, text_size}
use Rattle.sml_syntax.specs.declared.constructor.Constructor.{Constructor}
use Rattle.sml_syntax.specs.declared.constructor.Constructor.TheVariants as con
use Rattle.region_syntax.specs.GroundTypes as t
use Rattle.region_syntax.specs.GroundTypes.{GroundType}
use Rattle.region_syntax.specs.GroundTerms as g
use Rattle.sml_evaluation.specs.RunState.{Done, Raised, then_do, counted}
use Rattle.region_eval.specs.GroundValues.{Value, Str, Tuple, Con, Applied, Fun, Maker, Prim, Values, values, many_values, last_of, bool_value, Env, value_at, before}
use Rattle.region_syntax.specs.FreeNames.{group_words}
use Rattle.region_eval.specs.GroundPrimitives.{State, Outcome}
use Rattle.region_eval.specs.GroundEvaluation.{Evaluator, Level, Shows, Plan, plan_of, each_value, last_value, each_piece, list_result, chosen, rules_result, match_failed, group_bound, constructor_result, constructed, application, by_bool, form_result, bound_more, binding, with_binding, functions_bound, with_dec, Coming, Comes, Ends, coming, with_coming, scope_result}
use Rattle.eval_laws.proofs.Relations.{Mode, Higher, along, on, stays, done, raised, done_here, waits_here, weaker, if_R}
use Rattle.region_eval.proofs.GroundWalks.{S, Steady, Evaluates, Walk, then_W, handled_W, then_S, each_value_R}
use Rattle.region_eval.proofs.GroundPatterns.{found_steady}
use Rattle.region_eval.proofs.GroundRows.{application_R, named_steady}

-- the parts of a level
parts_R : (w : Walk) (env : Env) (s : State) (es : g.Exps) → S w.m s (each_value w.l.exp env s es) (each_value w.h.exp env (along w.m s) es)
parts_R w env s es = each_value_R w.l.exp w.h.exp w.both.exp w.grows.exp env s es

last_steady : (vs : Values) → Steady (last_value vs)
last_steady vs = found_steady (λ v s1. Done v s1) (λ v m s1. done_here) (last_of vs)

each_piece_R : (w : Walk) (env : Env) (s : State) (ps : g.Pieces) → S w.m s (each_piece w.l.exp env s ps) (each_piece w.h.exp env (along w.m s) ps)
each_piece_R w env s g.no_pieces = done_here
each_piece_R w env s (g.plain bytes ps) =
    weaker (on (omega arith) refl)
    (then_S (λ vs s1. Done (values (Applied 4 0 (Str bytes)) vs) s1) (each_piece_R w env (counted (2 + text_size bytes) s) ps) (λ k vs s1. done_here))
each_piece_R w env s (g.anti e ps) =
    then_W w (λ l v s1. then_do (each_piece l.exp env (counted 2 s1) ps) (λ vs s2. Done (values (Applied 4 1 v) vs) s2)) (w.both.exp env s e)
    (λ x v s1. weaker (on (omega arith) refl) (then_S (λ vs s2. Done (values (Applied 4 1 v) vs) s2) (each_piece_R x env (counted 2 s1) ps) (λ k vs s2. done_here)))

list_steady : (vs : Values) → Steady (list_result vs)
list_steady vs m s = done (on (omega arith) refl)

-- ---- matches and applications

-- what is done at each level
abbrev pub Continues : (Level → State → Outcome Value) → Type 0
Continues f = (x : Walk) (s : State) → S x.m s (f x.l s) (f x.h (along x.m s))

chosen_R : (w : Walk) (env : Env) (body : g.Exp) (more : Option Env) (f : Level → State → Outcome Value) → Continues f → (s : State) → S w.m s (chosen w.l env body more (f w.l) s) (chosen w.h env body more (f w.h) (along w.m s))
chosen_R w env body None f c s = c w s
chosen_R w env body (Some more) f c s = w.both.exp (before more env) s body

rules_R : (w : Walk) (env : Env) (s : State) (rs : g.Rules) (v : Value) (f : Level → State → Outcome Value) → Continues f → S w.m s (rules_result w.l env s rs v (f w.l)) (rules_result w.h env (along w.m s) rs v (f w.h))
rules_R w env s g.no_rules v f c = c w s
rules_R w env s (g.rules p e rs) v f c =
    then_W w (λ l more s1. chosen l env e more (λ s2. rules_result l env s2 rs v (f l)) s1) (weaker (on (omega arith) refl) (w.both.pat (counted 1 s) p v))
    (λ x more s1. chosen_R x env e more (λ l s2. rules_result l env s2 rs v (f l)) (λ y s2. rules_R y env s2 rs v f c) s1)

failed_R : Continues (λ l. match_failed)
failed_R x s = raised (on (omega arith) refl)

constructor_steady : (a : GroundType) (c : Constructor) → Steady (constructor_result a c)
constructor_steady (t.Arrow a b) c m s = done_here
constructor_steady a (con.Data d i) m s = done_here
constructor_steady a (con.Exn n) m s = done (on (omega arith) refl)
constructor_steady a con.Ref m s = waits_here

constructed_steady : (c : Constructor) (v : Value) → Steady (constructed c v)
constructed_steady (con.Data d i) v m s = done (on (omega arith) refl)
constructed_steady (con.Exn n) v m s = done (on (omega arith) refl)
constructed_steady con.Ref v m s = done (on (omega arith) refl)

apply_R : (w : Walk) (f v : Value) (s : State) → S w.m s (application w.l f v s) (application w.h f v (along w.m s))
apply_R w (Prim name arguments) v s = application_R w name arguments v s
apply_R w (Maker c) v s = constructed_steady c v w.m s
apply_R w (Fun rs env group) v s = rules_R w (before (group_bound group env group) env) s rs v (λ l. match_failed) failed_R
apply_R w _ v s = waits_here

-- ---- expressions

by_bool_R : (w : Walk) (v : Value) (f x : Level → State → Outcome Value) → Continues f → Continues x → (s : State) → S w.m s (by_bool v (f w.l) (x w.l) s) (by_bool v (f w.h) (x w.h) (along w.m s))
by_bool_R w (Con d i) f x c k s = if_R (same_con d i 0 1) (c w s) (k w s)
by_bool_R w _ f x c k s = waits_here

pub form_R : (w : Walk) (env : Env) (s : State) (a : GroundType) (form : g.Form) → S w.m s (form_result w.l env s a form) (form_result w.h env (along w.m s) a form)
form_R w env s a (g.Int n) = done_here
form_R w env s a (g.Char c) = done_here
form_R w env s a (g.Str bytes) = done (on (omega arith) refl)
form_R w env s a (g.Name name) = found_steady (λ v s1. Done v s1) (λ v m s1. done_here) (value_at name env) w.m s
form_R w env s a (g.Prim name) = named_steady name w.m s
form_R w env s a (g.Con c) = constructor_steady a c w.m s
form_R w env s a g.Unit = done_here
form_R w env s a (g.Tuple es) = then_S (λ vs s1. Done (Tuple vs) (counted (many_values vs) s1)) (parts_R w env s es) (λ k vs s1. done (on (omega arith) refl))
form_R w env s a (g.List_of es) = then_S list_result (parts_R w env s es) (λ k vs s1. list_steady vs k s1)
form_R w env s a (g.Seq es) = then_S last_value (parts_R w env s es) (λ k vs s1. last_steady vs k s1)
form_R w env s a (g.App f e) =
    then_W w (λ l x s1. then_do (l.exp env s1 e) (λ v s2. application l x v (counted 1 s2))) (w.both.exp env s f)
    (λ y x s1. then_W y (λ l v s2. application l x v (counted 1 s2)) (y.both.exp env s1 e) (λ z v s2. weaker (on (omega arith) refl) (apply_R z x v (counted 1 s2))))
form_R w env s a (g.Let ds es) = then_S (λ x s1. last_value x.1 s1) (w.both.scope env env s g.no_rules (plan_of ds [] es)) (λ k x s1. last_steady x.1 k s1)
form_R w env s a (g.Fn rs) = done (on (omega arith) refl)
form_R w env s a (g.Case e rs) = then_W w (λ l v s1. rules_result l env s1 rs v match_failed) (w.both.exp env s e) (λ x v s1. rules_R x env s1 rs v (λ l. match_failed) failed_R)
form_R w env s a (g.Handle e rs) =
    handled_W w (λ l p s1. rules_result l env s1 rs p (λ s2. Raised p s2)) (w.both.exp env s e) (λ x p s1. rules_R x env s1 rs p (λ l s2. Raised p s2) (λ y s2. raised (stays s2)))
form_R w env s a (g.Raise e) = then_S (λ p s1. Raised p s1) (w.both.exp env s e) (λ k p s1. raised (stays s1))
form_R w env s a (g.If x y z) =
    then_W w (λ l v s1. by_bool v (λ s2. l.exp env s2 y) (λ s2. l.exp env s2 z) s1) (w.both.exp env s x)
    (λ i v s1. by_bool_R i v (λ l s2. l.exp env s2 y) (λ l s2. l.exp env s2 z) (λ j s2. j.both.exp env s2 y) (λ j s2. j.both.exp env s2 z) s1)
form_R w env s a (g.Both x y) =
    then_W w (λ l v s1. by_bool v (λ s2. l.exp env s2 y) (λ s2. Done (bool_value false) s2) s1) (w.both.exp env s x)
    (λ i v s1. by_bool_R i v (λ l s2. l.exp env s2 y) (λ l s2. Done (bool_value false) s2) (λ j s2. j.both.exp env s2 y) (λ j s2. done_here) s1)
form_R w env s a (g.Either x y) =
    then_W w (λ l v s1. by_bool v (λ s2. Done (bool_value true) s2) (λ s2. l.exp env s2 y) s1) (w.both.exp env s x)
    (λ i v s1. by_bool_R i v (λ l s2. Done (bool_value true) s2) (λ l s2. l.exp env s2 y) (λ j s2. done_here) (λ j s2. j.both.exp env s2 y) s1)
form_R w env s a (g.Quote ps) = then_S list_result (each_piece_R w env s ps) (λ k vs s1. list_steady vs k s1)

-- ---- declarations

bound_steady : (env : Env) (more : Option Env) → Steady (bound_more env more)
bound_steady env None m s = raised (on (omega arith) refl)
bound_steady env (Some more) m s = done_here

binding_R : (w : Walk) (outer env : Env) (s : State) (p : g.Pat) (e : g.Exp) → S w.m s (binding w.l outer env s p e) (binding w.h outer env (along w.m s) p e)
binding_R w outer env s p e =
    then_W w (λ l v s1. then_do (l.pat s1 p v) (λ more s2. bound_more env more s2)) (w.both.exp outer s e)
    (λ x v s1. then_S (λ more s2. bound_more env more s2) (x.both.pat s1 p v) (λ k more s2. bound_steady env more k s2))

-- the bindings at hand, with the first of them counted
pub binding_starts : (w : Walk) (outer env : Env) (s : State) (p : g.Pat) (e : g.Exp) (bindings : g.Rules) (plan : Plan)
    → S w.m (counted 1 s) (with_binding w.l outer env s p e bindings plan) (with_binding w.h outer env (along w.m s) p e bindings plan)
binding_starts w outer env s p e bindings plan =
    then_W w (λ l env1 s1. l.scope outer env1 s1 bindings plan) (binding_R w outer env (counted 1 s) p e) (λ x env1 s1. x.both.scope outer env1 s1 bindings plan)

pub dec_R : (w : Walk) (env : Env) (s : State) (d : g.Dec) (plan : Plan) → S w.m s (with_dec w.l env s d plan) (with_dec w.h env (along w.m s) d plan)
dec_R w env s (g.val_dec g.no_rules) plan = waits_here
dec_R w env s (g.val_dec (g.rules p e bindings)) plan = weaker (on (omega arith) refl) (binding_starts w env env s p e bindings plan)
dec_R w env s (g.fun_dec group) plan =
    weaker (on (omega arith) refl) (w.both.scope env (before (functions_bound group env) env) (counted (group_words group) s) g.no_rules plan)
dec_R w env s (g.local_dec hidden shown) plan = w.both.scope env env s g.no_rules (plan_of hidden (Shows shown env plan.decs ∷ plan.pending) plan.body)

abbrev pub DecStep : Type 0
DecStep = Env → State → g.Dec → Plan → Outcome (Env × Values)

pub with_coming_R : {m : Mode} (part other : Evaluator) → Evaluates m part other → Evaluates (Higher 0) other other → (f f1 : DecStep)
    → ((env : Env) (s : State) (d : g.Dec) (plan : Plan) → S m s (f env (counted 1 s) d plan) (f1 env (counted 1 (along m s)) d plan)) → (s : State) (body : g.Exps) (c : Coming)
    → S m s (with_coming part f s body c) (with_coming other f1 (along m s) body c)
with_coming_R part other h k f f1 step s body (Comes env d plan) = step env s d plan
with_coming_R part other h k f f1 step s body (Ends env) = then_S (λ vs s1. Done (env, vs) s1) (each_value_R part other h k env s body) (λ i vs s1. done_here)

pub scope_R : (w : Walk) (part other : Evaluator) → Evaluates w.m part other → Evaluates (Higher 0) other other → (outer env : Env) (s : State) (bindings : g.Rules) (plan : Plan)
    → S w.m s (scope_result part w.l outer env s bindings plan) (scope_result other w.h outer env (along w.m s) bindings plan)
scope_R w part other p q outer env s (g.rules x e bindings) plan = weaker (on (omega arith) refl) (binding_starts w outer env s x e bindings plan)
scope_R w part other p q outer env s g.no_rules plan =
    with_coming_R part other p q (with_dec w.l) (with_dec w.h) (λ env1 s1 d plan1. weaker (on (omega arith) refl) (dec_R w env1 (counted 1 s1) d plan1))
    s plan.body (coming env plan.decs plan.pending plan.body)
