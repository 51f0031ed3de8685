-- Expressions and declarations, side by side.
use Rattle.std.proofs.Common.{ℕ, ◌+◌, Bool, true, false, List, [], ◌∷◌, ◌++◌, length, Option, Some, None, refl, arith}
use Rattle.sml_syntax.specs.declared.constructor.Constructor.{Constructor}
use Rattle.sml_syntax.specs.declared.constructor.Constructor.TheVariants as con
use Rattle.sml_syntax.specs.declared.tree.Exp.{Exp}
use Rattle.sml_syntax.specs.declared.tree.Dec.{Dec}
use Rattle.sml_syntax.specs.declared.tree.Pat.{Pat}
use Rattle.sml_syntax.specs.declared.tree.Rule.{Rule, out-Rule}
use Rattle.sml_syntax.specs.declared.tree.Piece.{Piece, out-Piece}
use Rattle.sml_syntax.specs.declared.tree.DecForm.{DecForm}
use Rattle.sml_syntax.specs.declared.tree.ExpForm.{ExpForm}
use Rattle.sml_syntax.specs.declared.tree.DecForm.TheOpen.{DecForm-F, ExpForm-F, Piece-F}
use Rattle.sml_syntax.specs.Layers.{ExpLayer, DecLayer, form_of_dec}
use Rattle.sml_evaluation.specs.declared.value.Value.{Value}
use Rattle.sml_evaluation.specs.declared.value.Closure.{out-Closure}
use Rattle.sml_evaluation.specs.declared.value.Bound.TheOpen.{Value-F, Bound-F}
use Rattle.sml_evaluation.specs.ValueLayers.{ValueLayer, form_of_value}
use Rattle.sml_evaluation.specs.Values.{tuple_value, antiquote_value, bool_value, same_con, Env, BoundLayer, opened}
use Rattle.sml_evaluation.specs.RunState.{Done, Raised, then_do, counted}
use Rattle.sml_evaluation.specs.Outcome.{State, Outcome}
use Rattle.sml_evaluation.specs.Evaluation.{Evaluator, Level, Plan, plan_of, Shows, meaning, constructor_result, bound_result, functions_bound, each_value, last_value, piece_value, each_piece, list_result, chosen, rules_result, match_failed, group_bound, constructed, application, by_bool, exp_result, bound_more, binding, with_binding, with_dec, datatypes_bound, exceptions_bound, Coming, Comes, Ends, coming, with_coming, scope_result}
use Rattle.eval_laws.proofs.Relations.{Mode, Higher, along, Onward, on, stays, R, done, raised, done_here, waits_here, weaker, if_R}
use Rattle.eval_laws.proofs.Rows.{S, Steady, prim_R}
use Rattle.eval_laws.proofs.Walks.{Evaluates, Walk, then_W, handled_W, then_S, comparings, each_value_R}

-- the parts of a level
parts_R : (w : Walk) (env : Env) (s : State) (es : List Exp) → S w.m s (each_value w.l.exp env s es) (each_value w.h.exp env (along w.m s) es)
parts_R w env s es = each_value_R w.l.exp w.h.exp w.both.exp w.grows.exp env s es

last_steady : (vs : List Value) → Steady (last_value vs)
last_steady [] m s = waits_here
last_steady (v ∷ []) m s = done_here
last_steady (v ∷ u ∷ vs) m s = last_steady (u ∷ vs) m s

piece_R : (w : Walk) (env : Env) (s : State) (p : Piece-F DecForm ExpForm Piece Dec Exp Rule) → S w.m s (piece_value w.l.exp env s p) (piece_value w.h.exp env (along w.m s) p)
piece_R w env s (Piece-F.Plain bytes) = done (on (omega arith) refl)
piece_R w env s (Piece-F.Anti e) = then_S (λ v s1. Done (antiquote_value v) (counted 2 s1)) (w.both.exp env s e) (λ k v s1. done (on (omega arith) refl))

each_piece_R : (w : Walk) (env : Env) (s : State) (ps : List Piece) → S w.m s (each_piece w.l.exp env s ps) (each_piece w.h.exp env (along w.m s) ps)
each_piece_R w env s [] = done_here
each_piece_R w env s (p ∷ ps) =
    then_W w (λ l v s1. then_do (each_piece l.exp env s1 ps) (λ vs s2. Done (v ∷ vs) s2)) (piece_R w env s (out-Piece p))
    (λ x v s1. then_S (λ vs s2. Done (v ∷ vs) s2) (each_piece_R x env s1 ps) (λ k vs s2. done_here))

list_steady : (vs : List Value) → Steady (list_result vs)
list_steady vs m s = done (on (omega arith) refl)

constructor_steady : (c : Constructor) → Steady (constructor_result c)
constructor_steady (con.Data d i) m s = done_here
constructor_steady (con.Exn number) m s = done (on (omega arith) refl)
constructor_steady con.Ref m s = waits_here

bound_steady : (b : Option BoundLayer) → Steady (bound_result b)
bound_steady None m s = waits_here
bound_steady (Some (Bound-F.Variable v)) m s = done_here
bound_steady (Some (Bound-F.Constructor c false)) m s = constructor_steady c m s
bound_steady (Some (Bound-F.Constructor c true)) m s = done_here

-- ---- matches and applications

-- what is done at each level
abbrev Continues : (Level → State → Outcome Value) → Type 0
Continues f = (x : Walk) (s : State) → S x.m s (f x.l s) (f x.h (along x.m s))

chosen_R : (w : Walk) (env : Env) (body : Exp) (more : Option Env) (f : Level → State → Outcome Value) → Continues f → (s : State) → S w.m s (chosen w.l env body more (f w.l) s) (chosen w.h env body more (f w.h) (along w.m s))
chosen_R w env body None f c s = c w s
chosen_R w env body (Some more) f c s = w.both.exp (more ++ env) s body

rules_R : (w : Walk) (env : Env) (s : State) (rules : List Rule) (v : Value) (f : Level → State → Outcome Value) → Continues f → S w.m s (rules_result w.l env s rules v (f w.l)) (rules_result w.h env (along w.m s) rules v (f w.h))
rules_R w env s [] v f c = c w s
rules_R w env s (rule ∷ rules) v f c =
    then_W w (λ l more s1. chosen l env (out-Rule rule).body more (λ s2. rules_result l env s2 rules v (f l)) s1)
    (weaker (on (omega arith) refl) (w.both.pat env (counted 1 s) (out-Rule rule).pat v))
    (λ x more s1. chosen_R x env (out-Rule rule).body more (λ l s2. rules_result l env s2 rules v (f l)) (λ y s2. rules_R y env s2 rules v f c) s1)

match_failed_R : Continues (λ l. match_failed)
match_failed_R x s = raised (on (omega arith) refl)

constructed_steady : (c : Constructor) (v : Value) → Steady (constructed c v)
constructed_steady (con.Data d i) v m s = done (on (omega arith) refl)
constructed_steady (con.Exn number) v m s = done (on (omega arith) refl)
constructed_steady con.Ref v m s = done (on (omega arith) refl)

application_R : (w : Walk) (g : ValueLayer) (v : Value) (s : State) → S w.m s (application w.l g v s) (application w.h g v (along w.m s))
application_R w (Value-F.Prim name arguments) v s = prim_R w.l.same w.h.same (comparings w) name arguments v s
application_R w (Value-F.Maker c) v s = constructed_steady c v w.m s
application_R w (Value-F.Fun closure) v s =
    rules_R w (group_bound (out-Closure closure).group (out-Closure closure).env (out-Closure closure).group ++ (out-Closure closure).env) s (out-Closure closure).rules v (λ l. match_failed) match_failed_R
application_R w _ v s = waits_here

-- ---- expressions

by_bool_R : (w : Walk) (v : ValueLayer) (f g : Level → State → Outcome Value) → Continues f → Continues g → (s : State) → S w.m s (by_bool v (f w.l) (g w.l) s) (by_bool v (f w.h) (g w.h) (along w.m s))
by_bool_R w (Value-F.Con d i) f g c k s = if_R (same_con d i 0 1) (c w s) (k w s)
by_bool_R w _ f g c k s = waits_here

pub exp_R : (w : Walk) (env : Env) (s : State) (e : ExpLayer) → S w.m s (exp_result w.l env s e) (exp_result w.h env (along w.m s) e)
exp_R w env s (ExpForm-F.Int n) = done_here
exp_R w env s (ExpForm-F.Char c) = done_here
exp_R w env s (ExpForm-F.Str bytes) = done (on (omega arith) refl)
exp_R w env s (ExpForm-F.Name name) = bound_steady (opened (meaning name env)) w.m s
exp_R w env s ExpForm-F.Unit = done_here
exp_R w env s (ExpForm-F.Tuple es) = then_S (λ vs s1. Done (tuple_value vs) (counted (length vs) s1)) (parts_R w env s es) (λ k vs s1. done (on (omega arith) refl))
exp_R w env s (ExpForm-F.List es) = then_S list_result (parts_R w env s es) (λ k vs s1. list_steady vs k s1)
exp_R w env s (ExpForm-F.Seq es) = then_S last_value (parts_R w env s es) (λ k vs s1. last_steady vs k s1)
exp_R w env s (ExpForm-F.App f e) =
    then_W w (λ l g s1. then_do (l.exp env s1 e) (λ v s2. application l (form_of_value g) v (counted 1 s2))) (w.both.exp env s f)
    (λ x g s1. then_W x (λ l v s2. application l (form_of_value g) v (counted 1 s2)) (x.both.exp env s1 e)
    (λ y v s2. weaker (on (omega arith) refl) (application_R y (form_of_value g) v (counted 1 s2))))
exp_R w env s (ExpForm-F.Let ds es) = then_S (λ (x : Env × List Value) s1. last_value x.1 s1) (w.both.scope env env s [] (plan_of ds [] es)) (λ k x s1. last_steady x.1 k s1)
exp_R w env s (ExpForm-F.Fn rules) = done_here
exp_R w env s (ExpForm-F.Case e rules) =
    then_W w (λ l v s1. rules_result l env s1 rules v match_failed) (w.both.exp env s e) (λ x v s1. rules_R x env s1 rules v (λ l. match_failed) match_failed_R)
exp_R w env s (ExpForm-F.Handle e rules) =
    handled_W w (λ l p s1. rules_result l env s1 rules p (λ s2. Raised p s2)) (w.both.exp env s e)
    (λ x p s1. rules_R x env s1 rules p (λ l s2. Raised p s2) (λ y s2. raised (stays s2)))
exp_R w env s (ExpForm-F.Raise e) = then_S (λ p s1. Raised p s1) (w.both.exp env s e) (λ k p s1. raised (stays s1))
exp_R w env s (ExpForm-F.If test first second) =
    then_W w (λ l v s1. by_bool (form_of_value v) (λ s2. l.exp env s2 first) (λ s2. l.exp env s2 second) s1) (w.both.exp env s test)
    (λ x v s1. by_bool_R x (form_of_value v) (λ l s2. l.exp env s2 first) (λ l s2. l.exp env s2 second) (λ y s2. y.both.exp env s2 first) (λ y s2. y.both.exp env s2 second) s1)
exp_R w env s (ExpForm-F.Both left right) =
    then_W w (λ l v s1. by_bool (form_of_value v) (λ s2. l.exp env s2 right) (λ s2. Done (bool_value false) s2) s1) (w.both.exp env s left)
    (λ x v s1. by_bool_R x (form_of_value v) (λ l s2. l.exp env s2 right) (λ l s2. Done (bool_value false) s2) (λ y s2. y.both.exp env s2 right) (λ y s2. done_here) s1)
exp_R w env s (ExpForm-F.Either left right) =
    then_W w (λ l v s1. by_bool (form_of_value v) (λ s2. Done (bool_value true) s2) (λ s2. l.exp env s2 right) s1) (w.both.exp env s left)
    (λ x v s1. by_bool_R x (form_of_value v) (λ l s2. Done (bool_value true) s2) (λ l s2. l.exp env s2 right) (λ y s2. done_here) (λ y s2. y.both.exp env s2 right) s1)
exp_R w env s (ExpForm-F.Quote pieces) = then_S list_result (each_piece_R w env s pieces) (λ k vs s1. list_steady vs k s1)
exp_R w env s (ExpForm-F.Typed e t) = w.both.exp env s e

-- ---- declarations

bound_more_steady : (env : Env) (more : Option Env) → Steady (bound_more env more)
bound_more_steady env None m s = raised (on (omega arith) refl)
bound_more_steady env (Some more) m s = done_here

binding_R : (w : Walk) (outer env : Env) (s : State) (bind : Pat × Exp) → S w.m s (binding w.l outer env s bind) (binding w.h outer env (along w.m s) bind)
binding_R w outer env s bind =
    then_W w (λ l v s1. then_do (l.pat outer s1 bind.0 v) (λ more s2. bound_more env more s2)) (w.both.exp outer s bind.1)
    (λ x v s1. then_S (λ more s2. bound_more env more s2) (x.both.pat outer s1 bind.0 v) (λ k more s2. bound_more_steady env more k s2))

-- the bindings at hand, with the first of them counted
pub binding_starts : (w : Walk) (outer env : Env) (s : State) (bind : Pat × Exp) (bindings : List (Pat × Exp)) (plan : Plan)
    → S w.m (counted 1 s) (with_binding w.l outer env s bind bindings plan) (with_binding w.h outer env (along w.m s) bind bindings plan)
binding_starts w outer env s bind bindings plan =
    then_W w (λ l env1 s1. l.scope outer env1 s1 bindings plan) (binding_R w outer env (counted 1 s) bind) (λ x env1 s1. x.both.scope outer env1 s1 bindings plan)

pub dec_R : (w : Walk) (env : Env) (s : State) (d : DecLayer) (plan : Plan) → S w.m s (with_dec w.l env s d plan) (with_dec w.h env (along w.m s) d plan)
dec_R w env s (DecForm-F.Val []) plan = waits_here
dec_R w env s (DecForm-F.Val (bind ∷ bindings)) plan = weaker (on (omega arith) refl) (binding_starts w env env s bind bindings plan)
dec_R w env s (DecForm-F.ValRec fs) plan = w.both.scope env (functions_bound fs env ++ env) s [] plan
dec_R w env s (DecForm-F.Abbrev ts) plan = w.both.scope env env s [] plan
dec_R w env s (DecForm-F.DataDef ds) plan = w.both.scope env (datatypes_bound ds env) s [] plan
dec_R w env s (DecForm-F.ExnDef es) plan = w.both.scope env (exceptions_bound es env) s [] plan
dec_R w env s (DecForm-F.Local hidden shown) plan = w.both.scope env env s [] (plan_of hidden (Shows shown env plan.decs ∷ plan.pending) plan.body)

abbrev DecStep : Type 0
DecStep = Env → State → DecLayer → Plan → Outcome (Env × List Value)

pub with_coming_R : {m : Mode} (part other : Evaluator) → Evaluates m part other → Evaluates (Higher 0) other other → (f g : DecStep)
    → ((env : Env) (s : State) (d : Dec) (plan : Plan) → S m s (f env (counted 1 s) (form_of_dec d) plan) (g env (counted 1 (along m s)) (form_of_dec d) plan)) → (s : State) (body : List Exp) (c : Coming)
    → S m s (with_coming part f s body c) (with_coming other g (along m s) body c)
with_coming_R part other h k f g step s body (Comes env d plan) = step env s d plan
with_coming_R part other h k f g step s body (Ends env) = then_S (λ vs s1. Done (env, vs) s1) (each_value_R part other h k env s body) (λ i vs s1. done_here)

pub scope_R : (w : Walk) (part other : Evaluator) → Evaluates w.m part other → Evaluates (Higher 0) other other → (outer env : Env) (s : State) (bindings : List (Pat × Exp)) (plan : Plan)
    → S w.m s (scope_result part w.l outer env s bindings plan) (scope_result other w.h outer env (along w.m s) bindings plan)
scope_R w part other p q outer env s (bind ∷ bindings) plan = weaker (on (omega arith) refl) (binding_starts w outer env s bind bindings plan)
scope_R w part other p q outer env s [] plan =
    with_coming_R part other p q (with_dec w.l) (with_dec w.h) (λ env1 s1 d plan1. weaker (on (omega arith) refl) (dec_R w env1 (counted 1 s1) (form_of_dec d) plan1))
    s plan.body (coming env plan.decs plan.pending plan.body)
