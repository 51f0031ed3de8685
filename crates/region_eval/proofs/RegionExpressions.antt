-- Region expressions and declarations, side by side.
use Rattle.std.proofs.Common.{ℕ, ◌+◌, ◌*◌, List, [], ◌∷◌, ◌++◌, Option, Some, None, length, arith}
use Rattle.std.specs.Prelude.{◌==◌, ◌&&◌, nat_lt, if◌then◌else◌}
use Rattle.sml_evaluation.specs.Values.{text_size}
use Rattle.region_syntax.specs.declared.types.Place.{Place}
use Rattle.region_syntax.specs.declared.types.Effect.{Effect}
use Rattle.region_syntax.specs.UsedRegions.{arguments_of}
use Rattle.sml_syntax.specs.declared.constructor.Constructor.{Constructor}
use Rattle.sml_syntax.specs.declared.constructor.Constructor.TheVariants as con
use Rattle.region_syntax.specs.RegionTypes as t
use Rattle.region_syntax.specs.RegionTypes.{RegionType}
use Rattle.region_syntax.specs.RegionTerms as r
use Rattle.region_syntax.specs.Erasure.{erased_rules, erased_defs}
use Rattle.sml_evaluation.specs.RunState.{Raised, counted}
use Rattle.region_syntax.specs.FreeNames.{function_words, group_words}
use Rattle.region_eval.specs.RegionStore.{Value, Con, Env, Object, Str, Tuple, Applied, Packet, PacketOf, Ref, Closure, Group, Instance, Maker, Prim, Regions, Around, around_with, State, Outcome, value_at, serial_of, serial_of_type}
use Rattle.region_eval.specs.RegionEvaluation.{Evaluator, PartsEvaluator, Level, Shows, Plan, plan_of, each_value, last_of, last_value, each_piece, cells, list_result, chosen, rules_by, thrown, match_failed, constructor_result, constructed, bound_regions, function_run, instance_run, application, group_addresses, group_made, group_bound, serials_of, instance_result, held_by, by_bool, case_result, form_result, bound_more, with_binding, with_dec, Coming, Comes, Ends, coming, with_coming, scope_result}
use Rattle.region_eval.proofs.Relations.{done_R, raised_R, no_rule_R, weaker, if_R, then_R, handled_R}
use Rattle.region_eval.proofs.RegionPatterns.{S, found_R, alloc_R, follow_R, holds_R, Matches, Spreads, Compares}
use Rattle.region_eval.proofs.RegionRows.{application_R, named_R}

abbrev pub Evaluates : ℕ → Evaluator → Evaluator → Type 0
Evaluates k part other = (around : Around) (env : Env) (s : State) (e : r.Exp) → S k s.count (part around env s e) (other around env s e)

abbrev pub EvaluatesParts : ℕ → PartsEvaluator → PartsEvaluator → Type 0
EvaluatesParts k part other = (around : Around) (env : Env) (s : State) (es : r.Exps) → S k s.count (part around env s es) (other around env s es)

-- two levels side by side
pub record Levels (k : ℕ) (l h : Level) : Type 0 where
  pub exp : Evaluates k l.exp h.exp
  pub parts : EvaluatesParts k l.parts h.parts
  pub pat : Matches k l.pat h.pat
  pub spread : Spreads k l.spread h.spread
  pub same : Compares k l.same h.same
  pub scope : (around : Around) (outer env : Env) (s : State) (bindings : r.Rules) (plan : Plan) → S k s.count (l.scope around outer env s bindings plan) (h.scope around outer env s bindings plan)

abbrev pub Continues : ℕ → (State → Outcome Value) → (State → Outcome Value) → Type 0
Continues k f f1 = (s : State) → S k s.count (f s) (f1 s)

pub each_value_R : {k : ℕ} (part other : Evaluator) → Evaluates k part other → (around : Around) (env : Env) (s : State) (es : r.Exps) → S k s.count (each_value part around env s es) (each_value other around env s es)
each_value_R part other h around env s r.no_exps = done_R (omega arith)
each_value_R part other h around env s (r.exps e es) = then_R (h around env s e) (λ v s1. then_R (each_value_R part other h around env s1 es) (λ vs s2. done_R (omega arith)))

pub last_R : {k : ℕ} (vs : List Value) (s : State) → S k s.count (last_value vs s) (last_value vs s)
last_R vs s = found_R _ _ (λ v s1. done_R (omega arith)) (last_of vs) s

pub each_piece_R : {k : ℕ} (part other : Evaluator) → Evaluates k part other → (p : ℕ) (around : Around) (env : Env) (s : State) (ps : r.Pieces) → S k s.count (each_piece part p around env s ps) (each_piece other p around env s ps)
each_piece_R part other h p around env s r.no_pieces = done_R (omega arith)
each_piece_R part other h p around env s (r.plain bytes ps) =
    then_R (alloc_R s.count around.live p (Str bytes) (counted (2 + text_size bytes) s) (omega arith)) (λ x s1.
    then_R (alloc_R s1.count around.live p (Applied 4 0 x) s1 (omega arith)) (λ v s2. then_R (each_piece_R part other h p around env s2 ps) (λ vs s3. done_R (omega arith))))
each_piece_R part other h p around env s (r.anti e ps) =
    then_R (h around env s e) (λ x s1.
    then_R (alloc_R s1.count around.live p (Applied 4 1 x) (counted 2 s1) (omega arith)) (λ v s2. then_R (each_piece_R part other h p around env s2 ps) (λ vs s3. done_R (omega arith))))

pub cells_R : {k : ℕ} (live : List ℕ) (p : ℕ) (vs : List Value) (s : State) → S k s.count (cells live p vs s) (cells live p vs s)
cells_R live p [] s = done_R (omega arith)
cells_R live p (v ∷ vs) s =
    then_R (cells_R live p vs s) (λ rest s1.
    then_R (alloc_R s1.count live p (Tuple (v ∷ rest ∷ [])) s1 (omega arith)) (λ cell s2. alloc_R s2.count live p (Applied 1 1 cell) s2 (omega arith)))

pub list_R : {k : ℕ} (live : List ℕ) (p : ℕ) (vs : List Value) (s : State) → S k s.count (list_result live p vs s) (list_result live p vs s)
list_R live p vs s = weaker (s.count + 4 * length vs) (omega arith) (cells_R live p vs (counted (4 * length vs) s))

-- ---- matches and applications

pub thrown_R : {A : Type 0} {k : ℕ} (around : Around) (number : ℕ) (s : State) → S {A = A} k s.count (thrown around number s) (thrown around number s)
thrown_R around number s = then_R (alloc_R s.count around.live 1 (Packet number) (counted 2 s) (omega arith)) (λ p s1. raised_R (omega arith))

pub chosen_R : {k : ℕ} (l h : Level) → Levels k l h → (around : Around) (env : Env) (body : r.Exp) (more : Option Env) (f f1 : State → Outcome Value) → Continues k f f1 → (s : State)
    → S k s.count (chosen l around env body more f s) (chosen h around env body more f1 s)
chosen_R l h q around env body None f f1 c s = c s
chosen_R l h q around env body (Some more) f f1 c s = q.exp around (more ++ env) s body

-- on what patterns are tried
abbrev pub Tries : {V : Type 0} → ℕ → (Around → State → r.Pat → V → Outcome (Option Env)) → (Around → State → r.Pat → V → Outcome (Option Env)) → Type 0
Tries {V} k tried other = (around : Around) (s : State) (p : r.Pat) (v : V) → S k s.count (tried around s p v) (other around s p v)

pub rules_R : {V : Type 0} {k : ℕ} (tried other : Around → State → r.Pat → V → Outcome (Option Env)) → Tries k tried other → (l h : Level) → Levels k l h → (around : Around) (env : Env) (s : State) (rs : r.Rules) (v : V) (f f1 : State → Outcome Value)
    → Continues k f f1 → S k s.count (rules_by tried l around env s rs v f) (rules_by other h around env s rs v f1)
rules_R tried other t l h q around env s r.no_rules v f f1 c = c s
rules_R tried other t l h q around env s (r.rules p e rs) v f f1 c =
    then_R (weaker (s.count + 1) (omega arith) (t around (counted 1 s) p v))
    (λ more s1. chosen_R l h q around env e more (λ s2. rules_by tried l around env s2 rs v f) (λ s2. rules_by other h around env s2 rs v f1) (λ s2. rules_R tried other t l h q around env s2 rs v f f1 c) s1)

pub failed_R : {k : ℕ} (around : Around) → Continues k (match_failed around) (match_failed around)
failed_R around s = thrown_R around 0 s

pub constructor_R : {k : ℕ} (around : Around) (a : RegionType) (c : Constructor) (s : State) → S k s.count (constructor_result around a c s) (constructor_result around a c s)
constructor_R around (t.Arrow p a e b) c s = alloc_R s.count around.live (serial_of around.regions p) (Maker c (serial_of_type around.regions b)) s (omega arith)
constructor_R around a (con.Data d i) s = done_R (omega arith)
constructor_R around a (con.Exn n) s = alloc_R s.count around.live 1 (Packet n) (counted 2 s) (omega arith)
constructor_R around a con.Ref s = no_rule_R (omega arith)

pub constructed_R : {k : ℕ} (live : List ℕ) (c : Constructor) (p : ℕ) (v : Value) (s : State) → S k s.count (constructed live c p v s) (constructed live c p v s)
constructed_R live (con.Data d i) p v s = alloc_R s.count live p (Applied d i v) (counted 2 s) (omega arith)
constructed_R live (con.Exn n) p v s = alloc_R s.count live 1 (PacketOf n v) (counted 2 s) (omega arith)
constructed_R live con.Ref p v s = alloc_R s.count live p (Ref v) (counted 1 s) (omega arith)

pub run_R : {k : ℕ} (l h : Level) → Levels k l h → (around : Around) (rs : r.Rules) (regions : Regions) (env : Env) (v : Value) (s : State)
    → S k s.count (function_run l around rs regions env v s) (function_run h around rs regions env v s)
run_R l h q around rs regions env v s =
    rules_R l.pat h.pat q.pat l h q (around_with around regions) env s rs v (match_failed around) (match_failed around) (failed_R around)

pub instance_run_R : {k : ℕ} (l h : Level) → Levels k l h → (around : Around) (serials : List ℕ) (effects : ℕ) (v : Value) (o : Object) (s : State)
    → S k s.count (instance_run l around serials effects v o s) (instance_run h around serials effects v o s)
instance_run_R l h q around serials effects v (Group bound many rs regions env) s =
    holds_R (length bound == length serials && many == effects) (function_run l around rs (bound_regions bound serials regions) env v) (function_run h around rs (bound_regions bound serials regions) env v) s
    (run_R l h q around rs (bound_regions bound serials regions) env v s)
instance_run_R l h q around serials effects v _ s = no_rule_R (omega arith)

pub apply_R : {k : ℕ} (l h : Level) → Levels k l h → (around : Around) (v : Value) (o : Object) (s : State) → S k s.count (application l around v o s) (application h around v o s)
apply_R l h q around v (Prim name a serials arguments) s = application_R l.same h.same q.same around name a serials arguments v s
apply_R l h q around v (Maker c p) s = constructed_R around.live c p v s
apply_R l h q around v (Closure rs regions env) s = run_R l h q around rs regions env v s
apply_R l h q around v (Group bound many rs regions env) s =
    holds_R (length bound == 0) (function_run l around rs regions env v) (function_run h around rs regions env v) s (run_R l h q around rs regions env v s)
apply_R l h q around v (Instance f serials effects) s =
    follow_R around.live f (instance_run l around serials effects v) (instance_run h around serials effects v) (instance_run_R l h q around serials effects v) s
apply_R l h q around v _ s = no_rule_R (omega arith)

-- ---- groups

pub made_R : {k : ℕ} (around : Around) (env addresses : Env) (group : r.Defs) (s : State) → S k s.count (group_made around env addresses group s) (group_made around env addresses group s)
made_R around env addresses r.no_defs s = done_R (omega arith)
made_R around env addresses (r.defs head rs ds) s =
    then_R (alloc_R s.count around.live (serial_of around.regions head.at) (Group head.regions (length head.effects) rs around.regions (held_by rs (addresses ++ env))) s (omega arith)) (λ v s1. made_R around env addresses ds s1)

pub group_R : {k : ℕ} (around : Around) (env : Env) (group : r.Defs) (s : State) → S k s.count (group_bound around env group s) (group_bound around env group s)
group_R around env group s =
    made_R around env (group_addresses around (λ p. length (s.store.objects p)) group) group s

pub instance_R : {k : ℕ} (around : Around) (a : RegionType) (places : List Place) (effects : List Effect) (f : Value) (s : State) → S k s.count (instance_result around a places effects f s) (instance_result around a places effects f s)
instance_R around a [] effects f s = done_R (omega arith)
instance_R around a (p ∷ ps) effects f s =
    alloc_R s.count around.live (serial_of_type around.regions a) (Instance f (serials_of around.regions (p ∷ ps)) (length effects)) s (omega arith)

-- ---- expressions

pub by_bool_R : {k : ℕ} (v : Value) {f x f1 x1 : State → Outcome Value} → Continues k f f1 → Continues k x x1 → (s : State) → S k s.count (by_bool v f x s) (by_bool v f1 x1 s)
by_bool_R (Con d i) {f = f} {x = x} {f1 = f1} {x1 = x1} c e s =
    holds_R (d == 0 && nat_lt i 2) (λ s1. if i == 1 then f s1 else x s1) (λ s1. if i == 1 then f1 s1 else x1 s1) s (if_R (i == 1) (c s) (e s))
by_bool_R _ c e s = no_rule_R (omega arith)

pub case_R : {k : ℕ} (l h : Level) → Levels k l h → (around : Around) (env : Env) (s : State) (es : Option r.Exps) (e : r.Exp) (rs : r.Rules)
    → S k s.count (case_result l around env s es e rs) (case_result h around env s es e rs)
case_R l h q around env s None e rs =
    then_R (q.exp around env s e) (λ v s1. rules_R l.pat h.pat q.pat l h q around env s1 rs v (match_failed around) (match_failed around) (failed_R around))
case_R l h q around env s (Some es) e rs =
    then_R (q.parts around env s es) (λ vs s1. rules_R l.spread h.spread q.spread l h q around env s1 rs vs (match_failed around) (match_failed around) (failed_R around))

pub form_R : {k : ℕ} (l h : Level) → Levels k l h → (around : Around) (env : Env) (s : State) (a : RegionType) (form : r.Form) → S k s.count (form_result l around env s a form) (form_result h around env s a form)
form_R l h q around env s a (r.Int n) = done_R (omega arith)
form_R l h q around env s a (r.Char c) = done_R (omega arith)
form_R l h q around env s a (r.Str bytes at) = alloc_R s.count around.live (serial_of around.regions at) (Str bytes) (counted (text_size bytes) s) (omega arith)
form_R l h q around env s a (r.Name name) = found_R _ _ (λ v s1. done_R (omega arith)) (value_at name env) s
form_R l h q around env s a (r.Prim name) = named_R around name a s
form_R l h q around env s a (r.Con c) = constructor_R around a c s
form_R l h q around env s a r.Unit = done_R (omega arith)
form_R l h q around env s a (r.Tuple es at) =
    then_R (each_value_R l.exp h.exp q.exp around env s es) (λ vs s1. alloc_R s1.count around.live (serial_of around.regions at) (Tuple vs) (counted (length vs) s1) (omega arith))
form_R l h q around env s a (r.List_of es at) = then_R (each_value_R l.exp h.exp q.exp around env s es) (λ vs s1. list_R around.live (serial_of around.regions at) vs s1)
form_R l h q around env s a (r.Seq es) = then_R (each_value_R l.exp h.exp q.exp around env s es) last_R
form_R l h q around env s a (r.App f e) =
    then_R (q.exp around env s f) (λ x s1. then_R (q.exp around env s1 e) (λ v s2.
    weaker (s2.count + 1) (omega arith) (follow_R around.live x (application l around v) (application h around v) (apply_R l h q around v) (counted 1 s2))))
form_R l h q around env s a (r.Let ds es) = then_R (q.scope around env env s r.no_rules (plan_of ds [] es)) (λ x s1. last_R x.1 s1)
form_R l h q around env s a (r.Fn rs at) =
    alloc_R s.count around.live (serial_of around.regions at) (Closure rs around.regions (held_by rs env)) (counted (function_words (erased_rules rs)) s) (omega arith)
form_R l h q around env s a (r.Case e rs) = case_R l h q around env s (arguments_of e rs) e rs
form_R l h q around env s a (r.Handle e rs) =
    handled_R (q.exp around env s e) (λ p s1. rules_R l.pat h.pat q.pat l h q around env s1 rs p (λ s2. Raised p s2) (λ s2. Raised p s2) (λ s2. raised_R (omega arith)))
form_R l h q around env s a (r.Raise e) = then_R (q.exp around env s e) (λ p s1. raised_R (omega arith))
form_R l h q around env s a (r.If x y z) = then_R (q.exp around env s x) (λ v s1. by_bool_R v (λ s2. q.exp around env s2 y) (λ s2. q.exp around env s2 z) s1)
form_R l h q around env s a (r.Both x y) = then_R (q.exp around env s x) (λ v s1. by_bool_R v (λ s2. q.exp around env s2 y) (λ s2. done_R (omega arith)) s1)
form_R l h q around env s a (r.Either x y) = then_R (q.exp around env s x) (λ v s1. by_bool_R v (λ s2. done_R (omega arith)) (λ s2. q.exp around env s2 y) s1)
form_R l h q around env s a (r.Quote ps at) =
    then_R (each_piece_R l.exp h.exp q.exp (serial_of around.regions at) around env s ps) (λ vs s1. list_R around.live (serial_of around.regions at) vs s1)
form_R l h q around env s a (r.LetRegion rs e) = no_rule_R (omega arith)
form_R l h q around env s a (r.Fix ds e) = then_R (q.scope around env env s r.no_rules (plan_of (r.funs ds r.no_decs) [] (r.exps e r.no_exps))) (λ x s1. last_R x.1 s1)
form_R l h q around env s a (r.Inst name places effects) =
    found_R _ _ (λ v s1. instance_R around a places effects v s1) (value_at name env) s

-- ---- declarations

pub bound_R : {k : ℕ} (around : Around) (env : Env) (more : Option Env) (s : State) → S k s.count (bound_more around env more s) (bound_more around env more s)
bound_R around env None s = thrown_R around 1 s
bound_R around env (Some more) s = done_R (omega arith)

pub with_binding_R : {k : ℕ} (l h : Level) → Levels k l h → (around : Around) (outer env : Env) (s : State) (p : r.Pat) (e : r.Exp) (bindings : r.Rules) (plan : Plan)
    → S k (s.count + 1) (with_binding l around outer env s p e bindings plan) (with_binding h around outer env s p e bindings plan)
with_binding_R l h q around outer env s p e bindings plan =
    then_R (then_R (q.exp around outer (counted 1 s) e) (λ v s1. then_R (q.pat around s1 p v) (λ more s2. bound_R around env more s2))) (λ env1 s1. q.scope around outer env1 s1 bindings plan)

pub with_dec_R : {k : ℕ} (l h : Level) → Levels k l h → (around : Around) (env : Env) (s : State) (d : r.Dec) (plan : Plan) → S k s.count (with_dec l around env s d plan) (with_dec h around env s d plan)
with_dec_R l h q around env s (r.val_dec r.no_rules) plan = no_rule_R (omega arith)
with_dec_R l h q around env s (r.val_dec (r.rules p e bindings)) plan = weaker (s.count + 1) (omega arith) (with_binding_R l h q around env env s p e bindings plan)
with_dec_R l h q around env s (r.fun_dec group) plan =
    then_R (weaker (s.count + group_words (erased_defs group)) (omega arith) (group_R around env group (counted (group_words (erased_defs group)) s)))
    (λ bound s1. q.scope around env (bound ++ env) s1 r.no_rules plan)
with_dec_R l h q around env s (r.local_dec hidden shown) plan = q.scope around env env s r.no_rules (plan_of hidden (Shows shown env plan.decs ∷ plan.pending) plan.body)

-- the same, with the next declaration counted
pub dec_starts : {k : ℕ} (l h : Level) → Levels k l h → (around : Around) (env : Env) (s : State) (d : r.Dec) (plan : Plan)
    → S k (s.count + 1) (with_dec l around env (counted 1 s) d plan) (with_dec h around env (counted 1 s) d plan)
dec_starts l h q around env s d plan = with_dec_R l h q around env (counted 1 s) d plan

pub with_coming_R : {k : ℕ} (part other : Evaluator) → Evaluates k part other → (f f1 : Env → State → r.Dec → Plan → Outcome (Env × List Value))
    → ((env : Env) (s : State) (d : r.Dec) (plan : Plan) → S k s.count (f env (counted 1 s) d plan) (f1 env (counted 1 s) d plan)) → (around : Around) (s : State) (body : r.Exps) (c : Coming)
    → S k s.count (with_coming part f around s body c) (with_coming other f1 around s body c)
with_coming_R part other h f f1 step around s body (Comes env d plan) = step env s d plan
with_coming_R part other h f f1 step around s body (Ends env) = then_R (each_value_R part other h around env s body) (λ vs s1. done_R (omega arith))

pub scope_R : {k : ℕ} (l h : Level) → Levels k l h → (part other : Evaluator) → Evaluates k part other → (around : Around) (outer env : Env) (s : State) (bindings : r.Rules) (plan : Plan)
    → S k s.count (scope_result part l around outer env s bindings plan) (scope_result other h around outer env s bindings plan)
scope_R l h q part other p around outer env s (r.rules x e bindings) plan = weaker (s.count + 1) (omega arith) (with_binding_R l h q around outer env s x e bindings plan)
scope_R l h q part other p around outer env s r.no_rules plan =
    with_coming_R part other p (with_dec l around) (with_dec h around) (λ env1 s1 d plan1. weaker (s1.count + 1) (omega arith) (dec_starts l h q around env1 s1 d plan1)) around s plan.body
    (coming env plan.decs plan.pending plan.body)
