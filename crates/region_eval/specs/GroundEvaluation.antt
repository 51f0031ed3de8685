-- The evaluation of specialised terms: a function of a height, by which it ends. The rules are those of the evaluation of programs.
-- The Definition of Standard ML, section 6.7, and appendix A for the derived forms. A function is evaluated before its argument, and
-- parts from left to right; parts stop at the first outcome that gives nothing, and `handle` alone takes a packet.
-- At height 0 the height has run out. The parts of a form, a function's body and the rules of a match are evaluated at a height that is
-- lower by one, and so are the parts of values that are compared. Each binding uses up height for all that comes after it in its scope.
-- One is counted for each expression, declaration and binding, each rule and node of a pattern that is tried, each application and each
-- pair of values compared, when it is begun; and the words of the values made, a function's with the nodes of the types of the names free in it.
use Rattle.std.specs.Prelude.{ℕ, zero, suc, ◌+◌, ◌-◌, ◌*◌, ◌==◌, ℤ, Bool, true, false, List, [], ◌∷◌, ◌++◌, length, slice_get, Option, Some, None, if◌then◌else◌}
use Rattle.std.specs.Str.{bytes_eq}
use Rattle.sml_evaluation.specs.Values.{same_con, text_size}
use Rattle.sml_evaluation.specs.Evaluation.{same_int}
use Rattle.sml_syntax.specs.declared.constructor.Constructor.{Constructor}
use Rattle.sml_syntax.specs.declared.constructor.Constructor.TheVariants as con
use Rattle.region_syntax.specs.GroundTypes as t
use Rattle.region_syntax.specs.GroundTypes.{GroundType}
use Rattle.region_syntax.specs.GroundTerms as g
use Rattle.sml_evaluation.specs.RunState.{Done, Raised, Over, Waits, then_do, handled, found, counted, storing}
use Rattle.region_eval.specs.GroundValues.{Value, Int, Char, Str, Unit, Tuple, Con, Applied, Packet, PacketOf, Ref, Fun, Maker, Prim, Values, no_values, values, many_values, last_of, list_value, bool_value, Env, no_names, bind, value_at, before, many_names, first_names, bindings_of}
use Rattle.region_syntax.specs.FreeNames.{free_in_rules, free_in_group, function_words, group_words}
use Rattle.region_eval.specs.GroundPrimitives.{State, Outcome, Comparing, prim_application, prim_named}

-- ---- the evaluations of parts

-- an expression, in an environment
abbrev pub Evaluator : Type 0
Evaluator = Env → State → g.Exp → Outcome Value

-- a pattern and a value: the names that it binds, or `None` where it doesn't fit
abbrev pub Matcher : Type 0
Matcher = State → g.Pat → Value → Outcome (Option Env)

-- what is open around declarations: the `local`s whose hidden declarations are evaluated, with their shown ones, and those whose shown
-- ones are, with the number of bindings before these; each with the environment outside and the declarations that follow it
pub data Pending : Type 0 where
  Shows : g.Decs → Env → g.Decs → Pending
  Hides : ℕ → Env → g.Decs → Pending

-- what comes behind the bindings at hand: declarations, what is open around them, and the expressions of a `let`
pub record Plan : Type 0 where
  pub decs : g.Decs
  pub pending : List Pending
  pub body : g.Exps

abbrev pub plan_of : g.Decs → List Pending → g.Exps → Plan
plan_of decs pending body = record { decs = decs; pending = pending; body = body }

-- the bindings that are left of a `val` that is evaluated in an outer environment, in the environment so far, and what comes behind them:
-- the last environment, and the values of the expressions
abbrev pub Scoping : Type 0
Scoping = Env → Env → State → g.Rules → Plan → Outcome (Env × Values)

-- the evaluations at one height
pub record Level : Type 0 where
  pub exp : Evaluator
  pub pat : Matcher
  pub same : Comparing
  pub scope : Scoping

-- ---- lists of parts

-- the values of parts, from left to right
abbrev pub each_value : Evaluator → Env → State → g.Exps → Outcome Values
each_value part env s g.no_exps = Done no_values s
each_value part env s (g.exps e es) = then_do (part env s e) (λ v s1. then_do (each_value part env s1 es) (λ vs s2. Done (values v vs) s2))

-- the last of them
abbrev pub last_value : Values → State → Outcome Value
last_value vs s = found (λ v s1. Done v s1) (last_of vs) s

-- the pieces of a quotation: `QUOTE` of a text, or `ANTIQUOTE` of a value
abbrev pub each_piece : Evaluator → Env → State → g.Pieces → Outcome Values
each_piece part env s g.no_pieces = Done no_values s
each_piece part env s (g.plain bytes ps) =
    then_do (each_piece part env (counted (2 + text_size bytes) s) ps) (λ vs s1. Done (values (Applied 4 0 (Str bytes)) vs) s1)
each_piece part env s (g.anti e ps) =
    then_do (part env s e) (λ v s1. then_do (each_piece part env (counted 2 s1) ps) (λ vs s2. Done (values (Applied 4 1 v) vs) s2))

-- a list made of values: four words for each
abbrev pub list_result : Values → State → Outcome Value
list_result vs s = Done (list_value vs) (counted (4 * many_values vs) s)

-- ---- patterns

-- nothing is bound, where it fits
abbrev pub fits_if : Bool → State → Outcome (Option Env)
fits_if true s = Done (Some no_names) s
fits_if false s = Done None s

-- the names bound so far, and those that what follows binds, as long as all fits
abbrev pub joined : Env → Option Env → Option Env
joined more None = None
joined more (Some others) = Some (before others more)

abbrev pub and_more : Option Env → (State → Outcome (Option Env)) → State → Outcome (Option Env)
and_more None next s = Done None s
and_more (Some more) next s = then_do (next s) (λ others s1. Done (joined more others) s1)

-- patterns and values, from left to right
abbrev pub each_match : Matcher → State → g.Pats → Values → Outcome (Option Env)
each_match part s g.no_pats no_values = Done (Some no_names) s
each_match part s (g.pats p ps) (values v vs) = then_do (part s p v) (λ more s1. and_more more (λ s2. each_match part s2 ps vs) s1)
each_match part s _ _ = Waits s

-- the first item of a list, and then the others
abbrev pub cell_match : Matcher → State → g.Pat → (State → Value → Outcome (Option Env)) → Value → Outcome (Option Env)
cell_match part s p next (Tuple (values head (values tail no_values))) = then_do (part s p head) (λ more s1. and_more more (λ s2. next s2 tail) s1)
cell_match part s p next _ = Waits s

-- the pattern `[p1, .., pn]`
abbrev pub list_match : Matcher → State → g.Pats → Value → Outcome (Option Env)
list_match part s g.no_pats (Con d i) = fits_if (same_con d i 1 0) s
list_match part s g.no_pats (Applied d i cell) = fits_if false s
list_match part s (g.pats p ps) (Con d i) = fits_if false s
list_match part s (g.pats p ps) (Applied d i cell) = cell_match part s p (λ s1 tail. list_match part s1 ps tail) cell
list_match part s _ _ = Waits s

-- a constructor without an argument
abbrev pub constructor_match : Constructor → Value → State → Outcome (Option Env)
constructor_match (con.Data d i) (Con e j) s = fits_if (same_con d i e j) s
constructor_match (con.Data d i) (Applied e j v) s = fits_if false s
constructor_match (con.Exn n) (Packet m) s = fits_if (n == m) s
constructor_match (con.Exn n) (PacketOf m v) s = fits_if (n == m) s
constructor_match _ _ s = Waits s

-- a constructor on its argument; that of `ref` is what the reference holds at this moment
abbrev pub held_match : Matcher → State → g.Pat → Option Value → Outcome (Option Env)
held_match part s p None = Waits s
held_match part s p (Some v) = part s p v

abbrev pub applied_match : Matcher → State → Constructor → g.Pat → Value → Outcome (Option Env)
applied_match part s (con.Data d i) p (Con e j) = fits_if false s
applied_match part s (con.Data d i) p (Applied e j v) = if same_con d i e j then part s p v else fits_if false s
applied_match part s (con.Exn n) p (Packet m) = fits_if false s
applied_match part s (con.Exn n) p (PacketOf m v) = if n == m then part s p v else fits_if false s
applied_match part s con.Ref p (Ref number) = held_match part s p (slice_get s.store number)
applied_match part s _ p _ = Waits s

-- a constant; a text of a pattern is made when it is tried
abbrev pub int_match : ℤ → Value → State → Outcome (Option Env)
int_match n (Int m) s = fits_if (same_int n m) s
int_match n _ s = Waits s

abbrev pub char_match : ℕ → Value → State → Outcome (Option Env)
char_match c (Char d) s = fits_if (c == d) s
char_match c _ s = Waits s

abbrev pub text_match : List ℕ → Value → State → Outcome (Option Env)
text_match bytes (Str other) s = fits_if (bytes_eq bytes other) (counted (text_size bytes) s)
text_match bytes _ s = Waits s

abbrev pub tuple_match : Matcher → State → g.Pats → Value → Outcome (Option Env)
tuple_match part s ps (Tuple vs) = each_match part s ps vs
tuple_match part s ps _ = Waits s

-- a pattern by its form
abbrev pub pat_result : Matcher → State → g.Pat → Value → Outcome (Option Env)
pat_result part s (g.pat t g.AnyPat) v = fits_if true s
pat_result part s (g.pat t (g.IntPat n)) v = int_match n v s
pat_result part s (g.pat t (g.CharPat c)) v = char_match c v s
pat_result part s (g.pat t (g.StrPat bytes)) v = text_match bytes v s
pat_result part s (g.pat t g.UnitPat) v = fits_if true s
pat_result part s (g.pat t (g.NamePat name)) v = Done (Some (bind name v no_names)) s
pat_result part s (g.pat t (g.TuplePat ps)) v = tuple_match part s ps v
pat_result part s (g.pat t (g.ListPat ps)) v = list_match part s ps v
pat_result part s (g.pat t (g.ConPat c)) v = constructor_match c v s
pat_result part s (g.pat t (g.AppPat c p)) v = applied_match part s c p v

-- ---- equality

-- parts of values, from left to right, as long as they are equal
abbrev pub and_same : Bool → (State → Outcome Bool) → State → Outcome Bool
and_same true next s = next s
and_same false next s = Done false s

abbrev pub each_same : Comparing → Values → Values → State → Outcome Bool
each_same part no_values no_values s = Done true s
each_same part (values v vs) (values w ws) s = then_do (part v w s) (λ b s1. and_same b (each_same part vs ws) s1)
each_same part _ _ s = Waits s

-- two values: references are equal where they are one, and functions and packets have no equality
abbrev pub same_result : Comparing → Value → Value → State → Outcome Bool
same_result part (Int a) (Int b) s = Done (same_int a b) s
same_result part (Char a) (Char b) s = Done (a == b) s
same_result part (Str a) (Str b) s = Done (bytes_eq a b) s
same_result part Unit Unit s = Done true s
same_result part (Tuple vs) (Tuple ws) s = each_same part vs ws s
same_result part (Con d i) (Con e j) s = Done (same_con d i e j) s
same_result part (Con d i) (Applied e j w) s = Done false s
same_result part (Applied d i v) (Con e j) s = Done false s
same_result part (Applied d i v) (Applied e j w) s = if same_con d i e j then part v w s else Done false s
same_result part (Ref a) (Ref b) s = Done (a == b) s
same_result part _ _ s = Waits s

-- ---- matches and applications

-- an exception without an argument is raised, a packet of two words
abbrev pub thrown : {A : Type 0} → ℕ → State → Outcome A
thrown number s = Raised (Packet number) (counted 2 s)

-- the rules of a match, from the first to the last: `otherwise` follows where none fits
abbrev pub chosen : Level → Env → g.Exp → Option Env → (State → Outcome Value) → State → Outcome Value
chosen low env body None otherwise s = otherwise s
chosen low env body (Some more) otherwise s = low.exp (before more env) s body

abbrev pub rules_result : Level → Env → State → g.Rules → Value → (State → Outcome Value) → Outcome Value
rules_result low env s g.no_rules v otherwise = otherwise s
rules_result low env s (g.rules p e rs) v otherwise =
    then_do (low.pat (counted 1 s) p v) (λ more s1. chosen low env e more (λ s2. rules_result low env s2 rs v otherwise) s1)

-- no rule fits: `Match`
abbrev pub match_failed : {A : Type 0} → State → Outcome A
match_failed s = thrown 0 s

-- the functions of a declaration, by their names
abbrev pub group_bound : g.Defs → Env → g.Defs → Env
group_bound g.no_defs env group = no_names
group_bound (g.defs name rs ds) env group = bind name (Fun rs env group) (group_bound ds env group)

-- a constructor that stands for a value, or for a function
abbrev pub constructor_result : GroundType → Constructor → State → Outcome Value
constructor_result (t.Arrow a b) c s = Done (Maker c) s
constructor_result a (con.Data d i) s = Done (Con d i) s
constructor_result a (con.Exn n) s = Done (Packet n) (counted 2 s)
constructor_result a con.Ref s = Waits s

-- a constructor on its argument, of two words; `ref` makes a reference, of one
abbrev pub constructed : Constructor → Value → State → Outcome Value
constructed (con.Data d i) v s = Done (Applied d i v) (counted 2 s)
constructed (con.Exn n) v s = Done (PacketOf n v) (counted 2 s)
constructed con.Ref v s = Done (Ref (length s.store)) (counted 1 (storing (s.store ++ v ∷ []) s))

-- a function applied to its argument
abbrev pub application : Level → Value → Value → State → Outcome Value
application low (Prim name arguments) v s = prim_application low.same name arguments v s
application low (Maker c) v s = constructed c v s
application low (Fun rs env group) v s = rules_result low (before (group_bound group env group) env) s rs v match_failed
application low _ v s = Waits s

-- ---- expressions

-- by a bool
abbrev pub by_bool : Value → (State → Outcome Value) → (State → Outcome Value) → State → Outcome Value
by_bool (Con d i) first second s = if same_con d i 0 1 then first s else second s
by_bool _ first second s = Waits s

-- an expression by its form, the parts at the lower level
abbrev pub form_result : Level → Env → State → GroundType → g.Form → Outcome Value
form_result low env s a (g.Int n) = Done (Int n) s
form_result low env s a (g.Char c) = Done (Char c) s
form_result low env s a (g.Str bytes) = Done (Str bytes) (counted (text_size bytes) s)
form_result low env s a (g.Name name) = found (λ v s1. Done v s1) (value_at name env) s
form_result low env s a (g.Prim name) = prim_named name s
form_result low env s a (g.Con c) = constructor_result a c s
form_result low env s a g.Unit = Done Unit s
form_result low env s a (g.Tuple es) = then_do (each_value low.exp env s es) (λ vs s1. Done (Tuple vs) (counted (many_values vs) s1))
form_result low env s a (g.List_of es) = then_do (each_value low.exp env s es) list_result
form_result low env s a (g.Seq es) = then_do (each_value low.exp env s es) last_value
form_result low env s a (g.App f e) = then_do (low.exp env s f) (λ h s1. then_do (low.exp env s1 e) (λ v s2. application low h v (counted 1 s2)))
form_result low env s a (g.Let ds es) = then_do (low.scope env env s g.no_rules (plan_of ds [] es)) (λ r s1. last_value r.1 s1)
form_result low env s a (g.Fn rs) = Done (Fun rs (bindings_of (free_in_rules rs) env) g.no_defs) (counted (function_words rs) s)
form_result low env s a (g.Case e rs) = then_do (low.exp env s e) (λ v s1. rules_result low env s1 rs v match_failed)
form_result low env s a (g.Handle e rs) = handled (low.exp env s e) (λ p s1. rules_result low env s1 rs p (λ s2. Raised p s2))
form_result low env s a (g.Raise e) = then_do (low.exp env s e) (λ p s1. Raised p s1)
form_result low env s a (g.If x y z) = then_do (low.exp env s x) (λ v s1. by_bool v (λ s2. low.exp env s2 y) (λ s2. low.exp env s2 z) s1)
form_result low env s a (g.Both x y) = then_do (low.exp env s x) (λ v s1. by_bool v (λ s2. low.exp env s2 y) (λ s2. Done (bool_value false) s2) s1)
form_result low env s a (g.Either x y) = then_do (low.exp env s x) (λ v s1. by_bool v (λ s2. Done (bool_value true) s2) (λ s2. low.exp env s2 y) s1)
form_result low env s a (g.Quote ps) = then_do (each_piece low.exp env s ps) list_result

abbrev pub exp_result : Level → Env → State → g.Exp → Outcome Value
exp_result low env s (g.exp a form) = form_result low env s a form

-- ---- declarations

-- the names that a match binds, before those that are bound already, or `Bind`
abbrev pub bound_more : Env → Option Env → State → Outcome Env
bound_more env None s = thrown 1 s
bound_more env (Some more) s = Done (before more env) s

-- one binding: its expression where nothing of its own declaration is bound, then its pattern
abbrev pub binding : Level → Env → Env → State → g.Pat → g.Exp → Outcome Env
binding low outer env s p e = then_do (low.exp outer s e) (λ v s1. then_do (low.pat s1 p v) (λ more s2. bound_more env more s2))

-- a binding, and then what comes behind it: each binding uses up height for all that comes after it in its scope
abbrev pub with_binding : Level → Env → Env → State → g.Pat → g.Exp → g.Rules → Plan → Outcome (Env × Values)
with_binding low outer env s p e bindings plan =
    then_do (binding low outer env (counted 1 s) p e) (λ env1 s1. low.scope outer env1 s1 bindings plan)

-- the functions of a declaration hold what the names free in them all stand for
abbrev pub functions_bound : g.Defs → Env → Env
functions_bound group env = group_bound group (bindings_of (free_in_group group) env) group

-- a declaration, and then what comes behind it, at a height that is lower by one: the further bindings of a `val` use up more
abbrev pub with_dec : Level → Env → State → g.Dec → Plan → Outcome (Env × Values)
with_dec low env s (g.val_dec g.no_rules) plan = Waits s
with_dec low env s (g.val_dec (g.rules p e bindings)) plan = with_binding low env env s p e bindings plan
with_dec low env s (g.fun_dec group) plan = low.scope env (before (functions_bound group env) env) (counted (group_words group) s) g.no_rules plan
with_dec low env s (g.local_dec hidden shown) plan = low.scope env env s g.no_rules (plan_of hidden (Shows shown env plan.decs ∷ plan.pending) plan.body)

-- what comes next: the first declaration that is left in its environment, with what comes behind it, or the end
pub data Coming : Type 0 where
  Comes : Env → g.Dec → Plan → Coming
  Ends : Env → Coming

-- the first of declarations with the others, or what else comes
abbrev pub first_of : Env → g.Decs → List Pending → g.Exps → Coming → Coming
first_of env g.no_decs pending body otherwise = otherwise
first_of env (g.vals bindings ds) pending body otherwise = Comes env (g.val_dec bindings) (plan_of ds pending body)
first_of env (g.funs group ds) pending body otherwise = Comes env (g.fun_dec group) (plan_of ds pending body)
first_of env (g.locals hidden shown ds) pending body otherwise = Comes env (g.local_dec hidden shown) (plan_of ds pending body)

-- the bindings that come before so many
abbrev pub shown_of : ℕ → Env → Env
shown_of count env = first_names (many_names env - count) env

-- what is open around declarations
abbrev pub opening : Env → List Pending → g.Exps → Coming
opening env [] body = Ends env
opening env (Shows shown outer after ∷ pending) body =
    first_of env shown (Hides (many_names env) outer after ∷ pending) body (first_of outer after pending body (opening outer pending body))
opening env (Hides count outer after ∷ pending) body =
    first_of (before (shown_of count env) outer) after pending body (opening (before (shown_of count env) outer) pending body)

-- the declarations, or else what is open around them
abbrev pub coming : Env → g.Decs → List Pending → g.Exps → Coming
coming env decs pending body = first_of env decs pending body (opening env pending body)

-- what the next one gives: the values of the expressions where there is none
abbrev pub with_coming : Evaluator → (Env → State → g.Dec → Plan → Outcome (Env × Values)) → State → g.Exps → Coming → Outcome (Env × Values)
with_coming here dec s body (Comes env d plan) = dec env (counted 1 s) d plan
with_coming here dec s body (Ends env) = then_do (each_value here env s body) (λ vs s1. Done (env, vs) s1)

-- what is left of a declaration, and what comes behind it; the expressions of a `let` come at the height that is left
abbrev pub scope_result : Evaluator → Level → Scoping
scope_result here low outer env s (g.rules p e bindings) plan = with_binding low outer env s p e bindings plan
scope_result here low outer env s g.no_rules plan = with_coming here (with_dec low) s plan.body (coming env plan.decs plan.pending plan.body)

-- ---- heights

-- at height 0: all but an end has run out
abbrev pub over_scope : Scoping
over_scope outer env s (g.rules p e bindings) plan = Over s
over_scope outer env s g.no_rules plan =
    with_coming (λ env1 s1 e. Over s1) (λ env1 s1 d plan1. Over s) s plan.body (coming env plan.decs plan.pending plan.body)

abbrev pub nothing : Level
nothing = record {
  exp = λ env s e. Over s;
  pat = λ s p v. Over s;
  same = λ v w s. Over s;
  scope = over_scope;
}

-- at the height above another
abbrev pub exp_above : Level → Evaluator
exp_above low env s e = exp_result low env (counted 1 s) e

abbrev pub above : Level → Level
above low = record {
  exp = exp_above low;
  pat = λ s p v. pat_result low.pat (counted 1 s) p v;
  same = λ v w s. same_result low.same v w (counted 1 s);
  scope = scope_result (exp_above low) low;
}

abbrev pub level : ℕ → Level
level zero = nothing
level (suc n) = above (level n)

-- an expression at a height
abbrev pub eval : ℕ → Evaluator
eval n = (level n).exp

-- a pattern at a height
abbrev pub match_pat : ℕ → Matcher
match_pat n = (level n).pat

-- declarations, from left to right
abbrev pub eval_decs : ℕ → Env → State → g.Decs → Outcome Env
eval_decs n env s decs = then_do ((level n).scope env env s g.no_rules (plan_of decs [] g.no_exps)) (λ r s1. Done r.0 s1)
