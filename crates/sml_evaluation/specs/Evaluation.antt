-- The evaluation of expressions, patterns and declarations: a function of a height, by which it ends.
-- The Definition of Standard ML, section 6.7, and appendix A for the derived forms. A function is evaluated before its argument, and
-- parts from left to right; parts stop at the first outcome that gives nothing, and `handle` alone takes a packet.
-- At height 0 the height has run out. The parts of a form, a function's body and the rules of a match are evaluated at a height that is
-- lower by one, and so are the parts of values that are compared. A greater height changes no outcome but that the height ran out.
-- One is counted for each expression, declaration and binding, each rule and node of a pattern that is tried, each application and each
-- pair of values compared, when it is begun; and the words of the values made, functions aside.
use Rattle.std.specs.Prelude.{ℕ, zero, suc, ◌+◌, ◌-◌, ◌*◌, ◌==◌, ℤ, pos, negsuc, Bool, true, false, List, [], ◌∷◌, ◌++◌, length, take, slice_get, Option, Some, None, is_some, if◌then◌else◌}
use Rattle.std.specs.Str.{bytes_eq}
use Rattle.sml_syntax.specs.declared.constructor.Constructor.{Constructor}
use Rattle.sml_syntax.specs.declared.constructor.Constructor.TheVariants as con
use Rattle.sml_syntax.specs.declared.tree.Exp.{Exp}
use Rattle.sml_syntax.specs.declared.tree.Dec.{Dec}
use Rattle.sml_syntax.specs.declared.tree.Pat.{Pat}
use Rattle.sml_syntax.specs.declared.tree.Ty.{Ty}
use Rattle.sml_syntax.specs.declared.tree.Rule.{Rule, out-Rule}
use Rattle.sml_syntax.specs.declared.tree.Piece.{Piece, out-Piece}
use Rattle.sml_syntax.specs.declared.tree.DecForm.{DecForm}
use Rattle.sml_syntax.specs.declared.tree.ExpForm.{ExpForm}
use Rattle.sml_syntax.specs.declared.tree.DecForm.TheOpen.{DecForm-F, ExpForm-F, Piece-F}
use Rattle.sml_syntax.specs.declared.tree.PatForm.TheOpen.{PatForm-F}
use Rattle.sml_evaluation.specs.declared.value.Value.{Value}
use Rattle.sml_evaluation.specs.declared.value.Bound.{Bound, roll-Bound, out-Bound}
use Rattle.sml_evaluation.specs.declared.value.Bound.TheOpen.{Value-F, Bound-F}
use Rattle.sml_evaluation.specs.declared.value.Closure.{out-Closure}
use Rattle.sml_syntax.specs.Layers.{ExpLayer, DecLayer, PatLayer, form_of_exp, form_of_dec, form_of_pat}
use Rattle.sml_evaluation.specs.ValueLayers.{ValueLayer, form_of_value}
use Rattle.sml_evaluation.specs.Values.{int_value, char_value, unit_value, bool_value, tuple_value, con_value, applied_value, maker_value, list_value, quote_value, antiquote_value, exn_value, packet_value, ref_value, function_value, same_con, text_size, Env, BoundLayer, bound_of, opened}
use Rattle.sml_evaluation.specs.RunState.{Done, Raised, Over, Waits, then_do, handled, counted, storing}
use Rattle.sml_evaluation.specs.Outcome.{State, Outcome}
use Rattle.sml_evaluation.specs.Mentioned.{in_rules, in_group}
use Rattle.sml_evaluation.specs.Primitives.{Comparing, thrown, text_result, prim_result, basis}

-- ---- the evaluations of parts

-- an expression, in an environment
abbrev pub Evaluator : Type 0
Evaluator = Env → State → Exp → Outcome Value

-- a pattern and a value: the names that it binds, or `None` where it doesn't fit
abbrev pub Matcher : Type 0
Matcher = Env → State → Pat → Value → Outcome (Option Env)

-- what is open around declarations: the `local`s whose hidden declarations are evaluated, with their shown ones, and those whose shown
-- ones are, with the number of bindings before these; each with the environment outside and the declarations that follow it
pub data Pending : Type 0 where
  Shows : List Dec → Env → List Dec → Pending
  Hides : ℕ → Env → List Dec → Pending

-- what comes behind the bindings at hand: declarations, what is open around them, and the expressions of a `let`
pub record Plan : Type 0 where
  pub decs : List Dec
  pub pending : List Pending
  pub body : List Exp

abbrev pub plan_of : List Dec → List Pending → List Exp → Plan
plan_of decs pending body = record { decs = decs; pending = pending; body = body }

-- the bindings that are left of a `val` that is evaluated in an outer environment, in the environment so far, and what comes behind them:
-- the last environment, and the values of the expressions
abbrev pub Scoping : Type 0
Scoping = Env → Env → State → List (Pat × Exp) → Plan → Outcome (Env × List Value)

-- the evaluations at one height
pub record Level : Type 0 where
  pub exp : Evaluator
  pub pat : Matcher
  pub same : Comparing
  pub scope : Scoping

-- ---- names

-- what a name stands for: what the program binds it to, or what the basis says
abbrev pub or_basis : List ℕ → Option Bound → Option Bound
or_basis name None = bound_of name basis
or_basis name (Some b) = Some b

abbrev pub meaning : List ℕ → Env → Option Bound
meaning name env = or_basis name (bound_of name env)

-- what a name in an expression gives; a packet takes two words
abbrev pub constructor_result : Constructor → State → Outcome Value
constructor_result (con.Data d i) s = Done (con_value d i) s
constructor_result (con.Exn number) s = Done (exn_value number) (counted 2 s)
constructor_result con.Ref s = Waits s

abbrev pub bound_result : Option BoundLayer → State → Outcome Value
bound_result None s = Waits s
bound_result (Some (Bound-F.Variable v)) s = Done v s
bound_result (Some (Bound-F.Constructor c false)) s = constructor_result c s
bound_result (Some (Bound-F.Constructor c true)) s = Done (maker_value c) s

-- what the program binds these names to
abbrev pub held_one : List ℕ → Option Bound → Env → Env
held_one name None env = env
held_one name (Some b) env = (name, b) ∷ env

abbrev pub held_names : List (List ℕ) → Env → Env
held_names [] env = []
held_names (name ∷ names) env = held_one name (bound_of name env) (held_names names env)

-- what the names that stand in rules are bound to
abbrev pub held_by : Env → List Rule → Env
held_by env rules = held_names (in_rules rules) env

-- ---- lists of parts

-- the values of parts, from left to right
abbrev pub each_value : Evaluator → Env → State → List Exp → Outcome (List Value)
each_value part env s [] = Done [] s
each_value part env s (e ∷ es) = then_do (part env s e) (λ v s1. then_do (each_value part env s1 es) (λ vs s2. Done (v ∷ vs) s2))

-- the last of them
abbrev pub last_value : List Value → State → Outcome Value
last_value [] s = Waits s
last_value (v ∷ []) s = Done v s
last_value (v ∷ w ∷ vs) s = last_value (w ∷ vs) s

-- a piece of a quotation: `QUOTE` of its text, or `ANTIQUOTE` of a value
abbrev pub piece_value : Evaluator → Env → State → Piece-F DecForm ExpForm Piece Dec Exp Rule → Outcome Value
piece_value part env s (Piece-F.Plain bytes) = Done (quote_value bytes) (counted (2 + text_size bytes) s)
piece_value part env s (Piece-F.Anti e) = then_do (part env s e) (λ v s1. Done (antiquote_value v) (counted 2 s1))

abbrev pub each_piece : Evaluator → Env → State → List Piece → Outcome (List Value)
each_piece part env s [] = Done [] s
each_piece part env s (p ∷ ps) =
    then_do (piece_value part env s (out-Piece p)) (λ v s1. then_do (each_piece part env s1 ps) (λ vs s2. Done (v ∷ vs) s2))

-- a list made of values: four words for each
abbrev pub list_result : List Value → State → Outcome Value
list_result vs s = Done (list_value vs) (counted (4 * length vs) s)

-- ---- patterns

abbrev pub same_int : ℤ → ℤ → Bool
same_int (pos a) (pos b) = a == b
same_int (negsuc a) (negsuc b) = a == b
same_int _ _ = false

-- nothing is bound, where it fits
abbrev pub fits_if : Bool → State → Outcome (Option Env)
fits_if true s = Done (Some []) s
fits_if false s = Done None s

-- a constructor without an argument
abbrev pub constructor_match : Constructor → ValueLayer → State → Outcome (Option Env)
constructor_match (con.Data d i) (Value-F.Con e j) s = fits_if (same_con d i e j) s
constructor_match (con.Data d i) (Value-F.Applied e j argument) s = fits_if false s
constructor_match (con.Exn number) (Value-F.Exn other argument) s = fits_if (number == other) s
constructor_match _ _ s = Waits s

-- a name that is no constructor binds the value
abbrev pub name_result : List ℕ → Option BoundLayer → Value → State → Outcome (Option Env)
name_result name (Some (Bound-F.Constructor c has_argument)) v s = constructor_match c (form_of_value v) s
name_result name _ v s = Done (Some ((name, roll-Bound (Bound-F.Variable v)) ∷ [])) s

-- the names bound so far, and those that what follows binds, as long as all fits
abbrev pub joined : Env → Option Env → Option Env
joined more None = None
joined more (Some others) = Some (others ++ more)

abbrev pub and_more : Option Env → (State → Outcome (Option Env)) → State → Outcome (Option Env)
and_more None next s = Done None s
and_more (Some more) next s = then_do (next s) (λ others s1. Done (joined more others) s1)

-- patterns and values, from left to right
abbrev pub each_match : Matcher → Env → State → List Pat → List Value → Outcome (Option Env)
each_match part env s [] [] = Done (Some []) s
each_match part env s (p ∷ ps) (v ∷ vs) = then_do (part env s p v) (λ more s1. and_more more (λ s2. each_match part env s2 ps vs) s1)
each_match part env s _ _ = Waits s

-- the first item of a list, and then the others
abbrev pub cell_match : Matcher → Env → State → Pat → (State → ValueLayer → Outcome (Option Env)) → ValueLayer → Outcome (Option Env)
cell_match part env s p next (Value-F.Tuple (head ∷ tail ∷ [])) = then_do (part env s p head) (λ more s1. and_more more (λ s2. next s2 (form_of_value tail)) s1)
cell_match part env s p next _ = Waits s

-- the pattern `[p1, .., pn]`, by the form of the value
abbrev pub list_match : Matcher → Env → State → List Pat → ValueLayer → Outcome (Option Env)
list_match part env s [] (Value-F.Con d i) = fits_if (same_con d i 1 0) s
list_match part env s [] (Value-F.Applied d i cell) = fits_if false s
list_match part env s (p ∷ ps) (Value-F.Con d i) = fits_if false s
list_match part env s (p ∷ ps) (Value-F.Applied d i cell) = cell_match part env s p (λ s1 tail. list_match part env s1 ps tail) (form_of_value cell)
list_match part env s _ _ = Waits s

-- the argument of a constructor, where it is the pattern's; that of `ref` is what the reference holds at this moment
abbrev pub argument_match : Matcher → Env → State → Pat → Option Value → Outcome (Option Env)
argument_match part env s p None = fits_if false s
argument_match part env s p (Some v) = part env s p v

abbrev pub held_match : Matcher → Env → State → Pat → Option Value → Outcome (Option Env)
held_match part env s p None = Waits s
held_match part env s p (Some v) = part env s p v

abbrev pub con_match : Matcher → Env → State → Constructor → Pat → ValueLayer → Outcome (Option Env)
con_match part env s (con.Data d i) p (Value-F.Con e j) = fits_if false s
con_match part env s (con.Data d i) p (Value-F.Applied e j argument) = if same_con d i e j then part env s p argument else fits_if false s
con_match part env s (con.Exn number) p (Value-F.Exn other argument) = if number == other then argument_match part env s p argument else fits_if false s
con_match part env s con.Ref p (Value-F.Ref number) = held_match part env s p (slice_get s.store number)
con_match part env s c p _ = Waits s

abbrev pub applied_match : Matcher → Env → State → Pat → Option BoundLayer → ValueLayer → Outcome (Option Env)
applied_match part env s p (Some (Bound-F.Constructor c has_argument)) v = con_match part env s c p v
applied_match part env s p _ v = Waits s

-- a constant; a text of a pattern is made when it is tried
abbrev pub constant_match : PatLayer → ValueLayer → State → Outcome (Option Env)
constant_match (PatForm-F.Int n) (Value-F.Int m) s = fits_if (same_int n m) s
constant_match (PatForm-F.Char c) (Value-F.Char d) s = fits_if (c == d) s
constant_match (PatForm-F.Str bytes) (Value-F.Str other) s = fits_if (bytes_eq bytes other) (counted (text_size bytes) s)
constant_match _ _ s = Waits s

abbrev pub tuple_match : Matcher → Env → State → List Pat → ValueLayer → Outcome (Option Env)
tuple_match part env s ps (Value-F.Tuple vs) = each_match part env s ps vs
tuple_match part env s ps _ = Waits s

-- a pattern by its form
abbrev pub pat_result : Matcher → Env → State → PatLayer → Value → Outcome (Option Env)
pat_result part env s PatForm-F.Any v = fits_if true s
pat_result part env s (PatForm-F.Int n) v = constant_match (PatForm-F.Int n) (form_of_value v) s
pat_result part env s (PatForm-F.Char c) v = constant_match (PatForm-F.Char c) (form_of_value v) s
pat_result part env s (PatForm-F.Str bytes) v = constant_match (PatForm-F.Str bytes) (form_of_value v) s
pat_result part env s PatForm-F.Unit v = fits_if true s
pat_result part env s (PatForm-F.Name name) v = name_result name (opened (meaning name env)) v s
pat_result part env s (PatForm-F.Tuple ps) v = tuple_match part env s ps (form_of_value v)
pat_result part env s (PatForm-F.List ps) v = list_match part env s ps (form_of_value v)
pat_result part env s (PatForm-F.Con name p) v = applied_match part env s p (opened (meaning name env)) (form_of_value v)
pat_result part env s (PatForm-F.Typed p t) v = part env s p v

-- ---- equality

-- parts of values, from left to right, as long as they are equal
abbrev pub and_same : Bool → (State → Outcome Bool) → State → Outcome Bool
and_same true next s = next s
and_same false next s = Done false s

abbrev pub each_same : Comparing → List Value → List Value → State → Outcome Bool
each_same part [] [] s = Done true s
each_same part (v ∷ vs) (w ∷ ws) s = then_do (part v w s) (λ b s1. and_same b (each_same part vs ws) s1)
each_same part _ _ s = Waits s

-- two values by their forms: references are equal where they are one, and functions and packets have no equality
abbrev pub same_result : Comparing → ValueLayer → ValueLayer → State → Outcome Bool
same_result part (Value-F.Int a) (Value-F.Int b) s = Done (same_int a b) s
same_result part (Value-F.Char a) (Value-F.Char b) s = Done (a == b) s
same_result part (Value-F.Str a) (Value-F.Str b) s = Done (bytes_eq a b) s
same_result part Value-F.Unit Value-F.Unit s = Done true s
same_result part (Value-F.Tuple vs) (Value-F.Tuple ws) s = each_same part vs ws s
same_result part (Value-F.Con d i) (Value-F.Con e j) s = Done (same_con d i e j) s
same_result part (Value-F.Con d i) (Value-F.Applied e j w) s = Done false s
same_result part (Value-F.Applied d i v) (Value-F.Con e j) s = Done false s
same_result part (Value-F.Applied d i v) (Value-F.Applied e j w) s = if same_con d i e j then part v w s else Done false s
same_result part (Value-F.Ref a) (Value-F.Ref b) s = Done (a == b) s
same_result part _ _ s = Waits s

-- ---- matches and applications

-- the rules of a match, from the first to the last: `otherwise` follows where none fits
abbrev pub chosen : Level → Env → Exp → Option Env → (State → Outcome Value) → State → Outcome Value
chosen low env body None otherwise s = otherwise s
chosen low env body (Some more) otherwise s = low.exp (more ++ env) s body

abbrev pub rules_result : Level → Env → State → List Rule → Value → (State → Outcome Value) → Outcome Value
rules_result low env s [] v otherwise = otherwise s
rules_result low env s (r ∷ rs) v otherwise =
    then_do (low.pat env (counted 1 s) (out-Rule r).pat v) (λ more s1. chosen low env (out-Rule r).body more (λ s2. rules_result low env s2 rs v otherwise) s1)

-- no rule fits: `Match`, a packet of two words
abbrev pub match_failed : {A : Type 0} → State → Outcome A
match_failed s = thrown 0 s

-- the functions of a declaration, by their names
abbrev pub group_bound : List (List ℕ × List Rule) → Env → List (List ℕ × List Rule) → Env
group_bound [] env group = []
group_bound (f ∷ fs) env group = (f.0, roll-Bound (Bound-F.Variable (function_value f.1 env group))) ∷ group_bound fs env group

-- a constructor on its argument, of two words; `ref` makes a reference, of one
abbrev pub constructed : Constructor → Value → State → Outcome Value
constructed (con.Data d i) v s = Done (applied_value d i v) (counted 2 s)
constructed (con.Exn number) v s = Done (packet_value number v) (counted 2 s)
constructed con.Ref v s = Done (ref_value (length s.store)) (counted 1 (storing (s.store ++ v ∷ []) s))

-- a function applied to its argument
abbrev pub application : Level → ValueLayer → Value → State → Outcome Value
application low (Value-F.Prim name arguments) v s = prim_result low.same name arguments v s
application low (Value-F.Maker c) v s = constructed c v s
application low (Value-F.Fun closure) v s =
    rules_result low (group_bound (out-Closure closure).group (out-Closure closure).env (out-Closure closure).group ++ (out-Closure closure).env) s (out-Closure closure).rules v match_failed
application low _ v s = Waits s

-- ---- expressions

-- by a bool
abbrev pub by_bool : ValueLayer → (State → Outcome Value) → (State → Outcome Value) → State → Outcome Value
by_bool (Value-F.Con d i) first second s = if same_con d i 0 1 then first s else second s
by_bool _ first second s = Waits s

-- an expression by its form, the parts at the lower level
abbrev pub exp_result : Level → Env → State → ExpLayer → Outcome Value
exp_result low env s (ExpForm-F.Int n) = Done (int_value n) s
exp_result low env s (ExpForm-F.Char c) = Done (char_value c) s
exp_result low env s (ExpForm-F.Str bytes) = text_result bytes s
exp_result low env s (ExpForm-F.Name name) = bound_result (opened (meaning name env)) s
exp_result low env s ExpForm-F.Unit = Done unit_value s
exp_result low env s (ExpForm-F.Tuple es) =
    then_do (each_value low.exp env s es) (λ vs s1. Done (tuple_value vs) (counted (length vs) s1))
exp_result low env s (ExpForm-F.List es) = then_do (each_value low.exp env s es) list_result
exp_result low env s (ExpForm-F.Seq es) = then_do (each_value low.exp env s es) last_value
exp_result low env s (ExpForm-F.App f e) =
    then_do (low.exp env s f) (λ g s1. then_do (low.exp env s1 e) (λ v s2. application low (form_of_value g) v (counted 1 s2)))
exp_result low env s (ExpForm-F.Let ds es) = then_do (low.scope env env s [] (plan_of ds [] es)) (λ r s1. last_value r.1 s1)
exp_result low env s (ExpForm-F.Fn rules) = Done (function_value rules (held_by env rules) []) s
exp_result low env s (ExpForm-F.Case e rules) = then_do (low.exp env s e) (λ v s1. rules_result low env s1 rules v match_failed)
exp_result low env s (ExpForm-F.Handle e rules) = handled (low.exp env s e) (λ p s1. rules_result low env s1 rules p (λ s2. Raised p s2))
exp_result low env s (ExpForm-F.Raise e) = then_do (low.exp env s e) (λ p s1. Raised p s1)
exp_result low env s (ExpForm-F.If test first second) =
    then_do (low.exp env s test) (λ v s1. by_bool (form_of_value v) (λ s2. low.exp env s2 first) (λ s2. low.exp env s2 second) s1)
exp_result low env s (ExpForm-F.Both left right) =
    then_do (low.exp env s left) (λ v s1. by_bool (form_of_value v) (λ s2. low.exp env s2 right) (λ s2. Done (bool_value false) s2) s1)
exp_result low env s (ExpForm-F.Either left right) =
    then_do (low.exp env s left) (λ v s1. by_bool (form_of_value v) (λ s2. Done (bool_value true) s2) (λ s2. low.exp env s2 right) s1)
exp_result low env s (ExpForm-F.Quote pieces) = then_do (each_piece low.exp env s pieces) list_result
exp_result low env s (ExpForm-F.Typed e t) = low.exp env s e

-- ---- declarations

-- the exception `Bind`, a packet of two words
abbrev pub bind_failed : {A : Type 0} → State → Outcome A
bind_failed s = thrown 1 s

-- the names that a match binds, before those that are bound already
abbrev pub bound_more : Env → Option Env → State → Outcome Env
bound_more env None s = bind_failed s
bound_more env (Some more) s = Done (more ++ env) s

-- one binding: its expression where nothing of its own declaration is bound, then its pattern
abbrev pub binding : Level → Env → Env → State → Pat × Exp → Outcome Env
binding low outer env s bind =
    then_do (low.exp outer s bind.1) (λ v s1. then_do (low.pat outer s1 bind.0 v) (λ more s2. bound_more env more s2))

-- a binding, and then what comes behind it: each binding uses up height for all that comes after it in its scope
abbrev pub with_binding : Level → Env → Env → State → Pat × Exp → List (Pat × Exp) → Plan → Outcome (Env × List Value)
with_binding low outer env s bind bindings plan =
    then_do (binding low outer env (counted 1 s) bind) (λ env1 s1. low.scope outer env1 s1 bindings plan)

-- the functions of a declaration hold what the names that stand in them all are bound to
abbrev pub held_group : Env → List (List ℕ × List Rule) → Env
held_group env fs = held_names (in_group fs) env

abbrev pub functions_bound : List (List ℕ × List Rule) → Env → Env
functions_bound fs env = group_bound fs (held_group env fs) fs

-- how many datatypes and exceptions were declared: each datatype has a first constructor
abbrev pub one_if_datatype : Constructor → ℕ
one_if_datatype (con.Data d i) = if i == 0 then 1 else 0
one_if_datatype _ = 0

abbrev pub one_if_exception : Constructor → ℕ
one_if_exception (con.Exn number) = 1
one_if_exception _ = 0

abbrev pub of_constructor : (Constructor → ℕ) → BoundLayer → ℕ
of_constructor f (Bound-F.Variable v) = 0
of_constructor f (Bound-F.Constructor c has_argument) = f c

abbrev pub declared_in : (Constructor → ℕ) → Env → ℕ
declared_in f [] = 0
declared_in f (e ∷ env) = of_constructor f (out-Bound e.1) + declared_in f env

-- the constructors of datatypes; the declared datatypes have the numbers from 6 on, in the order of the text
abbrev pub constructors_from : ℕ → ℕ → List (List ℕ × Option Ty) → Env
constructors_from d i [] = []
constructors_from d i (c ∷ cs) = (c.0, roll-Bound (Bound-F.Constructor (con.Data d i) (is_some c.1))) ∷ constructors_from d (suc i) cs

abbrev pub datatypes_from : ℕ → List (List (List ℕ) × List ℕ × List (List ℕ × Option Ty)) → Env
datatypes_from d [] = []
datatypes_from d (t ∷ ts) = constructors_from d 0 t.2 ++ datatypes_from (suc d) ts

abbrev pub datatypes_bound : List (List (List ℕ) × List ℕ × List (List ℕ × Option Ty)) → Env → Env
datatypes_bound ts env = datatypes_from (6 + declared_in one_if_datatype env) ts ++ env

-- the declared exceptions have the numbers from 9 on, in the order of the text
abbrev pub exceptions_bound : List (List ℕ × Option Ty) → Env → Env
exceptions_bound [] env = env
exceptions_bound (e ∷ es) env =
    exceptions_bound es ((e.0, roll-Bound (Bound-F.Constructor (con.Exn (9 + declared_in one_if_exception env)) (is_some e.1))) ∷ env)

-- a declaration by its form, and then what comes behind it, at a height that is lower by one: the further bindings of a `val` use up more
abbrev pub with_dec : Level → Env → State → DecLayer → Plan → Outcome (Env × List Value)
with_dec low env s (DecForm-F.Val []) plan = Waits s
with_dec low env s (DecForm-F.Val (bind ∷ bindings)) plan = with_binding low env env s bind bindings plan
with_dec low env s (DecForm-F.ValRec fs) plan = low.scope env (functions_bound fs env ++ env) s [] plan
with_dec low env s (DecForm-F.Abbrev ts) plan = low.scope env env s [] plan
with_dec low env s (DecForm-F.DataDef ds) plan = low.scope env (datatypes_bound ds env) s [] plan
with_dec low env s (DecForm-F.ExnDef es) plan = low.scope env (exceptions_bound es env) s [] plan
with_dec low env s (DecForm-F.Local hidden shown) plan = low.scope env env s [] (plan_of hidden (Shows shown env plan.decs ∷ plan.pending) plan.body)

-- what comes next: the first declaration that is left in its environment, with what comes behind it, or the end
pub data Coming : Type 0 where
  Comes : Env → Dec → Plan → Coming
  Ends : Env → Coming

-- the bindings that come before so many
abbrev pub shown_of : ℕ → Env → Env
shown_of count env = take (length env - count) env

-- the declarations, or else what is open around them
abbrev pub coming : Env → List Dec → List Pending → List Exp → Coming
coming env (d ∷ ds) pending body = Comes env d (plan_of ds pending body)
coming env [] [] body = Ends env
coming env [] (Shows [] outer after ∷ pending) body = coming outer after pending body
coming env [] (Shows (d ∷ ds) outer after ∷ pending) body = Comes env d (plan_of ds (Hides (length env) outer after ∷ pending) body)
coming env [] (Hides count outer after ∷ pending) body = coming (shown_of count env ++ outer) after pending body

-- what the next one gives: the values of the expressions where there is none
abbrev pub with_coming : Evaluator → (Env → State → DecLayer → Plan → Outcome (Env × List Value)) → State → List Exp → Coming → Outcome (Env × List Value)
with_coming here dec s body (Comes env d plan) = dec env (counted 1 s) (form_of_dec d) plan
with_coming here dec s body (Ends env) = then_do (each_value here env s body) (λ vs s1. Done (env, vs) s1)

-- what is left of a declaration, and what comes behind it; the expressions of a `let` come at the height that is left
abbrev pub scope_result : Evaluator → Level → Scoping
scope_result here low outer env s (bind ∷ bindings) plan = with_binding low outer env s bind bindings plan
scope_result here low outer env s [] plan = with_coming here (with_dec low) s plan.body (coming env plan.decs plan.pending plan.body)

-- ---- heights

-- at height 0: all but an end has run out
abbrev pub over_scope : Scoping
over_scope outer env s (bind ∷ bindings) plan = Over s
over_scope outer env s [] plan = with_coming (λ env1 s1 e. Over s1) (λ env1 s1 d plan1. Over s) s plan.body (coming env plan.decs plan.pending plan.body)

abbrev pub nothing : Level
nothing = record {
  exp = λ env s e. Over s;
  pat = λ env s p v. Over s;
  same = λ v w s. Over s;
  scope = over_scope;
}

-- at the height above another
abbrev pub exp_above : Level → Evaluator
exp_above low env s e = exp_result low env (counted 1 s) (form_of_exp e)

abbrev pub above : Level → Level
above low = record {
  exp = exp_above low;
  pat = λ env s p v. pat_result low.pat env (counted 1 s) (form_of_pat p) v;
  same = λ v w s. same_result low.same (form_of_value v) (form_of_value w) (counted 1 s);
  scope = scope_result (exp_above low) low;
}

abbrev pub level : ℕ → Level
level zero = nothing
level (suc n) = above (level n)

-- an expression at a height
abbrev pub eval : ℕ → Evaluator
eval n = (level n).exp

-- a pattern at a height
abbrev pub match_pat : ℕ → Matcher
match_pat n = (level n).pat

-- the declarations of a list, from left to right
abbrev pub eval_decs : ℕ → Env → State → List Dec → Outcome Env
eval_decs n env s decs = then_do ((level n).scope env env s [] (plan_of decs [] [])) (λ r s1. Done r.0 s1)
