-- The evaluation of region terms: that of specialised terms, with an address for each boxed value. Tofte and Talpin's region calculus, dynamic semantics.
-- A boxed value is made in a live region, and an address is followed into a live region only; where the region isn't live, no rule fits.
-- The live regions and what the regions' numbers stand for are given with the term, and nothing is put into a term: a region is live while the body of
-- its `LetRegion` is evaluated, for packets too. An effect variable has no part in it.
-- Heights and counts are those of specialised terms: a `LetRegion` uses no height and counts nothing, nor do the objects of instances.
-- What code relies on without a test of its own is tested here, and where it doesn't hold no rule fits: that constructors are of the pattern's datatype,
-- with or without an argument as the datatype says; that a function has as many regions and effects as are put in; that what is compared has its type.
-- A `LetRegion` makes those of its regions that a choice names, of which the code of a program has its own.
use Rattle.std.specs.Prelude.{ℕ, zero, suc, ◌+◌, ◌-◌, ◌*◌, ◌==◌, nat_eq, nat_lt, ℤ, Bool, true, false, not, ◌&&◌, List, [], ◌∷◌, ◌++◌, length, take, Option, Some, None, is_some, if◌then◌else◌}
use Rattle.std.specs.Option.{option_and_then, option_map, option_map_or}
use Rattle.std.specs.List.{slice_get}
use Rattle.std.specs.Str.{bytes_eq}
use Rattle.sml_evaluation.specs.Values.{text_size}
use Rattle.sml_evaluation.specs.Evaluation.{same_int}
use Rattle.region_syntax.specs.declared.types.Place.{Place}
use Rattle.region_syntax.specs.declared.types.Effect.{Effect}
use Rattle.sml_syntax.specs.declared.constructor.Constructor.{Constructor}
use Rattle.sml_syntax.specs.declared.constructor.Constructor.TheVariants as con
use Rattle.region_syntax.specs.GroundTypes as g
use Rattle.region_syntax.specs.GroundTypes.{GroundType, GroundTypes}
use Rattle.region_syntax.specs.GroundTerms.{Datatype}
use Rattle.region_syntax.specs.RegionTypes as t
use Rattle.region_syntax.specs.RegionTypes.{RegionType}
use Rattle.region_syntax.specs.RegionTerms as r
use Rattle.region_syntax.specs.Erasure.{erased_rules, erased_defs}
use Rattle.region_syntax.specs.Cost.{meeting}
use Rattle.region_syntax.specs.GroundTypes.{with_types}
use Rattle.sml_evaluation.specs.RunState.{Done, Raised, Over, then_do, handled, counted, storing}
use Rattle.region_syntax.specs.EqualityWays.{Way, Function, all_constant, way_of}
use Rattle.region_syntax.specs.UsedRegions.{Choice, arguments_of}
use Rattle.region_syntax.specs.FreeNames.{free_in_rules, function_words, group_words}
use Rattle.region_eval.specs.RegionStore.{Value, Int, Char, Unit, Con, Address, Env, Regions, Object, Str, Tuple, Applied, Packet, PacketOf, Ref, Closure, Group, Instance, Maker, Prim, Store, Around, around_with, State, Outcome, no_rule, where_it_holds, found, value_at, bindings_of, serial_of, serial_of_type, replaced, alloc, follow, with_region, with_live, opened}
use Rattle.region_eval.specs.RegionPrimitives.{Inside, inside_of, Comparing, bool_value, prim_application, prim_named}

-- ---- the evaluations of parts

-- an expression, in an environment
abbrev pub Evaluator : Type 0
Evaluator = Around → Env → State → r.Exp → Outcome Value

-- a pattern and a value: the names that it binds, or `None` where it doesn't fit
abbrev pub Matcher : Type 0
Matcher = Around → State → r.Pat → Value → Outcome (Option Env)

-- what is open around declarations: the `local`s whose hidden declarations are evaluated, with their shown ones, and those whose shown
-- ones are, with the number of bindings before these; each with the environment outside and the declarations that follow it
pub data Pending : Type 0 where
  Shows : r.Decs → Env → r.Decs → Pending
  Hides : ℕ → Env → r.Decs → Pending

-- what comes behind the bindings at hand: declarations, what is open around them, and the expressions of a `let`
pub record Plan : Type 0 where
  pub decs : r.Decs
  pub pending : List Pending
  pub body : r.Exps

abbrev pub plan_of : r.Decs → List Pending → r.Exps → Plan
plan_of decs pending body = record { decs = decs; pending = pending; body = body }

-- the bindings that are left of a `val` that is evaluated in an outer environment, in the environment so far, and what comes behind them:
-- the last environment, and the values of the expressions
abbrev pub Scoping : Type 0
Scoping = Around → Env → Env → State → r.Rules → Plan → Outcome (Env × List Value)

-- the arguments of a function of several patterns, of which no tuple is made, and a pattern and these
abbrev pub PartsEvaluator : Type 0
PartsEvaluator = Around → Env → State → r.Exps → Outcome (List Value)

abbrev pub PartsMatcher : Type 0
PartsMatcher = Around → State → r.Pat → List Value → Outcome (Option Env)

-- the evaluations at one height
pub record Level : Type 0 where
  pub exp : Evaluator
  pub parts : PartsEvaluator
  pub pat : Matcher
  pub spread : PartsMatcher
  pub same : Comparing
  pub scope : Scoping

-- ---- lists of parts

-- the values of parts, from left to right
abbrev pub each_value : Evaluator → Around → Env → State → r.Exps → Outcome (List Value)
each_value part around env s r.no_exps = Done [] s
each_value part around env s (r.exps e es) =
    then_do (part around env s e) (λ v s1. then_do (each_value part around env s1 es) (λ vs s2. Done (v ∷ vs) s2))

-- the last of them
abbrev pub last_of : List Value → Option Value
last_of [] = None
last_of (v ∷ []) = Some v
last_of (v ∷ w ∷ vs) = last_of (w ∷ vs)

abbrev pub last_value : List Value → State → Outcome Value
last_value vs s = found (λ v s1. Done v s1) (last_of vs) s

-- the pieces of a quotation, made in a region: `QUOTE` of a text, or `ANTIQUOTE` of a value
abbrev pub each_piece : Evaluator → ℕ → Around → Env → State → r.Pieces → Outcome (List Value)
each_piece part p around env s r.no_pieces = Done [] s
each_piece part p around env s (r.plain bytes ps) =
    then_do (alloc around.live p (Str bytes) (counted (2 + text_size bytes) s)) (λ x s1.
    then_do (alloc around.live p (Applied 4 0 x) s1) (λ v s2. then_do (each_piece part p around env s2 ps) (λ vs s3. Done (v ∷ vs) s3)))
each_piece part p around env s (r.anti e ps) =
    then_do (part around env s e) (λ x s1.
    then_do (alloc around.live p (Applied 4 1 x) (counted 2 s1)) (λ v s2. then_do (each_piece part p around env s2 ps) (λ vs s3. Done (v ∷ vs) s3)))

-- a list made of values in a region: a pair and a constructor on it for each
abbrev pub cells : List ℕ → ℕ → List Value → State → Outcome Value
cells live p [] s = Done (Con 1 0) s
cells live p (v ∷ vs) s =
    then_do (cells live p vs s) (λ rest s1. then_do (alloc live p (Tuple (v ∷ rest ∷ [])) s1) (λ cell s2. alloc live p (Applied 1 1 cell) s2))

abbrev pub list_result : List ℕ → ℕ → List Value → State → Outcome Value
list_result live p vs s = cells live p vs (counted (4 * length vs) s)

-- ---- patterns

-- nothing is bound, where it fits
abbrev pub fits_if : Bool → State → Outcome (Option Env)
fits_if true s = Done (Some []) s
fits_if false s = Done None s

-- the names bound so far, and those that what follows binds, as long as all fits
abbrev pub joined : Env → Option Env → Option Env
joined more None = None
joined more (Some others) = Some (others ++ more)

abbrev pub and_more : Option Env → (State → Outcome (Option Env)) → State → Outcome (Option Env)
and_more None next s = Done None s
and_more (Some more) next s = then_do (next s) (λ others s1. Done (joined more others) s1)

-- patterns and values, from left to right
abbrev pub each_match : Matcher → Around → State → r.Pats → List Value → Outcome (Option Env)
each_match part around s r.no_pats [] = Done (Some []) s
each_match part around s (r.pats p ps) (v ∷ vs) =
    then_do (part around s p v) (λ more s1. and_more more (λ s2. each_match part around s2 ps vs) s1)
each_match part around s _ _ = no_rule s

-- the first item of a list, and then the others
abbrev pub pair_match : Matcher → Around → r.Pat → (State → Value → Outcome (Option Env)) → Object → State → Outcome (Option Env)
pair_match part around p next (Tuple (head ∷ tail ∷ [])) s = then_do (part around s p head) (λ more s1. and_more more (λ s2. next s2 tail) s1)
pair_match part around p next _ s = no_rule s

abbrev pub cell_match : Matcher → Around → r.Pat → (State → Value → Outcome (Option Env)) → Object → State → Outcome (Option Env)
cell_match part around p next (Applied d i cell) s = where_it_holds (d == 1 && i == 1) (follow around.live cell (pair_match part around p next)) s
cell_match part around p next _ s = no_rule s

-- the pattern `[p1, .., pn]`
abbrev pub list_match : Matcher → Around → State → r.Pats → Value → Outcome (Option Env)
list_match part around s r.no_pats (Con d i) = where_it_holds (d == 1 && i == 0) (fits_if true) s
list_match part around s r.no_pats (Address q i) = fits_if false s
list_match part around s (r.pats p ps) (Con d i) = where_it_holds (d == 1 && i == 0) (fits_if false) s
list_match part around s (r.pats p ps) (Address q i) =
    follow around.live (Address q i) (cell_match part around p (λ s1 tail. list_match part around s1 ps tail)) s
list_match part around s _ _ = no_rule s

-- by the program's datatypes: a constructor without an argument and one with an argument, and a datatype that has one of these
abbrev pub takes_argument : List Datatype → ℕ → ℕ → Option Bool
takes_argument datatypes d i = option_and_then (λ (t : Datatype). option_map (λ c. is_some c.1) (slice_get t.constructors i)) (slice_get datatypes d)

abbrev pub is_constant : List Datatype → ℕ → ℕ → Bool
is_constant datatypes d i = option_map_or not (takes_argument datatypes d i) false

abbrev pub is_applied : List Datatype → ℕ → ℕ → Bool
is_applied datatypes d i = option_map_or (λ b. b) (takes_argument datatypes d i) false

abbrev pub has_applied : List Datatype → ℕ → Bool
has_applied datatypes d = option_map_or (λ (t : Datatype). not (all_constant t.constructors)) (slice_get datatypes d) false

-- a constructor without an argument: an exception's packet is followed
abbrev pub packet_match : ℕ → Object → State → Outcome (Option Env)
packet_match n (Packet m) s = fits_if (n == m) s
packet_match n (PacketOf m v) s = fits_if (n == m) s
packet_match n _ s = no_rule s

abbrev pub constructor_match : Around → Constructor → Value → State → Outcome (Option Env)
constructor_match around (con.Data d i) (Con e j) s =
    where_it_holds (d == e && is_constant around.datatypes d i && is_constant around.datatypes d j) (fits_if (i == j)) s
constructor_match around (con.Data d i) (Address q j) s = where_it_holds (is_constant around.datatypes d i && has_applied around.datatypes d) (fits_if false) s
constructor_match around (con.Exn n) (Address q j) s = follow around.live (Address q j) (packet_match n) s
constructor_match around _ _ s = no_rule s

-- a constructor on its argument; that of `ref` is what the reference holds at this moment
abbrev pub argument_match : Matcher → Around → Constructor → r.Pat → Object → State → Outcome (Option Env)
argument_match part around (con.Data d i) p (Applied e j v) s =
    where_it_holds (d == e && is_applied around.datatypes d i && is_applied around.datatypes d j) (λ s1. if i == j then part around s1 p v else fits_if false s1) s
argument_match part around (con.Exn n) p (Packet m) s = where_it_holds (not (n == m)) (fits_if false) s
argument_match part around (con.Exn n) p (PacketOf m v) s = if n == m then part around s p v else fits_if false s
argument_match part around con.Ref p (Ref v) s = part around s p v
argument_match part around _ p _ s = no_rule s

abbrev pub applied_match : Matcher → Around → State → Constructor → r.Pat → Value → Outcome (Option Env)
applied_match part around s (con.Data d i) p (Con e j) =
    where_it_holds (d == e && is_applied around.datatypes d i && is_constant around.datatypes d j) (fits_if false) s
applied_match part around s c p v = follow around.live v (argument_match part around c p) s

-- a constant; a text of a pattern is made when it is tried
abbrev pub int_match : ℤ → Value → State → Outcome (Option Env)
int_match n (Int m) s = fits_if (same_int n m) s
int_match n _ s = no_rule s

abbrev pub char_match : ℕ → Value → State → Outcome (Option Env)
char_match c (Char d) s = fits_if (c == d) s
char_match c _ s = no_rule s

abbrev pub text_match : List ℕ → Object → State → Outcome (Option Env)
text_match bytes (Str other) s = fits_if (bytes_eq bytes other) s
text_match bytes _ s = no_rule s

abbrev pub tuple_match : Matcher → Around → r.Pats → Object → State → Outcome (Option Env)
tuple_match part around ps (Tuple vs) s = each_match part around s ps vs
tuple_match part around ps _ s = no_rule s

-- a pattern of the arguments of a function of several patterns is that of their tuple
abbrev pub spread_result : Matcher → PartsMatcher
spread_result part around s (r.pat a (r.TuplePat ps)) vs = each_match part around s ps vs
spread_result part around s _ vs = no_rule s

-- a pattern by its form
abbrev pub pat_result : Matcher → Around → State → r.Pat → Value → Outcome (Option Env)
pat_result part around s (r.pat a r.AnyPat) v = fits_if true s
pat_result part around s (r.pat a (r.IntPat n)) v = int_match n v s
pat_result part around s (r.pat a (r.CharPat c)) v = char_match c v s
pat_result part around s (r.pat a (r.StrPat bytes)) v =
    then_do (alloc around.live (serial_of_type around.regions a) (Str bytes) (counted (text_size bytes) s)) (λ x s1. follow around.live v (text_match bytes) s1)
pat_result part around s (r.pat a r.UnitPat) v = fits_if true s
pat_result part around s (r.pat a (r.NamePat name)) v = Done (Some ((name, v) ∷ [])) s
pat_result part around s (r.pat a (r.TuplePat ps)) v = follow around.live v (tuple_match part around ps) s
pat_result part around s (r.pat a (r.ListPat ps)) v = list_match part around s ps v
pat_result part around s (r.pat a (r.ConPat c)) v = constructor_match around c v s
pat_result part around s (r.pat a (r.AppPat c p)) v = applied_match part around s c p v

-- ---- equality, by the type

-- the type of the argument of a constructor of a datatype
abbrev pub argument_type : List Datatype → ℕ → GroundTypes → ℕ → Option GroundType
argument_type datatypes n ts i =
    option_and_then (λ (d : Datatype). option_and_then (λ c. option_and_then (λ a. Some (with_types ts a)) c.1) (slice_get d.constructors i)) (slice_get datatypes n)

-- parts of values, from left to right, as long as they are equal
abbrev pub and_same : Bool → (State → Outcome Bool) → State → Outcome Bool
and_same true next s = next s
and_same false next s = Done false s

abbrev pub each_same : Comparing → Around → Inside → GroundTypes → List Value → List Value → State → Outcome Bool
each_same part around inside g.no_types [] [] s = Done true s
each_same part around inside (g.types a ts) (v ∷ vs) (w ∷ ws) s =
    then_do (part around inside a v w s) (λ b s1. and_same b (each_same part around inside ts vs ws) s1)
each_same part around inside _ _ _ s = no_rule s

-- what two addresses lead to
abbrev pub both_followed : Around → Value → Value → (Object → Object → State → Outcome Bool) → State → Outcome Bool
both_followed around v w f s = follow around.live v (λ o s1. follow around.live w (f o) s1) s

abbrev pub texts_same : Object → Object → State → Outcome Bool
texts_same (Str a) (Str b) s = Done (bytes_eq a b) s
texts_same _ _ s = no_rule s

-- tuples: a tuple in a tuple isn't taken apart
abbrev pub tuples_same : Comparing → Around → Option GroundType → GroundTypes → Object → Object → State → Outcome Bool
tuples_same part around own ts (Tuple vs) (Tuple ws) s = each_same part around (inside_of own false) ts vs ws s
tuples_same part around own ts _ _ s = no_rule s

-- constructors with an argument, and the values of a datatype; a tuple that is an argument may be taken apart
abbrev pub arguments_same : Comparing → Around → Option GroundType → ℕ → GroundTypes → Object → Object → State → Outcome Bool
arguments_same part around own n ts (Applied d i v) (Applied e j w) s =
    where_it_holds (d == n && e == n && is_applied around.datatypes n i && is_applied around.datatypes n j)
    (λ s1. if i == j then found (λ a s2. part around (inside_of own true) a v w s2) (argument_type around.datatypes n ts i) s1 else Done false s1) s
arguments_same part around own n ts _ _ s = no_rule s

abbrev pub constant_of : Around → ℕ → ℕ → ℕ → Bool
constant_of around n d i = d == n && is_constant around.datatypes n i

abbrev pub data_same : Comparing → Around → Option GroundType → ℕ → GroundTypes → Value → Value → State → Outcome Bool
data_same part around own n ts (Con d i) (Con e j) s = where_it_holds (constant_of around n d i && constant_of around n e j) (λ s1. Done (i == j) s1) s
data_same part around own n ts (Con d i) (Address q j) s = where_it_holds (constant_of around n d i) (λ s1. Done false s1) s
data_same part around own n ts (Address p i) (Con e j) s = where_it_holds (constant_of around n e j) (λ s1. Done false s1) s
data_same part around own n ts (Address p i) (Address q j) s = both_followed around (Address p i) (Address q j) (arguments_same part around own n ts) s
data_same part around own n ts _ _ s = no_rule s

abbrev pub ints_same : Value → Value → State → Outcome Bool
ints_same (Int a) (Int b) s = Done (same_int a b) s
ints_same _ _ s = no_rule s

abbrev pub chars_same : Value → Value → State → Outcome Bool
chars_same (Char a) (Char b) s = Done (a == b) s
chars_same _ _ s = no_rule s

abbrev pub units_same : Value → Value → State → Outcome Bool
units_same Unit Unit s = Done true s
units_same _ _ s = no_rule s

-- references are equal where they are one
abbrev pub one_address : Value → Value → Bool
one_address (Address p i) (Address q j) = nat_eq p q && nat_eq i j
one_address _ _ = false

abbrev pub references_same : Value → Value → Object → Object → State → Outcome Bool
references_same v w (Ref x) (Ref y) s = Done (one_address v w) s
references_same v w _ _ s = no_rule s

-- two values of a type, in the function of equality of a type, if in one
abbrev pub compared : Comparing → Around → Option GroundType → GroundType → Value → Value → State → Outcome Bool
compared part around own g.Int v w s = ints_same v w s
compared part around own g.Char v w s = chars_same v w s
compared part around own g.Unit v w s = units_same v w s
compared part around own g.Str v w s = both_followed around v w texts_same s
compared part around own (g.Tuple ts) v w s = both_followed around v w (tuples_same part around own ts) s
compared part around own (g.Data n ts) v w s = data_same part around own n ts v w s
compared part around own (g.Ref a) v w s = both_followed around v w (references_same v w) s
compared part around own _ v w s = no_rule s

-- As code compares them: the closure of a function of equality lies in a region of its own, which is live while the function runs.
abbrev pub compared_by : Way → Comparing → Around → Option GroundType → GroundType → Value → Value → State → Outcome Bool
compared_by Function part around own a v w s =
    compared part (with_live (suc s.store.made) around) (Some a) a v w (storing (with_region s.store) s)
compared_by _ part around own a v w s = compared part around own a v w s

abbrev pub same_result : Comparing → Comparing
same_result part around inside a v w s = compared_by (way_of around.datatypes inside.own inside.apart a) part around inside.own a v w s

-- ---- matches and applications

-- an exception without an argument is raised, a packet of two words in the global region
abbrev pub thrown : {A : Type 0} → Around → ℕ → State → Outcome A
thrown around number s = then_do (alloc around.live 1 (Packet number) (counted 2 s)) (λ p s1. Raised p s1)

-- the rules of a match, from the first to the last: `otherwise` follows where none fits
abbrev pub chosen : Level → Around → Env → r.Exp → Option Env → (State → Outcome Value) → State → Outcome Value
chosen low around env body None otherwise s = otherwise s
chosen low around env body (Some more) otherwise s = low.exp around (more ++ env) s body

-- on what patterns are tried
abbrev pub rules_by : {V : Type 0} → (Around → State → r.Pat → V → Outcome (Option Env)) → Level → Around → Env → State → r.Rules → V → (State → Outcome Value) → Outcome Value
rules_by tried low around env s r.no_rules v otherwise = otherwise s
rules_by tried low around env s (r.rules p e rs) v otherwise =
    then_do (tried around (counted 1 s) p v) (λ more s1. chosen low around env e more (λ s2. rules_by tried low around env s2 rs v otherwise) s1)

abbrev pub rules_result : Level → Around → Env → State → r.Rules → Value → (State → Outcome Value) → Outcome Value
rules_result low around env s rs v otherwise = rules_by low.pat low around env s rs v otherwise

-- no rule fits: `Match`
abbrev pub match_failed : {A : Type 0} → Around → State → Outcome A
match_failed around s = thrown around 0 s

-- a constructor that stands for a value, or for a function
abbrev pub constructor_result : Around → RegionType → Constructor → State → Outcome Value
constructor_result around (t.Arrow p a e b) c s = alloc around.live (serial_of around.regions p) (Maker c (serial_of_type around.regions b)) s
constructor_result around a (con.Data d i) s = Done (Con d i) s
constructor_result around a (con.Exn n) s = alloc around.live 1 (Packet n) (counted 2 s)
constructor_result around a con.Ref s = no_rule s

-- a constructor on its argument, of two words; `ref` makes a reference, of one
abbrev pub constructed : List ℕ → Constructor → ℕ → Value → State → Outcome Value
constructed live (con.Data d i) p v s = alloc live p (Applied d i v) (counted 2 s)
constructed live (con.Exn n) p v s = alloc live 1 (PacketOf n v) (counted 2 s)
constructed live con.Ref p v s = alloc live p (Ref v) (counted 1 s)

-- the regions that a function of a group binds, with those that an instance puts in
abbrev pub bound_regions : List ℕ → List ℕ → Regions → Regions
bound_regions (n ∷ ns) (p ∷ ps) regions = (n, p) ∷ bound_regions ns ps regions
bound_regions _ _ regions = regions

-- a function, where the regions stand for these serials
abbrev pub function_run : Level → Around → r.Rules → Regions → Env → Value → State → Outcome Value
function_run low around rs regions env v s = rules_result low (around_with around regions) env s rs v (match_failed around)

-- a function of a group, with as many regions and effects as it binds
abbrev pub instance_run : Level → Around → List ℕ → ℕ → Value → Object → State → Outcome Value
instance_run low around serials effects v (Group bound many rs regions env) s =
    where_it_holds (length bound == length serials && many == effects) (function_run low around rs (bound_regions bound serials regions) env v) s
instance_run low around serials effects v _ s = no_rule s

-- A function applied to its argument. An instance leads to the group's function, which is followed too; one without regions is applied as it is.
abbrev pub application : Level → Around → Value → Object → State → Outcome Value
application low around v (Prim name a serials arguments) s = prim_application low.same around name a serials arguments v s
application low around v (Maker c p) s = constructed around.live c p v s
application low around v (Closure rs regions env) s = function_run low around rs regions env v s
application low around v (Group bound many rs regions env) s = where_it_holds (length bound == 0) (function_run low around rs regions env v) s
application low around v (Instance f serials effects) s = follow around.live f (instance_run low around serials effects v) s
application low around v _ s = no_rule s

-- ---- groups of functions

-- the addresses at which a group's functions will lie, where each region has so many objects
abbrev pub group_addresses : Around → (ℕ → ℕ) → r.Defs → Env
group_addresses around many r.no_defs = []
group_addresses around many (r.defs head rs ds) =
    let p : ℕ = serial_of around.regions head.at in
    (head.name, Address p (many p)) ∷ group_addresses around (replaced p (suc (many p)) many) ds

-- what the names free in rules stand for
abbrev pub held_by : r.Rules → Env → Env
held_by rs env = bindings_of (free_in_rules (erased_rules rs)) env

-- the functions of a group are made; the group's names stand for their addresses
abbrev pub group_made : Around → Env → Env → r.Defs → State → Outcome Env
group_made around env addresses r.no_defs s = Done addresses s
group_made around env addresses (r.defs head rs ds) s =
    then_do (alloc around.live (serial_of around.regions head.at) (Group head.regions (length head.effects) rs around.regions (held_by rs (addresses ++ env))) s) (λ v s1.
    group_made around env addresses ds s1)

abbrev pub group_bound : Around → Env → r.Defs → State → Outcome Env
group_bound around env group s =
    group_made around env (group_addresses around (λ p. length (s.store.objects p)) group) group s

-- the serials of places
abbrev pub serials_of : Regions → List Place → List ℕ
serials_of regions [] = []
serials_of regions (p ∷ ps) = serial_of regions p ∷ serials_of regions ps

-- An instance lies at the place of its type and holds where the group's function lies; one without places is that function itself.
abbrev pub instance_result : Around → RegionType → List Place → List Effect → Value → State → Outcome Value
instance_result around a [] effects f s = Done f s
instance_result around a (p ∷ ps) effects f s =
    alloc around.live (serial_of_type around.regions a) (Instance f (serials_of around.regions (p ∷ ps)) (length effects)) s

-- ---- expressions

-- by a bool
abbrev pub by_bool : Value → (State → Outcome Value) → (State → Outcome Value) → State → Outcome Value
by_bool (Con d i) first second s = where_it_holds (d == 0 && nat_lt i 2) (λ s1. if i == 1 then first s1 else second s1) s
by_bool _ first second s = no_rule s

-- a match: on the arguments of a function of several patterns it makes no tuple of them
abbrev pub case_result : Level → Around → Env → State → Option r.Exps → r.Exp → r.Rules → Outcome Value
case_result low around env s None e rs = then_do (low.exp around env s e) (λ v s1. rules_result low around env s1 rs v (match_failed around))
case_result low around env s (Some es) e rs =
    then_do (low.parts around env s es) (λ vs s1. rules_by low.spread low around env s1 rs vs (match_failed around))

-- an expression by its form, the parts at the lower level
abbrev pub form_result : Level → Around → Env → State → RegionType → r.Form → Outcome Value
form_result low around env s a (r.Int n) = Done (Int n) s
form_result low around env s a (r.Char c) = Done (Char c) s
form_result low around env s a (r.Str bytes at) = alloc around.live (serial_of around.regions at) (Str bytes) (counted (text_size bytes) s)
form_result low around env s a (r.Name name) = found (λ v s1. Done v s1) (value_at name env) s
form_result low around env s a (r.Prim name) = prim_named around name a s
form_result low around env s a (r.Con c) = constructor_result around a c s
form_result low around env s a r.Unit = Done Unit s
form_result low around env s a (r.Tuple es at) =
    then_do (each_value low.exp around env s es) (λ vs s1. alloc around.live (serial_of around.regions at) (Tuple vs) (counted (length vs) s1))
form_result low around env s a (r.List_of es at) =
    then_do (each_value low.exp around env s es) (λ vs s1. list_result around.live (serial_of around.regions at) vs s1)
form_result low around env s a (r.Seq es) = then_do (each_value low.exp around env s es) last_value
form_result low around env s a (r.App f e) =
    then_do (low.exp around env s f) (λ h s1. then_do (low.exp around env s1 e) (λ v s2. follow around.live h (application low around v) (counted 1 s2)))
form_result low around env s a (r.Let ds es) = then_do (low.scope around env env s r.no_rules (plan_of ds [] es)) (λ x s1. last_value x.1 s1)
form_result low around env s a (r.Fn rs at) =
    alloc around.live (serial_of around.regions at) (Closure rs around.regions (held_by rs env)) (counted (function_words (erased_rules rs)) s)
form_result low around env s a (r.Case e rs) = case_result low around env s (arguments_of e rs) e rs
form_result low around env s a (r.Handle e rs) = handled (low.exp around env s e) (λ p s1. rules_result low around env s1 rs p (λ s2. Raised p s2))
form_result low around env s a (r.Raise e) = then_do (low.exp around env s e) (λ p s1. Raised p s1)
form_result low around env s a (r.If x y z) =
    then_do (low.exp around env s x) (λ v s1. by_bool v (λ s2. low.exp around env s2 y) (λ s2. low.exp around env s2 z) s1)
form_result low around env s a (r.Both x y) =
    then_do (low.exp around env s x) (λ v s1. by_bool v (λ s2. low.exp around env s2 y) (λ s2. Done (bool_value false) s2) s1)
form_result low around env s a (r.Either x y) =
    then_do (low.exp around env s x) (λ v s1. by_bool v (λ s2. Done (bool_value true) s2) (λ s2. low.exp around env s2 y) s1)
form_result low around env s a (r.Quote ps at) =
    then_do (each_piece low.exp (serial_of around.regions at) around env s ps) (λ vs s1. list_result around.live (serial_of around.regions at) vs s1)
-- fresh regions have no rule of their own here: see the level above
form_result low around env s a (r.LetRegion rs e) = no_rule s
-- a `let` of one group around an expression
form_result low around env s a (r.Fix ds e) =
    then_do (low.scope around env env s r.no_rules (plan_of (r.funs ds r.no_decs) [] (r.exps e r.no_exps))) (λ x s1. last_value x.1 s1)
form_result low around env s a (r.Inst name places effects) =
    found (λ v s1. instance_result around a places effects v s1) (value_at name env) s

-- ---- declarations

-- the names that a match binds, before those that are bound already, or `Bind`
abbrev pub bound_more : Around → Env → Option Env → State → Outcome Env
bound_more around env None s = thrown around 1 s
bound_more around env (Some more) s = Done (more ++ env) s

-- one binding: its expression where nothing of its own declaration is bound, then its pattern
abbrev pub binding : Level → Around → Env → Env → State → r.Pat → r.Exp → Outcome Env
binding low around outer env s p e =
    then_do (low.exp around outer s e) (λ v s1. then_do (low.pat around s1 p v) (λ more s2. bound_more around env more s2))

-- a binding, and then what comes behind it: each binding uses up height for all that comes after it in its scope
abbrev pub with_binding : Level → Around → Env → Env → State → r.Pat → r.Exp → r.Rules → Plan → Outcome (Env × List Value)
with_binding low around outer env s p e bindings plan =
    then_do (binding low around outer env (counted 1 s) p e) (λ env1 s1. low.scope around outer env1 s1 bindings plan)

-- a declaration, and then what comes behind it, at a height that is lower by one: the further bindings of a `val` use up more
abbrev pub with_dec : Level → Around → Env → State → r.Dec → Plan → Outcome (Env × List Value)
with_dec low around env s (r.val_dec r.no_rules) plan = no_rule s
with_dec low around env s (r.val_dec (r.rules p e bindings)) plan = with_binding low around env env s p e bindings plan
with_dec low around env s (r.fun_dec group) plan =
    then_do (group_bound around env group (counted (group_words (erased_defs group)) s)) (λ bound s1. low.scope around env (bound ++ env) s1 r.no_rules plan)
with_dec low around env s (r.local_dec hidden shown) plan =
    low.scope around env env s r.no_rules (plan_of hidden (Shows shown env plan.decs ∷ plan.pending) plan.body)

-- what comes next: the first declaration that is left in its environment, with what comes behind it, or the end
pub data Coming : Type 0 where
  Comes : Env → r.Dec → Plan → Coming
  Ends : Env → Coming

-- the first of declarations with the others, or what else comes
abbrev pub first_of : Env → r.Decs → List Pending → r.Exps → Coming → Coming
first_of env r.no_decs pending body otherwise = otherwise
first_of env (r.vals bindings ds) pending body otherwise = Comes env (r.val_dec bindings) (plan_of ds pending body)
first_of env (r.funs group ds) pending body otherwise = Comes env (r.fun_dec group) (plan_of ds pending body)
first_of env (r.locals hidden shown ds) pending body otherwise = Comes env (r.local_dec hidden shown) (plan_of ds pending body)

-- the bindings that come before so many
abbrev pub shown_of : ℕ → Env → Env
shown_of count env = take (length env - count) env

-- what is open around declarations
abbrev pub opening : Env → List Pending → r.Exps → Coming
opening env [] body = Ends env
opening env (Shows shown outer after ∷ pending) body =
    first_of env shown (Hides (length env) outer after ∷ pending) body (first_of outer after pending body (opening outer pending body))
opening env (Hides count outer after ∷ pending) body =
    first_of (shown_of count env ++ outer) after pending body (opening (shown_of count env ++ outer) pending body)

-- the declarations, or else what is open around them
abbrev pub coming : Env → r.Decs → List Pending → r.Exps → Coming
coming env decs pending body = first_of env decs pending body (opening env pending body)

-- what the next one gives: the values of the expressions where there is none
abbrev pub with_coming : Evaluator → (Env → State → r.Dec → Plan → Outcome (Env × List Value)) → Around → State → r.Exps → Coming → Outcome (Env × List Value)
with_coming here dec around s body (Comes env d plan) = dec env (counted 1 s) d plan
with_coming here dec around s body (Ends env) = then_do (each_value here around env s body) (λ vs s1. Done (env, vs) s1)

-- what is left of a declaration, and what comes behind it; the expressions of a `let` come at the height that is left
abbrev pub scope_result : Evaluator → Level → Scoping
scope_result here low around outer env s (r.rules p e bindings) plan = with_binding low around outer env s p e bindings plan
scope_result here low around outer env s r.no_rules plan =
    with_coming here (with_dec low around) around s plan.body (coming env plan.decs plan.pending plan.body)

-- ---- heights

-- at height 0: all but an end has run out
abbrev pub over_scope : Scoping
over_scope around outer env s (r.rules p e bindings) plan = Over s
over_scope around outer env s r.no_rules plan =
    with_coming (λ around1 env1 s1 e. Over s1) (λ env1 s1 d plan1. Over s) around s plan.body (coming env plan.decs plan.pending plan.body)

abbrev pub nothing : Level
nothing = record {
  exp = λ around env s e. Over s;
  parts = λ around env s es. Over s;
  pat = λ around s p v. Over s;
  spread = λ around s p vs. Over s;
  same = λ around inside a v w s. Over s;
  scope = over_scope;
}

-- At the height above another. Fresh regions live while the body is evaluated, at the same height; those that the choice doesn't name aren't made.
abbrev pub exp_above : Level → Evaluator
exp_above low around env s (r.exp a (r.LetRegion rs e)) =
    let made : Around × Store = opened (meeting rs (around.choice e)) around s.store in exp_above low made.0 env (storing made.1 s) e
exp_above low around env s (r.exp a form) = form_result low around env (counted 1 s) a form

-- parts count as the tuple of them
abbrev pub parts_above : Level → PartsEvaluator
parts_above low around env s es = then_do (each_value low.exp around env (counted 1 s) es) (λ vs s1. Done vs (counted (length vs) s1))

abbrev pub above : Level → Level
above low = record {
  exp = exp_above low;
  parts = parts_above low;
  pat = λ around s p v. pat_result low.pat around (counted 1 s) p v;
  spread = λ around s p vs. spread_result low.pat around (counted 1 s) p vs;
  same = λ around inside a v w s. same_result low.same around inside a v w (counted 1 s);
  scope = scope_result (exp_above low) low;
}

abbrev pub level : ℕ → Level
level zero = nothing
level (suc n) = above (level n)

-- an expression at a height
abbrev pub eval : ℕ → Evaluator
eval n = (level n).exp

-- a pattern at a height
abbrev pub match_pat : ℕ → Matcher
match_pat n = (level n).pat

-- declarations, from left to right
abbrev pub eval_decs : ℕ → Around → Env → State → r.Decs → Outcome Env
eval_decs n around env s decs = then_do ((level n).scope around env env s r.no_rules (plan_of decs [] r.no_exps)) (λ x s1. Done x.0 s1)

-- ---- the start

-- no objects, and the global region
abbrev pub start_store : Store
start_store = record { objects = λ p. []; made = 1; total = 0 }

abbrev pub start_around : List Datatype → Choice → Around
start_around datatypes choice = record { datatypes = datatypes; choice = choice; live = 1 ∷ []; regions = [] }
