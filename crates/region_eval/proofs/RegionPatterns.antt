-- Patterns and comparisons of region terms, side by side.
use Rattle.std.proofs.Common.{ℕ, suc, ◌≤◌, ℤ, Bool, true, false, List, [], ◌∷◌, Option, Some, None, arith}
use Rattle.std.specs.Prelude.{◌==◌, ◌&&◌, not, if◌then◌else◌}
use Rattle.std.specs.Str.{bytes_eq}
use Rattle.sml_evaluation.specs.Values.{text_size}
use Rattle.sml_evaluation.specs.Evaluation.{same_int}
use Rattle.sml_syntax.specs.declared.constructor.Constructor.{Constructor}
use Rattle.sml_syntax.specs.declared.constructor.Constructor.TheVariants as con
use Rattle.region_syntax.specs.GroundTypes as g
use Rattle.region_syntax.specs.GroundTypes.{GroundType, GroundTypes}
use Rattle.region_syntax.specs.RegionTerms as r
use Rattle.region_syntax.specs.EqualityWays.{Way, Words, Texts, Parts, Itself, Function, way_of}
use Rattle.sml_evaluation.specs.RunState.{Done, counted, storing}
use Rattle.region_eval.specs.RegionStore.{NoneFits, Value, Int, Char, Unit, Con, Address, Env, Object, Str, Tuple, Applied, Packet, PacketOf, Ref, Store, Around, State, Outcome, where_it_holds, found, serial_of_type, put, stored, alloc, followed, follow, with_region, with_live}
use Rattle.region_eval.specs.RegionPrimitives.{Inside, inside_of, Comparing}
use Rattle.region_eval.specs.RegionEvaluation.{Matcher, PartsMatcher, fits_if, and_more, each_match, pair_match, cell_match, list_match, is_constant, is_applied, has_applied, packet_match, constructor_match, argument_match, applied_match, int_match, char_match, text_match, tuple_match, spread_result, pat_result, argument_type, and_same, each_same, both_followed, texts_same, tuples_same, arguments_same, constant_of, data_same, ints_same, chars_same, units_same, references_same, compared, compared_by, same_result}
use Rattle.region_eval.proofs.Relations.{R, done_R, no_rule_R, if_R, then_R}

-- of region terms
abbrev pub S : {A : Type 0} → ℕ → ℕ → Outcome A → Outcome A → Type 0
S {A} k n o p = R NoneFits Value Store A k n o p

pub found_R : {A B : Type 0} {k : ℕ} (f f1 : A → State → Outcome B) → ((x : A) (s : State) → S k s.count (f x s) (f1 x s)) → (o : Option A) (s : State) → S k s.count (found f o s) (found f1 o s)
found_R f f1 h None s = no_rule_R (omega arith)
found_R f f1 h (Some x) s = h x s

-- ---- the store

pub stored_R : {A : Type 0} {k : ℕ} (n : ℕ) (f f1 : A → State → Outcome Value) (s : State) → ((x : A) (store : Store) → S k n (f x (storing store s)) (f1 x (storing store s))) → n ≤ s.count → (o : Option (A × Store))
    → S k n (stored f o s) (stored f1 o s)
stored_R n f f1 s h l None = no_rule_R l
stored_R n f f1 s h l (Some x) = h x.0 x.1

pub alloc_R : {k : ℕ} (n : ℕ) (live : List ℕ) (p : ℕ) (o : Object) (s : State) → n ≤ s.count → S k n (alloc live p o s) (alloc live p o s)
alloc_R n live p o s l = stored_R n (λ v s1. Done v s1) (λ v s1. Done v s1) s (λ v store. done_R l) l (put live p o s.store)

pub follow_R : {A : Type 0} {k : ℕ} (live : List ℕ) (v : Value) (f f1 : Object → State → Outcome A) → ((o : Object) (s : State) → S k s.count (f o s) (f1 o s)) → (s : State) → S k s.count (follow live v f s) (follow live v f1 s)
follow_R live v f f1 h s = found_R f f1 h (followed live v s.store) s

-- ---- patterns

pub holds_R : {A : Type 0} {k : ℕ} (b : Bool) (f f1 : State → Outcome A) (s : State) → S k s.count (f s) (f1 s) → S k s.count (where_it_holds b f s) (where_it_holds b f1 s)
holds_R true f f1 s h = h
holds_R false f f1 s h = no_rule_R (omega arith)

abbrev pub Matches : ℕ → Matcher → Matcher → Type 0
Matches k part other = (around : Around) (s : State) (p : r.Pat) (v : Value) → S k s.count (part around s p v) (other around s p v)

pub fits_here : {k : ℕ} (b : Bool) (s : State) → S k s.count (fits_if b s) (fits_if b s)
fits_here true s = done_R (omega arith)
fits_here false s = done_R (omega arith)

pub and_more_R : {k : ℕ} (more : Option Env) (next other : State → Outcome (Option Env)) (s : State) → S k s.count (next s) (other s) → S k s.count (and_more more next s) (and_more more other s)
and_more_R None next other s h = done_R (omega arith)
and_more_R (Some more) next other s h = then_R h (λ others s1. done_R (omega arith))

pub each_match_R : {k : ℕ} (part other : Matcher) → Matches k part other → (around : Around) (s : State) (ps : r.Pats) (vs : List Value) → S k s.count (each_match part around s ps vs) (each_match other around s ps vs)
each_match_R part other h around s r.no_pats [] = done_R (omega arith)
each_match_R part other h around s (r.pats p ps) (v ∷ vs) =
    then_R (h around s p v) (λ more s1. and_more_R more (λ s2. each_match part around s2 ps vs) (λ s2. each_match other around s2 ps vs) s1 (each_match_R part other h around s1 ps vs))
each_match_R part other h around s _ _ = no_rule_R (omega arith)

abbrev pub Nexts : ℕ → (State → Value → Outcome (Option Env)) → (State → Value → Outcome (Option Env)) → Type 0
Nexts k next next1 = (s : State) (tail : Value) → S k s.count (next s tail) (next1 s tail)

pub pair_R : {k : ℕ} (part other : Matcher) → Matches k part other → (around : Around) (p : r.Pat) (next next1 : State → Value → Outcome (Option Env)) → Nexts k next next1 → (o : Object) (s : State)
    → S k s.count (pair_match part around p next o s) (pair_match other around p next1 o s)
pair_R part other h around p next next1 f (Tuple (head ∷ tail ∷ [])) s =
    then_R (h around s p head) (λ more s1. and_more_R more (λ s2. next s2 tail) (λ s2. next1 s2 tail) s1 (f s1 tail))
pair_R part other h around p next next1 f _ s = no_rule_R (omega arith)

pub cell_R : {k : ℕ} (part other : Matcher) → Matches k part other → (around : Around) (p : r.Pat) (next next1 : State → Value → Outcome (Option Env)) → Nexts k next next1 → (o : Object) (s : State)
    → S k s.count (cell_match part around p next o s) (cell_match other around p next1 o s)
cell_R part other h around p next next1 f (Applied d i cell) s =
    holds_R (d == 1 && i == 1) (follow around.live cell (pair_match part around p next)) (follow around.live cell (pair_match other around p next1)) s
    (follow_R around.live cell (pair_match part around p next) (pair_match other around p next1) (pair_R part other h around p next next1 f) s)
cell_R part other h around p next next1 f _ s = no_rule_R (omega arith)

pub list_match_R : {k : ℕ} (part other : Matcher) → Matches k part other → (around : Around) (s : State) (ps : r.Pats) (v : Value) → S k s.count (list_match part around s ps v) (list_match other around s ps v)
list_match_R part other h around s r.no_pats (Con d i) = holds_R (d == 1 && i == 0) (fits_if true) (fits_if true) s (fits_here true s)
list_match_R part other h around s r.no_pats (Address q i) = fits_here false s
list_match_R part other h around s (r.pats p ps) (Con d i) = holds_R (d == 1 && i == 0) (fits_if false) (fits_if false) s (fits_here false s)
list_match_R part other h around s (r.pats p ps) (Address q i) =
    follow_R around.live (Address q i) (cell_match part around p (λ s1 tail. list_match part around s1 ps tail)) (cell_match other around p (λ s1 tail. list_match other around s1 ps tail))
    (cell_R part other h around p (λ s1 tail. list_match part around s1 ps tail) (λ s1 tail. list_match other around s1 ps tail) (λ s1 tail. list_match_R part other h around s1 ps tail)) s
list_match_R part other h around s _ _ = no_rule_R (omega arith)

pub packet_R : {k : ℕ} (n : ℕ) (o : Object) (s : State) → S k s.count (packet_match n o s) (packet_match n o s)
packet_R n (Packet m) s = fits_here (n == m) s
packet_R n (PacketOf m v) s = fits_here (n == m) s
packet_R n _ s = no_rule_R (omega arith)

pub constructor_R : {k : ℕ} (around : Around) (c : Constructor) (v : Value) (s : State) → S k s.count (constructor_match around c v s) (constructor_match around c v s)
constructor_R around (con.Data d i) (Con e j) s =
    holds_R (d == e && is_constant around.datatypes d i && is_constant around.datatypes d j) (fits_if (i == j)) (fits_if (i == j)) s (fits_here (i == j) s)
constructor_R around (con.Data d i) (Address q j) s =
    holds_R (is_constant around.datatypes d i && has_applied around.datatypes d) (fits_if false) (fits_if false) s (fits_here false s)
constructor_R around (con.Exn n) (Address q j) s = follow_R around.live (Address q j) (packet_match n) (packet_match n) (packet_R n) s
constructor_R around _ _ s = no_rule_R (omega arith)

pub argument_R : {k : ℕ} (part other : Matcher) → Matches k part other → (around : Around) (c : Constructor) (p : r.Pat) (o : Object) (s : State) → S k s.count (argument_match part around c p o s) (argument_match other around c p o s)
argument_R part other h around (con.Data d i) p (Applied e j v) s =
    holds_R (d == e && is_applied around.datatypes d i && is_applied around.datatypes d j) (λ s1. if i == j then part around s1 p v else fits_if false s1)
    (λ s1. if i == j then other around s1 p v else fits_if false s1) s (if_R (i == j) (h around s p v) (fits_here false s))
argument_R part other h around (con.Exn n) p (Packet m) s = holds_R (not (n == m)) (fits_if false) (fits_if false) s (fits_here false s)
argument_R part other h around (con.Exn n) p (PacketOf m v) s = if_R (n == m) (h around s p v) (fits_here false s)
argument_R part other h around con.Ref p (Ref v) s = h around s p v
argument_R part other h around _ p _ s = no_rule_R (omega arith)

pub applied_R : {k : ℕ} (part other : Matcher) → Matches k part other → (around : Around) (s : State) (c : Constructor) (p : r.Pat) (v : Value) → S k s.count (applied_match part around s c p v) (applied_match other around s c p v)
applied_R part other h around s (con.Data d i) p (Con e j) =
    holds_R (d == e && is_applied around.datatypes d i && is_constant around.datatypes d j) (fits_if false) (fits_if false) s (fits_here false s)
applied_R part other h around s c p v = follow_R around.live v (argument_match part around c p) (argument_match other around c p) (argument_R part other h around c p) s

pub int_R : {k : ℕ} (n : ℤ) (v : Value) (s : State) → S k s.count (int_match n v s) (int_match n v s)
int_R n (Int m) s = fits_here (same_int n m) s
int_R n _ s = no_rule_R (omega arith)

pub char_R : {k : ℕ} (n : ℕ) (v : Value) (s : State) → S k s.count (char_match n v s) (char_match n v s)
char_R n (Char m) s = fits_here (n == m) s
char_R n _ s = no_rule_R (omega arith)

pub text_R : {k : ℕ} (bytes : List ℕ) (o : Object) (s : State) → S k s.count (text_match bytes o s) (text_match bytes o s)
text_R bytes (Str other) s = fits_here (bytes_eq bytes other) s
text_R bytes _ s = no_rule_R (omega arith)

pub tuple_R : {k : ℕ} (part other : Matcher) → Matches k part other → (around : Around) (ps : r.Pats) (o : Object) (s : State) → S k s.count (tuple_match part around ps o s) (tuple_match other around ps o s)
tuple_R part other h around ps (Tuple vs) s = each_match_R part other h around s ps vs
tuple_R part other h around ps _ s = no_rule_R (omega arith)

-- the arguments of a function of several patterns
abbrev pub Spreads : ℕ → PartsMatcher → PartsMatcher → Type 0
Spreads k part other = (around : Around) (s : State) (p : r.Pat) (vs : List Value) → S k s.count (part around s p vs) (other around s p vs)

pub spread_R : {k : ℕ} (part other : Matcher) → Matches k part other → Spreads k (spread_result part) (spread_result other)
spread_R part other h around s (r.pat a (r.TuplePat ps)) vs = each_match_R part other h around s ps vs
spread_R part other h around s _ vs = no_rule_R (omega arith)

-- a pattern by its form
pub pat_R : {k : ℕ} (part other : Matcher) → Matches k part other → (around : Around) (s : State) (p : r.Pat) (v : Value) → S k s.count (pat_result part around s p v) (pat_result other around s p v)
pat_R part other h around s (r.pat a r.AnyPat) v = fits_here true s
pat_R part other h around s (r.pat a (r.IntPat n)) v = int_R n v s
pat_R part other h around s (r.pat a (r.CharPat c)) v = char_R c v s
pat_R part other h around s (r.pat a (r.StrPat bytes)) v =
    then_R (alloc_R s.count around.live (serial_of_type around.regions a) (Str bytes) (counted (text_size bytes) s) (omega arith))
    (λ x s1. follow_R around.live v (text_match bytes) (text_match bytes) (text_R bytes) s1)
pat_R part other h around s (r.pat a r.UnitPat) v = fits_here true s
pat_R part other h around s (r.pat a (r.NamePat name)) v = done_R (omega arith)
pat_R part other h around s (r.pat a (r.TuplePat ps)) v = follow_R around.live v (tuple_match part around ps) (tuple_match other around ps) (tuple_R part other h around ps) s
pat_R part other h around s (r.pat a (r.ListPat ps)) v = list_match_R part other h around s ps v
pat_R part other h around s (r.pat a (r.ConPat c)) v = constructor_R around c v s
pat_R part other h around s (r.pat a (r.AppPat c p)) v = applied_R part other h around s c p v

-- ---- equality

abbrev pub Compares : ℕ → Comparing → Comparing → Type 0
Compares k part other = (around : Around) (inside : Inside) (a : GroundType) (v w : Value) (s : State) → S k s.count (part around inside a v w s) (other around inside a v w s)

pub and_same_R : {k : ℕ} (b : Bool) (next other : State → Outcome Bool) (s : State) → S k s.count (next s) (other s) → S k s.count (and_same b next s) (and_same b other s)
and_same_R true next other s h = h
and_same_R false next other s h = done_R (omega arith)

pub each_same_R : {k : ℕ} (part other : Comparing) → Compares k part other → (around : Around) (inside : Inside) (ts : GroundTypes) (vs ws : List Value) (s : State)
    → S k s.count (each_same part around inside ts vs ws s) (each_same other around inside ts vs ws s)
each_same_R part other h around inside g.no_types [] [] s = done_R (omega arith)
each_same_R part other h around inside (g.types a ts) (v ∷ vs) (w ∷ ws) s =
    then_R (h around inside a v w s) (λ b s1. and_same_R b (each_same part around inside ts vs ws) (each_same other around inside ts vs ws) s1 (each_same_R part other h around inside ts vs ws s1))
each_same_R part other h around inside _ _ _ s = no_rule_R (omega arith)

pub both_R : {k : ℕ} (around : Around) (v w : Value) (f f1 : Object → Object → State → Outcome Bool) → ((o o1 : Object) (s : State) → S k s.count (f o o1 s) (f1 o o1 s)) → (s : State)
    → S k s.count (both_followed around v w f s) (both_followed around v w f1 s)
both_R around v w f f1 h s =
    follow_R around.live v (λ o s1. follow around.live w (f o) s1) (λ o s1. follow around.live w (f1 o) s1) (λ o s1. follow_R around.live w (f o) (f1 o) (h o) s1) s

pub texts_R : {k : ℕ} (o o1 : Object) (s : State) → S k s.count (texts_same o o1 s) (texts_same o o1 s)
texts_R (Str a) (Str b) s = done_R (omega arith)
texts_R _ _ s = no_rule_R (omega arith)

pub tuples_R : {k : ℕ} (part other : Comparing) → Compares k part other → (around : Around) (own : Option GroundType) (ts : GroundTypes) (o o1 : Object) (s : State)
    → S k s.count (tuples_same part around own ts o o1 s) (tuples_same other around own ts o o1 s)
tuples_R part other h around own ts (Tuple vs) (Tuple ws) s = each_same_R part other h around (inside_of own false) ts vs ws s
tuples_R part other h around own ts _ _ s = no_rule_R (omega arith)

pub arguments_R : {k : ℕ} (part other : Comparing) → Compares k part other → (around : Around) (own : Option GroundType) (n : ℕ) (ts : GroundTypes) (o o1 : Object) (s : State)
    → S k s.count (arguments_same part around own n ts o o1 s) (arguments_same other around own n ts o o1 s)
arguments_R part other h around own n ts (Applied d i v) (Applied e j w) s =
    holds_R (d == n && e == n && is_applied around.datatypes n i && is_applied around.datatypes n j)
    (λ s1. if i == j then found (λ a s2. part around (inside_of own true) a v w s2) (argument_type around.datatypes n ts i) s1 else Done false s1)
    (λ s1. if i == j then found (λ a s2. other around (inside_of own true) a v w s2) (argument_type around.datatypes n ts i) s1 else Done false s1) s
    (if_R (i == j)
    (found_R (λ a s1. part around (inside_of own true) a v w s1) (λ a s1. other around (inside_of own true) a v w s1) (λ a s1. h around (inside_of own true) a v w s1) (argument_type around.datatypes n ts i) s)
    (done_R (omega arith)))
arguments_R part other h around own n ts _ _ s = no_rule_R (omega arith)

pub answer_R : {k : ℕ} (b : Bool) (x : Bool) (s : State) → S k s.count (where_it_holds b (λ s1. Done x s1) s) (where_it_holds b (λ s1. Done x s1) s)
answer_R b x s = holds_R b (λ s1. Done x s1) (λ s1. Done x s1) s (done_R (omega arith))

pub data_R : {k : ℕ} (part other : Comparing) → Compares k part other → (around : Around) (own : Option GroundType) (n : ℕ) (ts : GroundTypes) (v w : Value) (s : State)
    → S k s.count (data_same part around own n ts v w s) (data_same other around own n ts v w s)
data_R part other h around own n ts (Con d i) (Con e j) s = answer_R (constant_of around n d i && constant_of around n e j) (i == j) s
data_R part other h around own n ts (Con d i) (Address q j) s = answer_R (constant_of around n d i) false s
data_R part other h around own n ts (Address p i) (Con e j) s = answer_R (constant_of around n e j) false s
data_R part other h around own n ts (Address p i) (Address q j) s =
    both_R around (Address p i) (Address q j) (arguments_same part around own n ts) (arguments_same other around own n ts) (arguments_R part other h around own n ts) s
data_R part other h around own n ts _ _ s = no_rule_R (omega arith)

pub ints_R : {k : ℕ} (v w : Value) (s : State) → S k s.count (ints_same v w s) (ints_same v w s)
ints_R (Int a) (Int b) s = done_R (omega arith)
ints_R _ _ s = no_rule_R (omega arith)

pub chars_R : {k : ℕ} (v w : Value) (s : State) → S k s.count (chars_same v w s) (chars_same v w s)
chars_R (Char a) (Char b) s = done_R (omega arith)
chars_R _ _ s = no_rule_R (omega arith)

pub units_R : {k : ℕ} (v w : Value) (s : State) → S k s.count (units_same v w s) (units_same v w s)
units_R Unit Unit s = done_R (omega arith)
units_R _ _ s = no_rule_R (omega arith)

pub references_R : {k : ℕ} (v w : Value) (o o1 : Object) (s : State) → S k s.count (references_same v w o o1 s) (references_same v w o o1 s)
references_R v w (Ref x) (Ref y) s = done_R (omega arith)
references_R v w _ _ s = no_rule_R (omega arith)

pub compared_R : {k : ℕ} (part other : Comparing) → Compares k part other → (around : Around) (own : Option GroundType) (a : GroundType) (v w : Value) (s : State)
    → S k s.count (compared part around own a v w s) (compared other around own a v w s)
compared_R part other h around own g.Int v w s = ints_R v w s
compared_R part other h around own g.Char v w s = chars_R v w s
compared_R part other h around own g.Unit v w s = units_R v w s
compared_R part other h around own g.Str v w s = both_R around v w texts_same texts_same texts_R s
compared_R part other h around own (g.Tuple ts) v w s = both_R around v w (tuples_same part around own ts) (tuples_same other around own ts) (tuples_R part other h around own ts) s
compared_R part other h around own (g.Data n ts) v w s = data_R part other h around own n ts v w s
compared_R part other h around own (g.Ref a) v w s = both_R around v w (references_same v w) (references_same v w) (references_R v w) s
compared_R part other h around own _ v w s = no_rule_R (omega arith)

pub by_way_R : {k : ℕ} (way : Way) (part other : Comparing) → Compares k part other → (around : Around) (own : Option GroundType) (a : GroundType) (v w : Value) (s : State)
    → S k s.count (compared_by way part around own a v w s) (compared_by way other around own a v w s)
by_way_R Words part other h around own a v w s = compared_R part other h around own a v w s
by_way_R Texts part other h around own a v w s = compared_R part other h around own a v w s
by_way_R Parts part other h around own a v w s = compared_R part other h around own a v w s
by_way_R Itself part other h around own a v w s = compared_R part other h around own a v w s
by_way_R Function part other h around own a v w s =
    compared_R part other h (with_live (suc s.store.made) around) (Some a) a v w (storing (with_region s.store) s)

pub same_R : {k : ℕ} (part other : Comparing) → Compares k part other → Compares k (same_result part) (same_result other)
same_R part other h around inside a v w s = by_way_R (way_of around.datatypes inside.own inside.apart a) part other h around inside.own a v w s
