-- Patterns and comparisons of specialised terms, side by side.
use Rattle.std.proofs.Common.{ℕ, ℤ, Bool, true, false, List, Option, Some, None, refl, arith}
use Rattle.std.specs.Prelude.{slice_get, ◌==◌}
use Rattle.std.specs.Str.{bytes_eq}
use Rattle.sml_evaluation.specs.Values.{same_con, text_size}
use Rattle.sml_evaluation.specs.Evaluation.{same_int}
use Rattle.sml_syntax.specs.declared.constructor.Constructor.{Constructor}
use Rattle.sml_syntax.specs.declared.constructor.Constructor.TheVariants as con
use Rattle.region_syntax.specs.GroundTerms as g
use Rattle.sml_evaluation.specs.RunState.{Done, found, counted}
use Rattle.region_eval.specs.GroundValues.{Value, Int, Char, Str, Unit, Tuple, Con, Applied, Packet, PacketOf, Ref, Values, no_values, values, Env}
use Rattle.region_eval.specs.GroundPrimitives.{State, Outcome}
use Rattle.region_eval.specs.GroundEvaluation.{Level, fits_if, joined, and_more, each_match, cell_match, list_match, constructor_match, held_match, applied_match, int_match, char_match, text_match, tuple_match, pat_result, and_same, each_same, same_result}
use Rattle.eval_laws.proofs.Relations.{Mode, along, on, done_here, waits_here, weaker, if_R}
use Rattle.region_eval.proofs.GroundWalks.{S, Steady, Walk, then_W, then_S}

pub found_steady : {A B : Type 0} (f : A → State → Outcome B) → ((x : A) → Steady (f x)) → (o : Option A) → Steady (found f o)
found_steady f h None m s = waits_here
found_steady f h (Some x) m s = h x m s

fits_steady : (b : Bool) → Steady (fits_if b)
fits_steady true m s = done_here
fits_steady false m s = done_here

and_more_R : {m : Mode} (more : Option Env) (next other : State → Outcome (Option Env)) (s : State) → S m s (next s) (other (along m s)) → S m s (and_more more next s) (and_more more other (along m s))
and_more_R None next other s h = done_here
and_more_R (Some more) next other s h = then_S (λ others s1. Done (joined more others) s1) h (λ k others s1. done_here)

each_match_R : (w : Walk) (s : State) (ps : g.Pats) (vs : Values) → S w.m s (each_match w.l.pat s ps vs) (each_match w.h.pat (along w.m s) ps vs)
each_match_R w s g.no_pats no_values = done_here
each_match_R w s (g.pats p ps) (values v vs) =
    then_W w (λ l more s1. and_more more (λ s2. each_match l.pat s2 ps vs) s1) (w.both.pat s p v)
    (λ x more s1. and_more_R more (λ s2. each_match x.l.pat s2 ps vs) (λ s2. each_match x.h.pat s2 ps vs) s1 (each_match_R x s1 ps vs))
each_match_R w s g.no_pats (values v vs) = waits_here
each_match_R w s (g.pats p ps) no_values = waits_here

cell_match_R : (w : Walk) (s : State) (p : g.Pat) (next : Level → State → Value → Outcome (Option Env)) → ((x : Walk) (s1 : State) (tail : Value) → S x.m s1 (next x.l s1 tail) (next x.h (along x.m s1) tail)) → (v : Value)
    → S w.m s (cell_match w.l.pat s p (next w.l) v) (cell_match w.h.pat (along w.m s) p (next w.h) v)
cell_match_R w s p next f (Tuple (values head (values tail no_values))) =
    then_W w (λ l more s1. and_more more (λ s2. next l s2 tail) s1) (w.both.pat s p head)
    (λ x more s1. and_more_R more (λ s2. next x.l s2 tail) (λ s2. next x.h s2 tail) s1 (f x s1 tail))
cell_match_R w s p next f _ = waits_here

list_match_R : (w : Walk) (s : State) (ps : g.Pats) (v : Value) → S w.m s (list_match w.l.pat s ps v) (list_match w.h.pat (along w.m s) ps v)
list_match_R w s g.no_pats (Con d i) = fits_steady (same_con d i 1 0) w.m s
list_match_R w s g.no_pats (Applied d i cell) = done_here
list_match_R w s (g.pats p ps) (Con d i) = done_here
list_match_R w s (g.pats p ps) (Applied d i cell) =
    cell_match_R w s p (λ l s1 tail. list_match l.pat s1 ps tail) (λ x s1 tail. list_match_R x s1 ps tail) cell
list_match_R w s _ _ = waits_here

constructor_steady : (c : Constructor) (v : Value) → Steady (constructor_match c v)
constructor_steady (con.Data d i) (Con e j) m s = fits_steady (same_con d i e j) m s
constructor_steady (con.Data d i) (Applied e j v) m s = done_here
constructor_steady (con.Exn n) (Packet k) m s = fits_steady (n == k) m s
constructor_steady (con.Exn n) (PacketOf k v) m s = fits_steady (n == k) m s
constructor_steady _ _ m s = waits_here

held_R : (w : Walk) (s : State) (p : g.Pat) (o : Option Value) → S w.m s (held_match w.l.pat s p o) (held_match w.h.pat (along w.m s) p o)
held_R w s p None = waits_here
held_R w s p (Some v) = w.both.pat s p v

applied_R : (w : Walk) (s : State) (c : Constructor) (p : g.Pat) (v : Value) → S w.m s (applied_match w.l.pat s c p v) (applied_match w.h.pat (along w.m s) c p v)
applied_R w s (con.Data d i) p (Con e j) = done_here
applied_R w s (con.Data d i) p (Applied e j v) = if_R (same_con d i e j) (w.both.pat s p v) done_here
applied_R w s (con.Exn n) p (Packet k) = done_here
applied_R w s (con.Exn n) p (PacketOf k v) = if_R (n == k) (w.both.pat s p v) done_here
applied_R w s con.Ref p (Ref number) = held_R w s p (slice_get s.store number)
applied_R w s _ p _ = waits_here

int_steady : (n : ℤ) (v : Value) → Steady (int_match n v)
int_steady n (Int k) m s = fits_steady (same_int n k) m s
int_steady n _ m s = waits_here

char_steady : (n : ℕ) (v : Value) → Steady (char_match n v)
char_steady n (Char k) m s = fits_steady (n == k) m s
char_steady n _ m s = waits_here

text_steady : (bytes : List ℕ) (v : Value) → Steady (text_match bytes v)
text_steady bytes (Str other) m s = weaker (on (omega arith) refl) (fits_steady (bytes_eq bytes other) m (counted (text_size bytes) s))
text_steady bytes _ m s = waits_here

tuple_R : (w : Walk) (s : State) (ps : g.Pats) (v : Value) → S w.m s (tuple_match w.l.pat s ps v) (tuple_match w.h.pat (along w.m s) ps v)
tuple_R w s ps (Tuple vs) = each_match_R w s ps vs
tuple_R w s ps _ = waits_here

-- a pattern by its form
pub pat_R : (w : Walk) (s : State) (p : g.Pat) (v : Value) → S w.m s (pat_result w.l.pat s p v) (pat_result w.h.pat (along w.m s) p v)
pat_R w s (g.pat t g.AnyPat) v = done_here
pat_R w s (g.pat t (g.IntPat n)) v = int_steady n v w.m s
pat_R w s (g.pat t (g.CharPat c)) v = char_steady c v w.m s
pat_R w s (g.pat t (g.StrPat bytes)) v = text_steady bytes v w.m s
pat_R w s (g.pat t g.UnitPat) v = done_here
pat_R w s (g.pat t (g.NamePat name)) v = done_here
pat_R w s (g.pat t (g.TuplePat ps)) v = tuple_R w s ps v
pat_R w s (g.pat t (g.ListPat ps)) v = list_match_R w s ps v
pat_R w s (g.pat t (g.ConPat c)) v = constructor_steady c v w.m s
pat_R w s (g.pat t (g.AppPat c p)) v = applied_R w s c p v

-- ---- equality

and_same_R : {m : Mode} (b : Bool) (next other : State → Outcome Bool) (s : State) → S m s (next s) (other (along m s)) → S m s (and_same b next s) (and_same b other (along m s))
and_same_R true next other s h = h
and_same_R false next other s h = done_here

each_same_R : (w : Walk) (vs ws : Values) (s : State) → S w.m s (each_same w.l.same vs ws s) (each_same w.h.same vs ws (along w.m s))
each_same_R w no_values no_values s = done_here
each_same_R w (values a vs) (values b ws) s =
    then_W w (λ l c s1. and_same c (each_same l.same vs ws) s1) (w.both.same a b s)
    (λ x c s1. and_same_R c (each_same x.l.same vs ws) (each_same x.h.same vs ws) s1 (each_same_R x vs ws s1))
each_same_R w no_values (values b ws) s = waits_here
each_same_R w (values a vs) no_values s = waits_here

pub same_R : (w : Walk) (a b : Value) (s : State) → S w.m s (same_result w.l.same a b s) (same_result w.h.same a b (along w.m s))
same_R w (Int a) (Int b) s = done_here
same_R w (Char a) (Char b) s = done_here
same_R w (Str a) (Str b) s = done_here
same_R w Unit Unit s = done_here
same_R w (Tuple vs) (Tuple ws) s = each_same_R w vs ws s
same_R w (Con d i) (Con e j) s = done_here
same_R w (Con d i) (Applied e j b) s = done_here
same_R w (Applied d i a) (Con e j) s = done_here
same_R w (Applied d i a) (Applied e j b) s = if_R (same_con d i e j) (w.both.same a b s) done_here
same_R w (Ref a) (Ref b) s = done_here
same_R w _ _ s = waits_here
