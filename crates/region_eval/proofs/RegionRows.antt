-- Primitives on the values of region terms, side by side.
use Rattle.std.proofs.Common.{ℕ, suc, ◌+◌, Bool, true, List, [], ◌∷◌, ◌++◌, None, arith}
use Rattle.std.specs.Prelude.{nat_eq, nat_lt, length, if◌then◌else◌}
use Rattle.sml_evaluation.specs.Primitives.{Row, Constant, First, Second, Third, Contents, Assigned, Same, primitives, row_of, prim_result}
use Rattle.region_syntax.specs.GroundTypes as g
use Rattle.region_syntax.specs.GroundTypes.{GroundType}
use Rattle.region_syntax.specs.RegionTypes.{RegionType, erased_type}
use Rattle.sml_evaluation.specs.RunState.{Done, Raised, counted}
use Rattle.region_eval.specs.Carried.{plain_state, carried}
use Rattle.region_eval.specs.GroundPrimitives.{never, wanted_by}
use Rattle.region_eval.specs.RegionStore.{NoneFits, Value, Address, Object, Tuple, Ref, Prim, Store, Around, State, serial_of_type, result_serials}
use Rattle.region_eval.specs.RegionPrimitives.{each_read, read, written, carrying, called, contents, assigned_at, assigned, relies_on, inside_of, Comparing, equality, next_serial, later_serials, held, row_result, prim_application, row_named, prim_named}
use Rattle.region_eval.proofs.Relations.{done_R, raised_R, waits_R, no_rule_R, if_R, then_R}
use Rattle.region_eval.proofs.Rows.{Carries, carried_R, result_fine}
use Rattle.region_eval.proofs.RegionPatterns.{S, holds_R, found_R, stored_R, alloc_R, follow_R, Compares}

pub carries : {k : ℕ} (live : List ℕ) (p calls : ℕ) → Carries NoneFits Value Store k (carrying live p calls)
carries live p calls = record {
  value = λ v s. stored_R s.count (λ w s1. Done w s1) (λ w s1. Done w s1) s (λ w store. done_R (omega arith)) (omega arith) (written v live p s.store);
  packet = λ v s. stored_R s.count (λ w s1. Raised w s1) (λ w s1. Raised w s1) s (λ w store. raised_R (omega arith)) (omega arith) (written v live 1 s.store);
  wait = λ s. if_R (nat_eq (length s.shared.calls) calls) (no_rule_R (omega arith)) (waits_R (omega arith));
}

pub called_R : {k : ℕ} (live : List ℕ) (p : ℕ) (name : List ℕ) (a : GroundType) (arguments : List Value) (v : Value) (s : State) → S k s.count (called live p name a arguments v s) (called live p name a arguments v s)
called_R live p name a arguments v s =
    found_R _ _
    (λ xs s1. found_R _ _
    (λ x s2. holds_R (relies_on live p name a arguments v s2.store)
    (λ s3. carried (carrying live p (length s3.shared.calls)) s3.store (prim_result never name xs x (plain_state s3)))
    (λ s3. carried (carrying live p (length s3.shared.calls)) s3.store (prim_result never name xs x (plain_state s3))) s2
    (carried_R (carrying live p (length s2.shared.calls)) (carries live p (length s2.shared.calls)) s2.count s2.store (prim_result never name xs x (plain_state s2)) (result_fine name xs x (plain_state s2))))
    (read live s1.store v) s1) (each_read (read live s.store) arguments) s

pub contents_R : {k : ℕ} (o : Object) (s : State) → S k s.count (contents o s) (contents o s)
contents_R (Ref v) s = done_R (omega arith)
contents_R _ s = no_rule_R (omega arith)

pub assigned_at_R : {k : ℕ} (p i : ℕ) (v : Value) (o : Object) (s : State) → S k s.count (assigned_at p i v o s) (assigned_at p i v o s)
assigned_at_R p i v (Ref old) s = done_R (omega arith)
assigned_at_R p i v _ s = no_rule_R (omega arith)

pub assigned_R : {k : ℕ} (live : List ℕ) (o : Object) (s : State) → S k s.count (assigned live o s) (assigned live o s)
assigned_R live (Tuple (Address p i ∷ v ∷ [])) s = follow_R live (Address p i) (assigned_at p i v) (assigned_at p i v) (assigned_at_R p i v) s
assigned_R live _ s = no_rule_R (omega arith)

pub equality_R : {k : ℕ} (same other : Comparing) → Compares k same other → (around : Around) (wanted : Bool) (a : GroundType) (o : Object) (s : State)
    → S k s.count (equality same around wanted a o s) (equality other around wanted a o s)
equality_R same other h around wanted (g.Arrow (g.Tuple (g.types a ts)) b) (Tuple (v ∷ w ∷ [])) s = then_R (h around (inside_of None true) a v w s) (λ b1 s1. done_R (omega arith))
equality_R same other h around wanted _ _ s = no_rule_R (omega arith)

pub other_R : {k : ℕ} (around : Around) (name : List ℕ) (a : GroundType) (serials : List ℕ) (row : Row) (arguments : List Value) (v : Value) (s : State)
    → S k s.count
    (if nat_lt (suc (length arguments)) (wanted_by row) then held around.live name a serials (arguments ++ v ∷ []) s else called around.live (next_serial serials) name a arguments v s)
    (if nat_lt (suc (length arguments)) (wanted_by row) then held around.live name a serials (arguments ++ v ∷ []) s else called around.live (next_serial serials) name a arguments v s)
other_R around name a serials row arguments v s =
    if_R (nat_lt (suc (length arguments)) (wanted_by row))
    (alloc_R s.count around.live (next_serial serials) (Prim name a (later_serials serials) (arguments ++ v ∷ [])) (counted (1 + length (arguments ++ v ∷ [])) s) (omega arith))
    (called_R around.live (next_serial serials) name a arguments v s)

pub row_R : {k : ℕ} (same other : Comparing) → Compares k same other → (around : Around) (name : List ℕ) (a : GroundType) (serials : List ℕ) (row : Row) (arguments : List Value) (v : Value) (s : State)
    → S k s.count (row_result same around name a serials row arguments v s) (row_result other around name a serials row arguments v s)
row_R same other h around name a serials (Same wanted) arguments v s =
    follow_R around.live v (equality same around wanted a) (equality other around wanted a) (equality_R same other h around wanted a) s
row_R same other h around name a serials Contents arguments v s = follow_R around.live v contents contents contents_R s
row_R same other h around name a serials Assigned arguments v s = follow_R around.live v (assigned around.live) (assigned around.live) (assigned_R around.live) s
row_R same other h around name a serials (Constant c) arguments v s = other_R around name a serials (Constant c) arguments v s
row_R same other h around name a serials (First f) arguments v s = other_R around name a serials (First f) arguments v s
row_R same other h around name a serials (Second f) arguments v s = other_R around name a serials (Second f) arguments v s
row_R same other h around name a serials (Third f) arguments v s = other_R around name a serials (Third f) arguments v s

pub application_R : {k : ℕ} (same other : Comparing) → Compares k same other → (around : Around) (name : List ℕ) (a : GroundType) (serials : List ℕ) (arguments : List Value) (v : Value) (s : State)
    → S k s.count (prim_application same around name a serials arguments v s) (prim_application other around name a serials arguments v s)
application_R same other h around name a serials arguments v s = found_R _ _ (λ row s1. row_R same other h around name a serials row arguments v s1) (row_of name primitives) s

pub row_named_R : {k : ℕ} (around : Around) (name : List ℕ) (a : RegionType) (row : Row) (s : State) → S k s.count (row_named around name a row s) (row_named around name a row s)
row_named_R around name a (Constant v) s = stored_R s.count (λ w s1. Done w s1) (λ w s1. Done w s1) s (λ w store. done_R (omega arith)) (omega arith) (written v around.live 1 s.store)
row_named_R around name a _ s =
    alloc_R s.count around.live (serial_of_type around.regions a) (Prim name (erased_type a) (result_serials around.regions a) []) s (omega arith)

pub named_R : {k : ℕ} (around : Around) (name : List ℕ) (a : RegionType) (s : State) → S k s.count (prim_named around name a s) (prim_named around name a s)
named_R around name a s = found_R _ _ (λ row s1. row_named_R around name a row s1) (row_of name primitives) s
