-- Primitives on the values of specialised terms, side by side.
use Rattle.std.proofs.Common.{◌≡◌, ℕ, suc, ◌+◌, ◌≤◌, Bool, List, Option, Some, None, refl, sym, ap, subst, arith}
use Rattle.std.specs.Prelude.{slice_get, nat_lt, length, not, if◌then◌else◌}
use Rattle.sml_evaluation.specs.declared.value.Value as plain
use Rattle.sml_evaluation.specs.RunState.{Done, Raised, BadStatement, Over, Waits, NoRule, then_do, found, state_of, state_left}
use Rattle.sml_evaluation.specs.Outcome as source
use Rattle.sml_evaluation.specs.Primitives.{Row, Constant, First, Second, Third, Contents, Assigned, Same, primitives, row_of, row_value, prim_result}
use Rattle.eval_laws.specs.Heights.{Betters, Begins}
use Rattle.eval_laws.proofs.Relations as side
use Rattle.eval_laws.proofs.Relations.{Mode, Higher, Longer, along, Onward, on, stays, R, done, raised, refused, done_here, waits_here, weaker, if_R, begins_self}
use Rattle.eval_laws.proofs.Rows as rows
use Rattle.eval_laws.proofs.Rows.{Comparings, prim_R}
use Rattle.region_eval.specs.Carried.{plain_state, carried}
use Rattle.region_eval.specs.GroundValues.{Value, Tuple, Ref, Values, no_values, values, many_values, and_value, bool_value}
use Rattle.region_eval.specs.GroundPrimitives.{State, Outcome, carrying, never, seen, all_seen, taken, called, contents, assigned, Comparing, equality, held, wanted_by, row_result, prim_application, prim_named}
use Rattle.region_eval.proofs.GroundWalks.{S, Steady, Walk, then_S}
use Rattle.region_eval.proofs.GroundPatterns.{found_steady}

-- ---- what a primitive of plain values comes to

value_steady : (v : plain.Value) → Steady (carrying.value v)
value_steady v = found_steady (λ w s1. Done w s1) (λ w m s1. done_here) (taken v)

packet_steady : (v : plain.Value) → Steady (carrying.packet v)
packet_steady v = found_steady (λ w s1. Raised w s1) (λ w m s1. raised (stays s1)) (taken v)

-- the state stays
left_here : (f : Value → State → Outcome Value) → ((w : Value) (s : State) → state_left (f w s) ≡ s) → (o : Option Value) (s : State) → state_left (found f o s) ≡ s
left_here f h None s = refl
left_here f h (Some w) s = h w s

carried_left : (store : List Value) (p : source.Outcome plain.Value) → state_left (carried carrying store p) ≡ state_of (state_left p).shared store (state_left p).count
carried_left store (Done v t) = left_here (λ w s1. Done w s1) (λ w s. refl) (taken v) (state_of t.shared store t.count)
carried_left store (Raised v t) = left_here (λ w s1. Raised w s1) (λ w s. refl) (taken v) (state_of t.shared store t.count)
carried_left store (BadStatement place t) = refl
carried_left store (Over t) = refl
carried_left store (Waits t) = refl
carried_left store (NoRule x t) = absurd x

-- a state that is reached from the plain one
reached : (s : State) (store : List Value) (t : source.State) → Onward (List plain.Value) (plain_state s) t → Onward (List Value) s (state_of t.shared store t.count)
reached s store t l = record { count = l.count; calls = l.calls }

reached_by : (s : State) (store : List Value) (p : source.Outcome plain.Value) → Onward (List plain.Value) (plain_state s) (state_left p) → Onward (List Value) s (state_left (carried carrying store p))
reached_by s store p l = subst (λ t. Onward (List Value) s t) (sym (carried_left store p)) (reached s store (state_left p) l)

waited : (m : Mode) (store : List Value) (t : source.State) (p : source.Outcome plain.Value) → side.Waited m t p → side.Waited {A = Value} m (state_of t.shared store t.count) (carried carrying store p)
waited (Higher k) store t p w = ap (carried carrying store) w
waited (Longer more) store t p w = subst (λ u. Begins t.shared.calls u.shared.calls) (sym (carried_left store p)) w

no_less : (n : ℕ) → n + 1 ≤ n → ⊥
no_less n l = omega (arith, l)

carried_R : {m : Mode} (s : State) (store : List Value) (o p : source.Outcome plain.Value) → rows.S m (plain_state s) o p → Betters 1 o o → S m s (carried carrying store o) (carried carrying store p)
carried_R {m = m} s store (Done v t) p r b =
    subst (λ q. S m s (carrying.value v (state_of t.shared store t.count)) (carried carrying store q)) (sym r.better)
    (weaker (reached s store t r.low) (value_steady v m (state_of t.shared store t.count)))
carried_R {m = m} s store (Raised v t) p r b =
    subst (λ q. S m s (carrying.packet v (state_of t.shared store t.count)) (carried carrying store q)) (sym r.better)
    (weaker (reached s store t r.low) (packet_steady v m (state_of t.shared store t.count)))
carried_R {m = m} s store (BadStatement place t) p r b =
    subst (λ q. S m s (BadStatement place (state_of t.shared store t.count)) (carried carrying store q)) (sym r.better) (refused (reached s store t r.low))
carried_R {m = m} s store (Over t) p r b = absurd (no_less t.count b)
carried_R {m = m} s store (Waits t) p r b = record { low = reached s store t r.low; high = reached_by s store p r.high; better = waited m store t p r.better }
carried_R {m = m} s store (NoRule x t) p r b = absurd x

-- primitives never run out of height
nothing_compared : (m : Mode) → Comparings m never never
nothing_compared m = record { both = λ v w s. waits_here; grows = λ v w s. stays s }

result_R : (m : Mode) (name : List ℕ) (arguments : List plain.Value) (v : plain.Value) (s : source.State) → rows.S m s (prim_result never name arguments v s) (prim_result never name arguments v (along m s))
result_R m name arguments v s = prim_R never never (nothing_compared m) name arguments v s

result_there : (name : List ℕ) (arguments : List plain.Value) (v : plain.Value) (s : source.State) → Betters 1 (prim_result never name arguments v s) (prim_result never name arguments v s)
result_there name arguments v s = side.betters_at 1 (λ t. prim_result never name arguments v t) (prim_result never name arguments v s) s (result_R (Higher 1) name arguments v s)

called_steady : (name : List ℕ) (arguments : Values) (v : Value) → Steady (called name arguments v)
called_steady name arguments v =
    found_steady _
    (λ xs. found_steady _
    (λ x m s2. carried_R s2 s2.store (prim_result never name xs x (plain_state s2)) (prim_result never name xs x (plain_state (along m s2))) (result_R m name xs x (plain_state s2)) (result_there name xs x (plain_state s2)))
    (seen v)) (all_seen arguments)

contents_steady : (v : Value) → Steady (contents v)
contents_steady (Ref number) m s = found_steady (λ v s1. Done v s1) (λ v k s1. done_here) (slice_get s.store number) m s
contents_steady _ m s = waits_here

assigned_steady : (v : Value) → Steady (assigned v)
assigned_steady (Tuple (values (Ref number) (values v no_values))) m s = if_R (nat_lt number (length s.store)) (done (on (omega arith) refl)) waits_here
assigned_steady _ m s = waits_here

equality_R : (w : Walk) (wanted : Bool) (v : Value) (s : State) → S w.m s (equality w.l.same wanted v s) (equality w.h.same wanted v (along w.m s))
equality_R w wanted (Tuple (values a (values b no_values))) s =
    then_S (λ b1 s1. Done (bool_value (if wanted then b1 else not b1)) s1) (w.both.same a b s) (λ k b1 s1. done_here)
equality_R w wanted _ s = waits_here

other_steady : (name : List ℕ) (row : Row) (arguments : Values) (v : Value)
    → Steady (λ s. if nat_lt (suc (many_values arguments)) (wanted_by row) then held name (and_value arguments v) s else called name arguments v s)
other_steady name row arguments v m s = if_R (nat_lt (suc (many_values arguments)) (wanted_by row)) (done (on (omega arith) refl)) (called_steady name arguments v m s)

row_R : (w : Walk) (name : List ℕ) (row : Row) (arguments : Values) (v : Value) (s : State)
    → S w.m s (row_result w.l.same name row arguments v s) (row_result w.h.same name row arguments v (along w.m s))
row_R w name (Same wanted) arguments v s = equality_R w wanted v s
row_R w name Contents arguments v s = contents_steady v w.m s
row_R w name Assigned arguments v s = assigned_steady v w.m s
row_R w name (Constant c) arguments v s = other_steady name (Constant c) arguments v w.m s
row_R w name (First f) arguments v s = other_steady name (First f) arguments v w.m s
row_R w name (Second f) arguments v s = other_steady name (Second f) arguments v w.m s
row_R w name (Third f) arguments v s = other_steady name (Third f) arguments v w.m s

found_row : (w : Walk) (name : List ℕ) (row : Option Row) (arguments : Values) (v : Value) (s : State)
    → S w.m s (found (λ r s1. row_result w.l.same name r arguments v s1) row s) (found (λ r s1. row_result w.h.same name r arguments v s1) row (along w.m s))
found_row w name None arguments v s = waits_here
found_row w name (Some row) arguments v s = row_R w name row arguments v s

pub application_R : (w : Walk) (name : List ℕ) (arguments : Values) (v : Value) (s : State) → S w.m s (prim_application w.l.same name arguments v s) (prim_application w.h.same name arguments v (along w.m s))
application_R w name arguments v s = found_row w name (row_of name primitives) arguments v s

pub named_steady : (name : List ℕ) → Steady (prim_named name)
named_steady name = found_steady _ (λ row. found_steady _ (λ v m s2. done_here) (taken (row_value name row))) (row_of name primitives)
