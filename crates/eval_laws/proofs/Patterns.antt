-- Patterns and comparisons, side by side.
use Rattle.std.proofs.Common.{ℕ, Bool, true, false, List, [], ◌∷◌, Option, Some, None, refl, arith}
use Rattle.std.specs.Prelude.{slice_get, ◌==◌}
use Rattle.std.specs.Str.{bytes_eq}
use Rattle.sml_syntax.specs.declared.constructor.Constructor.{Constructor}
use Rattle.sml_syntax.specs.declared.constructor.Constructor.TheVariants as con
use Rattle.sml_syntax.specs.declared.tree.Pat.{Pat}
use Rattle.sml_syntax.specs.declared.tree.PatForm.TheOpen.{PatForm-F}
use Rattle.sml_syntax.specs.Layers.{PatLayer}
use Rattle.sml_evaluation.specs.declared.value.Value.{Value}
use Rattle.sml_evaluation.specs.declared.value.Bound.TheOpen.{Value-F, Bound-F}
use Rattle.sml_evaluation.specs.ValueLayers.{ValueLayer, form_of_value}
use Rattle.sml_evaluation.specs.Values.{text_size, same_con, Env, BoundLayer, opened}
use Rattle.sml_evaluation.specs.RunState.{Done, Waits, then_do, counted}
use Rattle.sml_evaluation.specs.Outcome.{State, Outcome}
use Rattle.sml_evaluation.specs.Evaluation.{Level, meaning, fits_if, constructor_match, name_result, joined, and_more, each_match, cell_match, list_match, argument_match, held_match, con_match, applied_match, constant_match, tuple_match, pat_result, same_int, and_same, each_same, same_result}
use Rattle.eval_laws.proofs.Relations.{Mode, Higher, along, Onward, on, stays, R, done, waits, done_here, waits_here, weaker, if_R}
use Rattle.eval_laws.proofs.Rows.{S, Steady}
use Rattle.eval_laws.proofs.Walks.{Walk, then_W, then_S}

fits_steady : (b : Bool) → Steady (fits_if b)
fits_steady true m s = done_here
fits_steady false m s = done_here

constructor_steady : (c : Constructor) (v : ValueLayer) → Steady (constructor_match c v)
constructor_steady (con.Data d i) (Value-F.Con e j) m s = fits_steady (same_con d i e j) m s
constructor_steady (con.Data d i) (Value-F.Applied e j argument) m s = done_here
constructor_steady (con.Exn number) (Value-F.Exn other argument) m s = fits_steady (number == other) m s
constructor_steady _ _ m s = waits_here

name_steady : (name : List ℕ) (b : Option BoundLayer) (v : Value) → Steady (name_result name b v)
name_steady name (Some (Bound-F.Constructor c has_argument)) v m s = constructor_steady c (form_of_value v) m s
name_steady name _ v m s = done_here

and_more_R : {m : Mode} (more : Option Env) (next other : State → Outcome (Option Env)) (s : State) → S m s (next s) (other (along m s)) → S m s (and_more more next s) (and_more more other (along m s))
and_more_R None next other s h = done_here
and_more_R (Some more) next other s h = then_S (λ others s1. Done (joined more others) s1) h (λ k others s1. done_here)

each_match_R : (w : Walk) (env : Env) (s : State) (ps : List Pat) (vs : List Value) → S w.m s (each_match w.l.pat env s ps vs) (each_match w.h.pat env (along w.m s) ps vs)
each_match_R w env s [] [] = done_here
each_match_R w env s (p ∷ ps) (v ∷ vs) =
    then_W w (λ l more s1. and_more more (λ s2. each_match l.pat env s2 ps vs) s1) (w.both.pat env s p v)
    (λ x more s1. and_more_R more (λ s2. each_match x.l.pat env s2 ps vs) (λ s2. each_match x.h.pat env s2 ps vs) s1 (each_match_R x env s1 ps vs))
each_match_R w env s [] (v ∷ vs) = waits_here
each_match_R w env s (p ∷ ps) [] = waits_here

cell_match_R : (w : Walk) (env : Env) (s : State) (p : Pat) (next : Level → State → ValueLayer → Outcome (Option Env)) → ((x : Walk) (s1 : State) (tail : ValueLayer) → S x.m s1 (next x.l s1 tail) (next x.h (along x.m s1) tail)) → (v : ValueLayer)
    → S w.m s (cell_match w.l.pat env s p (next w.l) v) (cell_match w.h.pat env (along w.m s) p (next w.h) v)
cell_match_R w env s p next g (Value-F.Tuple (head ∷ tail ∷ [])) =
    then_W w (λ l more s1. and_more more (λ s2. next l s2 (form_of_value tail)) s1) (w.both.pat env s p head)
    (λ x more s1. and_more_R more (λ s2. next x.l s2 (form_of_value tail)) (λ s2. next x.h s2 (form_of_value tail)) s1 (g x s1 (form_of_value tail)))
cell_match_R w env s p next g _ = waits_here

list_match_R : (w : Walk) (env : Env) (s : State) (ps : List Pat) (v : ValueLayer) → S w.m s (list_match w.l.pat env s ps v) (list_match w.h.pat env (along w.m s) ps v)
list_match_R w env s [] (Value-F.Con d i) = fits_steady (same_con d i 1 0) w.m s
list_match_R w env s [] (Value-F.Applied d i cell) = done_here
list_match_R w env s (p ∷ ps) (Value-F.Con d i) = done_here
list_match_R w env s (p ∷ ps) (Value-F.Applied d i cell) =
    cell_match_R w env s p (λ l s1 tail. list_match l.pat env s1 ps tail) (λ x s1 tail. list_match_R x env s1 ps tail) (form_of_value cell)
list_match_R w env s _ _ = waits_here

argument_R : (w : Walk) (env : Env) (s : State) (p : Pat) (o : Option Value) → S w.m s (argument_match w.l.pat env s p o) (argument_match w.h.pat env (along w.m s) p o)
argument_R w env s p None = done_here
argument_R w env s p (Some v) = w.both.pat env s p v

held_R : (w : Walk) (env : Env) (s : State) (p : Pat) (o : Option Value) → S w.m s (held_match w.l.pat env s p o) (held_match w.h.pat env (along w.m s) p o)
held_R w env s p None = waits_here
held_R w env s p (Some v) = w.both.pat env s p v

con_match_R : (w : Walk) (env : Env) (s : State) (c : Constructor) (p : Pat) (v : ValueLayer) → S w.m s (con_match w.l.pat env s c p v) (con_match w.h.pat env (along w.m s) c p v)
con_match_R w env s (con.Data d i) p (Value-F.Con e j) = done_here
con_match_R w env s (con.Data d i) p (Value-F.Applied e j argument) = if_R (same_con d i e j) (w.both.pat env s p argument) done_here
con_match_R w env s (con.Exn number) p (Value-F.Exn other argument) = if_R (number == other) (argument_R w env s p argument) done_here
con_match_R w env s con.Ref p (Value-F.Ref number) = held_R w env s p (slice_get s.store number)
con_match_R w env s c p _ = waits_here

applied_match_R : (w : Walk) (env : Env) (s : State) (p : Pat) (b : Option BoundLayer) (v : ValueLayer) → S w.m s (applied_match w.l.pat env s p b v) (applied_match w.h.pat env (along w.m s) p b v)
applied_match_R w env s p (Some (Bound-F.Constructor c has_argument)) v = con_match_R w env s c p v
applied_match_R w env s p _ v = waits_here

constant_steady : (p : PatLayer) (v : ValueLayer) → Steady (constant_match p v)
constant_steady (PatForm-F.Int n) (Value-F.Int k) m s = fits_steady (same_int n k) m s
constant_steady (PatForm-F.Char c) (Value-F.Char d) m s = fits_steady (c == d) m s
constant_steady (PatForm-F.Str bytes) (Value-F.Str text) m s = weaker (on (omega arith) refl) (fits_steady (bytes_eq bytes text) m (counted (text_size bytes) s))
constant_steady _ _ m s = waits_here

tuple_match_R : (w : Walk) (env : Env) (s : State) (ps : List Pat) (v : ValueLayer) → S w.m s (tuple_match w.l.pat env s ps v) (tuple_match w.h.pat env (along w.m s) ps v)
tuple_match_R w env s ps (Value-F.Tuple vs) = each_match_R w env s ps vs
tuple_match_R w env s ps _ = waits_here

-- a pattern by its form
pub pat_R : (w : Walk) (env : Env) (s : State) (p : PatLayer) (v : Value) → S w.m s (pat_result w.l.pat env s p v) (pat_result w.h.pat env (along w.m s) p v)
pat_R w env s PatForm-F.Any v = done_here
pat_R w env s (PatForm-F.Int n) v = constant_steady (PatForm-F.Int n) (form_of_value v) w.m s
pat_R w env s (PatForm-F.Char c) v = constant_steady (PatForm-F.Char c) (form_of_value v) w.m s
pat_R w env s (PatForm-F.Str bytes) v = constant_steady (PatForm-F.Str bytes) (form_of_value v) w.m s
pat_R w env s PatForm-F.Unit v = done_here
pat_R w env s (PatForm-F.Name name) v = name_steady name (opened (meaning name env)) v w.m s
pat_R w env s (PatForm-F.Tuple ps) v = tuple_match_R w env s ps (form_of_value v)
pat_R w env s (PatForm-F.List ps) v = list_match_R w env s ps (form_of_value v)
pat_R w env s (PatForm-F.Con name p) v = applied_match_R w env s p (opened (meaning name env)) (form_of_value v)
pat_R w env s (PatForm-F.Typed p t) v = w.both.pat env s p v

-- ---- equality

and_same_R : {m : Mode} (b : Bool) (next other : State → Outcome Bool) (s : State) → S m s (next s) (other (along m s)) → S m s (and_same b next s) (and_same b other (along m s))
and_same_R true next other s h = h
and_same_R false next other s h = done_here

each_same_R : (w : Walk) (vs ws : List Value) (s : State) → S w.m s (each_same w.l.same vs ws s) (each_same w.h.same vs ws (along w.m s))
each_same_R w [] [] s = done_here
each_same_R w (a ∷ vs) (b ∷ ws) s =
    then_W w (λ l c s1. and_same c (each_same l.same vs ws) s1) (w.both.same a b s)
    (λ x c s1. and_same_R c (each_same x.l.same vs ws) (each_same x.h.same vs ws) s1 (each_same_R x vs ws s1))
each_same_R w [] (b ∷ ws) s = waits_here
each_same_R w (a ∷ vs) [] s = waits_here

pub same_R : (w : Walk) (a b : ValueLayer) (s : State) → S w.m s (same_result w.l.same a b s) (same_result w.h.same a b (along w.m s))
same_R w (Value-F.Int a) (Value-F.Int b) s = done_here
same_R w (Value-F.Char a) (Value-F.Char b) s = done_here
same_R w (Value-F.Str a) (Value-F.Str b) s = done_here
same_R w Value-F.Unit Value-F.Unit s = done_here
same_R w (Value-F.Tuple vs) (Value-F.Tuple ws) s = each_same_R w vs ws s
same_R w (Value-F.Con d i) (Value-F.Con e j) s = done_here
same_R w (Value-F.Con d i) (Value-F.Applied e j b) s = done_here
same_R w (Value-F.Applied d i a) (Value-F.Con e j) s = done_here
same_R w (Value-F.Applied d i a) (Value-F.Applied e j b) s = if_R (same_con d i e j) (w.both.same a b s) done_here
same_R w (Value-F.Ref a) (Value-F.Ref b) s = done_here
same_R w _ _ s = waits_here
