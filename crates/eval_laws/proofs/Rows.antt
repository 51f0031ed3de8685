-- Primitives never run out of height, count no less, and go by the answers that are left alone.
use Rattle.std.proofs.Common.{◌≡◌, ℕ, Bool, true, false, cond, ℤ, pos, negsuc, List, [], ◌∷◌, ◌++◌, length, Option, Some, None, refl, arith}
use Rattle.std.specs.Prelude.{set, slice_get, nat_lt, int_lt, int_le, ◌+ℤ◌, ◌-ℤ◌, ◌*ℤ◌, neg_ℤ, not, ◌&&◌}
use Rattle.std.specs.List.{concat}
use Rattle.std.specs.Ordering.{nat_cmp}
use Rattle.std.specs.Cmp.Lexicographic.{slice_cmp}
use Rattle.std.specs.Str.{bytes_eq}
use Rattle.sml_evaluation.specs.declared.value.Value.{Value}
use Rattle.sml_evaluation.specs.declared.value.Bound.TheOpen.{Value-F}
use Rattle.web_data.specs.declared.datum.Desc.{Desc}
use Rattle.web_data.specs.declared.datum.Desc.TheVariants as desc
use Rattle.web_data.specs.declared.cache.CacheId.{CacheId}
use Rattle.web_data.specs.declared.cache.CacheOp.{CacheOp}
use Rattle.web_data.specs.declared.cache.CacheOp.TheVariants as op
use Rattle.web_data.specs.declared.cache.CacheAns.{CacheAns}
use Rattle.web_data.specs.declared.cache.CacheAns.TheVariants as told
use Rattle.web_data.specs.declared.database.WebCall.{WebCall}
use Rattle.web_data.specs.declared.database.WebCall.TheVariants as call
use Rattle.web_data.specs.declared.database.WebAns.{WebAns}
use Rattle.web_data.specs.declared.database.WebAns.TheVariants as answer
use Rattle.sml_syntax.specs.Ranges.{is_int}
use Rattle.sml_evaluation.specs.ValueLayers.{ValueLayer, form_of_value}
use Rattle.sml_evaluation.specs.Values.{int_value, unit_value, desc_value}
use Rattle.sml_evaluation.specs.DataValues.{is_plain, texts_of, pieces_of, datum_of}
use Rattle.sml_evaluation.specs.RunState.{Done, Raised, Waits, then_do, found, counted, storing, sharing, state_left}
use Rattle.sml_evaluation.specs.Outcome.{State, Outcome}
use Rattle.sml_evaluation.specs.BasisFunctions.{quotient, modulus, is_zero, byte_of, byte_at, part_at, number_front, is_listed, text_under, texts_under, is_content_type, is_status, is_cache_name, limit_of, failure_of, rows_of, bad_type, bad_status, bad_cache_name, no_database}
use Rattle.web_data.specs.StatementReading.{Told, Command, Outside, statement_of}
use Rattle.web_data.specs.CallAnswers.{call_answer_fits, row_list}
use Rattle.sml_evaluation.specs.Primitives.{int_text, divided, overflow, subscript, no_char, failure, int_result, text_result, bool_result, datum_result, optional_text, text_list_result, char_or, text_or_subscript, OfForm, by_form, of_int, of_char, of_text, of_ref, of_desc, of_cache, of_parts, of_three, of_four, of_pair, of_ints, of_texts, times, plus, minus, by_divisor, compared, concatenation, contents, assigned_to, assigned, to_char, sub, cut, order_value, int_to_string, optional_int, web_write, set_type, set_status, answered, asked, cache_result, cache_answer_result, on_cache, limit_by, cache_with, cache_limited, use_by, cache_of_kind, cache_get, cache_lookup, cache_insert, unless_failed, dml_result, rows_result, on_database, database, Row, Constant, First, Second, Third, Contents, Assigned, Same, primitives, row_of, Comparing, equality, of_plain, row_result, prim_result}
use Rattle.eval_laws.specs.Heights.{with_more, Begins, calls_of}
use Rattle.eval_laws.proofs.Relations.{Mode, Higher, Longer, more_of, along, Onward, on, stays, onward, R, done, raised, refused, waits, done_here, waits_here, weaker, if_R, then_R, begins_self}

-- evaluations of programs, side by side
abbrev pub S : {A : Type 0} → Mode → State → Outcome A → Outcome A → Type 0
S {A} m s o p = R ⊥ Value (List Value) A m s o p

-- a function of the state that goes by it alone
abbrev pub Steady : {A : Type 0} → (State → Outcome A) → Type 0
Steady f = (m : Mode) (s : State) → S m s (f s) (f (along m s))

-- what is left by it is no less
pub grown : {A : Type 0} (f : State → Outcome A) → Steady f → (s : State) → Onward (List Value) s (state_left (f s))
grown f h s = (h (Higher 0) s).low

int_steady : (n : ℤ) → Steady (int_result n)
int_steady n m s = if_R (is_int n) done_here (raised (on (omega arith) refl))

optional_text_steady : (o : Option (List ℕ)) → Steady (optional_text o)
optional_text_steady None m s = done_here
optional_text_steady (Some t) m s = done (on (omega arith) refl)

char_or_steady : (f : State → Outcome Value) → Steady f → (o : Option ℕ) → Steady (char_or f o)
char_or_steady f h None m s = h m s
char_or_steady f h (Some b) m s = done_here

text_or_steady : (o : Option (List ℕ)) → Steady (text_or_subscript o)
text_or_steady None m s = raised (on (omega arith) refl)
text_or_steady (Some b) m s = done (on (omega arith) refl)

optional_int_steady : (o : Option ℤ) → Steady (optional_int o)
optional_int_steady None m s = done_here
optional_int_steady (Some n) m s = if_R (is_int n) (done (on (omega arith) refl)) (raised (on (omega arith) refl))

-- a function of a value's form
abbrev SteadyForm : OfForm → Type 0
SteadyForm f = (v : ValueLayer) → Steady (f v)

of_int_steady : (f : ℤ → State → Outcome Value) → ((n : ℤ) → Steady (f n)) → SteadyForm (of_int f)
of_int_steady f h (Value-F.Int n) m s = h n m s
of_int_steady f h _ m s = waits_here

of_char_steady : (f : ℕ → State → Outcome Value) → ((n : ℕ) → Steady (f n)) → SteadyForm (of_char f)
of_char_steady f h (Value-F.Char n) m s = h n m s
of_char_steady f h _ m s = waits_here

of_text_steady : (f : List ℕ → State → Outcome Value) → ((n : List ℕ) → Steady (f n)) → SteadyForm (of_text f)
of_text_steady f h (Value-F.Str n) m s = h n m s
of_text_steady f h _ m s = waits_here

of_ref_steady : (f : ℕ → State → Outcome Value) → ((n : ℕ) → Steady (f n)) → SteadyForm (of_ref f)
of_ref_steady f h (Value-F.Ref n) m s = h n m s
of_ref_steady f h _ m s = waits_here

of_desc_steady : (f : Desc → State → Outcome Value) → ((n : Desc) → Steady (f n)) → SteadyForm (of_desc f)
of_desc_steady f h (Value-F.Desc n) m s = h n m s
of_desc_steady f h _ m s = waits_here

of_cache_steady : (f : CacheId → State → Outcome Value) → ((n : CacheId) → Steady (f n)) → SteadyForm (of_cache f)
of_cache_steady f h (Value-F.Cache n) m s = h n m s
of_cache_steady f h _ m s = waits_here

of_parts_steady : (f : Value → Value → State → Outcome Value) → ((a b : Value) → Steady (f a b)) → SteadyForm (of_parts f)
of_parts_steady f h (Value-F.Tuple (a ∷ b ∷ [])) m s = h a b m s
of_parts_steady f h _ m s = waits_here

of_three_steady : (f : Value → Value → Value → State → Outcome Value) → ((a b c : Value) → Steady (f a b c)) → SteadyForm (of_three f)
of_three_steady f h (Value-F.Tuple (a ∷ b ∷ c ∷ [])) m s = h a b c m s
of_three_steady f h _ m s = waits_here

of_four_steady : (f : Value → Value → Value → Value → State → Outcome Value) → ((a b c d : Value) → Steady (f a b c d)) → SteadyForm (of_four f)
of_four_steady f h (Value-F.Tuple (a ∷ b ∷ c ∷ d ∷ [])) m s = h a b c d m s
of_four_steady f h _ m s = waits_here

abbrev SteadyPair : (ValueLayer → ValueLayer → State → Outcome Value) → Type 0
SteadyPair f = (v w : ValueLayer) → Steady (f v w)

of_ints_steady : (f : ℤ → ℤ → State → Outcome Value) → ((a b : ℤ) → Steady (f a b)) → SteadyPair (of_ints f)
of_ints_steady f h (Value-F.Int a) (Value-F.Int b) m s = h a b m s
of_ints_steady f h _ _ m s = waits_here

of_texts_steady : (f : List ℕ → List ℕ → State → Outcome Value) → ((a b : List ℕ) → Steady (f a b)) → SteadyPair (of_texts f)
of_texts_steady f h (Value-F.Str a) (Value-F.Str b) m s = h a b m s
of_texts_steady f h _ _ m s = waits_here

pub found_steady : {A B : Type 0} (f : A → State → Outcome B) → ((x : A) → Steady (f x)) → (o : Option A) → Steady (found f o)
found_steady f h None m s = waits_here
found_steady f h (Some x) m s = h x m s

by_divisor_steady : (g : ℤ → ℤ → ℤ) → SteadyPair (by_divisor g)
by_divisor_steady g = of_ints_steady _ (λ a b m s. if_R (is_zero b) (raised (on (omega arith) refl)) (int_steady (g a b) m s))

compared_steady : (g : ℤ → ℤ → Bool) → SteadyPair (compared g)
compared_steady g = of_ints_steady _ (λ a b m s. done_here)

sub_steady : SteadyPair sub
sub_steady (Value-F.Str bytes) (Value-F.Int i) m s = char_or_steady subscript (λ m1 s1. raised (on (omega arith) refl)) (byte_at bytes i) m s
sub_steady _ _ m s = waits_here

cut_steady : (a b c : ValueLayer) → Steady (cut a b c)
cut_steady (Value-F.Str bytes) (Value-F.Int i) (Value-F.Int n) m s = text_or_steady (part_at bytes i n) m s
cut_steady _ _ _ m s = waits_here

contents_steady : SteadyForm contents
contents_steady = of_ref_steady _ (λ number m s. found_steady (λ v s1. Done v s1) (λ v m1 s1. done_here) (slice_get s.store number) m s)

assigned_to_steady : (v : Value) → SteadyForm (assigned_to v)
assigned_to_steady v = of_ref_steady _ (λ number m s. if_R (nat_lt number (length s.store)) (done (on (omega arith) refl)) waits_here)

assigned_steady : SteadyForm assigned
assigned_steady = of_parts_steady _ (λ r v m s. assigned_to_steady v (form_of_value r) m s)

set_type_steady : (bytes : List ℕ) → Steady (set_type bytes)
set_type_steady bytes m s = if_R (is_content_type bytes) (done (on (omega arith) refl)) (raised (on (omega arith) refl))

set_status_steady : (n : ℤ) → Steady (set_status n)
set_status_steady (pos n) m s = if_R (is_status (pos n)) (done (on (omega arith) refl)) (raised (on (omega arith) refl))
set_status_steady (negsuc n) m s = raised (on (omega arith) refl)

-- ---- calls

abbrev SteadyAnswer : (WebAns → State → Outcome Value) → Type 0
SteadyAnswer f = (a : WebAns) → Steady (f a)

-- with the answers that are left, and with others behind them
answered_on : (c : WebCall) (answers : List WebAns) (next : WebAns → State → Outcome Value) → SteadyAnswer next → (s : State) → Onward (List Value) s (state_left (answered c answers next s))
answered_on c [] next h s = stays s
answered_on c (a ∷ answers) next h s =
    let went : State = sharing (record (s.shared) { answers = answers }) s in
    on_either (call_answer_fits c a) (next a went) (onward (on (omega arith) refl) (grown (next a) (h a) went))
  where
    on_either : (b : Bool) (o : Outcome Value) → Onward (List Value) s (state_left o) → Onward (List Value) s (state_left (cond b o (Waits s)))
    on_either true o l = l
    on_either false o l = stays s

no_answer : (m : Mode) (c : WebCall) (next : WebAns → State → Outcome Value) → SteadyAnswer next → (s : State) → S m s (Waits s) (answered c (more_of m) next (along m s))
no_answer (Higher k) c next h s = waits_here
no_answer (Longer more) c next h s =
    let l : Onward (List Value) (with_more more s) (state_left (answered c more next (with_more more s))) = answered_on c more next h (with_more more s) in
    record { low = stays s; high = onward (on (omega arith) refl) l; better = l.calls }

answered_steady : (c : WebCall) (answers : List WebAns) (next : WebAns → State → Outcome Value) → SteadyAnswer next → (m : Mode) (s : State)
    → S m s (answered c answers next s) (answered c (answers ++ more_of m) next (along m s))
answered_steady c [] next h m s = no_answer m c next h s
answered_steady c (a ∷ answers) next h m s =
    if_R (call_answer_fits c a) (weaker (on (omega arith) refl) (h a m (sharing (record (s.shared) { answers = answers }) s))) waits_here

asks : (c : WebCall) (s : State) → Onward (List Value) s (sharing (record (s.shared) { calls = s.shared.calls ++ c ∷ [] }) s)
asks c s = record { count = omega arith; calls = (c ∷ [], refl) }

asked_steady : (c : WebCall) (next : WebAns → State → Outcome Value) → SteadyAnswer next → Steady (asked c next)
asked_steady c next h m s = weaker (asks c s) (answered_steady c s.shared.answers next h m (sharing (record (s.shared) { calls = s.shared.calls ++ c ∷ [] }) s))

cache_result_steady : (a : CacheAns) → Steady (cache_result a)
cache_result_steady (told.Found d) m s = done (on (omega arith) refl)
cache_result_steady told.Absent m s = done_here
cache_result_steady (told.Fresh fresh) m s = done_here
cache_result_steady told.Flushed m s = done_here
cache_result_steady _ m s = waits_here

cache_answer_steady : SteadyAnswer cache_answer_result
cache_answer_steady (answer.Cache a) m s = cache_result_steady a m s
cache_answer_steady (answer.Db a) m s = waits_here

on_cache_steady : (id : CacheId) (o : CacheOp) → Steady (on_cache id o)
on_cache_steady id o = asked_steady (call.Cache (record { id = id; op = o })) cache_answer_result cache_answer_steady

cache_with_steady : (name : List ℕ) (key value : Desc) (used : Bool) (t z : Option (Option ℕ)) → Steady (cache_with name key value used t z)
cache_with_steady name key value used (Some time) (Some size) m s = done (on (omega arith) refl)
cache_with_steady name key value used _ _ m s = raised (on (omega arith) refl)

cache_limited_steady : (name : List ℕ) (key value : Desc) (used : Bool) → SteadyForm (cache_limited name key value used)
cache_limited_steady name key value used =
    of_parts_steady _
    (λ a b m s. found_steady (λ t s1. found (λ z s2. cache_with name key value used (limit_of t) (limit_of z) s2) (limit_by (form_of_value b)) s1)
    (λ t m1 s1. found_steady (λ z s2. cache_with name key value used (limit_of t) (limit_of z) s2) (λ z m2 s2. cache_with_steady name key value used (limit_of t) (limit_of z) m2 s2) (limit_by (form_of_value b)) m1 s1)
    (limit_by (form_of_value a)) m s)

cache_of_kind_steady : (name : List ℕ) (key value : Desc) → SteadyForm (cache_of_kind name key value)
cache_of_kind_steady name key value (Value-F.Applied d i limits) m s =
    found_steady (λ used s1. cache_limited name key value used (form_of_value limits) s1) (λ used m1 s1. cache_limited_steady name key value used (form_of_value limits) m1 s1) (use_by d i) m s
cache_of_kind_steady name key value _ m s = waits_here

cache_get_steady : (a b c d : ValueLayer) → Steady (cache_get a b c d)
cache_get_steady (Value-F.Desc key) (Value-F.Desc value) (Value-F.Str name) kind m s = if_R (is_cache_name name) (cache_of_kind_steady name key value kind m s) (raised (on (omega arith) refl))
cache_get_steady _ _ _ kind m s = waits_here

cache_lookup_steady : (c k : Value) → Steady (cache_lookup c k)
cache_lookup_steady c k m s =
    of_cache_steady (λ id s1. found (λ key s2. on_cache id (op.Look key) s2) (datum_of id.key k) s1)
    (λ id m1 s1. found_steady (λ key s2. on_cache id (op.Look key) s2) (λ key m2 s2. on_cache_steady id (op.Look key) m2 s2) (datum_of id.key k) m1 s1)
    (form_of_value c) m s

cache_insert_steady : (c k v : Value) → Steady (cache_insert c k v)
cache_insert_steady c k v m s =
    of_cache_steady (λ id s1. found (λ key s2. found (λ d s3. on_cache id (op.Put key d) s3) (datum_of id.value v) s2) (datum_of id.key k) s1)
    (λ id m1 s1. found_steady (λ key s2. found (λ d s3. on_cache id (op.Put key d) s3) (datum_of id.value v) s2)
    (λ key m2 s2. found_steady (λ d s3. on_cache id (op.Put key d) s3) (λ d m3 s3. on_cache_steady id (op.Put key d) m3 s3) (datum_of id.value v) m2 s2) (datum_of id.key k) m1 s1)
    (form_of_value c) m s

unless_failed_steady : (o : Option (List ℕ)) (next : State → Outcome Value) → Steady next → Steady (unless_failed o next)
unless_failed_steady None next h m s = h m s
unless_failed_steady (Some t) next h m s = raised (on (omega arith) refl)

dml_steady : SteadyAnswer dml_result
dml_steady (answer.Db a) m s = unless_failed_steady (failure_of a) (Done unit_value) (λ m1 s1. done_here) m s
dml_steady (answer.Cache a) m s = waits_here

rows_steady : SteadyAnswer rows_result
rows_steady (answer.Db a) m s = unless_failed_steady (failure_of a) (datum_result (row_list (rows_of a))) (λ m1 s1. done (on (omega arith) refl)) m s
rows_steady (answer.Cache a) m s = waits_here

on_database_steady : (name : List ℕ) (t : Told) (next : WebAns → State → Outcome Value) → SteadyAnswer next → Steady (on_database name t next)
on_database_steady name (Command command) next h m s = asked_steady (call.Db name command) next h m s
on_database_steady name (Outside place) next h m s = refused (stays s)

database_steady : (next : WebAns → State → Outcome Value) → SteadyAnswer next → (a b : Value) → Steady (database next a b)
database_steady next h a b m s =
    of_text_steady _
    (λ name m1 s1. if_R (is_listed name s1.shared.databases)
    (found_steady (λ texts s2. on_database name (statement_of (concat texts)) next s2) (λ texts m2 s2. on_database_steady name (statement_of (concat texts)) next h m2 s2) (pieces_of b) m1 s1) (raised (on (omega arith) refl)))
    (form_of_value a) m s

-- ---- the table

abbrev SteadyRow : Row → Type 0
SteadyRow (Constant v) = Unit {0}
SteadyRow (First f) = (v : Value) → Steady (f v)
SteadyRow (Second f) = (v w : Value) → Steady (f v w)
SteadyRow (Third f) = (u v w : Value) → Steady (f u v w)
SteadyRow Contents = Unit {0}
SteadyRow Assigned = Unit {0}
SteadyRow (Same wanted) = Unit {0}

abbrev SteadyRows : List (List ℕ × Row) → Type 0
SteadyRows [] = Unit {0}
SteadyRows (row ∷ rows) = SteadyRow row.1 × SteadyRows rows

one_steady : (f : OfForm) → SteadyForm f → (v : Value) → Steady (f (form_of_value v))
one_steady f h v = h (form_of_value v)

pair_steady : (f : ValueLayer → ValueLayer → State → Outcome Value) → SteadyPair f → (v : Value) → Steady (of_pair f (form_of_value v))
pair_steady f h v m s = of_parts_steady (λ a b s1. f (form_of_value a) (form_of_value b) s1) (λ a b m1 s1. h (form_of_value a) (form_of_value b) m1 s1) (form_of_value v) m s

abbrev pair_desc : Value → Value → State → Outcome Value
pair_desc a b s = by_form (of_desc (λ d. by_form (of_desc (λ e s2. Done (desc_value (desc.Pair d e)) s2)) b)) a s

pair_desc_steady : (a b : Value) → Steady (pair_desc a b)
pair_desc_steady a b m s =
    of_desc_steady (λ d. by_form (of_desc (λ e s2. Done (desc_value (desc.Pair d e)) s2)) b)
    (λ d m1 s1. of_desc_steady (λ e s2. Done (desc_value (desc.Pair d e)) s2) (λ e m2 s2. done_here) (form_of_value b) m1 s1)
    (form_of_value a) m s

abbrev triple_desc : Value → Value → Value → State → Outcome Value
triple_desc a b c s = by_form (of_desc (λ d. by_form (of_desc (λ e. by_form (of_desc (λ f s3. Done (desc_value (desc.Triple d e f)) s3)) c)) b)) a s

triple_desc_steady : (a b c : Value) → Steady (triple_desc a b c)
triple_desc_steady a b c m s =
    of_desc_steady (λ d. by_form (of_desc (λ e. by_form (of_desc (λ f s3. Done (desc_value (desc.Triple d e f)) s3)) c)) b)
    (λ d m1 s1. of_desc_steady (λ e. by_form (of_desc (λ f s3. Done (desc_value (desc.Triple d e f)) s3)) c)
    (λ e m2 s2. of_desc_steady (λ f s3. Done (desc_value (desc.Triple d e f)) s3) (λ f m3 s3. done_here) (form_of_value c) m2 s2) (form_of_value b) m1 s1)
    (form_of_value a) m s

primitives_steady : SteadyRows primitives
primitives_steady = (
  pair_steady times (of_ints_steady _ (λ a b m s. int_steady (a *ℤ b) m s)),
  (
    pair_steady concatenation (of_texts_steady _ (λ a b m s. done (on (omega arith) refl))),
    (
      one_steady int_to_string (of_int_steady _ (λ n m s. done (on (omega arith) refl))),
      (
        one_steady web_write (of_text_steady _ (λ bytes m s. done (on (omega arith) refl))),
        (
          pair_steady plus (of_ints_steady _ (λ a b m s. int_steady (a +ℤ b) m s)),
          (
            pair_steady minus (of_ints_steady _ (λ a b m s. int_steady (a -ℤ b) m s)),
            (
              pair_steady (by_divisor quotient) (by_divisor_steady quotient),
              (
                pair_steady (by_divisor modulus) (by_divisor_steady modulus),
                (
                  one_steady (of_int (λ n s. int_result (neg_ℤ n) s)) (of_int_steady _ (λ n m s. int_steady (neg_ℤ n) m s)),
                  (
                    pair_steady (compared int_lt) (compared_steady int_lt),
                    (
                      pair_steady (compared int_le) (compared_steady int_le),
                      (
                        pair_steady (compared (λ a b. int_lt b a)) (compared_steady (λ a b. int_lt b a)),
                        (
                          pair_steady (compared (λ a b. int_le b a)) (compared_steady (λ a b. int_le b a)),
                          (
                            tt,
                            (
                              tt,
                              (
                                tt,
                                (
                                  tt,
                                  (
                                    one_steady (of_char (λ c s. Done (int_value (pos c)) s)) (of_char_steady _ (λ c m s. done_here)),
                                    (
                                      one_steady to_char (of_int_steady _ (λ n m s. char_or_steady no_char (λ m1 s1. raised (on (omega arith) refl)) (byte_of n) m s)),
                                      (
                                        one_steady (of_text (λ bytes s. Done (int_value (pos (length bytes))) s)) (of_text_steady _ (λ bytes m s. done_here)),
                                        (
                                          one_steady (of_char (λ c s. text_result (c ∷ []) s)) (of_char_steady _ (λ c m s. done (on (omega arith) refl))),
                                          (
                                            pair_steady sub sub_steady,
                                            (
                                              one_steady (of_three (λ a b c s. cut (form_of_value a) (form_of_value b) (form_of_value c) s)) (of_three_steady _ (λ a b c m s. cut_steady (form_of_value a) (form_of_value b) (form_of_value c) m s)),
                                              (
                                                (λ v m s. found_steady (λ texts s1. text_result (concat texts) s1) (λ texts m1 s1. done (on (omega arith) refl)) (texts_of v) m s),
                                                (
                                                  pair_steady (of_texts (λ a b s. Done (order_value (slice_cmp nat_cmp a b)) s)) (of_texts_steady _ (λ a b m s. done_here)),
                                                  (
                                                    one_steady (of_text (λ bytes s. optional_int (number_front bytes) s)) (of_text_steady _ (λ bytes m s. optional_int_steady (number_front bytes) m s)),
                                                    (
                                                      one_steady (of_text set_type) (of_text_steady set_type set_type_steady),
                                                      (
                                                        one_steady (of_int set_status) (of_int_steady set_status set_status_steady),
                                                        (
                                                          one_steady (of_text (λ name s. optional_text (text_under name s.shared.form) s)) (of_text_steady _ (λ name m s. optional_text_steady (text_under name s.shared.form) m s)),
                                                          (
                                                            one_steady (of_text (λ name s. text_list_result (texts_under name s.shared.form) s)) (of_text_steady _ (λ name m s. done (on (omega arith) refl))),
                                                            (
                                                              tt,
                                                              (
                                                                tt,
                                                                (
                                                                  tt,
                                                                  (
                                                                    tt,
                                                                    (
                                                                      tt,
                                                                      (
                                                                        pair_desc_steady,
                                                                        (
                                                                          triple_desc_steady,
                                                                          (
                                                                            one_steady (of_desc (λ d s. Done (desc_value (desc.Opt d)) s)) (of_desc_steady _ (λ d m s. done_here)),
                                                                            (
                                                                              one_steady (of_desc (λ d s. Done (desc_value (desc.List d)) s)) (of_desc_steady _ (λ d m s. done_here)),
                                                                              (
                                                                                one_steady (of_four (λ a b c d s. cache_get (form_of_value a) (form_of_value b) (form_of_value c) (form_of_value d) s)) (of_four_steady _ (λ a b c d m s. cache_get_steady (form_of_value a) (form_of_value b) (form_of_value c) (form_of_value d) m s)),
                                                                                (
                                                                                  cache_lookup_steady,
                                                                                  (
                                                                                    one_steady (of_three cache_insert) (of_three_steady cache_insert cache_insert_steady),
                                                                                    (
                                                                                      one_steady (of_cache (λ id s. on_cache id op.Flush s)) (of_cache_steady _ (λ id m s. on_cache_steady id op.Flush m s)),
                                                                                      (
                                                                                        one_steady (of_parts (database dml_result)) (of_parts_steady (database dml_result) (database_steady dml_result dml_steady)),
                                                                                        (
                                                                                          one_steady (of_parts (database rows_result)) (of_parts_steady (database rows_result) (database_steady rows_result rows_steady)),
                                                                                          tt,
                                                                                        ),
                                                                                      ),
                                                                                    ),
                                                                                  ),
                                                                                ),
                                                                              ),
                                                                            ),
                                                                          ),
                                                                        ),
                                                                      ),
                                                                    ),
                                                                  ),
                                                                ),
                                                              ),
                                                            ),
                                                          ),
                                                        ),
                                                      ),
                                                    ),
                                                  ),
                                                ),
                                              ),
                                            ),
                                          ),
                                        ),
                                      ),
                                    ),
                                  ),
                                ),
                              ),
                            ),
                          ),
                        ),
                      ),
                    ),
                  ),
                ),
              ),
            ),
          ),
        ),
      ),
    ),
  ),
)

-- ---- comparisons side by side

abbrev pub Compares : Mode → Comparing → Comparing → Type 0
Compares m same other = (v w : Value) (s : State) → S m s (same v w s) (other v w (along m s))

-- two comparisons, of which the second one grows by itself
pub record Comparings (m : Mode) (same other : Comparing) : Type 0 where
  pub both : Compares m same other
  pub grows : (v w : Value) (s : State) → Onward (List Value) s (state_left (other v w s))

equality_R : {m : Mode} (same other : Comparing) → Comparings m same other → (wanted : Bool) (v : ValueLayer) (s : State) → S m s (equality same wanted v s) (equality other wanted v (along m s))
equality_R same other h wanted (Value-F.Tuple (a ∷ b ∷ [])) s =
    then_R (λ c s1. bool_result (cond wanted c (not c)) s1) (λ c s1. bool_result (cond wanted c (not c)) s1) (h.both a b s) (λ c s1. done_here) (λ c s1. stays s1)
equality_R same other h wanted _ s = waits_here

plain_R : (b : Bool) (f : State → Outcome Value) → Steady f → Steady (of_plain b f)
plain_R b f h m s = if_R b (h m s) waits_here

row_R : {m : Mode} (same other : Comparing) → Comparings m same other → (name : List ℕ) (row : Row) → SteadyRow row → (arguments : List Value) (v : Value) (s : State)
    → S m s (row_result same name row arguments v s) (row_result other name row arguments v (along m s))
row_R {m = m} same other h name (First f) g [] v s = plain_R (is_plain v) (f v) (g v) m s
row_R same other h name (Second f) g [] v s = done (on (omega arith) refl)
row_R {m = m} same other h name (Second f) g (a ∷ []) v s = plain_R (is_plain a && is_plain v) (f a v) (g a v) m s
row_R same other h name (Third f) g [] v s = done (on (omega arith) refl)
row_R same other h name (Third f) g (a ∷ []) v s = done (on (omega arith) refl)
row_R {m = m} same other h name (Third f) g (a ∷ b ∷ []) v s = plain_R (is_plain a && is_plain b && is_plain v) (f a b v) (g a b v) m s
row_R {m = m} same other h name Contents g [] v s = contents_steady (form_of_value v) m s
row_R {m = m} same other h name Assigned g [] v s = assigned_steady (form_of_value v) m s
row_R same other h name (Same wanted) g [] v s = equality_R same other h wanted (form_of_value v) s
row_R same other h name _ g _ v s = waits_here

abbrev chosen_row : Comparing → List ℕ → List Value → Value → State → Option Row → Outcome Value
chosen_row same name arguments v s o = found (λ row s1. row_result same name row arguments v s1) o s

this_row : {m : Mode} (same other : Comparing) → Comparings m same other → (name : List ℕ) (arguments : List Value) (v : Value) (s : State) (b : Bool) (row : Row) (o : Option Row) → SteadyRow row
    → S m s (chosen_row same name arguments v s o) (chosen_row other name arguments v (along m s) o)
    → S m s (chosen_row same name arguments v s (cond b (Some row) o)) (chosen_row other name arguments v (along m s) (cond b (Some row) o))
this_row same other h name arguments v s true row o g r = row_R same other h name row g arguments v s
this_row same other h name arguments v s false row o g r = r

rows_R : {m : Mode} (same other : Comparing) → Comparings m same other → (name : List ℕ) (arguments : List Value) (v : Value) (s : State) (rows : List (List ℕ × Row)) → SteadyRows rows
    → S m s (chosen_row same name arguments v s (row_of name rows)) (chosen_row other name arguments v (along m s) (row_of name rows))
rows_R same other h name arguments v s [] g = waits_here
rows_R same other h name arguments v s (row ∷ rows) g =
    this_row same other h name arguments v s (bytes_eq row.0 name) row.1 (row_of name rows) g.0 (rows_R same other h name arguments v s rows g.1)

pub prim_R : {m : Mode} (same other : Comparing) → Comparings m same other → (name : List ℕ) (arguments : List Value) (v : Value) (s : State)
    → S m s (prim_result same name arguments v s) (prim_result other name arguments v (along m s))
prim_R same other h name arguments v s = rows_R same other h name arguments v s primitives primitives_steady
