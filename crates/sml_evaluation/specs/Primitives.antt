-- The primitives of the basis, each as what its application to an argument gives, and what the names of the basis stand for.
-- The Standard ML Basis Library; `Web` is of this project. The words of what a primitive makes are counted with it.
use Rattle.std.specs.Prelude.{ℕ, ◌+◌, suc, ℤ, pos, negsuc, ◌+ℤ◌, ◌-ℤ◌, ◌*ℤ◌, neg_ℤ, int_lt, int_le, Bool, true, false, not, ◌&&◌, nat_lt, List, [], ◌∷◌, ◌++◌, length, map, set, slice_get, Option, Some, None, is_some, if◌then◌else◌, codes}
use Rattle.std.specs.List.{concat}
use Rattle.std.specs.Ordering.{nat_cmp}
use Rattle.std.specs.declared.cmp.Ordering.{Ordering}
use Rattle.std.specs.declared.cmp.Ordering.TheVariants.{Less, Equal, Greater}
use Rattle.std.specs.Cmp.Lexicographic.{slice_cmp}
use Rattle.std.specs.Str.{bytes_eq}
use Rattle.std.specs.Fmt.{decimal}
use Rattle.sml_syntax.specs.declared.constructor.Constructor.{Constructor}
use Rattle.sml_syntax.specs.declared.constructor.Constructor.TheVariants as con
use Rattle.sml_evaluation.specs.declared.value.Value.{Value}
use Rattle.sml_evaluation.specs.declared.value.Bound.TheOpen.{Value-F, Bound-F}
use Rattle.sml_evaluation.specs.declared.value.Bound.{roll-Bound}
use Rattle.web_data.specs.declared.datum.Datum.{Datum}
use Rattle.web_data.specs.declared.datum.Datum.TheVariants as datum
use Rattle.web_data.specs.declared.datum.Desc.{Desc}
use Rattle.web_data.specs.declared.datum.Desc.TheVariants as desc
use Rattle.web_data.specs.declared.cache.CacheId.{CacheId}
use Rattle.web_data.specs.declared.cache.CacheOp.{CacheOp}
use Rattle.web_data.specs.declared.cache.CacheOp.TheVariants as op
use Rattle.web_data.specs.declared.cache.CacheAns.{CacheAns}
use Rattle.web_data.specs.declared.cache.CacheAns.TheVariants as told
use Rattle.web_data.specs.declared.database.WebCall.{WebCall}
use Rattle.web_data.specs.declared.database.WebCall.TheVariants as call
use Rattle.web_data.specs.declared.database.WebAns.{WebAns}
use Rattle.web_data.specs.declared.database.WebAns.TheVariants as answer
use Rattle.sml_evaluation.specs.ValueLayers.{ValueLayer, form_of_value}
use Rattle.sml_evaluation.specs.Values.{int_value, char_value, text_value, unit_value, bool_value, con_value, none_value, some_value, list_value, exn_value, packet_value, prim_value, partial_value, desc_value, cache_value, same_con, text_size, Env}
use Rattle.sml_evaluation.specs.DataValues.{is_plain, texts_of, pieces_of, datum_of, value_of, words_of}
use Rattle.sml_evaluation.specs.RunState.{Done, Raised, BadStatement, Waits, then_do, found, counted, storing, sharing}
use Rattle.sml_evaluation.specs.Outcome.{State, Outcome}
use Rattle.sml_syntax.specs.Ranges.{is_int}
use Rattle.sml_evaluation.specs.BasisFunctions.{quotient, modulus, is_zero, byte_of, byte_at, part_at, number_front, is_listed, text_under, texts_under, is_content_type, is_status, is_cache_name, limit_of, bad_type, bad_status, bad_cache_name, bad_cache_kind, no_database, failure_of, rows_of}
use Rattle.web_data.specs.StatementReading.{Told, Command, Outside, statement_of}
use Rattle.web_data.specs.CallAnswers.{call_answer_fits, row_list}
use Rattle.basis_table.specs.BasisTable.{BasisConstructor, BasisScheme, basis_constructors, basis_exceptions}

-- ---- packets that primitives raise

-- an exception without argument, a packet of two words
abbrev pub thrown : {A : Type 0} → ℕ → State → Outcome A
thrown number s = Raised (exn_value number) (counted 2 s)

-- by their numbers in the table of the basis: `Div`, `Overflow`, `Subscript` and `Chr`
abbrev pub divided : {A : Type 0} → State → Outcome A
divided s = thrown 2 s

abbrev pub overflow : {A : Type 0} → State → Outcome A
overflow s = thrown 3 s

abbrev pub subscript : {A : Type 0} → State → Outcome A
subscript s = thrown 4 s

abbrev pub no_char : {A : Type 0} → State → Outcome A
no_char s = thrown 5 s

-- `Fail` with a text: the packet and the text
abbrev pub failure : {A : Type 0} → List ℕ → State → Outcome A
failure text s = Raised (packet_value 8 (text_value text)) (counted (2 + text_size text) s)

-- ---- values made

-- an integer, or `Overflow` where it has more than 64 bits
abbrev pub int_result : ℤ → State → Outcome Value
int_result n s = if is_int n then Done (int_value n) s else overflow s

-- a text made
abbrev pub text_result : List ℕ → State → Outcome Value
text_result bytes s = Done (text_value bytes) (counted (text_size bytes) s)

abbrev pub bool_result : Bool → State → Outcome Value
bool_result b s = Done (bool_value b) s

-- a datum made
abbrev pub datum_result : Datum → State → Outcome Value
datum_result d s = Done (value_of d) (counted (words_of d) s)

-- the option of a text, and the list of texts
abbrev pub optional_text : Option (List ℕ) → State → Outcome Value
optional_text None s = Done none_value s
optional_text (Some text) s = Done (some_value (text_value text)) (counted (2 + text_size text) s)

abbrev pub words_of_texts : List (List ℕ) → ℕ
words_of_texts [] = 0
words_of_texts (t ∷ ts) = 4 + text_size t + words_of_texts ts

abbrev pub text_list_result : List (List ℕ) → State → Outcome Value
text_list_result texts s = Done (list_value (map text_value texts)) (counted (words_of_texts texts) s)

-- an integer in decimal, with `~` for minus
abbrev pub int_text : ℤ → List ℕ
int_text (pos n) = decimal n
int_text (negsuc n) = 126 ∷ decimal (suc n)

-- what is there, or an exception
abbrev pub char_or : (State → Outcome Value) → Option ℕ → State → Outcome Value
char_or otherwise None s = otherwise s
char_or otherwise (Some byte) s = Done (char_value byte) s

abbrev pub text_or_subscript : Option (List ℕ) → State → Outcome Value
text_or_subscript None s = subscript s
text_or_subscript (Some bytes) s = text_result bytes s

-- ---- arguments

-- a primitive of one argument by its form
abbrev pub OfForm : Type 0
OfForm = ValueLayer → State → Outcome Value

abbrev pub by_form : OfForm → Value → State → Outcome Value
by_form f v s = f (form_of_value v) s

abbrev pub of_int : (ℤ → State → Outcome Value) → OfForm
of_int f (Value-F.Int n) s = f n s
of_int f _ s = Waits s

abbrev pub of_char : (ℕ → State → Outcome Value) → OfForm
of_char f (Value-F.Char c) s = f c s
of_char f _ s = Waits s

abbrev pub of_text : (List ℕ → State → Outcome Value) → OfForm
of_text f (Value-F.Str bytes) s = f bytes s
of_text f _ s = Waits s

abbrev pub of_ref : (ℕ → State → Outcome Value) → OfForm
of_ref f (Value-F.Ref number) s = f number s
of_ref f _ s = Waits s

abbrev pub of_desc : (Desc → State → Outcome Value) → OfForm
of_desc f (Value-F.Desc d) s = f d s
of_desc f _ s = Waits s

abbrev pub of_cache : (CacheId → State → Outcome Value) → OfForm
of_cache f (Value-F.Cache id) s = f id s
of_cache f _ s = Waits s

-- the parts of an argument that is a tuple
abbrev pub of_parts : (Value → Value → State → Outcome Value) → OfForm
of_parts f (Value-F.Tuple (a ∷ b ∷ [])) s = f a b s
of_parts f _ s = Waits s

abbrev pub of_three : (Value → Value → Value → State → Outcome Value) → OfForm
of_three f (Value-F.Tuple (a ∷ b ∷ c ∷ [])) s = f a b c s
of_three f _ s = Waits s

abbrev pub of_four : (Value → Value → Value → Value → State → Outcome Value) → OfForm
of_four f (Value-F.Tuple (a ∷ b ∷ c ∷ d ∷ [])) s = f a b c d s
of_four f _ s = Waits s

-- the two parts of an argument that is a pair, by their forms
abbrev pub of_pair : (ValueLayer → ValueLayer → State → Outcome Value) → ValueLayer → State → Outcome Value
of_pair f v s = of_parts (λ a b s1. f (form_of_value a) (form_of_value b) s1) v s

abbrev pub of_ints : (ℤ → ℤ → State → Outcome Value) → ValueLayer → ValueLayer → State → Outcome Value
of_ints f (Value-F.Int a) (Value-F.Int b) s = f a b s
of_ints f _ _ s = Waits s

abbrev pub of_texts : (List ℕ → List ℕ → State → Outcome Value) → ValueLayer → ValueLayer → State → Outcome Value
of_texts f (Value-F.Str a) (Value-F.Str b) s = f a b s
of_texts f _ _ s = Waits s

-- ---- integers, characters and texts

-- `*` : int * int -> int, and so `+` and `-`
abbrev pub times : ValueLayer → ValueLayer → State → Outcome Value
times = of_ints (λ a b s. int_result (a *ℤ b) s)

abbrev pub plus : ValueLayer → ValueLayer → State → Outcome Value
plus = of_ints (λ a b s. int_result (a +ℤ b) s)

abbrev pub minus : ValueLayer → ValueLayer → State → Outcome Value
minus = of_ints (λ a b s. int_result (a -ℤ b) s)

-- `div` and `mod` : int * int -> int
abbrev pub by_divisor : (ℤ → ℤ → ℤ) → ValueLayer → ValueLayer → State → Outcome Value
by_divisor f = of_ints (λ a b s. if is_zero b then divided s else int_result (f a b) s)

-- `<`, `<=`, `>` and `>=` : int * int -> bool
abbrev pub compared : (ℤ → ℤ → Bool) → ValueLayer → ValueLayer → State → Outcome Value
compared test = of_ints (λ a b s. bool_result (test a b) s)

-- `^` : string * string -> string
abbrev pub concatenation : ValueLayer → ValueLayer → State → Outcome Value
concatenation = of_texts (λ a b s. text_result (a ++ b) s)

-- `!` : 'a ref -> 'a
abbrev pub contents : OfForm
contents = of_ref (λ number s. found (λ v s1. Done v s1) (slice_get s.store number) s)

-- `:=` : 'a ref * 'a -> unit
abbrev pub assigned_to : Value → OfForm
assigned_to v = of_ref (λ number s. if nat_lt number (length s.store) then Done unit_value (storing (set s.store number v) s) else Waits s)

abbrev pub assigned : OfForm
assigned = of_parts (λ r v s. by_form (assigned_to v) r s)

-- `chr` : int -> char, and `String.sub` : string * int -> char
abbrev pub to_char : OfForm
to_char = of_int (λ n s. char_or no_char (byte_of n) s)

abbrev pub sub : ValueLayer → ValueLayer → State → Outcome Value
sub (Value-F.Str bytes) (Value-F.Int i) s = char_or subscript (byte_at bytes i) s
sub _ _ s = Waits s

-- `substring` : string * int * int -> string
abbrev pub cut : ValueLayer → ValueLayer → ValueLayer → State → Outcome Value
cut (Value-F.Str bytes) (Value-F.Int i) (Value-F.Int n) s = text_or_subscript (part_at bytes i n) s
cut _ _ _ s = Waits s

-- `String.compare` : string * string -> order
abbrev pub order_value : Ordering → Value
order_value Less = con_value 3 0
order_value Equal = con_value 3 1
order_value Greater = con_value 3 2

-- `Int.toString` : int -> string
abbrev pub int_to_string : OfForm
int_to_string = of_int (λ n s. text_result (int_text n) s)

-- `Int.fromString` : string -> int option
abbrev pub optional_int : Option ℤ → State → Outcome Value
optional_int None s = Done none_value s
optional_int (Some n) s = if is_int n then Done (some_value (int_value n)) (counted 2 s) else overflow s

-- ---- the reply and the form

-- `Web.write` : string -> unit, which adds the text to the body
abbrev pub web_write : OfForm
web_write = of_text (λ bytes s. Done unit_value (sharing (record (s.shared) { body = s.shared.body ++ bytes }) s))

abbrev pub set_type : List ℕ → State → Outcome Value
set_type bytes s = if is_content_type bytes then Done unit_value (sharing (record (s.shared) { content_type = bytes }) s) else failure bad_type s

abbrev pub set_status : ℤ → State → Outcome Value
set_status (pos n) s = if is_status (pos n) then Done unit_value (sharing (record (s.shared) { status = n }) s) else failure bad_status s
set_status (negsuc n) s = failure bad_status s

-- ---- calls

-- a call takes the next answer, if it is one with which the script goes on
abbrev pub answered : WebCall → List WebAns → (WebAns → State → Outcome Value) → State → Outcome Value
answered c [] next s = Waits s
answered c (a ∷ answers) next s = if call_answer_fits c a then next a (sharing (record (s.shared) { answers = answers }) s) else Waits s

-- a call is made
abbrev pub asked : WebCall → (WebAns → State → Outcome Value) → State → Outcome Value
asked c next s = answered c s.shared.answers next (sharing (record (s.shared) { calls = s.shared.calls ++ c ∷ [] }) s)

-- what the answer of a cache gives
abbrev pub cache_result : CacheAns → State → Outcome Value
cache_result (told.Found d) s = datum_result (datum.Opt (Some d)) s
cache_result told.Absent s = Done none_value s
cache_result (told.Fresh fresh) s = bool_result fresh s
cache_result told.Flushed s = Done unit_value s
cache_result _ s = Waits s

abbrev pub cache_answer_result : WebAns → State → Outcome Value
cache_answer_result (answer.Cache a) s = cache_result a s
cache_answer_result (answer.Db a) s = Waits s

abbrev pub on_cache : CacheId → CacheOp → State → Outcome Value
on_cache id o s = asked (call.Cache (record { id = id; op = o })) cache_answer_result s

-- an argument of a kind: `NONE`, or `SOME` of an integer
abbrev pub int_by : ValueLayer → Option (Option ℤ)
int_by (Value-F.Int n) = Some (Some n)
int_by _ = None

abbrev pub limit_by : ValueLayer → Option (Option ℤ)
limit_by (Value-F.Con d i) = if same_con d i 2 0 then Some None else None
limit_by (Value-F.Applied d i v) = if same_con d i 2 1 then int_by (form_of_value v) else None
limit_by _ = None

-- a cache of six words, where its limits aren't negative
abbrev pub cache_with : List ℕ → Desc → Desc → Bool → Option (Option ℕ) → Option (Option ℕ) → State → Outcome Value
cache_with name key value used (Some time) (Some size) s =
    Done (cache_value (record { name = name; key = key; value = value; kind = record { used = used; time = time; size = size } })) (counted 6 s)
cache_with name key value used _ _ s = failure bad_cache_kind s

abbrev pub cache_limited : List ℕ → Desc → Desc → Bool → OfForm
cache_limited name key value used =
    of_pair (λ time size s. found (λ t s1. found (λ z s2. cache_with name key value used (limit_of t) (limit_of z) s2) (limit_by size) s1) (limit_by time) s)

-- the kind is `Web.Cache.WhileUsed`, whose entries last while they are used, or `Web.Cache.TimeOut`, of time and size
abbrev pub use_by : ℕ → ℕ → Option Bool
use_by d i = if same_con d i 5 0 then Some true else if same_con d i 5 1 then Some false else None

abbrev pub cache_of_kind : List ℕ → Desc → Desc → OfForm
cache_of_kind name key value (Value-F.Applied d i limits) s =
    found (λ used s1. cache_limited name key value used (form_of_value limits) s1) (use_by d i) s
cache_of_kind name key value _ s = Waits s

-- `Web.Cache.get` : 'a ty * 'b ty * string * kind -> ('a, 'b) cache; its name is looked at before its kind
abbrev pub cache_get : ValueLayer → ValueLayer → ValueLayer → ValueLayer → State → Outcome Value
cache_get (Value-F.Desc key) (Value-F.Desc value) (Value-F.Str name) kind s =
    if is_cache_name name then cache_of_kind name key value kind s else failure bad_cache_name s
cache_get _ _ _ kind s = Waits s

-- `Web.Cache.lookup` : ('a, 'b) cache -> 'a -> 'b option
abbrev pub cache_lookup : Value → Value → State → Outcome Value
cache_lookup c k s = by_form (of_cache (λ id s1. found (λ key s2. on_cache id (op.Look key) s2) (datum_of id.key k) s1)) c s

-- `Web.Cache.insert` : ('a, 'b) cache * 'a * 'b -> bool
abbrev pub cache_insert : Value → Value → Value → State → Outcome Value
cache_insert c k v s =
    by_form (of_cache (λ id s1. found (λ key s2. found (λ d s3. on_cache id (op.Put key d) s3) (datum_of id.value v) s2) (datum_of id.key k) s1)) c s

-- what the answer of a database gives: its rows or nothing, or `Fail`
abbrev pub unless_failed : Option (List ℕ) → (State → Outcome Value) → State → Outcome Value
unless_failed None next s = next s
unless_failed (Some text) next s = failure text s

abbrev pub dml_result : WebAns → State → Outcome Value
dml_result (answer.Db a) s = unless_failed (failure_of a) (Done unit_value) s
dml_result (answer.Cache a) s = Waits s

abbrev pub rows_result : WebAns → State → Outcome Value
rows_result (answer.Db a) s = unless_failed (failure_of a) (datum_result (row_list (rows_of a))) s
rows_result (answer.Cache a) s = Waits s

abbrev pub on_database : List ℕ → Told → (WebAns → State → Outcome Value) → State → Outcome Value
on_database name (Command command) next s = asked (call.Db name command) next s
on_database name (Outside place) next s = BadStatement place s

-- `Web.Db.dml` and `Web.Db.rows` : string * string frag list -> ..; the database's name is looked at before the statement
abbrev pub database : (WebAns → State → Outcome Value) → Value → Value → State → Outcome Value
database next n pieces s =
    by_form (of_text (λ name s1.
    if is_listed name s1.shared.databases
    then found (λ texts s2. on_database name (statement_of (concat texts)) next s2) (pieces_of pieces) s1
    else failure no_database s1)) n s

-- ---- the table

-- what stands in a row: a value, a function of one argument or of several, one after the other, which are plain values, or what isn't one of
-- plain values: what a reference holds, a new content, and a test of equality, which gives true where the two are equal as this says
pub data Row : Type 0 where
  Constant : Value → Row
  First : (Value → State → Outcome Value) → Row
  Second : (Value → Value → State → Outcome Value) → Row
  Third : (Value → Value → Value → State → Outcome Value) → Row
  Contents : Row
  Assigned : Row
  Same : Bool → Row

abbrev pub one : OfForm → Row
one f = First (by_form f)

abbrev pub pair : (ValueLayer → ValueLayer → State → Outcome Value) → Row
pair f = one (of_pair f)

-- each name and what its application gives; `ref` is a constructor
abbrev pub primitives : List (List ℕ × Row)
primitives =
    (codes "*", pair times)
    ∷ (codes "^", pair concatenation)
    ∷ (codes "Int.toString", one int_to_string)
    ∷ (codes "Web.write", one web_write)
    ∷ (codes "+", pair plus)
    ∷ (codes "-", pair minus)
    ∷ (codes "div", pair (by_divisor quotient))
    ∷ (codes "mod", pair (by_divisor modulus))
    ∷ (codes "~", one (of_int (λ n s. int_result (neg_ℤ n) s)))
    ∷ (codes "<", pair (compared int_lt))
    ∷ (codes "<=", pair (compared int_le))
    ∷ (codes ">", pair (compared (λ a b. int_lt b a)))
    ∷ (codes ">=", pair (compared (λ a b. int_le b a)))
    ∷ (codes "=", Same true)
    ∷ (codes "<>", Same false)
    ∷ (codes "!", Contents)
    ∷ (codes ":=", Assigned)
    ∷ (codes "ord", one (of_char (λ c s. Done (int_value (pos c)) s)))
    ∷ (codes "chr", one to_char)
    ∷ (codes "size", one (of_text (λ bytes s. Done (int_value (pos (length bytes))) s)))
    ∷ (codes "str", one (of_char (λ c s. text_result (c ∷ []) s)))
    ∷ (codes "String.sub", pair sub)
    ∷ (codes "substring", one (of_three (λ a b c s. cut (form_of_value a) (form_of_value b) (form_of_value c) s)))
    ∷ (codes "concat", First (λ v s. found (λ texts s1. text_result (concat texts) s1) (texts_of v) s))
    ∷ (codes "String.compare", pair (of_texts (λ a b s. Done (order_value (slice_cmp nat_cmp a b)) s)))
    ∷ (codes "Int.fromString", one (of_text (λ bytes s. optional_int (number_front bytes) s)))
    ∷ (codes "Web.setType", one (of_text set_type))
    ∷ (codes "Web.setStatus", one (of_int set_status))
    ∷ (codes "Web.formvar", one (of_text (λ name s. optional_text (text_under name s.shared.form) s)))
    ∷ (codes "Web.formvars", one (of_text (λ name s. text_list_result (texts_under name s.shared.form) s)))
    ∷ (codes "Web.Cache.Int", Constant (desc_value desc.Int))
    ∷ (codes "Web.Cache.Bool", Constant (desc_value desc.Bool))
    ∷ (codes "Web.Cache.Char", Constant (desc_value desc.Char))
    ∷ (codes "Web.Cache.String", Constant (desc_value desc.Str))
    ∷ (codes "Web.Cache.Unit", Constant (desc_value desc.Unit))
    ∷ (codes "Web.Cache.Pair", Second (λ a b s. by_form (of_desc (λ d. by_form (of_desc (λ e s2. Done (desc_value (desc.Pair d e)) s2)) b)) a s))
    ∷ (
      codes "Web.Cache.Triple",
      Third (λ a b c s.
          by_form (of_desc (λ d. by_form (of_desc (λ e. by_form (of_desc (λ f s3. Done (desc_value (desc.Triple d e f)) s3)) c)) b)) a s),
    )
    ∷ (codes "Web.Cache.Option", one (of_desc (λ d s. Done (desc_value (desc.Opt d)) s)))
    ∷ (codes "Web.Cache.List", one (of_desc (λ d s. Done (desc_value (desc.List d)) s)))
    ∷ (codes "Web.Cache.get", one (of_four (λ a b c d s. cache_get (form_of_value a) (form_of_value b) (form_of_value c) (form_of_value d) s)))
    ∷ (codes "Web.Cache.lookup", Second cache_lookup)
    ∷ (codes "Web.Cache.insert", one (of_three cache_insert))
    ∷ (codes "Web.Cache.flush", one (of_cache (λ id s. on_cache id op.Flush s)))
    ∷ (codes "Web.Db.dml", one (of_parts (database dml_result)))
    ∷ (codes "Web.Db.rows", one (of_parts (database rows_result)))
    ∷ []

-- the row of a name
abbrev pub row_of : {A : Type 0} → List ℕ → List (List ℕ × A) → Option A
row_of name [] = None
row_of name (row ∷ rows) = if bytes_eq row.0 name then Some row.1 else row_of name rows

-- how two values are compared
abbrev pub Comparing : Type 0
Comparing = Value → Value → State → Outcome Bool

abbrev pub equality : Comparing → Bool → OfForm
equality same wanted = of_parts (λ a b s. then_do (same a b s) (λ c s1. bool_result (if wanted then c else not c) s1))

-- a primitive that holds an argument more: one word, and one for each argument
abbrev pub held : List ℕ → List Value → State → Outcome Value
held name arguments s = Done (partial_value name arguments) (counted (1 + length arguments) s)

-- a function of plain values
abbrev pub of_plain : Bool → (State → Outcome Value) → State → Outcome Value
of_plain plain f s = if plain then f s else Waits s

-- a row's function with the arguments so far, applied to one more
abbrev pub row_result : Comparing → List ℕ → Row → List Value → Value → State → Outcome Value
row_result same name (First f) [] v s = of_plain (is_plain v) (f v) s
row_result same name (Second f) [] v s = held name (v ∷ []) s
row_result same name (Second f) (a ∷ []) v s = of_plain (is_plain a && is_plain v) (f a v) s
row_result same name (Third f) [] v s = held name (v ∷ []) s
row_result same name (Third f) (a ∷ []) v s = held name (a ∷ v ∷ []) s
row_result same name (Third f) (a ∷ b ∷ []) v s = of_plain (is_plain a && is_plain b && is_plain v) (f a b v) s
row_result same name Contents [] v s = contents (form_of_value v) s
row_result same name Assigned [] v s = assigned (form_of_value v) s
row_result same name (Same wanted) [] v s = equality same wanted (form_of_value v) s
row_result same name _ _ v s = Waits s

-- a primitive with the arguments so far, applied to one more
abbrev pub prim_result : Comparing → List ℕ → List Value → Value → State → Outcome Value
prim_result same name arguments v s = found (λ row s1. row_result same name row arguments v s1) (row_of name primitives) s

-- ---- what the names of the basis stand for

abbrev pub row_value : List ℕ → Row → Value
row_value name (Constant v) = v
row_value name _ = prim_value name

-- the exceptions have their numbers in the order of the table
abbrev pub exceptions_from : ℕ → List (List ℕ × Option BasisScheme) → Env
exceptions_from n [] = []
exceptions_from n (row ∷ rows) = (row.0, roll-Bound (Bound-F.Constructor (con.Exn n) (is_some row.1))) ∷ exceptions_from (n + 1) rows

-- the constructors have these numbers in the order of the table
abbrev pub constructor_numbers : List Constructor
constructor_numbers =
    con.Data 0 0 ∷ con.Data 0 1 ∷ con.Data 1 0 ∷ con.Data 1 1 ∷ con.Data 2 0 ∷ con.Data 2 1 ∷ con.Data 3 0 ∷ con.Data 3 1 ∷ con.Data 3 2
    ∷ con.Data 4 0 ∷ con.Data 4 1 ∷ con.Data 5 0 ∷ con.Data 5 1 ∷ con.Ref ∷ []

abbrev pub constructors_bound : List Constructor → List BasisConstructor → Env
constructors_bound (c ∷ cs) (row ∷ rows) = (row.name, roll-Bound (Bound-F.Constructor c (is_some row.argument))) ∷ constructors_bound cs rows
constructors_bound _ _ = []

abbrev pub basis : Env
basis =
    map (λ row. (row.0, roll-Bound (Bound-F.Variable (row_value row.0 row.1)))) primitives
    ++ (constructors_bound constructor_numbers basis_constructors ++ exceptions_from 0 basis_exceptions)
