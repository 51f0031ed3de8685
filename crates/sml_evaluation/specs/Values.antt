-- Values, made from their parts, with the words that each takes; and what names stand for.
-- The Definition of Standard ML, section 6.2. Constructors are told apart by the numbers of their datatypes and of themselves in these,
-- exceptions by their numbers.
use Rattle.std.specs.Prelude.{ℕ, ◌+◌, ◌/◌, ◌==◌, ℤ, Bool, ◌&&◌, List, [], ◌∷◌, length, Option, Some, None, if◌then◌else◌}
use Rattle.std.specs.Str.{bytes_eq}
use Rattle.sml_syntax.specs.declared.constructor.Constructor.{Constructor}
use Rattle.sml_evaluation.specs.declared.value.Value.{Value, roll-Value}
use Rattle.sml_evaluation.specs.declared.value.Bound.TheOpen.{Value-F, Bound-F}
use Rattle.sml_evaluation.specs.declared.value.Bound.{Bound, out-Bound}
use Rattle.sml_evaluation.specs.declared.value.Closure.{Closure, roll-Closure}
use Rattle.sml_syntax.specs.declared.tree.Rule.{Rule}
use Rattle.web_data.specs.declared.datum.Desc.{Desc}
use Rattle.web_data.specs.declared.cache.CacheId.{CacheId}

abbrev pub int_value : ℤ → Value
int_value n = roll-Value (Value-F.Int n)

abbrev pub text_value : List ℕ → Value
text_value bytes = roll-Value (Value-F.Str bytes)

abbrev pub unit_value : Value
unit_value = roll-Value Value-F.Unit

abbrev pub tuple_value : List Value → Value
tuple_value parts = roll-Value (Value-F.Tuple parts)

-- a constructor without an argument, by the numbers of its datatype and of itself in it, and one on its argument
abbrev pub con_value : ℕ → ℕ → Value
con_value d i = roll-Value (Value-F.Con d i)

abbrev pub applied_value : ℕ → ℕ → Value → Value
applied_value d i argument = roll-Value (Value-F.Applied d i argument)

-- what takes an argument and has none yet
abbrev pub maker_value : Constructor → Value
maker_value c = roll-Value (Value-F.Maker c)

-- the packet of an exception without an argument, and on its argument
abbrev pub exn_value : ℕ → Value
exn_value number = roll-Value (Value-F.Exn number None)

abbrev pub packet_value : ℕ → Value → Value
packet_value number argument = roll-Value (Value-F.Exn number (Some argument))

-- a primitive without its arguments, and with some of them
abbrev pub prim_value : List ℕ → Value
prim_value name = roll-Value (Value-F.Prim name [])

abbrev pub partial_value : List ℕ → List Value → Value
partial_value name arguments = roll-Value (Value-F.Prim name arguments)

abbrev pub char_value : ℕ → Value
char_value byte = roll-Value (Value-F.Char byte)

-- the values of the basis' datatypes, which have the numbers 0 to 5: `bool`, lists, options, `order`, pieces of quotations and kinds of caches
abbrev pub bool_value : Bool → Value
bool_value b = if b then con_value 0 1 else con_value 0 0

abbrev pub list_value : List Value → Value
list_value [] = con_value 1 0
list_value (v ∷ vs) = applied_value 1 1 (tuple_value (v ∷ list_value vs ∷ []))

abbrev pub none_value : Value
none_value = con_value 2 0

abbrev pub some_value : Value → Value
some_value argument = applied_value 2 1 argument

-- a piece of a quotation: `QUOTE` of its text, and `ANTIQUOTE` of a value
abbrev pub quote_value : List ℕ → Value
quote_value bytes = applied_value 4 0 (text_value bytes)

abbrev pub antiquote_value : Value → Value
antiquote_value v = applied_value 4 1 v

-- a reference by its number
abbrev pub ref_value : ℕ → Value
ref_value number = roll-Value (Value-F.Ref number)

abbrev pub desc_value : Desc → Value
desc_value d = roll-Value (Value-F.Desc d)

abbrev pub cache_value : CacheId → Value
cache_value id = roll-Value (Value-F.Cache id)

-- two constructors are one, each by the numbers of its datatype and of itself in it
abbrev pub same_con : ℕ → ℕ → ℕ → ℕ → Bool
same_con d i e j = (d == e) && (i == j)

-- the words of a text: its length, and its bytes, eight a word
abbrev pub text_size : List ℕ → ℕ
text_size bytes = 1 + (length bytes + 7) / 8

-- what names stand for, the innermost binding first
abbrev pub Env : Type 0
Env = List (List ℕ × Bound)

abbrev pub BoundLayer : Type 0
BoundLayer = Bound-F Bound Value Closure

-- a function: its rules, what the program binds the names in them to, and the functions of its own declaration
abbrev pub function_value : List Rule → Env → List (List ℕ × List Rule) → Value
function_value rules env group = roll-Value (Value-F.Fun (roll-Closure (record { rules = rules; env = env; group = group })))

-- what a name stands for, by its innermost binding
abbrev pub bound_of : List ℕ → Env → Option Bound
bound_of name [] = None
bound_of name (e ∷ env) = if bytes_eq e.0 name then Some e.1 else bound_of name env

-- the form of what a name stands for
abbrev pub opened : Option Bound → Option BoundLayer
opened None = None
opened (Some b) = Some (out-Bound b)
