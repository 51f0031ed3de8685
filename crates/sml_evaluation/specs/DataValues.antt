-- Plain values, and lists of texts and data as values: what a value stands for, and the value of a datum with the words that it takes.
use Rattle.std.specs.Prelude.{ℕ, ◌+◌, List, [], ◌∷◌, Bool, true, false, ◌||◌, Option, Some, None, option_map, if◌then◌else◌}
use Rattle.std.specs.List.{list_all}
use Rattle.sml_evaluation.specs.declared.value.Value.{Value}
use Rattle.sml_evaluation.specs.declared.value.Bound.TheOpen.{Value-F}
use Rattle.sml_evaluation.specs.declared.value.Bound.TheFolds.{fold-Value}
use Rattle.web_data.specs.declared.datum.Datum.{Datum}
use Rattle.web_data.specs.declared.datum.Datum.TheVariants as datum
use Rattle.web_data.specs.declared.datum.Datum.TheOpen.{Datum-F}
use Rattle.web_data.specs.declared.datum.Datum.TheFolds.{fold-Datum}
use Rattle.web_data.specs.declared.datum.Desc.{Desc, out-Desc}
use Rattle.web_data.specs.declared.datum.Desc.TheOpen.{Desc-F}
use Rattle.sml_evaluation.specs.Values.{int_value, char_value, text_value, unit_value, tuple_value, bool_value, none_value, some_value, list_value, same_con, text_size}

abbrev pub both_of : {A B C : Type 0} → (A → B → C) → Option A → Option B → Option C
both_of f None b = None
both_of f (Some a) b = option_map (f a) b

abbrev pub all_of : {A B C D : Type 0} → (A → B → C → D) → Option A → Option B → Option C → Option D
all_of f None b c = None
all_of f (Some a) b c = both_of (f a) b c

-- the two parts of a tuple, and the three
abbrev pub two_of : {A B : Type 0} → (A → A → Option B) → List A → Option B
two_of f (a ∷ b ∷ []) = f a b
two_of f _ = None

abbrev pub three_of : {A B : Type 0} → (A → A → A → Option B) → List A → Option B
three_of f (a ∷ b ∷ c ∷ []) = f a b c
three_of f _ = None

-- whether a value is plain: no function, no reference and no packet is in it
abbrev pub plain_by : Value-F ℕ Bool ℕ → Bool
plain_by (Value-F.Tuple parts) = list_all (λ b. b) parts
plain_by (Value-F.Applied d i argument) = argument
plain_by (Value-F.Exn number argument) = false
plain_by (Value-F.Maker c) = false
plain_by (Value-F.Ref number) = false
plain_by (Value-F.Fun closure) = false
plain_by (Value-F.Prim name arguments) = false
plain_by _ = true

abbrev pub is_plain : Value → Bool
is_plain v = fold-Value ℕ Bool ℕ (λ b. 0) plain_by (λ c. 0) v

-- What a value is: a text, the text of a piece of a quotation, a list of texts or of pieces, and the pair in a cell of such a list.
pub record Texts : Type 0 where
  pub text : Option (List ℕ)
  pub piece : Option (List ℕ)
  pub texts : Option (List (List ℕ))
  pub pieces : Option (List (List ℕ))
  pub text_cell : Option (List (List ℕ))
  pub piece_cell : Option (List (List ℕ))

abbrev pub TextsLayer : Type 0
TextsLayer = Value-F ℕ Texts ℕ

abbrev pub text_by : TextsLayer → Option (List ℕ)
text_by (Value-F.Str bytes) = Some bytes
text_by _ = None

abbrev pub piece_by : TextsLayer → Option (List ℕ)
piece_by (Value-F.Applied d i v) = if same_con d i 4 0 || same_con d i 4 1 then v.text else None
piece_by _ = None

-- a list, by what the pair in its first cell gives
abbrev pub list_by : (Texts → Option (List (List ℕ))) → TextsLayer → Option (List (List ℕ))
list_by cell (Value-F.Con d i) = if same_con d i 1 0 then Some [] else None
list_by cell (Value-F.Applied d i v) = if same_con d i 1 1 then cell v else None
list_by cell _ = None

abbrev pub text_cell_by : TextsLayer → Option (List (List ℕ))
text_cell_by (Value-F.Tuple parts) = two_of (λ a b. both_of (λ t ts. t ∷ ts) a.text b.texts) parts
text_cell_by _ = None

abbrev pub piece_cell_by : TextsLayer → Option (List (List ℕ))
piece_cell_by (Value-F.Tuple parts) = two_of (λ a b. both_of (λ t ts. t ∷ ts) a.piece b.pieces) parts
piece_cell_by _ = None

abbrev pub texts_by : TextsLayer → Texts
texts_by v = record {
  text = text_by v;
  piece = piece_by v;
  texts = list_by (λ t. t.text_cell) v;
  pieces = list_by (λ t. t.piece_cell) v;
  text_cell = text_cell_by v;
  piece_cell = piece_cell_by v;
}

abbrev pub view_texts : Value → Texts
view_texts v = fold-Value ℕ Texts ℕ (λ b. 0) texts_by (λ c. 0) v

-- the texts of a list of texts, and of the pieces of a quotation
abbrev pub texts_of : Value → Option (List (List ℕ))
texts_of v = (view_texts v).texts

abbrev pub pieces_of : Value → Option (List (List ℕ))
pieces_of v = (view_texts v).pieces

-- What a value is, by a description: the datum, the items of a list, and those of the pair in a cell of it.
pub record Data : Type 0 where
  pub whole : Desc → Option Datum
  pub items : Desc → Option (List Datum)
  pub cell : Desc → Option (List Datum)

abbrev pub DataLayer : Type 0
DataLayer = Value-F ℕ Data ℕ

abbrev pub items_by : Desc → DataLayer → Option (List Datum)
items_by desc (Value-F.Con d i) = if same_con d i 1 0 then Some [] else None
items_by desc (Value-F.Applied d i v) = if same_con d i 1 1 then v.cell desc else None
items_by desc _ = None

abbrev pub cell_by : Desc → DataLayer → Option (List Datum)
cell_by desc (Value-F.Tuple parts) = two_of (λ a b. both_of (λ x xs. x ∷ xs) (a.whole desc) (b.items desc)) parts
cell_by desc _ = None

abbrev pub bool_by : ℕ → ℕ → Option Datum
bool_by d i = if same_con d i 0 1 then Some (datum.Bool true) else if same_con d i 0 0 then Some (datum.Bool false) else None

-- the datum that a value is, by the description's form
abbrev pub datum_by : Desc-F Desc → DataLayer → Option Datum
datum_by Desc-F.Int (Value-F.Int n) = Some (datum.Int n)
datum_by Desc-F.Bool (Value-F.Con d i) = bool_by d i
datum_by Desc-F.Char (Value-F.Char c) = Some (datum.Char c)
datum_by Desc-F.Str (Value-F.Str bytes) = Some (datum.Str bytes)
datum_by Desc-F.Unit Value-F.Unit = Some datum.Unit
datum_by (Desc-F.Pair a b) (Value-F.Tuple parts) = two_of (λ x y. both_of datum.Pair (x.whole a) (y.whole b)) parts
datum_by (Desc-F.Triple a b c) (Value-F.Tuple parts) = three_of (λ x y z. all_of datum.Triple (x.whole a) (y.whole b) (z.whole c)) parts
datum_by (Desc-F.Opt a) (Value-F.Con d i) = if same_con d i 2 0 then Some (datum.Opt None) else None
datum_by (Desc-F.Opt a) (Value-F.Applied d i v) = if same_con d i 2 1 then option_map (λ x. datum.Opt (Some x)) (v.whole a) else None
datum_by (Desc-F.List a) v = option_map datum.List (items_by a v)
datum_by _ _ = None

abbrev pub data_by : DataLayer → Data
data_by v = record { whole = λ d. datum_by (out-Desc d) v; items = λ d. items_by d v; cell = λ d. cell_by d v }

-- the datum of a description that a value is
abbrev pub datum_of : Desc → Value → Option Datum
datum_of d v = (fold-Value ℕ Data ℕ (λ b. 0) data_by (λ c. 0) v).whole d

-- the value of a datum
abbrev pub value_by : Datum-F Value → Value
value_by (Datum-F.Int n) = int_value n
value_by (Datum-F.Bool b) = bool_value b
value_by (Datum-F.Char c) = char_value c
value_by (Datum-F.Str bytes) = text_value bytes
value_by Datum-F.Unit = unit_value
value_by (Datum-F.Pair a b) = tuple_value (a ∷ b ∷ [])
value_by (Datum-F.Triple a b c) = tuple_value (a ∷ b ∷ c ∷ [])
value_by (Datum-F.Opt None) = none_value
value_by (Datum-F.Opt (Some a)) = some_value a
value_by (Datum-F.List vs) = list_value vs

abbrev pub value_of : Datum → Value
value_of d = fold-Datum Value value_by d

-- the words of a list whose items have these words: a cell is a constructor on a pair
abbrev pub list_words : List ℕ → ℕ
list_words [] = 0
list_words (n ∷ ns) = 4 + n + list_words ns

-- the words that a datum takes
abbrev pub words_by : Datum-F ℕ → ℕ
words_by (Datum-F.Str bytes) = text_size bytes
words_by (Datum-F.Pair a b) = 2 + a + b
words_by (Datum-F.Triple a b c) = 3 + a + b + c
words_by (Datum-F.Opt (Some a)) = 2 + a
words_by (Datum-F.List ns) = list_words ns
words_by _ = 0

abbrev pub words_of : Datum → ℕ
words_of d = fold-Datum ℕ words_by d
