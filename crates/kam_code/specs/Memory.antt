-- The words of the live regions, and how values lie in them. These layouts are of this project.
-- An int is its word, a character its number, unit 0; a constructor without argument is its index, and one with an argument
-- a pointer to its index and the argument's word. A tuple is a pointer to its words, a reference one to its contents, a closure
-- one to its code's address and what it captures, a packet one to its exception's number and the argument's word, or 0.
-- A text is a pointer to its length and bytes, a cache one to its name, whether it is `WhileUsed`, and twice whether there is a limit
-- and that limit, for time and size. A value of `Web.Cache.ty` is 0.
use Rattle.std.specs.Prelude.{ℕ, zero, suc, ◌+◌, ◌-◌, ◌*◌, ◌/◌, ◌%◌, ◌^◌, ◌==◌, nat_le, nat_lt, Bool, true, false, List, [], ◌∷◌, ◌++◌, length, drop, set, slice_get, Option, Some, None, option_map, option_and_then, if◌then◌else◌}
use Rattle.web_data.specs.declared.datum.Datum.{Datum}
use Rattle.web_data.specs.declared.datum.Datum.TheVariants as datum
use Rattle.web_data.specs.declared.datum.Datum.TheOpen.{Datum-F}
use Rattle.web_data.specs.declared.datum.Datum.TheFolds.{fold-Datum}
use Rattle.web_data.specs.declared.datum.Desc.{Desc}
use Rattle.web_data.specs.declared.datum.Desc.TheOpen.{Desc-F}
use Rattle.web_data.specs.declared.datum.Desc.TheFolds.{fold-Desc}
use Rattle.web_data.specs.declared.cache.CacheId.{CacheId}
use Rattle.web_data.specs.declared.cache.Kind.{Kind}
use Rattle.kam_code.specs.Layout.{text_words, text_at}
use Rattle.kam_code.specs.State.{Region}
use Rattle.kam_code.specs.Word.{word_of, number_of}

-- the words of a live region
abbrev pub region_words : ℕ → List Region → Option (List ℕ)
region_words serial [] = None
region_words serial (region ∷ regions) = if region.serial == serial then Some region.words else region_words serial regions

-- the regions, with more words at the end of that one
abbrev pub with_more : ℕ → List ℕ → List Region → List Region
with_more serial more [] = []
with_more serial more (region ∷ regions) =
    if region.serial == serial
    then record { serial = region.serial; words = region.words ++ more } ∷ regions
    else region ∷ with_more serial more regions

-- the pointer to a place of a region; the smallest one is 2 ^ 32
abbrev pub pointer : ℕ → ℕ → ℕ
pointer serial place = serial * 2 ^ 32 + place

abbrev pub is_pointer : ℕ → Bool
is_pointer word = nat_le (2 ^ 32) word

-- the text that a pointer leads to
abbrev pub text_behind : ℕ → List Region → Option (List ℕ)
text_behind p regions = option_and_then (text_at (p % 2 ^ 32)) (region_words (p / 2 ^ 32) regions)

-- the word so many places behind a pointer
abbrev pub field_at : ℕ → ℕ → List Region → Option ℕ
field_at p i regions = option_and_then (λ words. slice_get words (p % 2 ^ 32 + i)) (region_words (p / 2 ^ 32) regions)

-- the regions, with another word there, if there is one
abbrev pub with_field : ℕ → ℕ → ℕ → List Region → Option (List Region)
with_field p i word [] = None
with_field p i word (region ∷ regions) =
    if region.serial == p / 2 ^ 32
    then (if nat_lt (p % 2 ^ 32 + i) (length region.words)
    then Some (record { serial = region.serial; words = set region.words (p % 2 ^ 32 + i) word } ∷ regions)
    else None)
    else option_map (λ more. region ∷ more) (with_field p i word regions)

-- ---- lists and options

-- what a word and those behind it give
abbrev pub and_both : {A B C : Type 0} → (A → B → C) → Option A → Option B → Option C
and_both f None b = None
and_both f (Some a) b = option_map (f a) b

abbrev pub all_three : {A B C D : Type 0} → (A → B → C → D) → Option A → Option B → Option C → Option D
all_three f None b c = None
all_three f (Some a) b c = and_both (f a) b c

-- a constructor's argument, where the constructor has this index
abbrev pub argument_of_index : ℕ → Option ℕ → Option ℕ → Option ℕ
argument_of_index index None argument = None
argument_of_index index (Some i) argument = if i == index then argument else None

-- The words of a list's items, followed for at most so many cells: 0 is the empty list, and a cell is `::`, index 1, on a pair.
-- A step follows a list for at most as many cells as its state's charge. Each cell that was made was charged 4, so no list that was made is cut,
-- and one that leads back to itself has no items.
abbrev pub list_at : ℕ → ℕ → List Region → Option (List ℕ)
list_at zero word regions = if word == 0 then Some [] else None
list_at (suc most) word regions =
    if word == 0 then Some []
    else option_and_then (λ pair. and_both (λ item items. item ∷ items) (field_at pair 0 regions) (option_and_then (λ rest. list_at most rest regions) (field_at pair 1 regions)))
    (argument_of_index 1 (field_at word 0 regions) (field_at word 1 regions))

-- what a function gives of each, if it does of all
abbrev pub of_each : {A B : Type 0} → (A → Option B) → List A → Option (List B)
of_each f [] = Some []
of_each f (x ∷ xs) = and_both (λ y ys. y ∷ ys) (f x) (of_each f xs)

-- the texts of a list of texts
abbrev pub texts_at : ℕ → ℕ → List Region → Option (List (List ℕ))
texts_at most word regions = option_and_then (of_each (λ p. text_behind p regions)) (list_at most word regions)

-- the index of a constructor, if it is below that one
abbrev pub index_below : ℕ → Option ℕ → Option ℕ
index_below end index = option_and_then (λ i. if nat_lt i end then Some i else None) index

-- the text of a piece of a quotation: `QUOTE`, index 0, and `ANTIQUOTE`, index 1, have one argument each
abbrev pub piece_at : ℕ → List Region → Option (List ℕ)
piece_at word regions =
    option_and_then (λ i. option_and_then (λ p. text_behind p regions) (field_at word 1 regions)) (index_below 2 (field_at word 0 regions))

-- the texts of a quotation's pieces
abbrev pub pieces_at : ℕ → ℕ → List Region → Option (List (List ℕ))
pieces_at most word regions = option_and_then (of_each (λ p. piece_at p regions)) (list_at most word regions)

-- the argument of an option: 0 is `NONE`, and `SOME` has the index 1
abbrev pub option_at : ℕ → List Region → Option (Option ℕ)
option_at word regions =
    if word == 0 then Some None
    else option_and_then (λ i. if i == 1 then option_map Some (field_at word 1 regions) else None) (field_at word 0 regions)

-- ---- data

-- an option, by the word of its argument
abbrev pub option_datum : (ℕ → Option Datum) → Option ℕ → Option Datum
option_datum a None = Some (datum.Opt None)
option_datum a (Some w) = option_map (λ x. datum.Opt (Some x)) (a w)

-- the datum of a description that a word stands for, by the description's form, with what its parts read; a bool is below 2, a character below 256,
-- and unit is 0; lists are followed for at most so many cells
abbrev pub datum_by : ℕ → Desc-F (ℕ → List Region → Option Datum) → ℕ → List Region → Option Datum
datum_by most Desc-F.Int word regions = Some (datum.Int (number_of word))
datum_by most Desc-F.Bool word regions = if nat_lt word 2 then Some (datum.Bool (word == 1)) else None
datum_by most Desc-F.Char word regions = if nat_lt word 256 then Some (datum.Char word) else None
datum_by most Desc-F.Str word regions = option_map datum.Str (text_behind word regions)
datum_by most Desc-F.Unit word regions = if word == 0 then Some datum.Unit else None
datum_by most (Desc-F.Pair a b) word regions =
    and_both datum.Pair (option_and_then (λ w. a w regions) (field_at word 0 regions)) (option_and_then (λ w. b w regions) (field_at word 1 regions))
datum_by most (Desc-F.Triple a b c) word regions =
    all_three datum.Triple (option_and_then (λ w. a w regions) (field_at word 0 regions)) (option_and_then (λ w. b w regions) (field_at word 1 regions))
    (option_and_then (λ w. c w regions) (field_at word 2 regions))
datum_by most (Desc-F.Opt a) word regions = option_and_then (option_datum (λ w. a w regions)) (option_at word regions)
datum_by most (Desc-F.List a) word regions = option_map datum.List (option_and_then (of_each (λ w. a w regions)) (list_at most word regions))

-- the datum that a word stands for
abbrev pub datum_at : ℕ → Desc → ℕ → List Region → Option Datum
datum_at most d = fold-Desc (ℕ → List Region → Option Datum) (datum_by most) d

-- A datum laid out: from the pointer to its first word, its words and the word that stands for it.
abbrev pub Laid : Type 0
Laid = ℕ → List ℕ × ℕ

-- a value without words of its own
abbrev pub bare : ℕ → Laid
bare word p = ([], word)

-- words with a pointer to the first of them
abbrev pub block : List ℕ → Laid
block words p = (words, p)

-- one behind the other; f makes the last words from their two words
abbrev pub both_laid : Laid → Laid → (ℕ → ℕ → Laid) → Laid
both_laid a b f p =
    let x : List ℕ × ℕ = a p in
    let y : List ℕ × ℕ = b (p + length x.0) in
    let z : List ℕ × ℕ = f x.1 y.1 (p + length x.0 + length y.0) in
    (x.0 ++ (y.0 ++ z.0), z.1)

-- a constructor with an argument
abbrev pub applied_laid : ℕ → Laid → Laid
applied_laid index a = both_laid a (bare index) (λ argument i. block (i ∷ argument ∷ []))

abbrev pub pair_laid : Laid → Laid → Laid
pair_laid a b = both_laid a b (λ x y. block (x ∷ y ∷ []))

abbrev pub triple_laid : Laid → Laid → Laid → Laid
triple_laid a b c p =
    let x : List ℕ × ℕ = a p in
    let yz : List ℕ × ℕ = both_laid b c (λ y z. block (x.1 ∷ y ∷ z ∷ [])) (p + length x.0) in
    (x.0 ++ yz.0, yz.1)

abbrev pub list_laid : List Laid → Laid
list_laid [] = bare 0
list_laid (a ∷ rest) = applied_laid 1 (pair_laid a (list_laid rest))

abbrev pub text_laid : List ℕ → Laid
text_laid text = block (text_words text)

abbrev pub number_of_bool : Bool → ℕ
number_of_bool false = 0
number_of_bool true = 1

-- a datum by its form, with its parts laid out
abbrev pub laid_by : Datum-F Laid → Laid
laid_by (Datum-F.Int n) = bare (word_of n)
laid_by (Datum-F.Bool b) = bare (number_of_bool b)
laid_by (Datum-F.Char c) = bare c
laid_by (Datum-F.Str text) = text_laid text
laid_by Datum-F.Unit = bare 0
laid_by (Datum-F.Pair a b) = pair_laid a b
laid_by (Datum-F.Triple a b c) = triple_laid a b c
laid_by (Datum-F.Opt None) = bare 0
laid_by (Datum-F.Opt (Some a)) = applied_laid 1 a
laid_by (Datum-F.List parts) = list_laid parts

abbrev pub laid_datum : Datum → Laid
laid_datum d = fold-Datum Laid laid_by d

-- whether a datum has words of its own, by its form
abbrev pub has_words_by : Datum-F Bool → Bool
has_words_by (Datum-F.Str text) = true
has_words_by (Datum-F.Pair a b) = true
has_words_by (Datum-F.Triple a b c) = true
has_words_by (Datum-F.Opt (Some a)) = true
has_words_by (Datum-F.List (part ∷ parts)) = true
has_words_by _ = false

abbrev pub has_words : Datum → Bool
has_words d = fold-Datum Bool has_words_by d

-- ---- caches

-- a limit of a cache: whether there is one, and which
abbrev pub limit_words : Option ℕ → List ℕ
limit_words None = 0 ∷ 0 ∷ []
limit_words (Some n) = 1 ∷ n ∷ []

abbrev pub limit_at : Option ℕ → Option ℕ → Option (Option ℕ)
limit_at present n = option_and_then (λ i. option_map (λ m. if i == 0 then None else Some m) n) (index_below 2 present)

-- a cache's words: its name's pointer, whether it is `WhileUsed`, time and size
abbrev pub cache_words : ℕ → Bool → Option ℕ → Option ℕ → List ℕ
cache_words name used time size = name ∷ number_of_bool used ∷ (limit_words time ++ limit_words size)

abbrev pub kind_at : ℕ → List Region → Option Kind
kind_at p regions =
    all_three (λ used time size. record { used = used == 1; time = time; size = size })
    (index_below 2 (field_at p 1 regions)) (limit_at (field_at p 2 regions) (field_at p 3 regions)) (limit_at (field_at p 4 regions) (field_at p 5 regions))

-- the cache that a pointer leads to, with the descriptions of its key and value
abbrev pub cache_at : Desc → Desc → ℕ → List Region → Option CacheId
cache_at key value p regions =
    and_both (λ name kind. record { name = name; key = key; value = value; kind = kind })
    (option_and_then (λ name. text_behind name regions) (field_at p 0 regions)) (kind_at p regions)
