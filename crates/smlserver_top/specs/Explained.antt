-- What is said to people of a refusal: the file and the place, a sentence, the line and a caret under the place.
use Rattle.std.specs.Prelude.{◌≡◌, ◌⊎◌, ℕ, ◌^◌, Bool, ◌||◌, List, [], ◌∷◌, ◌++◌, take, Option, Some, None, if◌then◌else◌, codes}
use Rattle.std.specs.Str.{bytes_eq}
use Rattle.std.specs.Fmt.{decimal}
use Rattle.outside_world.specs.Told.{Contents, HoldsFile, LacksFile, HoldsLongFile, Rose}
use Rattle.smlserver_top.specs.declared.sentences.Shows.{Shows}
use Rattle.smlserver_top.specs.declared.sentences.Shows.TheVariants as shows
use Rattle.smlserver_top.specs.Places.{line_at, column_at, source_at, source_line, last_line, blanks}

-- a sentence on a file as a whole
abbrev pub on_file : List ℕ → List ℕ → List ℕ
on_file file sentence = file ++ (58 ∷ (32 ∷ (sentence ++ 10 ∷ [])))

-- on a line of it
abbrev pub on_line : List ℕ → List ℕ → ℕ → List ℕ → List ℕ
on_line file text number sentence = file ++ (58 ∷ (decimal number ++ (58 ∷ (32 ∷ (sentence ++ (10 ∷ (source_line number text ++ 10 ∷ [])))))))

-- a file, and the line and the column of a place in it
abbrev pub head_at : List ℕ → List ℕ → ℕ → List ℕ
head_at file text place = file ++ (58 ∷ (decimal (line_at place text) ++ (58 ∷ (decimal (column_at place text) ++ 58 ∷ 32 ∷ []))))

-- the line that holds a place, and a caret under it
abbrev pub marked_at : List ℕ → ℕ → List ℕ
marked_at text place = source_at place text ++ (10 ∷ (blanks (last_line (take place text)) ++ 94 ∷ 10 ∷ []))

-- and on a place
abbrev pub on_place : List ℕ → List ℕ → ℕ → List ℕ → List ℕ
on_place file text place sentence = head_at file text place ++ (sentence ++ 10 ∷ marked_at text place)

-- the greatest length of a text that is read for it
abbrev pub most_bytes : ℕ
most_bytes = 2 ^ 20

-- a file isn't there, is too long, or couldn't be read
abbrev pub IsUnread : Contents → ℕ → ℕ → List ℕ → Type 0
IsUnread contents before after name = LacksFile contents name ⊎ (HoldsLongFile contents name most_bytes ⊎ Rose before after)

-- what is said by the text that the files hold under a name, or without it where it isn't read
abbrev pub IsSaid : Contents → ℕ → ℕ → List ℕ → List ℕ → (List ℕ → List ℕ) → List ℕ → Type 0
IsSaid contents before after name sentence said text =
    ((source : List ℕ) × HoldsFile contents name source × (text ≡ said source))
    ⊎ (IsUnread contents before after name × (text ≡ on_file name sentence))

-- the names of refusals whose place is a line's number, and of those that are about a file as a whole
abbrev pub is_line_name : List ℕ → Bool
is_line_name name = bytes_eq name (codes "ProjectLine") || bytes_eq name (codes "TwoPaths")

abbrev pub is_whole_name : List ℕ → Bool
is_whole_name name =
    bytes_eq name (codes "FileFault") || bytes_eq name (codes "TooLarge") || bytes_eq name (codes "NotBuilt")
    || bytes_eq name (codes "DatabaseNames") || bytes_eq name (codes "InstanceLimit") || bytes_eq name (codes "CodeFull")

-- what a refusal is about
abbrev pub shows_of : List ℕ → Option (List ℕ) → Shows
shows_of name (Some lack) = shows.Place
shows_of name None = if is_line_name name then shows.Line else (if is_whole_name name then shows.Whole else shows.Place)

-- what is said of a refusal with such a sentence: of a line of the project file, of a place in a file, or of a file
abbrev pub IsExplained : Contents → ℕ → ℕ → List ℕ → List ℕ → ℕ → List ℕ → Shows → List ℕ → Type 0
IsExplained contents before after project file place sentence shows.Line text = IsSaid contents before after project sentence (λ source. on_line project source place sentence) text
IsExplained contents before after project file place sentence shows.Place text = IsSaid contents before after file sentence (λ source. on_place file source place sentence) text
IsExplained contents before after project file place sentence shows.Whole text = text ≡ on_file file sentence
