-- What the reader answers.
use Rattle.std.specs.Prelude.{◌≡◌, ◌⊎◌, ℕ, List, [], ◌∷◌, map, Result, Ok, Err}
use Rattle.std.specs.List.{slice_index_or}
use Rattle.web_data.specs.declared.database.DbCmd.{DbCmd}
use Rattle.web_data.specs.declared.database.DbCmd.TheVariants as cmd
use Rattle.web_data.specs.Statements as statement
use Rattle.db_text.specs.declared.forms.Form.{Form}
use Rattle.db_text.specs.declared.forms.Form.TheVariants as form
use Rattle.db_text.specs.declared.forms.Reading.{Reading}
use Rattle.db_text.specs.declared.forms.Reading.TheVariants as reading
use Rattle.db_text.specs.declared.refusal.DbRefusal.{DbRefusal}
use Rattle.db_text.specs.declared.refusal.DbRefusal.TheVariants as refusal
use Rattle.web_data.specs.StatementReading.{Left, Reading as Outcome, Whole, Stops, part_left}

-- this is what a run of the parts came to
abbrev pub Gives : Outcome → Reading → Type 0
Gives outcome (reading.Whole texts) = outcome ≡ Whole texts.items
Gives outcome (reading.Stops place) = outcome ≡ Stops place

-- the parts, with their texts left out
abbrev pub parts_left : List statement.Part → List Left
parts_left ps = map part_left ps

-- a command of this form
abbrev pub command_of : Form → List (List ℕ) → DbCmd
command_of form.Create ts = cmd.Create (slice_index_or ts 0 [])
command_of form.Insert ts = cmd.Insert (slice_index_or ts 0 []) (slice_index_or ts 1 []) (slice_index_or ts 2 [])
command_of form.Delete ts = cmd.Delete (slice_index_or ts 0 []) (slice_index_or ts 1 [])
command_of form.One ts = cmd.One (slice_index_or ts 0 []) (slice_index_or ts 1 [])
command_of form.All ts = cmd.All (slice_index_or ts 0 [])

-- the parts of each command of a form
abbrev pub form_left : Form → List Left
form_left f = parts_left (statement.parts_of (command_of f []))

-- as many texts as the form has
abbrev pub HasTexts : Form → List (List ℕ) → Type 0
HasTexts form.Create ts = (t : List ℕ) × (ts ≡ t ∷ [])
HasTexts form.Insert ts = (t : List ℕ) × (k : List ℕ) × (v : List ℕ) × (ts ≡ t ∷ k ∷ v ∷ [])
HasTexts form.Delete ts = (t : List ℕ) × (k : List ℕ) × (ts ≡ t ∷ k ∷ [])
HasTexts form.One ts = (t : List ℕ) × (k : List ℕ) × (ts ≡ t ∷ k ∷ [])
HasTexts form.All ts = (t : List ℕ) × (ts ≡ t ∷ [])

-- this command, or want of memory
abbrev pub GivesCommand : Result DbCmd DbRefusal → DbCmd → Type 0
GivesCommand result c = (result ≡ Ok c) ⊎ (result ≡ Err refusal.NoMemory)

-- this place, or want of memory
abbrev pub GivesPlace : Result DbCmd DbRefusal → ℕ → Type 0
GivesPlace result place = (result ≡ Err (refusal.BadStatement place)) ⊎ (result ≡ Err refusal.NoMemory)
