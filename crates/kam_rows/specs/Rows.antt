-- What a row of the table that is made within the loop leaves of the registers and the stack.
use Rattle.std.specs.Prelude.{◌≡◌, ℕ, ◌<◌, ◌≤◌, Bool, List, [], ◌∷◌, length, Option, Some, None, if◌then◌else◌}
use Rattle.kam_rows.specs.Stacked.{words_on}
use Rattle.kam_code.specs.Step.{Result, Word, Throws, overflow, div_by_zero}
use Rattle.kam_rows.specs.declared.registers.Registers.{Registers}
use Rattle.kam_rows.specs.declared.row.Row.{Row}
use Rattle.kam_rows.specs.declared.row.Row.TheVariants as row

-- everything is as it was
pub record IsKept (r : Registers) (slots : List ℕ) (r' : Registers) (slots' : List ℕ) : Type 0 where
  pub same_registers : r' ≡ r
  pub same_slots : slots' ≡ slots

-- these are the words of the stack, and nothing else is new
pub record HasWords (words : List ℕ) (r r' : Registers) (slots' : List ℕ) : Type 0 where
  pub on_stack : words_on r'.top slots' ≡ words
  pub rest : r' ≡ record r { top = r'.top }

-- a row that leaves the words that are given, if any are
abbrev pub RowGives : Option (List ℕ) → Registers → List ℕ → Row → Registers → List ℕ → Type 0
RowGives given r slots row.Going r' slots' = (given ≡ Some (words_on r'.top slots')) × (r' ≡ record r { top = r'.top })
RowGives given r slots row.Stuck r' slots' = (given ≡ None) × IsKept r slots r' slots'
RowGives given r slots row.StackFull r' slots' = (r.room ≤ r.top) × IsKept r slots r' slots'
RowGives given r slots row.Full r' slots' = (length slots ≤ r.top) × IsKept r slots r' slots'
RowGives given r slots _ r' slots' = ⊥

-- a row of one word
pub record FromOne (f : ℕ → Result) (made : Result) (below : List ℕ) (r : Registers) (slots : List ℕ) : Type 0 where
  pub a : ℕ
  pub before : words_on r.top slots ≡ a ∷ below
  pub is_made : f a ≡ made

-- a row of two words, the topmost last
pub record FromTwo (f : ℕ → ℕ → Result) (made : Result) (below : List ℕ) (r : Registers) (slots : List ℕ) : Type 0 where
  pub a : ℕ
  pub b : ℕ
  pub before : words_on r.top slots ≡ b ∷ a ∷ below
  pub is_made : f a b ≡ made

-- a row of one word: the word that it gives lies in its place, or everything is as it was
abbrev pub RowOfOne : (ℕ → Result) → Registers → List ℕ → Row → List ℕ → Type 0
RowOfOne f r slots row.Going slots' = (word : ℕ) × (below : List ℕ) × FromOne f (Word word) below r slots × (words_on r.top slots' ≡ word ∷ below)
RowOfOne f r slots row.Overflow slots' = (below : List ℕ) × FromOne f (Throws overflow) below r slots × (slots' ≡ slots)
RowOfOne f r slots row.Stuck slots' = (words_on r.top slots ≡ []) × (slots' ≡ slots)
RowOfOne f r slots _ slots' = ⊥

-- a row of two words: the word that it gives lies in their place, or everything is as it was
abbrev pub RowOfTwo : (ℕ → ℕ → Result) → Registers → List ℕ → Row → Registers → List ℕ → Type 0
RowOfTwo f r slots row.Going r' slots' = (word : ℕ) × (below : List ℕ) × FromTwo f (Word word) below r slots × HasWords (word ∷ below) r r' slots'
RowOfTwo f r slots row.Overflow r' slots' = (below : List ℕ) × FromTwo f (Throws overflow) below r slots × IsKept r slots r' slots'
RowOfTwo f r slots row.DivByZero r' slots' = (below : List ℕ) × FromTwo f (Throws div_by_zero) below r slots × IsKept r slots r' slots'
RowOfTwo f r slots row.Stuck r' slots' = (length (words_on r.top slots) < 2) × IsKept r slots r' slots'
RowOfTwo f r slots _ r' slots' = ⊥

-- a row that takes a word and goes on at one of two addresses
pub record JumpsBy (test : ℕ → Bool) (a : ℕ) (r : Registers) (slots : List ℕ) (r' : Registers) : Type 0 where
  pub v : ℕ
  pub before : words_on r.top slots ≡ v ∷ words_on r'.top slots
  pub rest : r' ≡ record r { top = r'.top; address = if test v then a else r.address }

abbrev pub RowJumps : (ℕ → Bool) → ℕ → Registers → List ℕ → Row → Registers → Type 0
RowJumps test a r slots row.Going r' = JumpsBy test a r slots r'
RowJumps test a r slots row.Stuck r' = (words_on r.top slots ≡ []) × (r' ≡ r)
RowJumps test a r slots _ r' = ⊥
