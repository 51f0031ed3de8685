-- The lines of a text, the first one and the others.
use Rattle.std.proofs.Common.{◌≡◌, ℕ, zero, suc, ◌+◌, ◌-◌, ◌≤◌, ◌<◌, Bool, true, false, cond, List, [], ◌∷◌, length, take, drop, refl, ap, sym, ◌∙◌, inl, inr, arith}
use Rattle.std.specs.Prelude.{not}
use Rattle.std.specs.List.{slice_split, position_or_len, before_first, after_first, onto_first}
use Rattle.std.proofs.lemmas.List.Splits.{slice_split_first}
use Rattle.std.proofs.lemmas.List.Sums.{prefix_len-le-length}
use Rattle.std.proofs.lemmas.List.{take_all, length-drop}
use Rattle.std.proofs.Math.Nat.{eq-or-lt_of_le}
use Rattle.std.proofs.Math.Seq.{drop-length}
use Rattle.project_lines.specs.ProjectFile.{is_line_feed, lines_between, lines_of, without_return}

take_nil : (n : ℕ) → take {A = ℕ} n [] ≡ []
take_nil zero = refl
take_nil (suc n) = refl

onto_some : (b : ℕ) (parts : List (List ℕ)) → (first : List ℕ) × (more : List (List ℕ)) × (onto_first b parts ≡ first ∷ more)
onto_some b [] = (_, _, refl)
onto_some b (part ∷ parts) = (_, _, refl)

either : (r : Bool) (first : List (List ℕ)) (parts : List (List ℕ)) (b : ℕ) → (one : List ℕ) × (more : List (List ℕ)) × (cond r ([] ∷ first) (onto_first b parts) ≡ one ∷ more)
either true first parts b = (_, _, refl)
either false first parts b = onto_some b parts

-- a text has at least one part
split_some : (text : List ℕ) → (first : List ℕ) × (more : List (List ℕ)) × (slice_split is_line_feed text ≡ first ∷ more)
split_some [] = (_, _, refl)
split_some (b ∷ text) = either (is_line_feed b) (slice_split is_line_feed text) (slice_split is_line_feed text) b

between_more : (line : List ℕ) (parts : List (List ℕ)) (first : List ℕ) (more : List (List ℕ)) → parts ≡ first ∷ more → lines_between (line ∷ parts) ≡ without_return line ∷ lines_between parts
between_more [] parts first more e = rw e refl
between_more (b ∷ line) parts first more e = rw e refl

no_breaks : (text : List ℕ) → position_or_len is_line_feed text ≡ length text → slice_split is_line_feed text ≡ text ∷ []
no_breaks [] e = refl
no_breaks (b ∷ text) e = elim (is_line_feed b) as (λ r. cond (not r) (1 + position_or_len is_line_feed text) 0 ≡ length (b ∷ text) → cond r ([] ∷ slice_split is_line_feed text) (onto_first b (slice_split is_line_feed text)) ≡ (b ∷ text) ∷ []) [
  | true ↦ λ f. absurd (omega (arith, f))
  | false ↦ λ f. ap (onto_first b) (no_breaks text (omega (arith, f)))
] e

-- a text in which no byte ends a line is one line
last_line : (text : List ℕ) → 0 < length text → position_or_len is_line_feed text ≡ length text → lines_of text ≡ text ∷ []
last_line [] l e = absurd (omega (arith, l))
last_line (b ∷ text) l e = ap lines_between (no_breaks (b ∷ text) e)

-- a line that an LF ends, and what follows it
ended_line : (text : List ℕ) → position_or_len is_line_feed text < length text → lines_of text ≡ without_return (take (position_or_len is_line_feed text) text) ∷ lines_of (drop (position_or_len is_line_feed text + 1) text)
ended_line text l =
    let (first, more, e) = split_some (after_first is_line_feed text) in
    ap lines_between (slice_split_first is_line_feed text 0 l) ∙ between_more (before_first is_line_feed text) (slice_split is_line_feed (after_first is_line_feed text)) first more e

-- a text, where its first LF is told
pub last_told : (text : List ℕ) (n : ℕ) → 0 < length text → n ≡ position_or_len is_line_feed text → n ≡ length text → lines_of text ≡ text ∷ lines_of (take (length text - n) (drop n text))
last_told text n l e same =
    let none : take (length text - n) (drop n text) ≡ [] = ap (λ k. take (length text - k) (drop k text)) same ∙ ap (take (length text - length text)) (drop-length text) ∙ take_nil (length text - length text) in
    last_line text l (sym e ∙ same) ∙ ap (λ (rest : List ℕ). text ∷ lines_of rest) (sym none)

short_of : (k length n : ℕ) → k ≤ length → n ≡ k → (n ≡ length → ⊥) → k < length
short_of k length n most e f = elim (eq-or-lt_of_le most) [
  | inl same ↦ absurd (f (e ∙ same))
  | inr l ↦ l
]

pub ended_told : (text line : List ℕ) (n : ℕ) → n ≡ position_or_len is_line_feed text → (n ≡ length text → ⊥) → line ≡ without_return (take n text) → lines_of text ≡ line ∷ lines_of (take (length text - (n + 1)) (drop (n + 1) text))
ended_told text line n e f w =
    let most = prefix_len-le-length (λ b. not (is_line_feed b)) text in
    let short : position_or_len is_line_feed text < length text = short_of (position_or_len is_line_feed text) (length text) n most e f in
    let rest : take (length text - (n + 1)) (drop (n + 1) text) ≡ drop (n + 1) text = take_all (length text - (n + 1)) (drop (n + 1) text) (rw (length-drop (n + 1) text) (omega arith)) in
    ended_line text short ∙ ap (λ k. without_return (take k text) ∷ lines_of (drop (k + 1) text)) (sym e) ∙ ap (λ l. l ∷ lines_of (drop (n + 1) text)) (sym w) ∙ ap (λ r. line ∷ lines_of r) (sym rest)
