-- The project of lines, with one more at their end.
use Rattle.std.proofs.Common.{◌≡◌, ℕ, List, [], ◌∷◌, ◌++◌, refl, ap, ◌∙◌, sym, append_assoc, append-nil}
use Rattle.project_lines.specs.declared.line.Line.{Line}
use Rattle.project_lines.specs.ProjectFile.{file_in, database_in, budget_in, pages_in, files_of, databases_of, budget_of, pages_of}

pub none_more : {A : Type 0} (xs : List A) → xs ≡ xs ++ []
none_more xs = sym (append-nil xs)

pub files_more : (lines : List Line) (l : Line) → files_of (lines ++ l ∷ []) ≡ files_of lines ++ file_in l
files_more [] l = append-nil (file_in l)
files_more (k ∷ lines) l = ap (λ fs. file_in k ++ fs) (files_more lines l) ∙ sym (append_assoc (file_in k) (files_of lines) (file_in l))

pub databases_more : (lines : List Line) (l : Line) → databases_of (lines ++ l ∷ []) ≡ databases_of lines ++ database_in l
databases_more [] l = append-nil (database_in l)
databases_more (k ∷ lines) l = ap (λ ds. database_in k ++ ds) (databases_more lines l) ∙ sym (append_assoc (database_in k) (databases_of lines) (database_in l))

pub budget_more : (n : ℕ) (lines : List Line) (l : Line) → budget_of n (lines ++ l ∷ []) ≡ budget_in (budget_of n lines) l
budget_more n [] l = refl
budget_more n (k ∷ lines) l = budget_more (budget_in n k) lines l

pub pages_more : (n : ℕ) (lines : List Line) (l : Line) → pages_of n (lines ++ l ∷ []) ≡ pages_in (pages_of n lines) l
pages_more n [] l = refl
pages_more n (k ∷ lines) l = pages_more (pages_in n k) lines l
