-- The front of a text by `strip_prefix`, and the words of a page.
use Rattle.std.proofs.Common.{◌≡◌, ℕ, ◌<◌, ◌≤◌, Bool, true, List, [], ◌∷◌, ◌++◌, length, map, get_or, Option, Some, None, Bor, refl, ap, sym, ◌∙◌, arith}
use Rattle.std.specs.Prelude.{◌==◌, codes, MatchOption, is_some}
use Rattle.smlserver_top.specs.Spelling.{begins_with}
use Rattle.std.specs.Option.{option_copied}
use Rattle.std.specs.Str.{bytes_eq}
use Rattle.std.proofs.lemmas.Slice.Eq.{bytes_eq-Decides}
use Rattle.std.proofs.lemmas.Bool.{eqb-true}
use Rattle.smlserver_top.specs.Reading.{after}
use Rattle.smlserver_top.proofs.Options.{after-append, after_none, begins_after}

pub stripped : (text token : List ℕ) (r : Option (Bor (List ℕ))) → MatchOption r ((rest : List ℕ) → text ≡ token ++ rest → ⊥) (λ x. text ≡ token ++ x.now) → option_copied r ≡ after token text
stripped text token None m = sym (after_none token text m)
stripped text token (Some x) m = sym (ap (after token) m ∙ after-append token x.now)

empty_at : (text : List ℕ) → (length text == 0) ≡ true → text ≡ []
empty_at [] e = refl
empty_at (b ∷ text) e = let h = eqb-true (length (b ∷ text)) 0 e in absurd (omega arith)

-- the four words of a page
pub page_words_are : (words : List (Bor (List ℕ))) (d : Bor (List ℕ)) (project path : List ℕ) → 4 ≤ length words → length words < 5 → bytes_eq (get_or words 0 d).now (codes "page") ≡ true → project ≡ (get_or words 1 d).now → path ≡ (get_or words 2 d).now → (length (get_or words 3 d).now == 0) ≡ true → map (λ (w : Bor (List ℕ)). w.now) words ≡ codes "page" ∷ project ∷ path ∷ [] ∷ []
page_words_are [] d project path l m e p q f = absurd (omega arith)
page_words_are (w ∷ []) d project path l m e p q f = absurd (omega arith)
page_words_are (w ∷ x ∷ []) d project path l m e p q f = absurd (omega arith)
page_words_are (w ∷ x ∷ y ∷ []) d project path l m e p q f = absurd (omega arith)
page_words_are (w ∷ x ∷ y ∷ z ∷ []) d project path l m e p q f =
    let first : w.now ≡ codes "page" = (bytes_eq-Decides w.now (codes "page")).0 e in
    let last : z.now ≡ [] = empty_at z.now f in
    rw (first, ← p, ← q, last) refl
page_words_are (w ∷ x ∷ y ∷ z ∷ v ∷ more) d project path l m e p q f = absurd (omega arith)

pub begins_by : (o : Option (Bor (List ℕ))) (front text : List ℕ) (r : Bool) → option_copied o ≡ after front text → r ≡ is_some o → r ≡ begins_with front text
begins_by None front text r e f = f ∙ ap is_some e ∙ begins_after front text
begins_by (Some x) front text r e f = f ∙ ap is_some e ∙ begins_after front text

-- the two words of a check
pub check_words_are : (words : List (Bor (List ℕ))) (d : Bor (List ℕ)) (project : List ℕ) → 2 ≤ length words → length words < 3 → bytes_eq (get_or words 0 d).now (codes "check") ≡ true → project ≡ (get_or words 1 d).now → map (λ (w : Bor (List ℕ)). w.now) words ≡ codes "check" ∷ project ∷ []
check_words_are [] d project l m e p = absurd (omega arith)
check_words_are (w ∷ []) d project l m e p = absurd (omega arith)
check_words_are (w ∷ x ∷ []) d project l m e p =
    let first : w.now ≡ codes "check" = (bytes_eq-Decides w.now (codes "check")).0 e in
    rw (first, ← p) refl
check_words_are (w ∷ x ∷ y ∷ more) d project l m e p = absurd (omega arith)
