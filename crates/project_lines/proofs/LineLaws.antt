-- What a line says, by the reading from its front: exactly what it is.
use Rattle.std.proofs.Common.{◌≡◌, ◌⊎◌, ℕ, Bool, true, false, cond, List, [], ◌∷◌, ◌++◌, Option, Some, None, refl, ap, sym, ◌∙◌, inl, inr, subst}
use Rattle.std.specs.Prelude.{◌&&◌, codes}
use Rattle.std.specs.List.{list_all}
use Rattle.std.specs.Str.{bytes_eq}
use Rattle.std.proofs.lemmas.Slice.Eq.{bytes_eq-Decides}
use Rattle.project_lines.specs.declared.line.Line.{Line}
use Rattle.project_lines.specs.declared.line.Line.TheVariants.{Header, Library, Script, Database, Budget, Pages}
use Rattle.project_lines.specs.Names.{is_path, is_path_byte, is_file_name, is_database_name, is_count, number_after}
use Rattle.project_lines.specs.ProjectFile.{IsLine}
use Rattle.project_lines.specs.Reading.{after, by_word, library_of, script_at, script_of, database_of, count_of, budget_line, pages_line, path_split, line_of}
use Rattle.project_lines.proofs.Options.{chosen, split_and, after_is}

-- from the front, to what it is

by_word_found : (o : Option (List ℕ)) (f : List ℕ → Option Line) (other : Option Line) (l : Line) → by_word o f other ≡ Some l → ((rest : List ℕ) × (o ≡ Some rest) × (f rest ≡ Some l)) ⊎ (other ≡ Some l)
by_word_found None f other l e = inr e
by_word_found (Some rest) f other l e = inl (rest, refl, e)

library_is : (text name : List ℕ) (l : Line) → text ≡ codes "lib " ++ name → library_of name ≡ Some l → IsLine text l
library_is text name l t e = elim (chosen (is_file_name name) (Some (Library name)) None (Some l) e) [
  | inl w ↦ let same : Library name ≡ l = cc in subst (IsLine text) same (t, w.0)
  | inr w ↦ absurd (cc)
]

database_is : (text name : List ℕ) (l : Line) → text ≡ codes "database " ++ name → database_of name ≡ Some l → IsLine text l
database_is text name l t e = elim (chosen (is_database_name name) (Some (Database name)) None (Some l) e) [
  | inl w ↦ let same : Database name ≡ l = cc in subst (IsLine text) same (t, w.0)
  | inr w ↦ absurd (cc)
]

counted : (most : ℕ) (digits : List ℕ) (n : ℕ) → count_of most digits ≡ Some n → (is_count most digits ≡ true) × (n ≡ number_after 0 digits)
counted most digits n e = elim (chosen (is_count most digits) (Some (number_after 0 digits)) None (Some n) e) [
  | inl w ↦ (w.0, cc)
  | inr w ↦ absurd (cc)
]

budget_is : (text digits : List ℕ) (l : Line) (o : Option ℕ) → text ≡ codes "budget " ++ digits → count_of 1000000000 digits ≡ o → budget_line o ≡ Some l → IsLine text l
budget_is text digits l None t c e = absurd (cc)
budget_is text digits l (Some n) t c e =
    let same : Budget n ≡ l = cc in
    let p = counted 1000000000 digits n c in
    subst (IsLine text) same (digits, t, p.0, p.1)

pages_is : (text digits : List ℕ) (l : Line) (o : Option ℕ) → text ≡ codes "pages " ++ digits → count_of 65536 digits ≡ o → pages_line o ≡ Some l → IsLine text l
pages_is text digits l None t c e = absurd (cc)
pages_is text digits l (Some n) t c e =
    let same : Pages n ≡ l = cc in
    let p = counted 65536 digits n c in
    subst (IsLine text) same (digits, t, p.0, p.1)

split_step : (b : ℕ) (text : List ℕ) (r : Bool) → text ≡ (path_split text).0 ++ (path_split text).1 → b ∷ text ≡ (cond {A = List ℕ × List ℕ} r (b ∷ (path_split text).0, (path_split text).1) ([], b ∷ text)).0 ++ (cond {A = List ℕ × List ℕ} r (b ∷ (path_split text).0, (path_split text).1) ([], b ∷ text)).1
split_step b text true e = ap (λ t. b ∷ t) e
split_step b text false e = refl

split_whole : (text : List ℕ) → text ≡ (path_split text).0 ++ (path_split text).1
split_whole [] = refl
split_whole (b ∷ text) = split_step b text (is_path_byte b) (split_whole text)

script_is : (text path rest : List ℕ) (l : Line) (o : Option (List ℕ)) → text ≡ codes "script " ++ (path ++ rest) → after (32 ∷ []) rest ≡ o → script_at path o ≡ Some l → IsLine text l
script_is text path rest l None t a e = absurd (cc)
script_is text path rest l (Some name) t a e = elim (chosen (is_path path && is_file_name name) (Some (Script path name)) None (Some l) e) [
  | inl w ↦
      let same : Script path name ≡ l = cc in
      let p = split_and (is_path path) (is_file_name name) w.0 in
      subst (IsLine text) same (t ∙ ap (λ r. codes "script " ++ (path ++ r)) (after_is (32 ∷ []) rest name a), p.0, p.1)
  | inr w ↦ absurd (cc)
]

pub line_found : (text : List ℕ) (l : Line) → line_of text ≡ Some l → IsLine text l
unfolding line_of
line_found text l e = elim (chosen (bytes_eq text (codes "smlserver 1")) (Some Header) _ (Some l) e) [
  | inl w ↦ let same : Header ≡ l = cc in subst (IsLine text) same ((bytes_eq-Decides text (codes "smlserver 1")).0 w.0)
  | inr w ↦ elim (by_word_found (after (codes "lib ") text) library_of _ l w.1) [
    | inl f ↦ library_is text f.0 l (after_is (codes "lib ") text f.0 f.1) f.2
    | inr w ↦ elim (by_word_found (after (codes "script ") text) script_of _ l w) [
      | inl f ↦ script_is text (path_split f.0).0 (path_split f.0).1 l (after (32 ∷ []) (path_split f.0).1) (after_is (codes "script ") text f.0 f.1 ∙ ap (λ r. codes "script " ++ r) (split_whole f.0)) refl f.2
      | inr w ↦ elim (by_word_found (after (codes "database ") text) database_of _ l w) [
        | inl f ↦ database_is text f.0 l (after_is (codes "database ") text f.0 f.1) f.2
        | inr w ↦ elim (by_word_found (after (codes "budget ") text) (λ digits. budget_line (count_of 1000000000 digits)) _ l w) [
          | inl f ↦ budget_is text f.0 l (count_of 1000000000 f.0) (after_is (codes "budget ") text f.0 f.1) refl f.2
          | inr w ↦ elim (by_word_found (after (codes "pages ") text) (λ digits. pages_line (count_of 65536 digits)) None l w) [
            | inl f ↦ pages_is text f.0 l (count_of 65536 f.0) (after_is (codes "pages ") text f.0 f.1) refl f.2
            | inr w ↦ absurd (cc)
          ]
        ]
      ]
    ]
  ]
]

-- and from what it is to the front

path_bytes : (path : List ℕ) → is_path path ≡ true → list_all is_path_byte path ≡ true
path_bytes path e = (split_and _ (list_all is_path_byte path) e).1

split_path : (path rest : List ℕ) → list_all is_path_byte path ≡ true → path_split (path ++ 32 ∷ rest) ≡ (path, 32 ∷ rest)
split_path [] rest e = refl
split_path (b ∷ path) rest e =
    let p = split_and (is_path_byte b) (list_all is_path_byte path) e in
    let more = split_path path rest p.1 in
    ap (λ r. cond r (b ∷ (path_split (path ++ 32 ∷ rest)).0, (path_split (path ++ 32 ∷ rest)).1) ([], b ∷ (path ++ 32 ∷ rest))) p.0
    ∙ ap (λ (s : List ℕ × List ℕ). (b ∷ s.0, s.1)) more

pub line_is : (text : List ℕ) (l : Line) → IsLine text l → line_of text ≡ Some l
unfolding line_of
line_is text Header e = ap line_of e
line_is text (Library name) (t, f) = ap line_of t ∙ ap (λ b. cond b (Some (Library name)) None) f
line_is text (Script path name) (t, p, f) =
    ap line_of t
    ∙ ap (λ (s : List ℕ × List ℕ). script_at s.0 (after (32 ∷ []) s.1)) (split_path path name (path_bytes path p))
    ∙ ap (λ b. cond (b && is_file_name name) (Some (Script path name)) None) p
    ∙ ap (λ b. cond b (Some (Script path name)) None) f
line_is text (Database name) (t, f) = ap line_of t ∙ ap (λ b. cond b (Some (Database name)) None) f
line_is text (Budget n) (digits, t, c, m) =
    ap line_of t ∙ ap (λ b. budget_line (cond b (Some (number_after 0 digits)) None)) c ∙ ap (λ k. Some (Budget k)) (sym m)
line_is text (Pages n) (digits, t, c, m) =
    ap line_of t ∙ ap (λ b. pages_line (cond b (Some (number_after 0 digits)) None)) c ∙ ap (λ k. Some (Pages k)) (sym m)
