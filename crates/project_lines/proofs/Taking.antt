-- The lines of a text, taken one by one.
use Rattle.std.proofs.Common.{◌≡◌, ◌⊎◌, ℕ, ◌+◌, true, false, List, [], ◌∷◌, ◌++◌, length, Some, None, refl, ap, sym, ◌∙◌, inl, inr, subst, arith, append_assoc, append-nil, length-append}
use Rattle.std.specs.Prelude.{◌==◌}
use Rattle.project_lines.specs.declared.line.Line.{Line}
use Rattle.project_lines.specs.declared.project.Project.{Project}
use Rattle.project_lines.specs.declared.project.LineFault.TheVariants.{ProjectLine, TwoPaths}
use Rattle.project_lines.specs.declared.project.ProjectRefusal.{ProjectRefusal}
use Rattle.project_lines.specs.declared.project.ProjectRefusal.TheVariants as refusal
use Rattle.project_lines.specs.ProjectFile.{lines_of, is_skipped, IsLine, AreLines, none, skipped, line, may_follow, repeats_path, AreInOrder, IsFault, bad, empty, IsProject, project_of}
use Rattle.project_lines.specs.Reading.{line_of}
use Rattle.project_lines.specs.Refused.{AreGood, TakesLine, skips, adds, IsLineRefusal, IsLinesRefusal, IsRefusedAs, Taken}
use Rattle.sml_syntax.proofs.Lists.{cons_parts, nil_parts}
use Rattle.project_lines.proofs.LineLaws.{line_found, line_is}

-- one line behind others

pub more_lines : {texts : List (List ℕ)} {lines : List Line} (text : List ℕ) (l : Line) → AreLines texts lines → is_skipped text ≡ false → IsLine text l → AreLines (texts ++ text ∷ []) (lines ++ l ∷ [])
more_lines text l none s i = line text l s i none
more_lines text l (skipped t e a) s i = skipped t e (more_lines text l a s i)
more_lines text l (line t one e j a) s i = line t one e j (more_lines text l a s i)

pub more_skipped : {texts : List (List ℕ)} {lines : List Line} (text : List ℕ) → AreLines texts lines → is_skipped text ≡ true → AreLines (texts ++ text ∷ []) lines
more_skipped text none s = skipped text s none
more_skipped text (skipped t e a) s = skipped t e (more_skipped text a s)
more_skipped text (line t one e j a) s = line t one e j (more_skipped text a s)

-- what stands in a list with one more at its end
snoc_split : {A : Type 0} (xs : List A) (x : A) (before : List A) (k : A) (after : List A) → xs ++ x ∷ [] ≡ before ++ k ∷ after → ((before ≡ xs) × (k ≡ x)) ⊎ ((more : List A) × (xs ≡ before ++ k ∷ more))
snoc_split [] x [] k after e = inl (refl, sym (cons_parts x k [] after e).0)
snoc_split [] x (b ∷ before) k after e = let p = nil_parts before (k ∷ after) (sym (cons_parts x b [] (before ++ k ∷ after) e).1) in absurd (cc)
snoc_split (y ∷ xs) x [] k after e = inr (xs, ap (λ z. z ∷ xs) (cons_parts y k (xs ++ x ∷ []) after e).0)
snoc_split (y ∷ xs) x (b ∷ before) k after e =
    let p = cons_parts y b (xs ++ x ∷ []) (before ++ k ∷ after) e in
    elim (snoc_split xs x before k after p.1) [
      | inl w ↦ inl (cc, w.1)
      | inr w ↦ inr (w.0, cc)
    ]

pub no_lines_in_order : AreInOrder []
no_lines_in_order before after l e = let p = nil_parts before (l ∷ after) (sym e) in absurd (cc)

pub more_in_order : (lines : List Line) (l : Line) → AreInOrder lines → may_follow lines l ≡ true → repeats_path lines l ≡ false → AreInOrder (lines ++ l ∷ [])
more_in_order lines l o m r before after k e = elim (snoc_split lines l before k after e) [
  | inl w ↦ (ap (λ b. may_follow b k) w.0 ∙ ap (may_follow lines) w.1 ∙ m, ap (λ b. repeats_path b k) w.0 ∙ ap (repeats_path lines) w.1 ∙ r)
  | inr w ↦ o before w.0 k w.1
]

-- line by line

pub none_taken : (text : List ℕ) → Taken text text [] 0
none_taken text = record { before = []; split = refl; number_is = refl; said = none; in_order = no_lines_in_order }

moved : (all before rest : List (List ℕ)) (here : List ℕ) (more : List (List ℕ)) → all ≡ before ++ rest → rest ≡ here ∷ more → all ≡ (before ++ here ∷ []) ++ more
moved all before rest here more e f = e ∙ ap (λ r. before ++ r) f ∙ sym (append_assoc before (here ∷ []) more)

pub taken_more : (text rest here more : List ℕ) (lines lines' : List Line) (number : ℕ) → Taken text rest lines number → lines_of rest ≡ here ∷ lines_of more → TakesLine lines here lines' → Taken text more lines' (number + 1)
taken_more text rest here more lines lines' number t e (skips s) = record {
  before = t.before ++ here ∷ [];
  split = moved _ t.before (lines_of rest) here (lines_of more) t.split e;
  number_is = ap (λ n. n + 1) t.number_is ∙ sym (length-append t.before (here ∷ []));
  said = more_skipped here t.said s;
  in_order = t.in_order;
}
taken_more text rest here more lines lines' number t e (adds l s i m r) = record {
  before = t.before ++ here ∷ [];
  split = moved _ t.before (lines_of rest) here (lines_of more) t.split e;
  number_is = ap (λ n. n + 1) t.number_is ∙ sym (length-append t.before (here ∷ []));
  said = more_lines here l t.said s i;
  in_order = more_in_order lines l t.in_order m r;
}

pub all_taken : (text rest : List ℕ) (lines : List Line) (number : ℕ) → Taken text rest lines number → rest ≡ [] → AreGood text lines
all_taken text rest lines number t e = record {
  said = subst (λ all. AreLines all lines) (sym (t.split ∙ ap (λ r. t.before ++ lines_of r) e ∙ append-nil t.before)) t.said;
  in_order = t.in_order;
}

pub line_refused : (text rest here more : List ℕ) (lines : List Line) (number : ℕ) (e : ProjectRefusal) → Taken text rest lines number → lines_of rest ≡ here ∷ lines_of more → IsLineRefusal lines here (number + 1) e → IsLinesRefusal text e
line_refused text rest here more lines number refusal.NoMemory t e r = tt
line_refused text rest here more lines number (refusal.Line n fault) t e (same, s, f) = record {
  before = t.before;
  here = here;
  after = lines_of more;
  split = t.split ∙ ap (λ r. t.before ++ r) e;
  number_is = same ∙ ap (λ k. k + 1) t.number_is;
  good = lines;
  lines = t.said;
  in_order = t.in_order;
  not_skipped = s;
  bad = f;
}

-- faults of a line

pub says_nothing : (before : List Line) (text : List ℕ) → None ≡ line_of text → IsFault before text ProjectLine
says_nothing before text e l i m = let f = line_is text l i in absurd (cc)

pub no_place : (before : List Line) (text : List ℕ) (l : Line) → Some l ≡ line_of text → may_follow before l ≡ false → IsFault before text ProjectLine
no_place before text l e n k i m =
    let f = line_is text k i in
    let same : k ≡ l = cc in
    absurd (cc)

pub path_twice : (before : List Line) (text : List ℕ) (l : Line) → Some l ≡ line_of text → may_follow before l ≡ true → repeats_path before l ≡ true → IsFault before text TwoPaths
path_twice before text l e m r = (l, line_found text l (sym e), m, r)

pub skips_line : (before : List Line) (text : List ℕ) → is_skipped text ≡ true → TakesLine before text before
skips_line before text e = skips e

pub adds_line : (before : List Line) (text : List ℕ) (l : Line) → is_skipped text ≡ false → Some l ≡ line_of text → may_follow before l ≡ true → repeats_path before l ≡ false → TakesLine before text (before ++ l ∷ [])
adds_line before text l s e m r = adds l s (line_found text l (sym e)) m r

-- the whole

pub is_project : (text : List ℕ) (lines : List Line) (project : Project) → AreGood text lines → (length lines == 0) ≡ false → project ≡ project_of lines → IsProject text project
is_project text [] project g n e = absurd (cc)
is_project text (first ∷ more) project g n e = record { first = first; more = more; lines = g.said; in_order = g.in_order; is = e }

pub is_empty : (text : List ℕ) (lines : List Line) → AreGood text lines → length lines ≡ 0 → IsRefusedAs text (refusal.Line 1 ProjectLine)
is_empty text [] g e = empty (record { lines = g.said; number_is = refl; fault_is = refl })
is_empty text (l ∷ lines) g e = absurd (omega (arith, e))

pub is_refused : (text : List ℕ) (e : ProjectRefusal) → IsLinesRefusal text e → IsRefusedAs text e
is_refused text (refusal.Line number fault) r = bad r
is_refused text refusal.NoMemory r = tt
