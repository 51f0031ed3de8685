-- A text is the file of one project at most, or has one first bad line, and never both.
use Rattle.std.proofs.Common.{◌≡◌, ℕ, ◌+◌, ◌<◌, true, false, List, [], ◌∷◌, ◌++◌, length, Result, Ok, Err, IfOk, IfErr, refl, ap, sym, ◌∙◌, inl, inr, subst, arith, append-nil}
use Rattle.std.proofs.lemmas.Bool.{cases_lt}
use Rattle.sml_syntax.proofs.Lists.{cons_parts, nil_parts, same_cut, front_of_front}
use Rattle.project_lines.specs.declared.line.Line.{Line}
use Rattle.project_lines.specs.declared.project.Project.{Project}
use Rattle.project_lines.specs.declared.project.LineFault.{LineFault}
use Rattle.project_lines.specs.declared.project.LineFault.TheVariants.{ProjectLine, TwoPaths}
use Rattle.project_lines.specs.declared.project.ProjectRefusal.{ProjectRefusal}
use Rattle.project_lines.specs.declared.project.ProjectRefusal.TheVariants as refusal
use Rattle.project_lines.specs.ProjectFile.{is_skipped, IsLine, AreLines, none, skipped, line, may_follow, repeats_path, AreInOrder, IsFault, IsBadLine, IsEmpty, IsFirstBadLine, bad, empty, IsProject, project_of}
use Rattle.project_lines.specs.Refused.{IsRefusedAs, GivesProject, GivesRefusal}
use Rattle.project_lines.proofs.LineLaws.{line_is}

same_line : (text : List ℕ) (k l : Line) → IsLine text k → IsLine text l → k ≡ l
same_line text k l i j = let e = line_is text k i in let f = line_is text l j in cc

same_lines : {texts : List (List ℕ)} {ks ls : List Line} → AreLines texts ks → AreLines texts ls → ks ≡ ls
same_lines none none = refl
same_lines (skipped t e a) (skipped u f b) = same_lines a b
same_lines (skipped t e a) (line u l f j b) = absurd (cc)
same_lines (line t k e i a) (skipped u f b) = absurd (cc)
same_lines (line t k e i a) (line u l f j b) = let one = same_line t k l i j in let more = same_lines a b in cc

-- lines of a front and of what follows
pub record Cut (before after : List (List ℕ)) (lines : List Line) : Type 0 where
  pub front : List Line
  pub back : List Line
  pub parts : lines ≡ front ++ back
  pub in_front : AreLines before front
  pub behind : AreLines after back

cut : (before : List (List ℕ)) {all after : List (List ℕ)} {lines : List Line} → all ≡ before ++ after → AreLines all lines → Cut before after lines
cut [] {lines = lines} e a = record { front = []; back = lines; parts = refl; in_front = none; behind = subst (λ t. AreLines t lines) e a }
cut (b ∷ before) e none = absurd (cc)
cut (b ∷ before) {after = after} e (skipped {texts = texts} t s a) =
    let p = cons_parts t b texts (before ++ after) e in
    let c = cut before p.1 a in
    record { front = c.front; back = c.back; parts = c.parts; in_front = skipped b (subst (λ x. is_skipped x ≡ true) p.0 s) c.in_front; behind = c.behind }
cut (b ∷ before) {after = after} e (line {texts = texts} t l s i a) =
    let p = cons_parts t b texts (before ++ after) e in
    let c = cut before p.1 a in
    record { front = l ∷ c.front; back = c.back; parts = ap (λ ls. l ∷ ls) c.parts; in_front = line b l (subst (λ x. is_skipped x ≡ false) p.0 s) (subst (λ x. IsLine x l) p.0 i) c.in_front; behind = c.behind }

-- the line of a text that isn't skipped
pub record Head (text : List ℕ) (lines : List Line) : Type 0 where
  pub one : Line
  pub more : List Line
  pub parts : lines ≡ one ∷ more
  pub is : IsLine text one

head_of : {texts : List (List ℕ)} {lines : List Line} (text : List ℕ) (more : List (List ℕ)) → texts ≡ text ∷ more → is_skipped text ≡ false → AreLines texts lines → Head text lines
head_of text more e s none = absurd (cc)
head_of text more e s (skipped {texts = texts} t f a) = let p = cons_parts t text texts more e in absurd (cc)
head_of text more e s (line {texts = texts} {lines = lines} t l f i a) =
    let p = cons_parts t text texts more e in
    record { one = l; more = lines; parts = refl; is = subst (λ x. IsLine x l) p.0 i }

no_fault : (good : List Line) (here : List ℕ) (l : Line) (fault : LineFault) → IsLine here l → (may_follow good l ≡ true) × (repeats_path good l ≡ false) → IsFault good here fault → ⊥
no_fault good here l ProjectLine i (m, r) f = f l i m
no_fault good here l TwoPaths i (m, r) (k, j, n, q) = let same = same_line here k l j i in absurd (cc)

-- where all lines are good, none is bad
good_all : (before : List (List ℕ)) (here : List ℕ) (after : List (List ℕ)) {all : List (List ℕ)} (good lines : List Line) (fault : LineFault) → all ≡ before ++ here ∷ after → AreLines all lines → AreInOrder lines → AreLines before good → is_skipped here ≡ false → IsFault good here fault → ⊥
good_all before here after good lines fault e a o g s f =
    let c = cut before e a in
    let h = head_of here after refl s c.behind in
    let same = same_lines c.in_front g in
    no_fault good here h.one fault h.is (o good h.more h.one (c.parts ∙ ap (λ ls. ls ++ c.back) same ∙ ap (λ ls. good ++ ls) h.parts)) f

same_fault : (good : List Line) (here : List ℕ) (f g : LineFault) → IsFault good here f → IsFault good here g → f ≡ g
same_fault good here ProjectLine ProjectLine i j = refl
same_fault good here ProjectLine TwoPaths i (l, j, m, r) = absurd (i l j m)
same_fault good here TwoPaths ProjectLine (l, j, m, r) i = absurd (i l j m)
same_fault good here TwoPaths TwoPaths i j = refl

earlier_by : (p : List (List ℕ)) (h : List ℕ) (x : List (List ℕ)) (q : List (List ℕ)) (k : List ℕ) (y : List (List ℕ)) (more : List (List ℕ)) (good lines : List Line) (f : LineFault) → q ≡ p ++ more → h ∷ x ≡ more ++ (k ∷ y) → AreLines q lines → AreInOrder lines → AreLines p good → is_skipped h ≡ false → IsFault good h f → length p < length q → ⊥
earlier_by p h x q k y [] good lines f e r a o g s i l = let short = ap length (e ∙ append-nil p) in absurd (omega (arith, l, short))
earlier_by p h x q k y (m ∷ more) good lines f e r a o g s i l =
    let same = cons_parts h m x (more ++ (k ∷ y)) r in
    good_all p h more good lines f (e ∙ ap (λ z. p ++ z ∷ more) (sym same.0)) a o g s i

-- of two bad lines none is the earlier one
earlier : (text : List ℕ) (m n : ℕ) (f g : LineFault) (a : IsBadLine text m f) (b : IsBadLine text n g) → length a.before < length b.before → ⊥
earlier text m n f g a b l =
    let (more, e, rest) = front_of_front a.before (a.here ∷ a.after) b.before (b.here ∷ b.after) (sym a.split ∙ b.split) (omega (arith, l)) in
    earlier_by a.before a.here a.after b.before b.here b.after more a.good b.good f e rest b.lines b.in_order a.lines a.not_skipped a.bad l

same_place : (text : List ℕ) (m n : ℕ) (f g : LineFault) (a : IsBadLine text m f) (b : IsBadLine text n g) → length a.before ≡ length b.before → (m ≡ n) × (f ≡ g)
same_place text m n f g a b l =
    let p = same_cut a.before (a.here ∷ a.after) b.before (b.here ∷ b.after) (sym a.split ∙ b.split) l in
    let h = cons_parts a.here b.here a.after b.after p.1 in
    let good = same_lines (subst (λ t. AreLines t a.good) p.0 a.lines) b.lines in
    (a.number_is ∙ ap (λ k. k + 1) l ∙ sym b.number_is, same_fault b.good b.here f g (subst (λ x. IsFault x b.here f) good (subst (λ x. IsFault a.good x f) h.0 a.bad)) b.bad)

same_bad : (text : List ℕ) (m n : ℕ) (f g : LineFault) → IsBadLine text m f → IsBadLine text n g → (m ≡ n) × (f ≡ g)
same_bad text m n f g a b = elim (cases_lt (length a.before) (length b.before)) [
  | inl l ↦ absurd (earlier text m n f g a b l)
  | inr h ↦ elim (cases_lt (length b.before) (length a.before)) [
    | inl l ↦ absurd (earlier text n m g f b a l)
    | inr k ↦ same_place text m n f g a b (omega (arith, h, k))
  ]
]

bad_or_empty : (text : List ℕ) (m n : ℕ) (f g : LineFault) → IsBadLine text m f → IsEmpty text n g → ⊥
bad_or_empty text m n f g a b =
    let c = cut a.before a.split b.lines in
    let h = head_of a.here a.after refl a.not_skipped c.behind in
    let p = nil_parts c.front c.back (sym c.parts) in
    let q = h.parts in
    absurd (cc)

pub one_refusal : (text : List ℕ) (m n : ℕ) (f g : LineFault) → IsFirstBadLine text m f → IsFirstBadLine text n g → (m ≡ n) × (f ≡ g)
one_refusal text m n f g (bad a) (bad b) = same_bad text m n f g a b
one_refusal text m n f g (bad a) (empty b) = absurd (bad_or_empty text m n f g a b)
one_refusal text m n f g (empty a) (bad b) = absurd (bad_or_empty text n m g f b a)
one_refusal text m n f g (empty a) (empty b) = (a.number_is ∙ sym b.number_is, a.fault_is ∙ sym b.fault_is)

pub one_project : (text : List ℕ) (p q : Project) → IsProject text p → IsProject text q → p ≡ q
one_project text p q a b = a.is ∙ ap project_of (same_lines a.lines b.lines) ∙ sym b.is

pub never_both : (text : List ℕ) (p : Project) (n : ℕ) (f : LineFault) → IsProject text p → IsFirstBadLine text n f → ⊥
never_both text p n f a (bad b) = good_all b.before b.here b.after b.good (a.first ∷ a.more) f b.split a.lines a.in_order b.lines b.not_skipped b.bad
never_both text p n f a (empty b) = let same = same_lines a.lines b.lines in absurd (cc)

pub gives_project : (text : List ℕ) (result : Result Project ProjectRefusal) (p : Project) → IfOk result (IsProject text) → IfErr result (IsRefusedAs text) → IsProject text p → GivesProject result p
gives_project text (Ok q) p ok err i = inl (ap Ok (one_project text q p ok i))
gives_project text (Err (refusal.Line n f)) p ok err i = absurd (never_both text p n f i err)
gives_project text (Err refusal.NoMemory) p ok err i = inr refl

pub gives_refusal : (text : List ℕ) (result : Result Project ProjectRefusal) (n : ℕ) (f : LineFault) → IfOk result (IsProject text) → IfErr result (IsRefusedAs text) → IsFirstBadLine text n f → GivesRefusal result n f
gives_refusal text (Ok q) n f ok err i = absurd (never_both text q n f ok i)
gives_refusal text (Err (refusal.Line m g)) n f ok err i = let same = one_refusal text m n g f err i in inl (ap (λ k. Err (refusal.Line k g)) same.0 ∙ ap (λ k. Err (refusal.Line n k)) same.1)
gives_refusal text (Err refusal.NoMemory) n f ok err i = inr refl
