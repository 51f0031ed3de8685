-- What goes with libraries and with scripts, and the programs of scripts.
use Rattle.std.proofs.Common.{◌≡◌, ℕ, zero, suc, ◌+◌, ◌-◌, ◌<◌, ◌≤◌, min, nat_lt, Bool, true, false, if◌then◌else◌, get_or, List, [], ◌∷◌, ◌++◌, length, drop, refl, ap, sym, ◌∙◌, subst, arith, append_assoc, append-nil}
use Rattle.std.proofs.lemmas.Bool.{le-ltb}
use Rattle.std.proofs.lemmas.List.{drop_all, length-append}
use Rattle.project_lines.specs.declared.project.ProjectFile.{ProjectFile}
use Rattle.project_lines.specs.declared.project.ProjectFile.TheVariants as file
use Rattle.sml_syntax.specs.declared.tree.Program.{Program}
use Rattle.sml_evaluation.specs.Page.{all_decs, page_decs}
use Rattle.script_loader.specs.declared.scripts.Base.{Base}
use Rattle.script_loader.specs.Behind.{script_behind, scripts_behind}
use Rattle.script_loader.specs.declared.source.Source.{Source}
use Rattle.script_loader.specs.declared.placed.Placed.{Placed}
use Rattle.script_loader.specs.Sources.{bytes_of}
use Rattle.script_loader.specs.Places.{of_libraries, placed_from, placed, place_in, prelude_source}
use Rattle.script_loader.specs.Scripts.{script_program, scripts_among}
use Rattle.script_loader.proofs.Lists.{at_item}

-- none are left

none_with : {A : Type 0} (files : List ProjectFile) → of_libraries {A = A} files [] ≡ []
none_with [] = refl
none_with (file.Library name ∷ files) = refl
none_with (file.Script path name ∷ files) = refl

no_tree_scripts : (base : Base) (files : List ProjectFile) → scripts_behind base files [] ≡ []
no_tree_scripts base [] = refl
no_tree_scripts base (file.Library name ∷ files) = refl
no_tree_scripts base (file.Script path name ∷ files) = refl

pub no_libraries : {A : Type 0} (files : List ProjectFile) (xs : List A) (i : ℕ) → min (length files) (length xs) ≤ i → of_libraries (drop i files) (drop i xs) ≡ []
no_libraries [] xs i le = ap (λ fs. of_libraries fs (drop i xs)) (drop_all i [] (omega arith))
no_libraries (f ∷ files) [] i le = ap (λ ts. of_libraries (drop i (f ∷ files)) ts) (drop_all i [] (omega arith)) ∙ none_with (drop i (f ∷ files))
no_libraries (f ∷ files) (x ∷ xs) zero le = absurd (omega (arith, le))
no_libraries (f ∷ files) (x ∷ xs) (suc i) le = no_libraries files xs i (omega (arith, le))

pub no_scripts : (base : Base) (files : List ProjectFile) (trees : List Program) (i : ℕ) → min (length files) (length trees) ≤ i → scripts_behind base (drop i files) (drop i trees) ≡ []
no_scripts base [] trees i le = ap (λ fs. scripts_behind base fs (drop i trees)) (drop_all i [] (omega arith))
no_scripts base (f ∷ files) [] i le = ap (λ ts. scripts_behind base (drop i (f ∷ files)) ts) (drop_all i [] (omega arith)) ∙ no_tree_scripts base (drop i (f ∷ files))
no_scripts base (f ∷ files) (t ∷ trees) zero le = absurd (omega (arith, le))
no_scripts base (f ∷ files) (t ∷ trees) (suc i) le = no_scripts base files trees i (omega (arith, le))

-- at a file

under_min : (i m n : ℕ) → i < min m n → (i < m) × (i < n)
under_min i zero n h = absurd (omega (arith, h))
under_min i (suc m) zero h = absurd (omega (arith, h))
under_min zero (suc m) (suc n) h = (omega arith, omega arith)
under_min (suc i) (suc m) (suc n) h =
    let less = under_min i m n (omega (arith, h)) in
    let first = less.0 in
    let second = less.1 in
    (omega (arith, first), omega (arith, second))

drop_at : {A : Type 0} (xs : List A) (i : ℕ) → i < length xs → (x : A) × (drop i xs ≡ x ∷ drop (suc i) xs)
drop_at [] i h = absurd (omega (arith, h))
drop_at (x ∷ xs) zero h = (x, refl)
drop_at (x ∷ xs) (suc i) h = drop_at xs i (omega (arith, h))

next : (n : ℕ) → suc n ≡ n + 1
next n = omega arith

at_library : {A : Type 0} (files : List ProjectFile) (xs : List A) (i : ℕ) (f d : ProjectFile) (name : List ℕ) (x y : A) → i < min (length files) (length xs) → f ≡ get_or files i d → f ≡ file.Library name → x ≡ get_or xs i y → of_libraries (drop i files) (drop i xs) ≡ x ∷ of_libraries (drop (i + 1) files) (drop (i + 1) xs)
at_library files xs i f d name x y less e is same =
    let under = under_min i (length files) (length xs) less in
    ap (λ fs. of_libraries fs (drop i xs)) (at_item files i d f e under.0 ∙ ap (λ g. g ∷ drop (i + 1) files) is)
    ∙ ap (of_libraries (file.Library name ∷ drop (i + 1) files)) (at_item xs i y x same under.1)

at_script : {A : Type 0} (files : List ProjectFile) (xs : List A) (i : ℕ) (f d : ProjectFile) (path name : List ℕ) → i < min (length files) (length xs) → f ≡ get_or files i d → f ≡ file.Script path name → of_libraries (drop i files) (drop i xs) ≡ of_libraries (drop (i + 1) files) (drop (i + 1) xs)
at_script files xs i f d path name less e is =
    let under = under_min i (length files) (length xs) less in
    ap (λ fs. of_libraries fs (drop i xs)) (at_item files i d f e under.0 ∙ ap (λ g. g ∷ drop (i + 1) files) is)
    ∙ ap (of_libraries (file.Script path name ∷ drop (i + 1) files)) (drop_at xs i under.1).1
    ∙ ap (λ j. of_libraries (drop (i + 1) files) (drop j xs)) (next i)

pub bytes_at_library : (files : List ProjectFile) (sources : List Source) (i : ℕ) (f d : ProjectFile) (name : List ℕ) (s z : Source) (sum after total : ℕ) → i < min (length files) (length sources) → f ≡ get_or files i d → f ≡ file.Library name → s ≡ get_or sources i z → after ≡ sum + length s.text → sum + bytes_of (of_libraries (drop i files) (drop i sources)) ≡ total → after + bytes_of (of_libraries (drop (i + 1) files) (drop (i + 1) sources)) ≡ total
bytes_at_library files sources i f d name s z sum after total less e is same grown inv =
    let bytes = ap bytes_of (at_library files sources i f d name s z less e is same) in
    omega (arith, bytes, grown, inv)

pub bytes_at_script : (files : List ProjectFile) (sources : List Source) (i : ℕ) (f d : ProjectFile) (path name : List ℕ) (sum after total : ℕ) → i < min (length files) (length sources) → f ≡ get_or files i d → f ≡ file.Script path name → after ≡ sum → sum + bytes_of (of_libraries (drop i files) (drop i sources)) ≡ total → after + bytes_of (of_libraries (drop (i + 1) files) (drop (i + 1) sources)) ≡ total
bytes_at_script files sources i f d path name sum after total less e is grown inv =
    let bytes = ap bytes_of (at_script files sources i f d path name less e is) in
    omega (arith, bytes, grown, inv)

second_one : (b : Bool) (x y : List ℕ × ℕ) → b ≡ false → (if b then x else y) ≡ y
second_one false x y e = refl
second_one true x y e = absurd (cc)

pub place_at_library : (files : List ProjectFile) (texts : List Placed) (i : ℕ) (f d : ProjectFile) (name : List ℕ) (s z : Placed) (last : List ℕ) (rest after : ℕ) (told : List ℕ × ℕ) → i < min (length files) (length texts) → f ≡ get_or files i d → f ≡ file.Library name → s ≡ get_or texts i z → length s.text ≤ rest → after ≡ rest - length s.text → place_in (of_libraries (drop i files) (drop i texts)) last rest ≡ told → place_in (of_libraries (drop (i + 1) files) (drop (i + 1) texts)) last after ≡ told
place_at_library files texts i f d name s z last rest after told less e is same within left inv =
    let more = of_libraries (drop (i + 1) files) (drop (i + 1) texts) in
    ap (place_in more last) left
    ∙ sym (second_one (nat_lt rest (length s.text)) (s.name, rest) (place_in more last (rest - length s.text)) (le-ltb rest (length s.text) within))
    ∙ ap (λ l. place_in l last rest) (sym (at_library files texts i f d name s z less e is same))
    ∙ inv

pub place_at_script : (files : List ProjectFile) (texts : List Placed) (i : ℕ) (f d : ProjectFile) (path name last : List ℕ) (rest after : ℕ) (told : List ℕ × ℕ) → i < min (length files) (length texts) → f ≡ get_or files i d → f ≡ file.Script path name → after ≡ rest → place_in (of_libraries (drop i files) (drop i texts)) last rest ≡ told → place_in (of_libraries (drop (i + 1) files) (drop (i + 1) texts)) last after ≡ told
place_at_script files texts i f d path name last rest after told less e is left inv =
    ap (place_in (of_libraries (drop (i + 1) files) (drop (i + 1) texts)) last) left
    ∙ ap (λ l. place_in l last rest) (sym (at_script files texts i f d path name less e is))
    ∙ inv

-- texts with their starts

no_sources : (library script : ℕ) (files : List ProjectFile) → placed_from library script files [] ≡ []
no_sources library script [] = refl
no_sources library script (file.Library name ∷ files) = refl
no_sources library script (file.Script path name ∷ files) = refl

none_placed : (library script : ℕ) (files : List ProjectFile) (sources : List Source) (i : ℕ) → min (length files) (length sources) ≤ i → placed_from library script (drop i files) (drop i sources) ≡ []
none_placed library script [] sources i le = ap (λ fs. placed_from library script fs (drop i sources)) (drop_all i [] (omega arith))
none_placed library script (f ∷ files) [] i le = ap (λ ss. placed_from library script (drop i (f ∷ files)) ss) (drop_all i [] (omega arith)) ∙ no_sources library script (drop i (f ∷ files))
none_placed library script (f ∷ files) (s ∷ sources) zero le = absurd (omega (arith, le))
none_placed library script (f ∷ files) (s ∷ sources) (suc i) le = none_placed library script files sources i (omega (arith, le))

pub all_placed : (library script whole prelude : ℕ) (files : List ProjectFile) (sources : List Source) (texts : List Placed) (i : ℕ) → min (length files) (length sources) ≤ i → texts ++ placed_from library script (drop i files) (drop i sources) ≡ placed_from prelude script files sources → script ≡ whole → texts ≡ placed_from prelude whole files sources
all_placed library script whole prelude files sources texts i le inv same =
    sym (append-nil texts) ∙ ap (λ ts. texts ++ ts) (sym (none_placed library script files sources i le)) ∙ inv ∙ ap (λ n. placed_from prelude n files sources) same

pub texts_placed : (texts : List Placed) (size : ℕ) (source : Placed) (seen files : List ProjectFile) (read sources : List Source) → texts ≡ placed_from size (size + bytes_of (of_libraries seen read)) seen read → size ≡ length source.text → source ≡ prelude_source → seen ≡ files → read ≡ sources → texts ≡ placed files sources
texts_placed texts size source seen files read sources e n first f s =
    e
    ∙ ap (λ k. placed_from k (k + bytes_of (of_libraries seen read)) seen read) (n ∙ ap (λ z. length z.text) first)
    ∙ ap (λ fs. placed fs read) f
    ∙ ap (λ ss. placed files ss) s

-- behind all libraries a place is the last file's
pub told_last : (files : List ProjectFile) (texts : List Placed) (i : ℕ) (last name : List ℕ) (rest place : ℕ) → name ≡ last → min (length files) (length texts) ≤ i → place_in (of_libraries (drop i files) (drop i texts)) last rest ≡ place_in (of_libraries files texts) last place → ◌≡◌ {A = List ℕ × ℕ} (name, rest) (place_in (of_libraries files texts) last place)
told_last files texts i last name rest place n le inv =
    subst (λ k. ◌≡◌ {A = List ℕ × ℕ} (k, rest) (place_in (of_libraries files texts) last place)) (sym n) (subst (λ l. place_in l last rest ≡ place_in (of_libraries files texts) last place) (no_libraries files texts i le) inv)

-- behind the prelude and the libraries

same_script : (prelude : Program) (libraries : List Program) (base : Base) (path name : List ℕ) (tree : Program) → base.decs.items ≡ prelude.items ++ all_decs libraries → base.prelude ≡ length prelude.items → script_behind base path name tree ≡ script_program prelude libraries path name tree
same_script prelude libraries base path name tree items own =
    let whole : base.decs.items ++ tree.items ≡ page_decs prelude libraries tree = ap (λ ds. ds ++ tree.items) items ∙ append_assoc prelude.items (all_decs libraries) tree.items in
    let before : length base.decs.items ≡ length prelude.items + length (all_decs libraries) = ap length items ∙ length-append prelude.items (all_decs libraries) in
    ap (λ ds. record { path = path; file = name; program = record { items = ds }; prelude = base.prelude; before = length base.decs.items }) whole
    ∙ ap (λ n. record { path = path; file = name; program = record { items = page_decs prelude libraries tree }; prelude = n; before = length base.decs.items }) own
    ∙ ap (λ n. record { path = path; file = name; program = record { items = page_decs prelude libraries tree }; prelude = length prelude.items; before = n }) before

pub same_scripts : (prelude : Program) (libraries : List Program) (base : Base) (files : List ProjectFile) (trees : List Program) → base.decs.items ≡ prelude.items ++ all_decs libraries → base.prelude ≡ length prelude.items → scripts_behind base files trees ≡ scripts_among prelude libraries files trees
same_scripts prelude libraries base [] trees items own = refl
same_scripts prelude libraries base (file.Library name ∷ files) [] items own = refl
same_scripts prelude libraries base (file.Script path name ∷ files) [] items own = refl
same_scripts prelude libraries base (file.Library name ∷ files) (t ∷ trees) items own = same_scripts prelude libraries base files trees items own
same_scripts prelude libraries base (file.Script path name ∷ files) (t ∷ trees) items own =
    ap (λ s. s ∷ scripts_behind base files trees) (same_script prelude libraries base path name t items own)
    ∙ ap (λ ss. script_program prelude libraries path name t ∷ ss) (same_scripts prelude libraries base files trees items own)
