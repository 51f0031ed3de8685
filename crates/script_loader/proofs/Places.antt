-- Places of texts and of their tokens as numbers of 64 bits.
use Rattle.std.proofs.Common.{◌≡◌, ℕ, suc, ◌+◌, ◌<◌, ◌≤◌, ◌^◌, List, [], ◌∷◌, length, refl, ap, sym, ◌∙◌, subst, nat_lt, true, All, rules, arith, length-append}
use Rattle.std.proofs.lemmas.List.Elements.{All-nil, All-cons}
use Rattle.project_lines.specs.declared.project.ProjectFile.{ProjectFile}
use Rattle.project_lines.specs.declared.project.ProjectFile.TheVariants as file
use Rattle.sml_syntax.specs.declared.token.Token.{Token}
use Rattle.sml_syntax.specs.declared.token.TokenForm.{TokenForm}
use Rattle.sml_syntax.specs.declared.token.TokenForm.TheVariants as form
use Rattle.sml_evaluation.specs.PreludeText.{prelude_text}
use Rattle.grammar_rules.specs.Spelling.{Blank, Is, TextByte}
use Rattle.grammar_rules.specs.Tokens.{Mode, Lexes, ends, piece, HasTokens, with_text, text_at}
use Rattle.outside_world.specs.Told.{Contents}
use Rattle.project_lines.specs.declared.project.Project.{Project}
use Rattle.script_loader.specs.declared.source.Source.{Source}
use Rattle.script_loader.specs.declared.placed.Placed.{Placed}
use Rattle.script_loader.specs.Placing.{Fits, MayMove}
use Rattle.script_loader.specs.Places.{of_libraries, placed_from, placed, prelude_source}
use Rattle.script_loader.specs.Project.{HoldsFiles}
use Rattle.script_loader.specs.Sources.{bytes_of}

-- tokens end within their text

abbrev Below : ℕ → List Token → Type 0
Below m [] = Unit {0}
Below m (t ∷ ts) = ((t.span.from ≤ m) × (t.span.to ≤ m)) × Below m ts

text_below : (m n b to : ℕ) (f : TokenForm) (t : Token) (ts : List Token) → suc n ≤ m → to ≤ m → (t.span.from ≤ m) × (t.span.to ≤ m) → Below m ts → Below m (text_at n b to f t ts)
text_below m n b to (form.Plain text) t ts h l p q = ((omega (arith, h), l), q)
text_below m n b to (form.Int i) t ts h l p q = ((omega (arith, h), h), (p, q))
text_below m n b to (form.Char i) t ts h l p q = ((omega (arith, h), h), (p, q))
text_below m n b to (form.Str i) t ts h l p q = ((omega (arith, h), h), (p, q))
text_below m n b to (form.Name i) t ts h l p q = ((omega (arith, h), h), (p, q))
text_below m n b to (form.Long i) t ts h l p q = ((omega (arith, h), h), (p, q))
text_below m n b to (form.TyVar i) t ts h l p q = ((omega (arith, h), h), (p, q))
text_below m n b to (form.Mark i) t ts h l p q = ((omega (arith, h), h), (p, q))
text_below m n b to form.QuoteFrom t ts h l p q = ((omega (arith, h), h), (p, q))
text_below m n b to (form.Anti i) t ts h l p q = ((omega (arith, h), h), (p, q))
text_below m n b to form.AntiFrom t ts h l p q = ((omega (arith, h), h), (p, q))
text_below m n b to form.AntiTo t ts h l p q = ((omega (arith, h), h), (p, q))
text_below m n b to form.QuoteTo t ts h l p q = ((omega (arith, h), h), (p, q))

with_text_below : (m n b : ℕ) (ts : List Token) → suc n ≤ m → Below m ts → Below m (with_text n b ts)
with_text_below m n b [] h q = ((omega (arith, h), h), tt)
with_text_below m n b (t ∷ ts) h q = text_below m n b t.span.to t.form t ts h q.0.1 q.0 q.1

lexed_below : {mode : Mode} {n : ℕ} {bytes : List ℕ} {ts : List Token} (m : ℕ) → n + length bytes < m → Lexes mode n bytes ts → Below m ts
lexed_below m h ends = tt
lexed_below {n = n} m h (piece {x = Blank} p rest l more) = let size = length-append p rest in lexed_below m (omega (arith, size, h)) more
lexed_below {n = n} m h (piece {x = Is f} p rest l more) =
    let size = length-append p rest in
    ((omega (arith, size, h), omega (arith, size, h)), lexed_below m (omega (arith, size, h)) more)
lexed_below {n = n} m h (piece {x = TextByte b} {ts = ts} p rest l more) =
    let size = length-append p rest in
    with_text_below m n b ts (omega (arith, size, h)) (lexed_below m (omega (arith, size, h)) more)

below_may_move : (start m : ℕ) (ts : List Token) → start + m < 2 ^ 64 → Below m ts → All (MayMove start) ts
below_may_move start m [] h q = All-nil (MayMove start)
below_may_move start m (t ∷ ts) h q =
    let from = q.0.0 in
    let to = q.0.1 in
    All-cons (MayMove start) t ts (omega (arith, h, from), omega (arith, h, to)) (below_may_move start m ts h q.1)

pub may_move : (source : Placed) (ts : List Token) → Fits source → HasTokens source.text ts → All (MayMove source.start) ts
may_move source ts f h = below_may_move source.start (length source.text + 1) ts (omega (arith, f)) (lexed_below (length source.text + 1) (omega arith) h)

-- texts end within 64 bits

pub library_bytes_less : (files : List ProjectFile) (sources : List Source) → bytes_of (of_libraries files sources) ≤ bytes_of sources
library_bytes_less [] sources = omega arith
library_bytes_less (file.Library name ∷ files) [] = omega arith
library_bytes_less (file.Script path name ∷ files) [] = omega arith
library_bytes_less (file.Library name ∷ files) (s ∷ sources) = let less = library_bytes_less files sources in omega (arith, less)
library_bytes_less (file.Script path name ∷ files) (s ∷ sources) = let less = library_bytes_less files sources in omega (arith, less)

placed_fit : (library script : ℕ) (files : List ProjectFile) (sources : List Source) → library + bytes_of sources + 1 < 2 ^ 64 → script + bytes_of sources + 1 < 2 ^ 64 → All Fits (placed_from library script files sources)
placed_fit library script [] sources h k = All-nil Fits
placed_fit library script (file.Library name ∷ files) [] h k = All-nil Fits
placed_fit library script (file.Script path name ∷ files) [] h k = All-nil Fits
placed_fit library script (file.Library name ∷ files) (s ∷ sources) h k =
    All-cons Fits (record { name = s.name; text = s.text; start = library }) (placed_from (library + length s.text) script files sources) (omega (arith, h)) (placed_fit (library + length s.text) script files sources (omega (arith, h)) (omega (arith, k)))
placed_fit library script (file.Script path name ∷ files) (s ∷ sources) h k =
    All-cons Fits (record { name = s.name; text = s.text; start = script }) (placed_from library script files sources) (omega (arith, k)) (placed_fit library script files sources (omega (arith, h)) (omega (arith, k)))

-- the prelude

pub is_prelude_source : (name text : List ℕ) → name ≡ [] → text ≡ prelude_text → record { name = name; text = text; start = 0 } ≡ prelude_source
unfolding prelude_source
is_prelude_source name text n t = ap (λ z. record { name = z; text = text; start = 0 }) n ∙ ap (λ z. record { name = []; text = z; start = 0 }) t

prelude_short : length prelude_source.text < 65536
unfolding prelude_source
prelude_short = by_test (length prelude_source.text) 65536 refl
  where
    by_test : (m n : ℕ) → nat_lt m n ≡ true → m < n
    by_test m n e = search (e, rules)

starts_first : prelude_source.start ≡ 0
unfolding prelude_source
starts_first = refl

pub prelude_fits : (source : Placed) → source ≡ prelude_source → Fits source
prelude_fits source e =
    let short = prelude_short in
    let first = starts_first in
    subst Fits (sym e) (omega (arith, short, first))

pub files_fit : (contents : Contents) (name : List ℕ) (project : Project) (sources : List Source) (texts : List Placed) → HoldsFiles contents name project sources → texts ≡ placed project.files sources → All Fits texts
files_fit contents name project sources texts h e =
    let short = prelude_short in
    let within = h.within in
    let whole = h.holds.bytes in
    let less = library_bytes_less project.files sources in
    subst (All Fits) (sym e) (placed_fit (length prelude_source.text) (length prelude_source.text + bytes_of (of_libraries project.files sources)) project.files sources (omega (arith, short, within, whole)) (omega (arith, short, within, whole, less)))

pub texts_fit : (contents : Contents) (name : List ℕ) (project : Project) (sources : List Source) (size : ℕ) → HoldsFiles contents name project sources → size ≡ length prelude_source.text → size + bytes_of sources < 2 ^ 64
texts_fit contents name project sources size h e =
    let short = prelude_short in
    let within = h.within in
    let whole = h.holds.bytes in
    omega (arith, short, within, whole, e)
