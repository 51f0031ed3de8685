-- What becomes of texts when words are made.
use Rattle.std.proofs.Common.{◌≡◌, ℕ, ◌/◌, ◌%◌, ◌^◌, ◌<◌, Bool, true, false, cond, List, [], ◌∷◌, ◌++◌, length, Option, Some, refl, ap, ◌∙◌, arith}
use Rattle.std.specs.Prelude.{◌==◌, option_and_then}
use Rattle.kam_code.specs.State.{Region}
use Rattle.kam_code.specs.Layout.{text_words, text_at}
use Rattle.kam_code.specs.Memory.{region_words, with_more, pointer, text_behind}
use Rattle.kam_code.proofs.Packed.{IsBytes, text_at-append, text_at-made}

abbrev text_in : ℕ → Option (List ℕ) → Option (List ℕ)
text_in place found = option_and_then (text_at place) found

-- a region that has grown, or not
same_or_grown : (place : ℕ) (b : Bool) (words more text : List ℕ) (below : Option (List ℕ)) → text_in place (cond b (Some words) below) ≡ Some text → text_in place (cond b (Some (words ++ more)) below) ≡ Some text
same_or_grown place true words more text below e = text_at-append place words more text e
same_or_grown place false words more text below e = e

-- a region that is above the one that grows
above : (place : ℕ) (b : Bool) (words text : List ℕ) (below later : Option (List ℕ)) → (text_in place below ≡ Some text → text_in place later ≡ Some text) → text_in place (cond b (Some words) below) ≡ Some text → text_in place (cond b (Some words) later) ≡ Some text
above place true words text below later h e = e
above place false words text below later h e = h e

one_region : (place s : ℕ) (b : Bool) (region : Region) (regions later : List Region) (more text : List ℕ) → (text_in place (region_words s regions) ≡ Some text → text_in place (region_words s later) ≡ Some text) → text_in place (region_words s (region ∷ regions)) ≡ Some text → text_in place (region_words s (cond b (record { serial = region.serial; words = region.words ++ more } ∷ regions) (region ∷ later))) ≡ Some text
one_region place s true region regions later more text h e = same_or_grown place (region.serial == s) region.words more text (region_words s regions) e
one_region place s false region regions later more text h e = above place (region.serial == s) region.words text (region_words s regions) (region_words s later) h e

stays : (place s serial : ℕ) (more text : List ℕ) (regions : List Region) → text_in place (region_words s regions) ≡ Some text → text_in place (region_words s (with_more serial more regions)) ≡ Some text
stays place s serial more text [] e = e
stays place s serial more text (region ∷ regions) e =
    one_region place s (region.serial == serial) region regions (with_more serial more regions) more text (stays place s serial more text regions) e

-- a text stays where it lies when a region grows
pub text_behind-with_more : (p serial : ℕ) (more text : List ℕ) (regions : List Region) → text_behind p regions ≡ Some text → text_behind p (with_more serial more regions) ≡ Some text
text_behind-with_more p serial more text regions e = stays (p % 2 ^ 32) (p / 2 ^ 32) serial more text regions e

grown_region : (serial : ℕ) (b : Bool) (region : Region) (regions later : List Region) (words more : List ℕ) → region.serial == serial ≡ b → (region_words serial regions ≡ Some words → region_words serial later ≡ Some (words ++ more)) → cond b (Some region.words) (region_words serial regions) ≡ Some words → region_words serial (cond b (record { serial = region.serial; words = region.words ++ more } ∷ regions) (region ∷ later)) ≡ Some (words ++ more)
grown_region serial true region regions later words more t h e =
    ap (λ b. cond b (Some (region.words ++ more)) (region_words serial regions)) t ∙ ap (λ ws. Some (ws ++ more)) (let same : region.words ≡ words = cc in same)
grown_region serial false region regions later words more t h e = ap (λ b. cond b (Some region.words) (region_words serial later)) t ∙ h e

-- the words of the region that grows
pub region_words-with_more : (serial : ℕ) (words more : List ℕ) (regions : List Region) → region_words serial regions ≡ Some words → region_words serial (with_more serial more regions) ≡ Some (words ++ more)
region_words-with_more serial words more [] e = absurd (cc)
region_words-with_more serial words more (region ∷ regions) e =
    grown_region serial (region.serial == serial) region regions (with_more serial more regions) words more refl (region_words-with_more serial words more regions) e

quotient : (serial place : ℕ) → place < 2 ^ 32 → pointer serial place / 2 ^ 32 ≡ serial
quotient serial place l = omega arith

rest : (serial place : ℕ) → place < 2 ^ 32 → pointer serial place % 2 ^ 32 ≡ place
rest serial place l = omega arith

-- a text that is made lies behind its pointer
pub text_behind-made : (serial : ℕ) (words text : List ℕ) (regions : List Region) → IsBytes text → region_words serial regions ≡ Some words → length words < 2 ^ 32 → text_behind (pointer serial (length words)) (with_more serial (text_words text) regions) ≡ Some text
text_behind-made serial words text regions b e l =
    ap (λ s. text_in (pointer serial (length words) % 2 ^ 32) (region_words s (with_more serial (text_words text) regions))) (quotient serial (length words) l)
    ∙ ap (λ place. text_in place (region_words serial (with_more serial (text_words text) regions))) (rest serial (length words) l)
    ∙ ap (text_in (length words)) (region_words-with_more serial words (text_words text) regions e)
    ∙ text_at-made words text b
