-- What is kept of the names of tokens: a name token is spelled as its name, wherever it stands.
use Rattle.std.proofs.Common.{◌≡◌, ◌⊎◌, inl, inr, ℕ, ◌+◌, List, [], ◌∷◌, ◌++◌, length, Bool, true, false, ◌&&◌, ◌||◌, cond, Option, Some, None, refl, ap, sym, ◌∙◌, subst, arith, append_assoc, append-nil, ◌==◌}
use Rattle.std.proofs.lemmas.Bool.Decides.{nat_tests}
use Rattle.sml_syntax.specs.declared.token.TokenForm.{TokenForm}
use Rattle.sml_syntax.specs.declared.token.TokenForm.TheVariants as f
use Rattle.grammar_rules.specs.Spelling.{Reading, Good, Refused, Piece, BadByte, is, is_name_byte, is_symbol_byte, is_plain, WordKind, Plain, Reserved, Lacks, word_kind, alone, names, next_word, named}
use Rattle.sml_syntax.specs.ByteClasses.{is_letter}
use Rattle.print_laws.specs.Printing.{has_dot}

-- what bytes are read as, wherever they stand
pub data Said (reads : ℕ → Option Reading) (whole : List ℕ) : TokenForm → Type 0 where
  said_name : has_dot whole ≡ false → ((m : ℕ) → reads m ≡ Some (is (f.Name whole))) → Said reads whole (f.Name whole)
  said_long : has_dot whole ≡ true → ((m : ℕ) → reads m ≡ Some (is (f.Long whole))) → Said reads whole (f.Long whole)
  said_mark : Said reads whole (f.Mark whole)

pub said_reads : {reads again : ℕ → Option Reading} {whole : List ℕ} {form : TokenForm} → ((m : ℕ) → again m ≡ reads m) → Said reads whole form → Said again whole form
said_reads k (said_name h r) = said_name h (λ m. k m ∙ r m)
said_reads k (said_long h r) = said_long h (λ m. k m ∙ r m)
said_reads k said_mark = said_mark

form_is : {g h : TokenForm} → Some (is g) ≡ Some (is h) → g ≡ h
form_is e = cc

none_not : {r : Reading} → None ≡ Some r → ⊥
none_not h = cc

refused_not : {x : Piece} → (r : Reading) → (n : ℕ) → Some (Refused (BadByte n)) ≡ Some (Good x) → ⊥
refused_not r n h = cc

or_none : (x y : Bool) → x ≡ false → y ≡ false → (x || y) ≡ false
or_none true y h g = h
or_none false y h g = g

dots_append : (xs ys : List ℕ) → has_dot xs ≡ false → has_dot ys ≡ false → has_dot (xs ++ ys) ≡ false
dots_append [] ys h g = g
dots_append (x ∷ xs) ys h g = go (x == 46) (λ k. dots_append xs ys k g) h
  where
    go : (t : Bool) → (has_dot xs ≡ false → has_dot (xs ++ ys) ≡ false) → (t || has_dot xs) ≡ false → (t || has_dot (xs ++ ys)) ≡ false
    go true k h = h
    go false k h = k h

dots_back : (xs ys : List ℕ) → has_dot ys ≡ true → has_dot (xs ++ ys) ≡ true
dots_back [] ys g = g
dots_back (x ∷ xs) ys g = go (x == 46) (dots_back xs ys g)
  where
    go : (t : Bool) → has_dot (xs ++ ys) ≡ true → (t || has_dot (xs ++ ys)) ≡ true
    go true k = refl
    go false k = k

dots_front : (xs ys : List ℕ) → has_dot xs ≡ true → has_dot (xs ++ ys) ≡ true
dots_front [] ys g = absurd (cc)
dots_front (x ∷ xs) ys g = go (x == 46) (λ k. dots_front xs ys k) g
  where
    go : (t : Bool) → (has_dot xs ≡ true → has_dot (xs ++ ys) ≡ true) → (t || has_dot xs) ≡ true → (t || has_dot (xs ++ ys)) ≡ true
    go true k h = refl
    go false k h = k h

name_byte_no_dot : (b : ℕ) → is_name_byte b ≡ true → (b == 46) ≡ false
name_byte_no_dot b h = grind (arith, nat_tests)

letter_no_dot : (b : ℕ) → is_letter b ≡ true → (b == 46) ≡ false
letter_no_dot b h = grind (arith, nat_tests)

symbol_no_dot : (b : ℕ) → is_symbol_byte b ≡ true → (b == 46) ≡ false
symbol_no_dot b h = grind (arith, nat_tests)

one_no_dot : (b : ℕ) → (b == 46) ≡ false → has_dot (b ∷ []) ≡ false
one_no_dot b h = ap (λ t. t || false) h

-- a word or a run of symbols
pub alone_said : (n : ℕ) (word : List ℕ) (kind : WordKind) {form : TokenForm} → has_dot word ≡ false → Some (alone n word kind) ≡ Some (is form) → Said (λ m. Some (alone m word kind)) word form
alone_said n word Plain h e = subst (Said (λ m. Some (alone m word Plain)) word) (form_is e) (said_name h (λ m. refl))
alone_said n word Reserved h e = subst (Said (λ m. Some (alone m word Reserved)) word) (form_is e) said_mark
alone_said n word (Lacks l) h e = absurd (cc)

long_said : (n d : ℕ) (ds word : List ℕ) {form : TokenForm} → has_dot (d ∷ ds) ≡ true → Some (named n (d ∷ ds) word) ≡ Some (is form) → Said (λ m. Some (named m (d ∷ ds) word)) ((d ∷ ds) ++ word) form
long_said n d ds word {form = form} h e = go (is_plain word) refl e
  where
    go : (t : Bool) → is_plain word ≡ t → Some (named n (d ∷ ds) word) ≡ Some (is form) → Said (λ m. Some (named m (d ∷ ds) word)) ((d ∷ ds) ++ word) form
    go true p e =
        let reads : (m : ℕ) → Some (named m (d ∷ ds) word) ≡ Some (is (f.Long ((d ∷ ds) ++ word))) = λ m. ap (λ t. Some (cond t (is (f.Long ((d ∷ ds) ++ word))) (Refused (BadByte (m + length ds))))) p in
        subst (Said (λ m. Some (named m (d ∷ ds) word)) ((d ∷ ds) ++ word)) (form_is (sym (reads n) ∙ e)) (said_long (dots_front (d ∷ ds) word h) reads)
    go false p e =
        absurd (refused_not (is form) (n + length ds) (sym (ap (λ t. Some (cond t (is (f.Long ((d ∷ ds) ++ word))) (Refused (BadByte (n + length ds))))) p) ∙ e))

named_said : (n : ℕ) (before word : List ℕ) {form : TokenForm} → (before ≡ []) ⊎ (has_dot before ≡ true) → has_dot word ≡ false → Some (named n before word) ≡ Some (is form) → Said (λ m. Some (named m before word)) (before ++ word) form
named_said n [] word d h e = alone_said n word (word_kind word) h e
named_said n (c ∷ before) word (inl d) h e = absurd (cc)
named_said n (c ∷ before) word (inr d) h e = long_said n c before word d e

is_byte : (b c : ℕ) → (b == c) ≡ true → b ≡ c
is_byte b c h = grind (arith, nat_tests)

left_of : (x y : Bool) → (x && y) ≡ true → x ≡ true
left_of true y h = refl
left_of false y h = h

regroup : (before word bs : List ℕ) → (before ++ word ++ 46 ∷ []) ++ bs ≡ before ++ (word ++ 46 ∷ bs)
regroup before word bs = simp append_assoc

-- one byte more of a name
by_byte : (n : ℕ) (before word : List ℕ) (b : ℕ) (bs : List ℕ) {form : TokenForm} (t : Bool) → is_name_byte b ≡ t → (u : Bool) → (b == 46 && is_plain word) ≡ u →
    (has_dot (word ++ b ∷ []) ≡ false → names n before (word ++ b ∷ []) bs ≡ Some (is form) → Said (λ m. names m before (word ++ b ∷ []) bs) (before ++ ((word ++ b ∷ []) ++ bs)) form) →
    (next_word n (before ++ word ++ 46 ∷ []) bs ≡ Some (is form) → Said (λ m. next_word m (before ++ word ++ 46 ∷ []) bs) ((before ++ word ++ 46 ∷ []) ++ bs) form) →
    has_dot word ≡ false → cond t (names n before (word ++ b ∷ []) bs) (cond u (next_word n (before ++ word ++ 46 ∷ []) bs) None) ≡ Some (is form) →
    Said (λ m. cond t (names m before (word ++ b ∷ []) bs) (cond u (next_word m (before ++ word ++ 46 ∷ []) bs) None)) (before ++ (word ++ b ∷ bs)) form
by_byte n before word b bs {form = form} true p u q k l h e =
    subst (λ w. Said (λ m. names m before (word ++ b ∷ []) bs) (before ++ w) form) (append_assoc word (b ∷ []) bs) (k (dots_append word (b ∷ []) h (one_no_dot b (name_byte_no_dot b p))) e)
by_byte n before word b bs {form = form} false p true q k l h e =
    subst (λ w. Said (λ m. next_word m (before ++ word ++ 46 ∷ []) bs) w form)
    (regroup before word bs ∙ ap (λ z. before ++ (word ++ z ∷ bs)) (sym (is_byte b 46 (left_of (b == 46) (is_plain word) q)))) (l e)
by_byte n before word b bs false p false q k l h e = absurd (none_not e)

by_letter : (n : ℕ) (before : List ℕ) (b : ℕ) (bs : List ℕ) {form : TokenForm} (t : Bool) → is_letter b ≡ t →
    (has_dot (b ∷ []) ≡ false → names n before (b ∷ []) bs ≡ Some (is form) → Said (λ m. names m before (b ∷ []) bs) (before ++ b ∷ bs) form) →
    cond t (names n before (b ∷ []) bs) None ≡ Some (is form) → Said (λ m. cond t (names m before (b ∷ []) bs) None) (before ++ b ∷ bs) form
by_letter n before b bs true p k e = k (one_no_dot b (letter_no_dot b p)) e
by_letter n before b bs false p k e = absurd (none_not e)

mutual
  unfolding names

  pub names_said : (n : ℕ) (before word bs : List ℕ) {form : TokenForm} → (before ≡ []) ⊎ (has_dot before ≡ true) → has_dot word ≡ false → names n before word bs ≡ Some (is form) →
      Said (λ m. names m before word bs) (before ++ (word ++ bs)) form
  names_said n before word [] {form = form} d h e = subst (λ w. Said (λ m. Some (named m before word)) (before ++ w) form) (sym (append-nil word)) (named_said n before word d h e)
  names_said n before word (b ∷ bs) {form = form} d h e =
      by_byte n before word b bs {form = form} (is_name_byte b) refl (b == 46 && is_plain word) refl (λ k g. names_said n before (word ++ b ∷ []) bs d k g) (λ g. next_said n (before ++ word ++ 46 ∷ []) bs (inr (dots_back (before ++ word) (46 ∷ []) refl)) g) h e

  next_said : (n : ℕ) (before bs : List ℕ) {form : TokenForm} → (before ≡ []) ⊎ (has_dot before ≡ true) → next_word n before bs ≡ Some (is form) → Said (λ m. next_word m before bs) (before ++ bs) form
  next_said n before [] d e = absurd (none_not e)
  next_said n before (b ∷ bs) {form = form} d e = by_letter n before b bs {form = form} (is_letter b) refl (λ g h. names_said n before (b ∷ []) bs d g h) e
