-- A script has one list of tokens, or one refusal, and never both.
use Rattle.std.proofs.Common.{◌≡◌, ◌≢◌, ◌⊎◌, inl, inr, ℕ, zero, suc, ◌+◌, ◌<◌, ◌≤◌, List, [], ◌∷◌, ◌++◌, length, Option, Some, None, refl, ap, sym, ◌∙◌, subst, arith}
use Rattle.std.proofs.lemmas.Bool.Decides.{leb_tells}
use Rattle.sml_syntax.specs.declared.token.Token.{Token}
use Rattle.grammar_rules.specs.Spelling.{Refusal, OpenQuote, Piece, Reading, Good, Refused}
use Rattle.grammar_rules.specs.Tokens.{Mode, Program, QuotedText, Antiquoted, reading, Longest, behind, with_piece, Lexes, ends, piece, Refuses, text_open, expression_open, here, later}

tail-is : {a b : ℕ} {xs ys : List ℕ} → a ∷ xs ≡ b ∷ ys → xs ≡ ys
tail-is h = cc

-- two cuts of one text at the same length are one cut
same-cut : (p r q s : List ℕ) → p ++ r ≡ q ++ s → length p ≡ length q → (p ≡ q) × (r ≡ s)
same-cut [] r [] s h e = (refl, h)
same-cut [] r (y ∷ q) s h e = absurd (none (length q) e)
  where
    none : (n : ℕ) → 0 ≡ suc n → ⊥
    none n h = omega arith
same-cut (x ∷ p) r [] s h e = absurd (none (length p) e)
  where
    none : (n : ℕ) → suc n ≡ 0 → ⊥
    none n h = omega arith
same-cut (x ∷ p) r (y ∷ q) s h e =
    let k : (p ≡ q) × (r ≡ s) = same-cut p r q s (tail-is h) (omega arith) in
    let x-is : x ≡ y = cc in
    (ap (λ z. x ∷ z) k.0 ∙ ap (λ z. z ∷ q) x-is, k.1)

none-some : {k : Reading} (o : Option Reading) → o ≡ None → o ≡ Some k → ⊥
none-some o h g = cc

not-longer : {mode : Mode} {n : ℕ} {k m : Reading} (p r q s : List ℕ) → Longest mode n p r k → Longest mode n q s m → p ++ r ≡ q ++ s → length q ≤ length p
not-longer {mode} {n} {k} {m} p r q s a b h = elim (leb_tells (length q) (length p)) [
  | inl w ↦ w.1
  | inr w ↦ absurd (none-some {k = m} (reading mode n q) (a.most q s h w.1) b.is)
]

some-is : {k m : Reading} → Some k ≡ Some m → k ≡ m
some-is h = cc

pub same-piece : {mode : Mode} {n : ℕ} {k m : Reading} (p r q s : List ℕ) → Longest mode n p r k → Longest mode n q s m → p ++ r ≡ q ++ s → (p ≡ q) × (r ≡ s) × (k ≡ m)
same-piece {mode} {n} {k} {m} p r q s a b h =
    let le1 : length q ≤ length p = not-longer p r q s a b h in
    let le2 : length p ≤ length q = not-longer q s p r b a (sym h) in
    let c : (p ≡ q) × (r ≡ s) = same-cut p r q s h (omega arith) in
    (c.0, c.1, some-is (sym a.is ∙ (ap (reading mode n) c.0 ∙ b.is)))

reads-none : (mode : Mode) (n : ℕ) → reading mode n [] ≡ None
reads-none Program n = refl
reads-none (QuotedText start around) n = refl
reads-none (Antiquoted start zero around) n = refl
reads-none (Antiquoted start (suc parens) around) n = refl

pub not-empty : {mode : Mode} {n : ℕ} {k : Reading} (p rest : List ℕ) → Longest mode n p rest k → p ++ rest ≡ [] → ⊥
not-empty {mode} {n} {k} [] rest h e = none-some {k = k} (reading mode n []) (reads-none mode n) h.is
not-empty (x ∷ p) rest h e = cc

good-is : {x y : Piece} → Good x ≡ Good y → x ≡ y
good-is h = cc

refused-is : {x y : Refusal} → Refused x ≡ Refused y → x ≡ y
refused-is h = cc

good-refused : {x : Piece} {r : Refusal} → Good x ≡ Refused r → ⊥
good-refused h = cc

-- a text as it is first cut
data Cut (mode : Mode) (n : ℕ) (bs : List ℕ) (ts : List Token) : Type 0 where
  at_end : mode ≡ Program → bs ≡ [] → ts ≡ [] → Cut mode n bs ts
  cut : {x : Piece} (p rest : List ℕ) (more : List Token) → bs ≡ p ++ rest → ts ≡ with_piece n (n + length p) x more → Longest mode n p rest (Good x) →
      Lexes (behind mode n x) (n + length p) rest more → Cut mode n bs ts

view : {mode : Mode} {n : ℕ} {bs : List ℕ} {ts : List Token} → Lexes mode n bs ts → Cut mode n bs ts
view ends = at_end refl refl refl
view (piece {ts = ts} p rest h d) = cut p rest ts refl refl h d

pub one-partition : {mode : Mode} {n : ℕ} {bs : List ℕ} {ts us : List Token} → Lexes mode n bs ts → Lexes mode n bs us → ts ≡ us
one-partition ends f = at-end (view f)
  where
    at-end : {n : ℕ} {us : List Token} → Cut Program n [] us → [] ≡ us
    at-end (at_end m e h) = sym h
    at-end (cut p rest more e h a d) = absurd (not-empty p rest a (sym e))
one-partition {us = us} (piece {mode = mode} {n = n} {x = x} {ts = ts} p rest a d) f = go (λ more g. one-partition d g) (view f)
  where
    go : ((more : List Token) → Lexes (behind mode n x) (n + length p) rest more → ts ≡ more) → Cut mode n (p ++ rest) us → with_piece n (n + length p) x ts ≡ us
    go ih (at_end m e h) = absurd (not-empty p rest a e)
    go ih (cut {x = y} q s more e h b g) =
        let c : (p ≡ q) × (rest ≡ s) × (Good x ≡ Good y) = same-piece p rest q s a b e in
        let x-is : x ≡ y = good-is c.2 in
        let g1 : Lexes (behind mode n x) (n + length p) rest more =
        subst (λ z. Lexes (behind mode n z) (n + length p) rest more) (sym x-is)
        (subst (λ w. Lexes (behind mode n y) (n + length w) rest more) (sym c.0) (subst (λ w. Lexes (behind mode n y) (n + length q) w more) (sym c.1) g)) in
        ap (with_piece n (n + length p) x) (ih more g1)
        ∙ (ap (λ z. with_piece n (n + length p) z more) x-is ∙ (ap (λ w. with_piece n (n + length w) y more) c.0 ∙ sym h))

-- a text as its refusal first cuts it
data CutR (mode : Mode) (n : ℕ) (bs : List ℕ) (r : Refusal) : Type 0 where
  text_end : {start : ℕ} {around : List ℕ} → mode ≡ QuotedText start around → bs ≡ [] → r ≡ OpenQuote start → CutR mode n bs r
  expression_end : {start parens : ℕ} {around : List ℕ} → mode ≡ Antiquoted start parens around → bs ≡ [] → r ≡ OpenQuote start → CutR mode n bs r
  here_r : (p rest : List ℕ) → bs ≡ p ++ rest → Longest mode n p rest (Refused r) → CutR mode n bs r
  cut_r : {x : Piece} (p rest : List ℕ) → bs ≡ p ++ rest → Longest mode n p rest (Good x) → Refuses (behind mode n x) (n + length p) rest r → CutR mode n bs r

view-r : {mode : Mode} {n : ℕ} {bs : List ℕ} {r : Refusal} → Refuses mode n bs r → CutR mode n bs r
view-r text_open = text_end refl refl refl
view-r expression_open = expression_end refl refl refl
view-r (here p rest a) = here_r p rest refl a
view-r (later p rest a f) = cut_r p rest refl a f

start-of : Mode → ℕ
start-of Program = 0
start-of (QuotedText start around) = start
start-of (Antiquoted start parens around) = start

at-the-end : {mode : Mode} {n : ℕ} {r : Refusal} → CutR mode n [] r → r ≡ OpenQuote (start-of mode)
unfolding start-of
at-the-end (text_end m e h) = h ∙ ap (λ z. OpenQuote (start-of z)) (sym m)
at-the-end (expression_end m e h) = h ∙ ap (λ z. OpenQuote (start-of z)) (sym m)
at-the-end (here_r p rest e a) = absurd (not-empty p rest a (sym e))
at-the-end (cut_r p rest e a f) = absurd (not-empty p rest a (sym e))

pub one-refusal : {mode : Mode} {n : ℕ} {bs : List ℕ} {q r : Refusal} → Refuses mode n bs q → Refuses mode n bs r → q ≡ r
unfolding start-of
one-refusal text_open f = sym (at-the-end (view-r f))
one-refusal expression_open f = sym (at-the-end (view-r f))
one-refusal {q = q} {r = r} (here {mode = mode} {n = n} p rest a) f = go (view-r f)
  where
    go : CutR mode n (p ++ rest) r → q ≡ r
    go (text_end m e h) = absurd (not-empty p rest a e)
    go (expression_end m e h) = absurd (not-empty p rest a e)
    go (here_r p2 rest2 e b) = let c : (p ≡ p2) × (rest ≡ rest2) × (Refused q ≡ Refused r) = same-piece p rest p2 rest2 a b e in refused-is c.2
    go (cut_r {x = x} p2 rest2 e b h) = let c : (p ≡ p2) × (rest ≡ rest2) × (Refused q ≡ Good x) = same-piece p rest p2 rest2 a b e in absurd (good-refused (sym c.2))
one-refusal {q = q} {r = r} (later {mode = mode} {n = n} {x = x} p rest a g) f = go (λ h. one-refusal g h) (view-r f)
  where
    go : (Refuses (behind mode n x) (n + length p) rest r → q ≡ r) → CutR mode n (p ++ rest) r → q ≡ r
    go ih (text_end m e h) = absurd (not-empty p rest a e)
    go ih (expression_end m e h) = absurd (not-empty p rest a e)
    go ih (here_r p2 rest2 e b) = let c : (p ≡ p2) × (rest ≡ rest2) × (Good x ≡ Refused r) = same-piece p rest p2 rest2 a b e in absurd (good-refused c.2)
    go ih (cut_r {x = y} p2 rest2 e b h) =
        let c : (p ≡ p2) × (rest ≡ rest2) × (Good x ≡ Good y) = same-piece p rest p2 rest2 a b e in
        ih (subst (λ z. Refuses (behind mode n z) (n + length p) rest r) (sym (good-is c.2))
        (subst (λ w. Refuses (behind mode n y) (n + length w) rest r) (sym c.0) (subst (λ w. Refuses (behind mode n y) (n + length p2) w r) (sym c.1) h)))

-- never tokens and a refusal
pub not-both : {mode : Mode} {n : ℕ} {bs : List ℕ} {ts : List Token} {r : Refusal} → Lexes mode n bs ts → Refuses mode n bs r → ⊥
not-both {r = r} ends f = go (view-r f)
  where
    go : {n : ℕ} → CutR Program n [] r → ⊥
    go (text_end m e h) = cc
    go (expression_end m e h) = cc
    go (here_r p rest e a) = not-empty p rest a (sym e)
    go (cut_r p rest e a f) = not-empty p rest a (sym e)
not-both {r = r} (piece {mode = mode} {n = n} {x = x} p rest a d) f = go (λ h. not-both d h) (view-r f)
  where
    go : (Refuses (behind mode n x) (n + length p) rest r → ⊥) → CutR mode n (p ++ rest) r → ⊥
    go ih (text_end m e h) = not-empty p rest a e
    go ih (expression_end m e h) = not-empty p rest a e
    go ih (here_r p2 rest2 e b) = let c : (p ≡ p2) × (rest ≡ rest2) × (Good x ≡ Refused r) = same-piece p rest p2 rest2 a b e in good-refused c.2
    go ih (cut_r {x = y} p2 rest2 e b h) =
        let c : (p ≡ p2) × (rest ≡ rest2) × (Good x ≡ Good y) = same-piece p rest p2 rest2 a b e in
        ih (subst (λ z. Refuses (behind mode n z) (n + length p) rest r) (sym (good-is c.2))
        (subst (λ w. Refuses (behind mode n y) (n + length w) rest r) (sym c.0) (subst (λ w. Refuses (behind mode n y) (n + length p2) w r) (sym c.1) h)))

-- at the end no quotation is open
pub no_text_end : {n start : ℕ} {around : List ℕ} {bs : List ℕ} {ts : List Token} → Lexes (QuotedText start around) n bs ts → bs ≡ [] → ⊥
no_text_end {start = start} {around = around} {bs = bs} {ts = ts} d e = go (view d)
  where
    go : {n : ℕ} → Cut (QuotedText start around) n bs ts → ⊥
    go (at_end m f g) = cc
    go (cut p rest more f g a l) = not-empty p rest a (sym f ∙ e)
