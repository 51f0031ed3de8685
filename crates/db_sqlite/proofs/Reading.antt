-- A name is read back from what is written of it.
use Rattle.std.proofs.Common.{◌≡◌, inl, inr, ℕ, ◌+◌, ◌-◌, ◌≤◌, List, [], ◌∷◌, ◌++◌, true, false, refl, ap, sym, subst, ◌∙◌, arith}
use Rattle.std.specs.Prelude.{if◌then◌else◌, ◌==◌, All}
use Rattle.std.proofs.lemmas.Bool.{ne_eqb}
use Rattle.std.proofs.lemmas.List.{append_assoc, append-nil}
use Rattle.std.proofs.lemmas.List.Elements.{All-push}
use Rattle.db_sqlite.specs.Names.{read_from, read_back, IsPlainByte, IsFileByte, Writes}

-- what is written so far is read back, whatever follows
abbrev pub Reads : List ℕ → List ℕ → Type 0
Reads name done = (more : List ℕ) → read_back (name ++ more) ≡ done ++ read_back more

not-mark : (b : ℕ) → IsPlainByte b → (b ≡ 94 → ⊥) × (b ≡ 37 → ⊥)
not-mark b (inl h) = (λ e. omega (arith, e, h.0, h.1), λ e. omega (arith, e, h.0, h.1))
not-mark b (inr (inl h)) = (λ e. omega (arith, e, h.0, h.1), λ e. omega (arith, e, h.0, h.1))
not-mark b (inr (inr h)) = (λ e. omega (arith, e, h), λ e. omega (arith, e, h))

plain-read : (b : ℕ) (more : List ℕ) → (b ≡ 94 → ⊥) → (b ≡ 37 → ⊥) → read_back (b ∷ more) ≡ b ∷ read_back more
plain-read b more h g =
    ap (λ t. if t then read_from true more else (if b == 37 then read_from false more else b ∷ read_from false more)) (ne_eqb b 94 h)
    ∙ ap (λ t. if t then read_from false more else b ∷ read_from false more) (ne_eqb b 37 g)

capital-read : (b : ℕ) (more : List ℕ) → read_back (94 ∷ (b + 32) ∷ more) ≡ b ∷ read_back more
capital-read b more = let e : b + 32 - 32 ≡ b = omega arith in ap (λ c. c ∷ read_back more) e

further : (old done w : List ℕ) (b : ℕ) → Reads old done → ((more : List ℕ) → read_back (w ++ more) ≡ b ∷ read_back more) → Reads (old ++ w) (done ++ b ∷ [])
further old done w b r h more =
    ap read_back (append_assoc old w more)
    ∙ (r (w ++ more) ∙ (ap (λ z. done ++ z) (h more) ∙ sym (append_assoc done (b ∷ []) (read_back more))))

pub reads-on : (b : ℕ) (old new done : List ℕ) → Writes b old new → Reads old done → Reads new (done ++ b ∷ [])
reads-on b old new done (inl h) r = subst (λ n. Reads n (done ++ b ∷ [])) (sym h.1) (further old done (94 ∷ (b + 32) ∷ []) b r (λ more. capital-read b more))
reads-on b old new done (inr h) r =
    let n = not-mark b h.0 in
    subst (λ n. Reads n (done ++ b ∷ [])) (sym h.1) (further old done (b ∷ []) b r (λ more. plain-read b more n.0 n.1))

small : (b : ℕ) → (65 ≤ b) × (b ≤ 90) → IsFileByte (b + 32)
small b h = inl (inl (omega (arith, h.0), omega (arith, h.1)))

pub bytes-on : (b : ℕ) (old new : List ℕ) → Writes b old new → All IsFileByte old → All IsFileByte new
bytes-on b old new (inl h) r =
    subst (λ n. All IsFileByte n) (append_assoc old (94 ∷ []) ((b + 32) ∷ []) ∙ sym h.1)
    (All-push IsFileByte (old ++ 94 ∷ []) (b + 32) (All-push IsFileByte old 94 r (inr (inl refl))) (small b h.0))
bytes-on b old new (inr h) r = subst (λ n. All IsFileByte n) (sym h.1) (All-push IsFileByte old b r (inl h.0))

pub read-whole : (name done : List ℕ) → Reads name done → read_back name ≡ done
read-whole name done r = ap read_back (sym (append-nil name)) ∙ (r [] ∙ append-nil done)
