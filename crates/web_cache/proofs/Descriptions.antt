-- Two descriptions pass the test exactly where they are equal.
use Rattle.std.proofs.Common.{◌≡◌, Bool, true, false, IsTrue, refl, sym, ap, subst, ◌∙◌}
use Rattle.std.specs.Prelude.{◌&&◌}
use Rattle.std.proofs.lemmas.Bool.{and_parts}
use Rattle.web_data.specs.declared.datum.Desc.{Desc, map-Desc, out-Desc}
use Rattle.web_data.specs.declared.datum.Desc.TheOpen.{Desc-F}
use Rattle.web_data.specs.declared.datum.Desc.TheViews.{roll-Desc, roll-out-Desc, out-roll-Desc}
use Rattle.web_data.specs.declared.datum.Desc.TheFolds.{ind-Desc, fold-roll-Desc}
use Rattle.web_cache.specs.SameCache.{same_form, same_form_of, same_desc}

abbrev Tells : Desc → Type 0
Tells d = ((x : Desc) → same_desc d x ≡ true → d ≡ x) × (same_desc d d ≡ true)

-- a layer of a description, whose parts come with what holds of them
abbrev Layer : Type 0
Layer = Desc-F ((d : Desc) × Tells d)

abbrev desc_of : Layer → Desc-F Desc
desc_of y = map-Desc _ _ (λ e. e.0) y

abbrev tests : Desc-F Desc → Desc-F (Desc → Bool)
tests l = map-Desc _ _ same_desc l

told : (y : Layer) (g : Desc-F Desc) → same_form (tests (desc_of y)) g ≡ true → desc_of y ≡ g
told Desc-F.Int Desc-F.Int h = refl
told Desc-F.Int _ h = absurd (cc)
told Desc-F.Bool Desc-F.Bool h = refl
told Desc-F.Bool _ h = absurd (cc)
told Desc-F.Char Desc-F.Char h = refl
told Desc-F.Char _ h = absurd (cc)
told Desc-F.Str Desc-F.Str h = refl
told Desc-F.Str _ h = absurd (cc)
told Desc-F.Unit Desc-F.Unit h = refl
told Desc-F.Unit _ h = absurd (cc)
told (Desc-F.Pair a b) (Desc-F.Pair x y) h =
    let p = and_parts (same_desc a.0 x) (same_desc b.0 y) h in
    let first = a.1.0 x p.0 in
    let second = b.1.0 y p.1 in
    λ i. Desc-F.Pair (first i) (second i)
told (Desc-F.Pair a b) _ h = absurd (cc)
told (Desc-F.Triple a b c) (Desc-F.Triple x y z) h =
    let p = and_parts (same_desc a.0 x) (same_desc b.0 y && same_desc c.0 z) h in
    let q = and_parts (same_desc b.0 y) (same_desc c.0 z) p.1 in
    let first = a.1.0 x p.0 in
    let second = b.1.0 y q.0 in
    let third = c.1.0 z q.1 in
    λ i. Desc-F.Triple (first i) (second i) (third i)
told (Desc-F.Triple a b c) _ h = absurd (cc)
told (Desc-F.Opt a) (Desc-F.Opt x) h = ap Desc-F.Opt (a.1.0 x h)
told (Desc-F.Opt a) _ h = absurd (cc)
told (Desc-F.List a) (Desc-F.List x) h = ap Desc-F.List (a.1.0 x h)
told (Desc-F.List a) _ h = absurd (cc)

itself : (y : Layer) → same_form (tests (desc_of y)) (desc_of y) ≡ true
itself Desc-F.Int = refl
itself Desc-F.Bool = refl
itself Desc-F.Char = refl
itself Desc-F.Str = refl
itself Desc-F.Unit = refl
itself (Desc-F.Pair a b) = λ i. a.1.1 i && b.1.1 i
itself (Desc-F.Triple a b c) = λ i. a.1.1 i && (b.1.1 i && c.1.1 i)
itself (Desc-F.Opt a) = a.1.1
itself (Desc-F.List a) = a.1.1

rolls : (l : Desc-F Desc) → same_desc (roll-Desc l) ≡ same_form_of (tests l)
rolls l = fold-roll-Desc (Desc → Bool) same_form_of l

rolled : (y : Layer) → Tells (roll-Desc (desc_of y))
rolled y = (
  (λ x h. ap roll-Desc (told y (out-Desc x) (sym (ap (λ (g : Desc → Bool). g x) (rolls (desc_of y))) ∙ h)) ∙ roll-out-Desc x),
  ap (λ (g : Desc → Bool). g (roll-Desc (desc_of y))) (rolls (desc_of y)) ∙ (ap (same_form (tests (desc_of y))) (out-roll-Desc (desc_of y)) ∙ itself y),
)

tells : (d : Desc) → Tells d
tells = ind-Desc Tells (λ x y is. subst (λ z. Tells (roll-Desc z)) is (rolled y))

pub same_true : (a b : Desc) → same_desc a b ≡ true → a ≡ b
same_true a b h = (tells a).0 b h

pub true_same : (a b : Desc) → a ≡ b → same_desc a b ≡ true
true_same a b e = subst (λ z. same_desc a z ≡ true) e (tells a).1

-- where the first descriptions differ
pub differ : (a b : Desc) (P : Type 0) (r : Bool) → r ≡ same_desc a b → r ≡ false → (IsTrue false → (a ≡ b) × P) × ((a ≡ b) × P → IsTrue false)
differ a b P r e f = ((λ h. absurd (cc)), λ h. let t = true_same a b h.0 in cc)

-- where they are equal, it is left to the second ones
pub as-second : (a b x y : Desc) (r s : Bool) → r ≡ same_desc a b → r ≡ true → s ≡ same_desc x y → (IsTrue s → (a ≡ b) × (x ≡ y)) × ((a ≡ b) × (x ≡ y) → IsTrue s)
as-second a b x y r s e t f = ((λ h. (same_true a b (sym e ∙ t), same_true x y (sym f ∙ h))), λ h. f ∙ true_same x y h.1)
