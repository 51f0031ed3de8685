-- Values that primitives take.
use Rattle.std.proofs.Common.{◌≡◌, ℕ, ℤ, Bool, true, List, [], ◌∷◌, ap, ap₂, ◌∙◌}
use Rattle.std.specs.List.{list_all}
use Rattle.web_data.specs.declared.datum.Desc.{Desc}
use Rattle.web_data.specs.declared.cache.CacheId.{CacheId}
use Rattle.sml_evaluation.specs.declared.value.Value.{Value, roll-Value}
use Rattle.sml_evaluation.specs.declared.value.Bound.TheOpen.{Value-F}
use Rattle.sml_evaluation.specs.declared.value.Bound.TheFolds.{fold-roll-Value}
use Rattle.sml_evaluation.specs.ValueLayers.{ValueLayer}
use Rattle.sml_evaluation.specs.Values.{int_value, text_value, tuple_value, con_value, applied_value, desc_value, cache_value}
use Rattle.sml_evaluation.specs.DataValues.{plain_by, is_plain}

pub plain_int : (n : ℤ) → is_plain (int_value n) ≡ true
plain_int n = fold-roll-Value ℕ Bool ℕ (λ b. 0) plain_by (λ c. 0) (Value-F.Int n)

pub plain_text : (text : List ℕ) → is_plain (text_value text) ≡ true
plain_text text = fold-roll-Value ℕ Bool ℕ (λ b. 0) plain_by (λ c. 0) (Value-F.Str text)

pub plain_con : (d i : ℕ) → is_plain (con_value d i) ≡ true
plain_con d i = fold-roll-Value ℕ Bool ℕ (λ b. 0) plain_by (λ c. 0) (Value-F.Con d i)

pub plain_applied : (d i : ℕ) (v : Value) → is_plain v ≡ true → is_plain (applied_value d i v) ≡ true
plain_applied d i v p = fold-roll-Value ℕ Bool ℕ (λ b. 0) plain_by (λ c. 0) (Value-F.Applied d i v) ∙ p

pub plain_desc : (d : Desc) → is_plain (desc_value d) ≡ true
plain_desc d = fold-roll-Value ℕ Bool ℕ (λ b. 0) plain_by (λ c. 0) (Value-F.Desc d)

pub plain_cache : (id : CacheId) → is_plain (cache_value id) ≡ true
plain_cache id = fold-roll-Value ℕ Bool ℕ (λ b. 0) plain_by (λ c. 0) (Value-F.Cache id)

pub plain_pair : (a b : Value) → is_plain a ≡ true → is_plain b ≡ true → is_plain (tuple_value (a ∷ b ∷ [])) ≡ true
plain_pair a b p q = fold-roll-Value ℕ Bool ℕ (λ b. 0) plain_by (λ c. 0) (Value-F.Tuple (a ∷ b ∷ [])) ∙ ap₂ (λ x y. list_all (λ z. z) (x ∷ y ∷ [])) p q

pub plain_triple : (a b c : Value) → is_plain a ≡ true → is_plain b ≡ true → is_plain c ≡ true → is_plain (tuple_value (a ∷ b ∷ c ∷ [])) ≡ true
plain_triple a b c p q r =
    fold-roll-Value ℕ Bool ℕ (λ b. 0) plain_by (λ c. 0) (Value-F.Tuple (a ∷ b ∷ c ∷ []))
    ∙ ap₂ (λ x y. list_all (λ z. z) (x ∷ y ∷ is_plain c ∷ [])) p q ∙ ap (λ x. list_all (λ z. z) (x ∷ [])) r

pub plain_four : (a b c d : Value) → is_plain a ≡ true → is_plain b ≡ true → is_plain c ≡ true → is_plain d ≡ true → is_plain (tuple_value (a ∷ b ∷ c ∷ d ∷ [])) ≡ true
plain_four a b c d p q r s =
    fold-roll-Value ℕ Bool ℕ (λ b. 0) plain_by (λ c. 0) (Value-F.Tuple (a ∷ b ∷ c ∷ d ∷ []))
    ∙ ap₂ (λ x y. list_all (λ z. z) (x ∷ y ∷ is_plain c ∷ is_plain d ∷ [])) p q ∙ ap₂ (λ x y. list_all (λ z. z) (x ∷ y ∷ [])) r s
