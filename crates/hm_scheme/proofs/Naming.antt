-- What the names of a table stand for, one name after the other.
use Rattle.std.proofs.Common.{◌≡◌, ℕ, zero, suc, ◌+◌, ◌<◌, List, [], ◌∷◌, ◌++◌, map, length, get_or, refl, ap, sym, ◌∙◌, subst, arith, append_assoc, below_more, Result, Ok, Err, IfOk, OnErr}
use Rattle.std.specs.List.{range_with_len}
use Rattle.std.proofs.lemmas.List.{map_push, length_push, get_or_append_left, get_or_push}
use Rattle.hm_types.specs.Classes.{TypeGraph, name_at}
use Rattle.hm_types.specs.declared.node.TypeName.{TypeName}
use Rattle.hm_scheme.specs.declared.type_name.TyName.{TyName}
use Rattle.hm_scheme.specs.declared.type_name.TyName.TheVariants.{Arrow}
use Rattle.hm_scheme.specs.TypeNames.{Tells, AllTell}

pub tell-push : (ns : List TyName) (fs : List TypeName) (n : TyName) (f : TypeName) → AllTell ns fs → Tells n f → AllTell (ns ++ n ∷ []) (fs ++ f ∷ [])
tell-push ns fs n f h t = (
  length_push ns n ∙ ap (λ k. k + 1) h.0 ∙ sym (length_push fs f),
  λ i l. below_more (λ k. Tells (get_or (ns ++ n ∷ []) k Arrow) (name_at (fs ++ f ∷ []) k)) (length ns) left here i (subst (λ k. i < k) (length_push ns n) l),
)
  where
    left : (k : ℕ) → k < length ns → Tells (get_or (ns ++ n ∷ []) k Arrow) (name_at (fs ++ f ∷ []) k)
    left k l =
        subst (λ x. Tells x (name_at (fs ++ f ∷ []) k)) (sym (get_or_append_left ns (n ∷ []) Arrow k l))
        (subst (λ x. Tells (get_or ns k Arrow) x) (sym (get_or_append_left fs (f ∷ []) _ k (subst (λ j. k < j) h.0 l))) (h.1 k l))

    here : Tells (get_or (ns ++ n ∷ []) (length ns) Arrow) (name_at (fs ++ f ∷ []) (length ns))
    here =
        subst (λ x. Tells x (name_at (fs ++ f ∷ []) (length ns))) (sym (get_or_push ns n Arrow (length ns) refl))
        (subst (λ x. Tells n x) (sym (get_or_push fs f _ (length ns) (sym h.0))) t)

range-more : (a n : ℕ) → range_with_len a (suc n) ≡ range_with_len a n ++ (a + n) ∷ []
range-more a zero = let e : a ≡ a + 0 = omega arith in ap (λ x. x ∷ []) e
range-more a (suc n) =
    let e : a + 1 + n ≡ a + suc n = omega arith in
    ap (λ xs. a ∷ xs) (range-more (a + 1) n ∙ ap (λ x. range_with_len (a + 1) n ++ x ∷ []) e)

-- one name more, of a kind that counts up
pub names-more : (base : List TyName) (kind : ℕ → TyName) (a n m i : ℕ) → suc n ≡ m → a + n ≡ i → (base ++ map kind (range_with_len a n)) ++ kind i ∷ [] ≡ base ++ map kind (range_with_len a m)
names-more base kind a n m i s e =
    append_assoc base (map kind (range_with_len a n)) (kind i ∷ [])
    ∙ ap (λ z. base ++ z) (ap (λ x. map kind (range_with_len a n) ++ kind x ∷ []) (sym e) ∙ sym (ap (map kind) (range-more a n) ∙ map_push kind (range_with_len a n) (a + n)))
    ∙ ap (λ k. base ++ map kind (range_with_len a k)) s

-- the names stay where a call leaves them both when it works and when it doesn't
pub same-names : {T E : Type 0} (r : Result T E) (g h : TypeGraph) (P : T → Type 0) → IfOk r P → ((x : T) → P x → h.names ≡ g.names) → OnErr r (h ≡ g) → h.names ≡ g.names
same-names (Ok x) g h P p f k = f x p
same-names (Err e) g h P p f k = ap (λ z. z.names) k

pub tell-same : (ns : List TyName) (fs hs : List TypeName) → hs ≡ fs → AllTell ns fs → AllTell ns hs
tell-same ns fs hs e t = subst (AllTell ns) (sym e) t
