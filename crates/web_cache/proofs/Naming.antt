-- Lists in which no two items have one name.
use Rattle.std.proofs.Common.{◌≡◌, List, [], ◌∷◌, ◌++◌, filter, Bool, true, false, cond, refl, ap, sym, ◌∙◌, subst}
use Rattle.cache_rows.specs.RowMachine.{Named, NoneNamed}
use Rattle.cache_rows.proofs.Lists.{all-append, all-left, all-right, all-filter}
use Rattle.web_cache.specs.Apart.{Apart}

-- the same parts of a list
pub record Same {A : Type 0} (before : List A) (x : A) (after front : List A) (y : A) (back : List A) : Type 0 where
  pub before_is : before ≡ front
  pub item_is : x ≡ y
  pub after_is : after ≡ back

module _ {A B : Type 0} (name : A → B) where
  one-item : (before : List A) (x : A) (after front : List A) (y : A) (back : List A) → Apart name (before ++ x ∷ after) → before ++ x ∷ after ≡ front ++ y ∷ back → name x ≡ name y → Same before x after front y back
  one-item [] x after [] y back d e n = record { before_is = refl; item_is = (cc); after_is = (cc) }
  one-item [] x after (z ∷ front) y back d e n =
      let t : after ≡ front ++ y ∷ back = (cc) in
      absurd ((all-right _ front (y ∷ back) (subst (NoneNamed name (name x)) t d.0)).0 (sym n))
  one-item (w ∷ before) x after [] y back d e n =
      let h : w ≡ y = (cc) in
      absurd ((all-right _ before (x ∷ after) d.0).0 (n ∙ ap name (sym h)))
  one-item (w ∷ before) x after (z ∷ front) y back d e n =
      let h : w ≡ z = (cc) in
      let t : before ++ x ∷ after ≡ front ++ y ∷ back = (cc) in
      let s = one-item before x after front y back d.1 t n in
      record { before_is = λ i. h i ∷ s.before_is i; item_is = s.item_is; after_is = s.after_is }

  -- one item has the name
  pub named-once : (b : B) (xs before : List A) (x : A) (after front : List A) (y : A) (back : List A) → Apart name xs → Named name b xs before x after → Named name b xs front y back → Same before x after front y back
  named-once b xs before x after front y back d h g = one-item before x after front y back (subst (Apart name) h.whole d) (sym h.whole ∙ g.whole) (h.named ∙ sym g.named)

  pub named-none : (b : B) (xs before : List A) (x : A) (after : List A) → Named name b xs before x after → NoneNamed name b xs → ⊥
  named-none b xs before x after h n = (all-right _ before (x ∷ after) (subst (NoneNamed name b) h.whole n)).0 h.named

  pub apart-filter : (test : A → Bool) (xs : List A) → Apart name xs → Apart name (filter test xs)
  apart-filter test [] d = tt
  apart-filter test (x ∷ xs) d = by (test x) (apart-filter test xs d.1)
    where
      by : (b : Bool) → Apart name (filter test xs) → Apart name (cond b (x ∷ filter test xs) (filter test xs))
      by true h = (all-filter _ test xs d.0, h)
      by false h = h

  -- another item under the same name
  pub apart-with : (before : List A) (x y : A) (after : List A) → name x ≡ name y → Apart name (before ++ x ∷ after) → Apart name (before ++ y ∷ after)
  apart-with [] x y after n d = (subst (λ z. NoneNamed name z after) n d.0, d.1)
  apart-with (w ∷ before) x y after n d =
      let right = all-right _ before (x ∷ after) d.0 in
      (all-append _ before (y ∷ after) (all-left _ before (x ∷ after) d.0) ((λ e. right.0 (n ∙ e)), right.1), apart-with before x y after n d.1)

  pub apart-without : (before : List A) (x : A) (after : List A) → Apart name (before ++ x ∷ after) → Apart name (before ++ after)
  apart-without [] x after d = d.1
  apart-without (w ∷ before) x after d = (all-append _ before after (all-left _ before (x ∷ after) d.0) (all-right _ before (x ∷ after) d.0).1, apart-without before x after d.1)

  -- none of the others has its name
  pub none-other : (before : List A) (x : A) (after : List A) → Apart name (before ++ x ∷ after) → NoneNamed name (name x) (before ++ after)
  none-other [] x after d = d.0
  none-other (w ∷ before) x after d = ((λ e. (all-right _ before (x ∷ after) d.0).0 (sym e)), none-other before x after d.1)

  pub apart-last : (xs : List A) (x : A) → NoneNamed name (name x) xs → Apart name xs → Apart name (xs ++ x ∷ [])
  apart-last [] x n d = (tt, tt)
  apart-last (w ∷ xs) x n d = (all-append _ xs (x ∷ []) d.0 ((λ e. n.0 (sym e)), tt), apart-last xs x n.1 d.1)
