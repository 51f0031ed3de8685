-- Two lists side by side, and the first item of a list that has a fault.
use Rattle.std.specs.Prelude.{◌≡◌, List, [], ◌∷◌, ◌++◌}

-- each item of one list goes with that of the other at the same place, and there are no more in either
pub data Each {A B : Type 0} (R : A → B → Type 0) : List A → List B → Type 0 where
  none : Each R [] []
  one : {x : A} {y : B} {xs : List A} {ys : List B} → R x y → Each R xs ys → Each R (x ∷ xs) (y ∷ ys)

-- the items of a list before `rest` go with these
pub record SoFar {A B : Type 0} (R : A → B → Type 0) (all rest : List A) (done : List B) : Type 0 where
  pub front : List A
  pub split : all ≡ front ++ rest
  pub each : Each R front done

-- an item with this fault, before which each one goes with another
pub record Stops {A B E : Type 0} (R : A → B → Type 0) (Fault : A → E → Type 0) (all : List A) (e : E) : Type 0 where
  pub front : List A
  pub here : A
  pub back : List A
  pub split : all ≡ front ++ here ∷ back
  pub done : List B
  pub each : Each R front done
  pub fault : Fault here e
