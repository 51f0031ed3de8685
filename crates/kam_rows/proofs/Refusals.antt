-- What the calls on a store leave of words and regions, besides what `kam_store` says of it.
use Rattle.std.proofs.Common.{◌≡◌, ℕ, ◌-◌, ◌<◌, ◌≤◌, List, [], ◌∷◌, length, ap, refl, arith}
use Rattle.std.proofs.Common.{Result, Ok, Err, Some, slice_get}
use Rattle.std.specs.Result.{OnErr, IsErrOf}
use Rattle.kam_store.specs.declared.region_store.StoreRefusal.{StoreRefusal}
use Rattle.kam_store.specs.declared.region_store.StoreRefusal.TheVariants.{NoPage, Dead, NoMemory}
use Rattle.kam_store.specs.Store.{LiveRegion, StoreState, words_in, serials_of}
use Rattle.kam_store.specs.Writing.{LacksPage, LacksMemory}

-- a refused write leaves the words
pub after_refusal : {M : Type 0} (s t : StoreState M) (serial : ℕ) (words : List ℕ) (r : Result ℕ StoreRefusal) → (IsErrOf r NoPage → LacksPage s serial words t) → (IsErrOf r Dead → t ≡ s) → (IsErrOf r NoMemory → LacksMemory s serial words t) → OnErr r (words_in t.live ≤ words_in s.live)
after_refusal s t serial words (Ok pointer) p d m = tt
after_refusal s t serial words (Err NoPage) p d m =
    let l = p refl in
    let e : words_in t.live ≡ words_in s.live = ap (λ (u : StoreState _). words_in u.live) l.rest in
    omega (arith, e)
after_refusal s t serial words (Err Dead) p d m =
    let e : words_in t.live ≡ words_in s.live = ap (λ (u : StoreState _). words_in u.live) (d refl) in
    omega (arith, e)
after_refusal s t serial words (Err NoMemory) p d m =
    let l = m refl in
    let e : words_in t.live ≡ words_in s.live = ap (λ (u : StoreState _). words_in u.live) l.rest in
    omega (arith, e)

-- where there is a highest serial, a region is live
pub live_at_top : (live : List LiveRegion) (n : ℕ) → slice_get (serials_of live) (length live - 1) ≡ Some n → 0 < length live
live_at_top [] n e = grind arith
live_at_top (r ∷ rs) n e = omega arith
