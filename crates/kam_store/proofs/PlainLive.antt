-- Live regions whose words are in vectors.
use Rattle.std.proofs.Common.{◌≡◌, ℕ, ◌+◌, ◌*◌, ◌^◌, ◌<◌, List, [], ◌∷◌, ◌++◌, length, take, set, get_or, ap, sym, subst, ◌∙◌, arith, Vec}
use Rattle.std.proofs.lemmas.List.Elements.{All-get_or}
use Rattle.std.specs.List.{All}
use Rattle.std.proofs.lemmas.List.{length-map, map-set, map_push, take-map, get_or-map, get_or_push, length_push}
use Rattle.std.specs.declared.alloc.Global.{Global}
use Rattle.kam_store.specs.Store.{LiveRegion, appended, length_at}
use Rattle.kam_store.specs.Writing.{Writes, LacksMemory}
use Rattle.kam_store.specs.Plain.{PlainRegions, live_of, plain_state}
use Rattle.kam_store.specs.PlainKept.{lists}
use Rattle.kam_store.proofs.Live.{take-live_of, live_of-take, live_of-longer, live_of-push}

pub length-lists : (vs : List (Vec ℕ Global)) → length (lists vs) ≡ length vs
length-lists vs = length-map vs (λ v. v.items)

pub lists-at : (vs : List (Vec ℕ Global)) (k : ℕ) (v : Vec ℕ Global) → k < length vs → v ≡ get_or vs k v → get_or (lists vs) k [] ≡ v.items
lists-at vs k v l e = get_or-map (λ (w : Vec ℕ Global). w.items) vs k v [] l ∙ ap (λ (w : Vec ℕ Global). w.items) (sym e)

pub lists-set : (vs : List (Vec ℕ Global)) (k : ℕ) (v : Vec ℕ Global) → lists (set vs k v) ≡ set (lists vs) k v.items
lists-set vs k v = map-set (λ (w : Vec ℕ Global). w.items) vs k v

-- the lowest so many regions
pub plain-closed : (ns : List ℕ) (vs : List (Vec ℕ Global)) (k : ℕ) → live_of (take k ns) (lists (take k vs)) ≡ take k (live_of ns (lists vs))
plain-closed ns vs k =
    ap (live_of (take k ns)) (sym (take-map (λ (w : Vec ℕ Global). w.items) k vs))
    ∙ live_of-take k ns (lists vs)
    ∙ sym (take-live_of k ns (lists vs))

-- one region more
pub plain-added : (ns : List ℕ) (vs : List (Vec ℕ Global)) (n : ℕ) (v : Vec ℕ Global) → length ns ≡ length vs → v.items ≡ [] → live_of (ns ++ n ∷ []) (lists (vs ++ v ∷ [])) ≡ live_of ns (lists vs) ++ record { serial = n; words = [] } ∷ []
plain-added ns vs n v l e =
    let wss = lists vs in
    let same : length wss ≡ length ns = length-lists vs ∙ sym l in
    let split : lists (vs ++ v ∷ []) ≡ wss ++ [] ∷ [] = map_push (λ (w : Vec ℕ Global). w.items) vs v ∙ ap (λ (ws : List ℕ). wss ++ ws ∷ []) e in
    let longer = length_push wss [] in
    let all : List (List ℕ) = wss ++ [] ∷ [] in
    ap (live_of (ns ++ n ∷ [])) split
    ∙ live_of-push ns n all (omega arith)
    ∙ ap (λ (rs : List LiveRegion). rs ++ record { serial = n; words = get_or all (length ns) [] } ∷ []) (live_of-longer ns wss ([] ∷ []) (omega arith))
    ∙ ap (λ (ws : List ℕ). live_of ns wss ++ record { serial = n; words = ws } ∷ []) (get_or_push wss [] [] (length ns) same)

-- words at the end of a region are all that a write leaves of a plain store
pub plain_writes : (s t : PlainRegions) (serial : ℕ) (words : List ℕ) (pointer : ℕ) → pointer ≡ serial * 2 ^ 32 + length_at serial s.live → t ≡ record s { live = appended serial words s.live } → Writes (plain_state s) serial words pointer (plain_state t)
plain_writes s t serial words pointer at e = record {
  place = at;
  peak = record { kept = omega arith; most = omega arith };
  rest = ap plain_state e;
}

-- and a refused one leaves all as it was
pub plain_lacks : (s t : PlainRegions) (serial : ℕ) (words : List ℕ) → t ≡ s → LacksMemory (plain_state s) serial words (plain_state t)
plain_lacks s t serial words e = record {
  peak = record { kept = omega arith; most = omega arith };
  rest = ap plain_state e;
}

pub short_list : (vs : List (Vec ℕ Global)) (k : ℕ) (v : Vec ℕ Global) → All (λ u. length u.items < 2 ^ 32) vs → k < length vs → v ≡ get_or vs k v → length v.items < 4294967296
short_list vs k v h l e =
    subst (λ (u : Vec ℕ Global). length u.items < 4294967296) (sym e) (All-get_or (λ (u : Vec ℕ Global). length u.items < 2 ^ 32) vs k v l h)
