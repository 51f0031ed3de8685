-- Pages that come and go, step by step.
use Rattle.std.proofs.Common.{◌≡◌, ℕ, ◌+◌, ◌<◌, ◌≤◌, Some, List, [], ◌∷◌, ◌++◌, length, refl, ap, ◌∙◌, arith}
use Rattle.std.proofs.lemmas.Bool.Decides.{nat_tests}
use Rattle.std.proofs.lemmas.List.{length-append}
use Rattle.page_pool.specs.Holding.{Holding, times, TakesPage, FindsNone, GivesPage, lesser, raised}
use Rattle.page_pool.proofs.Times.{times-append}
use Rattle.kam_store.specs.Moves.{AreOut, MovesPages, PeakWithin, IsUnmet, MeetsNone}

pub moves_none : {M : Type 0} (h : Holding M) (ns : List ℕ) → MovesPages h ns h ns
moves_none h ns = record { each = λ k. refl; longer = refl; mark = refl }

pub moves_on : {M : Type 0} (a : Holding M) (ns : List ℕ) (b : Holding M) (ms : List ℕ) (c : Holding M) (ls : List ℕ) → MovesPages a ns b ms → MovesPages b ms c ls → MovesPages a ns c ls
moves_on a ns b ms c ls h g = record {
  each = λ k. let e = h.each k in let f = g.each k in omega arith;
  longer = let e = h.longer in let f = g.longer in omega arith;
  mark = g.mark ∙ h.mark;
}

-- a page came
pub moves_take : {M : Type 0} (a : Holding M) (ns : List ℕ) (b : Holding M) (ms : List ℕ) (n : ℕ) (c : Holding M) → MovesPages a ns b ms → TakesPage b n c → MovesPages a ns c (ms ++ n ∷ [])
moves_take a ns b ms n c h t = record {
  each = λ k. let e = h.each k in let f = t.out.each k in let g = times-append k ms (n ∷ []) in omega arith;
  longer = let e = h.longer in let f = t.out.one_longer in let g = length-append ms (n ∷ []) in omega arith;
  mark = t.mark ∙ h.mark;
}

-- the last page went back
pub moves_give : {M : Type 0} (a : Holding M) (ns : List ℕ) (b : Holding M) (ms : List ℕ) (n : ℕ) (c : Holding M) → MovesPages a ns b (ms ++ n ∷ []) → GivesPage b n c → MovesPages a ns c ms
moves_give a ns b ms n c h t = record {
  each = λ k. let e = h.each k in let f = t.out.each k in let g = times-append k ms (n ∷ []) in omega arith;
  longer = let e = h.longer in let f = t.out.one_longer in let g = length-append ms (n ∷ []) in omega arith;
  mark = t.mark ∙ h.mark;
}

-- a page came that goes back at once
pub moves_back : {M : Type 0} (a : Holding M) (ns : List ℕ) (b : Holding M) (ms : List ℕ) (n : ℕ) (c d : Holding M) → MovesPages a ns b ms → TakesPage b n c → GivesPage c n d → MovesPages a ns d ms
moves_back a ns b ms n c d h t g = moves_give a ns c ms n d (moves_take a ns b ms n c h t) g

-- none came
pub moves_dry : {M : Type 0} (a : Holding M) (ns : List ℕ) (b : Holding M) (ms : List ℕ) (c : Holding M) → MovesPages a ns b ms → FindsNone b c → MovesPages a ns c ms
moves_dry a ns b ms c h d = record {
  each = λ k. ap (λ (out : List ℕ). times k out + times k ns) d.out ∙ h.each k;
  longer = ap (λ (out : List ℕ). length out + length ns) d.out ∙ h.longer;
  mark = d.mark ∙ h.mark;
}

-- what came since is out
pub came_out : {M : Type 0} (a : Holding M) (ns : List ℕ) (b : Holding M) (ms : List ℕ) → MovesPages a ns b (ns ++ ms) → AreOut b ms
came_out a ns b ms h = record { each = λ k. let e = h.each k in let f = times-append k ns ms in omega arith }

pub out_front : {M : Type 0} (h : Holding M) (ns : List ℕ) (n : ℕ) → AreOut h (ns ++ n ∷ []) → 0 < times n h.out
out_front h ns n o = let e = o.each n in let f = times-append n ns (n ∷ []) in grind (arith, nat_tests)

pub out_give : {M : Type 0} (h : Holding M) (ns : List ℕ) (n : ℕ) (g : Holding M) → AreOut h (ns ++ n ∷ []) → GivesPage h n g → AreOut g ns
out_give h ns n g o t = record { each = λ k. let e = o.each k in let f = times-append k ns (n ∷ []) in let d = t.out.each k in omega arith }

pub out_taken : {M : Type 0} (b : Holding M) (n : ℕ) (c : Holding M) → TakesPage b n c → 0 < times n c.out
out_taken b n c t = let e = t.out.each n in grind (arith, nat_tests)

-- how the peak may rise as a page comes
pub peak_take : {M : Type 0} (b : Holding M) (n : ℕ) (c : Holding M) → TakesPage b n c → PeakWithin b 1 c
peak_take b n c t = record {
  kept = let e = t.peak in omega arith;
  most = let e = t.peak in let o = t.out.one_longer in omega arith;
}

pub peak_on : {M : Type 0} (a : Holding M) (ns : List ℕ) (b : Holding M) (ms : List ℕ) (c : Holding M) (m : ℕ) → MovesPages a ns b ms → PeakWithin a m b → PeakWithin b 1 c → length ms + 1 ≤ length ns + m → PeakWithin a m c
peak_on a ns b ms c m h p q l = record {
  kept = let e = p.kept in let f = q.kept in omega arith;
  most = let e = p.most in let f = q.most in let g = h.longer in omega arith;
}

pub peak_none : {M : Type 0} (h : Holding M) (m : ℕ) → PeakWithin h m h
peak_none h m = record { kept = omega arith; most = omega arith }

pub peak_same : {M : Type 0} (a : Holding M) (m : ℕ) (b c : Holding M) → PeakWithin a m b → c.peak ≡ b.peak → PeakWithin a m c
peak_same a m b c p e = record { kept = let f = p.kept in omega arith; most = let f = p.most in omega arith }

-- none came
pub met_none : {M : Type 0} (b c : Holding M) → FindsNone b c → MeetsNone b 1 c
met_none b c f = record { found = length b.out; below = omega arith; low = f.low; dries = f.dries }

pub met_on : {M : Type 0} (a : Holding M) (ns : List ℕ) (b : Holding M) (ms : List ℕ) (c d : Holding M) (m : ℕ) → MovesPages a ns b ms → IsUnmet a b → MeetsNone b 1 c → IsUnmet c d → length ms + 1 ≤ length ns + m → MeetsNone a m d
met_on a ns b ms c d m h u f v l = record {
  found = f.found;
  below = let e = h.longer in let g = f.below in omega arith;
  low = v.low ∙ f.low ∙ ap (λ low. Some (lesser low f.found)) u.low;
  dries = v.dries ∙ f.dries ∙ ap raised u.dries;
}

pub unmet_none : {M : Type 0} (h : Holding M) → IsUnmet h h
unmet_none h = record { low = refl; dries = refl }

pub unmet_on : {M : Type 0} (a b c : Holding M) → IsUnmet a b → IsUnmet b c → IsUnmet a c
unmet_on a b c u v = record { low = v.low ∙ u.low; dries = v.dries ∙ u.dries }

pub unmet_take : {M : Type 0} (b : Holding M) (n : ℕ) (c : Holding M) → TakesPage b n c → IsUnmet b c
unmet_take b n c t = record { low = t.low; dries = t.dries }

pub unmet_give : {M : Type 0} (b : Holding M) (n : ℕ) (c : Holding M) → GivesPage b n c → IsUnmet b c
unmet_give b n c t = record { low = t.low; dries = t.dries }
