-- What a lone pool's calls leave, over plain lists.
use Rattle.std.specs.Prelude.{Option, None}
use Rattle.std.proofs.Common.{sym, max, Some, refl, ◌≡◌, ℕ, ◌+◌, ◌-◌, ◌<◌, List, [], ◌∷◌, ◌++◌, length, ap, subst, ◌∙◌, arith}
use Rattle.std.proofs.lemmas.Bool.Decides.{nat_tests}
use Rattle.std.proofs.lemmas.List.{map_push, length-append, length-map}
use Rattle.page_pool.specs.Holding.{times, IsWith, TakesPage, FindsNone, GivesPage, lesser, raised}
use Rattle.page_pool.specs.PageWords.{number_of, words_of}
use Rattle.page_pool.specs.declared.page.Page.{Page}
use Rattle.page_pool.specs.Lone.{LonePages, left_of, numbers_of, lone_holding, AreOnce, HasEachOnce}
use Rattle.page_pool.specs.PageWords.{numbers}
use Rattle.page_pool.proofs.Times.{times-append, times-left_of, length-left_of, length-range, times-range, times-le-length}

-- how many are out
pub length-out : (made : ℕ) (ns : List ℕ) → AreOnce made ns → length (left_of (numbers_of made) ns) + length ns ≡ made
length-out made ns h = omega (arith, length-left_of (numbers_of made) ns h.once, length-range 0 made)

-- a number that is out may be free once more
pub AreOnce_push : (made : ℕ) (ns : List ℕ) (n : ℕ) → AreOnce made ns → 0 < times n (left_of (numbers_of made) ns) → AreOnce made (ns ++ n ∷ [])
AreOnce_push made ns n h out = record {
  once = λ k. let a = times-append k ns (n ∷ []) in let b = times-left_of n (numbers_of made) ns in let e = h.once k in let f = h.once n in grind (arith, nat_tests);
}

pub AreOnce_front : (made : ℕ) (ns : List ℕ) (n : ℕ) → AreOnce made (ns ++ n ∷ []) → AreOnce made ns
AreOnce_front made ns n h = record { once = λ k. let a = times-append k ns (n ∷ []) in let e = h.once k in omega arith }

-- what is out without a number, and with it
pub out-push : (made : ℕ) (ns : List ℕ) (n : ℕ) → AreOnce made (ns ++ n ∷ []) → IsWith (left_of (numbers_of made) (ns ++ n ∷ [])) n (left_of (numbers_of made) ns)
out-push made ns n h = record {
  each = λ k.
      let a = times-append k ns (n ∷ []) in
      let b = times-left_of k (numbers_of made) ns in
      let d = times-left_of k (numbers_of made) (ns ++ n ∷ []) in
      let e = h.once k in omega arith;
  one_longer =
      omega (arith, length-out made ns (AreOnce_front made ns n h), length-out made (ns ++ n ∷ []) h, length-append ns (n ∷ []));
}

-- a number that is free isn't out
pub times-out : (made : ℕ) (ns : List ℕ) (n : ℕ) → 0 < times n ns → times n (left_of (numbers_of made) ns) ≡ 0
times-out made ns n h = omega (arith, times-left_of n (numbers_of made) ns, times-range n 0 made)

pub times-push : (ns : List ℕ) (n : ℕ) → 0 < times n (ns ++ n ∷ [])
times-push ns n = let a = times-append n ns (n ∷ []) in grind (arith, nat_tests)

-- where a number is out, not all pages are free
pub few_free : (made : ℕ) (ns : List ℕ) (n : ℕ) → AreOnce made ns → 0 < times n (left_of (numbers_of made) ns) → length ns < made
few_free made ns n h out = omega (arith, length-out made ns h, times-le-length n (left_of (numbers_of made) ns))

pub each_once : (p : LonePages) → AreOnce p.made p.free → HasEachOnce p
each_once p h = λ k. let e = h.once k in omega (arith, times-left_of k (numbers_of p.made) p.free)

pub numbers-push : (pages : List Page) (p : Page) → numbers (pages ++ p ∷ []) ≡ numbers pages ++ number_of p ∷ []
numbers-push pages p = map_push number_of pages p

pub length-numbers : (pages : List Page) → length (numbers pages) ≡ length pages
length-numbers pages = length-map pages number_of

-- the last free page leaves
pub popped : (made : ℕ) (all rest : List Page) (p : Page) → all ≡ rest ++ p ∷ [] → AreOnce made (numbers all) → AreOnce made (numbers rest ++ number_of p ∷ [])
popped made all rest p e h = subst (AreOnce made) (ap numbers e ∙ numbers-push rest p) h

-- a page that is out went back
pub given : (old new : LonePages) (n : ℕ) → AreOnce old.made (old.free ++ n ∷ []) → new ≡ record old { free = old.free ++ n ∷ [] } → GivesPage (lone_holding old) n (lone_holding new)
given old new n once e = subst (λ (new : LonePages). GivesPage (lone_holding old) n (lone_holding new)) (sym e) (record {
  out = out-push old.made old.free n once;
  peak = refl;
  low = refl;
  dries = refl;
  mark = refl;
})

-- the last free page came
pub taken : (old new : LonePages) (n : ℕ) → AreOnce old.made (new.free ++ n ∷ []) → old.free ≡ new.free ++ n ∷ [] → new ≡ record old { free = new.free; peak = max old.peak (old.made - length new.free) } → TakesPage (lone_holding old) n (lone_holding new)
taken old new n once e f =
    let made : new.made ≡ old.made = ap (λ (p : LonePages). p.made) f in
    record {
      fresh = rw e (times-out old.made (new.free ++ n ∷ []) n (times-push new.free n));
      out = rw (e, made) (out-push old.made new.free n once);
      peak =
          let out = length-out old.made new.free (AreOnce_front old.made new.free n once) in
          rw made (ap (λ (p : LonePages). p.peak) f ∙ ap (λ m. max old.peak m) (omega arith));
      low = ap (λ (p : LonePages). p.low) f;
      dries = ap (λ (p : LonePages). p.dries) f;
      mark = made;
    }

-- where no page is free all are out
pub found_none : (old new : LonePages) → AreOnce old.made old.free → old.free ≡ [] → new.free ≡ old.free → new.made ≡ old.made → new.peak ≡ old.peak → new.low ≡ Some (lesser old.low old.made) → new.dries ≡ raised old.dries → FindsNone (lone_holding old) (lone_holding new)
found_none old new once e free made peak low dries =
    let out = length-out old.made old.free once in
    let none = ap (λ (xs : List ℕ). length xs) e in
    record {
      out = rw (free, made) refl;
      peak = peak;
      low = low ∙ ap (λ n. Some (lesser old.low n)) (omega arith);
      dries = dries;
      mark = made;
    }

-- so the least of its lows is the number of pages
pub full_low : (low : Option ℕ) (made : ℕ) → ((n : ℕ) → low ≡ Some n → n ≡ made) → Some made ≡ Some (lesser low made)
full_low None made full = refl
full_low (Some n) made full = ap Some (let e = full n refl in omega arith)

-- a page has 128 words
pub whole : (p : Page) → length (words_of p) ≡ 128
whole p = sym p.words.ok.0 ∙ p.whole

-- a pool with other free pages
abbrev pub with_free : LonePages → List ℕ → LonePages
with_free p ns = record p { free = ns }

-- a pool with another peak
abbrev pub with_peak : LonePages → ℕ → LonePages
with_peak p n = record p { peak = n }
