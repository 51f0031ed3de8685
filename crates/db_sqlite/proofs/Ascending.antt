-- Entries whose keys ascend, and one more behind them.
use Rattle.std.proofs.Common.{◌≡◌, ℕ, List, [], ◌∷◌, ◌++◌, map, Option, Some, None, IfSome, Bor, refl, sym, subst}
use Rattle.std.specs.Ordering.{nat_cmp}
use Rattle.std.specs.declared.cmp.Ordering.TheVariants.{Less}
use Rattle.std.specs.Cmp.Lexicographic.{slice_cmp}
use Rattle.std.specs.List.{AllByRecursion}
use Rattle.std.specs.List.Sorted.{IsStrictlySortedBy}
use Rattle.std.proofs.lemmas.Cmp.{nat_list_cmp_total}
use Rattle.web_data.specs.DatabaseAnswers.{KeysAscend, row_of_entry}

abbrev pub Entry : Type 0
Entry = List ℕ × List ℕ

abbrev pub keys : List Entry → List (List ℕ)
keys es = map (λ e. e.0) es

-- each key is below this one
abbrev pub Below : List Entry → List ℕ → Type 0
Below es key = AllByRecursion (λ k. slice_cmp nat_cmp k key ≡ Less) (keys es)

-- every key behind the last one, if there is one, is behind all entries
abbrev pub EndsWith : Option (Bor (List ℕ)) → List Entry → Type 0
EndsWith None es = es ≡ []
EndsWith (Some last) es = (key : List ℕ) → slice_cmp nat_cmp last.now key ≡ Less → Below es key

each : (P : List ℕ → Type 0) (es : List Entry) (e : Entry) → AllByRecursion P (keys es) → P e.0 → AllByRecursion P (keys (es ++ e ∷ []))
each P [] e h p = (p, tt)
each P (x ∷ es) e h p = (h.0, each P es e h.1 p)

pub one_more : (es : List Entry) (e : Entry) → KeysAscend es → Below es e.0 → KeysAscend (es ++ e ∷ [])
unfolding IsStrictlySortedBy
one_more [] e h b = (tt, tt)
one_more (x ∷ es) e h b = (each _ es e h.0 b.0, one_more es e h.1 b.1)

further : (es : List Entry) (k l : List ℕ) → Below es k → slice_cmp nat_cmp k l ≡ Less → Below es l
further [] k l b h = tt
further (x ∷ es) k l b h = (nat_list_cmp_total.trans x.0 k l b.0 h, further es k l b.1 h)

pub ends : (es : List Entry) (e : Entry) → Below es e.0 → (key : List ℕ) → slice_cmp nat_cmp e.0 key ≡ Less → Below (es ++ e ∷ []) key
ends es e b key h = each _ es e (further es e.0 key b h) h

pub row_more : (es : List Entry) (e : Entry) → map row_of_entry (es ++ e ∷ []) ≡ map row_of_entry es ++ row_of_entry e ∷ []
row_more [] e = refl
row_more (x ∷ es) e = rw (row_more es e)

pub none : KeysAscend []
unfolding IsStrictlySortedBy
none = tt

pub behind : (last : Option (Bor (List ℕ))) (es : List Entry) (key : List ℕ) → EndsWith last es → IfSome last (λ before. slice_cmp nat_cmp before.now key ≡ Less) → Below es key
behind None es key e h = subst (λ z. Below z key) (sym e) tt
behind (Some last) es key e h = e key h
