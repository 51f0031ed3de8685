-- One type name more: nothing that stands takes it.
use Rattle.std.proofs.Common.{◌≡◌, ℕ, zero, suc, ◌<◌, ◌≤◌, List, [], ◌∷◌, ◌++◌, length, Bool, true, refl, ap, sym, ◌∙◌, subst, arith, length-append, ◌^◌, ◌&&◌, ◌↔◌}
use Rattle.type_terms.specs.TypeTerms.{Term, Terms, variable, made, no_terms, terms, admits, all_admit, of_flag, IsOver, AllOver, by_parts}
use Rattle.hm_types.specs.declared.node.Node.{Node}
use Rattle.hm_types.specs.declared.node.Node.TheVariants.{Variable, Made, Link}
use Rattle.hm_types.specs.declared.node.Asked.{Asked}
use Rattle.hm_types.specs.declared.node.TypeName.{TypeName}
use Rattle.hm_types.specs.Classes.{Assign, TypeGraph, at, asked_at, name_at, part_list, Respects, Meets, Allows, Takes, equality_of, equality_by}
use Rattle.hm_types.specs.Joining.{IsIn}
use Rattle.hm_types.specs.Asking.{Closes, AsksParts}
use Rattle.hm_types.specs.Kept.{IsTable}
use Rattle.hm_types.specs.Solving.{Solves}
use Rattle.hm_types.proofs.Growth.{Place, old_place, new_place, past, place-of}

name-old : (N : List TypeName) (n : TypeName) (f : ℕ) → f < length N → name_at (N ++ n ∷ []) f ≡ name_at N f
name-old [] n f l = absurd (omega (arith, l))
name-old (x ∷ N) n zero l = refl
name-old (x ∷ N) n (suc f) l = name-old N n f (omega (arith, l))

name-new : (N : List TypeName) (n : TypeName) → name_at (N ++ n ∷ []) (length N) ≡ n
name-new [] n = refl
name-new (x ∷ N) n = name-new N n

name-past : (N : List TypeName) (f : ℕ) → length N ≤ f → (name_at N f).birth ≡ 0
name-past [] f l = refl
name-past (x ∷ N) zero l = absurd (omega (arith, l))
name-past (x ∷ N) (suc f) l = name-past N f (omega (arith, l))

one-longer : (N : List TypeName) (n : TypeName) → length (N ++ n ∷ []) ≡ suc (length N)
one-longer N n = let x = length-append N (n ∷ []) in omega (arith, x)

takes-more : (N : List TypeName) (n : TypeName) (b f k : ℕ) → Takes N b f k → Takes (N ++ n ∷ []) b f k
takes-more N n b f k (l, h, a) = (let x = one-longer N n in omega (arith, x, l), subst (λ z. z.birth ≤ b) (sym (name-old N n f l)) h, subst (λ z. k ≡ z.arity) (sym (name-old N n f l)) a)

takes-less : (N : List TypeName) (n : TypeName) (b f k : ℕ) → b < n.birth → Takes (N ++ n ∷ []) b f k → Takes N b f k
takes-less N n b f k o (l, h, a) = go (place-of (length N) f)
  where
    go : Place (length N) f → Takes N b f k
    go (old_place m) = (m, subst (λ z. z.birth ≤ b) (name-old N n f m) h, subst (λ z. k ≡ z.arity) (name-old N n f m) a)
    go (new_place q) = absurd (let x : (name_at (N ++ n ∷ []) f).birth ≡ n.birth = ap (λ z. (name_at (N ++ n ∷ []) z).birth) q ∙ ap (λ z. z.birth) (name-new N n) in omega (arith, x, h, o))
    go (past m) = absurd (let x = one-longer N n in omega (arith, x, l, m))

mutual
  unfolding IsOver AllOver

  over-more : (N : List TypeName) (n : TypeName) (b : ℕ) (t : Term ℕ) → IsOver (Takes N b) t → IsOver (Takes (N ++ n ∷ []) b) t
  over-more N n b (variable e m) h = tt
  over-more N n b (made f ts) (h, k) = (takes-more N n b f _ h, overs-more N n b ts k)

  overs-more : (N : List TypeName) (n : TypeName) (b : ℕ) (ts : Terms ℕ) → AllOver (Takes N b) ts → AllOver (Takes (N ++ n ∷ []) b) ts
  overs-more N n b no_terms h = tt
  overs-more N n b (terms t ts) (h, k) = (over-more N n b t h, overs-more N n b ts k)

mutual
  unfolding IsOver AllOver

  over-less : (N : List TypeName) (n : TypeName) (b : ℕ) → b < n.birth → (t : Term ℕ) → IsOver (Takes (N ++ n ∷ []) b) t → IsOver (Takes N b) t
  over-less N n b o (variable e m) h = tt
  over-less N n b o (made f ts) (h, k) = (takes-less N n b f _ o h, overs-less N n b o ts k)

  overs-less : (N : List TypeName) (n : TypeName) (b : ℕ) → b < n.birth → (ts : Terms ℕ) → AllOver (Takes (N ++ n ∷ []) b) ts → AllOver (Takes N b) ts
  overs-less N n b o no_terms h = tt
  overs-less N n b o (terms t ts) (h, k) = (over-less N n b o t h, overs-less N n b o ts k)

mutual
  unfolding IsOver AllOver admits all_admit

  admits-more : (N : List TypeName) (n : TypeName) (b : ℕ) (t : Term ℕ) → IsOver (Takes N b) t → admits (equality_of (N ++ n ∷ [])) of_flag t ≡ admits (equality_of N) of_flag t
  admits-more N n b (variable e m) h = refl
  admits-more N n b (made f ts) (h, k) = ap (λ z. by_parts (equality_by (z.equality)) (all_admit (equality_of (N ++ n ∷ [])) of_flag ts)) (name-old N n f (h.0)) ∙ ap (λ z. by_parts (equality_of N f) z) (all-more N n b ts k)

  all-more : (N : List TypeName) (n : TypeName) (b : ℕ) (ts : Terms ℕ) → AllOver (Takes N b) ts → all_admit (equality_of (N ++ n ∷ [])) of_flag ts ≡ all_admit (equality_of N) of_flag ts
  all-more N n b no_terms h = refl
  all-more N n b (terms t ts) (h, k) = ap (λ z. z && all_admit (equality_of (N ++ n ∷ [])) of_flag ts) (admits-more N n b t h) ∙ ap (λ z. admits (equality_of N) of_flag t && z) (all-more N n b ts k)

allows-more : (N : List TypeName) (n : TypeName) (a : Asked) (t : Term ℕ) → Allows N a t → Allows (N ++ n ∷ []) a t
allows-more N n a t (e, o) = (λ q. admits-more N n a.birth t o ∙ e q, over-more N n a.birth t o)

allows-less : (N : List TypeName) (n : TypeName) (a : Asked) (t : Term ℕ) → a.birth < n.birth → Allows (N ++ n ∷ []) a t → Allows N a t
allows-less N n a t l (e, o) = (λ q. sym (admits-more N n a.birth t (over-less N n a.birth l t o)) ∙ e q, over-less N n a.birth l t o)

pub declared-table : (N N2 : List TypeName) (n : TypeName) (pool : List ℕ) (T : List Node) (A : List Asked) (M : List ℕ) (stamp : ℕ) (clashed spent : Bool) → IsTable N pool T A M stamp clashed spent → N2 ≡ N ++ n ∷ [] → suc (length N) < 2 ^ 32 → n.birth ≡ length T → IsTable N2 pool T A M stamp clashed spent
declared-table N N2 n pool T A M stamp clashed spent H q l b = subst (λ z. IsTable z pool T A M stamp clashed spent) (sym q) (record {
  fine = H.fine;
  within = H.within;
  sorted = λ c f i k e. (let s = H.sorted c f i k e in (let x = s.0 in let y = one-longer N n in omega (arith, x, y), subst (λ z. k ≡ z.arity) (sym (name-old N n f (s.0))) (s.1)));
  asks = H.asks;
  marked = H.marked;
  stamped = H.stamped;
  few = H.few;
  few_parts = H.few_parts;
  few_names = (let y = one-longer N n in omega (arith, y, l));
  born = H.born;
  declared = λ f. declared f (place-of (length N) f);
  settled = λ x y. (let S = H.settled x y in record { closed = λ c m. closed c m (at T c) refl (S.closed c m); ranks = S.ranks });
})
  where
    declared : (f : ℕ) → Place (length N) f → (name_at (N ++ n ∷ []) f).birth ≤ length T
    declared f (old_place m) = subst (λ z. z.birth ≤ length T) (sym (name-old N n f m)) (H.declared f)
    declared f (new_place e) = let x : (name_at (N ++ n ∷ []) f).birth ≡ n.birth = ap (λ z. (name_at (N ++ n ∷ []) z).birth) e ∙ ap (λ z. z.birth) (name-new N n) in omega (arith, x, b)
    declared f (past m) = let x = name-past (N ++ n ∷ []) f (let y = one-longer N n in omega (arith, y, m)) in omega (arith, x)

    closed : (c : ℕ) → c < length T → (v : Node) → at T c ≡ v → Closes N pool A (asked_at A c) v → Closes (N ++ n ∷ []) pool A (asked_at A c) v
    closed c m Variable e k = tt
    closed c m (Made f i j) e (x, y, z) = let o = name-old N n f ((H.sorted c f i j e).0) in
        (subst (λ u. u.birth ≤ (asked_at A c).birth) (sym o) x, y, λ w. subst (λ u. AsksParts (u.equality) ((d : ℕ) → IsIn d (part_list pool i j) → (asked_at A d).equality ≡ true)) (sym o) (z w))
    closed c m (Link d) e k = k

pub declared-solves : (g h : TypeGraph) (n : TypeName) → h.names ≡ g.names ++ n ∷ [] → h.parts ≡ g.parts → h.nodes ≡ g.nodes → h.asked ≡ g.asked → h.clashed ≡ g.clashed → n.birth ≡ length g.nodes → length g.asked ≡ length g.nodes → ((c : ℕ) → c < length g.nodes → (asked_at g.asked c).birth < length g.nodes)
    → (s : Assign) → Solves g s ↔ Solves h s
declared-solves g h n qn qp qt qa qc b len born s = (there, back)
  where
    there : Solves g s → Solves h s
    there S = record {
      sound = qc ∙ S.sound;
      holds = subst (λ z. Respects z h.nodes s) (sym qp) (subst (λ z. Respects g.parts z s) (sym qt) S.holds);
      meets = subst (λ z. Meets z h.asked s) (sym qn) (subst (λ z. Meets (g.names ++ n ∷ []) z s) (sym qa) (λ c l. allows-more g.names n (asked_at g.asked c) (s c) (S.meets c l)));
    }

    back : Solves h s → Solves g s
    back S = record {
      sound = sym qc ∙ S.sound;
      holds = subst (λ z. Respects z g.nodes s) qp (subst (λ z. Respects h.parts z s) qt S.holds);
      meets = λ c l. allows-less g.names n (asked_at g.asked c) (s c) (let x = born c (omega (arith, l, len)) in omega (arith, x, b)) (meets c l);
    }
      where
        meets : Meets (g.names ++ n ∷ []) g.asked s
        meets = subst (λ z. Meets z g.asked s) qn (subst (λ z. Meets h.names z s) qa S.meets)

pub declared-is : (g g' h : TypeGraph) → g ≡ g' → ((s : Assign) → Solves g s ↔ Solves h s) → (s : Assign) → Solves g' s ↔ Solves h s
declared-is g g' h q k = subst (λ z. (s : Assign) → Solves z s ↔ Solves h s) q k
