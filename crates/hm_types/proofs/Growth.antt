-- A table with one class, or one type name, more.
use Rattle.std.proofs.Common.{◌≡◌, ℕ, zero, suc, ◌+◌, ◌<◌, ◌≤◌, List, [], ◌∷◌, ◌++◌, length, Bool, true, false, refl, ap, sym, ◌∙◌, subst, arith, length-append, append-nil, ◌⊎◌, inl, inr, ◌^◌, if◌then◌else◌}
use Rattle.type_terms.specs.TypeTerms.{made}
use Rattle.hm_types.specs.declared.node.Node.{Node}
use Rattle.hm_types.specs.declared.node.Node.TheVariants.{Variable, Made, Link}
use Rattle.hm_types.specs.declared.node.Asked.{Asked}
use Rattle.hm_types.specs.declared.node.TypeName.{TypeName}
use Rattle.hm_types.specs.declared.node.Equality.{Equality}
use Rattle.hm_types.specs.declared.node.Equality.TheVariants.{Never, Always, Parts}
use Rattle.hm_types.specs.Classes.{Assign, TypeGraph, at, asked_at, name_at, terms_of, part_list, Holds, Respects, Meets, Allows}
use Rattle.hm_types.specs.Joining.{Fine, IsFine, IsIn, Within}
use Rattle.hm_types.specs.Asking.{Closes, Closed, AsksParts, Below}
use Rattle.hm_types.specs.Searching.{Child, mark_at}
use Rattle.hm_types.specs.Kept.{IsSettled, IsTable}
use Rattle.hm_types.specs.Solving.{Solves, Joins}
use Rattle.hm_types.proofs.Choices.{allows-made}
use Rattle.hm_types.proofs.Ranks.{child-of, child-in, above, is-above}
use Rattle.std.proofs.Math.Seq.{take-length}
use Rattle.std.proofs.Math.Dec.{ltb}
use Rattle.std.proofs.lemmas.Bool.{lt-ltb, le-ltb}

-- the node of a class after one more
pub at-old : (T : List Node) (v : Node) (c : ℕ) → c < length T → at (T ++ v ∷ []) c ≡ at T c
at-old [] v c l = absurd (omega arith)
at-old (x ∷ T) v zero l = refl
at-old (x ∷ T) v (suc c) l = at-old T v c (omega (arith, l))

pub at-new : (T : List Node) (v : Node) → at (T ++ v ∷ []) (length T) ≡ v
at-new [] v = refl
at-new (x ∷ T) v = at-new T v

pub at-past : (T : List Node) (c : ℕ) → length T ≤ c → at T c ≡ Variable
at-past [] c l = refl
at-past (x ∷ T) zero l = absurd (omega (arith, l))
at-past (x ∷ T) (suc c) l = at-past T c (omega (arith, l))

pub data Place (n c : ℕ) : Type 0 where
  old_place : c < n → Place n c
  new_place : c ≡ n → Place n c
  past : n < c → Place n c

pub place-of : (n c : ℕ) → Place n c
place-of zero zero = new_place refl
place-of zero (suc c) = past (omega arith)
place-of (suc n) zero = old_place (omega arith)
place-of (suc n) (suc c) = go (place-of n c)
  where
    go : Place n c → Place (suc n) (suc c)
    go (old_place l) = old_place (omega (arith, l))
    go (new_place q) = new_place (ap suc q)
    go (past l) = past (omega (arith, l))

part-old : (pool more : List ℕ) (i k : ℕ) → i + k ≤ length pool → part_list (pool ++ more) i k ≡ part_list pool i k
part-old pool more zero zero l = refl
part-old [] more zero (suc k) l = absurd (omega (arith, l))
part-old (x ∷ pool) more zero (suc k) l = ap (λ z. x ∷ z) (part-old pool more zero k (omega (arith, l)))
part-old [] more (suc i) k l = absurd (omega (arith, l))
part-old (x ∷ pool) more (suc i) k l = part-old pool more i k (omega (arith, l))

holds-old : (pool more : List ℕ) (s : Assign) (c : ℕ) (v : Node) → Fine pool c v → (Holds pool s c v → Holds (pool ++ more) s c v) × (Holds (pool ++ more) s c v → Holds pool s c v)
holds-old pool more s c Variable f = (λ h. tt, λ h. tt)
holds-old pool more s c (Made g i k) f = (λ h. h ∙ ap (λ z. made g (terms_of s z)) (sym (part-old pool more i k f)), λ h. h ∙ ap (λ z. made g (terms_of s z)) (part-old pool more i k f))
holds-old pool more s c (Link d) f = (λ h. h, λ h. h)

-- the old classes of a table with one class more
pub older-holds : (pool more : List ℕ) (T : List Node) (v : Node) (s : Assign) → IsFine pool T → Respects (pool ++ more) (T ++ v ∷ []) s → Respects pool T s
older-holds pool more T v s fi r c = go (place-of (length T) c)
  where
    go : Place (length T) c → Holds pool s c (at T c)
    go (old_place l) = (holds-old pool more s c (at T c) (fi c)).1 (subst (Holds (pool ++ more) s c) (at-old T v c l) (r c))
    go (new_place q) = subst (Holds pool s c) (sym (at-past T c (omega (arith, q)))) tt
    go (past l) = subst (Holds pool s c) (sym (at-past T c (omega (arith, l)))) tt

pub more-holds : (pool more : List ℕ) (T : List Node) (v : Node) (s : Assign) → IsFine pool T → Respects pool T s → Holds (pool ++ more) s (length T) v → Respects (pool ++ more) (T ++ v ∷ []) s
more-holds pool more T v s fi r h c = go (place-of (length T) c)
  where
    go : Place (length T) c → Holds (pool ++ more) s c (at (T ++ v ∷ []) c)
    go (old_place l) = subst (Holds (pool ++ more) s c) (sym (at-old T v c l)) ((holds-old pool more s c (at T c) (fi c)).0 (r c))
    go (new_place q) = subst (λ z. Holds (pool ++ more) s z (at (T ++ v ∷ []) z)) (sym q) (subst (Holds (pool ++ more) s (length T)) (sym (at-new T v)) h)
    go (past l) = subst (Holds (pool ++ more) s c) (sym (at-past (T ++ v ∷ []) c (let q = length-append T (v ∷ []) in omega (arith, l, q)))) tt

asked-old : (A : List Asked) (a : Asked) (c : ℕ) → c < length A → asked_at (A ++ a ∷ []) c ≡ asked_at A c
asked-old [] a c l = absurd (omega arith)
asked-old (x ∷ A) a zero l = refl
asked-old (x ∷ A) a (suc c) l = asked-old A a c (omega (arith, l))

asked-new : (A : List Asked) (a : Asked) → asked_at (A ++ a ∷ []) (length A) ≡ a
asked-new [] a = refl
asked-new (x ∷ A) a = asked-new A a

older-meets : (names : List TypeName) (A : List Asked) (a : Asked) (s : Assign) → Meets names (A ++ a ∷ []) s → Meets names A s
older-meets names A a s m c l = subst (λ z. Allows names z (s c)) (asked-old A a c l) (m c (let q = length-append A (a ∷ []) in omega (arith, l, q)))

more-meets : (names : List TypeName) (A : List Asked) (a : Asked) (s : Assign) → Meets names A s → Allows names a (s (length A)) → Meets names (A ++ a ∷ []) s
more-meets names A a s m h c l = go (place-of (length A) c)
  where
    go : Place (length A) c → Allows names (asked_at (A ++ a ∷ []) c) (s c)
    go (old_place k) = subst (λ z. Allows names z (s c)) (sym (asked-old A a c k)) (m c k)
    go (new_place q) = subst (λ z. Allows names (asked_at (A ++ a ∷ []) z) (s z)) (sym q) (subst (λ z. Allows names z (s (length A))) (sym (asked-new A a)) h)
    go (past k) = absurd (let q = length-append A (a ∷ []) in omega (arith, k, l, q))

-- a table with one class more, whose node has what is asked of it
pub one-more : (g h : TypeGraph) (more : List ℕ) (v : Node) (a : Asked) (P : Assign → Type 0) → IsFine g.parts g.nodes → length g.asked ≡ length g.nodes → h.names ≡ g.names → h.parts ≡ g.parts ++ more → h.nodes ≡ g.nodes ++ v ∷ [] → h.asked ≡ g.asked ++ a ∷ [] → h.clashed ≡ g.clashed
    → ((s : Assign) → Holds (g.parts ++ more) s (length g.nodes) v → Allows g.names a (s (length g.nodes)) → P s) → ((s : Assign) → Solves g s → P s → Holds (g.parts ++ more) s (length g.nodes) v × Allows g.names a (s (length g.nodes))) → Joins g h P
one-more g h more v a P fi len qn qp qt qa qc out in_ = record {
  old = λ s S. record {
    sound = sym qc ∙ S.sound;
    holds = older-holds g.parts more g.nodes v s fi (holds s S);
    meets = older-meets g.names g.asked a s (meets s S);
  };
  new = λ s S. out s (subst (Holds (g.parts ++ more) s (length g.nodes)) (at-new g.nodes v) (holds s S (length g.nodes)))
      (subst (λ z. Allows g.names a (s z)) len (subst (λ z. Allows g.names z (s (length g.asked))) (asked-new g.asked a) (meets s S (length g.asked) (let q = length-append g.asked (a ∷ []) in omega (arith, q)))));
  both = λ s S p. record {
    sound = qc ∙ S.sound;
    holds = subst (λ z. Respects z h.nodes s) (sym qp) (subst (λ z. Respects (g.parts ++ more) z s) (sym qt) (more-holds g.parts more g.nodes v s fi S.holds ((in_ s S p).0)));
    meets = subst (λ z. Meets z h.asked s) (sym qn) (subst (λ z. Meets g.names z s) (sym qa) (more-meets g.names g.asked a s S.meets (subst (λ z. Allows g.names a (s z)) (sym len) ((in_ s S p).1))));
  };
}
  where
    holds : (s : Assign) → Solves h s → Respects (g.parts ++ more) (g.nodes ++ v ∷ []) s
    holds s S = subst (λ z. Respects z (g.nodes ++ v ∷ []) s) qp (subst (λ z. Respects h.parts z s) qt S.holds)

    meets : (s : Assign) → Solves h s → Meets g.names (g.asked ++ a ∷ []) s
    meets s S = subst (λ z. Meets z (g.asked ++ a ∷ []) s) qn (subst (λ z. Meets h.names z s) qa S.meets)

-- the new class stands above all
higher : ℕ → (ℕ → ℕ) → ℕ → ℕ
higher n r c = if ltb c n then r c else above r n

higher-below : (n : ℕ) (r : ℕ → ℕ) (c : ℕ) → c < n → higher n r c ≡ r c
unfolding higher
higher-below n r c l = ap (λ b. if b then r c else above r n) (lt-ltb c n l)

higher-last : (n : ℕ) (r : ℕ → ℕ) → higher n r n ≡ above r n
unfolding higher
higher-last n r = ap (λ b. if b then r n else above r n) (le-ltb n n (omega arith))

pub fine-more : (pool more : List ℕ) (T : List Node) (v : Node) → IsFine pool T → Fine (pool ++ more) (length T) v → IsFine (pool ++ more) (T ++ v ∷ [])
fine-more pool more T v fi f c = go (place-of (length T) c)
  where
    wider : (w : Node) → Fine pool c w → Fine (pool ++ more) c w
    wider Variable h = tt
    wider (Made g i k) h = let q = length-append pool more in omega (arith, h, q)
    wider (Link d) h = h

    go : Place (length T) c → Fine (pool ++ more) c (at (T ++ v ∷ []) c)
    go (old_place l) = subst (Fine (pool ++ more) c) (sym (at-old T v c l)) (wider (at T c) (fi c))
    go (new_place q) = subst (λ z. Fine (pool ++ more) z (at (T ++ v ∷ []) z)) (sym q) (subst (Fine (pool ++ more) (length T)) (sym (at-new T v)) f)
    go (past l) = subst (Fine (pool ++ more) c) (sym (at-past (T ++ v ∷ []) c (let q = length-append T (v ∷ []) in omega (arith, l, q)))) tt

pub within-more : (n m : ℕ) (pool more : List ℕ) → n ≤ m → Within n pool → Within m more → Within m (pool ++ more)
within-more n m [] more l w u i h = u i h
within-more n m (x ∷ pool) more l w u zero h = let q = w 0 (omega arith) in omega (arith, q, l)
within-more n m (x ∷ pool) more l w u (suc i) h = within-more n m pool more l (λ j k. w (suc j) (omega (arith, k))) u i (omega (arith, h))

mark-old : (M : List ℕ) (c : ℕ) → mark_at (M ++ 0 ∷ []) c ≡ mark_at M c
mark-old [] zero = refl
mark-old [] (suc c) = refl
mark-old (x ∷ M) zero = refl
mark-old (x ∷ M) (suc c) = mark-old M c

-- the new node is the table's, and what is asked of it is what its parts have
pub table-more : (names : List TypeName) (pool more : List ℕ) (T : List Node) (A : List Asked) (M : List ℕ) (stamp : ℕ) (clashed spent : Bool) (v : Node) (a : Asked) → IsTable names pool T A M stamp clashed spent
    → Fine (pool ++ more) (length T) v → Within (length T) more → length pool + length more < 2 ^ 32 → suc (length T) < 2 ^ 32 → ((f i k : ℕ) → v ≡ Made f i k → (f < length names) × (k ≡ (name_at names f).arity) × ((d : ℕ) → IsIn d (part_list (pool ++ more) i k) → d < length T))
    → ((d : ℕ) → v ≡ Link d → ⊥) → a.birth ≡ length T → (v ≡ Variable → ⊥) ⊎ (v ≡ Variable) → (a.equality ≡ true → v ≡ Variable) → IsTable names (pool ++ more) (T ++ v ∷ []) (A ++ a ∷ []) (M ++ 0 ∷ []) stamp clashed spent
table-more names pool more T A M stamp clashed spent v a H f w lp lt so nl bi vv eq = record {
  fine = fine-more pool more T v H.fine f;
  within = within-more (length T) (length (T ++ v ∷ [])) pool more (omega (arith, len)) H.within (λ i l. let x = w i l in omega (arith, x, len));
  sorted = λ c g i k q. sorted c g i k q (place-of (length T) c);
  asks = omega (arith, len, lena, lenAT);
  marked = (let x = length-append M (0 ∷ []) in let y = H.marked in omega (arith, x, y, len));
  stamped = λ c. (let x = mark-old M c in let y = H.stamped c in omega (arith, x, y));
  few = omega (arith, len, lt);
  few_parts = (let x = length-append pool more in omega (arith, x, lp));
  few_names = H.few_names;
  born = λ c l. born c l (place-of (length T) c);
  declared = λ g. (let x = H.declared g in omega (arith, x, len));
  settled = λ p q. settled (H.settled p q);
}
  where
    len : length (T ++ v ∷ []) ≡ suc (length T)
    len = let x = length-append T (v ∷ []) in omega (arith, x)

    lena : length (A ++ a ∷ []) ≡ suc (length A)
    lena = let x = length-append A (a ∷ []) in omega (arith, x)

    lenAT : length A ≡ length T
    lenAT = H.asks

    new-asked : asked_at (A ++ a ∷ []) (length T) ≡ a
    new-asked = subst (λ z. asked_at (A ++ a ∷ []) z ≡ a) lenAT (asked-new A a)

    old-asked : (c : ℕ) → c < length T → asked_at (A ++ a ∷ []) c ≡ asked_at A c
    old-asked c l = asked-old A a c (omega (arith, l, lenAT))

    sorted : (c g i k : ℕ) → at (T ++ v ∷ []) c ≡ Made g i k → Place (length T) c → (g < length names) × (k ≡ (name_at names g).arity)
    sorted c g i k q (old_place l) = H.sorted c g i k (sym (at-old T v c l) ∙ q)
    sorted c g i k q (new_place e) = let x = so g i k (sym (at-new T v) ∙ ap (λ z. at (T ++ v ∷ []) z) (sym e) ∙ q) in (x.0, x.1)
    sorted c g i k q (past l) = absurd (let x : Variable ≡ Made g i k = sym (at-past (T ++ v ∷ []) c (omega (arith, l, len))) ∙ q in cc)

    born : (c : ℕ) → c < length (T ++ v ∷ []) → Place (length T) c → (asked_at (A ++ a ∷ []) c).birth < length (T ++ v ∷ [])
    born c l (old_place k) = let x = H.born c k in let y = ap (λ z. z.birth) (old-asked c k) in omega (arith, x, y, len)
    born c l (new_place e) = let y : (asked_at (A ++ a ∷ []) c).birth ≡ a.birth = ap (λ z. (asked_at (A ++ a ∷ []) z).birth) e ∙ ap (λ z. z.birth) new-asked in omega (arith, y, bi, len)
    born c l (past k) = absurd (omega (arith, k, l, len))

    -- births of parts
    birth-of : (d : ℕ) → d < length T → (asked_at (A ++ a ∷ []) d).birth ≤ length T
    birth-of d l = let x = H.born d l in let y = ap (λ z. z.birth) (old-asked d l) in omega (arith, x, y)

    closes-old : (c : ℕ) (w : Node) (b : Asked) → Fine pool c w → c < length T → ((d : ℕ) → Child pool w d → d < length T) → Closes names pool A b w → Closes names (pool ++ more) (A ++ a ∷ []) b w
    closes-old c Variable b f l in_ k = tt
    closes-old c (Made g i n) b f l in_ (x, y, z) = (
      x,
      λ d j. subst (λ u. u.birth ≤ b.birth) (sym (old-asked d (in_ d (back d j)))) (y d (back d j)),
      λ e. go ((name_at names g).equality) (z e),
    )
      where
        back : (d : ℕ) → IsIn d (part_list (pool ++ more) i n) → IsIn d (part_list pool i n)
        back d j = subst (IsIn d) (part-old pool more i n f) j

        go : (kind : Equality) → AsksParts kind ((d : ℕ) → IsIn d (part_list pool i n) → (asked_at A d).equality ≡ true) → AsksParts kind ((d : ℕ) → IsIn d (part_list (pool ++ more) i n) → (asked_at (A ++ a ∷ []) d).equality ≡ true)
        go Never u = u
        go Always u = tt
        go Parts u = λ d j. ap (λ o. o.equality) (old-asked d (in_ d (back d j))) ∙ u d (back d j)
    closes-old c (Link d) b f l in_ k = subst (Below b) (sym (old-asked d (in_ d refl))) k

    closes-new : (w : Node) → v ≡ w → Closes names (pool ++ more) (A ++ a ∷ []) a w
    closes-new Variable q = tt
    closes-new (Made g i n) q = (let x = H.declared g in omega (arith, x, bi), λ d j. (let x = birth-of d ((so g i n q).2 d j) in omega (arith, x, bi)), λ e. absurd (let x : Variable ≡ Made g i n = sym (eq e) ∙ q in cc))
    closes-new (Link d) q = absurd (nl d q)

    closed : Closed names pool T A → (c : ℕ) → c < length (T ++ v ∷ []) → Place (length T) c → Closes names (pool ++ more) (A ++ a ∷ []) (asked_at (A ++ a ∷ []) c) (at (T ++ v ∷ []) c)
    closed k c l (old_place m) = subst (λ z. Closes names (pool ++ more) (A ++ a ∷ []) z (at (T ++ v ∷ []) c)) (sym (old-asked c m)) (subst (Closes names (pool ++ more) (A ++ a ∷ []) (asked_at A c)) (sym (at-old T v c m))
        (closes-old c (at T c) (asked_at A c) (H.fine c) m (λ d i. child-in pool T c d H.fine H.within m i) (k c m)))
    closed k c l (new_place q) = subst (λ z. Closes names (pool ++ more) (A ++ a ∷ []) (asked_at (A ++ a ∷ []) z) (at (T ++ v ∷ []) z)) (sym q) (subst (λ z. Closes names (pool ++ more) (A ++ a ∷ []) z (at (T ++ v ∷ []) (length T))) (sym new-asked)
        (subst (Closes names (pool ++ more) (A ++ a ∷ []) a) (sym (at-new T v)) (closes-new v refl)))
    closed k c l (past m) = absurd (omega (arith, m, l, len))

    child-old : (c d : ℕ) (w : Node) → Fine pool c w → Child (pool ++ more) w d → Child pool w d
    child-old c d Variable f i = i
    child-old c d (Made g j n) f i = subst (IsIn d) (part-old pool more j n f) i
    child-old c d (Link e) f i = i

    child-new : (d : ℕ) (w : Node) → v ≡ w → Child (pool ++ more) w d → d < length T
    child-new d Variable q i = absurd i
    child-new d (Made g j n) q i = (so g j n q).2 d i
    child-new d (Link e) q i = absurd (nl e q)

    settled : IsSettled names pool T A → IsSettled names (pool ++ more) (T ++ v ∷ []) (A ++ a ∷ [])
    settled S = record {
      closed = λ c l. closed S.closed c l (place-of (length T) c);
      ranks = (higher (length T) (S.ranks.0), λ c d i. falls c d i (place-of (length T) c));
    }
      where
        r : ℕ → ℕ
        r = S.ranks.0

        falls : (c d : ℕ) → Child (pool ++ more) (at (T ++ v ∷ []) c) d → Place (length T) c → higher (length T) r d < higher (length T) r c
        falls c d i (old_place l) =
            let j : Child pool (at T c) d = child-old c d (at T c) (H.fine c) (subst (λ z. Child (pool ++ more) z d) (at-old T v c l) i) in
            let x = higher-below (length T) r c l in let y = higher-below (length T) r d (child-in pool T c d H.fine H.within l j) in let z = S.ranks.1 c d j in omega (arith, x, y, z)
        falls c d i (new_place q) =
            let j : Child (pool ++ more) v d = subst (λ z. Child (pool ++ more) z d) (ap (λ z. at (T ++ v ∷ []) z) q ∙ at-new T v) i in
            let m = child-new d v refl j in
            let x = higher-below (length T) r d m in let y = is-above r (length T) d m in let z : higher (length T) r c ≡ above r (length T) = ap (λ u. higher (length T) r u) q ∙ higher-last (length T) r in omega (arith, x, y, z)
        falls c d i (past l) = absurd (let x = child-of (pool ++ more) (T ++ v ∷ []) c d i in omega (arith, x, l, len))

none-table : IsTable [] [] [] [] [] 0 false false
none-table = record {
  fine = λ c. tt;
  within = λ i l. absurd (omega (arith, l));
  sorted = λ c f i k q. absurd (cc);
  asks = refl;
  marked = refl;
  stamped = λ c. omega arith;
  few = omega arith;
  few_parts = omega arith;
  few_names = omega arith;
  born = λ c l. absurd (omega (arith, l));
  declared = λ f. omega arith;
  settled = λ p q. record { closed = λ c l. absurd (omega (arith, l)); ranks = (λ c. 0, λ c d i. absurd i) };
}

pub empty-table : (N : List TypeName) (P : List ℕ) (T : List Node) (A : List Asked) (M : List ℕ) → N ≡ [] → P ≡ [] → T ≡ [] → A ≡ [] → M ≡ [] → IsTable N P T A M 0 false false
empty-table N P T A M qn qp qt qa qm = subst (λ z. IsTable z P T A M 0 false false) (sym qn) (subst (λ z. IsTable [] z T A M 0 false false) (sym qp) (subst (λ z. IsTable [] [] z A M 0 false false) (sym qt) (subst (λ z. IsTable [] [] [] z M 0 false false) (sym qa) (subst (λ z. IsTable [] [] [] [] z 0 false false) (sym qm) none-table))))

last-parts : (pool more : List ℕ) → part_list (pool ++ more) (length pool) (length more) ≡ more
last-parts [] more = take-length more
last-parts (x ∷ pool) more = last-parts pool more

-- a variable more
pub var-table : (names : List TypeName) (pool : List ℕ) (T T2 : List Node) (A A2 : List Asked) (M M2 : List ℕ) (stamp : ℕ) (clashed spent : Bool) (a : Asked) → IsTable names pool T A M stamp clashed spent → T2 ≡ T ++ Variable ∷ [] → A2 ≡ A ++ a ∷ [] → M2 ≡ M ++ 0 ∷ []
    → suc (length T) < 2 ^ 32 → a.birth ≡ length T → IsTable names pool T2 A2 M2 stamp clashed spent
var-table names pool T T2 A A2 M M2 stamp clashed spent a H qt qa qm l b =
    subst (λ z. IsTable names pool z A2 M2 stamp clashed spent) (sym qt) (subst (λ z. IsTable names pool (T ++ Variable ∷ []) z M2 stamp clashed spent) (sym qa) (subst (λ z. IsTable names pool (T ++ Variable ∷ []) (A ++ a ∷ []) z stamp clashed spent) (sym qm)
    (subst (λ z. IsTable names z (T ++ Variable ∷ []) (A ++ a ∷ []) (M ++ 0 ∷ []) stamp clashed spent) (append-nil pool)
    (table-more names pool [] T A M stamp clashed spent Variable a H tt (λ i k. absurd (omega (arith, k))) (let x = H.few_parts in omega (arith, x)) l (λ f i k q. absurd (cc)) (λ d q. absurd (cc)) b (inr refl) (λ e. refl)))))

pub var-joins : (g h : TypeGraph) (a : Asked) (c : ℕ) → c ≡ length g.nodes → IsFine g.parts g.nodes → length g.asked ≡ length g.nodes → h.names ≡ g.names → h.parts ≡ g.parts → h.nodes ≡ g.nodes ++ Variable ∷ [] → h.asked ≡ g.asked ++ a ∷ [] → h.clashed ≡ g.clashed
    → Joins g h (λ s. Allows g.names a (s c))
var-joins g h a c e fi len qn qp qt qa qc = subst (λ z. Joins g h (λ s. Allows g.names a (s z))) (sym e)
    (one-more g h [] Variable a (λ s. Allows g.names a (s (length g.nodes))) fi len qn (qp ∙ sym (append-nil g.parts)) qt qa qc (λ s x y. y) (λ s S p. (tt, p)))

-- a made class more
pub con-table : (names : List TypeName) (pool more pool2 : List ℕ) (T T2 : List Node) (A A2 : List Asked) (M M2 : List ℕ) (stamp : ℕ) (clashed spent : Bool) (f n : ℕ) (a : Asked) → IsTable names pool T A M stamp clashed spent → pool2 ≡ pool ++ more → T2 ≡ T ++ Made f (length pool) n ∷ [] → A2 ≡ A ++ a ∷ [] → M2 ≡ M ++ 0 ∷ []
    → n ≡ length more → suc (length T) < 2 ^ 32 → length pool + length more < 2 ^ 32 → f < length names → length more ≡ (name_at names f).arity → Within (length T) more → a.equality ≡ false → a.birth ≡ length T → IsTable names pool2 T2 A2 M2 stamp clashed spent
con-table names pool more pool2 T T2 A A2 M M2 stamp clashed spent f n a H qp qt qa qm e l lp lf ar w ae b =
    subst (λ z. IsTable names z T2 A2 M2 stamp clashed spent) (sym qp) (subst (λ z. IsTable names (pool ++ more) z A2 M2 stamp clashed spent) (sym (qt ∙ ap (λ z. T ++ Made f (length pool) z ∷ []) e)) (subst (λ z. IsTable names (pool ++ more) (T ++ Made f (length pool) (length more) ∷ []) z M2 stamp clashed spent) (sym qa)
    (subst (λ z. IsTable names (pool ++ more) (T ++ Made f (length pool) (length more) ∷ []) (A ++ a ∷ []) z stamp clashed spent) (sym qm)
    (table-more names pool more T A M stamp clashed spent (Made f (length pool) (length more)) a H (let x = length-append pool more in omega (arith, x)) w lp l
    (λ g i k q. made-is g i k q) (λ d q. absurd (cc)) b (inl (λ q. absurd (cc))) (λ q. absurd (let x : true ≡ false = sym q ∙ ae in cc))))))
  where
    made-is : (g i k : ℕ) → Made f (length pool) (length more) ≡ Made g i k → (g < length names) × (k ≡ (name_at names g).arity) × ((d : ℕ) → IsIn d (part_list (pool ++ more) i k) → d < length T)
    made-is g i k q =
        let qg : f ≡ g = cc in let qi : length pool ≡ i = cc in let qk : length more ≡ k = cc in (
          subst (λ z. z < length names) qg lf,
          subst (λ z. k ≡ (name_at names z).arity) qg (sym qk ∙ ar),
          λ d j. in-more d (subst (IsIn d) (ap (λ z. part_list (pool ++ more) z k) (sym qi) ∙ ap (λ z. part_list (pool ++ more) (length pool) z) (sym qk) ∙ last-parts pool more) j),
        )
      where
        in-more : (d : ℕ) → IsIn d more → d < length T
        in-more d (j, m, q) = subst (λ z. z < length T) q (w j m)

pub con-joins : (g h : TypeGraph) (more : List ℕ) (f n : ℕ) (a : Asked) (c : ℕ) → c ≡ length g.nodes → IsFine g.parts g.nodes → length g.asked ≡ length g.nodes → h.names ≡ g.names → h.parts ≡ g.parts ++ more → h.nodes ≡ g.nodes ++ Made f (length g.parts) n ∷ [] → h.asked ≡ g.asked ++ a ∷ [] → h.clashed ≡ g.clashed
    → n ≡ length more → a.equality ≡ false → a.birth ≡ length g.nodes → f < length g.names → length more ≡ (name_at g.names f).arity → Within (length g.nodes) more → ((d : ℕ) → d < length g.nodes → (asked_at g.asked d).birth < length g.nodes) → ((m : ℕ) → (name_at g.names m).birth ≤ length g.nodes)
    → Joins g h (λ s. s c ≡ made f (terms_of s more))
con-joins g h more f n a c e fi len qn qp qt qa qc qm ae ab lf ar w born declared = subst (λ z. Joins g h (λ s. s z ≡ made f (terms_of s more))) (sym e)
    (one-more g h more (Made f (length g.parts) n) a (λ s. s (length g.nodes) ≡ made f (terms_of s more)) fi len qn qp qt qa qc
    (λ s x y. x ∙ ap (λ z. made f (terms_of s z)) parts-are)
    (λ s S p. (p ∙ ap (λ z. made f (terms_of s z)) (sym parts-are), subst (Allows g.names a) (sym p) (allowed s S))))
  where
    parts-are : part_list (g.parts ++ more) (length g.parts) n ≡ more
    parts-are = ap (λ z. part_list (g.parts ++ more) (length g.parts) z) qm ∙ last-parts g.parts more

    closes : Closes g.names more g.asked a (Made f 0 (length more))
    closes = (let x = declared f in omega (arith, x, ab), λ d j. (let x = born d (in-more d j) in omega (arith, x, ab)), λ q. absurd (let x : true ≡ false = sym q ∙ ae in cc))
      where
        in-more : (d : ℕ) → IsIn d (part_list more 0 (length more)) → d < length g.nodes
        in-more d j = in-list d (subst (IsIn d) (take-length more) j)
          where
            in-list : (d : ℕ) → IsIn d more → d < length g.nodes
            in-list d (j, m, q) = subst (λ z. z < length g.nodes) q (w j m)

    allowed : (s : Assign) → Solves g s → Allows g.names a (made f (terms_of s more))
    allowed s S = subst (λ z. Allows g.names a (made f (terms_of s z))) (take-length more)
        (allows-made g.names more g.asked a f 0 (length more) s closes lf ar (ap (λ z. length z) (take-length more)) (λ d j. S.meets d (let x = listed d j in omega (arith, x, len))))
      where
        listed : (d : ℕ) → IsIn d (part_list more 0 (length more)) → d < length g.nodes
        listed d j = in-list d (subst (IsIn d) (take-length more) j)
          where
            in-list : (d : ℕ) → IsIn d more → d < length g.nodes
            in-list d (j, m, q) = subst (λ z. z < length g.nodes) q (w j m)

pub joins-is : (g g' h : TypeGraph) (P : Assign → Type 0) → g ≡ g' → Joins g h P → Joins g' h P
joins-is g g' h P q J = subst (λ z. Joins z h P) q J

pub var-joins-is : (g g' h : TypeGraph) (a : Asked) (c : ℕ) → g ≡ g' → Joins g h (λ s. Allows g.names a (s c)) → Joins g' h (λ s. Allows g'.names a (s c))
var-joins-is g g' h a c q J = subst (λ z. Joins z h (λ s. Allows z.names a (s c))) q J
