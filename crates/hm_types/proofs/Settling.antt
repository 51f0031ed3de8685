-- The parts of the unifier put together.
use Rattle.std.specs.Prelude.{not}
use Rattle.std.proofs.Common.{append-nil, take, drop, ◌++◌, ◌≡◌, ℕ, ◌<◌, List, [], ◌∷◌, length, Bool, true, false, refl, ap, sym, ◌∙◌, subst, arith, ◌⊎◌, inl, inr}
use Rattle.std.proofs.Math.ListN.{drop_of_length-le}
use Rattle.std.proofs.lemmas.List.{take_all}
use Rattle.hm_types.specs.declared.node.Node.{Node}
use Rattle.hm_types.specs.declared.node.Asked.{Asked}
use Rattle.hm_types.specs.declared.node.TypeName.{TypeName}
use Rattle.hm_types.specs.Classes.{Assign, at, asked_at, Respects, Meets, Allows, TypeGraph}
use Rattle.hm_types.specs.Joining.{IsFine, IsIn, Within, Pairs, Steps, Keeps, Frame, NoSolution}
use Rattle.hm_types.specs.Asking.{Closes, Closed, ClosedBut, Spread, Lowers, LacksAsked}
use Rattle.hm_types.specs.Searching.{Searched, Stamped, IsEndless}
use Rattle.hm_types.specs.Kept.{Sorted, IsSettled, Joined, IsTable}
use Rattle.hm_types.specs.Solving.{Solves, MostGeneral}
use Rattle.hm_types.proofs.Asking.{allows-below}
use Rattle.hm_types.proofs.Ranks.{ranks-again}
use Rattle.hm_types.proofs.Choices.{is-solved}

all-closed : (names : List TypeName) (pool : List ℕ) (U : List Node) (B : List Asked) → ClosedBut names pool U B [] → Closed names pool U B
all-closed names pool U B h c l = go (h c l)
  where
    go : (Closes names pool B (asked_at B c) (at U c)) ⊎ IsIn c [] → Closes names pool B (asked_at B c) (at U c)
    go (inl x) = x
    go (inr (j, m, q)) = absurd (omega (arith, m))

pub joined-by : (names : List TypeName) (pool : List ℕ) (T U : List Node) (A B : List Asked) (marks changed : List ℕ) (floor stamp n a b : ℕ) → IsSettled names pool T A → Within (length T) pool → Steps pool T ((a, b) ∷ []) U [] → Frame T U [] changed
    → Spread names pool U A B [] → Stamped n marks stamp → Searched pool U B marks floor changed → Joined names pool T A U B a b
joined-by names pool T U A B marks changed floor stamp n a b S wi F G D M E = record {
  steps = F;
  spread = D;
  settled = record {
    closed = all-closed names pool U B D.closed;
    ranks = ranks-again names pool T U B marks changed floor stamp (S.ranks.0) (S.ranks.1) G F.fine (subst (λ z. Within z pool) (sym F.same_length) wi) (all-closed names pool U B D.closed) (M.1) E;
  };
}

pub none-joined : (names : List TypeName) (pool : List ℕ) (T : List Node) (A : List Asked) (a b : ℕ) → NoSolution pool T ((a, b) ∷ []) → (s : Assign) → Respects pool T s → Meets names A s → s a ≡ s b → ⊥
unfolding Pairs
none-joined names pool T A a b n s r m q = n s r (q, tt)

pub none-asked : (names : List TypeName) (pool : List ℕ) (T U : List Node) (A : List Asked) (a b : ℕ) → Steps pool T ((a, b) ∷ []) U [] → LacksAsked names pool U A → (s : Assign) → Respects pool T s → Meets names A s → s a ≡ s b → ⊥
unfolding Pairs
none-asked names pool T U A a b F n s r m q = n s ((F.there s r (q, tt)).0) m

pub none-finite : (names : List TypeName) (pool : List ℕ) (T U : List Node) (A : List Asked) (a b : ℕ) → Steps pool T ((a, b) ∷ []) U [] → IsEndless pool U → (s : Assign) → Respects pool T s → Meets names A s → s a ≡ s b → ⊥
unfolding Pairs
none-finite names pool T U A a b F n s r m q = n s ((F.there s r (q, tt)).0)

sorted-on : (names : List TypeName) (pool : List ℕ) (T U : List Node) → Sorted names T → Keeps pool T U → Sorted names U
sorted-on names pool T U so K c f i k q = let (d, e) = K.comes c f i k q in so d f i k e

-- what stays true of the table whatever comes of joining
pub table-on : (names : List TypeName) (pool : List ℕ) (T U : List Node) (A B : List Asked) (marks marks2 : List ℕ) (stamp stamp2 : ℕ) (clashed spent clashed2 spent2 : Bool) → IsTable names pool T A marks stamp clashed spent → Keeps pool T U → Lowers A B → Stamped (length U) marks2 stamp2
    → (clashed2 ≡ false → spent2 ≡ false → IsSettled names pool U B) → IsTable names pool U B marks2 stamp2 clashed2 spent2
table-on names pool T U A B marks marks2 stamp stamp2 clashed spent clashed2 spent2 H K L M S = record {
  fine = K.fine;
  within = subst (λ n. Within n pool) (sym K.same_length) H.within;
  sorted = sorted-on names pool T U H.sorted K;
  asks = L.same_length ∙ H.asks ∙ sym K.same_length;
  marked = M.0;
  stamped = M.1;
  few = let x = H.few in let q = K.same_length in omega (arith, x, q);
  few_parts = H.few_parts;
  few_names = H.few_names;
  born = λ c l. (let q = K.same_length in let x = H.born c (omega (arith, l, q)) in let y = (L.lower c).1 in omega (arith, x, y, q));
  declared = λ f. (let q = K.same_length in let x = H.declared f in omega (arith, x, q));
  settled = S;
}

-- the graphs of the old and of the new table
pub most-general : (g h : TypeGraph) (a b : ℕ) → h.names ≡ g.names → h.parts ≡ g.parts → g.clashed ≡ false → h.clashed ≡ false → Within (length g.nodes) g.parts → Sorted g.names g.nodes → length g.asked ≡ length g.nodes
    → Joined g.names g.parts g.nodes g.asked h.nodes h.asked a b → MostGeneral g h a b
unfolding Pairs
most-general g h a b qn qp sg sh wi so len J = record {
  joins = record {
    old = λ s S. record { sound = sg; holds = (back s S).0; meets = λ c l. before s S c l };
    new = λ s S. ((back s S).1).0;
    both = λ s S q. record {
      sound = sh;
      holds = subst (λ z. Respects z h.nodes s) (sym qp) (there s S q);
      meets = subst (λ z. Meets z h.asked s) (sym qn) (J.spread.there s (there s S q) S.meets);
    };
  };
  solved = is-solved h sh (subst (λ z. IsFine z h.nodes) (sym qp) J.steps.fine) (subst (λ z. Within (length h.nodes) z) (sym qp) (subst (λ n. Within n g.parts) (sym J.steps.same_length) wi))
      (subst (λ z. Sorted z h.nodes) (sym qn) (λ c f i k q. (let (d, e) = J.steps.comes c f i k q in so d f i k e)))
      (J.spread.same_length ∙ len ∙ sym J.steps.same_length)
      (subst (λ z. IsSettled z h.parts h.nodes h.asked) (sym qn) (subst (λ z. IsSettled g.names z h.nodes h.asked) (sym qp) J.settled));
}
  where
    back : (s : Assign) → Solves h s → Respects g.parts g.nodes s × Pairs s ((a, b) ∷ [])
    back s S = J.steps.back s (subst (λ z. Respects z h.nodes s) qp S.holds) tt

    there : (s : Assign) → Solves g s → s a ≡ s b → Respects g.parts h.nodes s
    there s S q = (J.steps.there s S.holds (q, tt)).0

    before : (s : Assign) → Solves h s → (c : ℕ) → c < length g.asked → Allows g.names (asked_at g.asked c) (s c)
    before s S c l = allows-below g.names (asked_at g.asked c) (asked_at h.asked c) (s c) (J.spread.lower c) (subst (λ z. Allows z (asked_at h.asked c) (s c)) qn (S.meets c (let x = J.spread.same_length in omega (arith, x, l))))

-- a list of the same length, written back
pub written : {X : Type 0} (old new : List X) (n : ℕ) → n ≡ length old → length new ≡ length old → take n (new ++ drop (length new) old) ≡ new
written old new n e l = ap (λ z. take n (new ++ z)) (drop_of_length-le old (omega (arith, l))) ∙ ap (λ z. take n z) (append-nil new) ∙ take_all n new (omega (arith, e, l))

pub unify-done : (g : TypeGraph) (N : List TypeName) (P : List ℕ) (T : List Node) (A : List Asked) (U U2 : List Node) (B B2 : List Asked) (a b : ℕ) → N ≡ g.names → P ≡ g.parts → T ≡ g.nodes → A ≡ g.asked → U2 ≡ U → B2 ≡ B → Joined N P T A U B a b
    → g.clashed ≡ false → Within (length g.nodes) g.parts → Sorted g.names g.nodes → length g.asked ≡ length g.nodes
    → MostGeneral g (record { names = g.names; parts = g.parts; nodes = U2; asked = B2; clashed = g.clashed; spent = g.spent }) a b
unify-done g N P T A U U2 B B2 a b qn qp qt qa qu qb J sound wi so len =
    most-general g (record { names = g.names; parts = g.parts; nodes = U2; asked = B2; clashed = g.clashed; spent = g.spent }) a b refl refl sound sound wi so len
    (subst (λ z. Joined g.names g.parts g.nodes g.asked z B2 a b) (sym qu) (subst (λ z. Joined g.names g.parts g.nodes g.asked U z a b) (sym qb)
    (subst (λ z. Joined g.names g.parts g.nodes z U B a b) qa (subst (λ z. Joined g.names g.parts z A U B a b) qt (subst (λ z. Joined g.names z T A U B a b) qp (subst (λ z. Joined z P T A U B a b) qn J))))))

pub settled-done : (N names : List TypeName) (P parts : List ℕ) (T : List Node) (A : List Asked) (U U2 : List Node) (B B2 : List Asked) (a b : ℕ) → N ≡ names → P ≡ parts → U2 ≡ U → B2 ≡ B → Joined N P T A U B a b → IsSettled names parts U2 B2
settled-done N names P parts T A U U2 B B2 a b qn qp qu qb J = subst (λ z. IsSettled names parts z B2) (sym qu) (subst (λ z. IsSettled names parts U z) (sym qb) (subst (λ z. IsSettled names z U B) qp (subst (λ z. IsSettled z P U B) qn J.settled)))

pub unify-table : (names : List TypeName) (P pool : List ℕ) (T T0 : List Node) (A A0 : List Asked) (marks : List ℕ) (stamp : ℕ) (clashed spent clashed2 spent2 : Bool) (U U2 : List Node) (B B2 : List Asked) (M M2 : List ℕ) (stamp2 : ℕ) → IsTable names pool T A marks stamp clashed spent
    → P ≡ pool → T0 ≡ T → A0 ≡ A → U2 ≡ U → B2 ≡ B → M2 ≡ M → Keeps P T0 U → Lowers A0 B → Stamped (length U) M stamp2 → (clashed2 ≡ false → spent2 ≡ false → IsSettled names pool U2 B2) → IsTable names pool U2 B2 M2 stamp2 clashed2 spent2
unify-table names P pool T T0 A A0 marks stamp clashed spent clashed2 spent2 U U2 B B2 M M2 stamp2 H qp qt qa qu qb qm K L E S =
    table-on names pool T U2 A B2 marks M2 stamp stamp2 clashed spent clashed2 spent2 H
    (subst (λ z. Keeps pool T z) (sym qu) (subst (λ z. Keeps pool z U) qt (subst (λ z. Keeps z T0 U) qp K)))
    (subst (λ z. Lowers A z) (sym qb) (subst (λ z. Lowers z B) qa L))
    (subst (λ z. Stamped (length U2) z stamp2) (sym qm) (subst (λ z. Stamped (length z) M stamp2) (sym qu) E)) S

pub not-true : (b : Bool) → not b ≡ true → b ≡ false
not-true true q = sym q
not-true false q = refl

pub most-is : (g g' h : TypeGraph) (a b : ℕ) → g ≡ g' → MostGeneral g h a b → MostGeneral g' h a b
most-is g g' h a b q M = subst (λ z. MostGeneral z h a b) q M
