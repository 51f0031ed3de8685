-- Scopes that are entered and left.
use Rattle.std.proofs.Common.{arith, min, zero, suc, ◌≡◌, ◌⊎◌, inl, inr, refl, sym, ◌∙◌, ap, subst, ℕ, ◌+◌, ◌-◌, ◌<◌, ◌≤◌, Bool, List, [], ◌∷◌, ◌++◌, map, take, drop, reverse, length, get_or, Option}
use Rattle.std.proofs.lemmas.List.{append_assoc, reverse-append, reverse-reverse, length-reverse, length-append, take_more, take_all}
use Rattle.std.proofs.Math.Seq.{take-append_seam, drop-append_seam, drop-cons}
use Rattle.sml_syntax.specs.declared.tree.Exp.{Exp}
use Rattle.sml_syntax.specs.declared.tree.Rule.{Rule, out-Rule}
use Rattle.sml_syntax.specs.declared.tree.Dec.{Dec}
use Rattle.typing_rules.specs.Scope.{Names, Binds, Adds, AddsAll, adds_nothing, adds_more, inside, variables_only, UnboundInPat, UnboundInExp, UnboundInRule, UnboundInDec, UnboundInDecs, in_pattern, in_body, in_first, in_rest}
use Rattle.hm_scope.specs.Least.{IsLeast, With, Seen, Sees, Some_of, SeesDec, SeesDecs}
use Rattle.hm_scope.proofs.Leasts.{Lowers, lowers-then, lowers-to, lowers-none}
use Rattle.hm_scope.proofs.Names.{binds-same, adds-same, adds-all-same, adds-all-end, no_names, inside-inside}

-- names were added
pub added : (a b : Seen) (more : Names) → b.names.values ≡ more.values ++ a.names.values → b.names.types ≡ more.types ++ a.names.types → b.names ≡ inside more a.names
added a b more e f = ap (λ vs. record { values = vs; types = b.names.types }) e ∙ ap (λ ts. record { values = more.values ++ a.names.values; types = ts }) f

-- a match
abbrev pub RuleAs : Names → Rule → ℕ → Type 0
RuleAs n r place = UnboundInPat n (out-Rule r).pat place ⊎ ((names : List (List ℕ)) × Binds n (out-Rule r).pat names × UnboundInExp (inside (variables_only names) n) (out-Rule r).body place)

pub rule-cases : {n : Names} {r : Rule} {place : ℕ} → UnboundInRule n r place → RuleAs n r place
rule-cases (in_pattern {scope = n} {r} {place} h) = inl h
rule-cases (in_body {scope = n} {r} {names} {place} g h) = inr (names, g, h)

pub sees-rule : (r : Rule) (names : List (List ℕ)) (a b c d e : Seen) → Sees (UnboundInPat a.names (out-Rule r).pat) a b → Binds b.names (out-Rule r).pat names
    → c.names ≡ inside (variables_only names) b.names → c.first ≡ b.first → Sees (UnboundInExp c.names (out-Rule r).body) c d → e.names ≡ b.names → e.first ≡ d.first → Sees (UnboundInRule a.names r) a e
sees-rule r names a b c d e s g cn cf t en ef = record {
  same = en ∙ s.same;
  least = lowers-to _ _ a.first e.first to from (subst (λ f. Lowers (λ p. UnboundInPat a.names (out-Rule r).pat p ⊎ UnboundInExp scope (out-Rule r).body p) a.first f) (sym ef)
      (lowers-then (UnboundInPat a.names (out-Rule r).pat) (UnboundInExp scope (out-Rule r).body) a.first b.first d.first s.least second));
}
  where
    scope : Names
    scope = inside (variables_only names) a.names

    bound : Binds a.names (out-Rule r).pat names
    bound = subst (λ n. Binds n (out-Rule r).pat names) s.same g

    second : Lowers (UnboundInExp scope (out-Rule r).body) b.first d.first
    second = subst (λ n. Lowers (UnboundInExp n (out-Rule r).body) b.first d.first) (cn ∙ ap (inside (variables_only names)) s.same)
        (subst (λ f. Lowers (UnboundInExp c.names (out-Rule r).body) f d.first) cf t.least)

    to : (p : ℕ) → UnboundInPat a.names (out-Rule r).pat p ⊎ UnboundInExp scope (out-Rule r).body p → UnboundInRule a.names r p
    to p (inl x) = in_pattern x
    to p (inr x) = in_body bound x

    go : (p : ℕ) → RuleAs a.names r p → UnboundInPat a.names (out-Rule r).pat p ⊎ UnboundInExp scope (out-Rule r).body p
    go p (inl x) = inl x
    go p (inr (others, h, x)) = inr (subst (λ z. UnboundInExp (inside (variables_only z) a.names) (out-Rule r).body p) (binds-same h names bound) x)

    from : (p : ℕ) → UnboundInRule a.names r p → UnboundInPat a.names (out-Rule r).pat p ⊎ UnboundInExp scope (out-Rule r).body p
    from p x = go p (rule-cases x)

-- in the declarations of `let`, or in one of its expressions
abbrev pub InLet : Names → List Dec → List Exp → ℕ → Type 0
InLet scope ds es place = UnboundInDecs scope ds place ⊎ ((more : Names) × AddsAll scope ds more × Some_of (UnboundInExp (inside more scope)) es place)

pub sees-let-in : (ds : List Dec) (es : List Exp) (a b c d : Seen) → SeesDecs ds a b → Sees (Some_of (UnboundInExp b.names) es) b c → d.names ≡ a.names → d.first ≡ c.first → Sees (InLet a.names ds es) a d
sees-let-in ds es a b c d s t dn df = record {
  same = dn;
  least = lowers-to _ _ a.first d.first to from (subst (λ f. Lowers (λ p. UnboundInDecs a.names ds p ⊎ Some_of (UnboundInExp (inside s.more a.names)) es p) a.first f) (sym df)
      (lowers-then (UnboundInDecs a.names ds) (Some_of (UnboundInExp (inside s.more a.names)) es) a.first b.first c.first s.least
      (subst (λ n. Lowers (Some_of (UnboundInExp n) es) b.first c.first) s.names t.least)));
}
  where
    to : (p : ℕ) → UnboundInDecs a.names ds p ⊎ Some_of (UnboundInExp (inside s.more a.names)) es p → InLet a.names ds es p
    to p (inl x) = inl x
    to p (inr x) = inr (s.more, s.adds, x)

    from : (p : ℕ) → InLet a.names ds es p → UnboundInDecs a.names ds p ⊎ Some_of (UnboundInExp (inside s.more a.names)) es p
    from p (inl x) = inl x
    from p (inr (more, g, x)) = inr (subst (λ z. Some_of (UnboundInExp (inside z a.names)) es p) (adds-all-same g s.more s.adds) x)

-- in the hidden or in the shown declarations of `local`
abbrev pub InLocal : Names → List Dec → List Dec → ℕ → Type 0
InLocal scope hidden shown place = UnboundInDecs scope hidden place ⊎ ((more : Names) × AddsAll scope hidden more × UnboundInDecs (inside more scope) shown place)

-- `local` was seen, and has added the names of its shown declarations
pub record SeesLocal (hidden shown : List Dec) (old new : Seen) : Type 0 where
  pub first : Names
  pub second : Names
  pub adds_hidden : AddsAll old.names hidden first
  pub adds_shown : AddsAll (inside first old.names) shown second
  pub names : new.names ≡ inside second old.names
  pub least : IsLeast (With old.first (InLocal old.names hidden shown)) new.first

pub sees-local : (hidden shown : List Dec) (a b c d : Seen) (s : SeesDecs hidden a b) (t : SeesDecs shown b c) → d.names ≡ inside t.more a.names → d.first ≡ c.first → SeesLocal hidden shown a d
sees-local hidden shown a b c d s t dn df = record {
  first = s.more;
  second = t.more;
  adds_hidden = s.adds;
  adds_shown = subst (λ n. AddsAll n shown t.more) s.names t.adds;
  names = dn;
  least = lowers-to _ _ a.first d.first to from (subst (λ f. Lowers (λ p. UnboundInDecs a.names hidden p ⊎ UnboundInDecs (inside s.more a.names) shown p) a.first f) (sym df)
      (lowers-then (UnboundInDecs a.names hidden) (UnboundInDecs (inside s.more a.names) shown) a.first b.first c.first s.least
      (subst (λ n. Lowers (UnboundInDecs n shown) b.first c.first) s.names t.least)));
}
  where
    to : (p : ℕ) → UnboundInDecs a.names hidden p ⊎ UnboundInDecs (inside s.more a.names) shown p → InLocal a.names hidden shown p
    to p (inl x) = inl x
    to p (inr x) = inr (s.more, s.adds, x)

    from : (p : ℕ) → InLocal a.names hidden shown p → UnboundInDecs a.names hidden p ⊎ UnboundInDecs (inside s.more a.names) shown p
    from p (inl x) = inl x
    from p (inr (more, g, x)) = inr (subst (λ z. UnboundInDecs (inside z a.names) shown p) (adds-all-same g s.more s.adds) x)

-- lists of declarations: one more at the end
abbrev pub DecsAs : Names → List Dec → ℕ → Type 0
DecsAs n [] p = ⊥
DecsAs n (d ∷ ds) p = UnboundInDec n d p ⊎ ((more : Names) × Adds n d more × UnboundInDecs (inside more n) ds p)

pub decs-cases : {n : Names} {ds : List Dec} {p : ℕ} → UnboundInDecs n ds p → DecsAs n ds p
decs-cases (in_first {scope = n} {d} {ds} x) = inl x
decs-cases (in_rest {scope = n} {d} {ds} {more} g x) = inr (more, g, x)

pub decs-front : {n : Names} {ds : List Dec} {p : ℕ} (d : Dec) → UnboundInDecs n ds p → UnboundInDecs n (ds ++ d ∷ []) p
decs-front d (in_first x) = in_first x
decs-front d (in_rest g x) = in_rest g (decs-front d x)

pub decs-last : {n : Names} {ds : List Dec} {m : Names} → AddsAll n ds m → (d : Dec) (p : ℕ) → UnboundInDec (inside m n) d p → UnboundInDecs n (ds ++ d ∷ []) p
decs-last adds_nothing d p x = in_first x
decs-last (adds_more {scope = n} {d = e} {ds} {first} {rest} y ys) d p x = in_rest y (decs-last ys d p (subst (λ z. UnboundInDec z d p) (inside-inside rest first n) x))

pub decs-split : {n : Names} {ds : List Dec} {m : Names} → AddsAll n ds m → (d : Dec) (p : ℕ) → UnboundInDecs n (ds ++ d ∷ []) p → UnboundInDecs n ds p ⊎ UnboundInDec (inside m n) d p
decs-split (adds_nothing {scope = n}) d p x = go (decs-cases x)
  where
    go : DecsAs n (d ∷ []) p → UnboundInDecs n [] p ⊎ UnboundInDec n d p
    go (inl y) = inr y
    go (inr (more, g, y)) = absurd (decs-cases y)
decs-split (adds_more {scope = n} {d = e} {ds} {first} {rest} y ys) d p x = go (λ z. decs-split ys d p z) (decs-cases x)
  where
    back : UnboundInDecs (inside first n) ds p ⊎ UnboundInDec (inside rest (inside first n)) d p → UnboundInDecs n (e ∷ ds) p ⊎ UnboundInDec (inside (inside rest first) n) d p
    back (inl z) = inl (in_rest y z)
    back (inr z) = inr (subst (λ w. UnboundInDec w d p) (sym (inside-inside rest first n)) z)

    go : (UnboundInDecs (inside first n) (ds ++ d ∷ []) p → UnboundInDecs (inside first n) ds p ⊎ UnboundInDec (inside rest (inside first n)) d p)
        → DecsAs n (e ∷ (ds ++ d ∷ [])) p → UnboundInDecs n (e ∷ ds) p ⊎ UnboundInDec (inside (inside rest first) n) d p
    go again (inl z) = inl (in_first z)
    go again (inr (more, g, z)) = back (again (subst (λ w. UnboundInDecs (inside w n) (ds ++ d ∷ []) p) (adds-same g first y) z))

pub sees-decs-nil : (a : Seen) → SeesDecs [] a a
sees-decs-nil a = record { more = no_names; adds = adds_nothing; names = refl; least = lowers-none (UnboundInDecs a.names []) a.first (λ p x. decs-cases x) }

pub sees-decs-end : (ds : List Dec) (d : Dec) (a b c : Seen) → SeesDecs ds a b → SeesDec d b c → SeesDecs (ds ++ d ∷ []) a c
sees-decs-end ds d a b c s t = record {
  more = inside t.more s.more;
  adds = adds-all-end s.adds d t.more (subst (λ z. Adds z d t.more) s.names t.adds);
  names = t.names ∙ ap (inside t.more) s.names ∙ sym (inside-inside t.more s.more a.names);
  least = lowers-to _ _ a.first c.first to (λ p x. decs-split s.adds d p x)
      (lowers-then (UnboundInDecs a.names ds) (UnboundInDec (inside s.more a.names) d) a.first b.first c.first s.least (subst (λ n. Lowers (UnboundInDec n d) b.first c.first) s.names t.least));
}
  where
    to : (p : ℕ) → UnboundInDecs a.names ds p ⊎ UnboundInDec (inside s.more a.names) d p → UnboundInDecs a.names (ds ++ d ∷ []) p
    to p (inl x) = decs-front d x
    to p (inr x) = decs-last s.adds d p x

pub sees-decs-next : (ds : List Dec) (i : ℕ) (d x : Dec) (a b c : Seen) → x ≡ get_or ds i d → i < length ds → SeesDecs (take i ds) a b → SeesDec x b c → SeesDecs (take (i + 1) ds) a c
sees-decs-next ds i d x a b c e h s t = subst (λ l. SeesDecs l a c) (ap (λ y. take i ds ++ y ∷ []) e ∙ sym (take_more ds i d h)) (sees-decs-end (take i ds) x a b c s t)

pub sees-decs-whole : (ds : List Dec) (i : ℕ) (a b : Seen) → length ds ≤ i → SeesDecs (take i ds) a b → SeesDecs ds a b
sees-decs-whole ds i a b h s = subst (λ l. SeesDecs l a b) (take_all i ds h) s

-- scopes as lists, the innermost last
pub take-under : {A : Type 0} (o i : ℕ) (xs : List A) → o ≤ i → take o (take i xs) ≡ take o xs
take-under zero i xs h = refl
take-under (suc o) zero xs h = absurd (omega (arith, h))
take-under (suc o) (suc i) [] h = refl
take-under (suc o) (suc i) (x ∷ xs) h = ap (λ z. x ∷ z) (take-under o i xs (omega (arith, h)))

pub turned : {A : Type 0} (xs a b : List A) → reverse xs ≡ a ++ b → xs ≡ reverse b ++ reverse a
turned xs a b e = sym (reverse-reverse xs) ∙ ap reverse e ∙ reverse-append a b

pub cut-list : {A : Type 0} (xs a b : List A) (n : ℕ) → reverse xs ≡ a ++ b → n ≡ length b → reverse (take n xs) ≡ b
cut-list xs a b n e l =
    ap (λ m. reverse (take m xs)) (l ∙ sym (length-reverse b)) ∙ ap (λ ys. reverse (take (length (reverse b)) ys)) (turned xs a b e)
    ∙ ap reverse (take-append_seam (reverse b) (reverse a)) ∙ reverse-reverse b

pub kept-list : {A : Type 0} (xs a b : List A) (n : ℕ) → reverse xs ≡ a ++ b → n ≡ length b → reverse (drop n xs) ≡ a
kept-list xs a b n e l =
    ap (λ m. reverse (drop m xs)) (l ∙ sym (length-reverse b)) ∙ ap (λ ys. reverse (drop (length (reverse b)) ys)) (turned xs a b e)
    ∙ ap reverse (drop-append_seam (reverse b) (reverse a)) ∙ reverse-reverse a

pub hide-list : {A : Type 0} (xs s h n : List A) (o i : ℕ) → reverse xs ≡ s ++ (h ++ n) → o ≡ length n → i ≡ length h + length n → reverse (take o xs ++ drop i xs) ≡ s ++ n
hide-list xs s h n o i e l k =
    reverse-append (take o xs) (drop i xs)
    ∙ ap (λ z. z ++ reverse (take o xs)) (kept-list xs s (h ++ n) i e (k ∙ sym (length-append h n)))
    ∙ ap (λ z. s ++ z) (cut-list xs (s ++ h) n o (e ∙ sym (append_assoc s h n)) l)

pub seen-made : (vs : List (List ℕ × Bool)) (ts : List (List ℕ)) (f g : Option ℕ) (n : Names) → vs ≡ n.values → ts ≡ n.types → f ≡ g
    → ◌≡◌ {A = Seen} (record { names = record { values = vs; types = ts }; first = f }) (record { names = n; first = g })
seen-made vs ts f g n e k h = ap (λ z. record { names = record { values = z; types = ts }; first = f }) e ∙ ap (λ z. record { names = record { values = n.values; types = z }; first = f }) k
    ∙ ap (λ z. record { names = n; first = z }) h

pub fits : {A : Type 0} (xs s h n : List A) (i m : ℕ) → reverse xs ≡ s ++ (h ++ n) → i ≡ length h + length n → m ≡ min i (length xs) → m ≡ i
fits xs s h n i m e k q =
    let l : length xs ≡ length s + (length h + length n) = sym (length-reverse xs) ∙ ap length e ∙ length-append s (h ++ n) ∙ ap (λ z. length s + z) (length-append h n) in
    omega (arith, l, k, q)

pub hide-steps : {A : Type 0} (xs s h n a b c d : List A) (o i m : ℕ) → reverse xs ≡ s ++ (h ++ n) → o ≡ length n → i ≡ length h + length n → m ≡ min i (length xs)
    → b ≡ take m xs → c ≡ drop m xs → d ≡ take o b → a ≡ d ++ c → reverse a ≡ s ++ n
hide-steps xs s h n a b c d o i m e l k q be ce de ae =
    let same = fits xs s h n i m e k q in
    let under : o ≤ i = omega (arith, l, k) in
    ap reverse (ae ∙ ap (λ z. z ++ c) (de ∙ ap (take o) (be ∙ ap (λ z. take z xs) same) ∙ take-under o i xs under) ∙ ap (λ z. take o xs ++ z) (ce ∙ ap (λ z. drop z xs) same))
    ∙ hide-list xs s h n o i e l k

-- a name is put before those that were put already
put-before : (k : Bool) (names : List (List ℕ)) (m : ℕ) (d x : List ℕ) (old items : List (List ℕ × Bool)) → x ≡ get_or names m d → m < length names
    → reverse items ≡ map (λ name. (name, k)) (drop (suc m) names) ++ old → reverse (items ++ (x, k) ∷ []) ≡ map (λ name. (name, k)) (drop m names) ++ old
put-before k names m d x old items e l i =
    reverse-append items ((x, k) ∷ []) ∙ ap (λ y. (x, k) ∷ y) i ∙ ap (λ y. (y, k) ∷ (map (λ name. (name, k)) (drop (suc m) names) ++ old)) e
    ∙ ap (λ y. map (λ name. (name, k)) y ++ old) (sym (drop-cons names m d l))

pub put-step : (k : Bool) (names : List (List ℕ)) (left : ℕ) (d x : List ℕ) (old items : List (List ℕ × Bool)) → x ≡ get_or names (left - 1) d → 0 < left → left ≤ length names
    → reverse items ≡ map (λ name. (name, k)) (drop left names) ++ old → reverse (items ++ (x, k) ∷ []) ≡ map (λ name. (name, k)) (drop (left - 1) names) ++ old
put-step k names left d x old items e z l i =
    let up : left ≡ suc (left - 1) = omega (arith, z) in
    put-before k names (left - 1) d x old items e (omega (arith, z, l)) (subst (λ n. reverse items ≡ map (λ name. (name, k)) (drop n names) ++ old) up i)
