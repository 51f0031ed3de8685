-- The look back at the acts of arguments, from the last argument on: it tells whether they are variables of given names.
use Rattle.std.proofs.Common.{◌≡◌, ◌⊎◌, inl, inr, ℕ, zero, suc, ◌+◌, ◌-◌, ◌<◌, ◌≤◌, max, List, [], ◌∷◌, ◌++◌, length, drop, Bool, true, false, cond, nat_lt, ◌&&◌, Option, Some, None, refl, ap, sym, ◌∙◌, subst, append_assoc, arith}
use Rattle.std.proofs.lemmas.Bool.{lt-ltb, le-ltb, ltb-false, ltb-true}
use Rattle.sml_syntax.specs.declared.token.Token.{Token}
use Rattle.sml_syntax.specs.declared.tree.Ty.{Ty}
use Rattle.sml_syntax.specs.NestedTypes.{Found, form_of_ty, is_variable, are_variables}
use Rattle.grammar_rules.specs.Nodes.{last_of}
use Rattle.grammar_rules.specs.Grammar as g
use Rattle.sml_grammar.specs.declared.act.Act.TheVariants as a
use Rattle.sml_grammar.specs.declared.act.TyAct.TheVariants as y
use Rattle.sml_grammar.specs.declared.act.Made.{Made}
use Rattle.sml_grammar.specs.Machine.{made}
use Rattle.parse_limits.specs.Lacks.{var_of, is_none, is_first, is_push, same_name, pushed, applied, argument_acts, ends_applied}
use Rattle.grammar_trees.specs.Tells as t
use Rattle.grammar_trees.specs.Tells.{Tells}
use Rattle.grammar_limits.specs.Nested.{ArgumentsTold}
use Rattle.grammar_limits.proofs.Shapes.{Shape, variable, composed, shaped}

-- a variable's act with a push behind it
abbrev both : List ℕ → Made → Made → Bool
both v m p = cond (same_name v (var_of m.act)) (cond (is_push p.act) true false) false

pushed-last : (ws : List (List ℕ)) (v : List ℕ) (acts : List Made) (m p : Made) → length acts ≡ length ws + length ws → pushed (ws ++ v ∷ []) (acts ++ m ∷ p ∷ []) ≡ cond (pushed ws acts) (both v m p) false
unfolding pushed
pushed-last [] v [] m p e = refl
pushed-last [] v (x ∷ acts) m p e = absurd (omega arith)
pushed-last (w ∷ ws) v [] m p e = absurd (omega arith)
pushed-last (w ∷ ws) v (x ∷ []) m p e = absurd (omega arith)
pushed-last (w ∷ ws) v (x ∷ z ∷ acts) m p e = go (same_name w (var_of x.act)) (is_push z.act) (pushed-last ws v acts m p (omega arith))
  where
    go : (b c : Bool) → pushed (ws ++ v ∷ []) (acts ++ m ∷ p ∷ []) ≡ cond (pushed ws acts) (both v m p) false → cond b (cond c (pushed (ws ++ v ∷ []) (acts ++ m ∷ p ∷ [])) false) false ≡ cond (cond b (cond c (pushed ws acts) false) false) (both v m p) false
    go true true h = h
    go true false h = refl
    go false c h = refl

applied-last : (w : List ℕ) (ws : List (List ℕ)) (v : List ℕ) (acts : List Made) (m p : Made) → length acts ≡ suc (length ws) + suc (length ws) → applied ((w ∷ ws) ++ v ∷ []) (acts ++ m ∷ p ∷ []) ≡ cond (applied (w ∷ ws) acts) (both v m p) false
unfolding applied
applied-last w ws v [] m p e = absurd (omega arith)
applied-last w ws v (x ∷ []) m p e = absurd (omega arith)
applied-last w ws v (x ∷ z ∷ acts) m p e = go (same_name w (var_of x.act)) (is_first z.act) (pushed-last ws v acts m p (omega arith))
  where
    go : (b c : Bool) → pushed (ws ++ v ∷ []) (acts ++ m ∷ p ∷ []) ≡ cond (pushed ws acts) (both v m p) false → cond b (cond c (pushed (ws ++ v ∷ []) (acts ++ m ∷ p ∷ [])) false) false ≡ cond (cond b (cond c (pushed ws acts) false) false) (both v m p) false
    go true true h = h
    go true false h = refl
    go false c h = refl

-- the look back with its numbers given
ends-by : (vars : List (List ℕ)) (acts : List Made) (n k : ℕ) → length acts ≡ n → argument_acts (length vars) ≡ k → ends_applied vars acts ≡ cond (nat_lt n k) false (applied vars (drop (n - k) acts))
unfolding ends_applied
ends-by vars acts n k e f = ap (λ z. cond (nat_lt z (argument_acts (length vars))) false (applied vars (drop (z - argument_acts (length vars)) acts))) e ∙ ap (λ z. cond (nat_lt n z) false (applied vars (drop (n - z) acts))) f

suc-sum : (a b c : ℕ) → a ≡ b + c → suc a ≡ suc b + c
suc-sum a b c h = omega arith

no-sum : (a : ℕ) → a ≡ 0 + a
no-sum a = omega arith

longer-by : (acts more : List Made) → length (acts ++ more) ≡ length acts + length more
longer-by [] more = no-sum (length more)
longer-by (x ∷ acts) more = suc-sum (length (acts ++ more)) (length acts) (length more) (longer-by acts more)

names-longer : (names more : List (List ℕ)) → length (names ++ more) ≡ length names + length more
names-longer [] more = no-sum (length more)
names-longer (x ∷ names) more = suc-sum (length (names ++ more)) (length names) (length more) (names-longer names more)

drop-front : (k : ℕ) (acts more : List Made) → k ≤ length acts → drop k (acts ++ more) ≡ drop k acts ++ more
drop-front zero acts more h = refl
drop-front (suc k) [] more h = absurd (omega arith)
drop-front (suc k) (x ∷ acts) more h = drop-front k acts more (omega arith)

drop-none : (acts : List Made) → drop (length acts) acts ≡ []
drop-none [] = refl
drop-none (x ∷ acts) = drop-none acts

drop-length : (k : ℕ) (acts : List Made) → length (drop k acts) ≡ length acts - k
drop-length zero acts = omega arith
drop-length (suc k) [] = omega arith
drop-length (suc k) (x ∷ acts) = drop-length k acts ∙ back (length acts) k
  where
    back : (n k : ℕ) → n - k ≡ suc n - suc k
    back n k = omega arith

at-end : (acts more : List Made) → drop (length acts) (acts ++ more) ≡ more
at-end acts more = drop-front (length acts) acts more (same (length acts)) ∙ ap (λ z. z ++ more) (drop-none acts)
  where
    same : (n : ℕ) → n ≤ n
    same n = omega arith

-- no variables: the last act
none-ends : (before : List Made) (p : Made) → ends_applied [] (before ++ p ∷ []) ≡ is_none p.act
unfolding applied
none-ends before p =
    ends-by [] (before ++ p ∷ []) (length before + 1) 1 (longer-by before (p ∷ [])) refl
    ∙ ap (λ w. cond w false (applied [] (drop (length before + 1 - 1) (before ++ p ∷ [])))) (le-ltb (length before + 1) 1 (omega arith))
    ∙ ap (λ z. applied [] (drop z (before ++ p ∷ []))) (back (length before))
    ∙ ap (applied []) (at-end before (p ∷ []))
  where
    back : (n : ℕ) → n + 1 - 1 ≡ n
    back n = omega arith

-- one variable: the last two acts
one-ends : (v : List ℕ) (before : List Made) (m p : Made) → ends_applied (v ∷ []) (before ++ m ∷ p ∷ []) ≡ cond (same_name v (var_of m.act)) (cond (is_first p.act) true false) false
unfolding applied pushed
one-ends v before m p =
    ends-by (v ∷ []) (before ++ m ∷ p ∷ []) (length before + 2) 2 (longer-by before (m ∷ p ∷ [])) refl
    ∙ ap (λ w. cond w false (applied (v ∷ []) (drop (length before + 2 - 2) (before ++ m ∷ p ∷ [])))) (le-ltb (length before + 2) 2 (omega arith))
    ∙ ap (λ z. applied (v ∷ []) (drop z (before ++ m ∷ p ∷ []))) (back (length before))
    ∙ ap (applied (v ∷ [])) (at-end before (m ∷ p ∷ []))
  where
    back : (n : ℕ) → n + 2 - 2 ≡ n
    back n = omega arith

-- several: the last two acts, and those before them
several-end : (w : List ℕ) (ws : List (List ℕ)) (v : List ℕ) (before : List Made) (m p : Made) → ends_applied ((w ∷ ws) ++ v ∷ []) (before ++ m ∷ p ∷ []) ≡ cond (ends_applied (w ∷ ws) before) (both v m p) false
several-end w ws v before m p =
    ends-by ((w ∷ ws) ++ v ∷ []) (before ++ m ∷ p ∷ []) (n + 2) (k + 2) (longer-by before (m ∷ p ∷ [])) (ap argument_acts (names-longer (w ∷ ws) (v ∷ [])) ∙ two-more (length ws))
    ∙ go (nat_lt n k) refl
    ∙ sym (ap (λ z. cond z (both v m p) false) (ends-by (w ∷ ws) before n k refl refl))
  where
    n : ℕ
    n = length before

    k : ℕ
    k = argument_acts (suc (length ws))

    two-more : (c : ℕ) → argument_acts (suc c + 1) ≡ argument_acts (suc c) + 2
    two-more c = omega arith

    less : (n k : ℕ) → n < k → n + 2 < k + 2
    less n k h = omega arith

    least : (n k : ℕ) → k ≤ n → k + 2 ≤ n + 2
    least n k h = omega arith

    back : (n k : ℕ) → n + 2 - (k + 2) ≡ n - k
    back n k = omega arith

    below : (n k : ℕ) → n - k ≤ n
    below n k = omega arith

    so-many : (n c : ℕ) → argument_acts (suc c) ≤ n → n - (n - argument_acts (suc c)) ≡ suc c + suc c
    so-many n c h = omega arith

    go : (b : Bool) → nat_lt n k ≡ b → cond (nat_lt (n + 2) (k + 2)) false (applied ((w ∷ ws) ++ v ∷ []) (drop (n + 2 - (k + 2)) (before ++ m ∷ p ∷ []))) ≡ cond (cond (nat_lt n k) false (applied (w ∷ ws) (drop (n - k) before))) (both v m p) false
    go true h =
        ap (λ b. cond b false (applied ((w ∷ ws) ++ v ∷ []) (drop (n + 2 - (k + 2)) (before ++ m ∷ p ∷ [])))) (lt-ltb (n + 2) (k + 2) (less n k (ltb-true n k h)))
        ∙ sym (ap (λ b. cond (cond b false (applied (w ∷ ws) (drop (n - k) before))) (both v m p) false) h)
    go false h =
        ap (λ b. cond b false (applied ((w ∷ ws) ++ v ∷ []) (drop (n + 2 - (k + 2)) (before ++ m ∷ p ∷ [])))) (le-ltb (n + 2) (k + 2) (least n k (ltb-false n k h)))
        ∙ ap (λ z. applied ((w ∷ ws) ++ v ∷ []) (drop z (before ++ m ∷ p ∷ []))) (back n k)
        ∙ ap (applied ((w ∷ ws) ++ v ∷ [])) (drop-front (n - k) before (m ∷ p ∷ []) (below n k))
        ∙ applied-last w ws v (drop (n - k) before) m p (drop-length (n - k) before ∙ so-many n (length ws) (ltb-false n k h))
        ∙ sym (ap (λ b. cond (cond b false (applied (w ∷ ws) (drop (n - k) before))) (both v m p) false) h)

-- names of variables, from the last one on
data Names : List (List ℕ) → Type 0 where
  nothing : Names []
  alone : (v : List ℕ) → Names (v ∷ [])
  several : (w : List ℕ) (ws : List (List ℕ)) (v : List ℕ) → Names ((w ∷ ws) ++ v ∷ [])

names : (vars : List (List ℕ)) → Names vars
names [] = nothing
names (v ∷ vars) = go (names vars)
  where
    go : {vars : List (List ℕ)} → Names vars → Names (v ∷ vars)
    go nothing = alone v
    go (alone u) = several v [] u
    go (several w ws u) = several v (w ∷ ws) u

-- arguments that are variables, from the last one on
and-true : (b : Bool) → (b && true) ≡ b
and-true true = refl
and-true false = refl

and-false : (b : Bool) → (b && false) ≡ false
and-false true = refl
and-false false = refl

no-names : (xs : List Ty) (x : Ty) → are_variables [] (xs ++ x ∷ []) ≡ false
no-names [] x = refl
no-names (z ∷ xs) x = refl

no-types : (vs : List (List ℕ)) (v : List ℕ) → are_variables (vs ++ v ∷ []) [] ≡ false
no-types [] v = refl
no-types (w ∷ vs) v = refl

are-last : (vs : List (List ℕ)) (xs : List Ty) (v : List ℕ) (x : Ty) → are_variables (vs ++ v ∷ []) (xs ++ x ∷ []) ≡ cond (are_variables vs xs) (is_variable v (form_of_ty x)) false
are-last [] [] v x = and-true (is_variable v (form_of_ty x))
are-last [] (z ∷ xs) v x = ap (λ b. is_variable v (form_of_ty z) && b) (no-names xs x) ∙ and-false (is_variable v (form_of_ty z))
are-last (w ∷ vs) [] v x = ap (λ b. is_variable w (form_of_ty x) && b) (no-types vs v) ∙ and-false (is_variable w (form_of_ty x))
are-last (w ∷ vs) (z ∷ xs) v x = go (is_variable w (form_of_ty z)) (are-last vs xs v x)
  where
    go : (b : Bool) → are_variables (vs ++ v ∷ []) (xs ++ x ∷ []) ≡ cond (are_variables vs xs) (is_variable v (form_of_ty x)) false →
        (b && are_variables (vs ++ v ∷ []) (xs ++ x ∷ [])) ≡ cond (b && are_variables vs xs) (is_variable v (form_of_ty x)) false
    go true h = h
    go false h = refl

-- the acts of arguments
data Args : List Ty → List Made → Type 0 where
  first_of_all : (x : Ty) (n : List Made) (to : ℕ) → Shape x n → Args (x ∷ []) (n ++ made (a.Ty y.First) to ∷ [])
  next_one : (xs : List Ty) (acts : List Made) (x : Ty) (n : List Made) (to : ℕ) → Args xs acts → Shape x n → Args (xs ++ x ∷ []) (acts ++ (n ++ made (a.Ty y.Push) to ∷ []))

-- the last act of an argument and the one behind it
record Last (x : Ty) (before n : List Made) (p : Made) : Type 0 where
  front : List Made
  act : Made
  split : before ++ (n ++ p ∷ []) ≡ front ++ act ∷ p ∷ []
  name : (v : List ℕ) → same_name v (var_of act.act) ≡ is_variable v (form_of_ty x)
  whole : (front ≡ before) ⊎ ((v : List ℕ) → is_variable v (form_of_ty x) ≡ false)

last-of : {x : Ty} {n : List Made} (before : List Made) (p : Made) → Shape x n → Last x before n p
unfolding var_of
last-of before p (variable x from to name e) = record {
  front = before;
  act = made (a.Ty (y.Var from name)) to;
  split = refl;
  name = λ v. sym (ap (is_variable v) e);
  whole = inl refl;
}
last-of before p (composed x b act to f e) = record {
  front = before ++ b;
  act = made (a.Ty act) to;
  split = ap (λ z. before ++ z) (append_assoc b (made (a.Ty act) to ∷ []) (p ∷ [])) ∙ sym (append_assoc before b (made (a.Ty act) to ∷ p ∷ []));
  name = λ v. ap (same_name v) e ∙ sym (f v);
  whole = inr f;
}

some-arguments : {xs : List Ty} {acts : List Made} → Args xs acts → are_variables [] xs ≡ false
some-arguments (first_of_all x n to s) = refl
some-arguments (next_one xs acts x n to d s) = no-names xs x

never : (b : Bool) → cond b false false ≡ false
never true = refl
never false = refl

-- behind the first argument
behind-first : (x : Ty) (before n : List Made) (to : ℕ) → Last x before n (made (a.Ty y.First) to) → {vars : List (List ℕ)} → Names vars → ends_applied vars (before ++ (n ++ made (a.Ty y.First) to ∷ [])) ≡ are_variables vars (x ∷ [])
unfolding is_none is_first is_push
behind-first x before n to l nothing = ap (ends_applied []) (l.split ∙ sym (append_assoc l.front (l.act ∷ []) (made (a.Ty y.First) to ∷ []))) ∙ none-ends (l.front ++ l.act ∷ []) (made (a.Ty y.First) to)
behind-first x before n to l (alone v) =
    ap (ends_applied (v ∷ [])) l.split ∙ one-ends v l.front l.act (made (a.Ty y.First) to)
    ∙ go (same_name v (var_of l.act.act)) ∙ ap (λ b. b && true) (l.name v)
  where
    go : (b : Bool) → cond b true false ≡ (b && true)
    go true = refl
    go false = refl
behind-first x before n to l (several w ws v) =
    ap (ends_applied ((w ∷ ws) ++ v ∷ [])) l.split ∙ several-end w ws v l.front l.act (made (a.Ty y.First) to)
    ∙ ap (λ z. cond (ends_applied (w ∷ ws) l.front) z false) (never (same_name v (var_of l.act.act))) ∙ never (ends_applied (w ∷ ws) l.front)
    ∙ sym (are-last (w ∷ ws) [] v x)

-- behind a later one
behind-next : (xs : List Ty) (acts : List Made) (x : Ty) (before n : List Made) (to : ℕ) → are_variables [] xs ≡ false → Last x (before ++ acts) n (made (a.Ty y.Push) to) →
    ((vars : List (List ℕ)) → ends_applied vars (before ++ acts) ≡ are_variables vars xs) →
    {vars : List (List ℕ)} → Names vars → ends_applied vars ((before ++ acts) ++ (n ++ made (a.Ty y.Push) to ∷ [])) ≡ are_variables vars (xs ++ x ∷ [])
unfolding is_none is_first is_push
behind-next xs acts x before n to some l earlier nothing =
    ap (ends_applied []) (l.split ∙ sym (append_assoc l.front (l.act ∷ []) (made (a.Ty y.Push) to ∷ []))) ∙ none-ends (l.front ++ l.act ∷ []) (made (a.Ty y.Push) to) ∙ sym (no-names xs x)
behind-next xs acts x before n to some l earlier (alone v) =
    ap (ends_applied (v ∷ [])) l.split ∙ one-ends v l.front l.act (made (a.Ty y.Push) to) ∙ never (same_name v (var_of l.act.act))
    ∙ sym (are-last [] xs v x ∙ ap (λ b. cond b (is_variable v (form_of_ty x)) false) some)
behind-next xs acts x before n to some l earlier (several w ws v) =
    ap (ends_applied ((w ∷ ws) ++ v ∷ [])) l.split ∙ several-end w ws v l.front l.act (made (a.Ty y.Push) to)
    ∙ ap (λ z. cond (ends_applied (w ∷ ws) l.front) (cond z true false) false) (l.name v) ∙ go l.whole ∙ sym (are-last (w ∷ ws) xs v x)
  where
    plain : (b : Bool) → cond b true false ≡ b
    plain true = refl
    plain false = refl

    go : (l.front ≡ before ++ acts) ⊎ ((v : List ℕ) → is_variable v (form_of_ty x) ≡ false) → cond (ends_applied (w ∷ ws) l.front) (cond (is_variable v (form_of_ty x)) true false) false ≡ cond (are_variables (w ∷ ws) xs) (is_variable v (form_of_ty x)) false
    go (inl e) = ap (λ z. cond (ends_applied (w ∷ ws) z) (cond (is_variable v (form_of_ty x)) true false) false) e ∙ ap (λ z. cond z (cond (is_variable v (form_of_ty x)) true false) false) (earlier (w ∷ ws)) ∙ ap (λ z. cond (are_variables (w ∷ ws) xs) z false) (plain (is_variable v (form_of_ty x)))
    go (inr f) = ap (λ z. cond (ends_applied (w ∷ ws) l.front) (cond z true false) false) (f v) ∙ never (ends_applied (w ∷ ws) l.front) ∙ sym (ap (λ z. cond (are_variables (w ∷ ws) xs) z false) (f v) ∙ never (are_variables (w ∷ ws) xs))

told : {xs : List Ty} {acts : List Made} → Args xs acts → (vars : List (List ℕ)) (before : List Made) → ends_applied vars (before ++ acts) ≡ are_variables vars xs
told (first_of_all x n to s) vars before = behind-first x before n to (last-of before (made (a.Ty y.First) to) s) (names vars)
told (next_one xs acts x n to d s) vars before =
    ap (ends_applied vars) (sym (append_assoc before acts (n ++ made (a.Ty y.Push) to ∷ [])))
    ∙ behind-next xs acts x before n to (some-arguments d) (last-of (before ++ acts) (made (a.Ty y.Push) to) s) (λ vs. told d vs before) (names vars)

arguments-of : {xs ys : List Ty} {acts m : List Made} {us : List Token} {ms : List Found} → Args xs acts → Tells (g.tys true) 0 us (g.tys_tree ys) ms m → Args (xs ++ ys) (acts ++ m)
arguments-of {xs = xs} {acts = acts} d (t.tys_one {ts = ts} {one = one} {n1 = n1} f) = next_one xs acts one n1 (last_of ts) d (shaped f)
arguments-of {xs = xs} {acts = acts} d (t.tys_more {ts = ts} {one = one} {more = more} {n1 = n1} {n2 = n2} comma f h k) =
    subst (λ z. Args z (acts ++ (n1 ++ (made (a.Ty y.Push) (last_of ts) ∷ n2)))) (append_assoc xs (one ∷ []) more)
    (subst (λ z. Args ((xs ++ one ∷ []) ++ more) z) (append_assoc acts (n1 ++ made (a.Ty y.Push) (last_of ts) ∷ []) n2 ∙ ap (λ z. acts ++ z) (append_assoc n1 (made (a.Ty y.Push) (last_of ts) ∷ []) n2))
    (arguments-of (next_one xs acts one n1 (last_of ts) d (shaped f)) k))

-- no arguments
data Ending : List Made → Type 0 where
  empty : Ending []
  ending : (acts : List Made) (m : Made) → Ending (acts ++ m ∷ [])

endings : (acts : List Made) → Ending acts
endings [] = empty
endings (x ∷ acts) = go (endings acts)
  where
    go : {acts : List Made} → Ending acts → Ending (x ∷ acts)
    go empty = ending [] x
    go (ending acts m) = ending (x ∷ acts) m

too-short : (w : List ℕ) (ws : List (List ℕ)) (p : Made) → ends_applied (w ∷ ws) (p ∷ []) ≡ false
too-short w ws p = ends-by (w ∷ ws) (p ∷ []) 1 (argument_acts (suc (length ws))) refl refl ∙ ap (λ b. cond b false (applied (w ∷ ws) (drop (1 - argument_acts (suc (length ws))) (p ∷ [])))) (lt-ltb 1 (argument_acts (suc (length ws))) (omega arith))

behind-none : (to : ℕ) {before : List Made} → Ending before → {vars : List (List ℕ)} → Names vars → ends_applied vars (before ++ made (a.Ty y.NoTys) to ∷ []) ≡ are_variables vars []
unfolding is_none is_first is_push
behind-none to {before} q nothing = none-ends before (made (a.Ty y.NoTys) to)
behind-none to empty (alone v) = too-short v [] (made (a.Ty y.NoTys) to)
behind-none to empty (several w ws v) = too-short w (ws ++ v ∷ []) (made (a.Ty y.NoTys) to)
behind-none to (ending acts m) (alone v) = ap (ends_applied (v ∷ [])) (append_assoc acts (m ∷ []) (made (a.Ty y.NoTys) to ∷ [])) ∙ one-ends v acts m (made (a.Ty y.NoTys) to) ∙ never (same_name v (var_of m.act))
behind-none to (ending acts m) (several w ws v) =
    ap (ends_applied ((w ∷ ws) ++ v ∷ [])) (append_assoc acts (m ∷ []) (made (a.Ty y.NoTys) to ∷ [])) ∙ several-end w ws v acts m (made (a.Ty y.NoTys) to)
    ∙ ap (λ z. cond (ends_applied (w ∷ ws) acts) z false) (never (same_name v (var_of m.act))) ∙ never (ends_applied (w ∷ ws) acts)

pub arguments-told : ArgumentsTold
arguments-told = record {
  no_arguments = λ vars before to. behind-none to (endings before) (names vars);
  one_argument = λ d vars before to. told (first_of_all _ _ to (shaped d)) vars before;
  arguments = λ {ts} {us} {x} {xs} {ls} {ms} {n} {m} d f vars before to.
      ap (λ z. ends_applied vars (before ++ z)) (sym (append_assoc n (made (a.Ty y.First) to ∷ []) m)) ∙ told (arguments-of (first_of_all x n to (shaped d)) f) vars before;
}
