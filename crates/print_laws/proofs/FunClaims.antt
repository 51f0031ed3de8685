-- What is printed of functions by clauses is read as the same functions again.
use Rattle.std.proofs.Common.{append-nil, ◌≡◌, ℕ, zero, suc, ◌-◌, List, [], ◌∷◌, ◌++◌, length, refl, ap, sym, ◌∙◌, subst, map, arith}
use Rattle.std.specs.Prelude.{codes, flat_map, cond, nat_lt, Bool, true, false, decimal}
use Rattle.std.proofs.lemmas.Fmt.{decimal_digit}
use Rattle.std.proofs.lemmas.Bool.{lt-ltb}
use Rattle.sml_syntax.specs.declared.token.Token.{Token}
use Rattle.sml_syntax.specs.declared.token.TokenForm.TheVariants as f
use Rattle.sml_syntax.specs.declared.tree.Span.{Span}
use Rattle.sml_syntax.specs.declared.tree.Pat.{Pat}
use Rattle.sml_syntax.specs.declared.tree.PatForm.TheVariants as p
use Rattle.sml_syntax.specs.declared.tree.Rule.{Rule}
use Rattle.sml_syntax.specs.declared.tree.Exp.{Exp}
use Rattle.sml_syntax.specs.declared.tree.ExpForm.TheVariants as e
use Rattle.sml_syntax.specs.declared.tree.DecForm.TheVariants as d
use Rattle.grammar_rules.specs.Programs.{Each}
use Rattle.sml_syntax.specs.Layers.{form_of_pat}
use Rattle.grammar_rules.specs.Nodes.{exp_at, pat_at, dec_at, rule_of, extent, clause_pat, numbers, nested, curried, function_rules, number_rule}
use Rattle.grammar_rules.specs.Grammar.{Is, exp_tree, exps_tree, rule_tree, rules_tree, recs_tree, pat_tree, pats_tree, dec_tree, atpat, atpats, clause, clauses, funs, dec, atpats_none, atpats_more, clause_plain, clauses_last, clauses_more, funs_one, funs_more, dec_fun}
use Rattle.print_laws.specs.SameTree.{Same, same_name, same_tuple, same_fn, same_case, no_exps, more_exps, same_rule, no_rules, more_rules, same_pat_name, same_pat_tuple, no_pats, more_pats, no_recs, more_recs, same_rec}
use Rattle.print_laws.specs.Printing.{Forms, Ink, RuleInk, Clause, parted, alternatives, head_forms, put_pat, body_forms, exp_part, exp_ink, rule_ink, clause_of, one_clause, several_clause, patterns_in, is_number, begins_number, inner_clauses, function_forms}
use Rattle.print_laws.proofs.Lists.{parted_map, alternatives_map}
use Rattle.print_laws.proofs.Bearing.{At, word, both, bin}
use Rattle.print_laws.proofs.Made.{ink-Fn, ink-Case, ink-rule, form-Tuple, form-Name, dec-ValRec}
use Rattle.print_laws.proofs.Claims.{Of, Many, PatClaim, ExpClaim, IsHead, head_at, mark, parted_at, alternatives_at, row_at, each_map}
use Rattle.print_laws.proofs.PatternClaims.{alone_at}
use Rattle.print_laws.proofs.ExpClaims.{Ends, BodyOf, body_at}
use Rattle.print_laws.proofs.DecClaims.{DecClaim}

-- the derived form of several patterns is the same at each span
same_numbers : (s r : Span) (first count : ℕ) → Same (exps_tree (numbers s first count)) (exps_tree (numbers r first count))
unfolding numbers
same_numbers s r first zero = no_exps
same_numbers s r first (suc n) = more_exps (same_name s r (decimal first)) (same_numbers s r (suc first) n)

same_number_rule : (s r : Span) (n : ℕ) (x y : Exp) → Same (exp_tree x) (exp_tree y) → Same (rule_tree (number_rule s n x)) (rule_tree (number_rule r n y))
same_number_rule s r n x y h = same_rule (same_pat_name s r (decimal n)) h

same_nested : (s r : Span) (first count : ℕ) (x y : Exp) → Same (exp_tree x) (exp_tree y) → Same (exp_tree (nested s first count x)) (exp_tree (nested r first count y))
unfolding nested
same_nested s r first zero x y h = h
same_nested s r first (suc n) x y h = same_fn s r (more_rules (same_number_rule s r first (nested s (suc first) n x) (nested r (suc first) n y) (same_nested s r (suc first) n x y h)) no_rules)

same_curried : (s r : Span) (count : ℕ) (rs qs : List Rule) → Same (rules_tree rs) (rules_tree qs) → Same (rule_tree (curried s count rs)) (rule_tree (curried r count qs))
unfolding curried
same_curried s r count rs qs h = same_number_rule s r 1 _ _ (same_nested s r 2 (count - 1) _ _ (same_case s r (same_tuple s r (same_numbers s r 1 count)) h))

same_function : (s r : Span) (count : ℕ) (rs qs : List Rule) → Same (rules_tree rs) (rules_tree qs) → Same (rules_tree (function_rules s count rs)) (rules_tree (function_rules r count qs))
same_function s r count rs qs h = go (nat_lt 1 count)
  where
    go : (b : Bool) → Same (rules_tree (cond b (curried s count rs ∷ []) rs)) (rules_tree (cond b (curried r count qs ∷ []) qs))
    go true = more_rules (same_curried s r count rs qs h) no_rules
    go false = h

-- the clauses in the derived form
nested_clauses : (s : Span) (first count : ℕ) (x : Exp) → (exp_ink (nested s first count x)).clauses ≡ (exp_ink x).clauses
unfolding nested
nested_clauses s first zero x = refl
nested_clauses s first (suc n) x =
    ap (λ (i : Ink). i.clauses) (ink-Fn s (number_rule s first (nested s (suc first) n x) ∷ []))
    ∙ (ap (λ (r : RuleInk). r.body.clauses) (ink-rule (pat_at s (p.Name (decimal first))) (nested s (suc first) n x))
    ∙ nested_clauses s (suc first) n x)

pub curried_ink : (s : Span) (count : ℕ) (rs : List Rule) → (rule_ink (curried s count rs)).body.clauses ≡ map clause_of (map rule_ink rs)
unfolding curried
curried_ink s count rs =
    ap (λ (r : RuleInk). r.body.clauses) (ink-rule (pat_at s (p.Name (decimal 1))) (nested s 2 (count - 1) (exp_at s (e.Case (exp_at s (e.Tuple (numbers s 1 count))) rs))))
    ∙ (nested_clauses s 2 (count - 1) (exp_at s (e.Case (exp_at s (e.Tuple (numbers s 1 count))) rs))
    ∙ ap (λ (i : Ink). i.clauses) (ink-Case s (exp_at s (e.Tuple (numbers s 1 count))) rs))

pub curried_number : (s : Span) (count : ℕ) (rs : List Rule) → is_number (form_of_pat (rule_ink (curried s count rs)).pat) ≡ true
unfolding curried
curried_number s count rs =
    ap (λ (r : RuleInk). is_number (form_of_pat r.pat)) (ink-rule (pat_at s (p.Name (decimal 1))) (nested s 2 (count - 1) (exp_at s (e.Case (exp_at s (e.Tuple (numbers s 1 count))) rs))))
    ∙ (ap is_number (form-Name s (decimal 1)) ∙ ap begins_number (decimal_digit 1 (omega arith)))

-- clauses
pub record ClauseClaim (name : List ℕ) (count : ℕ) (r : Rule) : Type 0 where
  pub span : Span
  pub first : Pat
  pub more : List Pat
  pub body : Exp
  pub is : rule_of (clause_pat span first more) body ≡ r
  pub count_is : suc (length more) ≡ count
  pub pats_claim : Each PatClaim (first ∷ more)
  pub exp_claim : ExpClaim body

-- the row of a clause's patterns, whose pattern is the same at each span
abbrev Row : Pat → List Pat → List Token → Type 0
Row x xs ts = (y : Pat) × (ys : List Pat) × Is (atpats (suc (length xs))) ts (pats_tree (y ∷ ys)) [] × ((s r : Span) → Same (pat_tree (clause_pat s x xs)) (pat_tree (clause_pat r y ys)))

abbrev Rows : List Pat → List Token → Type 0
Rows xs ts = (ys : List Pat) × Is (atpats (length xs)) ts (pats_tree ys) [] × Same (pats_tree xs) (pats_tree ys)

abbrev ManyRows : Pat → List Pat → List Token → Type 0
ManyRows x xs ts = (y : Pat) × (ys : List Pat) × Is (atpats (suc (length xs))) ts (pats_tree (y ∷ ys)) [] × Same (pats_tree (x ∷ xs)) (pats_tree (y ∷ ys))

rows_at : (xs : List Pat) → Each PatClaim xs → At (Rows xs) (flat_map (put_pat 3) xs)
rows_at xs h = row_at (put_pat 3) (Of pat_tree atpat) Rows ([], atpats_none, no_pats) (λ x xs ts us q r. (q.0 ∷ r.0, atpats_more q.1 r.1, more_pats q.2 r.2))
    xs (each_map PatClaim (λ x. At (Of pat_tree atpat x) (put_pat 3 x)) alone_at xs h)

many_rows_at : (x : Pat) (xs : List Pat) → Each PatClaim (x ∷ xs) → At (ManyRows x xs) (flat_map (put_pat 3) (x ∷ xs))
many_rows_at x xs h = both (Of pat_tree atpat x) (Rows xs) (ManyRows x xs) (put_pat 3 x) (flat_map (put_pat 3) xs) (λ ts us q r. (q.0, r.0, atpats_more q.1 r.1, more_pats q.2 r.2)) (alone_at x h.0) (rows_at xs h.1)

one_row : (x : Pat) → PatClaim x → At (Row x []) (put_pat 3 x)
one_row x h = λ ts b. let q = alone_at x h ts b in (q.0, [], subst (λ z. Is (atpats 1) z (pats_tree (q.0 ∷ [])) []) (append-nil ts) (atpats_more q.1 atpats_none), λ s r. q.2)

several_row : (x y : Pat) (ys : List Pat) → Each PatClaim (x ∷ y ∷ ys) → At (Row x (y ∷ ys)) (flat_map (put_pat 3) (x ∷ y ∷ ys))
several_row x y ys h = both (Of pat_tree atpat x) (ManyRows y ys) (Row x (y ∷ ys)) (put_pat 3 x) (flat_map (put_pat 3) (y ∷ ys)) (λ ts us q r. (q.0, r.0 ∷ r.1, atpats_more q.1 r.2, λ s t. same_pat_tuple s t (more_pats q.2 r.3))) (alone_at x h.0) (many_rows_at y ys h.1)

-- a clause, the last one or one before a bar
abbrev ClauseOf : List ℕ → ℕ → Bool → Rule → List Token → Type 0
ClauseOf name count last r ts = (o : Bool) × Ends last o × Of rule_tree (clause name count o) r ts

clause_at : (name : List ℕ) (last : Bool) (s : Span) (x : Pat) (xs : List Pat) (b : Exp) (P : Forms) → At (Row x xs) P → ExpClaim b → At (ClauseOf name (suc (length xs)) last (rule_of (clause_pat s x xs) b)) ((head_forms name ++ P) ++ f.Mark (codes "=") ∷ body_forms last (exp_part b))
clause_at name last s x xs b P row c = bin Left (BodyOf last b) S (head_forms name ++ P) (f.Mark (codes "=")) (body_forms last (exp_part b))
    (λ ts w us k q r. subst (λ z. S (z ++ w ∷ us)) (sym q.2)
    (r.0, r.1, (rule_of (clause_pat (extent ((q.0 ++ q.1) ++ w ∷ us)) q.4.0 q.4.1) r.2.0, clause_plain w q.3.1 q.4.2 (mark k) r.2.1, same_rule (q.4.3 s (extent ((q.0 ++ q.1) ++ w ∷ us))) r.2.2)))
    (both (IsHead name) (Row x xs) Left (head_forms name) P (λ ts us q r. (ts, us, refl, q, r)) (head_at name) row) (body_at last b (exp_part b) c.0)
  where
    Left : List Token → Type 0
    Left us = (ts : List Token) × (vs : List Token) × (us ≡ ts ++ vs) × IsHead name ts × Row x xs vs

    S : List Token → Type 0
    S = ClauseOf name (suc (length xs)) last (rule_of (clause_pat s x xs) b)

-- a clause of one pattern, and one of several
one_at : (name : List ℕ) (r : Rule) → ClauseClaim name 1 r → (last : Bool) → At (ClauseOf name 1 last r) (one_clause name last (clause_of (rule_ink r)))
one_at name r c last = subst (λ q. At (ClauseOf name 1 last q) (one_clause name last (clause_of (rule_ink q)))) c.is (go c.more c.count_is c.pats_claim)
  where
    go : (xs : List Pat) → suc (length xs) ≡ 1 → Each PatClaim (c.first ∷ xs) → At (ClauseOf name 1 last (rule_of (clause_pat c.span c.first xs) c.body)) (one_clause name last (clause_of (rule_ink (rule_of (clause_pat c.span c.first xs) c.body))))
    go [] h g = subst (λ (i : RuleInk). At (ClauseOf name 1 last (rule_of c.first c.body)) (one_clause name last (clause_of i))) (sym (ink-rule c.first c.body)) (clause_at name last c.span c.first [] c.body (put_pat 3 c.first) (one_row c.first g.0) c.exp_claim)
    go (x ∷ xs) h g = absurd (omega (arith, h))

several_at : (name : List ℕ) (n : ℕ) (r : Rule) → ClauseClaim name (suc (suc n)) r → (last : Bool) → At (ClauseOf name (suc (suc n)) last r) (several_clause name last (clause_of (rule_ink r)))
several_at name n r c last = subst (λ q. At (ClauseOf name (suc (suc n)) last q) (several_clause name last (clause_of (rule_ink q)))) c.is (go c.more c.count_is c.pats_claim)
  where
    go : (xs : List Pat) → suc (length xs) ≡ suc (suc n) → Each PatClaim (c.first ∷ xs) → At (ClauseOf name (suc (suc n)) last (rule_of (clause_pat c.span c.first xs) c.body)) (several_clause name last (clause_of (rule_ink (rule_of (clause_pat c.span c.first xs) c.body))))
    go [] h g = absurd (omega (arith, h))
    go (x ∷ xs) h g = subst (λ k. At (ClauseOf name k last (rule_of (clause_pat c.span c.first (x ∷ xs)) c.body)) (several_clause name last (clause_of (rule_ink (rule_of (clause_pat c.span c.first (x ∷ xs)) c.body))))) h
        (subst (λ (i : RuleInk). At (ClauseOf name (suc (length (x ∷ xs))) last (rule_of (clause_pat c.span c.first (x ∷ xs)) c.body)) (several_clause name last (clause_of i))) (sym (ink-rule (clause_pat c.span c.first (x ∷ xs)) c.body))
        (subst (λ P. At (ClauseOf name (suc (length (x ∷ xs))) last (rule_of (clause_pat c.span c.first (x ∷ xs)) c.body)) ((head_forms name ++ P) ++ f.Mark (codes "=") ∷ body_forms last (exp_part c.body))) (sym (ap patterns_in (form-Tuple c.span (c.first ∷ x ∷ xs))))
        (clause_at name last c.span c.first (x ∷ xs) c.body (flat_map (put_pat 3) (c.first ∷ x ∷ xs)) (several_row c.first x xs g) c.exp_claim)))

-- all clauses of a function
clauses_by : (name : List ℕ) (count : ℕ) (g : Bool → Clause → Forms) → ((r : Rule) → ClauseClaim name count r → (last : Bool) → At (ClauseOf name count last r) (g last (clause_of (rule_ink r)))) → (r : Rule) (rs : List Rule) → Each (ClauseClaim name count) (r ∷ rs) → At (Many rules_tree (clauses name count) (r ∷ rs)) (alternatives g (map clause_of (map rule_ink (r ∷ rs))))
clauses_by name count g k r rs h =
    subst (At (Many rules_tree (clauses name count) (r ∷ rs))) (sym (alternatives_map g clause_of (map rule_ink (r ∷ rs)) ∙ alternatives_map (λ last i. g last (clause_of i)) rule_ink (r ∷ rs)))
    (alternatives_at (λ last q. g last (clause_of (rule_ink q))) (ClauseOf name count) (Many rules_tree (clauses name count))
    (λ y ts q. (q.2.0, [], clauses_last q.2.1, more_rules q.2.2 no_rules))
    (λ y z zs ts w us e q t. (q.2.0, t.0 ∷ t.1, clauses_more w (subst (λ o. Is (clause name count o) ts (rule_tree q.2.0) []) (q.1 refl) q.2.1) (mark e) t.2, more_rules q.2.2 t.3))
    r rs (each_map (ClauseClaim name count) (λ q. (last : Bool) → At (ClauseOf name count last q) (g last (clause_of (rule_ink q)))) k (r ∷ rs) h))

-- a function: some clauses whose rules are the same
abbrev FunOf : List ℕ × List Rule → List Token → Type 0
FunOf fun ts = (count : ℕ) × (q : Rule) × (qs : List Rule) × Is (clauses fun.0 count) ts (rules_tree (q ∷ qs)) [] × Same (rules_tree fun.1) (rules_tree (function_rules (extent ts) count (q ∷ qs)))

pub record FunClaim (fun : List ℕ × List Rule) : Type 0 where
  pub span : Span
  pub count : ℕ
  pub rule : Rule
  pub rules : List Rule
  pub is : (fun.0, function_rules span count (rule ∷ rules)) ≡ fun
  pub plain : is_number (form_of_pat (rule_ink rule).pat) ≡ false
  pub clause_claims : Each (ClauseClaim fun.0 count) (rule ∷ rules)

fun_at : (name : List ℕ) (s : Span) (count : ℕ) (r : Rule) (rs : List Rule) → is_number (form_of_pat (rule_ink r).pat) ≡ false → Each (ClauseClaim name count) (r ∷ rs) → At (FunOf (name, function_rules s count (r ∷ rs))) (function_forms (name, map rule_ink (function_rules s count (r ∷ rs))))
fun_at name s zero r rs h g = absurd (none_of g.0)
  where
    none_of : ClauseClaim name 0 r → ⊥
    none_of c = omega (arith, c.count_is)
fun_at name s (suc zero) r rs h g =
    subst (At (FunOf (name, r ∷ rs))) (sym (ap (λ b. cond b (alternatives (several_clause name) (inner_clauses (map rule_ink (r ∷ rs)))) (alternatives (λ last q. one_clause name last (clause_of q)) (map rule_ink (r ∷ rs)))) h))
    (subst (At (FunOf (name, r ∷ rs))) (alternatives_map (one_clause name) clause_of (map rule_ink (r ∷ rs)))
    (λ ts b. let q = clauses_by name 1 (one_clause name) (one_at name) r rs g ts b in (1, q.0, q.1, q.2, q.3)))
fun_at name s (suc (suc n)) r rs h g =
    subst (λ b. At (FunOf (name, cond b (curried s (suc (suc n)) (r ∷ rs) ∷ []) (r ∷ rs))) (function_forms (name, map rule_ink (cond b (curried s (suc (suc n)) (r ∷ rs) ∷ []) (r ∷ rs))))) (sym more)
    (subst (At (FunOf (name, curried s (suc (suc n)) (r ∷ rs) ∷ []))) (sym shown)
    (λ ts b. let q = clauses_by name (suc (suc n)) (several_clause name) (several_at name n) r rs g ts b in
    (suc (suc n), q.0, q.1, q.2, subst (λ b. Same (rules_tree (curried s (suc (suc n)) (r ∷ rs) ∷ [])) (rules_tree (cond b (curried (extent ts) (suc (suc n)) (q.0 ∷ q.1) ∷ []) (q.0 ∷ q.1)))) (sym more) (more_rules (same_curried s (extent ts) (suc (suc n)) (r ∷ rs) (q.0 ∷ q.1) q.3) no_rules))))
  where
    more : nat_lt 1 (suc (suc n)) ≡ true
    more = lt-ltb 1 (suc (suc n)) (omega arith)

    shown : function_forms (name, map rule_ink (curried s (suc (suc n)) (r ∷ rs) ∷ [])) ≡ alternatives (several_clause name) (map clause_of (map rule_ink (r ∷ rs)))
    shown = ap (λ b. cond b (alternatives (several_clause name) (rule_ink (curried s (suc (suc n)) (r ∷ rs))).body.clauses) (alternatives (λ last q. one_clause name last (clause_of q)) (rule_ink (curried s (suc (suc n)) (r ∷ rs)) ∷ []))) (curried_number s (suc (suc n)) (r ∷ rs))
        ∙ ap (alternatives (several_clause name)) (curried_ink s (suc (suc n)) (r ∷ rs))

fun_claim_at : (fun : List ℕ × List Rule) → FunClaim fun → At (FunOf fun) (function_forms (fun.0, map rule_ink fun.1))
fun_claim_at fun c = subst (λ (g : List ℕ × List Rule). At (FunOf g) (function_forms (g.0, map rule_ink g.1))) c.is (fun_at fun.0 c.span c.count c.rule c.rules c.plain c.clause_claims)

funs_at : (g : List ℕ × List Rule) (gs : List (List ℕ × List Rule)) → Each FunClaim (g ∷ gs) → At (Many recs_tree funs (g ∷ gs)) (parted (codes "and") (λ (g : List ℕ × List Rule). function_forms (g.0, map rule_ink g.1)) (g ∷ gs))
funs_at g gs h = parted_at (λ (g : List ℕ × List Rule). function_forms (g.0, map rule_ink g.1)) (codes "and") FunOf (Many recs_tree funs)
    (λ y ts q. ((y.0, function_rules (extent ts) q.0 (q.1 ∷ q.2)), [], funs_one q.3, more_recs y.0 q.4 no_recs))
    (λ y z zs ts w us e q r. ((y.0, function_rules (extent ts) q.0 (q.1 ∷ q.2)), r.0 ∷ r.1, funs_more w q.3 (mark e) r.2, more_recs y.0 q.4 r.3))
    g gs (each_map FunClaim (λ g. At (FunOf g) (function_forms (g.0, map rule_ink g.1))) fun_claim_at (g ∷ gs) h)

pub rec_claim : (i : Bool) (s : Span) (g : List ℕ × List Rule) (gs : List (List ℕ × List Rule)) → Each FunClaim (g ∷ gs) → DecClaim i (dec_at s (d.ValRec (g ∷ gs)))
rec_claim i s g gs h = subst (At S) (sym (dec-ValRec s (g ∷ gs)))
    (word (Many recs_tree funs (g ∷ gs)) S (f.Mark (codes "fun")) (parted (codes "and") function_forms (map (λ (g : List ℕ × List Rule). (g.0, map rule_ink g.1)) (g ∷ gs)))
    (λ w ts k q. (dec_at (extent (w ∷ ts)) (d.ValRec (q.0 ∷ q.1)), dec_fun w (mark k) q.2, same_rec s (extent (w ∷ ts)) q.3))
    (subst (At (Many recs_tree funs (g ∷ gs))) (sym (parted_map (codes "and") function_forms (λ (g : List ℕ × List Rule). (g.0, map rule_ink g.1)) (g ∷ gs))) (funs_at g gs h)))
  where
    S : List Token → Type 0
    S = Of dec_tree (dec i) (dec_at s (d.ValRec (g ∷ gs)))
