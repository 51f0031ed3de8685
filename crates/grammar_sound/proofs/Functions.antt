-- Functions and their clauses: each entry of the table derives a form of the grammar.
use Rattle.std.proofs.Common.{◌≡◌, ◌+◌, ◌≤◌, ℕ, zero, suc, nat_le, nat_lt, List, [], ◌∷◌, ◌++◌, Bool, true, false, cond, Option, None, refl, ap, sym, ◌∙◌, subst, append_assoc, arith, codes}
use Rattle.std.proofs.lemmas.Bool.{leb-true, le-leb}
use Rattle.sml_syntax.specs.declared.token.Token.{Token}
use Rattle.grammar_rules.specs.Nodes.{pat_at, span_of, last_of}
use Rattle.sml_syntax.specs.declared.tree.PatForm.TheVariants as p
use Rattle.grammar_rules.specs.Grammar.{Is, IsMark, IsAnyName, IsTypeName, IsInfixName, atpat, atpats, clause, funs, head_name, head_op, atpat_name, atpats_none, atpats_more, clause_plain, clause_typed, clause_infix, clause_infix_typed, clauses_last, clauses_more, rule_tree}
use Rattle.sml_grammar.specs.declared.mark.Mark.{Mark}
use Rattle.sml_grammar.specs.declared.mark.Mark.TheVariants as m
use Rattle.sml_grammar.specs.declared.token_sort.TokenSort.{TokenSort}
use Rattle.sml_grammar.specs.declared.token_sort.TokenSort.TheVariants as o
use Rattle.sml_grammar.specs.declared.symbol.Sym.{Sym}
use Rattle.sml_grammar.specs.declared.symbol.Sym.TheVariants as s
use Rattle.sml_grammar.specs.declared.symbol.ExpPhrase.TheVariants as xp
use Rattle.sml_grammar.specs.declared.symbol.PatPhrase.TheVariants as pp
use Rattle.sml_grammar.specs.declared.symbol.TyPhrase.TheVariants as tp
use Rattle.sml_grammar.specs.declared.symbol.FunPhrase.{FunPhrase}
use Rattle.sml_grammar.specs.declared.symbol.FunPhrase.TheVariants as fp
use Rattle.sml_grammar.specs.declared.symbol.LaterPhrase.TheVariants as lp
use Rattle.sml_grammar.specs.declared.act.Act.TheVariants as a
use Rattle.sml_grammar.specs.declared.act.PatAct.TheVariants as pa
use Rattle.sml_grammar.specs.declared.act.DecAct.TheVariants as da
use Rattle.sml_grammar.specs.Marks.{same_mark, mark_number}
use Rattle.sml_grammar.specs.Sorts.{is_mark, begins_pat, begins_body, body_mark, is_type_name, is_any_name, is_infix_name, level_of}
use Rattle.sml_grammar.specs.Tokens.{text_of}
use Rattle.sml_grammar.specs.Takes.{tupled_take, body_take, end_take}
use Rattle.grammar_sound.specs.Exact.{exact_fun}
use Rattle.grammar_sound.proofs.Seen.{Seen, seen_mark, spelling, marked, type_name_of, any_name_of, infix_of}
use Rattle.grammar_sound.proofs.Sem.{Fulfils, reads, Split, parts, split, first_or, Ends, ExPat, ExPats, HeadOf, ExClause, ExClauses, empty, one_mark, ExprS, expr_s, AndRecs, no_recs, and_recs, ClauseBody, plain_body, typed_body, EqualsS, equals_s, ClauseTail, last_tail, more_tail, FunS, CountedPats, PatternsS, patterns_s, LaterS, no_later, a_later, last, nil}
use Rattle.grammar_sound.proofs.Fine.{Fine, takes, skips, fails, by_cond, Begun, begun, strip, Good, Quiet, fin, low}
use Rattle.grammar_sound.proofs.Expressions.{closed-bar}
use Rattle.grammar_sound.proofs.Rests.{strip_append, low_append}
use Rattle.grammar_sound.proofs.Patterns.{pat_start, atpat_began, atpat_good, atpat_low}
use Rattle.grammar_sound.proofs.Declarations.{funs_form}

pub over-clause : {name : List ℕ} {count : ℕ} {o : Bool} {ts us : List Token} → ts ≡ us → ExClause name count o ts → ExClause name count o us
over-clause {name} {count} {o} h d = subst (ExClause name count o) h d

over-clauses : {name : List ℕ} {count : ℕ} {ts us : List Token} → ts ≡ us → ExClauses name count ts → ExClauses name count us
over-clauses {name} {count} h d = subst (ExClauses name count) h d

-- clauses from their parts
pub plain_clause : {name : List ℕ} {o : Bool} (k : ℕ) (ts0 u : List Token) {b : List Token} → HeadOf name ts0 → ExPats (atpats (suc k)) u → ClauseBody o b → ExClause name (suc k) o (ts0 ++ (u ++ b))
plain_clause k ts0 u (place, h) (x, more, ls, d) (plain_body equals us i (y, ms, e)) =
    over-clause (append_assoc ts0 u (equals ∷ us)) (_, _, clause_plain equals h d i e)
plain_clause k ts0 u (place, h) (x, more, ls, d) (typed_body colon equals us ws i (t, ms, c) j (y, ns, e)) =
    over-clause (append_assoc (ts0 ++ u) (colon ∷ us) (equals ∷ ws) ∙ append_assoc ts0 u (colon ∷ us ++ equals ∷ ws)) (_, _, clause_typed colon equals h d i c j e)

pub infix_clause : {name : List ℕ} {o : Bool} (w : Token) (level : ℕ) (ts0 u : List Token) {b : List Token} → ExPat atpat ts0 → IsInfixName level name w → ExPat atpat u → ClauseBody o b → ExClause name 1 o (ts0 ++ w ∷ (u ++ b))
infix_clause w level ts0 u (x, ls, d) n (y, ms, k) (plain_body equals us i (z, ns, e)) =
    over-clause (append_assoc ts0 (w ∷ u) (equals ∷ us)) (_, _, clause_infix w equals d n k i e)
infix_clause w level ts0 u (x, ls, d) n (y, ms, k) (typed_body colon equals us ws i (t, ks, c) j (z, ns, e)) =
    over-clause (append_assoc (ts0 ++ w ∷ u) (colon ∷ us) (equals ∷ ws) ∙ append_assoc ts0 (w ∷ u) (colon ∷ us ++ equals ∷ ws)) (_, _, clause_infix_typed w colon equals d n k i c j e)

pub counted : (k : ℕ) (u us : List Token) → ExPat atpat u → CountedPats k us → ExPats (atpats (suc k)) (u ++ us)
counted zero u _ (x, ls, d) empty = (x, [], ls ++ [], atpats_more d atpats_none)
counted (suc k) u us (x, ls, d) (y, more, ms, e) = (x, y ∷ more, ls ++ ms, atpats_more d e)

-- a clause and the later ones
pub clauses-of : {name : List ℕ} {count : ℕ} (o : Bool) (ts0 : List Token) (z : Option TokenSort) {rest : List Token} → ExClause name count o ts0 → Ends o (first_or rest z) → LaterS name count z rest → ExClauses name count (ts0 ++ rest)
clauses-of o ts0 z (r, ls, d) ends (no_later h) = over-clauses (nil ts0) (r ∷ [], ls, clauses_last d)
clauses-of {name} {count} o ts0 z (r, ls, d) ends (a_later bar us i (rs, ms, k)) =
    (r ∷ rs, ls ++ ms, clauses_more bar (subst (λ (b : Bool). Is (clause name count b) ts0 (rule_tree r) ls) (closed-bar o bar i ends.no_bar) d) i k)

tail-of : {name : List ℕ} {count : ℕ} (ts : List Token) (z : Option TokenSort) {rest : List Token} → EqualsS ts (first_or rest z) → LaterS name count z rest → ClauseTail name count (ts ++ rest)
tail-of {name} {count} ts z (equals_s o b ends) (no_later h) = subst (ClauseTail name count) (nil ts) (last_tail o ts b)
tail-of {name} {count} ts z (equals_s o b ends) (a_later bar us i more) = more_tail bar ts us (subst (λ (c : Bool). ClauseBody c ts) (closed-bar o bar i ends.no_bar) b) i more

pub first-clauses : {name : List ℕ} (k : ℕ) (ts0 u : List Token) {rest : List Token} → HeadOf name ts0 → ExPats (atpats (suc k)) u → ClauseTail name (suc k) rest → ExClauses name (suc k) (ts0 ++ (u ++ rest))
first-clauses {name} k ts0 u h x (last_tail o us b) = let one : ExClause name (suc k) o (ts0 ++ (u ++ us)) = plain_clause k ts0 u h x b in (one.0 ∷ [], one.1, clauses_last one.2)
first-clauses {name} k ts0 u h x (more_tail bar us rest b i more) =
    let one : ExClause name (suc k) false (ts0 ++ (u ++ us)) = plain_clause k ts0 u h x b in
    over-clauses (append_assoc ts0 (u ++ us) (bar ∷ rest) ∙ ap (λ ts. ts0 ++ ts) (append_assoc u us (bar ∷ rest))) (one.0 ∷ more.0, one.1 ++ more.1, clauses_more bar one.2 i more.2)

-- the body of a clause
pub data BodyStart (w : Token) : TokenSort → Type 0 where
  start_colon : IsMark (codes ":") w → BodyStart w (o.Mark m.Colon)
  start_equal : IsMark (codes "=") w → BodyStart w (o.Mark m.Equal)

mark-body : (w : Token) (mark : Mark) → IsMark (spelling mark) w → body_mark mark ≡ true → BodyStart w (o.Mark mark)
unfolding body_mark same_mark mark_number
mark-body w m.Colon i h = start_colon i
mark-body w m.Equal i h = start_equal i
mark-body w _ i h = cc

pub body-start : (w : Token) (sort : TokenSort) → Seen w.form sort → begins_body sort ≡ true → BodyStart w sort
unfolding begins_body
body-start w _ (seen_mark mark e) h = mark-body w mark (record { is = e }) h
body-start w _ _ h = cc

tupled-strip : (count : ℕ) (R : List Sym) → strip (tupled_take count ++ R) ≡ strip R
unfolding tupled_take
tupled-strip count R = go (nat_lt 1 count)
  where
    go : (b : Bool) → strip (cond b (s.Do (a.Pat pa.Tupled) ∷ []) [] ++ R) ≡ strip R
    go true = refl
    go false = refl

tupled-good : (count : ℕ) (R : List Sym) → Good R → Good (tupled_take count ++ R)
unfolding tupled_take
tupled-good count R g = go (nat_lt 1 count)
  where
    go : (b : Bool) → Good (cond b (s.Do (a.Pat pa.Tupled) ∷ []) [] ++ R)
    go true = g
    go false = g

tupled-low : (count n : ℕ) (R : List Sym) → low n R ≡ true → low n (tupled_take count ++ R) ≡ true
unfolding tupled_take
tupled-low count n R g = go (nat_lt 1 count)
  where
    go : (b : Bool) → low n (cond b (s.Do (a.Pat pa.Tupled) ∷ []) [] ++ R) ≡ true
    go true = g
    go false = g

typed-body : (w : Token) (us : List Token) (z : Option TokenSort) → IsMark (codes ":") w → Fulfils (s.Ty (tp.Whole false) ∷ s.Want m.Equal ∷ s.Exp xp.Whole ∷ []) us z → EqualsS (w ∷ us) z
typed-body w _ z i (reads u1 _ t (reads _ u2 (one_mark equals j) f)) = go (last f)
  where
    go : ExprS u2 z → EqualsS (w ∷ u1 ++ equals ∷ u2) z
    go (expr_s o x ends) = equals_s o (typed_body w equals u1 u2 i t j x) ends

plain-body : (w : Token) (us : List Token) (z : Option TokenSort) → IsMark (codes "=") w → ExprS us z → EqualsS (w ∷ us) z
plain-body w us z i (expr_s o x ends) = equals_s o (plain_body w us i x) ends

pub body-took : (from count : ℕ) (w : Token) (sort : TokenSort) (us : List Token) (z : Option TokenSort) → BodyStart w sort → Fulfils (strip (body_take from count sort)) us z → EqualsS (w ∷ us) z
unfolding body_take is_mark same_mark mark_number
body-took from count w _ us z (start_colon i) f = typed-body w us z i (subst (λ β. Fulfils β us z) (tupled-strip count _) f)
body-took from count w _ us z (start_equal i) f = plain-body w us z i (last (subst (λ β. Fulfils β us z) (tupled-strip count _) f))

pub body-good : (from count : ℕ) (w : Token) (sort : TokenSort) (st : List Sym) → BodyStart w sort → Quiet (first_or (fin st) None) → Good st → Good (body_take from count sort ++ st)
unfolding body_take is_mark same_mark mark_number
body-good from count w _ st (start_colon i) q g = subst Good (sym (append_assoc (tupled_take count) _ st)) (tupled-good count (s.Ty (tp.Whole false) ∷ s.Want m.Equal ∷ s.Exp xp.Whole ∷ s.Do _ ∷ s.Do _ ∷ st) (q, g))
body-good from count w _ st (start_equal i) q g = subst Good (sym (append_assoc (tupled_take count) _ st)) (tupled-good count (s.Exp xp.Whole ∷ s.Do _ ∷ st) (q, g))

pub body-low : (from count n : ℕ) (w : Token) (sort : TokenSort) → BodyStart w sort → low n (body_take from count sort) ≡ true
unfolding body_take is_mark same_mark mark_number
body-low from count n w _ (start_colon i) = tupled-low count n _ refl
body-low from count n w _ (start_equal i) = tupled-low count n _ refl

-- the acts at the end of a function
end-strip : (from : ℕ) (name : List ℕ) (count : ℕ) → strip (end_take from name count) ≡ []
unfolding end_take
end-strip from name count = go (nat_lt 1 count)
  where
    go : (b : Bool) → strip (cond b (s.Do (a.Dec (da.Curry from count)) ∷ s.Do (a.Dec (da.AddRec name)) ∷ []) (s.Do (a.Dec (da.AddRec name)) ∷ [])) ≡ []
    go true = refl
    go false = refl

end-fin : (from : ℕ) (name : List ℕ) (count : ℕ) (st : List Sym) → fin (end_take from name count ++ st) ≡ fin st
unfolding end_take
end-fin from name count st = go (nat_lt 1 count)
  where
    go : (b : Bool) → fin (cond b (s.Do (a.Dec (da.Curry from count)) ∷ s.Do (a.Dec (da.AddRec name)) ∷ []) (s.Do (a.Dec (da.AddRec name)) ∷ []) ++ st) ≡ fin st
    go true = refl
    go false = refl

end-good : (from : ℕ) (name : List ℕ) (count : ℕ) (st : List Sym) → Good st → Good (end_take from name count ++ st)
unfolding end_take
end-good from name count st g = go (nat_lt 1 count)
  where
    go : (b : Bool) → Good (cond b (s.Do (a.Dec (da.Curry from count)) ∷ s.Do (a.Dec (da.AddRec name)) ∷ []) (s.Do (a.Dec (da.AddRec name)) ∷ []) ++ st)
    go true = g
    go false = g

end-low : (from : ℕ) (name : List ℕ) (count n : ℕ) → low n (end_take from name count) ≡ true
unfolding end_take
end-low from name count n = go (nat_lt 1 count)
  where
    go : (b : Bool) → low n (cond b (s.Do (a.Dec (da.Curry from count)) ∷ s.Do (a.Dec (da.AddRec name)) ∷ []) (s.Do (a.Dec (da.AddRec name)) ∷ [])) ≡ true
    go true = refl
    go false = refl

-- a name at the head of a clause
pub head-of : (w : Token) → IsTypeName (text_of w.form) w → HeadOf (text_of w.form) (w ∷ [])
head-of w i = (w.span.from, head_name w (text_of w.form) i)

pub op-head : (op w : Token) → IsMark (codes "op") op → IsAnyName (text_of w.form) w → HeadOf (text_of w.form) (op ∷ w ∷ [])
op-head op w i h = (w.span.from, head_op op w (text_of w.form) i h)

pub head-pat : (name : List ℕ) (ts : List Token) → HeadOf name ts → ExPat atpat ts
head-pat name ts (place, h) = (pat_at (span_of place (last_of ts)) (p.Name name), [], atpat_name h)

-- a first clause with its name between two patterns
infix-first : (w : Token) (level from count : ℕ) (us : List Token) (z : Option TokenSort) → IsInfixName level (text_of w.form) w → Fulfils (s.Pat pp.Atomic ∷ s.Fun (fp.Equals from count) ∷ s.Later (lp.Rest (text_of w.form) 1) ∷ []) us z → (ts0 : List Token) → ExPat atpat ts0 → FunS (ts0 ++ w ∷ us)
infix-first w level from count _ z n (reads u _ x (reads u2 rest (equals_s o b ends) f)) ts0 d = (
  text_of w.form,
  1,
  over-clauses (append_assoc ts0 (w ∷ (u ++ u2)) rest ∙ ap (λ ts. ts0 ++ w ∷ ts) (append_assoc u u2 rest))
      (clauses-of o (ts0 ++ w ∷ (u ++ u2)) z (infix_clause w level ts0 u d n x b) ends (last f 0 refl)),
)

-- a first clause with its name before its patterns
zero-plus : (n k : ℕ) → n ≡ 0 + k → n ≡ k
zero-plus n k h = omega arith

patterns-first : (name : List ℕ) (ts0 u : List Token) {rest : List Token} → HeadOf name ts0 → ExPat atpat u → PatternsS name 0 rest → FunS (ts0 ++ (u ++ rest))
patterns-first name ts0 u h d (patterns_s k total us rest e c t) =
    (name, suc k, over-clauses (ap (λ ts. ts0 ++ ts) (append_assoc u us rest)) (first-clauses k ts0 (u ++ us) h (counted k u us d c) (subst (λ (n : ℕ). ClauseTail name (suc n) rest) (zero-plus total k e) t)))

head-first : (name : List ℕ) (w : Token) (from : ℕ) (z : Option TokenSort) {us : List Token} → Begun (ExPat atpat) (s.Fun (fp.Patterns from name 1) ∷ []) w z us → (ts0 : List Token) → HeadOf name ts0 → FunS (ts0 ++ w ∷ us)
head-first name w from z (begun us rest d f) ts0 h = patterns-first name ts0 (w ∷ us) h d (last f 0 refl)

infix-begun : (w : Token) (from : ℕ) (z : Option TokenSort) {us : List Token} → Begun (ExPat atpat) (s.Fun (fp.Infix from) ∷ []) w z us → FunS (w ∷ us)
infix-begun w from z (begun us rest d f) = last {x = s.Fun (fp.Infix from)} f (w ∷ us) d

one-more-pat : (name : List ℕ) (n k : ℕ) (u : List Token) {rest : List Token} → n ≡ suc k → ExPat atpat u → PatternsS name n rest → PatternsS name k (u ++ rest)
one-more-pat name n k u q d (patterns_s j total us rest e c t) =
    subst (PatternsS name k) (append_assoc u us rest) (patterns_s (suc j) total (u ++ us) rest (sum n k j total q e) (counted j u us d c) t)
  where
    sum : (n k j total : ℕ) → n ≡ suc k → total ≡ n + j → total ≡ k + suc j
    sum n k j total q e = omega arith

patterns-more : (name : List ℕ) (w : Token) (from count k : ℕ) (z : Option TokenSort) {us : List Token} → count ≡ suc k → Begun (ExPat atpat) (s.Fun (fp.Patterns from name (suc count)) ∷ []) w z us → PatternsS name k (w ∷ us)
patterns-more name w from count k z e (begun us rest d f) = one-more-pat name count k (w ∷ us) e d (last f count refl)

tail-took : (name : List ℕ) (w : Token) (sort : TokenSort) (from count k : ℕ) (us : List Token) (z : Option TokenSort) → BodyStart w sort → count ≡ suc k → Fulfils (strip (body_take from count sort ++ ((s.Later (lp.Rest name count) ∷ []) ++ end_take from name count))) us z → PatternsS name k (w ∷ us)
tail-took name w sort from count k us z b e f =
    go (split (strip (body_take from count sort)) (s.Later (lp.Rest name count) ∷ []) z
    (subst (λ β. Fulfils (strip (body_take from count sort) ++ s.Later (lp.Rest name count) ∷ β) us z) (end-strip from name count)
    (subst (λ β. Fulfils β us z) (strip_append (body_take from count sort) (s.Later (lp.Rest name count) ∷ end_take from name count)) f)))
  where
    plus : (k : ℕ) → k ≡ k + 0
    plus k = omega arith

    go : {ts : List Token} → Split (strip (body_take from count sort)) (s.Later (lp.Rest name count) ∷ []) z ts → PatternsS name k (w ∷ ts)
    go (parts u rest g h) = patterns_s 0 k [] (w ∷ u ++ rest) (plus k) empty (tail-of (w ∷ u) z (body-took from count w sort u (first_or rest z) b g) (last h k e))

tail-good : (name : List ℕ) (w : Token) (sort : TokenSort) (from count : ℕ) (st : List Sym) → BodyStart w sort → Quiet (first_or (fin st) None) → Good st → Good ((body_take from count sort ++ ((s.Later (lp.Rest name count) ∷ []) ++ end_take from name count)) ++ st)
tail-good name w sort from count st b q g =
    let quiet : Quiet (first_or (fin (end_take from name count ++ st)) None) = subst (λ ts. Quiet (first_or ts None)) (sym (end-fin from name count st)) q in
    subst Good (sym (append_assoc (body_take from count sort) (s.Later (lp.Rest name count) ∷ end_take from name count) st))
    (body-good from count w sort (s.Later (lp.Rest name count) ∷ end_take from name count ++ st) b quiet (quiet, end-good from name count st g))

tail-low : (name : List ℕ) (w : Token) (sort : TokenSort) (from count n : ℕ) → BodyStart w sort → low n (body_take from count sort ++ ((s.Later (lp.Rest name count) ∷ []) ++ end_take from name count)) ≡ true
tail-low name w sort from count n b = low_append n (body_take from count sort) (s.Later (lp.Rest name count) ∷ end_take from name count) (body-low from count n w sort b) (end-low from name count n)

funs-takes : (us : List Token) (z : Option TokenSort) (w : Token) → IsMark (codes "and") w → Fulfils (s.Fun fp.Bind ∷ s.Fun fp.Rest ∷ []) us z → AndRecs funs (w ∷ us)
funs-takes _ z w i (reads u rest x f) = and_recs w (u ++ rest) i (funs_form x (last f))

next-low : (count n : ℕ) → nat_le count n ≡ true → nat_le (suc count) (suc n) ≡ true
next-low count n h = le-leb (suc count) (suc n) (up count n (leb-true count n h))
  where
    up : (a b : ℕ) → a ≤ b → suc a ≤ suc b
    up a b h = omega arith

and-true : (b : Bool) → b ≡ true → cond b true false ≡ true
and-true true h = refl
and-true false h = h

pub fine_fun : (phrase : FunPhrase) (w : Token) (sort : TokenSort) → Seen w.form sort → Fine (s.Fun phrase) w sort (exact_fun phrase sort w)
fine_fun fp.Bind w sort e = by_cond (is_mark m.Op sort) (λ h. takes (λ us z f. last {x = s.Fun (fp.Op w.span.from)} f w (marked m.Op w sort e h)) (λ st (q, g). (q, g)) (λ n l. refl))
    (λ k. by_cond (is_type_name sort) (λ h. takes (λ us z f. last {x = s.Fun (fp.Head w.span.from w.span.from (text_of w.form))} f (w ∷ []) (head-of w (type_name_of w sort e h))) (λ st (q, g). (q, g)) (λ n l. refl))
    (λ k. by_cond (begins_pat sort)
    (λ h. takes (λ us z f. infix-begun w w.span.from z (atpat_began w sort (s.Fun (fp.Infix w.span.from) ∷ []) z us (pat_start w sort e h) f))
    (λ st (q, g). atpat_good w sort (s.Fun (fp.Infix w.span.from) ∷ []) st (pat_start w sort e h) (q, g))
    (λ n l. atpat_low w sort (suc n) (s.Fun (fp.Infix w.span.from) ∷ []) (pat_start w sort e h) refl))
    (λ h. fails)))
fine_fun fp.Rest w sort e = by_cond (is_mark m.And sort) (λ h. takes (λ us z f. funs-takes us z w (marked m.And w sort e h) f) (λ st (q, g). (q, (q, g))) (λ n l. refl)) (λ h. skips no_recs)
fine_fun (fp.Op from) w sort e = by_cond (is_any_name sort) (λ h. takes (λ us z f. λ op i. last {x = s.Fun (fp.Head from w.span.from (text_of w.form))} f (op ∷ w ∷ []) (op-head op w i (any_name_of w sort e h))) (λ st (q, g). (q, g)) (λ n l. refl)) (λ h. fails)
fine_fun (fp.Head from name_at name) w sort e = by_cond (is_infix_name sort)
    (λ h. takes (λ us z f. λ ts0 d. infix-first w (level_of sort) from 1 us z (infix_of w sort e h) f ts0 (head-pat name ts0 d)) (λ st (q, g). (q, (q, g))) (λ n l. refl))
    (λ k. by_cond (begins_pat sort)
    (λ h. takes (λ us z f. λ ts0 d. head-first name w from z (atpat_began w sort (s.Do _ ∷ s.Fun (fp.Patterns from name 1) ∷ []) z us (pat_start w sort e h) f) ts0 d)
    (λ st (q, g). atpat_good w sort (s.Do _ ∷ s.Fun (fp.Patterns from name 1) ∷ []) st (pat_start w sort e h) (q, g))
    (λ n l. atpat_low w sort (suc n) (s.Do _ ∷ s.Fun (fp.Patterns from name 1) ∷ []) (pat_start w sort e h) (and-true (nat_le 1 (suc n)) (le-leb 1 (suc n) (one n)))))
    (λ h. fails))
  where
    one : (n : ℕ) → 1 ≤ suc n
    one n = omega arith
fine_fun (fp.Infix from) w sort e = by_cond (is_infix_name sort)
    (λ h. takes (λ us z f. λ ts0 d. infix-first w (level_of sort) from 1 us z (infix_of w sort e h) f ts0 d) (λ st (q, g). (q, (q, g))) (λ n l. refl))
    (λ h. fails)
fine_fun (fp.Patterns from name count) w sort e = by_cond (begins_pat sort)
    (λ h. takes (λ us z f. λ k c. patterns-more name w from count k z c (atpat_began w sort (s.Do _ ∷ s.Fun (fp.Patterns from name (suc count)) ∷ []) z us (pat_start w sort e h) f))
    (λ st (q, g). atpat_good w sort (s.Do _ ∷ s.Fun (fp.Patterns from name (suc count)) ∷ []) st (pat_start w sort e h) (q, g))
    (λ n l. atpat_low w sort (suc n) (s.Do _ ∷ s.Fun (fp.Patterns from name (suc count)) ∷ []) (pat_start w sort e h) (and-true (nat_le (suc count) (suc n)) (next-low count n l))))
    (λ k. by_cond (begins_body sort)
    (λ h. takes (λ us z f. λ k c. tail-took name w sort from count k us z (body-start w sort e h) c f)
    (λ st (q, g). tail-good name w sort from count st (body-start w sort e h) q g)
    (λ n l. tail-low name w sort from count (suc n) (body-start w sort e h)))
    (λ h. fails))
fine_fun (fp.Equals from count) w sort e = by_cond (begins_body sort)
    (λ h. takes (λ us z f. body-took from count w sort us z (body-start w sort e h) f) (λ st (q, g). body-good from count w sort st (body-start w sort e h) q g) (λ n l. body-low from count (suc n) w sort (body-start w sort e h)))
    (λ h. fails)
