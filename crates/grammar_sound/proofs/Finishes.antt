-- Each symbol can be finished: what it stands for at the tokens that finish it.
use Rattle.std.proofs.Common.{◌≡◌, ◌+◌, ℕ, zero, suc, List, [], ◌∷◌, ◌++◌, inl, Bool, true, false, Option, Some, None, refl, ap, sym, subst, arith, codes}
use Rattle.sml_syntax.specs.declared.token.Token.{Token}
use Rattle.sml_syntax.specs.declared.token.TokenForm.TheVariants as f
use Rattle.sml_syntax.specs.declared.tree.ExpForm.TheVariants as ef
use Rattle.sml_syntax.specs.declared.tree.TyForm.TheVariants as t
use Rattle.sml_syntax.specs.declared.tree.Piece.TheVariants as piece
use Rattle.grammar_rules.specs.InfixNames.{infix_level, symbol_level, word_level}
use Rattle.grammar_rules.specs.Nodes.{exp_at, ty_at}
use Rattle.grammar_rules.specs.Grammar.{IsMark, IsName, IsAnyName, IsTypeName, short, IsInfixName, atx, orc, andc, inf, expr, atpat, atpats, pat, conty, ty, cons, atx_name, atx_op, atx_unit, atx_no_list, app_one, inf_top, tyx_one, andc_one, orc_one, exp_orc, quoted_last, no_text, head_name, head_op, atpat_unit, atpat_no_list, apat_one, cpat_one, pat_one, conty_name, conty_paren, stars_one, tupty_one, ty_one, items_none, items_after_none, match_last, one_rule, clauses_last}
use Rattle.sml_grammar.specs.declared.mark.Mark.TheVariants as m
use Rattle.sml_grammar.specs.declared.token_sort.TokenSort.{TokenSort}
use Rattle.sml_grammar.specs.declared.symbol.Sym.{Sym}
use Rattle.sml_grammar.specs.declared.symbol.Sym.TheVariants as s
use Rattle.sml_grammar.specs.declared.symbol.ExpPhrase.{ExpPhrase}
use Rattle.sml_grammar.specs.declared.symbol.ExpPhrase.TheVariants as xp
use Rattle.sml_grammar.specs.declared.symbol.ExpItems.{ExpItems}
use Rattle.sml_grammar.specs.declared.symbol.ExpItems.TheVariants as xi
use Rattle.sml_grammar.specs.declared.symbol.Quoted.{Quoted}
use Rattle.sml_grammar.specs.declared.symbol.Quoted.TheVariants as q
use Rattle.sml_grammar.specs.declared.symbol.PatPhrase.{PatPhrase}
use Rattle.sml_grammar.specs.declared.symbol.PatPhrase.TheVariants as pp
use Rattle.sml_grammar.specs.declared.symbol.PatItems.{PatItems}
use Rattle.sml_grammar.specs.declared.symbol.PatItems.TheVariants as pi
use Rattle.sml_grammar.specs.declared.symbol.TyPhrase.{TyPhrase}
use Rattle.sml_grammar.specs.declared.symbol.TyPhrase.TheVariants as tp
use Rattle.sml_grammar.specs.declared.symbol.DecPhrase.{DecPhrase}
use Rattle.sml_grammar.specs.declared.symbol.DecPhrase.TheVariants as dp
use Rattle.sml_grammar.specs.declared.symbol.HeadPhrase.{HeadPhrase}
use Rattle.sml_grammar.specs.declared.symbol.HeadPhrase.TheVariants as hp
use Rattle.sml_grammar.specs.declared.symbol.ConPhrase.{ConPhrase}
use Rattle.sml_grammar.specs.declared.symbol.ConPhrase.TheVariants as cp
use Rattle.sml_grammar.specs.declared.symbol.FunPhrase.{FunPhrase}
use Rattle.sml_grammar.specs.declared.symbol.FunPhrase.TheVariants as fp
use Rattle.sml_grammar.specs.declared.symbol.LaterPhrase.{LaterPhrase}
use Rattle.sml_grammar.specs.declared.symbol.LaterPhrase.TheVariants as lp
use Rattle.sml_grammar.specs.Sorts.{is_infix}
use Rattle.grammar_sound.proofs.Sem.{Fulfils, done, reads, first_or, NoInfix, Under, Ends, ExExp, ExRules, ExPat, ExPats, ExTy, ExCons, ExBinds, HeadOf, ExClause, empty, one_mark, one_form, expr_s, closed_and, closed_or, no_tail, no_items, quoted_s, no_pats, no_tys, one_type_name, no_binds, rec_bind, no_recs, one_var, no_vars, no_abbrevs, no_datas, data_s, body_s, no_argument, con_s, no_cons, exn_argument, exn_s, no_exns, ClauseBody, plain_body, equals_s, last_tail, FunS, CountedPats, patterns_s, ClauseS, clause_s, no_later, nil, ExpSem, ExpItemsSem, QuotedSem, PatSem, PatItemsSem, TySem, DecSem, HeadSem, ConSem, FunSem, LaterSem}
use Rattle.grammar_sound.proofs.Fine.{ex, word, name_word, token_of, some_pats, body_end, fin, finish_items, finish_quoted, finish_pat, finish_pat_items, finish_ty, finish_dec, finish_head, finish_con, finish_fun, finish_later, Quiet, Good}
use Rattle.grammar_sound.proofs.Rests.{rest_end}
use Rattle.grammar_sound.proofs.Types as types
use Rattle.grammar_sound.proofs.Patterns as patterns
use Rattle.grammar_sound.proofs.Definitions.{abbrev-form, data-form, cons-form, no-vars}
use Rattle.grammar_sound.proofs.Declarations.{exp-end, one-more, no-decs, val-form, binds-form}
use Rattle.grammar_sound.proofs.Functions.{plain_clause, infix_clause, counted, first-clauses, head-pat}

ex-name : IsName (codes "x") ex
unfolding infix_level symbol_level word_level
ex-name = record { is = refl; plain = refl }

ex-type : IsTypeName (codes "x") ex
ex-type = short (codes "x") ex ex-name

ex-any : IsAnyName (codes "x") ex
ex-any = record { is = refl }

plus-name : IsInfixName 6 (codes "+") (name_word (codes "+"))
unfolding infix_level symbol_level word_level
plus-name = record { is = refl; level_is = refl }

ex-atom : ExExp atx (ex ∷ [])
ex-atom = (exp_at ex.span (ef.Name (codes "x")), [], atx_name ex (codes "x") ex-type)

ex-inf : (n : ℕ) → ExExp (inf n) (ex ∷ [])
ex-inf n = (ex-atom.0, ex-atom.1, inf_top (app_one ex-atom.2))

ex-and : ExExp andc (ex ∷ [])
ex-and = (ex-atom.0, ex-atom.1, andc_one (tyx_one (inf_top (app_one ex-atom.2))))

ex-or : ExExp orc (ex ∷ [])
ex-or = (ex-atom.0, ex-atom.1, orc_one (andc_one (tyx_one (inf_top (app_one ex-atom.2)))))

ex-exp : ExExp (expr false) (ex ∷ [])
ex-exp = (ex-atom.0, ex-atom.1, exp_orc (orc_one (andc_one (tyx_one (inf_top (app_one ex-atom.2))))))

quiet-ends : (z : Option TokenSort) → Quiet z → Ends false z
quiet-ends z q = record { no_or = q.no_or; no_handle = q.no_handle; no_bar = tt }

both-ways : (b : Bool) → b ≡ true → b ≡ false → ⊥
both-ways b h k = cc

quiet-under : (n : ℕ) (z : Option TokenSort) → NoInfix z → Under n z
quiet-under n None h = tt
quiet-under n (Some sort) h = λ k. absurd (both-ways (is_infix sort) k h)

finishes_exp : (phrase : ExpPhrase) (z : Option TokenSort) → Quiet z → ExpSem phrase (ex ∷ []) z
finishes_exp xp.Whole z q = expr_s false ex-exp (quiet-ends z q)
finishes_exp xp.AndPart z q = no_tail (closed_and ex-and)
finishes_exp xp.OrPart z q = no_tail (closed_or ex-or q.no_or)
finishes_exp (xp.Operand n) z q = (ex-inf n, quiet-under n z q.no_infix)
finishes_exp xp.OpName z q = λ op i. (exp_at ex.span (ef.Name (codes "x")), [], atx_op op ex (codes "x") i ex-any)

finishes_items : (phrase : ExpItems) → ExpItemsSem phrase (finish_items phrase)
finishes_items (xi.Opened from) = λ w i. (_, _, atx_unit w (word m.Close) i (record { is = refl }))
finishes_items (xi.AfterFirst from) = inl (no_items (word m.Close) (record { is = refl }))
finishes_items (xi.Tuple from) = no_items (word m.Close) (record { is = refl })
finishes_items (xi.Seq from) = no_items (word m.Close) (record { is = refl })
finishes_items (xi.OpenedList from) = λ w i. (_, _, atx_no_list w (word m.CloseBracket) i (record { is = refl }))
finishes_items (xi.List from) = no_items (word m.CloseBracket) (record { is = refl })
finishes_items xi.Let = no_items (word m.End) (record { is = refl })

finishes_quoted : (phrase : Quoted) → QuotedSem phrase (finish_quoted phrase)
finishes_quoted q.Any = quoted_s (token_of f.QuoteTo) [] (piece.Plain [] ∷ []) [] (quoted_last no_text) refl
finishes_quoted q.AfterPlain = λ ts0 text h. quoted_s (token_of f.QuoteTo) ts0 (piece.Plain text ∷ []) [] (quoted_last h) refl
finishes_quoted q.AntiEnd = one_form (token_of f.AntiTo) refl

ex-head : HeadOf (codes "x") (ex ∷ [])
ex-head = (0, head_name ex (codes "x") ex-type)

ex-pat : ExPat atpat (ex ∷ [])
ex-pat = head-pat (codes "x") (ex ∷ []) ex-head

op-pat : (op : Token) → IsMark (codes "op") op → ExPat atpat (op ∷ ex ∷ [])
op-pat op i = head-pat (codes "x") (op ∷ ex ∷ []) (0, head_op op ex (codes "x") i ex-any)

ex-whole : ExPat pat (ex ∷ [])
ex-whole = (ex-pat.0, ex-pat.1, pat_one (cpat_one (apat_one ex-pat.2)))

pub finishes_pat : (phrase : PatPhrase) → PatSem phrase (finish_pat phrase)
finishes_pat pp.Whole = ex-whole
finishes_pat pp.ConsPart = (ex-pat.0, ex-pat.1, cpat_one (apat_one ex-pat.2))
finishes_pat (pp.ConsRest from) = λ ts0 d. patterns.over (nil ts0) (d.0, d.1, cpat_one d.2)
finishes_pat (pp.TypedRest from) = λ ts0 d. patterns.over (nil ts0) (d.0, d.1, pat_one d.2)
finishes_pat pp.OpName = λ op i. patterns.apat_of (op-pat op i)
finishes_pat (pp.Argument from) = λ ts0 d. patterns.over (nil ts0) (patterns.apat_of (patterns.name-form ts0 d))
finishes_pat pp.Atomic = ex-pat
finishes_pat pp.OpAtomic = λ op i. op-pat op i

finishes_pat_items : (phrase : PatItems) → PatItemsSem phrase (finish_pat_items phrase)
finishes_pat_items (pi.Opened from) = λ w i. (_, _, atpat_unit w (word m.Close) i (record { is = refl }))
finishes_pat_items (pi.AfterFirst from) = no_pats (word m.Close) (record { is = refl })
finishes_pat_items (pi.Tuple from) = no_pats (word m.Close) (record { is = refl })
finishes_pat_items (pi.OpenedList from) = λ w i. (_, _, atpat_no_list w (word m.CloseBracket) i (record { is = refl }))
finishes_pat_items (pi.List from) = no_pats (word m.CloseBracket) (record { is = refl })

ex-conty : (v : Bool) → ExTy (conty v) (ex ∷ [])
ex-conty v = (ty_at ex.span (t.Con (codes "x") []), [], conty_name ex (codes "x") ex-type)

ex-ty : (v : Bool) → ExTy (ty v) (ex ∷ [])
ex-ty v = (ty_at ex.span (t.Con (codes "x") []), [], ty_one (tupty_one (stars_one (conty_name ex (codes "x") ex-type))))

pub finishes_ty : (phrase : TyPhrase) → TySem phrase (finish_ty phrase)
finishes_ty (tp.Whole v) = ex-ty v
finishes_ty (tp.Part v) = ex-conty v
finishes_ty (tp.ArgumentRest from) = λ v ts0 d. types.over (nil ts0) d
finishes_ty (tp.StarRest v from) = λ ts0 d. types.over (nil ts0) (d.0, d.1, tupty_one (stars_one d.2))
finishes_ty (tp.StarMore v) = λ ts0 d. types.over-tys (nil ts0) (d.0, [], d.1, stars_one d.2)
finishes_ty (tp.ArrowRest v from) = λ ts0 d. types.over (nil ts0) (d.0, d.1, ty_one d.2)
finishes_ty (tp.AfterFirst v from) = λ opening ts0 i d. (d.0, d.1, conty_paren opening (word m.Close) i d.2 (record { is = refl }))
finishes_ty (tp.More v from) = no_tys (word m.Close) ex (codes "x") (record { is = refl }) ex-type
finishes_ty (tp.Name from) = one_type_name ex (codes "x") ex-type

ex-rules : ExRules (ex ∷ word m.DoubleArrow ∷ ex ∷ [])
ex-rules = (_, _, match_last (one_rule (word m.DoubleArrow) ex-whole.2 (record { is = refl }) ex-exp.2))

ex-binds : ExBinds (ex ∷ body_end)
ex-binds = binds-form (ex ∷ []) (ex ∷ []) false (word m.Equal) ex-whole (record { is = refl }) ex-exp no_binds

pub finishes_dec : (phrase : DecPhrase) → DecSem phrase (finish_dec phrase)
finishes_dec dp.Items = ([], [], items_none)
finishes_dec dp.AfterDec = ([], [], items_after_none)
finishes_dec dp.AfterExp = λ ts0 o x. exp-end ts0 o x
finishes_dec dp.Inner = no-decs
finishes_dec dp.AfterInner = λ ts0 x. one-more ts0 [] x no-decs
finishes_dec (dp.ValFirst from) = λ inner w i. val-form inner w (ex ∷ body_end) i ex-binds
finishes_dec dp.ValRest = no_binds
finishes_dec dp.RecBind = rec_bind ex (word m.Equal) (word m.Fn) (codes "x") (ex ∷ word m.DoubleArrow ∷ ex ∷ []) ex-name (record { is = refl }) (record { is = refl }) ex-rules
finishes_dec dp.RecRest = no_recs

ex-cons : ExCons cons (ex ∷ [])
ex-cons = cons-form ex (codes "x") ex-name no_argument no_cons

pub finishes_head : (phrase : HeadPhrase) → HeadSem phrase (finish_head phrase)
finishes_head hp.Type = abbrev-form ex (word m.Equal) (codes "x") [] (ex ∷ []) no-vars ex-name (record { is = refl }) (ex-ty true) no_abbrevs
finishes_head hp.TypeName = λ ts0 v. abbrev-form ex (word m.Equal) (codes "x") ts0 (ex ∷ []) v ex-name (record { is = refl }) (ex-ty true) no_abbrevs
finishes_head (hp.Data first) = data_s (ex ∷ body_end) (data-form ex (word m.Equal) (codes "x") [] (ex ∷ []) no-vars ex-name (record { is = refl }) ex-cons no_datas)
finishes_head hp.DataName = λ ts0 v. data-form ex (word m.Equal) (codes "x") ts0 (ex ∷ []) v ex-name (record { is = refl }) ex-cons no_datas
finishes_head hp.Var = one_var (token_of (f.TyVar (codes "'a"))) (codes "'a") (record { is = refl })
finishes_head hp.Vars = no_vars (word m.Close) (record { is = refl })
finishes_head hp.TypeRest = no_abbrevs

pub finishes_con : (phrase : ConPhrase) → ConSem phrase (finish_con phrase)
finishes_con (cp.Body first) = body_s (ex ∷ []) [] ex-cons no_datas
finishes_con cp.Original = one_type_name ex (codes "x") ex-type
finishes_con cp.Bind = con_s ex (codes "x") [] ex-name no_argument
finishes_con cp.Argument = no_argument
finishes_con cp.Rest = no_cons
finishes_con cp.DataRest = no_datas
finishes_con cp.Exn = exn_s ex (codes "x") [] ex-name (exn_argument [] no_argument)
finishes_con (cp.ExnArgument from) = exn_argument [] no_argument
finishes_con cp.ExnRest = no_exns

ex-body : ClauseBody false body_end
ex-body = plain_body (word m.Equal) (ex ∷ []) (record { is = refl }) ex-exp

ex-counted : ExPats (atpats 1) (ex ∷ [])
ex-counted = counted 0 (ex ∷ []) [] ex-pat empty

ex-fun : (name : List ℕ) (ts0 : List Token) → HeadOf name ts0 → FunS (ts0 ++ ex ∷ body_end)
ex-fun name ts0 h = (name, 1, first-clauses 0 ts0 (ex ∷ []) h ex-counted (last_tail false body_end ex-body))

plus-fun : (ts0 : List Token) → ExPat atpat ts0 → FunS (ts0 ++ name_word (codes "+") ∷ ex ∷ body_end)
plus-fun ts0 d =
    let one : ExClause (codes "+") 1 false (ts0 ++ name_word (codes "+") ∷ ex ∷ body_end) = infix_clause (name_word (codes "+")) 6 ts0 (ex ∷ []) d plus-name ex-pat ex-body in
    (codes "+", 1, (one.0 ∷ [], one.1, clauses_last one.2))

plus-zero : (k : ℕ) → k ≡ k + 0
plus-zero k = omega arith

pub finishes_fun : (phrase : FunPhrase) (z : Option TokenSort) → Quiet z → FunSem phrase (finish_fun phrase) z
finishes_fun fp.Bind z q = ex-fun (codes "x") (ex ∷ []) ex-head
finishes_fun fp.Rest z q = no_recs
finishes_fun (fp.Op from) z q = λ op i. ex-fun (codes "x") (op ∷ ex ∷ []) (0, head_op op ex (codes "x") i ex-any)
finishes_fun (fp.Head from name_at name) z q = λ ts0 h. ex-fun name ts0 h
finishes_fun (fp.Infix from) z q = λ ts0 d. plus-fun ts0 d
finishes_fun (fp.Patterns from name count) z q = λ k e. patterns_s 0 k [] body_end (plus-zero k) empty (last_tail false body_end ex-body)
finishes_fun (fp.Equals from count) z q = equals_s false ex-body (quiet-ends z q)

some : (n : ℕ) → CountedPats n (some_pats n [])
unfolding some_pats
some zero = empty
some (suc n) = counted n (ex ∷ []) (some_pats n []) ex-pat (some n)

some-append : (n : ℕ) (ts : List Token) → some_pats n ts ≡ some_pats n [] ++ ts
unfolding some_pats
some-append zero ts = refl
some-append (suc n) ts = ap (λ us. ex ∷ us) (some-append n ts)

counted-clause : (name : List ℕ) (count k : ℕ) (ts0 : List Token) (z : Option TokenSort) → Quiet z → count ≡ suc k → HeadOf name ts0 → ClauseS name (suc k) (ts0 ++ some_pats count body_end) z
counted-clause name count k ts0 z q e h =
    subst (λ ts. ClauseS name (suc k) (ts0 ++ ts) z) (sym (some-append count body_end))
    (clause_s false (plain_clause k ts0 (some_pats count []) h (subst (λ n. CountedPats n (some_pats count [])) e (some count)) ex-body) (quiet-ends z q))

infix-clause : (name : List ℕ) (level : ℕ) (ts0 : List Token) (z : Option TokenSort) → Quiet z → infix_level name ≡ Some level → ExPat atpat ts0 → ClauseS name 1 (ts0 ++ name_word name ∷ ex ∷ body_end) z
infix-clause name level ts0 z q h d = clause_s false (infix_clause (name_word name) level ts0 (ex ∷ []) d (record { is = refl; level_is = h }) ex-pat ex-body) (quiet-ends z q)

op-of : (name : List ℕ) (op : Token) → IsMark (codes "op") op → HeadOf name (op ∷ name_word name ∷ [])
op-of name op i = (0, head_op op (name_word name) name i (record { is = refl }))

-- `Patterns` is followed by a body, so it asks for nothing behind it
pub finishes_later : (phrase : LaterPhrase) (z : Option TokenSort) → Quiet z → LaterSem phrase (finish_later phrase) z
finishes_later (lp.Rest name count) z q = λ k e. no_later q.no_bar
finishes_later (lp.Clause name count) z q = λ k e. counted-clause name count k (word m.Op ∷ name_word name ∷ []) z q e (op-of name (word m.Op) (record { is = refl }))
finishes_later (lp.Op from name count) z q = λ k op e i. counted-clause name count k (op ∷ name_word name ∷ []) z q e (op-of name op i)
finishes_later (lp.Head from name_at found name) z q = λ level ts0 h d. infix-clause name level ts0 z q h (head-pat found ts0 d)
finishes_later (lp.Infix from name) z q = λ level ts0 h d. infix-clause name level ts0 z q h d
finishes_later (lp.Patterns count) z q = some count

-- a stack, at the tokens that finish it
pub fulfil : (st : List Sym) → Good st → Fulfils st (fin st) None
fulfil [] g = done
fulfil (s.Do act ∷ st) g = reads [] (fin st) empty (fulfil st g)
fulfil (s.Want mark ∷ st) g = reads (word mark ∷ []) (fin st) (one_mark (word mark) (record { is = refl })) (fulfil st g)
fulfil (s.Exp phrase ∷ st) (q, g) = reads (ex ∷ []) (fin st) (finishes_exp phrase (first_or (fin st) None) q) (fulfil st g)
fulfil (s.ExpRest phrase ∷ st) (q, g) = reads [] (fin st) (rest_end phrase (first_or (fin st) None) q) (fulfil st g)
fulfil (s.ExpItems phrase ∷ st) g = reads (finish_items phrase) (fin st) (finishes_items phrase) (fulfil st g)
fulfil (s.Quoted phrase ∷ st) g = reads (finish_quoted phrase) (fin st) (finishes_quoted phrase) (fulfil st g)
fulfil (s.Pat phrase ∷ st) g = reads (finish_pat phrase) (fin st) (finishes_pat phrase) (fulfil st g)
fulfil (s.PatItems phrase ∷ st) g = reads (finish_pat_items phrase) (fin st) (finishes_pat_items phrase) (fulfil st g)
fulfil (s.Ty phrase ∷ st) g = reads (finish_ty phrase) (fin st) (finishes_ty phrase) (fulfil st g)
fulfil (s.Dec phrase ∷ st) (q, g) = reads (finish_dec phrase) (fin st) (finishes_dec phrase) (fulfil st g)
fulfil (s.Head phrase ∷ st) g = reads (finish_head phrase) (fin st) (finishes_head phrase) (fulfil st g)
fulfil (s.Con phrase ∷ st) g = reads (finish_con phrase) (fin st) (finishes_con phrase) (fulfil st g)
fulfil (s.Fun phrase ∷ st) (q, g) = reads (finish_fun phrase) (fin st) (finishes_fun phrase (first_or (fin st) None) q) (fulfil st g)
fulfil (s.Later (lp.Patterns count) ∷ st) g = reads (some_pats count []) (fin st) (some count) (fulfil st g)
fulfil (s.Later (lp.Rest name count) ∷ st) (q, g) = reads [] (fin st) (finishes_later (lp.Rest name count) (first_or (fin st) None) q) (fulfil st g)
fulfil (s.Later (lp.Clause name count) ∷ st) (q, g) = reads (finish_later (lp.Clause name count)) (fin st) (finishes_later (lp.Clause name count) (first_or (fin st) None) q) (fulfil st g)
fulfil (s.Later (lp.Op from name count) ∷ st) (q, g) = reads (finish_later (lp.Op from name count)) (fin st) (finishes_later (lp.Op from name count) (first_or (fin st) None) q) (fulfil st g)
fulfil (s.Later (lp.Head from name_at found name) ∷ st) (q, g) = reads (finish_later (lp.Head from name_at found name)) (fin st) (finishes_later (lp.Head from name_at found name) (first_or (fin st) None) q) (fulfil st g)
fulfil (s.Later (lp.Infix from name) ∷ st) (q, g) = reads (finish_later (lp.Infix from name)) (fin st) (finishes_later (lp.Infix from name) (first_or (fin st) None) q) (fulfil st g)
