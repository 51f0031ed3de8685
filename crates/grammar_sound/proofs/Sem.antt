-- What each symbol of the machine stands for: the tokens of the phrase that it reads, before the sort of the token that
-- follows. The trees themselves are left out: there are some.
use Rattle.std.proofs.Common.{◌≡◌, ◌==◌, ℕ, zero, suc, ◌≤◌, ◌<◌, ◌+◌, ◌⊎◌, List, [], ◌∷◌, ◌++◌, Bool, true, false, cond, Option, Some, None, refl, sym, subst, append_assoc, append-nil, codes}
use Rattle.sml_syntax.specs.declared.token.Token.{Token}
use Rattle.sml_syntax.specs.declared.token.TokenForm.{TokenForm}
use Rattle.sml_syntax.specs.declared.token.TokenForm.TheVariants as f
use Rattle.sml_syntax.specs.declared.tree.Exp.{Exp}
use Rattle.sml_syntax.specs.declared.tree.Pat.{Pat}
use Rattle.sml_syntax.specs.declared.tree.Ty.{Ty}
use Rattle.sml_syntax.specs.declared.tree.Dec.{Dec}
use Rattle.sml_syntax.specs.declared.tree.Rule.{Rule}
use Rattle.sml_syntax.specs.declared.tree.Piece.{Piece}
use Rattle.grammar_rules.specs.InfixNames.{infix_level}
use Rattle.sml_syntax.specs.NestedTypes.{Found}
use Rattle.grammar_rules.specs.Grammar.{Is, IsMark, IsName, IsTypeName, IsTyVar, Phrase, atx, app, tyx, andc, orc, quoted, text_part, inf, ande, ore, tail, expr, exps, match_of, head, atpat, apat, cpat, pat, pats, atpats, conty, tupty, ty, stars, tys, ty_vars, more_vars, dec, decs, binds, recs, funs, abbrevs, datas, cons, exns, clause, clauses, items, items_after, exp_tree, exps_tree, rule_tree, rules_tree, text_tree, pieces_tree, name_tree, pat_tree, pats_tree, ty_tree, tys_tree, vars_tree, dec_tree, decs_tree, binds_tree, recs_tree, abbrevs_tree, cons_tree, datas_tree}
use Rattle.sml_grammar.specs.declared.mark.Mark.{Mark}
use Rattle.sml_grammar.specs.declared.mark.Mark.TheVariants as m
use Rattle.sml_grammar.specs.declared.token_sort.TokenSort.{TokenSort}
use Rattle.sml_grammar.specs.declared.symbol.Sym.{Sym}
use Rattle.sml_grammar.specs.declared.symbol.Sym.TheVariants as s
use Rattle.sml_grammar.specs.declared.symbol.ExpPhrase.{ExpPhrase}
use Rattle.sml_grammar.specs.declared.symbol.ExpPhrase.TheVariants as xp
use Rattle.sml_grammar.specs.declared.symbol.ExpRest.{ExpRest}
use Rattle.sml_grammar.specs.declared.symbol.ExpRest.TheVariants as xr
use Rattle.sml_grammar.specs.declared.symbol.ExpItems.{ExpItems}
use Rattle.sml_grammar.specs.declared.symbol.ExpItems.TheVariants as xi
use Rattle.sml_grammar.specs.declared.symbol.Quoted.{Quoted}
use Rattle.sml_grammar.specs.declared.symbol.Quoted.TheVariants as q
use Rattle.sml_grammar.specs.declared.symbol.PatPhrase.{PatPhrase}
use Rattle.sml_grammar.specs.declared.symbol.PatPhrase.TheVariants as pp
use Rattle.sml_grammar.specs.declared.symbol.PatItems.{PatItems}
use Rattle.sml_grammar.specs.declared.symbol.PatItems.TheVariants as pi
use Rattle.sml_grammar.specs.declared.symbol.TyPhrase.{TyPhrase}
use Rattle.sml_grammar.specs.declared.symbol.TyPhrase.TheVariants as tp
use Rattle.sml_grammar.specs.declared.symbol.DecPhrase.{DecPhrase}
use Rattle.sml_grammar.specs.declared.symbol.DecPhrase.TheVariants as dp
use Rattle.sml_grammar.specs.declared.symbol.HeadPhrase.{HeadPhrase}
use Rattle.sml_grammar.specs.declared.symbol.HeadPhrase.TheVariants as hp
use Rattle.sml_grammar.specs.declared.symbol.ConPhrase.{ConPhrase}
use Rattle.sml_grammar.specs.declared.symbol.ConPhrase.TheVariants as cp
use Rattle.sml_grammar.specs.declared.symbol.FunPhrase.{FunPhrase}
use Rattle.sml_grammar.specs.declared.symbol.FunPhrase.TheVariants as fp
use Rattle.sml_grammar.specs.declared.symbol.LaterPhrase.{LaterPhrase}
use Rattle.sml_grammar.specs.declared.symbol.LaterPhrase.TheVariants as lp
use Rattle.sml_grammar.specs.Sorts.{sort_of, is_mark, is_infix, level_of}
use Rattle.grammar_sound.proofs.Seen.{spelling}

-- the sort of the first of some tokens, or of the one behind them
abbrev pub first_or : List Token → Option TokenSort → Option TokenSort
first_or [] z = z
first_or (t ∷ ts) z = Some (sort_of t.form)

pub first-append : (us rest : List Token) (z : Option TokenSort) → first_or (us ++ rest) z ≡ first_or us (first_or rest z)
first-append [] rest z = refl
first-append (x ∷ us) rest z = refl

-- the next token is no such mark
abbrev pub Not : Mark → Option TokenSort → Type 0
Not mark None = Unit {0}
Not mark (Some sort) = is_mark mark sort ≡ false

-- the next token is no infix name
abbrev pub NoInfix : Option TokenSort → Type 0
NoInfix None = Unit {0}
NoInfix (Some sort) = is_infix sort ≡ false

-- the next token is no infix name of a level or above
abbrev pub Under : ℕ → Option TokenSort → Type 0
Under n None = Unit {0}
Under n (Some sort) = is_infix sort ≡ true → level_of sort < n

-- the level of the left operand of an infix name
abbrev pub left_level : ℕ → ℕ
left_level level = cond (level == 5) (suc level) level

-- an infix name behind a form of a level may take that form as its left operand
abbrev pub Clear : ℕ → Option TokenSort → Type 0
Clear n None = Unit {0}
Clear n (Some sort) = is_infix sort ≡ true → left_level (level_of sort) ≤ n

abbrev pub NoBar : Bool → Option TokenSort → Type 0
NoBar true z = Not m.Bar z
NoBar false z = Unit {0}

-- the next token doesn't go on with an expression
pub record Ends (open_ : Bool) (z : Option TokenSort) : Type 0 where
  pub no_or : Not m.OrElse z
  pub no_handle : Not m.Handle z
  pub no_bar : NoBar open_ z

-- some tree
abbrev pub ExExp : Phrase → List Token → Type 0
ExExp c ts = (x : Exp) × (ls : List Found) × Is c ts (exp_tree x) ls

abbrev pub ExExps : List ℕ → List Token → Type 0
ExExps spelled ts = (x : Exp) × (more : List Exp) × (ls : List Found) × Is (exps spelled) ts (exps_tree (x ∷ more)) ls

abbrev pub ExRules : List Token → Type 0
ExRules ts = (rs : List Rule) × (ls : List Found) × Is match_of ts (rules_tree rs) ls

abbrev pub ExPat : Phrase → List Token → Type 0
ExPat c ts = (x : Pat) × (ls : List Found) × Is c ts (pat_tree x) ls

abbrev pub ExPats : Phrase → List Token → Type 0
ExPats c ts = (x : Pat) × (more : List Pat) × (ls : List Found) × Is c ts (pats_tree (x ∷ more)) ls

abbrev pub ExHead : List Token → Type 0
ExHead ts = (place : ℕ) × (name : List ℕ) × Is head ts (name_tree place name) []

-- a name at the head of a clause
abbrev pub HeadOf : List ℕ → List Token → Type 0
HeadOf name ts = (place : ℕ) × Is head ts (name_tree place name) []

abbrev pub ExTy : Phrase → List Token → Type 0
ExTy c ts = (x : Ty) × (ls : List Found) × Is c ts (ty_tree x) ls

abbrev pub ExTys : Phrase → List Token → Type 0
ExTys c ts = (x : Ty) × (more : List Ty) × (ls : List Found) × Is c ts (tys_tree (x ∷ more)) ls

abbrev pub ExVars : List Token → Type 0
ExVars ts = (names : List (List ℕ)) × Is ty_vars ts (vars_tree names) []

abbrev pub ExMoreVars : List Token → Type 0
ExMoreVars ts = (x : List ℕ) × (more : List (List ℕ)) × Is more_vars ts (vars_tree (x ∷ more)) []

abbrev pub ExDec : Bool → List Token → Type 0
ExDec inner ts = (x : Dec) × (ls : List Found) × Is (dec inner) ts (dec_tree x) ls

abbrev pub ExDecs : Phrase → List Token → Type 0
ExDecs c ts = (xs : List Dec) × (ls : List Found) × Is c ts (decs_tree xs) ls

abbrev pub ExBinds : List Token → Type 0
ExBinds ts = (bs : List (Pat × Exp)) × (ls : List Found) × Is binds ts (binds_tree bs) ls

abbrev pub ExRecs : Phrase → List Token → Type 0
ExRecs c ts = (bs : List (List ℕ × List Rule)) × (ls : List Found) × Is c ts (recs_tree bs) ls

abbrev pub ExAbbrevs : List Token → Type 0
ExAbbrevs ts = (bs : List (List (List ℕ) × List ℕ × Ty)) × (ls : List Found) × Is abbrevs ts (abbrevs_tree bs) ls

abbrev pub ExDatas : List Token → Type 0
ExDatas ts = (bs : List (List (List ℕ) × List ℕ × List (List ℕ × Option Ty))) × (ls : List Found) × Is datas ts (datas_tree bs) ls

abbrev pub ExCons : Phrase → List Token → Type 0
ExCons c ts = (cs : List (List ℕ × Option Ty)) × (ls : List Found) × Is c ts (cons_tree cs) ls

abbrev pub ExClause : List ℕ → ℕ → Bool → List Token → Type 0
ExClause name count open_ ts = (r : Rule) × (ls : List Found) × Is (clause name count open_) ts (rule_tree r) ls

abbrev pub ExClauses : List ℕ → ℕ → List Token → Type 0
ExClauses name count ts = (rs : List Rule) × (ls : List Found) × Is (clauses name count) ts (rules_tree rs) ls

-- nothing is read
pub data Empty : List Token → Type 0 where
  empty : Empty []

-- one mark
pub data OneMark (mark : Mark) : List Token → Type 0 where
  one_mark : (word : Token) → IsMark (spelling mark) word → OneMark mark (word ∷ [])

-- one token of a form
pub data OneForm (form : TokenForm) : List Token → Type 0 where
  one_form : (word : Token) → word.form ≡ form → OneForm form (word ∷ [])

-- expressions
pub data ExprS (ts : List Token) (z : Option TokenSort) : Type 0 where
  expr_s : (o : Bool) → ExExp (expr o) ts → Ends o z → ExprS ts z

pub data AndS (ts : List Token) (z : Option TokenSort) : Type 0 where
  closed_and : ExExp andc ts → AndS ts z
  open_and : (o : Bool) → ExExp (ande o) ts → Ends o z → AndS ts z

pub data OrS (ts : List Token) (z : Option TokenSort) : Type 0 where
  closed_or : ExExp orc ts → Not m.OrElse z → OrS ts z
  open_or : (o : Bool) → ExExp (ore o) ts → Ends o z → OrS ts z

pub data TailS (P : Type 0) (ts : List Token) (z : Option TokenSort) : Type 0 where
  no_tail : P → TailS P ts z
  a_tail : (o : Bool) → ExExp (tail o) ts → Ends o z → TailS P ts z

pub data MatchS (ts : List Token) (z : Option TokenSort) : Type 0 where
  match_s : ExRules ts → Ends true z → MatchS ts z

pub data BarS (z : Option TokenSort) : List Token → Type 0 where
  no_more : Not m.Bar z → BarS z []
  a_bar : (word : Token) (us : List Token) → IsMark (codes "|") word → MatchS us z → BarS z (word ∷ us)

-- what follows the first expression between marks
pub data ItemsS (between last : List ℕ) : List Token → Type 0 where
  no_items : (closing : Token) → IsMark last closing → ItemsS between last (closing ∷ [])
  more_items : (word closing : Token) (us : List Token) → IsMark between word → ExExps between us → IsMark last closing → ItemsS between last (word ∷ us ++ closing ∷ [])

-- the rest of a quotation with its end
pub data QuotedS : List Token → Type 0 where
  quoted_s : (to : Token) (us : List Token) (pieces : List Piece) (ls : List Found) → Is quoted us (pieces_tree pieces) ls → to.form ≡ f.QuoteTo → QuotedS (us ++ to ∷ [])

abbrev pub ExpSem : ExpPhrase → List Token → Option TokenSort → Type 0
ExpSem xp.Whole ts z = ExprS ts z
ExpSem xp.AndPart ts z = TailS (AndS ts z) ts z
ExpSem xp.OrPart ts z = TailS (OrS ts z) ts z
ExpSem (xp.Operand n) ts z = ExExp (inf n) ts × Under n z
ExpSem xp.OpName ts z = (op : Token) → IsMark (codes "op") op → ExExp atx (op ∷ ts)

abbrev pub ExpRestSem : ExpRest → List Token → Option TokenSort → Type 0
ExpRestSem (xr.App from) ts z = (ts0 : List Token) → ExExp app ts0 → ExExp app (ts0 ++ ts)
ExpRestSem (xr.Infix n from) ts z = (k : ℕ) (ts0 : List Token) → n ≤ k → ExExp (inf k) ts0 → Clear k (first_or ts z) → ExExp (inf n) (ts0 ++ ts) × Under n z
ExpRestSem (xr.Typed from) ts z = (ts0 : List Token) → ExExp tyx ts0 → ExExp tyx (ts0 ++ ts)
ExpRestSem (xr.And from) ts z = (ts0 : List Token) → ExExp tyx ts0 → AndS (ts0 ++ ts) z
ExpRestSem (xr.Or from) ts z = (ts0 : List Token) → AndS ts0 (first_or ts z) → OrS (ts0 ++ ts) z
ExpRestSem (xr.Handle from) ts z = (ts0 : List Token) → OrS ts0 (first_or ts z) → ExprS (ts0 ++ ts) z
ExpRestSem xr.Match ts z = BarS z ts

abbrev pub ExpItemsSem : ExpItems → List Token → Type 0
ExpItemsSem (xi.Opened from) ts = (word : Token) → IsMark (codes "(") word → ExExp atx (word ∷ ts)
ExpItemsSem (xi.AfterFirst from) ts = ItemsS (codes ",") (codes ")") ts ⊎ ItemsS (codes ";") (codes ")") ts
ExpItemsSem (xi.Tuple from) ts = ItemsS (codes ",") (codes ")") ts
ExpItemsSem (xi.Seq from) ts = ItemsS (codes ";") (codes ")") ts
ExpItemsSem (xi.OpenedList from) ts = (word : Token) → IsMark (codes "[") word → ExExp atx (word ∷ ts)
ExpItemsSem (xi.List from) ts = ItemsS (codes ",") (codes "]") ts
ExpItemsSem xi.Let ts = ItemsS (codes ";") (codes "end") ts

abbrev pub QuotedSem : Quoted → List Token → Type 0
QuotedSem q.Any ts = QuotedS ts
QuotedSem q.AfterPlain ts = (ts0 : List Token) (text : List ℕ) → Is text_part ts0 (text_tree text) [] → QuotedS (ts0 ++ ts)
QuotedSem q.AntiEnd ts = OneForm f.AntiTo ts

-- patterns
pub data PatItemsS (last : List ℕ) : List Token → Type 0 where
  no_pats : (closing : Token) → IsMark last closing → PatItemsS last (closing ∷ [])
  more_pats : (word closing : Token) (us : List Token) → IsMark (codes ",") word → ExPats pats us → IsMark last closing → PatItemsS last (word ∷ us ++ closing ∷ [])

abbrev pub PatSem : PatPhrase → List Token → Type 0
PatSem pp.Whole ts = ExPat pat ts
PatSem pp.ConsPart ts = ExPat cpat ts
PatSem (pp.ConsRest from) ts = (ts0 : List Token) → ExPat apat ts0 → ExPat cpat (ts0 ++ ts)
PatSem (pp.TypedRest from) ts = (ts0 : List Token) → ExPat cpat ts0 → ExPat pat (ts0 ++ ts)
PatSem pp.OpName ts = (op : Token) → IsMark (codes "op") op → ExPat apat (op ∷ ts)
PatSem (pp.Argument from) ts = (ts0 : List Token) → ExHead ts0 → ExPat apat (ts0 ++ ts)
PatSem pp.Atomic ts = ExPat atpat ts
PatSem pp.OpAtomic ts = (op : Token) → IsMark (codes "op") op → ExPat atpat (op ∷ ts)

abbrev pub PatItemsSem : PatItems → List Token → Type 0
PatItemsSem (pi.Opened from) ts = (word : Token) → IsMark (codes "(") word → ExPat atpat (word ∷ ts)
PatItemsSem (pi.AfterFirst from) ts = PatItemsS (codes ")") ts
PatItemsSem (pi.Tuple from) ts = PatItemsS (codes ")") ts
PatItemsSem (pi.OpenedList from) ts = (word : Token) → IsMark (codes "[") word → ExPat atpat (word ∷ ts)
PatItemsSem (pi.List from) ts = PatItemsS (codes "]") ts

-- types
pub data OneTypeName : List Token → Type 0 where
  one_type_name : (word : Token) (name : List ℕ) → IsTypeName name word → OneTypeName (word ∷ [])

-- the rest of several types in parentheses, with the name that they are given to
pub data TyItemsS (v : Bool) : List Token → Type 0 where
  no_tys : (closing word : Token) (name : List ℕ) → IsMark (codes ")") closing → IsTypeName name word → TyItemsS v (closing ∷ word ∷ [])
  more_tys : (comma closing word : Token) (name : List ℕ) (us : List Token) → IsMark (codes ",") comma → ExTys (tys v) us → IsMark (codes ")") closing → IsTypeName name word → TyItemsS v (comma ∷ us ++ closing ∷ word ∷ [])

abbrev pub TySem : TyPhrase → List Token → Type 0
TySem (tp.Whole v) ts = ExTy (ty v) ts
TySem (tp.Part v) ts = ExTy (conty v) ts
TySem (tp.ArgumentRest from) ts = (v : Bool) (ts0 : List Token) → ExTy (conty v) ts0 → ExTy (conty v) (ts0 ++ ts)
TySem (tp.StarRest v from) ts = (ts0 : List Token) → ExTy (conty v) ts0 → ExTy (tupty v) (ts0 ++ ts)
TySem (tp.StarMore v) ts = (ts0 : List Token) → ExTy (conty v) ts0 → ExTys (stars v) (ts0 ++ ts)
TySem (tp.ArrowRest v from) ts = (ts0 : List Token) → ExTy (tupty v) ts0 → ExTy (ty v) (ts0 ++ ts)
TySem (tp.AfterFirst v from) ts = (opening : Token) (ts0 : List Token) → IsMark (codes "(") opening → ExTy (ty v) ts0 → ExTy (conty v) (opening ∷ ts0 ++ ts)
TySem (tp.More v from) ts = TyItemsS v ts
TySem (tp.Name from) ts = OneTypeName ts

-- declarations; those behind an `and`
pub data AndBinds : List Token → Type 0 where
  no_binds : AndBinds []
  and_binds : (word : Token) (us : List Token) → IsMark (codes "and") word → ExBinds us → AndBinds (word ∷ us)

pub data RecBindS : List Token → Type 0 where
  rec_bind : (word equals fn_ : Token) (name : List ℕ) (us : List Token) → IsName name word → IsMark (codes "=") equals → IsMark (codes "fn") fn_ → ExRules us → RecBindS (word ∷ equals ∷ fn_ ∷ us)

pub data AndRecs (c : Phrase) : List Token → Type 0 where
  no_recs : AndRecs c []
  and_recs : (word : Token) (us : List Token) → IsMark (codes "and") word → ExRecs c us → AndRecs c (word ∷ us)

abbrev pub DecSem : DecPhrase → List Token → Type 0
DecSem dp.Items ts = ExDecs items ts
DecSem dp.AfterDec ts = ExDecs items_after ts
DecSem dp.AfterExp ts = (ts0 : List Token) (o : Bool) → ExExp (expr o) ts0 → ExDecs items (ts0 ++ ts)
DecSem dp.Inner ts = ExDecs decs ts
DecSem dp.AfterInner ts = (ts0 : List Token) → ExDec true ts0 → ExDecs decs (ts0 ++ ts)
DecSem (dp.ValFirst from) ts = (inner : Bool) (word : Token) → IsMark (codes "val") word → ExDec inner (word ∷ ts)
DecSem dp.ValRest ts = AndBinds ts
DecSem dp.RecBind ts = RecBindS ts
DecSem dp.RecRest ts = AndRecs recs ts

-- variables and names of types
pub data OneVar : List Token → Type 0 where
  one_var : (word : Token) (name : List ℕ) → IsTyVar name word → OneVar (word ∷ [])

pub data VarItemsS : List Token → Type 0 where
  no_vars : (closing : Token) → IsMark (codes ")") closing → VarItemsS (closing ∷ [])
  more_vars_s : (comma closing : Token) (us : List Token) → IsMark (codes ",") comma → ExMoreVars us → IsMark (codes ")") closing → VarItemsS (comma ∷ us ++ closing ∷ [])

pub data AndAbbrevs : List Token → Type 0 where
  no_abbrevs : AndAbbrevs []
  and_abbrevs : (word : Token) (us : List Token) → IsMark (codes "and") word → ExAbbrevs us → AndAbbrevs (word ∷ us)

pub data AndDatas : List Token → Type 0 where
  no_datas : AndDatas []
  and_datas : (word : Token) (us : List Token) → IsMark (codes "and") word → ExDatas us → AndDatas (word ∷ us)

-- what follows `datatype`; the flag says that it may be `name = datatype name'`
pub data DataS (first : Bool) : List Token → Type 0 where
  data_s : (us : List Token) → ExDatas us → DataS first us
  data_same : (word equals again other : Token) (name old : List ℕ) → first ≡ true → IsName name word → IsMark (codes "=") equals → IsMark (codes "datatype") again → IsTypeName old other → DataS first (word ∷ equals ∷ again ∷ other ∷ [])

abbrev pub HeadSem : HeadPhrase → List Token → Type 0
HeadSem hp.Type ts = ExAbbrevs ts
HeadSem hp.TypeName ts = (ts0 : List Token) → ExVars ts0 → ExAbbrevs (ts0 ++ ts)
HeadSem (hp.Data first) ts = DataS first ts
HeadSem hp.DataName ts = (ts0 : List Token) → ExVars ts0 → ExDatas (ts0 ++ ts)
HeadSem hp.Var ts = OneVar ts
HeadSem hp.Vars ts = VarItemsS ts
HeadSem hp.TypeRest ts = AndAbbrevs ts

-- constructors and exceptions
pub data BodyS (first : Bool) : List Token → Type 0 where
  body_s : (us rest : List Token) → ExCons cons us → AndDatas rest → BodyS first (us ++ rest)
  body_same : (again other : Token) (old : List ℕ) → first ≡ true → IsMark (codes "datatype") again → IsTypeName old other → BodyS first (again ∷ other ∷ [])

pub data ArgumentS (v : Bool) : List Token → Type 0 where
  no_argument : ArgumentS v []
  an_argument : (of_ : Token) (us : List Token) → IsMark (codes "of") of_ → ExTy (ty v) us → ArgumentS v (of_ ∷ us)

pub data ConS : List Token → Type 0 where
  con_s : (word : Token) (name : List ℕ) (us : List Token) → IsName name word → ArgumentS true us → ConS (word ∷ us)

pub data BarCons : List Token → Type 0 where
  no_cons : BarCons []
  bar_cons : (bar : Token) (us : List Token) → IsMark (codes "|") bar → ExCons cons us → BarCons (bar ∷ us)

pub data ExnArgumentS : List Token → Type 0 where
  exn_argument : (us : List Token) → ArgumentS false us → ExnArgumentS us
  exn_same : (equals other : Token) (old : List ℕ) → IsMark (codes "=") equals → IsTypeName old other → ExnArgumentS (equals ∷ other ∷ [])

pub data ExnS : List Token → Type 0 where
  exn_s : (word : Token) (name : List ℕ) (us : List Token) → IsName name word → ExnArgumentS us → ExnS (word ∷ us)

pub data AndExns : List Token → Type 0 where
  no_exns : AndExns []
  and_exns : (word : Token) (us : List Token) → IsMark (codes "and") word → ExCons exns us → AndExns (word ∷ us)

abbrev pub ConSem : ConPhrase → List Token → Type 0
ConSem (cp.Body first) ts = BodyS first ts
ConSem cp.Original ts = OneTypeName ts
ConSem cp.Bind ts = ConS ts
ConSem cp.Argument ts = ArgumentS true ts
ConSem cp.Rest ts = BarCons ts
ConSem cp.DataRest ts = AndDatas ts
ConSem cp.Exn ts = ExnS ts
ConSem (cp.ExnArgument from) ts = ExnArgumentS ts
ConSem cp.ExnRest ts = AndExns ts

-- functions: the result type and the body of a clause
pub data ClauseBody (o : Bool) : List Token → Type 0 where
  plain_body : (equals : Token) (us : List Token) → IsMark (codes "=") equals → ExExp (expr o) us → ClauseBody o (equals ∷ us)
  typed_body : (colon equals : Token) (us ws : List Token) → IsMark (codes ":") colon → ExTy (ty false) us → IsMark (codes "=") equals → ExExp (expr o) ws → ClauseBody o (colon ∷ us ++ equals ∷ ws)

pub data EqualsS (ts : List Token) (z : Option TokenSort) : Type 0 where
  equals_s : (o : Bool) → ClauseBody o ts → Ends o z → EqualsS ts z

-- the body of a first clause with the later ones
pub data ClauseTail (name : List ℕ) (count : ℕ) : List Token → Type 0 where
  last_tail : (o : Bool) (us : List Token) → ClauseBody o us → ClauseTail name count us
  more_tail : (bar : Token) (us rest : List Token) → ClauseBody false us → IsMark (codes "|") bar → ExClauses name count rest → ClauseTail name count (us ++ bar ∷ rest)

abbrev pub FunS : List Token → Type 0
FunS ts = (name : List ℕ) × (count : ℕ) × ExClauses name count ts

-- so many atomic patterns
abbrev pub CountedPats : ℕ → List Token → Type 0
CountedPats zero ts = Empty ts
CountedPats (suc k) ts = ExPats (atpats (suc k)) ts

-- the patterns of a first clause behind its first `suc count`, and what follows them
pub data PatternsS (name : List ℕ) (count : ℕ) : List Token → Type 0 where
  patterns_s : (k total : ℕ) (us rest : List Token) → total ≡ count + k → CountedPats k us → ClauseTail name (suc total) rest → PatternsS name count (us ++ rest)

abbrev pub FunSem : FunPhrase → List Token → Option TokenSort → Type 0
FunSem fp.Bind ts z = FunS ts
FunSem fp.Rest ts z = AndRecs funs ts
FunSem (fp.Op from) ts z = (op : Token) → IsMark (codes "op") op → FunS (op ∷ ts)
FunSem (fp.Head from name_at name) ts z = (ts0 : List Token) → HeadOf name ts0 → FunS (ts0 ++ ts)
FunSem (fp.Infix from) ts z = (ts0 : List Token) → ExPat atpat ts0 → FunS (ts0 ++ ts)
FunSem (fp.Patterns from name count) ts z = (k : ℕ) → count ≡ suc k → PatternsS name k ts
FunSem (fp.Equals from count) ts z = EqualsS ts z

pub data ClauseS (name : List ℕ) (count : ℕ) (ts : List Token) (z : Option TokenSort) : Type 0 where
  clause_s : (o : Bool) → ExClause name count o ts → Ends o z → ClauseS name count ts z

pub data LaterS (name : List ℕ) (count : ℕ) (z : Option TokenSort) : List Token → Type 0 where
  no_later : Not m.Bar z → LaterS name count z []
  a_later : (bar : Token) (us : List Token) → IsMark (codes "|") bar → ExClauses name count us → LaterS name count z (bar ∷ us)

abbrev pub LaterSem : LaterPhrase → List Token → Option TokenSort → Type 0
LaterSem (lp.Rest name count) ts z = (k : ℕ) → count ≡ suc k → LaterS name (suc k) z ts
LaterSem (lp.Clause name count) ts z = (k : ℕ) → count ≡ suc k → ClauseS name (suc k) ts z
LaterSem (lp.Op from name count) ts z = (k : ℕ) (op : Token) → count ≡ suc k → IsMark (codes "op") op → ClauseS name (suc k) (op ∷ ts) z
LaterSem (lp.Head from name_at found name) ts z = (level : ℕ) (ts0 : List Token) → infix_level name ≡ Some level → HeadOf found ts0 → ClauseS name 1 (ts0 ++ ts) z
LaterSem (lp.Infix from name) ts z = (level : ℕ) (ts0 : List Token) → infix_level name ≡ Some level → ExPat atpat ts0 → ClauseS name 1 (ts0 ++ ts) z
LaterSem (lp.Patterns count) ts z = CountedPats count ts

-- what a symbol reads, before z
abbrev pub Sem : Sym → List Token → Option TokenSort → Type 0
Sem (s.Do act) ts z = Empty ts
Sem (s.Want mark) ts z = OneMark mark ts
Sem (s.Exp phrase) ts z = ExpSem phrase ts z
Sem (s.ExpRest phrase) ts z = ExpRestSem phrase ts z
Sem (s.ExpItems phrase) ts z = ExpItemsSem phrase ts
Sem (s.Quoted phrase) ts z = QuotedSem phrase ts
Sem (s.Pat phrase) ts z = PatSem phrase ts
Sem (s.PatItems phrase) ts z = PatItemsSem phrase ts
Sem (s.Ty phrase) ts z = TySem phrase ts
Sem (s.Dec phrase) ts z = DecSem phrase ts
Sem (s.Head phrase) ts z = HeadSem phrase ts
Sem (s.Con phrase) ts z = ConSem phrase ts
Sem (s.Fun phrase) ts z = FunSem phrase ts z
Sem (s.Later phrase) ts z = LaterSem phrase ts z

-- the tokens of a stack
pub data Fulfils : List Sym → List Token → Option TokenSort → Type 0 where
  done : {z : Option TokenSort} → Fulfils [] [] z
  reads : {x : Sym} {st : List Sym} {z : Option TokenSort} (us rest : List Token) → Sem x us (first_or rest z) → Fulfils st rest z → Fulfils (x ∷ st) (us ++ rest) z

-- the tokens of two stacks, one on the other
pub data Split (β st : List Sym) (z : Option TokenSort) : List Token → Type 0 where
  parts : (us rest : List Token) → Fulfils β us (first_or rest z) → Fulfils st rest z → Split β st z (us ++ rest)

split-more : (x : Sym) (β st : List Sym) (us : List Token) {rest : List Token} (z : Option TokenSort) → Sem x us (first_or rest z) → Split β st z rest → Split (x ∷ β) st z (us ++ rest)
split-more x β st us z h (parts u2 r2 g f) =
    subst (Split (x ∷ β) st z) (append_assoc us u2 r2) (parts (us ++ u2) r2 (reads us u2 (subst (Sem x us) (first-append u2 r2 z) h) g) f)

pub split : (β st : List Sym) {ts : List Token} (z : Option TokenSort) → Fulfils (β ++ st) ts z → Split β st z ts
split [] st {ts} z f = parts [] ts done f
split (x ∷ β) st z (reads us rest h f) = split-more x β st us z h (split β st z f)

pub nil : (ts : List Token) → ts ≡ ts ++ []
nil ts = sym (append-nil ts)

-- a stack of one symbol
pub last : {x : Sym} {ts : List Token} {z : Option TokenSort} → Fulfils (x ∷ []) ts z → Sem x ts z
last {x} {ts} {z} (reads us _ h done) = subst (λ w. Sem x w z) (nil us) h
