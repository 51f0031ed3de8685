-- What is left to be read where a token begins an expression, a pattern, a type, a declaration or a body.
use Rattle.std.specs.Prelude.{ℕ, List, [], ◌∷◌, ◌++◌, Bool, true, false, cond, nat_lt}
use Rattle.sml_syntax.specs.declared.token.Token.{Token}
use Rattle.sml_syntax.specs.declared.token.Lack.TheVariants as l
use Rattle.sml_grammar.specs.declared.mark.Mark.TheVariants as m
use Rattle.sml_grammar.specs.declared.token_sort.TokenSort.{TokenSort}
use Rattle.sml_grammar.specs.declared.act.Act.TheVariants as a
use Rattle.sml_grammar.specs.declared.act.ExpAct.TheVariants as x
use Rattle.sml_grammar.specs.declared.act.PatAct.TheVariants as p
use Rattle.sml_grammar.specs.declared.act.TyAct.TheVariants as y
use Rattle.sml_grammar.specs.declared.act.DecAct.TheVariants as d
use Rattle.sml_grammar.specs.declared.symbol.Sym.{Sym}
use Rattle.sml_grammar.specs.declared.symbol.Sym.TheVariants as s
use Rattle.sml_grammar.specs.declared.symbol.ExpPhrase.TheVariants as xp
use Rattle.sml_grammar.specs.declared.symbol.ExpRest.TheVariants as xr
use Rattle.sml_grammar.specs.declared.symbol.ExpItems.TheVariants as xi
use Rattle.sml_grammar.specs.declared.symbol.Quoted.TheVariants as q
use Rattle.sml_grammar.specs.declared.symbol.PatPhrase.TheVariants as pp
use Rattle.sml_grammar.specs.declared.symbol.PatItems.TheVariants as pi
use Rattle.sml_grammar.specs.declared.symbol.TyPhrase.TheVariants as tp
use Rattle.sml_grammar.specs.declared.symbol.DecPhrase.TheVariants as dp
use Rattle.sml_grammar.specs.declared.symbol.HeadPhrase.TheVariants as hp
use Rattle.sml_grammar.specs.declared.symbol.ConPhrase.TheVariants as cp
use Rattle.sml_grammar.specs.declared.symbol.FunPhrase.TheVariants as fp
use Rattle.sml_grammar.specs.declared.mark.Mark.{Mark}
use Rattle.sml_grammar.specs.declared.token_sort.TokenSort.TheVariants as o
use Rattle.sml_grammar.specs.Marks.{same_mark}
use Rattle.sml_grammar.specs.Sorts.{is_mark, begins_atom, is_type_name, is_ty_var}
use Rattle.sml_grammar.specs.Tokens.{text_of}

-- a mark that begins an atomic expression
unfoldable pub atom_mark_take : Mark → ℕ → List Sym
atom_mark_take mark at =
    cond (same_mark mark m.Op) (s.Exp xp.OpName ∷ [])
    (cond (same_mark mark m.Open) (s.ExpItems (xi.Opened at) ∷ [])
    (cond (same_mark mark m.OpenBracket) (s.ExpItems (xi.OpenedList at) ∷ [])
    (s.Do (a.Dec d.NoDecs) ∷ s.Dec dp.Inner ∷ s.Want m.In ∷ s.Do (a.Exp x.NoExps) ∷ s.Exp xp.Whole ∷ s.Do (a.Exp x.Push) ∷ s.ExpItems xi.Let ∷ s.Do (a.Exp (x.Let at)) ∷ [])))

-- a token that begins an atomic expression
unfoldable pub atom_take : TokenSort → Token → List Sym
atom_take (o.Int number) t = s.Do (a.Exp (x.Int t.span.from number)) ∷ []
atom_take (o.Char byte) t = s.Do (a.Exp (x.Char t.span.from byte)) ∷ []
atom_take o.Str t = s.Do (a.Exp (x.Str t.span.from (text_of t.form))) ∷ []
atom_take o.Name t = s.Do (a.Exp (x.Name t.span.from (text_of t.form))) ∷ []
atom_take o.Long t = s.Do (a.Exp (x.Name t.span.from (text_of t.form))) ∷ []
atom_take o.QuoteFrom t = s.Do (a.Exp x.NoPieces) ∷ s.Quoted q.Any ∷ s.Do (a.Exp (x.Quote t.span.from)) ∷ []
atom_take (o.Mark mark) t = atom_mark_take mark t.span.from
atom_take _ t = []

-- an expression that takes all it can
unfoldable pub tail_take : TokenSort → ℕ → List Sym
tail_take sort at =
    cond (is_mark m.Raise sort) (s.Exp xp.Whole ∷ s.Do (a.Exp (x.Raise at)) ∷ [])
    (cond (is_mark m.If sort) (s.Exp xp.Whole ∷ s.Want m.Then ∷ s.Exp xp.Whole ∷ s.Want m.Else ∷ s.Exp xp.Whole ∷ s.Do (a.Exp (x.If at)) ∷ [])
    (cond (is_mark m.Case sort) (s.Exp xp.Whole ∷ s.Want m.Of ∷ s.Do (a.Exp x.NoRules) ∷ s.Pat pp.Whole ∷ s.Want m.DoubleArrow ∷ s.Exp xp.Whole ∷ s.Do (a.Exp x.AddRule) ∷ s.ExpRest xr.Match ∷ s.Do (a.Exp (x.Case at)) ∷ [])
    (s.Do (a.Exp x.NoRules) ∷ s.Pat pp.Whole ∷ s.Want m.DoubleArrow ∷ s.Exp xp.Whole ∷ s.Do (a.Exp x.AddRule) ∷ s.ExpRest xr.Match ∷ s.Do (a.Exp (x.Fn at)) ∷ [])))

-- what may follow the first atom of an expression that begins here
abbrev pub exp_rests : ℕ → List Sym
exp_rests at =
    s.ExpRest (xr.App at) ∷ s.ExpRest (xr.Infix 0 at) ∷ s.ExpRest (xr.Typed at) ∷ s.ExpRest (xr.And at) ∷ s.ExpRest (xr.Or at) ∷ s.ExpRest (xr.Handle at) ∷ []

-- a token that begins an expression
unfoldable pub exp_take : TokenSort → Token → List Sym
exp_take sort t = cond (begins_atom sort) (atom_take sort t ++ exp_rests t.span.from) (tail_take sort t.span.from)

-- a mark that begins an atomic pattern
unfoldable pub pat_mark_take : Mark → ℕ → List Sym
pat_mark_take mark at =
    cond (same_mark mark m.Op) (s.Pat pp.OpAtomic ∷ [])
    (cond (same_mark mark m.Open) (s.PatItems (pi.Opened at) ∷ [])
    (cond (same_mark mark m.OpenBracket) (s.PatItems (pi.OpenedList at) ∷ [])
    (s.Do (a.Pat (p.Any at)) ∷ [])))

-- a token that begins an atomic pattern
unfoldable pub atpat_take : TokenSort → Token → List Sym
atpat_take (o.Int number) t = s.Do (a.Pat (p.Int t.span.from number)) ∷ []
atpat_take (o.Char byte) t = s.Do (a.Pat (p.Char t.span.from byte)) ∷ []
atpat_take o.Str t = s.Do (a.Pat (p.Str t.span.from (text_of t.form))) ∷ []
atpat_take o.Name t = s.Do (a.Pat (p.Name t.span.from (text_of t.form))) ∷ []
atpat_take o.Long t = s.Do (a.Pat (p.Name t.span.from (text_of t.form))) ∷ []
atpat_take (o.Mark mark) t = pat_mark_take mark t.span.from
atpat_take _ t = []

-- a token that begins a pattern without `::`: a name may have an argument
unfoldable pub apat_take : TokenSort → Token → List Sym
apat_take sort t =
    cond (is_type_name sort) (s.Do (a.Pat (p.Name t.span.from (text_of t.form))) ∷ s.Pat (pp.Argument t.span.from) ∷ [])
    (cond (is_mark m.Op sort) (s.Pat pp.OpName ∷ []) (atpat_take sort t))

-- a token that begins a pattern
unfoldable pub pat_take : TokenSort → Token → List Sym
pat_take sort t = apat_take sort t ++ (s.Pat (pp.ConsRest t.span.from) ∷ s.Pat (pp.TypedRest t.span.from) ∷ [])

-- a type variable, which is a lack where no variables are allowed
abbrev pub var_take : Bool → Token → List Sym
var_take true t = s.Do (a.Ty (y.Var t.span.from (text_of t.form))) ∷ []
var_take false t = s.Do (a.Lack t.span.from l.ConstraintVar) ∷ s.Do (a.Ty (y.Var t.span.from (text_of t.form))) ∷ []

-- a token that begins a type
unfoldable pub ty_take : Bool → TokenSort → Token → List Sym
ty_take v sort t =
    cond (is_ty_var sort) (var_take v t)
    (cond (is_type_name sort) (s.Do (a.Ty y.NoTys) ∷ s.Do (a.Ty (y.Con t.span.from (text_of t.form))) ∷ [])
    (s.Ty (tp.Whole v) ∷ s.Ty (tp.AfterFirst v t.span.from) ∷ []))

-- a declaration of types or exceptions
unfoldable pub type_dec_take : TokenSort → ℕ → List Sym
type_dec_take sort at =
    cond (is_mark m.TypeWord sort) (s.Do (a.Dec d.NoAbbrevs) ∷ s.Head hp.Type ∷ s.Do (a.Dec (d.Abbrev at)) ∷ [])
    (cond (is_mark m.Datatype sort) (s.Do (a.Dec d.NoDatas) ∷ s.Head (hp.Data true) ∷ s.Do (a.Dec (d.DataDef at)) ∷ [])
    (s.Do (a.Dec d.NoCons) ∷ s.Con cp.Exn ∷ s.Con cp.ExnRest ∷ s.Do (a.Dec (d.ExnDef at)) ∷ []))

-- such a declaration inside `let` or `local` is a lack
abbrev pub inner_lack : Bool → ℕ → List Sym
inner_lack true at = s.Do (a.Lack at l.LocalType) ∷ []
inner_lack false at = []

-- a token that begins a declaration
unfoldable pub dec_take : Bool → TokenSort → ℕ → List Sym
dec_take inner sort at =
    cond (is_mark m.Val sort) (s.Dec (dp.ValFirst at) ∷ [])
    (cond (is_mark m.Fun sort) (s.Do (a.Dec d.NoRecs) ∷ s.Fun fp.Bind ∷ s.Fun fp.Rest ∷ s.Do (a.Dec (d.ValRec at)) ∷ [])
    (cond (is_mark m.Local sort) (s.Do (a.Dec d.NoDecs) ∷ s.Dec dp.Inner ∷ s.Want m.In ∷ s.Do (a.Dec d.NoDecs) ∷ s.Dec dp.Inner ∷ s.Want m.End ∷ s.Do (a.Dec (d.Local at)) ∷ [])
    (inner_lack inner at ++ type_dec_take sort at)))

-- several patterns of a clause are a tuple
unfoldable pub tupled_take : ℕ → List Sym
tupled_take count = cond (nat_lt 1 count) (s.Do (a.Pat p.Tupled) ∷ []) []

-- the result type and the body of a clause
unfoldable pub body_take : ℕ → ℕ → TokenSort → List Sym
body_take from count sort =
    tupled_take count
    ++ cond (is_mark m.Colon sort) (s.Ty (tp.Whole false) ∷ s.Want m.Equal ∷ s.Exp xp.Whole ∷ s.Do (a.Dec (d.Constrain from)) ∷ s.Do (a.Dec (d.AddClause from)) ∷ [])
    (s.Exp xp.Whole ∷ s.Do (a.Dec (d.AddClause from)) ∷ [])

-- the end of a function of so many patterns
unfoldable pub end_take : ℕ → List ℕ → ℕ → List Sym
end_take from name count =
    cond (nat_lt 1 count) (s.Do (a.Dec (d.Curry from count)) ∷ s.Do (a.Dec (d.AddRec name)) ∷ []) (s.Do (a.Dec (d.AddRec name)) ∷ [])
