-- The heights of what acts make, as a fold over them, with no tree. Numbers above 200 aren't told apart: 201 stands for each.
use Rattle.std.specs.Prelude.{ℕ, ◌+◌, List, [], ◌∷◌, take, drop, max, min, nat_lt, cond, Option, Some, None}
use Rattle.sml_grammar.specs.declared.act.Act.{Act}
use Rattle.sml_grammar.specs.declared.act.Act.TheVariants as a
use Rattle.sml_grammar.specs.declared.act.ExpAct.{ExpAct}
use Rattle.sml_grammar.specs.declared.act.ExpAct.TheVariants as x
use Rattle.sml_grammar.specs.declared.act.PatAct.{PatAct}
use Rattle.sml_grammar.specs.declared.act.PatAct.TheVariants as p
use Rattle.sml_grammar.specs.declared.act.TyAct.{TyAct}
use Rattle.sml_grammar.specs.declared.act.TyAct.TheVariants as y
use Rattle.sml_grammar.specs.declared.act.DecAct.{DecAct}
use Rattle.sml_grammar.specs.declared.act.DecAct.TheVariants as d
use Rattle.sml_grammar.specs.declared.act.Made.{Made}
use Rattle.parse_limits.specs.declared.height.Growth.{Growth}

-- the act takes so many values; what it makes is higher by `adds` than the highest of them, which counts as at least `least`
abbrev pub grows : ℕ → ℕ → ℕ → Growth
grows takes adds least = record { takes = takes; adds = adds; least = least }

-- a leaf, a node of so many parts, and values that are gathered
abbrev pub leaf : Growth
leaf = grows 0 1 0

abbrev pub node : ℕ → Growth
node parts = grows parts 1 0

abbrev pub gather : ℕ → Growth
gather parts = grows parts 0 0

unfoldable pub exp_growth : ExpAct → Growth
exp_growth (x.Int from number) = leaf
exp_growth (x.Char from byte) = leaf
exp_growth (x.Str from text) = leaf
exp_growth (x.Name from name) = leaf
exp_growth (x.Unit from) = leaf
exp_growth x.NoExps = gather 0
exp_growth x.First = gather 1
exp_growth x.Push = gather 2
exp_growth (x.Tuple from) = node 1
exp_growth (x.List from) = node 1
exp_growth (x.Seq from) = node 1
exp_growth (x.App from) = node 2
exp_growth (x.Infix from) = grows 3 2 0
exp_growth (x.Typed from) = node 2
exp_growth (x.Both from) = node 2
exp_growth (x.Either from) = node 2
exp_growth (x.Handle from) = node 2
exp_growth (x.Raise from) = node 1
exp_growth (x.If from) = node 3
exp_growth (x.Case from) = node 2
exp_growth (x.Fn from) = node 1
exp_growth (x.Let from) = node 2
exp_growth x.NoRules = gather 0
exp_growth x.AddRule = gather 3
exp_growth x.NoPieces = gather 0
exp_growth (x.Plain text) = gather 1
exp_growth x.EmptyPlain = gather 1
exp_growth x.AddAnti = gather 2
exp_growth (x.Quote from) = node 1

unfoldable pub pat_growth : PatAct → Growth
pat_growth (p.Any from) = leaf
pat_growth (p.Int from number) = leaf
pat_growth (p.Char from byte) = leaf
pat_growth (p.Str from text) = leaf
pat_growth (p.Unit from) = leaf
pat_growth (p.Name from name) = leaf
pat_growth p.NoPats = gather 0
pat_growth p.First = gather 1
pat_growth p.Push = gather 2
pat_growth (p.Tuple from) = node 1
pat_growth (p.List from) = node 1
pat_growth (p.Con from) = node 2
pat_growth (p.Cons from) = grows 2 2 0
pat_growth (p.Typed from) = node 2
pat_growth (p.Pair from) = node 2
pat_growth p.Tupled = node 1

unfoldable pub ty_growth : TyAct → Growth
ty_growth (y.Var from name) = leaf
ty_growth y.NoTys = gather 0
ty_growth y.First = gather 1
ty_growth y.Push = gather 2
ty_growth (y.Con from name) = node 1
ty_growth (y.Tuple from) = node 1
ty_growth (y.Arrow from) = node 2

-- a function of several patterns has a `case` on a tuple of names, inside a function of each name after the first
unfoldable pub dec_growth : DecAct → Growth
dec_growth d.NoBinds = gather 0
dec_growth d.AddBind = gather 3
dec_growth (d.Val from) = node 1
dec_growth d.NoRecs = gather 0
dec_growth (d.Constrain from) = node 2
dec_growth (d.AddClause from) = gather 3
dec_growth (d.Curry from count) = grows 1 count 2
dec_growth (d.AddRec name) = gather 2
dec_growth (d.ValRec from) = node 1
dec_growth d.NoVars = gather 0
dec_growth (d.AddVar name) = gather 1
dec_growth (d.Head name) = gather 1
dec_growth d.NoAbbrevs = gather 0
dec_growth d.AddAbbrev = gather 3
dec_growth (d.Abbrev from) = node 1
dec_growth d.NoCons = gather 0
dec_growth (d.Con name) = gather 0
dec_growth d.ConOf = gather 2
dec_growth d.AddCon = gather 2
dec_growth d.NoDatas = gather 0
dec_growth d.AddData = gather 3
dec_growth (d.DataDef from) = node 1
dec_growth (d.ExnDef from) = node 1
dec_growth d.NoDecs = gather 0
dec_growth d.AddDec = gather 2
dec_growth (d.Local from) = node 2
dec_growth (d.It from) = grows 1 1 1
dec_growth (d.Item from) = gather 2

-- a lack changes nothing
unfoldable pub growth_of : Act → Option Growth
growth_of (a.Exp act) = Some (exp_growth act)
growth_of (a.Pat act) = Some (pat_growth act)
growth_of (a.Ty act) = Some (ty_growth act)
growth_of (a.Dec act) = Some (dec_growth act)
growth_of (a.Lack place lack) = None

-- the greatest of numbers
abbrev pub most : List ℕ → ℕ
most [] = 0
most (h ∷ hs) = max h (most hs)

-- heights with that of what is made in place of those of its parts
unfoldable pub grown : Growth → List ℕ → List ℕ
grown g hs = min (g.adds + max g.least (most (take g.takes hs))) 201 ∷ drop g.takes hs

abbrev pub grown_by : Option Growth → List ℕ → List ℕ
grown_by None hs = hs
grown_by (Some g) hs = grown g hs

-- the height of what was made last
abbrev pub top_of : List ℕ → Option ℕ
top_of [] = None
top_of (h ∷ hs) = Some h

abbrev pub high_item : ℕ → Option ℕ → Option ℕ
high_item from None = None
high_item from (Some h) = cond (nat_lt 200 h) (Some from) None

-- an item that is too high: its place
unfoldable pub too_high : Act → List ℕ → Option ℕ
too_high (a.Dec (d.Item from)) hs = high_item from (top_of hs)
too_high _ hs = None

abbrev pub else_high : Option ℕ → Option ℕ → Option ℕ
else_high None later = later
else_high (Some place) later = Some place

-- the place of the first item that is too high, behind such heights
unfoldable pub first_high : List Made → List ℕ → Option ℕ
first_high [] hs = None
first_high (m ∷ ms) hs = else_high (too_high m.act hs) (first_high ms (grown_by (growth_of m.act) hs))
