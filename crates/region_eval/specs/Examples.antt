-- Terms that stand as examples of the evaluations.
use Rattle.std.specs.Prelude.{◌≡◌, ℕ, ℤ, pos, List, [], ◌∷◌, codes}
use Rattle.region_syntax.specs.declared.types.Place.{Place}
use Rattle.region_syntax.specs.declared.types.Place.TheVariants as place
use Rattle.region_syntax.specs.GroundTypes as gt
use Rattle.region_syntax.specs.GroundTerms as g
use Rattle.region_syntax.specs.RegionTypes as t
use Rattle.region_syntax.specs.RegionTypes.{RegionType}
use Rattle.region_syntax.specs.RegionTerms as r
use Rattle.sml_evaluation.specs.RunState.{Done, NoRule}
use Rattle.region_eval.specs.GroundValues.{Env}
use Rattle.region_eval.specs.GroundPrimitives as ground
use Rattle.region_eval.specs.RegionStore.{Value, Outcome}

-- the outcome gives this value; it is that no rule fits
abbrev pub Gives : Outcome Value → Value → Type 0
Gives (Done v s) w = v ≡ w
Gives _ w = ⊥

abbrev pub HasNoRule : Outcome Value → Type 0
HasNoRule (NoRule x s) = Unit {0}
HasNoRule _ = ⊥

-- the declarations end, with this body
abbrev pub Writes : ground.Outcome Env → List ℕ → Type 0
Writes (Done env s) body = s.shared.body ≡ body
Writes _ body = ⊥

-- `case (7, 9) of (a, b) => b` in a region of its own
abbrev pub pair_type : Place → RegionType
pair_type p = t.Tuple p (t.types t.Int (t.types t.Int t.no_types))

abbrev pub number : ℤ → r.Exp
number n = r.exp t.Int (r.Int n)

abbrev pub pair_at : Place → r.Exp
pair_at p = r.exp (pair_type p) (r.Tuple (r.exps (number (pos 7)) (r.exps (number (pos 9)) r.no_exps)) p)

abbrev pub names_of_pair : Place → r.Pat
names_of_pair p = r.pat (pair_type p) (r.TuplePat (r.pats (r.pat t.Int (r.NamePat (codes "a"))) (r.pats (r.pat t.Int (r.NamePat (codes "b"))) r.no_pats)))

abbrev pub second_of : Place → r.Exp → r.Exp
second_of p e = r.exp t.Int (r.Case e (r.rules (names_of_pair p) (r.exp t.Int (r.Name (codes "b"))) r.no_rules))

abbrev pub pair_is_read : r.Exp
pair_is_read = r.exp t.Int (r.LetRegion (5 ∷ []) (second_of (place.Reg 5) (pair_at (place.Reg 5))))

-- the same pair, read when its region has ended
abbrev pub pair_is_dead : r.Exp
pair_is_dead = second_of (place.Reg 5) (r.exp (pair_type (place.Reg 5)) (r.LetRegion (5 ∷ []) (pair_at (place.Reg 5))))

-- the same pair, held when its region has ended, and never read
abbrev pub pair_is_held : r.Exp
pair_is_held =
    r.exp t.Int (r.Case (r.exp (pair_type (place.Reg 5)) (r.LetRegion (5 ∷ []) (pair_at (place.Reg 5))))
    (r.rules (r.pat (pair_type (place.Reg 5)) (r.NamePat (codes "p"))) (number (pos 1)) r.no_rules))

-- `val _ = (Web.write "a"; Web.write "b")`
abbrev pub write_type : gt.GroundType
write_type = gt.Arrow gt.Str gt.Unit

abbrev pub writes : List ℕ → g.Exp
writes text = g.exp gt.Unit (g.App (g.exp write_type (g.Prim (codes "Web.write"))) (g.exp gt.Str (g.Str text)))

abbrev pub two_writes : g.Decs
two_writes =
    g.vals (g.rules (g.pat gt.Unit g.AnyPat) (g.exp gt.Unit (g.Seq (g.exps (writes (codes "a")) (g.exps (writes (codes "b")) g.no_exps)))) g.no_rules) g.no_decs

-- `val _ = Web.write ("Hello " ^ Int.toString (6 * 7))`
abbrev pub int_pair : gt.GroundType
int_pair = gt.Tuple (gt.types gt.Int (gt.types gt.Int gt.no_types))

abbrev pub text_pair : gt.GroundType
text_pair = gt.Tuple (gt.types gt.Str (gt.types gt.Str gt.no_types))

abbrev pub product : g.Exp
product =
    g.exp gt.Int (g.App (g.exp (gt.Arrow int_pair gt.Int) (g.Prim (codes "*")))
    (g.exp int_pair (g.Tuple (g.exps (g.exp gt.Int (g.Int (pos 6))) (g.exps (g.exp gt.Int (g.Int (pos 7))) g.no_exps)))))

abbrev pub product_text : g.Exp
product_text = g.exp gt.Str (g.App (g.exp (gt.Arrow gt.Int gt.Str) (g.Prim (codes "Int.toString"))) product)

abbrev pub greeting : g.Exp
greeting =
    g.exp gt.Str (g.App (g.exp (gt.Arrow text_pair gt.Str) (g.Prim (codes "^")))
    (g.exp text_pair (g.Tuple (g.exps (g.exp gt.Str (g.Str (codes "Hello "))) (g.exps product_text g.no_exps)))))

abbrev pub hello_expression : g.Exp
hello_expression = g.exp gt.Unit (g.App (g.exp write_type (g.Prim (codes "Web.write"))) greeting)

abbrev pub hello : g.Decs
hello = g.vals (g.rules (g.pat gt.Unit g.AnyPat) hello_expression g.no_rules) g.no_decs
