-- Programs that stand as examples of the evaluation. Each node stands at the same place, of which the evaluation takes no heed.
use Rattle.std.specs.Prelude.{ℕ, pos, List, [], ◌∷◌, None, true, codes}
use Rattle.sml_syntax.specs.declared.tree.Span.{Span}
use Rattle.sml_syntax.specs.declared.tree.Exp.{Exp}
use Rattle.sml_syntax.specs.declared.tree.ExpForm.TheVariants as e
use Rattle.sml_syntax.specs.declared.tree.Pat.{Pat}
use Rattle.sml_syntax.specs.declared.tree.PatForm.TheVariants as p
use Rattle.sml_syntax.specs.declared.tree.Dec.{Dec}
use Rattle.sml_syntax.specs.declared.tree.DecForm.TheVariants as d
use Rattle.sml_syntax.specs.declared.tree.Rule.{Rule}
use Rattle.web_data.specs.declared.datum.Datum.TheVariants as datum
use Rattle.web_data.specs.declared.datum.Desc.TheVariants as desc
use Rattle.web_data.specs.declared.cache.CacheId.{CacheId}
use Rattle.web_data.specs.declared.cache.CacheOp.{CacheOp}
use Rattle.web_data.specs.declared.cache.CacheOp.TheVariants as op
use Rattle.web_data.specs.declared.cache.CacheAns.TheVariants as told
use Rattle.web_data.specs.declared.database.WebCall.{WebCall}
use Rattle.web_data.specs.declared.database.WebCall.TheVariants as call
use Rattle.web_data.specs.declared.database.WebAns.{WebAns}
use Rattle.web_data.specs.declared.database.WebAns.TheVariants as answer
use Rattle.grammar_rules.specs.Nodes.{exp_at, pat_at, dec_at, rule_of, infix_exp, clause_pat, function_rules}

module _ (at : Span) where
  abbrev name : List ℕ → Exp
  name n = exp_at at (e.Name n)

  abbrev text : List ℕ → Exp
  text bytes = exp_at at (e.Str bytes)

  abbrev tuple : List Exp → Exp
  tuple parts = exp_at at (e.Tuple parts)

  abbrev app : Exp → Exp → Exp
  app f x = exp_at at (e.App f x)

  abbrev variable : List ℕ → Pat
  variable n = pat_at at (p.Name n)

  abbrev val_of : Pat → Exp → Dec
  val_of left right = dec_at at (d.Val ((left, right) ∷ []))

  -- fun Web.Cache.memoize c f k = case Web.Cache.lookup c k of SOME v => v
  --   | NONE => let val v = f k val _ = Web.Cache.insert (c, k, v) in v end
  abbrev pub looked_up : Exp
  looked_up = app (app (name (codes "Web.Cache.lookup")) (name (codes "c"))) (name (codes "k"))

  abbrev pub kept : Exp
  kept = exp_at at (e.Let
      (
      val_of (variable (codes "v")) (app (name (codes "f")) (name (codes "k")))
      ∷ val_of (pat_at at p.Any) (app (name (codes "Web.Cache.insert")) (tuple (name (codes "c") ∷ name (codes "k") ∷ name (codes "v") ∷ [])))
      ∷ []
      )
      (name (codes "v") ∷ []))

  abbrev pub memoize_body : Exp
  memoize_body = exp_at at (e.Case looked_up
      (
      rule_of (pat_at at (p.Con (codes "SOME") (variable (codes "v")))) (name (codes "v"))
      ∷ rule_of (variable (codes "NONE")) kept
      ∷ []
      ))

  abbrev pub memoize_rules : List Rule
  memoize_rules = function_rules at 3 (rule_of (clause_pat at (variable (codes "c")) (variable (codes "f") ∷ variable (codes "k") ∷ [])) memoize_body ∷ [])

  abbrev pub memoize : Dec
  memoize = dec_at at (d.ValRec ((codes "Web.Cache.memoize", memoize_rules) ∷ []))

  -- val c = Web.Cache.get (Web.Cache.Int, Web.Cache.Int, "sq", Web.Cache.WhileUsed (NONE, NONE))
  abbrev pub unlimited : Exp
  unlimited = app (name (codes "Web.Cache.WhileUsed")) (tuple (name (codes "NONE") ∷ name (codes "NONE") ∷ []))

  abbrev pub cache_made : Exp
  cache_made =
      (app (name (codes "Web.Cache.get")) (tuple (name (codes "Web.Cache.Int") ∷ name (codes "Web.Cache.Int") ∷ text (codes "sq") ∷ unlimited ∷ [])))

  abbrev pub squares_cache : Dec
  squares_cache = val_of (variable (codes "c")) cache_made

  -- val f = Web.Cache.memoize c (fn n => (Web.write "run "; n * n))
  abbrev pub square_rules : List Rule
  square_rules =
      rule_of (variable (codes "n"))
      (exp_at at (e.Seq
      (
      app (name (codes "Web.write")) (text (codes "run "))
      ∷ infix_exp at (name (codes "*")) (name (codes "n")) (name (codes "n"))
      ∷ []
      )))
      ∷ []

  abbrev pub square : Exp
  square = exp_at at (e.Fn square_rules)

  abbrev pub memoised : Exp
  memoised = app (app (name (codes "Web.Cache.memoize")) (name (codes "c"))) square

  abbrev pub memoised_square : Dec
  memoised_square = val_of (variable (codes "f")) memoised

  -- val _ = Web.write (Int.toString (f 7) ^ " " ^ Int.toString (f 7))
  abbrev pub of_seven : Exp
  of_seven = app (name (codes "f")) (exp_at at (e.Int (pos 7)))

  abbrev pub seven_told : Exp
  seven_told = app (name (codes "Int.toString")) of_seven

  abbrev pub first_told : Exp
  first_told = infix_exp at (name (codes "^")) seven_told (text (codes " "))

  abbrev pub both_told : Exp
  both_told = infix_exp at (name (codes "^")) first_told seven_told

  abbrev pub both_written : Exp
  both_written = app (name (codes "Web.write")) both_told

  abbrev pub squares_written : Dec
  squares_written = val_of (pat_at at p.Any) both_written

  -- the item of the prelude and the script
  abbrev pub squares : List Dec
  squares = memoize ∷ squares_cache ∷ memoised_square ∷ squares_written ∷ []

  -- fn NONE => "any" | _ => "other"
  abbrev pub any_or_other : List Rule
  any_or_other =
      rule_of (variable (codes "NONE")) (text (codes "any"))
      ∷ rule_of (pat_at at p.Any) (text (codes "other"))
      ∷ []

-- the cache of the script, and a call of it
abbrev pub squares_id : CacheId
squares_id = record { name = codes "sq"; key = desc.Int; value = desc.Int; kind = record { used = true; time = None; size = None } }

abbrev pub on_squares : CacheOp → WebCall
on_squares o = call.Cache (record { id = squares_id; op = o })

-- nothing is found under 7, 49 is kept under 7, and then it is found
abbrev pub square_calls : List WebCall
square_calls = on_squares (op.Look (datum.Int (pos 7))) ∷ on_squares (op.Put (datum.Int (pos 7)) (datum.Int (pos 49))) ∷ on_squares (op.Look (datum.Int (pos 7))) ∷ []

abbrev pub square_answers : List WebAns
square_answers = answer.Cache told.Absent ∷ answer.Cache (told.Fresh true) ∷ answer.Cache (told.Found (datum.Int (pos 49))) ∷ []
