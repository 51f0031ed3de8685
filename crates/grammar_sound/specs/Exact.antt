-- The machine with counts of patterns that have no bound. On tokens of a slice it does what the machine does.
use Rattle.std.specs.Prelude.{ℕ, suc, List, [], ◌∷◌, ◌++◌, Option, Some, None, cond}
use Rattle.sml_syntax.specs.declared.token.Token.{Token}
use Rattle.sml_grammar.specs.declared.act.Act.TheVariants as a
use Rattle.sml_grammar.specs.declared.act.PatAct.TheVariants as p
use Rattle.sml_grammar.specs.declared.act.Made.{Made}
use Rattle.sml_grammar.specs.declared.token_sort.TokenSort.{TokenSort}
use Rattle.sml_grammar.specs.declared.symbol.Sym.{Sym}
use Rattle.sml_grammar.specs.declared.symbol.Sym.TheVariants as s
use Rattle.sml_grammar.specs.declared.symbol.FunPhrase.{FunPhrase}
use Rattle.sml_grammar.specs.declared.symbol.FunPhrase.TheVariants as fp
use Rattle.sml_grammar.specs.declared.symbol.LaterPhrase.TheVariants as lp
use Rattle.sml_grammar.specs.Sorts.{sort_of, begins_pat, begins_body}
use Rattle.sml_grammar.specs.Moves.{Move, Takes, Fails}
use Rattle.sml_grammar.specs.Takes.{atpat_take, body_take, end_take}
use Rattle.sml_grammar.specs.Tables.{at_fun}
use Rattle.sml_grammar.specs.Machine.{move_at, move_end, Fed, Empties, feed_by, Outcome, end_of, next_of, start}

-- the first clause of a function, its patterns counted without a bound
abbrev pub exact_fun : FunPhrase → TokenSort → Token → Move
exact_fun (fp.Patterns from name count) sort t = cond (begins_pat sort) (Takes (atpat_take sort t ++ (s.Do (a.Pat p.Push) ∷ s.Fun (fp.Patterns from name (suc count)) ∷ []))) (cond (begins_body sort) (Takes (body_take from count sort ++ ((s.Later (lp.Rest name count) ∷ []) ++ end_take from name count))) Fails)
exact_fun phrase sort t = at_fun phrase sort t

-- what a symbol does at a token
abbrev pub exact_move : Sym → TokenSort → Token → Move
exact_move (s.Fun phrase) sort t = exact_fun phrase sort t
exact_move symbol sort t = move_at symbol sort t

abbrev pub exact_move_of : Sym → Option Token → Move
exact_move_of symbol None = move_end symbol
exact_move_of symbol (Some t) = exact_move symbol (sort_of t.form) t

-- a stack at a token
unfoldable pub exact_feed : Option Token → List Sym → ℕ → List Made → Fed
exact_feed t [] to acts = Empties acts
exact_feed t (symbol ∷ rest) to acts = feed_by (exact_move_of symbol t) rest to acts (exact_feed t rest to)

unfoldable pub exact_run : List Token → List Sym → ℕ → List Made → Outcome
exact_run [] stack to acts = end_of (exact_feed None stack to acts) to
exact_run (t ∷ ts) stack to acts = next_of (exact_feed (Some t) stack to acts) (t ∷ ts) to (λ stack' acts'. exact_run ts stack' t.span.to acts')

-- what the machine makes of tokens
unfoldable pub exact_outcome : List Token → Outcome
exact_outcome tokens = exact_run tokens start 0 []
