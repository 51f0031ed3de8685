-- The machine with counts of patterns that have no bound. On tokens of a slice it does what the machine does.
use Rattle.std.specs.Prelude.{ℕ, suc, List, [], ◌∷◌, ◌++◌, cond, Option, Some, None}
use Rattle.sml_syntax.specs.declared.token.Token.{Token}
use Rattle.sml_grammar.specs.declared.act.Act.TheVariants as a
use Rattle.sml_grammar.specs.declared.act.Made.{Made}
use Rattle.sml_grammar.specs.declared.token_sort.TokenSort.{TokenSort}
use Rattle.sml_grammar.specs.declared.symbol.Sym.{Sym}
use Rattle.sml_grammar.specs.declared.symbol.Sym.TheVariants as s
use Rattle.sml_grammar.specs.declared.symbol.FunPhrase.{FunPhrase}
use Rattle.sml_grammar.specs.declared.symbol.FunPhrase.TheVariants as fp
use Rattle.sml_grammar.specs.declared.symbol.LaterPhrase.TheVariants as lp
use Rattle.sml_grammar.specs.Tables.{at_exp, at_exp_rest, at_exp_items, at_quoted, at_pat, at_pat_items, at_ty, at_dec, at_head, at_con, at_fun, at_later}
use Rattle.sml_grammar.specs.declared.act.PatAct.TheVariants as p
use Rattle.sml_grammar.specs.Sorts.{sort_of, is_mark, begins_pat, begins_body}
use Rattle.sml_grammar.specs.Moves.{Move, Takes, Acts, Fails}
use Rattle.sml_grammar.specs.Takes.{atpat_take, body_take, end_take}
use Rattle.sml_grammar.specs.Machine.{move_end, Fed, Empties, feed_by, Outcome, end_of, next_of, start}

-- the first clause of a function, its patterns counted without a bound
abbrev pub exact_fun : FunPhrase → TokenSort → Token → Move
exact_fun (fp.Patterns from name count) sort t = cond (begins_pat sort) (Takes (atpat_take sort t ++ (s.Do (a.Pat p.Push) ∷ s.Fun (fp.Patterns from name (suc count)) ∷ []))) (cond (begins_body sort) (Takes (body_take from count sort ++ ((s.Later (lp.Rest name count) ∷ []) ++ end_take from name count))) Fails)
exact_fun phrase sort t = at_fun phrase sort t

-- what a symbol does at a token
unfoldable pub move_at : Sym → TokenSort → Token → Move
move_at (s.Do act) sort t = Acts act
move_at (s.Want mark) sort t = cond (is_mark mark sort) (Takes []) Fails
move_at (s.Exp phrase) sort t = at_exp phrase sort t
move_at (s.ExpRest phrase) sort t = at_exp_rest phrase sort t
move_at (s.ExpItems phrase) sort t = at_exp_items phrase sort t
move_at (s.Quoted phrase) sort t = at_quoted phrase sort t
move_at (s.Pat phrase) sort t = at_pat phrase sort t
move_at (s.PatItems phrase) sort t = at_pat_items phrase sort t
move_at (s.Ty phrase) sort t = at_ty phrase sort t
move_at (s.Dec phrase) sort t = at_dec phrase sort t
move_at (s.Head phrase) sort t = at_head phrase sort t
move_at (s.Con phrase) sort t = at_con phrase sort t
move_at (s.Fun phrase) sort t = exact_fun phrase sort t
move_at (s.Later phrase) sort t = at_later phrase sort t

unfoldable pub move_of : Sym → Option Token → Move
move_of symbol None = move_end symbol
move_of symbol (Some t) = move_at symbol (sort_of t.form) t

-- a stack at a token, behind acts so far and a last token that ends there
unfoldable pub feed : Option Token → List Sym → ℕ → List Made → Fed
feed t [] to acts = Empties acts
feed t (symbol ∷ rest) to acts = feed_by (move_of symbol t) rest to acts (feed t rest to)

unfoldable pub run : List Token → List Sym → ℕ → List Made → Outcome
run [] stack to acts = end_of (feed None stack to acts) to
run (t ∷ ts) stack to acts = next_of (feed (Some t) stack to acts) (t ∷ ts) to (λ stack' acts'. run ts stack' t.span.to acts')

-- what this machine makes of tokens
unfoldable pub exact_outcome : List Token → Outcome
exact_outcome tokens = run tokens start 0 []
