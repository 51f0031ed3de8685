-- The machine: a fold over the tokens, which tells the acts that build a tree.
use Rattle.std.specs.Prelude.{ℕ, ◌==◌, List, [], ◌∷◌, ◌++◌, Bool, true, false, cond, Option, Some, None}
use Rattle.sml_syntax.specs.declared.token.Token.{Token}
use Rattle.sml_grammar.specs.declared.act.Act.{Act}
use Rattle.sml_grammar.specs.declared.act.Act.TheVariants as a
use Rattle.sml_grammar.specs.declared.act.DecAct.TheVariants as d
use Rattle.sml_grammar.specs.declared.act.Made.{Made}
use Rattle.sml_grammar.specs.declared.token_sort.TokenSort.{TokenSort}
use Rattle.sml_grammar.specs.declared.symbol.Sym.{Sym}
use Rattle.sml_grammar.specs.declared.symbol.Sym.TheVariants as s
use Rattle.sml_grammar.specs.declared.symbol.PatPhrase.{PatPhrase}
use Rattle.sml_grammar.specs.declared.symbol.PatPhrase.TheVariants as pp
use Rattle.sml_grammar.specs.declared.symbol.TyPhrase.{TyPhrase}
use Rattle.sml_grammar.specs.declared.symbol.TyPhrase.TheVariants as tp
use Rattle.sml_grammar.specs.declared.symbol.DecPhrase.{DecPhrase}
use Rattle.sml_grammar.specs.declared.symbol.DecPhrase.TheVariants as dp
use Rattle.sml_grammar.specs.declared.symbol.HeadPhrase.{HeadPhrase}
use Rattle.sml_grammar.specs.declared.symbol.HeadPhrase.TheVariants as hp
use Rattle.sml_grammar.specs.declared.symbol.ConPhrase.{ConPhrase}
use Rattle.sml_grammar.specs.declared.symbol.ConPhrase.TheVariants as cp
use Rattle.sml_grammar.specs.declared.symbol.FunPhrase.{FunPhrase}
use Rattle.sml_grammar.specs.declared.symbol.FunPhrase.TheVariants as fp
use Rattle.sml_grammar.specs.declared.symbol.LaterPhrase.{LaterPhrase}
use Rattle.sml_grammar.specs.declared.symbol.LaterPhrase.TheVariants as lp
use Rattle.sml_grammar.specs.Sorts.{sort_of, is_mark}
use Rattle.sml_grammar.specs.Moves.{Move, Takes, Skips, Acts, Fails}
use Rattle.sml_grammar.specs.Tables.{at_exp, at_exp_rest, at_exp_items, at_quoted, at_pat, at_pat_items, at_ty, at_dec, at_head, at_con, at_fun, at_later}

-- what a symbol does at a token
unfoldable pub move_at : Sym → TokenSort → Token → Move
move_at (s.Do act) sort t = Acts act
move_at (s.Want mark) sort t = cond (is_mark mark sort) (Takes []) Fails
move_at (s.Exp phrase) sort t = at_exp phrase sort t
move_at (s.ExpRest phrase) sort t = at_exp_rest phrase sort t
move_at (s.ExpItems phrase) sort t = at_exp_items phrase sort t
move_at (s.Quoted phrase) sort t = at_quoted phrase sort t
move_at (s.Pat phrase) sort t = at_pat phrase sort t
move_at (s.PatItems phrase) sort t = at_pat_items phrase sort t
move_at (s.Ty phrase) sort t = at_ty phrase sort t
move_at (s.Dec phrase) sort t = at_dec phrase sort t
move_at (s.Head phrase) sort t = at_head phrase sort t
move_at (s.Con phrase) sort t = at_con phrase sort t
move_at (s.Fun phrase) sort t = at_fun phrase sort t
move_at (s.Later phrase) sort t = at_later phrase sort t

-- which phrases may derive nothing at the end of the tokens
abbrev pub pat_ends : PatPhrase → Bool
pat_ends (pp.ConsRest from) = true
pat_ends (pp.TypedRest from) = true
pat_ends (pp.Argument from) = true
pat_ends _ = false

abbrev pub ty_ends : TyPhrase → Bool
ty_ends (tp.ArgumentRest from) = true
ty_ends (tp.StarRest v from) = true
ty_ends (tp.StarMore v) = true
ty_ends (tp.ArrowRest v from) = true
ty_ends _ = false

abbrev pub dec_ends : DecPhrase → Bool
dec_ends (dp.ValFirst from) = false
dec_ends dp.RecBind = false
dec_ends _ = true

abbrev pub head_ends : HeadPhrase → Bool
head_ends hp.TypeRest = true
head_ends _ = false

abbrev pub con_ends : ConPhrase → Bool
con_ends cp.Argument = true
con_ends cp.Rest = true
con_ends cp.DataRest = true
con_ends (cp.ExnArgument from) = true
con_ends cp.ExnRest = true
con_ends _ = false

abbrev pub fun_ends : FunPhrase → Bool
fun_ends fp.Rest = true
fun_ends _ = false

abbrev pub later_ends : LaterPhrase → Bool
later_ends (lp.Rest name count) = true
later_ends (lp.Patterns count) = count == 0
later_ends _ = false

abbrev pub skips_if : Bool → Move
skips_if true = Skips
skips_if false = Fails

-- what a symbol does at the end of the tokens
unfoldable pub move_end : Sym → Move
move_end (s.Do act) = Acts act
move_end (s.Want mark) = Fails
move_end (s.Exp phrase) = Fails
move_end (s.ExpRest phrase) = Skips
move_end (s.ExpItems phrase) = Fails
move_end (s.Quoted phrase) = Fails
move_end (s.Pat phrase) = skips_if (pat_ends phrase)
move_end (s.PatItems phrase) = Fails
move_end (s.Ty phrase) = skips_if (ty_ends phrase)
move_end (s.Dec phrase) = skips_if (dec_ends phrase)
move_end (s.Head phrase) = skips_if (head_ends phrase)
move_end (s.Con phrase) = skips_if (con_ends phrase)
move_end (s.Fun phrase) = skips_if (fun_ends phrase)
move_end (s.Later phrase) = skips_if (later_ends phrase)

unfoldable pub move_of : Sym → Option Token → Move
move_of symbol None = move_end symbol
move_of symbol (Some t) = move_at symbol (sort_of t.form) t

abbrev pub made : Act → ℕ → Made
made act to = record { act = act; to = to }

-- what a stack does at a token or at the end
pub data Fed : Type 0 where
  -- the token is taken, with the acts on the way to it
  Goes : List Sym → List Made → Fed
  -- nothing is left to be read
  Empties : List Made → Fed
  Stuck : Fed

abbrev pub feed_by : Move → List Sym → ℕ → List Made → (List Made → Fed) → Fed
feed_by (Takes symbols) rest to acts below = Goes (symbols ++ rest) acts
feed_by Skips rest to acts below = below acts
feed_by (Acts act) rest to acts below = below (acts ++ made act to ∷ [])
feed_by Fails rest to acts below = Stuck

-- a stack at a token, behind acts so far and a last token that ends there
unfoldable pub feed : Option Token → List Sym → ℕ → List Made → Fed
feed t [] to acts = Empties acts
feed t (symbol ∷ rest) to acts = feed_by (move_of symbol t) rest to acts (feed t rest to)

pub data Outcome : Type 0 where
  Accepts : List Made → Outcome
  -- the tokens that are left, the first of which can't be taken, and the end of the last that was
  Stops : List Token → ℕ → Outcome

abbrev pub end_of : Fed → ℕ → Outcome
end_of (Empties acts) to = Accepts acts
end_of _ to = Stops [] to

abbrev pub next_of : Fed → List Token → ℕ → (List Sym → List Made → Outcome) → Outcome
next_of (Goes stack acts) left to go = go stack acts
next_of _ left to go = Stops left to

unfoldable pub run : List Token → List Sym → ℕ → List Made → Outcome
run [] stack to acts = end_of (feed None stack to acts) to
run (t ∷ ts) stack to acts = next_of (feed (Some t) stack to acts) (t ∷ ts) to (λ stack' acts'. run ts stack' t.span.to acts')

-- where programs begin
abbrev pub start : List Sym
start = s.Do (a.Dec d.NoDecs) ∷ s.Dec dp.Items ∷ []

-- what the machine makes of tokens
unfoldable pub outcome_of : List Token → Outcome
outcome_of tokens = run tokens start 0 []

-- the place of the first token that is left, or the end of the last
abbrev pub place_of : List Token → ℕ → ℕ
place_of [] to = to
place_of (t ∷ ts) to = t.span.from
