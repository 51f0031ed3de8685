-- What has to hold of each entry of the machine's table, and the tokens that finish a stack.
use Rattle.std.proofs.Common.{◌≡◌, ℕ, zero, suc, List, [], ◌∷◌, ◌++◌, Bool, true, false, cond, Option, Some, None, refl, codes, nat_le}
use Rattle.sml_syntax.specs.declared.token.Token.{Token}
use Rattle.sml_syntax.specs.declared.token.TokenForm.{TokenForm}
use Rattle.sml_syntax.specs.declared.token.TokenForm.TheVariants as f
use Rattle.grammar_rules.specs.Nodes.{span_of}
use Rattle.sml_grammar.specs.declared.mark.Mark.{Mark}
use Rattle.sml_grammar.specs.declared.mark.Mark.TheVariants as m
use Rattle.sml_grammar.specs.declared.token_sort.TokenSort.{TokenSort}
use Rattle.sml_grammar.specs.declared.act.Act.{Act}
use Rattle.sml_grammar.specs.declared.symbol.Sym.{Sym}
use Rattle.sml_grammar.specs.declared.symbol.Sym.TheVariants as s
use Rattle.sml_grammar.specs.declared.symbol.ExpItems.{ExpItems}
use Rattle.sml_grammar.specs.declared.symbol.ExpItems.TheVariants as xi
use Rattle.sml_grammar.specs.declared.symbol.Quoted.{Quoted}
use Rattle.sml_grammar.specs.declared.symbol.Quoted.TheVariants as q
use Rattle.sml_grammar.specs.declared.symbol.PatPhrase.{PatPhrase}
use Rattle.sml_grammar.specs.declared.symbol.PatPhrase.TheVariants as pp
use Rattle.sml_grammar.specs.declared.symbol.PatItems.{PatItems}
use Rattle.sml_grammar.specs.declared.symbol.PatItems.TheVariants as pi
use Rattle.sml_grammar.specs.declared.symbol.TyPhrase.{TyPhrase}
use Rattle.sml_grammar.specs.declared.symbol.TyPhrase.TheVariants as tp
use Rattle.sml_grammar.specs.declared.symbol.DecPhrase.{DecPhrase}
use Rattle.sml_grammar.specs.declared.symbol.DecPhrase.TheVariants as dp
use Rattle.sml_grammar.specs.declared.symbol.HeadPhrase.{HeadPhrase}
use Rattle.sml_grammar.specs.declared.symbol.HeadPhrase.TheVariants as hp
use Rattle.sml_grammar.specs.declared.symbol.ConPhrase.{ConPhrase}
use Rattle.sml_grammar.specs.declared.symbol.ConPhrase.TheVariants as cp
use Rattle.sml_grammar.specs.declared.symbol.FunPhrase.{FunPhrase}
use Rattle.sml_grammar.specs.declared.symbol.FunPhrase.TheVariants as fp
use Rattle.sml_grammar.specs.declared.symbol.LaterPhrase.{LaterPhrase}
use Rattle.sml_grammar.specs.declared.symbol.LaterPhrase.TheVariants as lp
use Rattle.sml_grammar.specs.Moves.{Move, Takes, Skips, Acts, Fails}
use Rattle.grammar_sound.proofs.Seen.{spelling}
use Rattle.grammar_sound.proofs.Sem.{Sem, Fulfils, reads, empty, first_or, Not, NoInfix}

abbrev pub token_of : TokenForm → Token
token_of form = record { span = span_of 0 0; form = form }

abbrev pub word : Mark → Token
word mark = token_of (f.Mark (spelling mark))

abbrev pub name_word : List ℕ → Token
name_word name = token_of (f.Name name)

-- the name `x`
abbrev pub ex : Token
ex = name_word (codes "x")

unfoldable pub some_pats : ℕ → List Token → List Token
some_pats zero ts = ts
some_pats (suc n) ts = ex ∷ some_pats n ts

abbrev pub body_end : List Token
body_end = word m.Equal ∷ ex ∷ []

abbrev pub finish_items : ExpItems → List Token
finish_items (xi.OpenedList from) = word m.CloseBracket ∷ []
finish_items (xi.List from) = word m.CloseBracket ∷ []
finish_items xi.Let = word m.End ∷ []
finish_items _ = word m.Close ∷ []

abbrev pub finish_quoted : Quoted → List Token
finish_quoted q.AntiEnd = token_of f.AntiTo ∷ []
finish_quoted _ = token_of f.QuoteTo ∷ []

abbrev pub finish_pat : PatPhrase → List Token
finish_pat (pp.ConsRest from) = []
finish_pat (pp.TypedRest from) = []
finish_pat (pp.Argument from) = []
finish_pat _ = ex ∷ []

abbrev pub finish_pat_items : PatItems → List Token
finish_pat_items (pi.OpenedList from) = word m.CloseBracket ∷ []
finish_pat_items (pi.List from) = word m.CloseBracket ∷ []
finish_pat_items _ = word m.Close ∷ []

abbrev pub finish_ty : TyPhrase → List Token
finish_ty (tp.Whole v) = ex ∷ []
finish_ty (tp.Part v) = ex ∷ []
finish_ty (tp.AfterFirst v from) = word m.Close ∷ []
finish_ty (tp.More v from) = word m.Close ∷ ex ∷ []
finish_ty (tp.Name from) = ex ∷ []
finish_ty _ = []

abbrev pub finish_dec : DecPhrase → List Token
finish_dec (dp.ValFirst from) = ex ∷ body_end
finish_dec dp.RecBind = ex ∷ word m.Equal ∷ word m.Fn ∷ ex ∷ word m.DoubleArrow ∷ ex ∷ []
finish_dec _ = []

abbrev pub finish_head : HeadPhrase → List Token
finish_head hp.Var = token_of (f.TyVar (codes "'a")) ∷ []
finish_head hp.Vars = word m.Close ∷ []
finish_head hp.TypeRest = []
finish_head _ = ex ∷ body_end

abbrev pub finish_con : ConPhrase → List Token
finish_con (cp.Body first) = ex ∷ []
finish_con cp.Original = ex ∷ []
finish_con cp.Bind = ex ∷ []
finish_con cp.Exn = ex ∷ []
finish_con _ = []

abbrev pub finish_fun : FunPhrase → List Token
finish_fun fp.Bind = ex ∷ ex ∷ body_end
finish_fun fp.Rest = []
finish_fun (fp.Op from) = ex ∷ ex ∷ body_end
finish_fun (fp.Head from at name) = ex ∷ body_end
finish_fun (fp.Infix from) = name_word (codes "+") ∷ ex ∷ body_end
finish_fun (fp.Patterns from name count) = body_end
finish_fun (fp.Equals from count) = body_end

abbrev pub finish_later : LaterPhrase → List Token
finish_later (lp.Rest name count) = []
finish_later (lp.Clause name count) = word m.Op ∷ name_word name ∷ some_pats count body_end
finish_later (lp.Op from name count) = name_word name ∷ some_pats count body_end
finish_later (lp.Head from at found name) = name_word name ∷ ex ∷ body_end
finish_later (lp.Infix from name) = name_word name ∷ ex ∷ body_end
finish_later (lp.Patterns count) = some_pats count []

-- tokens that finish a symbol
abbrev pub finish : Sym → List Token
finish (s.Do act) = []
finish (s.Want mark) = word mark ∷ []
finish (s.Exp phrase) = ex ∷ []
finish (s.ExpRest phrase) = []
finish (s.ExpItems phrase) = finish_items phrase
finish (s.Quoted phrase) = finish_quoted phrase
finish (s.Pat phrase) = finish_pat phrase
finish (s.PatItems phrase) = finish_pat_items phrase
finish (s.Ty phrase) = finish_ty phrase
finish (s.Dec phrase) = finish_dec phrase
finish (s.Head phrase) = finish_head phrase
finish (s.Con phrase) = finish_con phrase
finish (s.Fun phrase) = finish_fun phrase
finish (s.Later phrase) = finish_later phrase

-- and a stack
abbrev pub fin : List Sym → List Token
fin [] = []
fin (x ∷ st) = finish x ++ fin st

-- what follows doesn't go on with an expression, nor with a match
pub record Quiet (z : Option TokenSort) : Type 0 where
  pub no_or : Not m.OrElse z
  pub no_handle : Not m.Handle z
  pub no_bar : Not m.Bar z
  pub no_infix : NoInfix z

-- what stands below a symbol that may end with an expression ends it
abbrev pub GoodLater : LaterPhrase → List Sym → Type 0 → Type 0
GoodLater (lp.Patterns count) st rest = rest
GoodLater _ st rest = Quiet (first_or (fin st) None) × rest

abbrev pub GoodBy : Sym → List Sym → Type 0 → Type 0
GoodBy (s.Exp phrase) st rest = Quiet (first_or (fin st) None) × rest
GoodBy (s.ExpRest phrase) st rest = Quiet (first_or (fin st) None) × rest
GoodBy (s.Dec phrase) st rest = Quiet (first_or (fin st) None) × rest
GoodBy (s.Fun phrase) st rest = Quiet (first_or (fin st) None) × rest
GoodBy (s.Later phrase) st rest = GoodLater phrase st rest
GoodBy _ st rest = rest

-- a stack that can be finished
abbrev pub Good : List Sym → Type 0
Good [] = Unit {0}
Good (x ∷ st) = GoodBy x st (Good st)

-- no count of patterns is above n
abbrev pub low_fun : ℕ → FunPhrase → Bool
low_fun n (fp.Patterns from name count) = nat_le count n
low_fun n _ = true

abbrev pub low_sym : ℕ → Sym → Bool
low_sym n (s.Fun phrase) = low_fun n phrase
low_sym n _ = true

abbrev pub low : ℕ → List Sym → Bool
low n [] = true
low n (x ∷ st) = cond (low_sym n x) (low n st) false

-- symbols without acts
abbrev pub strip_by : Sym → List Sym → List Sym
strip_by (s.Do act) rest = rest
strip_by x rest = x ∷ rest

abbrev pub strip : List Sym → List Sym
strip [] = []
strip (x ∷ st) = strip_by x (strip st)

-- acts read nothing
pub stripped : (β : List Sym) {ts : List Token} {z : Option TokenSort} → Fulfils β ts z → Fulfils (strip β) ts z
stripped [] f = f
stripped (s.Do act ∷ st) (reads _ rest empty f) = stripped st f
stripped (s.Want mark ∷ st) (reads us rest h f) = reads us rest h (stripped st f)
stripped (s.Exp phrase ∷ st) (reads us rest h f) = reads us rest h (stripped st f)
stripped (s.ExpRest phrase ∷ st) (reads us rest h f) = reads us rest h (stripped st f)
stripped (s.ExpItems phrase ∷ st) (reads us rest h f) = reads us rest h (stripped st f)
stripped (s.Quoted phrase ∷ st) (reads us rest h f) = reads us rest h (stripped st f)
stripped (s.Pat phrase ∷ st) (reads us rest h f) = reads us rest h (stripped st f)
stripped (s.PatItems phrase ∷ st) (reads us rest h f) = reads us rest h (stripped st f)
stripped (s.Ty phrase ∷ st) (reads us rest h f) = reads us rest h (stripped st f)
stripped (s.Dec phrase ∷ st) (reads us rest h f) = reads us rest h (stripped st f)
stripped (s.Head phrase ∷ st) (reads us rest h f) = reads us rest h (stripped st f)
stripped (s.Con phrase ∷ st) (reads us rest h f) = reads us rest h (stripped st f)
stripped (s.Fun phrase ∷ st) (reads us rest h f) = reads us rest h (stripped st f)
stripped (s.Later phrase ∷ st) (reads us rest h f) = reads us rest h (stripped st f)

-- what holds of a symbol's move at a token of a sort
pub data Fine (x : Sym) (t : Token) (sort : TokenSort) : Move → Type 0 where
  takes : {β : List Sym} → ((us : List Token) (z : Option TokenSort) → Fulfils (strip β) us z → Sem x (t ∷ us) z)
      → ((st : List Sym) → Good (x ∷ st) → Good (β ++ st))
      → ((n : ℕ) → low_sym n x ≡ true → low (suc n) β ≡ true) → Fine x t sort (Takes β)
  skips : Sem x [] (Some sort) → Fine x t sort Skips
  does : {act : Act} → Sem x [] (Some sort) → Fine x t sort (Acts act)
  fails : Fine x t sort Fails

pub by_cond : {x : Sym} {t : Token} {sort : TokenSort} {yes other : Move} (b : Bool) → (b ≡ true → Fine x t sort yes) → (b ≡ false → Fine x t sort other) → Fine x t sort (cond b yes other)
by_cond {x} {t} {sort} {yes} {other} b p q = go b refl
  where
    go : (c : Bool) → b ≡ c → Fine x t sort (cond c yes other)
    go true e = p e
    go false e = q e

-- the tokens of a form that begins with t, and of what follows it
pub data Begun (P : List Token → Type 0) (R : List Sym) (t : Token) (z : Option TokenSort) : List Token → Type 0 where
  begun : (us rest : List Token) → P (t ∷ us) → Fulfils R rest z → Begun P R t z (us ++ rest)
