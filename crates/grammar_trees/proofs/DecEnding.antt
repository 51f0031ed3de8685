-- What ends declarations, and single steps at their words.
use Rattle.std.proofs.Common.{◌≡◌, ℕ, List, ◌∷◌, true, false, Option, Some, None, refl, sym, subst, codes}
use Rattle.sml_syntax.specs.declared.token.Token.{Token}
use Rattle.grammar_rules.specs.Grammar.{IsMark}
use Rattle.sml_grammar.specs.declared.mark.Mark.{Mark}
use Rattle.sml_grammar.specs.declared.mark.Mark.TheVariants as m
use Rattle.sml_grammar.specs.declared.token_sort.TokenSort.{TokenSort}
use Rattle.sml_grammar.specs.declared.token_sort.TokenSort.TheVariants as o
use Rattle.sml_grammar.specs.declared.act.Act.{Act}
use Rattle.sml_grammar.specs.declared.act.Made.{Made}
use Rattle.sml_grammar.specs.declared.symbol.Sym.{Sym}
use Rattle.sml_grammar.specs.declared.symbol.Sym.TheVariants as s
use Rattle.sml_grammar.specs.declared.symbol.DecPhrase.TheVariants as dp
use Rattle.sml_grammar.specs.declared.symbol.HeadPhrase.TheVariants as hp
use Rattle.sml_grammar.specs.declared.symbol.ConPhrase.TheVariants as cp
use Rattle.sml_grammar.specs.declared.symbol.FunPhrase.TheVariants as fp
use Rattle.sml_grammar.specs.declared.symbol.LaterPhrase.TheVariants as lp
use Rattle.sml_grammar.specs.Marks.{same_mark, mark_number}
use Rattle.sml_grammar.specs.Sorts.{sort_of, is_mark, begins_dec, declaration_mark, atom_mark, equal_mark}
use Rattle.sml_grammar.specs.Machine.{move_end}
use Rattle.grammar_trees.specs.Exact.{move_at, move_of}
use Rattle.grammar_trees.specs.Ends.{TyEnds, Ends, DecEnds, InnerEnds}
use Rattle.grammar_trees.specs.Claims.{Comes}
use Rattle.grammar_trees.specs.DecClaims.{ConsEnds}
use Rattle.grammar_trees.proofs.Words
use Rattle.grammar_trees.proofs.Types
use Rattle.grammar_trees.proofs.ExpEnds
use Rattle.grammar_trees.proofs.ExpEnds.{ExpMark}
use Rattle.grammar_trees.proofs.Steps.{at-word}

-- the same acts, in another grouping
pub told : {ts us : List Token} {st st' : List Sym} {to to' : ℕ} {new more : List Made} → new ≡ more → Comes ts st to new us st' to' → Comes ts st to more us st' to'
told {ts = ts} {us = us} {st = st} {st' = st'} {to = to} {to' = to'} e c = subst (λ z. Comes ts st to z us st' to') e c

-- an act that carries the text of a name
pub renamed : {ts us : List Token} {st st' : List Sym} {to to' : ℕ} {new : List Made} {text name : List ℕ} (f : List ℕ → Act) → text ≡ name → Comes ts (s.Do (f name) ∷ st) to new us st' to' → Comes ts (s.Do (f text) ∷ st) to new us st' to'
renamed {ts = ts} {us = us} {st = st} {st' = st'} {to = to} {to' = to'} {new = new} f e c = subst (λ z. Comes ts (s.Do (f z) ∷ st) to new us st' to') (sym e) c

-- marks with which no part of a declaration goes on
pub record DecMark (mark : Mark) : Type 0 where
  pub and_ : same_mark mark m.And ≡ false
  pub bar : same_mark mark m.Bar ≡ false
  pub of_ : same_mark mark m.Of ≡ false
  pub equal : same_mark mark m.Equal ≡ false

mark-ends : (word : Token) {mark : Mark} → sort_of word.form ≡ o.Mark mark → DecMark mark → Ends true (Some word) → DecEnds (Some word)
unfolding move_at is_mark
mark-ends word e h x = record {
  exp = x;
  binds = at-word (s.Dec dp.ValRest) word e (rw (h.and_) refl);
  recs = at-word (s.Dec dp.RecRest) word e (rw (h.and_) refl);
  funs = at-word (s.Fun fp.Rest) word e (rw (h.and_) refl);
  later = λ name count. at-word (s.Later (lp.Rest name count)) word e (rw (h.bar) refl);
  types = at-word (s.Head hp.TypeRest) word e (rw (h.and_) refl);
  argument = at-word (s.Con cp.Argument) word e (rw (h.of_) refl);
  cons = at-word (s.Con cp.Rest) word e (rw (h.bar) refl);
  datas = at-word (s.Con cp.DataRest) word e (rw (h.and_) refl);
  exn = λ from. at-word (s.Con (cp.ExnArgument from)) word e (rw (h.of_) rw (h.equal) refl);
  exns = at-word (s.Con cp.ExnRest) word e (rw (h.and_) refl);
}

closes : (mark : Mark) → (same_mark mark m.And ≡ false) × (same_mark mark m.Bar ≡ false) × (same_mark mark m.Of ≡ false) × (same_mark mark m.Equal ≡ false) → DecMark mark
closes mark (h, i, j, k) = record { and_ = h; bar = i; of_ = j; equal = k }

pub before-semicolon : {word : Token} → IsMark (codes ";") word → DecEnds (Some word)
unfolding same_mark mark_number
before-semicolon h = mark-ends _ (Words.is-semicolon h) (closes m.Semicolon (refl, refl, refl, refl)) (ExpEnds.before-semicolon h)

before-in : {word : Token} → IsMark (codes "in") word → DecEnds (Some word)
unfolding same_mark mark_number
before-in h = mark-ends _ (Words.is-in h) (closes m.In (refl, refl, refl, refl)) (ExpEnds.before-in h)

before-end : {word : Token} → IsMark (codes "end") word → DecEnds (Some word)
unfolding same_mark mark_number
before-end h = mark-ends _ (Words.is-end h) (closes m.End (refl, refl, refl, refl)) (ExpEnds.before-end h)

pub inner-in : {word : Token} → IsMark (codes "in") word → InnerEnds (Some word)
unfolding move_at is_mark same_mark mark_number begins_dec declaration_mark
inner-in {word} h = record { dec = before-in h; inner = at-word (s.Dec dp.Inner) word (Words.is-in h) refl; after = at-word (s.Dec dp.AfterInner) word (Words.is-in h) refl }

pub inner-end : {word : Token} → IsMark (codes "end") word → InnerEnds (Some word)
unfolding move_at is_mark same_mark mark_number begins_dec declaration_mark
inner-end {word} h = record { dec = before-end h; inner = at-word (s.Dec dp.Inner) word (Words.is-end h) refl; after = at-word (s.Dec dp.AfterInner) word (Words.is-end h) refl }

-- the end of the tokens
pub at-end : DecEnds None
unfolding move_of move_end
at-end = record {
  exp = ExpEnds.at-end;
  binds = refl;
  recs = refl;
  funs = refl;
  later = λ name count. refl;
  types = refl;
  argument = refl;
  cons = refl;
  datas = refl;
  exn = λ from. refl;
  exns = refl;
}

-- what ends the parts of datatypes
pub ty-ends : {z : Option Token} → DecEnds z → TyEnds z
ty-ends e = e.exp.or_.and_.tyx.type_

pub cons-ends : {z : Option Token} → DecEnds z → ConsEnds z
cons-ends e = record { type_ = ty-ends e; argument = e.argument; more = e.cons }

pub cons-and : {word : Token} → IsMark (codes "and") word → ConsEnds (Some word)
unfolding move_at is_mark same_mark mark_number
cons-and {word} h = record {
  type_ = Types.mark-ends _ (Words.is-and h) refl;
  argument = at-word (s.Con cp.Argument) word (Words.is-and h) refl;
  more = at-word (s.Con cp.Rest) word (Words.is-and h) refl;
}

-- a token that begins a declaration ends the one before
dec-mark : (mark : Mark) → declaration_mark mark ≡ true → DecMark mark × ExpMark true mark
unfolding declaration_mark same_mark mark_number atom_mark equal_mark
dec-mark m.Val h = (closes m.Val (refl, refl, refl, refl), ExpEnds.closes m.Val (refl, refl, refl, refl, refl, refl, refl) (λ b. refl))
dec-mark m.Fun h = (closes m.Fun (refl, refl, refl, refl), ExpEnds.closes m.Fun (refl, refl, refl, refl, refl, refl, refl) (λ b. refl))
dec-mark m.TypeWord h = (closes m.TypeWord (refl, refl, refl, refl), ExpEnds.closes m.TypeWord (refl, refl, refl, refl, refl, refl, refl) (λ b. refl))
dec-mark m.Datatype h = (closes m.Datatype (refl, refl, refl, refl), ExpEnds.closes m.Datatype (refl, refl, refl, refl, refl, refl, refl) (λ b. refl))
dec-mark m.Exception h = (closes m.Exception (refl, refl, refl, refl), ExpEnds.closes m.Exception (refl, refl, refl, refl, refl, refl, refl) (λ b. refl))
dec-mark m.Local h = (closes m.Local (refl, refl, refl, refl), ExpEnds.closes m.Local (refl, refl, refl, refl, refl, refl, refl) (λ b. refl))
dec-mark _ h = cc

dec-begins : (word : Token) (sort : TokenSort) → sort_of word.form ≡ sort → begins_dec sort ≡ true → DecEnds (Some word)
unfolding begins_dec
dec-begins word (o.Mark mark) e h = let k = dec-mark mark h in mark-ends word e k.0 (ExpEnds.exp-ends word e k.1)
dec-begins word _ e h = cc

pub begins-ends : (word : Token) → begins_dec (sort_of word.form) ≡ true → DecEnds (Some word)
begins-ends word h = dec-begins word (sort_of word.form) refl h
