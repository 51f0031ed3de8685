-- The words before which expressions end.
use Rattle.std.proofs.Common.{◌≡◌, ℕ, ◌≤◌, ◌<◌, Bool, true, false, refl, ap, Option, Some, None, codes, nat_le, arith}
use Rattle.std.proofs.lemmas.Bool.{lt-leb}
use Rattle.sml_syntax.specs.declared.token.Token.{Token}
use Rattle.sml_syntax.specs.declared.token.TokenForm.TheVariants as f
use Rattle.grammar_rules.specs.InfixNames.{groups_right}
use Rattle.grammar_rules.specs.Grammar.{IsMark}
use Rattle.sml_grammar.specs.declared.mark.Mark.{Mark}
use Rattle.sml_grammar.specs.declared.mark.Mark.TheVariants as m
use Rattle.sml_grammar.specs.declared.token_sort.TokenSort.TheVariants as o
use Rattle.sml_grammar.specs.declared.symbol.Sym.TheVariants as s
use Rattle.sml_grammar.specs.declared.symbol.ExpRest.TheVariants as xr
use Rattle.sml_grammar.specs.declared.symbol.TyPhrase.TheVariants as tp
use Rattle.sml_grammar.specs.Marks.{same_mark, mark_number}
use Rattle.sml_grammar.specs.Sorts.{sort_of, is_mark, begins_atom, atom_mark, is_infix, equal_mark, is_type_name, is_star}
use Rattle.sml_grammar.specs.Machine.{move_end}
use Rattle.grammar_trees.specs.Exact.{move_at, move_of}
use Rattle.grammar_trees.specs.Ends.{LevelEnds, TyxEnds, AndEnds, OrEnds, Ends}
use Rattle.grammar_trees.proofs.Words
use Rattle.grammar_trees.proofs.Words.{InfixSort}
use Rattle.grammar_trees.proofs.Infix.{infix-is, infix-level, infix-no-atom}
use Rattle.grammar_trees.proofs.Types
use Rattle.grammar_trees.proofs.Steps.{at-word}

-- marks before which an expression without `andalso` ends
pub record TyxMark (mark : Mark) : Type 0 where
  pub atom : atom_mark mark ≡ false
  pub equal : equal_mark mark ≡ false
  pub arrow : same_mark mark m.Arrow ≡ false

pub tyx-ends : (word : Token) {mark : Mark} → sort_of word.form ≡ o.Mark mark → TyxMark mark → TyxEnds (Some word)
unfolding move_at is_mark begins_atom is_infix
tyx-ends word e h = record {
  app = λ from. at-word (s.ExpRest (xr.App from)) word e (rw (h.atom) refl);
  levels = λ n from. at-word (s.ExpRest (xr.Infix n from)) word e (rw (h.equal) refl);
  type_ = Types.mark-ends word e (h.arrow);
}

pub record AndMark (mark : Mark) : Type 0 where
  pub tyx : TyxMark mark
  pub colon : same_mark mark m.Colon ≡ false
  pub both : same_mark mark m.AndAlso ≡ false

pub and-ends : (word : Token) {mark : Mark} → sort_of word.form ≡ o.Mark mark → AndMark mark → AndEnds (Some word)
unfolding move_at is_mark
and-ends word e h = record {
  tyx = tyx-ends word e h.tyx;
  typed = λ from. at-word (s.ExpRest (xr.Typed from)) word e (rw (h.colon) refl);
  both = λ from. at-word (s.ExpRest (xr.And from)) word e (rw (h.both) refl);
}

pub record OrMark (mark : Mark) : Type 0 where
  pub and_ : AndMark mark
  pub either : same_mark mark m.OrElse ≡ false

pub or-ends : (word : Token) {mark : Mark} → sort_of word.form ≡ o.Mark mark → OrMark mark → OrEnds (Some word)
unfolding move_at is_mark
or-ends word e h = record {
  and_ = and-ends word e h.and_;
  either = λ from. at-word (s.ExpRest (xr.Or from)) word e (rw (h.either) refl);
}

pub record ExpMark (open_ : Bool) (mark : Mark) : Type 0 where
  pub or_ : OrMark mark
  pub handle : same_mark mark m.Handle ≡ false
  pub bar : open_ ≡ true → same_mark mark m.Bar ≡ false

pub exp-ends : {open_ : Bool} (word : Token) {mark : Mark} → sort_of word.form ≡ o.Mark mark → ExpMark open_ mark → Ends open_ (Some word)
unfolding move_at is_mark
exp-ends word e h = record {
  or_ = or-ends word e h.or_;
  handle = λ from. at-word (s.ExpRest (xr.Handle from)) word e (rw (h.handle) refl);
  bar = λ open'. at-word (s.ExpRest xr.Match) word e (let k = h.bar open' in rw k refl);
}

-- a mark that is none of these
pub closes : {open_ : Bool} (mark : Mark) → (atom_mark mark ≡ false) × (equal_mark mark ≡ false) × (same_mark mark m.Arrow ≡ false) × (same_mark mark m.Colon ≡ false) × (same_mark mark m.AndAlso ≡ false) × (same_mark mark m.OrElse ≡ false) × (same_mark mark m.Handle ≡ false) → (open_ ≡ true → same_mark mark m.Bar ≡ false) → ExpMark open_ mark
closes mark h b = record {
  or_ = record { and_ = record { tyx = record { atom = h.0; equal = h.1; arrow = h.2 }; colon = h.3; both = h.4 }; either = h.5 };
  handle = h.6;
  bar = b;
}

pub before-close : {open_ : Bool} {word : Token} → IsMark (codes ")") word → Ends open_ (Some word)
unfolding atom_mark equal_mark same_mark mark_number
before-close {word = word} h = exp-ends word (Words.is-close h) (closes m.Close (refl, refl, refl, refl, refl, refl, refl) (λ b. refl))

pub before-comma : {open_ : Bool} {word : Token} → IsMark (codes ",") word → Ends open_ (Some word)
unfolding atom_mark equal_mark same_mark mark_number
before-comma {word = word} h = exp-ends word (Words.is-comma h) (closes m.Comma (refl, refl, refl, refl, refl, refl, refl) (λ b. refl))

pub before-semicolon : {open_ : Bool} {word : Token} → IsMark (codes ";") word → Ends open_ (Some word)
unfolding atom_mark equal_mark same_mark mark_number
before-semicolon {word = word} h = exp-ends word (Words.is-semicolon h) (closes m.Semicolon (refl, refl, refl, refl, refl, refl, refl) (λ b. refl))

pub before-close-bracket : {open_ : Bool} {word : Token} → IsMark (codes "]") word → Ends open_ (Some word)
unfolding atom_mark equal_mark same_mark mark_number
before-close-bracket {word = word} h = exp-ends word (Words.is-close-bracket h) (closes m.CloseBracket (refl, refl, refl, refl, refl, refl, refl) (λ b. refl))

pub before-end : {open_ : Bool} {word : Token} → IsMark (codes "end") word → Ends open_ (Some word)
unfolding atom_mark equal_mark same_mark mark_number
before-end {word = word} h = exp-ends word (Words.is-end h) (closes m.End (refl, refl, refl, refl, refl, refl, refl) (λ b. refl))

pub before-then : {open_ : Bool} {word : Token} → IsMark (codes "then") word → Ends open_ (Some word)
unfolding atom_mark equal_mark same_mark mark_number
before-then {word = word} h = exp-ends word (Words.is-then h) (closes m.Then (refl, refl, refl, refl, refl, refl, refl) (λ b. refl))

pub before-else : {open_ : Bool} {word : Token} → IsMark (codes "else") word → Ends open_ (Some word)
unfolding atom_mark equal_mark same_mark mark_number
before-else {word = word} h = exp-ends word (Words.is-else h) (closes m.Else (refl, refl, refl, refl, refl, refl, refl) (λ b. refl))

pub before-of : {open_ : Bool} {word : Token} → IsMark (codes "of") word → Ends open_ (Some word)
unfolding atom_mark equal_mark same_mark mark_number
before-of {word = word} h = exp-ends word (Words.is-of h) (closes m.Of (refl, refl, refl, refl, refl, refl, refl) (λ b. refl))

pub before-and : {open_ : Bool} {word : Token} → IsMark (codes "and") word → Ends open_ (Some word)
unfolding atom_mark equal_mark same_mark mark_number
before-and {word = word} h = exp-ends word (Words.is-and h) (closes m.And (refl, refl, refl, refl, refl, refl, refl) (λ b. refl))

pub before-in : {open_ : Bool} {word : Token} → IsMark (codes "in") word → Ends open_ (Some word)
unfolding atom_mark equal_mark same_mark mark_number
before-in {word = word} h = exp-ends word (Words.is-in h) (closes m.In (refl, refl, refl, refl, refl, refl, refl) (λ b. refl))

pub before-val : {open_ : Bool} {word : Token} → IsMark (codes "val") word → Ends open_ (Some word)
unfolding atom_mark equal_mark same_mark mark_number
before-val {word = word} h = exp-ends word (Words.is-val h) (closes m.Val (refl, refl, refl, refl, refl, refl, refl) (λ b. refl))

pub before-fun : {open_ : Bool} {word : Token} → IsMark (codes "fun") word → Ends open_ (Some word)
unfolding atom_mark equal_mark same_mark mark_number
before-fun {word = word} h = exp-ends word (Words.is-fun h) (closes m.Fun (refl, refl, refl, refl, refl, refl, refl) (λ b. refl))

pub before-type-word : {open_ : Bool} {word : Token} → IsMark (codes "type") word → Ends open_ (Some word)
unfolding atom_mark equal_mark same_mark mark_number
before-type-word {word = word} h = exp-ends word (Words.is-type-word h) (closes m.TypeWord (refl, refl, refl, refl, refl, refl, refl) (λ b. refl))

pub before-datatype : {open_ : Bool} {word : Token} → IsMark (codes "datatype") word → Ends open_ (Some word)
unfolding atom_mark equal_mark same_mark mark_number
before-datatype {word = word} h = exp-ends word (Words.is-datatype h) (closes m.Datatype (refl, refl, refl, refl, refl, refl, refl) (λ b. refl))

pub before-exception : {open_ : Bool} {word : Token} → IsMark (codes "exception") word → Ends open_ (Some word)
unfolding atom_mark equal_mark same_mark mark_number
before-exception {word = word} h = exp-ends word (Words.is-exception h) (closes m.Exception (refl, refl, refl, refl, refl, refl, refl) (λ b. refl))

pub before-local : {open_ : Bool} {word : Token} → IsMark (codes "local") word → Ends open_ (Some word)
unfolding atom_mark equal_mark same_mark mark_number
before-local {word = word} h = exp-ends word (Words.is-local h) (closes m.Local (refl, refl, refl, refl, refl, refl, refl) (λ b. refl))

true-false : false ≡ true → ⊥
true-false h = cc

pub before-bar : {word : Token} → IsMark (codes "|") word → Ends false (Some word)
unfolding atom_mark equal_mark same_mark mark_number
before-bar {word} h = exp-ends word (Words.is-bar h) (closes m.Bar (refl, refl, refl, refl, refl, refl, refl) (λ b. absurd (true-false b)))

pub before-handle : {word : Token} → IsMark (codes "handle") word → OrEnds (Some word)
unfolding atom_mark equal_mark same_mark mark_number
before-handle {word} h = or-ends word (Words.is-handle h) (record { and_ = record { tyx = record { atom = refl; equal = refl; arrow = refl }; colon = refl; both = refl }; either = refl })

pub before-or-else : {word : Token} → IsMark (codes "orelse") word → AndEnds (Some word)
unfolding atom_mark equal_mark same_mark mark_number
before-or-else {word} h = and-ends word (Words.is-or-else h) (record { tyx = record { atom = refl; equal = refl; arrow = refl }; colon = refl; both = refl })

pub before-and-also : {word : Token} → IsMark (codes "andalso") word → TyxEnds (Some word)
unfolding atom_mark equal_mark same_mark mark_number
before-and-also {word} h = tyx-ends word (Words.is-and-also h) (record { atom = refl; equal = refl; arrow = refl })

pub before-colon : {word : Token} → IsMark (codes ":") word → TyxEnds (Some word)
unfolding atom_mark equal_mark same_mark mark_number
before-colon {word} h = tyx-ends word (Words.is-colon h) (record { atom = refl; equal = refl; arrow = refl })

-- the end of an antiquoted expression
pub before-anti-to : {open_ : Bool} {word : Token} → word.form ≡ f.AntiTo → Ends open_ (Some word)
unfolding move_at is_mark begins_atom is_infix is_type_name is_star sort_of
before-anti-to {word = word} h = let e : sort_of word.form ≡ o.AntiTo = ap sort_of h in record {
  or_ = record {
    and_ = record {
      tyx = record {
        app = λ from. at-word (s.ExpRest (xr.App from)) word e refl;
        levels = λ n from. at-word (s.ExpRest (xr.Infix n from)) word e refl;
        type_ = record {
          tupty = record {
            stars = record { argument = λ from. at-word (s.Ty (tp.ArgumentRest from)) word e refl; more = λ v. at-word (s.Ty (tp.StarMore v)) word e refl };
            star = λ v from. at-word (s.Ty (tp.StarRest v from)) word e refl;
          };
          arrow = λ v from. at-word (s.Ty (tp.ArrowRest v from)) word e refl;
        };
      };
      typed = λ from. at-word (s.ExpRest (xr.Typed from)) word e refl;
      both = λ from. at-word (s.ExpRest (xr.And from)) word e refl;
    };
    either = λ from. at-word (s.ExpRest (xr.Or from)) word e refl;
  };
  handle = λ from. at-word (s.ExpRest (xr.Handle from)) word e refl;
  bar = λ b. at-word (s.ExpRest xr.Match) word e refl;
}

-- where nothing is left
pub at-end : {open_ : Bool} → Ends open_ None
unfolding move_of move_end
at-end = record {
  or_ = record {
    and_ = record {
      tyx = record {
        app = λ from. refl;
        levels = λ n from. refl;
        type_ = record {
          tupty = record { stars = record { argument = λ from. refl; more = λ v. refl }; star = λ v from. refl };
          arrow = λ v from. refl;
        };
      };
      typed = λ from. refl;
      both = λ from. refl;
    };
    either = λ from. refl;
  };
  handle = λ from. refl;
  bar = λ b. refl;
}

-- what ends where a match is open ends anywhere
pub ends-all : {open_ : Bool} {z : Option Token} → Ends true z → Ends open_ z
ends-all e = record { or_ = e.or_; handle = e.handle; bar = λ b. e.bar refl }

-- levels
pub level-zero : {z : Option Token} → TyxEnds z → LevelEnds 0 z
level-zero e = record { app = e.app; above = λ n from h. e.levels n from; right = λ from h. e.levels 0 from }

pub op-ends : {level : ℕ} (word : Token) (left : ℕ) → InfixSort level (sort_of word.form) → level ≤ left → (groups_right left ≡ true → level < left) → LevelEnds left (Some word)
unfolding move_of move_at
op-ends {level} word left h le r = record {
  app = λ from. let e = infix-no-atom h in rw e refl;
  above = λ n from k. let e = infix-is h in let l = infix-level h in let b : nat_le n level ≡ false = lt-leb n level (omega arith) in rw (e, l, b) refl;
  right = λ from g. let e = infix-is h in let l = infix-level h in let q : level < left = r g in let b : nat_le left level ≡ false = lt-leb left level q in rw (e, l, b) refl;
}
