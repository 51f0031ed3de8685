-- Nodes of programs in preorder: expressions and patterns, in the order of the text, each before its parts.
-- The Definition of Standard ML, section 2.8 (grammar): the parts of each form.
use Rattle.std.specs.Prelude.{◌≡◌, ℕ, suc, List, [], ◌∷◌, ◌++◌, map}
use Rattle.sml_syntax.specs.declared.tree.Exp.{Exp}
use Rattle.sml_syntax.specs.declared.tree.Pat.{Pat}
use Rattle.sml_syntax.specs.declared.tree.Dec.{Dec}
use Rattle.sml_syntax.specs.declared.tree.Rule.{Rule, out-Rule}
use Rattle.sml_syntax.specs.declared.tree.Piece.{Piece, out-Piece}
use Rattle.sml_syntax.specs.declared.tree.Program.{Program}
use Rattle.sml_syntax.specs.declared.tree.DecForm.{DecForm}
use Rattle.sml_syntax.specs.declared.tree.ExpForm.{ExpForm}
use Rattle.sml_syntax.specs.declared.tree.DecForm.TheOpen.{DecForm-F, ExpForm-F, Piece-F}
use Rattle.sml_syntax.specs.Layers.{ExpLayer, DecLayer, form_of_exp, form_of_dec, form_of_pat}
use Rattle.typing_rules.specs.Scope.{IsOneOf, pat_parts}
use Rattle.typing_rules.specs.TypedPrograms.{item_place}

-- a tree of a program, of any sort; a function is a name with its rules
pub data Tree : Type 0 where
  a_pat : Pat → Tree
  an_exp : Exp → Tree
  a_rule : Rule → Tree
  a_piece : Piece → Tree
  a_dec : Dec → Tree
  a_binding : Pat × Exp → Tree
  a_function : List ℕ × List Rule → Tree

-- the trees that stand directly in an expression
abbrev pub exp_trees : ExpLayer → List Tree
exp_trees (ExpForm-F.Tuple es) = map an_exp es
exp_trees (ExpForm-F.List es) = map an_exp es
exp_trees (ExpForm-F.Seq es) = map an_exp es
exp_trees (ExpForm-F.App f e) = an_exp f ∷ an_exp e ∷ []
exp_trees (ExpForm-F.Let ds es) = map a_dec ds ++ map an_exp es
exp_trees (ExpForm-F.Fn rules) = map a_rule rules
exp_trees (ExpForm-F.Case e rules) = an_exp e ∷ map a_rule rules
exp_trees (ExpForm-F.Handle e rules) = an_exp e ∷ map a_rule rules
exp_trees (ExpForm-F.Raise e) = an_exp e ∷ []
exp_trees (ExpForm-F.If test chosen otherwise) = an_exp test ∷ an_exp chosen ∷ an_exp otherwise ∷ []
exp_trees (ExpForm-F.Both left right) = an_exp left ∷ an_exp right ∷ []
exp_trees (ExpForm-F.Either left right) = an_exp left ∷ an_exp right ∷ []
exp_trees (ExpForm-F.Quote pieces) = map a_piece pieces
exp_trees (ExpForm-F.Typed e t) = an_exp e ∷ []
exp_trees _ = []

-- the trees that stand directly in a piece of a quotation
abbrev pub piece_trees : Piece-F DecForm ExpForm Piece Dec Exp Rule → List Tree
piece_trees (Piece-F.Plain text) = []
piece_trees (Piece-F.Anti e) = an_exp e ∷ []

-- the trees that stand directly in a declaration; those of types and exceptions have none
abbrev pub dec_trees : DecLayer → List Tree
dec_trees (DecForm-F.Val binds) = map a_binding binds
dec_trees (DecForm-F.ValRec binds) = map a_function binds
dec_trees (DecForm-F.Local hidden shown) = map a_dec hidden ++ map a_dec shown
dec_trees _ = []

-- the trees that stand directly in a tree, in the order of the text
abbrev pub trees_in : Tree → List Tree
trees_in (a_pat p) = map a_pat (pat_parts (form_of_pat p))
trees_in (an_exp e) = exp_trees (form_of_exp e)
trees_in (a_rule r) = a_pat (out-Rule r).pat ∷ an_exp (out-Rule r).body ∷ []
trees_in (a_piece piece) = piece_trees (out-Piece piece)
trees_in (a_dec d) = dec_trees (form_of_dec d)
trees_in (a_binding bind) = a_pat bind.0 ∷ an_exp bind.1 ∷ []
trees_in (a_function bind) = map a_rule bind.1

-- the number behind that of a tree: expressions and patterns are nodes and have a number
abbrev pub behind : Tree → ℕ → ℕ
behind (a_pat p) n = suc n
behind (an_exp e) n = suc n
behind _ n = n

-- The nodes of a tree are numbered in preorder from the first number on, up to just before the second.
mutual
  pub data Numbered : Tree → ℕ → ℕ → Type 0 where
    numbered : {t : Tree} {from to : ℕ} → AllNumbered (trees_in t) (behind t from) to → Numbered t from to

  pub data AllNumbered : List Tree → ℕ → ℕ → Type 0 where
    numbered_end : {n : ℕ} → AllNumbered [] n n
    numbered_more : {t : Tree} {ts : List Tree} {from middle to : ℕ} → Numbered t from middle → AllNumbered ts middle to → AllNumbered (t ∷ ts) from to

-- so many nodes are in the program
abbrev pub HasNodes : Program → ℕ → Type 0
HasNodes program count = AllNumbered (map a_dec program.items) 0 count

-- the first byte of some item of the program
pub record IsItemPlace (program : Program) (place : ℕ) : Type 0 where
  pub item : Dec
  pub is_item : IsOneOf item program.items
  pub place_is : place ≡ item_place item
