-- The names that stand in a tree, in expressions and in patterns, each as often as it stands. A function holds what the program binds these
-- to, which is all that the names free in it stand for, and perhaps more.
-- The Definition of Standard ML, section 4.2 (the free identifiers of a phrase are among these).
use Rattle.std.specs.Prelude.{ℕ, List, [], ◌∷◌, ◌++◌, map, flat_map}
use Rattle.sml_syntax.specs.declared.tree.Pat.{Pat}
use Rattle.sml_syntax.specs.declared.tree.PatForm.TheOpen.{PatForm-F}
use Rattle.sml_syntax.specs.declared.tree.PatForm.TheFolds.{fold-Pat}
use Rattle.sml_syntax.specs.declared.tree.Rule.{Rule}
use Rattle.sml_syntax.specs.declared.tree.Exp.{Exp}
use Rattle.sml_syntax.specs.declared.tree.DecForm.TheOpen.{DecForm-F, ExpForm-F, Piece-F, Rule-F}
use Rattle.sml_syntax.specs.declared.tree.DecForm.TheFolds.{fold-Rule, fold-Exp}

abbrev pub Names : Type 0
Names = List (List ℕ)

abbrev pub all_of : List Names → Names
all_of us = flat_map (λ u. u) us

abbrev pub in_pat_form : PatForm-F Names Names → Names
in_pat_form (PatForm-F.Name name) = name ∷ []
in_pat_form (PatForm-F.Tuple ps) = all_of ps
in_pat_form (PatForm-F.List ps) = all_of ps
in_pat_form (PatForm-F.Con name p) = name ∷ p
in_pat_form (PatForm-F.Typed p t) = p
in_pat_form _ = []

abbrev pub in_pat : Pat → Names
in_pat p = fold-Pat Names Names in_pat_form (λ q. q.form) p

abbrev pub in_exp_form : ExpForm-F Names Names Names Names Names Names → Names
in_exp_form (ExpForm-F.Name name) = name ∷ []
in_exp_form (ExpForm-F.Tuple es) = all_of es
in_exp_form (ExpForm-F.List es) = all_of es
in_exp_form (ExpForm-F.Seq es) = all_of es
in_exp_form (ExpForm-F.App f e) = f ++ e
in_exp_form (ExpForm-F.Let ds es) = all_of ds ++ all_of es
in_exp_form (ExpForm-F.Fn rules) = all_of rules
in_exp_form (ExpForm-F.Case e rules) = e ++ all_of rules
in_exp_form (ExpForm-F.Handle e rules) = e ++ all_of rules
in_exp_form (ExpForm-F.Raise e) = e
in_exp_form (ExpForm-F.If test chosen otherwise) = test ++ (chosen ++ otherwise)
in_exp_form (ExpForm-F.Both left right) = left ++ right
in_exp_form (ExpForm-F.Either left right) = left ++ right
in_exp_form (ExpForm-F.Quote pieces) = all_of pieces
in_exp_form (ExpForm-F.Typed e t) = e
in_exp_form _ = []

abbrev pub in_piece : Piece-F Names Names Names Names Names Names → Names
in_piece (Piece-F.Plain text) = []
in_piece (Piece-F.Anti e) = e

abbrev pub in_rule_layer : Rule-F Names Names Names Names Names Names → Names
in_rule_layer r = in_pat r.pat ++ r.body

abbrev pub in_dec_form : DecForm-F Names Names Names Names Names Names → Names
in_dec_form (DecForm-F.Val binds) = flat_map (λ bind. in_pat bind.0 ++ bind.1) binds
in_dec_form (DecForm-F.ValRec binds) = flat_map (λ bind. bind.0 ∷ all_of bind.1) binds
in_dec_form (DecForm-F.Local hidden shown) = all_of hidden ++ all_of shown
in_dec_form _ = []

abbrev pub in_rule : Rule → Names
in_rule r = fold-Rule Names Names Names Names Names Names in_dec_form in_exp_form in_piece (λ d. d.form) (λ e. e.form) in_rule_layer r

abbrev pub in_exp : Exp → Names
in_exp e = fold-Exp Names Names Names Names Names Names in_dec_form in_exp_form in_piece (λ d. d.form) (λ e. e.form) in_rule_layer e

abbrev pub in_rules : List Rule → Names
in_rules rules = all_of (map in_rule rules)

-- in the functions of a group
abbrev pub in_group : List (List ℕ × List Rule) → Names
in_group fs = flat_map (λ (bind : List ℕ × List Names). bind.0 ∷ all_of bind.1) (map (λ (bind : List ℕ × List Rule). (bind.0, map in_rule bind.1)) fs)
