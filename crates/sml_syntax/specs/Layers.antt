-- One level of a tree: its form, with its parts as they are.
use Rattle.sml_syntax.specs.declared.tree.Exp.{Exp, out-Exp}
use Rattle.sml_syntax.specs.declared.tree.ExpForm.{ExpForm, out-ExpForm}
use Rattle.sml_syntax.specs.declared.tree.Dec.{Dec, out-Dec}
use Rattle.sml_syntax.specs.declared.tree.DecForm.{DecForm, out-DecForm}
use Rattle.sml_syntax.specs.declared.tree.DecForm.TheOpen.{DecForm-F, ExpForm-F}
use Rattle.sml_syntax.specs.declared.tree.Rule.{Rule}
use Rattle.sml_syntax.specs.declared.tree.Piece.{Piece}
use Rattle.sml_syntax.specs.declared.tree.Pat.{Pat, out-Pat}
use Rattle.sml_syntax.specs.declared.tree.PatForm.{PatForm, out-PatForm}
use Rattle.sml_syntax.specs.declared.tree.PatForm.TheOpen.{PatForm-F}

abbrev pub ExpLayer : Type 0
ExpLayer = ExpForm-F DecForm ExpForm Piece Dec Exp Rule

-- the form of an expression
abbrev pub form_of_exp : Exp → ExpLayer
form_of_exp e = out-ExpForm (out-Exp e).form

abbrev pub DecLayer : Type 0
DecLayer = DecForm-F DecForm ExpForm Piece Dec Exp Rule

-- the form of a declaration
abbrev pub form_of_dec : Dec → DecLayer
form_of_dec d = out-DecForm (out-Dec d).form

abbrev pub PatLayer : Type 0
PatLayer = PatForm-F PatForm Pat

-- the form of a pattern
abbrev pub form_of_pat : Pat → PatLayer
form_of_pat p = out-PatForm (out-Pat p).form
