-- What is printed, by the group of a form, and of an infix name before its argument.
use Rattle.std.specs.Prelude.{ℕ, ◌∷◌, [], ◌++◌, List, Option, None, cond, codes}
use Rattle.sml_syntax.specs.declared.tree.Exp.{Exp}
use Rattle.sml_syntax.specs.declared.tree.DecForm.TheOpen.{ExpForm-F}
use Rattle.grammar_rules.specs.InfixNames.{infix_level}
use Rattle.sml_syntax.specs.Layers.{ExpLayer}
use Rattle.print_laws.specs.Printing.{Forms, has_dot, in_parens, parted, name_forms, infix_word, left_place, right_place, exp_forms}
use Rattle.print_laws.specs.Opened.{put_text, exp_text}

-- an application, `andalso`, `orelse` or an expression with a type; nothing of any other
abbrev pub operation_text : ExpLayer → Forms
operation_text (ExpForm-F.App function argument) = exp_text (ExpForm-F.App function argument)
operation_text (ExpForm-F.Both left right) = exp_text (ExpForm-F.Both left right)
operation_text (ExpForm-F.Either left right) = exp_text (ExpForm-F.Either left right)
operation_text (ExpForm-F.Typed e t) = exp_text (ExpForm-F.Typed e t)
operation_text _ = []

-- `fn`, `case`, `handle`, `raise` or `if`; nothing of any other
abbrev pub tail_text : ExpLayer → Forms
tail_text (ExpForm-F.Fn rules) = exp_text (ExpForm-F.Fn rules)
tail_text (ExpForm-F.Case e rules) = exp_text (ExpForm-F.Case e rules)
tail_text (ExpForm-F.Handle e rules) = exp_text (ExpForm-F.Handle e rules)
tail_text (ExpForm-F.Raise e) = exp_text (ExpForm-F.Raise e)
tail_text (ExpForm-F.If test chosen otherwise) = exp_text (ExpForm-F.If test chosen otherwise)
tail_text _ = []

-- the level of an infix name of one part
abbrev pub operator_level : List ℕ → Option ℕ
operator_level name = cond (has_dot name) None (infix_level name)

-- an infix name of a level and the tuple that it is applied to: between the parts, where there are two
abbrev pub operands_text : ℕ → List ℕ → List Exp → Forms
operands_text level name (left ∷ right ∷ []) = put_text (left_place level) left ++ infix_word name ∷ put_text (right_place level) right
operands_text level name es = name_forms name ++ in_parens (parted (codes ",") exp_forms es)

-- and the argument that it is applied to
abbrev pub infix_text : ℕ → List ℕ → Exp → ExpLayer → Forms
infix_text level name argument (ExpForm-F.Tuple es) = operands_text level name es
infix_text level name argument _ = name_forms name ++ put_text 15 argument
