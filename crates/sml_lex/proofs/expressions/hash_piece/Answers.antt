use Rattle.std.proofs.Common.{◌≡◌, ◌+◌, ◌<◌, ◌≤◌, get_or, refl, sym, ap, ◌∙◌, arith}
use Rattle.std.proofs.lemmas.List.{take_rest}
use Rattle.sml_lex.specs.Coded.{first_is}
use Rattle.sml_lex.proofs.ExpressionSteps.{hash_character, hash_symbols}
use Rattle.sml_lex.proofs.expressions.hash_piece.Goals as goal

pub returns-then-first_is : goal.returns-then-first_is
returns-then-first_is c =
    hash_character c.args.at (get_or c.args.bytes.now c.args.at 0) c.args.bytes.now (c.args.at + 1) (c.args.at + 2) c.character_piece.result (omega arith) refl
    (sym (ap (first_is 34) (take_rest c.args.bytes.now (c.args.at + 1))) ∙ (sym c.first_is.ensures ∙ c.if-first_is.true)) c.character_piece.ensures

pub returns : goal.returns
returns c =
    hash_symbols c.args.at (get_or c.args.bytes.now c.args.at 0) c.args.bytes.now (c.args.at + 1) c.symbol_piece.result
    (sym (ap (first_is 34) (take_rest c.args.bytes.now (c.args.at + 1))) ∙ (sym c.first_is.ensures ∙ c.if-first_is.false)) c.symbol_piece.ensures
