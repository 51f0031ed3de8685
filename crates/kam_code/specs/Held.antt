-- What memory holds of code: its texts and names are texts, bytes and fewer than 2^63, and its literals are integers of 64 bits.
use Rattle.std.specs.Prelude.{Bool, true, ◌&&◌}
use Rattle.std.specs.Option.{option_map_or}
use Rattle.std.specs.List.{list_all}
use Rattle.sml_syntax.specs.Ranges.{is_text, is_int}
use Rattle.kam_code.specs.declared.code.Code.{Code}
use Rattle.kam_code.specs.declared.instr.Instr.{Instr}
use Rattle.kam_code.specs.Listing.{signed_operand}

abbrev pub literal_is_held : Instr → Bool
literal_is_held i = option_map_or is_int (signed_operand i) true

abbrev pub is_held : Code → Bool
is_held code = list_all is_text code.texts && (list_all is_text code.names && list_all literal_is_held code.instrs)
