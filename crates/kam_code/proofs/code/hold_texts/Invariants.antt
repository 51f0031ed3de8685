use Rattle.std.proofs.Common.{◌≡◌, true, take}
use Rattle.std.specs.List.{list_all}
use Rattle.sml_syntax.specs.Ranges.{is_text}
use Rattle.kam_code.proofs.code.hold_texts.Given as goal

abbrev pub invariant-loop-text : goal.invariant-loop-text
invariant-loop-text l = list_all is_text (take l.text-index l.text-items) ≡ true
