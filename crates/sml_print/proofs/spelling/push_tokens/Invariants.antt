use Rattle.std.proofs.Common.{◌≡◌, ◌++◌, take}
use Rattle.print_laws.specs.Spelled.{spelled}
use Rattle.sml_print.proofs.spelling.push_tokens.Given as goal

abbrev pub invariant-loop-form : goal.invariant-loop-form
invariant-loop-form l = l.out.items ≡ l.fn.out.items ++ spelled (take l.form-index l.forms)
