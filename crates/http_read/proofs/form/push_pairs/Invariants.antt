use Rattle.std.proofs.Common.{◌≡◌, ◌++◌, map}
use Rattle.form_urlencoded.specs.Parse.{raw_pairs_left}
use Rattle.http_read.specs.Form.{form_pair, form_pairs}
use Rattle.http_read.proofs.form.push_pairs.Given as goal

abbrev pub invariant-loop-name : goal.invariant-loop-name
invariant-loop-name l = (l.pairs.items ++ map form_pair (raw_pairs_left l.name-iterator)) ≡ l.initial.pairs.items ++ form_pairs l.text
