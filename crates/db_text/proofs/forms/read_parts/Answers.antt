use Rattle.std.proofs.Common.{[], ap, ◌∙◌, drop, map}
use Rattle.std.proofs.lemmas.List.{drop_all}
use Rattle.web_data.specs.StatementReading.{run}
use Rattle.db_text.specs.Reading.{left_of}
use Rattle.db_text.proofs.Scans.{stops_behind}
use Rattle.db_text.proofs.forms.read_parts.Goals as goal

pub returns-then-at-bytes : goal.returns-then-at-bytes
returns-then-at-bytes c =
    let ts = c.loop-part.texts.items in
    let bs = c.args.bytes.now in
    c.loop-part.invariant.whole
    ∙ (ap (λ ps. run ts (map left_of ps) (drop c.loop-part.at bs) c.loop-part.at) (drop_all c.loop-part.part-index c.args.parts.now c.loop-part-test.false)
    ∙ stops_behind ts [] bs c.loop-part.at c.if-at-bytes.true)
