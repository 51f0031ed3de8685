use Rattle.std.proofs.Common.{◌∙◌, map}
use Rattle.httparse.specs.Spans.{header_bytes}
use Rattle.http_read.proofs.Lone.{lone}
use Rattle.http_read.proofs.fields.has_one.Goals as goal

pub returns : goal.returns
returns c = c.is_lone.ensures ∙ lone c.args.name.now (map (header_bytes c.args.bytes.now) c.args.fields.now)
