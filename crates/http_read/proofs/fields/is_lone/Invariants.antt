use Rattle.std.proofs.Common.{◌≡◌, false, length, map, All}
use Rattle.httparse.specs.Spans.{IsHeaderWithin, header_bytes}
use Rattle.http_read.specs.Fields.{is_lone_after}
use Rattle.http_read.proofs.fields.is_lone.Given as goal

abbrev pub invariant-loop-rest : goal.invariant-loop-rest
invariant-loop-rest l = record {
  within : All (IsHeaderWithin (length l.bytes)) l.rest;
  left : is_lone_after l.name l.seen (map (header_bytes l.bytes) l.rest) ≡ is_lone_after l.name false (map (header_bytes l.bytes) l.fields);
}

abbrev pub decreases-loop-rest : goal.decreases-loop-rest
decreases-loop-rest l = length l.rest
