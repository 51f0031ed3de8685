use Rattle.std.proofs.Common.{◌≡◌, length, map, All}
use Rattle.httparse.specs.Spans.{IsHeaderWithin, header_bytes}
use Rattle.http_read.specs.Head.{has_field}
use Rattle.http_read.proofs.fields.has_field.Given as goal

abbrev pub invariant-loop-rest : goal.invariant-loop-rest
invariant-loop-rest l = record {
  within : All (IsHeaderWithin (length l.bytes)) l.rest;
  left : has_field l.name (map (header_bytes l.bytes) l.rest) ≡ has_field l.name (map (header_bytes l.bytes) l.fields);
}

abbrev pub decreases-loop-rest : goal.decreases-loop-rest
decreases-loop-rest l = length l.rest
