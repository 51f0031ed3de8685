use Rattle.std.proofs.Common.{◌≡◌, length, map, All}
use Rattle.std.specs.List.{list_all}
use Rattle.httparse.specs.Spans.{IsHeaderWithin, header_bytes}
use Rattle.http_read.specs.Head.{is_length, length_values}
use Rattle.http_read.proofs.fields.are_all_lengths.Given as goal

abbrev pub invariant-loop-rest : goal.invariant-loop-rest
invariant-loop-rest l = record {
  within : All (IsHeaderWithin (length l.bytes)) l.rest;
  left : list_all (is_length l.first) (length_values (map (header_bytes l.bytes) l.rest)) ≡ list_all (is_length l.first) (length_values (map (header_bytes l.bytes) l.fields));
}

abbrev pub decreases-loop-rest : goal.decreases-loop-rest
decreases-loop-rest l = length l.rest
