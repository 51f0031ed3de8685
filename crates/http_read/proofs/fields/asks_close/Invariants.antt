use Rattle.std.proofs.Common.{◌≡◌, ◌&&◌, length, map, All}
use Rattle.std.specs.Prelude.{codes}
use Rattle.std.specs.List.{list_any}
use Rattle.httparse.specs.Spans.{IsHeaderWithin, header_bytes}
use Rattle.http_read.specs.Head.{is_named, lists_close}
use Rattle.http_read.proofs.fields.asks_close.Given as goal

abbrev pub invariant-loop-rest : goal.invariant-loop-rest
invariant-loop-rest l = record {
  within : All (IsHeaderWithin (length l.bytes)) l.rest;
  left : list_any (λ field. is_named (codes "connection") field && lists_close field.1) (map (header_bytes l.bytes) l.rest) ≡ list_any (λ field. is_named (codes "connection") field && lists_close field.1) (map (header_bytes l.bytes) l.fields);
}

abbrev pub decreases-loop-rest : goal.decreases-loop-rest
decreases-loop-rest l = length l.rest
