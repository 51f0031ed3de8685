use Rattle.std.proofs.Common.{◌≡◌, ◌≤◌, ◌-◌, ℕ, false, List, length}
use Rattle.web_messages.specs.declared.request.Request.{Request}
use Rattle.web_messages.specs.declared.request.Reply.{Reply}
use Rattle.http_read.specs.Messages.{HasFront, Held}
use Rattle.conn_serve.specs.Serving.{told_by}
use Rattle.conn_serve.specs.Steps.{Goes, Gives}
use Rattle.conn_serve.proofs.serve.serve_pieces.Given as goal

abbrev pub invariant-loop-read : goal.invariant-loop-read
invariant-loop-read g l = record {
  within : l.read ≤ 1099511627776;
  closed : l.reader.closed ≡ false;
  front : HasFront l.reader.held Held;
  lasting : g.L.Conn.lasting l.link ≡ g.L.Conn.lasting l.fn.link;
  extra : g.L.Conn.is_extra l.link ≡ g.L.Conn.is_extra l.fn.link;
  room : length l.piece ≡ 4096;
  reads : g.L.Source.read_count l.fn.link ≤ g.L.Source.read_count l.link;
  writes : g.L.Sink.write_count l.fn.link ≤ g.L.Sink.write_count l.link;
  so_far : (bytes : List ℕ) × (requests : List Request) × (replies : List Reply) × (length bytes ≡ l.read) × Gives bytes (told_by g.L.Source.given g.L.Source.left g.L.Source.read_count g.L.Sink.written g.L.Sink.write_count l.fn.link) (told_by g.L.Source.given g.L.Source.left g.L.Source.read_count g.L.Sink.written g.L.Sink.write_count l.link) × Goes g.A.Answerer.answers l.fn.answerer l.answerer (told_by g.L.Source.given g.L.Source.left g.L.Source.read_count g.L.Sink.written g.L.Sink.write_count l.fn.link) (told_by g.L.Source.given g.L.Source.left g.L.Source.read_count g.L.Sink.written g.L.Sink.write_count l.link) bytes l.reader.held requests replies;
}

abbrev pub decreases-loop-read : goal.decreases-loop-read
decreases-loop-read g l = 1099511627776 - l.read
