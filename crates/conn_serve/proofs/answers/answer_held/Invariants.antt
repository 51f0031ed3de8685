use Rattle.std.proofs.Common.{◌≡◌, ◌≤◌, false, List, length}
use Rattle.web_messages.specs.declared.request.Request.{Request}
use Rattle.web_messages.specs.declared.request.Reply.{Reply}
use Rattle.conn_serve.specs.Serving.{told_by}
use Rattle.conn_serve.specs.Steps.{Goes}
use Rattle.conn_serve.proofs.answers.answer_held.Given as goal

abbrev pub invariant-loop-status : goal.invariant-loop-status
invariant-loop-status g l = record {
  closed : l.reader.closed ≡ false;
  count : g.L.Sink.write_count l.initial.link ≤ g.L.Sink.write_count l.link;
  keeps : g.L.Sink.kept l.link ≡ g.L.Sink.kept l.initial.link;
  goes : (requests : List Request) × (replies : List Reply) × Goes g.A.Answerer.answers l.initial.answerer l.answerer (told_by g.L.Source.given g.L.Source.left g.L.Source.read_count g.L.Sink.written g.L.Sink.write_count l.initial.link) (told_by g.L.Source.given g.L.Source.left g.L.Source.read_count g.L.Sink.written g.L.Sink.write_count l.link) l.initial.reader.held l.reader.held requests replies;
}

abbrev pub decreases-loop-status : goal.decreases-loop-status
decreases-loop-status g l = length l.reader.held
