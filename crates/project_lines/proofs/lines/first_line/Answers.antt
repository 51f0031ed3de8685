use Rattle.project_lines.proofs.Cuts.{ended_told}
use Rattle.project_lines.proofs.lines.first_line.Goals as goal

pub returns-clause-lines : goal.returns-clause-lines
returns-clause-lines c = ended_told _ _ _ c.line_length-length.ensures c.if-length-text.false c.without_return.ensures
