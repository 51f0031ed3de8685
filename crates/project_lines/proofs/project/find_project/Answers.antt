use Rattle.std.proofs.Common.{sym, ap, ◌∙◌}
use Rattle.std.specs.Prelude.{◌==◌}
use Rattle.project_lines.proofs.Taking.{is_project}
use Rattle.project_lines.proofs.project.find_project.Goals as goal

pub returns-clause-project : goal.returns-clause-project
returns-clause-project c =
    let filled = sym c.is_empty.ensures ∙ c.if-is_empty.false in
    is_project _ _ _ c.in_ok-lines.ensures.ok (ap (λ k. k == 0) (sym c.in_ok-lines.lines.ok.0) ∙ filled) c.in_ok-project_of.ensures
