use Rattle.project_lines.proofs.Exact.{gives_project}
use Rattle.project_lines.proofs.project.read_project.Goals as goal

pub returns-clause-project_where : goal.returns-clause-project_where
returns-clause-project_where c project is = gives_project _ _ project c.find_project.ensures.project c.find_project.ensures.refused is
