use Rattle.std.proofs.lemmas.Result.{err_from_is_err_and}
use Rattle.script_loader.proofs.Faults.{err_told}
use Rattle.script_loader.proofs.Read.{told_first_unread}
use Rattle.script_loader.proofs.project.read_files.Goals as goal

pub returns-in_err-sources-clause-refused : goal.returns-in_err-sources-clause-refused
returns-in_err-sources-clause-refused g c =
    let handed = err_from_is_err_and c.from_residual-in_err-sources.result c.from_residual-in_err-sources.ensures.1 in
    err_told _ c.from_residual-in_err-sources.result handed.0 _ handed.1 handed.2 (told_first_unread _ _ _ _ _ _ _ _ _ _ c.in_ok-project.ensures.read c.as_slice.ensures c.in_ok-project.ensures.count c.in_ok-project.ensures.same c.in_err-sources.ensures.refused)
