use Rattle.std.proofs.lemmas.Result.{err_from_is_err_and}
use Rattle.script_loader.proofs.Faults.{err_told}
use Rattle.script_loader.proofs.Untyped.{told_no_trees, told_type, front_found}
use Rattle.script_loader.proofs.front.find_front.Goals as goal

pub returns-clause-front : goal.returns-clause-front
returns-clause-front g c = front_found _ _ _ _ c.in_ok-trees.ensures.trees c.front_of.ensures.front

pub returns-clause-cause : goal.returns-clause-cause
returns-clause-cause g c = told_type _ _ _ _ _ _ c.in_ok-trees.ensures.trees c.front_of.ensures.refused

pub returns-in_err-trees-clause-cause : goal.returns-in_err-trees-clause-cause
returns-in_err-trees-clause-cause g c =
    let handed = err_from_is_err_and c.from_residual.result c.from_residual.ensures.1 in
    err_told _ c.from_residual.result handed.0 _ handed.1 handed.2 (told_no_trees _ _ _ _ _ c.in_err-trees.ensures.cause)
