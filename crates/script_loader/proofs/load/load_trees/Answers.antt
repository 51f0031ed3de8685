use Rattle.std.proofs.Common.{◌∙◌}
use Rattle.std.proofs.lemmas.Result.{err_from_is_err_and}
use Rattle.script_loader.proofs.Faults.{err_told}
use Rattle.script_loader.proofs.Order.{told_prelude, told_unreadable, told_mistaken}
use Rattle.script_loader.proofs.Places.{prelude_fits, files_fit}
use Rattle.script_loader.proofs.Programs.{texts_placed}
use Rattle.script_loader.proofs.load.load_trees.Goals as goal

pub returns-in_err-prelude-clause-cause : goal.returns-in_err-prelude-clause-cause
returns-in_err-prelude-clause-cause g c =
    let handed = err_from_is_err_and c.from_residual-in_err-prelude.result c.from_residual-in_err-prelude.ensures.1 in
    err_told _ c.from_residual-in_err-prelude.result handed.0 _ handed.1 handed.2 (told_prelude _ _ _ _ _ _ c.in_ok-source.ensures c.in_err-prelude.ensures.refused)

pub returns-in_err-project-clause-cause : goal.returns-in_err-project-clause-cause
returns-in_err-project-clause-cause g c =
    let handed = err_from_is_err_and c.from_residual-in_err-project.result c.from_residual-in_err-project.ensures.1 in
    err_told _ c.from_residual-in_err-project.result handed.0 _ handed.1 handed.2 (told_unreadable _ _ _ _ _ _ _ c.in_ok-source.ensures c.in_ok-prelude.ensures.tree c.in_err-project.ensures.refused)

pub source_tree-requires : goal.source_tree-requires
source_tree-requires g c = record { fits = prelude_fits _ c.in_ok-source.ensures }

pub source_trees-requires : goal.source_trees-requires
source_trees-requires g c =
    let placed = c.deref-2.ensures.value ∙ texts_placed _ _ c.in_ok-source.source _ c.in_ok-project.field-0.project.files _ c.in_ok-project.field-0.sources.items c.in_ok-texts.ensures c.len.ensures c.in_ok-source.ensures c.as_slice.ensures c.deref.ensures.value in
    record { fits = files_fit _ _ c.in_ok-project.field-0.project c.in_ok-project.field-0.sources.items _ c.in_ok-project.ensures.read placed }

pub returns-in_err-source_trees-clause-cause : goal.returns-in_err-source_trees-clause-cause
returns-in_err-source_trees-clause-cause g c =
    let placed = c.deref-2.ensures.value ∙ texts_placed _ _ c.in_ok-source.source _ c.in_ok-project.field-0.project.files _ c.in_ok-project.field-0.sources.items c.in_ok-texts.ensures c.len.ensures c.in_ok-source.ensures c.as_slice.ensures c.deref.ensures.value in
    let handed = err_from_is_err_and c.from_residual-in_err-source_trees.result c.from_residual-in_err-source_trees.ensures.1 in
    err_told _ c.from_residual-in_err-source_trees.result handed.0 _ handed.1 handed.2 (told_mistaken _ _ _ _ c.in_ok-source.source _ c.in_ok-project.field-0.project c.in_ok-project.field-0.sources.items _ _ c.in_ok-source.ensures c.in_ok-prelude.ensures.tree c.in_ok-project.ensures.read placed c.in_err-source_trees.ensures.refused)
