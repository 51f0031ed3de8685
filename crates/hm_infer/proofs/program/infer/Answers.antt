use Rattle.std.proofs.Common.{Err, ap, sym, ◌∙◌}
use Rattle.std.proofs.lemmas.Result.{err_from_is_err_and}
use Rattle.hm_types.proofs.Members.{err-over}
use Rattle.hm_infer.proofs.program.infer.Goals as goal

pub returns-in_err-inference-clause-ill : goal.returns-in_err-inference-clause-ill
returns-in_err-inference-clause-ill c = λ place e.
    let w = err_from_is_err_and c.from_residual-in_err-inference.result c.from_residual-in_err-inference.ensures.1 in
    c.in_err-inference.ensures.ill place (sym (ap (λ z. Err z) w.2) ∙ err-over _ _ (sym w.1 ∙ e))
