use Rattle.std.proofs.Common.{◌≡◌, ◌+◌, ◌<◌, ◌≤◌, ◌∷◌, [], List, ℕ, drop, get_or, subst, arith, refl, sym, ◌∙◌}
use Rattle.sml_syntax.specs.declared.token.TokenForm.TheVariants as form
use Rattle.grammar_rules.specs.Spelling.{is}
use Rattle.sml_lex.specs.Ends.{Ends}
use Rattle.sml_lex.specs.Coded.{variable}
use Rattle.sml_lex.proofs.Steps.{slice_first}
use Rattle.sml_lex.proofs.NameSteps.{variable_end}
use Rattle.sml_lex.proofs.names.variable_piece.Goals as goal

pub returns : goal.returns
returns c =
    let bs = c.args.bytes.now in
    let i = c.args.at in
    let m = c.run_end-to.result in
    subst (λ w. Ends (variable (get_or bs i 0)) (i + 1) (drop (i + 1) bs) (is (form.TyVar w)) m)
    (sym (slice_first bs i m (omega arith) c.requires) ∙ sym c.in_ok-name.ensures)
    (variable_end (i + 1) m (get_or bs i 0) bs c.run_end-to.ensures.run)
