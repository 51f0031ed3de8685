use Rattle.std.proofs.Common.{rules, ◌≡◌, true, sym, ◌∙◌}
use Rattle.web_data.specs.Data.{has_desc}
use Rattle.value_pickle.proofs.OneForm.{equal_pickles}
use Rattle.history_check.proofs.same.same_datum.Goals as goal

pub returns-clause-yes : goal.returns-clause-yes
returns-clause-yes c e =
    let g : has_desc c.args.desc.now c.args.b.now ≡ true = search rules in
    equal_pickles c.args.desc.now c.args.a.now c.args.b.now c.requires g (sym c.in_ok-a.ensures ∙ (c.same_text.ensures.0 e ∙ c.in_ok-b.ensures))
