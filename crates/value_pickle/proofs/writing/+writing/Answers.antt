use Rattle.std.proofs.Common.{◌++◌, ◌∷◌, [], sym, ap, ◌∙◌, arith}
use Rattle.web_data.specs.declared.datum.Datum.TheVariants as datum
use Rattle.web_data.specs.Pickles.{pickle}
use Rattle.value_pickle.proofs.Items.{all_items}
use Rattle.value_pickle.proofs.Layers.{pickle_list}
use Rattle.value_pickle.proofs.writing.+writing.Goals as goal

pub returns-in_ok-push-in-List-List-2 : goal.returns-in_ok-push-in-List-List-2
returns-in_ok-push-in-List-List-2 t c =
    let a = c.in-List-List.a
    in let xs = c.as_slice-x-items.result.now
    in let out = c.args.out.now.items
    in c.in_ok-push-in-List-List-2.ensures.items
    ∙ ap (λ z. z ++ 0 ∷ []) c.loop-x.invariant
    ∙ all_items a out xs c.loop-x.x-index (omega (arith, c.loop-x-test.false))
    ∙ ap (λ z. out ++ z) (sym (pickle_list a xs))
    ∙ ap (λ z. out ++ pickle z (datum.List xs)) (sym c.in-List-List.is-0)
    ∙ ap (λ z. out ++ pickle c.args.desc.now (datum.List z)) c.as_slice-x-items.ensures
    ∙ ap (λ z. out ++ pickle c.args.desc.now z) (sym c.in-List-List.is-1)
