use Rattle.print_laws.proofs.FitTrees.{forms_fit}
use Rattle.print_laws.proofs.laws.printed_forms_fit.Goals as goal

pub returns : goal.returns
returns c = λ ts x h q g d. forms_fit ts x h q g d
