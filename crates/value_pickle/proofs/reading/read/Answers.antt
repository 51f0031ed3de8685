use Rattle.value_pickle.proofs.Places.{gives_datum}
use Rattle.value_pickle.proofs.reading.read.Goals as goal

pub returns-in-Ok-clause-datum_where : goal.returns-in-Ok-clause-datum_where
returns-in-Ok-clause-datum_where c = λ x is. gives_datum c.args.desc.now c.args.bytes.now c.in-Ok.datum x c.in-Ok.ensures.datum is
