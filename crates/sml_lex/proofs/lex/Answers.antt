use Rattle.sml_lex.proofs.Exact.{gives_tokens, gives_refusal}
use Rattle.sml_lex.proofs.lex.Goals as goal

pub returns-clause-tokens_where : goal.returns-clause-tokens_where
returns-clause-tokens_where c = λ ts d. gives_tokens c.args.bytes.now c.cut.result c.cut.ensures.tokens c.cut.ensures.refused ts d

pub returns-clause-refusal_where : goal.returns-clause-refusal_where
returns-clause-refusal_where c = λ r d. gives_refusal c.args.bytes.now c.cut.result c.cut.ensures.tokens c.cut.ensures.refused r d
