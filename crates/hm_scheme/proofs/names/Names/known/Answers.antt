use Rattle.std.proofs.Common.{◌∙◌, sym, ap, subst, bytes_eq}
use Rattle.hm_scheme.specs.Numbering.{number_in, AllApart}
use Rattle.hm_scheme.proofs.Numbering.{lookup-shown}
use Rattle.hm_scheme.proofs.names.Names.known.Goals as goal

pub returns-clause-number : goal.returns-clause-number
returns-clause-number c =
    c.copied.ensures ∙ c.get.ensures.value ∙ sym (lookup-shown (bytes_eq c.args.name.now) c.self.inside.numbers.entries) ∙ ap (λ v. number_in v c.args.name.now) c.self.view_is

pub returns-clause-apart : goal.returns-clause-apart
returns-clause-apart c = subst AllApart c.self.view_is c.self.invariant.apart
