use Rattle.std.proofs.Common.{◌∙◌, sym, ap, arith, get_or, None, Some}
use Rattle.std.proofs.lemmas.List.{get_or_default}
use Rattle.hm_scheme.specs.Bindings.{meaning_in}
use Rattle.hm_scheme.proofs.Scoping.{found, not_found}
use Rattle.hm_scheme.proofs.scope.Scope.find.Goals as goal

pub index-requires : goal.index-requires
index-requires c =
    let h = c.in-Some.ensures ∙ ap (λ places. get_or places c.args.name None) c.deref.ensures.value in
    let f = (found _ _ _ _ c.self.invariant h).0 in
    let o = c.self.inside.bounds.ok.0 in omega (arith, f, o)

pub returns-in-Some : goal.returns-in-Some
returns-in-Some c =
    let h = c.in-Some.ensures ∙ ap (λ places. get_or places c.args.name None) c.deref.ensures.value in
    let f = found _ _ _ _ c.self.invariant h in
    ap (λ b. Some b.meaning) (c.index.ensures ∙ get_or_default _ _ _ _ f.0) ∙ sym f.1 ∙ ap (λ v. meaning_in v c.args.name) c.self.view_is

pub returns-in-None : goal.returns-in-None
returns-in-None c =
    let h = c.in-None.ensures ∙ ap (λ places. get_or places c.args.name None) c.deref.ensures.value in
    sym (not_found _ _ _ c.self.invariant h) ∙ ap (λ v. meaning_in v c.args.name) c.self.view_is
