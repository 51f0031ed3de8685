use Rattle.std.proofs.Common.{◌∙◌, ◌++◌, ◌∷◌, [], sym, ap, subst, get_or, set, None, Some}
use Rattle.hm_scheme.specs.declared.scope.Bound.{Bound}
use Rattle.hm_scheme.specs.Bindings.{IsIndexed}
use Rattle.hm_scheme.proofs.Scoping.{indexed-push}
use Rattle.hm_scheme.proofs.scope.Scope.add.Goals as goal

pub invariant_of-self-2 : goal.invariant_of-self-2
invariant_of-self-2 c =
    let b : Bound = record { name = c.args.name; meaning = c.args.meaning; outer = c.place_of-outer.result } in
    let bs = c.self.inside.bounds.items in
    let room = c.make_room.new.innermost.items in
    let outer = c.place_of-outer.ensures ∙ ap (λ places. get_or places c.args.name None) c.deref.ensures.value in
    let x = indexed-push bs c.self.inside.innermost.items room b c.self.invariant c.in_ok-make_room.ensures.same c.in_ok-make_room.ensures.room outer in
    subst (λ ys. IsIndexed ys (set room c.args.name (Some c.len-place.result))) (sym c.in_ok-push.ensures.items)
    (subst (λ n. IsIndexed (bs ++ b ∷ []) (set room c.args.name (Some n))) (sym (c.len-place.ensures ∙ c.self.inside.bounds.ok.0)) x)
