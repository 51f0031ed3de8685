use Rattle.std.proofs.Common.{◌<◌, sym, ap, subst, ◌∙◌, arith}
use Rattle.page_pool.specs.Holding.{times, GivesPage}
use Rattle.page_pool.specs.Lone.{LonePages, AreOnce, lone_holding}
use Rattle.page_pool.specs.PageWords.{numbers}
use Rattle.page_pool.specs.PageWords.{number_of}
use Rattle.page_pool.proofs.Lone.{AreOnce_push, few_free, numbers-push, each_once, length-numbers, given, with_free}
use Rattle.page_pool.proofs.lone_pool.LonePoolPages.give.Goals as goal

pub push_reserved-requires : goal.push_reserved-requires
push_reserved-requires c =
    let all = c.self.inside.free.items in
    let out = subst (λ (p : LonePages). 0 < times (number_of c.args.page) (lone_holding p).out) (sym c.self.view_is) c.requires in
    let few = few_free c.self.inside.made (numbers all) (number_of c.args.page) c.self.invariant.once out in
    omega (arith, length-numbers all)

pub invariant_of-self : goal.invariant_of-self
invariant_of-self c =
    let all = c.self.inside.free.items in
    let out = subst (λ (p : LonePages). 0 < times (number_of c.args.page) (lone_holding p).out) (sym c.self.view_is) c.requires in
    record {
      once = subst (AreOnce c.self.inside.made) (sym (ap numbers c.push_reserved.ensures.items ∙ numbers-push all c.args.page)) (AreOnce_push _ _ _ c.self.invariant.once out);
      room = omega arith;
      full = c.self.invariant.full;
    }

pub returns : goal.returns
returns c =
    let all = c.self.inside.free.items in
    let out = subst (λ (p : LonePages). 0 < times (number_of c.args.page) (lone_holding p).out) (sym c.self.view_is) c.requires in
    let e = ap numbers c.push_reserved.ensures.items ∙ numbers-push all c.args.page in
    let once = AreOnce_push _ _ _ c.self.invariant.once out in
    let i = c.self.inside in
    let old : LonePages = record { free = numbers all; made = i.made; peak = i.peak; low = i.low; dries = i.dries } in
    let new : LonePages = record old { free = numbers c.push_reserved.new.self.items } in
    record {
      given = subst (λ (p : LonePages). GivesPage (lone_holding p) (number_of c.args.page) (lone_holding new)) c.self.view_is (given old new _ once (ap (with_free old) e));
      full = c.self.invariant.full;
      each = each_once new (subst (AreOnce i.made) (sym e) once);
    }
