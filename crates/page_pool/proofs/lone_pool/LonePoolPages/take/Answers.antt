use Rattle.std.proofs.Common.{◌≡◌, ◌-◌, max, [], length, sym, ap, subst, ◌∙◌, arith, refl, Some}
use Rattle.std.proofs.lemmas.List.{nil_from_length, append-nil}
use Rattle.page_pool.specs.Holding.{TakesPage, FindsNone}
use Rattle.page_pool.specs.Lone.{LonePages, lone_holding}
use Rattle.page_pool.specs.PageWords.{numbers}
use Rattle.page_pool.specs.PageWords.{number_of}
use Rattle.page_pool.proofs.Lone.{AreOnce_front, numbers-push, each_once, length-numbers, popped, taken, found_none, full_low, length-out, with_peak}
use Rattle.page_pool.proofs.lone_pool.LonePoolPages.take.Goals as goal

pub overflow_sub-out : goal.overflow_sub-out
overflow_sub-out c =
    let once = popped _ _ _ _ c.in-Some.ensures.items c.self.invariant.once in
    let rest = c.pop.new.self.items in
    omega (arith, length-out c.self.inside.made (numbers rest) (AreOnce_front _ _ _ once), length-numbers rest)

pub overflow_cast-out : goal.overflow_cast-out
overflow_cast-out c =
    let once = popped _ _ _ _ c.in-Some.ensures.items c.self.invariant.once in
    let rest = c.pop.new.self.items in
    omega (arith, length-out c.self.inside.made (numbers rest) (AreOnce_front _ _ _ once), length-numbers rest)

pub invariant_of-self : goal.invariant_of-self
invariant_of-self c = record {
  once = AreOnce_front _ _ _ (popped _ _ _ _ c.in-Some.ensures.items c.self.invariant.once);
  room = omega arith;
  full = c.self.invariant.full;
}

pub returns-in-Some-clause-taken : goal.returns-in-Some-clause-taken
returns-in-Some-clause-taken c =
    let i = c.self.inside in
    let rest = c.pop.new.self.items in
    let old : LonePages = record { free = numbers i.free.items; made = i.made; peak = i.peak; low = i.low; dries = i.dries } in
    let new : LonePages = record old { free = numbers rest; peak = c.max-self-inside.result } in
    let n = number_of c.in-Some.page in
    let peak : c.max-self-inside.result ≡ max i.peak (i.made - length (numbers rest)) =
    (let e = length-numbers rest in rw e (let f : c.len.result ≡ length rest = omega arith in c.max-self-inside.ensures ∙ ap (λ m. max i.peak (i.made - m)) f)) in
    subst (λ (p : LonePages). TakesPage (lone_holding p) n (lone_holding new)) c.self.view_is
    (taken old new n (popped _ _ _ _ c.in-Some.ensures.items c.self.invariant.once) (ap numbers c.in-Some.ensures.items ∙ numbers-push rest c.in-Some.page) (ap (with_peak new) peak))

pub returns-in-Some-clause-each : goal.returns-in-Some-clause-each
returns-in-Some-clause-each c =
    let i = c.self.inside in
    let new : LonePages = record { free = numbers c.pop.new.self.items; made = i.made; peak = c.max-self-inside.result; low = i.low; dries = i.dries } in
    each_once new (AreOnce_front _ _ _ (popped _ _ _ _ c.in-Some.ensures.items c.self.invariant.once))

pub returns-in-None-clause-dry : goal.returns-in-None-clause-dry
returns-in-None-clause-dry c =
    let i = c.self.inside in
    let none : i.free.items ≡ [] = nil_from_length i.free.items (omega (arith, c.in-None.ensures.cases.0, i.free.ok.0)) in
    let rest : c.pop.new.self.items ≡ i.free.items = sym (append-nil c.pop.new.self.items) ∙ sym c.in-None.ensures.items in
    let old : LonePages = record { free = numbers i.free.items; made = i.made; peak = i.peak; low = i.low; dries = i.dries } in
    let new : LonePages = record old { free = numbers c.pop.new.self.items; low = Some i.made; dries = c.saturating_add-self-inside.result } in
    subst (λ (p : LonePages). FindsNone (lone_holding p) (lone_holding new)) c.self.view_is
    (found_none old new c.self.invariant.once (ap numbers none) (ap numbers rest) refl refl (full_low i.low i.made c.self.invariant.full) c.saturating_add-self-inside.ensures)
