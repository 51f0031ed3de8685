use Rattle.std.proofs.Common.{arith, ◌≡◌, subst, sym, ap, ◌∙◌}
use Rattle.typing_rules.specs.Scope.{UnboundInPat, status}
use Rattle.hm_scope.specs.Least.{Sees}
use Rattle.hm_scope.proofs.Leasts.{seen-as, sees-next, sees-whole}
use Rattle.hm_scope.proofs.Leasts.{none_of, not_none}
use Rattle.hm_scope.proofs.Forms.{pat-con, pat-typed}
use Rattle.hm_scope.proofs.Patterns.{sees-pat-listed, sees-pat-typed, sees-pat-con, sees-pat-unbound}
use Rattle.hm_scope.proofs.search.Search.+patterns.Goals as goal
use Rattle.hm_scope.proofs.search.Search.+patterns.Goals.{pat-then-is_none, pat-else-is_none}

pub pat-returns-in-Tuple : goal.pat-returns-in-Tuple
pat-returns-in-Tuple t c = sees-pat-listed c.args.p.now c.in-Tuple.ps c.args.self.now c.pats.new.self c.in-Tuple.is
    (seen-as _ _ _ _ _ c.as_slice.ensures c.pats.ensures)

pub pats-loop-p-preserved : goal.pats-loop-p-preserved
pats-loop-p-preserved t c = sees-next (λ n. UnboundInPat n) c.args.ps.now c.loop-p.p-index _ c.p-item.result c.args.self.now c.loop-p.self c.pat.new.self c.p-item.is c.loop-p-test.true c.loop-p.invariant c.pat.ensures

pub pats-returns : goal.pats-returns
pats-returns t c = sees-whole (UnboundInPat c.args.self.now.names) c.args.ps.now c.loop-p.p-index c.args.self.now c.loop-p.self (omega (arith, c.loop-p-test.false)) c.loop-p.invariant

pub pat-returns-in-Typed : goal.pat-returns-in-Typed
pat-returns-in-Typed t c = sees-pat-typed c.args.p.now c.in-Typed.part c.in-Typed.t c.args.self.now c.pat-in-Typed.new.self c.ty.new.self (pat-typed c.in-Typed.part c.in-Typed.t c.in-Typed.is)
    (subst (λ q. Sees (UnboundInPat c.args.self.now.names q) c.args.self.now c.pat-in-Typed.new.self) c.get-in-Typed.ensures c.pat-in-Typed.ensures) c.ty.ensures

pub pat-returns-after-is_none : goal.pat-returns-after-is_none
pat-returns-after-is_none t c =
    let known : status c.in-Con.name c.args.self.now.names.values ≡ c.status.result = ap (λ n. status n c.args.self.now.names.values) (sym c.as_bytes.ensures) ∙ sym c.status.ensures in
    let s = subst (λ q. Sees (UnboundInPat c.if-is_none.self.names q) c.if-is_none.self c.pat.new.self) c.get.ensures c.pat.ensures in
    elim c.if-is_none.branch [
      | pat-then-is_none w ↦ sees-pat-unbound c.args.p.now c.in-Con.argument c.in-Con.name c.args.self.now c.if-is_none.self c.pat.new.self (pat-con c.in-Con.name c.in-Con.argument c.in-Con.is)
          (known ∙ none_of _ w.if-is_none.ensures) (subst (λ b. Sees (λ place. place ≡ c.args.p.now.span.from) c.args.self.now b) (sym w.self-is) w.find.ensures) s
      | pat-else-is_none w ↦ sees-pat-con c.args.p.now c.in-Con.argument c.in-Con.name c.args.self.now c.pat.new.self (pat-con c.in-Con.name c.in-Con.argument c.in-Con.is)
          (λ h. not_none _ w.if-is_none.ensures (sym known ∙ h)) (subst (λ z. Sees (UnboundInPat z.names c.in-Con.argument) z c.pat.new.self) w.self-is s)
    ]
