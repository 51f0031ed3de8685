use Rattle.std.proofs.Common.{arith, ◌≡◌, subst, sym, ap, ◌∙◌}
use Rattle.typing_rules.specs.Scope.{UnboundInType, has_name}
use Rattle.hm_scope.specs.Least.{Sees, Some_of}
use Rattle.hm_scope.proofs.Leasts.{seen-as, sees-next, sees-whole}
use Rattle.hm_scope.proofs.Forms.{ty-var, ty-con, ty-tuple, ty-arrow}
use Rattle.hm_scope.proofs.Types.{sees-tuple, sees-arrow, sees-con, sees-con-unbound, sees-var-unbound}
use Rattle.hm_scope.proofs.search.Search.+written_types.Goals as goal
use Rattle.hm_scope.proofs.search.Search.+written_types.Goals.{ty-then-not-has_type, ty-else-not-has_type}

pub ty-returns-in-Tuple : goal.ty-returns-in-Tuple
ty-returns-in-Tuple t c = sees-tuple c.args.variables.now c.args.t.now c.in-Tuple.parts c.args.self.now c.tys-in-Tuple.new.self (ty-tuple c.in-Tuple.parts c.in-Tuple.is)
    (seen-as _ _ _ _ _ c.as_slice-in-Tuple.ensures c.tys-in-Tuple.ensures)

pub ty-returns-in-Arrow : goal.ty-returns-in-Arrow
ty-returns-in-Arrow t c = sees-arrow c.args.variables.now c.args.t.now c.in-Arrow.from c.in-Arrow.to c.args.self.now c.ty.new.self c.ty-in-Arrow.new.self (ty-arrow c.in-Arrow.from c.in-Arrow.to c.in-Arrow.is)
    (subst (λ u. Sees (UnboundInType c.args.self.now.names c.args.variables.now u) c.args.self.now c.ty.new.self) c.get.ensures c.ty.ensures)
    (subst (λ u. Sees (UnboundInType c.ty.new.self.names c.args.variables.now u) c.ty.new.self c.ty-in-Arrow.new.self) c.get-in-Arrow.ensures c.ty-in-Arrow.ensures)

pub ty-returns-then-not-is_among : goal.ty-returns-then-not-is_among
ty-returns-then-not-is_among t c = sees-var-unbound c.args.variables.now c.args.t.now c.in-Var.name c.args.self.now c.find.new.self (ty-var c.in-Var.name c.in-Var.is)
    (ap (λ n. has_name n c.args.variables.now) (sym c.as_bytes.ensures) ∙ sym c.is_among.ensures ∙ c.if-not-is_among.true) c.find.ensures

pub ty-returns-after-not-has_type : goal.ty-returns-after-not-has_type
ty-returns-after-not-has_type t c =
    let known : has_name c.in-Con.name c.args.self.now.names.types ≡ c.has_type.result = ap (λ n. has_name n c.args.self.now.names.types) (sym c.as_bytes-in-Con.ensures) ∙ sym c.has_type.ensures in
    let s = seen-as _ _ _ _ _ c.as_slice.ensures c.tys.ensures in
    elim c.if-not-has_type.branch [
      | ty-then-not-has_type w ↦ sees-con-unbound c.args.variables.now c.args.t.now c.in-Con.name c.in-Con.arguments w.name_place.result c.args.self.now c.if-not-has_type.self c.tys.new.self
          (ty-con c.in-Con.name c.in-Con.arguments c.in-Con.is) (known ∙ w.if-not-has_type.true) w.name_place.ensures
          (subst (λ b. Sees (λ p. p ≡ w.name_place.result) c.args.self.now b) (sym w.self-is) w.find-then-not-has_type.ensures) s
      | ty-else-not-has_type w ↦ sees-con c.args.variables.now c.args.t.now c.in-Con.name c.in-Con.arguments c.args.self.now c.tys.new.self
          (ty-con c.in-Con.name c.in-Con.arguments c.in-Con.is) (known ∙ w.if-not-has_type.false)
          (subst (λ z. Sees (Some_of (UnboundInType z.names c.args.variables.now) c.in-Con.arguments) z c.tys.new.self) w.self-is s)
    ]

pub tys-loop-t-preserved : goal.tys-loop-t-preserved
tys-loop-t-preserved t c = sees-next (λ n. UnboundInType n c.args.variables.now) c.args.ts.now c.loop-t.t-index _ c.t-item.result c.args.self.now c.loop-t.self c.ty.new.self c.t-item.is c.loop-t-test.true c.loop-t.invariant c.ty.ensures

pub tys-returns : goal.tys-returns
tys-returns t c = sees-whole (UnboundInType c.args.self.now.names c.args.variables.now) c.args.ts.now c.loop-t.t-index c.args.self.now c.loop-t.self (omega (arith, c.loop-t-test.false)) c.loop-t.invariant
