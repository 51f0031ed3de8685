use Rattle.std.proofs.Common.{ap, subst, length, map}
use Rattle.typing_rules.specs.Scope.{pat_parts}
use Rattle.hm_infer.specs.Numbering.{Numbered, numbered_end, a_pat}
use Rattle.hm_infer.proofs.Forms.{pat-any, pat-int, pat-char, pat-str, pat-unit, pat-name, pat-con, pat-typed}
use Rattle.hm_infer.proofs.Numberings.{numbered-tree, numbered-as, numbered-one, numbered-next, on_ok-of}
use Rattle.hm_infer.proofs.inference.Inference.+patterns.Goals as goal

pub pat-returns : goal.pat-returns
pat-returns t c = numbered-tree (a_pat c.args.p.now) _ _ _ _ c.in_ok-node.ensures c.in_ok-class.ensures c.close.ensures

pub pat_form-returns-in-Any : goal.pat_form-returns-in-Any
pat_form-returns-in-Any t c = on_ok-of _ (numbered-as _ _ (ap (λ l. map a_pat (pat_parts l)) (pat-any c.in-Any.is)) numbered_end)

pub pat_form-returns-in-Int : goal.pat_form-returns-in-Int
pat_form-returns-in-Int t c = numbered-as _ _ (ap (λ l. map a_pat (pat_parts l)) (pat-int _ c.in-Int.is)) numbered_end

pub pat_form-returns-in-Char : goal.pat_form-returns-in-Char
pat_form-returns-in-Char t c = numbered-as _ _ (ap (λ l. map a_pat (pat_parts l)) (pat-char _ c.in-Char.is)) numbered_end

pub pat_form-returns-in-Str : goal.pat_form-returns-in-Str
pat_form-returns-in-Str t c = numbered-as _ _ (ap (λ l. map a_pat (pat_parts l)) (pat-str _ c.in-Str.is)) numbered_end

pub pat_form-returns-in-Unit : goal.pat_form-returns-in-Unit
pat_form-returns-in-Unit t c = numbered-as _ _ (ap (λ l. map a_pat (pat_parts l)) (pat-unit c.in-Unit.is)) numbered_end

pub pat_form-returns-in-Name : goal.pat_form-returns-in-Name
pat_form-returns-in-Name t c = on_ok-of _ (numbered-as _ _ (ap (λ l. map a_pat (pat_parts l)) (pat-name c.in-Name.name c.in-Name.is)) numbered_end)

pub pat_form-returns-in_ok-class-in-Con : goal.pat_form-returns-in_ok-class-in-Con
pat_form-returns-in_ok-class-in-Con t c = on_ok-of _ (numbered-as _ _ (ap (λ l. map a_pat (pat_parts l)) (pat-con c.in-Con.name c.in-Con.argument c.in-Con.is))
    (numbered-one (subst (λ p. Numbered (a_pat p) (length c.args.self.now.nodes.items) (length c.pat.new.self.nodes.items)) c.get.ensures c.in_ok-class-in-Con.ensures)))

pub pat_form-returns-in_ok-class-in-Typed : goal.pat_form-returns-in_ok-class-in-Typed
pat_form-returns-in_ok-class-in-Typed t c = on_ok-of _ (numbered-as _ _ (ap (λ l. map a_pat (pat_parts l)) (pat-typed c.in-Typed.part c.in-Typed.t c.in-Typed.is))
    (numbered-one (subst (λ p. Numbered (a_pat p) (length c.args.self.now.nodes.items) (length c.pat-in-Typed.new.self.nodes.items)) c.get-in-Typed.ensures c.in_ok-class-in-Typed.ensures)))

pub pats-loop-p-init : goal.pats-loop-p-init
pats-loop-p-init t c = numbered_end

pub pats-loop-p-preserved : goal.pats-loop-p-preserved
pats-loop-p-preserved t c = numbered-next a_pat c.args.ps.now c.loop-p.p-index _ c.p-item.result _ _ _ c.p-item.is c.loop-p-test.true c.loop-p.invariant c.in_ok-part.ensures
