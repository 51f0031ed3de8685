use Rattle.std.proofs.Common.{arith}
use Rattle.hm_types.proofs.Steps.{stands-same, ok-to, by-roots, none-by-roots, none-flip, step-flip, by-one-root}
use Rattle.hm_types.proofs.join.equate.Goals as goal

pub returns-then-p-q-clause-steps : goal.returns-then-p-q-clause-steps
returns-then-p-q-clause-steps c = ok-to _ _ c.merge.result (λ _ g. by-roots _ _ _ _ _ _ _ _ _ (stands-same _ _ _ c.root_of-p.ensures.stands) (stands-same _ _ _ c.root_of-q.ensures.stands) g) c.merge.ensures.steps

pub returns-then-p-q-clause-none : goal.returns-then-p-q-clause-none
returns-then-p-q-clause-none c e = none-by-roots c.args.parts.now c.args.nodes.now c.args.work.now.items c.args.x c.args.y c.root_of-p.result c.root_of-q.result (stands-same _ _ _ c.root_of-p.ensures.stands) (stands-same _ _ _ c.root_of-q.ensures.stands) (c.merge.ensures.none e)

pub returns-then-q-p-clause-steps : goal.returns-then-q-p-clause-steps
returns-then-q-p-clause-steps c = ok-to _ _ c.merge-then-q-p.result (λ _ g. by-roots _ _ _ _ _ _ _ _ _ (stands-same _ _ _ c.root_of-p.ensures.stands) (stands-same _ _ _ c.root_of-q.ensures.stands) (step-flip _ _ _ _ _ _ _ g)) c.merge-then-q-p.ensures.steps

pub returns-then-q-p-clause-none : goal.returns-then-q-p-clause-none
returns-then-q-p-clause-none c e = none-by-roots c.args.parts.now c.args.nodes.now c.args.work.now.items c.args.x c.args.y c.root_of-p.result c.root_of-q.result (stands-same _ _ _ c.root_of-p.ensures.stands) (stands-same _ _ _ c.root_of-q.ensures.stands) (none-flip c.args.parts.now c.args.nodes.now c.args.work.now.items c.root_of-p.result c.root_of-q.result (c.merge-then-q-p.ensures.none e))

pub returns-clause-steps : goal.returns-clause-steps
returns-clause-steps c = by-one-root c.args.parts.now c.args.nodes.now c.args.work.now.items c.args.x c.args.y c.root_of-p.result c.root_of-q.result c.requires.fine c.requires.work (omega (arith, c.if-p-q.false, c.if-q-p.false)) (stands-same _ _ _ c.root_of-p.ensures.stands) (stands-same _ _ _ c.root_of-q.ensures.stands)
