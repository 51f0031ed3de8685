use Rattle.std.proofs.Common.{◌+◌, ◌∷◌, ◌≤◌, length, arith, set}
use Rattle.hm_types.specs.Joining.{Steps, weight}
use Rattle.hm_types.specs.declared.node.Node.TheVariants.{Link}
use Rattle.hm_types.proofs.Steps.{high-free, low-free, differs, less-free, less-low, both-law}
use Rattle.hm_types.proofs.join.merge.Goals as goal

pub returns-in-Variable-clause-steps : goal.returns-in-Variable-clause-steps
returns-in-Variable-clause-steps c = high-free c.args.parts.now c.args.nodes.now c.args.low c.args.high c.args.work.now.items c.requires.fine c.requires.within c.requires.order c.in-Variable.is c.requires.work

pub returns-in-Variable-clause-less : goal.returns-in-Variable-clause-less
returns-in-Variable-clause-less c = let q = less-free c.args.nodes.now c.args.low c.args.high c.requires.within c.in-Variable.is in omega (arith, q)

pub returns-in-Variable-nodes-clause-steps : goal.returns-in-Variable-nodes-clause-steps
returns-in-Variable-nodes-clause-steps c = low-free c.args.parts.now c.args.nodes.now c.args.low c.args.high c.in-Made.name c.in-Made.first c.in-Made.count c.args.work.now.items c.requires.fine c.requires.within c.requires.order c.in-Variable-nodes.is c.in-Made.is c.requires.work

pub returns-in-Variable-nodes-clause-less : goal.returns-in-Variable-nodes-clause-less
returns-in-Variable-nodes-clause-less c = let q = less-low c.args.nodes.now c.args.low c.args.high c.in-Made.name c.in-Made.first c.in-Made.count c.requires.within c.requires.order c.in-Variable-nodes.is c.in-Made.is in omega (arith, q)

pub returns-then-other-name-clause-none : goal.returns-then-other-name-clause-none
returns-then-other-name-clause-none c e = differs c.args.parts.now c.args.nodes.now c.args.low c.args.high c.in-Made-nodes.other c.in-Made.name c.in-Made-nodes.start c.in-Made.first c.in-Made-nodes.size c.in-Made.count c.args.work.now.items c.requires.fine c.in-Made-nodes.is c.in-Made.is (λ p q. c.if-other-name.true p)

pub returns-then-size-count-clause-none : goal.returns-then-size-count-clause-none
returns-then-size-count-clause-none c e = differs c.args.parts.now c.args.nodes.now c.args.low c.args.high c.in-Made-nodes.other c.in-Made.name c.in-Made-nodes.start c.in-Made.first c.in-Made-nodes.size c.in-Made.count c.args.work.now.items c.requires.fine c.in-Made-nodes.is c.in-Made.is (λ p q. c.if-size-count.true q)

both : (c : goal.In_ok-push_pairs-in-Made-nodes) → Steps c.args.parts.now c.args.nodes.now ((c.args.low, c.args.high) ∷ c.args.work.now.items) (set c.args.nodes.now c.args.high (Link c.args.low)) c.push_pairs.new.work.items × (length c.push_pairs.new.work.items + weight (set c.args.nodes.now c.args.high (Link c.args.low)) ≤ length c.args.work.now.items + weight c.args.nodes.now)
both c = both-law c.args.parts.now c.args.nodes.now c.args.low c.args.high c.in-Made.name c.in-Made-nodes.other c.in-Made-nodes.start c.in-Made.first c.in-Made.count c.in-Made-nodes.size c.args.work.now.items c.push_pairs.new.work.items
    c.requires.fine c.requires.parts c.requires.within c.requires.order c.in-Made-nodes.is c.in-Made.is c.if-other-name.false c.if-size-count.false c.requires.work c.in_ok-push_pairs-in-Made-nodes.ensures.pairs

pub returns-in_ok-push_pairs-in-Made-nodes-clause-steps :
    goal.returns-in_ok-push_pairs-in-Made-nodes-clause-steps
returns-in_ok-push_pairs-in-Made-nodes-clause-steps c = (both c).0

pub returns-in_ok-push_pairs-in-Made-nodes-clause-less :
    goal.returns-in_ok-push_pairs-in-Made-nodes-clause-less
returns-in_ok-push_pairs-in-Made-nodes-clause-less c = (both c).1
