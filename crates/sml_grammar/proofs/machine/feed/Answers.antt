use Rattle.std.proofs.Common.{sym, ◌∙◌, ap}
use Rattle.std.specs.Prelude.{option_copied}
use Rattle.sml_grammar.specs.Machine.{feed}
use Rattle.sml_grammar.proofs.Feeding.{after, feed_step, feed_none}
use Rattle.sml_grammar.proofs.machine.feed.Goals as goal

pub returns-in-Takes : goal.returns-in-Takes
returns-in-Takes c =
    sym c.loop-symbol.invariant
    ∙ feed_step (option_copied c.args.token) c.loop-symbol.stack c.pop.new.self c.meet.new.stack c.in-Some.symbol c.in_ok-meet.field-0 c.args.to c.loop-symbol.acts.items c.in-Some.ensures c.in_ok-meet.ensures
    ∙ ap (λ f. after f (option_copied c.args.token) c.meet.new.stack c.args.to c.loop-symbol.acts.items) c.in-Takes.is

pub loop-symbol-preserved-in-Skips : goal.loop-symbol-preserved-in-Skips
loop-symbol-preserved-in-Skips c =
    sym (feed_step (option_copied c.args.token) c.loop-symbol.stack c.pop.new.self c.meet.new.stack c.in-Some.symbol c.in_ok-meet.field-0 c.args.to c.loop-symbol.acts.items c.in-Some.ensures c.in_ok-meet.ensures
    ∙ ap (λ f. after f (option_copied c.args.token) c.meet.new.stack c.args.to c.loop-symbol.acts.items) c.in-Skips.is)
    ∙ c.loop-symbol.invariant

pub loop-symbol-preserved : goal.loop-symbol-preserved
loop-symbol-preserved c =
    ap (λ acts. feed (option_copied c.args.token) c.meet.new.stack c.args.to acts) c.in_ok-push-in-Acts.ensures.items
    ∙ sym (feed_step (option_copied c.args.token) c.loop-symbol.stack c.pop.new.self c.meet.new.stack c.in-Some.symbol c.in_ok-meet.field-0 c.args.to c.loop-symbol.acts.items c.in-Some.ensures c.in_ok-meet.ensures
    ∙ ap (λ f. after f (option_copied c.args.token) c.meet.new.stack c.args.to c.loop-symbol.acts.items) c.in-Acts.is)
    ∙ c.loop-symbol.invariant

pub returns-in-Fails : goal.returns-in-Fails
returns-in-Fails c =
    sym c.loop-symbol.invariant
    ∙ feed_step (option_copied c.args.token) c.loop-symbol.stack c.pop.new.self c.meet.new.stack c.in-Some.symbol c.in_ok-meet.field-0 c.args.to c.loop-symbol.acts.items c.in-Some.ensures c.in_ok-meet.ensures
    ∙ ap (λ f. after f (option_copied c.args.token) c.meet.new.stack c.args.to c.loop-symbol.acts.items) c.in-Fails.is

pub returns : goal.returns
returns c = sym c.loop-symbol.invariant ∙ feed_none (option_copied c.args.token) c.loop-symbol.stack c.args.to c.loop-symbol.acts.items c.in_default.ensures
