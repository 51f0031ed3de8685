use Rattle.std.proofs.Common.{length, ap, ◌∙◌}
use Rattle.smlserver_top.specs.Parts.{text_of}
use Rattle.smlserver_top.proofs.Steps.{run_writes}
use Rattle.smlserver_top.proofs.compile.written.Goals as goal

pub unreachable-requires : goal.unreachable-requires
unreachable-requires c =
    c.in_default.not-Halted (run_writes c.in_ok-code.code (length c.in_ok-code.code.instrs) (length c.as_slice.result.now) (text_of c.args.parts.now) c.in_ok-run.field-0 c.start-machine.result c.run.new.self c.in_ok-code.ensures.writes c.start-machine.ensures (ap length c.as_slice.ensures) c.in_ok-run.ensures).0

pub returns : goal.returns
returns c = record {
  body = c.into_body.ensures ∙ (run_writes c.in_ok-code.code (length c.in_ok-code.code.instrs) (length c.as_slice.result.now) (text_of c.args.parts.now) c.in_ok-run.field-0 c.start-machine.result c.run.new.self c.in_ok-code.ensures.writes c.start-machine.ensures (ap length c.as_slice.ensures) c.in_ok-run.ensures).1;
}
