use Rattle.std.proofs.Common.{◌∙◌, arith}
use Rattle.emitted_packets.proofs.EmitLemmas.{filled_up}
use Rattle.emitted_packets.proofs.emitter.push_run.Goals as goal

pub returns : goal.returns
returns c =
    c.in_ok-resize.ensures.items
    ∙ filled_up c.args.bytes.now.items _ _ c.args.times c.args.byte (omega (arith, c.len.ensures, c.args.bytes.now.ok.0)) (omega (arith, c.len.ensures, c.args.bytes.now.ok.0))
