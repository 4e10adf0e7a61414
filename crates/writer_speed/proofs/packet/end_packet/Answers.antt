use Rattle.std.proofs.Common.{arith}
use Rattle.writer_speed.proofs.GoingLemmas.{never_stalled, goes_once, goes_further}
use Rattle.writer_speed.proofs.packet.end_packet.Goals as goal

pub messages-smaller : goal.messages-smaller
messages-smaller g c =
    let going = never_stalled g.W.Words.means
    c.drops_never_stall.ensures c.messages.table c.messages.writer c.messages.invariant.goes.ready in
    let falls = c.end_nested.ensures.depth_falls going in
    omega (arith, falls)

pub messages-preserved : goal.messages-preserved
messages-preserved g c =
    record {
      goes = goes_further g.W.Words.means
          c.args.table.now c.args.writer.now c.messages.table c.messages.writer c.end_nested.new.table c.end_nested.new.self c.messages.invariant.goes
          (goes_once g.W.Words.means
          c.messages.table c.messages.writer c.end_nested.new.table c.end_nested.new.self c.messages.invariant.goes.ready.drops
          c.end_nested.ensures.call.route c.end_nested.ensures.call.agrees c.end_nested.ensures.call.quiet.step);
      inside = c.end_nested.ensures.in_packet;
    }
