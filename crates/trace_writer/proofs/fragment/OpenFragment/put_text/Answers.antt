use Rattle.std.proofs.Common.{◌+◌, ◌*◌, ◌≤◌, length, arith}
use Rattle.std.specs.Prelude.{vec_len}
use Rattle.trace_writer.proofs.packets.InPlace.{put_all, put_again, turn_next, turn_fits}
use Rattle.trace_writer.proofs.fragment.OpenFragment.put_text.Goals as goal

pub loop-turn-preserved : goal.loop-turn-preserved
loop-turn-preserved c =
    let old = c.args.self.now in let now = c.loop-turn.self in let piece = c.args.text.now in
    let fits : old.at + c.loop-turn._turn * length piece + length piece ≤ vec_len old.held.body.payload =
    turn_fits old.at c.loop-turn._turn c.args.times (length piece) (vec_len old.held.body.payload) c.loop-turn-test.true c.requires in
    let fits_now : now.at + length piece ≤ vec_len now.held.body.payload = omega (arith, c.loop-turn.invariant.at, c.loop-turn.invariant.puts.same.len) in
    record {
      puts = put_again old now c.put.new.self piece c.loop-turn._turn fits c.loop-turn.invariant.at c.loop-turn.invariant.puts
          (put_all now c.put.new.self piece c.put.result c.put.ensures.count fits_now c.put.ensures.bytes);
      at = omega (arith, c.put.ensures.at, c.put.ensures.count, fits_now, c.loop-turn.invariant.at, turn_next c.loop-turn._turn (length piece));
    }
