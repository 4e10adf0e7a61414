-- Frame by frame up to the first one that closes, or that is none.
use Rattle.std.proofs.Common.{◌∙◌, sym, arith}
use Rattle.stream_frames.specs.Framing.{Short, Bad, Whole}
use Rattle.stream_frames.specs.Values.{limits_value, frame_value}
use Rattle.stream_frames.proofs.CheckLemmas.{stands_short, stands_bad, stands_within, stands_next, stands_closed, rest_front}
use Rattle.stream_frames.proofs.check.end_of_frames.Goals as goal

pub returns-in-Short-clause-fault : goal.returns-in-Short-clause-fault
returns-in-Short-clause-fault c = stands_short _ _ _ c.loop-offset.invariant (rest_front (limits_value c.args.limits.now) c.args.stream.now c.loop-offset.at Short c.in-Short.ensures.front)

pub returns-in-Bad-clause-fault : goal.returns-in-Bad-clause-fault
returns-in-Bad-clause-fault c = stands_bad _ _ _ c.loop-offset.invariant (rest_front (limits_value c.args.limits.now) c.args.stream.now c.loop-offset.at Bad c.in-Bad.ensures.front)

pub overflow_add-at : goal.overflow_add-at
overflow_add-at c =
    let w = stands_within (limits_value c.args.limits.now) c.args.stream.now c.loop-offset.at (frame_value c.in-Whole.frame) c.in-Whole.size c.loop-offset.invariant (rest_front (limits_value c.args.limits.now) c.args.stream.now c.loop-offset.at (Whole (frame_value c.in-Whole.frame) c.in-Whole.size) c.in-Whole.ensures.front) in
    omega (arith, w.1)

pub returns-then-closes-clause-ends : goal.returns-then-closes-clause-ends
returns-then-closes-clause-ends c =
    let limits = limits_value c.args.limits.now in
    let is = rest_front limits c.args.stream.now c.loop-offset.at (Whole (frame_value c.in-Whole.frame) c.in-Whole.size) c.in-Whole.ensures.front in
    let frame = frame_value c.in-Whole.frame in (
      (stands_within limits c.args.stream.now c.loop-offset.at frame c.in-Whole.size c.loop-offset.invariant is).1,
      stands_closed limits c.args.stream.now c.loop-offset.at frame c.in-Whole.size c.loop-offset.invariant is (sym c.closes.ensures ∙ c.if-closes.true),
    )

pub loop-offset-smaller : goal.loop-offset-smaller
loop-offset-smaller c =
    let w = stands_within (limits_value c.args.limits.now) c.args.stream.now c.loop-offset.at (frame_value c.in-Whole.frame) c.in-Whole.size c.loop-offset.invariant (rest_front (limits_value c.args.limits.now) c.args.stream.now c.loop-offset.at (Whole (frame_value c.in-Whole.frame) c.in-Whole.size) c.in-Whole.ensures.front) in
    omega (arith, w.0, w.1)

pub loop-offset-preserved : goal.loop-offset-preserved
loop-offset-preserved c =
    stands_next (limits_value c.args.limits.now) c.args.stream.now c.loop-offset.at (frame_value c.in-Whole.frame) c.in-Whole.size c.loop-offset.invariant
    (rest_front (limits_value c.args.limits.now) c.args.stream.now c.loop-offset.at (Whole (frame_value c.in-Whole.frame) c.in-Whole.size) c.in-Whole.ensures.front) (sym c.closes.ensures ∙ c.if-closes.false)
