use Rattle.trace_buffer_rows.proofs.StepLemmas.{goes_on, turns_to}
use Rattle.trace_buffer_rows.proofs.play.play.Goals as goal
use Rattle.trace_buffer_rows.proofs.play.play.Goals.{in-OfFirst, in-OfSecond, in_default+then-not-acts, in_default+else-not-acts}

pub loop-i-preserved : goal.loop-i-preserved
loop-i-preserved g c =
    let was = c.loop-i.buffer in let payload = c.args.setup.payload in let both = c.loop-i.invariant.both in
    record {
      both = elim c.match-step.branch [
        | in-OfFirst w ↦ turns_to was _ payload c.loop-i.sequence 2 _ w.buffer-is w.sequence-is both.first both
        | in-OfSecond w ↦ turns_to was _ payload c.loop-i.sequence 3 _ w.buffer-is w.sequence-is both.second both
        | in_default+then-not-acts w ↦ goes_on was _ _ payload c.loop-i.sequence _ w.buffer-is w.sequence-is w.acts.ensures both
        | in_default+else-not-acts w ↦ goes_on was _ _ payload c.loop-i.sequence _ w.buffer-is w.sequence-is w.acts.ensures both
      ];
    }
