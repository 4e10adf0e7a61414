use Rattle.trace_writer.proofs.claims.QuietRows.{quiet_both}
use Rattle.trace_writer.proofs.claims.QuietSteps.{quiet_noted}
use Rattle.trace_writer.proofs.field.go_on.Goals as goal

pub returns-in-Going-clause-quiet : goal.returns-in-Going-clause-quiet
returns-in-Going-clause-quiet g c =
    quiet_noted g.W.Words.means
    c.args.table.now c.args.seat.now c.note_call.new.self c.note_call.new.seat _ _ c.note_call.ensures.step c.note_call.ensures.view c.note_call.ensures.told

pub returns-in-Drops-clause-quiet : goal.returns-in-Drops-clause-quiet
returns-in-Drops-clause-quiet g c =
    quiet_both g.W.Words.means
    c.args.table.now c.args.seat.now c.note_call.new.self c.note_call.new.seat c.note_call-in-Drops.new.self c.note_call-in-Drops.new.seat
    (quiet_noted g.W.Words.means
    c.args.table.now c.args.seat.now c.note_call.new.self c.note_call.new.seat _ _ c.note_call.ensures.step c.note_call.ensures.view c.note_call.ensures.told)
    (quiet_noted g.W.Words.means
    c.note_call.new.self c.note_call.new.seat c.note_call-in-Drops.new.self c.note_call-in-Drops.new.seat _ _ c.note_call-in-Drops.ensures.step c.note_call-in-Drops.ensures.view c.note_call-in-Drops.ensures.told)

pub returns-in-Stalls-clause-quiet : goal.returns-in-Stalls-clause-quiet
returns-in-Stalls-clause-quiet g c =
    quiet_noted g.W.Words.means
    c.args.table.now c.args.seat.now c.note_call.new.self c.note_call.new.seat _ _ c.note_call.ensures.step c.note_call.ensures.view c.note_call.ensures.told

pub returns-in-StallsThenDrops-clause-quiet : goal.returns-in-StallsThenDrops-clause-quiet
returns-in-StallsThenDrops-clause-quiet g c =
    quiet_both g.W.Words.means
    c.args.table.now c.args.seat.now c.note_call.new.self c.note_call.new.seat c.note_call-in-StallsThenDrops.new.self c.note_call-in-StallsThenDrops.new.seat
    (quiet_noted g.W.Words.means
    c.args.table.now c.args.seat.now c.note_call.new.self c.note_call.new.seat _ _ c.note_call.ensures.step c.note_call.ensures.view c.note_call.ensures.told)
    (quiet_noted g.W.Words.means
    c.note_call.new.self c.note_call.new.seat c.note_call-in-StallsThenDrops.new.self c.note_call-in-StallsThenDrops.new.seat _ _ c.note_call-in-StallsThenDrops.ensures.step c.note_call-in-StallsThenDrops.ensures.view c.note_call-in-StallsThenDrops.ensures.told)
