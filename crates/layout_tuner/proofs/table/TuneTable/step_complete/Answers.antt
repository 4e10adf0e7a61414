use Rattle.layout_tuner.specs.Knows.{view_of}
use Rattle.layout_tuner.proofs.UserTurns.{completes_allowed}
use Rattle.layout_tuner.proofs.table.TuneTable.step_complete.Goals as goal

pub make_or-requires-clause-allowed : goal.make_or-requires-clause-allowed
make_or-requires-clause-allowed c =
    let self = c.args.self.now in let seat = c.args.seat.now in let has = c.requires.held in
    rw (self.key, c.page_index.ensures.here, c.requires.seat.idle)
    (completes_allowed self.shape _ seat.seat.id seat.number c.args.page c.args.place c.complete_mask.result (view_of seat.seat.me.0) has.page_in has.place_in has.held c.complete_mask.ensures.bits)
