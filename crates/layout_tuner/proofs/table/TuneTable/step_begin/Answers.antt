use Rattle.layout_tuner.specs.Knows.{view_of}
use Rattle.layout_tuner.proofs.UserTurns.{begins_allowed}
use Rattle.layout_tuner.proofs.table.TuneTable.step_begin.Goals as goal

pub make_or-requires-clause-allowed : goal.make_or-requires-clause-allowed
make_or-requires-clause-allowed c =
    let self = c.args.self.now in let seat = c.args.seat.now in let has = c.requires.claimed in
    rw (self.key, c.page_index.ensures.here, c.requires.seat.idle)
    (begins_allowed self.shape _ seat.seat.id seat.number c.args.page c.args.place c.begin_mask.result (view_of seat.seat.me.0) has.page_in has.place_in has.claimed c.begin_mask.ensures.bits)
