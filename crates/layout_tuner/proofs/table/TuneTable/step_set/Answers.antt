use Rattle.layout_tuner.specs.Knows.{view_of}
use Rattle.layout_tuner.proofs.UserTurns.{claims_allowed}
use Rattle.layout_tuner.proofs.table.TuneTable.step_set.Goals as goal

pub make_or-requires-clause-allowed : goal.make_or-requires-clause-allowed
make_or-requires-clause-allowed c =
    let self = c.args.self.now in let seat = c.args.seat.now in
    rw (self.key, c.page_index.ensures.here, c.requires.seat.idle)
    (claims_allowed self.shape _ seat.seat.id seat.number c.args.page c.args.place c.claim_bit.result (view_of seat.seat.me.0) c.requires.page c.requires.place c.claim_bit.ensures)
