use Rattle.layout_tuner.specs.Knows.{view_of}
use Rattle.layout_tuner.proofs.UserTurns.{tests_allowed}
use Rattle.layout_tuner.proofs.table.TuneTable.step_test.Goals as goal

pub make_load-requires-clause-allowed : goal.make_load-requires-clause-allowed
make_load-requires-clause-allowed c =
    let self = c.args.self.now in let seat = c.args.seat.now in
    rw (self.key, c.page_index.ensures.here, c.requires.seat.idle)
    (tests_allowed self.shape _ seat.seat.id seat.number c.args.page c.args.place (view_of seat.seat.me.0) c.requires.page c.requires.place)
