use Rattle.layout_tuner.specs.Knows.{made_of, joined_of, watch_of, collector_of}
use Rattle.layout_tuner.proofs.CollectorTurns.{takes_allowed}
use Rattle.layout_tuner.proofs.table.TuneTable.step_take.Goals as goal

pub make_and-requires-clause-allowed : goal.make_and-requires-clause-allowed
make_and-requires-clause-allowed c =
    let self = c.args.self.now in let seat = c.args.seat.now.seat in let k = seat.me.0 in
    rw (self.key, c.page_index.ensures.here, c.requires.seat.idle)
    (takes_allowed self.shape _ seat.id c.args.page c.args.place c.take_mask.result (made_of k) (joined_of k) (watch_of k) (collector_of k) c.requires.page c.requires.place c.requires.watch
    c.take_mask.ensures.bits)
