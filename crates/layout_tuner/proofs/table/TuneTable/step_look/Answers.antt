use Rattle.layout_tuner.specs.Knows.{made_of, joined_of, watch_of, collector_of}
use Rattle.layout_tuner.proofs.CollectorTurns.{looks_allowed}
use Rattle.layout_tuner.proofs.table.TuneTable.step_look.Goals as goal

pub make_load-requires-clause-allowed : goal.make_load-requires-clause-allowed
make_load-requires-clause-allowed c =
    let self = c.args.self.now in let seat = c.args.seat.now.seat in let k = seat.me.0 in
    rw (self.key, c.page_index.ensures.here, c.requires.seat.idle)
    (looks_allowed self.shape _ seat.id c.args.page c.args.place (made_of k) (joined_of k) (watch_of k) (collector_of k) c.requires.page c.requires.place)
