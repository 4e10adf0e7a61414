use Rattle.layout_tuner.specs.Knows.{view_of}
use Rattle.layout_tuner.proofs.UserTurns.{retiles_allowed}
use Rattle.layout_tuner.proofs.table.TuneTable.step_retile.Goals as goal

pub make_store-requires-clause-allowed : goal.make_store-requires-clause-allowed
make_store-requires-clause-allowed c =
    let self = c.args.self.now in let seat = c.args.seat.now in
    rw (self.key, c.page_index.ensures.here, c.requires.seat.idle, c.chunk_count.ensures.is)
    (retiles_allowed self.shape _ seat.seat.id seat.number c.args.page c.args.old_layout c.args.old_generation c.args.layout c.tiled_word.result (view_of seat.seat.me.0) c.requires.page.inside c.requires.has
    c.requires.page.least c.requires.page.most c.tiled_word.ensures)
