-- The seat goes on with what the writer knew.
use Rattle.std.proofs.Common.{◌∙◌, ap}
use Rattle.chunk_words.specs.declared.seats.WriterSeat.{WriterSeat}
use Rattle.chunk_words.specs.Sits.{known_by}
use Rattle.tracesmb_c.proofs.stopping.end_writer.Goals as goal

pub returns-clause-leaves : goal.returns-clause-leaves
returns-clause-leaves c = record {
  sits = c.learn.ensures.from;
  knows = c.learn.ensures.writer ∙ ap known_by c.into_seat-seat.ensures;
  place_is = c.learn.ensures.place ∙ ap (λ (s : WriterSeat). s.place) c.into_seat-seat.ensures;
  few = c.positions_fit.ensures c.args.table.now c.requires.writes;
}

pub returns-clause-counts : goal.returns-clause-counts
returns-clause-counts c = record {
  begun_is = c.begun.ensures c.args.table.now c.requires.writes;
  dropped_is = c.dropped_at_begin.ensures c.args.table.now c.requires.writes;
}
