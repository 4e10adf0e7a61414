use Rattle.std.proofs.Common.{refl}
use Rattle.chunk_words.specs.Sits.{known_by_service}
use Rattle.thread_service.proofs.GoingOn.{goes_taking, letters_taking}
use Rattle.thread_service.proofs.PassLemmas.{passes_further}
use Rattle.thread_service.proofs.passing.PassingWords.take.Goals as goal

pub returns-clause-step : goal.returns-clause-step
returns-clause-step g c = record {
  setup_stays = refl;
  seat_stays = passes_further g.N.Start.table g.N.Start.passed g.N.Start.view g.N.Start.desk c.args.self.now.table.now c.args.self.now.pass c.args.seat.now c.take.new.seat c.requires.seat c.take.ensures.seat c.take.ensures.desk
      (goes_taking _ _ _ _ c.take.result (known_by_service c.args.seat.now) (known_by_service c.take.new.seat) c.take.ensures.taken c.take.ensures.other);
  writers_stay = λ other there. (there, refl);
  reads_stay = λ takes. takes;
  letters_stay = letters_taking _ _ _ _ c.take.result (known_by_service c.args.seat.now) (known_by_service c.take.new.seat) c.take.ensures.taken c.take.ensures.other;
}
