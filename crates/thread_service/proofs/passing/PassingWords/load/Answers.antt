use Rattle.std.proofs.Common.{refl, ap}
use Rattle.chunk_plain.specs.Views.{ServiceView}
use Rattle.chunk_words.specs.Sits.{known_by_service}
use Rattle.thread_service.proofs.GoingOn.{goes_nowhere}
use Rattle.thread_service.proofs.PassLemmas.{passes_further}
use Rattle.thread_service.proofs.passing.PassingWords.load.Goals as goal

pub returns-clause-step : goal.returns-clause-step
returns-clause-step g c = record {
  setup_stays = refl;
  seat_stays = passes_further g.N.Start.table g.N.Start.passed g.N.Start.view g.N.Start.desk c.args.self.now.table.now c.args.self.now.pass c.args.seat.now c.load.new.seat c.requires.seat c.load.ensures.seat c.load.ensures.desk
      (goes_nowhere (known_by_service c.args.seat.now) (known_by_service c.load.new.seat) c.load.ensures.view);
  writers_stay = λ other there. (there, refl);
  reads_stay = λ takes. takes;
  letters_stay = ap (λ (v : ServiceView). v.letters) c.load.ensures.view;
}
