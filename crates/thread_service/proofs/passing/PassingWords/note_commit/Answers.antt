use Rattle.std.proofs.Common.{refl, ap}
use Rattle.chunk_plain.specs.Views.{ServiceView}
use Rattle.chunk_words.specs.Sits.{known_by_service}
use Rattle.thread_service.proofs.GoingOn.{goes_committing}
use Rattle.thread_service.proofs.PassLemmas.{passes_further}
use Rattle.thread_service.proofs.passing.PassingWords.note_commit.Goals as goal

pub returns-clause-step : goal.returns-clause-step
returns-clause-step g c = record {
  setup_stays = refl;
  seat_stays = passes_further g.N.Start.table g.N.Start.passed g.N.Start.view g.N.Start.desk c.args.self.now.table.now c.args.self.now.pass c.args.seat.now c.note_commit.new.seat c.requires c.note_commit.ensures.seat c.note_commit.ensures.desk
      (goes_committing _ (known_by_service c.args.seat.now) (known_by_service c.note_commit.new.seat) c.note_commit.ensures.view);
  writers_stay = λ other there. (there, refl);
  reads_stay = λ takes. takes;
  letters_stay = ap (λ (v : ServiceView). v.letters) c.note_commit.ensures.view;
}
