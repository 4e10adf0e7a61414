use Rattle.std.proofs.Common.{◌∙◌, sym, ap}
use Rattle.chunk_plain.specs.Views.{ServiceView, asked_in}
use Rattle.chunk_words.specs.Sits.{setup_in, known_by_service}
use Rattle.thread_service.specs.Serving.{view_in}
use Rattle.thread_service.proofs.Standing.{agrees_seat}
use Rattle.thread_service.proofs.service.Service.recall.Goals as goal

pub returns-clause-serves : goal.returns-clause-serves
returns-clause-serves c = record {
  attends = c.recall.ensures.seat;
  agrees = agrees_seat (setup_in c.args.table.now) (view_in c.args.self.now) (known_by_service c.recall.new.seat) c.args.self.now.core c.recall.new.seat
      c.recall.ensures.view c.requires.serves.agrees;
  asked = c.requires.serves.asked ∙ sym (ap (λ (v : ServiceView). asked_in v.letters) c.recall.ensures.view);
}
