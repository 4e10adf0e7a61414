use Rattle.chunk_words.specs.Sits.{setup_in}
use Rattle.thread_service.specs.Serving.{view_in}
use Rattle.thread_service.proofs.service.Service.answered.Goals as goal

pub answered-requires : goal.answered-requires
answered-requires c = record { setup = setup_in c.requires.0; view = view_in c.args.self.now; agrees = c.requires.1.agrees }
