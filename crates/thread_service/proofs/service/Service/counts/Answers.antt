use Rattle.chunk_words.specs.Sits.{setup_in}
use Rattle.thread_service.specs.Serving.{view_in}
use Rattle.thread_service.proofs.service.Service.counts.Goals as goal

pub counts-requires-clause-agrees : goal.counts-requires-clause-agrees
counts-requires-clause-agrees c = record { setup = setup_in c.requires.serves.0; view = view_in c.args.self.now; agrees = c.requires.serves.1.agrees }

pub returns : goal.returns
returns c table serves = c.counts.ensures (setup_in table) (view_in c.args.self.now) serves.agrees
