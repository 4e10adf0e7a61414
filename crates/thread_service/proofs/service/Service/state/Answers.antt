use Rattle.chunk_words.specs.Sits.{setup_in}
use Rattle.thread_service.specs.Serving.{view_in}
use Rattle.thread_service.proofs.service.Service.state.Goals as goal

pub state-requires-clause-agrees : goal.state-requires-clause-agrees
state-requires-clause-agrees c = record { setup = setup_in c.requires.serves.0; view = view_in c.args.self.now; agrees = c.requires.serves.1.agrees }

pub returns : goal.returns
returns c table serves = c.state.ensures (setup_in table) (view_in c.args.self.now) serves.agrees
