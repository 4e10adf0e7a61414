use Rattle.chunk_words.specs.Named.{identity_of}
use Rattle.chunk_words.specs.Sits.{known_by_pass}
use Rattle.thread_service.specs.Serving.{view_in, desk_in}
use Rattle.thread_service.proofs.service.Service.read_passing.Given as goal

abbrev pub ghosts-read_at : goal.ghosts-read_at
ghosts-read_at g a = record { table = identity_of a.table.now; passed = known_by_pass a.pass.now; view = view_in a.self.now; desk = desk_in a.self.now }
