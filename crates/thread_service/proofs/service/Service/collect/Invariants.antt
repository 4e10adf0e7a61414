use Rattle.chunk_words.specs.Named.{identity_of}
use Rattle.thread_service.specs.Serving.{desk_in}
use Rattle.thread_service.proofs.service.Service.collect.Given as goal

abbrev pub ghosts-collect_at : goal.ghosts-collect_at
ghosts-collect_at a = record { table = identity_of a.table.now; desk = desk_in a.self.now }
