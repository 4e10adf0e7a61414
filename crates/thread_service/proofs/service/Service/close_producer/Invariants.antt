use Rattle.chunk_words.specs.Named.{identity_of}
use Rattle.thread_service.specs.Serving.{desk_in}
use Rattle.thread_service.proofs.service.Service.close_producer.Given as goal

abbrev pub ghosts-close_at : goal.ghosts-close_at
ghosts-close_at a = record { table = identity_of a.table.now; desk = desk_in a.self.now }
