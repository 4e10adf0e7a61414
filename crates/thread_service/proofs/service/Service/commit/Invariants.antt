use Rattle.chunk_words.specs.Named.{identity_of}
use Rattle.thread_service.specs.Serving.{desk_in}
use Rattle.thread_service.proofs.service.Service.commit.Given as goal

abbrev pub ghosts-commit_at : goal.ghosts-commit_at
ghosts-commit_at a = record { table = identity_of a.table.now; desk = desk_in a.self.now }
