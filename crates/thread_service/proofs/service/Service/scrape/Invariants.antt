use Rattle.chunk_words.specs.Named.{identity_of}
use Rattle.thread_service.specs.Serving.{desk_in}
use Rattle.thread_service.proofs.service.Service.scrape.Given as goal

abbrev pub ghosts-scrape_at : goal.ghosts-scrape_at
ghosts-scrape_at a = record { table = identity_of a.table.now; desk = desk_in a.self.now }
