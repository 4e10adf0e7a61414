-- The ledger is that of the blank, and the chunks that are taken are those of the writer's own producer.
use Rattle.chunk_plain.specs.Setup.{producer_of}
use Rattle.thread_host.proofs.running.counted_job.Given as goal

abbrev pub ghosts-job_on-K-TakingsName : goal.ghosts-job_on-K-TakingsName
ghosts-job_on-K-TakingsName g a = record { producer = producer_of g.N.HostName.setup a.place }

abbrev pub ghosts-job_on-K-Ledger : goal.ghosts-job_on-K-Ledger
ghosts-job_on-K-Ledger g a = record { name = a.takings.name; parts = a.takings.parts }
