-- The table of the host, the buffers of its service as they were made, and what it knows. The ledgers are those of the blanks.
use Rattle.chunk_words.specs.Named.{identity_of}
use Rattle.chunk_words.specs.Sits.{setup_in}
use Rattle.service_core.specs.Agreement.{first_of}
use Rattle.thread_service.specs.Serving.{core_of, view_in}
use Rattle.thread_host.proofs.host.Host.run_jobs.Given as goal

abbrev pub ghosts-run_named-N-HostName : goal.ghosts-run_named-N-HostName
ghosts-run_named-N-HostName g a = record {
  table = identity_of a.table.now;
  setup = setup_in a.table.now;
  first = first_of (setup_in a.table.now) (core_of a.service);
  start = view_in a.service;
  lines = a.lines.now;
  all = a.turns.parts;
}

abbrev pub ghosts-run_named-N-Ledger : goal.ghosts-run_named-N-Ledger
ghosts-run_named-N-Ledger g a = record { name = a.turns.name; parts = a.turns.parts }

abbrev pub ghosts-run_named-K-Ledger : goal.ghosts-run_named-K-Ledger
ghosts-run_named-K-Ledger g a = record { name = a.readings.name; parts = a.readings.parts }
