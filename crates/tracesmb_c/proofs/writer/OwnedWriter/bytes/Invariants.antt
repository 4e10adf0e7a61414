-- The ledger is that of the blank.
use Rattle.tracesmb_c.proofs.writer.OwnedWriter.bytes.Given as goal

abbrev pub ghosts-bytes_at : goal.ghosts-bytes_at
ghosts-bytes_at a = record { name = a.blank.name; parts = a.blank.parts }
