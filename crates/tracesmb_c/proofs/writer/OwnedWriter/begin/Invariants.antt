-- The ledger is that of the blank.
use Rattle.tracesmb_c.proofs.writer.OwnedWriter.begin.Given as goal

abbrev pub ghosts-begin_at : goal.ghosts-begin_at
ghosts-begin_at a = record { name = a.blank.name; parts = a.blank.parts }
