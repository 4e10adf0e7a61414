-- The ledger is that of the blank.
use Rattle.tracesmb_c.proofs.writer.OwnedWriter.begin_nested.Given as goal

abbrev pub ghosts-begin_nested_at : goal.ghosts-begin_nested_at
ghosts-begin_nested_at a = record { name = a.blank.name; parts = a.blank.parts }
