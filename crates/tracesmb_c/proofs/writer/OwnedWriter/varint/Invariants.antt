-- The ledger is that of the blank.
use Rattle.tracesmb_c.proofs.writer.OwnedWriter.varint.Given as goal

abbrev pub ghosts-varint_at : goal.ghosts-varint_at
ghosts-varint_at a = record { name = a.blank.name; parts = a.blank.parts }
