-- A handle of a writer, while the writer is lent out of it.
use Rattle.std.specs.Prelude.{Some}
use Rattle.std.specs.Borrow.{MutBor, Lends}
use Rattle.tracesmb_c.specs.contracts.writer.OwnedWriter.{the_row as inner_row}
use Rattle.tracesmb_c.specs.contracts.writer_handle.RawWriter.{the_row as raw_row}
use base.Fml.{Fml}

-- the handle with this writer in it
abbrev pub with_writer : raw_row.Denot → inner_row.Denot → raw_row.Denot
with_writer raw writer = record raw { value = Some writer }

-- the handle has what the borrow of its writer leaves
abbrev pub raw_follows : MutBor raw_row.Denot → MutBor inner_row.Denot → Fml
raw_follows raw writer = Lends raw_row inner_row raw writer (with_writer raw.now)
