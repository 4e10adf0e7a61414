-- A table that is lent to a writer.
use Rattle.std.specs.Borrow.{Bor}
use Rattle.chunk_words.specs.declared.host.HostTable.{HostTable}
use Rattle.chunk_words.specs.declared.shared.Shared.{Shared}

-- the table as it is lent to one thread
abbrev pub lent : Bor HostTable → Shared
lent table = record { table = table }
