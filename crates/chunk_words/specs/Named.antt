-- A table by its identity, as a type can name it.
use Rattle.std.specs.Prelude.{[]}
use Rattle.atomic_table.specs.Seated.{TableId}
use Rattle.chunk_words.specs.declared.host.HostTable.{HostTable}

-- which table it is: the seats of a table know its identity
abbrev pub identity_of : HostTable → TableId
identity_of table = table.table.shared.table_id

-- the identity of no table
abbrev pub no_table : TableId
no_table = record { words = 0; slots = 0; views_name = 0; atom = 0; block = 0; offset = 0; slot_names = [] }
