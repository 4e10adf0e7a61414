-- What contracts see of a cursor.
use Rattle.std.specs.Prelude.{ℕ, List}
use Rattle.std.specs.Borrow.{MutBor}
use Rattle.proto_stream.specs.declared.cursor.ChunkCursor.{ChunkCursor}

-- the borrow of the payload that it writes into
abbrev pub cursor_payload : ChunkCursor → MutBor (List ℕ)
cursor_payload cursor = cursor.payload

-- the place of the next byte
abbrev pub cursor_at : ChunkCursor → ℕ
cursor_at cursor = cursor.at
