-- Bytes that wait to be handed out.
use Rattle.std.specs.Prelude.{ℕ, List, drop}
use Rattle.tracesmb_c.specs.declared.waiting.Waiting.{Waiting}

-- all that was read
abbrev pub bytes_in : Waiting → List ℕ
bytes_in waiting = waiting.read.bytes.items

-- what wasn't handed out
abbrev pub left_in : Waiting → List ℕ
left_in waiting = drop waiting.handed waiting.read.bytes.items
