-- What contracts see of a head.
use Rattle.std.specs.Prelude.{ℕ, List}
use Rattle.proto_stream.specs.declared.head.Head.{Head}

-- its bytes
abbrev pub head_of : Head → List ℕ
head_of head = head.bytes.items
