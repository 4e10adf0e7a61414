-- What the lines before one have set up and done.
use Rattle.std.specs.Prelude.{ℕ, Bool, false, List, [], Option, Some, None, nat_lt, length}
use Rattle.std.specs.Option.{unwrap_or}
use Rattle.trace_base.specs.declared.policy.WriterSpec.{WriterSpec}
use Rattle.trace_base.specs.declared.numeral.Numeral.{Numeral}
use Rattle.scenario_text.specs.declared.scenario.BufferLine.{BufferLine}
use Rattle.scenario_text.specs.declared.scenario.ProducerLine.{ProducerLine}
use Rattle.scenario_text.specs.declared.scenario.NumberedLine.{NumberedLine}
use Rattle.scenario_text.specs.declared.open_packet.OpenPacket.{OpenPacket}
use Rattle.scenario_text.specs.Items.{item}

-- The scenario so far; of each producer whether it is closed, and of each writer the packet that is begun, if one is;
-- and the sum of the lengths of all packets, and how many clones of buffers are asked for.
pub record State : Type 0 where
  pub buffers : List BufferLine
  pub producers : List ProducerLine
  pub writers : List WriterSpec
  pub lines : List NumberedLine
  pub closed : List Bool
  pub packets : List (Option OpenPacket)
  pub bytes : ℕ
  pub clones : ℕ

-- where every scenario starts
abbrev pub beginning : State
beginning = record { buffers = []; producers = []; writers = []; lines = []; closed = []; packets = []; bytes = 0; clones = 0 }

-- some line isn't a set-up line
abbrev pub is_played : State → Bool
is_played state = nat_lt 0 (length state.lines)

-- the producer is closed
unfoldable pub is_closed : State → Numeral → Bool
is_closed state producer = unwrap_or (item state.closed producer) false

-- the packet that the writer has begun
unfoldable pub packet_of : State → Numeral → Option OpenPacket
packet_of state writer = unwrap_or (item state.packets writer) None

-- how many nested messages are open in it
unfoldable pub nesting_of : Option OpenPacket → ℕ
nesting_of None = 0
nesting_of (Some packet) = packet.depth

-- how long it is so far
unfoldable pub len_of : Option OpenPacket → ℕ
len_of None = 0
len_of (Some packet) = packet.len
