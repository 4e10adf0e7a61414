-- Statements of the laws about the definitions.
use Rattle.std.specs.Prelude.{ℕ, Bool, true, false, List, [], ◌∷◌}
use Rattle.trace_model.specs.Record.{record_of}
use Rattle.trace_model.specs.Tells.{Tells}

-- the records of all packets in order, of which the first is marked where `first`
abbrev pub all_records : ℕ → Bool → List (List ℕ) → List (List ℕ)
all_records sequence first [] = []
all_records sequence first (packet ∷ others) = record_of packet sequence first ∷ all_records sequence false others

-- a sequence of which no packet is missing is told by all records, the first alone marked
abbrev pub AllRecordsTell : Type 0
AllRecordsTell = (emitted : List (List ℕ)) (sequence : ℕ) → Tells emitted sequence (all_records sequence true emitted)
