-- What the check answers of a packet.
use Rattle.std.specs.Prelude.{ℕ, List, Result, Ok, Err}
use Rattle.packet_check.specs.declared.fault.PacketFault.{PacketFault}
use Rattle.packet_check.specs.declared.fault.PacketFault.TheVariants.{Malformed, ReservedField}
use Rattle.packet_check.specs.Messages.{Passes, StopsAt, RefusesField}
use Rattle.trace_model.specs.Walks.{Walk, WalkPart, Between, Refused}

-- the packet has this answer: it passes, or has this first fault
abbrev pub IsAnswer : List ℕ → Result (Unit {0}) PacketFault → Type 0
IsAnswer bytes (Ok done) = Passes bytes
IsAnswer bytes (Err (Malformed at)) = StopsAt bytes at
IsAnswer bytes (Err (ReservedField number)) = RefusesField bytes number

-- what a walk says that has come to this, with its last field at `start`
abbrev pub answer_in : WalkPart → ℕ → ℕ → Result (Unit {0}) PacketFault
answer_in Between start number = Ok tt
answer_in Refused start number = Err (ReservedField number)
answer_in other start number = Err (Malformed start)

-- what a walk says of the bytes that it came over
abbrev pub answer_of : Walk → Result (Unit {0}) PacketFault
answer_of walk = answer_in walk.part walk.start walk.number

-- the walk behind so many bytes of fields that pass
abbrev pub walk_behind : ℕ → Walk
walk_behind at = record { at = at; start = 0; number = 0; part = Between }
