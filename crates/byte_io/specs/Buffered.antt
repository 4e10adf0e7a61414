-- What waits in a buffered sink, and on what it stands.
use Rattle.std.specs.Prelude.{ℕ, List, take, drop}
use Rattle.std.specs.Borrow.{MutBor}
use Rattle.byte_io.specs.Bytes.{Loan, Intake, after_told, lent_by, told_bytes}
use Rattle.byte_io.specs.declared.traits.Sink.{Ghosts}
use Rattle.byte_io.specs.declared.buffered.PendingBytes.{PendingBytes}
use Rattle.byte_io.specs.declared.buffered.BufferedSink.{BufferedSink}

-- the bytes that were accepted and not passed on yet
abbrev pub pending_bytes : PendingBytes → List ℕ
pending_bytes pending = drop pending.passed (take pending.filled pending.bytes.items)

-- how many bytes stand in the room, passed on or not
abbrev pub pending_count : PendingBytes → ℕ
pending_count pending = pending.filled

module _ {O : Type 0} {members : Ghosts O} where
  -- the borrow of the sink behind a buffered one
  abbrev pub buffered_inner : BufferedSink O members → MutBor O
  buffered_inner sink = sink.inner

  -- the borrow of the bytes that wait
  abbrev pub buffered_pending : BufferedSink O members → MutBor PendingBytes
  buffered_pending sink = sink.pending

  -- on which loan a buffered sink hands its bytes on
  abbrev pub buffered_loan : BufferedSink O members → Loan
  buffered_loan sink = record { inner = sink.inner.ghost_name; pending = sink.pending.ghost_name; start = told_bytes (members.taken sink.start.value) }

  -- what a buffered sink has taken: what the sink behind it has, and then what waits
  abbrev pub buffered_intake : BufferedSink O members → Intake
  buffered_intake sink = lent_by (buffered_loan sink) (after_told (members.taken sink.inner.now) (pending_bytes sink.pending.now))
