-- A handle of a writer may go to another thread, as the writer may.
use base.Fraction.{full_share}
use base.Shift.{Keyless}
use mir.Raw.{raw}
use denote.Exit.{Exit, unchanged, leaves, hidden, under}
use denote.Memory.{lone}
use denote.Param.Send.{IsSend, AllSend, Quiet, part_keyless, owning_send, struct_send, sendable}
use denote.RattleType.{RattleType}
use denote.RawPtr.{Ptr, block_ptr, null_ptr, lies_at}
use denote.Struct.Owning.{shape, fields, to}
use denote.Struct.Struct.{exits_of}
use Rattle.std.specs.Prelude.{Option, Some, None}
use Rattle.std.specs.Global.{Global}
use Rattle.std.proofs.Crossing as heap
use Rattle.std.proofs.alloc.Global.TheSendSync as handle
use Rattle.tracesmb_c.specs.WriterOwning.{held}
use Rattle.tracesmb_c.specs.contracts.writer.OwnedWriter as Inner
use Rattle.tracesmb_c.proofs.writer.OwnedWriter.TheSendSync.{the_send as inner}
use Rattle.tracesmb_c.specs.contracts.writer_handle.RawWriter.{the_row, the_type}

-- what an exit hides stays quiet
still : {D X : Type 0} (seen : D → X) (e : Exit X) → Quiet e → Quiet (hidden (under seen e))
still seen unchanged quiet = λ x w. tt
still seen (leaves L l S s r) quiet = λ d. quiet (seen d)

-- what lies at a pointer names no thread
at_rest : (R : RattleType) → IsSend R → (p : Ptr) (x : R.Denot) → Keyless (lies_at R full_share p x)
at_rest R sends (block_ptr block offset) x = part_keyless R sends full_share x block offset
at_rest R sends null_ptr x = tt

owned : (alloc : Global) (at : Ptr) (value : Option (Inner.the_row).Denot) → Keyless (held alloc at value)
owned alloc at None = tt
owned alloc at (Some writer) = (at_rest Inner.the_row inner at writer, heap.frees.frees alloc (raw (lone (Inner.the_row).mir)) at)

pub send : IsSend the_row
send =
    let all : AllSend (fields the_type) = (search sendable, (handle.the_field_send, tt)) in
    owning_send the_type all (λ d. owned d.alloc d.at d.value)
    (λ k. still (to the_type) (exits_of k (fields the_type)) ((struct_send (shape the_type) all).leaving k))
