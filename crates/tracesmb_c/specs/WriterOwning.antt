-- What a handle of a writer owns: the block of its box and the writer in it, or nothing.
use Rattle.std.specs.Prelude.{Option, Some, None}
use base.Fml.{Fml, ftrue}
use base.Stored.{Coded}
use denote.RawPtr.{Ptr}
use Rattle.std.specs.Coded.{coded_option}
use Rattle.std.specs.Box.Ownership.{box_owns}
use Rattle.std.specs.Global.{Global}
use Rattle.std.specs.contracts.impls.GlobalAllocator.TheImpl.{ghosts}
use Rattle.tracesmb_c.specs.contracts.writer.OwnedWriter.{the_row}

-- the memory that a handle owns where it has a writer
abbrev pub held : Global → Ptr → Option the_row.Denot → Fml
held alloc at None = ftrue
held alloc at (Some writer) = box_owns (ghosts.dealloc_token alloc) the_row at writer

-- a handle's value as it lies in memory: a writer, or none
abbrev pub held_coded : Coded (Option the_row.Denot)
held_coded = coded_option the_row.coded
