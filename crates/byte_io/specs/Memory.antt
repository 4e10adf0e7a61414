-- What the sources and sinks in memory hold.
use Rattle.std.specs.Prelude.{ℕ, List, drop}
use Rattle.byte_io.specs.declared.memory.MemSource.{MemSource}
use Rattle.byte_io.specs.declared.memory.MemSink.{MemSink}

-- the bytes that the source has still to give
abbrev pub mem_source_left : MemSource → List ℕ
mem_source_left source = drop source.at source.bytes.items

-- the bytes that the sink has taken
abbrev pub mem_sink_taken : MemSink → List ℕ
mem_sink_taken sink = sink.taken.items

-- how many bytes the sink takes in all
abbrev pub mem_sink_room : MemSink → ℕ
mem_sink_room sink = sink.room

-- how many writes to the sink failed
abbrev pub mem_sink_faults : MemSink → ℕ
mem_sink_faults sink = sink.faults
