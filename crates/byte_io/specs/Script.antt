-- What the scripted sources and sinks hold.
use Rattle.std.specs.Prelude.{ℕ, List}
use Rattle.byte_io.specs.Memory.{mem_source_left, mem_sink_taken, mem_sink_room}
use Rattle.byte_io.specs.declared.script.ScriptSource.{ScriptSource}
use Rattle.byte_io.specs.declared.script.ScriptSink.{ScriptSink}

-- the bytes that the source has still to give
abbrev pub script_source_left : ScriptSource → List ℕ
script_source_left source = mem_source_left source.bytes

-- how many bytes the source gives at most in a call
abbrev pub script_source_piece : ScriptSource → ℕ
script_source_piece source = source.piece

-- the numbers of the calls that fail
abbrev pub script_source_failing : ScriptSource → List ℕ
script_source_failing source = source.script.failing.items

-- how many calls there were
abbrev pub script_source_calls : ScriptSource → ℕ
script_source_calls source = source.script.calls

-- how many of them failed
abbrev pub script_source_faults : ScriptSource → ℕ
script_source_faults source = source.faults

-- the bytes that the sink has taken
abbrev pub script_sink_taken : ScriptSink → List ℕ
script_sink_taken sink = mem_sink_taken sink.bytes

-- how many bytes the sink takes in all
abbrev pub script_sink_room : ScriptSink → ℕ
script_sink_room sink = mem_sink_room sink.bytes

-- the numbers of the calls that fail
abbrev pub script_sink_failing : ScriptSink → List ℕ
script_sink_failing sink = sink.script.failing.items

-- how many calls there were
abbrev pub script_sink_calls : ScriptSink → ℕ
script_sink_calls sink = sink.script.calls

-- how many of them failed
abbrev pub script_sink_faults : ScriptSink → ℕ
script_sink_faults sink = sink.faults
