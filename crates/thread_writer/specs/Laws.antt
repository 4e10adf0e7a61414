-- A law on the writers of threads.
use Rattle.chunk_words.specs.declared.host.HostTable.{HostTable}
use Rattle.trace_writer.specs.Core.{route_of}
use Rattle.trace_writer.specs.Outcomes.{images_so_far, patches_so_far, held_images, HasCut}
use Rattle.thread_writer.specs.declared.writer.TraceWriter.{TraceWriter}
use Rattle.thread_writer.specs.Writing.{core_of, view_in, Writes}
use Rattle.std.specs.Prelude.{◌+◌}

-- After any calls a writer has cut its packets into its chunks; where it holds none, the last one runs on exactly where its newest packet
-- goes on.
abbrev pub ThreadWriterIsCut : Type 0
ThreadWriterIsCut = (table : HostTable) (writer : TraceWriter) → Writes table writer
    → let core = core_of writer in let place = core.seat.place in
    HasCut (route_of core).payload_size (place + 2) (view_in writer).calls (images_so_far place (view_in writer) core.writer)
    (patches_so_far (view_in writer) core.writer) (held_images place core.writer.state)
