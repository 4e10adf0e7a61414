-- Writers between two packets, or inside one.
use Rattle.std.specs.Prelude.{◌≡◌}
use Rattle.trace_base.specs.declared.policy.WriterPolicy.TheVariants.{Drops}
use Rattle.chunk_words.specs.declared.host.HostTable.{HostTable}
use Rattle.trace_writer.specs.Core.{route_of}
use Rattle.thread_writer.specs.declared.writer.TraceWriter.{TraceWriter}
use Rattle.thread_writer.specs.Writing.{core_of, Writes}

-- the writer is one of the table and drops packets where no chunk is free: so it never stalls
pub record IsReady (table : HostTable) (writer : TraceWriter) : Type 0 where
  pub writes : Writes table writer
  pub drops : (route_of (core_of writer)).spec.policy ≡ Drops
