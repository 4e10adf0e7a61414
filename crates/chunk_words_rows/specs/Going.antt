-- Writers of the page that drop packets, and what the service takes of them.
use Rattle.std.specs.Prelude.{◌≡◌, ◌≢◌, ℕ, ◌+◌, []}
use Rattle.trace_base.specs.declared.policy.WriterPolicy.TheVariants.{Drops}
use Rattle.chunk_plain.specs.Views.{taken_of}
use Rattle.chunk_plain.specs.Words.{AllArrived}
use Rattle.chunk_words.specs.declared.host.HostTable.{HostTable}
use Rattle.chunk_words.specs.declared.seats.ServiceSeat.{ServiceSeat}
use Rattle.chunk_words.specs.Knows.{service_of}
use Rattle.trace_writer.specs.Core.{route_of}
use Rattle.thread_writer.specs.declared.writer.TraceWriter.{TraceWriter}
use Rattle.thread_writer.specs.Writing.{core_of, Writes}

-- the writer is one of the table and drops packets where no chunk is free: so it never stalls
pub record IsReady (table : HostTable) (writer : TraceWriter) : Type 0 where
  pub writes : Writes table writer
  pub drops : (route_of (core_of writer)).spec.policy ≡ Drops

-- the service took one chunk more of the writer at this place, noted that it arrived, and let it go
pub record TakesOne (place : ℕ) (old new : ServiceSeat) : Type 0 where
  pub more : (taken_of (service_of new.seat.me.0) place).count ≡ (taken_of (service_of old.seat.me.0) place).count + 1
  pub others : (other : ℕ) → other ≢ place → (taken_of (service_of new.seat.me.0) other).count ≡ (taken_of (service_of old.seat.me.0) other).count
  pub none_out : (service_of new.seat.me.0).reading ≡ []
  pub arrived : AllArrived (service_of new.seat.me.0)

-- it took none
pub record TakesNone (old new : ServiceSeat) : Type 0 where
  pub all : (place : ℕ) → (taken_of (service_of new.seat.me.0) place).count ≡ (taken_of (service_of old.seat.me.0) place).count
  pub none_out : (service_of new.seat.me.0).reading ≡ []
  pub arrived : AllArrived (service_of new.seat.me.0)
