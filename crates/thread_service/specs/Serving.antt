-- The service of a table that threads share, as its callers see it: by the view of its seat.
use Rattle.std.specs.Prelude.{◌≡◌, List, length}
use Rattle.atomic_table.specs.Seated.{TableId}
use Rattle.chunk_plain.specs.Setup.{Setup}
use Rattle.chunk_plain.specs.Views.{ServiceView, asked_in}
use Rattle.chunk_words.specs.declared.host.HostTable.{HostTable}
use Rattle.chunk_words.specs.declared.seats.ServiceSeat.{ServiceSeat}
use Rattle.chunk_words.specs.Knows.{Desk}
use Rattle.chunk_words.specs.Named.{identity_of}
use Rattle.chunk_words.specs.Sits.{Attends, setup_in, known_by_service, desk_by_service}
use Rattle.service_core.specs.declared.service.ServiceCore.{ServiceCore}
use Rattle.trace_buffer.specs.declared.answers.BufferSpec.{BufferSpec}
use Rattle.service_core.specs.Agreement.{ServiceAgrees}
use Rattle.service_core.specs.Making.{IsUnused, IsNewService}
use Rattle.thread_service.specs.declared.service.Service.{Service}

-- the service with its seat
abbrev pub core_of : Service → ServiceCore ServiceSeat
core_of service = service.core

-- what its seat knows
abbrev pub view_in : Service → ServiceView
view_in service = known_by_service service.core.seat

-- what its seat has of the other seats
abbrev pub desk_in : Service → Desk
desk_in service = desk_by_service service.core.seat

-- The service is one of this table: its seat attends there, it agrees with the view of its seat, and it made as many flush requests as its
-- seat knows of.
pub record Serves (table : HostTable) (service : Service) : Type 0 where
  pub attends : Attends table service.core.seat
  pub agrees : ServiceAgrees (setup_in table) (view_in service) service.core
  pub asked : service.core.session.requests ≡ asked_in (view_in service).letters

-- it is one of some table
abbrev pub IsServing : Service → Type 0
IsServing service = (table : HostTable) × Serves table service

-- nothing of it changed but its seat
abbrev pub IsOnlySeat : ServiceCore ServiceSeat → ServiceCore ServiceSeat → Type 0
IsOnlySeat old new = record new { seat = old.seat } ≡ old

-- and its seat knows what it knew
pub record KnowsSame (old new : Service) : Type 0 where
  pub view : view_in new ≡ view_in old
  pub only : IsOnlySeat (core_of old) (core_of new)

-- The service is still one of this table, and what it has of flush requests and of the other seats is as it was.
pub record ServesStill (table : HostTable) (old new : Service) : Type 0 where
  pub serves : Serves table new
  pub desk : desk_in new ≡ desk_in old
  pub letters : (view_in new).letters ≡ (view_in old).letters

-- the table has this identity, and the service's seat has this of the other seats
pub record HasMemory (id : TableId) (desk : Desk) (table : HostTable) (service : Service) : Type 0 where
  pub table_is : identity_of table ≡ id
  pub desk_is : desk_in service ≡ desk

-- A new service: made so (`IsNewService`), and one of each table with this set-up at which its seat attends, where the seat took, noted and asked
-- for nothing.
pub record IsNewFor (setup : Setup) (buffers : List BufferSpec) (seat : ServiceSeat) (service : Service) : Type 0 where
  pub made : IsNewService setup buffers seat (core_of service)
  pub serves : (table : HostTable) → Attends table seat → setup_in table ≡ setup
      → IsUnused (length setup.writers) (known_by_service seat) → asked_in (known_by_service seat).letters ≡ 0 → Serves table service
