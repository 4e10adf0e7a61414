-- A seat is one of a table's, and between two calls.
use Rattle.std.specs.Prelude.{◌≡◌, Option, Some, None}
use Rattle.chunk_plain.specs.World.{World}
use Rattle.chunk_words.specs.declared.host.HostTable.{HostTable}
use Rattle.chunk_words.specs.declared.seats.WriterSeat.{WriterSeat}
use Rattle.chunk_words.specs.declared.seats.ServiceSeat.{ServiceSeat}
use Rattle.chunk_words.specs.declared.seats.ReadPass.{ReadPass}
use Rattle.chunk_plain.specs.Setup.{Setup}
use Rattle.chunk_plain.specs.Views.{WriterView, ServiceView}
use Rattle.chunk_words.specs.GoesOn.{GoesOn}
use Rattle.chunk_words.specs.Knows.{Unmade, Away, Desk, desk_of, view_of, service_of, stage_of, passed_of, with_stage}
use Rattle.chunk_words.specs.Moves.{Mine}
use Rattle.chunk_words.specs.Seats.{IsIdle, IsServiceIdle, Rests, Waits, IsPass}

-- the writer's seat is one of the table's, and no call of it is going on
pub record Sits (table : HostTable) (seat : WriterSeat) : Type 0 where
  pub joined : seat.seat.table_id ≡ table.table.shared.table_id
  pub rests : Rests table.layout seat.place seat.seat.me

-- the writer's seat is one of the table's, and no slot is out with it
pub record CanStep (table : HostTable) (seat : WriterSeat) : Type 0 where
  pub joined : seat.seat.table_id ≡ table.table.shared.table_id
  pub idle : IsIdle seat.place seat.seat.me

-- The seat is the same one of the same table behind a step of its writer, which makes this of what it knows and has.
pub record WriterLeaves (old new : WriterSeat) (step : Mine → Mine → Type 0) : Type 0 where
  pub seat : new.seat.table_id ≡ old.seat.table_id
  pub place : new.place ≡ old.place
  pub me : step old.seat.me new.seat.me

-- the service's seat is the table's, and no call of it is going on
pub record Attends (table : HostTable) (seat : ServiceSeat) : Type 0 where
  pub joined : seat.seat.table_id ≡ table.table.shared.table_id
  pub waits : Waits table.layout seat.seat.me

-- the service's seat is the table's, and no slot is out with it
pub record CanServe (table : HostTable) (seat : ServiceSeat) : Type 0 where
  pub joined : seat.seat.table_id ≡ table.table.shared.table_id
  pub idle : IsServiceIdle seat.seat.me

-- The seat is the same table's behind a step of the service, which makes this of what it knows and has.
pub record ServiceLeaves (old new : ServiceSeat) (step : Mine → Mine → Type 0) : Type 0 where
  pub seat : new.seat.table_id ≡ old.seat.table_id
  pub me : step old.seat.me new.seat.me

-- the service's seat attends, and has this of the other seats
pub record Remembers (table : HostTable) (desk : Desk) (seat : ServiceSeat) : Type 0 where
  pub attends : Attends table seat
  pub desk_is : desk_of seat.seat.me.0 ≡ desk

-- the reading pass is the table's
pub record Passes (table : HostTable) (pass : ReadPass) : Type 0 where
  pub joined : pass.seat.table_id ≡ table.table.shared.table_id
  pub idle : IsPass pass.seat.me

-- The pass was joined to the service's seat and given back: what the service knew goes on from what the pass knew, without a read.
pub record JoinsPass (table : HostTable) (pass passed : ReadPass) (seat after : ServiceSeat) : Type 0 where
  pub goes_on : GoesOn (passed_of pass.seat.me.0) (service_of seat.seat.me.0)
  pub desk : desk_of after.seat.me.0 ≡ with_stage (desk_of seat.seat.me.0) Away
  pub passes : Passes table passed

-- no reading pass was made with the service's seat
abbrev pub HasNoPass : ServiceSeat → Type 0
HasNoPass seat = stage_of seat.seat.me.0 ≡ Unmade

-- nothing is there
abbrev pub IsNothing : Option World → Type 0
IsNothing None = Unit {0}
IsNothing (Some world) = ⊥

-- how the table is laid out
abbrev pub setup_in : HostTable → Setup
setup_in table = table.layout

-- what the writer's seat knows
abbrev pub known_by : WriterSeat → WriterView
known_by seat = view_of seat.seat.me.0

-- what the service's seat knows
abbrev pub known_by_service : ServiceSeat → ServiceView
known_by_service seat = service_of seat.seat.me.0

-- what the reading pass knows: the service's view as it was once its last read was noted
abbrev pub known_by_pass : ReadPass → ServiceView
known_by_pass pass = passed_of pass.seat.me.0

-- what the service's seat has of the other seats
abbrev pub desk_by_service : ServiceSeat → Desk
desk_by_service seat = desk_of seat.seat.me.0
