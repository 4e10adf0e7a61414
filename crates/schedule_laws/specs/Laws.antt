-- The laws of schedules.
use Rattle.std.specs.Prelude.{ℕ, ◌<◌, List, length, map}
use Rattle.trace_model.specs.Packets.{emissions_of}
use Rattle.trace_model.specs.Tells.{Tells}
use Rattle.trace_model.specs.Delivery.{IsFaithfulOf, records_of}
use Rattle.trace_model.specs.History.{records_after}
use Rattle.chunk_plain.specs.Setup.{Setup, IsLaid, sequence_of}
use Rattle.chunk_plain.specs.Views.{WriterView, ServiceView}
use Rattle.chunk_plain.specs.World.{World, writer}
use Rattle.chunk_plain.specs.Plain.{first_world}
use Rattle.chunk_plain.specs.Histories.{history_of}
use Rattle.world_model.specs.FirstBuffers.{BufferSpec, first_buffers}
use Rattle.world_model.specs.Accounts.{IsAccount, NoneCommitted}
use Rattle.service_core.specs.declared.service.ServiceCore.{ServiceCore}
use Rattle.service_core.specs.Agreement.{ServiceAgrees}
use Rattle.chunk_schedules.specs.Moves.{Move}
use Rattle.chunk_schedules.specs.Schedules.{IsSchedule, CommitsNone}
use Rattle.schedule_laws.specs.Resting.{IsBetweenCalls, AreBetweenCalls, IsNotedInOrder, AreOwnInOrder}

-- What a schedule leads to from a table as it is made is an account, where each writer is between two calls and the service noted in order what
-- didn't come by commits.
abbrev pub SchedulesAreAccounts : Type 0
SchedulesAreAccounts = (setup : Setup) (moves : List Move) (world : World) → IsLaid setup → IsSchedule setup (first_world setup) moves world
    → AreBetweenCalls setup world → AreOwnInOrder setup world.service → IsAccount setup world

-- So the records that the service's history writes are faithful to the packets that the writers emitted: each is of a writer's sequence,
-- and those of each sequence of which nothing came by a commit are emitted packets, exact, whole, once, in order, and marked exactly where
-- one is missing. What comes by commits in the names of other writers is free.
abbrev pub EveryScheduleIsFaithful : Type 0
EveryScheduleIsFaithful = (setup : Setup) (buffers : List BufferSpec) (moves : List Move) (world : World) → IsLaid setup
    → IsSchedule setup (first_world setup) moves world → AreBetweenCalls setup world → AreOwnInOrder setup world.service
    → IsFaithfulOf (λ place. NoneCommitted world.service (sequence_of place)) (map (λ (view : WriterView). emissions_of view.calls) world.writers)
    (records_after (first_buffers setup 1 buffers) (history_of world.service))

-- The same of one sequence, whatever the other writers are in the middle of: its own writer is between two calls, and what was noted on it
-- is in order.
abbrev pub EverySequenceIsTold : Type 0
EverySequenceIsTold = (setup : Setup) (buffers : List BufferSpec) (moves : List Move) (world : World) → IsLaid setup
    → IsSchedule setup (first_world setup) moves world → (place : ℕ) → place < length setup.writers
    → IsBetweenCalls setup place (writer world place) → IsNotedInOrder world.service place
    → Tells (emissions_of (writer world place).calls) (sequence_of place)
    (records_of (sequence_of place) (records_after (first_buffers setup 1 buffers) (history_of world.service)))

-- A service that agrees with its view noted in order on each writer's sequence of which nothing came by a commit.
abbrev pub ServingIsInOrder : Type 0 → Type 0
ServingIsInOrder S = (setup : Setup) (view : ServiceView) (core : ServiceCore S) → ServiceAgrees setup view core → (place : ℕ)
    → place < length setup.writers
    → NoneCommitted view (sequence_of place) → IsNotedInOrder view place

-- So what is left to ask of the service is that it is between two calls: the records are faithful of each writer's sequence of which no move
-- of the schedule commits an image.
abbrev pub EveryServedScheduleIsFaithful : Type 0 → Type 0
EveryServedScheduleIsFaithful S = (setup : Setup) (buffers : List BufferSpec) (moves : List Move) (world : World) (core : ServiceCore S)
    → IsLaid setup
    → IsSchedule setup (first_world setup) moves world → AreBetweenCalls setup world → ServiceAgrees setup world.service core
    → IsFaithfulOf (λ place. CommitsNone (sequence_of place) moves) (map (λ (view : WriterView). emissions_of view.calls) world.writers)
    (records_after (first_buffers setup 1 buffers) (history_of world.service))
