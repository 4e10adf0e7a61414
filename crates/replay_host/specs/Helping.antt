-- What a help of the service is: it takes the complete chunks of the producer whose writers may ask.
use Rattle.std.specs.Prelude.{◌≡◌, ℕ, Bool, not, ◌==◌, Some}
use Rattle.trace_model.specs.Counts.{raised}
use Rattle.chunk_plain.specs.Meaning.{Meaning, IsServiceStep}
use Rattle.chunk_plain.specs.World.{World}
use Rattle.service_core.specs.declared.service.ServiceCore.{ServiceCore}
use Rattle.service_core.specs.Agreement.{KeepsRest, IsOpen}
use Rattle.service_core.specs.Told.{LeavesNone}
use Rattle.service_core.specs.Taking.{Takes, places_of}
use Rattle.replay_host.specs.declared.helper.Collecting.{Collecting}
use Rattle.replay_host.specs.Standing.{IsServed}

-- what the service needs, to take chunks for the writers that may ask
pub record MayHelp {T W S : Type 0} (means : Meaning T W S) (helper : Collecting S) (table : T) : Type 0 where
  pub served : IsServed means table helper.service
  pub opened : IsOpen (means.setup table) helper.service helper.producer

-- The producer's complete chunks were taken, so many. In a table that tells its world none is left.
pub record Collected {T W S : Type 0} (means : Meaning T W S) (producer : ℕ) (old : T) (before : ServiceCore S) (taken : ℕ) (new : T) (after : ServiceCore S) : Type 0 where
  pub step : IsServiceStep means old before.seat new after.seat
  pub keeps : KeepsRest (means.setup old) before after
  pub takes : Takes (means.setup old) (places_of producer 0 (means.setup old).writers) taken (means.service_view old before.seat) (means.service_view new after.seat)
  pub told : (was : World) → means.told old ≡ Some was
      → LeavesNone (means.setup old) producer was (means.told new) (means.service_view new after.seat)

-- One help, which is counted: for the writers that may ask, the taking of their producer's complete chunks, and true exactly where some was
-- taken. Of a help for others it says that the service did no more than a step of its own: no such writer asks.
pub record Helps {T W S : Type 0} (means : Meaning T W S) (helper : Collecting S) (table : T) (producer : ℕ) (answer : Bool) (after : Collecting S) (left : T) : Type 0 where
  pub may : MayHelp means helper table
  pub producer_is : after.producer ≡ helper.producer
  pub asked : after.asks ≡ raised helper.asks 1
  pub step : IsServiceStep means table helper.service.seat left after.service.seat
  pub collected : producer ≡ helper.producer → (taken : ℕ) × (answer ≡ not (taken == 0))
      × Collected means producer table helper.service taken left after.service
