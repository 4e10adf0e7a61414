-- What the close of a producer does.
use Rattle.std.specs.Prelude.{◌≡◌, ◌≢◌, ℕ, ◌<◌, ◌≤◌, true, List, length, map}
use Rattle.trace_base.specs.declared.policy.WriterSpec.{WriterSpec}
use Rattle.chunk_plain.specs.Setup.{Setup, producer_of, sequence_of}
use Rattle.chunk_plain.specs.Views.{Noted, Closed, ServiceView}
use Rattle.service_core.specs.declared.service.ServiceCore.{ServiceCore}
use Rattle.service_core.specs.Agreement.{KeepsFields, is_closed}
use Rattle.service_core.specs.Taking.{Takes, places_of, noted_more}

-- the sequence of the writer at this place is closed; each other one is as it was
pub record ClosesOne {S : Type 0} (setup : Setup) (place : ℕ) (old new : ServiceCore S) : Type 0 where
  pub fields : KeepsFields old new
  pub closed : is_closed setup new place ≡ true
  pub others : (other : ℕ) → other < length setup.writers → other ≢ place → is_closed setup new other ≡ is_closed setup old other

-- the sequences of the producer's writers are closed; each other one is as it was
pub record ClosesAll {S : Type 0} (setup : Setup) (producer : ℕ) (old new : ServiceCore S) : Type 0 where
  pub fields : KeepsFields old new
  pub closed : (place : ℕ) → place < length setup.writers → producer_of setup place ≡ producer → is_closed setup new place ≡ true
  pub others : (place : ℕ) → place < length setup.writers → producer_of setup place ≢ producer → is_closed setup new place ≡ is_closed setup old place

-- the notes that close the sequences of these writers
abbrev pub closes_of : List ℕ → List Noted
closes_of places = map (λ place. Closed (sequence_of place)) places

-- the producer's complete chunks were taken, and then its sequences closed
pub record TakesAndCloses (setup : Setup) (producer taken : ℕ) (old new : ServiceView) : Type 0 where
  pub between : ServiceView
  pub takes : Takes setup (places_of producer 0 setup.writers) taken old between
  pub view : new ≡ noted_more between (closes_of (places_of producer 0 setup.writers))

-- the same while the sequences of these first writers are closed
pub record TakesAndClosesSome (setup : Setup) (producer taken : ℕ) (writers : List WriterSpec) (old new : ServiceView) : Type 0 where
  pub between : ServiceView
  pub takes : Takes setup (places_of producer 0 setup.writers) taken old between
  pub view : new ≡ noted_more between (closes_of (places_of producer 0 writers))

-- of the writers before this place, those of the producer are closed, and all others are as they were
pub record ClosesSome {S : Type 0} (setup : Setup) (producer first : ℕ) (old new : ServiceCore S) : Type 0 where
  pub fields : KeepsFields old new
  pub closed : (place : ℕ) → place < first → place < length setup.writers → producer_of setup place ≡ producer → is_closed setup new place ≡ true
  pub open_still : (place : ℕ) → first ≤ place → place < length setup.writers → is_closed setup new place ≡ is_closed setup old place
  pub others : (place : ℕ) → place < length setup.writers → producer_of setup place ≢ producer → is_closed setup new place ≡ is_closed setup old place
