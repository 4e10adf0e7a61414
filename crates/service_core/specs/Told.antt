-- What the service's calls leave where the table tells its world.
use Rattle.std.specs.Prelude.{◌≡◌, ℕ, zero, suc, ◌+◌, ◌<◌, ◌≤◌, ◌⊎◌, length, Option, Some}
use Rattle.chunk_plain.specs.declared.tokens.TheConstants.{POSITION_LIMIT}
use Rattle.chunk_plain.specs.Setup.{Setup, range_of, producer_of, IsChunkOf}
use Rattle.chunk_plain.specs.Views.{At, Draft, Content, Held, Completed, WriterView, ServiceView, taken_of}
use Rattle.chunk_plain.specs.World.{World, Status, Unclaimed, Ready, status, writer}
use Rattle.chunk_plain.specs.Steps.{served, serviced}
use Rattle.chunk_plain.specs.Words.{IsAtRest}
use Rattle.chunk_plain.specs.Meaning.{Meaning}
use Rattle.service_core.specs.Looking.{IsAmong}
use Rattle.service_core.specs.Taking.{TakesOne, TakesNext, SeesOther, SeesNoneOf}

-- The world behind steps of the service: the writers' views are as they were, the service's is this one, and each chunk is as it was or free.
pub record StandsBehind (old : World) (view : ServiceView) (new : World) : Type 0 where
  pub writers : new.writers ≡ old.writers
  pub service : new.service ≡ view
  pub chunks : (chunk : ℕ) → (status new chunk ≡ status old chunk) ⊎ (status new chunk ≡ Unclaimed)

-- no chunk of the producer waits as the next one of the writer at this place, as long as the writer has a position left for one
abbrev pub NoneNext : Setup → (place : ℕ) → World → Type 0
NoneNext setup place world = (chunk : ℕ) (content : Content) → IsChunkOf setup (producer_of setup place) chunk
    → (taken_of world.service place).count < POSITION_LIMIT
    → status world chunk ≡ Ready place (taken_of world.service place).count content → ⊥

-- nor as that of any of the producer's writers
abbrev pub NoneLeft : Setup → (producer : ℕ) → World → Type 0
NoneLeft setup producer world = (place : ℕ) → place < length setup.writers → producer_of setup place ≡ producer → NoneNext setup place world

-- the table tells a world behind the call, in which none is left
pub record LeavesNone (setup : Setup) (producer : ℕ) (old : World) (told : Option World) (view : ServiceView) : Type 0 where
  pub new : World
  pub told_is : told ≡ Some new
  pub stands : StandsBehind old view new
  pub none_left : NoneLeft setup producer new

-- the same while the writers before this place are done
pub record LeavesNoneYet (setup : Setup) (producer first : ℕ) (old : World) (told : Option World) (view : ServiceView) : Type 0 where
  pub new : World
  pub told_is : told ≡ Some new
  pub stands : StandsBehind old view new
  pub none_left : (place : ℕ) → place < first → place < length setup.writers → producer_of setup place ≡ producer → NoneNext setup place new

-- and of the writer at this place alone
pub record LeavesNext (setup : Setup) (place : ℕ) (old : World) (told : Option World) (view : ServiceView) : Type 0 where
  pub new : World
  pub told_is : told ≡ Some new
  pub stands : StandsBehind old view new
  pub none : NoneNext setup place new

-- the chunk waited as the one at this position of the writer at this place, and is free
pub record FreesOne (place position chunk : ℕ) (old : World) (told : Option World) (view : ServiceView) : Type 0 where
  pub ready : ∥ ((content : Content) × (status old chunk ≡ Ready place position content)) ∥₁
  pub told_is : told ≡ Some (served old view chunk Unclaimed)

-- a chunk of the producer did
pub record FreesNext (setup : Setup) (place position : ℕ) (old : World) (told : Option World) (view : ServiceView) : Type 0 where
  pub chunk : ℕ
  pub is : IsChunkOf setup (producer_of setup place) chunk
  pub frees : FreesOne place position chunk old told view

-- the chunk's state is such a one, and nothing but the service's view has changed
pub record FindsState (IsState : Status → Type 0) (chunk : ℕ) (old : World) (told : Option World) (view : ServiceView) : Type 0 where
  pub is : IsState (status old chunk)
  pub told_is : told ≡ Some (serviced old view)

-- the same of each chunk of these
pub record FindsEach (IsState : Status → Type 0) (IsOne : ℕ → Type 0) (old : World) (told : Option World)
    (view : ServiceView) : Type 0 where
  pub each : (chunk : ℕ) → IsOne chunk → IsState (status old chunk)
  pub told_is : told ≡ Some (serviced old view)

-- a chunk in this state doesn't wait, whatever its content, as the one at this position of the writer at this place
abbrev pub Isnt : (place position : ℕ) → Status → Type 0
Isnt place position state = (content : Content) → state ≡ Ready place position content → ⊥

-- the chunk doesn't, and nothing but the service's view has changed
abbrev pub FreesNone : (place position chunk : ℕ) → World → Option World → ServiceView → Type 0
FreesNone place position chunk old told view = FindsState (Isnt place position) chunk old told view

-- the same of the chunks from one up to another
abbrev pub FreesNoneOf : (place position first last : ℕ) → World → Option World → ServiceView → Type 0
FreesNoneOf place position first last old told view = FindsEach (Isnt place position) (IsAmong first last) old told view

-- one where the chunk is free
abbrev pub free_one : Status → ℕ
free_one Unclaimed = 1
free_one _ = 0

-- how many of the chunks from this one on are free, of so many
abbrev pub free_in : World → (first count : ℕ) → ℕ
free_in world first zero = 0
free_in world first (suc count) = free_one (status world (first + count)) + free_in world first count

-- while chunks of the writer at this place are taken, at least as many of its producer's are free
pub record FreesSome (setup : Setup) (place taken : ℕ) (old : World) (told : Option World) (view : ServiceView) : Type 0 where
  pub new : World
  pub told_is : told ≡ Some new
  pub stands : StandsBehind old view new
  pub freed : taken ≤ free_in new (range_of setup (producer_of setup place)).first (range_of setup (producer_of setup place)).count

-- What a taking leaves, in the view and in a told world

-- this chunk was taken as the next one of the writer at this place, and is free
pub record ChunkTaken {T W S : Type 0} (means : Meaning T W S) (place chunk : ℕ) (table : T) (seat : S) (left : T)
    (after : S) : Type 0 where
  pub takes : TakesOne place (means.service_view table seat) (means.service_view left after)
  pub told : (world : World) → means.told table ≡ Some world
      → FreesOne place (taken_of (means.service_view table seat) place).count chunk world
      (means.told left) (means.service_view left after)

-- or it was looked at, and isn't the next one
pub record ChunkPassed {T W S : Type 0} (means : Meaning T W S) (place chunk : ℕ) (table : T) (seat : S) (left : T)
    (after : S) : Type 0 where
  pub sees : SeesOther (means.setup table) place chunk (means.service_view table seat) (means.service_view left after)
  pub told : (world : World) → means.told table ≡ Some world
      → FreesNone place (taken_of (means.service_view table seat) place).count chunk world
      (means.told left) (means.service_view left after)

-- a chunk of the producer was taken as the next one of the writer at this place, and is free
pub record NextTaken {T W S : Type 0} (means : Meaning T W S) (place : ℕ) (table : T) (seat : S) (left : T)
    (after : S) : Type 0 where
  pub takes : TakesNext place (means.service_view table seat) (means.service_view left after)
  pub told : (world : World) → means.told table ≡ Some world
      → FreesNext (means.setup table) place (taken_of (means.service_view table seat) place).count world
      (means.told left) (means.service_view left after)

-- or those from one up to another were looked at, and none is the next one
pub record AllPassed {T W S : Type 0} (means : Meaning T W S) (place first last : ℕ) (table : T) (seat : S) (left : T)
    (after : S) : Type 0 where
  pub sees : SeesNoneOf (means.setup table) place first last (means.service_view table seat) (means.service_view left after)
  pub told : (world : World) → means.told table ≡ Some world
      → FreesNoneOf place (taken_of (means.service_view table seat) place).count first last world
      (means.told left) (means.service_view left after)

-- From what is left to what is ready

-- a writer completes its chunks in the order of their positions: none is completed behind one that it holds
abbrev pub CompletesInOrder : WriterView → Type 0
CompletesInOrder view = (position later about chunk : ℕ) (draft : Draft) (content : Content) → At view.begun position (Held about draft)
    → At view.begun later (Completed chunk content) → later < position

-- the writers of the producer are at rest, complete their chunks in order, and have begun at positions that there are
abbrev pub AreOrderly : Setup → (producer : ℕ) → World → Type 0
AreOrderly setup producer world = (place : ℕ) → place < length setup.writers → producer_of setup place ≡ producer
    → IsAtRest setup place (writer world place) × CompletesInOrder (writer world place)
    × (length (writer world place).begun ≤ POSITION_LIMIT)

-- no chunk of the producer is ready, of any of its writers
abbrev pub NoneReady : Setup → (producer : ℕ) → World → Type 0
NoneReady setup producer world = (place : ℕ) → place < length setup.writers → producer_of setup place ≡ producer
    → (chunk position : ℕ) (content : Content) → IsChunkOf setup producer chunk → status world chunk ≡ Ready place position content → ⊥
