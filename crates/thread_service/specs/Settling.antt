-- What the service has taken of what writers told it, once they are done.
use Rattle.std.specs.Prelude.{◌≡◌, ℕ, zero, suc, ◌<◌, ◌≤◌, ◌⊎◌, List, [], ◌∷◌, ◌++◌, length}
use Rattle.std.specs.List.{All}
use Rattle.chunk_plain.specs.declared.tokens.TheConstants.{POSITION_LIMIT}
use Rattle.chunk_plain.specs.Setup.{Setup, producer_of, IsChunkOf}
use Rattle.chunk_plain.specs.Views.{At, BegunChunk, chunk_of, Completed, Content, Look, ServiceView, taken_of}
use Rattle.chunk_words.specs.Knows.{Tale}
use Rattle.service_core.specs.Taking.{ShowNone, Takes, places_of}

-- Looks from this one on show of each chunk of the writer's producer that it isn't the next one to be taken of this writer, of which so
-- many are taken; or the writer has no position left.
pub record IsSeenOut (setup : Setup) (since place : ℕ) (view : ServiceView) : Type 0 where
  pub before : List Look
  pub looks : List Look
  pub all : view.looks ≡ before ++ looks
  pub late : since ≤ length before
  pub none : ShowNone setup (producer_of setup place) place (taken_of view place).count looks
      ⊎ (POSITION_LIMIT ≤ (taken_of view place).count)

-- each writer of the producers up to this number
abbrev pub AreSeenOut : Setup → (since number : ℕ) → ServiceView → Type 0
AreSeenOut setup since number view = (place : ℕ) → place < length setup.writers → producer_of setup place ≤ number → IsSeenOut setup since place view

-- Rounds for the producer's writers, one after another: each took so many complete chunks of them as its number says, and nothing else
-- became known.
abbrev pub TakesRounds : Setup → (producer : ℕ) → (rounds : List ℕ) → ServiceView → ServiceView → Type 0
TakesRounds setup producer [] old new = new ≡ old
TakesRounds setup producer (taken ∷ rounds) old new =
    (between : ServiceView) × Takes setup (places_of producer 0 setup.writers) taken old between
    × TakesRounds setup producer rounds between new

-- Rounds that took some chunks each, and then one that took none.
pub record TakesOut (setup : Setup) (producer : ℕ) (old new : ServiceView) : Type 0 where
  pub rounds : List ℕ
  pub some : All (λ taken. 0 < taken) rounds
  pub takes : TakesRounds setup producer (rounds ++ 0 ∷ []) old new

-- such rounds for the producers up to this number, in rising number, and nothing else
abbrev pub TakesAllOut : Setup → (number : ℕ) → ServiceView → ServiceView → Type 0
TakesAllOut setup zero old new = new ≡ old
TakesAllOut setup (suc number) old new = (between : ServiceView) × TakesAllOut setup number old between × TakesOut setup (suc number) between new

-- A tale of all that a writer has begun: each chunk is complete and of its producer, and the service has looked so often since.
pub record IsWholeTale (setup : Setup) (view : ServiceView) (tale : Tale) : Type 0 where
  pub inside : tale.place < length setup.writers
  pub heard : tale.looks ≤ length view.looks
  pub complete : (position : ℕ) → position < length tale.begun
      → (chunk : ℕ) × (content : Content) × At tale.begun position (Completed chunk content)
  pub own : (position : ℕ) (entry : BegunChunk) → At tale.begun position entry
      → IsChunkOf setup (producer_of setup tale.place) (chunk_of entry)
  pub few : length tale.begun ≤ POSITION_LIMIT
