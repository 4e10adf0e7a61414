-- What looks at chunks show, and what is loaded of them.
use Rattle.std.specs.Prelude.{◌≡◌, ℕ, ◌<◌, ◌≤◌, List, [], ◌∷◌, ◌++◌, Some, slice_get, slice_index_or}
use Rattle.chunk_plain.specs.Setup.{Setup, id_at}
use Rattle.chunk_plain.specs.Views.{Look, ServiceView, taken_of}
use Rattle.chunk_plain.specs.World.{World}
use Rattle.chunk_plain.specs.Words.{ShowsFound}
use Rattle.chunk_plain.specs.Meaning.{Meaning, IsServiceStep}

-- so many looks more
abbrev pub looked : ServiceView → List Look → ServiceView
looked view looks = record view { looks = view.looks ++ looks }

-- the chunk is one of those from one up to another
pub record IsAmong (first last chunk : ℕ) : Type 0 where
  pub least : first ≤ chunk
  pub below : chunk < last

-- what a look can show of a writer, by its place and the id of its next chunk
abbrev pub LookFact : Type 1
LookFact = Setup → (place id : ℕ) → Look → Type 0

-- One of these looks at the chunk shows the fact, of the writer of which so many chunks were taken then.
pub record ShowsFact (Fact : LookFact) (setup : Setup) (place count chunk : ℕ) (looks : List Look) : Type 0 where
  pub n : ℕ
  pub look : Look
  pub at : slice_get looks n ≡ Some look
  pub chunk_is : look.chunk ≡ chunk
  pub since : slice_index_or look.taken place 0 ≡ count
  pub shows : Fact setup place (id_at setup place count) look

-- the chunk was looked at, and shows the fact
pub record SeesFact (Fact : LookFact) (setup : Setup) (place chunk : ℕ) (old new : ServiceView) : Type 0 where
  pub look : Look
  pub view : new ≡ looked old (look ∷ [])
  pub chunk_is : look.chunk ≡ chunk
  pub since : slice_index_or look.taken place 0 ≡ (taken_of old place).count
  pub shows : Fact setup place (id_at setup place (taken_of old place).count) look

-- each chunk of these was looked at, and shows the fact
pub record SeesEach (Fact : LookFact) (setup : Setup) (place : ℕ) (IsOne : ℕ → Type 0) (old new : ServiceView) : Type 0 where
  pub looks : List Look
  pub view : new ≡ looked old looks
  pub each : (chunk : ℕ) → IsOne chunk → ShowsFact Fact setup place (taken_of old place).count chunk looks

-- The chunk's payload was loaded, and begins with what was found of it. The seat knows what it knew, and a told world is as it was.
pub record LoadsFound {T W S : Type 0} (means : Meaning T W S) (chunk : ℕ) (bytes : List ℕ) (table : T) (seat : S) (left : T)
    (after : S) : Type 0 where
  pub view : means.service_view left after ≡ means.service_view table seat
  pub found : ShowsFound (means.service_view table seat) chunk bytes
  pub step : IsServiceStep means table seat left after
  pub told : (world : World) → means.told table ≡ Some world → means.told left ≡ Some world
