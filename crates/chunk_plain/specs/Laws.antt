-- What the steps of a table keep, for each table of chunks whatever its words lie in.
use Rattle.std.specs.Prelude.{◌≡◌, ℕ, ◌+◌, ◌*◌, ◌^◌, ◌<◌, ◌≤◌, true, false, List, length, slice_index_or, Option, None, Some}
use Rattle.std.specs.List.{All, flat_map}
use Rattle.trace_model.specs.Calls.{Call}
use Rattle.trace_model.specs.Pages.{framed}
use Rattle.chunk_plain.specs.Setup.{Setup, sequence_of}
use Rattle.chunk_plain.specs.Payload.{byte_of, byte_at, byte_in, sealed_to, HasFragments, ends_from}
use Rattle.chunk_plain.specs.Views.{At, Head, Draft, fresh, Content, Held, Completed, Letters, Found, ServiceView, taken_of}
use Rattle.chunk_plain.specs.World.{World, Unclaimed, Claimed, Stamped, Writing, Ready, Reading, status, writer}
use Rattle.chunk_plain.specs.Steps.{claims, stamps, begins, redrafts, with_head, with_word, completes, looks_at, takes_in, learns, lets_go, moved, served, with_writer_view, serviced}
use Rattle.chunk_plain.specs.Owned.{times, IsOwned}
use Rattle.chunk_plain.specs.Drafts.{MayFollow, IsDraft, IsFound, IsThere, head_of}
use Rattle.chunk_plain.specs.Stored.{Stored}
use Rattle.chunk_plain.specs.Plain.{IsKept}
use Rattle.chunk_plain.specs.Ownership.{Ownership}

-- each step of a writer keeps the world owned
pub record WriterStepsKeep (world : World) (place chunk : ℕ) : Type 0 where
  pub wins : (found : ℕ) → status world chunk ≡ Unclaimed
      → IsOwned (moved world place (claims (writer world place) chunk found true) chunk (Claimed place))
  pub misses : (found : ℕ) → (status world chunk ≡ Unclaimed → ⊥)
      → IsOwned (with_writer_view world place (claims (writer world place) chunk found false))
  pub stamps_it : 0 < times chunk (writer world place).claimed → (writer world place).stamped ≡ None
      → IsOwned (moved world place (stamps (writer world place) chunk) chunk (Stamped place (length (writer world place).begun)))
  pub begins_it : (words : List ℕ)
      → (writer world place).stamped ≡ Some (record { chunk = chunk; position = length (writer world place).begun })
      → IsOwned (moved world place (begins (writer world place) chunk words) chunk (Writing place (length (writer world place).begun) (fresh words)))
  -- a header of a held chunk, where its bytes read as the fragments that are finished then
  pub heads_it : (position : ℕ) (draft : Draft) (head : Head) (ends : List ℕ) → At (writer world place).begun position (Held chunk draft)
      → MayFollow draft.head head → IsDraft (with_head draft head ends)
      → IsOwned (moved world place (redrafts (writer world place) chunk position (with_head draft head ends)) chunk (Writing place position (with_head draft head ends)))
  -- a payload word of a held chunk, where each byte of its finished fragments stays
  pub publishes_it : (position index word : ℕ) (draft : Draft) → At (writer world place).begun position (Held chunk draft)
      → index < length draft.words
      → ((m : ℕ) → m < 8 → 8 * index + m < sealed_to draft.ends → byte_of word m ≡ byte_of (slice_index_or draft.words index 0) m)
      → IsOwned (moved world place (redrafts (writer world place) chunk position (with_word draft index word)) chunk (Writing place position (with_word draft index word)))
  -- a held chunk is completed, whose content has its finished fragments
  pub completes_it : (position : ℕ) (draft : Draft) (content : Content) → At (writer world place).begun position (Held chunk draft)
      → content.image.chunk_id ≡ position → content.image.sequence ≡ sequence_of place → head_of content ≡ draft.head
      → sealed_to draft.ends ≤ length content.image.payload
      → ((j : ℕ) → j < sealed_to draft.ends → byte_at draft.words j ≡ byte_in content.image.payload j)
      → IsOwned (moved world place (completes (writer world place) chunk position content) chunk (Ready place position content))
  -- what it notes: a call, a request that it heard of, an answer
  pub notes_it : (calls : List Call) (letters : Letters) → IsOwned (with_writer_view world place (record (writer world place) { calls = calls; letters = letters }))

-- and so does each step of the service
pub record ServiceStepsKeep (world : World) (place chunk : ℕ) : Type 0 where
  pub looks_it : (word header : ℕ) (found : Option Found)
      → ((one : Found) → found ≡ Some one → IsFound one × IsThere (writer world one.place) chunk one)
      → IsOwned (serviced world (looks_at world.service chunk word header found))
  pub takes_it : (content : Content) → status world chunk ≡ Ready place (taken_of world.service place).count content
      → IsOwned (served world (takes_in world.service place chunk) chunk (Reading place (taken_of world.service place).count content))
  pub learns_it : (content : Content) → length (taken_of world.service place).contents < (taken_of world.service place).count
      → At (writer world place).begun (length (taken_of world.service place).contents) (Completed chunk content)
      → IsOwned (serviced world (learns world.service place content))
  pub releases_it : (other position : ℕ) (content : Content) → status world chunk ≡ Reading other position content
      → IsOwned (served world (lets_go world.service chunk) chunk Unclaimed)
  pub notes_it : (service : ServiceView) → service.looks ≡ world.service.looks → service.taken ≡ world.service.taken
      → service.reading ≡ world.service.reading → IsOwned (serviced world service)

-- Each step leaves every chunk owned by exactly one.
abbrev pub StepsKeep : Type 0
StepsKeep = (world : World) (place chunk : ℕ) → IsOwned world → place < length world.writers → chunk < length world.chunks
    → WriterStepsKeep world place chunk × ServiceStepsKeep world place chunk

-- what a table of one thread keeps is ownership in its eight parts
abbrev pub KeptIsOwnership : Type 0
KeptIsOwnership = (setup : Setup) (words : List ℕ) (slots : List Stored) (world : World) → IsKept setup words slots world
    → Ownership setup words slots world

-- Bytes that begin with a writer's fragments, each behind its size of four bytes, have these fragments, and the last one ends where they
-- end.
abbrev pub FramesRead : Type 0
FramesRead = (byte : ℕ → ℕ) (done : List (List ℕ)) → All (λ (fragment : List ℕ). length fragment < 2 ^ 28) done
    → ((j : ℕ) → j < length (flat_map framed done) → byte j ≡ byte_in (flat_map framed done) j)
    → HasFragments byte (ends_from byte 0 (length done)) × (sealed_to (ends_from byte 0 (length done)) ≡ length (flat_map framed done))
