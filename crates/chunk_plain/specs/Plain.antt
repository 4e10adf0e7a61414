-- The table of one thread: what each of its steps does to its world, and what it keeps from step to step.
use Rattle.std.specs.Prelude.{◌≡◌, ℕ, true, false, Option, Some, None, List, length, map, vec_len}
use Rattle.page_geometry.specs.Header.{packed}
use Rattle.commit_body.specs.declared.body.CommitBody.{CommitBody}
use Rattle.chunk_plain.specs.declared.step.Step.{Step}
use Rattle.chunk_plain.specs.declared.step.Step.TheVariants.{Claim, Stamp, Begin, SetHeader, Publish, Complete, Look, Take, Learn, Release, Call, Event, Commit}
use Rattle.chunk_plain.specs.Setup.{Setup, from_of}
use Rattle.chunk_plain.specs.Payload.{byte_at, first_bytes, sealed_to}
use Rattle.chunk_plain.specs.Views.{Found, WriterView, newcomer, newcomer_service, none_taken, taken_of}
use Rattle.chunk_plain.specs.World.{World, Status, Unclaimed, Claimed, Stamped, Writing, Ready, Reading, status, writer}
use Rattle.chunk_plain.specs.Steps.{claims, stamps, begins, redrafts, with_head, with_words, completes, notes_call, looks_at, takes_in, learns, lets_go, notes, notes_commit, moved, served, with_writer_view, serviced}
use Rattle.chunk_plain.specs.Owned.{IsOwned}
use Rattle.chunk_plain.specs.Drafts.{draft_at, head_at, ends_by}
use Rattle.chunk_plain.specs.Stored.{Stored}
use Rattle.chunk_plain.specs.Shows.{content_of, IsShown}
use Rattle.chunk_plain.specs.Views as views
use Rattle.chunk_plain.specs.Words.{IsPublished, AskTheirOwn, call_of, event_of, committed_of}

-- nothing is claimed, and nobody has done anything
abbrev pub first_world : Setup → World
first_world setup = record {
  chunks = map (λ _. Unclaimed) setup.spots;
  writers = map (λ _. newcomer) setup.writers;
  service = record newcomer_service { taken = map (λ _. none_taken) setup.writers };
}

-- what a look finds in a chunk with this status
abbrev pub found_in : Status → Option Found
found_in (Writing place position draft) = Some (record {
  place = place;
  position = position;
  head = draft.head;
  ends = draft.ends;
  sealed = first_bytes (byte_at draft.words) (sealed_to draft.ends);
})
found_in _ = None

-- a chunk that is taken stays what it was
abbrev pub read_as : Status → Status
read_as (Ready place position content) = Reading place position content
read_as other = other

-- the world after a step
abbrev pub world_after : World → Step → World
world_after world (Claim place chunk found true) =
    moved world place (claims (writer world place) chunk found true) chunk (Claimed place)
world_after world (Claim place chunk found false) = with_writer_view world place (claims (writer world place) chunk found false)
world_after world (Stamp place chunk) =
    moved world place (stamps (writer world place) chunk) chunk (Stamped place (length (writer world place).begun))
world_after world (Begin place chunk words) =
    moved world place (begins (writer world place) chunk words.now) chunk (Writing place (length (writer world place).begun) (views.fresh words.now))
world_after world (SetHeader place chunk position count flags) =
    let view = writer world place in
    let draft = with_head (draft_at view position) (record { count = count; flags = flags }) (ends_by view position count) in
    moved world place (redrafts view chunk position draft) chunk (Writing place position draft)
world_after world (Publish place chunk position words) =
    let view = writer world place in let draft = with_words (draft_at view position) words.now in
    moved world place (redrafts view chunk position draft) chunk (Writing place position draft)
world_after world (Complete layout place chunk position body) =
    let content = content_of (from_of layout.now place) place position (head_at (writer world place) position) body.now in
    moved world place (completes (writer world place) chunk position content) chunk (Ready place position content)
world_after world (Look chunk word header) = serviced world (looks_at world.service chunk word (packed header) (found_in (status world chunk)))
world_after world (Take place chunk word header) =
    served world (takes_in (looks_at world.service chunk word (packed header) None) place chunk) chunk (read_as (status world chunk))
world_after world (Learn layout place header body) =
    let position = length (taken_of world.service place).contents in
    let content = content_of (from_of layout.now place) place position (record { count = header.count; flags = header.flags }) body.now in
    serviced world (learns world.service place content)
world_after world (Release chunk) = served world (lets_go world.service chunk) chunk Unclaimed
world_after world (Call place call) = with_writer_view world place (notes_call (writer world place) (call_of call))
world_after world (Event event) = serviced world (notes world.service (event_of event))
world_after world (Commit layout header payload patches) =
    serviced world (notes_commit world.service (committed_of layout.now header payload.now patches.now))

-- the body of a chunk with this status may be with a token
abbrev pub IsLent : Status → Type 0
IsLent (Writing place position draft) = Unit {0}
IsLent (Reading place position content) = Unit {0}
IsLent _ = ⊥

-- the payload in the body of a held chunk has its chunk's size, and was published whole
pub record StandsWhole (size : ℕ) (view : WriterView) (position : ℕ) (body : CommitBody) : Type 0 where
  pub size_is : vec_len body.payload ≡ size
  pub published : IsPublished view position body.payload.items

-- words and slots show the world, the world is owned, and each writer claimed chunks of its own producer alone
pub record IsKept (setup : Setup) (words : List ℕ) (slots : List Stored) (world : World) : Type 0 where
  pub shown : IsShown setup words slots world
  pub owned : IsOwned world
  pub writers : length world.writers ≡ length setup.writers
  pub own : AskTheirOwn setup world.writers
