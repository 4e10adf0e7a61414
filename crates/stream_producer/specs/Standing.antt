-- What plays frames, between two of them, and what it does with frames.
use Rattle.std.specs.Prelude.{◌≡◌, ℕ, ◌+◌, ◌<◌, false, List, ◌++◌, length}
use Rattle.trace_base.specs.declared.limits.TheConstants.{MAX_PAGE_SIZE}
use Rattle.byte_io.specs.Bytes.{Intake, after_told}
use Rattle.trace_model.specs.Counts.{raised}
use Rattle.trace_model.specs.Delivery.{trace_of}
use Rattle.trace_model.specs.History.{Event, buffers_after, records_after}
use Rattle.chunk_plain.specs.Histories.{history_of}
use Rattle.chunk_plain.specs.Meaning.{Meaning}
use Rattle.chunk_plain.specs.Setup.{Setup, size_of, producer_of}
use Rattle.chunk_plain.specs.Views.{ServiceView}
use Rattle.service_core.specs.Agreement.{ServiceAgrees, first_of, is_closed}
use Rattle.stream_frames.specs.Frames.{Frame, Limits, payload_size_of}
use Rattle.stream_producer.specs.declared.player.Player.{Player}
use Rattle.stream_producer.specs.History.{played, commits_in, refused_in}

-- what its service has noted
abbrev pub view_of : {T W S : Type 0} → Meaning T W S → Player T S → ServiceView
view_of means player = means.service_view player.table player.service.seat

-- the service agrees with what it noted
pub record Serves {T W S : Type 0} (means : Meaning T W S) (player : Player T S) : Type 0 where
  pub serves : means.serves player.table player.service.seat
  pub agrees : ServiceAgrees (means.setup player.table) (view_of means player) player.service
  pub reads : means.takes_reads player.table player.service.seat

-- and no sequence is closed
pub record Stands {T W S : Type 0} (means : Meaning T W S) (player : Player T S) : Type 0 where
  pub served : Serves means player
  pub opened : (place : ℕ) → place < length (means.setup player.table).writers
      → is_closed (means.setup player.table) player.service place ≡ false

-- the limits of frames are those of the set-up
pub record FitsSetup (limits : Limits) (setup : Setup) : Type 0 where
  pub many : length limits.sizes ≡ length setup.writers
  pub sizes : (place : ℕ) → place < length setup.writers → payload_size_of limits (place + 1) ≡ size_of setup (producer_of setup place)
  pub small : (source : ℕ) → payload_size_of limits source < MAX_PAGE_SIZE

-- what frames give a player
abbrev pub events_for : {T W S : Type 0} → Meaning T W S → Limits → Player T S → List Frame → List Event
events_for means limits player frames = played (means.setup player.table) limits player.service.buffers.items frames

-- the bytes that they have it write
abbrev pub due_of : {T W S : Type 0} → Meaning T W S → Limits → Player T S → List Frame → List ℕ
due_of means limits player frames = trace_of (records_after player.service.buffers.items (events_for means limits player frames))

-- Frames were played: the service noted what they give and nothing else, and the sink took the records of that.
pub record Plays {T W S : Type 0} (means : Meaning T W S) (limits : Limits) (frames : List Frame) (old new : Player T S)
    (before after : Intake) : Type 0 where
  pub stands : Stands means new
  pub setup_stays : means.setup new.table ≡ means.setup old.table
  pub first : first_of (means.setup old.table) new.service ≡ first_of (means.setup old.table) old.service
  pub history : history_of (view_of means new) ≡ history_of (view_of means old) ++ events_for means limits old frames
  pub buffers : new.service.buffers.items ≡ buffers_after old.service.buffers.items (events_for means limits old frames)
  pub taken : after ≡ after_told before (due_of means limits old frames)
  pub commits : new.commits ≡ raised old.commits (commits_in frames)
  pub refused : new.refused ≡ raised old.refused (refused_in (means.setup old.table) limits old.service.buffers.items frames)
