-- What the end of a stream does.
use Rattle.std.specs.Prelude.{◌≡◌, ℕ, ◌+◌, true, false, List, ◌++◌, length, map}
use Rattle.byte_io.specs.Bytes.{Intake, after_told, TakesPart}
use Rattle.trace_model.specs.Counts.{raised}
use Rattle.trace_model.specs.Delivery.{trace_of}
use Rattle.trace_model.specs.History.{buffers_after, records_after}
use Rattle.chunk_plain.specs.Histories.{history_of}
use Rattle.chunk_plain.specs.Meaning.{Meaning}
use Rattle.trace_buffer.specs.Answers.{counts_of}
use Rattle.config_text.specs.Configs.{ConfigOf}
use Rattle.stream_frames.specs.Framing.{frames_of}
use Rattle.stream_frames.specs.Values.{feeding_of}
use Rattle.stream_producer.specs.declared.fault.StreamFault.{StreamFault}
use Rattle.stream_producer.specs.declared.fault.StreamFault.TheVariants.{WriteFault, BadFrame, NoEnd}
use Rattle.stream_producer.specs.declared.player.Player.{Player}
use Rattle.stream_producer.specs.declared.producer.StreamCore.{StreamCore}
use Rattle.stream_producer.specs.declared.producer.StreamDone.{StreamDone}
use Rattle.stream_producer.specs.Counting.{counts_from}
use Rattle.stream_producer.specs.History.{closes_from, reads_from, ending, stream_history, commits_in, refused_in}
use Rattle.stream_producer.specs.Setups.{config_buffers, config_limits}
use Rattle.stream_producer.specs.Standing.{Serves, view_of}

-- all sequences were closed, in rising number, and nothing else was noted
pub record Closes {T W S : Type 0} (means : Meaning T W S) (old new : Player T S) : Type 0 where
  pub served : Serves means new
  pub setup_stays : means.setup new.table ≡ means.setup old.table
  pub specs : new.service.specs.items ≡ old.service.specs.items
  pub history : history_of (view_of means new) ≡ history_of (view_of means old) ++ closes_from 0 (means.setup old.table).writers
  pub buffers : new.service.buffers.items ≡ buffers_after old.service.buffers.items (closes_from 0 (means.setup old.table).writers)
  pub commits : new.commits ≡ old.commits
  pub refused : new.refused ≡ old.refused

-- what the reading of all buffers writes
abbrev pub due_of_reads : {T W S : Type 0} → Meaning T W S → Player T S → List ℕ
due_of_reads means player = trace_of (records_after player.service.buffers.items
    (reads_from (means.setup player.table) player.service.buffers.items 1 (length player.service.specs.items)))

-- all buffers were read without limit, in rising number, and nothing else was noted
pub record ReadsOut {T W S : Type 0} (means : Meaning T W S) (old new : Player T S) (before after : Intake) : Type 0 where
  pub served : Serves means new
  pub setup_stays : means.setup new.table ≡ means.setup old.table
  pub specs : new.service.specs.items ≡ old.service.specs.items
  pub history : history_of (view_of means new)
      ≡ history_of (view_of means old) ++ reads_from (means.setup old.table) old.service.buffers.items 1 (length old.service.specs.items)
  pub buffers : new.service.buffers.items
      ≡ buffers_after old.service.buffers.items
      (reads_from (means.setup old.table) old.service.buffers.items 1 (length old.service.specs.items))
  pub taken : after ≡ after_told before (due_of_reads means old)
  pub commits : new.commits ≡ old.commits
  pub refused : new.refused ≡ old.refused

-- what is left of a stream's buffers behind its end
pub record Finishes {T W S : Type 0} (means : Meaning T W S) (core : StreamCore T S)
    (before after : Intake) (done : StreamDone) : Type 0 where
  pub closed : (feeding_of core.reader).closed ≡ true
  pub taken : after ≡ after_told before (trace_of (records_after core.player.service.buffers.items
      (ending (means.setup core.player.table) core.player.service.buffers.items)))
  pub buffers : done.buffers.items ≡ map counts_of (buffers_after core.player.service.buffers.items
      (ending (means.setup core.player.table) core.player.service.buffers.items))
  pub sequences : done.sequences.items ≡ counts_from (buffers_after core.player.service.buffers.items
      (ending (means.setup core.player.table) core.player.service.buffers.items)) 0 (means.setup core.player.table).writers
  pub commits : done.commits ≡ core.player.commits
  pub refused : done.refused ≡ core.player.refused

-- There was no close, and nothing was done; or a write failed, and the sink took a front part of what is due.
abbrev pub StopsFinishing : {T W S : Type 0} → Meaning T W S → StreamCore T S → Intake → Intake → StreamFault → Type 0
StopsFinishing means core before after WriteFault = ((feeding_of core.reader).closed ≡ true)
    × TakesPart before after (trace_of (records_after core.player.service.buffers.items
    (ending (means.setup core.player.table) core.player.service.buffers.items)))
StopsFinishing means core before after (BadFrame offset) = ⊥
StopsFinishing means core before after (NoEnd offset) = ((feeding_of core.reader).closed ≡ false)
    × (offset ≡ (feeding_of core.reader).at + length (feeding_of core.reader).have) × (after ≡ before)

-- where the stream has no close, the fault stands at its length
abbrev pub IsAtLength : List ℕ → StreamFault → Type 0
IsAtLength stream WriteFault = Unit {0}
IsAtLength stream (BadFrame offset) = ⊥
IsAtLength stream (NoEnd offset) = offset ≡ length stream

-- The stream is played to its end: the sink has taken the records of its history and nothing else, and the counts are those of the buffers
-- behind it.
pub record FinishesStream {T W S : Type 0} (means : Meaning T W S) (config : ConfigOf) (stream : List ℕ) (core : StreamCore T S)
    (start after : Intake) (done : StreamDone) : Type 0 where
  pub taken : after ≡ after_told start (trace_of (records_after (config_buffers config (means.setup core.player.table))
      (stream_history (means.setup core.player.table) (config_limits config) (config_buffers config (means.setup core.player.table))
      (frames_of (config_limits config) stream))))
  pub buffers : done.buffers.items ≡ map counts_of (buffers_after (config_buffers config (means.setup core.player.table))
      (stream_history (means.setup core.player.table) (config_limits config) (config_buffers config (means.setup core.player.table))
      (frames_of (config_limits config) stream)))
  pub sequences : done.sequences.items ≡ counts_from (buffers_after (config_buffers config (means.setup core.player.table))
      (stream_history (means.setup core.player.table) (config_limits config) (config_buffers config (means.setup core.player.table))
      (frames_of (config_limits config) stream)))
      0 (means.setup core.player.table).writers
  pub commits : done.commits ≡ raised 0 (commits_in (frames_of (config_limits config) stream))
  pub refused : done.refused ≡ raised 0 (refused_in (means.setup core.player.table) (config_limits config)
      (config_buffers config (means.setup core.player.table)) (frames_of (config_limits config) stream))
