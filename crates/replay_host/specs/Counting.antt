-- What became of chunks, packets and flush requests, once all is played.
use Rattle.std.specs.Prelude.{◌≡◌, ℕ, zero, suc, ◌+◌, ◌-◌, ◌^◌, ◌≤◌, min, Bool, List, [], ◌∷◌, ◌++◌, length, map, Some, vec_len, if◌then◌else◌}
use Rattle.trace_base.specs.declared.limits.TheConstants.{MAX_BUFFERS}
use Rattle.trace_model.specs.Buffers.{Buffer}
use Rattle.trace_model.specs.Calls.{Call}
use Rattle.trace_model.specs.Counts.{last_count}
use Rattle.trace_model.specs.History.{buffers_after}
use Rattle.trace_model.specs.Packets.{begun_count, dropped_at_begin}
use Rattle.trace_model.specs.Sequences.{sequence_in}
use Rattle.trace_buffer.specs.Answers as answers
use Rattle.trace_buffer.specs.declared.answers.BufferCounts.{BufferCounts}
use Rattle.trace_buffer.specs.declared.answers.SequenceState.{SequenceState}
use Rattle.chunk_plain.specs.Histories.{history_of}
use Rattle.chunk_plain.specs.Meaning.{Meaning}
use Rattle.chunk_plain.specs.Setup.{Setup, sequence_of}
use Rattle.chunk_plain.specs.Views.{ServiceView, taken_of}
use Rattle.chunk_plain.specs.World.{World}
use Rattle.trace_writer.specs.Agreement.{counted}
use Rattle.scenario_text.specs.Scenario.{Parts}
use Rattle.service_core.specs.Agreement.{first_of, buffer_of}
use Rattle.service_core.specs.Routing.{buffer_at}
use Rattle.loss_report.specs.declared.counts.Done.{Done}
use Rattle.loss_report.specs.declared.counts.SequenceCounts.{SequenceCounts}
use Rattle.replay_model.specs.Enough.{IsPlayable}
use Rattle.replay_model.specs.ActNotes.{ActNote, Answered}
use Rattle.replay_model.specs.Flushes.{flush_sums}
use Rattle.replay_model.specs.Played.{IsPlayed, buffers_of, buffers_in, packet_counts, printed}
use Rattle.replay_host.specs.declared.flushes.Flushes.{Flushes}
use Rattle.replay_host.specs.declared.host.Host.{Host}
use Rattle.replay_host.specs.Raws.{AreMarked}
use Rattle.replay_host.specs.Tally.{IsTally}

-- ---- a sequence's packets

-- the packets of a sequence that were dropped, at their begin or later, up to the last count
abbrev pub all_dropped : (at_begin : ℕ) → SequenceState → ℕ
all_dropped at_begin state = min (state.dropped + at_begin) (2 ^ 64 - 1)

-- what became of a sequence's packets, of which so many were begun: those that are under no cause are cut
abbrev pub packets_left : (begun at_begin : ℕ) → SequenceState → SequenceCounts
packets_left begun at_begin state = record {
  begun = begun;
  delivered = state.delivered;
  dropped = all_dropped at_begin state;
  overwritten = state.overwritten;
  discarded = state.discarded;
  cut = begun - state.delivered - all_dropped at_begin state - state.overwritten - state.discarded;
}

-- the packets of a sequence in whose name lines commit chunks: those that losses and reads counted, and no others were begun
abbrev pub packets_counted : SequenceState → SequenceCounts
packets_counted state = record {
  begun = min (state.delivered + state.dropped + state.overwritten + state.discarded + state.cut) last_count;
  delivered = state.delivered;
  dropped = state.dropped;
  overwritten = state.overwritten;
  discarded = state.discarded;
  cut = state.cut;
}

-- the packets of a sequence in whose name lines commit chunks, or of one where they don't
abbrev pub packets_of_either : (marked : Bool) → (begun at_begin : ℕ) → SequenceState → SequenceCounts
packets_of_either marked begun at_begin state = if marked then packets_counted state else packets_left begun at_begin state

-- the buffers of a host, by what its service has noted
abbrev pub buffers_now : {T W S : Type 0} → Meaning T W S → Host T W S → List Buffer
buffers_now means host = buffers_after (first_of (means.setup host.table) host.helper.service)
    (history_of (means.service_view host.table host.helper.service.seat))

-- the buffer of the writer at this place
abbrev pub buffer_now : {T W S : Type 0} → Meaning T W S → Host T W S → (place : ℕ) → Buffer
buffer_now means host place = buffer_at (buffers_now means host) (buffer_of (means.setup host.table) place - 1)

-- what became of the packets of the writer at this place, which has noted these calls; it is marked where lines commit chunks in its name
abbrev pub packets_now : {T W S : Type 0} → Meaning T W S → Host T W S → (place : ℕ) → (marked : Bool) → List Call → SequenceCounts
packets_now means host place marked calls =
    packets_of_either marked (counted (begun_count calls)) (counted (dropped_at_begin calls))
    (answers.state_of (buffer_now means host place).policy (sequence_in (buffer_now means host place).sequences (sequence_of place)))

-- ---- flush requests

-- each of so many writers answers with the chunks that were taken of it
abbrev pub answers_to : ServiceView → (writers : ℕ) → List ActNote
answers_to view zero = []
answers_to view (suc place) = answers_to view place ++ Answered place (taken_of view place).count ∷ []

-- ---- all of it

-- there is a mark for each writer, and room for the counts of each buffer and each sequence
pub record HasCountRoom {T W S : Type 0} (host : Host T W S) (marks : List Bool) (done : Done) : Type 0 where
  pub buffers : vec_len done.buffers ≡ length host.helper.service.specs.items
  pub few : vec_len done.buffers ≤ MAX_BUFFERS
  pub sequences : vec_len done.sequences ≡ length host.writers.items
  pub marked : length marks ≡ length host.writers.items

-- The counts are those of the report of a scenario's world; those of the requests, where all for which there was room were made.
pub record IsReportOf (scenario : Parts) (setup : Setup) (world : World) (notes : List ActNote) (buffers : List BufferCounts)
    (sequences : List SequenceCounts) (flushes : Flushes) : Type 0
  where
    pub buffers_are : buffers ≡ map answers.counts_of (buffers_in scenario setup world)
    pub sequences_are : sequences ≡ map printed (packet_counts scenario setup world)
    pub sums_are : flushes.made ≡ vec_len flushes.chunks → flushes.chunks.items ≡ flush_sums notes world.service.taken

-- what was counted of a host that has played a scenario, with these marks, is what the report says of the world that is told
abbrev pub CountsAll : {T W S : Type 0} → Meaning T W S → Host T W S → (marks : List Bool) → List BufferCounts → List SequenceCounts
    → Flushes → Type 0
CountsAll means host marks buffers sequences flushes =
    (scenario : Parts) (notes : List ActNote) (world : World) → means.told host.table ≡ Some world
    → IsPlayed scenario (means.setup host.table) world notes → IsPlayable scenario
    → first_of (means.setup host.table) host.helper.service ≡ buffers_of scenario (means.setup host.table)
    → IsTally notes (length scenario.writers) host.flushes → AreMarked scenario.lines (length scenario.writers) marks
    → IsReportOf scenario (means.setup host.table) world notes buffers sequences flushes
