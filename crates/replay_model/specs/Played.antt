-- The replay of a scenario, end to end: the world that its lines lead to, and the trace and the report that are functions of it.
use Rattle.std.specs.Prelude.{◌≡◌, ℕ, suc, ◌-◌, ◌*◌, List, [], ◌∷◌, ◌++◌, length, map, Some, slice_get}
use Rattle.std.specs.List.{AllZip}
use Rattle.byte_io.specs.Bytes.{Intake, after_told}
use Rattle.trace_base.specs.declared.limits.TheConstants.{BYTES_PER_KB}
use Rattle.trace_base.specs.declared.policy.WriterSpec.{WriterSpec}
use Rattle.trace_model.specs.Balance.{PacketCounts, IsBalanced, CountsOutcomes, packet_outcomes}
use Rattle.trace_model.specs.Buffers.{Buffer}
use Rattle.trace_model.specs.Causes.{fixed_after}
use Rattle.trace_model.specs.Counts.{raised}
use Rattle.trace_model.specs.Delivery.{Delivered, IsFaithfulOf, IsComplete, trace_of, records_of}
use Rattle.trace_model.specs.History.{buffers_after, records_after}
use Rattle.trace_model.specs.Packets.{begun_count}
use Rattle.trace_model.specs.Sequences.{sequence_in}
use Rattle.scenario_text.specs.declared.scenario.BufferLine.{BufferLine}
use Rattle.scenario_text.specs.declared.scenario.ProducerLine.{ProducerLine}
use Rattle.scenario_text.specs.declared.scenario.NumberedLine.{NumberedLine}
use Rattle.scenario_text.specs.Scenario.{Parts}
use Rattle.scenario_text.specs.Accepted.{calls_asked}
use Rattle.scenario_text.specs.Emissions.{emitted_in}
use Rattle.chunk_plain.specs.declared.setup.ProducerSpec.{ProducerSpec}
use Rattle.chunk_plain.specs.Setup.{Setup, sequence_of}
use Rattle.chunk_plain.specs.Laying.{setup_of}
use Rattle.chunk_plain.specs.Plain.{first_world}
use Rattle.chunk_plain.specs.World.{World, writer}
use Rattle.chunk_plain.specs.Histories.{history_of}
use Rattle.world_model.specs.FirstBuffers.{BufferSpec, first_buffers}
use Rattle.trace_buffer.specs.Answers as answers
use Rattle.loss_report.specs.declared.counts.SequenceCounts.{SequenceCounts}
use Rattle.loss_report.specs.Raws.{raw_text}
use Rattle.loss_report.specs.Report.{report_text}
use Rattle.service_core.specs.Agreement.{spec_at}
use Rattle.service_core.specs.Routing.{buffer_at}
use Rattle.replay_model.specs.Enough.{HasEnough}
use Rattle.replay_model.specs.ActNotes.{ActNote, answers_in}
use Rattle.replay_model.specs.Flushes.{flush_sums}
use Rattle.replay_model.specs.Plays.{Plays}
use Rattle.scenario_text.specs.Raws.{HasNoRaw, has_raw, raw_numbers}
use Rattle.replay_model.specs.Raws.{raw_lines, counts_by}
use Rattle.replay_model.specs.Schedule.{schedule_of}
use Rattle.replay_model.specs.Written.{HasWritten}

-- ---- the set-up

-- the pages of a producer line, cut so
pub record IsSpecOf (line : ProducerLine) (spec : ProducerSpec) : Type 0 where
  pub pages : spec.pages ≡ line.pages
  pub page_size : spec.geometry.page_size ≡ line.page_size
  pub chunks : spec.geometry.chunks ≡ line.chunks

-- the set-up of a table for a scenario's producers and writers
pub record IsSetupOf (scenario : Parts) (setup : Setup) : Type 0 where
  pub specs : List ProducerSpec
  pub made : AllZip IsSpecOf scenario.producers specs
  pub laid : setup ≡ setup_of specs scenario.writers

-- a scenario's buffers
abbrev pub buffer_specs : Parts → List BufferSpec
buffer_specs scenario = map (λ (line : BufferLine). record { size = line.kb * BYTES_PER_KB; policy = line.policy }) scenario.buffers

-- as the service has them at first
abbrev pub buffers_of : Parts → Setup → List Buffer
buffers_of scenario setup = first_buffers setup 1 (buffer_specs scenario)

-- ---- what was played

-- the lines lead from a table as it is made to this world
pub record IsPlayed (scenario : Parts) (setup : Setup) (world : World) (notes : List ActNote) : Type 0 where
  pub setup_is : IsSetupOf scenario setup
  pub plays : Plays setup (buffers_of scenario setup) (schedule_of scenario) (first_world setup) world notes

-- the records that a world's history writes
abbrev pub records_in : Parts → Setup → World → List Delivered
records_in scenario setup world = records_after (buffers_of scenario setup) (history_of world.service)

-- ---- the report

-- the buffers behind a world's history
abbrev pub buffers_in : Parts → Setup → World → List Buffer
buffers_in scenario setup world = buffers_after (buffers_of scenario setup) (history_of world.service)

-- what became of the packets of the writers from this place on, behind these lines
abbrev pub counts_from : List NumberedLine → List Buffer → World → (place : ℕ) → List WriterSpec → List PacketCounts
counts_from lines buffers world place [] = []
counts_from lines buffers world place (spec ∷ specs) =
    counts_by (has_raw (suc place) lines) (buffer_at buffers (spec.buffer - 1)).policy (writer world place).calls
    (sequence_in (buffer_at buffers (spec.buffer - 1)).sequences (sequence_of place))
    ∷ counts_from lines buffers world (suc place) specs

-- what became of each writer's packets
abbrev pub packet_counts : Parts → Setup → World → List PacketCounts
packet_counts scenario setup world = counts_from scenario.lines (buffers_in scenario setup world) world 0 scenario.writers

-- the counts as they are printed
abbrev pub printed : PacketCounts → SequenceCounts
printed counts = record {
  begun = counts.begun;
  delivered = counts.delivered;
  dropped = counts.dropped;
  overwritten = counts.overwritten;
  discarded = counts.discarded;
  cut = counts.cut;
}

-- the report of a world, with one number for each flush request
abbrev pub report_with : Parts → Setup → World → (sums : List ℕ) → List ℕ
report_with scenario setup world sums =
    report_text (map answers.counts_of (buffers_in scenario setup world)) (map printed (packet_counts scenario setup world)) sums

-- with the flush requests that were made on the way to it, and behind these the answers to lines `raw`
abbrev pub report_of : Parts → Setup → World → List ActNote → List ℕ
report_of scenario setup world notes =
    report_with scenario setup world (flush_sums notes world.service.taken)
    ++ raw_text (raw_lines (raw_numbers scenario.lines) (answers_in notes))

-- the packets of each writer in whose name no line commits a chunk are counted once
abbrev pub AreBalanced : List NumberedLine → List PacketCounts → Type 0
AreBalanced lines counts = (place : ℕ) (one : PacketCounts) → HasNoRaw lines place → slice_get counts place ≡ Some one → IsBalanced one

-- the buffer of the writer at this place, at first
abbrev pub first_buffer : Parts → Setup → (place : ℕ) → Buffer
first_buffer scenario setup place = buffer_at (buffers_of scenario setup) ((spec_at scenario.writers place).buffer - 1)

-- The report's counts of the writer at this place are those of its packets' outcomes: each packet that the lines begin is delivered, or
-- absent under the one cause that the history fixed first. Where a packet stands is said by the pages of the writer's own chunks. As many
-- are counted as delivered as records of its sequence are written.
pub record CountsPackets (scenario : Parts) (setup : Setup) (world : World) (place : ℕ) (counts : PacketCounts) : Type 0 where
  pub wrote : HasWritten setup place (writer world place)
  pub begun : counts.begun ≡ raised 0 (begun_count (calls_asked (suc place) scenario.lines))
  pub outcomes : CountsOutcomes (first_buffer scenario setup place).policy
      (packet_outcomes (fixed_after (sequence_of place) (first_buffer scenario setup place) (history_of world.service)) (writer world place).calls wrote.cut.cut.pages) counts
  pub records : counts.delivered ≡ length (records_of (sequence_of place) (records_in scenario setup world))

-- The scenario was replayed: there is a world that its lines lead to. The trace has taken that world's records and nothing else, and the
-- text is its report. Of each writer in whose name no line commits a chunk the records are faithful to what the scenario has it emit, and
-- the report counts every packet once, under its cause, whatever is committed in the names of others. Where chunks and bytes are enough, by
-- the lines alone, no packet is missing.
pub record Replays (scenario : Parts) (old new : Intake) (text : List ℕ) : Type 0 where
  pub setup : Setup
  pub world : World
  pub notes : List ActNote
  pub played : IsPlayed scenario setup world notes
  pub trace : new ≡ after_told old (trace_of (records_in scenario setup world))
  pub report : text ≡ report_of scenario setup world notes
  pub faithful : IsFaithfulOf (HasNoRaw scenario.lines) (emitted_in scenario) (records_in scenario setup world)
  pub balanced : AreBalanced scenario.lines (packet_counts scenario setup world)
  pub counted : (place : ℕ) (counts : PacketCounts) → HasNoRaw scenario.lines place
      → slice_get (packet_counts scenario setup world) place ≡ Some counts
      → CountsPackets scenario setup world place counts
  pub complete : HasEnough scenario → IsComplete (emitted_in scenario) (records_in scenario setup world)
