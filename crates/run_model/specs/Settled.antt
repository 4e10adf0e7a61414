-- A scenario that was run on threads, once all is settled: what its writers and its service did, by their views, in whatever order the threads came.
use Rattle.std.specs.Prelude.{◌≡◌, ℕ, zero, suc, ◌<◌, Bool, true, false, List, [], ◌∷◌, ◌++◌, length, map}
use Rattle.std.specs.List.{flat_map}
use Rattle.trace_base.specs.declared.policy.WriterPolicy.TheVariants.{Stalls}
use Rattle.trace_model.specs.Buffers.{Buffer}
use Rattle.trace_model.specs.Calls.{Call, Flushed}
use Rattle.trace_model.specs.Counts.{last_count}
use Rattle.trace_model.specs.History as model
use Rattle.trace_model.specs.History.{buffers_after}
use Rattle.trace_model.specs.Packets.{packets_of, lost_count}
use Rattle.model_laws.specs.Losses.{Loses}
use Rattle.chunk_plain.specs.Letters.{AreLetters}
use Rattle.chunk_plain.specs.Setup.{Setup, sequence_of}
use Rattle.chunk_plain.specs.Views.{At, Content, Completed, Reply, ServiceView, WriterView, chunk_of, taken_of}
use Rattle.chunk_plain.specs.World.{World, writer}
use Rattle.chunk_plain.specs.Histories.{history_of}
use Rattle.chunk_plain.specs.Owned.{IsOwned, held_count, won_chunks}
use Rattle.chunk_plain.specs.Plain.{first_world}
use Rattle.chunk_schedules.specs.Schedules.{Leads}
use Rattle.world_model.specs.FirstBuffers.{payload_at}
use Rattle.trace_writer.specs.Answered.{IsAnsweredCut}
use Rattle.scenario_text.specs.declared.scenario.NumberedLine.{NumberedLine}
use Rattle.scenario_text.specs.Scenario.{Parts}
use Rattle.scenario_text.specs.Accepted.{calls_asked}
use Rattle.service_core.specs.Agreement.{spec_at}
use Rattle.service_core.specs.Closing.{TakesAndCloses}
use Rattle.service_core.specs.Order.{LeadTo, beginning}
use Rattle.service_core.specs.Reading.{reads_in, noted_read}
use Rattle.service_core.specs.Taking.{noted_more}
use Rattle.replay_model.specs.Does.{is_shut}
use Rattle.replay_model.specs.Played.{IsSetupOf, buffers_of}
use Rattle.schedule_laws.specs.Resting.{IsBetweenCalls}
use Rattle.thread_service.specs.Settling.{TakesAllOut}
use Rattle.run_model.specs.Answered.{HasAnsweredAll, answered_out}
use Rattle.run_model.specs.Lines.{PlaysAll}
use Rattle.run_model.specs.Noted.{done_calls}
use Rattle.run_model.specs.Reads.{GoesByReads}
use Rattle.run_model.specs.Scraped.{ScrapedByLines}
use Rattle.run_model.specs.Vain.{LosesInVain}

-- ---- a writer

-- The writer at this place has done its lines: it is between two calls and holds no chunk, and what it has noted, but for the flushes of its
-- answers, is just what the lines ask of it, and then the flushes that end its work. The chunks that it began are those that its claims won, in
-- their order. Packets may be lost on the way, each behind rounds of claims in vain of its own, but none of one that stalls. The chunks that
-- each of its answers counts are a cut of the packets of the calls before it, of which the last is a flush.
pub record HasDoneLines (setup : Setup) (lines : List NumberedLine) (endings : List Call) (place : ℕ) (view : WriterView) : Type 0 where
  pub between : IsBetweenCalls setup place view
  pub asked : done_calls (answered_out view) ≡ calls_asked (suc place) lines ++ endings
  pub lose : Loses (calls_asked (suc place) lines) view.calls
  pub in_turn : won_chunks view.asked ≡ map chunk_of view.begun
  pub vain : LosesInVain setup place view
  pub stalls : (spec_at setup.writers place).policy ≡ Stalls → lost_count (packets_of view.calls) ≡ 0
  pub none_held : held_count view.begun ≡ 0
  pub answers : (n : ℕ) (answer : Reply) → At view.letters.answers n answer → IsAnsweredCut (payload_at setup place) (sequence_of place) view answer

-- the flushes behind a writer's lines: the one that ends its job, and the one behind which it has heard of all requests
abbrev pub last_flushes : List Call
last_flushes = Flushed ∷ Flushed ∷ []

-- ---- all of them

-- The writers and the service are those of one owned world, in which the service is reading no chunk. A schedule of their steps leads to it
-- from a table as it is made, by way of a world in which each writer had completed all that it completes. Each writer has done its lines,
-- and all that it completed was taken. What was noted on each sequence is in order, and they are all closed, or none is. Finished fragments
-- of a chunk before it was complete were noted only where a line scrapes the writer's producer. No writer knows of a flush request that wasn't
-- made, its answers are to rising requests, and each answer that the service read was given.
pub record HasDoneAll (scenario : Parts) (setup : Setup) (world : World) (closed : Bool) : Type 0 where
  pub setup_is : IsSetupOf scenario setup
  pub many : length world.writers ≡ length setup.writers
  pub owned : ∥ ((other : World) × IsOwned other × (other.writers ≡ world.writers) × (other.service ≡ world.service)) ∥₁
  pub free : world.service.reading ≡ []
  -- A world that is marked once the threads are done: a schedule of steps leads to it from a table as it is made, and one goes on from it to
  -- these views. Each chunk that a writer has completed it had completed by then.
  pub stood : World
  pub reached : Leads setup (first_world setup) stood
  pub leads : ∥ ((other : World) × Leads setup stood other × (other.writers ≡ world.writers) × (other.service ≡ world.service)) ∥₁
  pub completed : (place : ℕ) → place < length setup.writers → (position chunk : ℕ) (content : Content)
      → At (writer world place).begun position (Completed chunk content) → At (writer stood place).begun position (Completed chunk content)
  pub writers : (place : ℕ) → place < length setup.writers → HasDoneLines setup scenario.lines last_flushes place (writer world place)
  pub taken : (place : ℕ) → place < length setup.writers → (taken_of world.service place).count ≡ length (writer world place).begun
  pub order : (place : ℕ) → place < length setup.writers
      → LeadTo world.service (sequence_of place) beginning world.service.events
      (record { come = (taken_of world.service place).count; closed = closed; due = [] })
  pub scraped : ScrapedByLines setup scenario.lines world.service
  pub letters : ∥ AreLetters world ∥₁

-- ---- the end

-- The producers up to this number are closed in rising number: of each the complete chunks are taken, and then its sequences closed.
abbrev pub ClosesTo : Setup → (number : ℕ) → (old new : ServiceView) → Type 0
ClosesTo setup zero old new = new ≡ old
ClosesTo setup (suc number) old new =
    (between : ServiceView) × (taken : ℕ) × ClosesTo setup number old between × TakesAndCloses setup (suc number) taken between new

-- The buffers up to this number are read in rising number, each without limit: these are the reads.
abbrev pub ReadsTo : Setup → (first : List Buffer) → (number : ℕ) → List model.Event → (old new : ServiceView) → Type 0
ReadsTo setup first zero reads old new = (reads ≡ []) × (new ≡ old)
ReadsTo setup first (suc number) reads old new =
    (between : ServiceView) × (earlier : List model.Event) × ReadsTo setup first number earlier old between
    × (let here = reads_in setup (buffers_after first (history_of between)) (suc number) last_count in
    (reads ≡ earlier ++ here) × (new ≡ noted_more between (flat_map noted_read here)))

-- All was done and taken, and then each producer closed. While the threads ran, the service played its own lines in their order, and nothing came between
-- them but chunks taken of a producer one of whose writers may ask for help, and answers that were read; what was left then was taken producer by producer
-- in rising number. The reads until then are those of
-- the read lines in their order, each by what its buffer held when the line was played.
pub record HasClosedAll (scenario : Parts) (setup : Setup) (world : World) : Type 0 where
  pub done : HasDoneAll scenario setup world true
  -- the service once all was taken, and once all sequences were closed
  pub settled : ServiceView
  pub closed : ServiceView
  pub played : PlaysAll setup (buffers_of scenario setup) scenario.lines (first_world setup).service done.stood.service
  pub settles : TakesAllOut setup (length setup.ranges) done.stood.service settled
  pub whole : (place : ℕ) → place < length setup.writers → (taken_of settled place).count ≡ length (writer world place).begun
  pub opened : (place : ℕ) → place < length setup.writers → is_shut (sequence_of place) settled.events ≡ false
  pub closes : ClosesTo setup (length setup.ranges) settled closed
  -- the reads of the lines
  pub asked : GoesByReads setup (buffers_of scenario setup) scenario.lines [] (history_of closed)

-- ---- all of it

-- The scenario was run, and all is settled. Its writers and its service are those of one owned world, to which a schedule of their steps
-- leads from a table as it is made, by way of a world in which each writer had completed all that it completes. Each writer has done its
-- lines, and all that it completed was taken. What was noted on each sequence is in order, and finished fragments of a chunk before it was
-- complete only where a line scrapes the writer's producer. While the threads ran, the service played its own lines in their order, and nothing came
-- between them but chunks taken of a producer one of whose writers asks for help, and answers of writers; what was left then was taken producer by
-- producer in rising number. The reads are those of the read lines in their order, each by what its buffer held when the line was played, and then those
-- of the end, where each producer is closed and then each buffer read without limit. As many flush requests were made as lines ask for, and the service
-- has read of each writer an answer to the last one.
pub record IsRun (scenario : Parts) (setup : Setup) (world : World) : Type 0 where
  pub before : HasClosedAll scenario setup world
  pub answered : HasAnsweredAll scenario setup world.service
  -- those of the end
  pub last : List model.Event
  pub reads : ReadsTo setup (buffers_of scenario setup) (length scenario.buffers) last before.closed world.service
