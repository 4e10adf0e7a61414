-- The end of a run, behind which all is read and counted.
use Rattle.std.specs.Prelude.{◌≡◌, ℕ, ◌<◌, ◌≤◌, true, false, List, [], ◌∷◌, ◌++◌, length, Result, Ok, Err}
use Rattle.std.specs.List.{flat_map}
use Rattle.byte_io.specs.Bytes.{Intake, after_told, TakesPart}
use Rattle.trace_model.specs.Buffers.{Buffer}
use Rattle.trace_model.specs.Delivery.{Delivered, trace_of}
use Rattle.trace_model.specs.History as model
use Rattle.trace_model.specs.History.{records_after}
use Rattle.chunk_plain.specs.Histories.{history_of}
use Rattle.chunk_plain.specs.Plain.{first_world}
use Rattle.chunk_plain.specs.Setup.{Setup, producer_of}
use Rattle.chunk_plain.specs.Views.{ServiceView, asked_in}
use Rattle.chunk_plain.specs.World.{World}
use Rattle.chunk_words.specs.Closed.{IsAccount, views_of}
use Rattle.chunk_words.specs.Sits.{setup_in, known_by_pass}
use Rattle.loss_report.specs.declared.counts.Done.{Done}
use Rattle.loss_report.specs.Raws.{done_text}
use Rattle.scenario_text.specs.Raws.{RawsNone}
use Rattle.scenario_text.specs.Scenario.{Parts}
use Rattle.service_core.specs.Agreement.{is_closed}
use Rattle.service_core.specs.Reading.{noted_read}
use Rattle.replay_host.specs.declared.fault.HostFault.{HostFault}
use Rattle.replay_host.specs.declared.fault.HostFault.TheVariants.{OutOfMemory, WriteFault, Stalled}
use Rattle.replay_model.specs.Flushes.{requests_in}
use Rattle.replay_model.specs.Played.{buffers_of, records_in, packet_counts, report_with, AreBalanced}
use Rattle.run_model.specs.Answered.{HasAnsweredAll, run_sums}
use Rattle.run_model.specs.Lines.{PlaysAll}
use Rattle.run_model.specs.Reads.{GoesByReads}
use Rattle.run_model.specs.Runs.{FailsRun, Runs}
use Rattle.run_model.specs.Settled.{HasDoneAll, IsRun, ClosesTo, ReadsTo}
use Rattle.run_model.specs.Stopped.{ReadsSomeTo, StopsInEnd}
use Rattle.thread_service.specs.Reading.{GoesUnread}
use Rattle.thread_service.specs.declared.service.Service.{Service}
use Rattle.thread_service.specs.Serving.{core_of, view_in, desk_in}
use Rattle.thread_service.specs.Settling.{TakesAllOut}
use Rattle.thread_host.specs.Hosts.{IsSettled}
use Rattle.thread_host.specs.Jobs.{TellsReads, TellsUpTo}
use Rattle.thread_host.specs.declared.settled.Settled.{Settled}

-- the sequences of the writers of the producers up to this number are closed
abbrev pub AreClosedTo : Setup → (number : ℕ) → Service → Type 0
AreClosedTo setup number service =
    (place : ℕ) → place < length setup.writers → producer_of setup place ≤ number → is_closed setup (core_of service) place ≡ true

-- The buffers up to this number were read in rising number, each without limit. The history is more by these reads and nothing else, the pass knows
-- them more, and the sink took their records.
pub record ReadsOut (setup : Setup) (first : List Buffer) (number : ℕ) (old new passed pass : ServiceView) (before after : Intake) : Type 0 where
  pub last : List model.Event
  pub reads : ReadsTo setup first number last old new
  pub history : history_of new ≡ history_of old ++ last
  pub tells : TellsReads first last passed pass before after

-- A write failed in the reads of so many buffers: some were read in rising number, each without limit, and then the next one up to the record whose write
-- it was. The history is more by these reads and nothing else, the pass knows them more, and the sink took their records, and then at most a front part of
-- that one.
pub record FailsOut (setup : Setup) (first : List Buffer) (number : ℕ) (old new passed pass : ServiceView) (before after : Intake) : Type 0 where
  pub next : Delivered
  pub reads : ReadsSomeTo setup first number old new next
  pub last : List model.Event
  pub last_is : last ≡ reads.earlier ++ (reads.ends.firsts ++ model.Read reads.ends.sequence reads.ends.count ∷ [])
  pub history : history_of new ≡ history_of old ++ last
  pub since : List model.Event
  pub goes : history_of pass ≡ history_of passed ++ since
  pub noted : flat_map noted_read since ≡ flat_map noted_read last
  pub tells : TellsUpTo first passed pass next before after

-- What was settled has ended, whole or up to a write that failed: there is one owned world of what its seats know, and of what its service
-- knows that has ended it. From what the service knew once all was settled, all producers were closed in rising number. The records that
-- the world's history writes are those that the pass knew, and then these more.
pub record HasEnded (scenario : Parts) (settled : Settled) : Type 0 where
  pub world : World
  pub writers : world.writers ≡ views_of settled.seats.items
  pub account : IsAccount (setup_in settled.table) (desk_in settled.service).marks world.writers world.service
  pub closed : ServiceView
  pub closes : ClosesTo (setup_in settled.table) settled.producers (view_in settled.service) closed
  pub more : List Delivered
  pub records : records_in scenario (setup_in settled.table) world
      ≡ records_after (buffers_of scenario (setup_in settled.table)) (history_of (known_by_pass settled.pass)) ++ more

-- What was settled has ended whole: behind the closes each buffer of the scenario was read in rising number, without limit, and the service
-- knows nothing more. Where the history that the pass knew went on by the reads of the scenario's lines, all flush requests were made and answered, and
-- the service played all its lines until the writers were done, the scenario was run. The sink took exactly the records that the world's history writes behind those that the pass knew, and the
-- counts are those of its report, where no line commits a chunk, it counts each packet once and all requests were made.
pub record HasFinished (scenario : Parts) (settled : Settled) (is : IsSettled scenario settled) (old new : Intake) (done : Done) : Type 0 where
  pub ended : HasEnded scenario settled
  pub last : List model.Event
  pub reads : ReadsTo (setup_in settled.table) (buffers_of scenario (setup_in settled.table)) (length scenario.buffers) last ended.closed
      ended.world.service
  pub run : GoesByReads (setup_in settled.table) (buffers_of scenario (setup_in settled.table)) scenario.lines []
      (history_of (known_by_pass settled.pass))
      → HasAnsweredAll scenario (setup_in settled.table) (view_in settled.service)
      → PlaysAll (setup_in settled.table) (buffers_of scenario (setup_in settled.table)) scenario.lines (first_world (setup_in settled.table)).service
      is.stood.service
      → IsRun scenario (setup_in settled.table) ended.world
  pub taken : new ≡ after_told old (trace_of ended.more)
  pub report : RawsNone scenario.lines → AreBalanced scenario.lines (packet_counts scenario (setup_in settled.table) ended.world)
      → asked_in (view_in settled.service).letters ≡ requests_in scenario.lines
      → done_text done
      ≡ report_with scenario (setup_in settled.table) ended.world (run_sums (length (setup_in settled.table).writers) ended.world.service.letters)

-- A write failed at the end: behind the closes the buffers of the scenario were read in rising number as far as this record, each without
-- limit, and the service knows nothing more. Where the history that the pass knew went on by the reads of the scenario's lines, and the service played
-- all its lines until the writers were done, the scenario was run up to there. The sink took exactly the records that the world's history writes behind those that the pass knew, and then
-- at most a front part of the next one.
pub record HasFailed (scenario : Parts) (settled : Settled) (is : IsSettled scenario settled) (old new : Intake) : Type 0 where
  pub ended : HasEnded scenario settled
  pub next : Delivered
  pub reads : ReadsSomeTo (setup_in settled.table) (buffers_of scenario (setup_in settled.table)) (length scenario.buffers) ended.closed
      ended.world.service next
  pub run : GoesByReads (setup_in settled.table) (buffers_of scenario (setup_in settled.table)) scenario.lines []
      (history_of (known_by_pass settled.pass))
      → PlaysAll (setup_in settled.table) (buffers_of scenario (setup_in settled.table)) scenario.lines (first_world (setup_in settled.table)).service
      is.stood.service
      → StopsInEnd scenario (setup_in settled.table) ended.world next
  pub part : TakesPart (after_told old (trace_of ended.more)) new next.bytes

-- Nothing more was done of what was settled. There is one owned world of what its seats and its service know, in which all is done but that sequences are
-- closed, and nothing was read behind what the pass knew.
pub record HasLetGo (scenario : Parts) (settled : Settled) (is : IsSettled scenario settled) : Type 0 where
  pub world : World
  pub writers : world.writers ≡ views_of settled.seats.items
  pub service : world.service ≡ view_in settled.service
  pub account : IsAccount (setup_in settled.table) (desk_in settled.service).marks world.writers world.service
  pub done : HasDoneAll scenario (setup_in settled.table) world false
  pub stood_is : done.stood ≡ is.stood
  pub settles : TakesAllOut (setup_in settled.table) (length (setup_in settled.table).ranges) is.stood.service world.service
  pub goes : GoesUnread (history_of (known_by_pass settled.pass)) (history_of world.service)

-- the scenario was run, and these are the counts of its report
abbrev pub HasRun : Parts → (old new : Intake) → Done → Type 0
HasRun scenario old new done = Runs scenario old new (done_text done)

-- How a run ends: whole, or where memory is too little, before anything is written, or where a write failed. No writer ends stalled.
abbrev pub EndsRun : Parts → Result Done HostFault → (old new : Intake) → Type 0
EndsRun scenario (Ok done) old new = HasRun scenario old new done
EndsRun scenario (Err OutOfMemory) old new = new ≡ old
EndsRun scenario (Err WriteFault) old new = FailsRun scenario old new
EndsRun scenario (Err (Stalled writer)) old new = ⊥
