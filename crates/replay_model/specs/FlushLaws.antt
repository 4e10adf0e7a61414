-- What a flush promises to who asks for it: once as many chunks of a writer are taken as it had completed when it flushed, the next read of
-- its buffer without limit settles what became of each packet that it had emitted by then.
use Rattle.std.specs.Prelude.{◌≡◌, ℕ, suc, ◌+◌, ◌<◌, ◌≤◌, ◌==◌, Bool, true, false, List, [], ◌∷◌, ◌++◌, length, if◌then◌else◌}
use Rattle.std.specs.List.{list_any}
use Rattle.trace_base.specs.declared.policy.WriterSpec.{WriterSpec}
use Rattle.trace_model.specs.Buffers.{Buffer}
use Rattle.trace_model.specs.Calls.{Flushed}
use Rattle.trace_model.specs.Causes.{fixed_after}
use Rattle.trace_model.specs.Counts.{last_count}
use Rattle.trace_model.specs.Delivery.{Delivered, records_of}
use Rattle.trace_model.specs.Enough.{most_chunks}
use Rattle.trace_model.specs.Packets.{packets_of, is_writing, emissions_of, begun_count}
use Rattle.trace_model.specs.Pages.{Page}
use Rattle.trace_model.specs.Written.{chains_of}
use Rattle.delivery_laws.specs.FlushLaws.{IsFlushed, AreSettled}
use Rattle.chunk_plain.specs.declared.tokens.TheConstants.{POSITION_LIMIT}
use Rattle.chunk_plain.specs.Setup.{Setup, producer_of, sequence_of}
use Rattle.chunk_plain.specs.Plain.{first_world}
use Rattle.chunk_plain.specs.Views.{Committed, ServiceView, WriterView, taken_of}
use Rattle.chunk_plain.specs.World.{World, writer}
use Rattle.chunk_plain.specs.Owned.{IsOwned}
use Rattle.chunk_plain.specs.Histories.{completed_images, history_of}
use Rattle.world_model.specs.Accounts.{NoneCommitted}
use Rattle.world_model.specs.FirstBuffers.{payload_at}
use Rattle.scenario_text.specs.declared.scenario.NumberedLine.{NumberedLine}
use Rattle.scenario_text.specs.declared.scenario.LineKind.TheVariants as line
use Rattle.scenario_text.specs.Scenario.{Parts}
use Rattle.scenario_text.specs.Accepted.{calls_asked, is_closed_by, line_calls}
use Rattle.scenario_text.specs.Limits.{IsSetUp}
use Rattle.service_core.specs.Agreement.{spec_at}
use Rattle.replay_model.specs.Acts.{Act, asks}
use Rattle.replay_model.specs.Does.{Asks, Reads}
use Rattle.replay_model.specs.ActNotes.{ActNote}
use Rattle.replay_model.specs.Plays.{Plays}
use Rattle.replay_model.specs.Played.{IsSetupOf, buffers_of, first_buffer, records_in}
use Rattle.scenario_text.specs.Raws.{HasNoRaw, has_raw}
use Rattle.replay_model.specs.Schedule.{acts_from, is_due}
use Rattle.replay_model.specs.Written.{HasWritten}

-- something of the sequence came by a commit
abbrev pub has_committed : ServiceView → (sequence : ℕ) → Bool
has_committed service sequence = list_any (λ (committed : Committed). committed.image.sequence == sequence) service.commits

-- How many packets are known of these writers, of which the first has this place: those that each has begun or, where something of its
-- sequence came by a commit, those that are among these records.
abbrev pub known_in : ServiceView → List Delivered → (place : ℕ) → List WriterView → ℕ
known_in service records place [] = 0
known_in service records place (view ∷ views) =
    (if has_committed service (sequence_of place) then length (records_of (sequence_of place) records) else begun_count view.calls)
    + known_in service records (suc place) views

-- how many of these records are of writers in whose names these lines commit chunks, of writers of which the first has this place
abbrev pub raw_records : List NumberedLine → List Delivered → (place : ℕ) → List WriterSpec → ℕ
raw_records lines records place [] = 0
raw_records lines records place (spec ∷ specs) =
    (if has_raw (suc place) lines then length (records_of (sequence_of place) records) else 0) + raw_records lines records (suc place) specs

-- The lines are no more than a count can tell, with the records of writers in whose names they commit chunks.
abbrev pub AreFew : Parts → List NumberedLine → List Delivered → Type 0
AreFew scenario lines records = length lines + raw_records lines records 0 scenario.writers ≤ last_count

-- The writer at this place flushes between two packets, as it does for an answer, for a line and at the end. At some time behind it as many
-- chunks of it are taken as it had completed then, whatever it is asked for meanwhile: so an answer to a flush request is met. Whatever is
-- done then, its buffer is read without limit at last.
pub record IsFlushRead (setup : Setup) (buffers : List Buffer) (place : ℕ) (asked read : World) : Type 0 where
  pub answered : World
  pub taken : World
  pub reading : World
  pub ended : is_writing (packets_of (writer asked place).calls) ≡ false
  pub answers : Asks setup place Flushed asked answered
  pub owned_then : ∥ IsOwned answered ∥₁
  pub between : List Act
  pub notes : List ActNote
  pub takes : Plays setup buffers between answered taken notes
  pub met : length (completed_images (writer answered place).begun) ≤ (taken_of taken.service place).count
  pub onward : List Act
  pub later : List ActNote
  pub goes_on : Plays setup buffers onward taken reading later
  pub reads : Reads setup buffers (spec_at setup.writers place).buffer last_count reading read
  pub owned_now : ∥ IsOwned read ∥₁

-- What a writer had cut when it flushed stays cut so, whatever is done later: its calls by then are the first ones, and the first of its
-- pages, as many as it had completed chunks then, are a cut of the packets that it had emitted by then.
pub record StaysCut (setup : Setup) (place : ℕ) (asked answered last : World) : Type 0 where
  pub wrote : HasWritten setup place (writer last place)
  pub pages : List Page
  pub count_is : length pages ≡ length (completed_images (writer answered place).begun)
  pub flushed : IsFlushed (payload_at setup place) (writer last place).calls wrote.cut.cut.pages (writer asked place).calls pages

-- So it is wherever acts lead behind a flush, of a scenario's set-up: behind an answer to a flush request in particular, which names how
-- many chunks its writer had completed.
abbrev pub EveryFlushStaysCut : Type 0
EveryFlushStaysCut = (scenario : Parts) (setup : Setup) → IsSetupOf scenario setup
    → (acts later : List Act) (asked answered last : World) (notes more : List ActNote)
    → Plays setup (buffers_of scenario setup) acts (first_world setup) asked notes
    → (place : ℕ) → place < length setup.writers → Asks setup place Flushed asked answered → ∥ IsOwned answered ∥₁
    → Plays setup (buffers_of scenario setup) later answered last more → StaysCut setup place asked answered last

-- In the world behind the read, the outcome is fixed of each packet that the writer had begun when it flushed, and it had finished all of
-- them: the packet is delivered, in a record of that world's history, or absent under one cause. Where a packet stands is said by the pages
-- of the writer's own chunks: the first of them are those into which it had cut these packets.
pub record HasSettled (scenario : Parts) (setup : Setup) (place : ℕ) (asked read : World) : Type 0 where
  pub wrote : HasWritten setup place (writer read place)
  pub pages : List Page
  pub flushed : IsFlushed (payload_at setup place) (writer read place).calls wrote.cut.cut.pages (writer asked place).calls pages
  pub settled : AreSettled (fixed_after (sequence_of place) (first_buffer scenario setup place) (history_of read.service))
      (packets_of (writer asked place).calls) (chains_of pages)

-- So it is wherever acts lead, of a scenario's set-up, while no more packets are known than a count can tell, of a writer in whose name
-- nothing was committed: what is committed in the names of others does it no harm.
abbrev pub EveryFlushIsSettled : Type 0
EveryFlushIsSettled = (scenario : Parts) (setup : Setup) → IsSetupOf scenario setup
    → IsSetUp scenario.buffers scenario.producers scenario.writers
    → (acts : List Act) (asked read : World) (notes : List ActNote)
    → Plays setup (buffers_of scenario setup) acts (first_world setup) asked notes
    → (place : ℕ) → place < length setup.writers → IsFlushRead setup (buffers_of scenario setup) place asked read
    → NoneCommitted read.service (sequence_of place) → known_in read.service (records_in scenario setup read) 0 read.writers ≤ last_count
    → HasSettled scenario setup place asked read

-- A line `q`, and at any later point a line `r` for the writer's buffer without a limit, are such acts: the first makes the request, has
-- each writer flush that may, and then takes what each open producer has complete. Of a writer whose producer is open, of which the lines
-- before the request leave no packet begun, and in whose name none of the lines commits a chunk, each packet that it had emitted by then is
-- settled behind the read. A read's limit counts for all writers of the buffer, so that the lines are few, with the records of writers in
-- whose names some commit chunks; and what those before the request ask of the writer takes no more chunks than it has ids.
abbrev pub EveryRequestIsSettled : Type 0
EveryRequestIsSettled = (scenario : Parts) (setup : Setup) → IsSetupOf scenario setup
    → IsSetUp scenario.buffers scenario.producers scenario.writers
    → (before between : List NumberedLine) (request last : NumberedLine) (world : World) (notes : List ActNote)
    → Plays setup (buffers_of scenario setup) (acts_from scenario [] (before ++ (request ∷ (between ++ (last ∷ []))))) (first_world setup) world notes
    → (place : ℕ) → place < length setup.writers → is_closed_by before (producer_of setup place) ≡ false
    → request.what ≡ line.Request → last.what ≡ line.Read (spec_at setup.writers place).buffer last_count
    → AreFew scenario (before ++ (request ∷ (between ++ (last ∷ [])))) (records_in scenario setup world)
    → HasNoRaw (before ++ (request ∷ (between ++ (last ∷ [])))) place
    → is_writing (packets_of (calls_asked (suc place) before)) ≡ false
    → most_chunks (payload_at setup place) (emissions_of (calls_asked (suc place) before)) ≤ POSITION_LIMIT
    → (asked : World) × (earlier : List ActNote)
    × Plays setup (buffers_of scenario setup) (acts_from scenario [] before) (first_world setup) asked earlier
    × HasSettled scenario setup place asked world

-- A writer that has a packet begun at a line `q` answers behind the line `e` that ends it. It may then write on: once a line `c` for its
-- producer, and later a line `r` for its buffer without a limit, were played, each packet is settled that it had emitted at its answer.
-- What the lines up to `e` ask of the writer takes no more chunks than it has ids, and none of the lines commits a chunk in its name.
abbrev pub EveryLateAnswerIsSettled : Type 0
EveryLateAnswerIsSettled = (scenario : Parts) (setup : Setup) → IsSetupOf scenario setup
    → IsSetUp scenario.buffers scenario.producers scenario.writers
    → (before between onward : List NumberedLine) (end collect last : NumberedLine) (world : World) (notes : List ActNote)
    → Plays setup (buffers_of scenario setup) (acts_from scenario [] (before ++ (end ∷ (between ++ (collect ∷ (onward ++ (last ∷ []))))))) (first_world setup)
    world notes
    → (place : ℕ) → place < length setup.writers → end.what ≡ line.End (suc place) → is_due (suc place) before ≡ true
    → collect.what ≡ line.Collect (producer_of setup place) → last.what ≡ line.Read (spec_at setup.writers place).buffer last_count
    → AreFew scenario (before ++ (end ∷ (between ++ (collect ∷ (onward ++ (last ∷ [])))))) (records_in scenario setup world)
    → HasNoRaw (before ++ (end ∷ (between ++ (collect ∷ (onward ++ (last ∷ [])))))) place
    → is_writing (packets_of (calls_asked (suc place) (before ++ end ∷ []))) ≡ false
    → most_chunks (payload_at setup place) (emissions_of (calls_asked (suc place) (before ++ end ∷ []))) ≤ POSITION_LIMIT
    → (asked : World) × (earlier : List ActNote)
    × Plays setup (buffers_of scenario setup) (acts_from scenario [] before ++ asks place (line_calls (suc place) (line.End (suc place)))) (first_world setup)
    asked earlier × HasSettled scenario setup place asked world
