-- The acts of a scenario, as its lines say them, in order, and those of its end.
use Rattle.std.specs.Prelude.{ℕ, zero, suc, ◌==◌, Bool, true, false, List, [], ◌∷◌, ◌++◌, map, fold, if◌then◌else◌}
use Rattle.trace_base.specs.declared.policy.WriterSpec.{WriterSpec}
use Rattle.trace_model.specs.Calls.{Call, Flushed}
use Rattle.trace_model.specs.Counts.{last_count}
use Rattle.scenario_text.specs.declared.scenario.BufferLine.{BufferLine}
use Rattle.scenario_text.specs.declared.scenario.ProducerLine.{ProducerLine}
use Rattle.scenario_text.specs.declared.scenario.NumberedLine.{NumberedLine}
use Rattle.scenario_text.specs.declared.scenario.LineKind.{LineKind}
use Rattle.scenario_text.specs.declared.scenario.LineKind.TheVariants as line
use Rattle.scenario_text.specs.RawChunks.{AskedChunk}
use Rattle.scenario_text.specs.Scenario.{Parts}
use Rattle.scenario_text.specs.Accepted.{line_calls, is_closed_by}
use Rattle.replay_model.specs.Acts.{Act, Ask, Request, Answer, Collect, Scrape, CloseProducer, ReadAll, CommitRaw, asks}

-- ---- what is open behind these lines

-- the producers that none of these lines has closed, of which the first has this number
abbrev pub open_producers : List NumberedLine → (number : ℕ) → List ProducerLine → List ℕ
open_producers before number [] = []
open_producers before number (producer ∷ producers) =
    if is_closed_by before number then open_producers before (suc number) producers else number ∷ open_producers before (suc number) producers

-- the places of the writers whose producers none of these lines has closed, of which the first has this place
abbrev pub open_places : List NumberedLine → (place : ℕ) → List WriterSpec → List ℕ
open_places before place [] = []
open_places before place (spec ∷ specs) =
    if is_closed_by before spec.producer then open_places before (suc place) specs else place ∷ open_places before (suc place) specs

-- whether a flush request was made since the writer with this number began its packet, once a further line is done
abbrev pub is_due_after : (number : ℕ) → Bool → LineKind → Bool
is_due_after number due (line.Begin writer) = if writer == number then false else due
is_due_after number due line.Request = true
is_due_after number due other = due

-- and behind all these lines
abbrev pub is_due : (number : ℕ) → List NumberedLine → Bool
is_due number before = fold (λ due (line : NumberedLine). is_due_after number due line.what) false before

-- ---- the acts of a line

-- the writer with this number, counted from 1, is asked for these calls
abbrev pub asked_of : (number : ℕ) → List Call → List Act
asked_of zero calls = []
asked_of (suc place) calls = asks place calls

-- the writer with this number answers a request that came in its packet
abbrev pub answers_late : (number : ℕ) → Bool → List Act
answers_late zero due = []
answers_late (suc place) due = if due then Answer place ∷ [] else []

-- a chunk is committed in the name of the writer with this number
abbrev pub commits_of : (number : ℕ) → AskedChunk → List Act
commits_of zero chunk = []
commits_of (suc place) chunk = CommitRaw place chunk ∷ []

-- the acts of a line behind these lines
abbrev pub acts_of : Parts → List NumberedLine → LineKind → List Act
acts_of scenario before (line.Packet writer fields) = asked_of writer (line_calls writer (line.Packet writer fields))
acts_of scenario before (line.Begin writer) = asked_of writer (line_calls writer (line.Begin writer))
acts_of scenario before (line.Add writer fields) = asked_of writer (line_calls writer (line.Add writer fields))
acts_of scenario before (line.Nest writer field) = asked_of writer (line_calls writer (line.Nest writer field))
acts_of scenario before (line.Unnest writer) = asked_of writer (line_calls writer (line.Unnest writer))
acts_of scenario before (line.End writer) = asked_of writer (line_calls writer (line.End writer)) ++ answers_late writer (is_due writer before)
acts_of scenario before (line.Flush writer) = asked_of writer (line_calls writer (line.Flush writer))
acts_of scenario before (line.Collect producer) = Collect producer ∷ []
acts_of scenario before (line.Scrape producer) = Scrape producer ∷ []
acts_of scenario before (line.Close producer) = CloseProducer producer ∷ []
acts_of scenario before (line.Read buffer limit) = ReadAll buffer limit ∷ []
acts_of scenario before line.Request =
    Request ∷ map Answer (open_places before 0 scenario.writers) ++ map Collect (open_producers before 1 scenario.producers)
acts_of scenario before (line.CloneBuffer buffer) = []
acts_of scenario before (line.Raw writer chunk) = commits_of writer chunk

-- the acts of these lines, one behind another
abbrev pub acts_from : Parts → (before : List NumberedLine) → List NumberedLine → List Act
acts_from scenario before [] = []
acts_from scenario before (line ∷ lines) = acts_of scenario before line.what ++ acts_from scenario (before ++ line ∷ []) lines

-- ---- the end

-- each of these buffers is read without limit, of which the first has this number
abbrev pub reads_from : (number : ℕ) → List BufferLine → List Act
reads_from number [] = []
reads_from number (buffer ∷ buffers) = ReadAll number last_count ∷ reads_from (suc number) buffers

-- Behind the last line each writer of an open producer flushes, each open producer's complete chunks are taken, all sequences that are open
-- are closed, and each buffer is read without limit.
abbrev pub last_acts : Parts → List Act
last_acts scenario =
    map (λ place. Ask place Flushed) (open_places scenario.lines 0 scenario.writers)
    ++ map Collect (open_producers scenario.lines 1 scenario.producers)
    ++ map CloseProducer (open_producers scenario.lines 1 scenario.producers)
    ++ reads_from 1 scenario.buffers

-- all acts of a scenario
abbrev pub schedule_of : Parts → List Act
schedule_of scenario = acts_from scenario [] scenario.lines ++ last_acts scenario
