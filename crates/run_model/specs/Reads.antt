-- Which reads a scenario's lines have the service do, whenever it does them.
use Rattle.std.specs.Prelude.{◌≡◌, ℕ, List, [], ◌∷◌, ◌++◌, length}
use Rattle.trace_model.specs.Buffers.{Buffer}
use Rattle.trace_model.specs.Delivery.{Delivered}
use Rattle.trace_model.specs.History as model
use Rattle.trace_model.specs.History.{buffers_after, records_at}
use Rattle.chunk_plain.specs.Setup.{Setup}
use Rattle.scenario_text.specs.declared.scenario.LineKind.{LineKind}
use Rattle.scenario_text.specs.declared.scenario.LineKind.TheVariants.{Read}
use Rattle.scenario_text.specs.declared.scenario.NumberedLine.{NumberedLine}
use Rattle.service_core.specs.Reading.{reads_in}
use Rattle.thread_service.specs.Reading.{GoesUnread}

-- the reads of a line, by what the buffers hold: a read line's are one of each sequence of its buffer, in rising id, each with what is left of the
-- limit; any other line has none
abbrev pub reads_by : Setup → List Buffer → LineKind → List model.Event
reads_by setup buffers (Read buffer limit) = reads_in setup buffers buffer limit
reads_by setup buffers _ = []

-- The history went on by the reads of these lines, in their order, and no other read came. Those of a line stand together, and are by what the
-- buffers hold where they begin.
abbrev pub GoesByReads : Setup → (first : List Buffer) → List NumberedLine → (old new : List model.Event) → Type 0
GoesByReads setup first [] old new = GoesUnread old new
GoesByReads setup first (line ∷ lines) old new =
    (here : List model.Event) × GoesUnread old here × GoesByReads setup first lines (here ++ reads_by setup (buffers_after first here) line.what) new

-- ---- where they end before their end

-- The reads of a line, which begin behind this history, ended before a record: those in front of one were done, then that one up to the packets whose
-- records come before, and no further one. The record is the next that was due.
pub record ReadsUpTo (setup : Setup) (first : List Buffer) (line : LineKind) (here new : List model.Event) (next : Delivered) : Type 0 where
  pub firsts : List model.Event
  pub sequence : ℕ
  pub left : ℕ
  pub count : ℕ
  pub others : List model.Event
  pub cut : reads_by setup (buffers_after first here) line ≡ firsts ++ model.Read sequence left ∷ others
  pub history : new ≡ here ++ (firsts ++ model.Read sequence count ∷ [])
  pub later : List Delivered
  pub due : records_at (buffers_after first (here ++ firsts)) (model.Read sequence left)
      ≡ records_at (buffers_after first (here ++ firsts)) (model.Read sequence count) ++ next ∷ later
  pub many : length (records_at (buffers_after first (here ++ firsts)) (model.Read sequence count)) ≡ count

-- The history went on by the reads of the first of these lines, in their order, and then by those of the next one up to this record. No other read came.
pub record GoesUpTo (setup : Setup) (first : List Buffer) (lines : List NumberedLine) (old new : List model.Event) (next : Delivered) : Type 0 where
  pub done : List NumberedLine
  pub line : NumberedLine
  pub later : List NumberedLine
  pub all : lines ≡ done ++ line ∷ later
  pub here : List model.Event
  pub reads : GoesByReads setup first done old here
  pub ends : ReadsUpTo setup first line.what here new next
