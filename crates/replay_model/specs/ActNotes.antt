-- What acts leave for the report: requests, answers to them, and answers to lines `raw`.
use Rattle.std.specs.Prelude.{ℕ, List, [], ◌∷◌, length, if◌then◌else◌}
use Rattle.trace_model.specs.Buffers.{Buffer}
use Rattle.trace_model.specs.Packets.{packets_of, is_writing}
use Rattle.chunk_plain.specs.Histories.{completed_images}
use Rattle.chunk_plain.specs.Setup.{Setup}
use Rattle.chunk_plain.specs.World.{World, writer}
use Rattle.loss_report.specs.declared.raws.RawAnswer.{RawAnswer}
use Rattle.replay_model.specs.Acts.{Act, Request, Answer, CommitRaw}
use Rattle.replay_model.specs.Raws.{raw_answer}

-- a flush request was made; or the writer at this place answered the newest one, and had completed so many chunks; or a commit was
-- answered so
pub data ActNote : Type 0 where
  Requested : ActNote
  Answered : (place chunks : ℕ) → ActNote
  Told : RawAnswer → ActNote

-- what an act leaves, from the world before it to the one behind it: a writer answers a request where no packet of it is begun, and a
-- buffer answers a commit as it is before it
abbrev pub act_notes : Setup → List Buffer → Act → (old new : World) → List ActNote
act_notes setup buffers Request old new = Requested ∷ []
act_notes setup buffers (Answer place) old new =
    if is_writing (packets_of (writer old place).calls) then []
    else Answered place (length (completed_images (writer new place).begun)) ∷ []
act_notes setup buffers (CommitRaw place chunk) old new = Told (raw_answer setup buffers place chunk old) ∷ []
act_notes setup buffers act old new = []

-- the answers to commits, in order
abbrev pub answers_in : List ActNote → List RawAnswer
answers_in [] = []
answers_in (Told answer ∷ notes) = answer ∷ answers_in notes
answers_in (note ∷ notes) = answers_in notes
