-- What a writer of threads does for the flush requests that were made.
use Rattle.std.specs.Prelude.{◌≡◌, ℕ, ◌<◌, ◌≤◌, false, Option, Some, None, List, [], ◌∷◌, ◌++◌, length}
use Rattle.trace_model.specs.Calls.{Call, Flushed}
use Rattle.chunk_plain.specs.Histories.{completed_images}
use Rattle.chunk_plain.specs.Letters.{last_flush, answers_with}
use Rattle.chunk_plain.specs.Views.{WriterView}
use Rattle.chunk_words.specs.declared.seats.WriterSeat.{WriterSeat}
use Rattle.chunk_words.specs.Sits.{known_by}
use Rattle.trace_writer.specs.declared.writer.WriterCore.{WriterCore}
use Rattle.trace_writer.specs.Core.{is_stalled, holds_chunk, route_of}
use Rattle.trace_writer.specs.OwnSteps.{KeepsChunks, NoneHeld}

-- the last call is a flush
abbrev pub IsFlushed : List Call → Type 0
IsFlushed calls = (before : List Call) × (calls ≡ before ++ Flushed ∷ [])

-- of its view all is as before but what it knows of requests, of which it knows no fewer; and it is as before
pub record HearsAlone (old new : WriterCore WriterSeat) : Type 0 where
  pub writer : new.writer ≡ old.writer
  pub place : new.seat.place ≡ old.seat.place
  pub rises : (known_by old.seat).letters.known ≤ (known_by new.seat).letters.known
  pub rest : known_by new.seat ≡ record (known_by old.seat) { letters = record (known_by old.seat).letters { known = (known_by new.seat).letters.known } }

-- the request is the newest one that the writer knows of, and newer than its last answer
pub record IsNewRequest (flush : ℕ) (view : WriterView) : Type 0 where
  pub known : flush ≡ view.letters.known
  pub newer : last_flush view.letters.answers < flush

-- of its view all is as before but that it gave this answer; and it is as before
pub record AnswersAlone (flush chunks : ℕ) (old new : WriterCore WriterSeat) : Type 0 where
  pub view : known_by new.seat ≡ answers_with (known_by old.seat) flush chunks
  pub writer : new.writer ≡ old.writer
  pub place : new.seat.place ≡ old.seat.place

-- no request stands that is newer than its last answer
pub record FindsNoRequest (old new : WriterCore WriterSeat) : Type 0 where
  pub hears : HearsAlone old new
  pub none_newer : (known_by new.seat).letters.known ≤ last_flush (known_by old.seat).letters.answers

-- It answers the newest request, which is newer than its last answer: it completes the chunk that it holds, notes that it flushed, and then answers with
-- all chunks that it ever completed, which are all that it began. It asks for no chunk.
pub record AnswersWith (flush chunks : ℕ) (old new : WriterCore WriterSeat) : Type 0 where
  pub calls : (known_by new.seat).calls ≡ (known_by old.seat).calls ++ Flushed ∷ []
  pub answers : (known_by new.seat).letters.answers
      ≡ (known_by old.seat).letters.answers ++ record { flush = flush; chunks = chunks; calls = length (known_by new.seat).calls } ∷ []
  pub newest : (known_by new.seat).letters.known ≡ flush
  pub newer : last_flush (known_by old.seat).letters.answers < flush
  pub rises : (known_by old.seat).letters.known ≤ flush
  pub complete : chunks ≡ length (completed_images (known_by new.seat).begun)
  pub whole : chunks ≡ length (known_by new.seat).begun
  pub none_held : NoneHeld (known_by new.seat).begun
  pub kept : KeepsChunks (known_by old.seat).begun (known_by new.seat).begun
  pub asked : (known_by new.seat).asked ≡ (known_by old.seat).asked
  pub claimed : (known_by new.seat).claimed ≡ (known_by old.seat).claimed
  pub stamped : (known_by new.seat).stamped ≡ (known_by old.seat).stamped
  pub holds_none : holds_chunk new ≡ false
  pub goes : is_stalled new ≡ false
  pub route : route_of new ≡ route_of old
  pub place : new.seat.place ≡ old.seat.place

-- One of both: it answers exactly where a request stands that is newer than its last answer.
abbrev pub Polls : Option (ℕ × ℕ) → WriterCore WriterSeat → WriterCore WriterSeat → Type 0
Polls None old new = FindsNoRequest old new
Polls (Some answer) old new = AnswersWith answer.0 answer.1 old new
