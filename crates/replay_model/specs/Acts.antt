-- What is done, act by act, when a scenario is replayed.
use Rattle.std.specs.Prelude.{ℕ, ◌==◌, List, [], ◌∷◌, ◌++◌, map, if◌then◌else◌}
use Rattle.trace_model.specs.Calls.{Call}
use Rattle.scenario_text.specs.RawChunks.{AskedChunk}

-- An act of a writer, of the service, or of a writer that answers a flush request. Writers have places, counted from 0; producers and
-- buffers count from 1.
pub data Act : Type 0 where
  -- the writer is asked for a call
  Ask : (place : ℕ) → Call → Act
  -- a flush request is made
  Request : Act
  -- the writer answers a flush request, where no packet of it is begun: it flushes
  Answer : (place : ℕ) → Act
  -- the producer's complete chunks are taken
  Collect : (producer : ℕ) → Act
  -- and the finished fragments of the chunks that its writers hold
  Scrape : (producer : ℕ) → Act
  -- the producer's complete chunks are taken, and its sequences closed
  CloseProducer : (producer : ℕ) → Act
  -- so many packets of the buffer are read at most
  ReadAll : (buffer limit : ℕ) → Act
  -- a chunk is committed in the name of the writer, whoever wrote it
  CommitRaw : (place : ℕ) → AskedChunk → Act

-- the writer is asked for these calls, one after another
abbrev pub asks : (place : ℕ) → List Call → List Act
asks place calls = map (Ask place) calls

-- the calls that an act asks of the writer
abbrev pub calls_at : (place : ℕ) → Act → List Call
calls_at place (Ask other call) = if other == place then call ∷ [] else []
calls_at place other = []

-- all calls that acts ask of the writer, in order; that it flushes for an answer isn't asked by a line
abbrev pub calls_in : List Act → (place : ℕ) → List Call
calls_in [] place = []
calls_in (act ∷ acts) place = calls_at place act ++ calls_in acts place
