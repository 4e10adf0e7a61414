-- The history that the frames of a commit stream give: a commit is the arrival of its image with its patches, where it is for the buffer of
-- its sequence; a read is that of each sequence of the buffer; and the close gives nothing by itself. This profile's own; what an arrival
-- and a read do is the buffers document's.
use Rattle.std.specs.Prelude.{ℕ, zero, suc, ◌+◌, ◌-◌, Bool, true, false, ◌==◌, List, [], ◌∷◌, ◌++◌, length, replicate, Result, Ok, Err, if◌then◌else◌}
use Rattle.trace_base.specs.declared.limits.TheConstants.{MAX_NUMBER}
use Rattle.trace_base.specs.declared.policy.WriterSpec.{WriterSpec}
use Rattle.trace_model.specs.Arrivals.{Arrived, Kept, Rewritten, Duplicate, Discarded, TooFar, BadChunk, image_arrival_of}
use Rattle.trace_model.specs.Buffers.{Buffer}
use Rattle.trace_model.specs.Counts.{one_if}
use Rattle.trace_model.specs.History.{Event, Committed, Closed, buffers_after}
use Rattle.trace_model.specs.Ids.{placed_image, placed_patches}
use Rattle.trace_model.specs.Images.{Image, Patch}
use Rattle.chunk_plain.specs.Setup.{Setup, from_of, sequence_of}
use Rattle.trace_buffer.specs.declared.answers.Arrived as declared
use Rattle.trace_buffer.specs.Answers.{arrived_value}
use Rattle.service_core.specs.declared.committing.WrongTarget.{WrongTarget}
use Rattle.service_core.specs.Agreement.{buffer_of}
use Rattle.service_core.specs.Reading.{reads_in}
use Rattle.service_core.specs.Routing.{buffer_at}
use Rattle.stream_frames.specs.Frames.{Commit, Frame, Commits, Reads, Closes, Limits, payload_size_of}

-- the place of the source that a commit names, from 0
abbrev pub source_of : Commit → ℕ
source_of commit = commit.header.writer_id - 1

-- the image that a commit brings: behind the bytes that were sent its payload has zeros
abbrev pub image_of : Limits → Commit → Image
image_of limits commit = record {
  sequence = commit.header.writer_id + 1;
  chunk_id = commit.header.chunk_id;
  count = commit.header.count;
  flags = commit.header.flags;
  payload = commit.payload ++ replicate (payload_size_of limits commit.header.writer_id - length commit.payload) 0;
}

-- the image as a history has it: chunks are named by their positions, which are the ids where the first is 0
abbrev pub image_placed : Setup → Limits → Commit → Image
image_placed setup limits commit = placed_image (from_of setup (source_of commit)) (image_of limits commit)

-- its patches, which name chunks by their positions too
abbrev pub patches_placed : Setup → Commit → List Patch
patches_placed setup commit = placed_patches (from_of setup (source_of commit)) commit.patches

-- a commit names the buffer of its sequence
abbrev pub is_on_target : Setup → Commit → Bool
is_on_target setup commit = buffer_of setup (source_of commit) == commit.target

-- what a frame gives, where the buffers are these
abbrev pub frame_events : Setup → Limits → List Buffer → Frame → List Event
frame_events setup limits buffers (Commits commit) =
    if is_on_target setup commit then Committed (image_placed setup limits commit) (patches_placed setup commit) ∷ [] else []
frame_events setup limits buffers (Reads buffer) = reads_in setup buffers buffer MAX_NUMBER
frame_events setup limits buffers Closes = []

-- what frames give, one after another
abbrev pub played : Setup → Limits → List Buffer → List Frame → List Event
played setup limits buffers [] = []
played setup limits buffers (frame ∷ frames) =
    frame_events setup limits buffers frame ++ played setup limits (buffers_after buffers (frame_events setup limits buffers frame)) frames

-- ---- behind the close

-- the close of each sequence, in rising number
abbrev pub closes_from : (place : ℕ) → List WriterSpec → List Event
closes_from place [] = []
closes_from place (spec ∷ specs) = Closed (sequence_of place) ∷ closes_from (suc place) specs

-- the reads of so many buffers from this number on, without limit
abbrev pub reads_from : Setup → List Buffer → (number count : ℕ) → List Event
reads_from setup buffers number zero = []
reads_from setup buffers number (suc count) =
    reads_in setup buffers number MAX_NUMBER
    ++ reads_from setup (buffers_after buffers (reads_in setup buffers number MAX_NUMBER)) (suc number) count

-- what the end gives
abbrev pub ending : Setup → List Buffer → List Event
ending setup buffers =
    closes_from 0 setup.writers ++ reads_from setup (buffers_after buffers (closes_from 0 setup.writers)) 1 (length buffers)

-- the whole history
abbrev pub stream_history : Setup → Limits → List Buffer → List Frame → List Event
stream_history setup limits buffers frames =
    played setup limits buffers frames ++ ending setup (buffers_after buffers (played setup limits buffers frames))

-- ---- commits

-- the commit was refused
abbrev pub is_refusal : Arrived → Bool
is_refusal Kept = false
is_refusal Rewritten = false
is_refusal Discarded = false
is_refusal Duplicate = true
is_refusal TooFar = true
is_refusal (BadChunk fragment) = true

-- the same of what the service answers, which refuses a commit for another buffer too
abbrev pub is_refusal_answer : Result declared.Arrived WrongTarget → Bool
is_refusal_answer (Ok arrived) = is_refusal (arrived_value arrived)
is_refusal_answer (Err wrong) = true

-- the frame is a commit that is refused
abbrev pub is_refused : Setup → Limits → List Buffer → Frame → Bool
is_refused setup limits buffers (Commits commit) =
    if is_on_target setup commit
    then is_refusal (image_arrival_of (buffer_at buffers (commit.target - 1)) (image_placed setup limits commit)) else true
is_refused setup limits buffers (Reads buffer) = false
is_refused setup limits buffers Closes = false

-- the frame is a commit
abbrev pub is_commit : Frame → Bool
is_commit (Commits commit) = true
is_commit (Reads buffer) = false
is_commit Closes = false

-- how many commits there are
abbrev pub commits_in : List Frame → ℕ
commits_in [] = 0
commits_in (frame ∷ frames) = one_if (is_commit frame) + commits_in frames

-- and how many of them are refused, where the buffers are these
abbrev pub refused_in : Setup → Limits → List Buffer → List Frame → ℕ
refused_in setup limits buffers [] = 0
refused_in setup limits buffers (frame ∷ frames) =
    one_if (is_refused setup limits buffers frame)
    + refused_in setup limits (buffers_after buffers (frame_events setup limits buffers frame)) frames
