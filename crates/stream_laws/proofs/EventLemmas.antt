-- What the frames of a stream give is commits and reads, and then come closes, and reads alone behind them.
use Rattle.std.proofs.Common.{ℕ, zero, suc, Bool, true, false, cond, List, [], ◌∷◌, ◌++◌, length, refl}
use Rattle.std.specs.Prelude.{◌==◌, ◌||◌, ◌-◌, ⊤}
use Rattle.trace_base.specs.declared.limits.TheConstants.{MAX_NUMBER}
use Rattle.trace_base.specs.declared.policy.WriterSpec.{WriterSpec}
use Rattle.trace_model.specs.Buffers.{Buffer}
use Rattle.trace_model.specs.History.{Event, Arrives, ArrivesInPart, Patched, Committed, Closed, Read, buffers_after, reads_of}
use Rattle.trace_model.specs.Reads.{delivered_by, with_read}
use Rattle.chunk_plain.specs.Setup.{Setup, sequence_of}
use Rattle.service_core.specs.Reading.{reads_in, sequences_to}
use Rattle.service_core.specs.Routing.{buffer_at}
use Rattle.stream_frames.specs.Frames.{Frame, Commits, Reads, Closes, Limits}
use Rattle.commit_laws.specs.Commits.{ComesByCommits}
use Rattle.stream_producer.specs.History.{closes_from, ending, frame_events, image_placed, is_on_target, patches_placed, played, reads_from, stream_history}

-- Reads alone

abbrev pub AreReads : List Event → Type 0
AreReads [] = ⊤
AreReads (Read sequence limit ∷ events) = AreReads events
AreReads (event ∷ events) = ⊥

pub reads_both : (events later : List Event) → AreReads events → AreReads later → AreReads (events ++ later)
reads_both [] later are all = all
reads_both (Arrives sequence chunk_id chunk ∷ events) later are all = absurd are
reads_both (ArrivesInPart sequence chunk_id chunk ∷ events) later are all = absurd are
reads_both (Patched sequence patches ∷ events) later are all = absurd are
reads_both (Committed image patches ∷ events) later are all = absurd are
reads_both (Closed sequence ∷ events) later are all = absurd are
reads_both (Read sequence limit ∷ events) later are all = reads_both events later are all

pub reads_are : (limit : ℕ) (buffer : Buffer) (numbers : List ℕ) → AreReads (reads_of limit buffer numbers)
reads_are limit buffer [] = tt
reads_are limit buffer (number ∷ numbers) =
    reads_are (limit - length (delivered_by buffer number limit)) (with_read buffer number limit) numbers

pub buffer_reads : (setup : Setup) (buffers : List Buffer) (number limit : ℕ) → AreReads (reads_in setup buffers number limit)
buffer_reads setup buffers number limit = reads_are limit (buffer_at buffers (number - 1)) (sequences_to number 0 setup.writers)

pub all_reads : (setup : Setup) (buffers : List Buffer) (number count : ℕ) → AreReads (reads_from setup buffers number count)
all_reads setup buffers number zero = tt
all_reads setup buffers number (suc count) =
    reads_both (reads_in setup buffers number MAX_NUMBER)
    (reads_from setup (buffers_after buffers (reads_in setup buffers number MAX_NUMBER)) (suc number) count)
    (buffer_reads setup buffers number MAX_NUMBER)
    (all_reads setup (buffers_after buffers (reads_in setup buffers number MAX_NUMBER)) (suc number) count)

-- Commits and reads

abbrev pub ArePlayed : List Event → Type 0
ArePlayed [] = ⊤
ArePlayed (Committed image patches ∷ events) = ArePlayed events
ArePlayed (Read sequence limit ∷ events) = ArePlayed events
ArePlayed (event ∷ events) = ⊥

played_both : (events later : List Event) → ArePlayed events → ArePlayed later → ArePlayed (events ++ later)
played_both [] later are all = all
played_both (Arrives sequence chunk_id chunk ∷ events) later are all = absurd are
played_both (ArrivesInPart sequence chunk_id chunk ∷ events) later are all = absurd are
played_both (Patched sequence patches ∷ events) later are all = absurd are
played_both (Committed image patches ∷ events) later are all = played_both events later are all
played_both (Closed sequence ∷ events) later are all = absurd are
played_both (Read sequence limit ∷ events) later are all = played_both events later are all

reads_played : (events : List Event) → AreReads events → ArePlayed events
reads_played [] are = tt
reads_played (Arrives sequence chunk_id chunk ∷ events) are = absurd are
reads_played (ArrivesInPart sequence chunk_id chunk ∷ events) are = absurd are
reads_played (Patched sequence patches ∷ events) are = absurd are
reads_played (Committed image patches ∷ events) are = absurd are
reads_played (Closed sequence ∷ events) are = absurd are
reads_played (Read sequence limit ∷ events) are = reads_played events are

frame_played : (setup : Setup) (limits : Limits) (buffers : List Buffer) (frame : Frame)
    → ArePlayed (frame_events setup limits buffers frame)
frame_played setup limits buffers (Commits commit) = by_target (is_on_target setup commit)
  where
    by_target : (on : Bool) → ArePlayed (cond on (Committed (image_placed setup limits commit) (patches_placed setup commit) ∷ []) [])
    by_target true = tt
    by_target false = tt
frame_played setup limits buffers (Reads buffer) =
    reads_played (reads_in setup buffers buffer MAX_NUMBER) (buffer_reads setup buffers buffer MAX_NUMBER)
frame_played setup limits buffers Closes = tt

pub all_played : (setup : Setup) (limits : Limits) (buffers : List Buffer) (frames : List Frame)
    → ArePlayed (played setup limits buffers frames)
all_played setup limits buffers [] = tt
all_played setup limits buffers (frame ∷ frames) =
    played_both (frame_events setup limits buffers frame)
    (played setup limits (buffers_after buffers (frame_events setup limits buffers frame)) frames)
    (frame_played setup limits buffers frame)
    (all_played setup limits (buffers_after buffers (frame_events setup limits buffers frame)) frames)

-- By commits alone

module _ (sequence : ℕ) where
  reads_come : (closed : Bool) (events : List Event) → AreReads events → ComesByCommits sequence closed events
  reads_come closed [] are = tt
  reads_come closed (Arrives other chunk_id chunk ∷ events) are = absurd are
  reads_come closed (ArrivesInPart other chunk_id chunk ∷ events) are = absurd are
  reads_come closed (Patched other patches ∷ events) are = absurd are
  reads_come closed (Committed image patches ∷ events) are = absurd are
  reads_come closed (Closed other ∷ events) are = absurd are
  reads_come closed (Read other limit ∷ events) are = reads_come closed events are

  closes_come : (closed : Bool) (place : ℕ) (specs : List WriterSpec) (events : List Event) → AreReads events
      → ComesByCommits sequence closed (closes_from place specs ++ events)
  closes_come closed place [] events are = reads_come closed events are
  closes_come closed place (spec ∷ specs) events are = closes_come (closed || (sequence_of place == sequence)) (suc place) specs events are

  played_come : (events later : List Event) → ArePlayed events → ComesByCommits sequence false later
      → ComesByCommits sequence false (events ++ later)
  played_come [] later are come = come
  played_come (Arrives other chunk_id chunk ∷ events) later are come = absurd are
  played_come (ArrivesInPart other chunk_id chunk ∷ events) later are come = absurd are
  played_come (Patched other patches ∷ events) later are come = absurd are
  played_come (Committed image patches ∷ events) later are come = (λ own. refl, played_come events later are come)
  played_come (Closed other ∷ events) later are come = absurd are
  played_come (Read other limit ∷ events) later are come = played_come events later are come

  -- nothing in the history of a stream comes but by commits, and none behind a close
  pub history_comes : (setup : Setup) (limits : Limits) (buffers : List Buffer) (frames : List Frame)
      → ComesByCommits sequence false (stream_history setup limits buffers frames)
  history_comes setup limits buffers frames =
      let events : List Event = played setup limits buffers frames in
      let left : List Buffer = buffers_after buffers events in
      let closed : List Buffer = buffers_after left (closes_from 0 setup.writers) in
      played_come events (ending setup left) (all_played setup limits buffers frames)
      (closes_come false 0 setup.writers (reads_from setup closed 1 (length left)) (all_reads setup closed 1 (length left)))
