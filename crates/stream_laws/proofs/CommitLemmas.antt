-- The history of a stream is commits, closes and reads, and each image of it has a count as a chunk's header can say it.
use Rattle.std.proofs.Common.{ℕ, suc, Bool, true, false, cond, List, [], ◌∷◌, ◌++◌, length}
use Rattle.trace_base.specs.declared.limits.TheConstants.{MAX_NUMBER}
use Rattle.trace_base.specs.declared.policy.WriterSpec.{WriterSpec}
use Rattle.trace_model.specs.Buffers.{Buffer}
use Rattle.trace_model.specs.History.{Event, Arrives, ArrivesInPart, Patched, Committed, Closed, Read, buffers_after}
use Rattle.chunk_plain.specs.Setup.{Setup}
use Rattle.service_core.specs.Reading.{reads_in}
use Rattle.stream_frames.specs.Frames.{Frame, Commits, Reads, Closes, Limits}
use Rattle.commit_laws.specs.Commits.{AreByCommits}
use Rattle.stream_producer.specs.History.{closes_from, ending, frame_events, image_placed, is_on_target, patches_placed, played, reads_from, stream_history}
use Rattle.stream_laws.proofs.CountLemmas.{IsCounted, AreCounted}
use Rattle.stream_laws.proofs.EventLemmas.{AreReads, all_reads, buffer_reads}

by_reads : (events : List Event) → AreReads events → AreByCommits events
by_reads [] are = tt
by_reads (Arrives sequence chunk_id chunk ∷ events) are = absurd are
by_reads (ArrivesInPart sequence chunk_id chunk ∷ events) are = absurd are
by_reads (Patched sequence patches ∷ events) are = absurd are
by_reads (Committed image patches ∷ events) are = absurd are
by_reads (Closed sequence ∷ events) are = absurd are
by_reads (Read sequence limit ∷ events) are = by_reads events are

by_both : (events later : List Event) → AreByCommits events → AreByCommits later → AreByCommits (events ++ later)
by_both [] later are all = all
by_both (Arrives sequence chunk_id chunk ∷ events) later are all = absurd are
by_both (ArrivesInPart sequence chunk_id chunk ∷ events) later are all = absurd are
by_both (Patched sequence patches ∷ events) later are all = absurd are
by_both (Committed image patches ∷ events) later are all = (are.0, by_both events later are.1 all)
by_both (Closed sequence ∷ events) later are all = by_both events later are all
by_both (Read sequence limit ∷ events) later are all = by_both events later are all

by_closes : (place : ℕ) (specs : List WriterSpec) (events : List Event) → AreByCommits events
    → AreByCommits (closes_from place specs ++ events)
by_closes place [] events are = are
by_closes place (spec ∷ specs) events are = by_closes (suc place) specs events are

by_frame : (setup : Setup) (limits : Limits) (buffers : List Buffer) (frame : Frame) → IsCounted frame
    → AreByCommits (frame_events setup limits buffers frame)
by_frame setup limits buffers (Commits commit) is = by_target (is_on_target setup commit)
  where
    by_target : (on : Bool) → AreByCommits (cond on (Committed (image_placed setup limits commit) (patches_placed setup commit) ∷ []) [])
    by_target true = (is.0, tt)
    by_target false = tt
by_frame setup limits buffers (Reads buffer) is =
    by_reads (reads_in setup buffers buffer MAX_NUMBER) (buffer_reads setup buffers buffer MAX_NUMBER)
by_frame setup limits buffers Closes is = tt

by_played : (setup : Setup) (limits : Limits) (buffers : List Buffer) (frames : List Frame) → AreCounted frames
    → AreByCommits (played setup limits buffers frames)
by_played setup limits buffers [] are = tt
by_played setup limits buffers (frame ∷ frames) are =
    by_both (frame_events setup limits buffers frame)
    (played setup limits (buffers_after buffers (frame_events setup limits buffers frame)) frames)
    (by_frame setup limits buffers frame are.0)
    (by_played setup limits (buffers_after buffers (frame_events setup limits buffers frame)) frames are.1)

pub history_by_commits : (setup : Setup) (limits : Limits) (buffers : List Buffer) (frames : List Frame) → AreCounted frames
    → AreByCommits (stream_history setup limits buffers frames)
history_by_commits setup limits buffers frames are =
    let events : List Event = played setup limits buffers frames in
    let left : List Buffer = buffers_after buffers events in
    let closed : List Buffer = buffers_after left (closes_from 0 setup.writers) in
    by_both events (ending setup left) (by_played setup limits buffers frames are)
    (by_closes 0 setup.writers (reads_from setup closed 1 (length left))
    (by_reads (reads_from setup closed 1 (length left)) (all_reads setup closed 1 (length left))))
