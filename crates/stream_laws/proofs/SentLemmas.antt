-- Where no commit of a source is refused, its commits among the events of a stream are those of its frames.
use Rattle.std.proofs.Common.{◌≡◌, ◌≢◌, ◌∙◌, ℕ, suc, ◌+◌, ◌-◌, ◌<◌, ◌≤◌, Bool, true, false, cond, List, [], ◌∷◌, ◌++◌, length, refl, sym, ap, subst, arith, append-nil, IsPermutation, ne_eqb}
use Rattle.std.specs.Prelude.{◌==◌}
use Rattle.std.proofs.lemmas.Bool.{eq-eqb, eqb-true, false≢true}
use Rattle.trace_base.specs.declared.limits.TheConstants.{MAX_NUMBER}
use Rattle.trace_base.specs.declared.policy.WriterSpec.{WriterSpec}
use Rattle.trace_model.specs.Arrivals.{Arrived, Kept, Rewritten, Duplicate, Discarded, TooFar, BadChunk, image_arrival_of}
use Rattle.trace_model.specs.Buffers.{Buffer}
use Rattle.trace_model.specs.History.{Event, Arrives, ArrivesInPart, Patched, Committed, Closed, Read, buffer_after, buffers_after, state_after}
use Rattle.trace_model.specs.Images.{Image}
use Rattle.chunk_plain.specs.Setup.{Setup, no_writer, sequence_of}
use Rattle.service_core.specs.Agreement.{buffer_of}
use Rattle.service_core.specs.Reading.{reads_in}
use Rattle.service_core.specs.Routing.{buffer_at}
use Rattle.service_core.proofs.RouteLemmas.{at_after, length_after}
use Rattle.stream_frames.specs.Frames as frame
use Rattle.stream_frames.specs.Frames.{Frame, Commits, Reads, Closes, Limits}
use Rattle.stream_frames.specs.Framing.{frames_of}
use Rattle.commit_laws.specs.Commits.{Commit, LastsComeLast, NoneIsRefused, PatchesComeBehind, commits_in, page_commits, patches_brought, refuses}
use Rattle.stream_producer.specs.History.{closes_from, ending, frame_events, image_placed, is_on_target, is_refusal, patches_placed, played, reads_from, source_of}
use Rattle.stream_producer.specs.Setups.{config_buffers, config_limits, writer_asked}
use Rattle.stream_producer.specs.Whole.{stream_events}
use Rattle.stream_laws.specs.Sent.{AllAreTaken, SentStreamsCome, sent_by}
use Rattle.stream_laws.proofs.CountLemmas.{AreCounted, IsCounted, stream_counted}
use Rattle.stream_laws.proofs.EventLemmas.{AreReads, all_reads, buffer_reads}
use Rattle.stream_laws.proofs.SourceLemmas.{buffers_long, writer_is}
use Rattle.std.proofs.lemmas.Option.{get_or_from_slice_get}

same_refusal : (arrived : Arrived) → refuses arrived ≡ is_refusal arrived
same_refusal Kept = refl
same_refusal Rewritten = refl
same_refusal Duplicate = refl
same_refusal Discarded = refl
same_refusal TooFar = refl
same_refusal (BadChunk fragment) = refl

module _ (q : ℕ) where
  in_reads : (events : List Event) → AreReads events → commits_in q events ≡ []
  in_reads [] are = refl
  in_reads (Arrives p chunk_id chunk ∷ events) are = absurd are
  in_reads (ArrivesInPart p chunk_id chunk ∷ events) are = absurd are
  in_reads (Patched p patches ∷ events) are = absurd are
  in_reads (Committed image patches ∷ events) are = absurd are
  in_reads (Closed p ∷ events) are = absurd are
  in_reads (Read p limit ∷ events) are = in_reads events are

  in_closes : (place : ℕ) (specs : List WriterSpec) (events : List Event) → AreReads events
      → commits_in q (closes_from place specs ++ events) ≡ []
  in_closes place [] events are = in_reads events are
  in_closes place (spec ∷ specs) events are = in_closes (suc place) specs events are

  in_both : (events later : List Event) → commits_in q (events ++ later) ≡ commits_in q events ++ commits_in q later
  in_both [] later = refl
  in_both (Arrives p chunk_id chunk ∷ events) later = in_both events later
  in_both (ArrivesInPart p chunk_id chunk ∷ events) later = in_both events later
  in_both (Patched p patches ∷ events) later = in_both events later
  in_both (Committed image patches ∷ events) later = by_own (image.sequence == q) (in_both events later)
    where
      by_own : (b : Bool) → commits_in q (events ++ later) ≡ commits_in q events ++ commits_in q later
          → cond b (record { image = image; patches = patches } ∷ commits_in q (events ++ later)) (commits_in q (events ++ later))
          ≡ cond b (record { image = image; patches = patches } ∷ commits_in q events) (commits_in q events) ++ commits_in q later
      by_own true rest = ap (λ (cs : List Commit). record { image = image; patches = patches } ∷ cs) rest
      by_own false rest = rest
  in_both (Closed p ∷ events) later = in_both events later
  in_both (Read p limit ∷ events) later = in_both events later

  none_reads : (b : Buffer) (events : List Event) → AreReads events → NoneIsRefused q b events
  none_reads b [] are = tt
  none_reads b (Arrives p chunk_id chunk ∷ events) are = absurd are
  none_reads b (ArrivesInPart p chunk_id chunk ∷ events) are = absurd are
  none_reads b (Patched p patches ∷ events) are = absurd are
  none_reads b (Committed image patches ∷ events) are = absurd are
  none_reads b (Closed p ∷ events) are = absurd are
  none_reads b (Read p limit ∷ events) are = none_reads (buffer_after b (Read p limit)) events are

  none_closes : (b : Buffer) (place : ℕ) (specs : List WriterSpec) (events : List Event) → AreReads events
      → NoneIsRefused q b (closes_from place specs ++ events)
  none_closes b place [] events are = none_reads b events are
  none_closes b place (spec ∷ specs) events are = none_closes (buffer_after b (Closed (sequence_of place))) (suc place) specs events are

  none_both : (b : Buffer) (events later : List Event) → NoneIsRefused q b events → NoneIsRefused q (state_after b events) later
      → NoneIsRefused q b (events ++ later)
  none_both b [] later none all = all
  none_both b (Arrives p chunk_id chunk ∷ events) later none all =
      none_both (buffer_after b (Arrives p chunk_id chunk)) events later none all
  none_both b (ArrivesInPart p chunk_id chunk ∷ events) later none all =
      none_both (buffer_after b (ArrivesInPart p chunk_id chunk)) events later none all
  none_both b (Patched p patches ∷ events) later none all = none_both (buffer_after b (Patched p patches)) events later none all
  none_both b (Committed image patches ∷ events) later none all =
      (none.0, none_both (buffer_after b (Committed image patches)) events later none.1 all)
  none_both b (Closed p ∷ events) later none all = none_both (buffer_after b (Closed p)) events later none all
  none_both b (Read p limit ∷ events) later none all = none_both (buffer_after b (Read p limit)) events later none all

module _ (setup : Setup) (limits : Limits) (place target : ℕ) (names : buffer_of setup place ≡ target + 1) where
  abbrev brought : frame.Commit → Commit
  brought commit = record { image = image_placed setup limits commit; patches = patches_placed setup commit }

  abbrev event_of : frame.Commit → Event
  event_of commit = Committed (image_placed setup limits commit) (patches_placed setup commit)

  abbrev Comes : List Buffer → List Event → List Commit → Type 0
  Comes buffers events commits =
      (commits_in (sequence_of place) events ≡ commits) × NoneIsRefused (sequence_of place) (buffer_at buffers target) events

  -- one commit
  commit_comes : (buffers : List Buffer) (commit : frame.Commit) → 1 ≤ commit.header.writer_id → (own on : Bool)
      → (source_of commit == place) ≡ own → is_on_target setup commit ≡ on
      → (own ≡ true
      → cond on (is_refusal (image_arrival_of (buffer_at buffers (commit.target - 1)) (image_placed setup limits commit))) true ≡ false)
      → Comes buffers (cond on (event_of commit ∷ []) []) (cond own (brought commit ∷ []) [])
  commit_comes buffers commit least true true own on taken =
      let source : source_of commit ≡ place = eqb-true (source_of commit) place own in
      let its : (commit.header.writer_id + 1 == sequence_of place) ≡ true =
      eq-eqb (commit.header.writer_id + 1) (sequence_of place) (omega (arith, source, least)) in
      let named : buffer_of setup place ≡ commit.target =
      sym (ap (buffer_of setup) source) ∙ eqb-true (buffer_of setup (source_of commit)) commit.target on in
      let index : target ≡ commit.target - 1 = omega (arith, names, named) in
      let image : Image = image_placed setup limits commit in (
        ap (λ (b : Bool). cond b (brought commit ∷ []) []) its,
        (
          (λ e. ap (λ (n : ℕ). refuses (image_arrival_of (buffer_at buffers n) image)) index
              ∙ same_refusal (image_arrival_of (buffer_at buffers (commit.target - 1)) image) ∙ taken refl),
          tt,
        ),
      )
  commit_comes buffers commit least true false own on taken = absurd (false≢true (sym (taken refl)))
  commit_comes buffers commit least false true own on taken =
      let apart : source_of commit ≢ place = λ e. false≢true (sym own ∙ eq-eqb (source_of commit) place e) in
      let other : (commit.header.writer_id + 1 == sequence_of place) ≡ false =
      ne_eqb (commit.header.writer_id + 1) (sequence_of place) (λ e. apart (omega (arith, e, least))) in (
        ap (λ (b : Bool). cond b (brought commit ∷ []) []) other,
        ((λ e. absurd (false≢true (sym other ∙ e))), tt),
      )
  commit_comes buffers commit least false false own on taken = (refl, tt)

  frame_comes : (buffers : List Buffer) (one : Frame) → IsCounted one → AllAreTaken setup limits place buffers (one ∷ [])
      → Comes buffers (frame_events setup limits buffers one) (sent_by setup limits place (one ∷ []))
  frame_comes buffers (Commits commit) is taken =
      commit_comes buffers commit is.1 (source_of commit == place) (is_on_target setup commit) refl refl taken.0
  frame_comes buffers (Reads buffer) is taken =
      let events : List Event = reads_in setup buffers buffer MAX_NUMBER in
      let are = buffer_reads setup buffers buffer MAX_NUMBER in
      (in_reads (sequence_of place) events are, none_reads (sequence_of place) (buffer_at buffers target) events are)
  frame_comes buffers Closes is taken = (refl, tt)

  sent_first : (one : Frame) (frames : List Frame)
      → sent_by setup limits place (one ∷ []) ++ sent_by setup limits place frames ≡ sent_by setup limits place (one ∷ frames)
  sent_first (Commits commit) frames = by_own (source_of commit == place)
    where
      by_own : (b : Bool) → cond b (brought commit ∷ []) [] ++ sent_by setup limits place frames
          ≡ cond b (brought commit ∷ sent_by setup limits place frames) (sent_by setup limits place frames)
      by_own true = refl
      by_own false = refl
  sent_first (Reads buffer) frames = refl
  sent_first Closes frames = refl

  pub sent_comes : (frames : List Frame) (buffers : List Buffer) → target < length buffers → AreCounted frames
      → AllAreTaken setup limits place buffers frames
      → Comes buffers (played setup limits buffers frames) (sent_by setup limits place frames)
  sent_comes [] buffers inside are taken = (refl, tt)
  sent_comes (one ∷ frames) buffers inside are taken =
      let events : List Event = frame_events setup limits buffers one in
      let next : List Buffer = buffers_after buffers events in
      let later : List Event = played setup limits next frames in
      let rest = sent_comes frames next (subst (λ (n : ℕ). target < n) (sym (length_after buffers events)) inside) are.1 taken.1 in
      let first = frame_comes buffers one are.0 (taken.0, tt) in (
        in_both (sequence_of place) events later
            ∙ ap (λ (cs : List Commit). cs ++ commits_in (sequence_of place) later) first.0
            ∙ ap (λ (cs : List Commit). sent_by setup limits place (one ∷ []) ++ cs) rest.0
            ∙ sent_first one frames,
        none_both (sequence_of place) (buffer_at buffers target) events later first.1
            (subst (λ (b : Buffer). NoneIsRefused (sequence_of place) b later) (at_after buffers target events inside) rest.1),
      )

pub sent_streams_come : SentStreamsCome
sent_streams_come config setup made stream place size calls pages is =
    let limits : Limits = config_limits config in
    let firsts : List Buffer = config_buffers config setup in
    let frames : List Frame = frames_of limits stream in
    let target : ℕ = is.has.source.target_buffer in
    let named : buffer_of setup place ≡ target + 1 =
    ap (λ (s : WriterSpec). s.buffer)
    (get_or_from_slice_get setup.writers place (writer_asked is.has.source) no_writer (writer_is config setup made place is.has)) in
    let inside : target < length firsts = subst (λ (n : ℕ). target < n) (sym (buffers_long config setup)) is.has.target in
    let front : List Event = played setup limits firsts frames in
    let left : List Buffer = buffers_after firsts front in
    let shut : List Buffer = buffers_after left (closes_from 0 setup.writers) in
    let reads : List Event = reads_from setup shut 1 (length left) in
    let are = all_reads setup shut 1 (length left) in
    let come = sent_comes setup limits place target named frames firsts inside (stream_counted limits stream) is.taken in
    let same : commits_in (sequence_of place) (stream_events config setup stream) ≡ sent_by setup limits place frames =
    in_both (sequence_of place) front (ending setup left)
    ∙ ap (λ (cs : List Commit). cs ++ commits_in (sequence_of place) (ending setup left)) come.0
    ∙ ap (λ (cs : List Commit). sent_by setup limits place frames ++ cs) (in_closes (sequence_of place) 0 setup.writers reads are)
    ∙ append-nil (sent_by setup limits place frames) in
    record {
      has = is.has;
      cut = is.cut;
      each_once = subst (λ (cs : List Commit). IsPermutation cs (page_commits (sequence_of place) 0 pages)) (sym same) is.each_once;
      accepted = none_both (sequence_of place) (buffer_at firsts target) front (ending setup left) come.1
          (none_closes (sequence_of place) (state_after (buffer_at firsts target) front) 0 setup.writers reads are);
      behind = subst (λ (cs : List Commit). PatchesComeBehind [] cs) (sym same) is.behind;
      lasts = subst (λ (cs : List Commit). LastsComeLast (patches_brought cs)) (sym same) is.lasts;
    }
