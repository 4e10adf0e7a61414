-- The stream so far, in whatever pieces it came.
use Rattle.std.proofs.Common.{◌≡◌, ℕ, ◌+◌, List, ◌++◌, length, sym, ap, subst, ◌∙◌}
use Rattle.std.proofs.lemmas.List.{length-append}
use Rattle.byte_io.specs.Bytes.{Intake, after_told, TakesPart}
use Rattle.byte_io.proofs.Told.{after_told_again, part_second}
use Rattle.trace_model.specs.Buffers.{Buffer}
use Rattle.trace_model.specs.Counts.{raised}
use Rattle.trace_model.proofs.CountedLemmas.{raised-raised}
use Rattle.trace_model.specs.Delivery.{trace_of}
use Rattle.trace_model.specs.History.{Event, buffers_after, records_after}
use Rattle.chunk_plain.specs.Histories.{history_of}
use Rattle.chunk_plain.specs.Meaning.{Meaning}
use Rattle.chunk_plain.specs.Setup.{Setup}
use Rattle.service_core.specs.Agreement.{first_of}
use Rattle.service_core.proofs.ReadingLemmas.{records_append, trace_append}
use Rattle.config_text.specs.Configs.{ConfigOf}
use Rattle.stream_frames.specs.Frames.{Limits}
use Rattle.stream_frames.specs.Framing.{Progress, beginning, fed, frames_of}
use Rattle.stream_frames.specs.Values.{limits_of, feeding_of}
use Rattle.stream_frames.proofs.PieceLemmas.{pieces_are_one_stream}
use Rattle.stream_producer.specs.declared.producer.StreamCore.{StreamCore}
use Rattle.stream_producer.specs.declared.fault.StreamFault.{StreamFault}
use Rattle.stream_producer.specs.declared.fault.StreamFault.TheVariants.{WriteFault, BadFrame, NoEnd}
use Rattle.stream_producer.specs.Feeding.{IsFeeding, Feeds, Stops, HasTaken, IsTraceOf, StopsStream, trace_so_far}
use Rattle.stream_producer.specs.History.{played, commits_in, refused_in}
use Rattle.stream_producer.specs.Setups.{IsSetupFor, config_buffers, config_limits}
use Rattle.stream_producer.specs.Standing.{due_of, view_of}
use Rattle.stream_producer.proofs.FeedLemmas.{joined, joined_is}
use Rattle.stream_producer.proofs.PlayLemmas.{played_append, refused_append, commits_append}

module _ {T W S : Type 0} (means : Meaning T W S) (config : ConfigOf) (stream piece : List ℕ) (old : StreamCore T S)
    (ready : IsFeeding means old) (was : HasTaken means config stream old) where
  whole : fed (config_limits config) beginning (stream ++ piece)
      ≡ joined (frames_of (config_limits config) stream) (fed (limits_of old.reader) (feeding_of old.reader) piece)
  whole =
      pieces_are_one_stream (config_limits config) beginning stream piece
      ∙ joined_is (fed (config_limits config) beginning stream) (feeding_of old.reader) (λ next. fed (config_limits config) next piece)
      was.feeding
      ∙ ap (λ (l : Limits). joined (frames_of (config_limits config) stream) (fed l (feeding_of old.reader) piece)) (sym was.limits)

  -- the buffers are those behind the history so far
  stand : old.player.service.buffers.items
      ≡ buffers_after (config_buffers config (means.setup old.player.table))
      (played (means.setup old.player.table) (config_limits config) (config_buffers config (means.setup old.player.table))
      (frames_of (config_limits config) stream))
  stand =
      ready.ready.stands.served.agrees.buffers
      ∙ ap (λ (bs : List Buffer). buffers_after bs (history_of (view_of means old.player))) was.first
      ∙ ap (buffers_after (config_buffers config (means.setup old.player.table))) was.history

  -- the history with the piece
  grown : played (means.setup old.player.table) (config_limits config) (config_buffers config (means.setup old.player.table))
      (frames_of (config_limits config) (stream ++ piece))
      ≡ played (means.setup old.player.table) (config_limits config) (config_buffers config (means.setup old.player.table))
      (frames_of (config_limits config) stream)
      ++ played (means.setup old.player.table) (limits_of old.reader) old.player.service.buffers.items
      (fed (limits_of old.reader) (feeding_of old.reader) piece).frames
  grown =
      let setup = means.setup old.player.table in
      let bs = config_buffers config setup in
      let l = config_limits config in
      let before = frames_of l stream in
      let more = (fed (limits_of old.reader) (feeding_of old.reader) piece).frames in
      ap (λ (p : Progress). played setup l bs p.frames) whole
      ∙ played_append setup l bs before more
      ∙ ap (λ (buffers : List Buffer). played setup l bs before ++ played setup l buffers more) (sym stand)
      ∙ ap (λ (k : Limits). played setup l bs before ++ played setup k old.player.service.buffers.items more) (sym was.limits)

  -- the trace with the piece
  trace_grown : trace_so_far config (means.setup old.player.table) (stream ++ piece)
      ≡ trace_so_far config (means.setup old.player.table) stream
      ++ due_of means (limits_of old.reader) old.player (fed (limits_of old.reader) (feeding_of old.reader) piece).frames
  trace_grown =
      let setup = means.setup old.player.table in
      let bs = config_buffers config setup in
      let first = played setup (config_limits config) bs (frames_of (config_limits config) stream) in
      let more = played setup (limits_of old.reader) old.player.service.buffers.items
      (fed (limits_of old.reader) (feeding_of old.reader) piece).frames in
      ap (λ (events : List Event). trace_of (records_after bs events)) grown
      ∙ ap trace_of (records_append bs first more)
      ∙ trace_append (records_after bs first) (records_after (buffers_after bs first) more)
      ∙ ap (λ (buffers : List Buffer). trace_of (records_after bs first) ++ trace_of (records_after buffers more)) (sym stand)

  -- the sink took what is due of the piece
  trace_on : (before after start : Intake) → IsTraceOf means config stream old start before
      → after ≡ after_told before (due_of means (limits_of old.reader) old.player
      (fed (limits_of old.reader) (feeding_of old.reader) piece).frames)
      → IsTraceOf means config (stream ++ piece) old start after
  trace_on before after start was_trace taken =
      let due = due_of means (limits_of old.reader) old.player (fed (limits_of old.reader) (feeding_of old.reader) piece).frames in
      taken
      ∙ ap (λ (t : Intake). after_told t due) was_trace
      ∙ after_told_again start (trace_so_far config (means.setup old.player.table) stream) due
      ∙ ap (after_told start) (sym trace_grown)

  -- a fault in the piece is one of the stream with it
  pub stops_whole : (new : StreamCore T S) (before after start : Intake) (fault : StreamFault)
      → IsTraceOf means config stream old start before
      → Stops means (fed (limits_of old.reader) (feeding_of old.reader) piece) old new before after fault
      → StopsStream means config (stream ++ piece) old start after fault
  stops_whole new before after start WriteFault was_trace part =
      let due = due_of means (limits_of old.reader) old.player (fed (limits_of old.reader) (feeding_of old.reader) piece).frames in
      subst (λ (bytes : List ℕ). TakesPart start after bytes) (sym trace_grown)
      (part_second start before after (trace_so_far config (means.setup old.player.table) stream) due was_trace part)
  stops_whole new before after start (BadFrame offset) was_trace stops = (
    ap (λ (p : Progress). p.ends) whole ∙ stops.0,
    trace_on before after start was_trace stops.1.taken,
  )
  stops_whole new before after start (NoEnd offset) was_trace stops = absurd stops

module _ {T W S : Type 0} (means : Meaning T W S) (config : ConfigOf) (stream piece : List ℕ) (old new : StreamCore T S)
    (before after : Intake)
    (ready : IsFeeding means old) (was : HasTaken means config stream old)
    (feeds : Feeds means (fed (limits_of old.reader) (feeding_of old.reader) piece) old new before after) where
  at_setup : (P : Setup → Type 0) → P (means.setup old.player.table) → P (means.setup new.player.table)
  at_setup P holds = subst P (sym feeds.plays.setup_stays) holds

  pub taken_more : (feeding_of new.reader).at + length (feeding_of new.reader).have
      ≡ (feeding_of old.reader).at + length (feeding_of old.reader).have + length piece
      → HasTaken means config (stream ++ piece) new
  taken_more counted =
      let setup = means.setup old.player.table in
      let l = config_limits config in
      let more = (fed (limits_of old.reader) (feeding_of old.reader) piece).frames in
      let all = whole means config stream piece old ready was in
      let so_far = stand means config stream piece old ready was in
      let more_of = grown means config stream piece old ready was in
      record {
        setup = at_setup (λ s. IsSetupFor config s) was.setup;
        limits = feeds.limits ∙ was.limits;
        first = at_setup (λ s. first_of s new.player.service ≡ config_buffers config s) (feeds.plays.first ∙ was.first);
        feeding = ap (λ (p : Progress). p.ends) all ∙ feeds.ends;
        counted = counted ∙ ap (λ (n : ℕ). n + length piece) was.counted ∙ sym (length-append stream piece);
        history = at_setup (λ s. history_of (view_of means new.player)
            ≡ played s l (config_buffers config s) (frames_of l (stream ++ piece)))
            (feeds.plays.history
            ∙ ap (λ (h : List Event). h ++ played setup (limits_of old.reader) old.player.service.buffers.items more) was.history
            ∙ sym more_of);
        commits = feeds.plays.commits
            ∙ ap (λ (n : ℕ). raised n (commits_in more)) was.commits
            ∙ raised-raised 0 (commits_in (frames_of l stream)) (commits_in more)
            ∙ ap (raised 0) (sym (ap (λ (p : Progress). commits_in p.frames) all ∙ commits_append (frames_of l stream) more));
        refused = at_setup (λ s. new.player.refused ≡ raised 0 (refused_in s l (config_buffers config s) (frames_of l (stream ++ piece))))
            (feeds.plays.refused
            ∙ ap (λ (k : Limits). raised old.player.refused (refused_in setup k old.player.service.buffers.items more)) was.limits
            ∙ ap (λ (buffers : List Buffer). raised old.player.refused (refused_in setup l buffers more)) so_far
            ∙ ap (λ (n : ℕ). raised n (refused_in setup l
            (buffers_after (config_buffers config setup) (played setup l (config_buffers config setup) (frames_of l stream))) more))
            was.refused
            ∙ raised-raised 0 (refused_in setup l (config_buffers config setup) (frames_of l stream))
            (refused_in setup l (buffers_after (config_buffers config setup)
            (played setup l (config_buffers config setup) (frames_of l stream))) more)
            ∙ ap (raised 0) (sym (ap (λ (p : Progress). refused_in setup l (config_buffers config setup) p.frames) all
            ∙ refused_append setup l (config_buffers config setup) (frames_of l stream) more)));
      }

  pub trace_more : (start : Intake) → IsTraceOf means config stream old start before
      → IsTraceOf means config (stream ++ piece) new start after
  trace_more start was_trace =
      at_setup (λ s. after ≡ after_told start (trace_so_far config s (stream ++ piece)))
      (trace_on means config stream piece old ready was before after start was_trace feeds.plays.taken)
