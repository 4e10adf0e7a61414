-- A whole stream that has no fault.
use Rattle.std.proofs.Common.{◌≡◌, ◌∙◌, ℕ, ◌+◌, List, [], ◌++◌, length, Ok, refl, sym, ap, subst}
use Rattle.byte_io.specs.Bytes.{Intake, after_told, TakesPart}
use Rattle.byte_io.proofs.Told.{after_told_again, after_told_nothing, part_first, part_second}
use Rattle.trace_model.specs.Buffers.{Buffer}
use Rattle.trace_model.specs.Counts.{raised}
use Rattle.trace_model.specs.Delivery.{trace_of}
use Rattle.trace_model.specs.History.{Event, buffers_after, records_after}
use Rattle.chunk_plain.specs.Histories.{history_of}
use Rattle.chunk_plain.specs.Meaning.{Meaning}
use Rattle.chunk_plain.specs.Setup.{Setup}
use Rattle.service_core.specs.Agreement.{first_of}
use Rattle.service_core.proofs.ReadingLemmas.{records_append, trace_append}
use Rattle.service_core.proofs.RouteLemmas.{buffers_none}
use Rattle.config_text.specs.Configs.{ConfigOf}
use Rattle.stream_frames.specs.Frames.{Frame, Limits}
use Rattle.stream_frames.specs.Framing.{Feeding, beginning, fed, frames_of}
use Rattle.stream_frames.specs.Values.{limits_of, feeding_of}
use Rattle.stream_producer.specs.declared.producer.StreamCore.{StreamCore}
use Rattle.stream_producer.specs.Feeding.{IsFeeding, IsMadeFor, HasTaken, IsTraceOf}
use Rattle.stream_producer.specs.History.{commits_in, ending, played, refused_in}
use Rattle.stream_producer.specs.Setups.{config_buffers, config_limits}
use Rattle.stream_producer.specs.Standing.{view_of, due_of}
use Rattle.stream_producer.specs.Whole.{TakesBytes, stream_trace}
use Rattle.stream_producer.proofs.FinishLemmas.{stand}

-- ---- at the beginning

none_framed : (limits : Limits) → frames_of limits [] ≡ []
unfolding fed
none_framed limits = refl

nothing_fed : (limits : Limits) → (fed limits beginning []).ends ≡ Ok beginning
unfolding fed
nothing_fed limits = refl

-- nothing was taken yet
pub made_taken : {T W S : Type 0} (means : Meaning T W S) (config : ConfigOf) (core : StreamCore T S) → IsMadeFor means config core
    → HasTaken means config [] core
made_taken means config core made =
    let setup = means.setup core.player.table in
    let limits = config_limits config in
    let first = config_buffers config setup in
    let none = none_framed limits in
    record {
      setup = made.setup;
      limits = made.limits;
      first = made.first;
      feeding = nothing_fed limits ∙ ap (λ (f : Feeding). Ok f) (sym made.feeding);
      counted = ap (λ (f : Feeding). f.at + length f.have) made.feeding;
      history = made.history ∙ sym (ap (played setup limits first) none);
      commits = made.commits ∙ sym (ap (λ (frames : List Frame). raised 0 (commits_in frames)) none);
      refused = made.refused ∙ sym (ap (λ (frames : List Frame). raised 0 (refused_in setup limits first frames)) none);
    }

pub made_trace : {T W S : Type 0} (means : Meaning T W S) (config : ConfigOf) (core : StreamCore T S) (start : Intake)
    → IsTraceOf means config [] core start start
made_trace means config core start =
    let setup = means.setup core.player.table in
    let limits = config_limits config in
    let first = config_buffers config setup in
    sym (after_told_nothing start)
    ∙ sym (ap (λ (frames : List Frame). after_told start (trace_of (records_after first (played setup limits first frames)))) (none_framed limits))

-- ---- bytes alone are taken

pub took_part : (old new : Intake) (bytes : List ℕ) → TakesPart old new bytes → TakesBytes old new
took_part old new bytes part = record { bytes = part.part; taken = part.taken }

-- some, and then all of others
pub took_all : (old mid new : Intake) (first second : List ℕ) → mid ≡ after_told old first → new ≡ after_told mid second → TakesBytes old new
took_all old mid new first second one two =
    record { bytes = first ++ second; taken = two ∙ ap (λ (t : Intake). after_told t second) one ∙ after_told_again old first second }

-- some, and then a part of others
pub took_more : (old mid new : Intake) (first second : List ℕ) → mid ≡ after_told old first → TakesPart mid new second → TakesBytes old new
took_more old mid new first second one part = took_all old mid new first part.part one part.taken

-- ---- a write that failed

module _ {T W S : Type 0} (means : Meaning T W S) (config : ConfigOf) (stream : List ℕ) (core : StreamCore T S) where
  -- the trace is what the frames write, and then what the end writes
  cut_at_end : (setup : Setup) → stream_trace config setup stream
      ≡ trace_of (records_after (config_buffers config setup) (played setup (config_limits config) (config_buffers config setup) (frames_of (config_limits config) stream)))
      ++ trace_of (records_after (buffers_after (config_buffers config setup)
      (played setup (config_limits config) (config_buffers config setup) (frames_of (config_limits config) stream)))
      (ending setup (buffers_after (config_buffers config setup)
      (played setup (config_limits config) (config_buffers config setup) (frames_of (config_limits config) stream)))))
  cut_at_end setup =
      let first = config_buffers config setup in
      let events = played setup (config_limits config) first (frames_of (config_limits config) stream) in
      let here = buffers_after first events in
      ap trace_of (records_append first events (ending setup here))
      ∙ trace_append (records_after first events) (records_after here (ending setup here))

  -- in the frames
  pub feed_part : (before after : Intake) → IsFeeding means core → IsMadeFor means config core → feeding_of core.reader ≡ beginning
      → TakesPart before after (due_of means (limits_of core.reader) core.player (fed (limits_of core.reader) (feeding_of core.reader) stream).frames)
      → TakesPart before after (stream_trace config (means.setup core.player.table) stream)
  feed_part before after ready made start part =
      let setup = means.setup core.player.table in
      let limits = config_limits config in
      let first = config_buffers config setup in
      let events = played setup limits first (frames_of limits stream) in
      let here = buffers_after first events in
      let bs : core.player.service.buffers.items ≡ first =
      ready.ready.stands.served.agrees.buffers
      ∙ ap (buffers_after (first_of setup core.player.service)) made.history
      ∙ buffers_none (first_of setup core.player.service) ∙ made.first in
      let due : due_of means (limits_of core.reader) core.player (fed (limits_of core.reader) (feeding_of core.reader) stream).frames
      ≡ trace_of (records_after first events) =
      ap (λ (f : Feeding). due_of means (limits_of core.reader) core.player (fed (limits_of core.reader) f stream).frames) start
      ∙ ap (λ (l : Limits). due_of means l core.player (fed l beginning stream).frames) made.limits
      ∙ ap (λ (buffers : List Buffer). trace_of (records_after buffers (played setup limits buffers (frames_of limits stream)))) bs in
      subst (λ (bytes : List ℕ). TakesPart before after bytes) (sym (cut_at_end setup))
      (part_first before after (trace_of (records_after first events)) (trace_of (records_after here (ending setup here)))
      (subst (λ (bytes : List ℕ). TakesPart before after bytes) due part))

  -- in the end
  pub end_part_of : (start before after : Intake) → IsFeeding means core → HasTaken means config stream core
      → IsTraceOf means config stream core start before
      → TakesPart before after (trace_of (records_after core.player.service.buffers.items (ending (means.setup core.player.table) core.player.service.buffers.items)))
      → TakesPart start after (stream_trace config (means.setup core.player.table) stream)
  end_part_of start before after ready taken trace part =
      let setup = means.setup core.player.table in
      let first = config_buffers config setup in
      let events = played setup (config_limits config) first (frames_of (config_limits config) stream) in
      let here = buffers_after first events in
      subst (λ (bytes : List ℕ). TakesPart start after bytes) (sym (cut_at_end setup))
      (part_second start before after (trace_of (records_after first events)) (trace_of (records_after here (ending setup here))) trace
      (subst (λ (buffers : List Buffer). TakesPart before after (trace_of (records_after buffers (ending setup buffers))))
      (stand means config stream core start before after ready taken) part))
