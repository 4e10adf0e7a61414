-- A stream that is finished: its end is the closes of its sequences and then the reads of its buffers.
use Rattle.std.proofs.Common.{◌≡◌, ◌∙◌, ℕ, suc, List, [], ◌∷◌, ◌++◌, length, map, take, refl, sym, ap, subst}
use Rattle.std.specs.Prelude.{vec_len}
use Rattle.std.proofs.lemmas.List.{length-map}
use Rattle.trace_buffer.specs.declared.answers.BufferCounts.{BufferCounts}
use Rattle.loss_report.specs.declared.counts.SequenceCounts.{SequenceCounts}
use Rattle.byte_io.specs.Bytes.{Intake, after_told, TakesPart}
use Rattle.byte_io.proofs.Told.{after_told_again}
use Rattle.trace_base.specs.declared.policy.WriterSpec.{WriterSpec}
use Rattle.trace_model.specs.Buffers.{Buffer}
use Rattle.trace_model.specs.Delivery.{Delivered, trace_of}
use Rattle.trace_model.specs.History as model
use Rattle.trace_model.specs.History.{Event, buffer_after, buffers_after, records_after}
use Rattle.chunk_plain.specs.Histories.{history_of}
use Rattle.chunk_plain.specs.Meaning.{Meaning}
use Rattle.chunk_plain.specs.Setup.{Setup, sequence_of}
use Rattle.chunk_plain.specs.Views.{ServiceView}
use Rattle.trace_buffer.specs.Answers.{counts_of}
use Rattle.service_core.specs.declared.service.ServiceCore.{ServiceCore}
use Rattle.service_core.specs.Agreement.{ServiceAgrees, first_of}
use Rattle.service_core.proofs.ReadingLemmas.{records_append, trace_append}
use Rattle.service_core.proofs.RouteLemmas.{buffers_append, length_after}
use Rattle.config_text.specs.Configs.{ConfigOf}
use Rattle.stream_frames.specs.Framing.{frames_of}
use Rattle.stream_producer.specs.declared.player.Player.{Player}
use Rattle.stream_producer.specs.declared.producer.StreamCore.{StreamCore}
use Rattle.stream_producer.specs.Counting.{counts_from}
use Rattle.stream_producer.specs.Ending.{Closes, ReadsOut, due_of_reads}
use Rattle.stream_producer.specs.Feeding.{HasRoom, IsFeeding, HasTaken, IsTraceOf}
use Rattle.stream_producer.specs.History.{closes_from, reads_from, ending, played, stream_history}
use Rattle.stream_producer.specs.Setups.{config_buffers, config_limits}
use Rattle.stream_producer.specs.Standing.{Serves, view_of}
use Rattle.stream_producer.proofs.FrontLemmas.{specs_long}

-- closes write nothing
closes_quiet : (place : ℕ) (specs : List WriterSpec) (bs : List Buffer) → records_after bs (closes_from place specs) ≡ []
closes_quiet place [] bs = refl
closes_quiet place (spec ∷ specs) bs =
    closes_quiet (suc place) specs (map (λ (buffer : Buffer). buffer_after buffer (model.Closed (sequence_of place))) bs)

-- as many buffers as specifications
pub many_buffers : {S : Type 0} (setup : Setup) (view : ServiceView) (core : ServiceCore S) → ServiceAgrees setup view core
    → length core.buffers.items ≡ length core.specs.items
many_buffers setup view core agrees =
    ap (λ (bs : List Buffer). length bs) agrees.buffers ∙ length_after (first_of setup core) (history_of view) ∙ specs_long setup core

counts_long : (bs : List Buffer) (place : ℕ) (specs : List WriterSpec) → length (counts_from bs place specs) ≡ length specs
counts_long bs place [] = refl
counts_long bs place (spec ∷ specs) = ap suc (counts_long bs (suc place) specs)

-- a list that has its full length is all that is kept
pub front_is : {A : Type 0} (xs ys : List A) (n : ℕ) → n ≡ length xs → take n (xs ++ ys) ≡ xs
front_is [] ys n is = ap (λ (k : ℕ). take k ys) is
front_is (x ∷ xs) ys n is = ap (λ (k : ℕ). take k (x ∷ (xs ++ ys))) is ∙ ap (λ zs. x ∷ zs) (front_is xs ys (length xs) refl)

module _ {T W S : Type 0} (means : Meaning T W S) (core : StreamCore T S) (mid : Player T S)
    (was : Serves means core.player) (shut : Closes means core.player mid) where
  abbrev setup : Setup
  setup = means.setup core.player.table

  abbrev bs : List Buffer
  bs = core.player.service.buffers.items

  abbrev closes : List Event
  closes = closes_from 0 (means.setup core.player.table).writers

  abbrev reads : List Event
  reads = reads_from (means.setup core.player.table)
      (buffers_after core.player.service.buffers.items (closes_from 0 (means.setup core.player.table).writers)) 1
      (length core.player.service.buffers.items)

  -- the reads behind the closes
  reads_are : reads_from (means.setup mid.table) mid.service.buffers.items 1 (length mid.service.specs.items) ≡ reads
  reads_are =
      ap (λ (s : Setup). reads_from s mid.service.buffers.items 1 (length mid.service.specs.items)) shut.setup_stays
      ∙ ap (λ (buffers : List Buffer). reads_from setup buffers 1 (length mid.service.specs.items)) shut.buffers
      ∙ ap (reads_from setup (buffers_after bs closes) 1)
      (ap (λ (specs : List _). length specs) shut.specs
      ∙ sym (many_buffers setup (view_of means core.player) core.player.service was.agrees))

  due_is : due_of_reads means mid ≡ trace_of (records_after bs (ending setup bs))
  due_is =
      ap (λ (es : List Event). trace_of (records_after mid.service.buffers.items es)) reads_are
      ∙ ap (λ (buffers : List Buffer). trace_of (records_after buffers reads)) shut.buffers
      ∙ sym (ap trace_of (records_append bs closes reads
      ∙ ap (λ (ds : List Delivered). ds ++ records_after (buffers_after bs closes) reads) (closes_quiet 0 setup.writers bs)))

  -- a part of what the reads write is one of what the end writes
  pub end_part : (before after : Intake) → TakesPart before after (due_of_reads means mid)
      → TakesPart before after (trace_of (records_after core.player.service.buffers.items
      (ending (means.setup core.player.table) core.player.service.buffers.items)))
  end_part before after part = subst (λ (bytes : List ℕ). TakesPart before after bytes) due_is part

  -- the bytes, and the buffers, behind the reads
  pub end_taken : (last : Player T S) (before after : Intake) → ReadsOut means mid last before after
      → after ≡ after_told before (trace_of (records_after core.player.service.buffers.items
      (ending (means.setup core.player.table) core.player.service.buffers.items)))
  end_taken last before after out = out.taken ∙ ap (after_told before) due_is

  pub end_behind : (last : Player T S) (before after : Intake) → ReadsOut means mid last before after
      → last.service.buffers.items ≡ buffers_after core.player.service.buffers.items
      (ending (means.setup core.player.table) core.player.service.buffers.items)
  end_behind last before after out =
      out.buffers
      ∙ ap (buffers_after mid.service.buffers.items) reads_are
      ∙ ap (λ (b : List Buffer). buffers_after b reads) shut.buffers
      ∙ sym (buffers_append bs closes reads)

  pub end_sequences : (last : Player T S) (before after : Intake) → ReadsOut means mid last before after
      → counts_from last.service.buffers.items 0 (means.setup last.table).writers
      ≡ counts_from (buffers_after core.player.service.buffers.items
      (ending (means.setup core.player.table) core.player.service.buffers.items)) 0
      (means.setup core.player.table).writers
  end_sequences last before after out =
      ap (λ (s : Setup). counts_from last.service.buffers.items 0 s.writers) (out.setup_stays ∙ shut.setup_stays)
      ∙ ap (λ (b : List Buffer). counts_from b 0 setup.writers) (end_behind last before after out)

  -- the lists for the counts are filled
  pub buffers_filled : (last : Player T S) (before after : Intake) → ReadsOut means mid last before after → HasRoom means core
      → (items : List BufferCounts) → items ≡ map counts_of last.service.buffers.items → vec_len core.done.buffers ≡ length items
  buffers_filled last before after out room items are =
      room.buffers ∙ sym (ap (λ (specs : List _). length specs) (out.specs ∙ shut.specs))
      ∙ sym (many_buffers (means.setup last.table) (view_of means last) last.service out.served.agrees)
      ∙ sym (length-map last.service.buffers.items counts_of) ∙ sym (ap (λ (xs : List BufferCounts). length xs) are)

  pub sequences_filled : (last : Player T S) (before after : Intake) → ReadsOut means mid last before after → HasRoom means core
      → (items : List SequenceCounts) → items ≡ counts_from last.service.buffers.items 0 (means.setup last.table).writers
      → vec_len core.done.sequences ≡ length items
  sequences_filled last before after out room items are =
      room.sequences ∙ sym (ap (λ (s : Setup). length s.writers) (out.setup_stays ∙ shut.setup_stays))
      ∙ sym (counts_long last.service.buffers.items 0 (means.setup last.table).writers)
      ∙ sym (ap (λ (xs : List SequenceCounts). length xs) are)

-- behind the whole stream
module _ {T W S : Type 0} (means : Meaning T W S) (config : ConfigOf) (stream : List ℕ) (core : StreamCore T S)
    (start before after : Intake) (ready : IsFeeding means core) (was : HasTaken means config stream core) where
  abbrev first : List Buffer
  first = config_buffers config (means.setup core.player.table)

  abbrev events : List Event
  events = played (means.setup core.player.table) (config_limits config) (config_buffers config (means.setup core.player.table))
      (frames_of (config_limits config) stream)

  -- the buffers are those behind the frames
  pub stand : core.player.service.buffers.items ≡ buffers_after first events
  stand =
      ready.ready.stands.served.agrees.buffers
      ∙ ap (λ (buffers : List Buffer). buffers_after buffers (history_of (view_of means core.player))) was.first
      ∙ ap (buffers_after first) was.history

  pub stream_behind : buffers_after core.player.service.buffers.items
      (ending (means.setup core.player.table) core.player.service.buffers.items)
      ≡ buffers_after (config_buffers config (means.setup core.player.table))
      (stream_history (means.setup core.player.table) (config_limits config)
      (config_buffers config (means.setup core.player.table)) (frames_of (config_limits config) stream))
  stream_behind =
      ap (λ (buffers : List Buffer). buffers_after buffers (ending (means.setup core.player.table) buffers)) stand
      ∙ sym (buffers_append first events (ending (means.setup core.player.table) (buffers_after first events)))

  pub stream_taken : IsTraceOf means config stream core start before
      → after ≡ after_told before (trace_of (records_after core.player.service.buffers.items
      (ending (means.setup core.player.table) core.player.service.buffers.items)))
      → after ≡ after_told start (trace_of (records_after (config_buffers config (means.setup core.player.table))
      (stream_history (means.setup core.player.table) (config_limits config)
      (config_buffers config (means.setup core.player.table)) (frames_of (config_limits config) stream))))
  stream_taken trace taken =
      let setup : Setup = means.setup core.player.table in
      let bs : List Buffer = core.player.service.buffers.items in
      let here : List Buffer = buffers_after first events in
      taken
      ∙ ap (λ (t : Intake). after_told t (trace_of (records_after bs (ending setup bs)))) trace
      ∙ ap (λ (buffers : List Buffer). after_told (after_told start (trace_of (records_after first events)))
      (trace_of (records_after buffers (ending setup buffers)))) stand
      ∙ after_told_again start (trace_of (records_after first events)) (trace_of (records_after here (ending setup here)))
      ∙ ap (after_told start) (sym (ap trace_of (records_append first events (ending setup here))
      ∙ trace_append (records_after first events) (records_after here (ending setup here))))
