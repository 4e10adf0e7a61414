-- Buffers that are read one after another.
use Rattle.std.proofs.Common.{◌≡◌, ◌∙◌, ℕ, suc, ◌+◌, ◌-◌, ◌<◌, ◌≤◌, List, [], ◌++◌, length, map, refl, sym, ap, subst, append_assoc, append-nil, arith, add-one}
use Rattle.byte_io.specs.Bytes.{Intake, after_told, TakesPart}
use Rattle.byte_io.proofs.Told.{after_told_again, after_told_nothing, part_first, part_second}
use Rattle.trace_base.specs.declared.limits.TheConstants.{MAX_NUMBER}
use Rattle.trace_model.specs.Buffers.{Buffer}
use Rattle.trace_model.specs.Delivery.{trace_of}
use Rattle.trace_model.specs.History.{Event, buffers_after, records_after}
use Rattle.chunk_plain.specs.Histories.{history_of}
use Rattle.chunk_plain.specs.Meaning.{Meaning, IsServiceStep}
use Rattle.chunk_plain.specs.Setup.{Setup}
use Rattle.chunk_plain.specs.Views.{ServiceView}
use Rattle.world_model.specs.FirstBuffers as first
use Rattle.trace_buffer.specs.declared.answers.BufferSpec.{BufferSpec}
use Rattle.service_core.specs.Agreement.{KeepsRest, ServiceAgrees, first_of, spec_value}
use Rattle.service_core.specs.Reading.{FailsAmong, ReadsAll, read_moment, reads_in}
use Rattle.service_core.proofs.ReadingLemmas.{records_append, trace_append}
use Rattle.service_core.proofs.RouteLemmas.{buffers_append, buffers_none}
use Rattle.stream_producer.specs.declared.player.Player.{Player}
use Rattle.stream_producer.specs.Ending.{ReadsOut, due_of_reads}
use Rattle.stream_producer.specs.History.{reads_from}
use Rattle.stream_producer.specs.Standing.{Serves, view_of}
use Rattle.stream_producer.proofs.CallLemmas.{serves_on, buffers_on}
use Rattle.stream_producer.proofs.ReadLemmas.{part_of_reads}

module _ {T W S : Type 0} (means : Meaning T W S) (old : Player T S) (before : Intake) where
  -- so many buffers were read; the reads of the others are those that are left
  pub record ReadsTo (count : ℕ) (now : Player T S) (taken : Intake) : Type 0 where
    pub most : count ≤ length old.service.specs.items
    pub served : Serves means now
    pub setup_stays : means.setup now.table ≡ means.setup old.table
    pub specs : now.service.specs.items ≡ old.service.specs.items
    pub events : List Event
    pub rest : reads_from (means.setup old.table) old.service.buffers.items 1 (length old.service.specs.items)
        ≡ events
        ++ reads_from (means.setup old.table) now.service.buffers.items (count + 1) (length old.service.specs.items - count)
    pub history : history_of (view_of means now) ≡ history_of (view_of means old) ++ events
    pub buffers : now.service.buffers.items ≡ buffers_after old.service.buffers.items events
    pub taken_is : taken ≡ after_told before (trace_of (records_after old.service.buffers.items events))
    pub commits : now.commits ≡ old.commits
    pub refused : now.refused ≡ old.refused

  pub reads_none : Serves means old → ReadsTo 0 old before
  reads_none was = record {
    most = omega arith;
    served = was;
    setup_stays = refl;
    specs = refl;
    events = [];
    rest = ap (reads_from (means.setup old.table) old.service.buffers.items 1)
        (let same : length old.service.specs.items ≡ length old.service.specs.items - 0 = omega arith in same);
    history = sym (append-nil (history_of (view_of means old)));
    buffers = sym (buffers_none old.service.buffers.items);
    taken_is = sym (after_told_nothing before);
    commits = refl;
    refused = refl;
  }

  -- the reads that are left, of which the first is that of the next buffer
  next_is : (count : ℕ) (now : Player T S) → count < length old.service.specs.items
      → reads_from (means.setup old.table) now.service.buffers.items (count + 1) (length old.service.specs.items - count)
      ≡ reads_in (means.setup old.table) now.service.buffers.items (count + 1) MAX_NUMBER
      ++ reads_from (means.setup old.table)
      (buffers_after now.service.buffers.items (reads_in (means.setup old.table) now.service.buffers.items (count + 1) MAX_NUMBER))
      (count + 1 + 1) (length old.service.specs.items - (count + 1))
  next_is count now below =
      let left : length old.service.specs.items - count ≡ suc (length old.service.specs.items - (count + 1)) = omega (arith, below) in
      let events : List Event = reads_in (means.setup old.table) now.service.buffers.items (count + 1) MAX_NUMBER in
      ap (reads_from (means.setup old.table) now.service.buffers.items (count + 1)) left
      ∙ ap (λ (n : ℕ). events ++ reads_from (means.setup old.table) (buffers_after now.service.buffers.items events) n
      (length old.service.specs.items - (count + 1))) (sym (add-one (count + 1)))

  pub reads_more : (count : ℕ) (now new : Player T S) (taken after : Intake) → count < length old.service.specs.items
      → ReadsTo count now taken
      → ServiceAgrees (means.setup now.table) (view_of means new) new.service
      → IsServiceStep means now.table now.service.seat new.table new.service.seat
      → KeepsRest (means.setup now.table) now.service new.service
      → (delivered : ℕ)
      → ReadsAll (means.setup now.table) now.service (count + 1) MAX_NUMBER delivered (read_moment (view_of means now) taken) (read_moment (view_of means new) after)
      → new.commits ≡ now.commits → new.refused ≡ now.refused → ReadsTo (count + 1) new after
  reads_more count now new taken after below so agrees step keeps delivered reads commits refused =
      let setup : Setup = means.setup old.table in
      let bs : List Buffer = old.service.buffers.items in
      let here : List Buffer = now.service.buffers.items in
      let shown : List Event = reads_in (means.setup now.table) here (count + 1) MAX_NUMBER in
      let more : List Event = reads_in setup here (count + 1) MAX_NUMBER in
      let same : shown ≡ more = ap (λ (s : Setup). reads_in s here (count + 1) MAX_NUMBER) so.setup_stays in
      let first_is : first_of (means.setup now.table) new.service ≡ first_of (means.setup now.table) now.service =
      ap (λ (specs : List BufferSpec). first.first_buffers (means.setup now.table) 1 (map spec_value specs)) keeps.fields.specs in
      let buffers_are : new.service.buffers.items ≡ buffers_after here more =
      buffers_on means now new so.served agrees shown first_is reads.notes.history ∙ ap (buffers_after here) same in
      record {
        most = omega (arith, below);
        served = serves_on means now new so.served agrees step;
        setup_stays = step.setup_stays ∙ so.setup_stays;
        specs = keeps.fields.specs ∙ so.specs;
        events = so.events ++ more;
        rest = so.rest ∙ ap (λ (es : List Event). so.events ++ es) (next_is count now below)
            ∙ sym (append_assoc so.events more
            (reads_from setup (buffers_after here more) (count + 1 + 1) (length old.service.specs.items - (count + 1))))
            ∙ ap (λ (buffers : List Buffer). (so.events ++ more)
            ++ reads_from setup buffers (count + 1 + 1) (length old.service.specs.items - (count + 1)))
            (sym buffers_are);
        history = reads.notes.history
            ∙ ap (λ (es : List Event). history_of (view_of means now) ++ es) same
            ∙ ap (λ (es : List Event). es ++ more) so.history
            ∙ append_assoc (history_of (view_of means old)) so.events more;
        buffers = buffers_are ∙ ap (λ (buffers : List Buffer). buffers_after buffers more) so.buffers
            ∙ sym (buffers_append bs so.events more);
        taken_is = reads.taken
            ∙ ap (λ (es : List Event). after_told taken (trace_of (records_after here es))) same
            ∙ ap (λ (t : Intake). after_told t (trace_of (records_after here more))) so.taken_is
            ∙ after_told_again before (trace_of (records_after bs so.events)) (trace_of (records_after here more))
            ∙ ap (after_told before) (sym (both so.events more here so.buffers));
        commits = commits ∙ so.commits;
        refused = refused ∙ so.refused;
      }
    where
      both : (a b : List Event) (here : List Buffer) → here ≡ buffers_after old.service.buffers.items a
          → trace_of (records_after old.service.buffers.items (a ++ b))
          ≡ trace_of (records_after old.service.buffers.items a) ++ trace_of (records_after here b)
      both a b here is =
          let bs : List Buffer = old.service.buffers.items in
          ap trace_of (records_append bs a b)
          ∙ trace_append (records_after bs a) (records_after (buffers_after bs a) b)
          ∙ ap (λ (buffers : List Buffer). trace_of (records_after bs a) ++ trace_of (records_after buffers b)) (sym is)

  pub reads_whole : (count : ℕ) (now : Player T S) (taken : Intake) → ReadsTo count now taken → length old.service.specs.items ≤ count
      → ReadsOut means old now before taken
  reads_whole count now taken so past =
      let none : length old.service.specs.items - count ≡ 0 = omega (arith, past) in
      let setup : Setup = means.setup old.table in
      let all : reads_from setup old.service.buffers.items 1 (length old.service.specs.items) ≡ so.events =
      so.rest ∙ ap (λ (n : ℕ). so.events ++ reads_from setup now.service.buffers.items (count + 1) n) none ∙ append-nil so.events in
      record {
        served = so.served;
        setup_stays = so.setup_stays;
        specs = so.specs;
        history = so.history ∙ ap (λ (es : List Event). history_of (view_of means old) ++ es) (sym all);
        buffers = so.buffers ∙ ap (buffers_after old.service.buffers.items) (sym all);
        taken = so.taken_is ∙ ap (λ (es : List Event). after_told before (trace_of (records_after old.service.buffers.items es))) (sym all);
        commits = so.commits;
        refused = so.refused;
      }

  -- where a write failed in the next one
  pub reads_fail : (count : ℕ) (now : Player T S) (view : ServiceView) (taken after : Intake) → count < length old.service.specs.items
      → ReadsTo count now taken
      → FailsAmong (means.setup now.table) now.service (count + 1) MAX_NUMBER (read_moment (view_of means now) taken) (read_moment view after)
      → TakesPart before after (due_of_reads means old)
  reads_fail count now view taken after below so fails =
      let setup : Setup = means.setup old.table in
      let bs : List Buffer = old.service.buffers.items in
      let here : List Buffer = now.service.buffers.items in
      let more : List Event = reads_in setup here (count + 1) MAX_NUMBER in
      let last : List Event = reads_from setup (buffers_after here more) (count + 1 + 1) (length old.service.specs.items - (count + 1)) in
      let all = so.rest ∙ ap (λ (es : List Event). so.events ++ es) (next_is count now below) in
      let part : TakesPart taken after (trace_of (records_after here more)) =
      subst (λ (s : Setup). TakesPart taken after (trace_of (records_after here (reads_in s here (count + 1) MAX_NUMBER)))) so.setup_stays
      (part_of_reads (means.setup now.table) now.service (count + 1) MAX_NUMBER (read_moment (view_of means now) taken) (read_moment view after) fails) in
      let due : due_of_reads means old
      ≡ trace_of (records_after bs so.events)
      ++ (trace_of (records_after here more) ++ trace_of (records_after (buffers_after here more) last)) =
      ap (λ (es : List Event). trace_of (records_after bs es)) all
      ∙ two bs so.events (more ++ last)
      ∙ ap (λ (buffers : List Buffer). trace_of (records_after bs so.events) ++ trace_of (records_after buffers (more ++ last)))
      (sym so.buffers)
      ∙ ap (λ (x : List ℕ). trace_of (records_after bs so.events) ++ x) (two here more last) in
      subst (λ (bytes : List ℕ). TakesPart before after bytes) (sym due)
      (part_second before taken after (trace_of (records_after bs so.events))
      (trace_of (records_after here more) ++ trace_of (records_after (buffers_after here more) last)) so.taken_is
      (part_first taken after (trace_of (records_after here more)) (trace_of (records_after (buffers_after here more) last)) part))
    where
      two : (buffers : List Buffer) (a b : List Event)
          → trace_of (records_after buffers (a ++ b))
          ≡ trace_of (records_after buffers a) ++ trace_of (records_after (buffers_after buffers a) b)
      two buffers a b = ap trace_of (records_append buffers a b)
          ∙ trace_append (records_after buffers a) (records_after (buffers_after buffers a) b)
