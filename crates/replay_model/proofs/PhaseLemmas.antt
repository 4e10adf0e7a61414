-- The collects, closes and reads at the end of a schedule, one after another.
use Rattle.std.proofs.Common.{◌≡◌, ◌∙◌, ℕ, zero, suc, ◌+◌, ◌-◌, ◌<◌, ◌≤◌, ◌⊎◌, true, List, [], ◌∷◌, ◌++◌, length, map, refl, sym, ap, subst, arith, inl, inr, append_assoc, append-nil}
use Rattle.std.specs.List.{flat_map}
use Rattle.std.proofs.lemmas.Grind.{flat_map-append}
use Rattle.trace_model.specs.Buffers.{Buffer}
use Rattle.trace_model.specs.Counts.{last_count}
use Rattle.trace_model.specs.Reads.{delivered_by, with_read}
use Rattle.trace_model.specs.History as model
use Rattle.trace_model.specs.History.{Event, buffers_after, reads_of}
use Rattle.chunk_plain.specs.declared.tokens.TheConstants.{POSITION_LIMIT}
use Rattle.chunk_plain.specs.Setup.{Setup, producer_of, sequence_of}
use Rattle.chunk_plain.specs.Views.{BegunChunk, Noted, ServiceView}
use Rattle.chunk_plain.specs.World.{World, writer}
use Rattle.chunk_plain.specs.Histories.{happened, history_of}
use Rattle.chunk_plain.specs.Owned.{held_count}
use Rattle.scenario_text.specs.declared.scenario.BufferLine.{BufferLine}
use Rattle.service_core.specs.Reading.{reads_in, noted_read, sequences_to}
use Rattle.service_core.specs.Routing.{buffer_at}
use Rattle.service_core.specs.Taking.{noted_more}
use Rattle.service_core.proofs.CloseLemmas.{noted_grows}
use Rattle.service_core.proofs.HistoryLemmas.{history_stays}
use Rattle.replay_model.specs.Acts.{Collect, CloseProducer, ReadAll}
use Rattle.replay_model.specs.Does.{Collects, Closes, Reads, is_shut}
use Rattle.replay_model.specs.ActNotes.{ActNote}
use Rattle.replay_model.specs.Plays.{Plays}
use Rattle.replay_model.specs.Schedule.{reads_from}
use Rattle.replay_model.proofs.EndLemmas.{begun_same, IsTakenWhole, collects_whole, closes_whole, collect_takes, closes_shut, closes_shut_still}
use Rattle.replay_model.proofs.SortedLemmas.{Among}
use Rattle.replay_model.proofs.StandsLemmas.{Stands, stands_does}

-- ---- collects

collects_keep : (setup : Setup) (buffers : List Buffer) (producers : List ℕ) (place : ℕ) (old new : World) (notes : List ActNote)
    → Plays setup buffers (map Collect producers) old new notes → Stands setup old → IsTakenWhole old place → IsTakenWhole new place
collects_keep setup buffers [] place old new notes plays stands whole = subst (λ (w : World). IsTakenWhole w place) (sym plays.0) whole
collects_keep setup buffers (producer ∷ producers) place old new notes plays stands whole =
    collects_keep setup buffers producers place plays.0 new plays.1 plays.5 (stands_does setup buffers (Collect producer) old plays.0 plays.2 plays.3 stands)
    (collects_whole setup producer place old plays.0 stands plays.2 whole)

pub collect_phase : (setup : Setup) (buffers : List Buffer) (producers : List ℕ) (place : ℕ) (old new : World) (notes : List ActNote)
    → Plays setup buffers (map Collect producers) old new notes → Stands setup old → place < length setup.writers → Among (producer_of setup place) producers
    → held_count (writer old place).begun ≡ 0 → length (writer old place).begun ≤ POSITION_LIMIT → IsTakenWhole new place
collect_phase setup buffers [] place old new notes plays stands inside among empty few = absurd among
collect_phase setup buffers (producer ∷ producers) place old new notes plays stands inside among empty few =
    by_head (λ then later none less. collect_phase setup buffers producers place plays.0 new plays.1 plays.5 then inside later none less) among
  where
    next : Stands setup plays.0
    next = stands_does setup buffers (Collect producer) old plays.0 plays.2 plays.3 stands

    same : (writer plays.0 place).begun ≡ (writer old place).begun
    same = begun_same old plays.0 place plays.2.writers

    empty_next : held_count (writer plays.0 place).begun ≡ 0
    empty_next = ap held_count same ∙ empty

    few_next : length (writer plays.0 place).begun ≤ POSITION_LIMIT
    few_next = let long = ap (λ (xs : List BegunChunk). length xs) same in omega (arith, long, few)

    by_head : (Stands setup plays.0 → Among (producer_of setup place) producers → held_count (writer plays.0 place).begun ≡ 0
        → length (writer plays.0 place).begun ≤ POSITION_LIMIT → IsTakenWhole new place)
        → (producer ≡ producer_of setup place) ⊎ Among (producer_of setup place) producers → IsTakenWhole new place
    by_head rest (inl mine) =
        collects_keep setup buffers producers place plays.0 new plays.1 plays.5 next
        (collect_takes setup place old plays.0 next plays.3 inside (subst (λ (p : ℕ). Collects setup p old plays.0) mine plays.2) empty_next few_next)
    by_head rest (inr later) = rest next later empty_next few_next

-- ---- closes

pub closes_keep : (setup : Setup) (buffers : List Buffer) (producers : List ℕ) (place : ℕ) (old new : World) (notes : List ActNote)
    → Plays setup buffers (map CloseProducer producers) old new notes → Stands setup old → IsTakenWhole old place → IsTakenWhole new place
closes_keep setup buffers [] place old new notes plays stands whole = subst (λ (w : World). IsTakenWhole w place) (sym plays.0) whole
closes_keep setup buffers (producer ∷ producers) place old new notes plays stands whole =
    closes_keep setup buffers producers place plays.0 new plays.1 plays.5 (stands_does setup buffers (CloseProducer producer) old plays.0 plays.2 plays.3 stands)
    (closes_whole setup producer place old plays.0 stands plays.2 whole)

shut_keep : (setup : Setup) (buffers : List Buffer) (producers : List ℕ) (q : ℕ) (old new : World) (notes : List ActNote)
    → Plays setup buffers (map CloseProducer producers) old new notes → Stands setup old → is_shut q old.service.events ≡ true → is_shut q new.service.events ≡ true
shut_keep setup buffers [] q old new notes plays stands shut = ap (λ (w : World). is_shut q w.service.events) plays.0 ∙ shut
shut_keep setup buffers (producer ∷ producers) q old new notes plays stands shut =
    shut_keep setup buffers producers q plays.0 new plays.1 plays.5 (stands_does setup buffers (CloseProducer producer) old plays.0 plays.2 plays.3 stands)
    (closes_shut_still setup producer q old plays.0 stands plays.2 shut)

pub close_phase : (setup : Setup) (buffers : List Buffer) (producers : List ℕ) (place : ℕ) (old new : World) (notes : List ActNote)
    → Plays setup buffers (map CloseProducer producers) old new notes → Stands setup old → place < length setup.writers → Among (producer_of setup place) producers
    → is_shut (sequence_of place) new.service.events ≡ true
close_phase setup buffers [] place old new notes plays stands inside among = absurd among
close_phase setup buffers (producer ∷ producers) place old new notes plays stands inside among =
    by_head (λ then later. close_phase setup buffers producers place plays.0 new plays.1 plays.5 then inside later) among
  where
    next : Stands setup plays.0
    next = stands_does setup buffers (CloseProducer producer) old plays.0 plays.2 plays.3 stands

    by_head : (Stands setup plays.0 → Among (producer_of setup place) producers → is_shut (sequence_of place) new.service.events ≡ true)
        → (producer ≡ producer_of setup place) ⊎ Among (producer_of setup place) producers → is_shut (sequence_of place) new.service.events ≡ true
    by_head rest (inl mine) =
        shut_keep setup buffers producers (sequence_of place) plays.0 new plays.1 plays.5 next
        (closes_shut setup place old plays.0 inside (subst (λ (p : ℕ). Closes setup p old plays.0) mine plays.2))
    by_head rest (inr later) = rest next later

-- ---- reads

-- all of these are reads
abbrev pub AreReads : List Event → Type 0
AreReads [] = Unit {0}
AreReads (model.Read sequence limit ∷ events) = AreReads events
AreReads (model.Arrives sequence chunk_id chunk ∷ events) = ⊥
AreReads (model.ArrivesInPart sequence chunk_id chunk ∷ events) = ⊥
AreReads (model.Patched sequence patches ∷ events) = ⊥
AreReads (model.Committed image patches ∷ events) = ⊥
AreReads (model.Closed sequence ∷ events) = ⊥

pub are_reads_append : (xs ys : List Event) → AreReads xs → AreReads ys → AreReads (xs ++ ys)
are_reads_append [] ys one two = two
are_reads_append (model.Read sequence limit ∷ xs) ys one two = are_reads_append xs ys one two
are_reads_append (model.Arrives sequence chunk_id chunk ∷ xs) ys one two = absurd one
are_reads_append (model.ArrivesInPart sequence chunk_id chunk ∷ xs) ys one two = absurd one
are_reads_append (model.Patched sequence patches ∷ xs) ys one two = absurd one
are_reads_append (model.Committed image patches ∷ xs) ys one two = absurd one
are_reads_append (model.Closed sequence ∷ xs) ys one two = absurd one

pub reads_are_reads : (limit : ℕ) (buffer : Buffer) (sequences : List ℕ) → AreReads (reads_of limit buffer sequences)
reads_are_reads limit buffer [] = tt
reads_are_reads limit buffer (sequence ∷ others) = reads_are_reads (limit - length (delivered_by buffer sequence limit)) (with_read buffer sequence limit) others

pub reads_happen : (service : ServiceView) (events : List Event) → AreReads events → flat_map (happened service) (flat_map noted_read events) ≡ events
reads_happen service [] are = refl
reads_happen service (model.Read sequence limit ∷ events) are = ap (λ (es : List Event). model.Read sequence limit ∷ es) (reads_happen service events are)
reads_happen service (model.Arrives sequence chunk_id chunk ∷ events) are = absurd are
reads_happen service (model.ArrivesInPart sequence chunk_id chunk ∷ events) are = absurd are
reads_happen service (model.Patched sequence patches ∷ events) are = absurd are
reads_happen service (model.Committed image patches ∷ events) are = absurd are
reads_happen service (model.Closed sequence ∷ events) are = absurd are

-- what the reads of these buffers come to
pub record IsReadOut (setup : Setup) (buffers : List Buffer) (number : ℕ) (lines : List BufferLine) (old new : World) : Type 0 where
  pub events : List Event
  pub are : AreReads events
  pub history : history_of new.service ≡ history_of old.service ++ events
  pub writers : new.writers ≡ old.writers
  pub each : (i : ℕ) → i < length lines → (before : List Event) × (later : List Event) × AreReads before
      × (events ≡ before ++ (reads_in setup (buffers_after buffers (history_of old.service ++ before)) (number + i) last_count ++ later))

pub history_read : (setup : Setup) (buffers : List Buffer) (buffer limit : ℕ) (old new : World) → Stands setup old → Reads setup buffers buffer limit old new
    → history_of new.service ≡ history_of old.service ++ reads_in setup (buffers_after buffers (history_of old.service)) buffer limit
history_read setup buffers buffer limit old new stands reads =
    let events : List Event = reads_in setup (buffers_after buffers (history_of old.service)) buffer limit in
    let notes : List Noted = flat_map noted_read events in
    let view : ServiceView = noted_more old.service notes in
    ap history_of reads.notes
    ∙ flat_map-append (happened view) old.service.events notes
    ∙ ap (λ (es : List Event). es ++ flat_map (happened view) notes) (history_stays old.service view old.service.events (noted_grows old.service notes) stands.sorted.known)
    ∙ ap (λ (es : List Event). history_of old.service ++ es)
    (reads_happen view events (reads_are_reads limit (buffer_at (buffers_after buffers (history_of old.service)) (buffer - 1)) (sequences_to buffer 0 setup.writers)))

pub read_phase : (setup : Setup) (buffers : List Buffer) (number : ℕ) (lines : List BufferLine) (old new : World) (notes : List ActNote)
    → Plays setup buffers (reads_from number lines) old new notes → Stands setup old → IsReadOut setup buffers number lines old new
read_phase setup buffers number [] old new notes plays stands = record {
  events = [];
  are = tt;
  history = ap (λ (w : World). history_of w.service) plays.0 ∙ sym (append-nil (history_of old.service));
  writers = ap (λ (w : World). w.writers) plays.0;
  each = λ i low. absurd (omega (arith, low));
}
read_phase setup buffers number (line ∷ lines) old new notes plays stands =
    let first : List Event = reads_in setup (buffers_after buffers (history_of old.service)) number last_count in
    let next : Stands setup plays.0 = stands_does setup buffers (ReadAll number last_count) old plays.0 plays.2 plays.3 stands in
    let here = history_read setup buffers number last_count old plays.0 stands plays.2 in
    let rest = read_phase setup buffers (suc number) lines plays.0 new plays.1 plays.5 next in
    let are : AreReads first = reads_are_reads last_count (buffer_at (buffers_after buffers (history_of old.service)) (number - 1)) (sequences_to number 0 setup.writers) in
    record {
      events = first ++ rest.events;
      are = are_reads_append first rest.events are rest.are;
      history = rest.history ∙ ap (λ (es : List Event). es ++ rest.events) here ∙ append_assoc (history_of old.service) first rest.events;
      writers = rest.writers ∙ plays.2.writers;
      each = λ i low. each_of first are rest here i low;
    }
  where
    each_of : (first : List Event) → AreReads first → (rest : IsReadOut setup buffers (suc number) lines plays.0 new)
        → history_of plays.0.service ≡ history_of old.service ++ reads_in setup (buffers_after buffers (history_of old.service)) number last_count
        → (i : ℕ) → i < length (line ∷ lines) → (before : List Event) × (later : List Event) × AreReads before
        × (reads_in setup (buffers_after buffers (history_of old.service)) number last_count ++ rest.events
        ≡ before ++ (reads_in setup (buffers_after buffers (history_of old.service ++ before)) (number + i) last_count ++ later))
    each_of first are rest here zero low = (
      [],
      rest.events,
      tt,
      ap (λ (n : ℕ). reads_in setup (buffers_after buffers (history_of old.service)) n last_count ++ rest.events) (let at : number ≡ number + 0 = omega arith in at)
          ∙ ap (λ (h : List Event). reads_in setup (buffers_after buffers h) (number + 0) last_count ++ rest.events) (sym (append-nil (history_of old.service))),
    )
    each_of first are rest here (suc i) low =
        let one : List Event = reads_in setup (buffers_after buffers (history_of old.service)) number last_count in
        let more = rest.each i (omega (arith, low)) in
        let at : suc number + i ≡ number + suc i = omega arith in
        let so_far : history_of plays.0.service ++ more.0 ≡ history_of old.service ++ (one ++ more.0) =
        ap (λ (h : List Event). h ++ more.0) here ∙ append_assoc (history_of old.service) one more.0 in (
          one ++ more.0,
          more.1,
          are_reads_append one more.0 (reads_are_reads last_count (buffer_at (buffers_after buffers (history_of old.service)) (number - 1)) (sequences_to number 0 setup.writers)) more.2,
          ap (λ (es : List Event). one ++ es) more.3
              ∙ sym (append_assoc one more.0 (reads_in setup (buffers_after buffers (history_of plays.0.service ++ more.0)) (suc number + i) last_count ++ more.1))
              ∙ ap (λ (h : List Event). (one ++ more.0) ++ (reads_in setup (buffers_after buffers h) (suc number + i) last_count ++ more.1)) so_far
              ∙ ap (λ (n : ℕ). (one ++ more.0) ++ (reads_in setup (buffers_after buffers (history_of old.service ++ (one ++ more.0))) n last_count ++ more.1)) at,
        )
