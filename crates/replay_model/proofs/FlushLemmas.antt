-- A flush whose chunks were taken and read settles what its writer had emitted.
use Rattle.std.proofs.Common.{◌≡◌, ◌∙◌, ℕ, zero, suc, ◌+◌, ◌-◌, ◌*◌, ◌<◌, ◌≤◌, Bool, true, false, List, [], ◌∷◌, ◌++◌, length, map, get_or, Some, refl, sym, ap, subst, arith, inl, inr, cond, append_assoc, append-nil}
use Rattle.std.specs.Prelude.{slice_get}
use Rattle.std.proofs.lemmas.Bool.{eq-eqb}
use Rattle.std.proofs.lemmas.List.{length-map}
use Rattle.std.proofs.lemmas.Option.{slice_get_within, slice_get-get_or}
use Rattle.trace_base.specs.declared.policy.WriterSpec.{WriterSpec}
use Rattle.trace_base.proofs.Lists.{some_there}
use Rattle.page_geometry.specs.Sizes.{record_size}
use Rattle.trace_model.specs.Buffers.{Buffer, empty_buffer}
use Rattle.trace_model.specs.Calls.{Call, Flushed}
use Rattle.trace_model.specs.Causes.{fixed_after}
use Rattle.trace_model.specs.Counts.{last_count}
use Rattle.trace_model.specs.Delivery.{Delivered, records_of}
use Rattle.trace_model.specs.History as model
use Rattle.trace_model.specs.History.{Event, state_after, buffers_after, delivered_to, reads_of}
use Rattle.trace_model.specs.Packets.{packets_of, emissions_of, begun_count}
use Rattle.trace_model.specs.Pages.{Page}
use Rattle.trace_model.specs.Reads.{Delivery}
use Rattle.trace_model.specs.Record.{record_of}
use Rattle.trace_model.specs.Sequences.{Sequence, is_known}
use Rattle.trace_model.specs.Written.{chains_of}
use Rattle.delivery_laws.specs.DeliveryLaws.{IsAccountOf}
use Rattle.delivery_laws.specs.FlushLaws.{arrivals_of, IsFlushed, AreSettled}
use Rattle.delivery_laws.proofs.FlushLemmas as delivery
use Rattle.delivery_laws.proofs.FlushLemmas.{fixed_parts, settled_still}
use Rattle.delivery_laws.proofs.OrderLemmas.{every_writer_is_told}
use Rattle.delivery_laws.proofs.EnoughLemmas.{emissions_few}
use Rattle.chunk_plain.specs.Plain.{first_world}
use Rattle.chunk_plain.specs.Setup.{Setup, sequence_of, size_of, no_writer}
use Rattle.chunk_plain.specs.Views.{Content, ServiceView, taken_of, WriterView, newcomer}
use Rattle.chunk_plain.specs.World.{World, writer}
use Rattle.chunk_plain.specs.Owned.{IsOwned}
use Rattle.chunk_plain.specs.Histories.{completed_images, history_of}
use Rattle.chunk_plain.proofs.MadeLemmas.{first_owned}
use Rattle.world_model.specs.Accounts.{NoneCommitted}
use Rattle.world_model.specs.FirstBuffers.{BufferSpec, payload_at, sequences_from}
use Rattle.world_model.proofs.MakingLemmas.{first_long, set_at}
use Rattle.world_model.proofs.ProjectLemmas.{Once, once_writes}
use Rattle.scenario_text.specs.declared.scenario.BufferLine.{BufferLine}
use Rattle.scenario_text.specs.Scenario.{Parts}
use Rattle.scenario_text.specs.Limits.{IsSetUp, IsWriter}
use Rattle.service_core.specs.Agreement.{spec_at}
use Rattle.service_core.specs.Order.{beginning}
use Rattle.service_core.specs.Reading.{reads_in}
use Rattle.service_core.specs.Routing.{buffer_at}
use Rattle.service_core.proofs.HistoryLemmas.{Grows}
use Rattle.service_core.proofs.QuietLemmas.{grow_both}
use Rattle.replay_model.specs.Acts.{Act, Ask, ReadAll}
use Rattle.trace_writer.specs.Answered.{KeepsCompleted}
use Rattle.replay_model.specs.Does.{Wrote, is_shut}
use Rattle.replay_model.specs.ActNotes.{ActNote}
use Rattle.replay_model.specs.FlushLaws.{has_committed, known_in, IsFlushRead, HasSettled, EveryFlushIsSettled}
use Rattle.replay_model.specs.Plays.{Plays}
use Rattle.replay_model.specs.Played.{IsSetupOf, buffer_specs, buffers_of, first_buffer, records_in}
use Rattle.replay_model.proofs.AccountLemmas.{account_in, has_written, many_writers}
use Rattle.replay_model.proofs.BalanceLemmas.{first_at, after_at, each_is, get_map}
use Rattle.replay_model.proofs.CompleteLemmas.{once_here}
use Rattle.replay_model.proofs.FinishLemmas.{HasRead}
use Rattle.replay_model.proofs.FirstLemmas.{small_payload, first_stands}
use Rattle.replay_model.proofs.PhaseLemmas.{history_read}
use Rattle.replay_model.proofs.PlayedLemmas.{plays_stand, setup_writers}
use Rattle.replay_model.proofs.PlayedOnLemmas.{plays_grow, reads_grow, HasMore, more_both, plays_more, arrivals_parts, lead_arrivals}
use Rattle.replay_model.proofs.RawLemmas.{none_is_committed, committed_is_none}
use Rattle.replay_model.proofs.ReadOutLemmas.{told_few, sum_all, IsFew, reads_has}
use Rattle.replay_model.proofs.SortedLemmas.{at_stage}
use Rattle.replay_model.proofs.StandsLemmas.{Stands, stands_does}
use Rattle.replay_model.proofs.StaysLemmas as stays
use Rattle.trace_writer.proofs.holding.Answering.{keeps_on}
use Rattle.replay_model.proofs.StaysLemmas.{plays_keeps, read_keeps}

-- a read of the sequence among reads
record IsReadAmong (q packets : ℕ) (events : List Event) : Type 0 where
  front : List Event
  limit : ℕ
  back : List Event
  is : events ≡ front ++ model.Read q limit ∷ back
  enough : packets ≤ limit

read_among : (q packets : ℕ) (events : List Event) → HasRead q packets events → IsReadAmong q packets events
read_among q packets [] has = absurd has
read_among q packets (model.Read other limit ∷ events) (inl here) = record {
  front = [];
  limit = limit;
  back = events;
  is = ap (λ (p : ℕ). model.Read p limit ∷ events) here.0;
  enough = here.1;
}
read_among q packets (model.Read other limit ∷ events) (inr later) =
    let rest = read_among q packets events later in
    record { front = model.Read other limit ∷ rest.front; limit = rest.limit; back = rest.back; is = ap (λ (es : List Event). model.Read other limit ∷ es) rest.is; enough = rest.enough }
read_among q packets (model.Arrives sequence chunk_id chunk ∷ events) has = absurd has
read_among q packets (model.ArrivesInPart sequence chunk_id chunk ∷ events) has = absurd has
read_among q packets (model.Patched sequence patches ∷ events) has = absurd has
read_among q packets (model.Committed image patches ∷ events) has = absurd has
read_among q packets (model.Closed sequence ∷ events) has = absurd has

-- what is known of one writer's packets
abbrev known_of : ServiceView → List Delivered → (place : ℕ) → WriterView → ℕ
known_of service records place view =
    cond (has_committed service (sequence_of place)) (length (records_of (sequence_of place) records)) (begun_count view.calls)

-- the packets that are known of each writer of a world
abbrev pub known_at : World → List Delivered → (place : ℕ) → ℕ
known_at world records place = known_of world.service records place (writer world place)

-- those of all writers, as a sum over their places
sum_from : (service : ServiceView) (records : List Delivered) (each : ℕ → ℕ) (views : List WriterView) (specs : List WriterSpec) (first : ℕ)
    → length views ≡ length specs → ((k : ℕ) → each (first + k) ≡ known_of service records (first + k) (get_or views k newcomer))
    → sum_all each first specs ≡ known_in service records first views
sum_from service records each [] [] first long is = refl
sum_from service records each [] (spec ∷ specs) first long is = absurd (omega (arith, long))
sum_from service records each (view ∷ views) [] first long is = absurd (omega (arith, long))
sum_from service records each (view ∷ views) (spec ∷ specs) first long is =
    let zeroth : first + 0 ≡ first = omega arith in
    let here : each first ≡ known_of service records first view = ap each (sym zeroth) ∙ is 0 ∙ ap (λ (p : ℕ). known_of service records p view) zeroth in
    let rest = sum_from service records each views specs (suc first) (omega (arith, long))
    (λ k. let at : suc first + k ≡ first + suc k = omega arith in
    ap each at ∙ is (suc k) ∙ ap (λ (p : ℕ). known_of service records p (get_or views k newcomer)) (sym at)) in
    omega (arith, here, rest)

pub sum_known : (world : World) (records : List Delivered) (specs : List WriterSpec) → length world.writers ≡ length specs
    → sum_all (known_at world records) 0 specs ≡ known_in world.service records 0 world.writers
sum_known world records specs long =
    sum_from world.service records (known_at world records) world.writers specs 0 long
    (λ k. let up : 0 + k ≡ k = omega arith in ap (λ (p : ℕ). known_of world.service records (0 + k) (writer world p)) up)

module _ (scenario : Parts) (setup : Setup) (is_setup : IsSetupOf scenario setup) (set_up : IsSetUp scenario.buffers scenario.producers scenario.writers)
    (acts : List Act) (asked read : World) (notes : List ActNote) (plays : Plays setup (buffers_of scenario setup) acts (first_world setup) asked notes)
    (place : ℕ) (inside : place < length setup.writers) (flush : IsFlushRead setup (buffers_of scenario setup) place asked read)
    (none : NoneCommitted read.service (sequence_of place)) where
  abbrev buffers : List Buffer
  buffers = buffers_of scenario setup

  abbrev size : ℕ
  size = payload_at setup place

  abbrev before : List Call
  before = (writer asked place).calls

  -- ---- the worlds on the way

  at_answered : Stands setup flush.answered
  at_answered =
      stands_does setup buffers (Ask place Flushed) asked flush.answered flush.answers flush.owned_then
      (plays_stand setup buffers acts (first_world setup) asked notes plays (first_stands setup (small_payload scenario setup is_setup)) ∣ first_owned setup ∣₁).0

  at_taken : Stands setup flush.taken × ∥ IsOwned flush.taken ∥₁
  at_taken = plays_stand setup buffers flush.between flush.answered flush.taken flush.notes flush.takes at_answered flush.owned_then

  at_reading : Stands setup flush.reading × ∥ IsOwned flush.reading ∥₁
  at_reading = plays_stand setup buffers flush.onward flush.taken flush.reading flush.later flush.goes_on at_taken.0 at_taken.1

  at_read : Stands setup read
  at_read = stands_does setup buffers (ReadAll (spec_at setup.writers place).buffer last_count) flush.reading read flush.reads flush.owned_now at_reading.0

  abbrev then : Wrote setup place (writer flush.answered place)
  then = flush.answers.wrote

  abbrev now : Wrote setup place (writer read place)
  now = at_read.wrote place inside

  -- ---- what the writer has still

  calls_on : HasMore (writer flush.answered place).calls (writer read place).calls
  calls_on =
      let on = more_both (writer flush.answered place).calls (writer flush.taken place).calls (writer flush.reading place).calls
      (plays_more setup buffers flush.between flush.answered flush.taken flush.notes place flush.takes)
      (plays_more setup buffers flush.onward flush.taken flush.reading flush.later place flush.goes_on) in
      (on.0, ap (λ (ws : List WriterView). (get_or ws place newcomer).calls) flush.reads.writers ∙ on.1)

  keeps : KeepsCompleted (writer flush.answered place).begun (writer read place).begun
  keeps =
      keeps_on (writer flush.answered place).begun (writer flush.reading place).begun (writer read place).begun
      (keeps_on (writer flush.answered place).begun (writer flush.taken place).begun (writer flush.reading place).begun
      (plays_keeps setup buffers flush.between flush.answered flush.taken flush.notes place flush.takes)
      (plays_keeps setup buffers flush.onward flush.taken flush.reading flush.later place flush.goes_on))
      (read_keeps setup buffers (spec_at setup.writers place).buffer last_count flush.reading read place flush.reads)

  -- ---- pages

  abbrev pages_then : List Page
  pages_then = then.cut.cut.pages

  abbrev pages_now : List Page
  pages_now = now.cut.cut.pages

  many_then : length (completed_images (writer flush.answered place).begun) ≡ length pages_then
  many_then = stays.many_then setup place asked flush.answered read flush.answers flush.owned_then now flush.owned_now keeps calls_on

  come_then : length pages_then ≤ length (taken_of flush.taken.service place).contents
  come_then =
      let met = flush.met in
      let level = at_taken.0.sorted.level place in
      let many = many_then in
      omega (arith, met, level, many)

  back : place + 2 - 2 ≡ place
  back = omega arith

  grows_to_reading : Grows flush.taken.service flush.reading.service
  grows_to_reading = plays_grow setup buffers flush.onward flush.taken flush.reading flush.later flush.goes_on at_taken.0

  grows_to_read : Grows flush.taken.service read.service
  grows_to_read =
      grow_both flush.taken.service flush.reading.service read.service grows_to_reading
      (reads_grow setup buffers (spec_at setup.writers place).buffer last_count flush.reading read flush.reads at_reading.0)

  -- what the service took stays in its view
  taken_stays : (service : ServiceView) → Grows flush.taken.service service → (i : ℕ) (content : Content) → slice_get (taken_of flush.taken.service place).contents i ≡ Some content
      → slice_get (taken_of service place).contents i ≡ Some content
  taken_stays service grows i content there =
      let e = back in
      sym (ap (λ (p : ℕ). slice_get (taken_of service p).contents i) e)
      ∙ grows.contents (place + 2) i content (ap (λ (p : ℕ). slice_get (taken_of flush.taken.service p).contents i) e ∙ there)

  is_flushed : IsFlushed size (writer read place).calls pages_now before pages_then
  is_flushed = stays.is_flushed setup place asked flush.answered read flush.answers flush.owned_then now flush.owned_now keeps calls_on

  -- ---- the buffer

  abbrev spec : WriterSpec
  spec = spec_at setup.writers place

  there : (p : ℕ) → p < length setup.writers → slice_get setup.writers p ≡ Some (spec_at setup.writers p)
  there p low = slice_get-get_or setup.writers p no_writer low

  is_writer : IsWriter scenario.buffers scenario.producers (spec_at setup.writers place)
  is_writer =
      each_is (IsWriter scenario.buffers scenario.producers) scenario.writers place (spec_at setup.writers place) set_up.are_writers
      (sym (ap (λ (specs : List WriterSpec). slice_get specs place) (setup_writers scenario setup is_setup)) ∙ there place inside)

  abbrev made : BufferSpec
  made = record { size = is_writer.into_buffer.kb * 1024; policy = is_writer.into_buffer.policy }

  abbrev sequences : List Sequence
  sequences = sequences_from setup (spec_at setup.writers place).buffer 0 setup.writers

  abbrev first : Buffer
  first = empty_buffer made.size made.policy (sequences_from setup (spec_at setup.writers place).buffer 0 setup.writers)

  made_there : slice_get (buffer_specs scenario) ((spec_at setup.writers place).buffer - 1) ≡ Some made
  made_there =
      get_map (λ (line : BufferLine). record { size = line.kb * 1024; policy = line.policy }) scenario.buffers ((spec_at setup.writers place).buffer - 1) is_writer.into_buffer is_writer.buffer_is

  first_is : buffer_at buffers ((spec_at setup.writers place).buffer - 1) ≡ first
  first_is =
      let least = is_writer.counts_buffer in
      let number : 1 + ((spec_at setup.writers place).buffer - 1) ≡ (spec_at setup.writers place).buffer = omega (arith, least) in
      first_at setup 1 (buffer_specs scenario) ((spec_at setup.writers place).buffer - 1) made made_there
      ∙ ap (λ (m : ℕ). empty_buffer made.size made.policy (sequences_from setup m 0 setup.writers)) number

  own_first : first_buffer scenario setup place ≡ first
  own_first =
      ap (λ (specs : List WriterSpec). buffer_at buffers ((spec_at specs place).buffer - 1)) (sym (setup_writers scenario setup is_setup)) ∙ first_is

  abbrev history : List Event
  history = history_of read.service

  account_of_writer : (p : ℕ) (low : p < length setup.writers) → (spec_at setup.writers p).buffer ≡ (spec_at setup.writers place).buffer
      → NoneCommitted read.service (sequence_of p)
      → IsAccountOf (payload_at setup p) (writer read p).calls (at_read.wrote p low).cut.cut.pages sequences (p + 2) (record_size (size_of setup (spec_at setup.writers p).producer)) history
  account_of_writer p low into free =
      let set = set_at setup p (spec_at setup.writers p) (there p low) (spec_at setup.writers place).buffer in
      let own = eq-eqb (spec_at setup.writers p).buffer (spec_at setup.writers place).buffer into in
      account_in setup read flush.owned_now p (at_read.wrote p low) at_read.sorted low free sequences (record_size (size_of setup (spec_at setup.writers p).producer))
      (set.known ∙ own) (set.start own)

  -- ---- the read

  abbrev records : List Delivered
  records = records_in scenario setup read

  abbrev each : ℕ → ℕ
  each = known_at read (records_in scenario setup read)

  -- of the writer itself, those that it has begun
  each_is_own : each place ≡ begun_count (writer read place).calls
  each_is_own =
      ap (λ (b : Bool). cond b (length (records_of (sequence_of place) records)) (begun_count (writer read place).calls))
      (none_is_committed read.service (sequence_of place) none)

  few_at : (p : ℕ) → p < length setup.writers → (spec_at setup.writers p).buffer ≡ (spec_at setup.writers place).buffer
      → IsFew first history (spec_at setup.writers place).buffer last_count each p
  few_at p low into = record { known = known; few = by_commits (has_committed read.service (sequence_of p)) refl }
    where
      known : is_known sequences (p + 2) ≡ true
      known =
          (set_at setup p (spec_at setup.writers p) (there p low) (spec_at setup.writers place).buffer).known
          ∙ eq-eqb (spec_at setup.writers p).buffer (spec_at setup.writers place).buffer into

      long : length (map (λ (delivery : Delivery). record_of delivery.body (p + 2) delivery.marked) (delivered_to (p + 2) first history))
          ≡ length (delivered_to (p + 2) first history)
      long = length-map (delivered_to (p + 2) first history) (λ (delivery : Delivery). record_of delivery.body (p + 2) delivery.marked)

      -- the one buffer that has the sequence
      once : Once (p + 2) first buffers
      once =
          let least = is_writer.counts_buffer in
          let number : (spec_at setup.writers p).buffer ≡ 1 + ((spec_at setup.writers place).buffer - 1) = omega (arith, into, least) in
          subst (λ (n : ℕ). Once (p + 2) (empty_buffer made.size made.policy (sequences_from setup n 0 setup.writers)) buffers) into
          (once_here setup p (spec_at setup.writers p) (there p low) 1 (buffer_specs scenario) ((spec_at setup.writers place).buffer - 1) made made_there number)

      by_commits : (committed : Bool) → has_committed read.service (sequence_of p) ≡ committed → length (delivered_to (p + 2) first history) ≤ each p
      by_commits true is =
          let here : each p ≡ length (records_of (p + 2) records) =
          ap (λ (b : Bool). cond b (length (records_of (p + 2) records)) (begun_count (writer read p).calls)) is in
          let written = ap (λ (xs : List (List ℕ)). length xs) (once_writes (p + 2) history first buffers once) in
          let same = long in
          omega (arith, here, written, same)
      by_commits false is =
          let here : each p ≡ begun_count (writer read p).calls =
          ap (λ (b : Bool). cond b (length (records_of (p + 2) records)) (begun_count (writer read p).calls)) is in
          let account = account_of_writer p low into (committed_is_none read.service (sequence_of p) is) in
          let told = every_writer_is_told (payload_at setup p) (writer read p).calls (at_read.wrote p low).cut.cut.pages made.size made.policy sequences (p + 2)
          (record_size (size_of setup (spec_at setup.writers p).producer)) history account in
          let few = told_few (emissions_of (writer read p).calls) (p + 2)
          (map (λ (delivery : Delivery). record_of delivery.body (p + 2) delivery.marked) (delivered_to (p + 2) first history)) told in
          let same = long in
          let emitted = emissions_few (writer read p).calls in
          omega (arith, here, few, same, emitted)

  abbrev so_far : List Event
  so_far = history_of flush.reading.service

  abbrev reads : List Event
  reads = reads_in setup (buffers_after buffers (history_of flush.reading.service)) (spec_at setup.writers place).buffer last_count

  history_is : history ≡ so_far ++ reads
  history_is = history_read setup buffers (spec_at setup.writers place).buffer last_count flush.reading read at_reading.0 flush.reads

  module _ (few : known_in read.service (records_in scenario setup read) 0 read.writers ≤ last_count) where
    has_read : HasRead (place + 2) (begun_count (writer read place).calls) reads
    has_read =
        let low : (spec_at setup.writers place).buffer - 1 < length buffers =
        let within = slice_get_within (buffer_specs scenario) ((spec_at setup.writers place).buffer - 1) made made_there in
        let long = first_long setup 1 (buffer_specs scenario) in
        omega (arith, within, long) in
        let index : buffer_at (buffers_after buffers so_far) ((spec_at setup.writers place).buffer - 1) ≡ state_after first so_far =
        after_at buffers so_far ((spec_at setup.writers place).buffer - 1) low ∙ ap (λ (b : Buffer). state_after b so_far) first_is in
        let many = many_writers setup read flush.owned_now at_read in
        let sum = sum_known read records setup.writers many in
        let at : 0 + place ≡ place = omega arith in
        subst (λ (n : ℕ). HasRead (place + 2) n reads) each_is_own
        (subst (λ (p : ℕ). HasRead (p + 2) (each p) reads) at
        (reads_has first history (spec_at setup.writers place).buffer last_count each setup.writers 0 last_count 0 so_far []
        (buffer_at (buffers_after buffers so_far) ((spec_at setup.writers place).buffer - 1)) index
        (history_is ∙ ap (λ (es : List Event). so_far ++ es) (sym (append-nil reads))) (omega arith) (omega (arith, sum, few))
        (λ j below into. subst (λ (p : ℕ). IsFew first history (spec_at setup.writers place).buffer last_count each p) (let up : j ≡ 0 + j = omega arith in up) (few_at j below into))
        place inside refl))

    -- nothing of its sequence had come by a commit
    none_at_reading : NoneCommitted flush.reading.service (sequence_of place)
    none_at_reading =
        let grows = reads_grow setup buffers (spec_at setup.writers place).buffer last_count flush.reading read flush.reads at_reading.0 in
        λ k one is. none k one (grows.commits k one is)

    come_now : length pages_then ≤ arrivals_of (place + 2) so_far
    come_now =
        let lead = lead_arrivals setup flush.reading at_reading.1 place (at_reading.0.wrote place inside) flush.reading.service.events beginning
        (at_stage (taken_of flush.reading.service place).count (is_shut (sequence_of place) flush.reading.service.events)) (at_reading.0.sorted.lead place inside none_at_reading) in
        let level = at_reading.0.sorted.level place in
        let come = come_then in
        let kept = all_stay (length pages_then) come in
        omega (arith, lead, level, kept)
      where
        all_stay : (n : ℕ) → n ≤ length (taken_of flush.taken.service place).contents → n ≤ length (taken_of flush.reading.service place).contents
        all_stay zero low = omega arith
        all_stay (suc n) low =
            let content = some_there (taken_of flush.taken.service place).contents n (omega (arith, low)) in
            slice_get_within (taken_of flush.reading.service place).contents n content.0 (taken_stays flush.reading.service grows_to_reading n content.0 content.1)

    has_settled : HasSettled scenario setup place asked read
    has_settled =
        let among = read_among (place + 2) (begun_count (writer read place).calls) reads has_read in
        let early : List Event = so_far ++ among.front in
        let whole : history ≡ early ++ model.Read (place + 2) among.limit ∷ among.back =
        history_is ∙ ap (λ (es : List Event). so_far ++ es) among.is ∙ sym (append_assoc so_far among.front (model.Read (place + 2) among.limit ∷ among.back)) in
        let account : IsAccountOf size (writer read place).calls pages_now sequences (place + 2) (record_size (size_of setup (spec_at setup.writers place).producer))
        (early ++ model.Read (place + 2) among.limit ∷ among.back) =
        subst (IsAccountOf size (writer read place).calls pages_now sequences (place + 2) (record_size (size_of setup (spec_at setup.writers place).producer))) whole
        (account_of_writer place inside refl none) in
        let parts = arrivals_parts (place + 2) so_far among.front in
        let come = come_now in
        let settled = delivery.every_flush_is_settled size (writer read place).calls pages_now made.size made.policy sequences (place + 2)
        (record_size (size_of setup (spec_at setup.writers place).producer)) early among.back among.limit before pages_then account is_flushed
        (omega (arith, parts, come)) among.enough in
        let fixed : fixed_after (place + 2) first history
        ≡ fixed_after (place + 2) first (early ++ model.Read (place + 2) among.limit ∷ [])
        ++ fixed_after (place + 2) (state_after first (early ++ model.Read (place + 2) among.limit ∷ [])) among.back =
        ap (fixed_after (place + 2) first) (whole ∙ sym (append_assoc early (model.Read (place + 2) among.limit ∷ []) among.back))
        ∙ fixed_parts (place + 2) first (early ++ model.Read (place + 2) among.limit ∷ []) among.back in
        record {
          wrote = has_written setup read flush.owned_now place now;
          pages = pages_then;
          flushed = is_flushed;
          settled = subst (λ (b : Buffer). AreSettled (fixed_after (sequence_of place) b history) (packets_of before) (chains_of pages_then)) (sym own_first)
              (subst (λ fs. AreSettled fs (packets_of before) (chains_of pages_then)) (sym fixed)
              (settled_still (fixed_after (place + 2) first (early ++ model.Read (place + 2) among.limit ∷ []))
              (fixed_after (place + 2) (state_after first (early ++ model.Read (place + 2) among.limit ∷ [])) among.back) (packets_of before) (chains_of pages_then) settled));
        }

pub every_flush_is_settled : EveryFlushIsSettled
every_flush_is_settled scenario setup is_setup set_up acts asked read notes plays place inside flush none few =
    has_settled scenario setup is_setup set_up acts asked read notes plays place inside flush none few
