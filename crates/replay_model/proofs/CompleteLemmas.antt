-- Where chunks and bytes are enough, and all came and was read, each packet is delivered.
use Rattle.std.proofs.Common.{◌≡◌, ◌∙◌, ℕ, zero, suc, ◌+◌, ◌-◌, ◌*◌, ◌<◌, ◌≤◌, All, true, false, List, [], ◌∷◌, ◌++◌, length, map, Some, refl, sym, ap, subst, arith, inl, inr, append_assoc}
use Rattle.std.specs.Prelude.{slice_get}
use Rattle.std.proofs.lemmas.Bool.{eq-eqb, ne_eqb}
use Rattle.std.proofs.lemmas.List.{length-map}
use Rattle.std.proofs.lemmas.Option.{slice_get_within}
use Rattle.trace_base.specs.declared.policy.WriterSpec.{WriterSpec}
use Rattle.page_geometry.specs.Sizes.{payload_size, record_size}
use Rattle.trace_model.specs.Buffers.{Buffer, empty_buffer}
use Rattle.trace_model.specs.Counts.{last_count}
use Rattle.trace_model.specs.Cut.{newest_goes_on}
use Rattle.trace_model.specs.Delivery.{IsComplete, records_of}
use Rattle.trace_model.specs.Enough.{most_chunks, payload_in}
use Rattle.trace_model.specs.History.{Event, state_after, delivered_to, buffers_after, reads_of}
use Rattle.trace_model.specs.Packets.{packets_of, bodies_of, emissions_of, begun_count}
use Rattle.trace_model.specs.Pages.{patches_of}
use Rattle.trace_model.specs.Reads.{Delivery}
use Rattle.trace_model.specs.Record.{record_of}
use Rattle.trace_model.specs.Sequences.{Sequence, is_known}
use Rattle.model_laws.proofs.TextSizes.{all_finished}
use Rattle.delivery_laws.specs.DeliveryLaws.{IsAccountOf}
use Rattle.delivery_laws.specs.Finishing.{AllWhole, Finishes}
use Rattle.delivery_laws.specs.Room.{asked, wanted}
use Rattle.delivery_laws.proofs.OrderLemmas.{every_writer_is_told}
use Rattle.delivery_laws.proofs.EnoughLemmas.{every_packet_is_delivered, emissions_few}
use Rattle.delivery_laws.proofs.AskLemmas.{every_ask_is_counted}
use Rattle.chunk_plain.specs.Setup.{Setup, size_of}
use Rattle.chunk_plain.specs.World.{World, writer}
use Rattle.chunk_plain.specs.Histories.{history_of}
use Rattle.world_model.specs.FirstBuffers.{BufferSpec, payload_at, sequences_from, first_buffers}
use Rattle.world_model.proofs.MakingLemmas.{set_at, known_range}
use Rattle.world_model.proofs.ProjectLemmas.{Without, Once, once_writes}
use Rattle.scenario_text.specs.declared.scenario.BufferLine.{BufferLine}
use Rattle.scenario_text.specs.declared.scenario.NumberedLine.{NumberedLine}
use Rattle.scenario_text.specs.Scenario.{Parts}
use Rattle.scenario_text.specs.Accepted.{calls_asked}
use Rattle.scenario_text.specs.Limits.{IsWriter}
use Rattle.scenario_text.proofs.SpelledLemmas.{PassesCheck}
use Rattle.scenario_text.specs.Emissions.{emitted_from, emitted_in}
use Rattle.service_core.specs.Agreement.{spec_at}
use Rattle.service_core.specs.Reading.{reads_in, sequences_to}
use Rattle.service_core.specs.Routing.{buffer_at}
use Rattle.replay_model.specs.Enough.{HasEnough, IsPlayable, room_of}
use Rattle.replay_model.specs.Played.{buffer_specs, buffers_of, records_in}
use Rattle.replay_model.specs.Written.{HasWritten}
use Rattle.replay_model.proofs.AccountLemmas.{pages_begun}
use Rattle.replay_model.proofs.BalanceLemmas.{get_map, after_at}
use Rattle.replay_model.proofs.BalanceLemmas as balance
use Rattle.replay_model.proofs.BytesLemmas.{BelowAt, order_below, sheets_long, each_below, begun_of, wanted_few}
use Rattle.replay_model.proofs.DoneLemmas.{IsDone, there, within, spec_is, spec_there, account_of}
use Rattle.replay_model.proofs.FinishLemmas.{HasRead, has_read_left, has_read_right}
use Rattle.replay_model.proofs.LostLemmas.{all_whole, bodies_emitted}
use Rattle.replay_model.proofs.NoneLostLemmas.{is_writer, rests, size_here, begun_few, none_is_lost}
use Rattle.replay_model.proofs.PhaseLemmas.{AreReads}
use Rattle.replay_model.proofs.PlayedLemmas.{setup_writers}
use Rattle.replay_model.proofs.RawLemmas.{none_has_raw}
use Rattle.replay_model.proofs.ReadOutLemmas.{told_few, begun_sum, IsFew, reads_has}
use Rattle.replay_model.proofs.RoomLemmas.{payload_for, bytes_from, bytes_enough}

-- ---- one buffer has a writer's sequence

none_behind : (setup : Setup) (place : ℕ) (spec : WriterSpec) (get : slice_get setup.writers place ≡ Some spec) (n : ℕ) (buffers : List BufferSpec) → spec.buffer < n
    → Without (place + 2) (first_buffers setup n buffers)
none_behind setup place spec get n [] low = tt
none_behind setup place spec get n (buffer ∷ buffers) low =
    ((set_at setup place spec get n).known ∙ ne_eqb spec.buffer n (λ e. omega (arith, e, low)), none_behind setup place spec get (suc n) buffers (omega (arith, low)))

pub once_here : (setup : Setup) (place : ℕ) (spec : WriterSpec) (get : slice_get setup.writers place ≡ Some spec) (n : ℕ) (buffers : List BufferSpec) (i : ℕ) (made : BufferSpec)
    → slice_get buffers i ≡ Some made → spec.buffer ≡ n + i
    → Once (place + 2) (empty_buffer made.size made.policy (sequences_from setup spec.buffer 0 setup.writers)) (first_buffers setup n buffers)
once_here setup place spec get n [] i made there is = absurd (cc)
once_here setup place spec get n (one ∷ buffers) zero made there is =
    let same : one ≡ made = cc in
    let number : n ≡ spec.buffer = omega (arith, is) in
    inl (
      ap (λ (b : BufferSpec). empty_buffer b.size b.policy (sequences_from setup n 0 setup.writers)) same
          ∙ ap (λ (m : ℕ). empty_buffer made.size made.policy (sequences_from setup m 0 setup.writers)) number,
      (set_at setup place spec get spec.buffer).known ∙ eq-eqb spec.buffer spec.buffer refl,
      none_behind setup place spec get (suc n) buffers (omega (arith, number)),
    )
once_here setup place spec get n (one ∷ buffers) (suc i) made there is =
    inr (
      (set_at setup place spec get n).known ∙ ne_eqb spec.buffer n (λ e. omega (arith, e, is)),
      once_here setup place spec get (suc n) buffers i made there (omega (arith, is)),
    )

-- ---- reads at the end

-- Behind these events each buffer was read without limit, one behind another, and nothing else came.
pub record IsReadAtEnd (scenario : Parts) (setup : Setup) (world : World) (before reads : List Event) : Type 0 where
  pub history : history_of world.service ≡ before ++ reads
  pub each : (i : ℕ) → i < length scenario.buffers → (front : List Event) × (back : List Event) × AreReads front
      × (reads ≡ front ++ (reads_in setup (buffers_after (buffers_of scenario setup) (before ++ front)) (suc i) last_count ++ back))

-- ---- one writer

module _ (scenario : Parts) (setup : Setup) (world : World) (done : IsDone scenario setup world) (playable : IsPlayable scenario)
    (enough : HasEnough scenario) (place : ℕ) (spec : WriterSpec) (get : slice_get scenario.writers place ≡ Some spec) where
  abbrev low : place < length setup.writers
  low = within scenario setup world done place spec get

  abbrev is : IsWriter scenario.buffers scenario.producers spec
  is = is_writer scenario setup world done playable enough place spec get

  abbrev own : HasWritten setup place (writer world place)
  own = done.wrote place (within scenario setup world done place spec get)

  abbrev buffers : List Buffer
  buffers = buffers_of scenario setup

  abbrev made : BufferSpec
  made = record { size = is.into_buffer.kb * 1024; policy = is.into_buffer.policy }

  abbrev sequences : List Sequence
  sequences = sequences_from setup spec.buffer 0 setup.writers

  abbrev first : Buffer
  first = empty_buffer made.size made.policy (sequences_from setup spec.buffer 0 setup.writers)

  abbrev history : List Event
  history = history_of world.service

  number : 1 + (spec.buffer - 1) ≡ spec.buffer
  number = let least = is.counts_buffer in omega (arith, least)

  -- ---- how many chunks there are

  line_payload : (p : ℕ) (other : WriterSpec) (got : slice_get scenario.writers p ≡ Some other)
      → payload_for scenario.producers other
      ≡ payload_size (is_writer scenario setup world done playable enough p other got).of_producer.page_size (is_writer scenario setup world done playable enough p other got).of_producer.chunks
  line_payload p other got =
      let one = is_writer scenario setup world done playable enough p other got in
      ap payload_in (get_map room_of scenario.producers (other.producer - 1) one.of_producer one.producer_is)

  pub begun_most : (p : ℕ) (other : WriterSpec) (got : slice_get scenario.writers p ≡ Some other)
      → length (writer world p).begun ≤ most_chunks (payload_for scenario.producers other) (emissions_of (calls_asked (suc p) scenario.lines))
  begun_most p other got =
      let few = begun_few scenario setup world done playable enough p other got in
      let same = ap (λ (n : ℕ). most_chunks n (emissions_of (calls_asked (suc p) scenario.lines))) (line_payload p other got) in
      omega (arith, few, same)

  pub all_bytes : bytes_from scenario.lines scenario.producers spec.buffer 1 scenario.writers ≤ made.size
  all_bytes =
      subst (λ (n : ℕ). bytes_from scenario.lines scenario.producers n 1 scenario.writers ≤ made.size) number
      (bytes_enough scenario.lines scenario.producers (map (λ (line : BufferLine). line.kb * 1024) scenario.buffers) scenario.writers (spec.buffer - 1) made.size enough.enough.bytes
      (get_map (λ (line : BufferLine). line.kb * 1024) scenario.buffers (spec.buffer - 1) is.into_buffer is.buffer_is))

  -- ---- the last read

  own_account : (p : ℕ) (other : WriterSpec) (got : slice_get scenario.writers p ≡ Some other) → other.buffer ≡ spec.buffer
      → IsAccountOf (payload_at setup p) (writer world p).calls (done.wrote p (within scenario setup world done p other got)).cut.cut.pages sequences (p + 2)
      (record_size (size_of setup other.producer)) history
  own_account p other got into =
      let set = set_at setup p other (there scenario setup world done p other got) spec.buffer in
      let named = eq-eqb other.buffer spec.buffer into in
      account_of scenario setup world done p (within scenario setup world done p other got) (none_has_raw scenario.lines p enough.no_raw) sequences (record_size (size_of setup other.producer)) (set.known ∙ named) (set.start named)

  few_at : (p : ℕ) → p < length setup.writers → (spec_at setup.writers p).buffer ≡ spec.buffer
      → IsFew first history spec.buffer last_count (λ p. begun_count (calls_asked (suc p) scenario.lines)) p
  few_at p inside into =
      let other : WriterSpec = spec_at setup.writers p in
      let got = spec_there scenario setup world done p inside in
      let account = own_account p other got into in
      let told = every_writer_is_told (payload_at setup p) (writer world p).calls (done.wrote p (within scenario setup world done p other got)).cut.cut.pages
      made.size made.policy sequences (p + 2) (record_size (size_of setup other.producer)) history account in
      let records = told_few (emissions_of (writer world p).calls) (p + 2)
      (map (λ (delivery : Delivery). record_of delivery.body (p + 2) delivery.marked) (delivered_to (p + 2) first history)) told in
      let long = length-map (delivered_to (p + 2) first history) (λ (delivery : Delivery). record_of delivery.body (p + 2) delivery.marked) in
      let few = emissions_few (writer world p).calls in
      let same = (done.shape p inside).begun in
      record { known = account.known; few = omega (arith, records, long, few, same) }

  -- the read of its buffer reads its sequence whole
  pub has_read : (before reads : List Event) → IsReadAtEnd scenario setup world before reads → HasRead (place + 2) (begun_count (writer world place).calls) reads
  has_read old all out =
      let inside = slice_get_within scenario.buffers (spec.buffer - 1) is.into_buffer is.buffer_is in
      let part = out.each (spec.buffer - 1) inside in
      let before : List Event = old ++ part.0 in
      let reads : List Event = reads_in setup (buffers_after buffers before) (suc (spec.buffer - 1)) last_count in
      let here : List Event = reads_of last_count (buffer_at (buffers_after buffers before) (spec.buffer - 1)) (sequences_to spec.buffer 0 setup.writers) in
      let number_is : suc (spec.buffer - 1) ≡ spec.buffer = let least = is.counts_buffer in omega (arith, least) in
      let same : reads ≡ here = ap (λ (n : ℕ). reads_in setup (buffers_after buffers before) n last_count) number_is in
      let index : buffer_at (buffers_after buffers before) (spec.buffer - 1) ≡ state_after first before =
      after_at buffers before (spec.buffer - 1) (balance.inside scenario setup world done playable.few place spec get is)
      ∙ ap (λ (b : Buffer). state_after b before) (balance.begins_as scenario setup world done playable.few place spec get is) in
      let cut : history ≡ before ++ (here ++ part.1) =
      out.history
      ∙ ap (λ (events : List Event). old ++ events) part.3
      ∙ sym (append_assoc old part.0 (reads ++ part.1))
      ∙ ap (λ (events : List Event). before ++ (events ++ part.1)) same in
      let sum = begun_sum scenario.lines setup.writers in
      let few = playable.few in
      let at : 0 + place ≡ place = omega arith in
      let got = reads_has first history spec.buffer last_count (λ p. begun_count (calls_asked (suc p) scenario.lines)) setup.writers 0 last_count 0 before part.1
      (buffer_at (buffers_after buffers before) (spec.buffer - 1)) index cut (omega arith) (omega (arith, sum, few))
      (λ j below into. subst (λ (p : ℕ). IsFew first history spec.buffer last_count (λ p. begun_count (calls_asked (suc p) scenario.lines)) p)
      (let up : j ≡ 0 + j = omega arith in up) (few_at j below into))
      place low (ap (λ (s : WriterSpec). s.buffer) (spec_is scenario setup world done place spec get)) in
      let got_here : HasRead (place + 2) (begun_count (calls_asked (suc place) scenario.lines)) here =
      subst (λ (p : ℕ). HasRead (p + 2) (begun_count (calls_asked (suc p) scenario.lines)) here) at got in
      let begun = (done.shape place low).begun in
      let counted : HasRead (place + 2) (begun_count (writer world place).calls) here =
      subst (λ (n : ℕ). HasRead (place + 2) n here) (sym begun) got_here in
      let there_is : HasRead (place + 2) (begun_count (writer world place).calls) reads =
      subst (HasRead (place + 2) (begun_count (writer world place).calls)) (sym same) counted in
      subst (HasRead (place + 2) (begun_count (writer world place).calls)) (sym part.3)
      (has_read_right (place + 2) (begun_count (writer world place).calls) part.0 (reads ++ part.1) part.2
      (has_read_left (place + 2) (begun_count (writer world place).calls) reads part.1 there_is))

  -- ---- the bytes

  below : (q : ℕ) → is_known sequences q ≡ true → BelowAt q (begun_of world q) history
  below q known =
      let range = known_range setup spec.buffer 0 setup.writers q known in
      let least = range.0 in
      let most = range.1 in
      let inside : q - 2 < length setup.writers = omega (arith, least, most) in
      let one = done.wrote (q - 2) inside in
      let order = done.order (q - 2) inside (none_has_raw scenario.lines (q - 2) enough.no_raw) in
      let long = sheets_long (patches_of one.cut.cut.pages) 0 (newest_goes_on (packets_of (writer world (q - 2)).calls)) one.cut.cut.pages in
      let pages = pages_begun setup (q - 2) (writer world (q - 2)) one in
      let back : q - 2 + 2 ≡ q = omega (arith, least) in
      subst (λ (s : ℕ). BelowAt s (length (writer world (q - 2)).begun) history) back
      (order_below _ (q - 2 + 2) (length (writer world (q - 2)).begun) (omega (arith, long, pages)) history 0 false [] order)

  wanted_less : wanted (begun_of world) sequences ≤ made.size
  wanted_less =
      let few = wanted_few scenario.lines scenario.producers setup world spec.buffer 0 setup.writers
      (λ j inside.
      let other : WriterSpec = spec_at setup.writers j in
      let got = spec_there scenario setup world done j inside in
      let at : j ≡ 0 + j = omega arith in
      (sized j other got, subst (λ (p : ℕ). length (writer world p).begun ≤ most_chunks (payload_for scenario.producers other) (emissions_of (calls_asked (suc p) scenario.lines))) at (begun_most j other got))) in
      let bytes = all_bytes in
      let same = ap (bytes_from scenario.lines scenario.producers spec.buffer 1) (setup_writers scenario setup done.setup_is) in
      omega (arith, few, bytes, same)
    where
      sized : (j : ℕ) (other : WriterSpec) → slice_get scenario.writers j ≡ Some other → size_of setup other.producer ≡ payload_for scenario.producers other
      sized j other got =
          sym (ap (λ (s : WriterSpec). size_of setup s.producer) (spec_is scenario setup world done j other got))
          ∙ size_here scenario setup world done playable enough j other got
          ∙ sym (line_payload j other got)

  fits : asked first history ≤ made.size
  fits =
      let few = wanted_less in
      let one = every_ask_is_counted made.size made.policy sequences (begun_of world) history (each_below (begun_of world) sequences history below) few in
      omega (arith, few, one)

  -- what the writer wrote is what its lines asked for, which the packet check accepts
  accepted : AllWhole (packets_of (writer world place).calls) → All PassesCheck (bodies_of (writer world place).calls)
  accepted whole =
      let at : place + 1 ≡ suc place = omega arith in
      subst (All PassesCheck)
      (ap (λ (n : ℕ). emissions_of (calls_asked n scenario.lines)) at
      ∙ sym (bodies_emitted (writer world place).calls whole ∙ (done.shape place (within scenario setup world done place spec get)).emitted))
      (playable.asks place spec get).passes

  -- all of it came, the sequence was closed, and then it was read
  delivered_all : Finishes (place + 2) (length (done.wrote place (within scenario setup world done place spec get)).cut.cut.pages) (begun_count (writer world place).calls) 0 false
      (history_of world.service)
      → length (records_of (place + 2) (records_in scenario setup world)) ≡ length (emissions_of (writer world place).calls)
  delivered_all finishes =
      let none = none_is_lost scenario setup world done playable enough place low in
      let whole = all_whole (packets_of (writer world place).calls) none
      (all_finished (writer world place).calls own.cut.possible (rests scenario setup world done playable enough place spec get)) in
      let all = every_packet_is_delivered (payload_at setup place) (writer world place).calls own.cut.cut.pages made.size made.policy sequences (place + 2)
      (record_size (size_of setup spec.producer)) history (own_account place spec get refl) whole (accepted whole) finishes fits in
      let once = once_here setup place spec (there scenario setup world done place spec get) 1 (buffer_specs scenario) (spec.buffer - 1) made
      (balance.made_there scenario setup world done playable.few place spec get is) (sym number) in
      let records = ap (λ (xs : List (List ℕ)). length xs) (once_writes (place + 2) history first (buffers_of scenario setup) once) in
      let long = length-map (delivered_to (place + 2) first history) (λ (delivery : Delivery). record_of delivery.body (place + 2) delivery.marked) in
      omega (arith, records, long, all)

-- ---- all writers

pub record IsEmittedBy (lines : List NumberedLine) (first i : ℕ) (specs : List WriterSpec) (packets : List (List ℕ)) : Type 0 where
  pub spec : WriterSpec
  pub get : slice_get specs i ≡ Some spec
  pub is : packets ≡ emissions_of (calls_asked (first + i) lines)

pub emitted_at : (lines : List NumberedLine) (first : ℕ) (specs : List WriterSpec) (i : ℕ) (packets : List (List ℕ)) → slice_get (emitted_from lines first specs) i ≡ Some packets
    → IsEmittedBy lines first i specs packets
emitted_at lines first [] i packets get = absurd (cc)
emitted_at lines first (spec ∷ specs) zero packets get =
    let same : emissions_of (calls_asked first lines) ≡ packets = cc in
    let at : first ≡ first + 0 = omega arith in
    record { spec = spec; get = refl; is = sym same ∙ ap (λ (n : ℕ). emissions_of (calls_asked n lines)) at }
emitted_at lines first (spec ∷ specs) (suc i) packets get =
    let h = emitted_at lines (suc first) specs i packets get in
    let at : suc first + i ≡ first + suc i = omega arith in
    record { spec = h.spec; get = h.get; is = h.is ∙ ap (λ (n : ℕ). emissions_of (calls_asked n lines)) at }

pub done_is_complete : (scenario : Parts) (setup : Setup) (world : World) (done : IsDone scenario setup world) → IsPlayable scenario → HasEnough scenario
    → ((place : ℕ) (spec : WriterSpec) (get : slice_get scenario.writers place ≡ Some spec)
    → Finishes (place + 2) (length (done.wrote place (within scenario setup world done place spec get)).cut.cut.pages) (begun_count (writer world place).calls) 0 false
    (history_of world.service))
    → IsComplete (emitted_in scenario) (records_in scenario setup world)
done_is_complete scenario setup world done playable enough finishes place packets get =
    let one = emitted_at scenario.lines 1 scenario.writers place packets get in
    let all = delivered_all scenario setup world done playable enough place one.spec one.get (finishes place one.spec one.get) in
    let same = (done.shape place (within scenario setup world done place one.spec one.get)).emitted in
    let at : suc place ≡ 1 + place = omega arith in
    all ∙ ap (λ (ps : List (List ℕ)). length ps) (same ∙ ap (λ (n : ℕ). emissions_of (calls_asked n scenario.lines)) at ∙ sym one.is)
