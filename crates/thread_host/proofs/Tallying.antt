-- What is counted once all is read is what the report says.
use Rattle.std.proofs.Common.{◌≡◌, ◌∙◌, ℕ, ◌+◌, ◌-◌, ◌<◌, Some, List, [], length, map, get_or, sym, ap, subst, arith}
use Rattle.std.specs.Prelude.{slice_get, slice_index_or}
use Rattle.std.proofs.lemmas.List.{length-map}
use Rattle.std.proofs.lemmas.Option.{slice_get_within, slice_get-get_or, get_or_from_slice_get}
use Rattle.trace_base.specs.declared.policy.WriterSpec.{WriterSpec}
use Rattle.trace_buffer.specs.Answers as answers
use Rattle.trace_model.specs.Balance.{PacketCounts, IsBalanced, counts_of}
use Rattle.trace_model.specs.Buffers.{Buffer}
use Rattle.trace_model.specs.Calls.{Call}
use Rattle.trace_model.specs.History.{buffers_after}
use Rattle.trace_model.specs.Sequences.{sequence_in}
use Rattle.chunk_plain.specs.Histories.{history_of}
use Rattle.chunk_plain.specs.Setup.{Setup, sequence_of, no_writer}
use Rattle.chunk_plain.specs.Views.{WriterView}
use Rattle.chunk_plain.specs.World.{World, writer}
use Rattle.chunk_words.specs.declared.seats.WriterSeat.{WriterSeat}
use Rattle.chunk_words.specs.Closed.{views_of}
use Rattle.chunk_words.specs.Sits.{known_by}
use Rattle.loss_report.specs.declared.counts.SequenceCounts.{SequenceCounts}
use Rattle.loss_report.specs.Report.{report_text}
use Rattle.world_model.proofs.MakingLemmas.{first_long}
use Rattle.scenario_text.specs.Scenario.{Parts}
use Rattle.service_core.specs.Agreement.{first_of, buffer_of, spec_at, spec_value}
use Rattle.service_core.specs.Routing.{buffer_at}
use Rattle.service_core.proofs.RouteLemmas.{length_after}
use Rattle.replay_model.specs.Played.{IsSetupOf, buffers_of, buffers_in as buffers_of_world, packet_counts, printed, report_with, AreBalanced}
use Rattle.replay_model.proofs.BalanceLemmas.{count_at, own_counts}
use Rattle.replay_model.proofs.RawLemmas.{none_has_raw}
use Rattle.scenario_text.specs.Raws.{HasNoRaw, RawsNone}
use Rattle.replay_model.proofs.PlayedLemmas.{setup_writers}
use Rattle.replay_host.proofs.CountingLemmas.{left_is, map_each, counts_long, left_in}
use Rattle.thread_service.specs.declared.service.Service.{Service}
use Rattle.thread_service.specs.Serving.{core_of, view_in}
use Rattle.thread_host.specs.Counting.{buffers_in, packets_in}
use Rattle.thread_host.specs.Ending.{begun_counts, no_counts}
use Rattle.thread_host.proofs.Seating.{seat_at}

-- there are as many buffers as the service was made with
pub buffers_long : (setup : Setup) (service : Service) → length (buffers_in setup service) ≡ length (core_of service).specs.items
buffers_long setup service =
    length_after (first_of setup (core_of service)) (history_of (view_in service))
    ∙ first_long setup 1 (map spec_value (core_of service).specs.items)
    ∙ length-map (core_of service).specs.items spec_value

-- what an element inside is does not hang on what stands in for those outside
inside_same : (items : List SequenceCounts) (place : ℕ) (d : SequenceCounts) → place < length items → get_or items place d ≡ get_or items place no_counts
inside_same items place d inside = get_or_from_slice_get items place (get_or items place no_counts) d (slice_get-get_or items place no_counts inside)

module _ (scenario : Parts) (setup : Setup) (laid : IsSetupOf scenario setup) (seats : List WriterSeat) (many : length seats ≡ length setup.writers)
    (service : Service) (first : first_of setup (core_of service) ≡ buffers_of scenario setup) where
  abbrev world : World
  world = record { chunks = []; writers = views_of seats; service = view_in service }

  buffers_are : buffers_in setup service ≡ buffers_of_world scenario setup (record { chunks = []; writers = views_of seats; service = view_in service })
  buffers_are = ap (λ (buffers : List Buffer). buffers_after buffers (history_of (view_in service))) first

  -- the counts of a writer are those of the report
  packets_are : RawsNone scenario.lines
      → AreBalanced scenario.lines (packet_counts scenario setup (record { chunks = []; writers = views_of seats; service = view_in service }))
      → (place : ℕ) (calls : List Call) (counts : PacketCounts)
      → (writer (record { chunks = []; writers = views_of seats; service = view_in service }) place).calls ≡ calls
      → slice_get (packet_counts scenario setup (record { chunks = []; writers = views_of seats; service = view_in service })) place ≡ Some counts
      → packets_in setup service place (begun_counts calls) ≡ printed counts
  packets_are none balanced place calls counts row get =
      let own : HasNoRaw scenario.lines place = none_has_raw scenario.lines place none in
      let buffers : List Buffer = buffers_of_world scenario setup world in
      let count = count_at scenario.lines buffers world 0 scenario.writers place counts get in
      let spec_is : spec_at setup.writers place ≡ count.spec =
      ap (λ (specs : List WriterSpec). spec_at specs place) (setup_writers scenario setup laid)
      ∙ get_or_from_slice_get scenario.writers place count.spec no_writer count.get in
      let index : buffer_of setup place - 1 ≡ count.spec.buffer - 1 = ap (λ (s : WriterSpec). s.buffer - 1) spec_is in
      let number : ℕ = count.spec.buffer - 1 in
      let counts_is : counts ≡ counts_of (buffer_at buffers number).policy (writer world place).calls
      (sequence_in (buffer_at buffers number).sequences (sequence_of place)) =
      own_counts scenario.lines buffers world scenario.writers place counts own count in
      let one = subst IsBalanced counts_is (balanced place counts own get) in
      ap (λ (all : List Buffer). left_in place all (buffer_of setup place - 1) calls) buffers_are
      ∙ ap (λ (n : ℕ). left_in place buffers n calls) index
      ∙ ap (λ (cs : List Call). left_in place buffers number cs) (sym row)
      ∙ left_is (buffer_at buffers number).policy (writer world place).calls
      (sequence_in (buffer_at buffers number).sequences (sequence_of place)) one
      ∙ ap printed (sym counts_is)

  -- and so are all of them
  sequences_are : RawsNone scenario.lines
      → AreBalanced scenario.lines (packet_counts scenario setup (record { chunks = []; writers = views_of seats; service = view_in service }))
      → (told items : List SequenceCounts) → length items ≡ length setup.writers
      → ((place : ℕ) (seat : WriterSeat) → slice_get seats place ≡ Some seat → slice_index_or told place no_counts ≡ begun_counts (known_by seat).calls)
      → ((place : ℕ) → place < length setup.writers
      → slice_index_or items place no_counts ≡ packets_in setup service place (slice_index_or told place no_counts))
      → items ≡ map printed (packet_counts scenario setup (record { chunks = []; writers = views_of seats; service = view_in service }))
  sequences_are none balanced told items long begun each =
      let writers = ap (λ (specs : List WriterSpec). length specs) (setup_writers scenario setup laid) in
      let wide = counts_long scenario.lines (buffers_of_world scenario setup world) world 0 scenario.writers in
      map_each printed (packet_counts scenario setup world) items (omega (arith, long, writers, wide))
      (λ place counts d get.
      let within = slice_get_within (packet_counts scenario setup world) place counts get in
      let inside : place < length setup.writers = omega (arith, within, writers, wide) in
      let here = seat_at seats place (omega (arith, inside, many)) in
      inside_same items place d (omega (arith, inside, long))
      ∙ each place inside
      ∙ ap (packets_in setup service place) (begun place here.seat here.there)
      ∙ packets_are none balanced place (known_by here.seat).calls counts (ap (λ (v : WriterView). v.calls) here.view) get)

  -- The report of what was counted is that of the world.
  pub report_is : RawsNone scenario.lines
      → AreBalanced scenario.lines (packet_counts scenario setup (record { chunks = []; writers = views_of seats; service = view_in service }))
      → (told items : List SequenceCounts) → length items ≡ length setup.writers
      → ((place : ℕ) (seat : WriterSeat) → slice_get seats place ≡ Some seat → slice_index_or told place no_counts ≡ begun_counts (known_by seat).calls)
      → ((place : ℕ) → place < length setup.writers
      → slice_index_or items place no_counts ≡ packets_in setup service place (slice_index_or told place no_counts))
      → (sums : List ℕ) → report_text (map answers.counts_of (buffers_in setup service)) items sums
      ≡ report_with scenario setup (record { chunks = []; writers = views_of seats; service = view_in service }) sums
  report_is none balanced told items long begun each sums =
      ap (λ all. report_text (map answers.counts_of all) items sums) buffers_are
      ∙ ap (λ all. report_text (map answers.counts_of (buffers_of_world scenario setup world)) all sums)
      (sequences_are none balanced told items long begun each)
