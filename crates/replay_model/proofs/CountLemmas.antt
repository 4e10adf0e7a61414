-- The report of a replay counts the outcomes of its packets, and as many deliveries as records.
use Rattle.std.proofs.Common.{◌≡◌, ◌∙◌, ℕ, ◌+◌, ◌-◌, ◌≤◌, Bool, true, false, List, [], ◌∷◌, length, Some, refl, sym, ap, subst, arith, cond}
use Rattle.std.specs.Prelude.{slice_get}
use Rattle.std.proofs.lemmas.Bool.{eq-eqb}
use Rattle.std.proofs.lemmas.List.{length-map}
use Rattle.std.proofs.lemmas.Option.{get_or_from_slice_get}
use Rattle.trace_base.specs.declared.policy.FullPolicy.{FullPolicy}
use Rattle.trace_base.specs.declared.policy.WriterSpec.{WriterSpec}
use Rattle.page_geometry.specs.Sizes.{record_size}
use Rattle.trace_model.specs.Arrivals.{Arrived, Kept, Rewritten, Duplicate, Discarded, TooFar, BadChunk, settled, discarded_buffer, arrival_of, partial_arrival_of, with_arrival, with_image, once_read}
use Rattle.trace_model.specs.Balance.{PacketCounts, CountsOutcomes, counts_of, packet_outcomes}
use Rattle.trace_model.specs.Buffers.{Buffer}
use Rattle.trace_model.specs.Causes.{fixed_after}
use Rattle.trace_model.specs.Counts.{raised, last_count}
use Rattle.trace_model.specs.History.{Event, Arrives, ArrivesInPart, Patched, Committed, Closed, Read, after, buffer_after, event_sequence, state_after, delivered_to}
use Rattle.trace_model.specs.Images.{Image, Chunk, Patch, complete_chunk, partial_chunk, whole_chunk}
use Rattle.trace_model.specs.Patches.{with_patch, with_patches, closed_buffer}
use Rattle.trace_model.specs.Reads.{Delivery}
use Rattle.trace_model.specs.Record.{record_of}
use Rattle.trace_model.specs.Reading.{Reading, Fragments, Unreadable, reading_of}
use Rattle.trace_model.specs.Sequences.{Sequence, sequence_in, is_known}
use Rattle.model_laws.proofs.ReportLemmas.{counts_are_of_outcomes, reports_count_deliveries}
use Rattle.delivery_laws.proofs.ReportLemmas.{accounts_are_histories}
use Rattle.chunk_plain.specs.Setup.{Setup, sequence_of, size_of, no_writer}
use Rattle.chunk_plain.specs.World.{World, writer}
use Rattle.chunk_plain.specs.Histories.{history_of}
use Rattle.world_model.specs.FirstBuffers.{sequences_from}
use Rattle.world_model.proofs.MakingLemmas.{set_at}
use Rattle.world_model.proofs.ProjectLemmas.{once_writes}
use Rattle.scenario_text.specs.Scenario.{Parts}
use Rattle.scenario_text.specs.Limits.{IsWriter, IsSetUp}
use Rattle.scenario_text.specs.Raws.{HasNoRaw}
use Rattle.service_core.specs.Routing.{buffer_at}
use Rattle.replay_model.specs.Laws.{EveryReportCountsPackets}
use Rattle.replay_model.specs.Played.{buffer_specs, buffers_of, buffers_in, packet_counts, first_buffer, CountsPackets}
use Rattle.replay_model.proofs.BalanceLemmas as balance
use Rattle.replay_model.proofs.BalanceLemmas.{count_at, own_counts, each_is}
use Rattle.replay_model.proofs.CompleteLemmas.{once_here}
use Rattle.replay_model.proofs.DoneLemmas.{IsDone, played_done, there, within, account_of}

-- ---- a buffer keeps its policy

policy_settled : (outcome : Arrived) (b : Buffer) (q chunk_id : ℕ) (chunk : Chunk) → (settled outcome b q chunk_id chunk).policy ≡ b.policy
policy_settled Kept b q chunk_id chunk = refl
policy_settled Rewritten b q chunk_id chunk = refl
policy_settled Duplicate b q chunk_id chunk = refl
policy_settled Discarded b q chunk_id chunk = step chunk.partial
  where
    step : (x : Bool) → (cond x (record b { shut = true }) (discarded_buffer b q chunk_id chunk)).policy ≡ b.policy
    step true = refl
    step false = refl
policy_settled TooFar b q chunk_id chunk = refl
policy_settled (BadChunk fragment) b q chunk_id chunk = refl

policy_arrival : (b : Buffer) (q chunk_id : ℕ) (chunk : Chunk) → (with_arrival b q chunk_id chunk).policy ≡ b.policy
policy_arrival b q chunk_id chunk = policy_settled (arrival_of b q chunk_id) b q chunk_id (complete_chunk chunk)

policy_patches : (b : Buffer) (q : ℕ) (patches : List Patch) → (with_patches b q patches).policy ≡ b.policy
policy_patches b q [] = refl
policy_patches b q (patch ∷ patches) = policy_patches (with_patch b q patch) q patches

policy_image : (b : Buffer) (image : Image) → (with_image b image).policy ≡ b.policy
policy_image b image = by_reading (reading_of image.count image.payload)
  where
    by_reading : (reading : Reading) → (once_read b (with_arrival b image.sequence image.chunk_id) image.flags reading).policy ≡ b.policy
    by_reading (Fragments fragments) = policy_arrival b image.sequence image.chunk_id (whole_chunk image.flags fragments)
    by_reading (Unreadable number) = refl

policy_after : (b : Buffer) (event : Event) → (after b event).policy ≡ b.policy
policy_after b (Arrives q chunk_id chunk) = policy_arrival b q chunk_id chunk
policy_after b (ArrivesInPart q chunk_id chunk) = policy_settled (partial_arrival_of b q chunk_id (length chunk.fragments)) b q chunk_id (partial_chunk chunk)
policy_after b (Patched q patches) = policy_patches b q patches
policy_after b (Committed image patches) = policy_patches (with_image b image) image.sequence patches ∙ policy_image b image
policy_after b (Closed q) = step (sequence_in b.sequences q).closed
  where
    step : (x : Bool) → (cond x b (closed_buffer b q)).policy ≡ b.policy
    step true = refl
    step false = refl
policy_after b (Read q limit) = refl

pub policy_stays : (events : List Event) (b : Buffer) → (state_after b events).policy ≡ b.policy
policy_stays [] b = refl
policy_stays (event ∷ events) b = policy_stays events (buffer_after b event) ∙ step (is_known b.sequences (event_sequence event))
  where
    step : (x : Bool) → (cond x (after b event) b).policy ≡ b.policy
    step true = policy_after b event
    step false = refl

-- ---- the counts of one writer

module _ (scenario : Parts) (setup : Setup) (world : World) (done : IsDone scenario setup world)
    (few : length scenario.lines ≤ last_count) (place : ℕ) (spec : WriterSpec) (get : slice_get scenario.writers place ≡ Some spec)
    (is_writer : IsWriter scenario.buffers scenario.producers spec) where
  abbrev own : Buffer
  own = balance.first scenario setup world done few place spec get is_writer

  first_is : first_buffer scenario setup place ≡ own
  first_is =
      ap (λ (s : WriterSpec). buffer_at (buffers_of scenario setup) (s.buffer - 1)) (get_or_from_slice_get scenario.writers place spec no_writer get)
      ∙ balance.begins_as scenario setup world done few place spec get is_writer

  counted : HasNoRaw scenario.lines place → (counts : PacketCounts)
      → counts ≡ counts_of (buffer_at (buffers_in scenario setup world) (spec.buffer - 1)).policy (writer world place).calls
      (sequence_in (buffer_at (buffers_in scenario setup world) (spec.buffer - 1)).sequences (sequence_of place))
      → CountsPackets scenario setup world place counts
  counted none counts is =
      let inside = within scenario setup world done place spec get in
      let wrote = done.wrote place inside in
      let set = set_at setup place spec (there scenario setup world done place spec get) spec.buffer in
      let named = eq-eqb spec.buffer spec.buffer refl in
      let sequences : List Sequence = sequences_from setup spec.buffer 0 setup.writers in
      let size : ℕ = record_size (size_of setup spec.producer) in
      let history : List Event = history_of world.service in
      let account = account_of scenario setup world done place inside none sequences size (set.known ∙ named) (set.start named) in
      let histories = accounts_are_histories _ (writer world place).calls wrote.cut.cut.pages sequences (place + 2) size history account
      (balance.begun_few scenario setup world done few place spec get is_writer) in
      let outcomes = counts_are_of_outcomes _ (writer world place).calls wrote.cut.cut.pages own.room own.policy sequences (place + 2) size history histories in
      let becomes = balance.becomes scenario setup world done few place spec get is_writer in
      let same : counts ≡ counts_of own.policy (writer world place).calls (sequence_in (state_after own history).sequences (place + 2)) =
      is
      ∙ ap (λ (b : Buffer). counts_of b.policy (writer world place).calls (sequence_in b.sequences (sequence_of place))) becomes
      ∙ ap (λ (p : FullPolicy). counts_of p (writer world place).calls (sequence_in (state_after own history).sequences (place + 2))) (policy_stays history own) in
      let shape = done.shape place inside in
      let least = is_writer.counts_buffer in
      let once = once_here setup place spec (there scenario setup world done place spec get) 1 (buffer_specs scenario) (spec.buffer - 1)
      (balance.made scenario setup world done few place spec get is_writer) (balance.made_there scenario setup world done few place spec get is_writer)
      (omega (arith, least)) in
      let written = ap (λ (xs : List (List ℕ)). length xs) (once_writes (place + 2) history own (buffers_of scenario setup) once) in
      let long = length-map (delivered_to (place + 2) own history) (λ (delivery : Delivery). record_of delivery.body (place + 2) delivery.marked) in
      record {
        wrote = wrote;
        begun = ap (λ (c : PacketCounts). c.begun) same ∙ ap (λ (n : ℕ). raised 0 n) shape.begun;
        outcomes = subst (λ (b : Buffer). CountsOutcomes b.policy (packet_outcomes (fixed_after (sequence_of place) b history) (writer world place).calls wrote.cut.cut.pages) counts) (sym first_is)
            (subst (CountsOutcomes own.policy (packet_outcomes (fixed_after (place + 2) own history) (writer world place).calls wrote.cut.cut.pages)) (sym same) outcomes);
        records = ap (λ (c : PacketCounts). c.delivered) same
            ∙ reports_count_deliveries _ (writer world place).calls wrote.cut.cut.pages own.room own.policy sequences (place + 2) size history histories
            ∙ sym (written ∙ long);
      }

pub done_counts : (scenario : Parts) (setup : Setup) (world : World) → IsDone scenario setup world → length scenario.lines ≤ last_count
    → IsSetUp scenario.buffers scenario.producers scenario.writers → (place : ℕ) (counts : PacketCounts) → HasNoRaw scenario.lines place
    → slice_get (packet_counts scenario setup world) place ≡ Some counts → CountsPackets scenario setup world place counts
done_counts scenario setup world done few is_set_up place counts none get =
    let count = count_at scenario.lines (buffers_in scenario setup world) world 0 scenario.writers place counts get in
    let is_writer = each_is (IsWriter scenario.buffers scenario.producers) scenario.writers place count.spec is_set_up.are_writers count.get in
    counted scenario setup world done few place count.spec count.get is_writer none counts
    (own_counts scenario.lines (buffers_in scenario setup world) world scenario.writers place counts none count)

pub every_report_counts_packets : EveryReportCountsPackets
every_report_counts_packets scenario setup world notes played = done_counts scenario setup world (played_done scenario setup world notes played)
