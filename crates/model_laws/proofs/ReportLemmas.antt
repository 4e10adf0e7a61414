-- The report's counts are those of the packets' outcomes, and add up to the packets that were begun.
use Rattle.std.proofs.Common.{◌≡◌, ◌∙◌, ℕ, suc, ◌+◌, ◌≤◌, Bool, true, false, not, ◌||◌, List, [], ◌∷◌, reverse, length, refl, sym, ap, arith, Option}
use Rattle.std.specs.Prelude.{cond, count_by, filter, unwrap_or}
use Rattle.std.specs.List.{AllZip}
use Rattle.std.proofs.lemmas.List.{length-reverse}
use Rattle.trace_base.specs.declared.policy.FullPolicy.{FullPolicy}
use Rattle.trace_model.specs.Calls.{Call}
use Rattle.trace_model.specs.Counts.{last_count, raised}
use Rattle.trace_model.specs.Packets.{Packet, packets_of, kept_of, begun_count, dropped_at_begin}
use Rattle.trace_model.specs.Pages.{Page, patches_of}
use Rattle.trace_model.specs.Row.{Chain}
use Rattle.trace_model.specs.Cut.{IsChainOf}
use Rattle.trace_model.specs.Written.{written_slots, written_row, chains_in, chains_of}
use Rattle.trace_model.specs.Sequences.{Cursor, Sequence, sequence_in}
use Rattle.trace_model.specs.Buffers.{discards, empty_buffer}
use Rattle.trace_model.specs.Reads.{Dropped, Lost, Cut}
use Rattle.trace_model.specs.History.{Event, state_after}
use Rattle.trace_model.specs.Causes.{Fixed, Outcome, Delivered, Absent, is_same_place, outcome_at, fixed_after}
use Rattle.trace_model.specs.CauseLaws.{AreDistinct, AreCounted}
use Rattle.trace_model.specs.Balance.{outcomes_of, is_delivered, is_absent_under, packet_outcomes}
use Rattle.trace_model.proofs.OneOutcomeLemmas.{packets_have_one_outcome}
use Rattle.trace_model.proofs.TallyLemmas.{tally}
use Rattle.trace_model.proofs.CountedLemmas.{counts_are_outcomes}
use Rattle.model_laws.specs.Starts.{begins_one, AllBegin}
use Rattle.model_laws.specs.OutcomeLaws.{FixedPlacesAreStarts, IsHistoryOf, CountsAreOfOutcomes, CountsAreBalanced, ReportsCountDeliveries}
use Rattle.model_laws.proofs.DeliveryLemmas.{deliveries_are_counted}
use Rattle.model_laws.proofs.PlaceCounts.{Spread, AllAmong, is_place_of, begins_of, count-cons, count-reversed, count-all, counted_at, few as few_fixed, row_spread}
use Rattle.model_laws.proofs.StartLemmas.{starts_after}
use Rattle.model_laws.proofs.WrittenStarts.{any_reversed, all_begin}

pub fixed_places_are_starts : FixedPlacesAreStarts
fixed_places_are_starts room policy sequences sequence events pages are =
    all_begin pages (fixed_after sequence (empty_buffer room policy sequences) events) (starts_after events sequence pages (empty_buffer room policy sequences) are tt)

-- Chains and packets

chains_long : (size : ℕ) (packets : List Packet) (chains : List Chain) → AllZip (IsChainOf size) packets chains → length chains ≡ length packets
chains_long size [] [] h = refl
chains_long size [] (chain ∷ chains) h = absurd h
chains_long size (packet ∷ packets) [] h = absurd h
chains_long size (packet ∷ packets) (chain ∷ chains) h = ap suc (chains_long size packets chains h.1)

abbrev lost_ones : List Packet → List Packet
lost_ones packets = filter (λ packet. not packet.kept) packets

kept_and_lost : (packets : List Packet) → length packets ≡ length (kept_of packets) + length (lost_ones packets)
kept_and_lost [] = refl
kept_and_lost (packet ∷ packets) = step packet.kept (kept_and_lost packets)
  where
    step : (b : Bool) → length packets ≡ length (kept_of packets) + length (lost_ones packets)
        → suc (length packets) ≡ length (cond b (packet ∷ kept_of packets) (kept_of packets)) + length (cond (not b) (packet ∷ lost_ones packets) (lost_ones packets))
    step true k = omega (arith, k)
    step false k = omega (arith, k)

outcomes_long : (fixed : List Fixed) (packets : List Packet) (chains : List Chain) → length (outcomes_of fixed packets chains) ≡ length packets
outcomes_long fixed [] chains = refl
outcomes_long fixed (packet ∷ packets) [] = ap suc (outcomes_long fixed packets [])
outcomes_long fixed (packet ∷ packets) (chain ∷ chains) = step packet.kept (outcomes_long fixed packets)
  where
    step : (b : Bool) → ((cs : List Chain) → length (outcomes_of fixed packets cs) ≡ length packets)
        → length (cond b (unwrap_or (outcome_at chain.at fixed) (Absent Cut) ∷ outcomes_of fixed packets chains) (Absent Dropped ∷ outcomes_of fixed packets (chain ∷ chains))) ≡ suc (length packets)
    step true k = ap suc (k chains)
    step false k = ap suc (k (chain ∷ chains))

-- where nothing was fixed the packet is cut
abbrev found : Option Outcome → Outcome
found o = unwrap_or o (Absent Cut)

-- The outcomes that pass a test: those of the packets dropped at their begin, and those fixed where chains begin.
outcomes_count : (test : Outcome → Bool) (fixed : List Fixed) (packets : List Packet) (chains : List Chain) → length chains ≡ length (kept_of packets)
    → count_by test (outcomes_of fixed packets chains)
    ≡ cond (test (Absent Dropped)) (length (lost_ones packets)) 0 + count_by (λ (at : Cursor). test (found (outcome_at at fixed))) (begins_of chains)
outcomes_count test fixed [] [] long = none (test (Absent Dropped))
  where
    none : (b : Bool) → ◌≡◌ {A = ℕ} 0 (cond b 0 0 + 0)
    none true = refl
    none false = refl
outcomes_count test fixed [] (chain ∷ chains) long = absurd (omega (arith, long))
outcomes_count test fixed (packet ∷ packets) [] long = step packet.kept long (outcomes_count test fixed packets [])
  where
    step : (b : Bool) → 0 ≡ length (cond b (packet ∷ kept_of packets) (kept_of packets))
        → (0 ≡ length (kept_of packets) → count_by test (outcomes_of fixed packets []) ≡ cond (test (Absent Dropped)) (length (lost_ones packets)) 0 + 0)
        → count_by test (Absent Dropped ∷ outcomes_of fixed packets []) ≡ cond (test (Absent Dropped)) (length (cond (not b) (packet ∷ lost_ones packets) (lost_ones packets))) 0 + 0
    step true e k = absurd (omega (arith, e))
    step false e k =
        let one = count-cons test (Absent Dropped) (outcomes_of fixed packets []) in
        one ∙ ap (λ (n : ℕ). cond (test (Absent Dropped)) 1 0 + n) (k e) ∙ more (test (Absent Dropped))
      where
        more : (b : Bool) → cond b 1 0 + (cond b (length (lost_ones packets)) 0 + 0) ≡ cond b (suc (length (lost_ones packets))) 0 + 0
        more true = omega arith
        more false = refl
outcomes_count test fixed (packet ∷ packets) (chain ∷ chains) long = step packet.kept long (outcomes_count test fixed packets)
  where
    step : (b : Bool) → suc (length chains) ≡ length (cond b (packet ∷ kept_of packets) (kept_of packets))
        → ((cs : List Chain) → length cs ≡ length (kept_of packets)
        → count_by test (outcomes_of fixed packets cs) ≡ cond (test (Absent Dropped)) (length (lost_ones packets)) 0 + count_by (λ (at : Cursor). test (found (outcome_at at fixed))) (begins_of cs))
        → count_by test (cond b (found (outcome_at chain.at fixed) ∷ outcomes_of fixed packets chains) (Absent Dropped ∷ outcomes_of fixed packets (chain ∷ chains)))
        ≡ cond (test (Absent Dropped)) (length (cond (not b) (packet ∷ lost_ones packets) (lost_ones packets))) 0
        + count_by (λ (at : Cursor). test (found (outcome_at at fixed))) (chain.at ∷ begins_of chains)
    step true e k =
        let one = count-cons test (found (outcome_at chain.at fixed)) (outcomes_of fixed packets chains) in
        let place = count-cons (λ (at : Cursor). test (found (outcome_at at fixed))) chain.at (begins_of chains) in
        let rest = k chains (omega (arith, e)) in
        omega (arith, one, place, rest)
    step false e k =
        let one = count-cons test (Absent Dropped) (outcomes_of fixed packets (chain ∷ chains)) in
        let rest = k (chain ∷ chains) e in
        let more : cond {A = ℕ} (test (Absent Dropped)) (suc (length (lost_ones packets))) 0 ≡ cond (test (Absent Dropped)) 1 0 + cond (test (Absent Dropped)) (length (lost_ones packets)) 0 = longer (test (Absent Dropped)) in
        omega (arith, one, rest, more)
      where
        longer : (b : Bool) → cond b (suc (length (lost_ones packets))) 0 ≡ cond b 1 0 + cond b (length (lost_ones packets)) 0
        longer true = omega arith
        longer false = refl

-- Each outcome is one of four

four_kinds : (fixed : List Fixed)
    → length fixed ≡ tally is_delivered fixed + tally (is_absent_under Dropped) fixed + tally (is_absent_under Lost) fixed + tally (is_absent_under Cut) fixed
four_kinds [] = refl
four_kinds (f ∷ fixed) =
    let a = count-cons (λ (g : Fixed). is_delivered g.outcome) f fixed in
    let b = count-cons (λ (g : Fixed). is_absent_under Dropped g.outcome) f fixed in
    let c = count-cons (λ (g : Fixed). is_absent_under Lost g.outcome) f fixed in
    let d = count-cons (λ (g : Fixed). is_absent_under Cut g.outcome) f fixed in
    let one = kind f.outcome in
    let rest = four_kinds fixed in
    omega (arith, a, b, c, d, one, rest)
  where
    kind : (o : Outcome) → cond (is_delivered o) 1 0 + cond (is_absent_under Dropped o) 1 0 + cond (is_absent_under Lost o) 1 0 + cond (is_absent_under Cut o) 1 0 ≡ 1
    kind Delivered = refl
    kind (Absent Dropped) = refl
    kind (Absent Lost) = refl
    kind (Absent Cut) = refl

-- All numbers of a report

among_chains : (fixed : List Fixed) (chains : List Chain) → AllBegin (reverse chains) fixed → AllAmong (begins_of chains) fixed
among_chains [] chains h = tt
among_chains (f ∷ fixed) chains h =
    (sym (any_begins chains f.at) ∙ sym (any_reversed (λ (chain : Chain). is_same_place chain.at f.at) chains) ∙ h.0, among_chains fixed chains h.1)
  where
    any_begins : (chains : List Chain) (at : Cursor) → begins_one chains at ≡ is_place_of (begins_of chains) at
    any_begins [] at = refl
    any_begins (chain ∷ chains) at = ap (λ (b : Bool). is_same_place chain.at at || b) (any_begins chains at)

-- the places of chains that stand the other way round
count-begins : (test : Cursor → Bool) (chains : List Chain) → count_by test (begins_of (reverse chains)) ≡ count_by test (begins_of chains)
count-begins test chains = at_chains (reverse chains) ∙ count-reversed (λ (chain : Chain). test chain.at) chains ∙ sym (at_chains chains)
  where
    at_chains : (chains : List Chain) → count_by test (begins_of chains) ≡ count_by (λ (chain : Chain). test chain.at) chains
    at_chains [] = refl
    at_chains (chain ∷ chains) =
        let one = count-cons test chain.at (begins_of chains) in
        let place = count-cons (λ (c : Chain). test c.at) chain chains in
        let rest = at_chains chains in
        omega (arith, one, place, rest)

begins_long : (chains : List Chain) → length (begins_of chains) ≡ length chains
begins_long [] = refl
begins_long (chain ∷ chains) = ap suc (begins_long chains)

-- the counts of a report, and of the outcomes, by what was fixed
record Numbers (policy : FullPolicy) (calls : List Call) (fixed : List Fixed) (outcomes : List Outcome) (state : Sequence) : Type 0 where
  delivered : ℕ
  dropped : ℕ
  lost : ℕ
  cut : ℕ
  kept : ℕ
  few : delivered + dropped + lost + cut ≤ kept
  begun : begun_count calls ≡ kept + dropped_at_begin calls
  countable : begun_count calls ≤ last_count
  delivered_is : delivered ≡ tally is_delivered fixed
  all_outcomes : count_by (λ (o : Outcome). true) outcomes ≡ begun_count calls
  delivered_outcomes : count_by is_delivered outcomes ≡ delivered
  dropped_outcomes : count_by (is_absent_under Dropped) outcomes ≡ dropped_at_begin calls + dropped
  lost_outcomes : count_by (is_absent_under Lost) outcomes ≡ lost
  cut_outcomes : count_by (is_absent_under Cut) outcomes + (delivered + dropped + lost + cut) ≡ cut + kept
  state_delivered : state.delivered ≡ raised 0 delivered
  state_dropped : state.dropped ≡ raised 0 dropped
  state_lost : state.lost ≡ raised 0 lost
  state_cut : state.cut ≡ raised 0 cut

numbers : (size : ℕ) (calls : List Call) (pages : List Page) (room : ℕ) (policy : FullPolicy) (sequences : List Sequence) (sequence record_size : ℕ)
    (events : List Event) → IsHistoryOf size calls pages sequences sequence record_size events
    → Numbers policy calls (fixed_after sequence (empty_buffer room policy sequences) events)
    (packet_outcomes (fixed_after sequence (empty_buffer room policy sequences) events) calls pages)
    (sequence_in (state_after (empty_buffer room policy sequences) events).sequences sequence)
numbers size calls pages room policy sequences sequence record_size events h =
    let packets : List Packet = packets_of calls in
    let fixed : List Fixed = fixed_after sequence (empty_buffer room policy sequences) events in
    let chains : List Chain = chains_in (written_row pages) in
    let places : List Cursor = begins_of chains in
    let long : length (chains_of pages) ≡ length (kept_of packets) = chains_long size (kept_of packets) (chains_of pages) h.cut.chains in
    let as_long : length places ≡ length (kept_of packets) = begins_long chains ∙ sym (length-reverse chains) ∙ long in
    let distinct : AreDistinct fixed = packets_have_one_outcome room policy sequences sequence record_size events h.known h.start h.closes in
    let spread : Spread places = row_spread false (written_slots (patches_of pages) 0 pages) 0 0 in
    let among : AllAmong places fixed = among_chains fixed chains (fixed_places_are_starts room policy sequences sequence events pages h.arrivals) in
    let counted : AreCounted fixed (sequence_in (state_after (empty_buffer room policy sequences) events).sequences sequence) =
    counts_are_outcomes room policy sequences sequence record_size events h.known h.start in
    let outcomes : List Outcome = outcomes_of fixed packets (chains_of pages) in
    let of_test : (test : Outcome → Bool) → count_by test (reverse outcomes) + cond (test (Absent Cut)) (length fixed) 0
    ≡ cond (test (Absent Dropped)) (length (lost_ones packets)) 0 + (tally test fixed + cond (test (Absent Cut)) (length places) 0) =
    λ test.
    let turned = count-reversed test outcomes in
    let all = outcomes_count test fixed packets (chains_of pages) long in
    let there = count-begins (λ (at : Cursor). test (found (outcome_at at fixed))) chains in
    let here = counted_at (λ (o : Option Outcome). test (found o)) fixed places distinct spread among in
    omega (arith, turned, all, there, here) in
    let kinds = four_kinds fixed in
    let most = few_fixed fixed places distinct spread among in
    let parts = kept_and_lost packets in
    let everyone = count-all (reverse outcomes) in
    let reversed = length-reverse outcomes in
    let each = outcomes_long fixed packets (chains_of pages) in
    record {
      delivered = tally is_delivered fixed;
      dropped = tally (is_absent_under Dropped) fixed;
      lost = tally (is_absent_under Lost) fixed;
      cut = tally (is_absent_under Cut) fixed;
      kept = length (kept_of packets);
      few = omega (arith, kinds, most, as_long);
      begun = parts;
      countable = h.countable;
      delivered_is = refl;
      all_outcomes = everyone ∙ reversed ∙ each;
      delivered_outcomes = omega (arith, of_test is_delivered);
      dropped_outcomes = omega (arith, of_test (is_absent_under Dropped));
      lost_outcomes = omega (arith, of_test (is_absent_under Lost));
      cut_outcomes = omega (arith, of_test (is_absent_under Cut), kinds, as_long);
      state_delivered = counted.delivered;
      state_dropped = counted.dropped;
      state_lost = counted.lost;
      state_cut = counted.cut;
    }

raised_is : (n : ℕ) → n ≤ last_count → raised 0 n ≡ n
raised_is n h = omega (arith, h)

pub counts_are_of_outcomes : CountsAreOfOutcomes
counts_are_of_outcomes size calls pages room policy sequences sequence record_size events h =
    let outcomes : List Outcome = packet_outcomes (fixed_after sequence (empty_buffer room policy sequences) events) calls pages in
    let state : Sequence = sequence_in (state_after (empty_buffer room policy sequences) events).sequences sequence in
    let n : Numbers policy calls (fixed_after sequence (empty_buffer room policy sequences) events) outcomes state = numbers size calls pages room policy sequences sequence record_size events h in
    let delivered : state.delivered ≡ n.delivered = let few = n.few in let begun = n.begun in let most = n.countable in n.state_delivered ∙ raised_is n.delivered (omega (arith, few, begun, most)) in
    let dropped : state.dropped ≡ n.dropped = let few = n.few in let begun = n.begun in let most = n.countable in n.state_dropped ∙ raised_is n.dropped (omega (arith, few, begun, most)) in
    let lost : state.lost ≡ n.lost = let few = n.few in let begun = n.begun in let most = n.countable in n.state_lost ∙ raised_is n.lost (omega (arith, few, begun, most)) in
    let cut : state.cut ≡ n.cut = let few = n.few in let begun = n.begun in let most = n.countable in n.state_cut ∙ raised_is n.cut (omega (arith, few, begun, most)) in
    let few = n.few in
    let begun = n.begun in
    let most = n.countable in
    let cut_all = n.cut_outcomes in
    record {
      begun = raised_is (begun_count calls) n.countable ∙ sym n.all_outcomes;
      delivered = delivered ∙ sym n.delivered_outcomes;
      dropped = ap (λ (m : ℕ). raised m (dropped_at_begin calls)) dropped ∙ omega (arith, few, begun, most) ∙ sym n.dropped_outcomes;
      overwritten = ap (λ (m : ℕ). cond (discards policy) 0 m) (lost ∙ sym n.lost_outcomes);
      discarded = ap (λ (m : ℕ). cond (discards policy) m 0) (lost ∙ sym n.lost_outcomes);
      cut = omega (arith, few, begun, most, cut_all, delivered, dropped, lost, cut);
    }

pub counts_are_balanced : CountsAreBalanced
counts_are_balanced size calls pages room policy sequences sequence record_size events h =
    let outcomes : List Outcome = packet_outcomes (fixed_after sequence (empty_buffer room policy sequences) events) calls pages in
    let state : Sequence = sequence_in (state_after (empty_buffer room policy sequences) events).sequences sequence in
    let n : Numbers policy calls (fixed_after sequence (empty_buffer room policy sequences) events) outcomes state = numbers size calls pages room policy sequences sequence record_size events h in
    let counts = counts_are_of_outcomes size calls pages room policy sequences sequence record_size events h in
    let few = n.few in
    let begun = n.begun in
    let all_of = n.all_outcomes in
    let delivered_of = n.delivered_outcomes in
    let dropped_of = n.dropped_outcomes in
    let lost_of = n.lost_outcomes in
    let cut_of = n.cut_outcomes in
    let begun_is = counts.begun in
    let delivered_is = counts.delivered in
    let dropped_is = counts.dropped in
    let cut_is = counts.cut in
    let lost_is = either (discards policy) (count_by (is_absent_under Lost) outcomes) in
    let overwritten_is = counts.overwritten in
    let discarded_is = counts.discarded in
    record { sum = omega (arith, few, begun, all_of, delivered_of, dropped_of, lost_of, cut_of, begun_is, delivered_is, dropped_is, cut_is, lost_is, overwritten_is, discarded_is) }
  where
    either : (b : Bool) (n : ℕ) → cond b 0 n + cond b n 0 ≡ n
    either true n = omega arith
    either false n = omega arith

-- What is counted as delivered is what was fixed so, and that is what the reads delivered.
pub reports_count_deliveries : ReportsCountDeliveries
reports_count_deliveries size calls pages room policy sequences sequence record_size events h =
    let outcomes : List Outcome = packet_outcomes (fixed_after sequence (empty_buffer room policy sequences) events) calls pages in
    let state : Sequence = sequence_in (state_after (empty_buffer room policy sequences) events).sequences sequence in
    let n : Numbers policy calls (fixed_after sequence (empty_buffer room policy sequences) events) outcomes state = numbers size calls pages room policy sequences sequence record_size events h in
    let few = n.few in
    let begun = n.begun in
    let most = n.countable in
    let delivered = n.delivered_is in
    n.state_delivered
    ∙ raised_is n.delivered (omega (arith, few, begun, most))
    ∙ delivered
    ∙ (deliveries_are_counted room policy sequences sequence record_size events h.known h.start).fixed_many
