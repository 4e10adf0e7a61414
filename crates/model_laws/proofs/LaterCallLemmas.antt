-- Later calls change no finished packet: what calls take at most doesn't get less by more of them.
use Rattle.std.proofs.Common.{◌≡◌, ◌∙◌, ℕ, ◌+◌, ◌/◌, ◌-◌, ◌≤◌, Bool, true, false, not, List, [], ◌∷◌, ◌++◌, length, refl, ap, arith, cond}
use Rattle.std.specs.Prelude.{◌==◌, IsTrue, fold}
use Rattle.std.proofs.lemmas.Bool.{and_parts}
use Rattle.std.proofs.lemmas.List.Sums.{sum_by-append}
use Rattle.trace_model.specs.Calls.{Call, Begun, Number, Bytes, Nested, Ended, GivenUp, Finished, Flushed}
use Rattle.trace_model.specs.Encoding.{number_field, bytes_field}
use Rattle.trace_model.specs.Packets.{Packet, Account, begun_packet, on_newest, with_more, with_nested, with_nested_ended, given_up_packet, finished_packet, newest_is_lost, packet_encoding, noted, nothing_yet, is_writing, open_count, is_possible, are_possible_after, emissions_in}
use Rattle.trace_model.specs.Enough.{most_chunks}
use Rattle.trace_model.proofs.PacketLemmas.{emitted_more}
use Rattle.model_laws.specs.ChunkCounts.{MoreCallsTakeMore}
use Rattle.model_laws.proofs.LossLemmas.{emitted_one, account_with}

taken_with : (size : ℕ) (packet : Packet) (older : List Packet)
    → most_chunks size (emissions_in (packet ∷ older)) ≡ most_chunks size (emissions_in older) + most_chunks size (emitted_one packet)
taken_with size packet older =
    ap (most_chunks size) (emitted_more packet older packet.finished refl)
    ∙ sum_by-append (λ (one : List ℕ). 1 + length one / (size - 7)) (emissions_in older) (emitted_one packet)

-- a packet that is being written was not emitted yet
newest_changed : (size : ℕ) (change : Packet → Packet) (packets : List Packet) (flushed : Bool) → is_writing packets ≡ true
    → most_chunks size (emissions_in packets) ≤ most_chunks size (emissions_in (on_newest change (account_with packets flushed)).packets)
newest_changed size change [] flushed writes = omega arith
newest_changed size change (packet ∷ older) flushed writes =
    let before = taken_with size packet older in
    let behind = taken_with size (change packet) older in
    let none : most_chunks size (emitted_one packet) ≡ 0 = step packet.finished writes in
    omega (arith, before, behind, none)
  where
    step : (b : Bool) → not b ≡ true → most_chunks size (cond b (packet_encoding packet ∷ []) []) ≡ 0
    step true e = absurd (cc)
    step false e = refl

one_more : (size : ℕ) (call : Call) (packets : List Packet) (flushed : Bool) → IsTrue (is_possible packets call)
    → most_chunks size (emissions_in packets) ≤ most_chunks size (emissions_in (noted (account_with packets flushed) call).packets)
one_more size (Begun kept) packets flushed possible =
    let taken = taken_with size (begun_packet kept (account_with packets flushed)) packets in
    omega (arith, taken)
one_more size (Number field value) packets flushed possible = newest_changed size (with_more (number_field field value)) packets flushed possible
one_more size (Bytes field text times) packets flushed possible = newest_changed size (with_more (bytes_field field text times)) packets flushed possible
one_more size (Nested field) packets flushed possible = newest_changed size (with_nested field) packets flushed possible
one_more size Ended packets flushed possible =
    newest_changed size with_nested_ended packets flushed (and_parts (is_writing packets) (not (open_count packets == 1)) possible).0
one_more size GivenUp packets flushed possible =
    newest_changed size given_up_packet packets flushed (and_parts (is_writing packets) (not (newest_is_lost packets)) possible).0
one_more size Finished packets flushed possible =
    newest_changed size finished_packet packets flushed (and_parts (is_writing packets) (open_count packets == 1) possible).0
one_more size Flushed packets flushed possible = omega arith

more_after : (size : ℕ) (more : List Call) (account : Account) → IsTrue (are_possible_after account more)
    → most_chunks size (emissions_in account.packets) ≤ most_chunks size (emissions_in (fold noted account more).packets)
more_after size [] account possible = omega arith
more_after size (call ∷ more) account possible =
    let both = and_parts (is_possible account.packets call) (are_possible_after (noted account call) more) possible in
    let one = one_more size call account.packets account.flushed both.0 in
    let others = more_after size more (noted account call) both.1 in
    omega (arith, one, others)

-- those calls first, one by one
all_more : (size : ℕ) (calls more : List Call) (account : Account) → IsTrue (are_possible_after account (calls ++ more))
    → most_chunks size (emissions_in (fold noted account calls).packets) ≤ most_chunks size (emissions_in (fold noted account (calls ++ more)).packets)
all_more size [] more account possible = more_after size more account possible
all_more size (call ∷ calls) more account possible =
    all_more size calls more (noted account call) (and_parts (is_possible account.packets call) (are_possible_after (noted account call) (calls ++ more)) possible).1

pub more_calls_take_more : MoreCallsTakeMore
more_calls_take_more size calls more possible = all_more size calls more nothing_yet possible
