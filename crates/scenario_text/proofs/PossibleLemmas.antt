-- The calls that a writer accepts are possible where they stand, and so are those that every scenario asks.
use Rattle.std.proofs.Common.{◌≡◌, ◌==◌, true, not, List, [], ◌∷◌, refl, ap, arith}
use Rattle.std.proofs.lemmas.Bool.{ne_eqb, eq-eqb, and_from}
use Rattle.trace_model.specs.Calls.{Call, Begun, Number, Bytes, Nested, Ended, GivenUp, Finished, Flushed}
use Rattle.trace_model.specs.Packets.{Packet, Account, noted, is_writing, open_count, is_possible, are_possible_after}
use Rattle.scenario_text.specs.Accepted.{Accepts, AreAccepted}

accepted_call : (packets : List Packet) (call : Call) → Accepts packets call → is_possible packets call ≡ true
accepted_call packets (Begun kept) accepts = ap not accepts.1
accepted_call packets (Number field value) accepts = accepts.begun
accepted_call packets (Bytes field text times) accepts = accepts.begun
accepted_call packets (Nested field) accepts = accepts.0.begun
accepted_call packets Ended accepts =
    and_from (is_writing packets) (not (open_count packets == 1)) accepts.0
    (ap not (ne_eqb (open_count packets) 1 (λ same. omega (arith, same, accepts.1))))
accepted_call packets GivenUp accepts = absurd accepts
accepted_call packets Finished accepts =
    and_from (is_writing packets) (open_count packets == 1) accepts.0 (eq-eqb (open_count packets) 1 accepts.1)
accepted_call packets Flushed accepts = ap not accepts

pub accepted_possible : (account : Account) (calls : List Call) → AreAccepted account calls → are_possible_after account calls ≡ true
accepted_possible account [] accepted = refl
accepted_possible account (call ∷ calls) accepted =
    and_from (is_possible account.packets call) (are_possible_after (noted account call) calls) (accepted_call account.packets call accepted.0)
    (accepted_possible (noted account call) calls accepted.1)
