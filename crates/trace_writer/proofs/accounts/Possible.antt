-- The calls that a writer notes are possible where they stand, and few of them lose a packet.
use Rattle.std.proofs.Common.{◌≡◌, ◌∙◌, ℕ, ◌+◌, ◌<◌, ◌==◌, ◌&&◌, ◌⊎◌, inl, inr, Bool, true, false, not, if◌then◌else◌, List, [], ◌∷◌, ◌++◌, length, filter, fold, refl, sym, ap, subst, arith, append-nil, true≢false}
use Rattle.std.proofs.lemmas.Bool.{ne_eqb, eq-eqb, and_from, and_parts}
use Rattle.trace_base.specs.declared.policy.WriterPolicy.{WriterPolicy}
use Rattle.trace_base.specs.declared.policy.WriterPolicy.TheVariants.{Drops, Stalls, StallsThenDrops}
use Rattle.trace_model.specs.Calls.{Call, Begun, Ended, GivenUp, Finished, Flushed}
use Rattle.trace_model.specs.Packets.{Packet, Account, account_of, packets_of, noted, nothing_yet, on_newest, with_more, with_nested, with_nested_ended, finished_packet, open_places, is_lost, newest_is_lost, is_writing, open_count, newest_is_kept, is_possible, are_possible_after, AreCalls, lost_count}
use Rattle.chunk_plain.specs.Views.{WriterView}
use Rattle.trace_writer.specs.Asked.{written_as, begun_as}
use Rattle.trace_writer.specs.Helping.{loses}
use Rattle.trace_writer.specs.Core.{in_packet, open_depth, newest_depth}
use Rattle.trace_writer.proofs.accounts.Accounts.{account_one}
use Rattle.trace_writer.proofs.accounts.Changes.{newest_open}

-- Calls in a row

possible_both : (account : Account) (calls more : List Call) → are_possible_after account calls ≡ true → are_possible_after (fold noted account calls) more ≡ true
    → are_possible_after account (calls ++ more) ≡ true
possible_both account [] more one two = two
possible_both account (call ∷ calls) more one two =
    let parts = and_parts (is_possible account.packets call) (are_possible_after (noted account call) calls) one in
    and_from (is_possible account.packets call) (are_possible_after (noted account call) (calls ++ more)) parts.0 (possible_both (noted account call) calls more parts.1 two)

-- one call more
pub possible_one : (view new : WriterView) (call : Call) → new.calls ≡ view.calls ++ call ∷ [] → is_possible (packets_of view.calls) call ≡ true → AreCalls view.calls → AreCalls new.calls
possible_one view new call is possible calls =
    subst AreCalls (sym is) (possible_both nothing_yet view.calls (call ∷ []) calls (and_from (is_possible (packets_of view.calls) call) true possible refl))

-- or two
pub possible_two : (view new : WriterView) (call next : Call) → new.calls ≡ view.calls ++ call ∷ next ∷ [] → is_possible (packets_of view.calls) call ≡ true
    → is_possible (noted (account_of view.calls) call).packets next ≡ true → AreCalls view.calls → AreCalls new.calls
possible_two view new call next is possible later calls =
    subst AreCalls (sym is) (possible_both nothing_yet view.calls (call ∷ next ∷ []) calls
    (and_from (is_possible (packets_of view.calls) call) (is_possible (noted (account_of view.calls) call).packets next && true) possible
    (and_from (is_possible (noted (account_of view.calls) call).packets next) true later refl)))

-- A change of the newest packet by which it is neither finished nor lost

pub record KeepsFate (change : Packet → Packet) : Type 0 where
  pub finished : (packet : Packet) → (change packet).finished ≡ packet.finished
  pub lost : (packet : Packet) → is_lost (change packet) ≡ is_lost packet

kept_changed : (change : Packet → Packet) (packets : List Packet) (flushed : Bool) → KeepsFate change
    → newest_is_kept (on_newest change (record { packets = packets; flushed = flushed })).packets ≡ newest_is_kept packets
kept_changed change [] flushed keeps = refl
kept_changed change (packet ∷ older) flushed keeps =
    ap (λ (b : Bool). not b && not (is_lost (change packet))) (keeps.finished packet) ∙ ap (λ (b : Bool). not packet.finished && not b) (keeps.lost packet)

counted_in : (lost : Bool) (packet : Packet) (others : List Packet) → length (if lost then packet ∷ others else others) ≡ (if lost then 1 else 0) + length others
counted_in true packet others = omega arith
counted_in false packet others = omega arith

lost_changed : (change : Packet → Packet) (packets : List Packet) (flushed : Bool) → KeepsFate change
    → lost_count (on_newest change (record { packets = packets; flushed = flushed })).packets ≡ lost_count packets
lost_changed change [] flushed keeps = refl
lost_changed change (packet ∷ older) flushed keeps =
    counted_in (is_lost (change packet)) (change packet) (filter is_lost older)
    ∙ ap (λ (b : Bool). (if b then 1 else 0) + length (filter is_lost older)) (keeps.lost packet)
    ∙ sym (counted_in (is_lost packet) packet (filter is_lost older))

pub more_keeps : (bytes : List ℕ) → KeepsFate (with_more bytes)
more_keeps bytes = record { finished = λ packet. refl; lost = λ packet. refl }

pub nested_keeps : (field : ℕ) → KeepsFate (with_nested field)
nested_keeps field = record { finished = λ packet. refl; lost = λ packet. refl }

pub ended_keeps : KeepsFate with_nested_ended
ended_keeps = record { finished = λ packet. refl; lost = λ packet. refl }

finished_lost : (packets : List Packet) (flushed : Bool) → lost_count (on_newest finished_packet (record { packets = packets; flushed = flushed })).packets ≡ lost_count packets
finished_lost [] flushed = refl
finished_lost (packet ∷ older) flushed =
    counted_in (is_lost packet) (finished_packet packet) (filter is_lost older) ∙ sym (counted_in (is_lost packet) packet (filter is_lost older))

-- Field calls

account_of_one : (view new : WriterView) (call : Call) → new.calls ≡ view.calls ++ call ∷ [] → account_of new.calls ≡ noted (account_of view.calls) call
account_of_one view new call is = ap account_of is ∙ account_one view.calls call

possible_lost : (view new : WriterView) (call : Call) (change : Packet → Packet)
    → ((account : Account) → noted account call ≡ on_newest change account) → KeepsFate change → is_possible (packets_of view.calls) call ≡ true → in_packet view ≡ true
    → new.calls ≡ view.calls ++ written_as true Drops call → newest_is_lost (packets_of view.calls) ≡ false → AreCalls view.calls → AreCalls new.calls
possible_lost view new call change is keeps possible writes notes kept calls =
    possible_two view new call GivenUp notes possible
    (ap (λ (a : Account). newest_is_kept a.packets) (is (account_of view.calls))
    ∙ kept_changed change (packets_of view.calls) (account_of view.calls).flushed keeps
    ∙ and_from (is_writing (packets_of view.calls)) (not (newest_is_lost (packets_of view.calls))) writes (ap not kept))
    calls

pub field_possible : (view new : WriterView) (call : Call) (change : Packet → Packet) (policy : WriterPolicy) (stopped : Bool)
    → ((account : Account) → noted account call ≡ on_newest change account) → KeepsFate change → is_possible (packets_of view.calls) call ≡ true → in_packet view ≡ true
    → new.calls ≡ view.calls ++ written_as stopped policy call → (stopped ≡ true → newest_is_lost (packets_of view.calls) ≡ false) → AreCalls view.calls → AreCalls new.calls
field_possible view new call change policy false is keeps possible writes notes kept calls = possible_one view new call notes possible calls
field_possible view new call change Drops true is keeps possible writes notes kept calls = possible_lost view new call change is keeps possible writes notes (kept refl) calls
field_possible view new call change Stalls true is keeps possible writes notes kept calls = possible_one view new call notes possible calls
field_possible view new call change (StallsThenDrops tries) true is keeps possible writes notes kept calls =
    possible_lost view new call change is keeps possible writes notes (kept refl) calls

pub field_loses : (view new : WriterView) (call : Call) (change : Packet → Packet) (policy : WriterPolicy) (stopped : Bool)
    → ((account : Account) → noted account call ≡ on_newest change account) → KeepsFate change → new.calls ≡ view.calls ++ written_as stopped policy call
    → (lost_count (packets_of new.calls) ≡ lost_count (packets_of view.calls)) ⊎ ((loses policy ≡ true) × (stopped ≡ true))
field_loses view new call change policy stopped is keeps notes = by policy stopped notes
  where
    one : new.calls ≡ view.calls ++ call ∷ [] → lost_count (packets_of new.calls) ≡ lost_count (packets_of view.calls)
    one same = ap (λ (a : Account). lost_count a.packets) (account_of_one view new call same ∙ is (account_of view.calls))
        ∙ lost_changed change (packets_of view.calls) (account_of view.calls).flushed keeps

    by : (policy : WriterPolicy) (stopped : Bool) → new.calls ≡ view.calls ++ written_as stopped policy call
        → (lost_count (packets_of new.calls) ≡ lost_count (packets_of view.calls)) ⊎ ((loses policy ≡ true) × (stopped ≡ true))
    by policy false same = inl (one same)
    by Drops true same = inr (refl, refl)
    by Stalls true same = inl (one same)
    by (StallsThenDrops tries) true same = inr (refl, refl)

-- A packet's begin

pub begin_possible : (view new : WriterView) (policy : WriterPolicy) (stopped : Bool) → in_packet view ≡ false → new.calls ≡ view.calls ++ begun_as stopped policy
    → AreCalls view.calls → AreCalls new.calls
begin_possible view new policy false none notes calls = possible_one view new (Begun true) notes (ap not none) calls
begin_possible view new Drops true none notes calls = possible_one view new (Begun false) notes (ap not none) calls
begin_possible view new Stalls true none notes calls = subst AreCalls (sym (notes ∙ append-nil view.calls)) calls
begin_possible view new (StallsThenDrops tries) true none notes calls = possible_one view new (Begun false) notes (ap not none) calls

pub begin_loses : (view new : WriterView) (policy : WriterPolicy) (stopped : Bool) → new.calls ≡ view.calls ++ begun_as stopped policy
    → (lost_count (packets_of new.calls) ≡ lost_count (packets_of view.calls)) ⊎ ((loses policy ≡ true) × (stopped ≡ true))
begin_loses view new policy false notes = inl (ap (λ (a : Account). lost_count a.packets) (account_of_one view new (Begun true) notes))
begin_loses view new Drops true notes = inr (refl, refl)
begin_loses view new Stalls true notes = inl (ap (λ (calls : List Call). lost_count (packets_of calls)) (notes ∙ append-nil view.calls))
begin_loses view new (StallsThenDrops tries) true notes = inr (refl, refl)

-- Calls without a helper

-- the levels of the newest packet
places_long : (levels : List (List ℕ)) → 0 < length levels → length levels ≡ length (open_places levels) + 1
places_long [] some = absurd (omega (arith, some))
places_long (level ∷ []) some = omega arith
places_long (level ∷ outer ∷ others) some = let rest = places_long (outer ∷ others) (omega arith) in omega (arith, rest)

pub open_many : (calls : List Call) (packets : List Packet) → packets_of calls ≡ packets → is_writing packets ≡ true → open_count packets ≡ newest_depth packets + 1
open_many calls [] is writes = absurd (true≢false (sym writes))
open_many calls (packet ∷ older) is writes = places_long packet.text.levels (newest_open calls packet older is)

depth_is : (view : WriterView) → in_packet view ≡ true → open_depth view ≡ newest_depth (packets_of view.calls)
depth_is view writes = ap (λ (b : Bool). if b then newest_depth (packets_of view.calls) else 0) writes

pub ended_possible : (view new : WriterView) → new.calls ≡ view.calls ++ Ended ∷ [] → in_packet view ≡ true → 0 < open_depth view → AreCalls view.calls → AreCalls new.calls
ended_possible view new notes writes deep calls =
    let many = open_many view.calls (packets_of view.calls) refl writes in
    possible_one view new Ended notes
    (and_from (is_writing (packets_of view.calls)) (not (open_count (packets_of view.calls) == 1)) writes
    (ap not (ne_eqb (open_count (packets_of view.calls)) 1 (λ one. omega (arith, many, one, depth_is view writes, deep))))) calls

pub finished_possible : (view new : WriterView) → new.calls ≡ view.calls ++ Finished ∷ [] → in_packet view ≡ true → open_depth view ≡ 0 → AreCalls view.calls → AreCalls new.calls
finished_possible view new notes writes shallow calls =
    let many = open_many view.calls (packets_of view.calls) refl writes in
    possible_one view new Finished notes
    (and_from (is_writing (packets_of view.calls)) (open_count (packets_of view.calls) == 1) writes
    (eq-eqb (open_count (packets_of view.calls)) 1 (omega (arith, many, depth_is view writes, shallow)))) calls

pub flushed_possible : (view new : WriterView) → new.calls ≡ view.calls ++ Flushed ∷ [] → in_packet view ≡ false → AreCalls view.calls → AreCalls new.calls
flushed_possible view new notes none calls = possible_one view new Flushed notes (ap not none) calls

pub ended_loses : (view new : WriterView) → new.calls ≡ view.calls ++ Ended ∷ [] → lost_count (packets_of new.calls) ≡ lost_count (packets_of view.calls)
ended_loses view new notes =
    ap (λ (a : Account). lost_count a.packets) (account_of_one view new Ended notes) ∙ lost_changed with_nested_ended (packets_of view.calls) (account_of view.calls).flushed ended_keeps

pub finished_loses : (view new : WriterView) → new.calls ≡ view.calls ++ Finished ∷ [] → lost_count (packets_of new.calls) ≡ lost_count (packets_of view.calls)
finished_loses view new notes =
    ap (λ (a : Account). lost_count a.packets) (account_of_one view new Finished notes) ∙ finished_lost (packets_of view.calls) (account_of view.calls).flushed

pub flushed_loses : (view new : WriterView) → new.calls ≡ view.calls ++ Flushed ∷ [] → lost_count (packets_of new.calls) ≡ lost_count (packets_of view.calls)
flushed_loses view new notes = ap (λ (a : Account). lost_count a.packets) (account_of_one view new Flushed notes)
