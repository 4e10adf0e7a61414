-- A call that changes the newest packet: the account behind it.
use Rattle.std.proofs.Common.{◌≡◌, ◌∙◌, ℕ, ◌<◌, Bool, false, List, [], ◌∷◌, ◌++◌, length, refl, sym, ap, subst, arith}
use Rattle.std.specs.Prelude.{fold, ⊤}
use Rattle.trace_model.specs.Calls.{Call, Begun, Number, Bytes, Nested, Ended, GivenUp, Finished, Flushed}
use Rattle.trace_model.specs.Encoding.{number_field, bytes_field}
use Rattle.trace_model.specs.Packets.{Packet, NestedLength, Account, written, closed_levels, noted, nothing_yet, account_of, on_newest, with_more, with_nested, with_nested_ended, given_up_packet, finished_packet}
use Rattle.chunk_plain.specs.Views.{WriterView}
use Rattle.trace_writer.specs.Flows.{with_loss}
use Rattle.trace_writer.proofs.accounts.Accounts.{account_one, on_newest-packets}

-- a call changed it
pub account_changed : (view new : WriterView) (call : Call) (packet : Packet) (older : List Packet) (change : Packet → Packet)
    → new.calls ≡ view.calls ++ call ∷ [] → (account_of view.calls).packets ≡ packet ∷ older → (account_of view.calls).flushed ≡ false
    → ((account : Account) → noted account call ≡ on_newest change account)
    → account_of new.calls ≡ record { packets = change packet ∷ older; flushed = false }
account_changed view new call packet older change calls newest unflushed noted_is =
    ap account_of calls
    ∙ account_one view.calls call
    ∙ noted_is (account_of view.calls)
    ∙ on_newest-packets change (account_of view.calls) packet older newest unflushed

-- and then it was given up
pub account_lost : (view new : WriterView) (call : Call) (packet : Packet) (older : List Packet) (change : Packet → Packet)
    → new.calls ≡ (view.calls ++ call ∷ []) ++ GivenUp ∷ [] → (account_of view.calls).packets ≡ packet ∷ older → (account_of view.calls).flushed ≡ false
    → ((account : Account) → noted account call ≡ on_newest change account)
    → account_of new.calls ≡ with_loss (change packet) older
account_lost view new call packet older change calls newest unflushed noted_is =
    ap account_of calls
    ∙ account_one (view.calls ++ call ∷ []) GivenUp
    ∙ ap (λ (account : Account). noted account GivenUp)
    (account_changed view (record view { calls = view.calls ++ call ∷ [] }) call packet older change refl newest unflushed noted_is)

-- The newest packet is open itself

abbrev NewestOpen : List Packet → Type 0
NewestOpen [] = ⊤
NewestOpen (packet ∷ older) = 0 < length packet.text.levels

length_written : (bytes : List ℕ) (levels : List (List ℕ)) → length (written bytes levels) ≡ length levels
length_written bytes [] = refl
length_written bytes (level ∷ others) = refl

closed_open : (levels : List (List ℕ)) (closed : List NestedLength) → 0 < length levels → 0 < length (closed_levels levels closed).levels
closed_open [] closed h = h
closed_open (level ∷ []) closed h = h
closed_open (level ∷ outer ∷ others) closed h = omega arith

open_changed : (packets : List Packet) (flushed : Bool) (change : Packet → Packet)
    → ((packet : Packet) → 0 < length packet.text.levels → 0 < length (change packet).text.levels)
    → NewestOpen packets → NewestOpen (on_newest change (record { packets = packets; flushed = flushed })).packets
open_changed [] flushed change stays h = h
open_changed (packet ∷ older) flushed change stays h = stays packet h

open_written : (bytes : List ℕ) (packet : Packet) → 0 < length packet.text.levels → 0 < length (with_more bytes packet).text.levels
open_written bytes packet h = subst (λ (n : ℕ). 0 < n) (sym (length_written bytes packet.text.levels)) h

open_noted : (account : Account) (call : Call) → NewestOpen account.packets → NewestOpen (noted account call).packets
open_noted account (Begun kept) h = omega arith
open_noted account (Number field value) h =
    open_changed account.packets account.flushed (with_more (number_field field value)) (open_written (number_field field value)) h
open_noted account (Bytes field text times) h =
    open_changed account.packets account.flushed (with_more (bytes_field field text times)) (open_written (bytes_field field text times)) h
open_noted account (Nested field) h = open_changed account.packets account.flushed (with_nested field) (λ packet some. omega arith) h
open_noted account Ended h =
    open_changed account.packets account.flushed with_nested_ended (λ packet some. closed_open packet.text.levels packet.text.closed some) h
open_noted account GivenUp h = open_changed account.packets account.flushed given_up_packet (λ packet some. some) h
open_noted account Finished h = open_changed account.packets account.flushed finished_packet (λ packet some. some) h
open_noted account Flushed h = h

open_all : (calls : List Call) (account : Account) → NewestOpen account.packets → NewestOpen (fold noted account calls).packets
open_all [] account h = h
open_all (call ∷ calls) account h = open_all calls (noted account call) (open_noted account call h)

pub newest_open : (calls : List Call) (packet : Packet) (older : List Packet) → (account_of calls).packets ≡ packet ∷ older → 0 < length packet.text.levels
newest_open calls packet older newest = subst NewestOpen newest (open_all calls nothing_yet tt)
