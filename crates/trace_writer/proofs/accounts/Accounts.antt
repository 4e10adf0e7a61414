-- What one call more makes of a writer's account.
use Rattle.std.proofs.Common.{◌≡◌, ◌∙◌, ℕ, ◌+◌, Bool, true, false, not, cond, Option, None, Some, List, [], ◌∷◌, ◌++◌, length, map, filter, refl, sym, ap, arith}
use Rattle.std.proofs.lemmas.List.{length-reverse, nil_from_length}
use Rattle.std.proofs.lemmas.List.Sums.{fold-append}
use Rattle.trace_model.specs.Calls.{Call}
use Rattle.trace_model.specs.Packets.{Packet, Account, account_of, noted, nothing_yet, on_newest, front_of, open_places}
use Rattle.trace_writer.specs.declared.packet.OpenPacket.{OpenPacket}
use Rattle.trace_writer.specs.Agreement.{IsMeasured, is_begun}

pub account_one : (calls : List Call) (call : Call) → account_of (calls ++ call ∷ []) ≡ noted (account_of calls) call
account_one calls call = fold-append noted nothing_yet calls (call ∷ [])

-- a change to the newest packet
pub on_newest-packets : (change : Packet → Packet) (account : Account) (packet : Packet) (older : List Packet) → account.packets ≡ packet ∷ older
    → account.flushed ≡ false → on_newest change account ≡ record { packets = change packet ∷ older; flushed = false }
on_newest-packets change account packet older packets unflushed =
    ap (λ (ps : List Packet). on_newest change (record account { packets = ps })) packets
    ∙ ap (λ (b : Bool). record { packets = change packet ∷ older; flushed = b }) unflushed

-- A packet that is begun

pub record IsSome (open_one : Option OpenPacket) : Type 0 where
  pub value : OpenPacket
  pub is : open_one ≡ Some value

pub begun_is : (open_one : Option OpenPacket) → is_begun open_one ≡ true → IsSome open_one
begun_is None e = absurd (cc)
begun_is (Some open_packet) e = record { value = open_packet; is = refl }

length-map : {A B : Type 0} (f : A → B) (xs : List A) → length (map f xs) ≡ length xs
length-map f [] = refl
length-map f (x ∷ xs) = omega (arith, length-map f xs)

-- as many messages are open in it as the writer has starts
pub measured_depth : (open_one : OpenPacket) (packet : Packet) → IsMeasured open_one packet → length open_one.starts.items ≡ length (open_places packet.text.levels)
measured_depth open_one packet measured =
    sym (length-map (λ (start : ℕ). start + length (front_of packet)) open_one.starts.items)
    ∙ ap length measured.starts
    ∙ length-reverse (map (λ (at : ℕ). at + 4) (open_places packet.text.levels))
    ∙ length-map (λ (at : ℕ). at + 4) (open_places packet.text.levels)

-- in which no message is open
pub none_open : (open_one : OpenPacket) (packet : Packet) → IsMeasured open_one packet → length open_one.starts.items ≡ 0 → open_places packet.text.levels ≡ []
none_open open_one packet measured none = nil_from_length (open_places packet.text.levels) (sym (measured_depth open_one packet measured) ∙ none)

-- Counts

abbrev pub dropped_in : List Packet → ℕ
dropped_in packets = length (filter (λ (packet : Packet). not packet.kept) packets)

-- a change that doesn't touch whether a packet was kept changes no count
pub dropped-changed : (packet changed : Packet) (older : List Packet) → changed.kept ≡ packet.kept → dropped_in (changed ∷ older) ≡ dropped_in (packet ∷ older)
dropped-changed packet changed older kept =
    ap (λ (b : Bool). length (cond (not b) (changed ∷ filter (λ (p : Packet). not p.kept) older) (filter (λ (p : Packet). not p.kept) older))) kept
    ∙ same (not packet.kept)
  where
    same : (b : Bool) → length (cond b (changed ∷ filter (λ (p : Packet). not p.kept) older) (filter (λ (p : Packet). not p.kept) older))
        ≡ length (cond b (packet ∷ filter (λ (p : Packet). not p.kept) older) (filter (λ (p : Packet). not p.kept) older))
    same true = refl
    same false = refl

-- an account with these packets behind no flush
pub account_is : (account : Account) (packet : Packet) (older : List Packet) → account.packets ≡ packet ∷ older → account.flushed ≡ false
    → account ≡ record { packets = packet ∷ older; flushed = false }
account_is account packet older packets unflushed =
    ap (λ (ps : List Packet). record account { packets = ps }) packets ∙ ap (λ (b : Bool). record { packets = packet ∷ older; flushed = b }) unflushed
