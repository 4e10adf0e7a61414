-- What possible calls say of their packets: each knows whether the one before was lost, and only the newest may be unfinished.
-- So the packets that stand in a writer's sheets are paired with those that it kept.
use Rattle.std.proofs.Common.{◌≡◌, ◌∙◌, ℕ, Bool, true, false, not, ◌&&◌, ◌||◌, List, [], ◌∷◌, ◌++◌, reverse, Option, Some, None, refl, sym, ap, subst, append_assoc, append-nil}
use Rattle.std.specs.Prelude.{cond, fold, is_some, MatchBool, MatchOption}
use Rattle.std.specs.List.{AllZip}
use Rattle.std.proofs.lemmas.Bool.{false≢true, and_parts}
use Rattle.std.proofs.lemmas.List.{reverse-append, reverse-reverse}
use Rattle.std.proofs.lemmas.List.Elements.{filter-append}
use Rattle.trace_model.specs.Calls.{Call, Begun, Number, Bytes, Nested, Ended, GivenUp, Finished, Flushed}
use Rattle.trace_model.specs.Encoding.{number_field, bytes_field}
use Rattle.trace_model.specs.Packets.{Packet, Account, Text, front_of, body_of, packet_encoding, nothing_yet, newest_is_lost, on_newest, with_more, with_nested, with_nested_ended, given_up_packet, finished_packet, noted, packets_of, kept_of, is_writing, is_possible, are_possible_after, AreCalls}
use Rattle.trace_model.specs.PacketLaws.{AreFronted}
use Rattle.trace_model.proofs.PacketLemmas.{packets_are_fronted}
use Rattle.trace_model.specs.Pages.{Page}
use Rattle.trace_model.specs.Row.{Chain, bytes_of}
use Rattle.trace_model.specs.Written.{written_row, chains_in, chains_of}
use Rattle.trace_model.specs.Cut.{IsChainOf, IsGivenUp, Begins, newest_goes_on, CutsInto}
use Rattle.model_laws.proofs.TextSizes.{AllFinished, OlderFinished}
use Rattle.delivery_laws.specs.Sheets.{WrittenPacket, all_parts, packets_in}
use Rattle.delivery_laws.specs.WriterSheets.{sheets_of}
use Rattle.delivery_laws.proofs.EmissionLemmas.{Fits, Pairs, InTurn}
use Rattle.delivery_laws.proofs.WrittenPackets.{are_full, IsToldBy, zip_reversed, packets_are_chains, LastIsOpen, newest_open}

-- Only the newest packet may be unfinished

older_changed : (change : Packet → Packet) (packets : List Packet) (flushed : Bool) → OlderFinished packets
    → OlderFinished (on_newest change (record { packets = packets; flushed = flushed })).packets
older_changed change [] flushed h = h
older_changed change (packet ∷ older) flushed h = h

pub begun_older : (packets : List Packet) → not (is_writing packets) ≡ true → OlderFinished packets → AllFinished packets
begun_older [] h k = tt
begun_older (packet ∷ older) h k = (was packet.finished h, k)
  where
    was : (b : Bool) → not (not b) ≡ true → b ≡ true
    was true h = refl
    was false h = absurd (false≢true h)

older_noted : (account : Account) (call : Call) → is_possible account.packets call ≡ true → OlderFinished account.packets → OlderFinished (noted account call).packets
older_noted account (Begun kept) h k = begun_older account.packets h k
older_noted account (Number field value) h k = older_changed (with_more (number_field field value)) account.packets account.flushed k
older_noted account (Bytes field text times) h k = older_changed (with_more (bytes_field field text times)) account.packets account.flushed k
older_noted account (Nested field) h k = older_changed (with_nested field) account.packets account.flushed k
older_noted account Ended h k = older_changed with_nested_ended account.packets account.flushed k
older_noted account GivenUp h k = older_changed given_up_packet account.packets account.flushed k
older_noted account Finished h k = older_changed finished_packet account.packets account.flushed k
older_noted account Flushed h k = k

older_all : (calls : List Call) (account : Account) → are_possible_after account calls ≡ true → OlderFinished account.packets → OlderFinished (fold noted account calls).packets
older_all [] account h k = k
older_all (call ∷ calls) account h k =
    let parts = and_parts (is_possible account.packets call) (are_possible_after (noted account call) calls) h in
    older_all calls (noted account call) parts.1 (older_noted account call parts.0 k)

pub older_finished : (calls : List Call) → AreCalls calls → OlderFinished (packets_of calls)
older_finished calls possible = older_all calls nothing_yet possible tt

-- In the order of the calls

turn_reversed : (packets rest : List Packet) → AreFronted packets → AllFinished packets → InTurn (newest_is_lost packets) rest → InTurn false (reverse packets ++ rest)
turn_reversed [] rest f a t = t
turn_reversed (packet ∷ packets) rest f a t =
    subst (InTurn false) (sym (ap (λ (ps : List Packet). ps ++ rest) (reverse-append (packet ∷ []) packets) ∙ append_assoc (reverse packets) (packet ∷ []) rest))
    (turn_reversed packets (packet ∷ rest) f.2 a.1 (f.0, (λ e. absurd (false≢true (sym e ∙ a.0))), t))

in_turn : (packets : List Packet) → AreFronted packets → OlderFinished packets → InTurn false (reverse packets)
in_turn [] f o = tt
in_turn (packet ∷ packets) f o =
    subst (InTurn false) (sym (reverse-append (packet ∷ []) packets)) (turn_reversed packets (packet ∷ []) f.2 o (f.0, (λ e. refl), tt))

pub calls_in_turn : (calls : List Call) → AreCalls calls → InTurn false (reverse (packets_of calls))
calls_in_turn calls possible = in_turn (packets_of calls) (packets_are_fronted calls) (older_finished calls possible)

-- Packets and what is told of them

abbrev IsReady : Packet → Type 0
IsReady packet = (packet.kept ≡ true) × (body_of packet ≡ front_of packet ++ packet_encoding packet)

abbrev AreReady : List Packet → Type 0
AreReady [] = Unit {0}
AreReady (packet ∷ packets) = IsReady packet × AreReady packets

kept_ready : (packets : List Packet) → AreFronted packets → AreReady (kept_of packets)
kept_ready [] f = tt
kept_ready (packet ∷ packets) f = step packet.kept refl (kept_ready packets f.2)
  where
    step : (b : Bool) → packet.kept ≡ b → AreReady (kept_of packets) → AreReady (cond b (packet ∷ kept_of packets) (kept_of packets))
    step true e rest = ((e, f.1), rest)
    step false e rest = rest

kept_finished : (packets : List Packet) → AllFinished packets → AllFinished (kept_of packets)
kept_finished [] f = tt
kept_finished (packet ∷ packets) f = step packet.kept (kept_finished packets f.1)
  where
    step : (b : Bool) → AllFinished (kept_of packets) → AllFinished (cond b (packet ∷ kept_of packets) (kept_of packets))
    step true rest = (f.0, rest)
    step false rest = rest

-- a packet that wasn't given up, and is finished, is its body
pub bytes_are : (given : Option Text) (finished : Bool) (packet : Packet) (bytes : List ℕ) → is_some given ≡ false → finished ≡ true
    → MatchOption given (MatchBool finished (bytes ≡ body_of packet) (Begins bytes (body_of packet))) (IsGivenUp bytes) → bytes ≡ body_of packet
bytes_are (Some text) finished packet bytes g f h = absurd (false≢true (sym g))
bytes_are None true packet bytes g f h = h
bytes_are None false packet bytes g f h = absurd (false≢true f)

one_fits : (size : ℕ) (packet : Packet) (chain : Chain) (told : WrittenPacket) → IsChainOf size packet chain → IsToldBy chain told → IsReady packet
    → (told.whole ≡ true → is_some packet.given_up ≡ false → packet.finished ≡ true) → Fits packet told
one_fits size packet chain told of is ready finishes =
    let kept_up : told.whole ≡ true → is_some packet.given_up ≡ false = λ w. sym of.marked ∙ is.marked w in
    record {
      kept = λ w. ap (λ (b : Bool). not b || is_some packet.given_up) ready.0 ∙ kept_up w;
      finished = λ w. finishes w (kept_up w);
      bytes = λ w. is.bytes ∙ bytes_are packet.given_up packet.finished packet (bytes_of chain.pieces) (kept_up w) (finishes w (kept_up w)) of.bytes ∙ ready.1;
    }

all_fit : (size : ℕ) (packets : List Packet) (chains : List Chain) (told : List WrittenPacket) → AllZip (IsChainOf size) packets chains → AllZip IsToldBy chains told
    → AreReady packets → AllFinished packets → AllZip Fits packets told
all_fit size [] [] [] of is ready finished = tt
all_fit size [] [] (t ∷ ts) of is ready finished = absurd is
all_fit size [] (c ∷ cs) told of is ready finished = absurd of
all_fit size (p ∷ ps) [] told of is ready finished = absurd of
all_fit size (p ∷ ps) (c ∷ cs) [] of is ready finished = absurd is
all_fit size (p ∷ ps) (c ∷ cs) (t ∷ ts) of is ready finished =
    (one_fits size p c t of.0 is.0 ready.0 (λ w g. finished.0), all_fit size ps cs ts of.1 is.1 ready.1 finished.1)

-- the newest may be unfinished; then it goes on, or was given up
newest_fits : (size : ℕ) (packets : List Packet) (chains : List Chain) (told : List WrittenPacket) → AllZip (IsChainOf size) (kept_of packets) chains → AllZip IsToldBy chains told
    → AreReady (kept_of packets) → OlderFinished packets
    → (newest_goes_on packets ≡ true → (one : WrittenPacket) (older : List WrittenPacket) → told ≡ one ∷ older → one.whole ≡ false)
    → AllZip Fits (kept_of packets) told
newest_fits size [] chains told of is ready older opens = all_fit size [] chains told of is tt tt
newest_fits size (packet ∷ packets) chains told of is ready older opens = step packet.kept refl of ready
  where
    with_newest : (chains : List Chain) (told' : List WrittenPacket) → told ≡ told' → AllZip (IsChainOf size) (packet ∷ kept_of packets) chains → AllZip IsToldBy chains told'
        → AreReady (packet ∷ kept_of packets) → AllZip Fits (packet ∷ kept_of packets) told'
    with_newest [] told' e of is ready = absurd of
    with_newest (c ∷ cs) [] e of is ready = absurd is
    with_newest (c ∷ cs) (t ∷ ts) e of is ready = (
      one_fits size packet c t of.0 is.0 ready.0 (λ w g. by_finish packet.finished refl w g),
      all_fit size (kept_of packets) cs ts of.1 is.1 ready.1 (kept_finished packets older),
    )
      where
        by_finish : (b : Bool) → packet.finished ≡ b → t.whole ≡ true → is_some packet.given_up ≡ false → packet.finished ≡ true
        by_finish true f w g = f
        by_finish false f w g =
            let goes : newest_goes_on (packet ∷ packets) ≡ true =
            ap (λ (b : Bool). not (not b || is_some packet.given_up) && not packet.finished) ready.0.0
            ∙ ap (λ (b : Bool). not b && not packet.finished) g
            ∙ ap not f in
            absurd (false≢true (sym (opens goes t ts e) ∙ w))

    step : (b : Bool) → packet.kept ≡ b → AllZip (IsChainOf size) (cond b (packet ∷ kept_of packets) (kept_of packets)) chains
        → AreReady (cond b (packet ∷ kept_of packets) (kept_of packets)) → AllZip Fits (cond b (packet ∷ kept_of packets) (kept_of packets)) told
    step true k of ready = with_newest chains told refl of is ready
    step false k of ready = all_fit size (kept_of packets) chains told of is ready (kept_finished packets older)

pairs_from : (packets : List Packet) (told : List WrittenPacket) → AllZip Fits (kept_of packets) told → Pairs packets told
pairs_from [] [] h = refl
pairs_from [] (t ∷ ts) h = absurd h
pairs_from (packet ∷ packets) [] h = step packet.kept refl h (λ k. pairs_from packets [] k)
  where
    step : (b : Bool) → packet.kept ≡ b → AllZip Fits (cond b (packet ∷ kept_of packets) (kept_of packets)) [] → (AllZip Fits (kept_of packets) [] → Pairs packets [])
        → (packet.kept ≡ false) × Pairs packets []
    step true e h k = absurd h
    step false e h k = (e, k h)
pairs_from (packet ∷ packets) (t ∷ ts) h = step packet.kept h (λ k. pairs_from packets ts k) (λ k. pairs_from packets (t ∷ ts) k)
  where
    step : (b : Bool) → AllZip Fits (cond b (packet ∷ kept_of packets) (kept_of packets)) (t ∷ ts) → (AllZip Fits (kept_of packets) ts → Pairs packets ts)
        → (AllZip Fits (kept_of packets) (t ∷ ts) → Pairs packets (t ∷ ts)) → MatchBool b (Fits packet t × Pairs packets ts) (Pairs packets (t ∷ ts))
    step true h k l = (h.0, k h.1)
    step false h k l = l h

kept_reversed : (packets : List Packet) → kept_of (reverse packets) ≡ reverse (kept_of packets)
kept_reversed [] = refl
kept_reversed (packet ∷ packets) =
    ap kept_of (reverse-append (packet ∷ []) packets)
    ∙ filter-append (λ p. p.kept) (reverse packets) (packet ∷ [])
    ∙ ap (λ (ps : List Packet). ps ++ kept_of (packet ∷ [])) (kept_reversed packets)
    ∙ step packet.kept
  where
    step : (b : Bool) → reverse (kept_of packets) ++ cond b (packet ∷ []) [] ≡ reverse (cond b (packet ∷ kept_of packets) (kept_of packets))
    step true = sym (reverse-append (packet ∷ []) (kept_of packets))
    step false = append-nil (reverse (kept_of packets))

last_of : (told : List WrittenPacket) (one : WrittenPacket) → LastIsOpen (told ++ one ∷ []) → one.whole ≡ false
last_of [] one h = h
last_of (t ∷ []) one h = h
last_of (t ∷ u ∷ told) one h = last_of (u ∷ told) one h

-- the kept packets are those that stand in the sheets
pub calls_are_paired : (size : ℕ) (calls : List Call) (pages : List Page) → AreCalls calls → CutsInto size (packets_of calls) pages
    → Pairs (reverse (packets_of calls)) (packets_in (all_parts (sheets_of (newest_goes_on (packets_of calls)) pages)))
calls_are_paired size calls pages possible cut =
    pairs_from (reverse (packets_of calls)) (packets_in (all_parts (sheets_of (newest_goes_on (packets_of calls)) pages)))
    (subst (λ (ps : List Packet). AllZip Fits ps (packets_in (all_parts (sheets_of (newest_goes_on (packets_of calls)) pages)))) (sym (kept_reversed (packets_of calls)))
    (subst (λ (ts : List WrittenPacket). AllZip Fits (reverse (kept_of (packets_of calls))) ts) (reverse-reverse (packets_in (all_parts (sheets_of (newest_goes_on (packets_of calls)) pages))))
    (zip_reversed Fits (kept_of (packets_of calls)) (reverse (packets_in (all_parts (sheets_of (newest_goes_on (packets_of calls)) pages))))
    (newest_fits size (packets_of calls) (chains_of pages) (reverse (packets_in (all_parts (sheets_of (newest_goes_on (packets_of calls)) pages)))) cut.chains
    (zip_reversed IsToldBy (chains_in (written_row pages)) (packets_in (all_parts (sheets_of (newest_goes_on (packets_of calls)) pages)))
    (packets_are_chains size (newest_goes_on (packets_of calls)) pages (are_full size pages cut.full) cut.flags))
    (kept_ready (packets_of calls) (packets_are_fronted calls))
    (older_finished calls possible)
    (opens (newest_goes_on (packets_of calls)))))))
  where
    opens : (goes : Bool) → goes ≡ true → (one : WrittenPacket) (older : List WrittenPacket) → reverse (packets_in (all_parts (sheets_of goes pages))) ≡ one ∷ older → one.whole ≡ false
    opens goes e one older r =
        last_of (reverse older) one
        (subst LastIsOpen (sym (reverse-reverse (packets_in (all_parts (sheets_of goes pages)))) ∙ ap reverse r ∙ reverse-append (one ∷ []) older)
        (subst (λ (b : Bool). LastIsOpen (packets_in (all_parts (sheets_of b pages)))) (sym e) (newest_open size pages (are_full size pages cut.full))))
