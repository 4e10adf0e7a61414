-- The packets that stand in the sheets of a writer who finished each are its bodies; so the packet check accepts them where
-- it accepts the bodies.
use Rattle.std.proofs.Common.{◌≡◌, ◌∙◌, ℕ, true, false, List, [], ◌∷◌, map, reverse, Option, ap, subst, All}
use Rattle.std.specs.Prelude.{is_some}
use Rattle.std.specs.List.{AllZip}
use Rattle.std.proofs.lemmas.List.{reverse-reverse}
use Rattle.std.proofs.lemmas.List.Elements.{All-head, All-tail}
use Rattle.trace_model.specs.Calls.{Call}
use Rattle.trace_model.specs.Packets.{Packet, Text, body_of, packets_of, kept_of, bodies_of}
use Rattle.trace_model.specs.Pages.{Page}
use Rattle.trace_model.specs.Row.{Chain, bytes_of}
use Rattle.trace_model.specs.Written.{written_row, chains_in, chains_of}
use Rattle.trace_model.specs.Cut.{IsChainOf, CutsInto}
use Rattle.trace_model.specs.Walks.{is_accepted}
use Rattle.trace_model.proofs.CursorLemmas.{Each}
use Rattle.delivery_laws.specs.Sheets.{WrittenPacket, all_parts, packets_in}
use Rattle.delivery_laws.specs.Finishing.{AllWhole}
use Rattle.delivery_laws.specs.WriterSheets.{sheets_of}
use Rattle.delivery_laws.proofs.AcceptedParts.{IsAccepted, AreAccepted}
use Rattle.delivery_laws.proofs.CallLemmas.{bytes_are}
use Rattle.delivery_laws.proofs.WholeLemmas.{all_kept, each_reversed}
use Rattle.delivery_laws.proofs.WrittenPackets.{IsToldBy, are_full, zip_reversed, packets_are_chains}

-- the packet check accepts the packet's body
abbrev HasAccepted : Packet → Type 0
HasAccepted packet = is_accepted (body_of packet) ≡ true

each_body : (packets : List Packet) → All (λ (body : List ℕ). is_accepted body ≡ true) (map body_of packets) → Each HasAccepted packets
each_body [] h = tt
each_body (packet ∷ packets) h = (
  All-head (λ (body : List ℕ). is_accepted body ≡ true) (body_of packet) (map body_of packets) h,
  each_body packets (All-tail (λ (body : List ℕ). is_accepted body ≡ true) (body_of packet) (map body_of packets) h),
)

bodies_told : (size : ℕ) (packets : List Packet) (chains : List Chain) (told : List WrittenPacket) → AllWhole packets → Each HasAccepted packets
    → AllZip (IsChainOf size) packets chains → AllZip IsToldBy chains told → Each IsAccepted told
bodies_told size [] [] [] w h of is = tt
bodies_told size [] [] (t ∷ ts) w h of is = absurd is
bodies_told size [] (c ∷ cs) told w h of is = absurd of
bodies_told size (p ∷ ps) [] told w h of is = absurd of
bodies_told size (p ∷ ps) (c ∷ cs) [] w h of is = absurd is
bodies_told size (p ∷ ps) (c ∷ cs) (t ∷ ts) w h of is = (
  (λ whole.
      ap is_accepted (is.0.bytes ∙ bytes_are p.given_up p.finished p (bytes_of c.pieces) (ap (λ (o : Option Text). is_some o) w.1) w.2 of.0.bytes)
      ∙ h.0),
  bodies_told size ps cs ts w.3 h.1 of.1 is.1,
)

pub sheets_accepted : (size : ℕ) (calls : List Call) (pages : List Page) → CutsInto size (packets_of calls) pages → AllWhole (packets_of calls)
    → All (λ (body : List ℕ). is_accepted body ≡ true) (bodies_of calls) → AreAccepted (all_parts (sheets_of false pages))
sheets_accepted size calls pages cut w bodies =
    let accepted : Each HasAccepted (packets_of calls) =
    subst (Each HasAccepted) (reverse-reverse (kept_of (packets_of calls)) ∙ all_kept (packets_of calls) w)
    (each_reversed HasAccepted (reverse (kept_of (packets_of calls))) (each_body (reverse (kept_of (packets_of calls))) bodies)) in
    subst (Each IsAccepted) (reverse-reverse (packets_in (all_parts (sheets_of false pages))))
    (each_reversed IsAccepted (reverse (packets_in (all_parts (sheets_of false pages))))
    (bodies_told size (packets_of calls) (chains_of pages) (reverse (packets_in (all_parts (sheets_of false pages)))) w accepted
    (subst (λ (ps : List Packet). AllZip (IsChainOf size) ps (chains_of pages)) (all_kept (packets_of calls) w) cut.chains)
    (zip_reversed IsToldBy (chains_in (written_row pages)) (packets_in (all_parts (sheets_of false pages)))
    (packets_are_chains size false pages (are_full size pages cut.full) cut.flags))))
