-- What stands whole in the sheets of a stream's writer are packets that were emitted and never dropped; so the packet check
-- accepts it where it accepts the bodies of these.
use Rattle.std.proofs.Common.{◌≡◌, ◌∙◌, ℕ, Bool, true, false, not, ◌&&◌, List, [], ◌∷◌, ◌++◌, map, reverse, refl, sym, ap, subst, All}
use Rattle.std.specs.Prelude.{cond, filter, MatchBool}
use Rattle.std.proofs.lemmas.Bool.{false≢true, and_from}
use Rattle.std.proofs.lemmas.List.Elements.{All-head, All-tail}
use Rattle.trace_model.specs.Calls.{Call}
use Rattle.trace_model.specs.PacketLaws.{AreFronted}
use Rattle.trace_model.specs.Packets.{Packet, body_of, front_of, is_lost, packet_encoding, packets_of}
use Rattle.trace_model.specs.Pages.{Page}
use Rattle.trace_model.specs.Walks.{is_accepted}
use Rattle.trace_model.proofs.CursorLemmas.{Each}
use Rattle.trace_model.proofs.PacketLemmas.{packets_are_fronted}
use Rattle.delivery_laws.specs.Sheets.{WrittenPacket, all_parts, packets_in}
use Rattle.delivery_laws.proofs.AcceptedParts.{AreAccepted, IsAccepted}
use Rattle.delivery_laws.proofs.CallLemmas.{calls_are_paired}
use Rattle.delivery_laws.proofs.EmissionLemmas.{Fits, Pairs}
use Rattle.delivery_laws.proofs.WholeLemmas.{each_reversed}
use Rattle.commit_laws.specs.Complete.{kept_bodies}
use Rattle.commit_laws.specs.Streams.{IsCompletedCut}
use Rattle.commit_laws.proofs.CutSheets.{cut_sheets}

abbrev Accepts : List ℕ → Type 0
Accepts body = is_accepted body ≡ true

abbrev IsFronted : Packet → Type 0
IsFronted packet = body_of packet ≡ front_of packet ++ packet_encoding packet

-- a packet that was emitted and never dropped is accepted, as its front mark and its encoding
abbrev Passes : Packet → Type 0
Passes packet = packet.finished ≡ true → is_lost packet ≡ false → is_accepted (front_of packet ++ packet_encoding packet) ≡ true

each_fronted : (packets : List Packet) → AreFronted packets → Each IsFronted packets
each_fronted [] h = tt
each_fronted (packet ∷ older) h = (h.1, each_fronted older h.2)

each_passes : (packets : List Packet) → Each IsFronted packets → All Accepts (kept_bodies packets) → Each Passes packets
each_passes [] f h = tt
each_passes (packet ∷ packets) f h = by_kept (packet.finished && not (is_lost packet)) refl h (each_passes packets f.1)
  where
    kept : List Packet → List Packet
    kept ps = filter (λ (p : Packet). p.finished && not (is_lost p)) ps

    by_kept : (b : Bool) → (packet.finished && not (is_lost packet)) ≡ b
        → All Accepts (map body_of (cond b (packet ∷ kept packets) (kept packets)))
        → (All Accepts (kept_bodies packets) → Each Passes packets) → Each Passes (packet ∷ packets)
    by_kept true e h rest = (
      (λ done found. ap is_accepted (sym f.0) ∙ All-head Accepts (body_of packet) (kept_bodies packets) h),
      rest (All-tail Accepts (body_of packet) (kept_bodies packets) h),
    )
    by_kept false e h rest = (
      (λ done found. absurd (false≢true (sym e ∙ and_from packet.finished (not (is_lost packet)) done (ap not found)))),
      rest h,
    )

told_accepted : (packets : List Packet) (told : List WrittenPacket) → Pairs packets told → Each Passes packets → Each IsAccepted told
told_accepted [] told pairs p = subst (Each IsAccepted) (sym pairs) tt
told_accepted (packet ∷ packets) [] pairs p = tt
told_accepted (packet ∷ packets) (one ∷ told) pairs p = by_kept packet.kept pairs (told_accepted packets)
  where
    by_kept : (b : Bool) → MatchBool b (Fits packet one × Pairs packets told) (Pairs packets (one ∷ told))
        → ((ts : List WrittenPacket) → Pairs packets ts → Each Passes packets → Each IsAccepted ts) → Each IsAccepted (one ∷ told)
    by_kept true h rest =
        ((λ whole. ap is_accepted (h.0.bytes whole) ∙ p.0 (h.0.finished whole) (h.0.kept whole)), rest told h.1 p.1)
    by_kept false h rest = rest (one ∷ told) h p.1

pub stream_accepted : (size : ℕ) (calls : List Call) (pages : List Page) → IsCompletedCut size calls pages
    → All (λ (body : List ℕ). is_accepted body ≡ true) (kept_bodies (reverse (packets_of calls)))
    → AreAccepted (all_parts (cut_sheets calls pages))
stream_accepted size calls pages cut bodies =
    told_accepted (reverse (packets_of calls)) (packets_in (all_parts (cut_sheets calls pages)))
    (calls_are_paired size calls pages cut.possible cut.cut)
    (each_passes (reverse (packets_of calls))
    (each_reversed IsFronted (packets_of calls) (each_fronted (packets_of calls) (packets_are_fronted calls))) bodies)
