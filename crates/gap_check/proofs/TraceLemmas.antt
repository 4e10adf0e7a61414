-- How far a check has come in its trace.
use Rattle.std.proofs.Common.{◌≡◌, ℕ, ◌+◌, ◌<◌, ◌≤◌, List, [], ◌∷◌, ◌++◌, length, map, Option, None, refl, sym, ap, subst, arith, append_assoc, length-append}
use Rattle.std.proofs.lemmas.List.{append-nil, map-append}
use Rattle.trace_model.specs.Delivery.{Delivered, IsFaithful}
use Rattle.trace_file.specs.declared.fault.TraceFault.{TraceFault}
use Rattle.trace_file.specs.Readers.{ReaderView, StillReads}
use Rattle.trace_file.specs.Traces.{TracePacket, ReadsFrom}
use Rattle.packet_runs.specs.declared.teller.Teller.{Teller}
use Rattle.gap_check.specs.declared.verdict.Verdict.{Verdict}
use Rattle.gap_check.specs.declared.verdict.Verdict.TheVariants.{Agrees, Differs}
use Rattle.gap_check.specs.Taken.{AllTaken}
use Rattle.gap_check.specs.Verdicts.{delivered_as, delivered_by, AreFaithful, IsFirstUntold, IsVerdictOn}
use Rattle.gap_check.proofs.TakenLemmas.{taken_faithful}

-- what a reader has left, behind what was read
pub record GoesBack (old new : ReaderView) : Type 0 where
  pub packets : List TracePacket
  pub reads : (others : List TracePacket) (ending : Option TraceFault) → StillReads new others ending → StillReads old (packets ++ others) ending

pub back_more : (old mid new : ReaderView) (packet : TracePacket) → GoesBack old mid
    → ((packets : List TracePacket) (ending : Option TraceFault) → StillReads new packets ending → StillReads mid (packet ∷ packets) ending) → GoesBack old new
back_more old mid new packet h next = record {
  packets = h.packets ++ packet ∷ [];
  reads = λ others ending reads. subst (λ (ps : List TracePacket). StillReads old ps ending) (sym (append_assoc h.packets (packet ∷ []) others)) (h.reads (packet ∷ others) ending (next others ending reads));
}

-- the tellers have taken the packets that were read
pub record IsTelling (emitted : List (List (List ℕ))) (trace : List ℕ) (tellers : List Teller) (reader : ReaderView) (count : ℕ) : Type 0 where
  pub packets : List TracePacket
  pub reads : (others : List TracePacket) (ending : Option TraceFault) → StillReads reader others ending → ReadsFrom 0 trace (packets ++ others) ending
  pub taken : AllTaken emitted (delivered_by packets) tellers
  pub counted : count ≡ length packets
  pub small : count + length reader.rest ≤ length trace

reads_on : (trace : List ℕ) (old new : ReaderView) (packets : List TracePacket) (packet : TracePacket)
    → ((others : List TracePacket) (ending : Option TraceFault) → StillReads old others ending → ReadsFrom 0 trace (packets ++ others) ending)
    → ((others : List TracePacket) (ending : Option TraceFault) → StillReads new others ending → StillReads old (packet ∷ others) ending)
    → (others : List TracePacket) (ending : Option TraceFault) → StillReads new others ending → ReadsFrom 0 trace ((packets ++ packet ∷ []) ++ others) ending
reads_on trace old new packets packet reads next others ending h =
    subst (λ (ps : List TracePacket). ReadsFrom 0 trace ps ending) (sym (append_assoc packets (packet ∷ []) others)) (reads (packet ∷ others) ending (next others ending h))

pub telling_more : (emitted : List (List (List ℕ))) (trace : List ℕ) (tellers new_tellers : List Teller) (old new : ReaderView) (count : ℕ) (packet : TracePacket)
    → IsTelling emitted trace tellers old count
    → ((others : List TracePacket) (ending : Option TraceFault) → StillReads new others ending → StillReads old (packet ∷ others) ending)
    → length new.rest < length old.rest
    → ((delivered : List Delivered) → AllTaken emitted delivered tellers → AllTaken emitted (delivered ++ delivered_as packet ∷ []) new_tellers)
    → IsTelling emitted trace new_tellers new (count + 1)
telling_more emitted trace tellers new_tellers old new count packet h next shorter told = record {
  packets = h.packets ++ packet ∷ [];
  reads = reads_on trace old new h.packets packet h.reads next;
  taken = subst (λ (ds : List Delivered). AllTaken emitted ds new_tellers) (sym (map-append delivered_as h.packets (packet ∷ []))) (told (delivered_by h.packets) h.taken);
  counted = omega (arith, h.counted, length-append h.packets (packet ∷ []));
  small = omega (arith, h.small, shorter);
}

pub telling_ends : (emitted : List (List (List ℕ))) (trace : List ℕ) (tellers : List Teller) (reader : ReaderView) (count : ℕ) → IsTelling emitted trace tellers reader count
    → StillReads reader [] None → IsVerdictOn emitted trace (Agrees count)
telling_ends emitted trace tellers reader count h ends = record {
  packets = h.packets;
  reads = subst (λ (ps : List TracePacket). ReadsFrom 0 trace ps None) (append-nil h.packets) (h.reads [] None ends);
  says = record { faithful = taken_faithful emitted (delivered_by h.packets) tellers h.taken; counted = h.counted };
}

pub telling_stops : (emitted : List (List (List ℕ))) (trace : List ℕ) (tellers : List Teller) (old new : ReaderView) (count : ℕ) (packet : TracePacket)
    → IsTelling emitted trace tellers old count
    → ((others : List TracePacket) (ending : Option TraceFault) → StillReads new others ending → StillReads old (packet ∷ others) ending)
    → ((delivered : List Delivered) → AllTaken emitted delivered tellers → IsFaithful emitted (delivered ++ delivered_as packet ∷ []) → ⊥)
    → (rest : (others : List TracePacket) × StillReads new others None) → IsVerdictOn emitted trace (Differs (count + 1) packet.sequence)
telling_stops emitted trace tellers old new count packet h next untold rest = record {
  packets = h.packets ++ (packet ∷ rest.0);
  reads = h.reads (packet ∷ rest.0) None (next rest.0 None rest.1);
  says = record {
    told = h.packets;
    untold = packet;
    others = rest.0;
    cut = refl;
    number_is = ap (λ (n : ℕ). n + 1) h.counted;
    sequence_is = refl;
    faithful = taken_faithful emitted (delivered_by h.packets) tellers h.taken;
    unfaithful = λ faithful. untold (delivered_by h.packets) h.taken (subst (IsFaithful emitted) (map-append delivered_as h.packets (packet ∷ [])) faithful);
  };
}
