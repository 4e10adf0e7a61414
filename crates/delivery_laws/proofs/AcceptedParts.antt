-- Packets that the packet check accepts, from any place of what was written on.
use Rattle.std.proofs.Common.{◌≡◌, ℕ, zero, suc, Bool, true, false, not, ◌&&◌, List, [], ◌∷◌, ◌++◌, drop, sym, subst, arith}
use Rattle.std.specs.Prelude.{cond, ◌==◌}
use Rattle.std.proofs.lemmas.Bool.{ne_eqb}
use Rattle.trace_model.specs.Images.{Fragment}
use Rattle.trace_model.specs.Row.{is_last}
use Rattle.trace_model.specs.Walks.{is_accepted}
use Rattle.trace_model.proofs.CursorLemmas.{Each}
use Rattle.delivery_laws.specs.Sheets.{Sheet, Part, WrittenPacket, parts_from, parts_of, all_parts, tail_bytes, ends_whole, packets_in}
use Rattle.delivery_laws.proofs.Walks.{parts_at}

-- where all of the packet was written, the packet check accepts it
abbrev pub IsAccepted : WrittenPacket → Type 0
IsAccepted packet = packet.whole ≡ true → is_accepted packet.bytes ≡ true

abbrev pub AreAccepted : List Part → Type 0
AreAccepted parts = Each IsAccepted (packets_in parts)

-- behind a part
accepted_next : (part : Part) (parts : List Part) → AreAccepted (part ∷ parts) → AreAccepted parts
accepted_next part parts h = step part.starts h
  where
    step : (b : Bool) → Each IsAccepted (cond b (record { bytes = part.bytes ++ tail_bytes parts; whole = ends_whole part parts } ∷ packets_in parts) (packets_in parts))
        → AreAccepted parts
    step true h = h.1
    step false h = h

accepted_behind : (parts behind : List Part) → AreAccepted (parts ++ behind) → AreAccepted behind
accepted_behind [] behind h = h
accepted_behind (part ∷ parts) behind h = accepted_behind parts behind (accepted_next part (parts ++ behind) h)

-- a fragment of a chunk, before others
abbrev first_part : Bool → Bool → Fragment → List Fragment → Part
first_part continues runs_on f fs = record { starts = not continues; ends = not (runs_on && is_last fs); dropped = f.dropped; bytes = f.bytes }

-- behind some fragments of a chunk
accepted_from : (continues runs_on : Bool) (fragments : List Fragment) (passed : ℕ) (behind : List Part)
    → AreAccepted (parts_from continues runs_on fragments ++ behind)
    → AreAccepted (parts_from (continues && (passed == 0)) runs_on (drop passed fragments) ++ behind)
accepted_from continues runs_on [] zero behind h = h
accepted_from continues runs_on [] (suc passed) behind h = h
accepted_from true runs_on (f ∷ fs) zero behind h = h
accepted_from false runs_on (f ∷ fs) zero behind h = h
accepted_from true runs_on (f ∷ fs) (suc passed) behind h =
    subst (λ (b : Bool). AreAccepted (parts_from b runs_on (drop passed fs) ++ behind)) (sym (ne_eqb (suc passed) 0 (λ e. omega (arith, e))))
    (accepted_from false runs_on fs passed behind (accepted_next (first_part true runs_on f fs) (parts_from false runs_on fs ++ behind) h))
accepted_from false runs_on (f ∷ fs) (suc passed) behind h =
    accepted_from false runs_on fs passed behind (accepted_next (first_part false runs_on f fs) (parts_from false runs_on fs ++ behind) h)

-- from a place on
pub accepted_at : (sheets : List Sheet) (chunk_id passed : ℕ) → AreAccepted (all_parts sheets) → AreAccepted (parts_at sheets chunk_id passed)
accepted_at [] chunk_id passed h = tt
accepted_at (sheet ∷ sheets) zero passed h =
    accepted_from sheet.chunk.continues sheet.chunk.runs_on sheet.written passed (all_parts sheets) h
accepted_at (sheet ∷ sheets) (suc chunk_id) passed h =
    accepted_at sheets chunk_id passed (accepted_behind (parts_of sheet) (all_parts sheets) h)

-- the packet that begins with the first part
pub accepted_first : (part : Part) (parts : List Part) → part.starts ≡ true → AreAccepted (part ∷ parts)
    → IsAccepted (record { bytes = part.bytes ++ tail_bytes parts; whole = ends_whole part parts }) × AreAccepted parts
accepted_first part parts starts h =
    subst (λ (b : Bool). Each IsAccepted (cond b (record { bytes = part.bytes ++ tail_bytes parts; whole = ends_whole part parts } ∷ packets_in parts) (packets_in parts)))
    starts h
