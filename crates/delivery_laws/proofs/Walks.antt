-- The row that a reader meets, as a walk over what was written: each link passes some of the parts, and the next link begins
-- where it ends.
use Rattle.std.proofs.Common.{◌≡◌, ℕ, zero, suc, ◌<◌, ◌⊎◌, Bool, true, false, not, ◌&&◌, List, [], ◌∷◌, ◌++◌, length, drop}
use Rattle.std.specs.Prelude.{◌==◌, slice_get, Some}
use Rattle.trace_model.specs.Images.{Chunk}
use Rattle.trace_model.specs.Fading.{ShowFragments}
use Rattle.trace_model.specs.Sequences.{Cursor}
use Rattle.trace_model.specs.Row.{Slot, Here, Gone, Never, Fate, Whole, Chain, Link, Joined, Gap, Stop, bytes_of}
use Rattle.delivery_laws.specs.Sheets.{Sheet, Part, WrittenPacket, parts_from, all_parts, tail_bytes, ends_whole, packets_in}

-- the next part begins a packet exactly where the last one ended its own
abbrev pub Follows : Bool → List Part → Type 0
Follows ends [] = Unit {0}
Follows ends (part ∷ parts) = part.starts ≡ ends

-- nothing of the chain is missing
abbrev pub is_clear : Fate → Bool → Bool
is_clear Whole awaits = not awaits
is_clear other awaits = false

-- The chain stands where the part `first` begins, and the next link where `next` does. A chain in which nothing is missing has
-- the bytes of its packet.
pub record IsChain (At : ℕ → ℕ → List Part → Type 0) (chain : Chain) (first : Part) (parts next : List Part) : Type 0 where
  pub here : At chain.at.chunk_id chain.at.passed (first ∷ parts)
  pub starts : first.starts ≡ not chain.headless
  pub after : packets_in parts ≡ packets_in next
  pub clear : is_clear chain.fate chain.awaits ≡ true
      → (first.bytes ++ tail_bytes parts ≡ bytes_of chain.pieces) × (ends_whole first parts ≡ true) × Follows true next

-- a gap passes at least one part, and some packets
pub record IsGap (At : ℕ → ℕ → List Part → Type 0) (at : Cursor) (first : Part) (parts next : List Part) : Type 0 where
  pub here : At at.chunk_id at.passed (first ∷ parts)
  pub between : List WrittenPacket
  pub after : packets_in parts ≡ between ++ packets_in next

-- The links go over the parts, up to the stop place, which is a place among them, or the end of a closed sequence.
abbrev pub Walks : (ℕ → ℕ → List Part → Type 0) → (ℕ → Type 0) → List Link → List Part → Type 0
Walks At Over [] parts = ⊥
Walks At Over (Stop at why may ∷ links) parts = At at.chunk_id at.passed parts ⊎ Over at.chunk_id
Walks At Over (Gap at to lost ∷ links) [] = ⊥
Walks At Over (Gap at to lost ∷ links) (first ∷ parts) = (next : List Part) × IsGap At at first parts next × Walks At Over links next
Walks At Over (Joined chain ∷ links) [] = ⊥
Walks At Over (Joined chain ∷ links) (first ∷ parts) = (next : List Part) × IsChain At chain first parts next × Walks At Over links next

-- The parts from a place on: a chunk, and how many of its fragments come before.
abbrev pub parts_at : List Sheet → ℕ → ℕ → List Part
parts_at [] chunk_id passed = []
parts_at (sheet ∷ sheets) zero passed =
    parts_from (sheet.chunk.continues && (passed == 0)) sheet.chunk.runs_on (drop passed sheet.written) ++ all_parts sheets
parts_at (sheet ∷ sheets) (suc chunk_id) passed = parts_at sheets chunk_id passed

-- not past the fragments of a chunk
abbrev pub Inside : List Sheet → ℕ → ℕ → Type 0
Inside sheets chunk_id passed = (sheet : Sheet) → slice_get sheets chunk_id ≡ Some sheet → passed < length sheet.written

-- a place of the row, and the parts from there on
abbrev pub StandsAt : List Sheet → ℕ → ℕ → List Part → Type 0
StandsAt sheets chunk_id passed parts = (parts_at sheets chunk_id passed ≡ parts) × Inside sheets chunk_id passed

-- what there is of a chunk shows what was written of it
pub record ShowsSheet (sheet : Sheet) (chunk : Chunk) : Type 0 where
  pub continues : chunk.continues ≡ sheet.chunk.continues
  pub shows : ShowFragments chunk.partial chunk.awaits chunk.fragments sheet.written
  pub goes : chunk.partial ≡ false → chunk.runs_on ≡ sheet.chunk.runs_on
  pub stays : chunk.partial ≡ true → (chunk.runs_on ≡ false) × (chunk.awaits ≡ false)
  pub some : 0 < length chunk.fragments

abbrev pub FitsSlot : List Sheet → ℕ → Slot → Type 0
FitsSlot sheets chunk_id (Here chunk) = (sheet : Sheet) × (slice_get sheets chunk_id ≡ Some sheet) × ShowsSheet sheet chunk
FitsSlot sheets chunk_id Gone = (sheet : Sheet) × (slice_get sheets chunk_id ≡ Some sheet)
FitsSlot sheets chunk_id Never = Unit {0}

-- only an open sequence lacks a chunk, and nothing comes behind a final partial record
abbrev pub EndsAt : (ℕ → Type 0) → Bool → ℕ → Slot → List Slot → Type 0
EndsAt Over closed chunk_id (Here chunk) slots = (chunk.partial && closed) ≡ true → (slots ≡ []) × Over (suc chunk_id)
EndsAt Over closed chunk_id Gone slots = Unit {0}
EndsAt Over closed chunk_id Never slots = closed ≡ false

abbrev pub FitsFrom : List Sheet → (ℕ → Type 0) → Bool → ℕ → List Slot → Type 0
FitsFrom sheets Over closed chunk_id [] = Unit {0}
FitsFrom sheets Over closed chunk_id (slot ∷ slots) =
    FitsSlot sheets chunk_id slot × EndsAt Over closed chunk_id slot slots × FitsFrom sheets Over closed (suc chunk_id) slots
