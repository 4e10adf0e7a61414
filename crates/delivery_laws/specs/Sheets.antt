-- What a writer wrote of one sequence, chunk by chunk, and the packets that stand in it from the left.
use Rattle.std.specs.Prelude.{◌≡◌, ℕ, ◌<◌, Bool, false, not, ◌&&◌, List, [], ◌∷◌, ◌++◌, length, if◌then◌else◌, ⊤}
use Rattle.std.specs.List.{flat_map}
use Rattle.trace_model.specs.Images.{Fragment, Chunk, Patch}
use Rattle.trace_model.specs.Row.{is_last}

-- A chunk as its writer completed it, the patches that its commit body brings, and its fragments once all patches of all
-- bodies are put in.
pub record Sheet : Type 0 where
  pub chunk : Chunk
  pub patches : List Patch
  pub written : List Fragment

-- A fragment in the order of the writer: whether a packet begins with it, and whether one ends with it.
pub record Part : Type 0 where
  pub starts : Bool
  pub ends : Bool
  pub dropped : Bool
  pub bytes : List ℕ

-- the fragments of a chunk, of which the first continues a packet or not, and the last runs on or not
abbrev pub parts_from : Bool → Bool → List Fragment → List Part
parts_from continues runs_on [] = []
parts_from continues runs_on (fragment ∷ others) =
    record {
      starts = not continues;
      ends = not (runs_on && is_last others);
      dropped = fragment.dropped;
      bytes = fragment.bytes;
    } ∷ parts_from false runs_on others

-- the fragments of a sheet, with what each continues
abbrev pub parts_of : Sheet → List Part
parts_of sheet = parts_from sheet.chunk.continues sheet.chunk.runs_on sheet.written

-- all fragments of a writer, one behind another
abbrev pub all_parts : List Sheet → List Part
all_parts sheets = flat_map parts_of sheets

-- What was written of a packet, and whether all of it was.
pub record WrittenPacket : Type 0 where
  pub bytes : List ℕ
  pub whole : Bool

-- the bytes up to where the next packet begins
abbrev pub tail_bytes : List Part → List ℕ
tail_bytes [] = []
tail_bytes (part ∷ parts) = if part.starts then [] else part.bytes ++ tail_bytes parts

-- the packet of this part ends, and not in a drop mark
abbrev pub ends_whole : Part → List Part → Bool
ends_whole part [] = part.ends && not part.dropped
ends_whole part (next ∷ parts) = if next.starts then part.ends && not part.dropped else ends_whole next parts

-- the packets that begin in these parts
abbrev pub packets_in : List Part → List WrittenPacket
packets_in [] = []
packets_in (part ∷ parts) =
    if part.starts
    then record { bytes = part.bytes ++ tail_bytes parts; whole = ends_whole part parts } ∷ packets_in parts
    else packets_in parts

-- The first chunk continues a packet where `runs_on`, and each other one exactly where the one before runs on; none is empty.
abbrev pub SheetsAgree : Bool → List Sheet → Type 0
SheetsAgree runs_on [] = ⊤
SheetsAgree runs_on (sheet ∷ sheets) =
    (sheet.chunk.continues ≡ runs_on) × (0 < length sheet.written) × SheetsAgree sheet.chunk.runs_on sheets

-- the patches that the bodies of these chunks bring, in their order
abbrev pub sheet_patches : List Sheet → List Patch
sheet_patches sheets = flat_map (λ (sheet : Sheet). sheet.patches) sheets
