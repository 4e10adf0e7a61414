-- What a reader sees is the row of what was written, faded by losses: chunks are missing, or there in part, or await a
-- patch; but a chain in which nothing is missing is the chain that was written, at its place.
use Rattle.std.specs.Prelude.{◌≡◌, ℕ, ◌<◌, Bool, true, false, ◌&&◌, List, [], ◌∷◌, length, drop, map, ⊤}
use Rattle.trace_model.specs.Images.{Fragment, Chunk}
use Rattle.trace_model.specs.Sequences.{Cursor}
use Rattle.trace_model.specs.Row.{Slot, Here, Gone, Never, Chain, Whole, Link, Joined, Gap, Stop, bytes_of, is_last, row_of}

-- Of fragments that were written, all are there, or some are still to come.
abbrev pub MoreComes : Bool → List Fragment → Type 0
MoreComes true [] = ⊥
MoreComes true (fragment ∷ fragments) = ⊤
MoreComes false [] = ⊤
MoreComes false (fragment ∷ fragments) = ⊥

-- the fragments that are there are those that were written, the first ones alone where `partial`; the bytes of a last one
-- that awaits a patch may differ
abbrev pub ShowFragments : Bool → Bool → List Fragment → List Fragment → Type 0
ShowFragments partial awaits [] written = MoreComes partial written
ShowFragments partial awaits (fragment ∷ fragments) [] = ⊥
ShowFragments partial awaits (fragment ∷ fragments) (first ∷ written) =
    (fragment.dropped ≡ first.dropped) × ((awaits && is_last fragments) ≡ false → fragment.bytes ≡ first.bytes)
    × ShowFragments partial awaits fragments written

-- a chunk that is there, and the chunk as it was written, with all its patches put in
pub record ShowsChunk (seen written : Chunk) : Type 0 where
  pub some : 0 < length seen.fragments
  pub settled : (written.awaits ≡ false) × (written.partial ≡ false)
  pub continues : seen.continues ≡ written.continues
  pub fragments : ShowFragments seen.partial seen.awaits seen.fragments written.fragments
  pub whole : seen.partial ≡ false → seen.runs_on ≡ written.runs_on
  pub part : seen.partial ≡ true → (seen.runs_on ≡ false) × (seen.awaits ≡ false)

-- each chunk that is there shows the one that was written in its place
abbrev pub Show : List Slot → List Chunk → Type 0
Show [] written = ⊤
Show (Here chunk ∷ slots) [] = ⊥
Show (Here chunk ∷ slots) (first ∷ written) = ShowsChunk chunk first × Show slots written
Show (Gone ∷ slots) [] = Show slots []
Show (Gone ∷ slots) (first ∷ written) = Show slots written
Show (Never ∷ slots) [] = Show slots []
Show (Never ∷ slots) (first ∷ written) = Show slots written

-- the row of what was written, from a place on
abbrev pub written_from : List Chunk → Cursor → List Link
written_from written at = row_of false at.chunk_id at.passed (map Here (drop at.chunk_id written))

-- the chain stands in the row of what was written, whole, byte for byte
pub record StandsAsWritten (written : List Chunk) (chain : Chain) : Type 0 where
  pub same : Chain
  pub others : List Link
  pub there : written_from written chain.at ≡ Joined same ∷ others
  pub fate : same.fate ≡ Whole
  pub headless : same.headless ≡ chain.headless
  pub bytes : bytes_of same.pieces ≡ bytes_of chain.pieces

-- each chain in which nothing is missing, and which awaits nothing, stands in the row of what was written
abbrev pub Fades : List Chunk → List Link → Type 0
Fades written [] = ⊤
Fades written (Joined chain ∷ links) =
    (chain.fate ≡ Whole → chain.awaits ≡ false → StandsAsWritten written chain) × Fades written links
Fades written (Gap at next lost ∷ links) = Fades written links
Fades written (Stop at why may ∷ links) = Fades written links

-- the row of what is there fades, from whatever place it is read
abbrev pub RowsFade : Type 0
RowsFade = (closed : Bool) (written : List Chunk) (slots : List Slot) (chunk_id passed : ℕ)
    → Show slots (drop chunk_id written) → Fades written (row_of closed chunk_id passed slots)
