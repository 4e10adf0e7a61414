-- What a writer stores with a chunk.
use Rattle.std.specs.Prelude.{ℕ, ◌+◌, Bool, false, List}
use Rattle.trace_model.specs.Images.{Patch}
use Rattle.trace_model.specs.Pages.{flag_where}
use Rattle.chunk_plain.specs.Views.{Head, Content}

-- flags 1, 2 and 4
abbrev pub flags_value : Bool → Bool → Bool → ℕ
flags_value continues runs_on awaits = flag_where continues 1 + flag_where runs_on 2 + flag_where awaits 4

-- the header of a held chunk with so many fragments
abbrev pub held_head : ℕ → Bool → Head
held_head count continues = record { count = count; flags = flags_value continues false false }

-- what a completed chunk has
abbrev pub completed_chunk : ℕ → ℕ → ℕ → ℕ → List ℕ → List Patch → ℕ → Content
completed_chunk place position count flags payload patches buffer = record {
  image = record { sequence = place + 2; chunk_id = position; count = count; flags = flags; payload = payload };
  patches = patches;
  target = buffer;
}
