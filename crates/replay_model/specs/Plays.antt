-- What a list of acts makes of a world.
use Rattle.std.specs.Prelude.{◌≡◌, List, [], ◌∷◌, ◌++◌}
use Rattle.trace_model.specs.Buffers.{Buffer}
use Rattle.chunk_plain.specs.Setup.{Setup}
use Rattle.chunk_plain.specs.World.{World}
use Rattle.chunk_plain.specs.Owned.{IsOwned}
use Rattle.replay_model.specs.Acts.{Act}
use Rattle.replay_model.specs.Does.{Does}
use Rattle.replay_model.specs.ActNotes.{ActNote, act_notes}

-- The acts lead from one world to another, one behind another, and leave so much for the report. Each chunk is owned by exactly one
-- in each world on the way.
abbrev pub Plays : Setup → (buffers : List Buffer) → List Act → (old new : World) → List ActNote → Type 0
Plays setup buffers [] old new notes = (new ≡ old) × (notes ≡ [])
Plays setup buffers (act ∷ acts) old new notes =
    (next : World) × (later : List ActNote) × Does setup buffers act old next × ∥ IsOwned next ∥₁
    × (notes ≡ act_notes setup buffers act old next ++ later) × Plays setup buffers acts next new later
