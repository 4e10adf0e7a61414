-- What a patch list keeps, and what its calls do to it.
use Rattle.std.specs.Prelude.{◌≡◌, ◌≢◌, ℕ, false, List, [], ◌∷◌, ◌++◌}
use Rattle.wire_varint.specs.Varint.{redundant}
use Rattle.trace_model.specs.Images as model
use Rattle.commit_body.specs.declared.hole.Hole.{Hole}
use Rattle.commit_body.specs.declared.closed.Closed.{Closed}
use Rattle.commit_body.specs.declared.closed.Closed.TheVariants.{Here, Later}

-- what a writer has still to send: its open holes, and the patches of those that it closed
pub record Pending : Type 0 where
  -- the open holes, outer ones first
  pub holes : List Hole
  -- the patches that were not sent, in the order of closing, without `last`
  pub unsent : List model.Patch

-- a hole is opened inside the open ones
abbrev pub AddsHole : Pending → Pending → ℕ → ℕ → Type 0
AddsHole old new chunk_id offset =
    new ≡ record old { holes = old.holes ++ record { chunk_id = chunk_id; offset = offset } ∷ [] }

-- the patch that gives a hole its length
abbrev pub patch_for : Hole → ℕ → model.Patch
patch_for hole value =
    record { chunk_id = hole.chunk_id; offset = hole.offset; bytes = redundant value; last = false }

-- What becomes of a hole: where it is in the held chunk its bytes are answered, and else its patch is kept.
abbrev pub IsClosedAs : Hole → ℕ → ℕ → List model.Patch → List model.Patch → Closed → Type 0
IsClosedAs hole held value old new (Here offset bytes) =
    (hole.chunk_id ≡ held) × (offset ≡ hole.offset) × (bytes ≡ redundant value) × (new ≡ old)
IsClosedAs hole held value old new Later = (hole.chunk_id ≢ held) × (new ≡ old ++ patch_for hole value ∷ [])

-- the innermost hole is closed with this length, where `held` is the writer's chunk
pub record ClosesHole (old new : Pending) (held value : ℕ) (answer : Closed) : Type 0 where
  pub hole : Hole
  pub innermost : old.holes ≡ new.holes ++ hole ∷ []
  pub outcome : IsClosedAs hole held value old.unsent new.unsent answer
