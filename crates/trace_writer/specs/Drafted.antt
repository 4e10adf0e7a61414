-- What of a held chunk was published: the words that stand in it, and the bytes of its payload that they have.
use Rattle.std.specs.Prelude.{◌≡◌, ℕ, ◌+◌, ◌<◌, ◌≤◌, Bool, List, ◌++◌, length, vec_len}
use Rattle.chunk_plain.specs.Setup.{Setup, spot}
use Rattle.chunk_plain.specs.Payload.{byte_at, byte_in, sealed_to}
use Rattle.chunk_plain.specs.Views.{Draft, WriterView}
use Rattle.chunk_plain.specs.Drafts.{IsHolding, draft_at, published}
use Rattle.chunk_plain.specs.Steps.{redrafts}
use Rattle.trace_writer.specs.declared.chunk.HeldChunk.{HeldChunk}
use Rattle.trace_writer.specs.Headers.{held_head}
use Rattle.trace_writer.specs.Filled.{frames}

-- The header counts so many fragments. The bytes of these ones were published, and no finished fragment ends behind them.
pub record IsDrafted (draft : Draft) (count : ℕ) (continues : Bool) (done : List (List ℕ)) : Type 0 where
  pub head : draft.head ≡ held_head count continues
  pub bytes : (j : ℕ) → j < length (frames done) → byte_at draft.words j ≡ byte_in (frames done) j
  pub sealed : sealed_to draft.ends ≤ length (frames done)

-- A held chunk's payload begins with so many fragments, which end at this place or before. What is below `sealed` was published, and no
-- finished fragment ends behind that.
pub record IsFit (setup : Setup) (view : WriterView) (chunk : HeldChunk) (count to : ℕ) : Type 0 where
  pub holds : IsHolding view chunk.held.chunk chunk.held.position
  pub size : vec_len chunk.held.body.payload ≡ (spot setup chunk.held.chunk).payload_size
  pub done : List (List ℕ)
  pub rest : List ℕ
  pub payload_is : chunk.held.body.payload.items ≡ frames done ++ rest
  pub count_is : count ≡ length done
  pub inside : length (frames done) ≤ to
  pub bytes : (j : ℕ) → j < chunk.sealed → published view chunk.held.position j ≡ byte_in chunk.held.body.payload.items j
  pub sealed : sealed_to (draft_at view chunk.held.position).ends ≤ chunk.sealed

-- One fragment more is counted in the header, and the bytes of those before it are published.
pub record CountsNext (chunk : HeldChunk) (old new : WriterView) : Type 0 where
  pub draft : Draft
  pub head : draft.head ≡ held_head (chunk.count + 1) chunk.continues
  pub bytes : (j : ℕ) → j < chunk.at → byte_at draft.words j ≡ byte_in chunk.held.body.payload.items j
  pub sealed : sealed_to draft.ends ≤ chunk.at
  pub view : new ≡ redrafts old chunk.held.chunk chunk.held.position draft
