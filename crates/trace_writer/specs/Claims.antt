-- What a writer's claim does to its chunks, however often it asks for those of its producer, and what it keeps of its claims.
use Rattle.std.specs.Prelude.{◌≡◌, ℕ, ◌+◌, ◌<◌, ◌≤◌, ◌⊎◌, ⊤, Some, None, List, [], ◌∷◌, ◌++◌, slice_get}
use Rattle.trace_base.specs.declared.policy.WriterPolicy.TheVariants.{Stalls}
use Rattle.trace_base.specs.declared.policy.WriterSpec.{WriterSpec}
use Rattle.trace_model.specs.Packets.{packets_of, lost_count}
use Rattle.chunk_plain.specs.Setup.{Setup, producer_of, IsChunkOf}
use Rattle.chunk_plain.specs.Views.{Ask, BegunChunk, Held, Completed, WriterView, fresh}
use Rattle.trace_writer.specs.declared.route.Route.{Route}

-- a chunk of the producer is begun
pub record Wins (route : Route) (chunk : ℕ) (old new : WriterView) : Type 0 where
  pub least : route.arbiter.first ≤ chunk
  pub below : chunk < route.arbiter.first + route.arbiter.chunks
  pub words : List ℕ
  pub begun : new.begun ≡ old.begun ++ Held chunk (fresh words) ∷ []
  pub calls : new.calls ≡ old.calls

-- none was
pub record FindsNone (old new : WriterView) : Type 0 where
  pub begun : new.begun ≡ old.begun
  pub calls : new.calls ≡ old.calls

-- each of these claims was for a chunk of the producer
abbrev pub AreOwnAsks : Setup → ℕ → List Ask → Type 0
AreOwnAsks setup producer [] = ⊤
AreOwnAsks setup producer (ask ∷ asks) = IsChunkOf setup producer ask.chunk × AreOwnAsks setup producer asks

-- and each of these chunks is one of the producer's
abbrev pub AreOwnChunks : Setup → ℕ → List BegunChunk → Type 0
AreOwnChunks setup producer [] = ⊤
AreOwnChunks setup producer (Held chunk head ∷ begun) = IsChunkOf setup producer chunk × AreOwnChunks setup producer begun
AreOwnChunks setup producer (Completed chunk content ∷ begun) = IsChunkOf setup producer chunk × AreOwnChunks setup producer begun

-- one of these claims was for the chunk
abbrev pub HasAsked : List Ask → ℕ → Type 0
HasAsked [] chunk = ⊥
HasAsked (ask ∷ asks) chunk = (ask.chunk ≡ chunk) ⊎ HasAsked asks chunk

-- What a writer has of chunks between two calls: no claim is out, all that it asked for and all that it began are chunks of
-- its producer, and where it lost a packet it has asked for each of these. One that stalls has lost none.
pub record KeepsClaims (setup : Setup) (place : ℕ) (view : WriterView) : Type 0 where
  pub unclaimed : view.claimed ≡ []
  pub unstamped : view.stamped ≡ None
  pub own_asks : AreOwnAsks setup (producer_of setup place) view.asked
  pub own_chunks : AreOwnChunks setup (producer_of setup place) view.begun
  pub vain : 0 < lost_count (packets_of view.calls) → (chunk : ℕ) → IsChunkOf setup (producer_of setup place) chunk
      → HasAsked view.asked chunk
  pub stalls : (spec : WriterSpec) → slice_get setup.writers place ≡ Some spec → spec.policy ≡ Stalls → lost_count (packets_of view.calls) ≡ 0
