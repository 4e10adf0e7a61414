-- When chunks and buffer bytes are enough, so that no packet is absent. The numbers don't depend on the schedule.
use Rattle.std.specs.Prelude.{◌≡◌, ℕ, ◌+◌, ◌-◌, ◌*◌, ◌/◌, Bool, true, false, ◌||◌, nat_le, ◌==◌, IsTrue, List, [], length, filter, sum_by, Option, Some, None, slice_get}
use Rattle.std.specs.List.{list_all, enumerate_from}
use Rattle.trace_base.specs.declared.policy.WriterPolicy.{WriterPolicy}
use Rattle.trace_base.specs.declared.policy.WriterPolicy.TheVariants.{Stalls}
use Rattle.trace_base.specs.declared.policy.WriterSpec.{WriterSpec}
use Rattle.page_geometry.specs.Sizes.{record_size}

-- a producer's chunks, and the payload size of each
pub record ChunkRoom : Type 0 where
  pub chunks : ℕ
  pub payload : ℕ

-- a writer, and the packets that it emits
pub record WriterLoad : Type 0 where
  pub spec : WriterSpec
  pub emitted : List (List ℕ)

-- At most so many chunks begin a packet or continue one: an image that runs on carries all its payload but at most seven
-- bytes of the packet, four for the fragment's size and three before a nested length.
abbrev pub most_chunks : ℕ → List (List ℕ) → ℕ
most_chunks payload emitted = sum_by (λ packet. 1 + length packet / (payload - 7)) emitted

-- the payload size of a producer's chunks, 0 where there is no such producer
abbrev pub payload_in : Option ChunkRoom → ℕ
payload_in None = 0
payload_in (Some room) = room.payload

-- producers and buffers count from 1
abbrev pub payload_of : List ChunkRoom → WriterLoad → ℕ
payload_of producers load = payload_in (slice_get producers (load.spec.producer - 1))

-- the policy has a writer wait for a chunk, and not drop
abbrev pub stalls : WriterPolicy → Bool
stalls Stalls = true
stalls other = false

-- a producer's writers all stall, or its chunks are enough for all they emit
abbrev pub is_enough_for : List WriterLoad → ChunkRoom → Bool
is_enough_for loads room =
    list_all (λ load. stalls load.spec.policy) loads
    || nat_le (sum_by (λ load. most_chunks room.payload load.emitted) loads) room.chunks

-- each producer has chunks enough for its writers, whose numbers of producers count from 1
abbrev pub has_chunks_enough : List ChunkRoom → List WriterLoad → Bool
has_chunks_enough producers loads =
    list_all
    (λ producer. is_enough_for (filter (λ load. load.spec.producer == producer.0) loads) producer.1)
    (enumerate_from 1 producers)

-- the bytes that a writer's records take at most
abbrev pub most_bytes : List ChunkRoom → WriterLoad → ℕ
most_bytes producers load =
    most_chunks (payload_of producers load) load.emitted * record_size (payload_of producers load)

-- each buffer, of which the sizes are given, has room for all records of its writers
abbrev pub has_bytes_enough : List ℕ → List ChunkRoom → List WriterLoad → Bool
has_bytes_enough buffers producers loads =
    list_all
    (λ buffer. nat_le (sum_by (most_bytes producers) (filter (λ load. load.spec.buffer == buffer.0) loads)) buffer.1)
    (enumerate_from 1 buffers)

-- Of buffers with these sizes, these producers, of which those in `closed` are closed before the end, and their writers with
-- all that they emit.
pub record IsEnough (closed : List ℕ) (buffers : List ℕ) (producers : List ChunkRoom) (loads : List WriterLoad) : Type 0 where
  -- what a writer of a closed producer holds isn't taken any more
  pub none_closed : closed ≡ []
  pub chunks : IsTrue (has_chunks_enough producers loads)
  pub bytes : IsTrue (has_bytes_enough buffers producers loads)
