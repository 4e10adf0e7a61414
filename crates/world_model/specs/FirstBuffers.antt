-- The buffers as a service has them at first: of each writer that names a buffer, the buffer has its sequence.
use Rattle.std.specs.Prelude.{ℕ, suc, ◌==◌, List, [], ◌∷◌, if◌then◌else◌}
use Rattle.trace_base.specs.declared.policy.FullPolicy.{FullPolicy}
use Rattle.trace_base.specs.declared.policy.WriterSpec.{WriterSpec}
use Rattle.page_geometry.specs.Sizes.{record_size}
use Rattle.trace_model.specs.Sequences.{Sequence, fresh}
use Rattle.trace_model.specs.Buffers.{Buffer, empty_buffer}
use Rattle.chunk_plain.specs.Setup.{Setup, size_of, producer_of, sequence_of}

-- a buffer of the set-up: its bytes, and what it does where it is full
pub record BufferSpec : Type 0 where
  pub size : ℕ
  pub policy : FullPolicy

-- the payload size of the chunks of the writer at this place
abbrev pub payload_at : Setup → ℕ → ℕ
payload_at setup place = size_of setup (producer_of setup place)

-- the sequences of those writers that name the buffer with this number, of the writers from this place on
abbrev pub sequences_from : Setup → (buffer place : ℕ) → List WriterSpec → List Sequence
sequences_from setup buffer place [] = []
sequences_from setup buffer place (spec ∷ specs) =
    if spec.buffer == buffer
    then fresh (sequence_of place) (record_size (size_of setup spec.producer)) spec.from ∷ sequences_from setup buffer (suc place) specs
    else sequences_from setup buffer (suc place) specs

-- the buffers, of which the first has this number; buffers count from 1
abbrev pub first_buffers : Setup → (buffer : ℕ) → List BufferSpec → List Buffer
first_buffers setup buffer [] = []
first_buffers setup buffer (spec ∷ specs) =
    empty_buffer spec.size spec.policy (sequences_from setup buffer 0 setup.writers) ∷ first_buffers setup (suc buffer) specs
