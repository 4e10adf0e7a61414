-- A buffer of a configuration has at most so many bytes, and a largest record of some.
use Rattle.std.proofs.Common.{◌≡◌, ℕ, zero, suc, ◌*◌, ◌≤◌, Bool, true, false, cond, List, [], ◌∷◌, map, arith}
use Rattle.std.specs.Prelude.{◌==◌, max}
use Rattle.std.specs.List.{All}
use Rattle.std.proofs.lemmas.Bool.{false≢true}
use Rattle.trace_base.specs.declared.limits.TheConstants.{BYTES_PER_KB, MAX_BUFFER_KB}
use Rattle.trace_base.specs.declared.policy.WriterSpec.{WriterSpec}
use Rattle.page_geometry.specs.Sizes.{record_size}
use Rattle.trace_model.specs.Sequences.{Sequence, fresh, is_known}
use Rattle.chunk_plain.specs.Setup.{Setup, sequence_of, size_of}
use Rattle.world_model.specs.FirstBuffers as first
use Rattle.service_core.specs.Agreement.{spec_value}
use Rattle.service_core.specs.Routing.{buffer_at}
use Rattle.config_text.specs.declared.config.ConfigBuffer.{ConfigBuffer}
use Rattle.config_text.specs.Writing.{IsBuffer}
use Rattle.commit_laws.specs.Complete.{largest_record}
use Rattle.stream_producer.specs.Setups.{buffer_asked}

-- a record has a header at least
record_some : (payload : ℕ) → 1 ≤ record_size payload
record_some payload = omega arith

max_left : (m n : ℕ) → 1 ≤ m → 1 ≤ max m n
max_left m n some = omega (arith, some)

max_right : (m n : ℕ) → 1 ≤ n → 1 ≤ max m n
max_right m n some = omega (arith, some)

from_some : (setup : Setup) (number place : ℕ) (specs : List WriterSpec) (q : ℕ)
    → is_known (first.sequences_from setup number place specs) q ≡ true
    → 1 ≤ largest_record (first.sequences_from setup number place specs)
from_some setup number place [] q known = absurd (false≢true known)
from_some setup number place (spec ∷ specs) q known = by_named (spec.buffer == number) (from_some setup number (suc place) specs q) known
  where
    others : List Sequence
    others = first.sequences_from setup number (suc place) specs

    state : Sequence
    state = fresh (sequence_of place) (record_size (size_of setup spec.producer)) spec.from

    by_named : (b : Bool) → (is_known others q ≡ true → 1 ≤ largest_record others) → is_known (cond b (state ∷ others) others) q ≡ true
        → 1 ≤ largest_record (cond b (state ∷ others) others)
    by_named true rest known =
        max_left (record_size (size_of setup spec.producer)) (largest_record others) (record_some (size_of setup spec.producer))
    by_named false rest known = rest known

-- a buffer with a sequence has a largest record of some bytes
pub largest_some : (setup : Setup) (number : ℕ) (specs : List first.BufferSpec) (index q : ℕ)
    → is_known (buffer_at (first.first_buffers setup number specs) index).sequences q ≡ true
    → 1 ≤ largest_record (buffer_at (first.first_buffers setup number specs) index).sequences
largest_some setup number [] index q known = absurd (false≢true known)
largest_some setup number (spec ∷ specs) zero q known = from_some setup number 0 setup.writers q known
largest_some setup number (spec ∷ specs) (suc index) q known = largest_some setup (suc number) specs index q known

-- a buffer has at most as many bytes as a configuration can ask for
pub room_most : (setup : Setup) (number : ℕ) (buffers : List ConfigBuffer) → All IsBuffer buffers → (index : ℕ)
    → (buffer_at (first.first_buffers setup number (map spec_value (map buffer_asked buffers))) index).room ≤ MAX_BUFFER_KB * BYTES_PER_KB
room_most setup number [] each index = omega arith
room_most setup number (buffer ∷ buffers) each zero =
    let most = (each 0 buffer (omega arith)).1 in
    omega (arith, most)
room_most setup number (buffer ∷ buffers) each (suc index) =
    room_most setup (suc number) buffers (λ k d below. each (suc k) d (omega (arith, below))) index
