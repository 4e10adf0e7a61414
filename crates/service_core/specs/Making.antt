-- What a service is made for.
use Rattle.std.specs.Prelude.{◌≡◌, ℕ, ◌-◌, ◌%◌, ◌<◌, ◌≤◌, false, List, [], length, slice_index_or}
use Rattle.trace_base.specs.declared.limits.TheConstants.{BYTES_PER_KB}
use Rattle.trace_base.specs.declared.policy.FullPolicy.TheVariants.{Ring}
use Rattle.page_geometry.specs.Sizes.{record_size}
use Rattle.ring_bytes.specs.declared.ring.TheConstants.{MAX_RING_SIZE}
use Rattle.chunk_plain.specs.Setup.{Setup, size_of, producer_of}
use Rattle.chunk_plain.specs.Views.{ServiceView, taken_of}
use Rattle.trace_buffer.specs.declared.answers.BufferSpec.{BufferSpec}
use Rattle.session_core.specs.Sessions.{new_session, moved, configured}
use Rattle.session_core.specs.declared.answers.SessionState.TheVariants.{Started}
use Rattle.service_core.specs.declared.service.ServiceCore.{ServiceCore}
use Rattle.service_core.specs.Agreement.{ServiceAgrees, buffer_of, is_closed}

-- the specification of a buffer by its place
abbrev pub buffer_spec_at : List BufferSpec → ℕ → BufferSpec
buffer_spec_at buffers index = slice_index_or buffers index (record { size = 0; policy = Ring })

-- a buffer can have this size
pub record IsBufferSize (size : ℕ) : Type 0 where
  pub least : BYTES_PER_KB ≤ size
  pub units : size % BYTES_PER_KB ≡ 0
  pub most : size ≤ MAX_RING_SIZE

-- each buffer has a size that it may have
abbrev pub HaveSizes : List BufferSpec → Type 0
HaveSizes buffers = (index : ℕ) → index < length buffers → IsBufferSize (buffer_spec_at buffers index).size

-- a record of each writer's chunks fits into its buffer
abbrev pub RecordsFit : Setup → List BufferSpec → Type 0
RecordsFit setup buffers =
    (place : ℕ) → place < length setup.writers
    → record_size (size_of setup (producer_of setup place)) ≤ (buffer_spec_at buffers (buffer_of setup place - 1)).size

-- a service with nothing taken or noted, of so many writers
pub record IsUnused (writers : ℕ) (view : ServiceView) : Type 0 where
  pub taken : length view.taken ≡ writers
  pub none_taken : (place : ℕ) → (taken_of view place).count ≡ 0
  pub none_read : view.reading ≡ []
  pub none_noted : view.events ≡ []

-- A new service: it has this seat and was made from these buffers, it agrees with each view in which nothing was taken or noted, no
-- sequence is closed, and its session is started.
pub record IsNewService {S : Type 0} (setup : Setup) (buffers : List BufferSpec) (seat : S) (core : ServiceCore S) : Type 0 where
  pub seat_is : core.seat ≡ seat
  pub specs : core.specs.items ≡ buffers
  pub agrees : (view : ServiceView) → IsUnused (length setup.writers) view → ServiceAgrees setup view core
  pub is_open : (place : ℕ) → place < length setup.writers → is_closed setup core place ≡ false
  pub session : core.session ≡ moved Started (configured (length setup.writers) new_session)
