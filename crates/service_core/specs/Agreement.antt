-- The service agrees with the view of its seat: its buffers are what the history in the view leads to.
use Rattle.std.specs.Prelude.{◌≡◌, ℕ, ◌-◌, ◌<◌, ◌≤◌, Bool, false, List, [], ◌∷◌, length, map, sum_by, Some, slice_get, slice_index_or}
use Rattle.trace_base.specs.declared.limits.TheConstants.{FIRST_SEQUENCE, MAX_WRITERS}
use Rattle.trace_base.specs.declared.policy.WriterSpec.{WriterSpec}
use Rattle.trace_model.specs.Buffers.{Buffer}
use Rattle.trace_model.specs.History.{buffers_after}
use Rattle.chunk_plain.specs.declared.tokens.TheConstants.{POSITION_LIMIT}
use Rattle.chunk_plain.specs.Setup.{Setup, HasProducer, producer_of, sequence_of, no_writer}
use Rattle.chunk_plain.specs.Steps.{taken_counts}
use Rattle.chunk_plain.specs.Views.{Content, Found, Noted, Arrive, Partial, Patched, Closed, Read, Commit, Committed, ServiceView, taken_of}
use Rattle.chunk_plain.specs.Histories.{history_of, content_at, found_among}
use Rattle.chunk_plain.specs.Words.{AllArrived}
use Rattle.trace_buffer.specs.declared.answers.BufferSpec.{BufferSpec}
use Rattle.session_core.specs.Sessions.{HasAnswered, answer_at}
use Rattle.world_model.specs.Accounts.{NoneCommitted}
use Rattle.world_model.specs.FirstBuffers as first
use Rattle.service_core.specs.Routing.{is_closed_at}
use Rattle.service_core.specs.Order.{LeadTo, beginning}
use Rattle.service_core.specs.declared.service.ServiceCore.{ServiceCore}

-- a buffer's specification as one of the model
abbrev pub spec_value : BufferSpec → first.BufferSpec
spec_value spec = record { size = spec.size; policy = spec.policy }

-- the buffers as they were made
abbrev pub first_of : {S : Type 0} → Setup → ServiceCore S → List Buffer
first_of setup core = first.first_buffers setup 1 (map spec_value core.specs.items)

-- the writer at this place
abbrev pub spec_at : List WriterSpec → ℕ → WriterSpec
spec_at writers place = slice_index_or writers place no_writer

-- its buffer, counted from 1
abbrev pub buffer_of : Setup → ℕ → ℕ
buffer_of setup place = (spec_at setup.writers place).buffer

-- each writer names a producer, and a buffer of so many
pub record IsRouted (setup : Setup) (count : ℕ) : Type 0 where
  pub few : length setup.writers ≤ MAX_WRITERS
  pub producers : (place : ℕ) → place < length setup.writers → HasProducer setup (producer_of setup place)
  pub least : (place : ℕ) → place < length setup.writers → 1 ≤ buffer_of setup place
  pub most : (place : ℕ) → place < length setup.writers → buffer_of setup place ≤ count

-- the view has what the note speaks of
abbrev pub IsKnownNote : ServiceView → Noted → Type 0
IsKnownNote view (Arrive sequence position) = (content : Content) × (content_at view sequence position ≡ Some content)
IsKnownNote view (Partial sequence position count) = (found : Found)
    × (found_among (sequence - FIRST_SEQUENCE) position count view.looks ≡ Some found)
IsKnownNote view (Patched sequence position) = (content : Content) × (content_at view sequence position ≡ Some content)
IsKnownNote view (Closed sequence) = Unit {0}
IsKnownNote view (Read sequence limit) = Unit {0}
IsKnownNote view (Commit place) = (committed : Committed) × (slice_get view.commits place ≡ Some committed)

-- what was noted is known
abbrev pub AreKnownNotes : ServiceView → List Noted → Type 0
AreKnownNotes view [] = Unit {0}
AreKnownNotes view (note ∷ notes) = IsKnownNote view note × AreKnownNotes view notes

-- the sequence of the writer at this place is closed
abbrev pub is_closed : {S : Type 0} → Setup → ServiceCore S → ℕ → Bool
is_closed setup core place = is_closed_at core.buffers.items (buffer_of setup place - 1) (sequence_of place)

-- Between two calls: the service has the table's set-up, has taken what its view says, the arrival of all of it is noted, and its buffers are
-- the fold of the history.
pub record ServiceAgrees {S : Type 0} (setup : Setup) (view : ServiceView) (core : ServiceCore S) : Type 0 where
  pub layout : core.layout ≡ setup
  pub writers : core.writers.items ≡ setup.writers
  pub routed : IsRouted setup (length core.specs.items)
  pub many : length view.taken ≡ length setup.writers
  pub taken : core.taken.items ≡ taken_counts view
  pub buffers : core.buffers.items ≡ buffers_after (first_of setup core) (history_of view)
  pub session : core.session.writers ≡ length setup.writers
  pub none_read : view.reading ≡ []
  pub arrived : AllArrived view
  pub known : AreKnownNotes view view.events
  -- the notes on each sequence are in order, where nothing of it came by a commit
  pub order : (place : ℕ) → place < length setup.writers → NoneCommitted view (sequence_of place)
      → LeadTo view (sequence_of place) beginning view.events (record { come = (taken_of view place).count; closed = is_closed setup core place; due = [] })

-- no sequence of the producer's writers is closed
abbrev pub IsOpen : {S : Type 0} → Setup → ServiceCore S → (producer : ℕ) → Type 0
IsOpen setup core producer =
    (place : ℕ) → place < length setup.writers → producer_of setup place ≡ producer → is_closed setup core place ≡ false

-- what no call but `make` changes, and what the calls on a table leave of the session
pub record KeepsFields {S : Type 0} (old new : ServiceCore S) : Type 0 where
  pub layout : new.layout ≡ old.layout
  pub specs : new.specs.items ≡ old.specs.items
  pub writers : new.writers.items ≡ old.writers.items
  pub session : new.session ≡ old.session

-- what the calls on chunks leave: the session, and which sequences are closed
pub record KeepsRest {S : Type 0} (setup : Setup) (old new : ServiceCore S) : Type 0 where
  pub fields : KeepsFields old new
  pub closed : (place : ℕ) → place < length setup.writers → is_closed setup new place ≡ is_closed setup old place

-- a service that agrees with some view
pub record IsAgreeing {S : Type 0} (core : ServiceCore S) : Type 0 where
  pub setup : Setup
  pub view : ServiceView
  pub agrees : ServiceAgrees setup view core

-- what the session's own calls leave: all else
pub record KeepsTaking {S : Type 0} (old new : ServiceCore S) : Type 0 where
  pub seat : new.seat ≡ old.seat
  pub layout : new.layout ≡ old.layout
  pub specs : new.specs.items ≡ old.specs.items
  pub buffers : new.buffers.items ≡ old.buffers.items
  pub writers : new.writers.items ≡ old.writers.items
  pub taken : new.taken.items ≡ old.taken.items
  pub session : new.session.writers ≡ old.session.writers

-- the sequence of the writer at this place is closed, by what the service keeps
abbrev pub is_closed_in : {S : Type 0} → ServiceCore S → ℕ → Bool
is_closed_in core place = is_closed_at core.buffers.items ((spec_at core.writers.items place).buffer - 1) (sequence_of place)

-- A request is answered: by each writer whose sequence isn't closed, of which so many chunks were taken.
abbrev pub IsAnsweredBy : {S : Type 0} → ServiceCore S → ℕ → Type 0
IsAnsweredBy core flush =
    (place : ℕ) → place < core.session.writers → is_closed_in core place ≡ false
    → HasAnswered (answer_at core.session place) flush (slice_index_or core.taken.items place 0)

-- how many chunks the service can still take: of each writer, the positions that are left
abbrev pub ids_left : {S : Type 0} → ServiceCore S → ℕ
ids_left core = sum_by (λ taken. POSITION_LIMIT - taken) core.taken.items
