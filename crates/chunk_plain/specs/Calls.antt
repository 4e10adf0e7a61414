-- What a call on a table asks of its seat's view, and what it answers, where that is more than one thing.
use Rattle.std.specs.Prelude.{◌≡◌, ℕ, ◌+◌, ◌-◌, ◌*◌, ◌<◌, ◌≤◌, List, [], length, vec_len}
use Rattle.trace_base.specs.declared.limits.TheConstants.{MAX_FRAGMENTS}
use Rattle.page_geometry.specs.declared.chunk_header.TheConstants.{MAX_FLAGS}
use Rattle.chunk_plain.specs.declared.tokens.TheConstants.{POSITION_LIMIT}
use Rattle.chunk_plain.specs.declared.tokens.Held.{Held as HeldToken}
use Rattle.chunk_plain.specs.Setup.{Setup, spot, id_at}
use Rattle.chunk_plain.specs.Payload.{sealed_to, HasFragments}
use Rattle.chunk_plain.specs.Views.{Head, WriterView, ServiceView, taken_of}
use Rattle.chunk_plain.specs.Owned.{times}
use Rattle.chunk_plain.specs.Drafts.{MayFollow, head_at, published, ends_by, IsHolding}
use Rattle.chunk_plain.specs.Words.{HasClaimed, KeepsSealed, ShowsFound, IsTakenPayload}

-- a writer may begin the chunk with this id: it has claimed the chunk, and the id is that of its next position
pub record MayBegin (setup : Setup) (place : ℕ) (view : WriterView) (chunk id : ℕ) : Type 0 where
  pub claimed : HasClaimed view chunk
  pub id_is : id ≡ id_at setup place (length view.begun)
  pub few_begun : length view.begun < POSITION_LIMIT

-- The chunk that a writer holds at this position may get this head: it may follow the one that stands there, and what was published of the
-- payload reads as the fragments that are finished then.
pub record MayGetHead (setup : Setup) (view : WriterView) (chunk position : ℕ) (head : Head) : Type 0 where
  pub held : IsHolding view chunk position
  pub count_fits : head.count ≤ MAX_FRAGMENTS
  pub flags_fit : head.flags ≤ MAX_FLAGS
  pub follows : MayFollow (head_at view position) head
  pub reads : HasFragments (published view position) (ends_by view position head.count)
  pub inside : sealed_to (ends_by view position head.count) ≤ (spot setup chunk).payload_size

-- This range of a held payload may be published: it lies in the chunk, and the copy has the finished fragments as they were published.
pub record MayPublishRange (setup : Setup) (view : WriterView) (token : HeldToken) (from to : ℕ) : Type 0 where
  pub held : IsHolding view token.chunk token.position
  pub size : vec_len token.body.payload ≡ (spot setup token.chunk).payload_size
  pub order : from ≤ to
  pub inside : to ≤ (spot setup token.chunk).payload_size
  pub kept : KeepsSealed view token.position token.body.payload.items

-- Payload words of a held chunk, from one place on up to another one, may be stored from this copy, which has the finished fragments as
-- they were published.
pub record MayStoreWords (setup : Setup) (view : WriterView) (chunk position first end : ℕ) (copy : List ℕ) : Type 0 where
  pub held : IsHolding view chunk position
  pub size : length copy ≡ (spot setup chunk).payload_size
  pub order : first ≤ end
  pub inside : 8 * end < length copy + 8
  pub kept : KeepsSealed view position copy

-- the service asks for the next chunk of the writer with this number, by its id, while it reads none
pub record AsksForNext (setup : Setup) (view : ServiceView) (chunk writer id : ℕ) : Type 0 where
  pub inside : chunk < length setup.spots
  pub least : 1 ≤ writer
  pub most : writer ≤ length setup.writers
  pub id_is : id ≡ id_at setup (writer - 1) (taken_of view (writer - 1)).count
  pub none_read : view.reading ≡ []

-- The payload of the chunk was loaded over as many bytes: it begins with what looks found there, and where the service reads the chunk it
-- is that of a content in the view.
pub record LoadsPayload (view : ServiceView) (chunk : ℕ) (old new : List ℕ) : Type 0 where
  pub size : length new ≡ length old
  pub found : ShowsFound view chunk new
  pub read : 0 < times chunk view.reading → ∥ IsTakenPayload view new ∥₁
