-- Chunks that are held.
use Rattle.std.specs.Prelude.{◌≡◌, ℕ, ◌+◌, [], length, vec_len}
use Rattle.chunk_plain.specs.declared.tokens.Held.{Held as HeldToken}
use Rattle.chunk_plain.specs.Setup.{from_of, producer_of, spot, IsChunkOf}
use Rattle.chunk_plain.specs.Drafts.{draft_at, IsHolding}
use Rattle.chunk_words.specs.declared.host.HostTable.{HostTable}
use Rattle.chunk_words.specs.declared.seats.WriterSeat.{WriterSeat}
use Rattle.chunk_words.specs.Sits.{Sits, setup_in, known_by}

-- the chunk is one of those that the writer may claim, and the writer's first id is 0
pub record MayFill (table : HostTable) (seat : WriterSeat) (chunk : ℕ) : Type 0 where
  pub sits : Sits table seat
  pub chunk_is : IsChunkOf (setup_in table) (producer_of (setup_in table) seat.place) chunk
  pub from_is : from_of (setup_in table) seat.place ≡ 0

-- the writer holds the chunk, which has 284 bytes, and none of its fragments is finished
pub record HoldsFresh (table : HostTable) (seat : WriterSeat) (held : HeldToken) : Type 0 where
  pub sits : Sits table seat
  pub holds : IsHolding (known_by seat) held.chunk held.position
  pub none_sealed : (draft_at (known_by seat) held.position).ends ≡ []
  pub room : (spot (setup_in table) held.chunk).payload_size ≡ 284
  pub whole : vec_len held.body.payload ≡ 284

-- So it holds this chunk, which it began at this position.
pub record HasBegun (table : HostTable) (seat : WriterSeat) (chunk position : ℕ) (held : HeldToken) : Type 0 where
  pub holds : HoldsFresh table seat held
  pub chunk_is : held.chunk ≡ chunk
  pub more : length (known_by seat).begun ≡ position + 1
