-- What a claim on the table that threads share asks, and what it leaves.
use Rattle.std.specs.Prelude.{◌≡◌, ℕ, ◌<◌, length}
use Rattle.chunk_plain.specs.declared.tokens.TheConstants.{MAX_HELD, POSITION_LIMIT}
use Rattle.chunk_plain.specs.declared.tokens.Held.{Held}
use Rattle.chunk_plain.specs.Drafts.{IsHolding}
use Rattle.chunk_plain.specs.Owned.{held_count}
use Rattle.chunk_plain.specs.Setup.{Setup, range_of, producer_of, id_at}
use Rattle.chunk_plain.specs.Views.{WriterView}
use Rattle.chunk_plain.specs.Words.{IsBegun}
use Rattle.chunk_words.specs.declared.host.HostTable.{HostTable}
use Rattle.chunk_words.specs.declared.seats.WriterSeat.{WriterSeat}
use Rattle.chunk_words.specs.Sits.{Sits, setup_in, known_by}
use Rattle.claim_arbiter.specs.declared.arbiter.Arbiter.{Arbiter}
use Rattle.claim_arbiter.specs.Claiming.{range_in, ClaimsInTurn}

-- The seat sits at the table, the arbiter's chunks are those of its producer, and it may begin one chunk more, which gets this id.
pub record MayClaimOn (table : HostTable) (arbiter : Arbiter) (seat : WriterSeat) (id : ℕ) : Type 0 where
  pub sits : Sits table seat
  pub range : range_of (setup_in table) (producer_of (setup_in table) seat.place) ≡ range_in arbiter
  pub few : held_count (known_by seat).begun < MAX_HELD
  pub id_is : id ≡ id_at (setup_in table) seat.place (length (known_by seat).begun)
  pub few_begun : length (known_by seat).begun < POSITION_LIMIT

-- The chunk was claimed in its turn, and is begun at the next position and held.
pub record ClaimsAs (setup : Setup) (arbiter : Arbiter) (old new : WriterView) (held : Held) : Type 0 where
  pub claims : ClaimsInTurn setup arbiter.first arbiter.chunks held.chunk old new
  pub begun : IsBegun setup held.chunk (length old.begun) held
  pub holding : IsHolding new held.chunk (length old.begun)
