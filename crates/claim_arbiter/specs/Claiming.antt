-- What becomes of a view and a world where a writer asks for the chunks of a range, in rising order and once each, until a claim wins.
use Rattle.std.specs.Prelude.{◌≡◌, ℕ, ◌+◌, ◌*◌, ◌<◌, ◌≤◌, true, false, List, [], ◌∷◌, ◌++◌, length, slice_index}
use Rattle.std.specs.Int.{bit_at}
use Rattle.page_geometry.specs.declared.page_word.TheConstants.{CLAIM_BIT}
use Rattle.chunk_plain.specs.declared.setup.ChunkRange.{ChunkRange}
use Rattle.chunk_plain.specs.Setup.{Setup, spot}
use Rattle.chunk_plain.specs.Views.{Ask, Held, fresh, WriterView}
use Rattle.chunk_plain.specs.World.{World, Unclaimed, status}
use Rattle.claim_arbiter.specs.declared.arbiter.Arbiter.{Arbiter}

-- the chunks of an arbiter, as a set-up has those of a producer
abbrev pub range_in : Arbiter → ChunkRange
range_in arbiter = record { first = arbiter.first; count = arbiter.chunks }

-- the claims that were lost, of the chunks from this one on, where these page words were found and so many calls were noted
abbrev pub lost_asks : ℕ → ℕ → List ℕ → List Ask
lost_asks calls first [] = []
lost_asks calls first (found ∷ words) = record { chunk = first; found = found; won = false; calls = calls } ∷ lost_asks calls (first + 1) words

-- each of these page words has the claim bit of its chunk set; the chunks are those from this one on
abbrev pub AllClaimed : Setup → ℕ → List ℕ → Type 0
AllClaimed setup first words = (k : ℕ) → k < length words → bit_at (slice_index words k) (CLAIM_BIT + (spot setup (first + k)).place) ≡ 1

-- The chunks from this one on, so many, were asked for in vain: once each, in rising order. Nothing else of the view changed.
pub record AsksInVain (setup : Setup) (first count : ℕ) (old new : WriterView) : Type 0 where
  -- the page words that were found
  pub words : List ℕ
  pub count_is : length words ≡ count
  pub claimed : AllClaimed setup first words
  pub view : new ≡ record old { asked = old.asked ++ lost_asks (length old.calls) first words }

-- Of the chunks from `first` on, so many, those before this chunk were asked for in vain; then the claim of this one won, and it was begun.
pub record ClaimsInTurn (setup : Setup) (first count chunk : ℕ) (old new : WriterView) : Type 0 where
  pub least : first ≤ chunk
  pub below : chunk < first + count
  pub words : List ℕ
  pub count_is : first + length words ≡ chunk
  pub claimed : AllClaimed setup first words
  -- the page word that the won claim found
  pub found : ℕ
  pub free : bit_at found (CLAIM_BIT + (spot setup chunk).place) ≡ 0
  -- the payload words that stand in it, which have room for its payload
  pub payload : List ℕ
  pub room : (spot setup chunk).payload_size ≤ 8 * length payload
  -- what it has claimed without beginning it, and its header that waits, are as before
  pub view : new ≡ record old {
    asked = old.asked ++ lost_asks (length old.calls) first words ++ record { chunk = chunk; found = found; won = true; calls = length old.calls } ∷ [];
    begun = old.begun ++ Held chunk (fresh payload) ∷ [];
  }

-- no chunk from the first of these up to the last is unclaimed
abbrev pub NoneFree : World → ℕ → ℕ → Type 0
NoneFree world first last = (chunk : ℕ) → first ≤ chunk → chunk < last → status world chunk ≡ Unclaimed → ⊥
