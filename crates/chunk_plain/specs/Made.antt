-- A table as it is made.
use Rattle.std.specs.Prelude.{◌≡◌, ℕ, ◌+◌, ◌<◌, ◌/◌, List, length, replicate, Some, slice_index_or}
use Rattle.commit_body.specs.declared.body.CommitBody.{CommitBody}
use Rattle.trace_base.specs.declared.policy.WriterSpec.{WriterSpec}
use Rattle.chunk_plain.specs.declared.setup.ProducerSpec.{ProducerSpec}
use Rattle.chunk_plain.specs.declared.setup.Spot.{Spot}
use Rattle.chunk_plain.specs.declared.plain_seats.PlainWriter.{PlainWriter}
use Rattle.chunk_plain.specs.Setup.{no_spot}
use Rattle.chunk_plain.specs.Laying.{setup_of}
use Rattle.chunk_plain.specs.Meaning.{Meaning}
use Rattle.chunk_plain.specs.Plain.{first_world}
use Rattle.chunk_plain.specs.Stored.{Stored, stored_at}
use Rattle.chunk_plain.specs.Shows.{IsFreeBody}

-- the words of a slot are 0, as many as hold the payload, and its body is there
pub record IsFreeSlot (size : ℕ) (slot : Stored) : Type 0 where
  pub words : slot.words ≡ replicate ((size + 7) / 8) 0
  pub body : CommitBody
  pub body_is : slot.body ≡ Some body
  pub free : IsFreeBody size body

-- there is such a slot for each of the first so many chunks
pub record HasFreeSlots (spots : List Spot) (count : ℕ) (slots : List Stored) : Type 0 where
  pub count_is : length slots ≡ count
  pub each : (chunk : ℕ) → chunk < count → IsFreeSlot (slice_index_or spots chunk no_spot).payload_size (stored_at slots chunk)

-- every word of the table is 0: page words, header words and payload words
pub record AllZero (words : List ℕ) (slots : List Stored) : Type 0 where
  pub words_are : (index : ℕ) → slice_index_or words index 0 ≡ 0
  pub payloads_are : (chunk index : ℕ) → slice_index_or (stored_at slots chunk).words index 0 ≡ 0

-- the seats of so many writers, in their order: each has its place
pub record HasSeats (count : ℕ) (seats : List PlainWriter) : Type 0 where
  pub count_is : length seats ≡ count
  pub place_is : (k : ℕ) → k < count → (slice_index_or seats k (record { place = 0 })).place ≡ k

-- A table of one thread as it is made for these producers and writers, with the seats of the writers and the service's: it tells the world
-- in which nobody has done anything, and all words are 0.
pub record IsNewPlain {T S : Type 0} (means : Meaning T PlainWriter S) (producers : List ProducerSpec) (writers : List WriterSpec)
    (table : T) (words : List ℕ) (slots : List Stored) (given : List PlainWriter) (server : S) : Type 0 where
  pub setup : means.setup table ≡ setup_of producers writers
  pub told : means.told table ≡ Some (first_world (setup_of producers writers))
  pub zero : AllZero words slots
  pub seats : HasSeats (length writers) given
  pub sits : (seat : PlainWriter) → means.place seat < length writers → means.sits table seat
  pub serves : means.serves table server
