-- Ownership, part by part, in the words of a page word, a header word, payload words and a view. It holds between any two steps.
use Rattle.std.specs.Prelude.{◌≡◌, ℕ, ◌+◌, ◌<◌, ◌≤◌, ◌⊎◌, Some, List, length, map}
use Rattle.std.specs.Int.{bit_at}
use Rattle.page_geometry.specs.declared.page_word.TheConstants.{CLAIM_BIT}
use Rattle.page_geometry.specs.declared.chunk_state.ChunkState.TheVariants.{Free, BeingWritten, BeingRead, Complete}
use Rattle.page_geometry.specs.PageBits.{HasState}
use Rattle.commit_body.specs.declared.body.CommitBody.{CommitBody}
use Rattle.chunk_plain.specs.Setup.{Setup, spot, from_of}
use Rattle.chunk_plain.specs.Payload.{byte_at}
use Rattle.chunk_plain.specs.Views.{At, Head, no_head, Draft, Content, chunk_of, Held, Completed, Look, Found, taken_of}
use Rattle.chunk_plain.specs.World.{World, writer}
use Rattle.chunk_plain.specs.Owned.{times, stamped_chunks, won_chunks, Won, AreInOrder}
use Rattle.chunk_plain.specs.Drafts.{MayFollow, IsDraft, HasFinished, BeginsAs, head_of}
use Rattle.chunk_plain.specs.Stored.{Stored, stored_at}
use Rattle.chunk_plain.specs.Shows.{IsSpare, ShowsLayout, IsHeader, HoldsPayload, IsBodyOf, page_word, header_word}
use Rattle.chunk_plain.specs.Words.{IsServing}

-- the writer's view has the chunk as claimed, its header stored or not
abbrev pub Claims : World → ℕ → ℕ → Type 0
Claims world place chunk =
    (0 < times chunk (writer world place).claimed) ⊎ ((position : ℕ)
    × ((writer world place).stamped ≡ Some (record { chunk = chunk; position = position })))

-- the writer's view has the chunk as held, at this position, and this stands in it
abbrev pub Holds : World → ℕ → ℕ → ℕ → Draft → Type 0
Holds world place chunk position draft = At (writer world place).begun position (Held chunk draft)

-- the writer completed the chunk at this position, with this content
abbrev pub Completes : World → ℕ → ℕ → ℕ → Content → Type 0
Completes world place chunk position content = At (writer world place).begun position (Completed chunk content)

-- the service's view has the chunk as being read
abbrev pub Reads : World → ℕ → Type 0
Reads world chunk = 0 < times chunk world.service.reading

-- no seat has the chunk
pub record IsNobodys (world : World) (chunk : ℕ) : Type 0 where
  pub claimed : (place : ℕ) → Claims world place chunk → ⊥
  pub held : (place position : ℕ) (draft : Draft) → Holds world place chunk position draft → ⊥
  pub read : Reads world chunk → ⊥

-- exactly one writer has the chunk as claimed; once it has stored the chunk's header, the header word is the one in its view
pub record IsClaimedByOne (setup : Setup) (world : World) (chunk header : ℕ) : Type 0 where
  pub place : ℕ
  pub claims : Claims world place chunk
  pub only : (other : ℕ) → Claims world other chunk → other ≡ place
  pub stored : (position : ℕ) → (writer world place).stamped ≡ Some (record { chunk = chunk; position = position })
      → IsHeader setup header place position no_head

-- exactly one writer holds the chunk, and header word and payload words are those in its view
pub record IsHeldByOne (setup : Setup) (world : World) (chunk header : ℕ) (slot : Stored) : Type 0 where
  pub place : ℕ
  pub position : ℕ
  pub draft : Draft
  pub holds : Holds world place chunk position draft
  pub only : (other i : ℕ) (d : Draft) → Holds world other chunk i d → (other ≡ place) × (i ≡ position)
  pub stored : IsHeader setup header place position draft.head
  pub words : slot.words ≡ draft.words

-- header word, payload words and body are the content of a position that the header's writer completed and the service hasn't taken
pub record IsWhole (setup : Setup) (world : World) (chunk header : ℕ) (slot : Stored) : Type 0 where
  pub place : ℕ
  pub position : ℕ
  pub content : Content
  pub body : CommitBody
  pub completes : Completes world place chunk position content
  pub untaken : (taken_of world.service place).count ≤ position
  pub stored : IsHeader setup header place position (head_of content)
  pub payload : HoldsPayload (spot setup chunk).payload_size slot.words content.image.payload
  pub kept : slot.body ≡ Some body
  pub body_is : IsBodyOf (from_of setup place) (spot setup chunk).payload_size content body

-- the service alone has the chunk, once; its header word and payload words are still those of its content
pub record IsReadOnce (setup : Setup) (world : World) (chunk header : ℕ) (slot : Stored) : Type 0 where
  pub once : times chunk world.service.reading ≡ 1
  pub unclaimed : (place : ℕ) → Claims world place chunk → ⊥
  pub unheld : (place position : ℕ) (draft : Draft) → Holds world place chunk position draft → ⊥
  pub place : ℕ
  pub position : ℕ
  pub content : Content
  pub completes : Completes world place chunk position content
  pub taken : position < (taken_of world.service place).count
  pub stored : IsHeader setup header place position (head_of content)
  pub payload : HoldsPayload (spot setup chunk).payload_size slot.words content.image.payload

-- A chunk that was found being written, of a position that isn't taken, is being written or complete with the same writer and position.
-- Its count is at least the one that was found, its flag 1 is as it was, and the bytes of the fragments that were finished stand there now.
pub record IsAsFound (setup : Setup) (world : World) (chunk word header : ℕ) (slot : Stored) (found : Found) : Type 0 where
  pub inside : chunk < length setup.spots
  pub state : HasState word (spot setup chunk).place BeingWritten ⊎ HasState word (spot setup chunk).place Complete
  pub head : Head
  pub stored : IsHeader setup header found.place found.position head
  pub follows : MayFollow found.head head
  pub bytes : BeginsAs (byte_at slot.words) found

-- The eight parts. That the begun positions of a writer are 0 and up, each held or completed once, is so by the type of its view.
pub record Ownership (setup : Setup) (words : List ℕ) (slots : List Stored) (world : World) : Type 0 where
  pub unclaimed : (chunk : ℕ) → chunk < length setup.spots → bit_at (page_word setup words chunk) (CLAIM_BIT + (spot setup chunk).place) ≡ 0
      → HasState (page_word setup words chunk) (spot setup chunk).place Free × IsNobodys world chunk
  pub claimed : (chunk : ℕ) → chunk < length setup.spots → bit_at (page_word setup words chunk) (CLAIM_BIT + (spot setup chunk).place) ≡ 1
      → HasState (page_word setup words chunk) (spot setup chunk).place Free
      → IsClaimedByOne setup world chunk (header_word setup words chunk)
  pub written : (chunk : ℕ) → chunk < length setup.spots → HasState (page_word setup words chunk) (spot setup chunk).place BeingWritten
      → IsHeldByOne setup world chunk (header_word setup words chunk) (stored_at slots chunk)
  -- of each begun position, held or completed, the bytes in its writer's view read as its finished fragments
  pub drafts : (place chunk position : ℕ) (draft : Draft) → Holds world place chunk position draft → IsDraft draft
  pub wholes : (place chunk position : ℕ) (content : Content) → Completes world place chunk position content → HasFinished content
  pub looked : (n : ℕ) (look : Look) (found : Found) → At world.service.looks n look → look.found ≡ Some found
      → (taken_of world.service found.place).count ≤ found.position
      → IsAsFound setup world look.chunk (page_word setup words look.chunk) (header_word setup words look.chunk) (stored_at slots look.chunk) found
  pub complete : (chunk : ℕ) → chunk < length setup.spots → HasState (page_word setup words chunk) (spot setup chunk).place Complete
      → IsWhole setup world chunk (header_word setup words chunk) (stored_at slots chunk)
  pub read : (chunk : ℕ) → chunk < length setup.spots → HasState (page_word setup words chunk) (spot setup chunk).place BeingRead
      → IsReadOnce setup world chunk (header_word setup words chunk) (stored_at slots chunk)
  pub layout : (chunk : ℕ) → chunk < length setup.spots → ShowsLayout setup world (spot setup chunk) (page_word setup words chunk)
  pub spare : (chunk : ℕ) → chunk < length setup.spots → (bit : ℕ) → IsSpare (spot setup chunk).chunks bit
      → bit_at (page_word setup words chunk) bit ≡ 0
  pub taken : (place position : ℕ) → position < (taken_of world.service place).count
      → (chunk : ℕ) × (content : Content) × Completes world place chunk position content
  -- the contents in the service's view are those of taken positions, and between two calls it has each of these
  pub learnt : (place position : ℕ) (content : Content) → At (taken_of world.service place).contents position content
      → (position < (taken_of world.service place).count) × ((chunk : ℕ) × Completes world place chunk position content)
  pub known : IsServing setup world.service → (place position : ℕ) → position < (taken_of world.service place).count
      → (content : Content) × At (taken_of world.service place).contents position content
  pub untaken : (place chunk position : ℕ) (content : Content) → Completes world place chunk position content
      → (taken_of world.service place).count ≤ position
      → HasState (page_word setup words chunk) (spot setup chunk).place Complete
  pub won : (chunk : ℕ) → chunk < length setup.spots → bit_at (page_word setup words chunk) (CLAIM_BIT + (spot setup chunk).place) ≡ 1
      → Won world chunk
  -- the claims of all writers stand in one order, and each in vain is behind one that won the same chunk
  pub ordered : AreInOrder world.writers
  -- of each chunk a writer won as many claims as it has it claimed, its header stored or not, and has begun it
  pub wins : (place chunk : ℕ) → times chunk (won_chunks (writer world place).asked)
      ≡ times chunk (writer world place).claimed + times chunk (stamped_chunks (writer world place).stamped) + times chunk (map chunk_of (writer world place).begun)
