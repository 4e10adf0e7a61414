-- What a chunk that is written has finished, and how that stays: while it is written, once it is complete, and where the service has found
-- it.
use Rattle.std.specs.Prelude.{◌≡◌, ◌≢◌, ℕ, ◌-◌, ◌%◌, ◌<◌, ◌≤◌, List, length, slice_index_or}
use Rattle.chunk_plain.specs.Payload.{byte_at, byte_in, sealed_to, HasFragments, ends_from}
use Rattle.chunk_plain.specs.Views.{At, Head, Draft, no_draft, Content, BegunChunk, Held, Completed, WriterView, Found}

-- A header may be stored over another where the count doesn't fall, and, once it isn't 0, flag 1 stays.
pub record MayFollow (old new : Head) : Type 0 where
  pub count_grows : old.count ≤ new.count
  pub front_stays : old.count ≢ 0 → new.flags % 2 ≡ old.flags % 2

-- the fragments before the last one that the header counts are finished: the bytes read as these, with these ends
pub record IsSealed (head : Head) (byte : ℕ → ℕ) (ends : List ℕ) : Type 0 where
  pub count : length ends ≡ head.count - 1
  pub reads : HasFragments byte ends

-- the ends in a draft are those of the fragments that its words read as
abbrev pub IsDraft : Draft → Type 0
IsDraft draft = IsSealed draft.head (byte_at draft.words) draft.ends

-- the head of a content's image
abbrev pub head_of : Content → Head
head_of content = record { count = content.image.count; flags = content.image.flags }

-- a completed chunk has its finished fragments
pub record HasFinished (content : Content) : Type 0 where
  pub ends : List ℕ
  pub sealed : IsSealed (head_of content) (byte_in content.image.payload) ends
  pub inside : sealed_to ends ≤ length content.image.payload

-- the bytes that were found are those of the finished fragments
pub record IsFound (found : Found) : Type 0 where
  pub sealed : IsSealed found.head (byte_in found.sealed) found.ends
  pub whole : length found.sealed ≡ sealed_to found.ends

-- these bytes begin with those that were found
abbrev pub BeginsAs : (ℕ → ℕ) → Found → Type 0
BeginsAs byte found = (j : ℕ) → j < length found.sealed → byte j ≡ byte_in found.sealed j

-- What was found of a chunk that was begun is there still: the header may follow the one that was found, so its count is at least that one
-- and flag 1 is as it was, and the finished fragments have the same bytes.
abbrev pub StillHas : ℕ → Found → BegunChunk → Type 0
StillHas about found (Held chunk draft) =
    (chunk ≡ about) × MayFollow found.head draft.head × (length found.sealed ≤ sealed_to draft.ends) × BeginsAs (byte_at draft.words) found
StillHas about found (Completed chunk content) =
    (chunk ≡ about) × MayFollow found.head (head_of content) × (length found.sealed ≤ length content.image.payload)
    × BeginsAs (byte_in content.image.payload) found

-- the writer has begun the chunk at the position that was found, and has it still as it was found
pub record IsThere (view : WriterView) (chunk : ℕ) (found : Found) : Type 0 where
  pub entry : BegunChunk
  pub at : At view.begun found.position entry
  pub has : StillHas chunk found entry

-- What a writer holds

abbrev pub draft_in : BegunChunk → Draft
draft_in (Held chunk draft) = draft
draft_in (Completed chunk content) = no_draft

-- what stands in the chunk that the writer holds at this position
abbrev pub draft_at : WriterView → ℕ → Draft
draft_at view position = draft_in (slice_index_or view.begun position (Held 0 no_draft))

-- its header
abbrev pub head_at : WriterView → ℕ → Head
head_at view position = (draft_at view position).head

-- its payload, byte by byte
abbrev pub published : WriterView → ℕ → ℕ → ℕ
published view position = byte_at (draft_at view position).words

-- the ends of its first fragments, which are finished where so many are counted
abbrev pub ends_by : WriterView → ℕ → ℕ → List ℕ
ends_by view position count = ends_from (published view position) 0 (count - 1)

-- the writer holds the chunk at this position
abbrev pub IsHolding : WriterView → ℕ → ℕ → Type 0
IsHolding view chunk position = At view.begun position (Held chunk (draft_at view position))
