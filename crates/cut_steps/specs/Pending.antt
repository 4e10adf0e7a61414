-- The patches of a writer: which its completed pages brought, which are kept for the next one, and which holes are open.
use Rattle.std.specs.Prelude.{◌≡◌, ℕ, ◌+◌, ◌<◌, ◌==◌, IsTrue, List, [], ◌∷◌, ◌++◌, length, map, filter, ⊤}
use Rattle.std.specs.List.{list_all}
use Rattle.trace_model.specs.Images.{Patch}
use Rattle.trace_model.specs.Packets.{NestedLength}
use Rattle.trace_model.specs.Pages.{Page, patches_of}
use Rattle.trace_model.specs.Row.{Piece}
use Rattle.trace_model.specs.Sent.{SentPatch, PatchesAre, AwaitsAre, AllChunksBelow, Behind, as_sent, chunks_of, crosses, sent_for, chunk_at, offset_at, is_placed}
use Rattle.commit_body.specs.declared.hole.Hole.{Hole}
use Rattle.commit_body.specs.Patches.{hole_chunks, with_lasts}

-- the hole of the length at a place of these pieces
abbrev pub hole_at : List Piece → ℕ → Hole
hole_at pieces at = record { chunk_id = chunk_at pieces at; offset = offset_at pieces at }

-- all patches so far, as they would be if the held chunk were completed now; holes stand the inner ones first
abbrev pub patches_so_far : List Page → List Hole → List Patch → List Patch
patches_so_far pages holes unsent = patches_of pages ++ with_lasts (hole_chunks holes) unsent

-- each patch has four bytes
abbrev pub AllHaveFour : List Patch → Type 0
AllHaveFour [] = ⊤
AllHaveFour (patch ∷ patches) = (length patch.bytes ≡ 4) × AllHaveFour patches

-- what was sent was brought by chunks below this one, for chunks below that one
abbrev pub AllSentBy : ℕ → List SentPatch → Type 0
AllSentBy bound [] = ⊤
AllSentBy bound (one ∷ others) = (one.by < bound) × AllSentBy bound others

-- each patch is for an earlier chunk than this one
abbrev pub AllSentFor : ℕ → List SentPatch → Type 0
AllSentFor bound [] = ⊤
AllSentFor bound (one ∷ others) = (one.chunk_id < bound) × AllSentFor bound others

-- the patches of the closed lengths whose messages cross chunks
abbrev pub sent_now : List Piece → List NestedLength → List SentPatch
sent_now pieces closed = map (sent_for pieces) (filter (crosses pieces) closed)

-- the chunks that the patches are for
abbrev pub sent_chunks : List SentPatch → List ℕ
sent_chunks sent = map (λ (one : SentPatch). one.chunk_id) sent

-- each closed length's message ends inside so many bytes
abbrev pub AllEndWithin : ℕ → List NestedLength → Type 0
AllEndWithin count [] = ⊤
AllEndWithin count (nested ∷ others) = (nested.at + 3 + nested.size < count) × AllEndWithin count others

-- The pages brought the patches of these that came by them; those that come by the held chunk are not sent yet; and these
-- chunks have open lengths.
pub record HasSent (pages : List Page) (sent : List SentPatch) (unsent : List Patch) (open_ones : List ℕ) : Type 0 where
  pub patches : PatchesAre sent 0 pages
  pub unsent_are : map (as_sent (length pages)) unsent ≡ filter (λ one. one.by == length pages) sent
  pub by : AllSentBy (length pages + 1) sent
  pub for : AllSentFor (length pages) sent
  pub sent_below : AllChunksBelow (length pages) (patches_of pages)
  pub unsent_below : AllChunksBelow (length pages) unsent
  pub lasts : with_lasts (chunks_of unsent ++ open_ones) (patches_of pages) ≡ patches_of pages
  pub awaits : AwaitsAre (sent_chunks sent ++ open_ones) 0 pages
  pub sent_placed : IsTrue (list_all (is_placed pages) (patches_of pages))
  pub unsent_placed : IsTrue (list_all (is_placed pages) unsent)
  pub behind : Behind 0 pages
