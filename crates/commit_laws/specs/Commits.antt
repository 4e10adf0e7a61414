-- What comes of one sequence by commits: each brings an image of a chunk and the patches of its commit body (the shared memory ABI), and the images
-- may come in whatever order.
use Rattle.std.specs.Prelude.{◌≡◌, ℕ, suc, ◌≤◌, ◌==◌, Bool, true, false, ◌||◌, List, [], ◌∷◌, if◌then◌else◌, ⊤}
use Rattle.std.specs.List.{flat_map, list_all}
use Rattle.trace_base.specs.declared.limits.TheConstants.{MAX_FRAGMENTS}
use Rattle.trace_model.specs.Arrivals.{Arrived, Duplicate, TooFar, BadChunk, image_arrival_of}
use Rattle.trace_model.specs.Buffers.{Buffer}
use Rattle.trace_model.specs.History.{Event, Arrives, ArrivesInPart, Patched, Committed, Closed, Read, buffer_after}
use Rattle.trace_model.specs.Images.{Image, Patch}
use Rattle.trace_model.specs.Pages.{Page, image_of}
use Rattle.trace_model.specs.Sent.{chunks_of}
use Rattle.trace_model.specs.Sequences.{is_among}

-- what one commit brings: an image, and the patches of its body
pub record Commit : Type 0 where
  pub image : Image
  pub patches : List Patch

-- the commits of the sequence among these events, in their order
abbrev pub commits_in : ℕ → List Event → List Commit
commits_in sequence [] = []
commits_in sequence (Committed image patches ∷ events) =
    if image.sequence == sequence
    then record { image = image; patches = patches } ∷ commits_in sequence events
    else commits_in sequence events
commits_in sequence (event ∷ events) = commits_in sequence events

-- the commits that bring these pages of a writer, each with the patches of its body; the first one has this position
abbrev pub page_commits : (sequence chunk_id : ℕ) → List Page → List Commit
page_commits sequence chunk_id [] = []
page_commits sequence chunk_id (page ∷ pages) =
    record { image = image_of sequence chunk_id page; patches = page.patches } ∷ page_commits sequence (suc chunk_id) pages

-- the patches that commits bring, one behind another
abbrev pub patches_brought : List Commit → List Patch
patches_brought commits = flat_map (λ (commit : Commit). commit.patches) commits

-- Nothing of the sequence comes but by commits, and none comes once it is closed. What other sequences do is free.
abbrev pub ComesByCommits : ℕ → Bool → List Event → Type 0
ComesByCommits sequence closed [] = ⊤
ComesByCommits sequence closed (Arrives other chunk_id chunk ∷ events) =
    ((other == sequence) ≡ false) × ComesByCommits sequence closed events
ComesByCommits sequence closed (ArrivesInPart other chunk_id chunk ∷ events) =
    ((other == sequence) ≡ false) × ComesByCommits sequence closed events
ComesByCommits sequence closed (Patched other patches ∷ events) =
    ((other == sequence) ≡ false) × ComesByCommits sequence closed events
ComesByCommits sequence closed (Committed image patches ∷ events) =
    ((image.sequence == sequence) ≡ true → closed ≡ false) × ComesByCommits sequence closed events
ComesByCommits sequence closed (Closed other ∷ events) = ComesByCommits sequence (closed || (other == sequence)) events
ComesByCommits sequence closed (Read other limit ∷ events) = ComesByCommits sequence closed events

-- the outcomes that refuse an image: its position had come, or is too far ahead of those that came, or its payload can't be read
abbrev pub refuses : Arrived → Bool
refuses Duplicate = true
refuses TooFar = true
refuses (BadChunk fragment) = true
refuses other = false

-- the buffer refuses none of the sequence's commits
abbrev pub NoneIsRefused : ℕ → Buffer → List Event → Type 0
NoneIsRefused sequence buffer [] = ⊤
NoneIsRefused sequence buffer (Committed image patches ∷ events) =
    ((image.sequence == sequence) ≡ true → refuses (image_arrival_of buffer image) ≡ false)
    × NoneIsRefused sequence (buffer_after buffer (Committed image patches)) events
NoneIsRefused sequence buffer (event ∷ events) = NoneIsRefused sequence (buffer_after buffer event) events

-- Each patch comes behind the image that it names, or with it, where these positions came before.
abbrev pub PatchesComeBehind : List ℕ → List Commit → Type 0
PatchesComeBehind came [] = ⊤
PatchesComeBehind came (commit ∷ commits) =
    (list_all (λ (patch : Patch). is_among patch.chunk_id (commit.image.chunk_id ∷ came)) commit.patches ≡ true)
    × PatchesComeBehind (commit.image.chunk_id ∷ came) commits

-- A patch that is marked as the last one comes behind all others for its chunk.
abbrev pub LastsComeLast : List Patch → Type 0
LastsComeLast [] = ⊤
LastsComeLast (patch ∷ later) = (patch.last ≡ true → is_among patch.chunk_id (chunks_of later) ≡ false) × LastsComeLast later

-- A whole history by commits: there are but commits, closes and reads, and each image has a count as a chunk's header can say it.
abbrev pub AreByCommits : List Event → Type 0
AreByCommits [] = ⊤
AreByCommits (Committed image patches ∷ events) = (image.count ≤ MAX_FRAGMENTS) × AreByCommits events
AreByCommits (Closed sequence ∷ events) = AreByCommits events
AreByCommits (Read sequence limit ∷ events) = AreByCommits events
AreByCommits (event ∷ events) = ⊥
