-- From views to what the model speaks of: a writer's images, and the history of the service.
use Rattle.std.specs.Prelude.{ℕ, ◌-◌, Bool, false, ◌&&◌, ◌==◌, Option, Some, None, List, [], ◌∷◌, length, slice_get, if◌then◌else◌}
use Rattle.std.specs.List.{flat_map}
use Rattle.trace_base.specs.declared.limits.TheConstants.{FIRST_SEQUENCE}
use Rattle.trace_model.specs.Images.{Image, Chunk, Patch, whole_chunk}
use Rattle.trace_model.specs.Reading.{Reading, Fragments, Unreadable, reading_of}
use Rattle.trace_model.specs.History as model
use Rattle.chunk_plain.specs.Views.{Content, BegunChunk, Held, Completed, Found, Look, Noted, Arrive, Partial, Patched, Closed, Read, Commit, Committed, ServiceView, taken_of}

-- what a writer completed
abbrev pub completed_images : List BegunChunk → List Image
completed_images [] = []
completed_images (Held chunk draft ∷ begun) = completed_images begun
completed_images (Completed chunk content ∷ begun) = content.image ∷ completed_images begun

-- the patches that came with each of these
abbrev pub completed_patches : List BegunChunk → List (List Patch)
completed_patches [] = []
completed_patches (Held chunk draft ∷ begun) = completed_patches begun
completed_patches (Completed chunk content ∷ begun) = content.patches ∷ completed_patches begun

-- The history of the service is what it noted, with the images, patches and finished fragments that its view has. What the view doesn't
-- have, and what doesn't read, is no event.

-- the content of a taken chunk
abbrev pub content_at : ServiceView → (sequence position : ℕ) → Option Content
content_at service sequence position = slice_get (taken_of service (sequence - FIRST_SEQUENCE)).contents position

-- the chunk was found with so many finished fragments, of the writer at this place and at this position
abbrev pub is_scraped : (place position count : ℕ) → Option Found → Bool
is_scraped place position count None = false
is_scraped place position count (Some found) = (found.place == place) && (found.position == position) && (length found.ends == count)

-- the first look that found it so
abbrev pub found_among : (place position count : ℕ) → List Look → Option Found
found_among place position count [] = None
found_among place position count (look
    ∷ looks) = if is_scraped place position count look.found then look.found else found_among place position count looks

-- an event with a chunk, where its fragments read
abbrev pub once_read : (Chunk → model.Event) → ℕ → Reading → List model.Event
once_read event flags (Fragments fragments) = event (whole_chunk flags fragments) ∷ []
once_read event flags (Unreadable number) = []

-- the event of a chunk's arrival
abbrev pub arrival_of : (sequence position : ℕ) → Option Content → List model.Event
arrival_of sequence position None = []
arrival_of sequence position (Some content) =
    once_read (λ chunk. model.Arrives sequence position chunk) content.image.flags (reading_of content.image.count content.image.payload)

-- the event of a part's arrival, by what a look found
abbrev pub part_of : (sequence position count : ℕ) → Option Found → List model.Event
part_of sequence position count None = []
part_of sequence position count (Some found) =
    once_read (λ chunk. model.ArrivesInPart sequence position chunk) found.head.flags (reading_of count found.sealed)

-- the event of a body's patches
abbrev pub patches_of : ℕ → Option Content → List model.Event
patches_of sequence None = []
patches_of sequence (Some content) = model.Patched sequence content.patches ∷ []

-- the event of a commit
abbrev pub commit_of : Option Committed → List model.Event
commit_of None = []
commit_of (Some committed) = model.Committed committed.image committed.patches ∷ []

-- what a note of the service says, with the images and patches that its view has
abbrev pub happened : ServiceView → Noted → List model.Event
happened service (Arrive sequence position) = arrival_of sequence position (content_at service sequence position)
happened service (Partial sequence position count) =
    part_of sequence position count (found_among (sequence - FIRST_SEQUENCE) position count service.looks)
happened service (Patched sequence position) = patches_of sequence (content_at service sequence position)
happened service (Closed sequence) = model.Closed sequence ∷ []
happened service (Read sequence limit) = model.Read sequence limit ∷ []
happened service (Commit place) = commit_of (slice_get service.commits place)

-- the history that the notes in a service's view say
abbrev pub history_of : ServiceView → List model.Event
history_of service = flat_map (happened service) service.events
