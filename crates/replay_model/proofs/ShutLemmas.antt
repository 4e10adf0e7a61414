-- What the service has open, no note has shut.
use Rattle.std.proofs.Common.{◌≡◌, ◌∙◌, ℕ, ◌-◌, ◌<◌, Bool, false, ◌||◌, List, [], ◌∷◌, length, Option, Some, None, refl, sym, ap}
use Rattle.std.specs.Prelude.{◌==◌, slice_get}
use Rattle.std.specs.List.{flat_map, list_any}
use Rattle.std.proofs.Math.Bool.{or-false}
use Rattle.std.proofs.lemmas.List.Folds.{list_any-append}
use Rattle.trace_model.specs.CauseLaws as causes
use Rattle.trace_model.specs.History as model
use Rattle.trace_model.specs.Images.{Chunk}
use Rattle.trace_model.specs.Reading.{Reading, Fragments, Unreadable, reading_of}
use Rattle.chunk_plain.specs.Setup.{Setup, sequence_of}
use Rattle.chunk_plain.specs.Views.{Content, Committed, Found, Noted, Arrive, Partial, Patched, Closed, Read, Commit, ServiceView}
use Rattle.chunk_plain.specs.Histories.{content_at, found_among, once_read, arrival_of, part_of, patches_of, commit_of, happened}
use Rattle.service_core.specs.declared.service.ServiceCore.{ServiceCore}
use Rattle.service_core.specs.Agreement.{ServiceAgrees, IsOpen, is_closed}
use Rattle.service_core.proofs.ShutLemmas.{closed_is}
use Rattle.replay_model.specs.Does.{AreOpen, is_close_of, is_shut}

-- an event with a chunk closes nothing
read_closes_none : (q : ℕ) (event : Chunk → model.Event) → ((chunk : Chunk) → causes.is_close_of q (event chunk) ≡ false) → (flags : ℕ) (reading : Reading)
    → list_any (causes.is_close_of q) (once_read event flags reading) ≡ false
read_closes_none q event none flags (Fragments fragments) = ap (λ (b : Bool). b || false) (none _)
read_closes_none q event none flags (Unreadable number) = refl

arrival_closes_none : (q sequence position : ℕ) (content : Option Content) → list_any (causes.is_close_of q) (arrival_of sequence position content) ≡ false
arrival_closes_none q sequence position None = refl
arrival_closes_none q sequence position (Some content) =
    read_closes_none q (λ chunk. model.Arrives sequence position chunk) (λ chunk. refl) content.image.flags (reading_of content.image.count content.image.payload)

part_closes_none : (q sequence position count : ℕ) (found : Option Found) → list_any (causes.is_close_of q) (part_of sequence position count found) ≡ false
part_closes_none q sequence position count None = refl
part_closes_none q sequence position count (Some found) =
    read_closes_none q (λ chunk. model.ArrivesInPart sequence position chunk) (λ chunk. refl) found.head.flags (reading_of count found.sealed)

patches_close_none : (q sequence : ℕ) (content : Option Content) → list_any (causes.is_close_of q) (patches_of sequence content) ≡ false
patches_close_none q sequence None = refl
patches_close_none q sequence (Some content) = refl

commit_closes_none : (q : ℕ) (committed : Option Committed) → list_any (causes.is_close_of q) (commit_of committed) ≡ false
commit_closes_none q None = refl
commit_closes_none q (Some committed) = refl

-- a note closes what its event closes
note_closes : (view : ServiceView) (q : ℕ) (note : Noted) → list_any (causes.is_close_of q) (happened view note) ≡ is_close_of q note
note_closes view q (Arrive sequence position) = arrival_closes_none q sequence position (content_at view sequence position)
note_closes view q (Partial sequence position count) = part_closes_none q sequence position count (found_among (sequence - 2) position count view.looks)
note_closes view q (Patched sequence position) = patches_close_none q sequence (content_at view sequence position)
note_closes view q (Closed sequence) = or-false (sequence == q)
note_closes view q (Read sequence limit) = refl
note_closes view q (Commit place) = commit_closes_none q (slice_get view.commits place)

pub notes_close : (view : ServiceView) (q : ℕ) (notes : List Noted) → list_any (causes.is_close_of q) (flat_map (happened view) notes) ≡ is_shut q notes
notes_close view q [] = refl
notes_close view q (note ∷ notes) =
    list_any-append (causes.is_close_of q) (happened view note) (flat_map (happened view) notes)
    ∙ ap (λ (b : Bool). b || list_any (causes.is_close_of q) (flat_map (happened view) notes)) (note_closes view q note)
    ∙ ap (λ (b : Bool). is_close_of q note || b) (notes_close view q notes)

-- A sequence is closed in the service exactly where a note closed it, whatever came by commits.
pub closed_is_shut : {S : Type 0} → (setup : Setup) (view : ServiceView) (core : ServiceCore S) (place : ℕ) → ServiceAgrees setup view core → place < length setup.writers
    → is_closed setup core place ≡ is_shut (sequence_of place) view.events
closed_is_shut setup view core place agrees inside = closed_is setup view core place agrees inside ∙ notes_close view (sequence_of place) view.events

-- So what the service has open no note has shut.
pub open_is : {S : Type 0} → (setup : Setup) (view : ServiceView) (core : ServiceCore S) (producer : ℕ) → ServiceAgrees setup view core
    → IsOpen setup core producer → AreOpen setup producer view
open_is setup view core producer agrees opened place inside of_producer =
    sym (closed_is_shut setup view core place agrees inside) ∙ opened place inside of_producer
