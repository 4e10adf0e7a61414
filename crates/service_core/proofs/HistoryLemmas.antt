-- A view that grows keeps what was noted: each note is the event that it was.
use Rattle.std.proofs.Common.{◌≡◌, ◌∙◌, ℕ, ◌-◌, Bool, true, false, List, [], ◌∷◌, ◌++◌, Some, refl, sym, ap}
use Rattle.std.specs.Prelude.{cond, slice_get}
use Rattle.std.specs.List.{flat_map}
use Rattle.trace_model.specs.History as model
use Rattle.chunk_plain.specs.Views.{Content, Found, Look, Noted, Arrive, Partial, Patched, Closed, Read, Commit, Committed, ServiceView}
use Rattle.chunk_plain.specs.Histories.{content_at, found_among, is_scraped, arrival_of, part_of, patches_of, commit_of, happened}
use Rattle.service_core.specs.Agreement.{IsKnownNote, AreKnownNotes}

-- the view has what it had
pub record Grows (old new : ServiceView) : Type 0 where
  pub contents : (sequence position : ℕ) (content : Content) → content_at old sequence position ≡ Some content → content_at new sequence position ≡ Some content
  pub looks : (place position count : ℕ) (found : Found) → found_among place position count old.looks ≡ Some found → found_among place position count new.looks ≡ Some found
  pub commits : (place : ℕ) (committed : Committed) → slice_get old.commits place ≡ Some committed → slice_get new.commits place ≡ Some committed

pub known_grows : (old new : ServiceView) (note : Noted) → Grows old new → IsKnownNote old note → IsKnownNote new note
known_grows old new (Arrive s i) grows known = (known.0, grows.contents s i known.0 known.1)
known_grows old new (Partial s i n) grows known = (known.0, grows.looks (s - 2) i n known.0 known.1)
known_grows old new (Patched s i) grows known = (known.0, grows.contents s i known.0 known.1)
known_grows old new (Closed s) grows known = known
known_grows old new (Read s n) grows known = known
known_grows old new (Commit k) grows known = (known.0, grows.commits k known.0 known.1)

pub all_known_grow : (old new : ServiceView) (notes : List Noted) → Grows old new → AreKnownNotes old notes → AreKnownNotes new notes
all_known_grow old new [] grows known = tt
all_known_grow old new (note ∷ notes) grows known = (known_grows old new note grows known.0, all_known_grow old new notes grows known.1)

pub known_append : (view : ServiceView) (xs ys : List Noted) → AreKnownNotes view xs → AreKnownNotes view ys → AreKnownNotes view (xs ++ ys)
known_append view [] ys h k = k
known_append view (x ∷ xs) ys h k = (h.0, known_append view xs ys h.1 k)

happened_stays : (old new : ServiceView) (note : Noted) → Grows old new → IsKnownNote old note → happened new note ≡ happened old note
happened_stays old new (Arrive s i) grows known = ap (arrival_of s i) (grows.contents s i known.0 known.1 ∙ sym known.1)
happened_stays old new (Partial s i n) grows known = ap (part_of s i n) (grows.looks (s - 2) i n known.0 known.1 ∙ sym known.1)
happened_stays old new (Patched s i) grows known = ap (patches_of s) (grows.contents s i known.0 known.1 ∙ sym known.1)
happened_stays old new (Closed s) grows known = refl
happened_stays old new (Read s n) grows known = refl
happened_stays old new (Commit k) grows known = ap commit_of (grows.commits k known.0 known.1 ∙ sym known.1)

pub history_stays : (old new : ServiceView) (notes : List Noted) → Grows old new → AreKnownNotes old notes → flat_map (happened new) notes ≡ flat_map (happened old) notes
history_stays old new [] grows known = refl
history_stays old new (note ∷ notes) grows known =
    ap (λ (es : List model.Event). es ++ flat_map (happened new) notes) (happened_stays old new note grows known.0)
    ∙ ap (λ (es : List model.Event). happened old note ++ es) (history_stays old new notes grows known.1)

-- what was found first stays so
pub found_more : (place position count : ℕ) (looks more : List Look) (found : Found) → found_among place position count looks ≡ Some found → found_among place position count (looks ++ more) ≡ Some found
found_more place position count [] more found is = absurd (cc)
found_more place position count (look ∷ looks) more found is = step (is_scraped place position count look.found) is (found_more place position count looks more found)
  where
    step : (b : Bool) → cond b look.found (found_among place position count looks) ≡ Some found
        → (found_among place position count looks ≡ Some found → found_among place position count (looks ++ more) ≡ Some found)
        → cond b look.found (found_among place position count (looks ++ more)) ≡ Some found
    step true h k = h
    step false h k = k h
