-- What the service notes beside its reads writes no record.
use Rattle.std.proofs.Common.{◌≡◌, ◌∙◌, ℕ, suc, ◌+◌, ◌-◌, ◌<◌, ◌≤◌, ◌==◌, Bool, true, false, Option, Some, None, List, [], ◌∷◌, ◌++◌, refl, sym, ap, subst, append_assoc, append-nil, arith, length, length-set, cond}
use Rattle.std.specs.Prelude.{cond, slice_get}
use Rattle.std.specs.List.{flat_map}
use Rattle.std.proofs.lemmas.List.Concat.{flat_map-append}
use Rattle.trace_base.specs.declared.policy.WriterSpec.{WriterSpec}
use Rattle.trace_model.specs.Buffers.{Buffer}
use Rattle.trace_model.specs.Delivery.{Delivered}
use Rattle.trace_model.specs.History as model
use Rattle.trace_model.specs.History.{Event, buffers_after, records_after}
use Rattle.trace_model.specs.Images.{Patch}
use Rattle.trace_model.specs.Reading.{Reading, Fragments, Unreadable, reading_of}
use Rattle.chunk_plain.specs.Setup.{Setup, sequence_of}
use Rattle.chunk_plain.specs.Views.{Content, Committed, Found, Noted, Arrive, Partial, Patched, Closed, Read, Commit, ServiceView, taken_of}
use Rattle.chunk_plain.specs.Histories.{content_at, found_among, once_read, arrival_of, part_of, patches_of, commit_of, happened, history_of}
use Rattle.service_core.specs.declared.service.ServiceCore.{ServiceCore}
use Rattle.service_core.specs.Agreement.{AreKnownNotes, ServiceAgrees}
use Rattle.service_core.specs.Closing.{TakesAndCloses, closes_of}
use Rattle.service_core.specs.Taking.{Takes, TakesOf, taken_more, takings, patched_where, places_of}
use Rattle.service_core.proofs.CloseLemmas.{noted_grows}
use Rattle.service_core.proofs.HistoryLemmas.{Grows, history_stays}
use Rattle.service_core.proofs.ReadingLemmas.{records_append}
use Rattle.service_core.proofs.TakingLemmas.{took_grows}

-- no note is a read
abbrev pub AreSilent : List Noted → Type 0
AreSilent [] = Unit {0}
AreSilent (Arrive q position ∷ notes) = AreSilent notes
AreSilent (Partial q position count ∷ notes) = AreSilent notes
AreSilent (Patched q position ∷ notes) = AreSilent notes
AreSilent (Closed q ∷ notes) = AreSilent notes
AreSilent (Read q limit ∷ notes) = ⊥
AreSilent (Commit at ∷ notes) = AreSilent notes

pub silent_append : (xs ys : List Noted) → AreSilent xs → AreSilent ys → AreSilent (xs ++ ys)
silent_append [] ys first second = second
silent_append (Arrive q position ∷ xs) ys first second = silent_append xs ys first second
silent_append (Partial q position count ∷ xs) ys first second = silent_append xs ys first second
silent_append (Patched q position ∷ xs) ys first second = silent_append xs ys first second
silent_append (Closed q ∷ xs) ys first second = silent_append xs ys first second
silent_append (Read q limit ∷ xs) ys first second = absurd first
silent_append (Commit at ∷ xs) ys first second = silent_append xs ys first second

arrival_quiet : (bs : List Buffer) (q position : ℕ) (content : Option Content) → records_after bs (arrival_of q position content) ≡ []
arrival_quiet bs q position None = refl
arrival_quiet bs q position (Some content) = by_reading (reading_of content.image.count content.image.payload)
  where
    by_reading : (reading : Reading) → records_after bs (once_read (λ chunk. model.Arrives q position chunk) content.image.flags reading) ≡ []
    by_reading (Fragments fragments) = refl
    by_reading (Unreadable number) = refl

part_quiet : (bs : List Buffer) (q position count : ℕ) (found : Option Found) → records_after bs (part_of q position count found) ≡ []
part_quiet bs q position count None = refl
part_quiet bs q position count (Some found) = by_reading (reading_of count found.sealed)
  where
    by_reading : (reading : Reading) → records_after bs (once_read (λ chunk. model.ArrivesInPart q position chunk) found.head.flags reading) ≡ []
    by_reading (Fragments fragments) = refl
    by_reading (Unreadable number) = refl

patches_quiet : (bs : List Buffer) (q : ℕ) (content : Option Content) → records_after bs (patches_of q content) ≡ []
patches_quiet bs q None = refl
patches_quiet bs q (Some content) = refl

commit_quiet : (bs : List Buffer) (committed : Option Committed) → records_after bs (commit_of committed) ≡ []
commit_quiet bs None = refl
commit_quiet bs (Some committed) = refl

-- events that write nothing in front of others
quiet_front : (bs : List Buffer) (xs ys : List Event) → records_after bs xs ≡ [] → records_after (buffers_after bs xs) ys ≡ [] → records_after bs (xs ++ ys) ≡ []
quiet_front bs xs ys first second =
    records_append bs xs ys ∙ ap (λ (ds : List Delivered). ds ++ records_after (buffers_after bs xs) ys) first ∙ second

-- such notes write nothing
pub silent_records : (bs : List Buffer) (view : ServiceView) (notes : List Noted) → AreSilent notes → records_after bs (flat_map (happened view) notes) ≡ []
silent_records bs view [] silent = refl
silent_records bs view (Arrive q position ∷ notes) silent =
    let xs : List Event = happened view (Arrive q position) in
    quiet_front bs xs (flat_map (happened view) notes) (arrival_quiet bs q position (content_at view q position)) (silent_records (buffers_after bs xs) view notes silent)
silent_records bs view (Partial q position count ∷ notes) silent =
    let xs : List Event = happened view (Partial q position count) in
    quiet_front bs xs (flat_map (happened view) notes) (part_quiet bs q position count (found_among (q - 2) position count view.looks)) (silent_records (buffers_after bs xs) view notes silent)
silent_records bs view (Patched q position ∷ notes) silent =
    let xs : List Event = happened view (Patched q position) in
    quiet_front bs xs (flat_map (happened view) notes) (patches_quiet bs q (content_at view q position)) (silent_records (buffers_after bs xs) view notes silent)
silent_records bs view (Closed q ∷ notes) silent =
    let xs : List Event = happened view (Closed q) in
    quiet_front bs xs (flat_map (happened view) notes) refl (silent_records (buffers_after bs xs) view notes silent)
silent_records bs view (Read q limit ∷ notes) silent = absurd silent
silent_records bs view (Commit at ∷ notes) silent =
    let xs : List Event = happened view (Commit at) in
    quiet_front bs xs (flat_map (happened view) notes) (commit_quiet bs (slice_get view.commits at)) (silent_records (buffers_after bs xs) view notes silent)

-- the view has what it had, and such notes more
pub record Adds (old new : ServiceView) : Type 0 where
  pub grows : Grows old new
  pub notes : List Noted
  pub events : new.events ≡ old.events ++ notes
  pub silent : AreSilent notes

pub grow_both : (old mid new : ServiceView) → Grows old mid → Grows mid new → Grows old new
grow_both old mid new first second = record {
  contents = λ q position content is. second.contents q position content (first.contents q position content is);
  looks = λ place position count found is. second.looks place position count found (first.looks place position count found is);
  commits = λ place committed is. second.commits place committed (first.commits place committed is);
}

pub adds_none : (view : ServiceView) → Adds view view
adds_none view = record {
  grows = record { contents = λ q position content is. is; looks = λ place position count found is. is; commits = λ place committed is. is };
  notes = [];
  events = sym (append-nil view.events);
  silent = tt;
}

pub adds_both : (old mid new : ServiceView) → Adds old mid → Adds mid new → Adds old new
adds_both old mid new first second = record {
  grows = grow_both old mid new first.grows second.grows;
  notes = first.notes ++ second.notes;
  events = second.events ∙ ap (λ (es : List Noted). es ++ second.notes) first.events ∙ append_assoc old.events first.notes second.notes;
  silent = silent_append first.notes second.notes first.silent second.silent;
}

-- what is added so writes no record
pub adds_quiet : (bs : List Buffer) (old new : ServiceView) → AreKnownNotes old old.events → Adds old new
    → records_after bs (history_of new) ≡ records_after bs (history_of old)
adds_quiet bs old new known adds =
    ap (λ (es : List Noted). records_after bs (flat_map (happened new) es)) adds.events
    ∙ ap (records_after bs) (flat_map-append (happened new) old.events adds.notes)
    ∙ records_append bs (flat_map (happened new) old.events) (flat_map (happened new) adds.notes)
    ∙ ap (λ (ds : List Delivered). records_after bs (flat_map (happened new) old.events) ++ ds)
    (silent_records (buffers_after bs (flat_map (happened new) old.events)) new adds.notes adds.silent)
    ∙ append-nil (records_after bs (flat_map (happened new) old.events))
    ∙ ap (records_after bs) (history_stays old new old.events adds.grows known)

patched_silent : (patches : List Patch) (q position : ℕ) → AreSilent (patched_where patches q position)
patched_silent [] q position = tt
patched_silent (patch ∷ patches) q position = tt

takings_silent : (q position : ℕ) (contents : List Content) → AreSilent (takings q position contents)
takings_silent q position [] = tt
takings_silent q position (content ∷ contents) =
    silent_append (patched_where content.patches q position) (takings q (suc position) contents) (patched_silent content.patches q position) (takings_silent q (suc position) contents)

closes_silent : (places : List ℕ) → AreSilent (closes_of places)
closes_silent [] = tt
closes_silent (place ∷ places) = closes_silent places

-- each of these places is below so many
abbrev pub AllBelow : ℕ → List ℕ → Type 0
AllBelow count [] = Unit {0}
AllBelow count (place ∷ places) = (place < count) × AllBelow count places

below_more : (least most : ℕ) (places : List ℕ) → least ≤ most → AllBelow least places → AllBelow most places
below_more least most [] order below = tt
below_more least most (place ∷ places) order below = ((let h = below.0 in omega arith), below_more least most places order below.1)

pub places_below : (producer place : ℕ) (specs : List WriterSpec) (count : ℕ) → place + length specs ≤ count → AllBelow count (places_of producer place specs)
places_below producer place [] count fits = tt
places_below producer place (spec ∷ specs) count fits = by_test (spec.producer == producer) (places_below producer (suc place) specs count (omega arith))
  where
    by_test : (b : Bool) → AllBelow count (places_of producer (suc place) specs)
        → AllBelow count (cond b (place ∷ places_of producer (suc place) specs) (places_of producer (suc place) specs))
    by_test true rest = ((omega arith), rest)
    by_test false rest = rest

one_adds : (setup : Setup) (place taken : ℕ) (old new : ServiceView) → place < length old.taken → TakesOf setup place taken old new → Adds old new
one_adds setup place taken old new inside one =
    subst (λ (v : ServiceView). Adds old v) (sym one.view) (record {
      grows = took_grows old place one.looks one.contents inside;
      notes = takings (sequence_of place) (taken_of old place).count one.contents;
      events = refl;
      silent = takings_silent (sequence_of place) (taken_of old place).count one.contents;
    })

pub long_still : (setup : Setup) (place taken : ℕ) (old new : ServiceView) → TakesOf setup place taken old new → length new.taken ≡ length old.taken
long_still setup place taken old new one =
    ap (λ (v : ServiceView). length v.taken) one.view ∙ length-set old.taken place (taken_more (taken_of old place) one.contents)

takes_adds : (setup : Setup) (places : List ℕ) (taken : ℕ) (old new : ServiceView) → AllBelow (length old.taken) places → Takes setup places taken old new → Adds old new
takes_adds setup [] taken old new below takes = subst (λ (v : ServiceView). Adds old v) (sym takes.1) (adds_none old)
takes_adds setup (place ∷ places) taken old new below takes =
    adds_both old takes.2 new (one_adds setup place takes.0 old takes.2 below.0 takes.4)
    (takes_adds setup places takes.1 takes.2 new
    (subst (λ (n : ℕ). AllBelow n places) (sym (long_still setup place takes.0 old takes.2 takes.4)) below.1) takes.5)

-- the taking of a producer's chunks adds such notes
pub collect_adds : {S : Type 0} (setup : Setup) (service : ServiceCore S) (producer taken : ℕ) (old new : ServiceView) → ServiceAgrees setup old service
    → Takes setup (places_of producer 0 setup.writers) taken old new → Adds old new
collect_adds setup service producer taken old new agrees takes =
    takes_adds setup (places_of producer 0 setup.writers) taken old new
    (places_below producer 0 setup.writers (length old.taken) (let many = agrees.many in omega arith)) takes

-- and so does the close of a producer
pub close_adds : {S : Type 0} (setup : Setup) (service : ServiceCore S) (producer taken : ℕ) (old new : ServiceView) → ServiceAgrees setup old service
    → TakesAndCloses setup producer taken old new → Adds old new
close_adds setup service producer taken old new agrees closes =
    adds_both old closes.between new (collect_adds setup service producer taken old closes.between agrees closes.takes)
    (subst (λ (v : ServiceView). Adds closes.between v) (sym closes.view) (record {
      grows = noted_grows closes.between (closes_of (places_of producer 0 setup.writers));
      notes = closes_of (places_of producer 0 setup.writers);
      events = refl;
      silent = closes_silent (places_of producer 0 setup.writers);
    }))
