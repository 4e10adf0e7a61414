-- A view that goes on from an earlier one, without a read: it knows what that one knew, and no read and no record is more.
use Rattle.std.proofs.Common.{◌≡◌, ◌∙◌, ℕ, ◌-◌, Option, Some, None, Result, Ok, Err, IfOk, IfErr, List, [], ◌∷◌, ◌++◌, length, arith, refl, sym, ap, subst, append_assoc, append-nil}
use Rattle.std.specs.Prelude.{slice_get}
use Rattle.std.specs.List.{All, flat_map}
use Rattle.std.proofs.lemmas.List.{append_cancel_left}
use Rattle.std.proofs.lemmas.List.Concat.{flat_map-append}
use Rattle.std.proofs.lemmas.List.Elements.{All-nil, All-cons, All-head, All-tail}
use Rattle.trace_base.proofs.Lists.{get_more}
use Rattle.trace_model.specs.Buffers.{Buffer}
use Rattle.trace_model.specs.Delivery.{Delivered}
use Rattle.trace_model.specs.History as model
use Rattle.trace_model.specs.History.{buffers_after, records_after}
use Rattle.trace_model.specs.Reading.{Reading, Fragments, Unreadable, reading_of}
use Rattle.page_geometry.specs.declared.chunk_header.ChunkHeader.{ChunkHeader}
use Rattle.page_geometry.specs.Header.{packed}
use Rattle.chunk_plain.specs.declared.notes.ServiceEvent.{ServiceEvent}
use Rattle.chunk_plain.specs.declared.notes.ServiceEvent.TheVariants as event
use Rattle.chunk_plain.specs.declared.tokens.Taken.{Taken as TakenToken}
use Rattle.chunk_plain.specs.declared.tokens.NotComplete.{NotComplete}
use Rattle.chunk_plain.specs.Setup.{Setup}
use Rattle.chunk_plain.specs.Words.{LooksAt, TakesChunk, FindsOther, IsReadEvent, event_of, taken_content}
use Rattle.chunk_plain.specs.Views.{Content, Found, Noted, Arrive, Partial, Patched, Closed, Read, Commit, Committed, Look, ServiceView, taken_of}
use Rattle.chunk_plain.specs.Histories.{content_at, found_among, once_read, arrival_of, part_of, patches_of, commit_of, happened, history_of}
use Rattle.chunk_plain.specs.Steps.{looks_at, takes_in, learns, lets_go, notes, notes_commit}
use Rattle.chunk_words.specs.GoesOn.{IsFront, IsReadNote, GoesOn}
use Rattle.chunk_words.proofs.Passing.{goes_same, goes_further, goes_look, goes_take, goes_learn, goes_free, goes_note, goes_commit, read_noted}
use Rattle.service_core.specs.Agreement.{AreKnownNotes}
use Rattle.service_core.specs.Reading.{noted_read}
use Rattle.service_core.proofs.CloseLemmas.{noted_grows}
use Rattle.service_core.proofs.ReadingLemmas.{records_append}
use Rattle.service_core.proofs.HistoryLemmas.{Grows, all_known_grow, history_stays, known_append, found_more}
use Rattle.service_core.proofs.QuietLemmas.{AreSilent, Adds}
use Rattle.thread_service.specs.Passing.{KnowsReads}
use Rattle.thread_service.specs.Reading.{GoesUnread}

-- no note is a read
abbrev NoRead : Noted → Type 0
NoRead note = IsReadNote note → ⊥

front_get : {T : Type 0} (xs ys : List T) (i : ℕ) (x : T) → IsFront xs ys → slice_get xs i ≡ Some x → slice_get ys i ≡ Some x
front_get xs ys i x front is = subst (λ l. slice_get l i ≡ Some x) (sym front.is) (get_more xs front.rest i x is)

goes_grows : (old new : ServiceView) → GoesOn old new → Grows old new
goes_grows old new goes = record {
  contents = λ s i content is. front_get (taken_of old (s - 2)).contents (taken_of new (s - 2)).contents i content (goes.contents (s - 2)) is;
  looks = λ place position count found is.
      subst (λ (ls : List Look). found_among place position count ls ≡ Some found) (sym goes.looks.is) (found_more place position count old.looks goes.looks.rest found is);
  commits = λ place committed is. front_get old.commits new.commits place committed goes.commits is;
}

silent_of : (all : List Noted) → All NoRead all → AreSilent all
silent_of [] none = tt
silent_of (Arrive q position ∷ all) none = silent_of all (All-tail NoRead (Arrive q position) all none)
silent_of (Partial q position count ∷ all) none = silent_of all (All-tail NoRead (Partial q position count) all none)
silent_of (Patched q position ∷ all) none = silent_of all (All-tail NoRead (Patched q position) all none)
silent_of (Closed q ∷ all) none = silent_of all (All-tail NoRead (Closed q) all none)
silent_of (Read q limit ∷ all) none = All-head NoRead (Read q limit) all none tt
silent_of (Commit at ∷ all) none = silent_of all (All-tail NoRead (Commit at) all none)

-- so it adds notes that write no record
pub goes_adds : (old new : ServiceView) → GoesOn old new → Adds old new
goes_adds old new goes = record { grows = goes_grows old new goes; notes = goes.rest; events = goes.events; silent = silent_of goes.rest goes.no_read }

-- ---- and events that are no reads

arrival_unread : (q position : ℕ) (content : Option Content) → flat_map noted_read (arrival_of q position content) ≡ []
arrival_unread q position None = refl
arrival_unread q position (Some content) = by_reading (reading_of content.image.count content.image.payload)
  where
    by_reading : (reading : Reading) → flat_map noted_read (once_read (λ chunk. model.Arrives q position chunk) content.image.flags reading) ≡ []
    by_reading (Fragments fragments) = refl
    by_reading (Unreadable number) = refl

part_unread : (q position count : ℕ) (found : Option Found) → flat_map noted_read (part_of q position count found) ≡ []
part_unread q position count None = refl
part_unread q position count (Some found) = by_reading (reading_of count found.sealed)
  where
    by_reading : (reading : Reading) → flat_map noted_read (once_read (λ chunk. model.ArrivesInPart q position chunk) found.head.flags reading) ≡ []
    by_reading (Fragments fragments) = refl
    by_reading (Unreadable number) = refl

patches_unread : (q : ℕ) (content : Option Content) → flat_map noted_read (patches_of q content) ≡ []
patches_unread q None = refl
patches_unread q (Some content) = refl

commit_unread : (committed : Option Committed) → flat_map noted_read (commit_of committed) ≡ []
commit_unread None = refl
commit_unread (Some committed) = refl

pub unread_both : (xs ys : List model.Event) → flat_map noted_read xs ≡ [] → flat_map noted_read ys ≡ [] → flat_map noted_read (xs ++ ys) ≡ []
unread_both xs ys first second =
    flat_map-append noted_read xs ys ∙ ap (λ (ns : List Noted). ns ++ flat_map noted_read ys) first ∙ second

silent_unread : (view : ServiceView) (all : List Noted) → AreSilent all → flat_map noted_read (flat_map (happened view) all) ≡ []
silent_unread view [] silent = refl
silent_unread view (Arrive q position ∷ all) silent =
    unread_both (happened view (Arrive q position)) (flat_map (happened view) all) (arrival_unread q position (content_at view q position)) (silent_unread view all silent)
silent_unread view (Partial q position count ∷ all) silent =
    unread_both (happened view (Partial q position count)) (flat_map (happened view) all) (part_unread q position count (found_among (q - 2) position count view.looks))
    (silent_unread view all silent)
silent_unread view (Patched q position ∷ all) silent =
    unread_both (happened view (Patched q position)) (flat_map (happened view) all) (patches_unread q (content_at view q position)) (silent_unread view all silent)
silent_unread view (Closed q ∷ all) silent = silent_unread view all silent
silent_unread view (Read q limit ∷ all) silent = absurd silent
silent_unread view (Commit at ∷ all) silent =
    unread_both (happened view (Commit at)) (flat_map (happened view) all) (commit_unread (slice_get view.commits at)) (silent_unread view all silent)

goes_events : (old new : ServiceView) → AreKnownNotes old old.events → (goes : GoesOn old new)
    → history_of new ≡ history_of old ++ flat_map (happened new) goes.rest
goes_events old new known goes =
    ap (λ (ns : List Noted). flat_map (happened new) ns) goes.events
    ∙ flat_map-append (happened new) old.events goes.rest
    ∙ ap (λ (es : List model.Event). es ++ flat_map (happened new) goes.rest) (history_stays old new old.events (goes_grows old new goes) known)

-- so its history goes on without a read
pub goes_unread : (old new : ServiceView) → AreKnownNotes old old.events → GoesOn old new → GoesUnread (history_of old) (history_of new)
goes_unread old new known goes = record {
  others = flat_map (happened new) goes.rest;
  goes = goes_events old new known goes;
  unread = silent_unread new goes.rest (silent_of goes.rest goes.no_read);
}

-- and where nothing was noted, it is the same
pub goes_same_history : (old new : ServiceView) → AreKnownNotes old old.events → (goes : GoesOn old new) → goes.rest ≡ [] → history_of new ≡ history_of old
goes_same_history old new known goes none =
    goes_events old new known goes
    ∙ ap (λ (ns : List Noted). history_of old ++ flat_map (happened new) ns) none
    ∙ append-nil (history_of old)

-- events without a read write no record
unread_records : (buffers : List Buffer) (events : List model.Event) → flat_map noted_read events ≡ [] → records_after buffers events ≡ []
unread_records buffers [] none = refl
unread_records buffers (model.Arrives q position chunk ∷ events) none = unread_records (buffers_after buffers (model.Arrives q position chunk ∷ [])) events none
unread_records buffers (model.ArrivesInPart q position chunk ∷ events) none = unread_records (buffers_after buffers (model.ArrivesInPart q position chunk ∷ [])) events none
unread_records buffers (model.Patched q patches ∷ events) none = unread_records (buffers_after buffers (model.Patched q patches ∷ [])) events none
unread_records buffers (model.Committed image patches ∷ events) none = unread_records (buffers_after buffers (model.Committed image patches ∷ [])) events none
unread_records buffers (model.Closed q ∷ events) none = unread_records (buffers_after buffers (model.Closed q ∷ [])) events none
unread_records buffers (model.Read q limit ∷ events) none =
    let long = ap (λ (notes : List Noted). length notes) none in absurd (omega (arith, long))

-- a history that goes on without a read writes no further record
pub same_records : (first : List Buffer) (old new : List model.Event) → GoesUnread old new → records_after first new ≡ records_after first old
same_records first old new goes =
    ap (records_after first) goes.goes
    ∙ records_append first old goes.others
    ∙ ap (λ (ds : List Delivered). records_after first old ++ ds) (unread_records (buffers_after first old) goes.others goes.unread)
    ∙ append-nil (records_after first old)

-- ---- a view goes on by each call on the table

pub goes_nowhere : (old new : ServiceView) → new ≡ old → GoesOn old new
goes_nowhere old new same = subst (λ (v : ServiceView). GoesOn old v) (sym same) (goes_same old)

pub goes_looking : (setup : Setup) (chunk word : ℕ) (header : ChunkHeader) (old new : ServiceView) → LooksAt setup chunk word header old new → GoesOn old new
goes_looking setup chunk word header old new looks =
    subst (λ (v : ServiceView). GoesOn old v) (sym looks.view) (goes_look old chunk word (packed header) looks.found)

pub goes_releasing : (chunk : ℕ) (old new : ServiceView) → new ≡ lets_go old chunk → GoesOn old new
goes_releasing chunk old new is = subst (λ (v : ServiceView). GoesOn old v) (sym is) (goes_free old chunk)

pub goes_committing : (committed : Committed) (old new : ServiceView) → new ≡ notes_commit old committed → GoesOn old new
goes_committing committed old new is = subst (λ (v : ServiceView). GoesOn old v) (sym is) (goes_commit old committed)

pub goes_noting : (noted : ServiceEvent) (old new : ServiceView) → (IsReadEvent noted → ⊥) → new ≡ notes old (event_of noted) → GoesOn old new
goes_noting noted old new other is =
    subst (λ (v : ServiceView). GoesOn old v) (sym is) (goes_note old (event_of noted) (λ read. other (read_noted noted read)))

goes_takes : (setup : Setup) (chunk writer id : ℕ) (taken : TakenToken) (old new : ServiceView) → TakesChunk setup chunk writer id taken old new → GoesOn old new
goes_takes setup chunk writer id taken old new takes =
    let seen = looks_at old chunk takes.word (packed taken.header) None in
    let read = takes_in seen (writer - 1) chunk in
    let content = taken_content setup (writer - 1) (taken_of old (writer - 1)).count taken in
    subst (λ (v : ServiceView). GoesOn old v) (sym takes.view)
    (goes_further old read (learns read (writer - 1) content)
    (goes_further old seen read (goes_look old chunk takes.word (packed taken.header) None) (goes_take seen (writer - 1) chunk))
    (goes_learn read (writer - 1) content))

pub goes_taking : (setup : Setup) (chunk writer id : ℕ) (result : Result TakenToken NotComplete) (old new : ServiceView)
    → IfOk result (λ taken. TakesChunk setup chunk writer id taken old new) → IfErr result (λ found. FindsOther setup chunk writer id found old new) → GoesOn old new
goes_taking setup chunk writer id (Ok taken) old new takes finds = goes_takes setup chunk writer id taken old new takes
goes_taking setup chunk writer id (Err found) old new takes finds = goes_looking setup chunk found.word.0 found.header old new finds.look

-- a take changes no letter
pub letters_taking : (setup : Setup) (chunk writer id : ℕ) (result : Result TakenToken NotComplete) (old new : ServiceView)
    → IfOk result (λ taken. TakesChunk setup chunk writer id taken old new) → IfErr result (λ found. FindsOther setup chunk writer id found old new)
    → new.letters ≡ old.letters
letters_taking setup chunk writer id (Ok taken) old new takes finds = ap (λ (v : ServiceView). v.letters) takes.view
letters_taking setup chunk writer id (Err found) old new takes finds = ap (λ (v : ServiceView). v.letters) finds.look.view

-- a read is noted as one
pub event_read : (noted : ServiceEvent) → IsReadEvent noted → IsReadNote (event_of noted)
event_read (event.Read sequence limit) read = tt
event_read (event.Arrive sequence position) read = absurd read
event_read (event.Partial sequence position limit) read = absurd read
event_read (event.Patched sequence position) read = absurd read
event_read (event.Closed sequence) read = absurd read

-- ---- lists of reads

pub all_front : (xs ys : List Noted) → All IsReadNote (xs ++ ys) → All IsReadNote xs
all_front [] ys all = All-nil IsReadNote
all_front (x ∷ xs) ys all =
    All-cons IsReadNote x xs (All-head IsReadNote x (xs ++ ys) all) (all_front xs ys (All-tail IsReadNote x (xs ++ ys) all))

pub all_back : (xs ys : List Noted) → All IsReadNote (xs ++ ys) → All IsReadNote ys
all_back [] ys all = all
all_back (x ∷ xs) ys all = all_back xs ys (All-tail IsReadNote x (xs ++ ys) all)

pub none_of_both : (xs : List Noted) → All IsReadNote xs → All NoRead xs → xs ≡ []
none_of_both [] all none = refl
none_of_both (x ∷ xs) all none = absurd (All-head NoRead x xs none (All-head IsReadNote x xs all))

pub noted_are_reads : (events : List model.Event) → All IsReadNote (flat_map noted_read events)
noted_are_reads [] = All-nil IsReadNote
noted_are_reads (model.Arrives q position chunk ∷ events) = noted_are_reads events
noted_are_reads (model.ArrivesInPart q position chunk ∷ events) = noted_are_reads events
noted_are_reads (model.Patched q patches ∷ events) = noted_are_reads events
noted_are_reads (model.Committed image patches ∷ events) = noted_are_reads events
noted_are_reads (model.Closed q ∷ events) = noted_are_reads events
noted_are_reads (model.Read q limit ∷ events) = All-cons IsReadNote (Read q limit) (flat_map noted_read events) tt (noted_are_reads events)

-- ---- what is known where only reads were noted

pub knows_further : (before view next : ServiceView) → KnowsReads before view → GoesOn view next → KnowsReads before next
knows_further before view next knows goes = record {
  rest = knows.rest ++ goes.rest;
  events = goes.events ∙ (ap (λ (ns : List Noted). ns ++ goes.rest) knows.events ∙ append_assoc before.events knows.rest goes.rest);
  known = λ all.
      let none = none_of_both goes.rest (all_back knows.rest goes.rest all) goes.no_read in
      let same = goes.events ∙ (ap (λ (ns : List Noted). view.events ++ ns) none ∙ append-nil view.events) in
      subst (λ (ns : List Noted). AreKnownNotes next ns) (sym same)
      (all_known_grow view next view.events (goes_grows view next goes) (knows.known (all_front knows.rest goes.rest all)));
}

one_known : (view : ServiceView) (note : Noted) → IsReadNote note → AreKnownNotes view (note ∷ [])
one_known view (Arrive q position) read = absurd read
one_known view (Partial q position count) read = absurd read
one_known view (Patched q position) read = absurd read
one_known view (Closed q) read = absurd read
one_known view (Read q limit) read = (tt, tt)
one_known view (Commit at) read = absurd read

pub knows_read : (before view : ServiceView) (note : Noted) → IsReadNote note → KnowsReads before view → KnowsReads before (notes view note)
knows_read before view note read knows = record {
  rest = knows.rest ++ note ∷ [];
  events = ap (λ (ns : List Noted). ns ++ note ∷ []) knows.events ∙ append_assoc before.events knows.rest (note ∷ []);
  known = λ all.
      known_append (notes view note) view.events (note ∷ [])
      (all_known_grow view (notes view note) view.events (noted_grows view (note ∷ [])) (knows.known (all_front knows.rest (note ∷ []) all)))
      (one_known (notes view note) note read);
}

-- ---- what both have, once the later one has more

module _ {A : Type 0} (of : ServiceView → List A) (passed before pass view : ServiceView) (more : List A) (is : of view ≡ of before ++ more) where
  pub none_more : pass ≡ passed → of view ≡ of before → of pass ≡ of passed ++ more
  none_more same quiet =
      let none : [] ≡ more = append_cancel_left (of before) [] more (append-nil (of before) ∙ sym quiet ∙ is) in
      ap of same ∙ sym (append-nil (of passed)) ∙ ap (λ (xs : List A). of passed ++ xs) none

  pub some_more : (first : ServiceView) → of first ≡ of passed → of first ≡ of before → of view ≡ of pass → of pass ≡ of passed ++ more
  some_more first from_pass from_view quiet =
      sym quiet ∙ is ∙ ap (λ (xs : List A). xs ++ more) (sym from_view ∙ from_pass)
