-- One event of a history of commits: what is known is kept, and its reader stays where it was, but for reads of the sequence itself.
use Rattle.std.proofs.Common.{◌≡◌, ◌∙◌, ℕ, ◌<◌, Bool, true, false, List, [], ◌∷◌, ◌++◌, length, refl, sym, ap, subst, arith}
use Rattle.std.specs.Prelude.{cond, ◌==◌, slice_get, MatchBool}
use Rattle.std.proofs.lemmas.Bool.{false≢true, eqb-false, eqb-true}
use Rattle.trace_model.specs.Arrivals.{image_arrival_of}
use Rattle.trace_model.specs.Buffers.{Buffer}
use Rattle.trace_model.specs.History.{Event, Arrives, ArrivesInPart, Patched, Committed, Closed, Read, after, buffer_after, delivered_at, event_sequence}
use Rattle.trace_model.specs.Images.{Image, Patch, whole_chunk}
use Rattle.trace_model.specs.Reads.{delivered_by}
use Rattle.trace_model.specs.Sequences.{is_among, is_known, sequence_in, with_number}
use Rattle.delivery_laws.specs.Sheets.{Sheet}
use Rattle.delivery_laws.proofs.DeliversAll.{taken}
use Rattle.delivery_laws.proofs.HistoryLemmas.{as_long}
use Rattle.delivery_laws.proofs.KeepLemmas.{Keeps, SameReader, keeps_event, reader_kept}
use Rattle.delivery_laws.proofs.KnownLemmas.{completes_shows}
use Rattle.delivery_laws.proofs.Walks.{Inside}
use Rattle.commit_laws.specs.CommitHistories.{AreCommitted, IsImageOf, patches_to}
use Rattle.commit_laws.specs.Commits.{NoneIsRefused, commits_in, patches_brought, refuses}
use Rattle.commit_laws.proofs.CommitEvents.{close_met, commit_met, met_kept}
use Rattle.commit_laws.proofs.MetRecords.{IsMet, IsMetRecord}

-- the event is a read of the sequence
abbrev pub is_read_of : ℕ → Event → Bool
is_read_of q (Read other limit) = other == q
is_read_of q event = false

pub own_read : (q : ℕ) (event : Event) → is_read_of q event ≡ true → (limit : ℕ) × (event ≡ Read q limit)
own_read q (Arrives other id chunk) e = absurd (false≢true e)
own_read q (ArrivesInPart other id chunk) e = absurd (false≢true e)
own_read q (Patched other patches) e = absurd (false≢true e)
own_read q (Committed image patches) e = absurd (false≢true e)
own_read q (Closed other) e = absurd (false≢true e)
own_read q (Read other limit) e = (limit, ap (λ (n : ℕ). Read n limit) (eqb-true other q e))

-- any other event delivers nothing of it
pub none_delivered : (q : ℕ) (b : Buffer) (event : Event) → is_read_of q event ≡ false → delivered_at q b event ≡ []
none_delivered q b (Arrives other id chunk) e = refl
none_delivered q b (ArrivesInPart other id chunk) e = refl
none_delivered q b (Patched other patches) e = refl
none_delivered q b (Committed image patches) e = refl
none_delivered q b (Closed other) e = refl
none_delivered q b (Read other limit) e = ap (λ (x : Bool). cond x (delivered_by b other limit) []) e

module _ (sheets : List Sheet) (q : ℕ) where
  -- what is known before these events, with what they are to bring
  pub record IsOn (came : List ℕ) (closed : Bool) (b : Buffer) (events : List Event) : Type 0 where
    pub met : IsMet sheets q came closed (patches_to q events) b
    pub committed : AreCommitted sheets q came closed events
    pub accepted : NoneIsRefused q b events

  -- and behind one event, which moves no reader
  pub record GoesOn (b after : Buffer) (events : List Event) : Type 0 where
    pub came : List ℕ
    pub closed : Bool
    pub on : IsOn came closed after events
    pub reader : SameReader (sequence_in b.sequences q) (sequence_in after.sequences q)

  module _ (came : List ℕ) (closed : Bool) (b : Buffer) (events : List Event) where
    -- an event of another sequence
    other_on : (event : Event) → (event_sequence event ≡ q → ⊥) → IsMet sheets q came closed (patches_to q events) b → AreCommitted sheets q came closed events
        → NoneIsRefused q (buffer_after b event) events → GoesOn b (buffer_after b event) events
    other_on event other met committed accepted =
        let keeps : Keeps q (IsMetRecord sheets came (patches_to q events)) b (buffer_after b event) = keeps_event q (IsMetRecord sheets came (patches_to q events)) b event other in
        record {
          came = came;
          closed = closed;
          on = record { met = met_kept sheets q came closed (patches_to q events) b (buffer_after b event) met keeps; committed = committed; accepted = accepted };
          reader = reader_kept (sequence_in b.sequences q) (sequence_in (buffer_after b event).sequences q) (keeps.same met.known);
        }

    commit_on : (image : Image) (patches : List Patch) → IsMet sheets q came closed (patches_to q (Committed image patches ∷ events)) b
        → AreCommitted sheets q came closed (Committed image patches ∷ events) → NoneIsRefused q b (Committed image patches ∷ events)
        → Inside sheets (sequence_in b.sequences q).cursor.chunk_id (sequence_in b.sequences q).cursor.passed → GoesOn b (buffer_after b (Committed image patches)) events
    commit_on image patches met committed accepted inside = by_own (image.sequence == q) refl met committed accepted.0
      where
        own : (image.sequence == q) ≡ true → closed ≡ false → IsMet sheets q came closed (patches ++ patches_to q events) b → IsImageOf sheets (patches ++ patches_to q events) image
            → refuses (image_arrival_of b image) ≡ false → AreCommitted sheets q (with_number image.chunk_id came) false events → GoesOn b (buffer_after b (Committed image patches)) events
        own e open_now met is accept rest =
            let sequence_is : image.sequence ≡ q = eqb-true image.sequence q e in
            let complete = is.complete in
            let done = commit_met sheets q came (patches_to q events) image patches sequence_is b (subst (λ (c : Bool). IsMet sheets q came c (patches ++ patches_to q events) b) open_now met) accept
            is.fragments is.reads complete (λ at.
            let low = inside complete.sheet (ap (slice_get sheets) at ∙ complete.there) in
            let long = as_long (whole_chunk image.flags is.fragments).awaits is.fragments complete.sheet.written
            (completes_shows (patches ++ patches_to q events) image.chunk_id (whole_chunk image.flags is.fragments).awaits is.fragments complete.sheet.written complete.completes) in
            omega (arith, low, long)) in
            let now = taken b (Committed image patches) (ap (is_known b.sequences) sequence_is ∙ met.known) in
            record {
              came = with_number image.chunk_id came;
              closed = false;
              on = record {
                met = subst (IsMet sheets q (with_number image.chunk_id came) false (patches_to q events)) now done.0;
                committed = rest;
                accepted = accepted.1;
              };
              reader = subst (λ (c : Buffer). SameReader (sequence_in b.sequences q) (sequence_in c.sequences q)) now done.1;
            }

        by_own : (x : Bool) → (image.sequence == q) ≡ x
            → IsMet sheets q came closed (patches_brought (cond x (record { image = image; patches = patches } ∷ commits_in q events) (commits_in q events))) b
            → MatchBool x ((closed ≡ false) × IsImageOf sheets (patches ++ patches_to q events) image × AreCommitted sheets q (with_number image.chunk_id came) closed events)
            (AreCommitted sheets q came closed events)
            → (x ≡ true → refuses (image_arrival_of b image) ≡ false) → GoesOn b (buffer_after b (Committed image patches)) events
        by_own true e met h accept =
            own e h.0 met h.1 (accept refl) (subst (λ (c : Bool). AreCommitted sheets q (with_number image.chunk_id came) c events) h.0 h.2)
        by_own false e met h accept = other_on (Committed image patches) (eqb-false image.sequence q e) met h accepted.1

    close_on : (other : ℕ) → IsMet sheets q came closed (patches_to q events) b → AreCommitted sheets q came closed (Closed other ∷ events) → NoneIsRefused q b (Closed other ∷ events)
        → GoesOn b (buffer_after b (Closed other)) events
    close_on other met committed accepted = by_own (other == q) refl committed
      where
        by_own : (x : Bool) → (other == q) ≡ x
            → MatchBool x (((i : ℕ) → i < length sheets → is_among i came ≡ true) × AreCommitted sheets q came true events) (AreCommitted sheets q came closed events)
            → GoesOn b (buffer_after b (Closed other)) events
        by_own true e h =
            let same : other ≡ q = eqb-true other q e in
            let done = close_met sheets q came (patches_to q events) closed b met h.0 in
            let now : after b (Closed q) ≡ buffer_after b (Closed other) =
            taken b (Closed q) met.known ∙ ap (λ (n : ℕ). buffer_after b (Closed n)) (sym same) in
            record {
              came = came;
              closed = true;
              on = record { met = subst (IsMet sheets q came true (patches_to q events)) now done.0; committed = h.1; accepted = accepted };
              reader = subst (λ (c : Buffer). SameReader (sequence_in b.sequences q) (sequence_in c.sequences q)) now done.1;
            }
        by_own false e h = other_on (Closed other) (eqb-false other q e) met h accepted

    pub event_on : (event : Event) → is_read_of q event ≡ false → IsOn came closed b (event ∷ events)
        → Inside sheets (sequence_in b.sequences q).cursor.chunk_id (sequence_in b.sequences q).cursor.passed → GoesOn b (buffer_after b event) events
    event_on (Arrives other id chunk) e on inside = other_on (Arrives other id chunk) (eqb-false other q on.committed.0) on.met on.committed.1 on.accepted
    event_on (ArrivesInPart other id chunk) e on inside = other_on (ArrivesInPart other id chunk) (eqb-false other q on.committed.0) on.met on.committed.1 on.accepted
    event_on (Patched other patches) e on inside = other_on (Patched other patches) (eqb-false other q on.committed.0) on.met on.committed.1 on.accepted
    event_on (Committed image patches) e on inside = commit_on image patches on.met on.committed on.accepted inside
    event_on (Closed other) e on inside = close_on other on.met on.committed on.accepted
    event_on (Read other limit) e on inside = other_on (Read other limit) (eqb-false other q e) on.met on.committed on.accepted
