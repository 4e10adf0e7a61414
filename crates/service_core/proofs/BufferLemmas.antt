-- The reads of a buffer, one behind another.
use Rattle.std.proofs.Common.{◌≡◌, ◌≢◌, ◌∙◌, ℕ, suc, ◌+◌, ◌-◌, ◌<◌, ◌≤◌, ◌==◌, Bool, List, [], ◌∷◌, ◌++◌, length, drop, refl, sym, ap, subst, arith, append-nil, append_assoc, length-append}
use Rattle.std.specs.Prelude.{cond}
use Rattle.std.specs.List.{flat_map}
use Rattle.std.proofs.lemmas.Bool.{eq-eqb, ne_eqb}
use Rattle.std.proofs.lemmas.Grind.{flat_map-append}
use Rattle.std.proofs.lemmas.List.{drop_more, drop_all, length-map}
use Rattle.byte_io.specs.Bytes.{Intake, after_told}
use Rattle.byte_io.proofs.Told.{after_told_again, after_told_nothing}
use Rattle.trace_base.specs.declared.policy.WriterSpec.{WriterSpec}
use Rattle.trace_model.specs.Buffers.{Buffer}
use Rattle.trace_model.specs.Delivery.{Delivered, trace_of}
use Rattle.trace_model.specs.Reads.{delivered_by, with_read}
use Rattle.trace_model.specs.History as model
use Rattle.trace_model.specs.History.{Event, buffers_after, record_in, records_at, records_after, reads_of}
use Rattle.chunk_plain.specs.Setup.{Setup, no_writer}
use Rattle.chunk_plain.specs.Views.{Noted, Read, ServiceView}
use Rattle.chunk_plain.specs.Histories.{happened, history_of}
use Rattle.service_core.specs.declared.service.ServiceCore.{ServiceCore}
use Rattle.service_core.specs.Routing.{buffer_at, IsAt}
use Rattle.service_core.specs.Agreement.{AreKnownNotes, ServiceAgrees, first_of, spec_at, buffer_of}
use Rattle.service_core.specs.Reading.{sequences_to, reads_in, noted_read, NotesReads, ReadsAll, FailsIn, FailsAmong, ReadsOne, FailsOne, ReadsSome, read_moment, read_yet}
use Rattle.service_core.specs.Taking.{noted_more}
use Rattle.service_core.proofs.HistoryLemmas.{history_stays}
use Rattle.service_core.proofs.RouteLemmas.{buffers_append, buffers_none, at_after}
use Rattle.service_core.proofs.CloseLemmas.{noted_grows}
use Rattle.service_core.proofs.ReadingLemmas.{trace_append, records_append, records_here}

-- The sequences of a buffer from a writer on

sequences_next : (number : ℕ) (specs : List WriterSpec) (i : ℕ) → i < length specs
    → sequences_to number i (drop i specs)
    ≡ cond ((spec_at specs i).buffer == number) ((i + 2) ∷ sequences_to number (i + 1) (drop (i + 1) specs)) (sequences_to number (i + 1) (drop (i + 1) specs))
sequences_next number specs i below =
    ap (sequences_to number i) (drop_more specs i no_writer below)
    ∙ ap (λ (n : ℕ). cond ((spec_at specs i).buffer == number) ((i + 2) ∷ sequences_to number n (drop (i + 1) specs)) (sequences_to number n (drop (i + 1) specs)))
    (let same : suc i ≡ i + 1 = omega arith in same)

sequences_here : (number : ℕ) (specs : List WriterSpec) (i : ℕ) → i < length specs → (spec_at specs i).buffer ≡ number
    → sequences_to number i (drop i specs) ≡ (i + 2) ∷ sequences_to number (i + 1) (drop (i + 1) specs)
sequences_here number specs i below same =
    sequences_next number specs i below
    ∙ ap (λ (b : Bool). cond b ((i + 2) ∷ sequences_to number (i + 1) (drop (i + 1) specs)) (sequences_to number (i + 1) (drop (i + 1) specs)))
    (eq-eqb (spec_at specs i).buffer number same)

sequences_there : (number : ℕ) (specs : List WriterSpec) (i : ℕ) → i < length specs → (spec_at specs i).buffer ≢ number
    → sequences_to number i (drop i specs) ≡ sequences_to number (i + 1) (drop (i + 1) specs)
sequences_there number specs i below differs =
    sequences_next number specs i below
    ∙ ap (λ (b : Bool). cond b ((i + 2) ∷ sequences_to number (i + 1) (drop (i + 1) specs)) (sequences_to number (i + 1) (drop (i + 1) specs)))
    (ne_eqb (spec_at specs i).buffer number differs)

sequences_end : (number : ℕ) (specs : List WriterSpec) (i : ℕ) → length specs ≤ i → sequences_to number i (drop i specs) ≡ []
sequences_end number specs i past = ap (sequences_to number i) (drop_all i specs past)

-- One read more was noted.

-- what the view, its history and its notes are then
noted_one : (old mid new : ServiceView) (events : List Event) (q n : ℕ) → mid ≡ noted_more old (flat_map noted_read events) → new ≡ noted_more mid (Read q n ∷ [])
    → new ≡ noted_more old (flat_map noted_read (events ++ model.Read q n ∷ []))
noted_one old mid new events q n before one =
    one ∙ ap (λ (v : ServiceView). noted_more v (Read q n ∷ [])) before
    ∙ ap (λ (ns : List Noted). record old { events = ns }) (append_assoc old.events (flat_map noted_read events) (Read q n ∷ []))
    ∙ ap (λ (ns : List Noted). noted_more old ns) (sym (flat_map-append noted_read events (model.Read q n ∷ [])))

history_one : (mid new : ServiceView) (was events : List Event) (q n : ℕ) → AreKnownNotes mid mid.events → history_of mid ≡ was ++ events → new ≡ noted_more mid (Read q n ∷ [])
    → history_of new ≡ was ++ (events ++ model.Read q n ∷ [])
history_one mid new was events q n known before one =
    let more : ServiceView = noted_more mid (Read q n ∷ []) in
    ap history_of one
    ∙ flat_map-append (happened more) mid.events (Read q n ∷ [])
    ∙ ap (λ (es : List Event). es ++ model.Read q n ∷ []) (history_stays mid more mid.events (noted_grows mid (Read q n ∷ [])) known ∙ before)
    ∙ append_assoc was events (model.Read q n ∷ [])

records_one : (bs later : List Buffer) (events : List Event) (event : Event) → later ≡ buffers_after bs events
    → records_after bs (events ++ event ∷ []) ≡ records_after bs events ++ records_at later event
records_one bs later events event are =
    records_append bs events (event ∷ [])
    ∙ ap (λ (ds : List Delivered). records_after bs events ++ ds) (append-nil (records_at (buffers_after bs events) event))
    ∙ ap (λ (cs : List Buffer). records_after bs events ++ records_at cs event) (sym are)

-- The reads that are still to come

-- the first of them, and the others behind it
next_read : (bs : List Buffer) (index q size left : ℕ) (others : List ℕ) → IsAt bs index q size
    → reads_of left (buffer_at bs index) (q ∷ others)
    ≡ model.Read q left
    ∷ reads_of (left - length (records_at bs (model.Read q left))) (buffer_at (buffers_after bs (model.Read q left ∷ [])) index) others
next_read bs index q size left others at =
    let b : Buffer = buffer_at bs index in
    let behind : buffer_at (buffers_after bs (model.Read q left ∷ [])) index ≡ with_read b q left =
    at_after bs index (model.Read q left ∷ []) at.inside ∙ ap (λ (x : Bool). cond x (with_read b q left) b) at.known in
    let many : length (records_at bs (model.Read q left)) ≡ length (delivered_by b q left) =
    ap (λ (ds : List Delivered). length ds) (records_here bs index q size left at) ∙ length-map (delivered_by b q left) (record_in q) in
    ap (λ (x : Buffer). model.Read q left ∷ reads_of (left - length (delivered_by b q left)) x others) (sym behind)
    ∙ ap (λ (n : ℕ). model.Read q left ∷ reads_of (left - n) (buffer_at (buffers_after bs (model.Read q left ∷ [])) index) others) (sym many)

-- what a history writes is more by the records of what was noted behind it
trace_more : {S : Type 0} → (setup : Setup) (core : ServiceCore S) (old new : ServiceView) (events : List Event) → ServiceAgrees setup old core
    → history_of new ≡ history_of old ++ events
    → records_after (first_of setup core) (history_of new) ≡ records_after (first_of setup core) (history_of old) ++ records_after core.buffers.items events
trace_more setup core old new events agrees history =
    let first : List Buffer = first_of setup core in
    ap (records_after first) history
    ∙ records_append first (history_of old) events
    ∙ ap (λ (bs : List Buffer). records_after first (history_of old) ++ records_after bs events) (sym agrees.buffers)

-- The reading of a buffer goes on
module _ {S : Type 0} (setup : Setup) (core : ServiceCore S) (number limit : ℕ) (old : ServiceView) (before : Intake) where
  pub reads_begin : ReadsSome setup core number limit (read_yet core 0 limit) (read_moment old before) (read_moment old before)
  reads_begin = record {
    events = [];
    rest = refl;
    view = ap (λ (ns : List Noted). record old { events = ns }) (sym (append-nil old.events));
    history = sym (append-nil (history_of old));
    buffers = sym (buffers_none core.buffers.items);
    taken = sym (after_told_nothing before);
    many = (let plain : 0 + limit ≡ limit = omega arith in plain);
  }

  pub reads_skip : (now : ServiceCore S) (place left : ℕ) (mid : ServiceView) (taken : Intake) → ReadsSome setup core number limit (read_yet now place left) (read_moment old before) (read_moment mid taken)
      → place < length setup.writers → buffer_of setup place ≢ number → ReadsSome setup core number limit (read_yet now (place + 1) left) (read_moment old before) (read_moment mid taken)
  reads_skip now place left mid taken some below differs = record {
    events = some.events;
    rest = some.rest
        ∙ ap (λ (qs : List ℕ). some.events ++ reads_of left (buffer_at now.buffers.items (number - 1)) qs) (sequences_there number setup.writers place below differs);
    view = some.view;
    history = some.history;
    buffers = some.buffers;
    taken = some.taken;
    many = some.many;
  }

  module _ (mid : ServiceCore S) (place left size : ℕ) (between : ServiceView) (taken : Intake) (some : ReadsSome setup core number limit (read_yet mid place left) (read_moment old before) (read_moment between taken))
      (below : place < length setup.writers) (same : buffer_of setup place ≡ number) (at : IsAt mid.buffers.items (number - 1) (place + 2) size)
      (known : AreKnownNotes between between.events) where
    -- what is still to come behind the next read
    abbrev others : List Event
    others =
        reads_of (left - length (records_at mid.buffers.items (model.Read (place + 2) left)))
        (buffer_at (buffers_after mid.buffers.items (model.Read (place + 2) left ∷ [])) (number - 1))
        (sequences_to number (place + 1) (drop (place + 1) setup.writers))

    cut : reads_in setup core.buffers.items number limit ≡ some.events ++ model.Read (place + 2) left ∷ others
    cut =
        some.rest
        ∙ ap (λ (qs : List ℕ). some.events ++ reads_of left (buffer_at mid.buffers.items (number - 1)) qs) (sequences_here number setup.writers place below same)
        ∙ ap (λ (es : List Event). some.events ++ es)
        (next_read mid.buffers.items (number - 1) (place + 2) size left (sequences_to number (place + 1) (drop (place + 1) setup.writers)) at)

    pub reads_add : (now : ServiceCore S) (new : ServiceView) (after : Intake) (delivered : ℕ) → ReadsOne mid now (place + 2) left delivered (read_moment between taken) (read_moment new after)
        → ReadsSome setup core number limit (read_yet now (place + 1) (left - delivered)) (read_moment old before) (read_moment new after)
    reads_add now new after delivered one =
        let event : Event = model.Read (place + 2) left in
        let bs : List Buffer = core.buffers.items in
        let here : List Delivered = records_at mid.buffers.items event in
        let records = records_one bs mid.buffers.items some.events event some.buffers in
        record {
          events = some.events ++ event ∷ [];
          rest = cut
              ∙ sym (append_assoc some.events (event ∷ []) others)
              ∙ ap (λ (n : ℕ). (some.events ++ event ∷ []) ++ reads_of (left - n) (buffer_at (buffers_after mid.buffers.items (event ∷ [])) (number - 1)) (sequences_to number (place + 1) (drop (place + 1) setup.writers))) (sym one.many)
              ∙ ap (λ (cs : List Buffer). (some.events ++ event ∷ []) ++ reads_of (left - delivered) (buffer_at cs (number - 1)) (sequences_to number (place + 1) (drop (place + 1) setup.writers))) (sym one.buffers);
          view = noted_one old between new some.events (place + 2) left some.view one.view;
          history = history_one between new (history_of old) some.events (place + 2) left known some.history one.view;
          buffers = one.buffers ∙ ap (λ (cs : List Buffer). buffers_after cs (event ∷ [])) some.buffers ∙ sym (buffers_append bs some.events (event ∷ []));
          taken = one.taken
              ∙ ap (λ (i : Intake). after_told i (trace_of here)) some.taken
              ∙ after_told_again before (trace_of (records_after bs some.events)) (trace_of here)
              ∙ ap (after_told before) (sym (trace_append (records_after bs some.events) here))
              ∙ ap (λ (ds : List Delivered). after_told before (trace_of ds)) (sym records);
          many =
              let sum = some.many in
              let most = one.most in
              let is = one.many in
              let long = ap (λ (ds : List Delivered). length ds) records ∙ length-append (records_after bs some.events) here in
              omega (arith, sum, most, is, long);
        }

    pub reads_fail : (new : ServiceView) (after : Intake) → ServiceAgrees setup old core → FailsOne mid (place + 2) left (read_moment between taken) (read_moment new after)
        → FailsAmong setup core number limit (read_moment old before) (read_moment new after)
    reads_fail new after agrees one =
        let event : Event = model.Read (place + 2) one.count in
        let history = history_one between new (history_of old) some.events (place + 2) one.count known some.history one.view in
        record {
          firsts = some.events;
          sequence = place + 2;
          left = left;
          count = one.count;
          others = others;
          cut = cut;
          notes = record {
            view = noted_one old between new some.events (place + 2) one.count some.view one.view;
            history = history;
            trace = trace_more setup core old new (some.events ++ event ∷ []) agrees history;
          };
          fails = subst (λ (cs : List Buffer). FailsIn cs (place + 2) left one.count (after_told before (trace_of (records_after core.buffers.items some.events))) after) some.buffers
              (subst (λ (i : Intake). FailsIn mid.buffers.items (place + 2) left one.count i after) some.taken one.fails);
        }

  pub reads_end : (now : ServiceCore S) (place left delivered : ℕ) (new : ServiceView) (after : Intake) → ReadsSome setup core number limit (read_yet now place left) (read_moment old before) (read_moment new after)
      → ServiceAgrees setup old core → length setup.writers ≤ place → delivered ≡ limit - left → ReadsAll setup core number limit delivered (read_moment old before) (read_moment new after)
  reads_end now place left delivered new after some agrees past is =
      let all : reads_in setup core.buffers.items number limit ≡ some.events =
      some.rest
      ∙ ap (λ (qs : List ℕ). some.events ++ reads_of left (buffer_at now.buffers.items (number - 1)) qs) (sequences_end number setup.writers place past)
      ∙ append-nil some.events in
      let sum = some.many in
      record {
        notes = subst (λ (es : List Event). NotesReads setup core es old new) (sym all)
            (record { view = some.view; history = some.history; trace = trace_more setup core old new some.events agrees some.history });
        taken = some.taken ∙ ap (λ (es : List Event). after_told before (trace_of (records_after core.buffers.items es))) (sym all);
        many = (let one : delivered ≡ length (records_after core.buffers.items some.events) = omega (arith, sum, is) in one)
            ∙ ap (λ (es : List Event). length (records_after core.buffers.items es)) (sym all);
      }
