-- The service agrees with its seat's view again once it has done what was noted.
use Rattle.std.proofs.Common.{◌≡◌, ◌∙◌, ℕ, suc, ◌+◌, ◌-◌, ◌<◌, ◌⊎◌, Bool, true, false, List, [], ◌∷◌, ◌++◌, length, map, Some, set, refl, sym, ap, subst, arith, append-nil, length-set, inl, inr}
use Rattle.std.specs.Prelude.{cond}
use Rattle.std.specs.List.{flat_map}
use Rattle.std.proofs.lemmas.Grind.{flat_map-append}
use Rattle.std.proofs.lemmas.List.{map-set}
use Rattle.trace_model.specs.Images.{Patch}
use Rattle.trace_model.specs.Reading.{reading_of}
use Rattle.trace_model.specs.Sequences.{is_known}
use Rattle.trace_model.specs.Buffers.{Buffer}
use Rattle.trace_model.specs.History as model
use Rattle.trace_model.specs.History.{buffers_after}
use Rattle.page_geometry.specs.declared.chunk_header.ChunkHeader.{ChunkHeader}
use Rattle.page_geometry.specs.Header.{packed}
use Rattle.chunk_plain.specs.Setup.{Setup}
use Rattle.chunk_plain.specs.Views.{Content, Look, Taken, Noted, Arrive, ServiceView, taken_of}
use Rattle.chunk_plain.specs.World.{World}
use Rattle.chunk_plain.specs.Steps.{taken_counts, serviced}
use Rattle.chunk_plain.specs.Words.{AllArrived, LooksAt}
use Rattle.chunk_plain.specs.Meaning.{Meaning, IsServiceStep}
use Rattle.chunk_plain.proofs.SeatSteps.{serves_on, services_follow}
use Rattle.chunk_plain.proofs.ArrivedLemmas.{all_arrived, arrived_on, others_arrived}
use Rattle.chunk_plain.specs.Histories.{content_at, once_read, arrival_of, patches_of, happened, history_of}
use Rattle.trace_buffer.specs.declared.answers.BufferSpec.{BufferSpec}
use Rattle.world_model.specs.FirstBuffers as first
use Rattle.session_core.specs.Sessions.{SessionValue}
use Rattle.service_core.specs.declared.service.ServiceCore.{ServiceCore}
use Rattle.service_core.specs.Routing.{arrivals_of, is_closed_at}
use Rattle.service_core.specs.Order.{Stage, LeadTo, beginning}
use Rattle.world_model.specs.Accounts.{NoneCommitted}
use Rattle.service_core.specs.Agreement.{IsRouted, AreKnownNotes, buffer_of, ServiceAgrees, KeepsFields, KeepsRest, KeepsTaking, is_closed, first_of, spec_value}
use Rattle.service_core.specs.Calls.{ServesAt, ServesWriter, ServesOn, NotesAlone, NotesOn}
use Rattle.service_core.specs.Looking.{looked}
use Rattle.service_core.specs.Taking.{patched_where, takings, taken_more, took}
use Rattle.service_core.proofs.HistoryLemmas.{Grows, all_known_grow, known_append, history_stays}
use Rattle.service_core.proofs.TakingLemmas.{taken_here, taken_other, took_grows, looked_grows, last_content}
use Rattle.std.proofs.lemmas.Bool.{cases_eq}
use Rattle.service_core.proofs.OrderLemmas.{lead_both, lead_grows, lead_taken, lead_other}
use Rattle.service_core.proofs.RoutedLemmas.{closed_stays}
use Rattle.service_core.proofs.RouteLemmas.{buffers_append, buffers_none}

-- patches that are none change nothing
no_patches : (bs : List Buffer) (q : ℕ) → buffers_after bs (model.Patched q [] ∷ []) ≡ bs
no_patches [] q = refl
no_patches (b ∷ bs) q = ap (λ (x : Buffer). x ∷ buffers_after bs (model.Patched q [] ∷ [])) (step (is_known b.sequences q)) ∙ ap (λ (rest : List Buffer). b ∷ rest) (no_patches bs q)
  where
    step : (x : Bool) → cond x b b ≡ b
    step true = refl
    step false = refl

-- the patches behind an arrival, noted where there are any
patches_noted : (view : ServiceView) (q position : ℕ) (content : Content) (patches : List Patch) (bs : List Buffer) → content_at view q position ≡ Some content
    → content.patches ≡ patches → buffers_after bs (flat_map (happened view) (patched_where patches q position)) ≡ buffers_after bs (model.Patched q patches ∷ [])
patches_noted view q position content [] bs there is = buffers_none bs ∙ sym (no_patches bs q)
patches_noted view q position content (patch ∷ patches) bs there is =
    ap (λ (es : List model.Event). buffers_after bs (es ++ [])) (ap (patches_of q) there ∙ ap (λ (ps : List Patch). model.Patched q ps ∷ []) is)

-- the events of the notes of one chunk that was taken
one_taken : (view : ServiceView) (q position : ℕ) (content : Content) (bs : List Buffer) → content_at view q position ≡ Some content
    → content.image.sequence ≡ q → content.image.chunk_id ≡ position
    → buffers_after bs (flat_map (happened view) (takings q position (content ∷ [])))
    ≡ buffers_after (buffers_after bs (arrivals_of content.image)) (model.Patched q content.patches ∷ [])
one_taken view q position content bs there sequence_is position_is =
    let behind : List Noted = patched_where content.patches q position in
    let arrives : happened view (Arrive q position) ≡ arrivals_of content.image =
    ap (arrival_of q position) there
    ∙ ap (λ (s : ℕ). once_read (λ chunk. model.Arrives s position chunk) content.image.flags (reading_of content.image.count content.image.payload)) (sym sequence_is)
    ∙ ap (λ (i : ℕ). once_read (λ chunk. model.Arrives content.image.sequence i chunk) content.image.flags (reading_of content.image.count content.image.payload)) (sym position_is) in
    ap (λ (ns : List Noted). buffers_after bs (happened view (Arrive q position) ++ flat_map (happened view) ns)) (append-nil behind)
    ∙ ap (λ (es : List model.Event). buffers_after bs (es ++ flat_map (happened view) behind)) arrives
    ∙ buffers_append bs (arrivals_of content.image) (flat_map (happened view) behind)
    ∙ patches_noted view q position content content.patches (buffers_after bs (arrivals_of content.image)) there refl

-- the notes of one chunk that was taken are known
one_known : (view : ServiceView) (q position : ℕ) (content : Content) → content_at view q position ≡ Some content → AreKnownNotes view (takings q position (content ∷ []))
one_known view q position content there = ((content, there), known_append view (patched_where content.patches q position) [] (by_patches content.patches) tt)
  where
    by_patches : (patches : List Patch) → AreKnownNotes view (patched_where patches q position)
    by_patches [] = tt
    by_patches (patch ∷ patches) = ((content, there), tt)

-- the buffers were made from the same
pub first_stays : {S : Type 0} → (setup : Setup) (core done : ServiceCore S) → KeepsFields core done → first_of setup done ≡ first_of setup core
first_stays setup core done keeps = ap (λ (specs : List BufferSpec). first.first_buffers setup 1 (map spec_value specs)) keeps.specs

-- the order goes on with the notes of a chunk of this writer
pub order_here : (old new : ServiceView) (place : ℕ) (content : Content) (was is : Bool) → Grows old new → AreKnownNotes old old.events
    → content_at new (place + 2) (taken_of old place).count ≡ Some content → new.events ≡ old.events ++ takings (place + 2) (taken_of old place).count (content ∷ [])
    → (taken_of new place).count ≡ (taken_of old place).count + 1 → was ≡ false → is ≡ false
    → LeadTo old (place + 2) beginning old.events (record { come = (taken_of old place).count; closed = was; due = [] })
    → LeadTo new (place + 2) beginning new.events (record { come = (taken_of new place).count; closed = is; due = [] })
order_here old new place content was is grows known there events_are counted open_before open_after lead =
    let position : ℕ = (taken_of old place).count in
    let q : ℕ = place + 2 in
    let before = subst (λ (b : Bool). LeadTo new q beginning old.events (record { come = position; closed = b; due = [] })) open_before
    (lead_grows old new q beginning (record { come = position; closed = was; due = [] }) old.events grows known lead) in
    let both = lead_both new q beginning (record { come = position; closed = false; due = [] }) (record { come = suc position; closed = false; due = [] }) old.events (takings q position (content ∷ [])) before (lead_taken new q position content there) in
    let count : suc position ≡ (taken_of new place).count = omega (arith, counted) in
    subst (λ (b : Bool). LeadTo new q beginning new.events (record { come = (taken_of new place).count; closed = b; due = [] })) (sym open_after)
    (subst (λ (n : ℕ). LeadTo new q beginning new.events (record { come = n; closed = false; due = [] })) count
    (subst (λ (es : List Noted). LeadTo new q beginning es (record { come = suc position; closed = false; due = [] })) (sym events_are) both))

-- and with those of another writer, or of none
pub order_there : (old new : ServiceView) (place : ℕ) (notes : List Noted) (was is : Bool) → Grows old new → AreKnownNotes old old.events
    → new.events ≡ old.events ++ notes → (taken_of old place).count ≡ (taken_of new place).count → was ≡ is
    → LeadTo new (place + 2) (record { come = (taken_of old place).count; closed = was; due = [] }) notes (record { come = (taken_of old place).count; closed = was; due = [] })
    → LeadTo old (place + 2) beginning old.events (record { come = (taken_of old place).count; closed = was; due = [] })
    → LeadTo new (place + 2) beginning new.events (record { come = (taken_of new place).count; closed = is; due = [] })
order_there old new place notes was is grows known events_are counted closed more lead =
    let stage : Stage = record { come = (taken_of old place).count; closed = was; due = [] } in
    let q : ℕ = place + 2 in
    let both = lead_both new q beginning stage stage old.events notes (lead_grows old new q beginning stage old.events grows known lead) more in
    subst (λ (b : Bool). LeadTo new q beginning new.events (record { come = (taken_of new place).count; closed = b; due = [] })) closed
    (subst (λ (n : ℕ). LeadTo new q beginning new.events (record { come = n; closed = was; due = [] })) counted
    (subst (λ (es : List Noted). LeadTo new q beginning es stage) (sym events_are) both))

-- The view grew by notes of what the buffers did.
pub agrees_grown : {S : Type 0} → (setup : Setup) (old new : ServiceView) (core done : ServiceCore S) (notes : List Noted)
    → ServiceAgrees setup old core → KeepsFields core done → Grows old new → new.events ≡ old.events ++ notes → new.reading ≡ old.reading
    → length new.taken ≡ length old.taken → done.taken.items ≡ taken_counts new
    → done.buffers.items ≡ buffers_after core.buffers.items (flat_map (happened new) notes) → AllArrived new → AreKnownNotes new notes
    → ((place : ℕ) → place < length setup.writers → NoneCommitted new (place + 2)
    → LeadTo new (place + 2) beginning new.events (record { come = (taken_of new place).count; closed = is_closed setup done place; due = [] }))
    → ServiceAgrees setup new done
agrees_grown setup old new core done notes agrees keeps grows events_are reading_is many taken_is buffers_are arrived known order =
    let first : List Buffer = first_of setup core in
    record {
      layout = keeps.layout ∙ agrees.layout;
      writers = keeps.writers ∙ agrees.writers;
      routed = subst (λ (specs : List BufferSpec). IsRouted setup (length specs)) (sym keeps.specs) agrees.routed;
      many = many ∙ agrees.many;
      taken = taken_is;
      buffers = buffers_are
          ∙ ap (λ (bs : List Buffer). buffers_after bs (flat_map (happened new) notes)) agrees.buffers
          ∙ ap (λ (es : List model.Event). buffers_after (buffers_after first es) (flat_map (happened new) notes)) (sym (history_stays old new old.events grows agrees.known))
          ∙ sym (buffers_append first (flat_map (happened new) old.events) (flat_map (happened new) notes))
          ∙ ap (buffers_after first) (sym (flat_map-append (happened new) old.events notes))
          ∙ ap (λ (ns : List Noted). buffers_after first (flat_map (happened new) ns)) (sym events_are)
          ∙ ap (λ (bs : List Buffer). buffers_after bs (history_of new)) (sym (first_stays setup core done keeps));
      session = ap (λ (s : SessionValue). s.writers) keeps.session ∙ agrees.session;
      none_read = reading_is ∙ agrees.none_read;
      arrived = arrived;
      known = subst (AreKnownNotes new) (sym events_are) (known_append new old.events notes (all_known_grow old new old.events grows agrees.known) known);
      order = order;
    }

-- behind notes all has arrived still
pub arrived_behind : {T W S : Type 0} {means : Meaning T W S} {notes : List Noted} {table left : T} {seat after : S}
    → NotesAlone means notes table seat left after → AllArrived (means.service_view table seat) → AllArrived (means.service_view left after)
arrived_behind {means = means} {notes = notes} {table = table} {seat = seat} noted all =
    subst AllArrived (sym noted.view) (arrived_on (means.service_view table seat) notes all)

-- what is taken arrives
took_arrives : (old : ServiceView) (place : ℕ) (looks : List Look) (content : Content) → place < length old.taken → AllArrived old
    → AllArrived (took old place looks (content ∷ []))
took_arrives old place looks content inside all =
    let mid : ServiceView = record old { looks = old.looks ++ looks; taken = set old.taken place (taken_more (taken_of old place) (content ∷ [])) } in
    all_arrived mid place (taken_of old place).count (patched_where content.patches (place + 2) (taken_of old place).count ++ [])
    (others_arrived old mid place refl (ap (λ (t : Taken). t.count) (taken_here old place looks (content ∷ []) inside))
    (λ other differs. ap (λ (t : Taken). t.count) (taken_other old place other looks (content ∷ []) differs)) all)

pub agrees_took : {S : Type 0} → (setup : Setup) (old : ServiceView) (core done : ServiceCore S) (place : ℕ) (looks : List Look) (content : Content)
    → ServiceAgrees setup old core → KeepsFields core done → place < length old.taken → is_closed setup core place ≡ false
    → length (taken_of old place).contents ≡ (taken_of old place).count
    → content.image.sequence ≡ place + 2 → content.image.chunk_id ≡ (taken_of old place).count
    → done.buffers.items ≡ buffers_after (buffers_after core.buffers.items (arrivals_of content.image)) (model.Patched (place + 2) content.patches ∷ [])
    → done.taken.items ≡ set core.taken.items place ((taken_of old place).count + 1)
    → ServiceAgrees setup (took old place looks (content ∷ [])) done
agrees_took setup old core done place looks content agrees keeps inside open_here level sequence_is position_is buffers_are taken_is =
    let new : ServiceView = took old place looks (content ∷ []) in
    let position : ℕ = (taken_of old place).count in
    let there = last_content old place looks content inside level in
    agrees_grown setup old new core done (takings (place + 2) position (content ∷ [])) agrees keeps (took_grows old place looks (content ∷ []) inside) refl refl
    (length-set old.taken place (taken_more (taken_of old place) (content ∷ [])))
    (taken_is ∙ ap (λ (counts : List ℕ). set counts place (position + 1)) agrees.taken
    ∙ sym (map-set (λ (t : Taken). t.count) old.taken place (taken_more (taken_of old place) (content ∷ []))))
    (buffers_are ∙ sym (one_taken new (place + 2) position content core.buffers.items there sequence_is position_is))
    (took_arrives old place looks content inside agrees.arrived)
    (one_known new (place + 2) position content there)
    (λ p inside_p none. by_place p inside_p none (cases_eq p place))
  where
    stays : (p : ℕ) → p < length setup.writers → is_closed setup done p ≡ is_closed setup core p
    stays p inside_p = closed_stays setup old core done p content.image (place + 2) content.patches agrees buffers_are inside_p

    by_place : (p : ℕ) → p < length setup.writers → NoneCommitted (took old place looks (content ∷ [])) (p + 2) → (p ≡ place) ⊎ (p ≡ place → ⊥)
        → LeadTo (took old place looks (content ∷ [])) (p + 2) beginning (took old place looks (content ∷ [])).events (record { come = (taken_of (took old place looks (content ∷ [])) p).count; closed = is_closed setup done p; due = [] })
    by_place p inside_p none (inl same) =
        let new : ServiceView = took old place looks (content ∷ []) in
        let low : place < length setup.writers = subst (λ (n : ℕ). n < length setup.writers) same inside_p in
        subst (λ (n : ℕ). LeadTo new (n + 2) beginning new.events (record { come = (taken_of new n).count; closed = is_closed setup done n; due = [] })) (sym same)
        (order_here old new place content (is_closed setup core place) (is_closed setup done place) (took_grows old place looks (content ∷ []) inside) agrees.known
        (last_content old place looks content inside level) refl (ap (λ (t : Taken). t.count) (taken_here old place looks (content ∷ []) inside)) open_here (stays place low ∙ open_here)
        (agrees.order place low (subst (λ (n : ℕ). NoneCommitted old (n + 2)) same none)))
    by_place p inside_p none (inr differs) =
        let new : ServiceView = took old place looks (content ∷ []) in
        order_there old new p (takings (place + 2) (taken_of old place).count (content ∷ [])) (is_closed setup core p) (is_closed setup done p) (took_grows old place looks (content ∷ []) inside) agrees.known
        refl (ap (λ (t : Taken). t.count) (sym (taken_other old place p looks (content ∷ []) differs))) (sym (stays p inside_p))
        (lead_other new (p + 2) (place + 2) (taken_of old place).count (taken_of old p).count (is_closed setup core p) content (λ e. differs (let is : p ≡ place = omega (arith, e) in is)))
        (agrees.order p inside_p none)

-- a look alone changes nothing
pub agrees_seen : {S : Type 0} → (setup : Setup) (old new : ServiceView) (core : ServiceCore S) (seat : S) (chunk word : ℕ) (header : ChunkHeader)
    → LooksAt setup chunk word header old new → ServiceAgrees setup old core → ServiceAgrees setup new (record core { seat = seat })
agrees_seen setup old new core seat chunk word header looks agrees =
    let looks_more : List Look = record { chunk = chunk; word = word; header = packed header; found = looks.found; taken = taken_counts old } ∷ [] in
    let seen : ServiceView = looked old looks_more in
    let grows = looked_grows old looks_more in
    subst (λ (v : ServiceView). ServiceAgrees setup v (record core { seat = seat })) (sym looks.view)
    (agrees_grown setup old seen core (record core { seat = seat }) [] agrees (record { layout = refl; specs = refl; writers = refl; session = refl }) grows
    (sym (append-nil old.events)) refl refl agrees.taken (sym (buffers_none core.buffers.items)) agrees.arrived tt
    (λ p inside_p none.
    order_there old seen p [] (is_closed setup core p) (is_closed setup core p) grows agrees.known (sym (append-nil old.events)) refl refl refl (agrees.order p inside_p none)))

pub keeps_same : {S : Type 0} → (setup : Setup) (core : ServiceCore S) → KeepsRest setup core core
keeps_same setup core = record { fields = record { layout = refl; specs = refl; writers = refl; session = refl }; closed = λ place inside. refl }

pub keeps_both : {S : Type 0} → (setup : Setup) (old mid new : ServiceCore S) → KeepsRest setup old mid → KeepsRest setup mid new → KeepsRest setup old new
keeps_both setup old mid new one two = record {
  fields = record {
    layout = two.fields.layout ∙ one.fields.layout;
    specs = two.fields.specs ∙ one.fields.specs;
    writers = two.fields.writers ∙ one.fields.writers;
    session = two.fields.session ∙ one.fields.session;
  };
  closed = λ place inside. two.closed place inside ∙ one.closed place inside;
}

-- before any call the service serves on
pub goes_begin : {S T W : Type 0} {means : Meaning T W S} {table : T} {core : ServiceCore S} → ServesAt means table core → ServesOn means table core table core
goes_begin {means = means} {table = table} {core = core} at = record {
  agrees = at.agrees;
  keeps = keeps_same (means.setup table) core;
  step = serves_on means table core.seat at.serves;
}

-- calls one after another: what each leaves, all do
pub goes_on : {S T W : Type 0} {means : Meaning T W S} {first middle last : T} {old mid new : ServiceCore S}
    → ServesOn means first old middle mid → ServesOn means middle mid last new → ServesOn means first old last new
goes_on {means = means} {first = first} {middle = middle} {last = last} {old = old} {mid = mid} {new = new} one two = record {
  agrees = subst (λ (s : Setup). ServiceAgrees s (means.service_view last new.seat) new) one.step.setup_stays two.agrees;
  keeps = keeps_both (means.setup first) old mid new one.keeps (subst (λ (s : Setup). KeepsRest s mid new) one.step.setup_stays two.keeps);
  step = services_follow means first old.seat middle mid.seat last new.seat one.step two.step;
}

-- and where a call has gone on, the next one may begin
pub goes_at : {S T W : Type 0} {means : Meaning T W S} {first middle : T} {old mid : ServiceCore S} → ServesOn means first old middle mid → ServesAt means middle mid
goes_at {means = means} {middle = middle} {mid = mid} on = record {
  serves = on.step.seat_stays;
  agrees = subst (λ (s : Setup). ServiceAgrees s (means.service_view middle mid.seat) mid) (sym on.step.setup_stays) on.agrees;
}

-- behind a look it serves on
pub looks_on : {S T W : Type 0} (means : Meaning T W S) (table : T) (core : ServiceCore S) (left : T) (seat : S) (chunk word : ℕ) (header : ChunkHeader)
    → ServesAt means table core → LooksAt (means.setup table) chunk word header (means.service_view table core.seat) (means.service_view left seat)
    → IsServiceStep means table core.seat left seat → ServesOn means table core left (record core { seat = seat })
looks_on means table core left seat chunk word header at looks step = record {
  agrees = agrees_seen (means.setup table) (means.service_view table core.seat) (means.service_view left seat) core seat chunk word header looks at.agrees;
  keeps = record { fields = record { layout = refl; specs = refl; writers = refl; session = refl }; closed = λ place inside. refl };
  step = step;
}

-- the same where nothing is taken
pub notes_begin : {S T W : Type 0} {means : Meaning T W S} {table : T} {core : ServiceCore S} → ServesAt means table core
    → ((world : World) → means.told table ≡ Some world → means.service_view table core.seat ≡ world.service) → NotesOn means table core table core
notes_begin at same = record { service = goes_begin at; told = λ world is. is ∙ ap (λ (v : ServiceView). Some (serviced world v)) (sym (same world is)) }

pub notes_on : {S T W : Type 0} {means : Meaning T W S} {first middle last : T} {old mid new : ServiceCore S}
    → NotesOn means first old middle mid → NotesOn means middle mid last new → NotesOn means first old last new
notes_on one two = record { service = goes_on one.service two.service; told = λ world is. two.told _ (one.told world is) }

-- also for a writer whose sequence was open before
pub writer_at : {S T W : Type 0} {means : Meaning T W S} {first middle : T} {old mid : ServiceCore S} → ServesOn means first old middle mid → (place : ℕ)
    → place < length (means.setup first).writers → is_closed (means.setup first) old place ≡ false → ServesWriter means middle mid place
writer_at {means = means} {mid = mid} on place inside open_here = record {
  service = goes_at on;
  inside = subst (λ (s : Setup). place < length s.writers) (sym on.step.setup_stays) inside;
  is_open = subst (λ (s : Setup). is_closed s mid place ≡ false) (sym on.step.setup_stays) (on.keeps.closed place inside ∙ open_here);
}

pub writer_on : {S T W : Type 0} {means : Meaning T W S} {first middle : T} {old mid : ServiceCore S} {place : ℕ}
    → ServesOn means first old middle mid → ServesWriter means first old place → ServesWriter means middle mid place
writer_on {place = place} on writer = writer_at on place writer.inside writer.is_open

-- the session's own calls leave the agreement
pub agrees_kept : {S : Type 0} → (setup : Setup) (view : ServiceView) (core done : ServiceCore S) → KeepsTaking core done → ServiceAgrees setup view core → ServiceAgrees setup view done
agrees_kept setup view core done keeps agrees = record {
  layout = keeps.layout ∙ agrees.layout;
  writers = keeps.writers ∙ agrees.writers;
  routed = subst (λ (specs : List BufferSpec). IsRouted setup (length specs)) (sym keeps.specs) agrees.routed;
  many = agrees.many;
  taken = keeps.taken ∙ agrees.taken;
  buffers = keeps.buffers ∙ agrees.buffers
      ∙ ap (λ (specs : List BufferSpec). buffers_after (first.first_buffers setup 1 (map spec_value specs)) (history_of view)) (sym keeps.specs);
  session = keeps.session ∙ agrees.session;
  none_read = agrees.none_read;
  arrived = agrees.arrived;
  known = agrees.known;
  order = λ place inside none.
      subst (λ (b : Bool). LeadTo view (place + 2) beginning view.events (record { come = (taken_of view place).count; closed = b; due = [] }))
      (sym (ap (λ (bs : List Buffer). is_closed_at bs (buffer_of setup place - 1) (place + 2)) keeps.buffers)) (agrees.order place inside none);
}
