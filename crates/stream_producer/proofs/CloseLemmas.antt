-- Sequences that are closed one after another.
use Rattle.std.proofs.Common.{◌≡◌, ◌≢◌, ◌∙◌, ℕ, zero, suc, ◌+◌, ◌<◌, ◌≤◌, false, List, [], ◌∷◌, ◌++◌, length, map, refl, sym, ap, subst, append_assoc, append-nil, arith, add-one}
use Rattle.std.proofs.lemmas.List.Concat.{flat_map-append}
use Rattle.trace_base.specs.declared.policy.WriterSpec.{WriterSpec}
use Rattle.trace_model.specs.History as model
use Rattle.trace_model.specs.History.{Event, buffers_after}
use Rattle.chunk_plain.specs.Histories.{happened, history_of}
use Rattle.chunk_plain.specs.Meaning.{Meaning, IsServiceStep}
use Rattle.chunk_plain.specs.Setup.{Setup, sequence_of}
use Rattle.chunk_plain.specs.Views.{Noted, Closed, ServiceView}
use Rattle.world_model.specs.FirstBuffers as first
use Rattle.trace_buffer.specs.declared.answers.BufferSpec.{BufferSpec}
use Rattle.service_core.specs.Agreement.{AreKnownNotes, ServiceAgrees, first_of, is_closed, spec_value}
use Rattle.service_core.specs.Closing.{ClosesOne}
use Rattle.service_core.specs.Taking.{noted_more}
use Rattle.service_core.proofs.CloseLemmas.{noted_grows}
use Rattle.service_core.proofs.HistoryLemmas.{history_stays}
use Rattle.stream_producer.specs.declared.player.Player.{Player}
use Rattle.stream_producer.specs.Ending.{Closes}
use Rattle.stream_producer.specs.History.{closes_from}
use Rattle.stream_producer.specs.Standing.{Serves, Stands, view_of}
use Rattle.stream_producer.proofs.CallLemmas.{serves_on, buffers_on}

-- the closes of so many sequences
abbrev pub closes_to : ℕ → List Event
closes_to zero = []
closes_to (suc count) = closes_to count ++ model.Closed (sequence_of count) ∷ []

-- those and the later ones
closes_both : (place : ℕ) (specs : List WriterSpec) → closes_to place ++ closes_from place specs ≡ closes_to (place + length specs)
closes_both place [] = append-nil (closes_to place) ∙ ap closes_to (let same : place ≡ place + 0 = omega arith in same)
closes_both place (spec ∷ specs) =
    sym (append_assoc (closes_to place) (model.Closed (sequence_of place) ∷ []) (closes_from (suc place) specs))
    ∙ closes_both (suc place) specs
    ∙ ap closes_to (let same : suc place + length specs ≡ place + suc (length specs) = omega arith in same)

pub closes_all : (specs : List WriterSpec) (count : ℕ) → count ≡ length specs → closes_to count ≡ closes_from 0 specs
closes_all specs count is =
    ap closes_to is ∙ ap closes_to (let same : length specs ≡ 0 + length specs = omega arith in same) ∙ sym (closes_both 0 specs)

-- a close that is noted is one event more
close_happens : (view : ServiceView) (sequence : ℕ) → AreKnownNotes view view.events
    → history_of (noted_more view (Closed sequence ∷ [])) ≡ history_of view ++ model.Closed sequence ∷ []
close_happens view sequence known =
    let note : List Noted = Closed sequence ∷ [] in
    let new : ServiceView = noted_more view note in
    flat_map-append (happened new) view.events note
    ∙ ap (λ (es : List Event). es ++ model.Closed sequence ∷ []) (history_stays view new view.events (noted_grows view note) known)

module _ {T W S : Type 0} (means : Meaning T W S) (old : Player T S) where
  -- the sequences before this place were closed, and no other
  pub record ClosesTo (place : ℕ) (now : Player T S) : Type 0 where
    pub most : place ≤ length (means.setup old.table).writers
    pub served : Serves means now
    pub setup_stays : means.setup now.table ≡ means.setup old.table
    pub specs : now.service.specs.items ≡ old.service.specs.items
    pub history : history_of (view_of means now) ≡ history_of (view_of means old) ++ closes_to place
    pub opened : (other : ℕ) → place ≤ other → other < length (means.setup old.table).writers
        → is_closed (means.setup old.table) now.service other ≡ false
    pub commits : now.commits ≡ old.commits
    pub refused : now.refused ≡ old.refused

  pub closes_none : Stands means old → ClosesTo 0 old
  closes_none was = record {
    most = omega arith;
    served = was.served;
    setup_stays = refl;
    specs = refl;
    history = sym (append-nil (history_of (view_of means old)));
    opened = λ other least below. was.opened other below;
    commits = refl;
    refused = refl;
  }

  -- what stands in front of a close
  pub close_inside : (place : ℕ) (now : Player T S) → ClosesTo place now → place < length (means.setup old.table).writers
      → place < length (means.setup now.table).writers
  close_inside place now so below = subst (λ (s : Setup). place < length s.writers) (sym so.setup_stays) below

  pub close_open : (place : ℕ) (now : Player T S) → ClosesTo place now → place < length (means.setup old.table).writers
      → is_closed (means.setup now.table) now.service place ≡ false
  close_open place now so below =
      ap (λ (s : Setup). is_closed s now.service place) so.setup_stays ∙ so.opened place (omega arith) below

  pub closes_more : (place : ℕ) (now new : Player T S) → ClosesTo place now
      → ServiceAgrees (means.setup now.table) (view_of means new) new.service
      → IsServiceStep means now.table now.service.seat new.table new.service.seat
      → ClosesOne (means.setup now.table) place now.service new.service
      → view_of means new ≡ noted_more (view_of means now) (Closed (sequence_of place) ∷ [])
      → new.commits ≡ now.commits → new.refused ≡ now.refused → place < length (means.setup old.table).writers → ClosesTo (place + 1) new
  closes_more place now new so agrees step closes view commits refused inside = record {
    most = omega (arith, inside);
    served = serves_on means now new so.served agrees step;
    setup_stays = step.setup_stays ∙ so.setup_stays;
    specs = closes.fields.specs ∙ so.specs;
    history = ap history_of view ∙ close_happens (view_of means now) (sequence_of place) so.served.agrees.known
        ∙ ap (λ (es : List Event). es ++ model.Closed (sequence_of place) ∷ []) so.history
        ∙ append_assoc (history_of (view_of means old)) (closes_to place) (model.Closed (sequence_of place) ∷ [])
        ∙ ap (λ (n : ℕ). history_of (view_of means old) ++ closes_to n) (sym (add-one place));
    opened = λ other least below.
        let apart : other ≢ place = λ same. absurd (omega (arith, same, least)) in
        let past : place ≤ other = omega (arith, least) in
        let here : other < length (means.setup now.table).writers = close_at other now so below in
        ap (λ (s : Setup). is_closed s new.service other) (sym so.setup_stays)
        ∙ closes.others other here apart
        ∙ ap (λ (s : Setup). is_closed s now.service other) so.setup_stays
        ∙ so.opened other past below;
    commits = commits ∙ so.commits;
    refused = refused ∙ so.refused;
  }
    where
      close_at : (other : ℕ) (now : Player T S) → ClosesTo place now → other < length (means.setup old.table).writers
          → other < length (means.setup now.table).writers
      close_at other now so below = subst (λ (s : Setup). other < length s.writers) (sym so.setup_stays) below

  pub closes_whole : (count : ℕ) (now : Player T S) → Stands means old → ClosesTo count now → length (means.setup old.table).writers ≤ count
      → Closes means old now
  closes_whole count now was so past =
      let most = so.most in
      let whole : count ≡ length (means.setup old.table).writers = omega (arith, most, past) in
      let setup : Setup = means.setup old.table in
      let events = closes_all setup.writers count whole in
      let agrees : ServiceAgrees setup (view_of means now) now.service =
      subst (λ (s : Setup). ServiceAgrees s (view_of means now) now.service) so.setup_stays so.served.agrees in
      let same : first_of setup now.service ≡ first_of setup old.service =
      ap (λ (specs : List BufferSpec). first.first_buffers setup 1 (map spec_value specs)) so.specs in
      record {
        served = so.served;
        setup_stays = so.setup_stays;
        specs = so.specs;
        history = so.history ∙ ap (λ (es : List Event). history_of (view_of means old) ++ es) events;
        buffers = buffers_on means old now was.served agrees (closes_to count) same so.history
            ∙ ap (buffers_after old.service.buffers.items) events;
        commits = so.commits;
        refused = so.refused;
      }
