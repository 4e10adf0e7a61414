-- A sequence is closed in its buffer exactly where the history closed it, whatever came by commits: nothing opens it again.
use Rattle.std.proofs.Common.{◌≡◌, ◌∙◌, ℕ, ◌+◌, ◌-◌, ◌<◌, ◌≤◌, ◌⊎◌, Bool, true, false, ◌||◌, List, [], ◌∷◌, length, map, refl, sym, ap, arith, inl, inr}
use Rattle.std.specs.Prelude.{◌==◌}
use Rattle.std.specs.List.{list_any}
use Rattle.std.proofs.Math.Bool.{or_assoc, or-false, or-true}
use Rattle.std.proofs.lemmas.Bool.{cases_eq, eq-eqb, ne_eqb}
use Rattle.std.proofs.lemmas.List.{length-map}
use Rattle.trace_model.specs.Sequences.{sequence_in, is_known}
use Rattle.trace_model.specs.Buffers.{Buffer}
use Rattle.trace_model.specs.CauseLaws.{is_close_of}
use Rattle.trace_model.specs.History.{Event, Arrives, ArrivesInPart, Patched, Committed, Closed, Read, buffer_after, state_after}
use Rattle.trace_model.proofs.ShapeLemmas.{is_close, closed_after}
use Rattle.delivery_laws.proofs.AskLemmas.{known_after}
use Rattle.chunk_plain.specs.Setup.{Setup, sequence_of}
use Rattle.chunk_plain.specs.Views.{ServiceView}
use Rattle.chunk_plain.specs.Histories.{history_of}
use Rattle.world_model.specs.FirstBuffers as first
use Rattle.service_core.specs.declared.service.ServiceCore.{ServiceCore}
use Rattle.service_core.specs.Routing.{buffer_at, is_closed_at}
use Rattle.service_core.specs.Agreement.{ServiceAgrees, spec_value, first_of, buffer_of, is_closed}
use Rattle.service_core.proofs.CloseLemmas.{closed_here, closed_there}
use Rattle.service_core.proofs.RouteLemmas.{at_after}
use Rattle.service_core.proofs.RoutedLemmas.{at_first, open_first}

-- behind one event
closed_by : (b : Buffer) (event : Event) (q : ℕ) → is_known b.sequences q ≡ true
    → (sequence_in (buffer_after b event).sequences q).closed ≡ ((sequence_in b.sequences q).closed || is_close_of q event)
closed_by b event q known = by_event event
  where
    -- no other event changes whether it is
    stays : (e : Event) → is_close e ≡ false → is_close_of q e ≡ false
        → (sequence_in (buffer_after b e).sequences q).closed ≡ ((sequence_in b.sequences q).closed || is_close_of q e)
    stays e none not_its =
        closed_after b e q none ∙ sym (ap (λ (x : Bool). (sequence_in b.sequences q).closed || x) not_its ∙ or-false (sequence_in b.sequences q).closed)

    by_close : (p : ℕ) → (p ≡ q) ⊎ (p ≡ q → ⊥)
        → (sequence_in (buffer_after b (Closed p)).sequences q).closed ≡ ((sequence_in b.sequences q).closed || (p == q))
    by_close p (inl same) =
        ap (λ (n : ℕ). (sequence_in (buffer_after b (Closed n)).sequences q).closed) same ∙ closed_here b q known
        ∙ sym (ap (λ (x : Bool). (sequence_in b.sequences q).closed || x) (eq-eqb p q same) ∙ or-true (sequence_in b.sequences q).closed)
    by_close p (inr differs) =
        closed_there b p q known differs
        ∙ sym (ap (λ (x : Bool). (sequence_in b.sequences q).closed || x) (ne_eqb p q differs) ∙ or-false (sequence_in b.sequences q).closed)

    by_event : (e : Event) → (sequence_in (buffer_after b e).sequences q).closed ≡ ((sequence_in b.sequences q).closed || is_close_of q e)
    by_event (Arrives p chunk_id chunk) = stays (Arrives p chunk_id chunk) refl refl
    by_event (ArrivesInPart p chunk_id chunk) = stays (ArrivesInPart p chunk_id chunk) refl refl
    by_event (Patched p patches) = stays (Patched p patches) refl refl
    by_event (Committed image patches) = stays (Committed image patches) refl refl
    by_event (Closed p) = by_close p (cases_eq p q)
    by_event (Read p limit) = stays (Read p limit) refl refl

-- behind these events
pub closed_behind : (b : Buffer) (events : List Event) (q : ℕ) → is_known b.sequences q ≡ true
    → (sequence_in (state_after b events).sequences q).closed ≡ ((sequence_in b.sequences q).closed || list_any (is_close_of q) events)
closed_behind b [] q known = sym (or-false (sequence_in b.sequences q).closed)
closed_behind b (e ∷ es) q known =
    closed_behind (buffer_after b e) es q (known_after b e q ∙ known)
    ∙ ap (λ (x : Bool). x || list_any (is_close_of q) es) (closed_by b e q known)
    ∙ or_assoc (sequence_in b.sequences q).closed (is_close_of q e) (list_any (is_close_of q) es)

-- the sequence of the writer at this place
pub closed_is : {S : Type 0} → (setup : Setup) (view : ServiceView) (core : ServiceCore S) (place : ℕ) → ServiceAgrees setup view core → place < length setup.writers
    → is_closed setup core place ≡ list_any (is_close_of (sequence_of place)) (history_of view)
closed_is setup view core place agrees inside =
    let index : ℕ = buffer_of setup place - 1 in
    let specs : List first.BufferSpec = map spec_value core.specs.items in
    let long : length specs ≡ length core.specs.items = length-map core.specs.items spec_value in
    let most = agrees.routed.most place inside in
    let high : buffer_of setup place ≤ length specs = omega (arith, most, long) in
    let least = agrees.routed.least place inside in
    let at = at_first setup specs place inside least high in
    ap (λ (bs : List Buffer). is_closed_at bs index (place + 2)) agrees.buffers
    ∙ ap (λ (b : Buffer). (sequence_in b.sequences (place + 2)).closed) (at_after (first_of setup core) index (history_of view) at.inside)
    ∙ closed_behind (buffer_at (first_of setup core) index) (history_of view) (place + 2) at.known
    ∙ ap (λ (x : Bool). x || list_any (is_close_of (place + 2)) (history_of view)) (open_first setup specs place inside least high)
