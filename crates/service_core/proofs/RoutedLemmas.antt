-- The buffer of each writer has its sequence, from the first buffers on.
use Rattle.std.proofs.Common.{◌≡◌, ◌≢◌, ◌∙◌, ℕ, zero, suc, ◌+◌, ◌-◌, ◌<◌, ◌≤◌, ◌⊎◌, false, List, [], ◌∷◌, length, map, refl, sym, ap, subst, arith, inl, inr}
use Rattle.std.proofs.lemmas.List.{length-map}
use Rattle.std.proofs.lemmas.Bool.{eq-eqb, ne_eqb, cases_lt}
use Rattle.std.proofs.lemmas.Option.{slice_get-get_or}
use Rattle.trace_base.specs.declared.policy.WriterSpec.{WriterSpec}
use Rattle.page_geometry.specs.Sizes.{record_size}
use Rattle.trace_model.specs.Images.{Image, Patch}
use Rattle.trace_model.specs.Reading.{reading_of}
use Rattle.trace_model.specs.Sequences.{Sequence, sequence_in, is_known}
use Rattle.trace_model.specs.Buffers.{Buffer}
use Rattle.trace_model.specs.History as model
use Rattle.trace_model.specs.History.{buffers_after}
use Rattle.chunk_plain.specs.Setup.{Setup, size_of, producer_of, no_writer, from_of}
use Rattle.chunk_plain.specs.Views.{Taken, ServiceView}
use Rattle.chunk_plain.specs.Histories.{history_of}
use Rattle.world_model.specs.FirstBuffers as first
use Rattle.world_model.specs.FirstBuffers.{sequences_from, first_buffers}
use Rattle.world_model.proofs.MakingLemmas.{first_long, set_at}
use Rattle.service_core.specs.declared.service.ServiceCore.{ServiceCore}
use Rattle.service_core.specs.Routing.{buffer_at, IsAt, is_closed_at, from_at, arrivals_of}
use Rattle.service_core.specs.Agreement.{ServiceAgrees, KeepsFields, KeepsRest, spec_value, first_of, spec_at, buffer_of, is_closed, IsAgreeing}
use Rattle.service_core.proofs.RouteLemmas.{length_after, is_at_after, from_stays, open_after, none_at, NoCloses, closes_none}

first_sequences : (setup : Setup) (n : ℕ) (specs : List first.BufferSpec) (i : ℕ) → i < length specs
    → (buffer_at (first_buffers setup n specs) i).sequences ≡ sequences_from setup (n + i) 0 setup.writers
first_sequences setup n [] i below = absurd (omega arith)
first_sequences setup n (s ∷ specs) zero below = ap (λ (m : ℕ). sequences_from setup m 0 setup.writers) (let same : n ≡ n + 0 = omega arith in same)
first_sequences setup n (s ∷ specs) (suc i) below =
    first_sequences setup (suc n) specs i (omega arith) ∙ ap (λ (m : ℕ). sequences_from setup m 0 setup.writers) (let same : suc n + i ≡ n + suc i = omega arith in same)

pub at_first : (setup : Setup) (specs : List first.BufferSpec) (place : ℕ) → place < length setup.writers → 1 ≤ buffer_of setup place → buffer_of setup place ≤ length specs
    → IsAt (first_buffers setup 1 specs) (buffer_of setup place - 1) (place + 2) (record_size (size_of setup (producer_of setup place)))
at_first setup specs place inside least most =
    let spec : WriterSpec = spec_at setup.writers place in
    let get = slice_get-get_or setup.writers place no_writer inside in
    let index : ℕ = buffer_of setup place - 1 in
    let long = first_long setup 1 specs in
    let below : index < length specs = omega arith in
    let here = first_sequences setup 1 specs index below in
    let number : spec.buffer ≡ 1 + index = omega arith in
    let set = set_at setup place spec get (1 + index) in
    let named = eq-eqb spec.buffer (1 + index) number in
    record {
      inside = omega (arith, below, long);
      known = ap (λ (ss : List Sequence). is_known ss (place + 2)) here ∙ set.known ∙ named;
      size_is = ap (λ (ss : List Sequence). (sequence_in ss (place + 2)).size) here ∙ ap (λ (s : Sequence). s.size) (set.start named);
      others = λ other differs. by_place other differs (cases_lt other (length specs));
    }
  where
    by_place : (other : ℕ) → other ≢ buffer_of setup place - 1 → (other < length specs) ⊎ (length specs ≤ other)
        → is_known (buffer_at (first_buffers setup 1 specs) other).sequences (place + 2) ≡ false
    by_place other differs (inl below) =
        ap (λ (ss : List Sequence). is_known ss (place + 2)) (first_sequences setup 1 specs other below)
        ∙ (set_at setup place (spec_at setup.writers place) (slice_get-get_or setup.writers place no_writer inside) (1 + other)).known
        ∙ ne_eqb (buffer_of setup place) (1 + other) (λ e. differs (let same : other ≡ buffer_of setup place - 1 = omega (arith, e) in same))
    by_place other differs (inr past) =
        none_at (first_buffers setup 1 specs) other (place + 2) (let long = first_long setup 1 specs in omega (arith, past, long))

-- no sequence is closed at first
pub open_first : (setup : Setup) (specs : List first.BufferSpec) (place : ℕ) → place < length setup.writers → 1 ≤ buffer_of setup place → buffer_of setup place ≤ length specs
    → is_closed_at (first_buffers setup 1 specs) (buffer_of setup place - 1) (place + 2) ≡ false
open_first setup specs place inside least most =
    let spec : WriterSpec = spec_at setup.writers place in
    let get = slice_get-get_or setup.writers place no_writer inside in
    let index : ℕ = buffer_of setup place - 1 in
    let below : index < length specs = omega arith in
    let number : spec.buffer ≡ 1 + index = omega arith in
    ap (λ (ss : List Sequence). (sequence_in ss (place + 2)).closed) (first_sequences setup 1 specs index below)
    ∙ ap (λ (s : Sequence). s.closed) ((set_at setup place spec get (1 + index)).start (eq-eqb spec.buffer (1 + index) number))

-- the buffer of the writer at this place has its sequence
pub stands : {S : Type 0} → (setup : Setup) (view : ServiceView) (core : ServiceCore S) (place : ℕ) → ServiceAgrees setup view core → place < length setup.writers
    → IsAt core.buffers.items (buffer_of setup place - 1) (place + 2) (record_size (size_of setup (producer_of setup place)))
stands setup view core place agrees inside =
    let index : ℕ = buffer_of setup place - 1 in
    let size : ℕ = record_size (size_of setup (producer_of setup place)) in
    let specs : List first.BufferSpec = map spec_value core.specs.items in
    let long : length specs ≡ length core.specs.items = length-map core.specs.items spec_value in
    let most = agrees.routed.most place inside in
    subst (λ (bs : List Buffer). IsAt bs index (place + 2) size) (sym agrees.buffers)
    (is_at_after (first_of setup core) index (place + 2) size (history_of view)
    (at_first setup specs place inside (agrees.routed.least place inside) (omega (arith, most, long))))

from_first : (setup : Setup) (specs : List first.BufferSpec) (place : ℕ) → place < length setup.writers → 1 ≤ buffer_of setup place → buffer_of setup place ≤ length specs
    → from_at (first_buffers setup 1 specs) (buffer_of setup place - 1) (place + 2) ≡ from_of setup place
from_first setup specs place inside least most =
    let spec : WriterSpec = spec_at setup.writers place in
    let get = slice_get-get_or setup.writers place no_writer inside in
    let index : ℕ = buffer_of setup place - 1 in
    let below : index < length specs = omega arith in
    let number : spec.buffer ≡ 1 + index = omega arith in
    ap (λ (ss : List Sequence). (sequence_in ss (place + 2)).from) (first_sequences setup 1 specs index below)
    ∙ (set_at setup place spec get (1 + index)).from_is (eq-eqb spec.buffer (1 + index) number)

-- which knows the id of its first chunk
pub knows_from : {S : Type 0} → (setup : Setup) (view : ServiceView) (core : ServiceCore S) (place : ℕ) → ServiceAgrees setup view core → place < length setup.writers
    → from_at core.buffers.items (buffer_of setup place - 1) (place + 2) ≡ from_of setup place
knows_from setup view core place agrees inside =
    let index : ℕ = buffer_of setup place - 1 in
    let specs : List first.BufferSpec = map spec_value core.specs.items in
    let long : length specs ≡ length core.specs.items = length-map core.specs.items spec_value in
    let most = agrees.routed.most place inside in
    let high : buffer_of setup place ≤ length specs = omega (arith, most, long) in
    let least = agrees.routed.least place inside in
    let at = at_first setup specs place inside least high in
    ap (λ (bs : List Buffer). from_at bs index (place + 2)) agrees.buffers
    ∙ from_stays (first_of setup core) index (place + 2) (history_of view) at.inside
    ∙ from_first setup specs place inside least high

no_closes : (image : Image) → NoCloses (arrivals_of image)
no_closes image = closes_none (λ chunk. model.Arrives image.sequence image.chunk_id chunk) (λ chunk. refl) image.flags (reading_of image.count image.payload)

-- a chunk that arrives, with its patches, closes nothing
pub closed_stays : {S : Type 0} → (setup : Setup) (view : ServiceView) (core done : ServiceCore S) (place : ℕ) (image : Image) (q : ℕ) (patches : List Patch)
    → ServiceAgrees setup view core → done.buffers.items ≡ buffers_after (buffers_after core.buffers.items (arrivals_of image)) (model.Patched q patches ∷ [])
    → place < length setup.writers → is_closed setup done place ≡ is_closed setup core place
closed_stays setup view core done place image q patches agrees buffers_are inside =
    let bs : List Buffer = core.buffers.items in
    let index : ℕ = buffer_of setup place - 1 in
    let at = stands setup view core place agrees inside in
    let low = at.inside in
    let long = length_after bs (arrivals_of image) in
    ap (λ (xs : List Buffer). is_closed_at xs index (place + 2)) buffers_are
    ∙ open_after (buffers_after bs (arrivals_of image)) index (place + 2) (model.Patched q patches ∷ []) (omega (arith, low, long)) (refl, tt)
    ∙ open_after bs index (place + 2) (arrivals_of image) low (no_closes image)

-- the same of a service that agrees with some view, by what it keeps
pub stands_in : {S : Type 0} → (core : ServiceCore S) (place : ℕ) (is : IsAgreeing core) → place < length core.writers.items
    → IsAt core.buffers.items ((spec_at core.writers.items place).buffer - 1) (place + 2) (record_size (size_of is.setup (producer_of is.setup place)))
stands_in core place is inside =
    let size : ℕ = record_size (size_of is.setup (producer_of is.setup place)) in
    let low : place < length is.setup.writers = subst (λ (ws : List WriterSpec). place < length ws) is.agrees.writers inside in
    subst (λ (ws : List WriterSpec). IsAt core.buffers.items ((spec_at ws place).buffer - 1) (place + 2) size) (sym is.agrees.writers)
    (stands is.setup is.view core place is.agrees low)

-- how many writers there are
pub taken_long : {S : Type 0} → (setup : Setup) (view : ServiceView) (core : ServiceCore S) → ServiceAgrees setup view core → length core.taken.items ≡ length core.writers.items
taken_long setup view core agrees =
    ap (λ (xs : List ℕ). length xs) agrees.taken ∙ length-map view.taken (λ (t : Taken). t.count) ∙ agrees.many ∙ sym (ap (λ (ws : List WriterSpec). length ws) agrees.writers)

-- events that close nothing
pub closed_by_none : {S : Type 0} → (setup : Setup) (view : ServiceView) (core done : ServiceCore S) (place : ℕ) (events : List model.Event) → ServiceAgrees setup view core
    → done.buffers.items ≡ buffers_after core.buffers.items events → NoCloses events → place < length setup.writers → is_closed setup done place ≡ is_closed setup core place
closed_by_none setup view core done place events agrees buffers_are none inside =
    let index : ℕ = buffer_of setup place - 1 in
    let at = stands setup view core place agrees inside in
    ap (λ (xs : List Buffer). is_closed_at xs index (place + 2)) buffers_are ∙ open_after core.buffers.items index (place + 2) events at.inside none

-- so they leave all but what the buffers have
pub keeps_open : {S : Type 0} → (setup : Setup) (view : ServiceView) (core done : ServiceCore S) (events : List model.Event) → ServiceAgrees setup view core → KeepsFields core done
    → done.buffers.items ≡ buffers_after core.buffers.items events → NoCloses events → KeepsRest setup core done
keeps_open setup view core done events agrees keeps buffers_are none =
    record { fields = keeps; closed = λ place inside. closed_by_none setup view core done place events agrees buffers_are none inside }

-- there are as many buffers as were asked for
pub buffers_long : {S : Type 0} → (setup : Setup) (view : ServiceView) (core : ServiceCore S) → ServiceAgrees setup view core → length core.buffers.items ≡ length core.specs.items
buffers_long setup view core agrees =
    ap (λ (bs : List Buffer). length bs) agrees.buffers ∙ length_after (first_of setup core) (history_of view)
    ∙ first_long setup 1 (map spec_value core.specs.items) ∙ length-map core.specs.items spec_value
