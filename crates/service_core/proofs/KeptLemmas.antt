-- What the service reads of what it keeps is what its view and the set-up have.
use Rattle.std.proofs.Common.{◌≡◌, ◌∙◌, ℕ, ◌+◌, ◌-◌, ◌<◌, ◌≤◌, false, List, length, get_or, sym, ap, subst, arith}
use Rattle.std.proofs.lemmas.List.{get_or_read, length-map}
use Rattle.trace_base.specs.declared.policy.WriterSpec.{WriterSpec}
use Rattle.page_geometry.specs.Sizes.{record_size}
use Rattle.chunk_plain.specs.declared.setup.ChunkRange.{ChunkRange}
use Rattle.chunk_plain.specs.Setup.{Setup, range_of, size_of, producer_of, no_writer, from_of}
use Rattle.chunk_plain.specs.Views.{Taken, ServiceView, taken_of}
use Rattle.service_core.specs.declared.service.ServiceCore.{ServiceCore}
use Rattle.service_core.specs.Routing.{IsAt, from_at, is_closed_at}
use Rattle.service_core.specs.Agreement.{ServiceAgrees, buffer_of, is_closed, spec_at}
use Rattle.service_core.specs.Taking.{HasRoute, IsRange}
use Rattle.service_core.proofs.TakingLemmas.{counts_at}
use Rattle.service_core.proofs.RoutedLemmas.{stands, knows_from}

module _ {S : Type 0} (setup : Setup) (view : ServiceView) (core : ServiceCore S) (place : ℕ) (agrees : ServiceAgrees setup view core) (below : place < length setup.writers) where
  pub has_place : place < length view.taken
  has_place = let many = agrees.many in omega (arith, many, below)

  -- how many chunks were taken of a writer
  pub read_count : (n : ℕ) → n ≡ get_or core.taken.items place n → n ≡ (taken_of view place).count
  read_count n read =
      let long = length-map view.taken (λ (t : Taken). t.count) in
      let inside = has_place in
      let low : place < length core.taken.items = subst (λ (ns : List ℕ). place < length ns) (sym agrees.taken) (omega (arith, long, inside)) in
      get_or_read core.taken.items place n low read 0 ∙ ap (λ (ns : List ℕ). get_or ns place 0) agrees.taken ∙ counts_at view place

  -- a writer's specification
  pub read_spec : (spec : WriterSpec) → spec ≡ get_or core.writers.items place spec → spec ≡ spec_at setup.writers place
  read_spec spec read =
      let low : place < length core.writers.items = subst (λ (ws : List WriterSpec). place < length ws) (sym agrees.writers) below in
      get_or_read core.writers.items place spec low read no_writer ∙ ap (λ (ws : List WriterSpec). spec_at ws place) agrees.writers

  -- the range of its producer's chunks
  pub range_is : (spec : WriterSpec) (read : ℕ × ℕ) → spec ≡ get_or core.writers.items place spec
      → read ≡ ((range_of core.layout spec.producer).first, (range_of core.layout spec.producer).count) → IsRange (range_of setup (producer_of setup place)) read.0 read.1
  range_is spec read spec_is read_is =
      let same : spec.producer ≡ producer_of setup place = ap (λ (w : WriterSpec). w.producer) (read_spec spec spec_is) in
      let ranges : range_of core.layout spec.producer ≡ range_of setup (producer_of setup place) = ap (λ (s : Setup). range_of s spec.producer) agrees.layout ∙ ap (range_of setup) same in
      record {
        first_is = ap (λ (r : ℕ × ℕ). r.0) read_is ∙ ap (λ (r : ChunkRange). r.first) ranges;
        count_is = ap (λ (r : ℕ × ℕ). r.1) read_is ∙ ap (λ (r : ChunkRange). r.count) ranges;
      }

  -- its buffer
  pub found_at : (spec : WriterSpec) (number : ℕ) → spec ≡ get_or core.writers.items place spec → number ≡ spec.buffer
      → IsAt core.buffers.items (number - 1) (place + 2) (record_size (size_of setup (producer_of setup place)))
  found_at spec number read named =
      subst (λ (n : ℕ). IsAt core.buffers.items (n - 1) (place + 2) (record_size (size_of setup (producer_of setup place))))
      (sym (named ∙ ap (λ (w : WriterSpec). w.buffer) (read_spec spec read))) (stands setup view core place agrees below)

  -- which knows the id of the writer's first chunk
  pub from_here : (spec : WriterSpec) (number : ℕ) → spec ≡ get_or core.writers.items place spec → number ≡ spec.buffer
      → from_at core.buffers.items (number - 1) (place + 2) ≡ from_of setup place
  from_here spec number read named =
      ap (λ (n : ℕ). from_at core.buffers.items (n - 1) (place + 2)) (named ∙ ap (λ (w : WriterSpec). w.buffer) (read_spec spec read))
      ∙ knows_from setup view core place agrees below

  pub from_in_sequence : (spec : WriterSpec) (number sequence : ℕ) → spec ≡ get_or core.writers.items place spec → number ≡ spec.buffer → place + 2 ≡ sequence
      → from_at core.buffers.items (number - 1) sequence ≡ from_of setup place
  from_in_sequence spec number sequence read named back =
      ap (λ (q : ℕ). from_at core.buffers.items (number - 1) q) (sym back) ∙ from_here spec number read named

  -- its chunks can be put in, also with another seat
  pub has_route : (seat : S) (size : ℕ) → size ≡ size_of setup (producer_of setup place) → is_closed setup core place ≡ false → HasRoute setup (record core { seat = seat }) place size
  has_route seat size size_is open_here =
      let long = length-map view.taken (λ (t : Taken). t.count) in
      let inside = has_place in
      let few = agrees.routed.few in
      let listed : place < length core.writers.items = subst (λ (ws : List WriterSpec). place < length ws) (sym agrees.writers) below in
      let same : buffer_of setup place ≡ (spec_at core.writers.items place).buffer = ap (λ (ws : List WriterSpec). (spec_at ws place).buffer) (sym agrees.writers) in
      record {
        counted = subst (λ (ns : List ℕ). place < length ns) (sym agrees.taken) (omega (arith, long, inside));
        listed = listed;
        few = omega (arith, few, below);
        buffer = subst (λ (b : ℕ). 1 ≤ b) same (agrees.routed.least place below);
        at = subst (λ (b : ℕ). IsAt core.buffers.items (b - 1) (place + 2) (record_size size)) same
            (subst (λ (n : ℕ). IsAt core.buffers.items (buffer_of setup place - 1) (place + 2) (record_size n)) (sym size_is) (stands setup view core place agrees below));
        from = ap (λ (b : ℕ). from_at core.buffers.items (b - 1) (place + 2)) (sym same) ∙ knows_from setup view core place agrees below;
        is_open = ap (λ (b : ℕ). is_closed_at core.buffers.items (b - 1) (place + 2)) (sym same) ∙ open_here;
      }
