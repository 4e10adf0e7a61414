-- A plan of producers that are all alike, of writers that are each one's of these, and of one buffer.
use Rattle.std.proofs.Common.{◌≡◌, ◌∙◌, ℕ, zero, suc, ◌-◌, ◌*◌, ◌<◌, ◌≤◌, Some, [], ◌∷◌, length, get_or, refl, sym, ap, subst, arith}
use Rattle.std.specs.Prelude.{slice_get}
use Rattle.std.specs.List.{All}
use Rattle.std.proofs.lemmas.List.Elements.{All-from_get_or}
use Rattle.std.proofs.lemmas.Option.{slice_get-get_or}
use Rattle.trace_base.specs.declared.limits.TheConstants.{BYTES_PER_KB, MAX_PRODUCERS, MAX_PAGES, MAX_WRITERS, MAX_BUFFER_KB}
use Rattle.trace_base.specs.declared.policy.FullPolicy.TheVariants.{Ring}
use Rattle.trace_base.specs.declared.policy.WriterPolicy.TheVariants.{Drops}
use Rattle.trace_base.specs.declared.policy.WriterSpec.{WriterSpec}
use Rattle.page_geometry.specs.Sizes.{payload_size, record_size}
use Rattle.chunk_plain.specs.declared.setup.ProducerSpec.{ProducerSpec}
use Rattle.chunk_plain.specs.Laying.{setup_of}
use Rattle.chunk_plain.specs.Setup.{no_writer}
use Rattle.service_core.specs.Agreement.{IsRouted, spec_at}
use Rattle.service_core.specs.Making.{HaveSizes, RecordsFit}
use Rattle.service_core.proofs.MakeLemmas.{ranges_long, size_is}
use Rattle.tracesmb_c.specs.declared.planning.Plan.{Plan}
use Rattle.tracesmb_c.specs.Planning.{IsPlan, planned_writer}

-- a writer of one of so many producers, which drops packets, into the one buffer
record IsPlannedWriter (producers : ℕ) (spec : WriterSpec) : Type 0 where
  least : 1 ≤ spec.producer
  most : spec.producer ≤ producers
  buffer : spec.buffer ≡ 1
  drops : spec.policy ≡ Drops

module _ (plan : Plan) (count : ℕ) (spec : ProducerSpec) (kb : ℕ) (many : length plan.producers.items ≡ count)
    (alike : (place : ℕ) (one : ProducerSpec) → slice_get plan.producers.items place ≡ Some one → one ≡ spec) (some : 1 ≤ count)
    (few : count ≤ MAX_PRODUCERS)
    (some_page : 1 ≤ spec.pages) (few_pages : spec.pages ≤ MAX_PAGES) (few_writers : length plan.writers.items ≤ MAX_WRITERS)
    (each : (place : ℕ) (one : WriterSpec) → slice_get plan.writers.items place ≡ Some one → one ≡ planned_writer count place)
    (size : plan.buffer.size ≡ kb * BYTES_PER_KB) (least : 1 ≤ kb) (most : kb ≤ MAX_BUFFER_KB)
    (fits : record_size (payload_size spec.geometry.page_size spec.geometry.chunks) ≤ plan.buffer.size) where
  at_place : (place : ℕ) → place < length plan.producers.items → get_or plan.producers.items place spec ≡ spec
  at_place place inside = alike place (get_or plan.producers.items place spec) (slice_get-get_or plan.producers.items place spec inside)

  of_each : (P : ProducerSpec → Type 0) → P spec → All P plan.producers.items
  of_each P is = All-from_get_or P plan.producers.items spec (λ place inside. subst P (sym (at_place place inside)) is)

  planned_as : (place : ℕ) (one : WriterSpec) → slice_get plan.writers.items place ≡ Some one → IsPlannedWriter count one
  planned_as place one there =
      subst (IsPlannedWriter count) (sym (each place one there)) (record {
        least = omega arith;
        most = omega (arith, some);
        buffer = refl;
        drops = refl;
      })

  planned : (place : ℕ) → place < length plan.writers.items → IsPlannedWriter count (spec_at plan.writers.items place)
  planned place inside = planned_as place (spec_at plan.writers.items place) (slice_get-get_or plan.writers.items place no_writer inside)

  routed : IsRouted (setup_of plan.producers.items plan.writers.items) 1
  routed = record {
    few = few_writers;
    producers = λ place inside.
        let one = planned place inside in
        let long = ranges_long 0 plan.producers.items in
        let top = one.most in
        record { least = one.least; most = omega (arith, top, long, many) };
    least = λ place inside. let is = (planned place inside).buffer in omega (arith, is);
    most = λ place inside. let is = (planned place inside).buffer in omega (arith, is);
  }

  sizes : HaveSizes (plan.buffer ∷ [])
  sizes zero inside = record { least = omega (arith, size, least); units = omega (arith, size); most = omega (arith, size, most) }
  sizes (suc index) inside = absurd (omega (arith, inside))

  fit : RecordsFit (setup_of plan.producers.items plan.writers.items) (plan.buffer ∷ [])
  fit place inside =
      let one = planned place inside in
      let low = one.least in
      let top = one.most in
      let index : ℕ = (spec_at plan.writers.items place).producer - 1 in
      let below : index < count = omega (arith, low, top) in
      let here : get_or plan.producers.items index spec ≡ spec = at_place index (omega (arith, below, many)) in
      let payload = size_is plan.producers.items plan.writers.items (spec_at plan.writers.items place).producer spec
      (omega (arith, below, many)) in
      subst (λ (n : ℕ). record_size n ≤
      (get_or (plan.buffer ∷ []) ((spec_at plan.writers.items place).buffer - 1) (record { size = 0; policy = Ring })).size)
      (sym (payload ∙ ap (λ (p : ProducerSpec). payload_size p.geometry.page_size p.geometry.chunks) here))
      (subst (λ (b : ℕ). record_size (payload_size spec.geometry.page_size spec.geometry.chunks) ≤
      (get_or (plan.buffer ∷ []) (b - 1) (record { size = 0; policy = Ring })).size)
      (sym one.buffer) fits)

  pub is_plan : IsPlan plan
  is_plan = record {
    few_producers = omega (arith, many, few);
    some_page = of_each (λ (p : ProducerSpec). 1 ≤ p.pages) some_page;
    few_pages = of_each (λ (p : ProducerSpec). p.pages ≤ MAX_PAGES) few_pages;
    few_writers = few_writers;
    routed = routed;
    sizes = sizes;
    fit = fit;
    drops = λ place one there. (planned_as place one there).drops;
  }
