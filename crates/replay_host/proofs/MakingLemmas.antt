-- What the set-up lines of a scenario ask for keeps to what table, writers and service want of it.
use Rattle.std.proofs.Common.{◌≡◌, ◌∙◌, ℕ, zero, suc, ◌+◌, ◌-◌, ◌*◌, ◌<◌, ◌≤◌, List, [], ◌∷◌, ◌++◌, length, map, take, Some, slice_get, get_or, refl, sym, ap, subst, arith}
use Rattle.std.specs.List.{AllByRecursion, AllZip}
use Rattle.std.proofs.lemmas.List.{length-map, take_more}
use Rattle.std.proofs.lemmas.Option.{slice_get-get_or, slice_get_within, get_or_from_slice_get}
use Rattle.std.proofs.lemmas.Slice.Zip.{AllZip-long}
use Rattle.trace_base.specs.declared.limits.TheConstants.{BYTES_PER_KB, MAX_PRODUCERS}
use Rattle.trace_base.specs.declared.policy.FullPolicy.TheVariants.{Ring}
use Rattle.trace_base.specs.declared.policy.WriterSpec.{WriterSpec}
use Rattle.page_geometry.specs.Sizes.{payload_size, record_size}
use Rattle.scenario_text.specs.declared.scenario.BufferLine.{BufferLine}
use Rattle.scenario_text.specs.declared.scenario.ProducerLine.{ProducerLine}
use Rattle.scenario_text.specs.Limits.{IsBuffer, IsWriter, IsSetUp}
use Rattle.chunk_plain.specs.declared.setup.ProducerSpec.{ProducerSpec}
use Rattle.chunk_plain.specs.Laying.{setup_of}
use Rattle.chunk_plain.specs.Setup.{Setup, HasProducer, IsChunkOf, IsLaid, producer_of, size_of, spot, no_writer}
use Rattle.world_model.specs.FirstBuffers as first
use Rattle.trace_buffer.specs.declared.answers.BufferSpec.{BufferSpec}
use Rattle.service_core.specs.Agreement.{IsRouted, spec_at, spec_value}
use Rattle.service_core.specs.Making.{HaveSizes, RecordsFit, buffer_spec_at}
use Rattle.service_core.proofs.MakeLemmas.{ranges_long, size_is as cut_so}
use Rattle.replay_model.specs.Played.{IsSpecOf}
use Rattle.replay_model.proofs.BalanceLemmas.{each_is, get_map}
use Rattle.replay_model.proofs.RoomLemmas.{size_is}
use Rattle.replay_host.specs.Making.{buffer_asked}

-- ---- producers

pub few_producers : (buffers : List BufferLine) (lines : List ProducerLine) (writers : List WriterSpec) (specs : List ProducerSpec)
    → IsSetUp buffers lines writers → AllZip IsSpecOf lines specs → length specs ≤ MAX_PRODUCERS
few_producers buffers lines writers specs up made = let few = up.few_producers in let long = AllZip-long IsSpecOf lines specs made in omega (arith, few, long)

-- ---- buffers

pub have_sizes : (buffers : List BufferLine) → AllByRecursion IsBuffer buffers → HaveSizes (map buffer_asked buffers)
have_sizes [] are index below = absurd (omega (arith, below))
have_sizes (line ∷ buffers) are zero below =
    let least = are.0.least in let most = are.0.most in
    record { least = omega (arith, least); units = omega arith; most = omega (arith, most) }
have_sizes (line ∷ buffers) are (suc index) below = have_sizes buffers are.1 index (omega (arith, below))

pub asked_values : (buffers : List BufferLine)
    → map spec_value (map buffer_asked buffers) ≡ map
    (λ (line : BufferLine). let spec : first.BufferSpec = record { size = line.kb * BYTES_PER_KB; policy = line.policy } in spec) buffers
asked_values [] = refl
asked_values (line ∷ buffers) = ap (λ (specs : List first.BufferSpec). spec_value (buffer_asked line) ∷ specs) (asked_values buffers)

-- ---- writers

module _ (buffers : List BufferLine) (lines : List ProducerLine) (writers : List WriterSpec) (specs : List ProducerSpec)
    (up : IsSetUp buffers lines writers) (made : AllZip IsSpecOf lines specs) where
  writer_at : (place : ℕ) → place < length writers → IsWriter buffers lines (spec_at writers place)
  writer_at place below =
      each_is (IsWriter buffers lines) writers place (spec_at writers place) up.are_writers (slice_get-get_or writers place no_writer below)

  pub are_routed : IsRouted (setup_of specs writers) (length (map buffer_asked buffers))
  are_routed = record {
    few = up.few_writers;
    producers = λ place below.
        let w = writer_at place below in
        let least = w.counts_producer in
        let inside = slice_get_within lines ((spec_at writers place).producer - 1) w.of_producer w.producer_is in
        let long = AllZip-long IsSpecOf lines specs made in
        let many = ranges_long 0 specs in
        record { least = least; most = omega (arith, least, inside, long, many) };
    least = λ place below. (writer_at place below).counts_buffer;
    most = λ place below.
        let w = writer_at place below in
        let least = w.counts_buffer in
        let inside = slice_get_within buffers ((spec_at writers place).buffer - 1) w.into_buffer w.buffer_is in
        let many = length-map buffers buffer_asked in
        omega (arith, least, inside, many);
  }

  pub records_fit : RecordsFit (setup_of specs writers) (map buffer_asked buffers)
  records_fit place below =
      let w = writer_at place below in
      let none : BufferSpec = record { size = 0; policy = Ring } in
      let size = size_is lines specs ((spec_at writers place).producer - 1) w.of_producer made w.producer_is in
      let there = get_map buffer_asked buffers ((spec_at writers place).buffer - 1) w.into_buffer w.buffer_is in
      let room : buffer_spec_at (map buffer_asked buffers) ((spec_at writers place).buffer - 1) ≡ buffer_asked w.into_buffer =
      get_or_from_slice_get (map buffer_asked buffers) ((spec_at writers place).buffer - 1) (buffer_asked w.into_buffer) none there in
      subst (λ (n : ℕ). record_size n ≤ (buffer_spec_at (map buffer_asked buffers) ((spec_at writers place).buffer - 1)).size) (sym size)
      (subst (λ (s : BufferSpec). record_size (payload_size w.of_producer.page_size w.of_producer.chunks) ≤ s.size) (sym room) w.fits)

-- ---- what is made one by one

zip_push : (lines : List ProducerLine) (specs : List ProducerSpec) (line : ProducerLine) (spec : ProducerSpec)
    → AllZip IsSpecOf lines specs → IsSpecOf line spec
    → AllZip IsSpecOf (lines ++ line ∷ []) (specs ++ spec ∷ [])
zip_push [] [] line spec made is = (is, tt)
zip_push [] (other ∷ specs) line spec made is = absurd made
zip_push (one ∷ lines) [] line spec made is = absurd made
zip_push (one ∷ lines) (other ∷ specs) line spec made is = (made.0, zip_push lines specs line spec made.1 is)

-- one producer more
pub specs_more : (lines : List ProducerLine) (specs : List ProducerSpec) (i : ℕ) (d : ProducerLine) (spec : ProducerSpec) → i < length lines
    → AllZip IsSpecOf (take i lines) specs → IsSpecOf (get_or lines i d) spec → AllZip IsSpecOf (take (i + 1) lines) (specs ++ spec ∷ [])
specs_more lines specs i d spec below made is =
    subst (λ (front : List ProducerLine). AllZip IsSpecOf front (specs ++ spec ∷ [])) (sym (take_more lines i d below))
    (zip_push (take i lines) specs (get_or lines i d) spec made is)

-- what holds of each element, and of one that is pushed
pub pushed_each : {A : Type 0} (P : ℕ → A → Type 0) (xs : List A) (x : A) → ((i : ℕ) (y : A) → slice_get xs i ≡ Some y → P i y)
    → P (length xs) x
    → (i : ℕ) (y : A) → slice_get (xs ++ x ∷ []) i ≡ Some y → P i y
pushed_each P [] x each one zero y get = let same : x ≡ y = cc in subst (P 0) same one
pushed_each P [] x each one (suc i) y get = absurd (cc)
pushed_each P (z ∷ xs) x each one zero y get = each zero y get
pushed_each P (z ∷ xs) x each one (suc i) y get = pushed_each (λ j w. P (suc j) w) xs x (λ j w there. each (suc j) w there) one i y get

-- the chunks of the writer at a place of a table that is laid out so
module _ (setup : Setup) (producers : List ProducerSpec) (place : ℕ) (spec : WriterSpec) (is : setup ≡ setup_of producers setup.writers)
    (there : slice_get setup.writers place ≡ Some spec) (has : HasProducer setup spec.producer) where
  pub own_producer : producer_of setup place ≡ spec.producer
  own_producer = ap (λ (s : WriterSpec). s.producer) (get_or_from_slice_get setup.writers place spec no_writer there)

  pub producer_there : spec.producer - 1 < length producers
  producer_there =
      let long : length setup.ranges ≡ length producers = ap (λ (s : Setup). length s.ranges) is ∙ ranges_long 0 producers in
      let least = has.least in let most = has.most in omega (arith, long, least, most)

  pub own_sizes : IsLaid setup → (d : ProducerSpec) (chunk : ℕ) → IsChunkOf setup (producer_of setup place) chunk
      → (spot setup chunk).payload_size ≡ payload_size (get_or producers (spec.producer - 1) d).geometry.page_size
      (get_or producers (spec.producer - 1) d).geometry.chunks
  own_sizes laid d chunk of =
      laid.sizes (producer_of setup place) chunk of ∙ ap (size_of setup) own_producer ∙ ap (λ (s : Setup). size_of s spec.producer) is
      ∙ cut_so producers setup.writers spec.producer d producer_there
