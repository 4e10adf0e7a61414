-- What a configuration asks for keeps to what table, service and frames want of it.
use Rattle.std.proofs.Common.{◌≡◌, ◌∙◌, ℕ, zero, suc, ◌+◌, ◌-◌, ◌*◌, ◌<◌, ◌≤◌, List, [], ◌∷◌, length, map, Some, slice_get, get_or, sym, ap, subst, arith}
use Rattle.std.specs.List.{All, AllZip}
use Rattle.std.proofs.lemmas.List.{length-map, get_or-map}
use Rattle.std.proofs.lemmas.List.Elements.{All-nil, All-cons}
use Rattle.std.proofs.lemmas.Option.{slice_get_within, get_or_from_slice_get}
use Rattle.std.proofs.lemmas.Slice.Zip.{AllZip-long}
use Rattle.trace_base.specs.declared.limits.TheConstants.{BYTES_PER_KB, MAX_BUFFERS, MAX_CHUNKS_PER_PAGE, MAX_PAGES, MAX_PAGE_SIZE, MAX_PRODUCERS, MAX_WRITERS}
use Rattle.trace_base.specs.declared.policy.FullPolicy.TheVariants.{Ring}
use Rattle.trace_base.specs.declared.policy.WriterSpec.{WriterSpec}
use Rattle.page_geometry.specs.Sizes.{payload_size, record_size}
use Rattle.page_geometry.proofs.SizeLemmas.{payload_size_most}
use Rattle.chunk_plain.specs.declared.setup.ProducerSpec.{ProducerSpec}
use Rattle.chunk_plain.specs.Laying.{setup_of, sizes_of}
use Rattle.chunk_plain.specs.Setup.{Setup, producer_of, size_of, no_writer}
use Rattle.trace_buffer.specs.declared.answers.BufferSpec.{BufferSpec}
use Rattle.service_core.specs.Agreement.{IsRouted, buffer_of, spec_at}
use Rattle.service_core.specs.Making.{HaveSizes, IsBufferSize, RecordsFit, buffer_spec_at}
use Rattle.service_core.proofs.MakeLemmas.{ranges_long}
use Rattle.config_text.specs.declared.config.ConfigBuffer.{ConfigBuffer}
use Rattle.config_text.specs.declared.config.ConfigProducer.{ConfigProducer}
use Rattle.config_text.specs.declared.config.ConfigSource.{ConfigSource}
use Rattle.config_text.specs.Configs.{ConfigOf}
use Rattle.config_text.specs.Writing.{IsSource, IsWritable}
use Rattle.stream_frames.specs.Frames.{payload_size_of}
use Rattle.stream_producer.specs.Setups.{IsSpecOf, buffer_asked, config_limits, payload_asked, writer_asked}
use Rattle.stream_producer.specs.Standing.{FitsSetup}

no_source : ConfigSource
no_source = record { name = []; target_buffer = 0; producer = 0 }

-- ---- producers

-- each producer's one page is cut as its pages are
size_is : (producers : List ConfigProducer) (specs : List ProducerSpec) (i : ℕ) (producer : ConfigProducer)
    → AllZip IsSpecOf producers specs → slice_get producers i ≡ Some producer
    → get_or (sizes_of specs) i 0 ≡ payload_size (producer.page_size_kb * BYTES_PER_KB) MAX_CHUNKS_PER_PAGE
size_is [] specs i producer made get = absurd (cc)
size_is (one ∷ producers) [] i producer made get = absurd made
size_is (one ∷ producers) (spec ∷ specs) zero producer made get =
    let same : one ≡ producer = cc in
    ap (λ (n : ℕ). payload_size n spec.geometry.chunks) made.0.page_size ∙ ap (payload_size (one.page_size_kb * BYTES_PER_KB)) made.0.chunks
    ∙ ap (λ (p : ConfigProducer). payload_size (p.page_size_kb * BYTES_PER_KB) MAX_CHUNKS_PER_PAGE) same
size_is (one ∷ producers) (spec ∷ specs) (suc i) producer made get = size_is producers specs i producer made.1 get

-- a chunk's payload is smaller than the largest page
sizes_small : (specs : List ProducerSpec) (i : ℕ) → get_or (sizes_of specs) i 0 < MAX_PAGE_SIZE
sizes_small [] i = omega arith
sizes_small (spec ∷ specs) zero = omega (arith, payload_size_most spec.geometry)
sizes_small (spec ∷ specs) (suc i) = sizes_small specs i

some_page : (producers : List ConfigProducer) (specs : List ProducerSpec) → AllZip IsSpecOf producers specs
    → All (λ (p : ProducerSpec). 1 ≤ p.pages) specs
some_page [] [] made = All-nil (λ (p : ProducerSpec). 1 ≤ p.pages)
some_page [] (spec ∷ specs) made = absurd made
some_page (producer ∷ producers) [] made = absurd made
some_page (producer ∷ producers) (spec ∷ specs) made =
    let one = made.0.pages in
    All-cons (λ (p : ProducerSpec). 1 ≤ p.pages) spec specs (omega (arith, one)) (some_page producers specs made.1)

few_pages : (producers : List ConfigProducer) (specs : List ProducerSpec) → AllZip IsSpecOf producers specs
    → All (λ (p : ProducerSpec). p.pages ≤ MAX_PAGES) specs
few_pages [] [] made = All-nil (λ (p : ProducerSpec). p.pages ≤ MAX_PAGES)
few_pages [] (spec ∷ specs) made = absurd made
few_pages (producer ∷ producers) [] made = absurd made
few_pages (producer ∷ producers) (spec ∷ specs) made =
    let one = made.0.pages in
    All-cons (λ (p : ProducerSpec). p.pages ≤ MAX_PAGES) spec specs (omega (arith, one)) (few_pages producers specs made.1)

-- ---- what frames name

-- where each number of a list is below a bound, what is read at any place is
small_at : (bound : ℕ) (sizes : List ℕ) (i : ℕ) → 0 < bound → ((k : ℕ) → k < length sizes → get_or sizes k 0 < bound)
    → get_or sizes i 0 < bound
small_at bound [] i some each = some
small_at bound (size ∷ sizes) zero some each = each zero (omega arith)
small_at bound (size ∷ sizes) (suc i) some each = small_at bound sizes i some (λ k below. each (suc k) (omega (arith, below)))

-- ---- the configuration's set-up, with its producers as they were made

module _ (config : ConfigOf) (writable : IsWritable config) (specs : List ProducerSpec)
    (made : AllZip IsSpecOf config.producers specs) where
  abbrev writers : List WriterSpec
  writers = map writer_asked config.sources

  abbrev setup : Setup
  setup = setup_of specs writers

  abbrev buffers : List BufferSpec
  buffers = map buffer_asked config.buffers

  pub few_producers : length specs ≤ MAX_PRODUCERS
  few_producers =
      let few = writable.few_producers in
      let long = AllZip-long IsSpecOf config.producers specs made in
      omega (arith, few, long)

  pub have_page : All (λ (p : ProducerSpec). 1 ≤ p.pages) specs
  have_page = some_page config.producers specs made

  pub have_few_pages : All (λ (p : ProducerSpec). p.pages ≤ MAX_PAGES) specs
  have_few_pages = few_pages config.producers specs made

  pub few_writers : length writers ≤ MAX_WRITERS
  few_writers = let few = writable.few_sources in let many = length-map config.sources writer_asked in omega (arith, few, many)

  pub few_buffers : length buffers ≤ MAX_BUFFERS
  few_buffers = let few = writable.few_buffers in let many = length-map config.buffers buffer_asked in omega (arith, few, many)

  pub have_sizes : HaveSizes buffers
  have_sizes index below =
      let none : ConfigBuffer = record { size_kb = 0; policy = Ring } in
      let many = length-map config.buffers buffer_asked in
      let inside : index < length config.buffers = omega (arith, below, many) in
      let sized = writable.buffers index none inside in
      let least = sized.0 in
      let most = sized.1 in
      let there = get_or-map buffer_asked config.buffers index none (record { size = 0; policy = Ring }) inside in
      subst (λ (s : BufferSpec). IsBufferSize s.size) (sym there)
      (record { least = omega (arith, least); units = omega arith; most = omega (arith, most) })

  -- the source of the writer at a place
  inside_sources : (place : ℕ) → place < length writers → place < length config.sources
  inside_sources place below = let many = length-map config.sources writer_asked in omega (arith, below, many)

  abbrev source_at : ℕ → ConfigSource
  source_at place = get_or config.sources place no_source

  is_source : (place : ℕ) → place < length writers → IsSource config (source_at place)
  is_source place below = writable.sources place no_source (inside_sources place below)

  writer_is : (place : ℕ) → place < length writers → spec_at writers place ≡ writer_asked (source_at place)
  writer_is place below = get_or-map writer_asked config.sources place no_source no_writer (inside_sources place below)

  -- the payload size of its chunks
  writer_size : (place : ℕ) (below : place < length writers)
      → size_of setup (producer_of setup place)
      ≡ payload_size ((is_source place below).producer.page_size_kb * BYTES_PER_KB) MAX_CHUNKS_PER_PAGE
  writer_size place below =
      let source = is_source place below in
      ap (λ (w : WriterSpec). size_of setup w.producer) (writer_is place below)
      ∙ size_is config.producers specs ((source_at place).producer - 1) source.producer made source.has_producer

  pub are_routed : IsRouted setup (length buffers)
  are_routed = record {
    few = few_writers;
    producers = λ place below.
        let source = is_source place below in
        let least = source.numbered in
        let inside = slice_get_within config.producers ((source_at place).producer - 1) source.producer source.has_producer in
        let long = AllZip-long IsSpecOf config.producers specs made in
        let many = ranges_long 0 specs in
        let number = ap (λ (w : WriterSpec). w.producer) (writer_is place below) in
        record { least = omega (arith, least, number); most = omega (arith, least, inside, long, many, number) };
    least = λ place below. let number = ap (λ (w : WriterSpec). w.buffer) (writer_is place below) in omega (arith, number);
    most = λ place below.
        let source = is_source place below in
        let inside = slice_get_within config.buffers (source_at place).target_buffer source.buffer source.has_buffer in
        let many = length-map config.buffers buffer_asked in
        let number = ap (λ (w : WriterSpec). w.buffer) (writer_is place below) in
        omega (arith, inside, many, number);
  }

  pub records_fit : RecordsFit setup buffers
  records_fit place below =
      let source = is_source place below in
      let target = (source_at place).target_buffer in
      let none : ConfigBuffer = record { size_kb = 0; policy = Ring } in
      let inside = slice_get_within config.buffers target source.buffer source.has_buffer in
      let number = ap (λ (w : WriterSpec). w.buffer) (writer_is place below) in
      let index : buffer_of setup place - 1 ≡ target = omega (arith, number) in
      let there : buffer_spec_at buffers (buffer_of setup place - 1) ≡ buffer_asked source.buffer =
      ap (buffer_spec_at buffers) index ∙ get_or-map buffer_asked config.buffers target none (record { size = 0; policy = Ring }) inside
      ∙ ap buffer_asked (get_or_from_slice_get config.buffers target source.buffer none source.has_buffer) in
      subst (λ (n : ℕ). record_size n ≤ (buffer_spec_at buffers (buffer_of setup place - 1)).size) (sym (writer_size place below))
      (subst (λ (s : BufferSpec). record_size (payload_size (source.producer.page_size_kb * BYTES_PER_KB) MAX_CHUNKS_PER_PAGE) ≤ s.size)
      (sym there) source.fits)

  -- a frame's source has the payload size of the writer's chunks
  limit_is : (place : ℕ) → place < length writers
      → payload_size_of (config_limits config) (place + 1) ≡ size_of setup (producer_of setup place)
  limit_is place below =
      let source = is_source place below in
      let none : ConfigProducer = record { name = []; shm_size_kb = 0; page_size_kb = 0 } in
      let index : place + 1 - 1 ≡ place = omega arith in
      ap (λ (k : ℕ). get_or (map (payload_asked config.producers) config.sources) k 0) index
      ∙ get_or-map (payload_asked config.producers) config.sources place no_source 0 (inside_sources place below)
      ∙ ap (λ (p : ConfigProducer). payload_size (p.page_size_kb * BYTES_PER_KB) MAX_CHUNKS_PER_PAGE)
      (get_or_from_slice_get config.producers ((source_at place).producer - 1) source.producer none source.has_producer)
      ∙ sym (writer_size place below)

  limit_small : (place : ℕ) → place < length (config_limits config).sizes → get_or (config_limits config).sizes place 0 < MAX_PAGE_SIZE
  limit_small place below =
      let asked = length-map config.sources (payload_asked config.producers) in
      let many = length-map config.sources writer_asked in
      let inside : place < length writers = omega (arith, below, asked, many) in
      let index : place + 1 - 1 ≡ place = omega arith in
      let same : get_or (config_limits config).sizes place 0 ≡ size_of setup (producer_of setup place) =
      ap (λ (k : ℕ). get_or (config_limits config).sizes k 0) (sym index) ∙ limit_is place inside in
      subst (λ (n : ℕ). n < MAX_PAGE_SIZE) (sym same) (sizes_small specs (producer_of setup place - 1))

  pub limits_fit : FitsSetup (config_limits config) setup
  limits_fit = record {
    many = length-map config.sources (payload_asked config.producers) ∙ sym (length-map config.sources writer_asked);
    sizes = limit_is;
    small = λ source. small_at MAX_PAGE_SIZE (config_limits config).sizes (source - 1) (omega arith) limit_small;
  }

-- ---- the same, as it is passed on

module _ (config : ConfigOf) (writable : IsWritable config) (producers : List ConfigProducer) (made_of : List ProducerSpec)
    (producers_are : producers ≡ config.producers) (zipped : AllZip IsSpecOf producers made_of) where
  pub made_as_asked : AllZip IsSpecOf config.producers made_of
  made_as_asked = subst (λ (ps : List ConfigProducer). AllZip IsSpecOf ps made_of) producers_are zipped

  module _ (specs : List ProducerSpec) (specs_are : specs ≡ made_of) where
    pub specs_few : length specs ≤ MAX_PRODUCERS
    specs_few =
        subst (λ (ps : List ProducerSpec). length ps ≤ MAX_PRODUCERS) (sym specs_are) (few_producers config writable made_of made_as_asked)

    pub specs_some_page : All (λ (p : ProducerSpec). 1 ≤ p.pages) specs
    specs_some_page =
        subst (All (λ (p : ProducerSpec). 1 ≤ p.pages)) (sym specs_are) (have_page config writable made_of made_as_asked)

    pub specs_few_pages : All (λ (p : ProducerSpec). p.pages ≤ MAX_PAGES) specs
    specs_few_pages =
        subst (All (λ (p : ProducerSpec). p.pages ≤ MAX_PAGES)) (sym specs_are) (have_few_pages config writable made_of made_as_asked)

    module _ (buffers : List BufferSpec) (writers : List WriterSpec) (buffers_are : buffers ≡ map buffer_asked config.buffers)
        (writers_are : writers ≡ map writer_asked config.sources) where
      pub specs_sizes : HaveSizes buffers
      specs_sizes = subst HaveSizes (sym buffers_are) (have_sizes config writable made_of made_as_asked)

      pub specs_routed : IsRouted (setup_of specs writers) (length buffers)
      specs_routed =
          subst (λ (bs : List BufferSpec). IsRouted (setup_of specs writers) (length bs)) (sym buffers_are)
          (subst (λ (ps : List ProducerSpec). IsRouted (setup_of ps writers) (length (map buffer_asked config.buffers))) (sym specs_are)
          (subst (λ (ws : List WriterSpec). IsRouted (setup_of made_of ws) (length (map buffer_asked config.buffers))) (sym writers_are)
          (are_routed config writable made_of made_as_asked)))

      pub specs_fit : RecordsFit (setup_of specs writers) buffers
      specs_fit =
          subst (RecordsFit (setup_of specs writers)) (sym buffers_are)
          (subst (λ (ps : List ProducerSpec). RecordsFit (setup_of ps writers) (map buffer_asked config.buffers)) (sym specs_are)
          (subst (λ (ws : List WriterSpec). RecordsFit (setup_of made_of ws) (map buffer_asked config.buffers)) (sym writers_are)
          (records_fit config writable made_of made_as_asked)))
