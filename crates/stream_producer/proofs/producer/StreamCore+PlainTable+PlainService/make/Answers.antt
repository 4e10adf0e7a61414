-- Each part is made for what the configuration asks.
use Rattle.std.proofs.Common.{◌≡◌, ◌∙◌, ◌<◌, ◌≤◌, false, List, length, map, vec_len, Some, refl, sym, ap, subst, arith}
use Rattle.std.specs.Prelude.{vec_capacity}
use Rattle.trace_base.specs.declared.limits.TheConstants.{MAX_BUFFERS, MAX_PAGE_SIZE, MAX_WRITERS}
use Rattle.trace_base.specs.declared.policy.WriterSpec.{WriterSpec}
use Rattle.chunk_plain.specs.declared.plain.PlainTable.{PlainTable}
use Rattle.chunk_plain.specs.declared.plain_seats.PlainService.{PlainService}
use Rattle.chunk_plain.specs.declared.setup.ProducerSpec.{ProducerSpec}
use Rattle.chunk_plain.specs.contracts.plain_words.PlainTableWords.TheImpl.{ghosts as plain}
use Rattle.chunk_plain.specs.Laying.{setup_of}
use Rattle.chunk_plain.specs.Plain.{first_world}
use Rattle.chunk_plain.specs.Setup.{Setup}
use Rattle.trace_buffer.specs.declared.answers.BufferSpec.{BufferSpec}
use Rattle.service_core.specs.Agreement.{ServiceAgrees, is_closed}
use Rattle.service_core.specs.Making.{IsUnused}
use Rattle.config_text.specs.Configs.{ConfigOf, parts_of}
use Rattle.stream_producer.specs.declared.producer.StreamCore.{StreamCore}
use Rattle.stream_producer.specs.Setups.{buffer_asked, writer_asked}
use Rattle.stream_producer.proofs.BuiltLemmas.{IsBuilt, built_is_feeding, built_is_made, table_service, setup_for}
use Rattle.stream_producer.proofs.SetUpLemmas.{few_buffers, few_writers, made_as_asked, specs_few, specs_some_page, specs_few_pages, specs_sizes, specs_routed, specs_fit}
use Rattle.stream_producer.proofs.producer.StreamCore+PlainTable+PlainService.make.Goals as goal

pub make-requires-clause-producers : goal.make-requires-clause-producers
make-requires-clause-producers c =
    specs_few (parts_of c.args.config.now) c.requires c.deref-2.result.now c.in_ok-producers.producers.items c.deref-2.ensures.value
    c.in_ok-producers.ensures c.deref-4.result.now c.deref-4.ensures.value

pub make-requires-clause-some_page : goal.make-requires-clause-some_page
make-requires-clause-some_page c =
    specs_some_page (parts_of c.args.config.now) c.requires c.deref-2.result.now c.in_ok-producers.producers.items c.deref-2.ensures.value
    c.in_ok-producers.ensures c.deref-4.result.now c.deref-4.ensures.value

pub make-requires-clause-pages : goal.make-requires-clause-pages
make-requires-clause-pages c =
    specs_few_pages (parts_of c.args.config.now) c.requires c.deref-2.result.now c.in_ok-producers.producers.items c.deref-2.ensures.value
    c.in_ok-producers.ensures c.deref-4.result.now c.deref-4.ensures.value

pub make-requires-clause-writers : goal.make-requires-clause-writers
make-requires-clause-writers c =
    let config : ConfigOf = parts_of c.args.config.now in
    let specs : List ProducerSpec = c.in_ok-producers.producers.items in
    let writers_are : c.deref-5.result.now ≡ map writer_asked config.sources =
    c.deref-5.ensures.value ∙ c.in_ok-writers.ensures ∙ ap (map writer_asked) c.deref-3.ensures.value in
    subst (λ (ws : List WriterSpec). length ws ≤ MAX_WRITERS) (sym writers_are)
    (few_writers config c.requires specs
    (made_as_asked config c.requires c.deref-2.result.now specs c.deref-2.ensures.value c.in_ok-producers.ensures))

pub make-requires-2-clause-buffers : goal.make-requires-2-clause-buffers
make-requires-2-clause-buffers c =
    let config : ConfigOf = parts_of c.args.config.now in
    let specs : List ProducerSpec = c.in_ok-producers.producers.items in
    let buffers_are : c.deref-6.result.now ≡ map buffer_asked config.buffers =
    c.deref-6.ensures.value ∙ c.in_ok-buffers.ensures ∙ ap (map buffer_asked) c.deref.ensures.value in
    subst (λ (bs : List BufferSpec). length bs ≤ MAX_BUFFERS) (sym buffers_are)
    (few_buffers config c.requires specs
    (made_as_asked config c.requires c.deref-2.result.now specs c.deref-2.ensures.value c.in_ok-producers.ensures))

pub make-requires-2-clause-sizes : goal.make-requires-2-clause-sizes
make-requires-2-clause-sizes c =
    specs_sizes (parts_of c.args.config.now) c.requires c.deref-2.result.now c.in_ok-producers.producers.items c.deref-2.ensures.value
    c.in_ok-producers.ensures c.deref-7.result.now c.deref-7.ensures.value c.deref-6.result.now c.deref-8.result.now
    (c.deref-6.ensures.value ∙ c.in_ok-buffers.ensures ∙ ap (map buffer_asked) c.deref.ensures.value)
    (c.deref-8.ensures.value ∙ c.in_ok-writers.ensures ∙ ap (map writer_asked) c.deref-3.ensures.value)

pub make-requires-2-clause-producers : goal.make-requires-2-clause-producers
make-requires-2-clause-producers c =
    specs_few (parts_of c.args.config.now) c.requires c.deref-2.result.now c.in_ok-producers.producers.items c.deref-2.ensures.value
    c.in_ok-producers.ensures c.deref-7.result.now c.deref-7.ensures.value

pub make-requires-2-clause-some_page : goal.make-requires-2-clause-some_page
make-requires-2-clause-some_page c =
    specs_some_page (parts_of c.args.config.now) c.requires c.deref-2.result.now c.in_ok-producers.producers.items c.deref-2.ensures.value
    c.in_ok-producers.ensures c.deref-7.result.now c.deref-7.ensures.value

pub make-requires-2-clause-pages : goal.make-requires-2-clause-pages
make-requires-2-clause-pages c =
    specs_few_pages (parts_of c.args.config.now) c.requires c.deref-2.result.now c.in_ok-producers.producers.items c.deref-2.ensures.value
    c.in_ok-producers.ensures c.deref-7.result.now c.deref-7.ensures.value

pub make-requires-2-clause-routed : goal.make-requires-2-clause-routed
make-requires-2-clause-routed c =
    specs_routed (parts_of c.args.config.now) c.requires c.deref-2.result.now c.in_ok-producers.producers.items c.deref-2.ensures.value
    c.in_ok-producers.ensures c.deref-7.result.now c.deref-7.ensures.value c.deref-6.result.now c.deref-8.result.now
    (c.deref-6.ensures.value ∙ c.in_ok-buffers.ensures ∙ ap (map buffer_asked) c.deref.ensures.value)
    (c.deref-8.ensures.value ∙ c.in_ok-writers.ensures ∙ ap (map writer_asked) c.deref-3.ensures.value)

pub make-requires-2-clause-fits : goal.make-requires-2-clause-fits
make-requires-2-clause-fits c =
    specs_fit (parts_of c.args.config.now) c.requires c.deref-2.result.now c.in_ok-producers.producers.items c.deref-2.ensures.value
    c.in_ok-producers.ensures c.deref-7.result.now c.deref-7.ensures.value c.deref-6.result.now c.deref-8.result.now
    (c.deref-6.ensures.value ∙ c.in_ok-buffers.ensures ∙ ap (map buffer_asked) c.deref.ensures.value)
    (c.deref-8.ensures.value ∙ c.in_ok-writers.ensures ∙ ap (map writer_asked) c.deref-3.ensures.value)

pub returns : goal.returns
returns c =
    let config : ConfigOf = parts_of c.args.config.now in
    let specs : List ProducerSpec = c.in_ok-producers.producers.items in
    let writers : List WriterSpec = map writer_asked config.sources in
    let setup : Setup = setup_for config specs in
    let table : PlainTable = c.in_ok-table.table in
    let service = c.in_ok-service.service in
    let writers_are : c.in_ok-writers.writers.items ≡ writers = c.in_ok-writers.ensures ∙ ap (map writer_asked) c.deref-3.ensures.value in
    let writers_there : c.deref-8.result.now ≡ writers = c.deref-8.ensures.value ∙ writers_are in
    let laid : setup_of c.deref-4.result.now c.deref-5.result.now ≡ setup =
    ap (λ (ps : List ProducerSpec). setup_of ps c.deref-5.result.now) c.deref-4.ensures.value
    ∙ ap (setup_of specs) (c.deref-5.ensures.value ∙ writers_are) in
    let told : plain.means.told table ≡ Some (first_world setup) =
    c.in_ok-table.ensures.told ∙ ap (λ (s : Setup). Some (first_world s)) laid in
    let buffers_long = ap length c.deref.ensures.value in
    let buffers_seen = c.deref.ensures.len in
    let sources_long = ap length c.deref-3.ensures.value in
    let sources_seen = c.deref-3.ensures.len in
    let asked_buffers : c.len.result ≡ vec_len c.args.config.now.buffers = c.len.ensures in
    let room_buffers = c.in_ok-vec.ensures.len in
    let many_buffers : vec_len c.in_ok-vec.field-0 ≡ length config.buffers =
    omega (arith, room_buffers, asked_buffers, buffers_seen, buffers_long) in
    let asked_sources : c.len-2.result ≡ vec_len c.args.config.now.sources = c.len-2.ensures in
    let room_sources = c.in_ok-vec-2.ensures.len in
    let many_sources : vec_len c.in_ok-vec-2.field-0 ≡ length config.sources =
    omega (arith, room_sources, asked_sources, sources_seen, sources_long) in
    let core = λ (room : MAX_PAGE_SIZE ≤ vec_capacity c.in_ok-with_capacity.field-0).
    let producer : StreamCore PlainTable PlainService = record {
      reader = c.in_ok-make.field-0;
      player = record {
        table = table;
        service = service;
        payload = c.in_ok-with_capacity.field-0;
        patches = c.new.result;
        commits = 0;
        refused = 0;
        room = room;
      };
      done = record { buffers = c.in_ok-vec.field-0; sequences = c.in_ok-vec-2.field-0; commits = 0; refused = 0 };
    } in
    producer in
    let built : (room : MAX_PAGE_SIZE ≤ vec_capacity c.in_ok-with_capacity.field-0) → IsBuilt plain.means config specs (core room) =
    λ room. record {
      made = made_as_asked config c.requires c.deref-2.result.now specs c.deref-2.ensures.value c.in_ok-producers.ensures;
      setup_is = c.in_ok-table.ensures.setup ∙ laid;
      service_view = table_service table setup service.seat told;
      serves = c.in_ok-table.ensures.serves;
      reads = tt;
      buffers = c.in_ok-service.ensures.specs ∙ c.deref-6.ensures.value ∙ c.in_ok-buffers.ensures
          ∙ ap (map buffer_asked) c.deref.ensures.value;
      agrees = λ view unused.
          subst (λ (ps : List ProducerSpec). ServiceAgrees (setup_of ps writers) view service) c.deref-7.ensures.value
          (subst (λ (ws : List WriterSpec). ServiceAgrees (setup_of c.deref-7.result.now ws) view service) writers_there
          (c.in_ok-service.ensures.agrees view (subst (λ (ws : List WriterSpec). IsUnused (length ws) view) (sym writers_there) unused)));
      opened = λ place below.
          subst (λ (ps : List ProducerSpec). is_closed (setup_of ps writers) service place ≡ false) c.deref-7.ensures.value
          (subst (λ (ws : List WriterSpec). is_closed (setup_of c.deref-7.result.now ws) service place ≡ false) writers_there
          (c.in_ok-service.ensures.is_open place (subst (λ (ws : List WriterSpec). place < length ws) (sym writers_there) below)));
      limits = c.in_ok-make.ensures.limits ∙ c.frame_limits.ensures;
      feeding = c.in_ok-make.ensures.feeding;
      reading = c.in_ok-make.ensures.reading;
      commits = refl;
      refused = refl;
      room_buffers = many_buffers;
      room_sequences = many_sources;
    } in
    record {
      feeding = built_is_feeding plain.means config c.requires specs _ (built _);
      made = built_is_made plain.means config c.requires specs _ (built _);
    }
