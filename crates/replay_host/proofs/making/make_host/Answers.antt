use Rattle.std.proofs.Common.{◌≡◌, ◌∙◌, ℕ, ◌<◌, ◌≤◌, true, false, List, [], length, map, replicate, vec_len, Some, refl, sym, ap, subst, arith, rules}
use Rattle.std.specs.List.{AllByRecursion}
use Rattle.std.proofs.lemmas.List.{length-map}
use Rattle.std.proofs.lemmas.Option.{slice_get_within}
use Rattle.trace_base.specs.declared.limits.TheConstants.{MAX_BUFFERS, MAX_WRITERS}
use Rattle.trace_base.specs.declared.policy.WriterSpec.{WriterSpec}
use Rattle.session_core.specs.Sessions.{new_session, moved, configured}
use Rattle.session_core.specs.declared.answers.SessionState.TheVariants.{Started}
use Rattle.scenario_text.specs.Limits.{IsBuffer, IsProducer}
use Rattle.scenario_text.specs.Scenario.{parts_of}
use Rattle.scenario_text.proofs.LimitLemmas.{scenario_is_set_up}
use Rattle.scenario_text.proofs.ShortLemmas.{scenario_is_short}
use Rattle.chunk_plain.specs.declared.plain.PlainTable.{PlainTable}
use Rattle.chunk_plain.specs.declared.plain_seats.PlainService.{PlainService}
use Rattle.chunk_plain.specs.declared.plain_seats.PlainWriter.{PlainWriter}
use Rattle.chunk_plain.specs.declared.setup.ProducerSpec.{ProducerSpec}
use Rattle.chunk_plain.specs.contracts.plain_words.PlainTableWords.TheImpl.{ghosts as plain}
use Rattle.chunk_plain.specs.Laying.{setup_of}
use Rattle.chunk_plain.specs.Plain.{first_world}
use Rattle.trace_buffer.specs.declared.answers.BufferSpec.{BufferSpec}
use Rattle.service_core.specs.Agreement.{ServiceAgrees, is_closed}
use Rattle.service_core.specs.Making.{IsUnused}
use Rattle.replay_host.specs.declared.host.Host.{Host}
use Rattle.replay_host.specs.Making.{buffer_asked}
use Rattle.replay_host.specs.Tally.{IsTally}
use Rattle.replay_host.proofs.BuiltLemmas.{built_is_made}
use Rattle.replay_host.proofs.PlainMadeLemmas.{table_service, seated_new}
use Rattle.replay_host.proofs.SetUpLemmas.{asks_well, made_as_asked, specs_few, specs_some_page, specs_few_pages, specs_routed, specs_fit, specs_sizes}
use Rattle.replay_host.proofs.making.make_host.Goals as goal

pub producer_specs-requires : goal.producer_specs-requires
producer_specs-requires c = subst (AllByRecursion IsProducer) (sym c.deref.ensures.value)
    (scenario_is_set_up c.args.scenario.now c.requires).are_producers

pub buffer_specs-requires : goal.buffer_specs-requires
buffer_specs-requires c = subst (AllByRecursion IsBuffer) (sym c.deref-2.ensures.value)
    (scenario_is_set_up c.args.scenario.now c.requires).are_buffers

pub make-requires-clause-producers : goal.make-requires-clause-producers
make-requires-clause-producers c =
    specs_few c.args.scenario.now c.requires c.deref.result.now c.in_ok-producers.producers.items c.deref.ensures.value
    c.in_ok-producers.ensures
    c.deref-3.result.now c.deref-3.ensures.value

pub make-requires-clause-some_page : goal.make-requires-clause-some_page
make-requires-clause-some_page c =
    specs_some_page c.args.scenario.now c.requires c.deref.result.now c.in_ok-producers.producers.items c.deref.ensures.value
    c.in_ok-producers.ensures
    c.deref-3.result.now c.deref-3.ensures.value

pub make-requires-clause-pages : goal.make-requires-clause-pages
make-requires-clause-pages c =
    specs_few_pages c.args.scenario.now c.requires c.deref.result.now c.in_ok-producers.producers.items c.deref.ensures.value
    c.in_ok-producers.ensures
    c.deref-3.result.now c.deref-3.ensures.value

pub make-requires-clause-writers : goal.make-requires-clause-writers
make-requires-clause-writers c =
    subst (λ (ws : List WriterSpec). length ws ≤ MAX_WRITERS) (sym c.deref-4.ensures.value)
    (scenario_is_set_up c.args.scenario.now c.requires).few_writers

pub make-requires-2-clause-buffers : goal.make-requires-2-clause-buffers
make-requires-2-clause-buffers c =
    let buffers_are : c.deref-5.result.now ≡ map buffer_asked c.args.scenario.now.buffers.items =
    c.deref-5.ensures.value ∙ c.in_ok-buffers.ensures ∙ ap (map buffer_asked) c.deref-2.ensures.value in
    let few = (scenario_is_set_up c.args.scenario.now c.requires).few_buffers in
    subst (λ (bs : List BufferSpec). length bs ≤ MAX_BUFFERS) (sym buffers_are)
    (omega (arith, few, length-map c.args.scenario.now.buffers.items buffer_asked))

pub make-requires-2-clause-sizes : goal.make-requires-2-clause-sizes
make-requires-2-clause-sizes c =
    specs_sizes c.args.scenario.now c.requires c.deref.result.now c.in_ok-producers.producers.items c.deref.ensures.value
    c.in_ok-producers.ensures
    c.deref-5.result.now c.deref-6.result.now c.deref-7.result.now
    (c.deref-5.ensures.value ∙ c.in_ok-buffers.ensures ∙ ap (map buffer_asked) c.deref-2.ensures.value) c.deref-6.ensures.value
    c.deref-7.ensures.value

pub make-requires-2-clause-producers : goal.make-requires-2-clause-producers
make-requires-2-clause-producers c =
    specs_few c.args.scenario.now c.requires c.deref.result.now c.in_ok-producers.producers.items c.deref.ensures.value
    c.in_ok-producers.ensures
    c.deref-6.result.now c.deref-6.ensures.value

pub make-requires-2-clause-some_page : goal.make-requires-2-clause-some_page
make-requires-2-clause-some_page c =
    specs_some_page c.args.scenario.now c.requires c.deref.result.now c.in_ok-producers.producers.items c.deref.ensures.value
    c.in_ok-producers.ensures
    c.deref-6.result.now c.deref-6.ensures.value

pub make-requires-2-clause-pages : goal.make-requires-2-clause-pages
make-requires-2-clause-pages c =
    specs_few_pages c.args.scenario.now c.requires c.deref.result.now c.in_ok-producers.producers.items c.deref.ensures.value
    c.in_ok-producers.ensures
    c.deref-6.result.now c.deref-6.ensures.value

pub make-requires-2-clause-routed : goal.make-requires-2-clause-routed
make-requires-2-clause-routed c =
    specs_routed c.args.scenario.now c.requires c.deref.result.now c.in_ok-producers.producers.items c.deref.ensures.value
    c.in_ok-producers.ensures
    c.deref-5.result.now c.deref-6.result.now c.deref-7.result.now
    (c.deref-5.ensures.value ∙ c.in_ok-buffers.ensures ∙ ap (map buffer_asked) c.deref-2.ensures.value) c.deref-6.ensures.value
    c.deref-7.ensures.value

pub make-requires-2-clause-fits : goal.make-requires-2-clause-fits
make-requires-2-clause-fits c =
    specs_fit c.args.scenario.now c.requires c.deref.result.now c.in_ok-producers.producers.items c.deref.ensures.value
    c.in_ok-producers.ensures
    c.deref-5.result.now c.deref-6.result.now c.deref-7.result.now
    (c.deref-5.ensures.value ∙ c.in_ok-buffers.ensures ∙ ap (map buffer_asked) c.deref-2.ensures.value) c.deref-6.ensures.value
    c.deref-7.ensures.value

pub fill_writers-requires-clause-named : goal.fill_writers-requires-clause-named
fill_writers-requires-clause-named c =
    let kept : c.in_ok-specs.specs.items ≡ c.args.scenario.now.writers.items = search rules in
    (specs_routed c.args.scenario.now c.requires c.deref.result.now c.in_ok-producers.producers.items c.deref.ensures.value
    c.in_ok-producers.ensures
    (map buffer_asked c.args.scenario.now.buffers.items) c.deref-9.result.now c.deref-8.result.now refl c.deref-9.ensures.value
    (c.deref-8.ensures.value ∙ kept)).producers

pub returns : goal.returns
returns c =
    let scenario = c.args.scenario.now in
    let specs : List ProducerSpec = c.in_ok-producers.producers.items in
    let writers : List WriterSpec = scenario.writers.items in
    let kept : c.in_ok-specs.specs.items ≡ writers = search rules in
    let table = c.in_ok-table.table in
    let service = c.in_ok-service.service in
    let setup_is : plain.means.setup table ≡ setup_of specs writers =
    c.in_ok-table.ensures.setup ∙ ap (λ (ps : List ProducerSpec). setup_of ps c.deref-4.result.now) c.deref-3.ensures.value ∙ ap
    (setup_of specs) c.deref-4.ensures.value in
    let told : plain.means.told table ≡ Some (first_world (setup_of specs writers)) =
    c.in_ok-table.ensures.told ∙ ap (λ (ps : List ProducerSpec). Some (first_world (setup_of ps c.deref-4.result.now)))
    c.deref-3.ensures.value
    ∙ ap (λ (ws : List WriterSpec). Some (first_world (setup_of specs ws))) c.deref-4.ensures.value in
    let many : length c.fill_writers.new.writers.items ≡ length writers = c.fill_writers.ensures.many ∙ ap length
    (c.deref-8.ensures.value ∙ kept) in
    let many_seats : length c.deref-4.result.now ≡ length writers = ap length c.deref-4.ensures.value in
    let producers_seen = c.deref.ensures.len in
    let producers_long = ap length c.deref.ensures.value in
    let count_producers : c.len-2.result ≡ length scenario.producers.items =
    let same : c.len-2.result ≡ vec_len scenario.producers = c.len-2.ensures in omega (arith, same, producers_seen, producers_long) in
    let writers_seen = c.deref-4.ensures.len in
    let count_writers : c.len.result ≡ length writers =
    let same : c.len.result ≡ vec_len scenario.writers = c.len.ensures in omega (arith, same, writers_seen, many_seats) in
    let host : Host PlainTable PlainWriter PlainService = record {
      table = table;
      writers = c.fill_writers.new.writers;
      helper = record { service = service; producer = 0; asks = 0 };
      flushes = c.in_ok-flushes.flushes;
      specs = c.in_ok-specs.specs;
      open_producers = c.in_ok-open_producers.open_producers;
    } in
    built_is_made plain.means (parts_of scenario) specs host (record {
      made = made_as_asked scenario c.requires c.deref.result.now specs c.deref.ensures.value c.in_ok-producers.ensures;
      setup_is = setup_is;
      told = told;
      service_view = table_service table (setup_of specs writers) setup_is told service.seat;
      serves = c.in_ok-table.ensures.serves;
      reads = tt;
      many = many;
      few_producers = (scenario_is_set_up scenario c.requires).few_producers;
      seated = λ place core there.
          let new = c.fill_writers.ensures.made place core there in
          let inside = slice_get_within c.fill_writers.new.writers.items place core there in
          let at = new.place_is in
          seated_new table (setup_of specs writers) setup_is told place core
          (c.in_ok-table.ensures.sits core.seat (omega (arith, inside, at, many, many_seats))) new;
      writers = kept;
      buffers = c.in_ok-service.ensures.specs ∙ c.deref-5.ensures.value ∙ c.in_ok-buffers.ensures ∙ ap (map buffer_asked)
          c.deref-2.ensures.value;
      agrees = λ view unused.
          subst (λ (ps : List ProducerSpec). ServiceAgrees (setup_of ps writers) view service) c.deref-6.ensures.value
          (subst (λ (ws : List WriterSpec). ServiceAgrees (setup_of c.deref-6.result.now ws) view service) c.deref-7.ensures.value
          (c.in_ok-service.ensures.agrees view
          (subst (λ (ws : List WriterSpec). IsUnused (length ws) view) (sym c.deref-7.ensures.value) unused)));
      opened = λ place below.
          subst (λ (ps : List ProducerSpec). is_closed (setup_of ps writers) service place ≡ false) c.deref-6.ensures.value
          (subst (λ (ws : List WriterSpec). is_closed (setup_of c.deref-6.result.now ws) service place ≡ false) c.deref-7.ensures.value
          (c.in_ok-service.ensures.is_open place (subst (λ (ws : List WriterSpec). place < length ws) (sym c.deref-7.ensures.value) below)));
      session = c.in_ok-service.ensures.session ∙ ap (λ (ws : List WriterSpec). moved Started (configured (length ws) new_session))
          c.deref-7.ensures.value;
      flags = c.in_ok-open_producers.ensures.items_if_clones_equal (λ y e. e) ∙ ap (λ (n : ℕ). replicate n true) count_producers;
      tally = subst (λ (n : ℕ). IsTally [] n c.in_ok-flushes.flushes) count_writers c.in_ok-flushes.ensures.tally;
      room = c.in_ok-flushes.ensures.room ∙ c.count_requests-requests.ensures;
      told_room = let room = c.in_ok-flushes.ensures.told_room in let counted = c.count_raws-commits.ensures in omega (arith, room, counted);
    }) (asks_well scenario c.requires) (scenario_is_short scenario c.requires)
