-- The parts of a host, each made for the scenario.
use Rattle.std.proofs.Common.{◌≡◌, ◌∙◌, ℕ, ◌<◌, ◌≤◌, false, List, [], length, map, refl, sym, ap, subst, arith, rules}
use Rattle.std.specs.List.{AllByRecursion}
use Rattle.std.proofs.lemmas.List.{length-map}
use Rattle.trace_base.specs.declared.limits.TheConstants.{MAX_BUFFERS, MAX_WRITERS}
use Rattle.trace_base.specs.declared.policy.WriterSpec.{WriterSpec}
use Rattle.scenario_text.specs.Limits.{IsBuffer, IsProducer}
use Rattle.scenario_text.specs.Scenario.{parts_of}
use Rattle.scenario_text.proofs.LimitLemmas.{scenario_is_set_up}
use Rattle.chunk_plain.specs.declared.setup.ProducerSpec.{ProducerSpec}
use Rattle.chunk_plain.specs.Laying.{setup_of}
use Rattle.chunk_plain.specs.Plain.{first_world}
use Rattle.chunk_plain.specs.Setup.{Setup}
use Rattle.chunk_plain.specs.Views.{Letter, ServiceView, asked_in}
use Rattle.chunk_words.specs.Sits.{setup_in, known_by_service}
use Rattle.trace_buffer.specs.declared.answers.BufferSpec.{BufferSpec}
use Rattle.service_core.specs.Agreement.{AreKnownNotes, is_closed}
use Rattle.service_core.specs.Making.{IsUnused}
use Rattle.replay_host.specs.Making.{buffer_asked}
use Rattle.replay_host.proofs.BuiltLemmas.{unused}
use Rattle.replay_host.proofs.MomentLemmas.{ranges_many}
use Rattle.replay_host.proofs.SetUpLemmas.{made_as_asked, specs_few, specs_some_page, specs_few_pages, specs_routed, specs_fit, specs_sizes}
use Rattle.thread_service.specs.Serving as serving
use Rattle.thread_host.specs.Hosts.{IsServed}
use Rattle.replay_model.specs.Flushes.{requests_in}
use Rattle.thread_host.specs.Tally.{IsTally}
use Rattle.thread_host.proofs.Made.{are_ready, is_served, requests_fit}
use Rattle.thread_host.proofs.host.Host.make.Goals as goal

pub producer_specs-requires : goal.producer_specs-requires
producer_specs-requires c = subst (AllByRecursion IsProducer) (sym c.deref.ensures.value)
    (scenario_is_set_up c.args.scenario.now c.requires.scenario).are_producers

pub buffer_specs-requires : goal.buffer_specs-requires
buffer_specs-requires c = subst (AllByRecursion IsBuffer) (sym c.deref-2.ensures.value)
    (scenario_is_set_up c.args.scenario.now c.requires.scenario).are_buffers

pub make-requires-clause-producers : goal.make-requires-clause-producers
make-requires-clause-producers c =
    specs_few c.args.scenario.now c.requires.scenario c.deref.result.now c.in_ok-producers.producers.items c.deref.ensures.value
    c.in_ok-producers.ensures
    c.deref-3.result.now c.deref-3.ensures.value

pub make-requires-clause-some_page : goal.make-requires-clause-some_page
make-requires-clause-some_page c =
    specs_some_page c.args.scenario.now c.requires.scenario c.deref.result.now c.in_ok-producers.producers.items c.deref.ensures.value
    c.in_ok-producers.ensures
    c.deref-3.result.now c.deref-3.ensures.value

pub make-requires-clause-pages : goal.make-requires-clause-pages
make-requires-clause-pages c =
    specs_few_pages c.args.scenario.now c.requires.scenario c.deref.result.now c.in_ok-producers.producers.items c.deref.ensures.value
    c.in_ok-producers.ensures
    c.deref-3.result.now c.deref-3.ensures.value

pub make-requires-clause-writers : goal.make-requires-clause-writers
make-requires-clause-writers c =
    subst (λ (ws : List WriterSpec). length ws ≤ MAX_WRITERS) (sym c.deref-4.ensures.value)
    (scenario_is_set_up c.args.scenario.now c.requires.scenario).few_writers

pub make-requires-2-clause-buffers : goal.make-requires-2-clause-buffers
make-requires-2-clause-buffers c =
    let buffers_are : c.deref-5.result.now ≡ map buffer_asked c.args.scenario.now.buffers.items =
    c.deref-5.ensures.value ∙ c.in_ok-buffers.ensures ∙ ap (map buffer_asked) c.deref-2.ensures.value in
    let few = (scenario_is_set_up c.args.scenario.now c.requires.scenario).few_buffers in
    subst (λ (bs : List BufferSpec). length bs ≤ MAX_BUFFERS) (sym buffers_are)
    (omega (arith, few, length-map c.args.scenario.now.buffers.items buffer_asked))

pub make-requires-2-clause-sizes : goal.make-requires-2-clause-sizes
make-requires-2-clause-sizes c =
    specs_sizes c.args.scenario.now c.requires.scenario c.deref.result.now c.in_ok-producers.producers.items c.deref.ensures.value
    c.in_ok-producers.ensures
    c.deref-5.result.now c.deref-6.result.now c.deref-7.result.now
    (c.deref-5.ensures.value ∙ c.in_ok-buffers.ensures ∙ ap (map buffer_asked) c.deref-2.ensures.value) c.deref-6.ensures.value
    c.deref-7.ensures.value

pub make-requires-2-clause-producers : goal.make-requires-2-clause-producers
make-requires-2-clause-producers c =
    specs_few c.args.scenario.now c.requires.scenario c.deref.result.now c.in_ok-producers.producers.items c.deref.ensures.value
    c.in_ok-producers.ensures
    c.deref-6.result.now c.deref-6.ensures.value

pub make-requires-2-clause-some_page : goal.make-requires-2-clause-some_page
make-requires-2-clause-some_page c =
    specs_some_page c.args.scenario.now c.requires.scenario c.deref.result.now c.in_ok-producers.producers.items c.deref.ensures.value
    c.in_ok-producers.ensures
    c.deref-6.result.now c.deref-6.ensures.value

pub make-requires-2-clause-pages : goal.make-requires-2-clause-pages
make-requires-2-clause-pages c =
    specs_few_pages c.args.scenario.now c.requires.scenario c.deref.result.now c.in_ok-producers.producers.items c.deref.ensures.value
    c.in_ok-producers.ensures
    c.deref-6.result.now c.deref-6.ensures.value

pub make-requires-2-clause-routed : goal.make-requires-2-clause-routed
make-requires-2-clause-routed c =
    specs_routed c.args.scenario.now c.requires.scenario c.deref.result.now c.in_ok-producers.producers.items c.deref.ensures.value
    c.in_ok-producers.ensures
    c.deref-5.result.now c.deref-6.result.now c.deref-7.result.now
    (c.deref-5.ensures.value ∙ c.in_ok-buffers.ensures ∙ ap (map buffer_asked) c.deref-2.ensures.value) c.deref-6.ensures.value
    c.deref-7.ensures.value

pub make-requires-2-clause-fits : goal.make-requires-2-clause-fits
make-requires-2-clause-fits c =
    specs_fit c.args.scenario.now c.requires.scenario c.deref.result.now c.in_ok-producers.producers.items c.deref.ensures.value
    c.in_ok-producers.ensures
    c.deref-5.result.now c.deref-6.result.now c.deref-7.result.now
    (c.deref-5.ensures.value ∙ c.in_ok-buffers.ensures ∙ ap (map buffer_asked) c.deref-2.ensures.value) c.deref-6.ensures.value
    c.deref-7.ensures.value

pub make-requires-3 : goal.make-requires-3
make-requires-3 c =
    let few = (scenario_is_set_up c.args.scenario.now c.requires.scenario).few_writers in
    let asked = c.len-3.ensures in let long = c.args.scenario.now.writers.ok.0 in omega (arith, few, asked, long)

pub fill_writers-requires-clause-named : goal.fill_writers-requires-clause-named
fill_writers-requires-clause-named c =
    let kept : c.in_ok-specs.specs.items ≡ c.args.scenario.now.writers.items = search rules in
    (specs_routed c.args.scenario.now c.requires.scenario c.deref.result.now c.in_ok-producers.producers.items c.deref.ensures.value
    c.in_ok-producers.ensures
    (map buffer_asked c.args.scenario.now.buffers.items) c.deref-9.result.now c.deref-8.result.now refl c.deref-9.ensures.value
    (c.deref-8.ensures.value ∙ kept)).producers

-- so many producers fit a number
pub overflow_cast-host : goal.overflow_cast-host
overflow_cast-host c =
    let few = (scenario_is_set_up c.args.scenario.now c.requires.scenario).few_producers in
    let asked = c.len-6.ensures in
    search (arith, rules, few, asked)

pub returns : goal.returns
returns c =
    let scenario = c.args.scenario.now in
    let specs : List ProducerSpec = c.in_ok-producers.producers.items in
    let writers : List WriterSpec = scenario.writers.items in
    let kept : c.in_ok-specs.specs.items ≡ writers = search rules in
    let table = c.in_ok-table.table in
    let service = c.in_ok-service.service in
    let made = made_as_asked scenario c.requires.scenario c.deref.result.now specs c.deref.ensures.value c.in_ok-producers.ensures in
    let setup_is : setup_in table ≡ setup_of specs writers =
    c.in_ok-table.ensures.setup ∙ ap (λ (ps : List ProducerSpec). setup_of ps c.deref-4.result.now) c.deref-3.ensures.value ∙ ap
    (setup_of specs) c.deref-4.ensures.value in
    let laid : (setup_in table).writers ≡ writers = ap (λ (s : Setup). s.writers) setup_is in
    let again : setup_in table ≡ setup_of c.deref-6.result.now c.deref-7.result.now =
    setup_is ∙ sym (ap (λ (ps : List ProducerSpec). setup_of ps c.deref-7.result.now) c.deref-6.ensures.value ∙ ap (setup_of specs)
    c.deref-7.ensures.value) in
    let seen : serving.view_in service ≡ (first_world (setup_in table)).service =
    ap known_by_service c.in_ok-service.ensures.made.seat_is ∙ c.pass-pass.ensures.view ∙ c.in_ok-table.ensures.service_view in
    let none : IsUnused (length c.deref-7.result.now) (known_by_service c.pass-pass.new.seat) =
    subst (λ (ws : List WriterSpec). IsUnused (length ws) (known_by_service c.pass-pass.new.seat)) (laid ∙ sym c.deref-7.ensures.value)
    (subst (IsUnused (length (setup_in table).writers)) (sym (c.pass-pass.ensures.view ∙ c.in_ok-table.ensures.service_view))
    (unused (setup_in table))) in
    let served : IsServed (parts_of scenario) table service =
    is_served (parts_of scenario) table service (length c.deref-7.result.now) (c.in_ok-service.ensures.serves table c.pass-pass.ensures.seat again none
    (ap (λ (v : ServiceView). asked_in v.letters) (c.pass-pass.ensures.view ∙ c.in_ok-table.ensures.service_view))) laid
    (λ place below. subst (λ (s : Setup). is_closed s (serving.core_of service) place ≡ false) (sym again)
    (c.in_ok-service.ensures.made.is_open place (subst (λ (ws : List WriterSpec). place < length ws) (sym c.deref-7.ensures.value) below)))
    (c.in_ok-service.ensures.made.specs ∙ c.deref-5.ensures.value ∙ c.in_ok-buffers.ensures ∙ ap (map buffer_asked) c.deref-2.ensures.value)
    seen c.in_ok-service.ensures.made.session in
    let known : (first_world (setup_in table)).service ≡ _ = sym (c.pass-pass.ensures.known ∙ c.in_ok-table.ensures.service_view) in
    record {
      host = record {
        laid = record { specs = specs; made = made; laid = setup_is };
        specs = kept ∙ sym laid;
        producers =
            let long = ranges_many (parts_of scenario) (setup_in table) (record { specs = specs; made = made; laid = setup_is }) in
            let few = (scenario_is_set_up scenario c.requires.scenario).few_producers in
            let asked = c.len-6.ensures in
            let kept_len = scenario.producers.ok.0 in
            search (arith, rules, long, few, asked, kept_len);
        served = served;
        few_buffers = (scenario_is_set_up scenario c.requires.scenario).few_buffers;
        pass = c.pass-pass.ensures.pass;
        known = subst (λ (v : ServiceView). AreKnownNotes v v.events) known tt;
        tallied =
            let many : length scenario.writers.items ≡ length (setup_in table).writers = ap (λ (ws : List WriterSpec). length ws) (sym laid) in
            subst (λ (letters : List Letter). IsTally (requests_in scenario.lines) (length (setup_in table).writers) letters c.in_ok-tally.tally)
            (sym (ap (λ (v : ServiceView). v.letters) seen))
            (subst (λ (n : ℕ). IsTally (requests_in scenario.lines) n [] c.in_ok-tally.tally)
            (let asked = c.len-3.ensures in let long = scenario.writers.ok.0 in omega (arith, asked, long, many))
            (subst (λ (n : ℕ). IsTally n c.len-3.result [] c.in_ok-tally.tally) c.count_requests.ensures c.in_ok-tally.ensures));
        few_requests = requests_fit scenario c.requires.scenario;
        no_seats = c.in_ok-seats.ensures.items;
        room =
            let many = ap (λ (ws : List WriterSpec). length ws) laid in
            let seen = ap (λ (ws : List WriterSpec). length ws) kept in
            let long = c.in_ok-specs.specs.ok.0 in
            let asked = c.len-4.ensures in
            let room = c.in_ok-seats.ensures.capacity in omega (arith, many, seen, long, asked, room);
        buffers = let made = c.in_ok-counts.ensures.buffers in
            let asked = c.len.ensures in let long = scenario.buffers.ok.0 in omega (arith, made, asked, long);
        sequences = let made = c.in_ok-counts.ensures.sequences in
            let asked = c.len-2.ensures in let long = scenario.writers.ok.0 in omega (arith, made, asked, long);
        flushes = c.in_ok-counts.ensures.flushes;
        raws = c.in_ok-counts.ensures.raws;
      };
      fresh = seen;
      writers = are_ready scenario c.requires.scenario c.requires.closes table c.fill_writers.new.writers.items laid
          (c.fill_writers.ensures.many ∙ ap length (c.deref-8.ensures.value ∙ kept)) c.fill_writers.ensures.made;
      unread = sym (ap (λ (v : ServiceView). v.events) known);
      unasked = sym (ap (λ (v : ServiceView). asked_in v.letters) known);
    }
