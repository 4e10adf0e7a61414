-- The parts of a session, each made as planned.
use Rattle.std.proofs.Common.{◌≡◌, ◌∙◌, ◌<◌, ◌≤◌, false, List, [], ◌∷◌, length, refl, sym, ap, subst, arith}
use Rattle.std.specs.Prelude.{vec_capacity}
use Rattle.std.specs.List.{All}
use Rattle.trace_base.specs.declared.limits.TheConstants.{MAX_PRODUCERS, MAX_PAGES, MAX_WRITERS}
use Rattle.trace_base.specs.declared.policy.WriterSpec.{WriterSpec}
use Rattle.chunk_plain.specs.declared.setup.ProducerSpec.{ProducerSpec}
use Rattle.chunk_plain.specs.Laying.{setup_of}
use Rattle.chunk_plain.specs.Plain.{first_world}
use Rattle.chunk_plain.specs.Setup.{Setup}
use Rattle.chunk_plain.specs.Views.{ServiceView, asked_in}
use Rattle.chunk_words.specs.declared.host.HostTable.{HostTable}
use Rattle.chunk_words.specs.Sits.{Passes, setup_in, known_by_service}
use Rattle.service_core.specs.Agreement.{IsRouted, is_closed}
use Rattle.service_core.specs.Making.{IsUnused, RecordsFit}
use Rattle.replay_host.proofs.BuiltLemmas.{unused}
use Rattle.std.specs.Arc.{arc_value}
use Rattle.thread_service.specs.Serving as serving
use Rattle.thread_service.specs.Serving.{Serves}
use Rattle.tracesmb_c.specs.declared.planning.Plan.{Plan}
use Rattle.tracesmb_c.specs.declared.session.OwnedSession.{OwnedSession}
use Rattle.tracesmb_c.specs.Sessions.{IsNewHome}
use Rattle.tracesmb_c.proofs.NewLemmas.{IsMade, new_session, new_untouched, new_given}
use Rattle.tracesmb_c.proofs.planning.Plan.make.Goals as goal

pub make-requires-clause-producers : goal.make-requires-clause-producers
make-requires-clause-producers c = subst (λ (ps : List ProducerSpec). length ps ≤ MAX_PRODUCERS)
    (sym c.deref.ensures.value) c.requires.plan.few_producers

pub make-requires-clause-some_page : goal.make-requires-clause-some_page
make-requires-clause-some_page c = subst (All (λ (p : ProducerSpec). 1 ≤ p.pages)) (sym c.deref.ensures.value) c.requires.plan.some_page

pub make-requires-clause-pages : goal.make-requires-clause-pages
make-requires-clause-pages c = subst (All (λ (p : ProducerSpec). p.pages ≤ MAX_PAGES)) (sym c.deref.ensures.value) c.requires.plan.few_pages

pub make-requires-clause-writers : goal.make-requires-clause-writers
make-requires-clause-writers c = subst (λ (ws : List WriterSpec). length ws ≤ MAX_WRITERS)
    (sym c.deref-2.ensures.value) c.requires.plan.few_writers

pub make-requires-2-clause-producers : goal.make-requires-2-clause-producers
make-requires-2-clause-producers c = subst (λ (ps : List ProducerSpec). length ps ≤ MAX_PRODUCERS)
    (sym c.deref-3.ensures.value) c.requires.plan.few_producers

pub make-requires-2-clause-some_page : goal.make-requires-2-clause-some_page
make-requires-2-clause-some_page c = subst (All (λ (p : ProducerSpec). 1 ≤ p.pages)) (sym c.deref-3.ensures.value) c.requires.plan.some_page

pub make-requires-2-clause-pages : goal.make-requires-2-clause-pages
make-requires-2-clause-pages c = subst (All (λ (p : ProducerSpec). p.pages ≤ MAX_PAGES))
    (sym c.deref-3.ensures.value) c.requires.plan.few_pages

pub make-requires-2-clause-sizes : goal.make-requires-2-clause-sizes
make-requires-2-clause-sizes c = c.requires.plan.sizes

pub make-requires-2-clause-routed : goal.make-requires-2-clause-routed
make-requires-2-clause-routed c =
    subst (λ (ps : List ProducerSpec). IsRouted (setup_of ps c.deref-4.result.now) 1) (sym c.deref-3.ensures.value)
    (subst (λ (ws : List WriterSpec). IsRouted (setup_of c.args.self.producers.items ws) 1)
    (sym c.deref-4.ensures.value) c.requires.plan.routed)

pub make-requires-2-clause-fits : goal.make-requires-2-clause-fits
make-requires-2-clause-fits c =
    subst (λ (ps : List ProducerSpec). RecordsFit (setup_of ps c.deref-4.result.now) (c.args.self.buffer ∷ []))
    (sym c.deref-3.ensures.value)
    (subst (λ (ws : List WriterSpec). RecordsFit (setup_of c.args.self.producers.items ws) (c.args.self.buffer ∷ []))
    (sym c.deref-4.ensures.value) c.requires.plan.fit)

pub returns-clause-session : goal.returns-clause-session
returns-clause-session c =
    let plan : Plan = c.args.self in
    let table = c.in_ok-table.table in
    let service = c.in_ok-service.service in
    let shared = c.in_ok-shared.shared in
    let lent : arc_value shared ≡ table = c.in_ok-shared.ensures.ok in
    let setup_is : setup_in table ≡ setup_of plan.producers.items plan.writers.items =
    c.in_ok-table.ensures.setup ∙ ap (λ (ps : List ProducerSpec). setup_of ps c.deref-2.result.now) c.deref.ensures.value
    ∙ ap (setup_of plan.producers.items) c.deref-2.ensures.value in
    let again : setup_in table ≡ setup_of c.deref-3.result.now c.deref-4.result.now =
    setup_is ∙ sym (ap (λ (ps : List ProducerSpec). setup_of ps c.deref-4.result.now) c.deref-3.ensures.value ∙ ap
    (setup_of plan.producers.items) c.deref-4.ensures.value) in
    let laid : (setup_in table).writers ≡ plan.writers.items = ap (λ (s : Setup). s.writers) setup_is in
    let seen : serving.view_in service ≡ (first_world (setup_in table)).service =
    ap known_by_service c.in_ok-service.ensures.made.seat_is ∙ c.pass-pass.ensures.view ∙ c.in_ok-table.ensures.service_view in
    let none : IsUnused (length c.deref-4.result.now) (known_by_service c.pass-pass.new.seat) =
    subst (λ (ws : List WriterSpec). IsUnused (length ws) (known_by_service c.pass-pass.new.seat)) (laid ∙ sym c.deref-4.ensures.value)
    (subst (IsUnused (length (setup_in table).writers)) (sym (c.pass-pass.ensures.view ∙ c.in_ok-table.ensures.service_view))
    (unused (setup_in table))) in
    let serves = c.in_ok-service.ensures.serves table c.pass-pass.ensures.seat again none
    (ap (λ (v : ServiceView). asked_in v.letters) (c.pass-pass.ensures.view ∙ c.in_ok-table.ensures.service_view)) in
    let wide = c.fill_homes.ensures.many in
    let long = plan.writers.ok.0 in
    let seats_room : length plan.writers.items ≤ vec_capacity c.in_ok-seats.seats =
    (let asked = c.len.ensures in let room = c.in_ok-seats.ensures.capacity in omega (arith, asked, room, long)) in
    let counts_room : length plan.writers.items ≤ vec_capacity c.in_ok-counts.counts =
    (let asked = c.len-2.ensures in let room = c.in_ok-counts.ensures.capacity in omega (arith, asked, room, long)) in
    let producers : c.len-4.result ≡ length plan.producers.items =
    (let asked = c.len-4.ensures in let ok = plan.producers.ok.0 in omega (arith, asked, ok)) in
    let session : OwnedSession = record {
      table = shared;
      service = service;
      pass = c.pass-pass.result;
      homes = c.fill_homes.new.homes;
      seats = c.in_ok-seats.seats;
      counts = c.in_ok-counts.counts;
      producers = c.len-4.result;
      stopped = false;
      torn = false;
      waiting = c.new-2.result;
    } in
    let made : IsMade plan session = record {
      setup = ap setup_in lent ∙ setup_is;
      serves = subst (λ (t : HostTable). Serves t service) (sym lent) serves;
      pass = subst (λ (t : HostTable). Passes t c.pass-pass.result) (sym lent) c.pass-pass.ensures.pass;
      known = c.pass-pass.ensures.known ∙ c.in_ok-table.ensures.service_view ∙ ap (λ (t : HostTable). (first_world (setup_in t)).service)
          (sym lent);
      view = seen ∙ ap (λ (t : HostTable). (first_world (setup_in t)).service) (sym lent);
      opened = λ place inside.
          subst (λ (ps : List ProducerSpec). is_closed (setup_of ps plan.writers.items)
          (serving.core_of service) place ≡ false) c.deref-3.ensures.value
          (subst (λ (ws : List WriterSpec). is_closed (setup_of c.deref-3.result.now ws)
          (serving.core_of service) place ≡ false) c.deref-4.ensures.value
          (c.in_ok-service.ensures.made.is_open place (subst (λ (ws : List WriterSpec). place < length ws) (sym c.deref-4.ensures.value) inside)));
      many = wide ∙ ap (λ (ws : List WriterSpec). length ws) c.deref-6.ensures.value;
      homes = λ place home there.
          subst (λ (t : HostTable). IsNewHome t plan.writers.items place home) c.deref-5.ensures
          (subst (λ (ws : List WriterSpec). IsNewHome c.deref-5.result.now ws place home) c.deref-6.ensures.value
          (c.fill_homes.ensures.made place home there));
      room = record {
        no_seats = c.in_ok-seats.ensures.items;
        no_counts = c.in_ok-counts.ensures.items;
        seats_room = seats_room;
        counts_room = counts_room;
      };
      producers = producers;
      goes = refl;
      whole = refl;
      none_waits = c.new-2.ensures.left;
    } in
    new_session plan session c.requires.plan made

pub returns-clause-untouched : goal.returns-clause-untouched
returns-clause-untouched c =
    let plan : Plan = c.args.self in
    let table = c.in_ok-table.table in
    let service = c.in_ok-service.service in
    let shared = c.in_ok-shared.shared in
    let lent : arc_value shared ≡ table = c.in_ok-shared.ensures.ok in
    let setup_is : setup_in table ≡ setup_of plan.producers.items plan.writers.items =
    c.in_ok-table.ensures.setup ∙ ap (λ (ps : List ProducerSpec). setup_of ps c.deref-2.result.now) c.deref.ensures.value
    ∙ ap (setup_of plan.producers.items) c.deref-2.ensures.value in
    let again : setup_in table ≡ setup_of c.deref-3.result.now c.deref-4.result.now =
    setup_is ∙ sym (ap (λ (ps : List ProducerSpec). setup_of ps c.deref-4.result.now) c.deref-3.ensures.value ∙ ap
    (setup_of plan.producers.items) c.deref-4.ensures.value) in
    let laid : (setup_in table).writers ≡ plan.writers.items = ap (λ (s : Setup). s.writers) setup_is in
    let seen : serving.view_in service ≡ (first_world (setup_in table)).service =
    ap known_by_service c.in_ok-service.ensures.made.seat_is ∙ c.pass-pass.ensures.view ∙ c.in_ok-table.ensures.service_view in
    let none : IsUnused (length c.deref-4.result.now) (known_by_service c.pass-pass.new.seat) =
    subst (λ (ws : List WriterSpec). IsUnused (length ws) (known_by_service c.pass-pass.new.seat)) (laid ∙ sym c.deref-4.ensures.value)
    (subst (IsUnused (length (setup_in table).writers)) (sym (c.pass-pass.ensures.view ∙ c.in_ok-table.ensures.service_view))
    (unused (setup_in table))) in
    let serves = c.in_ok-service.ensures.serves table c.pass-pass.ensures.seat again none
    (ap (λ (v : ServiceView). asked_in v.letters) (c.pass-pass.ensures.view ∙ c.in_ok-table.ensures.service_view)) in
    let wide = c.fill_homes.ensures.many in
    let long = plan.writers.ok.0 in
    let seats_room : length plan.writers.items ≤ vec_capacity c.in_ok-seats.seats =
    (let asked = c.len.ensures in let room = c.in_ok-seats.ensures.capacity in omega (arith, asked, room, long)) in
    let counts_room : length plan.writers.items ≤ vec_capacity c.in_ok-counts.counts =
    (let asked = c.len-2.ensures in let room = c.in_ok-counts.ensures.capacity in omega (arith, asked, room, long)) in
    let producers : c.len-4.result ≡ length plan.producers.items =
    (let asked = c.len-4.ensures in let ok = plan.producers.ok.0 in omega (arith, asked, ok)) in
    let session : OwnedSession = record {
      table = shared;
      service = service;
      pass = c.pass-pass.result;
      homes = c.fill_homes.new.homes;
      seats = c.in_ok-seats.seats;
      counts = c.in_ok-counts.counts;
      producers = c.len-4.result;
      stopped = false;
      torn = false;
      waiting = c.new-2.result;
    } in
    let made : IsMade plan session = record {
      setup = ap setup_in lent ∙ setup_is;
      serves = subst (λ (t : HostTable). Serves t service) (sym lent) serves;
      pass = subst (λ (t : HostTable). Passes t c.pass-pass.result) (sym lent) c.pass-pass.ensures.pass;
      known = c.pass-pass.ensures.known ∙ c.in_ok-table.ensures.service_view ∙ ap (λ (t : HostTable). (first_world (setup_in t)).service)
          (sym lent);
      view = seen ∙ ap (λ (t : HostTable). (first_world (setup_in t)).service) (sym lent);
      opened = λ place inside.
          subst (λ (ps : List ProducerSpec). is_closed (setup_of ps plan.writers.items)
          (serving.core_of service) place ≡ false) c.deref-3.ensures.value
          (subst (λ (ws : List WriterSpec). is_closed (setup_of c.deref-3.result.now ws)
          (serving.core_of service) place ≡ false) c.deref-4.ensures.value
          (c.in_ok-service.ensures.made.is_open place (subst (λ (ws : List WriterSpec). place < length ws) (sym c.deref-4.ensures.value) inside)));
      many = wide ∙ ap (λ (ws : List WriterSpec). length ws) c.deref-6.ensures.value;
      homes = λ place home there.
          subst (λ (t : HostTable). IsNewHome t plan.writers.items place home) c.deref-5.ensures
          (subst (λ (ws : List WriterSpec). IsNewHome c.deref-5.result.now ws place home) c.deref-6.ensures.value
          (c.fill_homes.ensures.made place home there));
      room = record {
        no_seats = c.in_ok-seats.ensures.items;
        no_counts = c.in_ok-counts.ensures.items;
        seats_room = seats_room;
        counts_room = counts_room;
      };
      producers = producers;
      goes = refl;
      whole = refl;
      none_waits = c.new-2.ensures.left;
    } in
    new_untouched plan session c.requires.plan made

pub returns-clause-given : goal.returns-clause-given
returns-clause-given c =
    let plan : Plan = c.args.self in
    let table = c.in_ok-table.table in
    let service = c.in_ok-service.service in
    let shared = c.in_ok-shared.shared in
    let lent : arc_value shared ≡ table = c.in_ok-shared.ensures.ok in
    let setup_is : setup_in table ≡ setup_of plan.producers.items plan.writers.items =
    c.in_ok-table.ensures.setup ∙ ap (λ (ps : List ProducerSpec). setup_of ps c.deref-2.result.now) c.deref.ensures.value
    ∙ ap (setup_of plan.producers.items) c.deref-2.ensures.value in
    let again : setup_in table ≡ setup_of c.deref-3.result.now c.deref-4.result.now =
    setup_is ∙ sym (ap (λ (ps : List ProducerSpec). setup_of ps c.deref-4.result.now) c.deref-3.ensures.value ∙ ap
    (setup_of plan.producers.items) c.deref-4.ensures.value) in
    let laid : (setup_in table).writers ≡ plan.writers.items = ap (λ (s : Setup). s.writers) setup_is in
    let seen : serving.view_in service ≡ (first_world (setup_in table)).service =
    ap known_by_service c.in_ok-service.ensures.made.seat_is ∙ c.pass-pass.ensures.view ∙ c.in_ok-table.ensures.service_view in
    let none : IsUnused (length c.deref-4.result.now) (known_by_service c.pass-pass.new.seat) =
    subst (λ (ws : List WriterSpec). IsUnused (length ws) (known_by_service c.pass-pass.new.seat)) (laid ∙ sym c.deref-4.ensures.value)
    (subst (IsUnused (length (setup_in table).writers)) (sym (c.pass-pass.ensures.view ∙ c.in_ok-table.ensures.service_view))
    (unused (setup_in table))) in
    let serves = c.in_ok-service.ensures.serves table c.pass-pass.ensures.seat again none
    (ap (λ (v : ServiceView). asked_in v.letters) (c.pass-pass.ensures.view ∙ c.in_ok-table.ensures.service_view)) in
    let wide = c.fill_homes.ensures.many in
    let long = plan.writers.ok.0 in
    let seats_room : length plan.writers.items ≤ vec_capacity c.in_ok-seats.seats =
    (let asked = c.len.ensures in let room = c.in_ok-seats.ensures.capacity in omega (arith, asked, room, long)) in
    let counts_room : length plan.writers.items ≤ vec_capacity c.in_ok-counts.counts =
    (let asked = c.len-2.ensures in let room = c.in_ok-counts.ensures.capacity in omega (arith, asked, room, long)) in
    let producers : c.len-4.result ≡ length plan.producers.items =
    (let asked = c.len-4.ensures in let ok = plan.producers.ok.0 in omega (arith, asked, ok)) in
    let session : OwnedSession = record {
      table = shared;
      service = service;
      pass = c.pass-pass.result;
      homes = c.fill_homes.new.homes;
      seats = c.in_ok-seats.seats;
      counts = c.in_ok-counts.counts;
      producers = c.len-4.result;
      stopped = false;
      torn = false;
      waiting = c.new-2.result;
    } in
    let made : IsMade plan session = record {
      setup = ap setup_in lent ∙ setup_is;
      serves = subst (λ (t : HostTable). Serves t service) (sym lent) serves;
      pass = subst (λ (t : HostTable). Passes t c.pass-pass.result) (sym lent) c.pass-pass.ensures.pass;
      known = c.pass-pass.ensures.known ∙ c.in_ok-table.ensures.service_view ∙ ap (λ (t : HostTable). (first_world (setup_in t)).service)
          (sym lent);
      view = seen ∙ ap (λ (t : HostTable). (first_world (setup_in t)).service) (sym lent);
      opened = λ place inside.
          subst (λ (ps : List ProducerSpec). is_closed (setup_of ps plan.writers.items)
          (serving.core_of service) place ≡ false) c.deref-3.ensures.value
          (subst (λ (ws : List WriterSpec). is_closed (setup_of c.deref-3.result.now ws)
          (serving.core_of service) place ≡ false) c.deref-4.ensures.value
          (c.in_ok-service.ensures.made.is_open place (subst (λ (ws : List WriterSpec). place < length ws) (sym c.deref-4.ensures.value) inside)));
      many = wide ∙ ap (λ (ws : List WriterSpec). length ws) c.deref-6.ensures.value;
      homes = λ place home there.
          subst (λ (t : HostTable). IsNewHome t plan.writers.items place home) c.deref-5.ensures
          (subst (λ (ws : List WriterSpec). IsNewHome c.deref-5.result.now ws place home) c.deref-6.ensures.value
          (c.fill_homes.ensures.made place home there));
      room = record {
        no_seats = c.in_ok-seats.ensures.items;
        no_counts = c.in_ok-counts.ensures.items;
        seats_room = seats_room;
        counts_room = counts_room;
      };
      producers = producers;
      goes = refl;
      whole = refl;
      none_waits = c.new-2.ensures.left;
    } in
    new_given plan session c.requires.plan made

pub returns-clause-made : goal.returns-clause-made
returns-clause-made c setup planned =
    let plan : Plan = c.args.self in
    record {
      plan = plan;
      planned = planned;
      table = ap setup_in c.in_ok-shared.ensures.ok ∙ c.in_ok-table.ensures.setup
          ∙ ap (λ (ps : List ProducerSpec). setup_of ps c.deref-2.result.now) c.deref.ensures.value
          ∙ ap (setup_of plan.producers.items) c.deref-2.ensures.value;
      buffer = c.in_ok-service.ensures.made.specs;
    }
