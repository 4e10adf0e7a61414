-- The end of a settled run is a run of the scenario.
use Rattle.std.proofs.Common.{◌≡◌, ◌∙◌, List, length, refl, sym, ap, subst, arith}
use Rattle.std.specs.Prelude.{slice_index_or}
use Rattle.std.specs.Vec.{with_items}
use Rattle.std.proofs.lemmas.List.{length-map, with_items_is}
use Rattle.trace_buffer.specs.Answers as answers
use Rattle.trace_buffer.specs.declared.answers.BufferCounts.{BufferCounts}
use Rattle.trace_base.specs.declared.policy.WriterSpec.{WriterSpec}
use Rattle.chunk_plain.specs.World.{World}
use Rattle.chunk_words.specs.Closed.{IsAccount, views_of}
use Rattle.chunk_words.specs.Knows.{Desk}
use Rattle.chunk_words.specs.Sits.{setup_in}
use Rattle.loss_report.specs.declared.counts.SequenceCounts.{SequenceCounts}
use Rattle.service_core.proofs.AgreeLemmas.{first_stays}
use Rattle.replay_host.proofs.CountingLemmas.{specs_many}
use Rattle.replay_model.proofs.PlayedLemmas.{setup_writers}
use Rattle.thread_service.specs.declared.service.Service.{Service}
use Rattle.thread_service.specs.Serving.{core_of, view_in, desk_in}
use Rattle.thread_host.specs.Counting.{buffers_in, packets_in}
use Rattle.thread_host.specs.Ending.{no_counts}
use Rattle.thread_host.specs.declared.settled.Settled.{Settled}
use Rattle.thread_host.proofs.Finished.{has_all_seats, has_finished}
use Rattle.thread_host.proofs.Stopped.{has_failed, seats_back}
use Rattle.thread_host.proofs.Tallying.{buffers_long}
use Rattle.thread_host.proofs.settled.Settled.finish.Goals as goal

pub read_all-requires-clause-few : goal.read_all-requires-clause-few
read_all-requires-clause-few g c =
    let is = c.requires.settled.1 in
    let few = is.few_buffers in
    let many = is.buffers in
    let len = c.len.ensures in
    omega (arith, few, many, len)

pub count_buffers-requires-clause-room : goal.count_buffers-requires-clause-room
count_buffers-requires-clause-room g c =
    let is = c.requires.settled.1 in
    let setup = setup_in c.args.self.table in
    let many = is.buffers in
    let ok = c.args.self.counts.buffers.ok.0 in
    let lent = ap (λ (xs : List BufferCounts). length xs) c.deref_mut.ensures.value in
    let specs = specs_many c.requires.settled.0 setup (core_of c.read_all.new.service)
    (first_stays setup (core_of c.close_all.new.service) (core_of c.read_all.new.service) c.in-Ok.ensures.stays.keeps.fields
    ∙ c.close_all.ensures.first ∙ is.served.began) in
    omega (arith, many, ok, lent, specs)

pub count_buffers-requires-clause-few : goal.count_buffers-requires-clause-few
count_buffers-requires-clause-few g c =
    let is = c.requires.settled.1 in
    let few = is.few_buffers in
    let many = is.buffers in
    let ok = c.args.self.counts.buffers.ok.0 in
    let lent = ap (λ (xs : List BufferCounts). length xs) c.deref_mut.ensures.value in
    omega (arith, few, many, ok, lent)

pub take_apart-requires-clause-seats : goal.take_apart-requires-clause-seats
take_apart-requires-clause-seats g c =
    let is = c.requires.settled.1 in
    let closing = c.close_all.ensures in
    has_all_seats c.requires.settled.0 c.args.self is c.close_all.new.service c.read_all.new.service
    (record { closes = closing.closes; all_closed = closing.closed; first = closing.first; keeps = c.in-Ok.ensures.stays.keeps; serves = c.in-Ok.ensures.stays.serves })
    c.read_all.new.pass (g.T.Sink.taken c.args.out.now) (g.T.Sink.taken c.read_all.new.out) c.len.result (c.len.ensures ∙ is.buffers) c.in-Ok.ensures.reads

-- the worlds that were marked are those that were when all was settled
settled_account : (settled : Settled) (final : Service) → (desk_in final).marks ≡ (desk_in settled.service).marks
    → IsAccount (setup_in settled.table) (desk_in final).marks (views_of settled.seats.items) (view_in final)
    → IsAccount (setup_in settled.table) (desk_in settled.service).marks (views_of settled.seats.items) (view_in final)
settled_account settled final same account = subst (λ (marks : List World). IsAccount (setup_in settled.table) marks (views_of settled.seats.items) (view_in final)) same account

pub returns-in-Ok-clause-done : goal.returns-in-Ok-clause-done
returns-in-Ok-clause-done g c scenario is =
    let table = c.args.self.table in
    let setup = setup_in table in
    let serves = c.in-Ok.ensures.stays.serves in
    let final = c.read_all.new.service in
    let buffers : List BufferCounts = c.count_buffers.new.buffers in
    let sequences : List SequenceCounts = c.count_sequences.new.sequences in
    let lent = ap (λ (xs : List SequenceCounts). length xs) c.deref_mut-in-Ok.ensures.value in
    let ok = c.args.self.counts.sequences.ok.0 in
    let long = c.count_sequences.ensures.room in
    let specs = specs_many scenario setup (core_of final)
    (first_stays setup (core_of c.close_all.new.service) (core_of final) c.in-Ok.ensures.stays.keeps.fields ∙ c.close_all.ensures.first ∙ is.served.began) in
    let counted : length buffers ≡ length scenario.buffers =
    ap (λ (xs : List BufferCounts). length xs) (c.count_buffers.ensures table serves) ∙ length-map (buffers_in setup final) answers.counts_of ∙ buffers_long setup final ∙ specs in
    let same = with_items_is c.args.self.counts.sequences sequences (omega (arith, long, lent, ok)) in
    let counts = c.args.self.counts in
    let wide : length sequences ≡ length setup.writers =
    (let own = is.sequences in let there = ap (λ (ws : List WriterSpec). length ws) (setup_writers scenario setup is.laid) in omega (arith, long, lent, ok, own, there)) in
    let closing = c.close_all.ensures in
    has_finished scenario c.args.self is c.close_all.new.service final
    (record { closes = closing.closes; all_closed = closing.closed; first = closing.first; keeps = c.in-Ok.ensures.stays.keeps; serves = serves })
    c.read_all.new.pass (g.T.Sink.taken c.args.out.now) (g.T.Sink.taken c.read_all.new.out) c.len.result (c.len.ensures ∙ is.buffers) c.in-Ok.ensures.reads
    (settled_account c.args.self c.read_all.new.service (c.in-Ok.ensures.stays.marks ∙ ap (λ (d : Desk). d.marks) closing.desk) c.take_apart.ensures.account) c.take_apart.ensures.taken c.take_apart.ensures.goes_on c.in-Ok.ensures.pass.known
    (record { buffers = with_items counts.buffers buffers; sequences = with_items counts.sequences sequences; flushes = counts.flushes; raws = counts.raws })
    (with_items_is counts.buffers buffers (counted ∙ sym is.buffers) ∙ c.count_buffers.ensures table serves)
    (ap (λ (xs : List SequenceCounts). length xs) same ∙ wide)
    (λ place inside.
    ap (λ (xs : List SequenceCounts). slice_index_or xs place no_counts) same
    ∙ c.count_sequences.ensures.each table serves place (omega (arith, inside, wide, long))
    ∙ ap (λ (xs : List SequenceCounts). packets_in setup final place (slice_index_or xs place no_counts)) c.deref_mut-in-Ok.ensures.value)
    refl is.raws

pub take_apart-requires-in-Err-clause-seats : goal.take_apart-requires-in-Err-clause-seats
take_apart-requires-in-Err-clause-seats g c =
    let is = c.requires.settled.1 in
    let closing = c.close_all.ensures in
    seats_back c.requires.settled.0 c.args.self is c.close_all.new.service c.read_all.new.service
    (record { closes = closing.closes; all_closed = closing.closed; first = closing.first; keeps = c.in-Err.ensures.stays.keeps; serves = c.in-Err.ensures.stays.serves })
    c.read_all.new.pass (g.T.Sink.taken c.args.out.now) (g.T.Sink.taken c.read_all.new.out) c.len.result (c.len.ensures ∙ is.buffers) c.in-Err.ensures.reads

pub returns-in-Err-clause-fails : goal.returns-in-Err-clause-fails
returns-in-Err-clause-fails g c scenario is =
    let closing = c.close_all.ensures in
    has_failed scenario c.args.self is c.close_all.new.service c.read_all.new.service
    (record { closes = closing.closes; all_closed = closing.closed; first = closing.first; keeps = c.in-Err.ensures.stays.keeps; serves = c.in-Err.ensures.stays.serves })
    c.read_all.new.pass (g.T.Sink.taken c.args.out.now) (g.T.Sink.taken c.read_all.new.out) c.len.result (c.len.ensures ∙ is.buffers) c.in-Err.ensures.reads
    (settled_account c.args.self c.read_all.new.service (c.in-Err.ensures.stays.marks ∙ ap (λ (d : Desk). d.marks) closing.desk) c.take_apart-in-Err.ensures.account) c.take_apart-in-Err.ensures.taken c.take_apart-in-Err.ensures.goes_on c.in-Err.ensures.pass.known
