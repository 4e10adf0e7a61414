use Rattle.std.proofs.Common.{◌+◌, ◌-◌, ◌∙◌, ◌<◌, ◌≤◌, ℕ, List, length, subst, sym, ap, refl, arith}
use Rattle.trace_base.specs.declared.policy.WriterSpec.{WriterSpec}
use Rattle.page_geometry.specs.Sizes.{record_size}
use Rattle.chunk_plain.specs.Setup.{size_of, producer_of}
use Rattle.service_core.specs.Routing.{IsAt}
use Rattle.service_core.specs.Reading.{read_moment, FailsAmong}
use Rattle.sequence_reader.proofs.PutLemmas.{on_err}
use Rattle.service_core.proofs.AgreeLemmas.{goes_at, notes_begin, notes_on}
use Rattle.service_core.proofs.RoutedLemmas.{stands}
use Rattle.service_core.proofs.BufferLemmas.{reads_begin, reads_skip, reads_add, reads_fail, reads_end}
use Rattle.service_core.proofs.KeptLemmas.{read_spec}
use Rattle.service_core.proofs.service.ServiceCore.read_buffer.Goals as goal

pub loop-place-init : goal.loop-place-init
loop-place-init g c =
    let means = g.W.Words.means in
    let setup = means.setup c.args.table.now in
    record {
      on = notes_begin c.requires.asks.service (λ world is. g.met.W.Words.told_service_view c.args.table.now c.args.self.now.seat world is c.requires.asks.service.serves);
      reads = reads_begin setup c.args.self.now c.args.buffer c.args.limit (means.service_view c.args.table.now c.args.self.now.seat) (g.O.Sink.taken c.args.out.now);
      faults = refl;
      may = c.requires.may;
    }

pub read_writer-requires-clause-asks : goal.read_writer-requires-clause-asks
read_writer-requires-clause-asks g c =
    let on = c.loop-place.invariant.on.service in
    record { service = goes_at on; reads = on.step.reads_stay c.requires.asks.reads }

pub returns-in_err-left-clause-leaves : goal.returns-in_err-left-clause-leaves
returns-in_err-left-clause-leaves g c = notes_on c.loop-place.invariant.on c.in_err-left.ensures.leaves

pub loop-place-preserved-then-index-buffer : goal.loop-place-preserved-then-index-buffer
loop-place-preserved-then-index-buffer g c =
    let means = g.W.Words.means in
    let i = c.loop-place.invariant in
    let setup = means.setup c.args.table.now in
    let place = c.loop-place.place in
    let end = c.len-place-end.ensures in
    let joined = c.args.self.now.writers.ok.0 in
    let test = c.loop-place-test.true in
    let low : place < length setup.writers = subst (λ (ws : List WriterSpec). place < length ws) c.requires.asks.service.agrees.writers (omega (arith, end, joined, test)) in
    let read = read_spec setup (means.service_view c.loop-place.table c.loop-place.self.seat) c.loop-place.self place i.on.service.agrees low c.index.result.now c.index.ensures in
    let old = means.service_view c.args.table.now c.args.self.now.seat in
    let between = means.service_view c.loop-place.table c.loop-place.self.seat in
    record {
      on = i.on;
      reads = reads_skip setup c.args.self.now c.args.buffer c.args.limit old (g.O.Sink.taken c.args.out.now) c.loop-place.self place c.loop-place.left between (g.O.Sink.taken c.loop-place.out)
          i.reads low (λ same. c.if-index-buffer.true (ap (λ (w : WriterSpec). w.buffer) read ∙ same));
      faults = i.faults;
      may = i.may;
    }

pub loop-place-preserved : goal.loop-place-preserved
loop-place-preserved g c =
    let means = g.W.Words.means in
    let i = c.loop-place.invariant in
    let setup = means.setup c.args.table.now in
    let place = c.loop-place.place in
    let mid = c.loop-place.self in
    let new = means.service_view c.read_writer.new.table c.read_writer.new.self.seat in
    let end = c.len-place-end.ensures in
    let joined = c.args.self.now.writers.ok.0 in
    let test = c.loop-place-test.true in
    let low : place < length setup.writers = subst (λ (ws : List WriterSpec). place < length ws) c.requires.asks.service.agrees.writers (omega (arith, end, joined, test)) in
    let read = read_spec setup (means.service_view c.loop-place.table mid.seat) mid place i.on.service.agrees low c.index.result.now c.index.ensures in
    let same = sym (ap (λ (w : WriterSpec). w.buffer) read) ∙ c.if-index-buffer.false in
    let size : ℕ = record_size (size_of setup (producer_of setup place)) in
    let old = means.service_view c.args.table.now c.args.self.now.seat in
    let between = means.service_view c.loop-place.table mid.seat in
    let at = subst (λ (n : ℕ). IsAt mid.buffers.items (n - 1) (place + 2) size) same (stands setup between mid place i.on.service.agrees low) in
    record {
      on = notes_on i.on c.in_ok-left.ensures.leaves;
      reads = reads_add setup c.args.self.now c.args.buffer c.args.limit old (g.O.Sink.taken c.args.out.now) mid place c.loop-place.left size between (g.O.Sink.taken c.loop-place.out)
          i.reads low same at i.on.service.agrees.known c.read_writer.new.self new (g.O.Sink.taken c.read_writer.new.out) c.in_ok-left.field-0 c.in_ok-left.ensures.reads;
      faults = c.in_ok-left.ensures.count ∙ i.faults;
      may = c.in_ok-left.ensures.goes_on;
    }

pub returns-in_err-left-clause-fails : goal.returns-in_err-left-clause-fails
returns-in_err-left-clause-fails g c =
    let means = g.W.Words.means in
    let i = c.loop-place.invariant in
    let setup = means.setup c.args.table.now in
    let place = c.loop-place.place in
    let mid = c.loop-place.self in
    let new = means.service_view c.read_writer.new.table c.read_writer.new.self.seat in
    let end = c.len-place-end.ensures in
    let joined = c.args.self.now.writers.ok.0 in
    let test = c.loop-place-test.true in
    let low : place < length setup.writers = subst (λ (ws : List WriterSpec). place < length ws) c.requires.asks.service.agrees.writers (omega (arith, end, joined, test)) in
    let read = read_spec setup (means.service_view c.loop-place.table mid.seat) mid place i.on.service.agrees low c.index.result.now c.index.ensures in
    let same = sym (ap (λ (w : WriterSpec). w.buffer) read) ∙ c.if-index-buffer.false in
    let size : ℕ = record_size (size_of setup (producer_of setup place)) in
    let old = means.service_view c.args.table.now c.args.self.now.seat in
    let between = means.service_view c.loop-place.table mid.seat in
    let at = subst (λ (n : ℕ). IsAt mid.buffers.items (n - 1) (place + 2) size) same (stands setup between mid place i.on.service.agrees low) in
    let taken = g.O.Sink.taken c.read_writer.new.out in
    on_err c.from_residual.result (FailsAmong setup c.args.self.now c.args.buffer c.args.limit (read_moment old (g.O.Sink.taken c.args.out.now)) (read_moment new taken))
    (reads_fail setup c.args.self.now c.args.buffer c.args.limit old (g.O.Sink.taken c.args.out.now) mid place c.loop-place.left size between (g.O.Sink.taken c.loop-place.out)
    i.reads low same at i.on.service.agrees.known new taken c.requires.asks.service.agrees c.in_err-left.ensures.fails)

pub returns-clause-reads : goal.returns-clause-reads
returns-clause-reads g c =
    let means = g.W.Words.means in
    let i = c.loop-place.invariant in
    let setup = means.setup c.args.table.now in
    let place = c.loop-place.place in
    let end = c.len-place-end.ensures in
    let joined = c.args.self.now.writers.ok.0 in
    let test = c.loop-place-test.false in
    let past : length setup.writers ≤ place = subst (λ (ws : List WriterSpec). length ws ≤ place) c.requires.asks.service.agrees.writers (omega (arith, end, joined, test)) in
    reads_end setup c.args.self.now c.args.buffer c.args.limit (means.service_view c.args.table.now c.args.self.now.seat) (g.O.Sink.taken c.args.out.now) c.loop-place.self place c.loop-place.left
    (c.args.limit - c.loop-place.left) (means.service_view c.loop-place.table c.loop-place.self.seat) (g.O.Sink.taken c.loop-place.out) i.reads c.requires.asks.service.agrees past refl
