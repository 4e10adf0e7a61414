-- Each buffer is read behind those before it.
use Rattle.std.proofs.Common.{◌∙◌, ℕ, ◌<◌, ◌≤◌, refl, subst}
use Rattle.byte_io.specs.Bytes.{TakesPart}
use Rattle.stream_producer.proofs.ResultLemmas.{on_err}
use Rattle.stream_producer.specs.Ending.{due_of_reads}
use Rattle.stream_producer.proofs.ReadingLemmas.{reads_none, reads_more, reads_whole, reads_fail}
use Rattle.stream_producer.proofs.ending.Player+W+W+Service.read_all.Goals as goal

pub loop-index-init : goal.loop-index-init
loop-index-init g c = record {
  reads = reads_none g.W.Words.means c.args.self.now (g.O.Sink.taken c.args.out.now) c.requires.serves;
  steady = refl;
  may = c.requires.may;
}

pub loop-index-preserved : goal.loop-index-preserved
loop-index-preserved g c =
    let call = c.in_ok-read_buffer.ensures in
    let below = subst (λ (n : ℕ). c.loop-index.index < n) c.requires.buffers c.loop-index-test.true in
    record {
      reads = reads_more g.W.Words.means c.args.self.now (g.O.Sink.taken c.args.out.now) c.loop-index.index c.loop-index.self _
          (g.O.Sink.taken c.loop-index.out) (g.O.Sink.taken c.read_buffer.new.out) below c.loop-index.invariant.reads call.leaves.service.agrees call.leaves.service.step
          call.leaves.service.keeps
          c.in_ok-read_buffer.field-0 call.reads refl refl;
      steady = call.count ∙ c.loop-index.invariant.steady;
      may = call.goes_on;
    }

pub returns-in_err-read_buffer-clause-part : goal.returns-in_err-read_buffer-clause-part
returns-in_err-read_buffer-clause-part g c =
    let means = g.W.Words.means in
    let before = g.O.Sink.taken c.args.out.now in
    let after = g.O.Sink.taken c.read_buffer.new.out in
    let below = subst (λ (n : ℕ). c.loop-index.index < n) c.requires.buffers c.loop-index-test.true in
    on_err c.from_residual.result (TakesPart before after (due_of_reads means c.args.self.now))
    (reads_fail means c.args.self.now before c.loop-index.index c.loop-index.self
    (means.service_view c.read_buffer.new.table c.read_buffer.new.self.seat) (g.O.Sink.taken c.loop-index.out) after below
    c.loop-index.invariant.reads c.in_err-read_buffer.ensures.fails)

pub returns-clause-reads : goal.returns-clause-reads
returns-clause-reads g c =
    reads_whole g.W.Words.means c.args.self.now (g.O.Sink.taken c.args.out.now) c.loop-index.index c.loop-index.self
    (g.O.Sink.taken c.loop-index.out)
    c.loop-index.invariant.reads (subst (λ (n : ℕ). n ≤ c.loop-index.index) c.requires.buffers c.loop-index-test.false)
