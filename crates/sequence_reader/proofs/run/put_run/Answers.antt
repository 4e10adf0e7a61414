use Rattle.std.proofs.Common.{◌<◌, refl, sym, ◌∙◌, subst, arith}
use Rattle.sequence_reader.proofs.RunLemmas.{ends_other, runs_from, run_fits, put_more, put_chunk, put_fault}
use Rattle.sequence_reader.proofs.run.put_run.Goals as goal

pub loop-progress-init : goal.loop-progress-init
loop-progress-init g c = record {
  running = runs_from c.args.buffer.now c.args.bounds c.args.limit c.image_at.result.0 c.image_at.result.1.now (g.O.Sink.taken c.args.out.now) c.args.progress
      c.requires.at c.requires.most c.image_at.ensures.image;
  chunk = refl;
  faults = refl;
  may = c.requires.may;
}

pub plain_at-requires-clause-fits : goal.plain_at-requires-clause-fits
plain_at-requires-clause-fits g c =
    run_fits c.args.buffer.now c.args.bounds c.args.limit c.image_at.result.0 c.image_at.result.1.now (g.O.Sink.taken c.args.out.now) (g.O.Sink.taken c.loop-progress.out)
    c.args.progress c.loop-progress.progress c.loop-progress.invariant.running
    (subst (λ n. n < c.args.bounds.end) (sym c.loop-progress.invariant.chunk) c.requires.before)

pub plain_at-requires-clause-low : goal.plain_at-requires-clause-low
plain_at-requires-clause-low g c =
    omega (arith, c.loop-progress.invariant.chunk, c.requires.before, c.requires.at.bounds_are.low)

pub returns-in_default-clause-puts : goal.returns-in_default-clause-puts
returns-in_default-clause-puts g c =
    ends_other c.args.buffer.now c.args.bounds c.args.limit (g.O.Sink.taken c.args.out.now) (g.O.Sink.taken c.loop-progress.out) c.args.progress c.loop-progress.progress
    c.loop-progress.invariant.running.to

pub returns-in-Err-clause-puts : goal.returns-in-Err-clause-puts
returns-in-Err-clause-puts g c =
    put_fault c.args.buffer.now c.args.bounds c.args.limit c.image_at.result.0 c.image_at.result.1.now (g.O.Sink.taken c.args.out.now) (g.O.Sink.taken c.loop-progress.out)
    (g.O.Sink.taken c.put_packet.new.out) c.args.progress c.loop-progress.progress c.loop-progress.invariant.running
    (subst (λ n. n < c.args.bounds.end) (sym c.loop-progress.invariant.chunk) c.requires.before)
    c.in-Some.piece c.in-Some.ensures.here c.in-Some.ensures.plain c.loop-progress-test.true c.in-Err.ensures.part

pub returns-then-piece-chunk_id-clause-puts : goal.returns-then-piece-chunk_id-clause-puts
returns-then-piece-chunk_id-clause-puts g c =
    put_chunk c.args.buffer.now c.args.bounds c.args.limit c.image_at.result.0 c.image_at.result.1.now (g.O.Sink.taken c.args.out.now) (g.O.Sink.taken c.loop-progress.out)
    (g.O.Sink.taken c.put_packet.new.out) c.args.progress c.loop-progress.progress c.loop-progress.invariant.running
    (subst (λ n. n < c.args.bounds.end) (sym c.loop-progress.invariant.chunk) c.requires.before)
    c.in-Some.piece c.in-Some.ensures.here c.in-Some.ensures.plain c.loop-progress-test.true c.in-Ok.ensures.all

pub loop-progress-preserved : goal.loop-progress-preserved
loop-progress-preserved g c = record {
  running = put_more c.args.buffer.now c.args.bounds c.args.limit c.image_at.result.0 c.image_at.result.1.now (g.O.Sink.taken c.args.out.now) (g.O.Sink.taken c.loop-progress.out)
      (g.O.Sink.taken c.put_packet.new.out) c.args.progress c.loop-progress.progress c.loop-progress.invariant.running
      (subst (λ n. n < c.args.bounds.end) (sym c.loop-progress.invariant.chunk) c.requires.before)
      c.in-Some.piece c.in-Some.ensures.here c.in-Some.ensures.plain c.loop-progress-test.true c.in-Ok.ensures.all
      (c.if-piece-chunk_id.false ∙ sym c.loop-progress.invariant.chunk);
  chunk = c.if-piece-chunk_id.false;
  faults = c.in-Ok.ensures.count ∙ c.loop-progress.invariant.faults;
  may = c.in-Ok.ensures.goes_on;
}

pub returns-clause-puts : goal.returns-clause-puts
returns-clause-puts g c =
    ends_other c.args.buffer.now c.args.bounds c.args.limit (g.O.Sink.taken c.args.out.now) (g.O.Sink.taken c.loop-progress.out) c.args.progress c.loop-progress.progress
    c.loop-progress.invariant.running.to
