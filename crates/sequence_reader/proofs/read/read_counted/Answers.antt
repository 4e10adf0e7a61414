use Rattle.std.proofs.Common.{◌≤◌, refl, sym, ◌∙◌, subst, arith}
use Rattle.byte_io.specs.Bytes.{Faulted}
use Rattle.sequence_reader.specs.Runs.{CountsRun, UnlessRunFails}
use Rattle.sequence_reader.specs.Turns.{IsReadTo}
use Rattle.sequence_reader.proofs.ReadLemmas.{read_none, read_further, read_whole, read_why, read_fails}
use Rattle.sequence_reader.proofs.RunLemmas.{ran_to, ran_chunk, ran_shorter, ran_other, ran_fault}
use Rattle.sequence_reader.proofs.read.read_counted.Goals as goal

pub loop-buffer-init : goal.loop-buffer-init
loop-buffer-init g c = record {
  at = c.begun-progress.ensures.at;
  sequence = c.bounds_of-bounds.ensures.sequence;
  most = omega (arith, c.begun-progress.ensures.none);
  read = subst (IsReadTo c.args.buffer.now c.args.buffer.now (g.O.Sink.taken c.args.out.now) (g.O.Sink.taken c.args.out.now) c.bounds_of-bounds.result.sequence)
      (sym c.begun-progress.ensures.none) (read_none c.args.buffer.now c.bounds_of-bounds.result.sequence (g.O.Sink.taken c.args.out.now));
  faults = refl;
  may = c.requires.may;
}

pub loop-buffer-smaller-in-Chunk : goal.loop-buffer-smaller-in-Chunk
loop-buffer-smaller-in-Chunk g c =
    ran_shorter c.args.buffer.now c.loop-buffer.buffer c.pass_run-ran.new.buffer (g.O.Sink.taken c.args.out.now) (g.O.Sink.taken c.loop-buffer.out) (g.O.Sink.taken c.pass_run-ran.new.out)
    c.bounds_of-bounds.result c.args.limit c.loop-buffer.progress c.pass_run-ran.result c.loop-buffer.invariant.read c.pass_run-ran.ensures.runs c.in-Chunk.is

pub loop-buffer-preserved-in-Chunk : goal.loop-buffer-preserved-in-Chunk
loop-buffer-preserved-in-Chunk g c =
    let runs = c.pass_run-ran.ensures.runs in
    record {
      at = runs.on.at;
      sequence = c.loop-buffer.invariant.sequence;
      most = runs.on.most;
      read = ran_chunk c.args.buffer.now c.loop-buffer.buffer c.pass_run-ran.new.buffer (g.O.Sink.taken c.args.out.now) (g.O.Sink.taken c.loop-buffer.out) (g.O.Sink.taken c.pass_run-ran.new.out)
          c.bounds_of-bounds.result c.args.limit c.loop-buffer.progress c.pass_run-ran.result c.loop-buffer.invariant.read c.pass_run-ran.ensures.runs c.in-Chunk.is;
      faults = subst (CountsRun (g.O.Sink.faults c.loop-buffer.out) (g.O.Sink.faults c.pass_run-ran.new.out)) c.in-Chunk.is c.pass_run-ran.ensures.count ∙ c.loop-buffer.invariant.faults;
      may = subst (UnlessRunFails (g.O.Sink.may_write c.pass_run-ran.new.out)) c.in-Chunk.is c.pass_run-ran.ensures.goes_on;
    }

pub loop-buffer-smaller : goal.loop-buffer-smaller
loop-buffer-smaller g c =
    let runs = c.pass_run-ran.ensures.runs in
    let turn = c.in-On.ensures.turns in
    omega (arith, turn.shorter, runs.on.no_longer)

pub loop-buffer-preserved : goal.loop-buffer-preserved
loop-buffer-preserved g c =
    let turn = c.in-On.ensures.turns in
    record {
      at = turn.at;
      sequence = c.loop-buffer.invariant.sequence;
      most = turn.most;
      read = read_further c.args.buffer.now c.pass_run-ran.new.buffer c.pass_link.new.buffer (g.O.Sink.taken c.args.out.now) (g.O.Sink.taken c.pass_run-ran.new.out) (g.O.Sink.taken c.pass_link.new.out)
          c.bounds_of-bounds.result.sequence c.pass_run-ran.result.progress.delivered c.in-On.next.delivered
          (ran_other c.args.buffer.now c.loop-buffer.buffer c.pass_run-ran.new.buffer (g.O.Sink.taken c.args.out.now) (g.O.Sink.taken c.loop-buffer.out) (g.O.Sink.taken c.pass_run-ran.new.out)
          c.bounds_of-bounds.result c.args.limit c.loop-buffer.progress c.pass_run-ran.result c.loop-buffer.invariant.read c.pass_run-ran.ensures.runs c.in-Other.is) turn.read turn.later;
      faults = c.in-On.ensures.count ∙ subst (CountsRun (g.O.Sink.faults c.loop-buffer.out) (g.O.Sink.faults c.pass_run-ran.new.out)) c.in-Other.is c.pass_run-ran.ensures.count ∙ c.loop-buffer.invariant.faults;
      may = c.in-On.ensures.goes_on;
    }

pub returns-in-Ended-clause-records : goal.returns-in-Ended-clause-records
returns-in-Ended-clause-records g c =
    let whole = read_whole c.args.buffer.now c.pass_run-ran.new.buffer c.pass_link.new.buffer (g.O.Sink.taken c.args.out.now) (g.O.Sink.taken c.pass_run-ran.new.out) (g.O.Sink.taken c.pass_link.new.out)
    c.args.sequence c.bounds_of-bounds.result.sequence c.args.limit c.pass_run-ran.result.progress.delivered c.in-Ended.why c.loop-buffer.invariant.sequence
    c.pass_run-ran.ensures.runs.on.most
    (ran_other c.args.buffer.now c.loop-buffer.buffer c.pass_run-ran.new.buffer (g.O.Sink.taken c.args.out.now) (g.O.Sink.taken c.loop-buffer.out) (g.O.Sink.taken c.pass_run-ran.new.out)
    c.bounds_of-bounds.result c.args.limit c.loop-buffer.progress c.pass_run-ran.result c.loop-buffer.invariant.read c.pass_run-ran.ensures.runs c.in-Other.is)
    c.in-Ended.ensures.turns in
    whole.records

pub returns-in-Ended-clause-after : goal.returns-in-Ended-clause-after
returns-in-Ended-clause-after g c =
    let whole = read_whole c.args.buffer.now c.pass_run-ran.new.buffer c.pass_link.new.buffer (g.O.Sink.taken c.args.out.now) (g.O.Sink.taken c.pass_run-ran.new.out) (g.O.Sink.taken c.pass_link.new.out)
    c.args.sequence c.bounds_of-bounds.result.sequence c.args.limit c.pass_run-ran.result.progress.delivered c.in-Ended.why c.loop-buffer.invariant.sequence
    c.pass_run-ran.ensures.runs.on.most
    (ran_other c.args.buffer.now c.loop-buffer.buffer c.pass_run-ran.new.buffer (g.O.Sink.taken c.args.out.now) (g.O.Sink.taken c.loop-buffer.out) (g.O.Sink.taken c.pass_run-ran.new.out)
    c.bounds_of-bounds.result c.args.limit c.loop-buffer.progress c.pass_run-ran.result c.loop-buffer.invariant.read c.pass_run-ran.ensures.runs c.in-Other.is)
    c.in-Ended.ensures.turns in
    whole.after_is

pub returns-in-Ended-clause-whole : goal.returns-in-Ended-clause-whole
returns-in-Ended-clause-whole g c =
    let whole = read_whole c.args.buffer.now c.pass_run-ran.new.buffer c.pass_link.new.buffer (g.O.Sink.taken c.args.out.now) (g.O.Sink.taken c.pass_run-ran.new.out) (g.O.Sink.taken c.pass_link.new.out)
    c.args.sequence c.bounds_of-bounds.result.sequence c.args.limit c.pass_run-ran.result.progress.delivered c.in-Ended.why c.loop-buffer.invariant.sequence
    c.pass_run-ran.ensures.runs.on.most
    (ran_other c.args.buffer.now c.loop-buffer.buffer c.pass_run-ran.new.buffer (g.O.Sink.taken c.args.out.now) (g.O.Sink.taken c.loop-buffer.out) (g.O.Sink.taken c.pass_run-ran.new.out)
    c.bounds_of-bounds.result c.args.limit c.loop-buffer.progress c.pass_run-ran.result c.loop-buffer.invariant.read c.pass_run-ran.ensures.runs c.in-Other.is)
    c.in-Ended.ensures.turns in
    whole.whole

pub returns-in-Ended-clause-why : goal.returns-in-Ended-clause-why
returns-in-Ended-clause-why g c =
    read_why c.args.buffer.now c.pass_run-ran.new.buffer c.pass_link.new.buffer (g.O.Sink.taken c.args.out.now) (g.O.Sink.taken c.pass_run-ran.new.out) (g.O.Sink.taken c.pass_link.new.out)
    c.args.sequence c.bounds_of-bounds.result.sequence c.args.limit c.pass_run-ran.result.progress.delivered c.in-Ended.why c.loop-buffer.invariant.sequence c.pass_run-ran.ensures.runs.on.most
    (ran_other c.args.buffer.now c.loop-buffer.buffer c.pass_run-ran.new.buffer (g.O.Sink.taken c.args.out.now) (g.O.Sink.taken c.loop-buffer.out) (g.O.Sink.taken c.pass_run-ran.new.out)
    c.bounds_of-bounds.result c.args.limit c.loop-buffer.progress c.pass_run-ran.result c.loop-buffer.invariant.read c.pass_run-ran.ensures.runs c.in-Other.is)
    c.in-Ended.ensures.turns

pub returns-in-Ended-clause-count : goal.returns-in-Ended-clause-count
returns-in-Ended-clause-count g c =
    c.in-Ended.ensures.count ∙ subst (CountsRun (g.O.Sink.faults c.loop-buffer.out) (g.O.Sink.faults c.pass_run-ran.new.out)) c.in-Other.is c.pass_run-ran.ensures.count ∙ c.loop-buffer.invariant.faults

pub returns-in-Failed-clause-part : goal.returns-in-Failed-clause-part
returns-in-Failed-clause-part g c =
    read_fails c.args.buffer.now c.pass_run-ran.new.buffer c.pass_link.new.buffer (g.O.Sink.taken c.args.out.now) (g.O.Sink.taken c.pass_run-ran.new.out) (g.O.Sink.taken c.pass_link.new.out)
    c.args.sequence c.bounds_of-bounds.result.sequence c.args.limit c.pass_run-ran.result.progress.delivered c.loop-buffer.invariant.sequence c.pass_run-ran.ensures.runs.on.most
    (ran_other c.args.buffer.now c.loop-buffer.buffer c.pass_run-ran.new.buffer (g.O.Sink.taken c.args.out.now) (g.O.Sink.taken c.loop-buffer.out) (g.O.Sink.taken c.pass_run-ran.new.out)
    c.bounds_of-bounds.result c.args.limit c.loop-buffer.progress c.pass_run-ran.result c.loop-buffer.invariant.read c.pass_run-ran.ensures.runs c.in-Other.is)
    c.in-Failed.ensures.turns

pub returns-in-Failed-clause-count : goal.returns-in-Failed-clause-count
returns-in-Failed-clause-count g c =
    subst (λ n. (n ≤ g.O.Sink.faults c.pass_link.new.out) × Faulted n (g.O.Sink.faults c.pass_link.new.out))
    (subst (CountsRun (g.O.Sink.faults c.loop-buffer.out) (g.O.Sink.faults c.pass_run-ran.new.out)) c.in-Other.is c.pass_run-ran.ensures.count ∙ c.loop-buffer.invariant.faults)
    c.in-Failed.ensures.count

pub returns-in-Fault-clause-part : goal.returns-in-Fault-clause-part
returns-in-Fault-clause-part g c =
    read_fails c.args.buffer.now c.pass_run-ran.new.buffer c.pass_run-ran.new.buffer (g.O.Sink.taken c.args.out.now) c.pass_run-ran.ensures.runs.mid (g.O.Sink.taken c.pass_run-ran.new.out)
    c.args.sequence c.bounds_of-bounds.result.sequence c.args.limit c.pass_run-ran.result.progress.delivered c.loop-buffer.invariant.sequence c.pass_run-ran.ensures.runs.on.most
    (ran_to c.args.buffer.now c.loop-buffer.buffer c.pass_run-ran.new.buffer (g.O.Sink.taken c.args.out.now) (g.O.Sink.taken c.loop-buffer.out) (g.O.Sink.taken c.pass_run-ran.new.out)
    c.bounds_of-bounds.result c.args.limit c.loop-buffer.progress c.pass_run-ran.result c.loop-buffer.invariant.read c.pass_run-ran.ensures.runs)
    (ran_fault c.args.buffer.now c.loop-buffer.buffer c.pass_run-ran.new.buffer (g.O.Sink.taken c.args.out.now) (g.O.Sink.taken c.loop-buffer.out) (g.O.Sink.taken c.pass_run-ran.new.out)
    c.bounds_of-bounds.result c.args.limit c.loop-buffer.progress c.pass_run-ran.result c.loop-buffer.invariant.read c.pass_run-ran.ensures.runs c.in-Fault.is)

pub returns-in-Fault-clause-count : goal.returns-in-Fault-clause-count
returns-in-Fault-clause-count g c =
    subst (λ n. (n ≤ g.O.Sink.faults c.pass_run-ran.new.out) × Faulted n (g.O.Sink.faults c.pass_run-ran.new.out))
    c.loop-buffer.invariant.faults
    (subst (CountsRun (g.O.Sink.faults c.loop-buffer.out) (g.O.Sink.faults c.pass_run-ran.new.out)) c.in-Fault.is c.pass_run-ran.ensures.count)
