use Rattle.std.proofs.Common.{◌∙◌, ◌<◌, length, ap, subst, arith, get_or, List, ℕ, slice_index_or}
use Rattle.sequence_reader.specs.declared.ends.ReadEnd.{ReadEnd}
use Rattle.sequence_reader.proofs.PutLemmas.{on_err}
use Rattle.trace_buffer.specs.Clones.{numbers_of}
use Rattle.buffer_clone.specs.Clones.{EndsInClone}
use Rattle.buffer_clone.proofs.ReadingLemmas.{most_delivered, known, same_after, reads_one, reads_fail}
use Rattle.buffer_clone.proofs.reading.read_each.Goals as goal

pub read_sequence-requires-clause-known : goal.read_sequence-requires-clause-known
read_sequence-requires-clause-known g c =
    known c.args.buffer.now c.loop-i.buffer c.loop-i.i c.loop-i.left 0 _ (g.O.Sink.taken c.args.out.now) (g.O.Sink.taken c.loop-i.out) c.loop-i.invariant.reads
    (subst (λ (ns : List ℕ). c.loop-i.i < length ns) c.requires.numbers (let test = c.loop-i-test.true in omega arith))
    (ap (λ (ns : List ℕ). get_or ns c.loop-i.i 0) c.requires.numbers)

pub returns-in_err-left-clause-same : goal.returns-in_err-left-clause-same
returns-in_err-left-clause-same g c =
    ap numbers_of c.in_err-left.ensures.part.ends.buffer
    ∙ same_after c.args.buffer.now c.loop-i.buffer c.loop-i.i c.loop-i.left 0 _ (g.O.Sink.taken c.args.out.now) (g.O.Sink.taken c.loop-i.out) c.loop-i.invariant.reads
    (subst (λ (ns : List ℕ). c.loop-i.i < length ns) c.requires.numbers (let test = c.loop-i-test.true in omega arith))
    (ap (λ (ns : List ℕ). get_or ns c.loop-i.i 0) c.requires.numbers)
    c.in_err-left.ensures.part.count

pub returns-in_err-left-clause-part : goal.returns-in_err-left-clause-part
returns-in_err-left-clause-part g c =
    let old = g.O.Sink.taken c.args.out.now in
    let new = g.O.Sink.taken c.read_sequence.new.out in
    on_err c.from_residual.result (EndsInClone c.args.buffer.now c.read_sequence.new.buffer old new)
    (reads_fail c.args.buffer.now c.loop-i.buffer c.loop-i.i c.loop-i.left 0 _ old (g.O.Sink.taken c.loop-i.out) c.loop-i.invariant.reads
    (subst (λ (ns : List ℕ). c.loop-i.i < length ns) c.requires.numbers (let test = c.loop-i-test.true in omega arith))
    (ap (λ (ns : List ℕ). get_or ns c.loop-i.i 0) c.requires.numbers)
    c.read_sequence.new.buffer new c.in_err-left.ensures.part)

pub overflow_sub-left : goal.overflow_sub-left
overflow_sub-left g c =
    let e = ap (λ (end : ReadEnd). end.delivered) c.in_ok-left.ensures.end in
    let most = most_delivered c.loop-i.buffer (slice_index_or c.args.sequences.now c.loop-i.i 0) c.loop-i.left in
    omega (arith, e, most)

pub loop-i-preserved : goal.loop-i-preserved
loop-i-preserved g c = record {
  reads = reads_one c.args.buffer.now c.loop-i.buffer c.loop-i.i c.loop-i.left 0 _ (g.O.Sink.taken c.args.out.now) (g.O.Sink.taken c.loop-i.out) c.loop-i.invariant.reads
      (subst (λ (ns : List ℕ). c.loop-i.i < length ns) c.requires.numbers (let test = c.loop-i-test.true in omega arith))
      (ap (λ (ns : List ℕ). get_or ns c.loop-i.i 0) c.requires.numbers)
      c.read_sequence.new.buffer (g.O.Sink.taken c.read_sequence.new.out) c.in_ok-left.field-0.delivered
      c.in_ok-left.ensures.after c.in_ok-left.ensures.records (ap (λ (end : ReadEnd). end.delivered) c.in_ok-left.ensures.end);
  faults = c.in_ok-left.ensures.count ∙ c.loop-i.invariant.faults;
  may = c.in_ok-left.ensures.goes_on;
}
