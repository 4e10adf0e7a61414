use Rattle.std.proofs.Common.{◌≡◌, ◌+◌, ◌-◌, ◌≤◌, false, suc, length, drop, sym, ap, ◌∙◌, subst, arith}
use Rattle.trace_model.specs.Reading.{reading_of, fragment_end, fragments_of}
use Rattle.sequence_reader.specs.Spots.{start_from}
use Rattle.sequence_reader.proofs.FragmentLemmas.{reads_at, not_last, rest_fits, start_next, none_read, some_read}
use Rattle.sequence_reader.proofs.spot.start_of.Goals as goal

pub slice_bounds-read_fragment-count : goal.slice_bounds-read_fragment-count
slice_bounds-read_fragment-count c =
    let next = reads_at c.args.count c.args.payload.now c.loop-passed.passed c.requires.reads (omega (arith, c.loop-passed-test.true, c.requires.less)) in
    subst (λ n. n ≤ length c.args.payload.now) (sym c.loop-passed.invariant.at) next.within

pub read_fragment-requires : goal.read_fragment-requires
read_fragment-requires c =
    let next = reads_at c.args.count c.args.payload.now c.loop-passed.passed c.requires.reads (omega (arith, c.loop-passed-test.true, c.requires.less)) in
    rest_fits c.args.payload.now c.loop-passed.at c.requires.small (subst (λ n. n ≤ length c.args.payload.now) (sym c.loop-passed.invariant.at) next.within)

pub unreachable-requires : goal.unreachable-requires
unreachable-requires c =
    let at = c.loop-passed.invariant.at in
    let next = reads_at c.args.count c.args.payload.now c.loop-passed.passed c.requires.reads (omega (arith, c.loop-passed-test.true, c.requires.less)) in
    none_read c.args.payload.now (c.args.count - suc c.loop-passed.passed) (start_from 0 c.loop-passed.passed (fragments_of (reading_of c.args.count c.args.payload.now))) c.loop-passed.at (drop c.loop-passed.passed (fragments_of (reading_of c.args.count c.args.payload.now))) next at false c.read_fragment.result
    (not_last c.loop-passed.passed c.args.number c.args.count c.loop-passed-test.true c.requires.less) c.read_fragment.ensures.value c.in_default.is

pub loop-passed-preserved : goal.loop-passed-preserved
loop-passed-preserved c =
    let next = reads_at c.args.count c.args.payload.now c.loop-passed.passed c.requires.reads (omega (arith, c.loop-passed-test.true, c.requires.less)) in
    let same = some_read c.args.payload.now (c.args.count - suc c.loop-passed.passed) (start_from 0 c.loop-passed.passed (fragments_of (reading_of c.args.count c.args.payload.now))) c.loop-passed.at (drop c.loop-passed.passed (fragments_of (reading_of c.args.count c.args.payload.now))) next c.loop-passed.invariant.at false c.read_fragment.result c.in-Some.fragment
    (not_last c.loop-passed.passed c.args.number c.args.count c.loop-passed-test.true c.requires.less) c.read_fragment.ensures.value c.in-Some.is in
    let one : suc c.loop-passed.passed ≡ c.loop-passed.passed + 1 = omega arith in
    record {
      few = omega (arith, c.loop-passed-test.true);
      at =
          ap fragment_end same
          ∙ sym (start_next 0 c.loop-passed.passed (fragments_of (reading_of c.args.count c.args.payload.now)) next.fragment next.others next.split)
          ∙ ap (λ n. start_from 0 n (fragments_of (reading_of c.args.count c.args.payload.now))) one;
    }

pub slice_bounds-read_fragment-start : goal.slice_bounds-read_fragment-start
slice_bounds-read_fragment-start c = slice_bounds-read_fragment-count c
