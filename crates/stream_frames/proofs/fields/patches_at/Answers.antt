-- Behind each patch the others are still read; one that is none ends it.
use Rattle.commit_body.specs.Patches.{patch_value}
use Rattle.stream_frames.specs.Decoding.{patches_at, first_of}
use Rattle.stream_frames.proofs.LoopLemmas.{fails, reads_first, reads_next, reads_all, some_there}
use Rattle.stream_frames.proofs.fields.patches_at.Goals as goal

pub loop-init : goal.loop-init
loop-init c = reads_first c.args.count c.args.bytes.now

pub returns-in_err-_patch : goal.returns-in_err-_patch
returns-in_err-_patch c =
    let none = fails c.loop.invariant.front c.args.count c.loop.counter c.loop.rest.now (patches_at c.args.count c.args.bytes.now) c.loop-test.true
    c.in_err-_patch.ensures c.loop.invariant.read in
    rw c.from_residual.ensures none

pub loop-preserved : goal.loop-preserved
loop-preserved c =
    reads_next c.args.count c.loop.counter c.args.bytes.now c.loop.rest.now (patch_value c.in_ok-_patch._patch) c.in_ok-_patch.behind.now
    c.loop-test.true c.in_ok-_patch.ensures c.loop.invariant

pub invariant_of-result : goal.invariant_of-result
invariant_of-result c =
    let all = reads_all c.args.count c.loop.counter c.args.bytes.now c.loop.rest.now c.loop-test.false c.loop.invariant in
    record {
      few = c.requires;
      there = some_there (first_of (patches_at c.args.count c.args.bytes.now), c.loop.rest.now) (patches_at c.args.count c.args.bytes.now) all;
    }

pub returns : goal.returns
returns c = reads_all c.args.count c.loop.counter c.args.bytes.now c.loop.rest.now c.loop-test.false c.loop.invariant
