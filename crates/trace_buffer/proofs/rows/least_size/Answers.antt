use Rattle.std.proofs.Common.{◌≡◌, suc, ◌+◌, get_or, take, sym, subst, arith}
use Rattle.ring_bytes.proofs.RowLemmas.{size_least}
use Rattle.trace_buffer.specs.declared.answers.SequenceSpec.{SequenceSpec}
use Rattle.trace_buffer.specs.Made.{AllTakeLeast}
use Rattle.trace_buffer.proofs.MadeLemmas.{payload_small, least_step, least_all}
use Rattle.trace_buffer.proofs.rows.least_size.Goals as goal

pub size_of_record-requires : goal.size_of_record-requires
size_of_record-requires c =
    payload_small 67108864 c.loop-spec.spec-index c.args.sequences.now (record { sequence = 0; payload = 0; from = 0 }) c.requires.small c.loop-spec-test.true

pub loop-spec-preserved : goal.loop-spec-preserved
loop-spec-preserved c =
    let e : c.loop-spec.spec-index + 1 ≡ suc c.loop-spec.spec-index = omega arith in
    let d : SequenceSpec = record { sequence = 0; payload = 0; from = 0 } in
    let size = size_least (get_or c.args.sequences.now c.loop-spec.spec-index d).payload in (
      omega (arith, c.loop-spec.invariant.0, c.min-least.ensures, c.size_of_record.ensures, size),
      subst (λ n. AllTakeLeast c.min-least.result (take n c.args.sequences.now)) (sym e)
          (least_step c.loop-spec.least c.min-least.result c.loop-spec.spec-index c.args.sequences.now d c.loop-spec-test.true
          (omega (arith, c.min-least.ensures)) (omega (arith, c.min-least.ensures, c.size_of_record.ensures)) c.loop-spec.invariant.1),
    )

pub returns : goal.returns
returns c = record {
  some = c.loop-spec.invariant.0;
  least = least_all c.loop-spec.least c.loop-spec.spec-index c.args.sequences.now c.loop-spec-test.false c.loop-spec.invariant.1;
}
