use Rattle.trace_buffer.proofs.MadeLemmas.{payload_small}
use Rattle.trace_buffer.proofs.rows.make_rows.Goals as goal

pub size_of_record-size-requires : goal.size_of_record-size-requires
size_of_record-size-requires c =
    payload_small 67108864 c.loop-spec.spec-index c.args.specs.now (record { sequence = 0; payload = 0; from = 0 }) c.requires c.loop-spec-test.true
