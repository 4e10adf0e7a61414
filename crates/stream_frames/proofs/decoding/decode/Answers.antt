use Rattle.std.proofs.Common.{arith}
use Rattle.stream_frames.specs.Values.{limits_value}
use Rattle.stream_frames.proofs.FrameLemmas.{read_within}
use Rattle.stream_frames.proofs.decoding.decode.Goals as goal

-- what is read was spelled so, and nothing else is
pub returns-clause-frame : goal.returns-clause-frame
returns-clause-frame c =
    read_within (limits_value c.args.limits.now) c.args.bytes.now c.in_ok-kind.rest.now c.in_ok-kind.kind c.frame_of.result
    (λ i. omega (arith, c.type_inv.bytes i)) c.in_ok-kind.ensures c.frame_of.ensures
