use Rattle.std.proofs.Common.{◌≡◌, ◌+◌, ◌-◌, ◌∙◌, ℕ, List, Some, take, drop, arith, sym, ap, subst}
use Rattle.trace_file.specs.declared.fault.TraceFault.{TraceFault}
use Rattle.trace_file.specs.Traces.{EndsBehind}
use Rattle.trace_file.proofs.ReadLemmas.{next_is, ends_top, ends_inner}
use Rattle.trace_file.proofs.reader.first_packet.Goals as goal

between_len : (bytes : List ℕ) (at len : ℕ) → take (at + len - at) (drop at bytes) ≡ take len (drop at bytes)
between_len bytes at len = ap (λ (n : ℕ). take n (drop at bytes)) (omega arith)

pub returns-in-Err-clause-fault : goal.returns-in-Err-clause-fault
returns-in-Err-clause-fault c =
    subst (λ (fault : TraceFault). EndsBehind c.args.from (drop c.args.from c.args.bytes.now) (Some fault)) (sym c.top_fault.ensures)
    (ends_top c.args.bytes.now c.args.from c.fields.at c.in-Err.reason c.fields.invariant c.fields-test.true c.in-Err.ensures.lacks)

pub returns-in-Ok-packet_at-clause-packet : goal.returns-in-Ok-packet_at-clause-packet
returns-in-Ok-packet_at-clause-packet c = next_is c.args.bytes.now c.args.from c.fields.at c.in-Ok.field.len _ c.fields.invariant
    (c.in-Ok-packet_at.ensures.bytes ∙ between_len c.args.bytes.now c.fields.at c.in-Ok.field.len) c.in-Ok-packet_at.ensures.packet

pub returns-in-Err-packet_at-clause-fault : goal.returns-in-Err-packet_at-clause-fault
returns-in-Err-packet_at-clause-fault c = ends_inner c.args.bytes.now _ c.args.from c.fields.at c.in-Ok.field.len _ c.fields.invariant
    (between_len c.args.bytes.now c.fields.at c.in-Ok.field.len) c.in-Err-packet_at.ensures.fault
