use Rattle.std.proofs.Common.{◌≡◌, map, take}
use Rattle.trace_buffer.specs.Made.{sequence_of}
use Rattle.trace_buffer.proofs.rows.make_rows.Given as goal

abbrev pub invariant-loop-spec : goal.invariant-loop-spec
invariant-loop-spec l = l.rows.items ≡ map sequence_of (take l.spec-index l.specs)
