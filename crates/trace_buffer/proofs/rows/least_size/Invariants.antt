use Rattle.std.proofs.Common.{◌<◌, take}
use Rattle.trace_buffer.specs.Made.{AllTakeLeast}
use Rattle.trace_buffer.proofs.rows.least_size.Given as goal

abbrev pub invariant-loop-spec : goal.invariant-loop-spec
invariant-loop-spec l = (0 < l.least) × AllTakeLeast l.least (take l.spec-index l.sequences)
