-- Once the loop ends each writer is counted.
use Rattle.std.proofs.Common.{arith}
use Rattle.tracesmb_c.proofs.closing.count_losses.Goals as goal

pub returns-clause-each : goal.returns-clause-each
returns-clause-each c table serves place inside =
    let out = c.writers-test.false in
    let long = c.writers.invariant.long in
    c.writers.invariant.each table serves place (omega (arith, inside, out, long))
