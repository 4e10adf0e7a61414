use Rattle.ring_bytes.proofs.RowLemmas.{row_none}
use Rattle.ring_bytes.proofs.grow.reach.Goals as goal

pub returns-then-end-reached-clause-row : goal.returns-then-end-reached-clause-row
returns-then-end-reached-clause-row c = (row_none c.args.bytes.now.items c.args.reached).0

pub returns-then-end-reached-clause-none : goal.returns-then-end-reached-clause-none
returns-then-end-reached-clause-none c = (row_none c.args.bytes.now.items c.args.reached).1
