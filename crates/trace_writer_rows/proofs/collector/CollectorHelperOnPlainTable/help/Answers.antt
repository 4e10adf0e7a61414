use Rattle.std.proofs.Common.{sym, subst}
use Rattle.trace_writer_rows.specs.contracts.collector.CollectorHelperOnPlainTable.TheImpl.{ghosts}
use Rattle.trace_writer_rows.proofs.collector.CollectorHelperOnPlainTable.help.Goals as goal

-- it waits: what it needs stays
pub returns-then-self-clause-needs : goal.returns-then-self-clause-needs
returns-then-self-clause-needs c = subst (λ table. ghosts.needs c.args.self.now table) (sym c.help.ensures.helps.2) c.requires.needs
