-- A block of another name is skipped.
use Rattle.std.proofs.Common.{sym, []}
use Rattle.config_text.specs.Collecting.{skipping}
use Rattle.config_text.specs.Kept.{blocks_kept}
use Rattle.config_text.proofs.CollectingLemmas.{begins_other}
use Rattle.config_text.proofs.collector.Collector.take_begin.Goals as goal

pub returns-in-None-clause-collected : goal.returns-in-None-clause-collected
unfolding skipping
returns-in-None-clause-collected c =
    rw c.in-Top.is (sym (begins_other (blocks_kept c.args.self.now.entries.items c.args.self.now.ended.items) c.args.line c.args.name.now (c.in-None.ensures.kind [])))
