use Rattle.std.proofs.Common.{[]}
use Rattle.config_text.proofs.FindingLemmas.{wanted_more}
use Rattle.config_text.proofs.finding.entries_of.Goals as goal

pub loop-entry-preserved : goal.loop-entry-preserved
loop-entry-preserved c =
    wanted_more c.loop-entry.wanted c.insert.new.self c.args.filters.now c.loop-entry.entry-index (record { ref_ptr = (0, 0); now = [] })
    c.loop-entry-test.true c.loop-entry.invariant c.in_ok-insert.ensures.updates
