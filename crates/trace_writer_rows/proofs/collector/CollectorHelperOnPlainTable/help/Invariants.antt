use Rattle.std.proofs.Common.{◌≡◌, ◌≤◌, ◌+◌}
use Rattle.chunk_plain.specs.contracts.plain_words.PlainTableWords.TheImpl.{ghosts as plain}
use Rattle.trace_writer.specs.Helping.{LeavesWriters}
use Rattle.trace_writer_rows.specs.contracts.collector.CollectorHelperOnPlainTable.TheImpl.{ghosts}
use Rattle.trace_writer_rows.proofs.collector.CollectorHelperOnPlainTable.help.Given as goal

abbrev pub invariant-loop-chunk : goal.invariant-loop-chunk
invariant-loop-chunk l = record {
  needs : ghosts.needs l.self l.table;
  range : l.self.range ≡ l.initial.self.range;
  end : l.chunk-end ≡ l.self.range.first + l.self.range.count;
  grows : l.before ≤ l.self.taken;
  leaves : LeavesWriters plain.means l.initial.table l.table;
}
