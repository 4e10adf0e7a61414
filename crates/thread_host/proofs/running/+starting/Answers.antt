use Rattle.std.proofs.Common.{ℕ, ◌+◌, List, ◌++◌, sym, ap, subst}
use Rattle.thread_writer.specs.declared.writer.TraceWriter.{TraceWriter}
use Rattle.thread_host.specs.Hosts.{HavePlayedFrom}
use Rattle.thread_host.proofs.Hosting.{both_played}
use Rattle.thread_host.proofs.running.+starting.Goals as goal

-- two parts that have played are the whole that has
pub writers_from-returns-after-many-gt-MOST_STARTS : goal.writers_from-returns-after-many-gt-MOST_STARTS
writers_from-returns-after-many-gt-MOST_STARTS g c c' =
    let parts = c'.split_at_mut-first.ensures in
    let first = c'.split_at_mut-first.result.0.now in let rest = c'.split_at_mut-first.result.1.now in
    let played = c'.start_both.new in let from = c'.args.from in
    record {
      played = subst (λ (old : List TraceWriter). HavePlayedFrom c'.args.lines.now c'.args.table.now from old (played.first ++ played.rest)) (sym parts.value)
          (both_played c'.args.lines.now c'.args.table.now from (from + c'.if-many-gt-MOST_STARTS.front) first rest played.first played.rest
          (ap (λ (n : ℕ). from + n) (sym parts.front_len)) c'.start_both.ensures.0 c'.start_both.ensures.1);
    }
