use Rattle.std.proofs.Common.{◌+◌, ◌-◌, ◌*◌, length}
use Rattle.thread_host.proofs.running.+starting.Given as goal

abbrev pub decreases-writers_from : goal.decreases-writers_from
decreases-writers_from g l = 4 * length l.writers.now

abbrev pub decreases-start_both : goal.decreases-start_both
decreases-start_both g l = 4 * (length l.first.now + length l.rest.now) - 1

abbrev pub decreases-start_both-play_first : goal.decreases-start_both-play_first
decreases-start_both-play_first g l = 4 * length l.first.now + 1

abbrev pub decreases-start_both-start_rest : goal.decreases-start_both-start_rest
decreases-start_both-start_rest g l = 4 * length l.rest.now + 1
