use Rattle.chunk_schedules.proofs.FirstWinLemmas.{first_wins_follow_arrivals}
use Rattle.chunk_schedules.proofs.laws.first_wins_follow_arrivals.Goals as goal

pub returns : goal.returns
returns c = first_wins_follow_arrivals
