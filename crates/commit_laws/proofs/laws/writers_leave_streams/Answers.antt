use Rattle.commit_laws.proofs.StreamsTold.{writers_leave_streams}
use Rattle.commit_laws.proofs.laws.writers_leave_streams.Goals as goal

pub returns : goal.returns
returns c = writers_leave_streams
