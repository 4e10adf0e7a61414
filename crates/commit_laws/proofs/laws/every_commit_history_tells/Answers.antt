use Rattle.commit_laws.proofs.CommitsTell.{every_commit_history_tells}
use Rattle.commit_laws.proofs.laws.every_commit_history_tells.Goals as goal

pub returns : goal.returns
returns c = every_commit_history_tells
