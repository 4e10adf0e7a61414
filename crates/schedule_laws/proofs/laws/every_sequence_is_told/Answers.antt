use Rattle.schedule_laws.proofs.AccountLemmas.{every_sequence_is_told}
use Rattle.schedule_laws.proofs.laws.every_sequence_is_told.Goals as goal

pub returns : goal.returns
returns c = every_sequence_is_told
