use Rattle.world_model.proofs.BeginningLemmas.{tables_begin_as_accounts}
use Rattle.world_model.proofs.laws.tables_begin_as_accounts.Goals as goal

pub returns : goal.returns
returns c = tables_begin_as_accounts
