use Rattle.trace_base.proofs.IdLemmas.{ids_go_back}
use Rattle.trace_base.proofs.ids.ids_go_back.Goals as goal

pub returns : goal.returns
returns c = ids_go_back
