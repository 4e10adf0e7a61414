use Rattle.std.proofs.Common.{[], true}
use Rattle.trace_model.proofs.TellsLemmas.{all_tell}
use Rattle.trace_model.proofs.laws.all_records_tell.Goals as goal

pub returns : goal.returns
returns c = λ emitted sequence. all_tell [] emitted sequence true
