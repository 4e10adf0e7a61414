use Rattle.trace_model.proofs.PageLemmas.{pages_read_as_written}
use Rattle.trace_model.proofs.laws.pages_read_as_written.Goals as goal

pub returns : goal.returns
returns c = pages_read_as_written
