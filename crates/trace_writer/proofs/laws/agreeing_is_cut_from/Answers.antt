use Rattle.trace_writer.proofs.accounts.CutLaws.{agreeing_is_cut_from}
use Rattle.trace_writer.proofs.laws.agreeing_is_cut_from.Goals as goal

pub returns : goal.returns
returns c = agreeing_is_cut_from
