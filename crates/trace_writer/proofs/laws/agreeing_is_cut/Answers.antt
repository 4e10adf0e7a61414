use Rattle.trace_writer.proofs.accounts.CutLaws as cut_laws
use Rattle.trace_writer.proofs.laws.agreeing_is_cut.Goals as goal

pub returns : goal.returns
returns c = cut_laws.agreeing_is_cut
