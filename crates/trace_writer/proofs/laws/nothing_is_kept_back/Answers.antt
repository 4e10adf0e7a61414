use Rattle.trace_writer.proofs.accounts.CutLaws as cut_laws
use Rattle.trace_writer.proofs.laws.nothing_is_kept_back.Goals as goal

pub returns : goal.returns
returns c = cut_laws.nothing_is_kept_back
