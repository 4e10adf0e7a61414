use Rattle.text_form.proofs.RunLemmas.{cut_run}
use Rattle.text_form.proofs.kinds.cut.Goals as goal

pub returns : goal.returns
returns c = λ kind is. cut_run kind _ _ _ _ _ is c.unwrap_or.ensures c.split_at.ensures.front c.split_at.ensures.back
