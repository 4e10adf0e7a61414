use Rattle.model_laws.proofs.ChunkCountLemmas.{every_page_is_counted}
use Rattle.model_laws.proofs.laws.every_page_is_counted.Goals as goal

pub returns : goal.returns
returns c = every_page_is_counted
