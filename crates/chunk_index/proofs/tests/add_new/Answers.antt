use Rattle.std.proofs.Common.{ap, ◌∙◌, rules}
use Rattle.std.specs.FinMap.{len}
use Rattle.chunk_index.specs.Value.{IndexValue, key_of}
use Rattle.chunk_index.proofs.MapLemmas.{len_with}
use Rattle.chunk_index.proofs.tests.add_new.Goals as goal

pub returns-clause-count : goal.returns-clause-count
returns-clause-count g c =
    ap (λ (i : IndexValue). len i.places) c.add.ensures
    ∙ len_with c.args.index.now.places (key_of c.args.sequence c.args.chunk_id) c.args.place (search rules)
