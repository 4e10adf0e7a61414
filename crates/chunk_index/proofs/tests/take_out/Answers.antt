use Rattle.std.proofs.Common.{ℕ, ◌+◌, ap, ◌∙◌, rules}
use Rattle.std.specs.FinMap.{get, len}
use Rattle.chunk_index.specs.Value.{IndexValue, key_of}
use Rattle.chunk_index.proofs.MapLemmas.{len_without}
use Rattle.chunk_index.proofs.StepLemmas.{some_of}
use Rattle.chunk_index.proofs.tests.take_out.Goals as goal

pub returns-clause-count : goal.returns-clause-count
returns-clause-count g c =
    let key : ℕ = key_of c.args.sequence c.args.chunk_id in
    let p = some_of (get c.args.index.now.places key) (search rules) in
    ap (λ (i : IndexValue). len i.places + 1) c.remove.ensures
    ∙ len_without c.args.index.now.places key p.0 p.1
