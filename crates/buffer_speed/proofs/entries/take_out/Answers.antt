use Rattle.std.proofs.Common.{◌+◌, ap, ◌∙◌, arith, sym}
use Rattle.std.specs.FinMap.{len}
use Rattle.chunk_index.specs.Value.{IndexValue, key_of}
use Rattle.chunk_index.proofs.MapLemmas.{len_without}
use Rattle.buffer_speed.proofs.entries.take_out.Goals as goal

pub returns-clause-count : goal.returns-clause-count
returns-clause-count c =
    let fewer = ap (λ (i : IndexValue). len i.places + 1) c.remove.ensures
    ∙ len_without c.args.index.now.places (key_of c.args.sequence c.args.chunk_id) c.in-Some.place (sym c.find.ensures ∙ c.in-Some.is) in
    omega (arith, fewer)

pub returns-clause-fewer : goal.returns-clause-fewer
returns-clause-fewer c =
    let fewer = ap (λ (i : IndexValue). len i.places + 1) c.remove.ensures
    ∙ len_without c.args.index.now.places (key_of c.args.sequence c.args.chunk_id) c.in-Some.place (sym c.find.ensures ∙ c.in-Some.is) in
    omega (arith, fewer)
