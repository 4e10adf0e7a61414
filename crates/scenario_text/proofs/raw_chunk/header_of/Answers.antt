use Rattle.std.proofs.Common.{arith}
use Rattle.scenario_text.proofs.RawNumbers.{small_numbers}
use Rattle.scenario_text.proofs.raw_chunk.header_of.Goals as goal

pub small-requires : goal.small-requires
small-requires c = omega (arith, (small_numbers c.args.raw c.requires.numbers).id)

pub small-requires-2 : goal.small-requires-2
small-requires-2 c = omega (arith, (small_numbers c.args.raw c.requires.numbers).count)

pub overflow_cast-result : goal.overflow_cast-result
overflow_cast-result c = omega (arith, (small_numbers c.args.raw c.requires.numbers).count, c.small-2.ensures)

pub small-requires-3 : goal.small-requires-3
small-requires-3 c = omega (arith, (small_numbers c.args.raw c.requires.numbers).flags)

pub overflow_cast-result-2 : goal.overflow_cast-result-2
overflow_cast-result-2 c = omega (arith, (small_numbers c.args.raw c.requires.numbers).flags, c.small-3.ensures)

pub patch_asked-requires : goal.patch_asked-requires
patch_asked-requires c = (small_numbers c.args.raw c.requires.numbers).patch
