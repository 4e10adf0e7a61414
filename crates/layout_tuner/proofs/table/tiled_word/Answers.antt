use Rattle.std.proofs.Common.{◌<◌, ◌*◌, arith}
use Rattle.std.proofs.Math.Nat.{mod-eq_of_lt}
use Rattle.layout_tuner.proofs.WordBits.{tiled}
use Rattle.layout_tuner.proofs.table.tiled_word.Goals as goal

pub returns : goal.returns
returns c =
    let few = c.requires.generation in let most = c.requires.layout in
    let generation : c.args.generation * 70368744177664 < 18446744073709551616 = omega (arith, few) in
    let layout : c.args.layout * 268435456 < 18446744073709551616 = omega (arith, most) in
    rw (c.from.ensures, c.from-2.ensures, mod-eq_of_lt generation, mod-eq_of_lt layout) (tiled c.args.generation c.args.layout few most)
