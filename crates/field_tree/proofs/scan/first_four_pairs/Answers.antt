use Rattle.field_tree.proofs.HexLemmas.{four_pairs_read}
use Rattle.field_tree.proofs.scan.first_four_pairs.Goals as goal

pub returns-then-first-second-lt256 : goal.returns-then-first-second-lt256
returns-then-first-second-lt256 c =
    four_pairs_read c.args.bytes.now c.pair_or_more-first.result c.pair_or_more-second.result c.pair_or_more-third.result c.pair_or_more-fourth.result
    c.in-len8-up.len_at_least c.if-first-second-lt256.true c.pair_or_more-first.ensures c.pair_or_more-second.ensures c.pair_or_more-third.ensures c.pair_or_more-fourth.ensures
