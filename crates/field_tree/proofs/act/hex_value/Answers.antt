use Rattle.std.proofs.Common.{◌≤◌, arith}
use Rattle.std.proofs.lemmas.Bool.Decides.{nat_tests}
use Rattle.field_tree.specs.Machine.{digit_or_more}
use Rattle.field_tree.proofs.HexLemmas.{value_refused}
use Rattle.field_tree.proofs.act.hex_value.Goals as goal

pub returns-else-value-lt16-clause-value : goal.returns-else-value-lt16-clause-value
returns-else-value-lt16-clause-value c =
    let big : 16 ≤ digit_or_more c.args.byte = grind (arith, nat_tests) in
    value_refused c.args.byte big
