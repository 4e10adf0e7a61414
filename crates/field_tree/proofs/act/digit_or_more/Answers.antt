use Rattle.std.proofs.Common.{arith}
use Rattle.field_tree.proofs.HexLemmas.{table_value, value_within}
use Rattle.field_tree.proofs.act.digit_or_more.Goals as goal

pub returns-clause-value : goal.returns-clause-value
returns-clause-value c = table_value c.args.byte (omega arith)

pub returns-clause-within : goal.returns-clause-within
returns-clause-within c = rw (table_value c.args.byte (omega arith)) (value_within c.args.byte)
