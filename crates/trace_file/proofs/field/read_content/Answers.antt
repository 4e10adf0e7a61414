use Rattle.std.proofs.Common.{ℕ, arith}
use Rattle.std.proofs.lemmas.List.{length-drop}
use Rattle.trace_file.proofs.FieldLemmas.{content_is}
use Rattle.trace_file.proofs.field.read_content.Goals as goal

pub returns-clause-value : goal.returns-clause-value
returns-clause-value c =
    content_is c.args.bytes.now c.in_ok-size.width c.in_ok-size.size c.in_ok-size.ensures.varint c.in_ok-size.ensures.within (omega (arith, length-drop {A = ℕ}))
