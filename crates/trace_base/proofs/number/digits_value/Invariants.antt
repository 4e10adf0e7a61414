use Rattle.std.proofs.Common.{◌≡◌, drop}
use Rattle.trace_base.specs.Numerals.{sized_value, value_from}
use Rattle.trace_base.proofs.NumeralLemmas.{going}
use Rattle.trace_base.proofs.number.digits_value.Given as goal

abbrev pub invariant-loop-digit : goal.invariant-loop-digit
invariant-loop-digit l = going l.value (drop l.digit-index l.digits) ≡ sized_value (value_from 0 l.digits)
