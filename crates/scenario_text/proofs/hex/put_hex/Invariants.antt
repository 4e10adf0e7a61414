-- The bytes of the pairs in front were put.
use Rattle.std.proofs.Common.{length}
use Rattle.scenario_text.proofs.HexLemmas.{IsPut}
use Rattle.scenario_text.proofs.hex.put_hex.Given as goal

abbrev pub invariant-digits : goal.invariant-digits
invariant-digits l = IsPut l.fn.word l.digits l.at l.fn.room l.room

abbrev pub decreases-digits : goal.decreases-digits
decreases-digits l = length l.digits
