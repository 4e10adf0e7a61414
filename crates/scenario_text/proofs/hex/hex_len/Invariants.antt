-- The pairs in front were counted.
use Rattle.std.proofs.Common.{◌≡◌, ◌+◌, ◌≤◌, length, option_map}
use Rattle.scenario_text.specs.Hex.{hex_of, pairs_in}
use Rattle.scenario_text.proofs.HexLemmas.{counted}
use Rattle.scenario_text.proofs.hex.hex_len.Given as goal

abbrev pub invariant-digits : goal.invariant-digits
invariant-digits l =
    (option_map length (hex_of l.fn.word) ≡ counted l.len (pairs_in l.digits)) × (l.len + length l.digits ≤ length l.fn.word)

abbrev pub decreases-digits : goal.decreases-digits
decreases-digits l = length l.digits
