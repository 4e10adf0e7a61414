use Rattle.std.proofs.Common.{◌≡◌, ◌<◌, ◌^◌, arith, sym, ◌∙◌}
use Rattle.std.proofs.lemmas.Fmt.{decimal_injective}
use Rattle.command_words.proofs.number.count_of.Goals as goal
use Rattle.command_words.proofs.number.count_of.Goals.{else-number-ge1-via-then-number-ge1+else-number-from, else-number-ge1-via-else-number-ge1}

pub returns-else-number-ge1-clause-none : goal.returns-else-number-ge1-clause-none
returns-else-number-ge1-clause-none c = λ count some most spelled.
    let low : c.in_ok-number.number < 2 ^ 64 = omega arith in
    let same : c.in_ok-number.number ≡ count =
    decimal_injective c.in_ok-number.number count low (omega (arith, c.ranges.most.fits)) (sym c.in_ok-number.ensures.some ∙ spelled) in
    elim c.else-number-ge1.branch [
      | else-number-ge1-via-then-number-ge1+else-number-from w ↦ absurd (omega (arith, same, w.from.ensures))
      | else-number-ge1-via-else-number-ge1 w ↦ absurd (omega (arith, same))
    ]
