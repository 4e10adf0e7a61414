-- The lines of a workload by turns.
use Rattle.std.proofs.Common.{◌≡◌, ℕ, zero, suc, ◌+◌, ◌*◌, ◌/◌, ◌%◌, ◌<◌, ◌≤◌, inl, inr, ◌⊎◌, Some, [], ◌∷◌, ◌++◌, length, slice_get, length-append, refl, ap, ◌∙◌, arith}
use Rattle.std.proofs.Math.Nat.{suc-mul, mul-le-mul_right}
use Rattle.std.proofs.lemmas.Bool.{cases_lt}
use Rattle.std.proofs.lemmas.Nat.{div-mul-add, mod-mul-add}
use Rattle.trace_base.proofs.Lists.{get_more, get_seam}
use Rattle.scenario_text.specs.declared.scenario.NumberedLine.{NumberedLine}
use Rattle.workload_laws.specs.Asked.{line_asked, lines_asked, turn_line}
use Rattle.workload_laws.specs.WorkloadLaws.{TakesTurns}

length_lines : (number writers count : ℕ) → length (lines_asked number writers count) ≡ count
unfolding lines_asked
length_lines number writers zero = refl
length_lines number writers (suc packet) =
    let before = length_lines number writers packet in
    length-append (lines_asked number writers packet) (line_asked number writers packet ∷ []) ∙ omega arith

line_by : (number writers count packet : ℕ) → packet < suc count → (packet < count) ⊎ (count ≤ packet)
    → (packet < count → slice_get (lines_asked number writers count) packet ≡ Some (line_asked number writers packet))
    → slice_get (lines_asked number writers count ++ line_asked number writers count ∷ []) packet ≡ Some (line_asked number writers packet)
line_by number writers count packet below (inl inside) again =
    get_more (lines_asked number writers count) (line_asked number writers count ∷ []) packet (line_asked number writers packet) (again inside)
line_by number writers count packet below (inr past) again =
    let same : count ≡ packet = omega arith in
    let last : packet ≡ length (lines_asked number writers count) = omega (arith, length_lines number writers count) in
    ap (slice_get (lines_asked number writers count ++ line_asked number writers count ∷ [])) last
    ∙ get_seam (lines_asked number writers count) [] (line_asked number writers count)
    ∙ ap (λ (k : ℕ). Some (line_asked number writers k)) same

line_at : (number writers count packet : ℕ) → packet < count → slice_get (lines_asked number writers count) packet ≡ Some (line_asked number writers packet)
unfolding lines_asked
line_at number writers zero packet below = absurd (omega arith)
line_at number writers (suc count) packet below =
    line_by number writers count packet below (cases_lt packet count) (λ inside. line_at number writers count packet inside)

-- the packet of a writer in a turn
turn_is : (number writers turn place : ℕ) → place < writers → line_asked number writers (turn * writers + place) ≡ turn_line number writers turn place
unfolding line_asked turn_line
turn_is number writers turn place inside =
    let turn_same : (turn * writers + place) / writers ≡ turn = div-mul-add turn writers place inside in
    let place_same : (turn * writers + place) % writers ≡ place = mod-mul-add turn writers place inside in
    rw (turn_same, place_same) refl

turn_within : (writers packets turn place : ℕ) → turn < packets → place < writers → turn * writers + place < packets * writers
turn_within writers packets turn place below inside =
    let whole : suc turn * writers ≤ packets * writers = mul-le-mul_right writers (omega arith) in
    omega (arith, suc-mul turn writers)

pub workload_takes_turns : (number writers packets : ℕ) → TakesTurns number writers packets
workload_takes_turns number writers packets = record {
  all = length_lines number writers (packets * writers);
  each = λ turn place below inside.
      line_at number writers (packets * writers) (turn * writers + place) (turn_within writers packets turn place below inside)
      ∙ ap (λ (line : NumberedLine). Some line) (turn_is number writers turn place inside);
}
