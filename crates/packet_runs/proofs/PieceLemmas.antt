-- The pieces of a list of bytes, by their places.
use Rattle.std.proofs.Common.{◌≡◌, ℕ, zero, suc, ◌+◌, ◌-◌, ◌<◌, ◌≤◌, List, [], ◌∷◌, length, take, drop, get_or, refl, ap, ◌∙◌, arith}
use Rattle.packet_runs.specs.Pieces.{pieces, AreEnds}

pub many : (bytes : List ℕ) (start : ℕ) (ends : List ℕ) → length (pieces bytes start ends) ≡ length ends
many bytes start [] = refl
many bytes start (end ∷ ends) = ap suc (many bytes end ends)

pub piece_first : (bytes : List ℕ) (start : ℕ) (ends : List ℕ) → 0 < length ends → get_or (pieces bytes start ends) 0 [] ≡ take (get_or ends 0 0 - start) (drop start bytes)
piece_first bytes start [] some = absurd (omega (arith, some))
piece_first bytes start (end ∷ ends) some = refl

later_piece : (bytes : List ℕ) (start : ℕ) (ends : List ℕ) (i : ℕ) → suc i < length ends
    → get_or (pieces bytes start ends) (suc i) [] ≡ take (get_or ends (suc i) 0 - get_or ends i 0) (drop (get_or ends i 0) bytes)
later_piece bytes start [] i within = absurd (omega (arith, within))
later_piece bytes start (end ∷ ends) zero within = piece_first bytes end ends (omega (arith, within))
later_piece bytes start (end ∷ ends) (suc i) within = later_piece bytes end ends i (omega (arith, within))

pub piece_later : (bytes : List ℕ) (start : ℕ) (ends : List ℕ) (i j : ℕ) → j + 1 ≡ i → i < length ends
    → get_or (pieces bytes start ends) i [] ≡ take (get_or ends i 0 - get_or ends j 0) (drop (get_or ends j 0) bytes)
piece_later bytes start ends zero j e within = absurd (omega (arith, e))
piece_later bytes start ends (suc i) j e within =
    let same : i ≡ j = omega (arith, e) in
    later_piece bytes start ends i within ∙ ap (λ (k : ℕ). take (get_or ends (suc i) 0 - get_or ends k 0) (drop (get_or ends k 0) bytes)) same

pub end_in : (size start : ℕ) (ends : List ℕ) (i : ℕ) → AreEnds size start ends → i < length ends → get_or ends i 0 ≤ size
end_in size start [] i h within = absurd (omega (arith, within))
end_in size start (end ∷ ends) zero h within = h.1
end_in size start (end ∷ ends) (suc i) h within = end_in size end ends i h.2 (omega (arith, within))

rise : (size start : ℕ) (ends : List ℕ) (i : ℕ) → AreEnds size start ends → suc i < length ends → get_or ends i 0 ≤ get_or ends (suc i) 0
rise size start [] i h within = absurd (omega (arith, within))
rise size start (end ∷ []) i h within = absurd (omega (arith, within))
rise size start (end ∷ next ∷ ends) zero h within = h.2.0
rise size start (end ∷ next ∷ ends) (suc i) h within = rise size end (next ∷ ends) i h.2 (omega (arith, within))

pub ends_rise : (size start : ℕ) (ends : List ℕ) (i j : ℕ) → AreEnds size start ends → j + 1 ≡ i → i < length ends → get_or ends j 0 ≤ get_or ends i 0
ends_rise size start ends zero j h e within = absurd (omega (arith, e))
ends_rise size start ends (suc i) j h e within =
    let same : i ≡ j = omega (arith, e) in
    omega (arith, rise size start ends i h within, ap (λ (k : ℕ). get_or ends k 0) same)

pub end_before : (size start : ℕ) (ends : List ℕ) (i : ℕ) → AreEnds size start ends → i < length ends → start ≤ get_or ends i 0
end_before size start [] i h within = absurd (omega (arith, within))
end_before size start (end ∷ ends) zero h within = h.0
end_before size start (end ∷ ends) (suc i) h within = omega (arith, h.0, end_before size end ends i h.2 (omega (arith, within)))
