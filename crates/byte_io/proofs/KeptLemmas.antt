-- A piece that is put behind the filled bytes of a row, and counts as filled from then on.
use Rattle.std.proofs.Common.{◌≡◌, ℕ, ◌+◌, ◌≤◌, List, ◌++◌, length, take, drop, sym, ap, ap₂, ◌∙◌, arith, append_assoc, length-append}
use Rattle.std.proofs.lemmas.List.{take_all, take_at, take-take, take-append-drop, length-take-le, drop-append-le}

regroup : (front part others piece behind rest : List ℕ) → piece ≡ part ++ others
    → (front ++ (piece ++ behind)) ++ rest ≡ (front ++ part) ++ (others ++ (behind ++ rest))
regroup front part others piece behind rest is = rw is (simp append_assoc)

-- a row that has a piece behind its filled bytes begins with these and the front of the piece
filled_on : (filled count len : ℕ) (row piece behind rest : List ℕ) → filled ≤ length row → count ≤ length piece → filled + count ≤ len
    → take (filled + count) (take len ((take filled row ++ (piece ++ behind)) ++ rest)) ≡ take filled row ++ take count piece
filled_on filled count len row piece behind rest within enough fits =
    let front : List ℕ = take filled row in
    let part : List ℕ = take count piece in
    let long : length (front ++ part) ≡ filled + count =
    length-append front part ∙ ap₂ (λ a b. a + b) (length-take-le filled row within) (length-take-le count piece enough) in
    take-take (filled + count) len ((front ++ (piece ++ behind)) ++ rest) fits
    ∙ ap (take (filled + count)) (regroup front part (drop count piece) piece behind rest (sym (take-append-drop count piece)))
    ∙ take_at (front ++ part) (drop count piece ++ (behind ++ rest)) (filled + count) long

-- what waits, with the whole piece behind it
pub kept : (passed filled len : ℕ) (items row piece new behind rest : List ℕ) → passed ≤ filled → filled ≤ length items → filled + length piece ≤ len
    → row ≡ items → new ≡ piece
    → drop passed (take (filled + length piece) (take len ((take filled row ++ (new ++ behind)) ++ rest))) ≡ drop passed (take filled items) ++ piece
kept passed filled len items row piece new behind rest front within fits same is =
    let whole : take (length piece) new ≡ piece = ap (take (length piece)) is ∙ take_all (length piece) piece (omega arith) in
    let enough : length piece ≤ length new = omega (arith, ap length is) in
    let inside : filled ≤ length row = omega (arith, ap length same, within) in
    ap (drop passed)
    (filled_on filled (length piece) len row new behind rest inside enough fits ∙ ap₂ (λ a b. a ++ b) (ap (take filled) same) whole)
    ∙ drop-append-le passed (take filled items) piece (omega (arith, length-take-le filled items within, front))
