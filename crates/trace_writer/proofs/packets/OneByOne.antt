-- Bytes that are put behind one another, each at its place.
use Rattle.std.proofs.Common.{◌≡◌, ◌+◌, ◌<◌, ◌++◌, ℕ, List, [], ◌∷◌, take, drop, set, length, ap, sym, ◌∙◌, arith, take-append-drop}
use Rattle.std.proofs.lemmas.List.{take_more_set, append_assoc, drop-set-lt, drop-drop}
use Rattle.trace_model.specs.Images.{with_bytes}

-- the bytes up to the next place
pub front_next : (old now added : List ℕ) (at i byte : ℕ) → at + i < length now → take (at + i) now ≡ take at old ++ added
    → take (at + (i + 1)) (set now (at + i) byte) ≡ take at old ++ (added ++ byte ∷ [])
front_next old now added at i byte inside front =
    let next : at + (i + 1) ≡ at + i + 1 = omega arith in
    ap (λ n. take n (set now (at + i) byte)) next
    ∙ take_more_set now (at + i) byte inside
    ∙ ap (λ l. l ++ byte ∷ []) front
    ∙ append_assoc (take at old) added (byte ∷ [])

-- and those behind it
pub rest_next : (old now : List ℕ) (at i byte : ℕ) → drop (at + i) now ≡ drop (at + i) old → drop (at + (i + 1)) (set now (at + i) byte) ≡ drop (at + (i + 1)) old
rest_next old now at i byte rest =
    let next : at + i + 1 ≡ at + (i + 1) = omega arith in
    drop-set-lt (at + (i + 1)) now (at + i) byte (omega arith)
    ∙ ap (λ n. drop n now) (sym next)
    ∙ sym (drop-drop 1 (at + i) now)
    ∙ ap (drop 1) rest
    ∙ drop-drop 1 (at + i) old
    ∙ ap (λ n. drop n old) next

pub all_put : (old now added : List ℕ) (at n : ℕ) → take (at + n) now ≡ take at old ++ added → drop (at + n) now ≡ drop (at + n) old → length added ≡ n
    → now ≡ with_bytes old at added
all_put old now added at n front rest long =
    sym (take-append-drop (at + n) now)
    ∙ ap (λ (l : List ℕ). l ++ drop (at + n) now) front
    ∙ ap (λ (l : List ℕ). take at old ++ added ++ l) (rest ∙ ap (λ (k : ℕ). drop (at + k) old) (sym long))
