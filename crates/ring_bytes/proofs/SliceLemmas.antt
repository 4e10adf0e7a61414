-- What stands in a list of bytes once a piece was put there.
use Rattle.std.proofs.Common.{◌≡◌, ℕ, zero, suc, ◌+◌, ◌-◌, ◌≤◌, List, [], ◌∷◌, ◌++◌, length, take, drop, refl, sym, ap, ◌∙◌, arith, length-append, length-drop, length-take, take_at, drop_at, drop-drop, take-take}
use Rattle.std.proofs.lemmas.List.{drop-take, drop-append-le, length-take-le}
use borrow.Rule.Slice.PartMut.{put_mid}
use Rattle.std.proofs.lemmas.Slice.{take-put_mid_below, drop-put_mid}
use Rattle.ring_bytes.specs.Bytes.{slice, SameOutside}
use Rattle.ring_bytes.specs.Value.{put_at}

put_is : (at : ℕ) (piece bytes : List ℕ) → put_at at piece bytes ≡ put_mid at (length piece) bytes piece
put_is at piece bytes = ap (λ rest. take at bytes ++ (piece ++ rest)) (sym (drop-drop (length piece) at bytes))

pub length_put : (at : ℕ) (piece bytes : List ℕ) → at + length piece ≤ length bytes → length (put_at at piece bytes) ≡ length bytes
length_put at piece bytes inside =
    omega (arith, length-append (take at bytes) (piece ++ drop (at + length piece) bytes), length-append piece (drop (at + length piece) bytes), length-take at bytes, length-drop (at + length piece) bytes)

slice_is : (at count : ℕ) (bytes : List ℕ) → slice at count bytes ≡ drop at (take (at + count) bytes)
slice_is at count bytes = sym (drop-take at count bytes)

slice_put_below : (at count place : ℕ) (piece bytes : List ℕ) → at + count ≤ place → place ≤ length bytes → slice at count (put_at place piece bytes) ≡ slice at count bytes
slice_put_below at count place piece bytes below inside =
    slice_is at count (put_at place piece bytes)
    ∙ ap (λ b. drop at (take (at + count) b)) (put_is place piece bytes)
    ∙ ap (drop at) (take-put_mid_below place (length piece) bytes piece (at + count) below inside)
    ∙ sym (slice_is at count bytes)

slice_put_above : (at count place : ℕ) (piece bytes : List ℕ) → place + length piece ≤ at → place ≤ length bytes → slice at count (put_at place piece bytes) ≡ slice at count bytes
slice_put_above at count place piece bytes above inside =
    ap (λ b. take count (drop at b)) (put_is place piece bytes)
    ∙ ap (take count) (drop-put_mid place (length piece) bytes piece at above inside refl)

pub slice_put_here : (place : ℕ) (piece bytes : List ℕ) → place ≤ length bytes → slice place (length piece) (put_at place piece bytes) ≡ piece
slice_put_here place piece bytes inside =
    ap (take (length piece)) (drop_at (take place bytes) (piece ++ drop (place + length piece) bytes) place (length-take-le place bytes inside))
    ∙ take_at piece (drop (place + length piece) bytes) (length piece) refl

pub put_same : (at : ℕ) (piece bytes : List ℕ) → at + length piece ≤ length bytes → SameOutside at (at + length piece) bytes (put_at at piece bytes)
put_same at piece bytes inside = record {
  below = λ place count under. slice_put_below place count at piece bytes under (omega arith);
  above = λ place count over. slice_put_above place count at piece bytes over (omega arith);
  size = length_put at piece bytes inside;
}

-- a list that goes on has the same slices in front
pub slice_front : (at count reached : ℕ) (old new : List ℕ) → at + count ≤ reached → take reached new ≡ old → slice at count new ≡ slice at count old
slice_front at count reached old new inside kept =
    slice_is at count new
    ∙ ap (drop at) (sym (take-take (at + count) reached new inside) ∙ ap (take (at + count)) kept)
    ∙ sym (slice_is at count old)

-- Two writes, and a wider stretch

pub same_then : (from to : ℕ) (one two three : List ℕ) → SameOutside from to one two → SameOutside from to two three → SameOutside from to one three
same_then from to one two three first second = record {
  below = λ place count under. second.below place count under ∙ first.below place count under;
  above = λ place count over. second.above place count over ∙ first.above place count over;
  size = second.size ∙ first.size;
}

pub same_wider : (from to lower upper : ℕ) (old new : List ℕ) → lower ≤ from → to ≤ upper → SameOutside from to old new → SameOutside lower upper old new
same_wider from to lower upper old new low high same = record {
  below = λ place count under. same.below place count (omega arith);
  above = λ place count over. same.above place count (omega arith);
  size = same.size;
}

-- A piece inside a slice

take_over : (front rest : List ℕ) (count more : ℕ) → count ≡ length front + more → take count (front ++ rest) ≡ front ++ take more rest
take_over [] rest count more is = let same : count ≡ more = omega arith in ap (λ n. take n rest) same
take_over (x ∷ front) rest zero more is = absurd (omega arith)
take_over (x ∷ front) rest (suc count) more is = ap (λ xs. x ∷ xs) (take_over front rest count more (omega arith))

-- putting a piece into a front part of a list is putting it into the list
take_put : (offset count more : ℕ) (piece bytes : List ℕ) → count ≡ offset + length piece + more → count ≤ length bytes → take count (put_at offset piece bytes) ≡ put_at offset piece (take count bytes)
take_put offset count more piece bytes is inside =
    let before : length (take offset bytes) ≡ offset = length-take-le offset bytes (omega arith) in
    let rest : drop (offset + length piece) (take count bytes) ≡ take more (drop (offset + length piece) bytes) =
    ap (λ n. drop (offset + length piece) (take n bytes)) is ∙ drop-take (offset + length piece) more bytes in
    take_over (take offset bytes) (piece ++ drop (offset + length piece) bytes) count (length piece + more) (omega arith)
    ∙ ap (λ r. take offset bytes ++ r) (take_over piece (drop (offset + length piece) bytes) (length piece + more) more refl)
    ∙ ap (λ r. take offset bytes ++ (piece ++ r)) (sym rest)
    ∙ ap (λ f. f ++ (piece ++ drop (offset + length piece) (take count bytes))) (sym (take-take offset count bytes (omega arith)))

pub slice_put_within : (base count offset : ℕ) (piece bytes : List ℕ) → offset + length piece ≤ count → base + count ≤ length bytes → slice base count (put_at (base + offset) piece bytes) ≡ put_at offset piece (slice base count bytes)
slice_put_within base count offset piece bytes fits inside =
    let long : length (drop base bytes) ≡ length bytes - base = length-drop base bytes in
    let front : drop base (take (base + offset) bytes) ≡ take offset (drop base bytes) = drop-take base offset bytes in
    let back : drop (base + offset + length piece) bytes ≡ drop (offset + length piece) (drop base bytes) =
    ap (λ n. drop n bytes) (omega arith) ∙ sym (drop-drop (offset + length piece) base bytes) in
    ap (take count)
    (drop-append-le base (take (base + offset) bytes) (piece ++ drop (base + offset + length piece) bytes) (omega (arith, length-take (base + offset) bytes))
    ∙ ap (λ f. f ++ (piece ++ drop (base + offset + length piece) bytes)) front
    ∙ ap (λ r. take offset (drop base bytes) ++ (piece ++ r)) back)
    ∙ take_put offset count (count - (offset + length piece)) piece (drop base bytes) (omega arith) (omega arith)
