-- A varint that is put in byte by byte: what stands there so far, and how each step goes on.
use Rattle.std.proofs.Common.{◌≡◌, ℕ, suc, ◌+◌, ◌-◌, ◌/◌, ◌%◌, ◌^◌, ◌<◌, ◌≤◌, List, [], ◌∷◌, ◌++◌, length, take, drop, set, refl, sym, ap, ◌∙◌, arith, append_assoc, length-append, length-set, inl, inr}
use Rattle.std.proofs.lemmas.Bool.{cases_lt}
use Rattle.std.proofs.lemmas.List.{append-nil, take_more_set, drop-set-lt, drop-drop, take-append-drop}
use Rattle.std.proofs.lemmas.Nat.{div_below}
use Rattle.std.proofs.Math.Nat.{pow-suc}
use Rattle.std.proofs.Math.Seq.{take-append_seam, drop-append_seam}
use Rattle.wire_varint.specs.Varint.{groups, varint}
use Rattle.wire_varint.proofs.Groups.{groups_last, groups_more}
use Rattle.wire_varint.proofs.Lengths.{length-groups-pos}

-- the bytes that were put from a place up to here and the groups of the rest are the varint
pub record IsPutUpTo (old now : List ℕ) (value rest at here : ℕ) : Type 0 where
  pub added : List ℕ
  pub most : ℕ
  pub fits : rest < 128 ^ suc most
  pub whole : added ++ groups (suc most) rest ≡ varint value
  pub place : here ≡ at + length added
  pub front : take here now ≡ take at old ++ added
  pub behind : drop here now ≡ drop here old
  pub long : length now ≡ length old

pub put_nothing : (old : List ℕ) (value at : ℕ) → value < 2 ^ 64 → IsPutUpTo old old value value at at
unfolding varint
put_nothing old value at fits = record {
  added = [];
  most = 9;
  fits = omega (arith, fits);
  whole = refl;
  place = omega arith;
  front = sym (append-nil (take at old));
  behind = refl;
  long = refl;
}

-- there is room for the next byte
pub put_room : (old now : List ℕ) (value rest at here : ℕ) → IsPutUpTo old now value rest at here → at + length (varint value) ≤ length old → here < length now
put_room old now value rest at here put room =
    omega (arith, room, put.long, put.place, ap length put.whole, length-append put.added (groups (suc put.most) rest), length-groups-pos put.most rest)

put_front : (old now added : List ℕ) (at here byte : ℕ) → here < length now → take here now ≡ take at old ++ added
    → take (here + 1) (set now here byte) ≡ take at old ++ (added ++ byte ∷ [])
put_front old now added at here byte inside front =
    take_more_set now here byte inside ∙ ap (λ (l : List ℕ). l ++ byte ∷ []) front ∙ append_assoc (take at old) added (byte ∷ [])

put_behind : (old now : List ℕ) (here byte : ℕ) → drop here now ≡ drop here old → drop (here + 1) (set now here byte) ≡ drop (here + 1) old
put_behind old now here byte behind =
    drop-set-lt (here + 1) now here byte (omega arith) ∙ sym (drop-drop 1 here now) ∙ ap (drop 1) behind ∙ drop-drop 1 here old

pub put_more : (old now : List ℕ) (value rest at here : ℕ) → IsPutUpTo old now value rest at here → at + length (varint value) ≤ length old → 128 ≤ rest
    → IsPutUpTo old (set now here (128 + rest % 128)) value (rest / 128) at (here + 1)
put_more old now value rest at here put room large =
    let some : 0 < put.most = elim (cases_lt 0 put.most) [
      | inl lt ↦ lt
      | inr ge ↦ let none : put.most ≡ 0 = omega arith in absurd (omega (arith, rw none at put.fits, large))
    ] in
    let step : put.most ≡ suc (put.most - 1) = omega (arith, some) in
    let byte : ℕ = 128 + rest % 128 in
    record {
      added = put.added ++ byte ∷ [];
      most = put.most - 1;
      fits = div_below rest 128 (128 ^ suc (put.most - 1)) (omega arith) (rw (step, pow-suc 128 (suc (put.most - 1))) at put.fits);
      whole = rw (append_assoc put.added ((128 + rest % 128) ∷ []) (groups (suc (put.most - 1)) (rest / 128)))
          (rw (groups_more put.most rest large, step) at put.whole);
      place = omega (arith, length-append put.added (byte ∷ []), put.place);
      front = put_front old now put.added at here byte (put_room old now value rest at here put room) put.front;
      behind = put_behind old now here byte put.behind;
      long = length-set now here byte ∙ put.long;
    }

pub put_end : (old now : List ℕ) (value rest at here : ℕ) → IsPutUpTo old now value rest at here → rest < 128 → here + 1 ≡ at + length (varint value)
put_end old now value rest at here put small =
    let all : put.added ++ rest ∷ [] ≡ varint value = rw (groups_last put.most rest small) at put.whole in
    omega (arith, ap length all, length-append put.added (rest ∷ []), put.place)

-- and with the last byte all of them stand there
pub put_last : (old now : List ℕ) (value rest at here : ℕ) → IsPutUpTo old now value rest at here → at + length (varint value) ≤ length old → rest < 128
    → set now here rest ≡ take at old ++ varint value ++ drop (at + length (varint value)) old
put_last old now value rest at here put room small =
    let all : put.added ++ rest ∷ [] ≡ varint value = rw (groups_last put.most rest small) at put.whole in
    let ends : here + 1 ≡ at + length (varint value) = put_end old now value rest at here put small in
    sym (take-append-drop (here + 1) (set now here rest))
    ∙ ap (λ (l : List ℕ). l ++ drop (here + 1) (set now here rest))
    (put_front old now put.added at here rest (put_room old now value rest at here put room) put.front ∙ ap (λ (l : List ℕ). take at old ++ l) all)
    ∙ ap (λ (l : List ℕ). take at old ++ varint value ++ l) (put_behind old now here rest put.behind ∙ ap (λ (n : ℕ). drop n old) ends)

-- put in front, it is what stands there, and what is behind it is as it was
pub front_is : (old now bytes : List ℕ) (len : ℕ) → len ≡ 0 + length bytes → now ≡ take 0 old ++ bytes ++ drop (0 + length bytes) old → take len now ≡ bytes
front_is old now bytes len is put =
    let as_long : len ≡ length bytes = omega (arith, is) in
    ap (λ (n : ℕ). take n now) as_long ∙ ap (take (length bytes)) put ∙ take-append_seam bytes (drop (0 + length bytes) old)

pub behind_is : (old now bytes : List ℕ) (len : ℕ) → len ≡ 0 + length bytes → now ≡ take 0 old ++ bytes ++ drop (0 + length bytes) old → drop len now ≡ drop len old
behind_is old now bytes len is put =
    let as_long : len ≡ length bytes = omega (arith, is) in
    ap (λ (n : ℕ). drop n now) as_long ∙ ap (drop (length bytes)) put ∙ drop-append_seam bytes (drop (0 + length bytes) old)
    ∙ ap (λ (n : ℕ). drop n old) (sym is)
