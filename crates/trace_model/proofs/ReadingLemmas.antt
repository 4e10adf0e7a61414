-- Reading fragments step by step, and what a payload reads as.
use Rattle.std.proofs.Common.{◌≡◌, ◌∙◌, ℕ, zero, suc, ◌+◌, ◌-◌, ◌*◌, ◌%◌, ◌<◌, ◌≤◌, Bool, true, false, List, [], ◌∷◌, ◌++◌, length, take, drop, Option, Some, None, refl, sym, ap, subst, arith, length-append, length-take, append_assoc, inl, inr}
use Rattle.std.proofs.lemmas.List.Elements.{All-head, All-tail, All-take}
use Rattle.std.specs.Prelude.{All, cond, ◌⊎◌, nat_le}
use Rattle.std.proofs.lemmas.Bool.{cases_lt, cases_eq, lt-ltb, le-ltb, le-leb, leb-true, eq-eqb, ne_eqb}
use Rattle.std.proofs.lemmas.Option.{none-some, same_Some}
use Rattle.std.proofs.lemmas.List.{take-append-drop, drop-drop}
use Rattle.std.proofs.Math.Seq.{drop-append_seam, take-append_seam}
use Rattle.wire_varint.specs.Reading.{joined, IsWhole}
use Rattle.wire_varint.proofs.Whole.{IsWhole-cons}
use Rattle.trace_model.specs.Images.{Fragment}
use Rattle.trace_model.specs.Fragments.{drop_mark, drop_size, ReadsOne, ReadsDropped}
use Rattle.trace_model.specs.Reading.{Size, longer_size, size_of, fragment_of, fragment_end}

-- Sizes

mod_small : (n : ℕ) → n < 128 → n % 128 ≡ n
mod_small n h = grind (arith, h)

mod_below : (n : ℕ) → n % 128 < 128
mod_below n = omega arith

-- a size in front is read
pub size_complete : (size : List ℕ) (most : ℕ) (rest : List ℕ) → IsWhole size → length size ≤ most
    → size_of most (size ++ rest) ≡ Some (record { value = joined size; width = length size })
size_complete [] most rest h k = absurd h
size_complete (byte ∷ []) zero rest h k = absurd (omega (arith, k))
size_complete (byte ∷ []) (suc most) rest h k =
    ap (λ (b : Bool). cond b (Some (record { value = byte; width = 1 })) (longer_size byte (size_of most rest))) (lt-ltb byte 128 h)
    ∙ ap (λ (n : ℕ). Some (record { value = n; width = 1 })) (sym (mod_small byte h) ∙ omega arith)
size_complete (byte ∷ next ∷ size) zero rest h k = absurd (omega (arith, k))
size_complete (byte ∷ next ∷ size) (suc most) rest h k =
    ap (λ (b : Bool). cond b (Some (record { value = byte; width = 1 })) (longer_size byte (size_of most (next ∷ size ++ rest)))) (le-ltb byte 128 h.0)
    ∙ ap (longer_size byte) (size_complete (next ∷ size) most rest h.1 (omega (arith, k)))
    ∙ ap (λ (n : ℕ). Some (record { value = byte % 128 + 128 * joined (next ∷ size); width = n })) (omega arith)

-- a size that is read stands in front
pub record HasSize (most : ℕ) (bytes : List ℕ) (size : Size) : Type 0 where
  pub front : List ℕ
  pub rest : List ℕ
  pub cut : bytes ≡ front ++ rest
  pub whole : IsWhole front
  pub width : length front ≡ size.width
  pub few : length front ≤ most
  pub value : joined front ≡ size.value

pub size_sound : (most : ℕ) (bytes : List ℕ) (size : Size) → size_of most bytes ≡ Some size → HasSize most bytes size
size_sound zero bytes size e = absurd (none-some size e)
size_sound (suc most) [] size e = absurd (none-some size e)
size_sound (suc most) (byte ∷ bytes) size e = step (cases_lt byte 128) (size_sound most bytes)
  where
    longer : (o : Option Size) → size_of most bytes ≡ o → longer_size byte o ≡ Some size → 128 ≤ byte
        → ((found : Size) → size_of most bytes ≡ Some found → HasSize most bytes found) → HasSize (suc most) (byte ∷ bytes) size
    longer None f g k rest = absurd (none-some size g)
    longer (Some found) f g k rest =
        let has : HasSize most bytes found = rest found f in
        let same : record { value = byte % 128 + 128 * found.value; width = found.width + 1 } ≡ size = same_Some (record { value = byte % 128 + 128 * found.value; width = found.width + 1 }) size g in
        record {
          front = byte ∷ has.front;
          rest = has.rest;
          cut = ap (λ (xs : List ℕ). byte ∷ xs) has.cut;
          whole = IsWhole-cons byte has.front k has.whole;
          width = omega (arith, has.width) ∙ ap (λ (s : Size). s.width) same;
          few = omega (arith, has.few);
          value = ap (λ (n : ℕ). byte % 128 + 128 * n) has.value ∙ ap (λ (s : Size). s.value) same;
        }

    step : ((byte < 128) ⊎ (128 ≤ byte)) → ((found : Size) → size_of most bytes ≡ Some found → HasSize most bytes found) → HasSize (suc most) (byte ∷ bytes) size
    step (inl h) rest =
        let same : record { value = byte; width = 1 } ≡ size =
        same_Some (record { value = byte; width = 1 }) size
        (sym (ap (λ (b : Bool). cond b (Some (record { value = byte; width = 1 })) (longer_size byte (size_of most bytes))) (lt-ltb byte 128 h)) ∙ e) in
        record {
          front = byte ∷ [];
          rest = bytes;
          cut = refl;
          whole = h;
          width = ap (λ (s : Size). s.width) same;
          few = omega arith;
          value = omega (arith, mod_small byte h) ∙ ap (λ (s : Size). s.value) same;
        }
    step (inr h) rest =
        longer (size_of most bytes) refl
        (sym (ap (λ (b : Bool). cond b (Some (record { value = byte; width = 1 })) (longer_size byte (size_of most bytes))) (le-ltb byte 128 h)) ∙ e) h rest

-- a size of at most four bytes is at most the drop mark's
size_most : (size : List ℕ) → length size ≤ 4 → joined size ≤ drop_size
size_most [] h = omega arith
size_most (a ∷ []) h = omega (arith, mod_below a)
size_most (a ∷ b ∷ []) h = omega (arith, mod_below a, mod_below b)
size_most (a ∷ b ∷ c ∷ []) h = omega (arith, mod_below a, mod_below b, mod_below c)
size_most (a ∷ b ∷ c ∷ d ∷ []) h = omega (arith, mod_below a, mod_below b, mod_below c, mod_below d)
size_most (a ∷ b ∷ c ∷ d ∷ e ∷ es) h = absurd (omega (arith, h))

-- Fragments

-- a fragment that stands in front is read
pub read_kept : (last : Bool) (at : ℕ) (bytes : List ℕ) (fragment : Fragment) (rest : List ℕ) → ReadsOne at bytes fragment rest → fragment_of last at bytes (size_of 4 bytes) ≡ Some fragment
read_kept last at bytes fragment rest reads =
    let n : ℕ = length fragment.bytes in
    let w : ℕ = length reads.size in
    let cut : bytes ≡ reads.size ++ (fragment.bytes ++ rest) = reads.cut ∙ append_assoc reads.size fragment.bytes rest in
    let size : size_of 4 bytes ≡ Some (record { value = n; width = w }) =
    ap (size_of 4) cut ∙ size_complete reads.size 4 (fragment.bytes ++ rest) reads.is_size.whole reads.is_size.most
    ∙ ap (λ (m : ℕ). Some (record { value = m; width = w })) reads.is_size.value in
    let long : w + n ≤ length bytes =
    omega (arith, ap length cut, length-append reads.size (fragment.bytes ++ rest), length-append fragment.bytes rest) in
    let behind_size : drop w bytes ≡ fragment.bytes ++ rest = ap (drop w) cut ∙ drop-append_seam reads.size (fragment.bytes ++ rest) in
    let read : Fragment = record { bytes = take n (drop w bytes); dropped = false; offset = at + w } in
    ap (fragment_of last at bytes) size
    ∙ ap (λ (b : Bool). cond b
    (cond last (Some (record { bytes = drop w bytes; dropped = true; offset = at + w })) None)
    (cond (nat_le (w + n) (length bytes)) (Some read) None))
    (ne_eqb n drop_size (λ e. omega (arith, e, reads.unmarked)))
    ∙ ap (λ (b : Bool). cond b (Some read) None) (le-leb (w + n) (length bytes) long)
    ∙ ap (λ (xs : List ℕ). Some (record { bytes = take n xs; dropped = false; offset = at + w })) behind_size
    ∙ ap (λ (xs : List ℕ). Some (record { bytes = xs; dropped = false; offset = at + w })) (take-append_seam fragment.bytes rest)
    ∙ ap (λ (d : Bool). Some (record { bytes = fragment.bytes; dropped = d; offset = at + w })) (sym reads.kept)
    ∙ ap (λ (o : ℕ). Some (record { bytes = fragment.bytes; dropped = fragment.dropped; offset = o })) (sym reads.offset)

pub read_dropped : (at : ℕ) (bytes : List ℕ) (fragment : Fragment) → ReadsDropped at bytes fragment → fragment_of true at bytes (size_of 4 bytes) ≡ Some fragment
read_dropped at bytes fragment reads =
    ap (λ (xs : List ℕ). fragment_of true at xs (size_of 4 xs)) reads.cut
    ∙ ap (λ (d : Bool). Some (record { bytes = fragment.bytes; dropped = d; offset = at + 4 })) (sym reads.dropped)
    ∙ ap (λ (o : ℕ). Some (record { bytes = fragment.bytes; dropped = fragment.dropped; offset = o })) (sym reads.offset)

-- in bytes the drop mark's size has one form
marked_size : (size : List ℕ) → IsWhole size → length size ≤ 4 → All (λ byte. byte < 256) size → joined size ≡ drop_size → size ≡ drop_mark
marked_size [] h k bytes e = absurd h
marked_size (a ∷ []) h k bytes e = absurd (omega (arith, e, mod_below a))
marked_size (a ∷ b ∷ []) h k bytes e = absurd (omega (arith, e, mod_below a, mod_below b))
marked_size (a ∷ b ∷ c ∷ []) h k bytes e = absurd (omega (arith, e, mod_below a, mod_below b, mod_below c))
marked_size (a ∷ b ∷ c ∷ d ∷ []) h k bytes e =
    let rest = All-tail (λ (n : ℕ). n < 256) a (b ∷ c ∷ d ∷ []) bytes in
    let more = All-tail (λ (n : ℕ). n < 256) b (c ∷ d ∷ []) rest in
    let first : a ≡ 255 = omega (arith, e, h.0, mod_below a, All-head (λ (n : ℕ). n < 256) a (b ∷ c ∷ d ∷ []) bytes) in
    let second : b ≡ 255 = omega (arith, e, h.1.0, mod_below a, mod_below b, All-head (λ (n : ℕ). n < 256) b (c ∷ d ∷ []) rest) in
    let third : c ≡ 255 = omega (arith, e, h.1.1.0, mod_below a, mod_below b, mod_below c, All-head (λ (n : ℕ). n < 256) c (d ∷ []) more) in
    let last : d ≡ 127 = omega (arith, e, h.1.1.1, mod_below a, mod_below b, mod_below c) in
    ap (λ (n : ℕ). n ∷ b ∷ c ∷ d ∷ []) first ∙ ap (λ (n : ℕ). 255 ∷ n ∷ c ∷ d ∷ []) second
    ∙ ap (λ (n : ℕ). 255 ∷ 255 ∷ n ∷ d ∷ []) third ∙ ap (λ (n : ℕ). 255 ∷ 255 ∷ 255 ∷ n ∷ []) last
marked_size (a ∷ b ∷ c ∷ d ∷ x ∷ xs) h k bytes e = absurd (omega (arith, k))

-- what is read stands in front
abbrev pub StandsFirst : Bool → ℕ → List ℕ → Fragment → Type 0
StandsFirst last at bytes fragment =
    ((last ≡ true) × ReadsDropped at bytes fragment) ⊎ ReadsOne at bytes fragment (drop (fragment_end fragment - at) bytes)

pub read_sound : (last : Bool) (at : ℕ) (bytes : List ℕ) (fragment : Fragment) → All (λ byte. byte < 256) bytes → fragment_of last at bytes (size_of 4 bytes) ≡ Some fragment → StandsFirst last at bytes fragment
read_sound last at bytes fragment below e = by_size (size_of 4 bytes) refl e
  where
    dropped_first : (size : Size) → HasSize 4 bytes size → size.value ≡ drop_size → (b : Bool) → last ≡ b
        → cond b (Some (record { bytes = drop size.width bytes; dropped = true; offset = at + size.width })) None ≡ Some fragment → StandsFirst last at bytes fragment
    dropped_first size has v false f g = absurd (none-some fragment g)
    dropped_first size has v true f g =
        let read : Fragment = record { bytes = drop size.width bytes; dropped = true; offset = at + size.width } in
        let same : read ≡ fragment = same_Some read fragment g in
        let front_is : has.front ≡ take (length has.front) bytes = sym (ap (take (length has.front)) has.cut ∙ take-append_seam has.front has.rest) in
        let front_bytes : All (λ byte. byte < 256) has.front =
        subst (λ (xs : List ℕ). All (λ byte. byte < 256) xs) (sym front_is) (All-take (λ byte. byte < 256) (length has.front) bytes below) in
        let mark : has.front ≡ drop_mark = marked_size has.front has.whole has.few front_bytes (has.value ∙ v) in
        let width : size.width ≡ 4 = sym has.width ∙ ap length mark in
        inl (
          f,
          subst (λ (r : Fragment). ReadsDropped at bytes r) same (record {
            cut = has.cut
                ∙ ap (λ (xs : List ℕ). has.front ++ xs) (sym (drop-append_seam has.front has.rest) ∙ ap (drop (length has.front)) (sym has.cut) ∙ ap (λ (n : ℕ). drop n bytes) has.width)
                ∙ ap (λ (xs : List ℕ). xs ++ drop size.width bytes) mark;
            offset = ap (λ (n : ℕ). at + n) width;
            dropped = refl;
          }),
        )

    kept_first : (size : Size) → HasSize 4 bytes size → (size.value ≡ drop_size → ⊥) → (b : Bool) → nat_le (size.width + size.value) (length bytes) ≡ b
        → cond b (Some (record { bytes = take size.value (drop size.width bytes); dropped = false; offset = at + size.width })) None ≡ Some fragment → StandsFirst last at bytes fragment
    kept_first size has v false f g = absurd (none-some fragment g)
    kept_first size has v true f g =
        let read : Fragment = record { bytes = take size.value (drop size.width bytes); dropped = false; offset = at + size.width } in
        let same : read ≡ fragment = same_Some read fragment g in
        let rest_is : drop size.width bytes ≡ has.rest = ap (λ (n : ℕ). drop n bytes) (sym has.width) ∙ ap (drop (length has.front)) has.cut ∙ drop-append_seam has.front has.rest in
        let long : size.width + size.value ≤ length bytes = leb-true (size.width + size.value) (length bytes) f in
        let inside : size.value ≤ length has.rest = omega (arith, long, ap length has.cut, length-append has.front has.rest, has.width) in
        let count : length (take size.value (drop size.width bytes)) ≡ size.value =
        ap (λ (xs : List ℕ). length (take size.value xs)) rest_is ∙ length-take size.value has.rest ∙ omega (arith, inside) in
        inr (subst (λ (r : Fragment). ReadsOne at bytes r (drop (fragment_end r - at) bytes)) same (record {
          size = has.front;
          is_size = record { whole = has.whole; most = has.few; value = has.value ∙ sym count };
          cut = has.cut
              ∙ ap (λ (xs : List ℕ). has.front ++ xs) (sym rest_is ∙ sym (take-append-drop size.value (drop size.width bytes)))
              ∙ sym (append_assoc has.front (take size.value (drop size.width bytes)) (drop size.value (drop size.width bytes)))
              ∙ ap (λ (xs : List ℕ). (has.front ++ take size.value (drop size.width bytes)) ++ xs)
              (drop-drop size.value size.width bytes ∙ ap (λ (n : ℕ). drop n bytes) (omega (arith, count)));
          offset = ap (λ (n : ℕ). at + n) (sym has.width);
          kept = refl;
          unmarked = omega (arith, count, has.value, v, size_most has.front has.few);
        }))

    by_value : (size : Size) → HasSize 4 bytes size → ((size.value ≡ drop_size) ⊎ (size.value ≡ drop_size → ⊥)) → fragment_of last at bytes (Some size) ≡ Some fragment → StandsFirst last at bytes fragment
    by_value size has (inl v) g =
        dropped_first size has v last refl
        (sym (ap (λ (b : Bool). cond b (cond last (Some (record { bytes = drop size.width bytes; dropped = true; offset = at + size.width })) None)
        (cond (nat_le (size.width + size.value) (length bytes)) (Some (record { bytes = take size.value (drop size.width bytes); dropped = false; offset = at + size.width })) None))
        (eq-eqb size.value drop_size v)) ∙ g)
    by_value size has (inr v) g =
        kept_first size has v (nat_le (size.width + size.value) (length bytes)) refl
        (sym (ap (λ (b : Bool). cond b (cond last (Some (record { bytes = drop size.width bytes; dropped = true; offset = at + size.width })) None)
        (cond (nat_le (size.width + size.value) (length bytes)) (Some (record { bytes = take size.value (drop size.width bytes); dropped = false; offset = at + size.width })) None))
        (ne_eqb size.value drop_size v)) ∙ g)

    by_size : (o : Option Size) → size_of 4 bytes ≡ o → fragment_of last at bytes o ≡ Some fragment → StandsFirst last at bytes fragment
    by_size None f g = absurd (none-some fragment g)
    by_size (Some size) f g = by_value size (size_sound 4 bytes size f) (cases_eq size.value drop_size) g
