-- Sizes: the steps that read one find just the varint of one to four bytes that stands in front.
use Rattle.std.proofs.Common.{◌≡◌, ℕ, ◌+◌, ◌-◌, ◌*◌, ◌%◌, ◌^◌, ◌<◌, ◌≤◌, cond, get_or, le-ltb, List, [], ◌∷◌, length, take, drop, Option, Some, None, refl, ap, sym, subst, ◌∙◌, arith}
use Rattle.std.proofs.lemmas.List.{take-append-drop, length-take-le}
use Rattle.std.proofs.Math.Seq.{take-append_seam}
use Rattle.std.proofs.Math.Nat.{pow-le-pow_right}
use Rattle.wire_varint.specs.Reading.{joined, IsVarint, NoVarintInFront}
use Rattle.wire_varint.proofs.Joined.{joined-lt}
use Rattle.wire_varint.proofs.Whole.{whole_once}
use Rattle.trace_model.specs.Reading.{Size, size_of}
use Rattle.trace_model.proofs.ReadingLemmas.{HasSize, size_complete, size_sound}

-- a size is below 2 ^ 28
pub size-lt : (front : List ℕ) → length front ≤ 4 → joined front < 2 ^ 28
size-lt front few =
    let most : 128 ^ length front ≤ 128 ^ 4 = pow-le-pow_right {n = 128} (omega arith) {i = length front} {j = 4} few in
    omega (arith, most, joined-lt front)

-- The same of a varint that was read in front

pub size_found : (bytes : List ℕ) (value width : ℕ) → IsVarint (take width bytes) value → width ≤ length bytes → width ≤ 4
    → size_of 4 bytes ≡ Some (record { value = value; width = width })
size_found bytes value width found within few =
    let long : length (take width bytes) ≡ width = length-take-le width bytes within in
    let split = take-append-drop width bytes in
    let read = size_complete (take width bytes) 4 (drop width bytes) found.whole (omega (arith, long)) in
    rw split at read
    ∙ ap (λ n. Some (record { value = n; width = length (take width bytes) })) found.value
    ∙ ap (λ n. Some (record { value = value; width = n })) long

no_size : (bytes : List ℕ) (o : Option Size) → size_of 4 bytes ≡ o → ((size : Size) → HasSize 4 bytes size → ⊥) → size_of 4 bytes ≡ None
no_size bytes None e none = e
no_size bytes (Some size) e none = absurd (none size (size_sound 4 bytes size e))

is_varint : (bytes : List ℕ) (size : Size) (has : HasSize 4 bytes size) → IsVarint has.front size.value
is_varint bytes size has = record {
  whole = has.whole;
  most = omega (arith, has.few);
  value = has.value;
  fits = omega (arith, size-lt has.front has.few, has.value);
}

pub size_none : (bytes : List ℕ) → NoVarintInFront bytes → size_of 4 bytes ≡ None
size_none bytes none = no_size bytes (size_of 4 bytes) refl (λ size has.
    let front_is : take (length has.front) bytes ≡ has.front = ap (take (length has.front)) has.cut ∙ take-append_seam has.front has.rest in
    let P : List ℕ → Type 0 = λ front. IsVarint front size.value in
    none size.value (length has.front) (subst P (sym front_is) (is_varint bytes size has)))

pub size_long : (bytes : List ℕ) (value width : ℕ) → IsVarint (take width bytes) value → width ≤ length bytes → 4 < width
    → size_of 4 bytes ≡ None
size_long bytes value width found within many = no_size bytes (size_of 4 bytes) refl (λ size has.
    let long : length (take width bytes) ≡ width = length-take-le width bytes within in
    let same : has.front ≡ take width bytes =
    whole_once has.front (take width bytes) has.rest (drop width bytes) has.whole found.whole
    (sym has.cut ∙ sym (take-append-drop width bytes)) in
    omega (arith, has.few, long, ap length same))

-- a size below 128 in the form of four bytes

short_is : (first : ℕ) (rest : List ℕ) → 128 ≤ first → first < 256
    → size_of 4 (first ∷ 128 ∷ 128 ∷ 0 ∷ rest) ≡ Some (record { value = first - 128; width = 4 })
short_is first rest high low =
    let value : first % 128 + 128 * 0 ≡ first - 128 = omega arith in
    ap (λ b. cond b (Some (record { value = first; width = 1 })) (Some (record { value = first % 128 + 128 * 0; width = 4 })))
    (le-ltb first 128 high)
    ∙ ap (λ n. Some (record { value = n; width = 4 })) value

pub size_short : (bytes : List ℕ) → 4 ≤ length bytes → 128 ≤ get_or bytes 0 0 → get_or bytes 0 0 < 256 → get_or bytes 1 0 ≡ 128
    → get_or bytes 2 0 ≡ 128 → get_or bytes 3 0 ≡ 0
    → size_of 4 bytes ≡ Some (record { value = get_or bytes 0 0 - 128; width = 4 })
size_short [] long high low second third last = absurd (omega arith)
size_short (a ∷ []) long high low second third last = absurd (omega arith)
size_short (a ∷ b ∷ []) long high low second third last = absurd (omega arith)
size_short (a ∷ b ∷ c ∷ []) long high low second third last = absurd (omega arith)
size_short (a ∷ b ∷ c ∷ d ∷ rest) long high low second third last =
    let behind : b ∷ c ∷ d ∷ rest ≡ 128 ∷ 128 ∷ 0 ∷ rest = λ i. second i ∷ third i ∷ last i ∷ rest in
    ap (λ xs. size_of 4 (a ∷ xs)) behind ∙ short_is a rest high low
