-- The laws of varints.
use Rattle.std.proofs.Common.{◌≡◌, ℕ, ◌+◌, ◌*◌, ◌^◌, ◌<◌, ◌≤◌, List, [], ◌∷◌, ◌++◌, length, sym, ◌∙◌, ap, arith, refl, take, drop, Result, Ok, Err, IfOk, OnErr}
use Rattle.std.proofs.lemmas.List.{take-append-drop, length-take-le, take_at, drop_at}
use Rattle.wire_varint.specs.Reading.{joined, IsVarint, NoVarintInFront}
use Rattle.wire_varint.specs.Varint.{varint, redundant, tag}
use Rattle.wire_varint.specs.declared.read.VarintFault.{VarintFault}
use Rattle.wire_varint.proofs.Joined.{joined-lt, joined-groups}
use Rattle.wire_varint.proofs.Lengths.{length-varint-le, length-varint-below, length-varint-pos}
use Rattle.wire_varint.proofs.Whole.{IsWhole-groups, whole_once}

pub varint_is_varint : (n : ℕ) → n < 2 ^ 64 → IsVarint (varint n) n
unfolding varint
varint_is_varint n fits =
    let small : n < 128 ^ 10 = omega arith in
    record {
      whole = IsWhole-groups 9 n small;
      most = length-varint-le n;
      value = joined-groups 9 n small;
      fits = fits;
    }

pub redundant_is_varint : (n : ℕ) → n < 2 ^ 28 → IsVarint (redundant n) n
unfolding redundant
redundant_is_varint n fits = record {
  whole = (omega arith, (omega arith, (omega arith, omega arith)));
  most = omega arith;
  value = omega arith;
  fits = omega arith;
}

pub tag_is_varint : (field wire : ℕ) → field < 2 ^ 29 → wire < 8 → IsVarint (tag field wire) (8 * field + wire)
unfolding tag
tag_is_varint field wire in_range small = varint_is_varint (8 * field + wire) (omega arith)

pub one_varint : (front other behind follows : List ℕ) (m n : ℕ) → IsVarint front m → IsVarint other n → front ++ behind ≡ other ++ follows
    → (front ≡ other) × (m ≡ n) × (behind ≡ follows)
one_varint front other behind follows m n p q e =
    let same : front ≡ other = whole_once front other behind follows p.whole q.whole e in
    let cut : drop (length front) (front ++ behind) ≡ drop (length front) (other ++ follows) = ap (drop (length front)) e in
    let rest : behind ≡ follows = sym (drop_at front behind _ refl) ∙ (cut ∙ drop_at other follows _ (ap length (sym same))) in
    (same, sym p.value ∙ (ap joined same ∙ q.value), rest)

pub varint_shortest : (bytes : List ℕ) (n : ℕ) → IsVarint bytes n → length (varint n) ≤ length bytes
varint_shortest [] n p = absurd p.whole
varint_shortest (byte ∷ bytes) n p =
    length-varint-below (length bytes) n (rw p.value at (joined-lt (byte ∷ bytes)))

-- what is read from the front of some bytes is the one varint there
pub read_every : (bytes : List ℕ) (read : Result (ℕ × ℕ) VarintFault)
    → IfOk read (λ found. (1 ≤ found.1) × (found.1 ≤ length bytes))
    → IfOk read (λ found. IsVarint (take found.1 bytes) found.0)
    → OnErr read (NoVarintInFront bytes)
    → (front rest : List ℕ) (n : ℕ) → IsVarint front n → bytes ≡ front ++ rest → read ≡ Ok (n, length front)
read_every bytes (Ok (m, len)) within found none front rest n p e =
    let one : (take len bytes ≡ front) × (m ≡ n) × (drop len bytes ≡ rest) = one_varint (take len bytes) front (drop len bytes) rest m n found p (take-append-drop len bytes ∙ e) in
    let long : len ≡ length front = sym (length-take-le len bytes within.1) ∙ ap length one.0 in
    cc
read_every bytes (Err fault) within found none front rest n p e =
    let at_front : take (length front) bytes ≡ front = rw e (take_at front rest (length front) refl) in
    absurd (none n (length front) (rw at_front p))

pub varint_lengths_bounded : (n : ℕ) → (1 ≤ length (varint n)) × (length (varint n) ≤ 10)
varint_lengths_bounded n = (length-varint-pos n, length-varint-le n)
