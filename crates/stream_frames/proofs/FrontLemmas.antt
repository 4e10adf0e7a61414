-- What stands in front of some bytes, where more bytes follow.
use Rattle.std.proofs.Common.{◌≡◌, ◌≢◌, ℕ, ◌+◌, ◌<◌, ◌≤◌, true, false, List, [], ◌++◌, length, take, drop, Option, Some, None, refl, sym, ap, ◌∙◌, arith, inl, inr}
use Rattle.std.specs.Int.{w32, from_le_bytes}
use Rattle.std.proofs.lemmas.Bool.{lt-ltb, le-ltb, leb-true, cases_lt, cases_Bool, and_parts}
use Rattle.std.proofs.lemmas.List.{length-append, length-drop, take-append-le, drop-append-le}
use Rattle.stream_frames.specs.Decoding.{decoded}
use Rattle.stream_frames.specs.Frames.{Frame, Limits}
use Rattle.stream_frames.specs.Framing.{is_size, Short, Bad, Whole, whole_of, behind_length, front_of, reach}

-- the number in front of some bytes
abbrev pub size_in : List ℕ → ℕ
size_in bytes = from_le_bytes w32 (take 4 bytes)

-- ---- behind a length

odd_behind : (limits : Limits) (size : ℕ) (bytes : List ℕ) → is_size size ≡ false → behind_length limits size bytes ≡ Bad
unfolding behind_length
odd_behind limits size bytes odd = rw odd refl

less_behind : (limits : Limits) (size : ℕ) (bytes : List ℕ) → is_size size ≡ true → length bytes < size → behind_length limits size bytes ≡ Short
unfolding behind_length
less_behind limits size bytes right less = let e = lt-ltb (length bytes) size less in rw (right, e) refl

enough_behind : (limits : Limits) (size : ℕ) (bytes : List ℕ) → is_size size ≡ true → size ≤ length bytes
    → behind_length limits size bytes ≡ whole_of size (decoded limits (take size bytes))
unfolding behind_length
enough_behind limits size bytes right enough = let e = le-ltb (length bytes) size enough in rw (right, e) refl

-- what stands behind a length
data Behind (limits : Limits) (size : ℕ) (bytes : List ℕ) : Type 0 where
  Odd : is_size size ≡ false → Behind limits size bytes
  Less : is_size size ≡ true → length bytes < size → Behind limits size bytes
  Enough : is_size size ≡ true → size ≤ length bytes → Behind limits size bytes

cases_behind : (limits : Limits) (size : ℕ) (bytes : List ℕ) → Behind limits size bytes
cases_behind limits size bytes = elim (cases_Bool (is_size size)) [
  | inl right ↦ elim (cases_lt (length bytes) size) [ inl less ↦ Less right less | inr enough ↦ Enough right enough ]
  | inr odd ↦ Odd odd
]

behind_grows : (limits : Limits) (size : ℕ) (x y : List ℕ) → behind_length limits size x ≢ Short
    → behind_length limits size (x ++ y) ≡ behind_length limits size x
behind_grows limits size x y known = elim (cases_behind limits size x) [
  | Odd odd ↦ odd_behind limits size (x ++ y) odd ∙ sym (odd_behind limits size x odd)
  | Less right less ↦ absurd (known (less_behind limits size x right less))
  | Enough right enough ↦
      let long : size ≤ length (x ++ y) = omega (arith, length-append x y) in
      enough_behind limits size (x ++ y) right long
      ∙ ap (λ (front : List ℕ). whole_of size (decoded limits front)) (take-append-le size x y enough)
      ∙ sym (enough_behind limits size x right enough)
]

-- a whole frame is at least as long as its length says, and has some byte
pub record IsWholeAt (size : ℕ) (bytes : List ℕ) (count : ℕ) : Type 0 where
  pub some : 1 ≤ size
  pub count_is : count ≡ 4 + size
  pub there : size ≤ length bytes

whole_count : (size : ℕ) (found : Option Frame) (frame : Frame) (count : ℕ) → whole_of size found ≡ Whole frame count → count ≡ 4 + size
whole_count size None frame count e = absurd cc
whole_count size (Some other) frame count e = cc

whole_behind : (limits : Limits) (size : ℕ) (bytes : List ℕ) (frame : Frame) (count : ℕ) → behind_length limits size bytes ≡ Whole frame count
    → IsWholeAt size bytes count
whole_behind limits size bytes frame count e = elim (cases_behind limits size bytes) [
  | Odd odd ↦ let f = sym (odd_behind limits size bytes odd) ∙ e in absurd cc
  | Less right less ↦ let f = sym (less_behind limits size bytes right less) ∙ e in absurd cc
  | Enough right enough ↦
      let f = sym (enough_behind limits size bytes right enough) ∙ e in
      record { some = leb-true _ _ (and_parts _ _ right).0; count_is = whole_count size (decoded limits (take size bytes)) frame count f; there = enough }
]

short_behind : (limits : Limits) (size : ℕ) (bytes : List ℕ) → behind_length limits size bytes ≡ Short
    → (1 ≤ size) × (length bytes < size) × (size ≤ 70000)
short_behind limits size bytes e = elim (cases_behind limits size bytes) [
  | Odd odd ↦ let f = sym (odd_behind limits size bytes odd) ∙ e in absurd cc
  | Less right less ↦ (leb-true _ _ (and_parts _ _ right).0, less, leb-true _ _ (and_parts _ _ right).1)
  | Enough right enough ↦ absurd (never_short size (decoded limits (take size bytes)) (sym (enough_behind limits size bytes right enough) ∙ e))
] where
  never_short : (size : ℕ) (found : Option Frame) → whole_of size found ≡ Short → ⊥
  never_short size None e = cc
  never_short size (Some frame) e = cc

-- ---- in front of all of them

few_front : (limits : Limits) (bytes : List ℕ) → length bytes < 4 → front_of limits bytes ≡ Short
unfolding front_of
few_front limits bytes few = let e = lt-ltb (length bytes) 4 few in rw e refl

long_front : (limits : Limits) (bytes : List ℕ) → 4 ≤ length bytes → front_of limits bytes ≡ behind_length limits (size_in bytes) (drop 4 bytes)
unfolding front_of
long_front limits bytes long = let e = le-ltb (length bytes) 4 long in rw e refl

pub none_front : (limits : Limits) → front_of limits [] ≡ Short
none_front limits = few_front limits [] (omega arith)

-- what is known of a front stays so
pub front_grows : (limits : Limits) (x y : List ℕ) → front_of limits x ≢ Short → front_of limits (x ++ y) ≡ front_of limits x
front_grows limits x y known = elim (cases_lt (length x) 4) [
  | inl few ↦ absurd (known (few_front limits x few))
  | inr long ↦
      let more : 4 ≤ length (x ++ y) = omega (arith, length-append x y) in
      let apart : behind_length limits (size_in x) (drop 4 x) ≢ Short = λ e. known (long_front limits x long ∙ e) in
      long_front limits (x ++ y) more
      ∙ ap (λ (front : List ℕ). behind_length limits (from_le_bytes w32 front) (drop 4 (x ++ y))) (take-append-le 4 x y long)
      ∙ ap (behind_length limits (size_in x)) (drop-append-le 4 x y long)
      ∙ behind_grows limits (size_in x) (drop 4 x) y apart
      ∙ sym (long_front limits x long)
]

-- a frame that is there is as long as its length says
pub record IsWhole (bytes : List ℕ) (count : ℕ) : Type 0 where
  pub some : 5 ≤ count
  pub count_is : count ≡ 4 + size_in bytes
  pub long : 4 ≤ length bytes
  pub there : count ≤ length bytes

pub whole_front : (limits : Limits) (bytes : List ℕ) (frame : Frame) (count : ℕ) → front_of limits bytes ≡ Whole frame count → IsWhole bytes count
whole_front limits bytes frame count e = elim (cases_lt (length bytes) 4) [
  | inl few ↦ let f = sym (few_front limits bytes few) ∙ e in absurd cc
  | inr long ↦
      let w = whole_behind limits (size_in bytes) (drop 4 bytes) frame count (sym (long_front limits bytes long) ∙ e) in
      let some = w.some in
      let count_is = w.count_is in
      let there = w.there in
      record {
        some = omega arith;
        count_is = count_is;
        long = long;
        there = omega (arith, length-drop 4 bytes);
      }
]

few_reach : (bytes : List ℕ) → length bytes < 4 → reach bytes ≡ 4
few_reach bytes few = let e = lt-ltb (length bytes) 4 few in rw e refl

long_reach : (bytes : List ℕ) → 4 ≤ length bytes → reach bytes ≡ 4 + size_in bytes
long_reach bytes long = let e = le-ltb (length bytes) 4 long in rw e refl

-- what isn't known yet has room for a byte
pub short_reach : (limits : Limits) (bytes : List ℕ) → front_of limits bytes ≡ Short → length bytes < reach bytes
short_reach limits bytes short = elim (cases_lt (length bytes) 4) [
  | inl few ↦ let e = few_reach bytes few in rw e few
  | inr long ↦
      let less = (short_behind limits (size_in bytes) (drop 4 bytes) (sym (long_front limits bytes long) ∙ short)).1 in
      let e = long_reach bytes long in
      rw e (omega (arith, length-drop 4 bytes))
]

-- bytes up to there end a frame with the last of them, if any
pub reached : (limits : Limits) (x t : List ℕ) (frame : Frame) (count : ℕ) → length (x ++ t) ≤ reach x → front_of limits (x ++ t) ≡ Whole frame count
    → count ≡ length (x ++ t)
reached limits x t frame count below e =
    let w = whole_front limits (x ++ t) frame count e in
    let some = w.some in let count_is = w.count_is in let there = w.there in
    elim (cases_lt (length x) 4) [
      | inl few ↦ let r = few_reach x few in omega arith
      | inr long ↦
          let r = long_reach x long in
          let same : size_in (x ++ t) ≡ size_in x = ap (from_le_bytes w32) (take-append-le 4 x t long) in
          omega arith
    ]

-- and no frame needs more room than the largest one
pub short_room : (limits : Limits) (bytes : List ℕ) → front_of limits bytes ≡ Short → reach bytes ≤ 70004
short_room limits bytes short = elim (cases_lt (length bytes) 4) [
  | inl few ↦ let e = few_reach bytes few in rw e (omega arith)
  | inr long ↦
      let most = (short_behind limits (size_in bytes) (drop 4 bytes) (sym (long_front limits bytes long) ∙ short)).2 in
      let e = long_reach bytes long in
      rw e (omega arith)
]
