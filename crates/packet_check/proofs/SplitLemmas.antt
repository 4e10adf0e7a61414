-- Bytes behind a field's end begin with a field, or the walk over them comes to no field's end.
use Rattle.std.proofs.Common.{◌≡◌, ◌≢◌, ℕ, ◌+◌, ◌-◌, ◌*◌, ◌/◌, ◌%◌, ◌^◌, ◌<◌, ◌≤◌, ◌⊎◌, true, false, List, [], ◌∷◌, ◌++◌, length, take, drop, refl, sym, ap, ◌∙◌, subst, arith, inl, inr, append_assoc}
use Rattle.std.proofs.lemmas.Bool.{cases_lt, cases_eq, cases_Bool, lt-ltb, le-ltb, ne_eqb, true≢false}
use Rattle.std.proofs.lemmas.List.{take-append-drop, length-take-le}
use Rattle.trace_base.specs.declared.limits.TheConstants.{MAX_FIELD}
use Rattle.wire_varint.specs.Reading.{joined, IsWhole, IsVarint}
use Rattle.wire_varint.proofs.Whole.{IsWhole-cons}
use Rattle.trace_model.specs.Fields.{FieldValue, Number, EightBytes, Content, FourBytes, MessageField, wire_of, IsValue, Spells}
use Rattle.trace_model.specs.Walks.{VarintOf, OfTag, OfNumber, OfLength, WalkPart, Between, InVarint, InContent, Unfit, Refused, Walk, is_number, value_begun, tag_ended, varint_ended, walk_over}
use Rattle.packet_check.proofs.StepLemmas.{below_more, value_fits}
use Rattle.packet_check.proofs.WalkLemmas.{walk_at, walked_on, varint_on, varint_over, more_value, number_walk, content_walk, left_some, unfit_walk}

-- a field isn't at its end
abbrev pub IsUnended : WalkPart → Type 0
IsUnended Between = ⊥
IsUnended Refused = ⊥
IsUnended (InVarint of value count) = Unit {0}
IsUnended (InContent left) = Unit {0}
IsUnended Unfit = Unit {0}

-- the walk is in the field that began there, or in what is no field
pub record IsStuck (start : ℕ) (walk : Walk) : Type 0 where
  pub start_is : walk.start ≡ start
  pub unended : IsUnended walk.part

stuck_unfit : (bytes : List ℕ) (at start number : ℕ) → IsStuck start (walk_over (walk_at at start number Unfit) bytes)
stuck_unfit bytes at start number =
    subst (IsStuck start) (sym (unfit_walk bytes at start number)) (record { start_is = refl; unended = tt })

-- ---- varints

-- a varint stands in front that goes on from so many bytes that said so much
record GoesOn (bytes : List ℕ) (value count : ℕ) : Type 0 where
  pub front : List ℕ
  pub rest : List ℕ
  pub cut : bytes ≡ front ++ rest
  pub whole : IsWhole front
  pub most : count + length front ≤ 10
  pub fits : value + 128 ^ count * joined front < 2 ^ 64

over_stuck : (bytes : List ℕ) (of : VarintOf) (value count byte at start number : ℕ) → count ≡ 9 → 1 < byte
    → IsStuck start (walk_over (walk_at at start number (InVarint of value count)) (byte ∷ bytes))
over_stuck bytes of value count byte at start number nine large =
    subst (λ (walk : Walk). IsStuck start (walk_over walk bytes))
    (sym (varint_over of value count byte (walk_at (at + 1) start number (InVarint of value count)) nine large))
    (stuck_unfit bytes (at + 1) start number)

last_goes : (bytes : List ℕ) (value count byte : ℕ) → value < 128 ^ count → count ≤ 9 → byte < 128 → (count ≡ 9 → byte ≤ 1) → GoesOn (byte ∷ bytes) value count
last_goes bytes value count byte small most low tenth = record {
  front = byte ∷ [];
  rest = bytes;
  cut = refl;
  whole = low;
  most = omega arith;
  fits =
      let same : byte % 128 ≡ byte % 128 + 128 * 0 = omega arith in
      subst (λ (n : ℕ). value + 128 ^ count * n < 2 ^ 64) same
      (value_fits value (128 ^ count) count byte (record { most = most; scale_is = refl; small = small }) tenth);
}

more_goes : (bytes : List ℕ) (value count byte : ℕ) → 128 ≤ byte → GoesOn bytes (value + 128 ^ count * (byte % 128)) (count + 1) → GoesOn (byte ∷ bytes) value count
more_goes bytes value count byte high h = record {
  front = byte ∷ h.front;
  rest = h.rest;
  cut = ap (λ (xs : List ℕ). byte ∷ xs) h.cut;
  whole = IsWhole-cons byte h.front high h.whole;
  most = omega (arith, h.most);
  fits = subst (λ (n : ℕ). n < 2 ^ 64) (more_value value count byte (joined h.front)) h.fits;
}

varint_split : (bytes : List ℕ) (of : VarintOf) (value count at start number : ℕ) → value < 128 ^ count → count ≤ 9
    → GoesOn bytes value count ⊎ IsStuck start (walk_over (walk_at at start number (InVarint of value count)) bytes)
varint_split [] of value count at start number small most = inr (record { start_is = refl; unended = tt })
varint_split (byte ∷ bytes) of value count at start number small most = elim (cases_eq count 9) [
  | inl nine ↦ elim (cases_lt 1 byte) [
    | inl large ↦ inr (over_stuck bytes of value count byte at start number nine large)
    | inr little ↦ inl (last_goes bytes value count byte small most (omega (arith, little)) (λ is. little))
  ]
  | inr before ↦ elim (cases_lt byte 128) [
    | inl low ↦ inl (last_goes bytes value count byte small most low (λ is. absurd (before is)))
    | inr high ↦
        let below : value + 128 ^ count * (byte % 128) < 128 ^ (count + 1) =
        below_more value (128 ^ count) count (byte % 128) (record { most = most; scale_is = refl; small = small }) (omega arith) in
        elim (varint_split bytes of (value + 128 ^ count * (byte % 128)) (count + 1) (at + 1) start number below (omega (arith, most, before))) [
          | inl h ↦ inl (more_goes bytes value count byte high h)
          | inr stuck ↦
              inr
              (subst (λ (walk : Walk). IsStuck start (walk_over walk bytes))
              (sym (varint_on of value count byte (walk_at (at + 1) start number (InVarint of value count)) (λ is. absurd (before is)) high))
              stuck)
        ]
  ]
]

-- a varint stands in front
pub record BeginsNumber (bytes : List ℕ) : Type 0 where
  pub front : List ℕ
  pub rest : List ℕ
  pub n : ℕ
  pub cut : bytes ≡ front ++ rest
  pub is : IsVarint front n

number_split : (bytes : List ℕ) (of : VarintOf) (at start number : ℕ)
    → BeginsNumber bytes ⊎ IsStuck start (walk_over (walk_at at start number (InVarint of 0 0)) bytes)
number_split bytes of at start number = elim (varint_split bytes of 0 0 at start number (omega arith) (omega arith)) [
  | inl h ↦
      inl (record {
        front = h.front;
        rest = h.rest;
        n = joined h.front;
        cut = h.cut;
        is = record { whole = h.whole; most = omega (arith, h.most); value = refl; fits = omega (arith, h.fits) };
      })
  | inr stuck ↦ inr stuck
]

-- over what stands in front, and then over the rest
varint_then : (bytes : List ℕ) (h : BeginsNumber bytes) (of : VarintOf) (at start number : ℕ)
    → walk_over (walk_at at start number (InVarint of 0 0)) bytes
    ≡ walk_over (varint_ended of h.n (walk_at (at + length h.front) start number Between)) h.rest
varint_then bytes h of at start number =
    ap (walk_over (walk_at at start number (InVarint of 0 0))) h.cut
    ∙ walked_on (walk_at at start number (InVarint of 0 0)) h.front h.rest
    ∙ ap (λ (walk : Walk). walk_over walk h.rest) (number_walk h.front h.n of at start number Between h.is)

-- ---- contents and values

content_stuck : (bytes : List ℕ) (left at start number : ℕ) → length bytes < left → IsStuck start (walk_over (walk_at at start number (InContent left)) bytes)
content_stuck bytes left at start number less =
    subst (IsStuck start)
    (sym (content_walk bytes left at start number Between (omega (arith, less)) (omega (arith, less))
    ∙ left_some (left - length bytes) (walk_at (at + length bytes) start number Between) (omega (arith, less))))
    (record { start_is = refl; unended = tt })

-- a value of this wire type stands in front
pub record BeginsValue (wire : ℕ) (bytes : List ℕ) : Type 0 where
  pub value : FieldValue
  pub front : List ℕ
  pub rest : List ℕ
  pub wire_is : wire_of value ≡ wire
  pub cut : bytes ≡ front ++ rest
  pub is : IsValue value front

-- a value does, or the walk is stuck
abbrev SplitsValue : ℕ → List ℕ → ℕ → ℕ → ℕ → Type 0
SplitsValue wire bytes at start number =
    BeginsValue wire bytes ⊎ IsStuck start (walk_over (walk_at at start number (value_begun wire)) bytes)

number_value : (bytes : List ℕ) (at start number : ℕ) → SplitsValue 0 bytes at start number
number_value bytes at start number = elim (number_split bytes OfNumber at start number) [
  | inl h ↦ inl (record { value = Number h.n; front = h.front; rest = h.rest; wire_is = refl; cut = h.cut; is = h.is })
  | inr stuck ↦ inr stuck
]

eight_value : (bytes : List ℕ) (at start number : ℕ) → SplitsValue 1 bytes at start number
eight_value bytes at start number = elim (cases_lt (length bytes) 8) [
  | inl less ↦ inr (content_stuck bytes 8 at start number less)
  | inr most ↦
      inl (record {
        value = EightBytes;
        front = take 8 bytes;
        rest = drop 8 bytes;
        wire_is = refl;
        cut = sym (take-append-drop 8 bytes);
        is = length-take-le 8 bytes most;
      })
]

four_value : (bytes : List ℕ) (at start number : ℕ) → SplitsValue 5 bytes at start number
four_value bytes at start number = elim (cases_lt (length bytes) 4) [
  | inl less ↦ inr (content_stuck bytes 4 at start number less)
  | inr most ↦
      inl (record {
        value = FourBytes;
        front = take 4 bytes;
        rest = drop 4 bytes;
        wire_is = refl;
        cut = sym (take-append-drop 4 bytes);
        is = length-take-le 4 bytes most;
      })
]

sized_value : (bytes : List ℕ) (h : BeginsNumber bytes) → h.n ≤ length h.rest → BeginsValue 2 bytes
sized_value bytes h most =
    let long : length (take h.n h.rest) ≡ h.n = length-take-le h.n h.rest most in
    record {
      value = Content (take h.n h.rest);
      front = h.front ++ take h.n h.rest;
      rest = drop h.n h.rest;
      wire_is = refl;
      cut = h.cut ∙ ap (λ (xs : List ℕ). h.front ++ xs) (sym (take-append-drop h.n h.rest)) ∙ sym (append_assoc h.front (take h.n h.rest) (drop h.n h.rest));
      is = (h.front, subst (IsVarint h.front) (sym long) h.is, refl);
    }

sized_value_stuck : (bytes : List ℕ) (h : BeginsNumber bytes) (at start number : ℕ) → length h.rest < h.n
    → IsStuck start (walk_over (walk_at at start number (InVarint OfLength 0 0)) bytes)
sized_value_stuck bytes h at start number less =
    subst (IsStuck start)
    (sym (varint_then bytes h OfLength at start number
    ∙ ap (λ (walk : Walk). walk_over walk h.rest) (left_some h.n (walk_at (at + length h.front) start number Between) (omega (arith, less)))))
    (content_stuck h.rest h.n (at + length h.front) start number less)

content_value : (bytes : List ℕ) (at start number : ℕ) → SplitsValue 2 bytes at start number
content_value bytes at start number = elim (number_split bytes OfLength at start number) [
  | inl h ↦ elim (cases_lt (length h.rest) h.n) [
    | inl less ↦ inr (sized_value_stuck bytes h at start number less)
    | inr most ↦ inl (sized_value bytes h most)
  ]
  | inr stuck ↦ inr stuck
]

no_type : (wire : ℕ) → wire ≢ 0 → wire ≢ 1 → wire ≢ 2 → wire ≢ 5 → value_begun wire ≡ Unfit
no_type wire zero one two five = rw (ne_eqb wire 0 zero, ne_eqb wire 1 one, ne_eqb wire 2 two, ne_eqb wire 5 five) refl

value_split : (wire : ℕ) (bytes : List ℕ) (at start number : ℕ) → SplitsValue wire bytes at start number
value_split wire bytes at start number = elim (cases_eq wire 0) [
  | inl zero ↦ subst (λ (w : ℕ). SplitsValue w bytes at start number) (sym zero) (number_value bytes at start number)
  | inr zero ↦ elim (cases_eq wire 1) [
    | inl one ↦ subst (λ (w : ℕ). SplitsValue w bytes at start number) (sym one) (eight_value bytes at start number)
    | inr one ↦ elim (cases_eq wire 2) [
      | inl two ↦ subst (λ (w : ℕ). SplitsValue w bytes at start number) (sym two) (content_value bytes at start number)
      | inr two ↦ elim (cases_eq wire 5) [
        | inl five ↦ subst (λ (w : ℕ). SplitsValue w bytes at start number) (sym five) (four_value bytes at start number)
        | inr five ↦
            inr
            (subst (λ (part : WalkPart). IsStuck start (walk_over (walk_at at start number part) bytes)) (sym (no_type wire zero one two five))
            (stuck_unfit bytes at start number))
      ]
    ]
  ]
]

-- ---- fields

-- a field stands in front
pub record BeginsField (bytes : List ℕ) : Type 0 where
  pub field : MessageField
  pub front : List ℕ
  pub rest : List ℕ
  pub cut : bytes ≡ front ++ rest
  pub spells : Spells field front

zero_number : (number : ℕ) → number ≤ 0 → is_number number ≡ false
unfolding is_number
zero_number number none = rw (le-ltb 0 number none) refl

large_number : (number : ℕ) → 0 < number → MAX_FIELD < number → is_number number ≡ false
unfolding is_number
large_number number some large = rw (lt-ltb 0 number some, lt-ltb MAX_FIELD number large) refl

number_from : (number : ℕ) → is_number number ≡ true → (1 ≤ number) × (number ≤ MAX_FIELD)
number_from number is = elim (cases_lt 0 number) [
  | inl some ↦ elim (cases_lt MAX_FIELD number) [
    | inl large ↦ absurd (true≢false (sym is ∙ large_number number some large))
    | inr most ↦ (some, most)
  ]
  | inr none ↦ absurd (true≢false (sym is ∙ zero_number number none))
]

joins_field : (bytes : List ℕ) (h : BeginsNumber bytes) → is_number (h.n / 8) ≡ true → BeginsValue (h.n % 8) h.rest → BeginsField bytes
joins_field bytes h is v =
    let range : (1 ≤ h.n / 8) × (h.n / 8 ≤ MAX_FIELD) = number_from (h.n / 8) is in
    let whole : h.n ≡ 8 * (h.n / 8) + wire_of v.value = omega (arith, v.wire_is) in
    record {
      field = record { number = h.n / 8; value = v.value };
      front = h.front ++ v.front;
      rest = v.rest;
      cut = h.cut ∙ ap (λ (xs : List ℕ). h.front ++ xs) v.cut ∙ sym (append_assoc h.front v.front v.rest);
      spells = record {
        numbered = range.0;
        in_range = range.1;
        tag = h.front;
        behind = v.front;
        cut = refl;
        is_tag = subst (IsVarint h.front) whole h.is;
        is_value = v.is;
      };
    }

tag_good : (tag : ℕ) (walk : Walk) → is_number (tag / 8) ≡ true → tag_ended tag walk ≡ record walk { number = tag / 8; part = value_begun (tag % 8) }
tag_good tag walk is = rw is refl

tag_bad : (tag : ℕ) (walk : Walk) → is_number (tag / 8) ≡ false → tag_ended tag walk ≡ record walk { part = Unfit }
tag_bad tag walk is = rw is refl

behind_tag : (bytes : List ℕ) (h : BeginsNumber bytes) (at : ℕ)
    → BeginsField bytes ⊎ IsStuck at (walk_over (walk_at at at 0 (InVarint OfTag 0 0)) bytes)
behind_tag bytes h at = elim (cases_Bool (is_number (h.n / 8))) [
  | inl is ↦ elim (value_split (h.n % 8) h.rest (at + length h.front) at (h.n / 8)) [
    | inl v ↦ inl (joins_field bytes h is v)
    | inr stuck ↦
        inr
        (subst (IsStuck at)
        (sym (varint_then bytes h OfTag at at 0 ∙ ap (λ (walk : Walk). walk_over walk h.rest) (tag_good h.n (walk_at (at + length h.front) at 0 Between) is)))
        stuck)
  ]
  | inr not_one ↦
      inr
      (subst (IsStuck at)
      (sym (varint_then bytes h OfTag at at 0 ∙ ap (λ (walk : Walk). walk_over walk h.rest) (tag_bad h.n (walk_at (at + length h.front) at 0 Between) not_one)))
      (stuck_unfit h.rest (at + length h.front) at 0))
]

tag_split : (bytes : List ℕ) (at : ℕ) → BeginsField bytes ⊎ IsStuck at (walk_over (walk_at at at 0 (InVarint OfTag 0 0)) bytes)
tag_split bytes at = elim (number_split bytes OfTag at at 0) [
  | inl h ↦ behind_tag bytes h at
  | inr stuck ↦ inr stuck
]

pub first_split : (bytes : List ℕ) (at start number : ℕ) → bytes ≢ [] → BeginsField bytes ⊎ IsStuck at (walk_over (walk_at at start number Between) bytes)
first_split [] at start number more = absurd (more refl)
first_split (byte ∷ bytes) at start number more = tag_split (byte ∷ bytes) at
