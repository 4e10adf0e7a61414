-- Where the walk comes to over the bytes of a varint, a content, a value and a field.
use Rattle.std.proofs.Common.{◌≡◌, ℕ, ◌+◌, ◌-◌, ◌*◌, ◌/◌, ◌%◌, ◌^◌, ◌<◌, ◌≤◌, ◌==◌, Bool, true, false, List, [], ◌∷◌, ◌++◌, length, refl, sym, ap, ◌∙◌, subst, arith, inl, inr, length-append, add-one}
use Rattle.std.specs.Prelude.{nat_lt, ◌&&◌, if◌then◌else◌}
use Rattle.std.proofs.lemmas.Bool.{cases_eq, lt-ltb, le-ltb, eq-eqb, ne_eqb, and_left, and_right}
use Rattle.std.proofs.Math.Nat.{pow-suc}
use Rattle.trace_base.specs.declared.limits.TheConstants.{MAX_FIELD}
use Rattle.wire_varint.specs.Reading.{joined, IsWhole, IsVarint}
use Rattle.trace_model.specs.Fields.{FieldValue, Number, EightBytes, Content, FourBytes, MessageField, wire_of, IsValue, Spells}
use Rattle.trace_model.specs.Walks.{VarintOf, OfTag, OfNumber, OfLength, WalkPart, Between, InVarint, InContent, Unfit, Refused, Walk, is_refused, is_number, field_ended, content_left, value_begun, tag_ended, varint_ended, varint_more, step, walk_over}

abbrev pub walk_at : ℕ → ℕ → ℕ → WalkPart → Walk
walk_at at start number part = record { at = at; start = start; number = number; part = part }

-- over bytes that come in two pieces
pub walked_on : (walk : Walk) (a b : List ℕ) → walk_over walk (a ++ b) ≡ walk_over (walk_over walk a) b
walked_on walk [] b = refl
walked_on walk (byte ∷ a) b = walked_on (step walk byte) a b

-- ---- a varint

-- but for a tenth byte above 1
few : (count byte : ℕ) → (count ≡ 9 → byte ≤ 1) → ((count == 9) && nat_lt 1 byte) ≡ false
few count byte tenth = elim (cases_eq count 9) [
  | inl nine ↦ and_right (count == 9) (nat_lt 1 byte) (le-ltb 1 byte (tenth nine))
  | inr other ↦ and_left (count == 9) (nat_lt 1 byte) (ne_eqb count 9 other)
]

many : (count byte : ℕ) → count ≡ 9 → 1 < byte → ((count == 9) && nat_lt 1 byte) ≡ true
many count byte nine large = rw (eq-eqb count 9 nine, lt-ltb 1 byte large) refl

pub varint_last : (of : VarintOf) (value count byte : ℕ) (walk : Walk) → (count ≡ 9 → byte ≤ 1) → byte < 128
    → varint_more of value count byte walk ≡ varint_ended of (value + 128 ^ count * (byte % 128)) walk
varint_last of value count byte walk tenth low = rw (few count byte tenth, lt-ltb byte 128 low) refl

pub varint_on : (of : VarintOf) (value count byte : ℕ) (walk : Walk) → (count ≡ 9 → byte ≤ 1) → 128 ≤ byte
    → varint_more of value count byte walk ≡ record walk { part = InVarint of (value + 128 ^ count * (byte % 128)) (count + 1) }
varint_on of value count byte walk tenth high = rw (few count byte tenth, le-ltb byte 128 high) refl

pub varint_over : (of : VarintOf) (value count byte : ℕ) (walk : Walk) → count ≡ 9 → 1 < byte
    → varint_more of value count byte walk ≡ record walk { part = Unfit }
varint_over of value count byte walk nine large = rw (many count byte nine large) refl

tenth_small : (value count byte : ℕ) → value + 128 ^ count * (byte % 128 + 128 * 0) < 2 ^ 64 → byte < 128 → count ≡ 9 → byte ≤ 1
tenth_small value count byte fits low nine =
    let big : value + 128 ^ 9 * (byte % 128 + 128 * 0) < 2 ^ 64 = rw nine at fits in omega (arith, big, low)

-- what a walk's part was when its varint ended says nothing of where it comes to
ended_any : (of : VarintOf) (value at start number : ℕ) (p q : WalkPart) → varint_ended of value (walk_at at start number p) ≡ varint_ended of value (walk_at at start number q)
ended_any OfTag value at start number p q = refl
ended_any OfNumber value at start number p q = refl
ended_any OfLength value at start number p q = refl

pub more_value : (value count byte rest : ℕ) → value + 128 ^ count * (byte % 128) + 128 ^ (count + 1) * rest ≡ value + 128 ^ count * (byte % 128 + 128 * rest)
more_value value count byte rest = rw (add-one, pow-suc 128 count) (omega arith)

pub varint_walk : (bytes : List ℕ) (of : VarintOf) (value count at start number : ℕ) (p : WalkPart) → IsWhole bytes → count + length bytes ≤ 10
    → value + 128 ^ count * joined bytes < 2 ^ 64
    → walk_over (walk_at at start number (InVarint of value count)) bytes
    ≡ varint_ended of (value + 128 ^ count * joined bytes) (walk_at (at + length bytes) start number p)
varint_walk [] of value count at start number p whole most fits = absurd whole
varint_walk (byte ∷ []) of value count at start number p low most fits =
    varint_last of value count byte (walk_at (at + 1) start number (InVarint of value count)) (tenth_small value count byte fits low) low
    ∙ ended_any of (value + 128 ^ count * (byte % 128)) (at + 1) start number (InVarint of value count) p
    ∙ ap (λ (n : ℕ). varint_ended of n (walk_at (at + 1) start number p)) (omega arith)
varint_walk (byte ∷ next ∷ bytes) of value count at start number p whole most fits =
    let now : ℕ = value + 128 ^ count * (byte % 128) in
    let same : value + 128 ^ count * (byte % 128) + 128 ^ (count + 1) * joined (next ∷ bytes) ≡ value + 128 ^ count * (byte % 128 + 128 * joined (next ∷ bytes)) =
    more_value value count byte (joined (next ∷ bytes)) in
    ap (λ (walk : Walk). walk_over walk (next ∷ bytes))
    (varint_on of value count byte (walk_at (at + 1) start number (InVarint of value count)) (λ nine. omega (arith, nine, most)) whole.0)
    ∙ varint_walk (next ∷ bytes) of (value + 128 ^ count * (byte % 128)) (count + 1) (at + 1) start number p whole.1 (omega (arith, most))
    (subst (λ (n : ℕ). n < 2 ^ 64) (sym same) fits)
    ∙ ap (λ (n : ℕ). varint_ended of n (walk_at (at + 1 + length (next ∷ bytes)) start number p)) same
    ∙ ap (λ (n : ℕ). varint_ended of (value + 128 ^ count * joined (byte ∷ next ∷ bytes)) (walk_at n start number p)) (omega arith)

-- a whole varint
pub number_walk : (bytes : List ℕ) (n : ℕ) (of : VarintOf) (at start number : ℕ) (p : WalkPart) → IsVarint bytes n
    → walk_over (walk_at at start number (InVarint of 0 0)) bytes ≡ varint_ended of n (walk_at (at + length bytes) start number p)
number_walk bytes n of at start number p is =
    let value : 0 + 128 ^ 0 * joined bytes ≡ n = omega (arith, is.value) in
    varint_walk bytes of 0 0 at start number p is.whole (omega (arith, is.most)) (subst (λ (m : ℕ). m < 2 ^ 64) (sym value) is.fits)
    ∙ ap (λ (m : ℕ). varint_ended of m (walk_at (at + length bytes) start number p)) value

-- ---- a content

left_none : (left : ℕ) (walk : Walk) → left ≡ 0 → content_left left walk ≡ field_ended walk
left_none left walk none = rw (eq-eqb left 0 none) refl

pub left_some : (left : ℕ) (walk : Walk) → 1 ≤ left → content_left left walk ≡ record walk { part = InContent left }
left_some left walk some = rw (ne_eqb left 0 (λ none. omega (arith, some, none))) refl

-- over as much of a content as comes
pub content_walk : (bytes : List ℕ) (left at start number : ℕ) (p : WalkPart) → 1 ≤ left → length bytes ≤ left
    → walk_over (walk_at at start number (InContent left)) bytes ≡ content_left (left - length bytes) (walk_at (at + length bytes) start number p)
content_walk [] left at start number p some most =
    let here : at ≡ at + 0 = omega arith in
    let whole : left ≡ left - 0 = omega arith in
    sym (left_some left (walk_at at start number p) some)
    ∙ ap (λ (n : ℕ). content_left left (walk_at n start number p)) here
    ∙ ap (λ (n : ℕ). content_left n (walk_at (at + 0) start number p)) whole
content_walk (byte ∷ bytes) left at start number p some most = elim (cases_eq left 1) [
  | inl one ↦ last bytes most one
  | inr more ↦
      ap (λ (walk : Walk). walk_over walk bytes) (left_some (left - 1) (walk_at (at + 1) start number (InContent left)) (omega (arith, some, more)))
      ∙ content_walk bytes (left - 1) (at + 1) start number p (omega (arith, some, more)) (omega (arith, most))
      ∙ ap (λ (n : ℕ). content_left n (walk_at (at + 1 + length bytes) start number p)) (omega arith)
      ∙ ap (λ (n : ℕ). content_left (left - length (byte ∷ bytes)) (walk_at n start number p)) (omega arith)
]
  where
    last : (rest : List ℕ) → length (byte ∷ rest) ≤ left → left ≡ 1
        → walk_over (walk_at at start number (InContent left)) (byte ∷ rest) ≡ content_left (left - length (byte ∷ rest)) (walk_at (at + length (byte ∷ rest)) start number p)
    last [] within one = refl
    last (next ∷ rest) within one = absurd (omega (arith, within, one))

-- over the whole of it
pub whole_content : (bytes : List ℕ) (left at start number : ℕ) (p : WalkPart) → 1 ≤ left → length bytes ≡ left
    → walk_over (walk_at at start number (InContent left)) bytes ≡ field_ended (walk_at (at + length bytes) start number p)
whole_content bytes left at start number p some long =
    content_walk bytes left at start number p some (omega (arith, long))
    ∙ left_none (left - length bytes) (walk_at (at + length bytes) start number p) (omega (arith, long))

-- over a content of a length that was read
sized_content : (bytes : List ℕ) (left at start number : ℕ) (p : WalkPart) → length bytes ≡ left
    → walk_over (content_left left (walk_at at start number p)) bytes ≡ field_ended (walk_at (at + length bytes) start number p)
sized_content [] left at start number p long =
    left_none left (walk_at at start number p) (sym long) ∙ ap (λ (n : ℕ). field_ended (walk_at n start number p)) (omega arith)
sized_content (byte ∷ bytes) left at start number p long =
    ap (λ (walk : Walk). walk_over walk (byte ∷ bytes)) (left_some left (walk_at at start number p) (omega (arith, long)))
    ∙ whole_content (byte ∷ bytes) left at start number p (omega (arith, long)) long

-- ---- a value and a field

pub value_walk : (value : FieldValue) (bytes : List ℕ) (at start number : ℕ) (p : WalkPart) → IsValue value bytes
    → walk_over (walk_at at start number (value_begun (wire_of value))) bytes ≡ field_ended (walk_at (at + length bytes) start number p)
value_walk (Number n) bytes at start number p is = number_walk bytes n OfNumber at start number p is
value_walk EightBytes bytes at start number p is = whole_content bytes 8 at start number p (omega arith) is
value_walk (Content content) bytes at start number p is =
    ap (walk_over (walk_at at start number (InVarint OfLength 0 0))) is.2
    ∙ walked_on (walk_at at start number (InVarint OfLength 0 0)) is.0 content
    ∙ ap (λ (walk : Walk). walk_over walk content) (number_walk is.0 (length content) OfLength at start number p is.1)
    ∙ sized_content content (length content) (at + length is.0) start number p refl
    ∙ ap (λ (n : ℕ). field_ended (walk_at n start number p)) (omega (arith, length-append is.0 content, ap length is.2))
value_walk FourBytes bytes at start number p is = whole_content bytes 4 at start number p (omega arith) is

-- there is such a number
number_is : (number : ℕ) → 1 ≤ number → number ≤ MAX_FIELD → is_number number ≡ true
unfolding is_number
number_is number some most = rw (lt-ltb 0 number some, le-ltb MAX_FIELD number most) refl

wire_small : (value : FieldValue) → wire_of value ≤ 5
wire_small (Number n) = omega arith
wire_small EightBytes = omega arith
wire_small (Content bytes) = omega arith
wire_small FourBytes = omega arith

pub tag_fit : (tag number wire : ℕ) (walk : Walk) → 1 ≤ number → number ≤ MAX_FIELD → wire < 8 → tag ≡ 8 * number + wire
    → tag_ended tag walk ≡ record walk { number = number; part = value_begun wire }
tag_fit tag number wire walk some most small is =
    let high : tag / 8 ≡ number = omega (arith, is, small) in
    let low : tag % 8 ≡ wire = omega (arith, is, small) in
    ap (λ (n : ℕ). if is_number n then record walk { number = n; part = value_begun (tag % 8) } else record walk { part = Unfit }) high
    ∙ ap (λ (n : ℕ). if is_number number then record walk { number = number; part = value_begun n } else record walk { part = Unfit }) low
    ∙ ap (λ (b : Bool). if b then record walk { number = number; part = value_begun wire } else record walk { part = Unfit }) (number_is number some most)

-- a field begins with its tag
pub begun : (bytes rest : List ℕ) (at start number : ℕ) → IsWhole bytes
    → walk_over (walk_at at start number Between) (bytes ++ rest) ≡ walk_over (walk_at at at 0 (InVarint OfTag 0 0)) (bytes ++ rest)
begun [] rest at start number whole = absurd whole
begun (byte ∷ bytes) rest at start number whole = refl

pub field_walk : (field : MessageField) (bytes : List ℕ) (at start number : ℕ) (p : WalkPart) → Spells field bytes
    → walk_over (walk_at at start number Between) bytes ≡ field_ended (walk_at (at + length bytes) at field.number p)
field_walk field bytes at start number p h =
    ap (walk_over (walk_at at start number Between)) h.cut
    ∙ begun h.tag h.behind at start number h.is_tag.whole
    ∙ walked_on (walk_at at at 0 (InVarint OfTag 0 0)) h.tag h.behind
    ∙ ap (λ (walk : Walk). walk_over walk h.behind) (number_walk h.tag (8 * field.number + wire_of field.value) OfTag at at 0 p h.is_tag)
    ∙ ap (λ (walk : Walk). walk_over walk h.behind)
    (tag_fit (8 * field.number + wire_of field.value) field.number (wire_of field.value) (walk_at (at + length h.tag) at 0 p) h.numbered h.in_range (omega (arith, wire_small field.value)) refl)
    ∙ value_walk field.value h.behind (at + length h.tag) at field.number p h.is_value
    ∙ ap (λ (n : ℕ). field_ended (walk_at n at field.number p)) (omega (arith, length-append h.tag h.behind, ap length h.cut))

-- what a content begins with
pub head_walk : (tag low : List ℕ) (size at start before number : ℕ) (p : WalkPart) → IsVarint tag (8 * number + 2) → 1 ≤ number → number ≤ MAX_FIELD → IsVarint low size
    → walk_over (walk_at at start before Between) (tag ++ low) ≡ content_left size (walk_at (at + length (tag ++ low)) at number p)
head_walk tag low size at start before number p is_tag some most is_size =
    begun tag low at start before is_tag.whole
    ∙ walked_on (walk_at at at 0 (InVarint OfTag 0 0)) tag low
    ∙ ap (λ (walk : Walk). walk_over walk low) (number_walk tag (8 * number + 2) OfTag at at 0 p is_tag)
    ∙ ap (λ (walk : Walk). walk_over walk low) (tag_fit (8 * number + 2) number 2 (walk_at (at + length tag) at 0 p) some most (omega arith) refl)
    ∙ number_walk low size OfLength (at + length tag) at number p is_size
    ∙ ap (λ (n : ℕ). content_left size (walk_at n at number p)) (omega (arith, length-append tag low))

-- ---- where no byte leads on

pub unfit_walk : (bytes : List ℕ) (at start number : ℕ) → walk_over (walk_at at start number Unfit) bytes ≡ walk_at (at + length bytes) start number Unfit
unfit_walk [] at start number = ap (λ (n : ℕ). walk_at n start number Unfit) (omega arith)
unfit_walk (byte ∷ bytes) at start number =
    unfit_walk bytes (at + 1) start number ∙ ap (λ (n : ℕ). walk_at n start number Unfit) (omega arith)

pub refused_walk : (bytes : List ℕ) (at start number : ℕ) → walk_over (walk_at at start number Refused) bytes ≡ walk_at (at + length bytes) start number Refused
refused_walk [] at start number = ap (λ (n : ℕ). walk_at n start number Refused) (omega arith)
refused_walk (byte ∷ bytes) at start number =
    refused_walk bytes (at + 1) start number ∙ ap (λ (n : ℕ). walk_at n start number Refused) (omega arith)

pub ended_passed : (at start number : ℕ) (p : WalkPart) → is_refused number ≡ false → field_ended (walk_at at start number p) ≡ walk_at at start number Between
ended_passed at start number p free = rw free refl

pub ended_refused : (at start number : ℕ) (p : WalkPart) → is_refused number ≡ true → field_ended (walk_at at start number p) ≡ walk_at at start number Refused
ended_refused at start number p refused = rw refused refl
