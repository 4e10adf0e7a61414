-- Records, taken apart.
use Rattle.std.proofs.Common.{◌≡◌, ◌≢◌, ℕ, suc, ◌+◌, ◌-◌, ◌^◌, ◌<◌, ◌≤◌, Bool, true, false, List, [], ◌∷◌, ◌++◌, length, get_or, refl, sym, ap, ◌∙◌, subst, arith, append_assoc, length-append}
use Rattle.std.proofs.lemmas.List.{append_cancel_left, append_cancel_right, append-nil, get_or-append-add}
use Rattle.wire_varint.specs.Reading.{IsWhole}
use Rattle.wire_varint.specs.Varint.{varint}
use Rattle.wire_varint.proofs.Varints.{varint_is_varint}
use Rattle.wire_varint.proofs.Whole.{whole_some}
use Rattle.trace_model.specs.Record.{dropped_mark, mark_where, content_of, record_of}
use Rattle.trace_model.specs.Fields.{Content, MessageField, Spells}
use Rattle.trace_file.specs.Apart.{SaysPacket, SaysOnly, SaysNone}
use Rattle.trace_file.specs.Traces.{record_field}
use Rattle.trace_file.proofs.OnceLemmas.{spells_once}

abbrev pub tail_of : ℕ → Bool → List ℕ
tail_of sequence behind = (0x50 ∷ varint sequence) ++ mark_where behind

abbrev pub head_of : List ℕ → List ℕ
head_of content = 0x0A ∷ varint (length content)

-- a record is its head and its content, which ends with the tail
pub record_cut : (body : List ℕ) (sequence : ℕ) (behind : Bool) → record_of body sequence behind ≡ head_of (body ++ tail_of sequence behind) ++ (body ++ tail_of sequence behind)
unfolding record_of content_of
record_cut body sequence behind =
    ap (λ (content : List ℕ). (0x0A ∷ varint (length content)) ++ content) (append_assoc body (0x50 ∷ varint sequence) (mark_where behind))

-- ---- an end with a mark is none without

second_last : (first : ℕ) (bytes : List ℕ) → 80 ≤ first → IsWhole bytes → 80 ≤ get_or (first ∷ bytes) (length bytes - 1) 0
second_last first [] low whole = absurd whole
second_last first (byte ∷ []) low whole = low
second_last first (byte ∷ next ∷ bytes) low whole =
    let index : length (byte ∷ next ∷ bytes) - 1 ≡ suc (length (next ∷ bytes) - 1) = omega arith in
    subst (λ (n : ℕ). 80 ≤ get_or (first ∷ byte ∷ next ∷ bytes) n 0) (sym index) (second_last byte (next ∷ bytes) (omega (arith, whole.0)) whole.1)

ends_apart : (x y v : List ℕ) → IsWhole v → x ++ (0x50 ∷ v) ≡ y ++ ((0x50 ∷ v) ++ dropped_mark) → ⊥
ends_apart x y v whole e =
    let some : 0 < length v = whole_some v whole in
    let other : y ++ ((0x50 ∷ v) ++ dropped_mark) ≡ (y ++ (0x50 ∷ v)) ++ dropped_mark = sym (append_assoc y (0x50 ∷ v) dropped_mark) in
    let one : get_or (x ++ (0x50 ∷ v)) (length x + (length v - 1)) 0 ≡ get_or (0x50 ∷ v) (length v - 1) 0 = get_or-append-add x (0x50 ∷ v) (length v - 1) 0 in
    let two : get_or ((y ++ (0x50 ∷ v)) ++ dropped_mark) (length (y ++ (0x50 ∷ v)) + 1) 0 ≡ 2 = get_or-append-add (y ++ (0x50 ∷ v)) dropped_mark 1 0 in
    let long : length x + (length v - 1) ≡ length (y ++ (0x50 ∷ v)) + 1 =
    omega (arith, some, ap length (e ∙ other), length-append x (0x50 ∷ v), length-append (y ++ (0x50 ∷ v)) dropped_mark) in
    let both : get_or (0x50 ∷ v) (length v - 1) 0 ≡ 2 =
    sym one ∙ ap (λ (xs : List ℕ). get_or xs (length x + (length v - 1)) 0) (e ∙ other) ∙ ap (λ (n : ℕ). get_or ((y ++ (0x50 ∷ v)) ++ dropped_mark) n 0) long ∙ two in
    omega (arith, both, second_last 0x50 v (omega arith) whole)

tail_plain : (sequence : ℕ) → tail_of sequence false ≡ 0x50 ∷ varint sequence
tail_plain sequence = append-nil (0x50 ∷ varint sequence)

-- one content ends with one tail
tail_once : (sequence : ℕ) → sequence < 2 ^ 64 → (x y : List ℕ) (behind other : Bool) → x ++ tail_of sequence behind ≡ y ++ tail_of sequence other → (x ≡ y) × (behind ≡ other)
tail_once sequence small x y true true e = (append_cancel_right x y (tail_of sequence true) e, refl)
tail_once sequence small x y false false e = (append_cancel_right x y (tail_of sequence false) e, refl)
tail_once sequence small x y false true e =
    absurd (ends_apart x y (varint sequence) (varint_is_varint sequence small).whole (ap (λ (xs : List ℕ). x ++ xs) (sym (tail_plain sequence)) ∙ e))
tail_once sequence small x y true false e =
    absurd (ends_apart y x (varint sequence) (varint_is_varint sequence small).whole (ap (λ (xs : List ℕ). y ++ xs) (sym (tail_plain sequence)) ∙ sym e))

-- ---- one record has one packet

-- the shortest head and a content are a field of a trace
spells_head : (content : List ℕ) → length content < 2 ^ 64 → Spells (record_field content) (head_of content ++ content)
spells_head content small = record {
  numbered = omega arith;
  in_range = omega arith;
  tag = 0x0A ∷ [];
  behind = varint (length content) ++ content;
  cut = refl;
  is_tag = record { whole = omega arith; most = omega arith; value = refl; fits = omega arith };
  is_value = (varint (length content), varint_is_varint (length content) small, refl);
}

-- where the bytes are a record of some packet, their content is the packet and a tail
content_is : (bytes content body : List ℕ) (sequence : ℕ) (behind : Bool) → Spells (record_field content) bytes → length bytes < 2 ^ 64
    → bytes ≡ record_of body sequence behind → (content ≡ body ++ tail_of sequence behind) × (bytes ≡ head_of content ++ content)
content_is bytes content body sequence behind h small is =
    let other : List ℕ = body ++ tail_of sequence behind in
    let cut : bytes ≡ head_of other ++ other = is ∙ record_cut body sequence behind in
    let short : length other < 2 ^ 64 = omega (arith, small, ap length cut, length-append (head_of other) other) in
    let same = spells_once (record_field content) (record_field other) bytes (head_of other ++ other) [] [] h (spells_head other short) (ap (λ (xs : List ℕ). xs ++ []) cut) in
    let contents : content ≡ other = content_same content other (ap (λ (field : MessageField). field.value) same.0) in
    (contents, cut ∙ ap (λ (xs : List ℕ). head_of xs ++ xs) (sym contents))
  where
    content_same : (s t : List ℕ) → Content s ≡ Content t → s ≡ t
    content_same s t e = cc

record_from : (bytes content body : List ℕ) (sequence : ℕ) (behind : Bool) → bytes ≡ head_of content ++ content → content ≡ body ++ tail_of sequence behind
    → bytes ≡ record_of body sequence behind
record_from bytes content body sequence behind cut is =
    cut ∙ ap (λ (xs : List ℕ). head_of xs ++ xs) is ∙ sym (record_cut body sequence behind)

pub says_plain : (bytes content body : List ℕ) (sequence : ℕ) (behind : Bool) → bytes ≡ head_of content ++ content → content ≡ body ++ tail_of sequence behind
    → SaysPacket bytes sequence body behind
says_plain bytes content body sequence behind cut is =
    record { front = false; behind = behind; exact = record_from bytes content body sequence behind cut is; marked_is = refl }

pub says_marked : (bytes content body packet : List ℕ) (sequence : ℕ) (behind : Bool) → bytes ≡ head_of content ++ content → content ≡ body ++ tail_of sequence behind
    → body ≡ dropped_mark ++ packet → SaysPacket bytes sequence packet true
says_marked bytes content body packet sequence behind cut is marked = record {
  front = true;
  behind = behind;
  exact = record_from bytes content body sequence behind cut is ∙ ap (λ (xs : List ℕ). record_of xs sequence behind) marked;
  marked_is = refl;
}

-- any record of these bytes has this body and this end
body_once : (bytes content body other : List ℕ) (sequence : ℕ) (behind end : Bool) → Spells (record_field content) bytes → length bytes < 2 ^ 64 → sequence < 2 ^ 64
    → content ≡ body ++ tail_of sequence behind → bytes ≡ record_of other sequence end → (other ≡ body) × (end ≡ behind)
body_once bytes content body other sequence behind end h small few is record_is =
    tail_once sequence few other body end behind (sym (content_is bytes content other sequence end h small record_is).0 ∙ is)

pub only_plain : (bytes content body : List ℕ) (sequence : ℕ) (behind : Bool) → Spells (record_field content) bytes → length bytes < 2 ^ 64 → sequence < 2 ^ 64
    → content ≡ body ++ tail_of sequence behind → ((rest : List ℕ) → body ≢ dropped_mark ++ rest) → SaysOnly bytes sequence body behind
only_plain bytes content body sequence behind h small few is plain other true end clean record_is =
    absurd (plain other (sym (body_once bytes content body (dropped_mark ++ other) sequence behind end h small few is record_is).0))
only_plain bytes content body sequence behind h small few is plain other false end clean record_is =
    body_once bytes content body other sequence behind end h small few is record_is

pub only_marked : (bytes content body packet : List ℕ) (sequence : ℕ) (behind : Bool) → Spells (record_field content) bytes → length bytes < 2 ^ 64 → sequence < 2 ^ 64
    → content ≡ body ++ tail_of sequence behind → body ≡ dropped_mark ++ packet → SaysOnly bytes sequence packet true
only_marked bytes content body packet sequence behind h small few is marked other true end clean record_is =
    (append_cancel_left dropped_mark other packet ((body_once bytes content body (dropped_mark ++ other) sequence behind end h small few is record_is).0 ∙ marked), refl)
only_marked bytes content body packet sequence behind h small few is marked other false end clean record_is =
    absurd (clean (packet, (body_once bytes content body other sequence behind end h small few is record_is).0 ∙ marked))

pub none_long : (bytes content : List ℕ) (sequence : ℕ) → Spells (record_field content) bytes → length bytes < 2 ^ 64 → bytes ≢ head_of content ++ content → SaysNone bytes sequence
none_long bytes content sequence h small long other front end record_is =
    long (content_is bytes content (mark_where front ++ other) sequence end h small record_is).1

pub none_tail : (bytes content : List ℕ) (sequence : ℕ) → Spells (record_field content) bytes → length bytes < 2 ^ 64
    → ((body : List ℕ) (behind : Bool) → content ≢ body ++ tail_of sequence behind) → SaysNone bytes sequence
none_tail bytes content sequence h small none other front end record_is =
    none (mark_where front ++ other) end (content_is bytes content (mark_where front ++ other) sequence end h small record_is).0
