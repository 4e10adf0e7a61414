-- A trace reads in one way: no two fields stand in front of the same bytes, none stands where a fault is, and no two faults are at one field.
use Rattle.std.proofs.Common.{◌≡◌, ℕ, ◌+◌, ◌*◌, ◌%◌, ◌^◌, ◌<◌, ◌≤◌, ◌⊎◌, List, ◌++◌, length, take, drop, refl, sym, ap, ◌∙◌, subst, arith, append_assoc, inl, inr, length-append}
use Rattle.std.proofs.lemmas.List.{take_at, drop_at, length-take-le}
use Rattle.wire_varint.specs.Reading.{IsVarint, IsShort, IsOver64, NoVarintInFront, joined}
use Rattle.wire_varint.proofs.Varints.{one_varint}
use Rattle.wire_varint.proofs.Joined.{joined-lt}
use Rattle.wire_varint.proofs.Scanning.{none_short, none_over}
use Rattle.wire_varint.proofs.Whole.{whole_some}
use Rattle.trace_file.specs.declared.field.FieldFault.{FieldFault}
use Rattle.trace_file.specs.declared.field.FieldFault.TheVariants.{Group, Malformed, CutShort}
use Rattle.trace_base.specs.declared.limits.TheConstants.{MAX_FIELD}
use Rattle.trace_model.specs.Fields.{FieldValue, Number, EightBytes, Content, FourBytes, MessageField, wire_of, IsValue, Spells}
use Rattle.trace_file.specs.Faults.{HasTooLittle, IsBadTag, IsMalformedValue, IsCutValue, Lacks, LacksTag, LacksBehind}

-- ---- varints

no_varint : (bytes front rest : List ℕ) (n : ℕ) → NoVarintInFront bytes → IsVarint front n → bytes ≡ front ++ rest → ⊥
no_varint bytes front rest n none p e =
    none n (length front) (subst (λ (xs : List ℕ). IsVarint xs n) (sym (ap (take (length front)) e ∙ take_at front rest (length front) refl)) p)

over_none : (bytes : List ℕ) → IsOver64 bytes → NoVarintInFront bytes
over_none bytes over =
    none_over bytes 9 (joined (take 9 bytes)) (128 ^ 9)
    (record { place = omega arith; high = over.1; so_far = refl; scale_is = refl; small = nine })
    (omega (arith, over.0)) over.2 refl
  where
    nine : joined (take 9 bytes) < 128 ^ 9
    nine = subst (λ (n : ℕ). joined (take 9 bytes) < 128 ^ n) (length-take-le 9 bytes (omega (arith, over.0))) (joined-lt (take 9 bytes))

short_none : (bytes : List ℕ) → IsShort bytes → NoVarintInFront bytes
short_none bytes short = none_short bytes short.1

lacks_tag_none : (fault : FieldFault) (bytes : List ℕ) → LacksTag fault bytes → NoVarintInFront bytes
lacks_tag_none Group bytes lacks = absurd lacks
lacks_tag_none Malformed bytes lacks = over_none bytes lacks
lacks_tag_none CutShort bytes lacks = short_none bytes lacks

over_not_short : (bytes : List ℕ) → IsOver64 bytes → IsShort bytes → ⊥
over_not_short bytes over short = omega (arith, over.0, short.0)

-- ---- fields

pub same_length : (a b x y : List ℕ) → length a ≡ length b → a ++ x ≡ b ++ y → (a ≡ b) × (x ≡ y)
same_length a b x y long e =
    let fronts : a ≡ b = sym (take_at a x (length a) refl) ∙ ap (take (length a)) e ∙ take_at b y (length a) (sym long) in
    let rests : x ≡ y = sym (drop_at a x (length a) refl) ∙ ap (drop (length a)) e ∙ drop_at b y (length a) (sym long) in
    (fronts, rests)

value_once : (v w : FieldValue) (a b x y : List ℕ) → wire_of v ≡ wire_of w → IsValue v a → IsValue w b → a ++ x ≡ b ++ y
    → (v ≡ w) × (a ≡ b) × (x ≡ y)
value_once (Number m) (Number n) a b x y wire p q e = let one = one_varint a b x y m n p q e in (ap Number one.1, one.0, one.2)
value_once (Number m) EightBytes a b x y wire p q e = absurd (omega (arith, wire))
value_once (Number m) (Content t) a b x y wire p q e = absurd (omega (arith, wire))
value_once (Number m) FourBytes a b x y wire p q e = absurd (omega (arith, wire))
value_once EightBytes (Number n) a b x y wire p q e = absurd (omega (arith, wire))
value_once EightBytes EightBytes a b x y wire p q e = let same = same_length a b x y (p ∙ sym q) e in (refl, same.0, same.1)
value_once EightBytes (Content t) a b x y wire p q e = absurd (omega (arith, wire))
value_once EightBytes FourBytes a b x y wire p q e = absurd (omega (arith, wire))
value_once (Content s) (Number n) a b x y wire p q e = absurd (omega (arith, wire))
value_once (Content s) EightBytes a b x y wire p q e = absurd (omega (arith, wire))
value_once (Content s) (Content t) a b x y wire p q e =
    let joined_is : p.0 ++ (s ++ x) ≡ q.0 ++ (t ++ y) =
    sym (append_assoc p.0 s x) ∙ ap (λ (xs : List ℕ). xs ++ x) (sym p.2) ∙ e ∙ ap (λ (xs : List ℕ). xs ++ y) q.2 ∙ append_assoc q.0 t y in
    let size : (p.0 ≡ q.0) × (length s ≡ length t) × (s ++ x ≡ t ++ y) = one_varint p.0 q.0 (s ++ x) (t ++ y) (length s) (length t) p.1 q.1 joined_is in
    let content : (s ≡ t) × (x ≡ y) = same_length s t x y size.1 size.2 in
    (ap Content content.0, p.2 ∙ ap (λ (xs : List ℕ). xs ++ s) size.0 ∙ ap (λ (xs : List ℕ). q.0 ++ xs) content.0 ∙ sym q.2, content.1)
value_once (Content s) FourBytes a b x y wire p q e = absurd (omega (arith, wire))
value_once FourBytes (Number n) a b x y wire p q e = absurd (omega (arith, wire))
value_once FourBytes EightBytes a b x y wire p q e = absurd (omega (arith, wire))
value_once FourBytes (Content t) a b x y wire p q e = absurd (omega (arith, wire))
value_once FourBytes FourBytes a b x y wire p q e = let same = same_length a b x y (p ∙ sym q) e in (refl, same.0, same.1)

wire_most : (v : FieldValue) → wire_of v ≤ 5
wire_most (Number n) = omega arith
wire_most EightBytes = omega arith
wire_most (Content bytes) = omega arith
wire_most FourBytes = omega arith

wire_no_group : (v : FieldValue) → (wire_of v ≡ 3 → ⊥) × (wire_of v ≡ 4 → ⊥)
wire_no_group (Number n) = (λ e. omega (arith, e), λ e. omega (arith, e))
wire_no_group EightBytes = (λ e. omega (arith, e), λ e. omega (arith, e))
wire_no_group (Content bytes) = (λ e. omega (arith, e), λ e. omega (arith, e))
wire_no_group FourBytes = (λ e. omega (arith, e), λ e. omega (arith, e))

-- the tag's front, and then what stands behind it
tag_cut : (field : MessageField) (a x : List ℕ) (h : Spells field a) → a ++ x ≡ h.tag ++ (h.behind ++ x)
tag_cut field a x h = ap (λ (xs : List ℕ). xs ++ x) h.cut ∙ append_assoc h.tag h.behind x

same_field : (f g : MessageField) → f.number ≡ g.number → f.value ≡ g.value → f ≡ g
same_field f g numbers values =
    let by_number : f ≡ record { number = g.number; value = f.value } = ap (λ (n : ℕ). record { number = n; value = f.value }) numbers in
    let by_value : record { number = g.number; value = f.value } ≡ g = ap (λ (v : FieldValue). record { number = g.number; value = v }) values in
    by_number ∙ by_value

pub spells_once : (f g : MessageField) (a b x y : List ℕ) → Spells f a → Spells g b → a ++ x ≡ b ++ y → (f ≡ g) × (a ≡ b) × (x ≡ y)
spells_once f g a b x y p q e =
    let tags = one_varint p.tag q.tag (p.behind ++ x) (q.behind ++ y) _ _ p.is_tag q.is_tag (sym (tag_cut f a x p) ∙ e ∙ tag_cut g b y q) in
    let wires : wire_of f.value ≡ wire_of g.value = omega (arith, tags.1, wire_most f.value, wire_most g.value) in
    let numbers : f.number ≡ g.number = omega (arith, tags.1, wires) in
    let values : (f.value ≡ g.value) × (p.behind ≡ q.behind) × (x ≡ y) = value_once f.value g.value p.behind q.behind x y wires p.is_value q.is_value tags.2 in
    (same_field f g numbers values.0, p.cut ∙ ap (λ (xs : List ℕ). xs ++ p.behind) tags.0 ∙ ap (λ (xs : List ℕ). q.tag ++ xs) values.1 ∙ sym q.cut, values.2)

-- ---- where a fault is no field stands

cut_value : (v : FieldValue) (b x : List ℕ) → IsValue v b → IsCutValue (wire_of v) (b ++ x) → ⊥
cut_value (Number n) b x p (inl h) = no_varint (b ++ x) b x n (short_none (b ++ x) h.1) p refl
cut_value (Number n) b x p (inr (inl h)) = omega (arith, h.0)
cut_value (Number n) b x p (inr (inr (inl h))) = omega (arith, h.0)
cut_value (Number n) b x p (inr (inr (inr h))) = omega (arith, h.0)
cut_value EightBytes b x p (inl h) = omega (arith, h.0)
cut_value EightBytes b x p (inr (inl h)) = omega (arith, h.1, p, length-append b x)
cut_value EightBytes b x p (inr (inr (inl h))) = omega (arith, h.0)
cut_value EightBytes b x p (inr (inr (inr h))) = omega (arith, h.0)
cut_value (Content t) b x p (inl h) = omega (arith, h.0)
cut_value (Content t) b x p (inr (inl h)) = omega (arith, h.0)
cut_value (Content t) b x p (inr (inr (inl h))) = by_cut h.1
  where
    cut_is : b ++ x ≡ p.0 ++ (t ++ x)
    cut_is = ap (λ (xs : List ℕ). xs ++ x) p.2 ∙ append_assoc p.0 t x

    by_cut : (IsShort (b ++ x) ⊎ HasTooLittle (b ++ x)) → ⊥
    by_cut (inl short) = no_varint (b ++ x) p.0 (t ++ x) (length t) (short_none (b ++ x) short) p.1 cut_is
    by_cut (inr less) =
        let one = one_varint p.0 less.size (t ++ x) less.content (length t) less.length_of p.1 less.is_size (sym cut_is ∙ less.cut) in
        omega (arith, less.little, one.1, ap length one.2, length-append t x)
cut_value (Content t) b x p (inr (inr (inr h))) = omega (arith, h.0)
cut_value FourBytes b x p (inl h) = omega (arith, h.0)
cut_value FourBytes b x p (inr (inl h)) = omega (arith, h.0)
cut_value FourBytes b x p (inr (inr (inl h))) = omega (arith, h.0)
cut_value FourBytes b x p (inr (inr (inr h))) = omega (arith, h.1, p, length-append b x)

malformed_value : (v : FieldValue) (b x : List ℕ) → IsValue v b → IsMalformedValue (wire_of v) (b ++ x) → ⊥
malformed_value (Number n) b x p h = no_varint (b ++ x) b x n (over_none (b ++ x) h.1) p refl
malformed_value EightBytes b x p (inl e, over) = omega (arith, e)
malformed_value EightBytes b x p (inr e, over) = omega (arith, e)
malformed_value (Content t) b x p h =
    no_varint (b ++ x) p.0 (t ++ x) (length t) (over_none (b ++ x) h.1) p.1 (ap (λ (xs : List ℕ). xs ++ x) p.2 ∙ append_assoc p.0 t x)
malformed_value FourBytes b x p (inl e, over) = omega (arith, e)
malformed_value FourBytes b x p (inr e, over) = omega (arith, e)

good_number : (n wire : ℕ) → 1 ≤ n → n ≤ MAX_FIELD → wire ≤ 5 → IsBadTag (8 * n + wire) → ⊥
good_number n wire low most small (inl e) = omega (arith, e, low, small)
good_number n wire low most small (inr (inl e)) = omega (arith, e, most, small)
good_number n wire low most small (inr (inr e)) = omega (arith, e, small)

behind_field : (fault : FieldFault) (field : MessageField) (b x : List ℕ) (tag : ℕ) → tag ≡ 8 * field.number + wire_of field.value
    → 1 ≤ field.number → field.number ≤ MAX_FIELD → IsValue field.value b → LacksBehind fault tag (b ++ x) → ⊥
behind_field Group field b x tag is low most p (inl e) = (wire_no_group field.value).0 (omega (arith, e, is, wire_most field.value))
behind_field Group field b x tag is low most p (inr e) = (wire_no_group field.value).1 (omega (arith, e, is, wire_most field.value))
behind_field Malformed field b x tag is low most p (no_group, inl bad) =
    good_number field.number (wire_of field.value) low most (wire_most field.value) (subst IsBadTag is bad)
behind_field Malformed field b x tag is low most p (no_group, inr bad) =
    let wire : tag % 8 ≡ wire_of field.value = omega (arith, is, wire_most field.value) in
    malformed_value field.value b x p (subst (λ (w : ℕ). IsMalformedValue w (b ++ x)) wire bad)
behind_field CutShort field b x tag is low most p h =
    let wire : tag % 8 ≡ wire_of field.value = omega (arith, is, wire_most field.value) in
    cut_value field.value b x p (subst (λ (w : ℕ). IsCutValue w (b ++ x)) wire h.2)

pub spells_not_lacks : (fault : FieldFault) (field : MessageField) (a x : List ℕ) → Spells field a → Lacks fault (a ++ x) → ⊥
spells_not_lacks fault field a x p (inl none) =
    no_varint (a ++ x) p.tag (p.behind ++ x) _ (lacks_tag_none fault (a ++ x) none) p.is_tag (tag_cut field a x p)
spells_not_lacks fault field a x p (inr h) =
    let tagged = h.2 in
    let one = one_varint p.tag tagged.tag (p.behind ++ x) h.1 _ h.0 p.is_tag tagged.is_tag (sym (tag_cut field a x p) ∙ tagged.cut) in
    behind_field fault field p.behind x h.0 (sym one.1) p.numbered p.in_range p.is_value (subst (LacksBehind fault h.0) (sym one.2) h.3)

-- ---- no two faults are at one field

value_fault_once : (wire : ℕ) (bytes : List ℕ) → IsMalformedValue wire bytes → IsCutValue wire bytes → ⊥
value_fault_once wire bytes bad (inl h) = over_not_short bytes bad.1 h.1
value_fault_once wire bytes (inl e, over) (inr (inl h)) = omega (arith, e, h.0)
value_fault_once wire bytes (inr e, over) (inr (inl h)) = omega (arith, e, h.0)
value_fault_once wire bytes bad (inr (inr (inl (w, inl short)))) = over_not_short bytes bad.1 short
value_fault_once wire bytes bad (inr (inr (inl (w, inr less)))) = no_varint bytes less.size less.content less.length_of (over_none bytes bad.1) less.is_size less.cut
value_fault_once wire bytes (inl e, over) (inr (inr (inr h))) = omega (arith, e, h.0)
value_fault_once wire bytes (inr e, over) (inr (inr (inr h))) = omega (arith, e, h.0)

malformed_not_cut : (tag : ℕ) (bytes : List ℕ) → LacksBehind Malformed tag bytes → LacksBehind CutShort tag bytes → ⊥
malformed_not_cut tag bytes (no_group, inl bad) h = h.1 bad
malformed_not_cut tag bytes (no_group, inr bad) h = value_fault_once (tag % 8) bytes bad h.2

behind_once : (f g : FieldFault) (tag : ℕ) (bytes : List ℕ) → LacksBehind f tag bytes → LacksBehind g tag bytes → f ≡ g
behind_once Group Group tag bytes p q = refl
behind_once Group Malformed tag bytes p q = absurd (q.0 p)
behind_once Group CutShort tag bytes p q = absurd (q.0 p)
behind_once Malformed Group tag bytes p q = absurd (p.0 q)
behind_once Malformed Malformed tag bytes p q = refl
behind_once Malformed CutShort tag bytes p q = absurd (malformed_not_cut tag bytes p q)
behind_once CutShort Group tag bytes p q = absurd (p.0 q)
behind_once CutShort Malformed tag bytes p q = absurd (malformed_not_cut tag bytes q p)
behind_once CutShort CutShort tag bytes p q = refl

tag_once : (f g : FieldFault) (bytes : List ℕ) → LacksTag f bytes → LacksTag g bytes → f ≡ g
tag_once Group g bytes p q = absurd p
tag_once Malformed Group bytes p q = absurd q
tag_once Malformed Malformed bytes p q = refl
tag_once Malformed CutShort bytes p q = absurd (over_not_short bytes p q)
tag_once CutShort Group bytes p q = absurd q
tag_once CutShort Malformed bytes p q = absurd (over_not_short bytes q p)
tag_once CutShort CutShort bytes p q = refl

pub lacks_once : (f g : FieldFault) (bytes : List ℕ) → Lacks f bytes → Lacks g bytes → f ≡ g
lacks_once f g bytes (inl p) (inl q) = tag_once f g bytes p q
lacks_once f g bytes (inl p) (inr q) = absurd (no_varint bytes q.2.tag q.1 q.0 (lacks_tag_none f bytes p) q.2.is_tag q.2.cut)
lacks_once f g bytes (inr p) (inl q) = absurd (no_varint bytes p.2.tag p.1 p.0 (lacks_tag_none g bytes q) p.2.is_tag p.2.cut)
lacks_once f g bytes (inr p) (inr q) =
    let one = one_varint p.2.tag q.2.tag p.1 q.1 p.0 q.0 p.2.is_tag q.2.is_tag (sym p.2.cut ∙ q.2.cut) in
    behind_once f g q.0 q.1 (subst (λ (xs : List ℕ). LacksBehind f q.0 xs) one.2 (subst (λ (n : ℕ). LacksBehind f n p.1) one.1 p.3)) q.3

-- a field has a byte at least
pub spells_some : (field : MessageField) (bytes : List ℕ) → Spells field bytes → 0 < length bytes
spells_some field bytes p = omega (arith, whole_some p.tag p.is_tag.whole, ap length p.cut, length-append p.tag p.behind)
