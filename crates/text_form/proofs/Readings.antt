-- The laws: what a text is read as is what it says, and nothing else is.
use Rattle.std.proofs.Common.{◌≡◌, ◌∙◌, ℕ, zero, suc, ◌<◌, ◌≤◌, List, [], ◌∷◌, ◌++◌, ◌⊎◌, inl, inr, length, take, Result, Ok, Err, refl, sym, ap, subst, arith, append_assoc}
use Rattle.std.proofs.lemmas.List.{append-nil}
use Rattle.std.proofs.Math.Seq.{take-length}
use Rattle.std.proofs.lemmas.Bool.{cases_lt, cases_order}
use Rattle.text_form.specs.Bytes.{line_at}
use Rattle.text_form.specs.Entries.{Entries, NoEntries, ValueEntry, BlockEntry, Item, End, items_of}
use Rattle.text_form.specs.Grammar.{IsTextOf, Begins, IsBadAt}
use Rattle.text_form.specs.Machine.{items_or_line}
use Rattle.text_form.specs.Laws.{TextsAreRead, FieldsAreRead, BadLinesAreFound, ItemsTellTheFields, Means}
use Rattle.text_form.proofs.Again as again
use Rattle.text_form.proofs.Faults as faults

pub texts_are_read : TextsAreRead
texts_are_read = faults.texts_are_read

pub fields_are_read : FieldsAreRead
fields_are_read = again.fields_are_read

-- ---- a text is bad at one line alone

-- a longer front begins with a shorter one
front : (few many : ℕ) (text : List ℕ) → few ≤ many → (mid : List ℕ) × (take many text ≡ take few text ++ mid)
front zero many text low = (take many text, refl)
front (suc few) zero text low = absurd (omega (arith, low))
front (suc few) (suc many) [] low = ([], refl)
front (suc few) (suc many) (byte ∷ text) low =
    let next = front few many text (omega (arith, low)) in
    (next.0, ap (λ (l : List ℕ). byte ∷ l) next.1)

begins_sooner : (few many : ℕ) (text : List ℕ) → few ≤ many → Begins (take many text) → Begins (take few text)
begins_sooner few many text low begun =
    let cut = front few many text low in
    let P : List ℕ → Type 0 = λ whole. IsTextOf begun.entries whole in
    record {
      entries = begun.entries;
      more = cut.0 ++ begun.more;
      whole = subst P (ap (λ (l : List ℕ). l ++ begun.more) cut.1 ∙ append_assoc (take few text) cut.0 begun.more) begun.whole;
    }

-- a text that says something is bad nowhere
not_bad : (text : List ℕ) (line : ℕ) (entries : Entries) → IsTextOf entries text → IsBadAt text line → ⊥
not_bad text line entries is bad = split (cases_lt bad.place (length text))
  where
    whole : Begins (take (length text) text)
    whole =
        let P : List ℕ → Type 0 = λ l. IsTextOf entries l in
        record { entries = entries; more = []; whole = subst P (sym (append-nil (take (length text) text) ∙ take-length text)) is }

    split : (bad.place < length text) ⊎ (length text ≤ bad.place) → ⊥
    split (inl low) = bad.here low (begins_sooner (suc bad.place) (length text) text (omega (arith, low)) whole)
    split (inr high) = bad.at_end (let low = bad.inside in omega (arith, high)) entries is

-- a text that begins so far isn't bad before
not_sooner : (text : List ℕ) (first second : ℕ) (a : IsBadAt text first) (b : IsBadAt text second) → a.place < b.place → ⊥
not_sooner text first second a b low =
    a.here (let inside = b.inside in omega (arith, low)) (begins_sooner (suc a.place) b.place text (omega (arith, low)) b.before)

one_place : (text : List ℕ) (first second : ℕ) (a : IsBadAt text first) (b : IsBadAt text second) → a.place ≡ b.place
one_place text first second a b = split (cases_order a.place b.place)
  where
    split : (a.place ≡ b.place) ⊎ ((a.place < b.place) ⊎ (b.place < a.place)) → a.place ≡ b.place
    split (inl same) = same
    split (inr (inl low)) = absurd (not_sooner text first second a b low)
    split (inr (inr high)) = absurd (not_sooner text second first b a high)

pub bad_lines_are_found : BadLinesAreFound
bad_lines_are_found text line bad = means (items_or_line text) (texts_are_read text)
  where
    means : (r : Result (List Item) ℕ) → Means text r → r ≡ Err line
    means (Ok items) says = absurd (not_bad text line says.entries says.text_of bad)
    means (Err other) same =
        ap (λ (l : ℕ). Err l)
        (same.line_is ∙ ap (λ (place : ℕ). line_at 1 (take place text)) (one_place text other line same bad) ∙ sym bad.line_is)

-- ---- items tell the fields

-- nothing, or the end of a block
abbrev IsClosed : List Item → Type 0
IsClosed [] = Unit {0}
IsClosed (item ∷ items) = item ≡ End

told : (a b : Entries) (more others : List Item) → IsClosed more → IsClosed others → items_of a ++ more ≡ items_of b ++ others
    → (a ≡ b) × (more ≡ others)
told NoEntries NoEntries more others closed also is = (refl, is)
told NoEntries (ValueEntry line name value b) [] others closed also is = absurd (cc)
told NoEntries (ValueEntry line name value b) (item ∷ more) others closed also is = absurd (cc)
told NoEntries (BlockEntry line name inner b) [] others closed also is = absurd (cc)
told NoEntries (BlockEntry line name inner b) (item ∷ more) others closed also is = absurd (cc)
told (ValueEntry line name value a) NoEntries more [] closed also is = absurd (cc)
told (ValueEntry line name value a) NoEntries more (item ∷ others) closed also is = absurd (cc)
told (BlockEntry line name inner a) NoEntries more [] closed also is = absurd (cc)
told (BlockEntry line name inner a) NoEntries more (item ∷ others) closed also is = absurd (cc)
told (ValueEntry line name value a) (BlockEntry l n inner b) more others closed also is = absurd (cc)
told (BlockEntry line name inner a) (ValueEntry l n value b) more others closed also is = absurd (cc)
told (ValueEntry line name value a) (ValueEntry l n v b) more others closed also is =
    let rest : items_of a ++ more ≡ items_of b ++ others = cc in
    let next = told a b more others closed also rest in
    let same : a ≡ b = next.0 in
    (cc, next.1)
told (BlockEntry line name inner a) (BlockEntry l n within b) more others closed also is =
    let left = append_assoc (items_of inner) (End ∷ items_of a) more in
    let right = append_assoc (items_of within) (End ∷ items_of b) others in
    let all : (items_of inner ++ End ∷ items_of a) ++ more ≡ (items_of within ++ End ∷ items_of b) ++ others = cc in
    let block = told inner within (End ∷ (items_of a ++ more)) (End ∷ (items_of b ++ others)) refl refl (sym left ∙ all ∙ right) in
    let ended : End ∷ (items_of a ++ more) ≡ End ∷ (items_of b ++ others) = block.1 in
    let rest : items_of a ++ more ≡ items_of b ++ others = cc in
    let next = told a b more others closed also rest in
    let same : a ≡ b = next.0 in
    let also_same : inner ≡ within = block.0 in
    (cc, next.1)

pub items_tell_the_fields : ItemsTellTheFields
items_tell_the_fields a b is =
    (told a b [] [] tt tt (append-nil (items_of a) ∙ is ∙ sym (append-nil (items_of b)))).0
