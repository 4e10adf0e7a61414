-- A byte of one kind is of no other, as far as the reading tells them apart.
use Rattle.std.proofs.Common.{◌≡◌, ◌∙◌, ℕ, Bool, true, false, ◌==◌, refl, sym, ap}
use Rattle.std.proofs.lemmas.Bool.{ne_eqb, or_from, or_parts}
use Rattle.text_form.specs.Bytes.{is_blank, is_separator, is_name_start, is_name_byte, line_behind}
use Rattle.text_form.specs.Walking.{begins_gap}

-- one that passes a test isn't one that doesn't
pub differs : (kind : ℕ → Bool) (byte other : ℕ) → kind byte ≡ true → kind other ≡ false → (byte == other) ≡ false
differs kind byte other is isnt = ne_eqb byte other (λ same. let both : kind byte ≡ false = ap kind same ∙ isnt in cc)

pub not_blank : (kind : ℕ → Bool) (byte : ℕ) → kind byte ≡ true → kind 32 ≡ false → kind 9 ≡ false → kind 13 ≡ false → kind 10 ≡ false
    → is_blank byte ≡ false
not_blank kind byte is space tab return feed =
    or_from _ _ (or_from _ _ (or_from _ _ (differs kind byte 32 is space) (differs kind byte 9 is tab)) (differs kind byte 13 is return)) (differs kind byte 10 is feed)

pub not_separator : (kind : ℕ → Bool) (byte : ℕ) → kind byte ≡ true → kind 59 ≡ false → kind 44 ≡ false → is_separator byte ≡ false
not_separator kind byte is semicolon comma = or_from _ _ (differs kind byte 59 is semicolon) (differs kind byte 44 is comma)

-- no blank is of a kind that has none of them
pub blank_is_none : (kind : ℕ → Bool) (byte : ℕ) → is_blank byte ≡ true → kind 32 ≡ false → kind 9 ≡ false → kind 13 ≡ false → kind 10 ≡ false
    → kind byte ≡ false
blank_is_none kind byte blank space tab return feed = unless_true (kind byte) (λ is.
    let isnt = not_blank kind byte is space tab return feed in
    let both : true ≡ false = sym blank ∙ isnt in
    cc)
  where
    unless_true : (x : Bool) → (x ≡ true → ⊥) → x ≡ false
    unless_true true no_way = absurd (no_way refl)
    unless_true false no_way = refl

pub gap_parts : (byte : ℕ) → begins_gap byte ≡ false → (is_blank byte ≡ false) × ((byte == 35) ≡ false)
gap_parts byte is = or_parts (is_blank byte) (byte == 35) is

-- a byte that isn't a line feed stays on its line
pub same_line : (line byte : ℕ) → (byte == 10) ≡ false → line_behind line byte ≡ line
same_line line byte is = rw is refl

pub start_in_name : (byte : ℕ) → is_name_start byte ≡ true → is_name_byte byte ≡ true
start_in_name byte is = rw is refl
