-- A number that is written is a word.
use Rattle.std.proofs.Common.{ℕ, ◌+◌, ◌%◌, ◌^◌, ◌<◌, ◌==◌, Bool, true, List, [], ◌∷◌, ◌++◌, arith, ◌≡◌}
use Rattle.std.specs.Fmt.{decimal}
use Rattle.std.specs.Prelude.{nat_le, ◌||◌}
use Rattle.std.proofs.lemmas.Bool.{le-leb, and_from, or_left, or_right}
use Rattle.std.proofs.lemmas.Fmt.{decimal_by_steps}
use Rattle.text_form.specs.Bytes.{is_name_start, is_digit, is_name_byte, is_word_byte, AreAll}
use Rattle.text_form.specs.Grammar.{IsWord}

-- ---- a number is a word

word_digit : (n : ℕ) → n < 10 → is_word_byte (48 + n) ≡ true
word_digit n small =
    let byte : ℕ = 48 + n in
    let is : is_digit byte ≡ true = and_from (nat_le 48 byte) (nat_le byte 57) (le-leb 48 byte (omega arith)) (le-leb byte 57 (omega arith)) in
    let name : is_name_byte byte ≡ true = or_right (is_name_start byte) (is_digit byte) is in
    or_left (is_name_byte byte || byte == 46 || byte == 43) (byte == 45)
    (or_left (is_name_byte byte || byte == 46) (byte == 43) (or_left (is_name_byte byte) (byte == 46) name))

all_push : (kind : ℕ → Bool) (bytes : List ℕ) (byte : ℕ) → AreAll kind bytes → kind byte ≡ true → AreAll kind (bytes ++ byte ∷ [])
all_push kind [] byte all is = (is, tt)
all_push kind (first ∷ bytes) byte all is = (all.0, all_push kind bytes byte all.1 is)

word_push : (bytes : List ℕ) (byte : ℕ) → IsWord bytes → is_word_byte byte ≡ true → IsWord (bytes ++ byte ∷ [])
word_push [] byte word is = absurd word
word_push (first ∷ bytes) byte word is = (word.0, all_push is_word_byte bytes byte word.1 is)

abbrev IsNumberWord : ℕ → List ℕ → Type 0
IsNumberWord n bytes = IsWord bytes

pub decimal_word : (n : ℕ) → n < 2 ^ 64 → IsWord (decimal n)
decimal_word n small =
    decimal_by_steps IsNumberWord (λ d low. (word_digit d low, tt)) (λ m bytes high word. word_push bytes (48 + m % 10) word (word_digit (m % 10) (omega arith))) n small
