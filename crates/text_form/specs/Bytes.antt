-- Kinds of bytes of a configuration text, and its lines. The form is that of the text of protocol buffers, in a profile of
-- this project's own: 9 is the tab, 10 the line feed, 13 the carriage return, 32 the space, 34 '"', 35 '#', 44 ',', 58 ':',
-- 59 ';', 92 '\', 95 '_', 123 '{' and 125 '}'.
use Rattle.std.specs.Prelude.{◌≡◌, ℕ, suc, List, [], ◌∷◌, Bool, true, nat_le, nat_lt, ◌==◌, ◌&&◌, ◌||◌, not, if◌then◌else◌}
use Rattle.std.specs.List.{AllByRecursion}

-- a space, a tab, a carriage return or a line feed
abbrev pub is_blank : ℕ → Bool
is_blank byte = byte == 32 || byte == 9 || byte == 13 || byte == 10

-- a byte that a comment may have: every character of ASCII but the line feed
abbrev pub is_comment_byte : ℕ → Bool
is_comment_byte byte = nat_lt byte 128 && not (byte == 10)

-- what may stand between two fields: a semicolon or a comma
abbrev pub is_separator : ℕ → Bool
is_separator byte = byte == 59 || byte == 44

-- a letter or '_': a name begins with it
abbrev pub is_name_start : ℕ → Bool
is_name_start byte = (nat_le 97 byte && nat_le byte 122) || (nat_le 65 byte && nat_le byte 90) || byte == 95

-- 0 to 9
abbrev pub is_digit : ℕ → Bool
is_digit byte = nat_le 48 byte && nat_le byte 57

-- a byte of a name behind its first one
abbrev pub is_name_byte : ℕ → Bool
is_name_byte byte = is_name_start byte || is_digit byte

-- a byte of a value without quotes: as in a name, or '.', '+' or '-'
abbrev pub is_word_byte : ℕ → Bool
is_word_byte byte = is_name_byte byte || byte == 46 || byte == 43 || byte == 45

-- a byte of a text in quotes: 0x20 to 0x7E without '"' and '\'
abbrev pub is_text_byte : ℕ → Bool
is_text_byte byte = nat_le 32 byte && nat_le byte 126 && not (byte == 34) && not (byte == 92)

-- each of the bytes is of the kind
abbrev pub AreAll : (ℕ → Bool) → List ℕ → Type 0
AreAll kind bytes = AllByRecursion (λ byte. kind byte ≡ true) bytes

-- the line on which the next byte stands
abbrev pub line_behind : ℕ → ℕ → ℕ
line_behind line byte = if byte == 10 then suc line else line

-- the line behind some bytes, the first of which stands on this line
abbrev pub line_at : ℕ → List ℕ → ℕ
line_at line [] = line
line_at line (byte ∷ bytes) = line_at (line_behind line byte) bytes
