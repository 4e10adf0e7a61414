-- The laws of varints: what a reader of any of them may rely on.
use Rattle.std.specs.Prelude.{◌≡◌, ℕ, ◌+◌, ◌*◌, ◌^◌, ◌<◌, ◌≤◌, List, ◌++◌, length}
use Rattle.wire_varint.specs.Reading.{IsVarint}
use Rattle.wire_varint.specs.Varint.{varint, redundant, tag}

-- in front of some bytes stands at most one varint, of one number, so what follows it is settled too
abbrev pub OneVarintInFront : Type 0
OneVarintInFront = (front other behind follows : List ℕ) (m n : ℕ)
    → IsVarint front m → IsVarint other n → front ++ behind ≡ other ++ follows
    → (front ≡ other) × (m ≡ n) × (behind ≡ follows)

-- what is written for a number is a varint of it
abbrev pub NumbersAreVarints : Type 0
NumbersAreVarints = (n : ℕ) → n < 2 ^ 64 → IsVarint (varint n) n

-- so is a tag: of eight times the field's number and the wire type
abbrev pub TagsAreVarints : Type 0
TagsAreVarints = (field wire : ℕ) → field < 2 ^ 29 → wire < 8 → IsVarint (tag field wire) (8 * field + wire)

-- so is the form of four bytes
abbrev pub RedundantsAreVarints : Type 0
RedundantsAreVarints = (n : ℕ) → n < 2 ^ 28 → IsVarint (redundant n) n

-- no varint of a number is shorter than the one that is written
abbrev pub WrittenIsShortest : Type 0
WrittenIsShortest = (bytes : List ℕ) (n : ℕ) → IsVarint bytes n → length (varint n) ≤ length bytes

-- a number has one byte at least and ten at most
abbrev pub LengthsAreBounded : Type 0
LengthsAreBounded = (n : ℕ) → (1 ≤ length (varint n)) × (length (varint n) ≤ 10)
