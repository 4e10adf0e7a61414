-- Counts that stay at the last value of 64 bits.
use Rattle.std.specs.Prelude.{ℕ, ◌+◌, ◌-◌, ◌^◌, min, max, Bool, true, false}

-- a count that is there stays there
abbrev pub last_count : ℕ
last_count = 2 ^ 64 - 1

-- a count that rises, up to the last value
abbrev pub raised : ℕ → ℕ → ℕ
raised count more = max count (min (count + more) last_count)

-- one where it holds, else none
abbrev pub one_if : Bool → ℕ
one_if true = 1
one_if false = 0
