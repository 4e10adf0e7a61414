-- Which calls of a scripted object fail.
use Rattle.std.specs.Prelude.{ℕ, ◌+◌, ◌-◌, ◌^◌, ◌<◌, List, Contains, min}

-- the call after so many is listed: calls have the numbers 1 to 2 ^ 64 - 1, and a later one has none
abbrev pub FailsNext : List ℕ → ℕ → Type 0
FailsNext failing calls = (calls < 2 ^ 64 - 1) × Contains failing (calls + 1)

-- how many calls were counted after one more
abbrev pub calls_after : ℕ → ℕ
calls_after calls = min (calls + 1) (2 ^ 64 - 1)
