-- The ranges of numbers in a configuration text.
use Rattle.std.specs.Prelude.{ℕ, ◌/◌, ◌%◌, nat_le, ◌==◌, Bool, false, ◌&&◌}
use Rattle.trace_base.specs.declared.limits.TheConstants.{MAX_PAGES}
use Rattle.trace_base.specs.declared.numeral.Numeral.{Numeral}
use Rattle.trace_base.specs.declared.numeral.Numeral.TheVariants.{Fits, TooLarge}

-- a number is one from low to high
unfoldable pub is_between : ℕ → ℕ → ℕ → Bool
is_between low high n = nat_le low n && nat_le n high

-- the same of a number of any length
unfoldable pub is_within : ℕ → ℕ → Numeral → Bool
is_within low high (Fits n) = is_between low high n
is_within low high TooLarge = false

-- pages can have this many KB: 4 to 64, a multiple of 4
unfoldable pub is_page_kb : ℕ → Bool
is_page_kb page = is_between 4 64 page && (page % 4 == 0)

-- so many KB are whole pages of so many, from 1 to 64 of them
unfoldable pub is_whole_pages : ℕ → ℕ → Bool
is_whole_pages shm page = (shm % page == 0) && is_between 1 MAX_PAGES (shm / page)

-- a producer can have so much shared memory, in pages of this size
unfoldable pub is_shared_memory : Numeral → Numeral → Bool
is_shared_memory (Fits shm) (Fits page) = is_page_kb page && is_whole_pages shm page
is_shared_memory shm page = false

-- what a number is, where it is one that a range can hold
unfoldable pub value : Numeral → ℕ
value (Fits n) = n
value TooLarge = 0
