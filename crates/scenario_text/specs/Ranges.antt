-- The ranges of numbers in set-up lines.
use Rattle.std.specs.Prelude.{ℕ, ◌%◌, nat_le, ◌==◌, Bool, true, false, ◌&&◌}
use Rattle.std.specs.List.{list_any}
use Rattle.trace_base.specs.declared.limits.TheConstants.{MAX_PAGE_SIZE, PAGE_SIZE_UNIT}
use Rattle.page_geometry.specs.declared.geometry.TheConstants.{CHUNK_COUNTS}
use Rattle.trace_base.specs.declared.numeral.Numeral.{Numeral}
use Rattle.trace_base.specs.declared.numeral.Numeral.TheVariants.{Fits, TooLarge}

-- a number is below 2 ^ 64
unfoldable pub fits : Numeral → Bool
fits (Fits n) = true
fits TooLarge = false

-- a number is one from low to high
unfoldable pub is_within : ℕ → ℕ → Numeral → Bool
is_within low high (Fits n) = nat_le low n && nat_le n high
is_within low high TooLarge = false

-- a page can be this long: a multiple of 4,096 from 4,096 to 65,536
unfoldable pub is_page_size : ℕ → Bool
is_page_size n = (n % PAGE_SIZE_UNIT == 0) && nat_le PAGE_SIZE_UNIT n && nat_le n MAX_PAGE_SIZE

-- a page can have this many chunks: 1, 2, 4, 7 or 14
unfoldable pub is_chunk_count : ℕ → Bool
is_chunk_count n = list_any (λ count. n == count) CHUNK_COUNTS

-- what a number is, where it is one that a range can hold
unfoldable pub value : Numeral → ℕ
value (Fits n) = n
value TooLarge = 0
