-- What follows for sizes from their ranges.
use Rattle.std.proofs.Common.{◌≡◌, ◌∙◌, ℕ, ◌*◌, ◌%◌, ◌<◌, ◌≤◌, ◌==◌, nat_lt, nat_le, true, refl, sym, arith}
use Rattle.std.proofs.lemmas.Bool.{and_parts, leb-true, eqb-true, le-ltb}
use Rattle.trace_base.specs.declared.limits.TheConstants.{BYTES_PER_KB, MAX_CHUNKS_PER_PAGE, MAX_PAGE_SIZE}
use Rattle.page_geometry.specs.Sizes.{IsPageSize, IsChunkCount}
use Rattle.trace_base.specs.declared.numeral.Numeral.{Numeral}
use Rattle.trace_base.specs.declared.numeral.Numeral.TheVariants.{Fits, TooLarge}
use Rattle.config_text.specs.Ranges.{is_between, is_page_kb, is_whole_pages, is_shared_memory}

-- a test of a range means that the number lies there
pub between_means : (low high n : ℕ) → is_between low high n ≡ true → (low ≤ n) × (n ≤ high)
unfolding is_between
between_means low high n holds =
    let parts = and_parts (nat_le low n) (nat_le n high) holds in
    (leb-true low n parts.0, leb-true n high parts.1)

pub page_means : (page : ℕ) → is_page_kb page ≡ true → (4 ≤ page) × (page ≤ 64) × (page % 4 ≡ 0)
unfolding is_page_kb
page_means page holds =
    let parts = and_parts (is_between 4 64 page) (page % 4 == 0) holds in
    let range = between_means 4 64 page parts.0 in
    (range.0, range.1, eqb-true (page % 4) 0 parts.1)

pub page_some : (page : ℕ) → is_page_kb page ≡ true → 0 < page
page_some page holds = let means = page_means page holds in omega (arith, means.0)

pub page_most : (page : ℕ) → is_page_kb page ≡ true → page ≤ 64
page_most page holds = (page_means page holds).1

pub page_size : (page : ℕ) → is_page_kb page ≡ true → IsPageSize (page * BYTES_PER_KB)
page_size page holds =
    let means = page_means page holds in
    record {
      whole = omega (arith, means.2);
      least = omega (arith, means.0);
      most = omega (arith, means.1);
    }

pub fourteen : IsChunkCount MAX_CHUNKS_PER_PAGE
fourteen = (4, omega arith, refl)

pub memory_page : (shm : Numeral) (page : ℕ) → is_shared_memory shm (Fits page) ≡ true → is_page_kb page ≡ true
unfolding is_shared_memory
memory_page (Fits shm) page holds = (and_parts (is_page_kb page) (is_whole_pages shm page) holds).0
memory_page TooLarge page holds = absurd (cc)

-- no record has more than 64 KB
pub no_larger : (size most : ℕ) → 64 ≤ size → most ≤ MAX_PAGE_SIZE → nat_lt size 64 ≡ nat_lt (size * BYTES_PER_KB) most
no_larger size most high fits = le-ltb size 64 high ∙ sym (le-ltb (size * BYTES_PER_KB) most (omega arith))
