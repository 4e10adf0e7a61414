-- A chunk header and its word give each other back.
use Rattle.std.proofs.Common.{◌≡◌, ℕ, ◌+◌, ◌-◌, ◌*◌, ◌/◌, ◌%◌, ◌^◌, ◌<◌, bit_and, bit_or, ◌∙◌, arith}
use Rattle.std.proofs.lemmas.Nat.{shl_whole, or_comm, or_shifted, and_mask}
use Rattle.page_geometry.specs.declared.chunk_header.ChunkHeader.{ChunkHeader}
use Rattle.page_geometry.specs.Header.{packed, unpacked}

-- a field above all bits of a number is added to it
bit_or-above : (low field k : ℕ) → low < 2 ^ k → bit_or low (field * 2 ^ k) ≡ low + field * 2 ^ k
bit_or-above low field k fits = or_comm low (field * 2 ^ k) ∙ (or_shifted field k low fits ∙ omega arith)

-- `chunk_id | writer_id << 32 | count << 48 | flags << 58`
pub packed_word : (header : ChunkHeader) → header.chunk_id < 2 ^ 32 → header.writer_id < 2 ^ 16 → header.count < 2 ^ 10 → header.flags < 2 ^ 6
    → bit_or (bit_or (bit_or header.chunk_id (header.writer_id * 2 ^ 32 % 2 ^ 64)) (header.count * 2 ^ 48 % 2 ^ 64)) (header.flags * 2 ^ 58 % 2 ^ 64) ≡ packed header
unfolding packed
packed_word header id_fits writer_fits count_fits flags_fits =
    let low = header.chunk_id + header.writer_id * 2 ^ 32 in
    let middle = low + header.count * 2 ^ 48 in
    let low_fits : low < 2 ^ 48 = omega arith in
    let middle_fits : middle < 2 ^ 58 = omega arith in
    rw (
      shl_whole header.writer_id 16 32 64 writer_fits (omega arith),
      shl_whole header.count 10 48 64 count_fits (omega arith),
      shl_whole header.flags 6 58 64 flags_fits (omega arith),
      bit_or-above header.chunk_id header.writer_id 32 id_fits,
      bit_or-above low header.count 48 low_fits,
      bit_or-above middle header.flags 58 middle_fits,
    )

pub unpacked-packed : (header : ChunkHeader) → header.chunk_id < 2 ^ 32 → header.writer_id < 2 ^ 16 → header.count < 2 ^ 10 → header.flags < 2 ^ 6 → unpacked (packed header) ≡ header
unfolding packed unpacked
unpacked-packed header id_fits writer_fits count_fits flags_fits =
    let word = header.chunk_id + header.writer_id * 2 ^ 32 + header.count * 2 ^ 48 + header.flags * 2 ^ 58 in
    let id_is : word % 2 ^ 32 ≡ header.chunk_id = omega arith in
    let writer_is : word / 2 ^ 32 % 2 ^ 16 ≡ header.writer_id = omega arith in
    let count_is : word / 2 ^ 48 % 2 ^ 10 ≡ header.count = omega arith in
    let flags_is : word / 2 ^ 58 ≡ header.flags = omega arith in
    rw (id_is, writer_is, count_is, flags_is)

pub packed-unpacked : (word : ℕ) → packed (unpacked word) ≡ word
unfolding packed unpacked
packed-unpacked word = omega arith

-- the fields that `unpack` reads
pub unpacked_word : (word : ℕ)
    → (let header : ChunkHeader = record { chunk_id = bit_and word (2 ^ 32 - 1); writer_id = bit_and (word / 2 ^ 32) (2 ^ 16 - 1); count = bit_and (word / 2 ^ 48) (2 ^ 10 - 1); flags = word / 2 ^ 58 } in header ≡ unpacked word)
unfolding unpacked
unpacked_word word = rw (and_mask word 32, and_mask (word / 2 ^ 32) 16, and_mask (word / 2 ^ 48) 10)
