-- A chunk header as one word, after the shared memory ABI: the fields one above another, the chunk id lowest, so that the word's bytes from
-- the lowest on are the header's. The last 16 bits are the count of fragments, 10 bits, and the flags above it.
use Rattle.std.specs.Prelude.{ℕ, ◌+◌, ◌*◌, ◌/◌, ◌%◌, ◌^◌}
use Rattle.page_geometry.specs.declared.chunk_header.ChunkHeader.{ChunkHeader}

-- the word of a header
unfoldable pub packed : ChunkHeader → ℕ
packed header = header.chunk_id + header.writer_id * 2 ^ 32 + header.count * 2 ^ 48 + header.flags * 2 ^ 58

-- the header of a word
unfoldable pub unpacked : ℕ → ChunkHeader
unpacked word = record { chunk_id = word % 2 ^ 32; writer_id = word / 2 ^ 32 % 2 ^ 16; count = word / 2 ^ 48 % 2 ^ 10; flags = word / 2 ^ 58 }
