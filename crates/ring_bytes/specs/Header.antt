-- The header of a part of a ring: 16 bytes, this project's profile. All numbers are little-endian: the payload's length, the
-- sequence and the chunk's position in it, each four bytes; two bytes with the count of fragments and, above its ten bits, the flags, as in
-- a chunk's header of the shared memory ABI; and two bytes of the ring's own.
use Rattle.std.specs.Prelude.{◌≡◌, ℕ, ◌+◌, ◌*◌, ◌/◌, ◌%◌, ◌≤◌, ◌==◌, Bool, false, not, ◌||◌, List, ◌++◌, drop, if◌then◌else◌}
use Rattle.std.specs.Int.{w16, w32, to_le_bytes, from_le_bytes}
use Rattle.trace_base.specs.declared.limits.TheConstants.{MAX_FRAGMENTS}
use Rattle.page_geometry.specs.declared.geometry.TheConstants.{RECORD_HEADER_SIZE}
use Rattle.page_geometry.specs.declared.chunk_header.TheConstants.{MAX_FLAGS}
use Rattle.ring_bytes.specs.declared.key.RecordKey.{RecordKey}
use Rattle.ring_bytes.specs.declared.header.Header.{Header}
use Rattle.ring_bytes.specs.Bytes.{slice}

-- a truth value as a bit
abbrev pub bit_of : Bool → ℕ
bit_of b = if b then 1 else 0

-- the count in the low ten bits, and the flags above
abbrev pub word_of : RecordKey → ℕ
word_of key = key.count + key.flags * 1024

-- bit 0: partial; bit 1: awaits a patch; bit 2: padding; bit 3: dead; all others are 0
abbrev pub own_bits : Header → ℕ
own_bits header =
    bit_of header.key.partial + 2 * bit_of header.key.awaits + 4 * bit_of header.padding + 8 * bit_of header.dead

-- what a header has is inside its bits
pub record IsHeader (header : Header) : Type 0 where
  pub count : header.key.count ≤ MAX_FRAGMENTS
  pub flags : header.key.flags ≤ MAX_FLAGS

-- the bytes of a header, as they are to stand in a ring
unfoldable pub header_bytes : Header → List ℕ
header_bytes header =
    to_le_bytes w32 header.len
    ++ (to_le_bytes w32 header.key.sequence
    ++ (to_le_bytes w32 header.key.chunk_id
    ++ (to_le_bytes w16 (word_of header.key)
    ++ to_le_bytes w16 (own_bits header))))

-- the header that 16 bytes are
unfoldable pub header_of : List ℕ → Header
header_of bytes =
    let word = from_le_bytes w16 (drop 12 bytes) in
    let own = from_le_bytes w16 (drop 14 bytes) in
    record {
      len = from_le_bytes w32 bytes;
      key = record {
        sequence = from_le_bytes w32 (drop 4 bytes);
        chunk_id = from_le_bytes w32 (drop 8 bytes);
        count = word % 1024;
        flags = word / 1024;
        partial = own % 2 == 1;
        awaits = own / 2 % 2 == 1;
      };
      padding = own / 4 % 2 == 1;
      dead = own / 8 % 2 == 1;
    }

-- the header that stands at a place
abbrev pub header_at : List ℕ → ℕ → Header
header_at bytes at = header_of (slice at RECORD_HEADER_SIZE bytes)

-- the bytes at a place are this header's, all of them
abbrev pub StandsAt : List ℕ → ℕ → Header → Type 0
StandsAt bytes at header = slice at RECORD_HEADER_SIZE bytes ≡ header_bytes header

-- a record, and not padding or what is left of dropped records
abbrev pub is_live : Header → Bool
is_live header = not (header.padding || header.dead)

-- the header of padding, or else of what is left of dropped records
abbrev pub rest_header : ℕ → Bool → Header
rest_header len padding = record {
  len = len;
  key = record { sequence = 0; chunk_id = 0; count = 0; flags = 0; partial = false; awaits = false };
  padding = padding;
  dead = not padding;
}
