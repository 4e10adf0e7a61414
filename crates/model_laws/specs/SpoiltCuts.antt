-- Pages that are no cut of their packets, though their bytes are: a packet that ends at the payload's end and runs on to nothing,
-- and an open length whose four bytes stand in two chunks. A chunk's payload has 12 bytes here.
use Rattle.std.specs.Prelude.{true, List, [], ◌∷◌}
use Rattle.trace_model.specs.Calls.{Call, Begun, Bytes, Nested}
use Rattle.trace_model.specs.Packets.{packets_of}
use Rattle.trace_model.specs.Pages.{Page}
use Rattle.trace_model.specs.Cut.{CutsInto}
use Rattle.trace_model.specs.WorkedWriters.{letters, letter_field, whole, plain_page}

-- a packet of eight bytes, which fill its chunk
abbrev pub filling_calls : List Call
filling_calls = whole (letter_field 6)

-- a page that its one packet fills to the last byte
abbrev pub filled_page : Page
filled_page = plain_page ((0x0A ∷ 0x06 ∷ letters 6) ∷ []) 0

-- the same packet, running on with no byte into a second page
abbrev pub empty_end_pages : List Page
empty_end_pages = record filled_page { runs_on = true } ∷ record (plain_page ([] ∷ []) 8) { continues = true } ∷ []

-- a packet with a text of two bytes, in which a nested message was begun: its length stands behind six bytes
abbrev pub opening_calls : List Call
opening_calls = Begun true ∷ Bytes 1 (0x78 ∷ []) 2 ∷ Nested 900 ∷ []

-- a nested length of which two bytes stand in each page
abbrev pub split_length_pages : List Page
split_length_pages =
    record (plain_page ((0x0A ∷ 0x02 ∷ 0x78 ∷ 0x78 ∷ 0xA2 ∷ 0x38 ∷ 0x80 ∷ 0x80 ∷ []) ∷ []) 0) { runs_on = true; awaits = true }
    ∷ record (plain_page ((0x80 ∷ 0x00 ∷ []) ∷ []) 6) { continues = true } ∷ []

-- Pages that are spoilt in one place are no cut.
pub record SpoiltCutsAreRefused : Type 0 where
  -- in one chunk it is a cut
  pub filled : CutsInto 12 (packets_of filling_calls) (filled_page ∷ [])
  pub empty_end : CutsInto 12 (packets_of filling_calls) empty_end_pages → ⊥
  pub split_length : CutsInto 12 (packets_of opening_calls) split_length_pages → ⊥
