-- Worked examples of writers: their calls, and the pages by which they are cut. A chunk's payload of 284 bytes is one of 14
-- on a page of 4,096 bytes, and one of 2,036 bytes one of two.
use Rattle.std.specs.Prelude.{ℕ, true, false, List, [], ◌∷◌, ◌++◌, replicate}
use Rattle.trace_model.specs.Calls.{Call, Begun, Bytes, Nested, Ended, GivenUp, Finished, Flushed}
use Rattle.trace_model.specs.Encoding.{Fields, NoFields, NumberField, BytesField, NestedField, calls_of}
use Rattle.trace_model.specs.Pages.{Page}

-- the letter x, so many times
abbrev pub letters : ℕ → List ℕ
letters count = replicate count 0x78

-- a field with a letter so many times over
abbrev pub letter_field : ℕ → Fields
letter_field count = BytesField 1 (0x78 ∷ []) count NoFields

-- a packet that is kept and finished
abbrev pub whole : Fields → List Call
whole fields = Begun true ∷ calls_of fields ++ Finished ∷ []

-- a page that neither continues nor runs on, and brings no patches
abbrev pub plain_page : List (List ℕ) → ℕ → Page
plain_page fragments unused = record {
  continues = false;
  runs_on = false;
  awaits = false;
  fragments = fragments;
  dropped = false;
  rest = replicate unused 0;
  patches = [];
}

-- a packet with the number field 8, in a chunk of its own
abbrev pub number_calls : ℕ → List Call
number_calls value = whole (NumberField 8 value NoFields) ++ Flushed ∷ []

-- a page with one small packet and unused bytes behind it
abbrev pub number_page : ℕ → ℕ → Page
number_page value unused = plain_page ((0x40 ∷ value ∷ []) ∷ []) unused

-- One small packet: 900{1:"hi" 2:7}
abbrev pub small_calls : List Call
small_calls = whole (NestedField 900 (BytesField 1 (0x68 ∷ 0x69 ∷ []) 1 (NumberField 2 7 NoFields)) NoFields)

-- the page of the packet with a nested message
abbrev pub small_pages : List Page
small_pages =
    plain_page ((0xA2 ∷ 0x38 ∷ 0x86 ∷ 0x80 ∷ 0x80 ∷ 0x00 ∷ 0x0A ∷ 0x02 ∷ 0x68 ∷ 0x69 ∷ 0x10 ∷ 0x07 ∷ []) ∷ []) 268 ∷ []

-- A packet of no fields.
abbrev pub empty_calls : List Call
empty_calls = whole NoFields

-- the page of the packet without fields
abbrev pub empty_pages : List Page
empty_pages = plain_page ([] ∷ []) 280 ∷ []

-- A packet of 300 bytes runs on in a second chunk.
abbrev pub long_calls : List Call
long_calls = whole (letter_field 297)

-- the two pages of the packet of 300 bytes
abbrev pub long_pages : List Page
long_pages =
    record (plain_page ((0x0A ∷ 0xA9 ∷ 0x02 ∷ letters 277) ∷ []) 0) { runs_on = true }
    ∷ record (plain_page (letters 20 ∷ []) 260) { continues = true } ∷ []

-- A nested message goes on in the second chunk, so that its length comes as a patch.
abbrev pub patched_calls : List Call
patched_calls = whole (NestedField 900 (letter_field 300) NoFields)

-- the two pages of the packet with a late length, the second with its patch
abbrev pub patched_pages : List Page
patched_pages =
    record (plain_page ((0xA2 ∷ 0x38 ∷ 0x80 ∷ 0x80 ∷ 0x80 ∷ 0x00 ∷ 0x0A ∷ 0xAC ∷ 0x02 ∷ letters 271) ∷ []) 0) {
      runs_on = true;
      awaits = true;
    }
    ∷ record (plain_page (letters 29 ∷ []) 251) {
      continues = true;
      patches = record { chunk_id = 0; offset = 6; bytes = 0xAF ∷ 0x82 ∷ 0x80 ∷ 0x00 ∷ []; last = true } ∷ [];
    } ∷ []

-- Two bytes are left behind the tag of a nested message: its length stands first in the next chunk, and there is no patch.
abbrev pub moved_calls : List Call
moved_calls = whole (BytesField 1 (0x78 ∷ []) 273 (NestedField 900 (NumberField 2 7 NoFields) NoFields))

-- the two pages of the packet whose nested length moved on
abbrev pub moved_pages : List Page
moved_pages =
    record (plain_page ((0x0A ∷ 0x91 ∷ 0x02 ∷ letters 273 ++ 0xA2 ∷ 0x38 ∷ []) ∷ []) 2) { runs_on = true }
    ∷ record (plain_page ((0x82 ∷ 0x80 ∷ 0x80 ∷ 0x00 ∷ 0x10 ∷ 0x07 ∷ []) ∷ []) 274) { continues = true } ∷ []

-- The second packet runs out of chunks in the second of two, and the third one bears the mark in front. The length that was
-- open in the first chunk comes as a patch of 0.
abbrev pub given_up_calls : List Call
given_up_calls =
    whole (NumberField 8 1 NoFields)
    ++ (Begun true ∷ Nested 900 ∷ Bytes 1 (0x78 ∷ []) 5000 ∷ GivenUp ∷ Ended ∷ Finished ∷ [])
    ++ whole (NumberField 8 2 NoFields)

-- the pages of the packet that is given up, and of the one behind it
abbrev pub given_up_pages : List Page
given_up_pages =
    record (plain_page ((0x40 ∷ 0x01 ∷ []) ∷ (0xA2 ∷ 0x38 ∷ 0x80 ∷ 0x80 ∷ 0x80 ∷ 0x00 ∷ 0x0A ∷ 0x88 ∷ 0x27 ∷ letters 2017) ∷ []) 0) {
      runs_on = true;
      awaits = true;
    }
    ∷ record (plain_page (letters 2032 ∷ []) 0) {
      continues = true;
      dropped = true;
      patches = record { chunk_id = 0; offset = 12; bytes = 0x80 ∷ 0x80 ∷ 0x80 ∷ 0x00 ∷ []; last = true } ∷ [];
    }
    ∷ plain_page ((0xD0 ∷ 0x02 ∷ 0x01 ∷ 0x40 ∷ 0x02 ∷ []) ∷ []) 2027 ∷ []
