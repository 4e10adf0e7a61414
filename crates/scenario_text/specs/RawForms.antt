-- The form of a line `raw W ID COUNT FLAGS B x'HEX'`, and of the same with ` PID OFFSET x'HEX' more` or ` PID OFFSET x'HEX' last` behind
-- it. It is this profile's. What it asks for are the parts of a commit in the shared memory ABI: the header of a chunk, its payload, and
-- one patch.
use Rattle.std.specs.Prelude.{ℕ, Bool, true, false, Option, Some, None, option_and_then, List, [], ◌∷◌, codes, length, slice_get, if◌then◌else◌}
use Rattle.std.specs.Option.{unwrap_or}
use Rattle.std.specs.Str.{bytes_eq}
use Rattle.trace_base.specs.declared.numeral.Numeral.{Numeral}
use Rattle.trace_base.specs.Numerals.{numeral_of}
use Rattle.scenario_text.specs.declared.form.NamedPatch.{NamedPatch}
use Rattle.scenario_text.specs.declared.form.NamedRaw.{NamedRaw}
use Rattle.scenario_text.specs.Hex.{hex_of, if_four}
use Rattle.scenario_text.specs.Pieces.{pieces}

-- no later patch is for the chunk, or one may be
unfoldable pub last_of : List ℕ → Option Bool
last_of word =
    if bytes_eq word (codes "last") then Some true
    else if bytes_eq word (codes "more") then Some false
    else None

-- a patch of these words, where each has its form
unfoldable pub patch_by : Option Numeral → Option Numeral → Option (List ℕ) → Option Bool → Option (Option NamedPatch)
patch_by (Some chunk_id) (Some offset) (Some bytes) (Some last) =
    Some (Some (record { chunk_id = chunk_id; offset = offset; bytes = bytes; last = last }))
patch_by chunk_id offset bytes last = None

-- the patch that the words behind a payload name, or none where there are no words
unfoldable pub patch_form : List (List ℕ) → Option (Option NamedPatch)
patch_form [] = Some None
patch_form (chunk_id ∷ offset ∷ bytes ∷ last ∷ []) =
    patch_by (numeral_of chunk_id) (numeral_of offset) (if_four (hex_of bytes)) (last_of last)
patch_form words = None

-- a chunk of these words, where each has its form
unfoldable pub raw_by : Option Numeral → Option Numeral → Option Numeral → Option Numeral → Option Numeral → Option (List ℕ)
    → Option (Option NamedPatch) → Option NamedRaw
raw_by (Some writer) (Some chunk_id) (Some count) (Some flags) (Some buffer) (Some payload) (Some patch) = Some (record {
  writer = writer;
  chunk_id = chunk_id;
  count = count;
  flags = flags;
  buffer = buffer;
  len = length payload;
  patch = patch;
})
raw_by writer chunk_id count flags buffer payload patch = None

-- the chunk that the words behind `raw` name, the writer's apart
unfoldable pub raw_words : List ℕ → List (List ℕ) → Option NamedRaw
raw_words writer (chunk_id ∷ count ∷ flags ∷ buffer ∷ payload ∷ patch) =
    raw_by (numeral_of writer) (numeral_of chunk_id) (numeral_of count) (numeral_of flags) (numeral_of buffer) (hex_of payload)
    (patch_form patch)
raw_words writer words = None

-- the payload of such a line: its seventh word
abbrev pub payload_part : List ℕ → List ℕ
payload_part line = unwrap_or (option_and_then hex_of (slice_get (pieces 32 line) 6)) []
