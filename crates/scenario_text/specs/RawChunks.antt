-- The chunks that a scenario's lines `raw` ask to be committed.
use Rattle.std.specs.Prelude.{◌≡◌, ℕ, ◌^◌, ◌<◌, true, List, [], Option, Some, None}
use Rattle.scenario_text.specs.declared.form.Form.{Form}
use Rattle.scenario_text.specs.declared.form.Form.TheVariants.{Raw}
use Rattle.scenario_text.specs.declared.form.NamedPatch.{NamedPatch}
use Rattle.scenario_text.specs.declared.form.NamedRaw.{NamedRaw}
use Rattle.scenario_text.specs.declared.raw_chunk.RawPatch.{RawPatch}
use Rattle.scenario_text.specs.Forms.{form_of}
use Rattle.scenario_text.specs.Ranges.{value}
use Rattle.scenario_text.specs.RawForms.{payload_part}
use Rattle.scenario_text.specs.RawRanges.{are_raw_numbers}

-- a chunk as a producer could commit it: the values of its header, the buffer that it is for, what its payload begins with, and its patch
pub record AskedChunk : Type 0 where
  pub chunk_id : ℕ
  pub count : ℕ
  pub flags : ℕ
  pub buffer : ℕ
  pub payload : List ℕ
  pub patch : Option RawPatch

-- the patch that is named
unfoldable pub patch_asked : Option NamedPatch → Option RawPatch
patch_asked None = None
patch_asked (Some patch) = Some (record {
  chunk_id = value patch.chunk_id;
  offset = value patch.offset;
  bytes = patch.bytes;
  last = patch.last;
})

-- the chunk that is named, with this payload
unfoldable pub chunk_by : NamedRaw → List ℕ → AskedChunk
chunk_by raw payload = record {
  chunk_id = value raw.chunk_id;
  count = value raw.count;
  flags = value raw.flags;
  buffer = value raw.buffer;
  payload = payload;
  patch = patch_asked raw.patch;
}

-- the chunk that a line of this form asks for; nothing of the kind where it has another
unfoldable pub chunk_of_form : Option Form → List ℕ → AskedChunk
chunk_of_form (Some (Raw raw)) payload = chunk_by raw payload
chunk_of_form other payload = record { chunk_id = 0; count = 0; flags = 0; buffer = 0; payload = []; patch = None }

-- the chunk that a line asks for
unfoldable pub chunk_in : List ℕ → AskedChunk
chunk_in line = chunk_of_form (form_of line) (payload_part line)

-- the line asks for a chunk, with numbers in their ranges
pub record IsRawLine (line : List ℕ) : Type 0 where
  pub raw : NamedRaw
  pub form : form_of line ≡ Some (Raw raw)
  pub in_range : are_raw_numbers raw ≡ true
  pub buffer : value raw.buffer < 2 ^ 8
