-- The ranges of the numbers in a line `raw`: ids and offsets have 32 bits, and a header counts at most 1,023 fragments and has six flags,
-- as the shared memory ABI's chunk header has.
use Rattle.std.specs.Prelude.{Bool, true, ◌&&◌, Option, Some, None}
use Rattle.trace_base.specs.declared.limits.TheConstants.{MAX_FRAGMENTS}
use Rattle.page_geometry.specs.declared.chunk_header.TheConstants.{MAX_FLAGS}
use Rattle.scenario_text.specs.declared.form.NamedPatch.{NamedPatch}
use Rattle.scenario_text.specs.declared.form.NamedRaw.{NamedRaw}
use Rattle.scenario_text.specs.declared.form.TheConstants.{MAX_CHUNK_ID}
use Rattle.scenario_text.specs.Ranges.{fits, is_within}

-- the patch's numbers are in their ranges, or there is none
unfoldable pub are_patch_numbers : Option NamedPatch → Bool
are_patch_numbers None = true
are_patch_numbers (Some patch) = is_within 0 MAX_CHUNK_ID patch.chunk_id && is_within 0 MAX_CHUNK_ID patch.offset

-- the numbers are in their ranges, and the references have 64 bits
unfoldable pub are_raw_numbers : NamedRaw → Bool
are_raw_numbers raw =
    fits raw.writer && fits raw.buffer && is_within 0 MAX_CHUNK_ID raw.chunk_id && is_within 0 MAX_FRAGMENTS raw.count
    && is_within 0 MAX_FLAGS raw.flags && are_patch_numbers raw.patch
