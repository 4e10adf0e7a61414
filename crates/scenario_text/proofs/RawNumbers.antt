-- The numbers of a line `raw`, in their ranges.
use Rattle.std.proofs.Common.{◌≡◌, ◌<◌, ◌≤◌, ◌^◌, true, Option, Some, None, arith}
use Rattle.trace_base.specs.declared.limits.TheConstants.{MAX_FRAGMENTS}
use Rattle.page_geometry.specs.declared.chunk_header.TheConstants.{MAX_FLAGS}
use Rattle.scenario_text.specs.declared.form.NamedPatch.{NamedPatch}
use Rattle.scenario_text.specs.declared.form.NamedRaw.{NamedRaw}
use Rattle.scenario_text.specs.declared.form.TheConstants.{MAX_CHUNK_ID}
use Rattle.scenario_text.specs.Ranges.{value, is_within}
use Rattle.scenario_text.specs.RawRanges.{are_patch_numbers, are_raw_numbers}
use Rattle.scenario_text.specs.RawChunks.{patch_asked}
use Rattle.scenario_text.specs.Reach.{IsPatch}
use Rattle.scenario_text.proofs.SoundLemmas.{both}
use Rattle.scenario_text.proofs.FrontLemmas.{within_most}

pub record AreSmall (raw : NamedRaw) : Type 0 where
  pub id : value raw.chunk_id ≤ MAX_CHUNK_ID
  pub count : value raw.count ≤ MAX_FRAGMENTS
  pub flags : value raw.flags ≤ MAX_FLAGS
  pub patch : are_patch_numbers raw.patch ≡ true

pub small_numbers : (raw : NamedRaw) → are_raw_numbers raw ≡ true → AreSmall raw
unfolding are_raw_numbers
small_numbers raw is =
    let last = both _ (are_patch_numbers raw.patch) is in
    let fifth = both _ (is_within 0 MAX_FLAGS raw.flags) last.0 in
    let fourth = both _ (is_within 0 MAX_FRAGMENTS raw.count) fifth.0 in
    let third = both _ (is_within 0 MAX_CHUNK_ID raw.chunk_id) fourth.0 in
    record {
      id = within_most 0 MAX_CHUNK_ID raw.chunk_id third.1;
      count = within_most 0 MAX_FRAGMENTS raw.count fourth.1;
      flags = within_most 0 MAX_FLAGS raw.flags fifth.1;
      patch = last.1;
    }

pub patch_id : (patch : NamedPatch) → are_patch_numbers (Some patch) ≡ true → value patch.chunk_id < 2 ^ 32
unfolding are_patch_numbers
patch_id patch is =
    let parts = both (is_within 0 MAX_CHUNK_ID patch.chunk_id) (is_within 0 MAX_CHUNK_ID patch.offset) is in
    omega (arith, within_most 0 MAX_CHUNK_ID patch.chunk_id parts.0)

pub patch_offset : (patch : NamedPatch) → are_patch_numbers (Some patch) ≡ true → value patch.offset < 2 ^ 32
unfolding are_patch_numbers
patch_offset patch is =
    let parts = both (is_within 0 MAX_CHUNK_ID patch.chunk_id) (is_within 0 MAX_CHUNK_ID patch.offset) is in
    omega (arith, within_most 0 MAX_CHUNK_ID patch.offset parts.1)

pub patch_fits : (patch : Option NamedPatch) → are_patch_numbers patch ≡ true → IsPatch (patch_asked patch)
unfolding patch_asked
patch_fits None is = tt
patch_fits (Some patch) is = (patch_id patch is, patch_offset patch is)
