-- A writer's image reads as the fragments that it wrote.
use Rattle.std.proofs.Common.{◌≡◌, ◌∙◌, ℕ, suc, ◌+◌, ◌<◌, ◌≤◌, Bool, true, false, List, [], ◌∷◌, ◌++◌, length, refl, sym, ap, subst, arith, length-append, inl, inr}
use Rattle.std.specs.Prelude.{cond, ◌==◌}
use Rattle.std.proofs.lemmas.List.{append-nil}
use Rattle.wire_varint.specs.Varint.{redundant}
use Rattle.wire_varint.proofs.Varints.{redundant_is_varint}
use Rattle.wire_varint.proofs.Lengths.{length-redundant}
use Rattle.trace_model.specs.Images.{Fragment, Patch, patched_last}
use Rattle.trace_model.specs.Fragments.{drop_mark, drop_size, IsSize, ReadsOne, ReadsFrom}
use Rattle.trace_model.specs.Pages.{framed, laid, fragments_from, Page, images_from}
use Rattle.trace_model.specs.Written.{settled_fragments}
use Rattle.trace_model.specs.ReadingLaws.{PagesReadAsWritten}

-- the four bytes in front of a fragment are its size
written_size : (n : ℕ) → n < drop_size → IsSize (redundant n) n
written_size n h =
    let is = redundant_is_varint n (omega (arith, h)) in
    record { whole = is.whole; most = omega (arith, length-redundant n); value = is.value }

-- a fragment of a writer, and what is behind it
reads_framed : (at : ℕ) (bytes rest : List ℕ) → length (framed bytes ++ rest) < drop_size
    → ReadsOne at (framed bytes ++ rest) (record { bytes = bytes; dropped = false; offset = at + 4 }) rest
reads_framed at bytes rest h = record {
  size = redundant (length bytes);
  is_size = written_size (length bytes) few;
  cut = refl;
  offset = ap (λ (n : ℕ). at + n) (sym (length-redundant (length bytes)));
  kept = refl;
  unmarked = few;
}
  where
    few : length bytes < drop_size
    few = omega (arith, h, length-append (framed bytes) rest, length-append (redundant (length bytes)) bytes)

less_behind : (bytes rest : List ℕ) → length (framed bytes ++ rest) < drop_size → length rest < drop_size
less_behind bytes rest h = omega (arith, h, length-append (framed bytes) rest)

-- a fragment, and then others
reads_more : (at : ℕ) (bytes : List ℕ) (fragment : Fragment) (rest : List ℕ) (others : List Fragment) → ReadsOne at bytes fragment rest
    → ReadsFrom (fragment.offset + length fragment.bytes) rest others → ReadsFrom at bytes (fragment ∷ others)
reads_more at bytes fragment rest [] h k = absurd k
reads_more at bytes fragment rest (next ∷ others) h k = (rest, h, k)

reads_kept : (bytes : List ℕ) (others : List (List ℕ)) (at : ℕ) (rest : List ℕ) → length (laid false (bytes ∷ others) rest) < drop_size
    → ReadsFrom at (laid false (bytes ∷ others) rest) (fragments_from (at + 4) false (bytes ∷ others))
reads_kept bytes [] at rest h = inr (rest, reads_framed at bytes rest h)
reads_kept bytes (next ∷ others) at rest h =
    let behind : List ℕ = laid false (next ∷ others) rest in
    reads_more at (framed bytes ++ behind) (record { bytes = bytes; dropped = false; offset = at + 4 }) behind
    (fragments_from (at + 4 + length bytes + 4) false (next ∷ others)) (reads_framed at bytes behind h)
    (reads_kept next others (at + 4 + length bytes) rest (less_behind bytes behind h))

reads_marked : (bytes : List ℕ) (others : List (List ℕ)) (at : ℕ) → length (laid true (bytes ∷ others) []) < drop_size
    → ReadsFrom at (laid true (bytes ∷ others) []) (fragments_from (at + 4) true (bytes ∷ others))
reads_marked bytes [] at h = inl (record {
  cut = append-nil (drop_mark ++ bytes);
  offset = refl;
  dropped = refl;
})
reads_marked bytes (next ∷ others) at h =
    let behind : List ℕ = laid true (next ∷ others) [] in
    reads_more at (framed bytes ++ behind) (record { bytes = bytes; dropped = false; offset = at + 4 }) behind
    (fragments_from (at + 4 + length bytes + 4) true (next ∷ others)) (reads_framed at bytes behind h)
    (reads_marked next others (at + 4 + length bytes) (less_behind bytes behind h))

reads_page : (dropped : Bool) (fragments : List (List ℕ)) (rest : List ℕ) (size : ℕ) → size < drop_size → 1 ≤ length fragments → length (laid dropped fragments rest) ≡ size
    → (dropped ≡ true → rest ≡ []) → ReadsFrom 0 (laid dropped fragments rest) (fragments_from 4 dropped fragments)
reads_page dropped [] rest size small some full none = absurd (omega (arith, some))
reads_page false (bytes ∷ others) rest size small some full none =
    reads_kept bytes others 0 rest (subst (λ (n : ℕ). n < drop_size) (sym full) small)
reads_page true (bytes ∷ others) rest size small some full none =
    subst (λ (xs : List ℕ). ReadsFrom 0 (laid true (bytes ∷ others) xs) (fragments_from 4 true (bytes ∷ others))) (sym (none refl))
    (reads_marked bytes others 0 (subst (λ (xs : List ℕ). length (laid true (bytes ∷ others) xs) < drop_size) (none refl) (subst (λ (n : ℕ). n < drop_size) (sym full) small)))

pub pages_read_as_written : PagesReadAsWritten
pages_read_as_written size page small full =
    reads_page page.dropped page.fragments page.rest size small full.some full.whole (λ e. (full.dropped e).1)

-- How many fragments a page and a patched chunk have

pub same_long : (fragments : List Fragment) (patch : Patch) → length (patched_last patch fragments) ≡ length fragments
same_long [] patch = refl
same_long (fragment ∷ []) patch = refl
same_long (fragment ∷ next ∷ others) patch = ap suc (same_long (next ∷ others) patch)

pub settled_long : (patches : List Patch) (chunk_id : ℕ) (fragments : List Fragment) → length (settled_fragments patches chunk_id fragments) ≡ length fragments
settled_long [] chunk_id fragments = refl
settled_long (patch ∷ others) chunk_id fragments =
    settled_long others chunk_id (cond (patch.chunk_id == chunk_id) (patched_last patch fragments) fragments)
    ∙ step (patch.chunk_id == chunk_id)
  where
    step : (b : Bool) → length (cond b (patched_last patch fragments) fragments) ≡ length fragments
    step true = same_long fragments patch
    step false = refl

pub fragments_long : (at : ℕ) (dropped : Bool) (fragments : List (List ℕ)) → length (fragments_from at dropped fragments) ≡ length fragments
fragments_long at dropped [] = refl
fragments_long at dropped (bytes ∷ []) = refl
fragments_long at dropped (bytes ∷ next ∷ others) = ap suc (fragments_long (at + length bytes + 4) dropped (next ∷ others))

-- each page has one image
pub images_long : (sequence chunk_id : ℕ) (pages : List Page) → length (images_from sequence chunk_id pages) ≡ length pages
images_long sequence chunk_id [] = refl
images_long sequence chunk_id (page ∷ pages) = ap suc (images_long sequence (suc chunk_id) pages)
