-- The chains of a writer's pages with all patches put in are those before any patch, with the patches put into each.
use Rattle.std.proofs.Common.{◌≡◌, ◌∙◌, ℕ, suc, ◌+◌, ◌==◌, true, false, ◌&&◌, IsTrue, List, [], ◌∷◌, map, length, reverse, Option, Some, None, slice_get, refl, sym, ap, subst, arith}
use Rattle.std.specs.List.{list_all}
use Rattle.std.proofs.lemmas.Bool.{eqb-true, and_parts, true≢false}
use Rattle.std.proofs.lemmas.Simd.{map-map}
use Rattle.trace_model.specs.Images.{Fragment, Patch, last_holds}
use Rattle.trace_model.specs.Pages.{Page, fragments_from, patches_of}
use Rattle.trace_model.specs.Row.{Piece, Chain, Link, chunk_links, row_of}
use Rattle.trace_model.specs.Sent.{is_placed, is_placed_in}
use Rattle.trace_model.specs.Written.{written_slots, chains_in, chains_of}
use Rattle.cut_steps.specs.Pending.{AllHaveFour}
use Rattle.cut_steps.specs.RawChains.{placeless, chains_with, raw_chains, settled_piece, settled_chain}
use Rattle.cut_steps.proofs.RowSteps.{chunk_with, row}
use Rattle.cut_steps.proofs.ChangedRow.{with_other, fragment_with_other, chain_with_other, links_with_other, chunk-other, chains-other, reverse-map}
use Rattle.cut_steps.proofs.SamePlaces.{map_same}
use Rattle.cut_steps.proofs.SettledFragments.{settled_in_chunk, settled-piece, settled-bytes, HeldBy, settled-page}

-- Where the patches lie

placed-parts : (page : Page) (patch : Patch) → is_placed_in (Some page) patch ≡ true
    → (last_holds (fragments_from 4 page.dropped page.fragments) patch ≡ true) × (length patch.bytes ≡ 4)
placed-parts page patch h =
    let parts = and_parts (page.awaits && last_holds (fragments_from 4 page.dropped page.fragments) patch) (length patch.bytes == 4) h in
    ((and_parts page.awaits (last_holds (fragments_from 4 page.dropped page.fragments) patch) parts.0).1, eqb-true (length patch.bytes) 4 parts.1)

placed-four : (found : Option Page) (patch : Patch) → is_placed_in found patch ≡ true → length patch.bytes ≡ 4
placed-four None patch h = absurd (true≢false (sym h))
placed-four (Some page) patch h = (placed-parts page patch h).1

pub all_placed-four : (patches : List Patch) (pages : List Page) → IsTrue (list_all (is_placed pages) patches) → AllHaveFour patches
all_placed-four [] pages h = tt
all_placed-four (patch ∷ patches) pages h =
    let parts = and_parts (is_placed pages patch) (list_all (is_placed pages) patches) h in
    (placed-four (slice_get pages patch.chunk_id) patch parts.0, all_placed-four patches pages parts.1)

held-in-page : (patches : List Patch) (pages : List Page) (page : Page) (chunk_id : ℕ) → slice_get pages chunk_id ≡ Some page
    → IsTrue (list_all (is_placed pages) patches) → HeldBy patches chunk_id (fragments_from 4 page.dropped page.fragments)
held-in-page [] pages page chunk_id e h = tt
held-in-page (patch ∷ patches) pages page chunk_id e h =
    let parts = and_parts (is_placed pages patch) (list_all (is_placed pages) patches) h in (
      (
        λ c. (placed-parts page patch (subst (λ (o : Option Page). is_placed_in o patch ≡ true) (ap (slice_get pages) c ∙ e) parts.0)).0,
        placed-four (slice_get pages patch.chunk_id) patch parts.0,
      ),
      held-in-page patches pages page chunk_id e parts.1,
    )

-- The row

-- the bytes of a fragment once these patches are put in
abbrev settled_with : List Patch → ℕ → Fragment → List ℕ
settled_with patches chunk_id fragment = (settled_in_chunk patches chunk_id fragment).bytes

row-settled : (pages : List Page) (chunk_id : ℕ) (whole : List Page) (patches : List Patch)
    → ((k : ℕ) → slice_get whole (chunk_id + k) ≡ slice_get pages k) → IsTrue (list_all (is_placed whole) patches)
    → row_of false chunk_id 0 (written_slots patches chunk_id pages) ≡ links_with_other (settled_with patches) (row_of false chunk_id 0 (written_slots [] chunk_id pages))
row-settled [] chunk_id whole patches at h = refl
row-settled (page ∷ pages) chunk_id whole patches at h =
    let before : List Fragment = fragments_from 4 page.dropped page.fragments in
    let after : List Fragment = map (fragment_with_other (settled_with patches) chunk_id) before in
    let held : HeldBy patches chunk_id before = held-in-page patches whole page chunk_id (ap (slice_get whole) (omega arith) ∙ at 0) h in
    ap (λ (fs : List Fragment). chunk_links false chunk_id (chunk_with page.continues page.runs_on fs) 0 fs (row_of false (suc chunk_id) 0 (written_slots patches (suc chunk_id) pages)))
    (settled-page patches chunk_id 4 page.dropped page.fragments held
    ∙ map_same (settled_in_chunk patches chunk_id) (fragment_with_other (settled_with patches) chunk_id) (settled-bytes patches chunk_id) before)
    ∙ ap (chunk_links false chunk_id (chunk_with page.continues page.runs_on after) 0 after)
    (row-settled pages (suc chunk_id) whole patches (λ k. ap (slice_get whole) (omega arith) ∙ at (suc k)) h)
    ∙ chunk-other before (settled_with patches) chunk_id 0 page.continues page.runs_on before after (row_of false (suc chunk_id) 0 (written_slots [] (suc chunk_id) pages))

-- The chains

settled-other : (patches : List Patch) (piece : Piece) → with_other (settled_with patches) piece ≡ settled_piece patches piece
settled-other patches piece =
    ap (λ (f : Fragment). record piece { fragment = f }) (sym (settled-bytes patches piece.at.chunk_id piece.fragment))
    ∙ sym (settled-piece patches piece)

chain-settled : (patches : List Patch) (chain : Chain) → placeless (chain_with_other (settled_with patches) chain) ≡ settled_chain patches (placeless chain)
chain-settled patches chain =
    ap (λ (pieces : List Piece). record (placeless chain) { pieces = pieces }) (map_same (with_other (settled_with patches)) (settled_piece patches) (settled-other patches) chain.pieces)

pub chains_settled : (pages : List Page) (patches : List Patch) → IsTrue (list_all (is_placed pages) patches)
    → map placeless (chains_with patches pages) ≡ map (settled_chain patches) (raw_chains pages)
chains_settled pages patches h =
    let links : List Link = row pages in
    let chains : List Chain = reverse (chains_in links) in
    ap (λ (ls : List Link). map placeless (reverse (chains_in ls))) (row-settled pages 0 pages patches (λ k. ap (slice_get pages) (omega arith)) h)
    ∙ ap (λ (cs : List Chain). map placeless (reverse cs)) (chains-other links (settled_with patches))
    ∙ ap (map placeless) (reverse-map (chain_with_other (settled_with patches)) (chains_in links))
    ∙ map-map placeless (chain_with_other (settled_with patches)) chains
    ∙ map_same (λ (c : Chain). placeless (chain_with_other (settled_with patches) c)) (λ (c : Chain). settled_chain patches (placeless c)) (chain-settled patches) chains
    ∙ sym (map-map (settled_chain patches) placeless chains)

-- the chains with all patches put in
pub chains_of-settled : (pages : List Page) → IsTrue (list_all (is_placed pages) (patches_of pages))
    → map placeless (chains_of pages) ≡ map (settled_chain (patches_of pages)) (raw_chains pages)
chains_of-settled pages h = chains_settled pages (patches_of pages) h
