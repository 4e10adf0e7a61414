-- The chunks of a table for one producer all have its payload size.
use Rattle.std.proofs.Common.{◌≡◌, ◌∙◌, ℕ, zero, suc, ◌+◌, ◌*◌, ◌<◌, List, [], ◌∷◌, ◌++◌, length, get_or, refl, sym, ap, arith, length-append}
use Rattle.trace_base.specs.declared.policy.WriterSpec.{WriterSpec}
use Rattle.page_geometry.specs.Sizes.{payload_size}
use Rattle.page_geometry.specs.declared.geometry.Geometry.{Geometry}
use Rattle.chunk_plain.specs.declared.setup.ProducerSpec.{ProducerSpec}
use Rattle.chunk_plain.specs.declared.setup.Spot.{Spot}
use Rattle.chunk_plain.specs.declared.setup.ChunkRange.{ChunkRange}
use Rattle.claim_arbiter.specs.declared.arbiter.Arbiter.{Arbiter}
use Rattle.claim_arbiter.specs.Claiming.{range_in}
use Rattle.chunk_plain.specs.Setup.{spot, no_spot, IsChunkOf}
use Rattle.chunk_plain.specs.Laying.{spot_at, page_spots, pages_spots, setup_of}
use Rattle.chunk_plain.proofs.LayingLemmas.{length-pages_spots}

abbrev AllSized : ℕ → List Spot → Type 0
AllSized size [] = Unit {0}
AllSized size (one ∷ spots) = (one.payload_size ≡ size) × AllSized size spots

sized_behind : (size : ℕ) (front rest : List Spot) → AllSized size front → AllSized size rest → AllSized size (front ++ rest)
sized_behind size [] rest f r = r
sized_behind size (one ∷ front) rest f r = (f.0, sized_behind size front rest f.1 r)

sized_at : (size : ℕ) (spots : List Spot) (k : ℕ) → k < length spots → AllSized size spots → (get_or spots k no_spot).payload_size ≡ size
sized_at size [] k less h = absurd (omega (arith, less))
sized_at size (one ∷ spots) zero less h = h.0
sized_at size (one ∷ spots) (suc k) less h = sized_at size spots k (omega (arith, less)) h.1

page_sized : (page : ℕ) (geometry : Geometry) (n : ℕ) → AllSized (payload_size geometry.page_size geometry.chunks) (page_spots page geometry n)
page_sized page geometry zero = tt
page_sized page geometry (suc n) =
    sized_behind (payload_size geometry.page_size geometry.chunks) (page_spots page geometry n) (spot_at page n geometry ∷ []) (page_sized page geometry n) (refl, tt)

pages_sized : (page : ℕ) (geometry : Geometry) (n : ℕ) → AllSized (payload_size geometry.page_size geometry.chunks) (pages_spots page geometry n)
pages_sized page geometry zero = tt
pages_sized page geometry (suc n) =
    sized_behind (payload_size geometry.page_size geometry.chunks) (pages_spots page geometry n) (page_spots (page + n) geometry geometry.chunks)
    (pages_sized page geometry n) (page_sized (page + n) geometry geometry.chunks)

pub one_sized : (producer : ProducerSpec) (writers : List WriterSpec) (chunk : ℕ) → IsChunkOf (setup_of (producer ∷ []) writers) 1 chunk
    → (spot (setup_of (producer ∷ []) writers) chunk).payload_size ≡ payload_size producer.geometry.page_size producer.geometry.chunks
one_sized producer writers chunk inside =
    let spots : List Spot = pages_spots 0 producer.geometry producer.pages in
    let many : length (spots ++ []) ≡ producer.pages * producer.geometry.chunks =
    omega (arith, length-append spots [], length-pages_spots 0 producer.geometry producer.pages) in
    sized_at (payload_size producer.geometry.page_size producer.geometry.chunks) (spots ++ []) chunk (omega (arith, inside.below, many))
    (sized_behind (payload_size producer.geometry.page_size producer.geometry.chunks) spots [] (pages_sized 0 producer.geometry producer.pages) tt)

-- an arbiter for a producer's chunks
pub range_is : (arbiter : Arbiter) (range : ChunkRange) → arbiter.first ≡ range.first → arbiter.chunks ≡ range.count → range ≡ range_in arbiter
range_is arbiter range first count =
    ap (λ (n : ℕ). record range { first = n }) (sym first) ∙ ap (λ (n : ℕ). record range { first = arbiter.first; count = n }) (sym count)
