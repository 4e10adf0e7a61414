-- What the sizes of a geometry come to: how small and how large they are, and where the chunks lie.
use Rattle.std.proofs.Common.{ℕ, zero, suc, ◌+◌, ◌*◌, ◌<◌, ◌≤◌, subst, le_refl, arith}
use Rattle.std.proofs.Math.Logic.{∥∥₁_elim}
use Rattle.std.proofs.lemmas.Nat.{mul-le}
use Rattle.std.specs.Coded.{le_prop}
use Rattle.page_geometry.specs.declared.geometry.Geometry.{Geometry}
use Rattle.page_geometry.specs.Sizes.{IsPageSize, IsChunkCount, AreApart, chunk_size, chunk_place, payload_size}

-- what holds of each layout's number of chunks holds of all of them
each_count : (P : ℕ → Type 0) (chunks : ℕ) → IsChunkCount chunks → P 1 → P 2 → P 4 → P 7 → P 14 → P chunks
each_count P chunks (zero, _, is) one two four seven fourteen = subst P is one
each_count P chunks (suc zero, _, is) one two four seven fourteen = subst P is two
each_count P chunks (suc (suc zero), _, is) one two four seven fourteen = subst P is four
each_count P chunks (suc (suc (suc zero)), _, is) one two four seven fourteen = subst P is seven
each_count P chunks (suc (suc (suc (suc zero))), _, is) one two four seven fourteen = subst P is fourteen
each_count P chunks (suc (suc (suc (suc (suc _)))), inside, _) one two four seven fourteen = absurd (omega (arith, inside))

-- the least chunk is that of 14 in 4,096 bytes, and all chunks lie inside the page
abbrev FitInside : ℕ → ℕ → Type 0
FitInside page_size chunks = (292 ≤ chunk_size page_size chunks) × (8 + chunks * chunk_size page_size chunks ≤ page_size) × (1 ≤ chunks)

fit_inside : (page_size chunks : ℕ) → IsPageSize page_size → IsChunkCount chunks → FitInside page_size chunks
unfolding chunk_size
fit_inside page_size chunks sized counted =
    each_count
    (FitInside page_size)
    chunks
    counted
    (omega arith, omega arith, omega arith)
    (omega arith, omega arith, omega arith)
    (omega arith, omega arith, omega arith)
    (omega arith, omega arith, omega arith)
    (omega arith, omega arith, omega arith)

geometry_fits : (geometry : Geometry) → FitInside geometry.page_size geometry.chunks
geometry_fits geometry = ∥∥₁_elim geometry.counted (hlevel le_prop) (fit_inside geometry.page_size geometry.chunks geometry.sized)

-- a chunk whose number is below the count ends inside the page
inside_page : (page_size chunks chunk : ℕ) → FitInside page_size chunks → chunk < chunks → chunk_place page_size chunks chunk + chunk_size page_size chunks ≤ page_size
unfolding chunk_place
inside_page page_size chunks chunk fits below =
    let size = chunk_size page_size chunks in
    omega (arith, mul-le (chunk + 1) size chunks size (omega arith) (le_refl size))

pub are_apart : (page_size chunks : ℕ) → IsPageSize page_size → IsChunkCount chunks → AreApart page_size chunks
unfolding chunk_place
are_apart page_size chunks sized counted =
    let size = chunk_size page_size chunks in
    record {
      first = omega arith;
      next = λ chunk. omega arith;
      apart = λ chunk later below. omega (arith, mul-le (chunk + 1) size later size (omega arith) (le_refl size));
      inside = λ chunk below. inside_page page_size chunks chunk (fit_inside page_size chunks sized counted) below;
    }

-- ---- of each geometry

pub chunk_inside : (geometry : Geometry) (chunk : ℕ) → chunk < geometry.chunks → chunk_place geometry.page_size geometry.chunks chunk + chunk_size geometry.page_size geometry.chunks ≤ geometry.page_size
chunk_inside geometry chunk below = inside_page geometry.page_size geometry.chunks chunk (geometry_fits geometry) below

pub chunk_size_least : (geometry : Geometry) → 292 ≤ chunk_size geometry.page_size geometry.chunks
chunk_size_least geometry = (geometry_fits geometry).0

pub payload_size_least : (geometry : Geometry) → 284 ≤ payload_size geometry.page_size geometry.chunks
unfolding payload_size
payload_size_least geometry = omega (arith, geometry_fits geometry)

-- header, payload and page header fit into the page
pub payload_size_most : (geometry : Geometry) → payload_size geometry.page_size geometry.chunks ≤ 65520
unfolding payload_size
payload_size_most geometry =
    let size = chunk_size geometry.page_size geometry.chunks in
    omega (arith, geometry_fits geometry, geometry.sized.most, mul-le 1 size geometry.chunks size (omega (arith, geometry_fits geometry)) (le_refl size))
