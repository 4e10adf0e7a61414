-- Where a writer writes: the set-up of its table, its place there, its buffer, the size of its chunks' payloads, and what it
-- does where no chunk is free.
use Rattle.std.specs.Prelude.{◌≡◌, ℕ, ◌≤◌, Some, slice_get}
use Rattle.page_geometry.specs.declared.geometry.TheConstants.{MIN_PAYLOAD_SIZE}
use Rattle.trace_base.specs.declared.limits.TheConstants.{MAX_PAGE_SIZE}
use Rattle.trace_base.specs.declared.policy.WriterPolicy.{WriterPolicy}
use Rattle.chunk_plain.specs.Setup.{Setup, spot, range_of, producer_of, HasProducer, IsChunkOf}
use Rattle.claim_arbiter.specs.Claiming.{range_in}
use Rattle.trace_writer.specs.declared.route.Route.{Route}

-- where a writer writes
pub record Site : Type 0 where
  pub setup : Setup
  pub place : ℕ
  pub buffer : ℕ
  pub size : ℕ
  pub policy : WriterPolicy

-- the site of a writer's route
abbrev pub site_of : Setup → ℕ → Route → Site
site_of setup place route = record { setup = setup; place = place; buffer = route.spec.buffer; size = route.payload_size; policy = route.spec.policy }

-- The route is that of the writer at this place: its spec, and its producer's chunks, whose payloads all have one size.
pub record IsRoute (setup : Setup) (place : ℕ) (route : Route) : Type 0 where
  pub spec : slice_get setup.writers place ≡ Some route.spec
  pub producer : HasProducer setup route.spec.producer
  pub range : range_of setup (producer_of setup place) ≡ range_in route.arbiter
  pub sizes : (chunk : ℕ) → IsChunkOf setup (producer_of setup place) chunk → (spot setup chunk).payload_size ≡ route.payload_size
  pub least : MIN_PAYLOAD_SIZE ≤ route.payload_size
  pub most : route.payload_size ≤ MAX_PAGE_SIZE
