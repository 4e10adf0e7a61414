-- A writer as it begins, at a table of one page that nobody has used.
use Rattle.std.proofs.Common.{◌≡◌, ◌∙◌, ℕ, ◌<◌, Some, List, [], ◌∷◌, Option, slice_get, unwrap_or, sym, ap, subst, arith}
use Rattle.std.proofs.lemmas.List.{get_or_append_left}
use Rattle.trace_base.specs.declared.policy.WriterSpec.{WriterSpec}
use Rattle.trace_base.specs.declared.policy.WriterPolicy.TheVariants.{Drops}
use Rattle.page_geometry.specs.Sizes.{payload_size}
use Rattle.page_geometry.specs.declared.geometry.Geometry.{Geometry}
use Rattle.chunk_plain.specs.declared.setup.ProducerSpec.{ProducerSpec}
use Rattle.chunk_plain.specs.declared.setup.Spot.{Spot}
use Rattle.chunk_plain.specs.Setup.{Setup, no_spot, spot, range_of, producer_of, HasProducer, IsChunkOf}
use Rattle.chunk_plain.specs.Laying.{setup_of, page_spots}
use Rattle.chunk_plain.specs.Views.{WriterView, newcomer}
use Rattle.chunk_plain.specs.World.{World, writer}
use Rattle.chunk_plain.specs.Plain.{first_world}
use Rattle.chunk_plain.specs.declared.plain_seats.PlainWriter.{PlainWriter}
use Rattle.chunk_plain.proofs.LayingLemmas.{length-page_spots, page_sized}
use Rattle.claim_arbiter.specs.declared.arbiter.Arbiter.{Arbiter}
use Rattle.claim_arbiter.specs.Claiming.{range_in}
use Rattle.trace_writer.specs.declared.writer.WriterCore.{WriterCore}
use Rattle.trace_writer.specs.Core.{CoreAgrees, route_of}

abbrev pub one_page : Geometry → List ProducerSpec
one_page geometry = record { pages = 1; geometry = geometry } ∷ []

abbrev pub one_writer : WriterSpec
one_writer = record { producer = 1; buffer = 1; policy = Drops; from = 0 }

abbrev pub fresh_setup : Geometry → Setup
fresh_setup geometry = setup_of (one_page geometry) (one_writer ∷ [])

fresh_payload : (geometry : Geometry) (chunk : ℕ) → IsChunkOf (fresh_setup geometry) 1 chunk
    → (spot (fresh_setup geometry) chunk).payload_size ≡ payload_size geometry.page_size geometry.chunks
fresh_payload geometry chunk inside =
    let one = page_spots 0 geometry geometry.chunks in
    let below : chunk < geometry.chunks = (let b = inside.below in omega (arith, b)) in
    ap (λ (s : Spot). s.payload_size) (get_or_append_left one [] no_spot chunk (let long = length-page_spots 0 geometry geometry.chunks in omega (arith, long, below)))
    ∙ page_sized 0 geometry geometry.chunks chunk below

pub first_agrees : (setup : Setup) (world : World) (geometry : Geometry) (arbiter : Arbiter) (core : WriterCore PlainWriter)
    → setup ≡ fresh_setup geometry → world ≡ first_world (fresh_setup geometry) → range_of setup 1 ≡ range_in arbiter
    → ((s : Setup) (place : ℕ) → slice_get s.writers place ≡ Some one_writer
    → HasProducer s one_writer.producer → range_of s (producer_of s place) ≡ range_in arbiter
    → ((chunk : ℕ) → IsChunkOf s (producer_of s place) chunk → (spot s chunk).payload_size ≡ payload_size geometry.page_size geometry.chunks)
    → CoreAgrees s place newcomer core)
    → CoreAgrees setup 0 (writer world 0) core
first_agrees setup world geometry arbiter core is world_is range agrees =
    subst (λ (w : World). CoreAgrees setup 0 (writer w 0) core) (sym world_is)
    (agrees setup 0
    (ap (λ (s : Setup). slice_get s.writers 0) is)
    (subst (λ (s : Setup). HasProducer s 1) (sym is) (record { least = omega arith; most = omega arith }))
    (ap (λ (s : Setup). range_of setup (producer_of s 0)) is ∙ range)
    (λ chunk inside. ap (λ (s : Setup). (spot s chunk).payload_size) is
    ∙ fresh_payload geometry chunk (subst (λ (s : Setup). IsChunkOf s (producer_of s 0) chunk) is inside)))

-- and it drops packets
pub first_drops : (setup : Setup) (geometry : Geometry) (view : WriterView) (core : WriterCore PlainWriter)
    → setup ≡ fresh_setup geometry → CoreAgrees setup 0 view core → (route_of core).spec.policy ≡ Drops
first_drops setup geometry view core is agrees =
    ap (λ (o : Option WriterSpec). (unwrap_or o one_writer).policy) (sym agrees.writes.route.spec ∙ ap (λ (s : Setup). slice_get s.writers 0) is)
