-- The table of the tests is one page of 14 chunks.
use Rattle.std.proofs.Common.{◌≡◌, ℕ, zero, suc, ◌<◌, [], ◌∷◌, length, Some, slice_get, subst, sym, refl, ap, ◌∙◌, arith}
use Rattle.trace_base.specs.declared.policy.WriterSpec.{WriterSpec}
use Rattle.page_geometry.specs.Sizes.{payload_size, chunk_size}
use Rattle.page_geometry.specs.declared.geometry.Geometry.{Geometry}
use Rattle.chunk_plain.specs.declared.setup.ProducerSpec.{ProducerSpec}
use Rattle.chunk_plain.specs.Setup.{Setup, IsLaid, HasProducer, IsChunkOf, producer_of, from_of, size_of, spot}
use Rattle.chunk_plain.specs.Laying.{setup_of}
use Rattle.chunk_plain.specs.Views.{ServiceView, taken_of}
use Rattle.chunk_plain.specs.Words.{AllArrived}
use Rattle.chunk_plain.proofs.ArrivedLemmas.{first_arrived}
use Rattle.chunk_plain.specs.Plain.{first_world}
use Rattle.chunk_words.specs.declared.host.HostTable.{HostTable}
use Rattle.chunk_words.specs.declared.seats.ServiceSeat.{ServiceSeat}
use Rattle.chunk_words.specs.Knows.{service_of}
use Rattle.chunk_words.specs.Sits.{setup_in}
use Rattle.chunk_words_rows.specs.Page.{IsOnePage, HasTaken, HasTakenOf, page_spec}

-- the payload of each of its chunks
pub room : payload_size 4096 14 ≡ 284
unfolding payload_size chunk_size
room = refl

-- the set-up for one producer and two writers of it
abbrev pub page_setup : Geometry → WriterSpec → Setup
page_setup geometry spec = let one : ProducerSpec = record { pages = 1; geometry = geometry } in setup_of (one ∷ []) (spec ∷ spec ∷ [])

first_producer : (geometry : Geometry) (place : ℕ) → place < 2 → producer_of (page_setup geometry page_spec) place ≡ 1
first_producer geometry zero below = refl
first_producer geometry (suc zero) below = refl
first_producer geometry (suc (suc place)) below = absurd (omega arith)

first_from : (geometry : Geometry) (place : ℕ) → place < 2 → from_of (page_setup geometry page_spec) place ≡ 4294967000
first_from geometry zero below = refl
first_from geometry (suc zero) below = refl
first_from geometry (suc (suc place)) below = absurd (omega arith)

first_spec : (geometry : Geometry) (place : ℕ) → place < 2 → slice_get (page_setup geometry page_spec).writers place ≡ Some page_spec
first_spec geometry zero below = refl
first_spec geometry (suc zero) below = refl
first_spec geometry (suc (suc place)) below = absurd (omega arith)

own_chunk : (geometry : Geometry) (chunk : ℕ) → geometry.chunks ≡ 14 → chunk < 14 → IsChunkOf (page_setup geometry page_spec) 1 chunk
own_chunk geometry chunk many below = record { least = omega arith; below = omega (arith, many, below) }

pub one_page : (table : HostTable) (geometry : Geometry) → setup_in table ≡ page_setup geometry page_spec → geometry.page_size ≡ 4096
    → geometry.chunks ≡ 14 → IsOnePage table
one_page table geometry is size many =
    let own : (chunk : ℕ) → chunk < 14 → IsChunkOf (setup_in table) 1 chunk = λ chunk below. subst (λ (s : Setup). IsChunkOf s 1 chunk) (sym is) (own_chunk geometry chunk many below) in
    let laid : IsLaid (setup_in table) = table.laid in
    let sizes : (chunk : ℕ) → IsChunkOf (setup_in table) 1 chunk → (spot (setup_in table) chunk).payload_size ≡ 284 = λ chunk of. laid.sizes 1 chunk of
    ∙ (ap (λ (s : Setup). size_of s 1) is ∙ (ap (λ n. payload_size n geometry.chunks) size ∙ (ap (λ n. payload_size 4096 n) many ∙ room))) in
    record {
      chunks = λ chunk place inside below.
          let one : producer_of (setup_in table) place ≡ 1 = ap (λ (s : Setup). producer_of s place) is ∙ first_producer geometry place inside in
          subst (λ p. IsChunkOf (setup_in table) p chunk) (sym one) (own chunk below);
      inside = λ chunk below. let all = laid.ranges 1 in let here = (own chunk below).below in omega (arith, all, here);
      size = λ chunk below. sizes chunk (own chunk below);
      writers = ap (λ (s : Setup). length s.writers) is;
      specs = λ place below. ap (λ (s : Setup). slice_get s.writers place) is ∙ first_spec geometry place below;
      producer = subst (λ (s : Setup). HasProducer s 1) (sym is) (record { least = omega arith; most = omega arith });
      producers = λ place below. ap (λ (s : Setup). producer_of s place) is ∙ first_producer geometry place below;
      froms = λ place below. ap (λ (s : Setup). from_of s place) is ∙ first_from geometry place below;
      sizes = sizes;
    }

pub none_taken_yet : (table : HostTable) (seat : ServiceSeat) (geometry : Geometry) (spec : WriterSpec) → setup_in table ≡ page_setup geometry spec
    → service_of seat.seat.me.0 ≡ (first_world (setup_in table)).service → HasTaken 0 seat
none_taken_yet table seat geometry spec is first = record {
  count_is = ap (λ (v : ServiceView). (taken_of v 0).count) first ∙ ap (λ (s : Setup). (taken_of (first_world s).service 0).count) is;
  none_out = ap (λ (v : ServiceView). v.reading) first;
  arrived = subst AllArrived (sym first) (first_arrived (setup_in table));
}

pub neither_taken : (table : HostTable) (seat : ServiceSeat) (geometry : Geometry) (spec : WriterSpec) → setup_in table ≡ page_setup geometry spec
    → service_of seat.seat.me.0 ≡ (first_world (setup_in table)).service → HasTakenOf 0 0 seat
neither_taken table seat geometry spec is first = record {
  first_is = ap (λ (v : ServiceView). (taken_of v 0).count) first ∙ ap (λ (s : Setup). (taken_of (first_world s).service 0).count) is;
  second_is = ap (λ (v : ServiceView). (taken_of v 1).count) first ∙ ap (λ (s : Setup). (taken_of (first_world s).service 1).count) is;
  none_out = ap (λ (v : ServiceView). v.reading) first;
  arrived = subst AllArrived (sym first) (first_arrived (setup_in table));
}
