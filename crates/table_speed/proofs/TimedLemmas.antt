-- The tables that are timed are those of their set-ups.
use Rattle.std.proofs.Common.{◌≡◌, ℕ, zero, suc, ◌+◌, ◌<◌, ◌≤◌, Bool, true, false, if◌then◌else◌, List, [], ◌∷◌, length, Some, slice_get, subst, sym, refl, ap, ◌∙◌, arith}
use Rattle.trace_base.specs.declared.policy.WriterSpec.{WriterSpec}
use Rattle.page_geometry.specs.Sizes.{payload_size, chunk_size}
use Rattle.page_geometry.specs.declared.geometry.Geometry.{Geometry}
use Rattle.chunk_plain.specs.declared.setup.ProducerSpec.{ProducerSpec}
use Rattle.chunk_plain.specs.Setup.{Setup, IsLaid, HasProducer, IsChunkOf, producer_of, from_of, range_of, size_of}
use Rattle.chunk_plain.specs.Laying.{setup_of}
use Rattle.chunk_plain.specs.Views.{ServiceView, Taken, taken_of}
use Rattle.chunk_plain.specs.Views as view
use Rattle.chunk_plain.specs.Words.{AllArrived}
use Rattle.chunk_plain.proofs.MadeLemmas.{all_same}
use Rattle.chunk_plain.proofs.ArrivedLemmas.{first_arrived}
use Rattle.chunk_plain.specs.Plain.{first_world}
use Rattle.chunk_words.specs.declared.host.HostTable.{HostTable}
use Rattle.chunk_words.specs.declared.seats.ServiceSeat.{ServiceSeat}
use Rattle.chunk_words.specs.Knows.{service_of}
use Rattle.chunk_words.specs.Sits.{setup_in}
use Rattle.table_speed.specs.Taking.{HasTakenNone}
use Rattle.table_speed.specs.Timed.{drops_for, WritesFor, IsTimed}

-- the payload of each chunk
pub room : payload_size 4096 14 ≡ 284
unfolding payload_size chunk_size
room = refl

pub room_of : (geometry : Geometry) → geometry.page_size ≡ 4096 → geometry.chunks ≡ 14 → payload_size geometry.page_size geometry.chunks ≡ 284
room_of geometry size many = ap (λ (n : ℕ). payload_size n geometry.chunks) size ∙ (ap (λ (n : ℕ). payload_size 4096 n) many ∙ room)

abbrev pages_of : ℕ → Geometry → ProducerSpec
pages_of pages geometry = record { pages = pages; geometry = geometry }

-- each writer has a producer of its own
abbrev pub own_producers : Geometry → List ProducerSpec
own_producers geometry = let four = pages_of 4 geometry in four ∷ four ∷ four ∷ four ∷ []

abbrev pub own_setup : Geometry → Setup
own_setup geometry = setup_of (own_producers geometry) (drops_for 1 ∷ drops_for 2 ∷ drops_for 3 ∷ drops_for 4 ∷ [])

-- all have one
abbrev pub shared_producers : Geometry → List ProducerSpec
shared_producers geometry = pages_of 16 geometry ∷ []

abbrev pub shared_setup : Geometry → Setup
shared_setup geometry = setup_of (shared_producers geometry) (drops_for 1 ∷ drops_for 1 ∷ drops_for 1 ∷ drops_for 1 ∷ [])

-- four specifications, one by one
pub four_drops : (a b c d : WriterSpec) (i j k l : ℕ) → a ≡ drops_for i → b ≡ drops_for j → c ≡ drops_for k → d ≡ drops_for l
    → a ∷ b ∷ c ∷ d ∷ [] ≡ drops_for i ∷ drops_for j ∷ drops_for k ∷ drops_for l ∷ []
four_drops a b c d i j k l first second third fourth =
    ap (λ (w : WriterSpec). w ∷ b ∷ c ∷ d ∷ []) first
    ∙ (ap (λ (w : WriterSpec). drops_for i ∷ w ∷ c ∷ d ∷ []) second
    ∙ (ap (λ (w : WriterSpec). drops_for i ∷ drops_for j ∷ w ∷ d ∷ []) third
    ∙ ap (λ (w : WriterSpec). drops_for i ∷ drops_for j ∷ drops_for k ∷ w ∷ []) fourth))

-- what a set-up says of a writer's place
record IsWriterOf (setup : Setup) (place producer : ℕ) : Type 0 where
  pub spec : slice_get setup.writers place ≡ Some (drops_for producer)
  pub least : 1 ≤ producer
  pub most : producer ≤ length setup.ranges
  pub producer_is : producer_of setup place ≡ producer
  pub from_is : from_of setup place ≡ 0
  pub size : size_of setup producer ≡ 284

writes_for : (table : HostTable) (place producer : ℕ) → IsWriterOf (setup_in table) place producer → WritesFor table place producer
writes_for table place producer is =
    let laid : IsLaid (setup_in table) = table.laid in
    let has : HasProducer (setup_in table) producer = record { least = is.least; most = is.most } in
    record {
      spec = is.spec;
      has_producer = has;
      producer_is = is.producer_is;
      from_is = is.from_is;
      some = laid.some producer has;
      inside = λ chunk of. let all = laid.ranges producer in let below = of.below in omega (arith, all, below);
      sizes = λ chunk of. laid.sizes producer chunk of ∙ is.size;
    }

own_writer : (geometry : Geometry) (place : ℕ) → geometry.page_size ≡ 4096 → geometry.chunks ≡ 14 → place < 4 → IsWriterOf (own_setup geometry) place (place + 1)
own_writer geometry zero size many below = record { spec = refl; least = omega arith; most = omega arith; producer_is = refl; from_is = refl; size = room_of geometry size many }
own_writer geometry (suc zero) size many below = record { spec = refl; least = omega arith; most = omega arith; producer_is = refl; from_is = refl; size = room_of geometry size many }
own_writer geometry (suc (suc zero)) size many below = record { spec = refl; least = omega arith; most = omega arith; producer_is = refl; from_is = refl; size = room_of geometry size many }
own_writer geometry (suc (suc (suc zero))) size many below = record { spec = refl; least = omega arith; most = omega arith; producer_is = refl; from_is = refl; size = room_of geometry size many }
own_writer geometry (suc (suc (suc (suc place)))) size many below = absurd (omega (arith, below))

shared_writer : (geometry : Geometry) (place : ℕ) → geometry.page_size ≡ 4096 → geometry.chunks ≡ 14 → place < 4 → IsWriterOf (shared_setup geometry) place 1
shared_writer geometry zero size many below = record { spec = refl; least = omega arith; most = omega arith; producer_is = refl; from_is = refl; size = room_of geometry size many }
shared_writer geometry (suc zero) size many below = record { spec = refl; least = omega arith; most = omega arith; producer_is = refl; from_is = refl; size = room_of geometry size many }
shared_writer geometry (suc (suc zero)) size many below = record { spec = refl; least = omega arith; most = omega arith; producer_is = refl; from_is = refl; size = room_of geometry size many }
shared_writer geometry (suc (suc (suc zero))) size many below = record { spec = refl; least = omega arith; most = omega arith; producer_is = refl; from_is = refl; size = room_of geometry size many }
shared_writer geometry (suc (suc (suc (suc place)))) size many below = absurd (omega (arith, below))

pub own_timed : (table : HostTable) (geometry : Geometry) (writers : List WriterSpec) → setup_in table ≡ setup_of (own_producers geometry) writers
    → writers ≡ drops_for 1 ∷ drops_for 2 ∷ drops_for 3 ∷ drops_for 4 ∷ [] → geometry.page_size ≡ 4096 → geometry.chunks ≡ 14 → IsTimed table true
own_timed table geometry writers was named size many =
    let is : setup_in table ≡ own_setup geometry = was ∙ ap (λ (ws : List WriterSpec). setup_of (own_producers geometry) ws) named in
    let laid : IsLaid (setup_in table) = table.laid in
    let last : (range_of (own_setup geometry) 4).first + (range_of (own_setup geometry) 4).count ≤ length (setup_in table).spots
    = subst (λ (s : Setup). (range_of s 4).first + (range_of s 4).count ≤ length (setup_in table).spots) is (laid.ranges 4) in
    record {
      writers = ap (λ (s : Setup). length s.writers) is;
      chunks = omega (arith, last, many);
      places = λ place below. writes_for table place (place + 1) (subst (λ (s : Setup). IsWriterOf s place (place + 1)) (sym is) (own_writer geometry place size many below));
    }

pub shared_timed : (table : HostTable) (geometry : Geometry) (writers : List WriterSpec) → setup_in table ≡ setup_of (shared_producers geometry) writers
    → writers ≡ drops_for 1 ∷ drops_for 1 ∷ drops_for 1 ∷ drops_for 1 ∷ [] → geometry.page_size ≡ 4096 → geometry.chunks ≡ 14 → IsTimed table false
shared_timed table geometry writers was named size many =
    let is : setup_in table ≡ shared_setup geometry = was ∙ ap (λ (ws : List WriterSpec). setup_of (shared_producers geometry) ws) named in
    let laid : IsLaid (setup_in table) = table.laid in
    let last : (range_of (shared_setup geometry) 1).first + (range_of (shared_setup geometry) 1).count ≤ length (setup_in table).spots
    = subst (λ (s : Setup). (range_of s 1).first + (range_of s 1).count ≤ length (setup_in table).spots) is (laid.ranges 1) in
    record {
      writers = ap (λ (s : Setup). length s.writers) is;
      chunks = omega (arith, last, many);
      places = λ place below. writes_for table place 1 (subst (λ (s : Setup). IsWriterOf s place 1) (sym is) (shared_writer geometry place size many below));
    }

-- nothing is taken at a table that nobody has used
pub none_taken : (table : HostTable) (seat : ServiceSeat) → service_of seat.seat.me.0 ≡ (first_world (setup_in table)).service → HasTakenNone seat
none_taken table seat first = record {
  counts_are = λ place below. ap (λ (v : ServiceView). (taken_of v place).count) first ∙ ap (λ (t : Taken). t.count) (all_same view.none_taken (setup_in table).writers place);
  none_out = ap (λ (v : ServiceView). v.reading) first;
  arrived = subst AllArrived (sym first) (first_arrived (setup_in table));
}

-- the first chunk of a writer's producer
pub first_chunk : (table : HostTable) (place producer : ℕ) → WritesFor table place producer → IsChunkOf (setup_in table) producer (range_of (setup_in table) producer).first
first_chunk table place producer writes = record { least = omega arith; below = let some = writes.some in omega (arith, some) }

-- the writer whose seat comes behind so many others
pub writes_at : (table : HostTable) (own : Bool) (place before producer : ℕ) → IsTimed table own → place ≡ before → before < 4
    → producer ≡ (if own then before + 1 else 1) → WritesFor table place producer
writes_at table own place before producer timed same few named =
    subst (λ (at : ℕ). WritesFor table at producer) (sym same) (subst (λ (p : ℕ). WritesFor table before p) (sym named) (timed.places before few))
