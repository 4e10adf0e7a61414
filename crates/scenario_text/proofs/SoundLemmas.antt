-- What the tests of the set-up mean, and how they stay true.
use Rattle.std.proofs.Common.{◌≡◌, ℕ, zero, suc, ◌-◌, ◌%◌, ◌≤◌, nat_eq, nat_le, Bool, true, false, cond, ◌&&◌, List, [], ◌∷◌, ◌++◌, Option, Some, None, slice_get, slice_set, refl, arith}
use Rattle.std.specs.List.{list_all, list_any}
use Rattle.std.specs.Option.{unwrap_or}
use Rattle.std.proofs.lemmas.Grind.{common_steps}
use Rattle.std.proofs.lemmas.Map.Views.{Contains-from_any}
use Rattle.page_geometry.specs.Sizes.{IsPageSize, IsChunkCount}
use Rattle.page_geometry.specs.declared.geometry.TheConstants.{CHUNK_COUNTS}
use Rattle.trace_base.specs.declared.limits.TheConstants.{MAX_NESTING, MAX_PAGE_SIZE, PAGE_SIZE_UNIT}
use Rattle.scenario_text.specs.declared.scenario.ProducerLine.{ProducerLine}
use Rattle.trace_base.specs.declared.numeral.Numeral.{Numeral}
use Rattle.trace_base.specs.declared.numeral.Numeral.TheVariants.{Fits, TooLarge}
use Rattle.scenario_text.specs.Items.{item, with_item}
use Rattle.scenario_text.specs.Ranges.{is_page_size, is_chunk_count}
use Rattle.scenario_text.specs.declared.open_packet.OpenPacket.{OpenPacket}
use Rattle.scenario_text.specs.Sound.{is_cut, is_shallow}
use Rattle.scenario_text.specs.State.{nesting_of}

pub both : (a b : Bool) → a && b ≡ true → (a ≡ true) × (b ≡ true)
both true b h = (refl, h)
both false b h = cc

pub cut_pages : (producer : ProducerLine) → is_cut producer ≡ true → IsPageSize producer.page_size
unfolding is_cut is_page_size
cut_pages producer cut =
    let size : ℕ = producer.page_size in
    let whole : Bool = nat_eq (size % PAGE_SIZE_UNIT) 0 in
    let least : Bool = nat_le PAGE_SIZE_UNIT size in
    let most : Bool = nat_le size MAX_PAGE_SIZE in
    let parts = both (whole && least && most) (is_chunk_count producer.chunks) cut in
    let of_size = both (whole && least) most parts.0 in
    let low = both whole least of_size.0 in
    record {
      whole = grind (arith, common_steps, low.0);
      least = grind (arith, common_steps, low.1);
      most = grind (arith, common_steps, of_size.1);
    }

pub cut_chunks : (producer : ProducerLine) → is_cut producer ≡ true → IsChunkCount producer.chunks
unfolding is_cut is_chunk_count
cut_chunks producer cut =
    let parts = both (is_page_size producer.page_size) (list_any (nat_eq producer.chunks) CHUNK_COUNTS) cut in
    Contains-from_any {eq = nat_eq} (λ x y h. grind (arith, common_steps, h)) producer.chunks CHUNK_COUNTS parts.1

-- what holds of all holds of one
pub all_at : {X : Type 0} (p : X → Bool) (things : List X) (i : ℕ) (thing : X)
    → list_all p things ≡ true → slice_get things i ≡ Some thing → p thing ≡ true
all_at p [] i thing all is = cc
all_at p (first ∷ others) zero thing all is =
    let same : first ≡ thing = cc in
    rw (← same) ((both (p first) (list_all p others) all).0)
all_at p (first ∷ others) (suc i) thing all is = all_at p others i thing ((both (p first) (list_all p others) all).1) is

item_at : (is : Bool) {X : Type 0} (p : X → Bool) (things : List X) (i : ℕ) (thing : X) → list_all p things ≡ true
    → cond is None (slice_get things i) ≡ Some thing → p thing ≡ true
item_at true p things i thing all given = cc
item_at false p things i thing all given = all_at p things i thing all given

pub item_all : {X : Type 0} (p : X → Bool) (things : List X) (number : Numeral) (thing : X)
    → list_all p things ≡ true → item things number ≡ Some thing → p thing ≡ true
unfolding item
item_all p things (Fits n) thing all is = item_at (nat_eq n 0) p things (n - 1) thing all is
item_all p things TooLarge thing all is = cc

-- a producer's pages can be cut
pub item_cut : (producers : List ProducerLine) (number : Numeral) (producer : ProducerLine)
    → list_all is_cut producers ≡ true → item producers number ≡ Some producer → is_cut producer ≡ true
item_cut producers number producer all is = item_all is_cut producers number producer all is

-- a producer more whose pages can be cut, a writer more, and a packet in another's place
pub all_push : {X : Type 0} (p : X → Bool) (things : List X) (thing : X) → list_all p things ≡ true → p thing ≡ true
    → list_all p (things ++ thing ∷ []) ≡ true
all_push p [] thing all is = rw is refl
all_push p (first ∷ others) thing all is =
    let parts = both (p first) (list_all p others) all in
    rw (parts.0, all_push p others thing parts.1 is) refl

all_set : {X : Type 0} (p : X → Bool) (things : List X) (i : ℕ) (thing : X) → list_all p things ≡ true → p thing ≡ true
    → list_all p (slice_set things i thing) ≡ true
all_set p [] i thing all is = refl
all_set p (first ∷ others) zero thing all is =
    let parts = both (p first) (list_all p others) all in
    rw (is, parts.1) refl
all_set p (first ∷ others) (suc i) thing all is =
    let parts = both (p first) (list_all p others) all in
    rw (parts.0, all_set p others i thing parts.1 is) refl

all_item_at : {X : Type 0} (is_zero : Bool) (p : X → Bool) (things : List X) (i : ℕ) (thing : X) → list_all p things ≡ true
    → p thing ≡ true → list_all p (cond is_zero things (slice_set things i thing)) ≡ true
all_item_at true p things i thing all is = all
all_item_at false p things i thing all is = all_set p things i thing all is

pub all_with_item : {X : Type 0} (p : X → Bool) (things : List X) (number : Numeral) (thing : X) → list_all p things ≡ true
    → p thing ≡ true → list_all p (with_item things number thing) ≡ true
unfolding with_item
all_with_item p things (Fits n) thing all is = all_item_at (nat_eq n 0) p things (n - 1) thing all is
all_with_item p things TooLarge thing all is = all

shallow_depth : (packet : Option OpenPacket) → is_shallow packet ≡ true → nesting_of packet ≤ MAX_NESTING
unfolding is_shallow nesting_of
shallow_depth None shallow = omega arith
shallow_depth (Some packet) shallow = grind (arith, common_steps, shallow)

found_shallow : (found : Option (Option OpenPacket)) (packets : List (Option OpenPacket)) (writer : Numeral)
    → list_all is_shallow packets ≡ true → item packets writer ≡ found → nesting_of (unwrap_or found None) ≤ MAX_NESTING
unfolding nesting_of
found_shallow None packets writer all is = omega arith
found_shallow (Some packet) packets writer all is = shallow_depth packet (item_all is_shallow packets writer packet all is)

-- so many messages may be open in the packet that a writer has begun
pub packet_shallow : (packets : List (Option OpenPacket)) (writer : Numeral) → list_all is_shallow packets ≡ true
    → nesting_of (unwrap_or (item packets writer) None) ≤ MAX_NESTING
packet_shallow packets writer all = found_shallow (item packets writer) packets writer all refl
