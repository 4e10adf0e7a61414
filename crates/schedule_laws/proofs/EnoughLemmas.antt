-- Where chunks are enough no writer has lost a packet.
use Rattle.std.proofs.Common.{◌≡◌, ℕ, suc, ◌+◌, ◌<◌, ◌≤◌, ◌⊎◌, List, [], ◌∷◌, length, refl, sym, ap, subst, arith, inl, inr, cond}
use Rattle.std.specs.Prelude.{◌==◌, Some, slice_get}
use Rattle.std.proofs.lemmas.Bool.{cases_eq, cases_lt}
use Rattle.std.proofs.lemmas.List.{get_or_past}
use Rattle.std.proofs.lemmas.Option.{slice_get-get_or}
use Rattle.trace_base.specs.declared.policy.WriterSpec.{WriterSpec}
use Rattle.trace_model.specs.Enough.{most_chunks}
use Rattle.trace_model.specs.Packets.{packets_of, emissions_of, lost_count}
use Rattle.model_laws.proofs.ChunkCountLemmas.{every_page_is_counted}
use Rattle.chunk_plain.specs.declared.setup.ChunkRange.{ChunkRange}
use Rattle.chunk_plain.specs.Setup.{Setup, IsLaid, HasProducer, IsChunkOf, range_of, size_of, producer_of, no_writer}
use Rattle.chunk_plain.specs.Views.{At, WriterView, newcomer}
use Rattle.chunk_plain.specs.World.{World, writer}
use Rattle.chunk_plain.specs.Owned.{IsOwned, Won}
use Rattle.chunk_plain.proofs.AskOrder.{asked_won}
use Rattle.world_model.specs.FirstBuffers.{payload_at}
use Rattle.trace_writer.specs.Claims.{KeepsClaims}
use Rattle.service_core.specs.Agreement.{spec_at}
use Rattle.replay_model.proofs.AccountLemmas.{pages_begun}
use Rattle.replay_model.proofs.PigeonLemmas.{wins_on, range_wins, won_on, range_few, total, total_sum, total_less, total_least, many_wins, asked_at, own_ask, wins_are_begun}
use Rattle.schedule_laws.specs.Resting.{AreBetweenCalls}
use Rattle.schedule_laws.specs.EnoughLaws.{AllStall, HasChunksEnough, EnoughChunksLoseNothing, chunks_from}
use Rattle.schedule_laws.proofs.AccountLemmas.{owned_behind, many_behind}
use Rattle.schedule_laws.proofs.BetweenLemmas.{has_written, has_producer}

-- payloads are larger than what a fragment has beside its bytes
large_payload : (setup : Setup) (producer : ℕ) → IsLaid setup → HasProducer setup producer → 7 < size_of setup producer
large_payload setup producer laid has =
    let some = laid.some producer has in
    let inside = laid.ranges producer in
    let first : IsChunkOf setup producer (range_of setup producer).first = record { least = omega arith; below = omega (arith, some) } in
    let size = laid.sizes producer (range_of setup producer).first first in
    let large = laid.least (range_of setup producer).first (omega (arith, some, inside)) in
    omega (arith, size, large)

module _ (setup : Setup) (world : World) (laid : IsLaid setup) (owned : IsOwned world) (many : length world.writers ≡ length setup.writers)
    (between : AreBetweenCalls setup world) (enough : HasChunksEnough setup world) where
  claims_of : (place : ℕ) → place < length setup.writers → KeepsClaims setup place (writer world place)
  claims_of place inside = (between place inside).agrees.claims

  producer_there : (place : ℕ) → place < length setup.writers → HasProducer setup (producer_of setup place)
  producer_there place inside = has_producer setup place (between place inside).writer.route (between place inside).agrees.writes.route

  -- a writer's chunks and lost packets are no more than its packets take at most
  pub begun_few : (place : ℕ) → place < length setup.writers
      → length (writer world place).begun + lost_count (packets_of (writer world place).calls)
      ≤ most_chunks (payload_at setup place) (emissions_of (writer world place).calls)
  begun_few place inside =
      let wrote = has_written setup place (writer world place) laid (between place inside) in
      let pages = pages_begun setup place (writer world place) wrote in
      let counted = every_page_is_counted (payload_at setup place) (writer world place).calls wrote.cut.cut.pages wrote.cut.cut.cut wrote.cut.possible
      (enough.between place inside) (large_payload setup (producer_of setup place) laid (producer_there place inside)) in
      omega (arith, pages, counted)

  -- who won a chunk of a writer's producer is one of its writers
  winner : (place chunk : ℕ) → place < length setup.writers → IsChunkOf setup (producer_of setup place) chunk → Won world chunk
      → (p : ℕ) × (p < length setup.writers) × (producer_of setup p ≡ producer_of setup place) × (1 ≤ wins_on chunk (writer world p).asked)
  winner place chunk inside is won = by_place (cases_lt won.0 (length setup.writers))
    where
      by_place : (won.0 < length setup.writers) ⊎ (length setup.writers ≤ won.0)
          → (p : ℕ) × (p < length setup.writers) × (producer_of setup p ≡ producer_of setup place) × (1 ≤ wins_on chunk (writer world p).asked)
      by_place (inl low) =
          let claims = claims_of won.0 low in
          let own = own_ask setup (producer_of setup won.0) (writer world won.0).asked won.1 won.2 claims.own_asks won.3 in
          let mine : IsChunkOf setup (producer_of setup won.0) chunk = subst (IsChunkOf setup (producer_of setup won.0)) won.5 own in
          let same = enough.apart (producer_of setup won.0) (producer_of setup place) chunk (producer_there won.0 low) (producer_there place inside) mine is in
          (won.0, low, same, won_on chunk (writer world won.0).asked won.1 won.2 won.3 won.4 won.5)
      by_place (inr past) =
          let none : writer world won.0 ≡ newcomer = get_or_past world.writers won.0 newcomer (omega (arith, past, many)) in
          let at : At newcomer.asked won.1 won.2 = subst (λ (view : WriterView). At view.asked won.1 won.2) none won.3 in
          absurd (cc)

  module _ (place : ℕ) (inside : place < length setup.writers) (some : 0 < lost_count (packets_of (writer world place).calls)) where
    abbrev producer : ℕ
    producer = producer_of setup place

    abbrev range : ChunkRange
    range = range_of setup (producer_of setup place)

    -- each chunk of its producer was won by one of the producer's writers
    each_won : (k : ℕ) → k < (range_of setup (producer_of setup place)).count
        → (p : ℕ) × (p < length setup.writers) × ((spec_at setup.writers p).producer ≡ producer_of setup place)
        × (1 ≤ wins_on ((range_of setup (producer_of setup place)).first + k) (writer world p).asked)
    each_won k low =
        let chunk : ℕ = range.first + k in
        let is : IsChunkOf setup (producer_of setup place) chunk = record { least = omega arith; below = omega (arith, low) } in
        let asked = asked_at (writer world place).asked chunk ((claims_of place inside).vain some chunk is) in
        let won : Won world chunk = subst (Won world) asked.3 (asked_won world owned.ordered place asked.0 asked.1 asked.2) in
        winner place chunk inside is won

    -- so they began as many chunks as the producer has
    all_begun : (range_of setup (producer_of setup place)).count ≤ total world (producer_of setup place) (λ p. length (writer world p).begun) 0 setup.writers
    all_begun =
        let wins = many_wins world producer setup.writers range.first range.count each_won in
        let less = total_less world producer (λ p. range_wins range.first range.count (writer world p).asked) (λ p. length (writer world p).begun) 0 setup.writers
        (λ i low mine.
        let at : 0 + i ≡ i = omega arith in
        let claims = claims_of i low in
        let few = range_few range.first range.count (writer world i).asked in
        let begun = wins_are_begun world i owned claims.unclaimed claims.unstamped in
        subst (λ (p : ℕ). range_wins range.first range.count (writer world p).asked ≤ length (writer world p).begun) (sym at) (omega (arith, few, begun))) in
        omega (arith, wins, less)

    most_is : (at : ℕ) (specs : List WriterSpec)
        → total world (producer_of setup place) (λ p. most_chunks (size_of setup (producer_of setup place)) (emissions_of (writer world p).calls)) at specs
        ≡ chunks_from setup world (producer_of setup place) at specs
    most_is at [] = refl
    most_is at (spec ∷ specs) =
        ap (λ (n : ℕ). cond (spec.producer == producer_of setup place) (most_chunks (size_of setup (producer_of setup place)) (emissions_of (writer world at).calls)) 0 + n)
        (most_is (suc at) specs)

    -- a writer that stalls has lost none
    stalls_lose_none : AllStall setup (producer_of setup place) → ⊥
    stalls_lose_none stall =
        let there : slice_get setup.writers place ≡ Some (spec_at setup.writers place) = slice_get-get_or setup.writers place no_writer inside in
        let none = (claims_of place inside).stalls (spec_at setup.writers place) there (stall place inside refl) in
        omega (arith, none, some)

    -- and where there are as many chunks, the lost packet's would have been free
    full_lose_none : chunks_from setup world (producer_of setup place) 0 setup.writers ≤ (range_of setup (producer_of setup place)).count → ⊥
    full_lose_none room =
        let begun = all_begun in
        let each = total_less world producer (λ p. length (writer world p).begun + lost_count (packets_of (writer world p).calls))
        (λ p. most_chunks (size_of setup producer) (emissions_of (writer world p).calls)) 0 setup.writers
        (λ i low mine.
        let at : 0 + i ≡ i = omega arith in
        let few = begun_few i low in
        let sized : length (writer world i).begun + lost_count (packets_of (writer world i).calls) ≤ most_chunks (size_of setup producer) (emissions_of (writer world i).calls) =
        subst (λ (n : ℕ). length (writer world i).begun + lost_count (packets_of (writer world i).calls) ≤ most_chunks (size_of setup n) (emissions_of (writer world i).calls))
        mine few in
        subst (λ (p : ℕ). length (writer world p).begun + lost_count (packets_of (writer world p).calls) ≤ most_chunks (size_of setup producer) (emissions_of (writer world p).calls))
        (sym at) sized) in
        let sum = total_sum world producer (λ p. length (writer world p).begun) (λ p. lost_count (packets_of (writer world p).calls)) 0 setup.writers in
        let one = total_least world producer (λ p. lost_count (packets_of (writer world p).calls)) 0 setup.writers place inside refl in
        let at : 0 + place ≡ place = omega arith in
        let here : lost_count (packets_of (writer world (0 + place)).calls) ≡ lost_count (packets_of (writer world place).calls) =
        ap (λ (p : ℕ). lost_count (packets_of (writer world p).calls)) at in
        let most = most_is 0 setup.writers in
        let least = some in
        omega (arith, room, begun, each, sum, one, here, most, least)

    no_loss : ⊥
    no_loss = elim (enough.room producer (producer_there place inside)) [
      | inl stall ↦ stalls_lose_none stall
      | inr room ↦ full_lose_none room
    ]

  pub none_is_lost : (place : ℕ) → place < length setup.writers → lost_count (packets_of (writer world place).calls) ≡ 0
  none_is_lost place inside = by_count (cases_eq (lost_count (packets_of (writer world place).calls)) 0)
    where
      by_count : (lost_count (packets_of (writer world place).calls) ≡ 0) ⊎ (lost_count (packets_of (writer world place).calls) ≡ 0 → ⊥)
          → lost_count (packets_of (writer world place).calls) ≡ 0
      by_count (inl none) = none
      by_count (inr more) = absurd (no_loss place inside (omega (arith, more)))

pub enough_chunks_lose_nothing : EnoughChunksLoseNothing
enough_chunks_lose_nothing setup moves world laid schedule between enough place inside =
    none_is_lost setup world laid (owned_behind setup moves world schedule) (many_behind setup moves world schedule) between enough place inside
