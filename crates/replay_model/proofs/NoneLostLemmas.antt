-- Where chunks are enough no packet is lost: only a writer whose policy is to lose any does, and it has chunks for all that its producer's writers emit.
use Rattle.std.proofs.Common.{◌≡◌, ◌∙◌, ℕ, zero, suc, ◌+◌, ◌-◌, ◌*◌, ◌<◌, ◌≤◌, ◌⊎◌, true, false, List, [], ◌∷◌, length, get_or, Some, refl, sym, ap, subst, arith, inl, inr, cond}
use Rattle.std.specs.Prelude.{◌==◌, slice_get}
use Rattle.std.specs.List.{AllZip}
use Rattle.std.specs.Coded.{le_prop}
use Rattle.std.proofs.lemmas.Bool.{cases_eq, cases_lt}
use Rattle.std.proofs.lemmas.List.{get_or_past}
use Rattle.std.proofs.lemmas.Option.{slice_get_within}
use Rattle.trace_base.specs.declared.policy.WriterSpec.{WriterSpec}
use Rattle.page_geometry.specs.Sizes.{payload_size}
use Rattle.page_geometry.proofs.SizeLemmas.{payload_size_least}
use Rattle.trace_model.specs.Enough.{most_chunks}
use Rattle.trace_model.specs.Packets.{packets_of, emissions_of, is_writing, lost_count}
use Rattle.model_laws.proofs.ChunkCountLemmas.{every_page_is_counted}
use Rattle.chunk_plain.proofs.LayingLemmas.{ranges_apart}
use Rattle.chunk_plain.specs.declared.setup.ProducerSpec.{ProducerSpec}
use Rattle.chunk_plain.specs.declared.setup.ChunkRange.{ChunkRange}
use Rattle.chunk_plain.specs.Laying.{ranges_of, sizes_of}
use Rattle.chunk_plain.specs.Setup.{Setup, range_of, producer_of, size_of, IsChunkOf}
use Rattle.chunk_plain.specs.Views.{At, WriterView, newcomer}
use Rattle.chunk_plain.specs.World.{World, Status, writer}
use Rattle.chunk_plain.specs.Owned.{IsOwned, Won}
use Rattle.chunk_plain.proofs.AskOrder.{asked_won}
use Rattle.world_model.specs.FirstBuffers.{payload_at}
use Rattle.scenario_text.specs.declared.scenario.ProducerLine.{ProducerLine}
use Rattle.scenario_text.specs.Scenario.{Parts}
use Rattle.scenario_text.specs.Accepted.{calls_asked, is_closed_by}
use Rattle.scenario_text.specs.Limits.{IsWriter}
use Rattle.trace_writer.specs.Helping.{loses}
use Rattle.service_core.specs.Agreement.{spec_at}
use Rattle.replay_model.specs.Enough.{HasEnough, IsPlayable}
use Rattle.replay_model.specs.Laws.{EnoughLosesNothing}
use Rattle.replay_model.specs.Played.{IsSpecOf}
use Rattle.replay_model.proofs.AccountLemmas.{pages_begun}
use Rattle.replay_model.proofs.BalanceLemmas.{each_is}
use Rattle.replay_model.proofs.DoneLemmas.{IsDone, played_done, within, spec_is, spec_there}
use Rattle.replay_model.proofs.OwnedLemmas.{with_chunks, by_owned}
use Rattle.replay_model.proofs.PigeonLemmas.{wins_on, range_wins, won_on, range_few, total, total_sum, total_less, total_least, many_wins, asked_at, own_ask, wins_are_begun}
use Rattle.replay_model.proofs.PlayedLemmas.{setup_writers}
use Rattle.replay_model.proofs.RoomLemmas.{most_from, chunks_enough, none_closed, size_is, count_is}

pub large_sizes : (specs : List ProducerSpec) (i : ℕ) → i < length (sizes_of specs) → 284 ≤ get_or (sizes_of specs) i 0
large_sizes [] i low = absurd (omega (arith, low))
large_sizes (spec ∷ specs) zero low = payload_size_least spec.geometry
large_sizes (spec ∷ specs) (suc i) low = large_sizes specs i (omega (arith, low))

pub as_many : (lines : List ProducerLine) (specs : List ProducerSpec) (i : ℕ) (line : ProducerLine) → AllZip IsSpecOf lines specs → slice_get lines i ≡ Some line
    → i < length (sizes_of specs)
as_many [] specs i line all get = absurd (cc)
as_many (one ∷ lines) [] i line all get = absurd all
as_many (one ∷ lines) (spec ∷ specs) zero line all get = omega arith
as_many (one ∷ lines) (spec ∷ specs) (suc i) line all get = let rest = as_many lines specs i line all.1 get in omega (arith, rest)

module _ (scenario : Parts) (setup : Setup) (world : World) (done : IsDone scenario setup world) (playable : IsPlayable scenario)
    (enough : HasEnough scenario) where
  -- ---- one writer

  pub is_writer : (place : ℕ) (spec : WriterSpec) → slice_get scenario.writers place ≡ Some spec → IsWriter scenario.buffers scenario.producers spec
  is_writer place spec get = each_is (IsWriter scenario.buffers scenario.producers) scenario.writers place spec playable.set_up.are_writers get

  module _ (place : ℕ) (spec : WriterSpec) (get : slice_get scenario.writers place ≡ Some spec) where
    -- no line closes its producer, so its last packet is finished
    pub open_still : is_closed_by scenario.lines spec.producer ≡ false
    open_still =
        let is = is_writer place spec get in
        let least = is.counts_producer in
        let low = slice_get_within scenario.producers (spec.producer - 1) is.of_producer is.producer_is in
        subst (λ (n : ℕ). is_closed_by scenario.lines n ≡ false) (let at : 1 + (spec.producer - 1) ≡ spec.producer = omega (arith, least) in at)
        (none_closed scenario.lines 1 scenario.producers (spec.producer - 1) enough.enough.none_closed low)

    pub rests : is_writing (packets_of (writer world place).calls) ≡ false
    rests =
        let one : place + 1 ≡ suc place = omega arith in
        let ended = subst (λ (n : ℕ). is_writing (packets_of (calls_asked n scenario.lines)) ≡ false) one ((playable.asks place spec get).ended open_still) in
        (done.shape place (within scenario setup world done place spec get)).writing ∙ ended

    -- the payload of its chunks
    producer_size : size_of setup spec.producer ≡ payload_size (is_writer place spec get).of_producer.page_size (is_writer place spec get).of_producer.chunks
    producer_size =
        let is = is_writer place spec get in
        ap (λ (s : Setup). size_of s spec.producer) done.setup_is.laid
        ∙ size_is scenario.producers done.setup_is.specs (spec.producer - 1) is.of_producer done.setup_is.made is.producer_is

    pub size_here : payload_at setup place ≡ payload_size (is_writer place spec get).of_producer.page_size (is_writer place spec get).of_producer.chunks
    size_here = ap (λ (s : WriterSpec). size_of setup s.producer) (spec_is scenario setup world done place spec get) ∙ producer_size

    large : 284 ≤ payload_at setup place
    large =
        let is = is_writer place spec get in
        subst (λ (n : ℕ). 284 ≤ n)
        (sym (ap (λ (s : WriterSpec). size_of setup s.producer) (spec_is scenario setup world done place spec get) ∙ ap (λ (s : Setup). size_of s spec.producer) done.setup_is.laid))
        (large_sizes done.setup_is.specs (spec.producer - 1) (as_many scenario.producers done.setup_is.specs (spec.producer - 1) is.of_producer done.setup_is.made is.producer_is))

    -- its chunks and lost packets are no more than its packets take at most
    pub begun_few : length (writer world place).begun + lost_count (packets_of (writer world place).calls)
        ≤ most_chunks (payload_size (is_writer place spec get).of_producer.page_size (is_writer place spec get).of_producer.chunks) (emissions_of (calls_asked (suc place) scenario.lines))
    begun_few =
        let inside = within scenario setup world done place spec get in
        let is = is_writer place spec get in
        let own = done.wrote place inside in
        let big = large in
        let pages = pages_begun setup place (writer world place) own in
        let counted = every_page_is_counted (payload_at setup place) (writer world place).calls own.cut.cut.pages own.cut.cut.cut own.cut.possible rests (omega (arith, big)) in
        let same : most_chunks (payload_at setup place) (emissions_of (writer world place).calls)
        ≡ most_chunks (payload_size is.of_producer.page_size is.of_producer.chunks) (emissions_of (calls_asked (suc place) scenario.lines)) =
        ap (λ (n : ℕ). most_chunks n (emissions_of (writer world place).calls)) size_here
        ∙ ap (most_chunks (payload_size is.of_producer.page_size is.of_producer.chunks)) (done.shape place inside).emitted in
        omega (arith, pages, counted, same)

  -- ---- all writers of a producer

  most_is : (producer payload place : ℕ) (specs : List WriterSpec)
      → total world producer (λ p. most_chunks payload (emissions_of (calls_asked (suc p) scenario.lines))) place specs
      ≡ most_from scenario.lines producer payload (suc place) specs
  most_is producer payload place [] = refl
  most_is producer payload place (spec ∷ specs) =
      ap (λ (n : ℕ). cond (spec.producer == producer) (most_chunks payload (emissions_of (calls_asked (suc place) scenario.lines))) 0 + n)
      (most_is producer payload (suc place) specs)

  -- a chunk is of one producer
  same_producer : (p place chunk : ℕ) → p < length setup.writers → place < length setup.writers → IsChunkOf setup (producer_of setup p) chunk
      → IsChunkOf setup (producer_of setup place) chunk → producer_of setup p ≡ producer_of setup place
  same_producer p place chunk low inside one other =
      let first = (is_writer p (spec_at setup.writers p) (spec_there scenario setup world done p low)).counts_producer in
      let second = (is_writer place (spec_at setup.writers place) (spec_there scenario setup world done place inside)).counts_producer in
      let ranges : setup.ranges ≡ ranges_of 0 done.setup_is.specs = ap (λ (s : Setup). s.ranges) done.setup_is.laid in
      let one_low : (get_or (ranges_of 0 done.setup_is.specs) (producer_of setup p - 1) (record { first = 0; count = 0 })).first ≤ chunk =
      subst (λ (rs : List ChunkRange). (get_or rs (producer_of setup p - 1) (record { first = 0; count = 0 })).first ≤ chunk) ranges one.least in
      let one_high : chunk < (get_or (ranges_of 0 done.setup_is.specs) (producer_of setup p - 1) (record { first = 0; count = 0 })).first
      + (get_or (ranges_of 0 done.setup_is.specs) (producer_of setup p - 1) (record { first = 0; count = 0 })).count =
      subst (λ (rs : List ChunkRange). chunk < (get_or rs (producer_of setup p - 1) (record { first = 0; count = 0 })).first + (get_or rs (producer_of setup p - 1) (record { first = 0; count = 0 })).count) ranges one.below in
      let other_low : (get_or (ranges_of 0 done.setup_is.specs) (producer_of setup place - 1) (record { first = 0; count = 0 })).first ≤ chunk =
      subst (λ (rs : List ChunkRange). (get_or rs (producer_of setup place - 1) (record { first = 0; count = 0 })).first ≤ chunk) ranges other.least in
      let other_high : chunk < (get_or (ranges_of 0 done.setup_is.specs) (producer_of setup place - 1) (record { first = 0; count = 0 })).first
      + (get_or (ranges_of 0 done.setup_is.specs) (producer_of setup place - 1) (record { first = 0; count = 0 })).count =
      subst (λ (rs : List ChunkRange). chunk < (get_or rs (producer_of setup place - 1) (record { first = 0; count = 0 })).first + (get_or rs (producer_of setup place - 1) (record { first = 0; count = 0 })).count) ranges other.below in
      let same = ranges_apart 0 done.setup_is.specs (producer_of setup p - 1) (producer_of setup place - 1) chunk one_low one_high other_low other_high in
      omega (arith, first, second, same)

  module _ (chunks : List Status) (owned : IsOwned (with_chunks world chunks)) (place : ℕ) (inside : place < length setup.writers) where
    -- who won a chunk of the producer is one of its writers
    winner : (chunk : ℕ) → IsChunkOf setup (producer_of setup place) chunk → Won world chunk
        → (p : ℕ) × (p < length setup.writers) × (producer_of setup p ≡ producer_of setup place) × (1 ≤ wins_on chunk (writer world p).asked)
    winner chunk is won = by_place (cases_lt won.0 (length setup.writers))
      where
        by_place : (won.0 < length setup.writers) ⊎ (length setup.writers ≤ won.0)
            → (p : ℕ) × (p < length setup.writers) × (producer_of setup p ≡ producer_of setup place) × (1 ≤ wins_on chunk (writer world p).asked)
        by_place (inl low) =
            let own = own_ask setup (producer_of setup won.0) (writer world won.0).asked won.1 won.2 (done.claims won.0 low).own_asks won.3 in
            let mine : IsChunkOf setup (producer_of setup won.0) chunk = subst (IsChunkOf setup (producer_of setup won.0)) won.5 own in
            (won.0, low, same_producer won.0 place chunk low inside mine is, won_on chunk (writer world won.0).asked won.1 won.2 won.3 won.4 won.5)
        by_place (inr past) =
            let many = done.many in
            let none : writer world won.0 ≡ newcomer = get_or_past world.writers won.0 newcomer (omega (arith, past, many)) in
            let at : At newcomer.asked won.1 won.2 = subst (λ (view : WriterView). At view.asked won.1 won.2) none won.3 in
            absurd (cc)

    each_won : 0 < lost_count (packets_of (writer world place).calls) → (k : ℕ) → k < (range_of setup (producer_of setup place)).count
        → (p : ℕ) × (p < length setup.writers) × ((spec_at setup.writers p).producer ≡ producer_of setup place)
        × (1 ≤ wins_on ((range_of setup (producer_of setup place)).first + k) (writer world p).asked)
    each_won some k low =
        let chunk : ℕ = (range_of setup (producer_of setup place)).first + k in
        let is : IsChunkOf setup (producer_of setup place) chunk = record { least = omega arith; below = omega (arith, low) } in
        let asked = asked_at (writer world place).asked chunk ((done.claims place inside).vain some chunk is) in
        let won : Won world chunk = subst (Won world) asked.3 (asked_won (with_chunks world chunks) owned.ordered place asked.0 asked.1 asked.2) in
        winner chunk is won

    -- where it lost a packet, as many chunks were begun as the producer has
    all_begun : 0 < lost_count (packets_of (writer world place).calls)
        → (range_of setup (producer_of setup place)).count ≤ total world (producer_of setup place) (λ p. length (writer world p).begun) 0 setup.writers
    all_begun some =
        let range : ChunkRange = range_of setup (producer_of setup place) in
        let wins = many_wins world (producer_of setup place) setup.writers range.first range.count (each_won some) in
        let less = total_less world (producer_of setup place) (λ p. range_wins range.first range.count (writer world p).asked) (λ p. length (writer world p).begun) 0 setup.writers
        (λ i low mine.
        let at : 0 + i ≡ i = omega arith in
        let claims = done.claims i low in
        let few = range_few range.first range.count (writer world i).asked in
        let begun = wins_are_begun (with_chunks world chunks) i owned claims.unclaimed claims.unstamped in
        subst (λ (p : ℕ). range_wins range.first range.count (writer world p).asked ≤ length (writer world p).begun) (sym at) (omega (arith, few, begun))) in
        omega (arith, wins, less)

    -- so one whose policy loses packets has lost none
    no_loss : loses (spec_at setup.writers place).policy ≡ true → 0 < lost_count (packets_of (writer world place).calls) → ⊥
    no_loss losing some =
        let spec : WriterSpec = spec_at setup.writers place in
        let get = spec_there scenario setup world done place inside in
        let is = is_writer place spec get in
        let payload : ℕ = payload_size is.of_producer.page_size is.of_producer.chunks in
        let producer : ℕ = producer_of setup place in
        let room = chunks_enough scenario.lines scenario.producers scenario.writers place spec is.of_producer enough.enough.chunks get losing is.counts_producer is.producer_is in
        let count : (range_of setup producer).count ≡ is.of_producer.pages * is.of_producer.chunks =
        ap (λ (s : Setup). (range_of s producer).count) done.setup_is.laid
        ∙ count_is scenario.producers done.setup_is.specs 0 (producer - 1) is.of_producer done.setup_is.made is.producer_is in
        let begun = all_begun some in
        let each = total_less world producer (λ p. length (writer world p).begun + lost_count (packets_of (writer world p).calls))
        (λ p. most_chunks payload (emissions_of (calls_asked (suc p) scenario.lines))) 0 setup.writers
        (λ i low mine.
        let at : 0 + i ≡ i = omega arith in
        let other = is_writer i (spec_at setup.writers i) (spec_there scenario setup world done i low) in
        let few = begun_few i (spec_at setup.writers i) (spec_there scenario setup world done i low) in
        let lines : other.of_producer ≡ is.of_producer =
        let one = other.producer_is in let two = is.producer_is in
        let shift : slice_get scenario.producers ((spec_at setup.writers i).producer - 1) ≡ slice_get scenario.producers (spec.producer - 1) =
        ap (λ (n : ℕ). slice_get scenario.producers (n - 1)) mine in
        let equal : Some other.of_producer ≡ Some is.of_producer = sym one ∙ shift ∙ two in
        cc in
        let same : most_chunks (payload_size other.of_producer.page_size other.of_producer.chunks) (emissions_of (calls_asked (suc i) scenario.lines))
        ≡ most_chunks payload (emissions_of (calls_asked (suc i) scenario.lines)) =
        ap (λ (l : ProducerLine). most_chunks (payload_size l.page_size l.chunks) (emissions_of (calls_asked (suc i) scenario.lines))) lines in
        subst (λ (p : ℕ). length (writer world p).begun + lost_count (packets_of (writer world p).calls) ≤ most_chunks payload (emissions_of (calls_asked (suc p) scenario.lines)))
        (sym at) (omega (arith, few, same))) in
        let sum = total_sum world producer (λ p. length (writer world p).begun) (λ p. lost_count (packets_of (writer world p).calls)) 0 setup.writers in
        let one = total_least world producer (λ p. lost_count (packets_of (writer world p).calls)) 0 setup.writers place inside refl in
        let at : 0 + place ≡ place = omega arith in
        let here : lost_count (packets_of (writer world (0 + place)).calls) ≡ lost_count (packets_of (writer world place).calls) =
        ap (λ (p : ℕ). lost_count (packets_of (writer world p).calls)) at in
        let most = most_is producer payload 0 setup.writers in
        let specs : most_from scenario.lines producer payload 1 setup.writers ≡ most_from scenario.lines producer payload 1 scenario.writers =
        ap (most_from scenario.lines producer payload 1) (setup_writers scenario setup done.setup_is) in
        omega (arith, room, count, begun, each, sum, one, here, most, specs, some)

  pub none_is_lost : (place : ℕ) → place < length setup.writers → lost_count (packets_of (writer world place).calls) ≡ 0
  none_is_lost place inside = by_count (cases_eq (lost_count (packets_of (writer world place).calls)) 0)
    where
      by_count : (lost_count (packets_of (writer world place).calls) ≡ 0) ⊎ (lost_count (packets_of (writer world place).calls) ≡ 0 → ⊥)
          → lost_count (packets_of (writer world place).calls) ≡ 0
      by_count (inl none) = none
      by_count (inr some) =
          let more : 0 < lost_count (packets_of (writer world place).calls) = omega (arith, some) in
          absurd (by_owned world ⊥ done.owned (hlevel le_prop) (λ chunks owned. no_loss chunks owned place inside (done.loses_by place inside more) more))

pub enough_loses_nothing : EnoughLosesNothing
enough_loses_nothing scenario setup world notes played = none_is_lost scenario setup world (played_done scenario setup world notes played)
