-- Of a producer that nobody may have collected a writer begins no chunk behind a loss: each was claimed by then, and none came free.
use Rattle.std.proofs.Common.{◌≡◌, ◌∙◌, ℕ, zero, suc, ◌+◌, ◌-◌, ◌<◌, ◌≤◌, ◌⊎◌, inl, inr, Bool, true, false, List, [], ◌∷◌, ◌++◌, length, map, get_or, refl, sym, ap, subst, arith, append-nil}
use Rattle.std.specs.List.{All, flat_map}
use Rattle.std.proofs.Math.Logic.{∥∥₁_elim}
use Rattle.std.proofs.Math.Nat.{ℕ_set}
use Rattle.std.proofs.lemmas.Bool.{cases_lt}
use Rattle.std.proofs.lemmas.List.{get_or_past, length-map}
use Rattle.std.proofs.lemmas.List.Elements.{All-head}
use mathlib.Core.Option.{some-injective, some-ne-none}
use Rattle.trace_base.specs.declared.policy.WriterPolicy.{WriterPolicy}
use Rattle.trace_base.specs.declared.policy.WriterPolicy.TheVariants.{Drops, Stalls, StallsThenDrops}
use Rattle.trace_model.specs.Delivery.{Delivered}
use Rattle.chunk_plain.specs.declared.setup.ChunkRange.{ChunkRange}
use Rattle.chunk_plain.specs.Laying.{ranges_of}
use Rattle.chunk_plain.specs.Owned.{AskOf, AreInOrder, IsOwned, asks_of, won_chunks}
use Rattle.chunk_plain.specs.Setup.{Setup, HasProducer, IsChunkOf, producer_of, range_of}
use Rattle.chunk_plain.specs.Views.{At, Ask, BegunChunk, Held, Completed, Content, WriterView, chunk_of, newcomer}
use Rattle.chunk_plain.specs.World.{World, writer}
use Rattle.chunk_plain.proofs.LayingLemmas.{ranges_apart}
use Rattle.chunk_plain.proofs.Lists.{at_inside, at_seam}
use Rattle.claim_arbiter.specs.Claiming.{AllClaimed, lost_asks}
use Rattle.scenario_text.specs.Scenario.{Parts}
use Rattle.trace_writer.specs.Claims.{AreOwnChunks}
use Rattle.trace_writer.specs.Helping.{rounds_for}
use Rattle.service_core.specs.Agreement.{spec_at}
use Rattle.schedule_laws.proofs.BetweenLemmas.{has_producer}
use Rattle.run_model.proofs.LineLemmas.{lines_take_at_most}
use Rattle.run_model.specs.Collected.{CollectedByLines, may_be_collected}
use Rattle.run_model.specs.Laws.{BeginsNoneBehindLosses, NothingIsBegunBehindLosses}
use Rattle.run_model.specs.Settled.{HasDoneAll}
use Rattle.run_model.specs.Stopped.{StopsBefore}
use Rattle.run_model.specs.Vain.{HasVainRounds}
use Rattle.run_model.proofs.ChunkLemmas.{uses_once}
use Rattle.run_model.proofs.OrderLemmas.{StandsAt, stands_at, among_own, at_front, at_back, at_within, lost_at, won_at, entry_at}

less_both : (a b c : ℕ) → a < b → b < c → a < c
less_both a b c low high = omega (arith, low, high)

less_by : (i j m n : ℕ) → i ≡ j → m ≡ n → j < m → i < n
less_by i j m n one two less = omega (arith, one, two, less)

-- each loss has a round at least
some_rounds : (policy : WriterPolicy) → 0 < rounds_for policy
some_rounds Drops = omega arith
some_rounds Stalls = omega arith
some_rounds (StallsThenDrops tries) = omega arith

-- what a writer has begun is of its producer
pub own_at : (setup : Setup) (producer : ℕ) (begun : List BegunChunk) → AreOwnChunks setup producer begun → (j chunk : ℕ) → At (map chunk_of begun) j chunk
    → IsChunkOf setup producer chunk
own_at setup producer [] own j chunk at = absurd (some-ne-none chunk (sym at))
own_at setup producer (Held other draft ∷ begun) own zero chunk at = subst (IsChunkOf setup producer) (some-injective other chunk at) own.0
own_at setup producer (Held other draft ∷ begun) own (suc j) chunk at = own_at setup producer begun own.1 j chunk at
own_at setup producer (Completed other content ∷ begun) own zero chunk at = subst (IsChunkOf setup producer) (some-injective other chunk at) own.0
own_at setup producer (Completed other content ∷ begun) own (suc j) chunk at = own_at setup producer begun own.1 j chunk at

module _ (setup : Setup) (place : ℕ) (view : WriterView) (calls behind : ℕ) (round : HasVainRounds setup place view calls behind) where
  -- its claim in the first round stands among those of the front
  pub lost_here : (chunk : ℕ) → IsChunkOf setup (producer_of setup place) chunk
      → (n : ℕ) × (ask : Ask) × At round.front.asked n ask × (ask.won ≡ false) × (ask.chunk ≡ chunk)
  lost_here chunk own = by_rounds round.rounds.rounds round.rounds.count_is round.rounds.each round.rounds.asks_are
    where
      by_rounds : (rounds : List (List ℕ)) → length rounds ≡ rounds_for (spec_at setup.writers place).policy
          → All (λ (words : List ℕ). (length words ≡ (range_of setup (producer_of setup place)).count) × AllClaimed setup (range_of setup (producer_of setup place)).first words) rounds
          → round.front.asked ≡ round.rounds.before ++ flat_map (lost_asks calls (range_of setup (producer_of setup place)).first) rounds
          → (n : ℕ) × (ask : Ask) × At round.front.asked n ask × (ask.won ≡ false) × (ask.chunk ≡ chunk)
      by_rounds [] none each is = absurd (let some = some_rounds (spec_at setup.writers place).policy in omega (arith, none, some))
      by_rounds (words ∷ rounds) count each is =
          let first : ℕ = (range_of setup (producer_of setup place)).first in
          let later : List Ask = flat_map (lost_asks calls first) rounds in
          let least = own.least in let below = own.below in
          let many = (All-head (λ (ws : List ℕ). (length ws ≡ (range_of setup (producer_of setup place)).count) × AllClaimed setup first ws) words rounds each).0 in
          let lost = lost_at calls first words (chunk - first) (omega (arith, least, below, many)) in
          let there = at_back round.rounds.before (lost_asks calls first words ++ later) (chunk - first) lost.0
          (at_front (lost_asks calls first words) later (chunk - first) lost.0 lost.1) in
          (there.0, lost.0, subst (λ (l : List Ask). At l there.0 lost.0) (sym is) there.1, lost.2, lost.3 ∙ omega (arith, least))

module _ (scenario : Parts) (setup : Setup) (world : World) (closed : Bool) (done : HasDoneAll scenario setup world closed)
    (collected : CollectedByLines setup scenario.lines done.stood.service) where
  producer_there : (place : ℕ) → place < length setup.writers → HasProducer setup (producer_of setup place)
  producer_there place inside = has_producer setup place (done.writers place inside).between.writer.route (done.writers place inside).between.agrees.writes.route

  -- a chunk is of one producer
  same_producer : (p q chunk : ℕ) → HasProducer setup p → HasProducer setup q → IsChunkOf setup p chunk → IsChunkOf setup q chunk → p ≡ q
  same_producer p q chunk first second one other =
      let ranges : setup.ranges ≡ ranges_of 0 done.setup_is.specs = ap (λ (s : Setup). s.ranges) done.setup_is.laid in
      let one_low : (get_or (ranges_of 0 done.setup_is.specs) (p - 1) (record { first = 0; count = 0 })).first ≤ chunk =
      subst (λ (rs : List ChunkRange). (get_or rs (p - 1) (record { first = 0; count = 0 })).first ≤ chunk) ranges one.least in
      let one_high : chunk < (get_or (ranges_of 0 done.setup_is.specs) (p - 1) (record { first = 0; count = 0 })).first
      + (get_or (ranges_of 0 done.setup_is.specs) (p - 1) (record { first = 0; count = 0 })).count =
      subst (λ (rs : List ChunkRange). chunk < (get_or rs (p - 1) (record { first = 0; count = 0 })).first + (get_or rs (p - 1) (record { first = 0; count = 0 })).count) ranges one.below in
      let other_low : (get_or (ranges_of 0 done.setup_is.specs) (q - 1) (record { first = 0; count = 0 })).first ≤ chunk =
      subst (λ (rs : List ChunkRange). (get_or rs (q - 1) (record { first = 0; count = 0 })).first ≤ chunk) ranges other.least in
      let other_high : chunk < (get_or (ranges_of 0 done.setup_is.specs) (q - 1) (record { first = 0; count = 0 })).first
      + (get_or (ranges_of 0 done.setup_is.specs) (q - 1) (record { first = 0; count = 0 })).count =
      subst (λ (rs : List ChunkRange). chunk < (get_or rs (q - 1) (record { first = 0; count = 0 })).first + (get_or rs (q - 1) (record { first = 0; count = 0 })).count) ranges other.below in
      let same = ranges_apart 0 done.setup_is.specs (p - 1) (q - 1) chunk one_low one_high other_low other_high in
      let least = first.least in let lowest = second.least in
      omega (arith, least, lowest, same)

  -- who made a claim is one of the writers
  pub is_there : (place n : ℕ) (ask : Ask) → At (writer world place).asked n ask → place < length setup.writers
  is_there place n ask at = by_place (cases_lt place (length setup.writers))
    where
      by_place : (place < length setup.writers) ⊎ (length setup.writers ≤ place) → place < length setup.writers
      by_place (inl low) = low
      by_place (inr past) =
          let many = done.many in
          let none : writer world place ≡ newcomer = get_or_past world.writers place newcomer (omega (arith, past, many)) in
          let nothing : At newcomer.asked n ask = subst (λ (view : WriterView). At view.asked n ask) none at in
          absurd (some-ne-none ask (sym nothing))

  -- a chunk whose claim won was begun, and is complete
  won_entry : (place n : ℕ) (ask : Ask) → place < length setup.writers → At (writer world place).asked n ask → ask.won ≡ true
      → (j : ℕ) × (content : Content) × At (writer world place).begun j (Completed ask.chunk content) × IsChunkOf setup (producer_of setup place) ask.chunk
  won_entry place n ask inside at won =
      let lines = done.writers place inside in
      let there = won_at (writer world place).asked n ask at won in
      let begun : At (map chunk_of (writer world place).begun) there.0 ask.chunk = subst (λ (l : List ℕ). At l there.0 ask.chunk) lines.in_turn there.1 in
      let entry = entry_at (writer world place).begun lines.none_held there.0 ask.chunk begun in
      (there.0, entry.0, entry.1, own_at setup (producer_of setup place) (writer world place).begun lines.between.agrees.claims.own_chunks there.0 ask.chunk begun)

  module _ (order : AreInOrder world.writers) (place calls behind : ℕ) (round : HasVainRounds setup place (writer world place) calls behind)
      (inside : place < length setup.writers) (nobody : may_be_collected setup scenario.lines (producer_of setup place) ≡ false) where
    -- a chunk that the writer has begun it had won before the round
    won_by_then : (id chunk : ℕ) → At (map chunk_of (writer world place).begun) id chunk
        → (n : ℕ) × (ask : Ask) × At round.front.asked n ask × (ask.won ≡ true) × (ask.chunk ≡ chunk)
    won_by_then id chunk at =
        let lines = done.writers place inside in
        let own = own_at setup (producer_of setup place) (writer world place).begun lines.between.agrees.claims.own_chunks id chunk at in
        let entry = entry_at (writer world place).begun lines.none_held id chunk at in
        let lost = lost_here setup place (writer world place) calls behind round chunk own in
        let stood : At (writer world place).asked lost.0 lost.1 =
        subst (λ (l : List Ask). At l lost.0 lost.1) (sym round.goes_on.asks_are) (at_front round.front.asked round.goes_on.asks lost.0 lost.1 lost.2) in
        let stands : StandsAt place order.order (asks_of place order.order) lost.0 lost.1 =
        stands_at place order.order lost.0 lost.1 (subst (λ (l : List Ask). At l lost.0 lost.1) (order.each place) stood) in
        let before = order.won_before stands.at stands.one stands.there (ap (λ (a : Ask). a.won) stands.is ∙ lost.3) in
        let is : before.1.ask.chunk ≡ chunk = before.5 ∙ ap (λ (a : Ask). a.chunk) stands.is ∙ lost.4 in
        let same = its_own id chunk entry.0 entry.1 own before.0 before.1 before.2 before.4 is in
        let earlier = stands.before before.0 before.1 before.2 before.3 same in
        let early : At (round.front.asked ++ round.goes_on.asks) earlier.0 before.1.ask =
        subst (λ (l : List Ask). At l earlier.0 before.1.ask) (sym (order.each place) ∙ round.goes_on.asks_are) earlier.2 in
        let low = less_both earlier.0 lost.0 (length round.front.asked) earlier.1 (at_inside round.front.asked lost.1 lost.0 lost.2) in
        (earlier.0, before.1.ask, at_within round.front.asked round.goes_on.asks earlier.0 before.1.ask low early, before.4, is)
      where
        -- who won the chunk was the writer itself
        its_own : (id chunk : ℕ) (content : Content) → At (writer world place).begun id (Completed chunk content) → IsChunkOf setup (producer_of setup place) chunk
            → (m : ℕ) (one : AskOf) → At order.order m one → one.ask.won ≡ true → one.ask.chunk ≡ chunk → one.place ≡ place
        its_own id chunk content entry own m one there won is =
            let among = among_own order.order m one there in
            let made : At (writer world one.place).asked among.0 one.ask = subst (λ (l : List Ask). At l among.0 one.ask) (sym (order.each one.place)) among.1 in
            let within = is_there one.place among.0 one.ask made in
            let other = won_entry one.place among.0 one.ask within made won in
            let producer = same_producer (producer_of setup one.place) (producer_of setup place) chunk (producer_there one.place within) (producer_there place inside)
            (subst (IsChunkOf setup (producer_of setup one.place)) is other.3) own in
            sym (uses_once scenario setup world closed done collected place one.place id other.0 chunk content other.1 inside within nobody
            (ap (may_be_collected setup scenario.lines) producer ∙ nobody) entry
            (subst (λ (c : ℕ). At (writer world one.place).begun other.0 (Completed c other.1)) is other.2)).0

    -- and so it had begun it by then
    begun_by_then : (id chunk : ℕ) → At (map chunk_of (writer world place).begun) id chunk → id < length round.front.begun
    begun_by_then id chunk at =
        let lines = done.writers place inside in
        let won = won_by_then id chunk at in
        let there = won_at round.front.asked won.0 won.1 won.2 won.3 in
        let begun : At (map chunk_of round.front.begun) there.0 chunk =
        subst (λ (l : List ℕ). At l there.0 chunk) round.in_turn (subst (λ (c : ℕ). At (won_chunks round.front.asked) there.0 c) won.4 there.1) in
        let again : At (map chunk_of (writer world place).begun) there.0 chunk =
        subst (λ (l : List ℕ). At l there.0 chunk) (sym round.goes_on.chunks_are) (at_front (map chunk_of round.front.begun) (won_chunks round.goes_on.asks) there.0 chunk begun) in
        let one = entry_at (writer world place).begun lines.none_held id chunk at in
        let two = entry_at (writer world place).begun lines.none_held there.0 chunk again in
        let same = uses_once scenario setup world closed done collected place place id there.0 chunk one.0 two.0 inside inside nobody nobody one.1 two.1 in
        less_by id there.0 (length (map chunk_of round.front.begun)) (length round.front.begun) same.1 (length-map round.front.begun chunk_of)
        (at_inside (map chunk_of round.front.begun) chunk there.0 begun)

    -- so it has begun no more
    no_more : (chunks : List ℕ) → won_chunks round.goes_on.asks ≡ chunks → length (writer world place).begun ≡ length round.front.begun
    no_more [] none =
        let all = ap length (round.goes_on.chunks_are ∙ ap (λ (l : List ℕ). map chunk_of round.front.begun ++ l) none ∙ append-nil (map chunk_of round.front.begun)) in
        let new = length-map (writer world place).begun chunk_of in let old = length-map round.front.begun chunk_of in
        omega (arith, all, new, old)
    no_more (chunk ∷ chunks) some =
        let all = round.goes_on.chunks_are ∙ ap (λ (l : List ℕ). map chunk_of round.front.begun ++ l) some in
        let at = subst (λ (l : List ℕ). At l (length (map chunk_of round.front.begun)) chunk) (sym all) (at_seam (map chunk_of round.front.begun) chunks chunk) in
        let low = begun_by_then (length (map chunk_of round.front.begun)) chunk at in
        let old = length-map round.front.begun chunk_of in
        absurd (omega (arith, low, old))

  pub begins_none : BeginsNoneBehindLosses setup scenario.lines world
  begins_none place calls behind round inside nobody =
      ∥∥₁_elim done.owned (ℕ_set _ _) (λ (one : (other : World) × IsOwned other × (other.writers ≡ world.writers) × (other.service ≡ world.service)).
      no_more (subst AreInOrder one.2 one.1.ordered) place calls behind round inside nobody (won_chunks round.goes_on.asks) refl)

pub nothing_is_begun_behind_losses : NothingIsBegunBehindLosses
nothing_is_begun_behind_losses = record {
  run = λ scenario setup world run. begins_none scenario setup world _ run.before.done (lines_take_at_most.run _ setup world run);
  stopped = stopped;
}
  where
    stopped : (scenario : Parts) (setup : Setup) (world : World) (next : Delivered) → StopsBefore scenario setup world next
        → BeginsNoneBehindLosses setup scenario.lines world
    stopped scenario setup world next (inl lines) = begins_none scenario setup world _ lines.done (lines_take_at_most.in_lines scenario setup world next lines)
    stopped scenario setup world next (inr ends) = begins_none scenario setup world _ ends.before.done (lines_take_at_most.in_end scenario setup world next ends)
