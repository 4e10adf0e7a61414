-- Of a writer that is alone on its producer the first packet is begun: no claim was in vain before it.
use Rattle.std.proofs.Common.{◌≡◌, ◌∙◌, ℕ, zero, suc, ◌<◌, Bool, true, false, List, [], ◌∷◌, ◌++◌, length, map, refl, sym, ap, subst, arith}
use Rattle.std.specs.Prelude.{fold}
use Rattle.std.proofs.Math.Logic.{∥∥₁_elim}
use Rattle.std.proofs.Math.Nat.{ℕ_set}
use mathlib.Core.Option.{some-ne-none}
use Rattle.trace_model.specs.Calls.{Call, Begun, Number, Bytes, Nested, Ended, GivenUp, Finished, Flushed}
use Rattle.trace_model.specs.Encoding.{number_field, bytes_field}
use Rattle.trace_model.specs.Packets.{Packet, Account, noted, packets_of, kept_of, begun_packet, with_more, with_nested, with_nested_ended, given_up_packet, finished_packet}
use Rattle.chunk_plain.specs.Owned.{AreInOrder, IsOwned, asks_of, won_chunks}
use Rattle.chunk_plain.specs.Setup.{Setup, IsLaid, IsChunkOf, producer_of}
use Rattle.chunk_plain.specs.Views.{Ask, At, BegunChunk, chunk_of}
use Rattle.chunk_plain.specs.World.{World, writer}
use Rattle.chunk_plain.proofs.Lists.{at_inside}
use Rattle.world_model.specs.FirstBuffers.{payload_at}
use Rattle.scenario_text.specs.Scenario.{Parts}
use Rattle.replay_model.proofs.AccountLemmas.{pages_begun}
use Rattle.schedule_laws.proofs.BetweenLemmas.{has_written}
use Rattle.run_model.specs.Collected.{CollectedByLines, may_be_collected}
use Rattle.run_model.specs.Noted.{done_calls}
use Rattle.run_model.specs.Settled.{HasDoneAll}
use Rattle.run_model.specs.Vain.{HasVainRounds, LosesInVain}
use Rattle.run_model.proofs.BehindLemmas.{is_there, lost_here}
use Rattle.run_model.proofs.FreshLemmas.{none_kept}
use Rattle.run_model.proofs.OrderLemmas.{StandsAt, stands_at, among_own, at_front, at_within, won_at}

-- ---- which packets were begun

-- which packets were kept at their begin, the newest first
abbrev pub kept_after : List Bool → Call → List Bool
kept_after kept (Begun one) = one ∷ kept
kept_after kept call = kept

abbrev pub kept_flags : List Packet → List Bool
kept_flags packets = map (λ (packet : Packet). packet.kept) packets

abbrev account : List Packet → Bool → Account
account packets flushed = record { packets = packets; flushed = flushed }

kept_noted : (calls : List Call) (packets : List Packet) (flushed : Bool)
    → kept_flags (fold noted (account packets flushed) calls).packets ≡ fold kept_after (kept_flags packets) calls
kept_noted [] packets flushed = refl
kept_noted (Begun kept ∷ calls) packets flushed = kept_noted calls (begun_packet kept (account packets flushed) ∷ packets) false
kept_noted (Number field value ∷ calls) [] flushed = kept_noted calls [] flushed
kept_noted (Number field value ∷ calls) (packet ∷ packets) flushed = kept_noted calls (with_more (number_field field value) packet ∷ packets) flushed
kept_noted (Bytes field text times ∷ calls) [] flushed = kept_noted calls [] flushed
kept_noted (Bytes field text times ∷ calls) (packet ∷ packets) flushed = kept_noted calls (with_more (bytes_field field text times) packet ∷ packets) flushed
kept_noted (Nested field ∷ calls) [] flushed = kept_noted calls [] flushed
kept_noted (Nested field ∷ calls) (packet ∷ packets) flushed = kept_noted calls (with_nested field packet ∷ packets) flushed
kept_noted (Ended ∷ calls) [] flushed = kept_noted calls [] flushed
kept_noted (Ended ∷ calls) (packet ∷ packets) flushed = kept_noted calls (with_nested_ended packet ∷ packets) flushed
kept_noted (GivenUp ∷ calls) [] flushed = kept_noted calls [] flushed
kept_noted (GivenUp ∷ calls) (packet ∷ packets) flushed = kept_noted calls (given_up_packet packet ∷ packets) flushed
kept_noted (Finished ∷ calls) [] flushed = kept_noted calls [] flushed
kept_noted (Finished ∷ calls) (packet ∷ packets) flushed = kept_noted calls (finished_packet packet ∷ packets) flushed
kept_noted (Flushed ∷ calls) packets flushed = kept_noted calls packets true

-- the first packet is the oldest one
oldest : List Bool → Bool
oldest [] = false
oldest (one ∷ []) = one
oldest (one ∷ next ∷ more) = oldest (next ∷ more)

oldest_stays : (calls : List Call) (one : Bool) (more : List Bool) → oldest (fold kept_after (one ∷ more) calls) ≡ oldest (one ∷ more)
unfolding oldest
oldest_stays [] one more = refl
oldest_stays (Begun kept ∷ calls) one more = oldest_stays calls kept (one ∷ more)
oldest_stays (Number field value ∷ calls) one more = oldest_stays calls one more
oldest_stays (Bytes field text times ∷ calls) one more = oldest_stays calls one more
oldest_stays (Nested field ∷ calls) one more = oldest_stays calls one more
oldest_stays (Ended ∷ calls) one more = oldest_stays calls one more
oldest_stays (GivenUp ∷ calls) one more = oldest_stays calls one more
oldest_stays (Finished ∷ calls) one more = oldest_stays calls one more
oldest_stays (Flushed ∷ calls) one more = oldest_stays calls one more

-- where the first call begins a packet that is kept, the first packet is kept
pub first_of_two : (calls more : List Call) (p q : Packet) → calls ≡ Begun true ∷ more → packets_of calls ≡ p ∷ q ∷ [] → q.kept ≡ true
unfolding oldest
first_of_two calls more p q is packets =
    sym (ap (λ (all : List Packet). oldest (kept_flags all)) packets)
    ∙ ap (λ (cs : List Call). oldest (kept_flags (packets_of cs))) is
    ∙ ap oldest (kept_noted (Begun true ∷ more) [] false)
    ∙ oldest_stays more true []

-- ---- the first call

-- the first call of a writer that was asked for a packet first begins it, kept or not
pub record BeginsFirst (calls : List Call) : Type 0 where
  pub kept : Bool
  pub more : List Call
  pub is : calls ≡ Begun kept ∷ more

pub begins_first : (setup : Setup) (world : World) (place : ℕ) (asked : List Call) → LosesInVain setup place (writer world place)
    → done_calls (writer world place).calls ≡ Begun true ∷ asked → BeginsFirst (writer world place).calls
begins_first setup world place asked vain done = by_calls (writer world place).calls refl done
  where
    by_calls : (calls : List Call) → (writer world place).calls ≡ calls → done_calls calls ≡ Begun true ∷ asked → BeginsFirst calls
    by_calls [] same is = absurd (let never : [] ≡ Begun true ∷ asked = is in cc)
    by_calls (Begun kept ∷ more) same is = record { kept = kept; more = more; is = refl }
    by_calls (GivenUp ∷ more) same is =
        let there : At (writer world place).calls 0 GivenUp = subst (λ (calls : List Call). At calls 0 GivenUp) (sym same) refl in
        absurd (let never = (vain.given_up 0 there).1 in omega (arith, never))
    by_calls (Number field value ∷ more) same is = absurd (let never : Number field value ∷ done_calls more ≡ Begun true ∷ asked = is in cc)
    by_calls (Bytes field text times ∷ more) same is = absurd (let never : Bytes field text times ∷ done_calls more ≡ Begun true ∷ asked = is in cc)
    by_calls (Nested field ∷ more) same is = absurd (let never : Nested field ∷ done_calls more ≡ Begun true ∷ asked = is in cc)
    by_calls (Ended ∷ more) same is = absurd (let never : Ended ∷ done_calls more ≡ Begun true ∷ asked = is in cc)
    by_calls (Finished ∷ more) same is = absurd (let never : Finished ∷ done_calls more ≡ Begun true ∷ asked = is in cc)
    by_calls (Flushed ∷ more) same is = absurd (let never : Flushed ∷ done_calls more ≡ Begun true ∷ asked = is in cc)

-- one call alone, that drops a packet, leaves none that is kept
pub one_dropped : (calls front more : List Call) → calls ≡ Begun false ∷ more → (behind : List Call) → calls ≡ front ++ behind → length front ≡ 1 → kept_of (packets_of front) ≡ []
one_dropped calls [] more is behind parts long = absurd (omega (arith, long))
one_dropped calls (one ∷ next ∷ front) more is behind parts long = absurd (omega (arith, long))
one_dropped calls (one ∷ []) more is behind parts long =
    let same : one ≡ Begun false = (let both : one ∷ behind ≡ Begun false ∷ more = sym parts ∙ is in cc) in
    ap (λ (call : Call). kept_of (packets_of (call ∷ []))) same

less_both : (a b c : ℕ) → a < b → b < c → a < c
less_both a b c low high = omega (arith, low, high)

-- ---- a writer that is alone

module _ (scenario : Parts) (setup : Setup) (world : World) (closed : Bool) (done : HasDoneAll scenario setup world closed)
    (collected : CollectedByLines setup scenario.lines done.stood.service) (laid : IsLaid setup) (alone : length setup.writers ≡ 1)
    (chunk : ℕ) (own : IsChunkOf setup (producer_of setup 0) chunk) (nobody : may_be_collected setup scenario.lines (producer_of setup 0) ≡ false) where
  -- Its first packet isn't dropped: behind its round in vain it would be between two calls, in an account without chunks; so it had won
  -- none by then, and nobody else had one.
  pub not_dropped : (more : List Call) → (writer world 0).calls ≡ Begun false ∷ more → zero ≡ suc zero
  not_dropped more is =
      ∥∥₁_elim done.owned (ℕ_set zero (suc zero))
      (λ (one : (other : World) × IsOwned other × (other.writers ≡ world.writers) × (other.service ≡ world.service)).
      absurd (clash (subst AreInOrder one.2 one.1.ordered)))
    where
      inside : 0 < length setup.writers
      inside = omega (arith, alone)

      round : HasVainRounds setup 0 (writer world 0) 0 1
      round = (done.writers 0 inside).vain.dropped 0 (subst (λ (calls : List Call). At calls 0 (Begun false)) (sym is) refl)

      -- it had begun no chunk by then
      none_begun : length round.front.begun ≡ 0
      none_begun =
          let written = has_written setup 0 round.front laid round.between in
          let none = one_dropped (writer world 0).calls round.front.calls more is round.goes_on.calls round.goes_on.calls_are round.noted in
          let pages = none_kept (payload_at setup 0) (packets_of round.front.calls) written.cut.cut.pages none written.cut.cut.cut in
          pages_begun setup 0 round.front written ∙ pages

      no_entry : (begun : List BegunChunk) → length begun ≡ 0 → map chunk_of begun ≡ []
      no_entry [] none = refl
      no_entry (first ∷ begun) none = absurd (omega (arith, none))

      none_won : won_chunks round.front.asked ≡ []
      none_won = round.in_turn ∙ no_entry round.front.begun none_begun

      -- whoever won the chunk was the writer itself, before its round
      clash : AreInOrder world.writers → ⊥
      clash order =
          let lost = lost_here setup 0 (writer world 0) 0 1 round chunk own in
          let stood : At (writer world 0).asked lost.0 lost.1 =
          subst (λ (l : List Ask). At l lost.0 lost.1) (sym round.goes_on.asks_are) (at_front round.front.asked round.goes_on.asks lost.0 lost.1 lost.2) in
          let stands : StandsAt 0 order.order (asks_of 0 order.order) lost.0 lost.1 =
          stands_at 0 order.order lost.0 lost.1 (subst (λ (l : List Ask). At l lost.0 lost.1) (order.each 0) stood) in
          let before = order.won_before stands.at stands.one stands.there (ap (λ (a : Ask). a.won) stands.is ∙ lost.3) in
          let among = among_own order.order before.0 before.1 before.2 in
          let made : At (writer world before.1.place).asked among.0 before.1.ask =
          subst (λ (l : List Ask). At l among.0 before.1.ask) (sym (order.each before.1.place)) among.1 in
          let within = is_there scenario setup world closed done collected before.1.place among.0 before.1.ask made in
          let same : before.1.place ≡ 0 = omega (arith, within, alone) in
          let earlier = stands.before before.0 before.1 before.2 before.3 same in
          let early : At (round.front.asked ++ round.goes_on.asks) earlier.0 before.1.ask =
          subst (λ (l : List Ask). At l earlier.0 before.1.ask) (sym (order.each 0) ∙ round.goes_on.asks_are) earlier.2 in
          let low = less_both earlier.0 lost.0 (length round.front.asked) earlier.1 (at_inside round.front.asked lost.1 lost.0 lost.2) in
          let won = won_at round.front.asked earlier.0 before.1.ask (at_within round.front.asked round.goes_on.asks earlier.0 before.1.ask low early) before.4 in
          some-ne-none before.1.ask.chunk (sym (subst (λ (l : List ℕ). At l won.0 before.1.ask.chunk) none_won won.1))

  -- so it was begun
  pub begun_first : (first : BeginsFirst (writer world 0).calls) → first.kept ≡ true
  begun_first first = by_kept first.kept refl
    where
      by_kept : (kept : Bool) → first.kept ≡ kept → first.kept ≡ true
      by_kept true is = is
      by_kept false is =
          absurd (let never = not_dropped first.more (first.is ∙ ap (λ (kept : Bool). Begun kept ∷ first.more) is) in omega (arith, never))
