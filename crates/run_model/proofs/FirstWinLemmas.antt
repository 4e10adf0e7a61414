-- Where a writer drops its first packet and begins a chunk later, of a producer that has one, it has waited until another chunk arrived.
use Rattle.std.proofs.Common.{◌≡◌, ◌∙◌, ℕ, zero, suc, ◌<◌, ◌≤◌, ◌⊎◌, inl, inr, Bool, true, false, cond, List, [], ◌∷◌, ◌++◌, length, map, get_or, take, refl, sym, ap, subst, arith}
use Rattle.std.proofs.Math.Logic.{∥∥₁_elim, ∥∥₁_map₂}
use Rattle.std.proofs.lemmas.Bool.{cases_lt}
use Rattle.std.proofs.lemmas.List.{length-map}
use mathlib.Core.Option.{some-ne-none}
use Rattle.trace_model.specs.Calls.{Call, Begun}
use Rattle.trace_model.specs.Packets.{packets_of}
use Rattle.chunk_plain.specs.Owned.{won_chunks}
use Rattle.chunk_plain.specs.Plain.{first_world}
use Rattle.chunk_plain.specs.Setup.{Setup, IsLaid, IsChunkOf, producer_of}
use Rattle.chunk_plain.specs.Views.{Ask, At, BegunChunk, ServiceView, WriterView, chunk_of, newcomer}
use Rattle.chunk_plain.specs.World.{World, writer}
use Rattle.chunk_plain.proofs.Lists.{at_inside}
use Rattle.chunk_schedules.specs.Laws.{ArrivesBefore}
use Rattle.chunk_schedules.specs.Moves.{Move}
use Rattle.chunk_schedules.specs.Schedules.{IsSchedule, Leads}
use Rattle.chunk_schedules.proofs.FirstWinLemmas.{first_wins_follow_arrivals}
use Rattle.chunk_schedules.proofs.ScheduleLemmas.{schedules_join}
use Rattle.world_model.specs.FirstBuffers.{payload_at}
use Rattle.scenario_text.specs.Scenario.{Parts}
use Rattle.replay_model.proofs.AccountLemmas.{pages_begun}
use Rattle.schedule_laws.proofs.BetweenLemmas.{has_written}
use Rattle.run_model.specs.Settled.{HasDoneAll}
use Rattle.run_model.specs.Vain.{HasVainRounds}
use Rattle.run_model.proofs.BehindLemmas.{lost_here, own_at}
use Rattle.run_model.proofs.FirstKeptLemmas.{one_dropped}
use Rattle.run_model.proofs.FreshLemmas.{none_kept}
use Rattle.run_model.proofs.OrderLemmas.{at_front, at_within, won_at}

-- ---- the first claim that won

record FirstWin (asks : List Ask) : Type 0 where
  pub at : ℕ
  pub ask : Ask
  pub there : At asks at ask
  pub won : ask.won ≡ true
  pub none : won_chunks (take at asks) ≡ []

-- the one that stands first, or one behind it
first_or_later : (first : Ask) (asks : List Ask) → (0 < length (won_chunks asks) → FirstWin asks) → 0 < length (won_chunks (first ∷ asks))
    → (won : Bool) → first.won ≡ won → FirstWin (first ∷ asks)
first_or_later first asks later some true won = record { at = 0; ask = first; there = refl; won = won; none = refl }
first_or_later first asks later some false lost =
    let skips : won_chunks (first ∷ asks) ≡ won_chunks asks = ap (λ (b : Bool). cond b (first.chunk ∷ won_chunks asks) (won_chunks asks)) lost in
    let long = ap (λ (chunks : List ℕ). length chunks) skips in
    let rest = later (omega (arith, some, long)) in
    record {
      at = suc rest.at;
      ask = rest.ask;
      there = rest.there;
      won = rest.won;
      none = ap (λ (b : Bool). cond b (first.chunk ∷ won_chunks (take rest.at asks)) (won_chunks (take rest.at asks))) lost ∙ rest.none;
    }

first_win : (asks : List Ask) → 0 < length (won_chunks asks) → FirstWin asks
first_win [] some = absurd (omega (arith, some))
first_win (first ∷ asks) some = first_or_later first asks (λ more. first_win asks more) some first.won refl

no_entry : (begun : List BegunChunk) → length begun ≡ 0 → map chunk_of begun ≡ []
no_entry [] none = refl
no_entry (first ∷ begun) none = absurd (omega (arith, none))

-- ---- a writer that drops its first packet

module _ (scenario : Parts) (setup : Setup) (world : World) (closed : Bool) (done : HasDoneAll scenario setup world closed) (laid : IsLaid setup)
    (place chunk : ℕ) (inside : place < length setup.writers) (own : IsChunkOf setup (producer_of setup place) chunk)
    (only : (other : ℕ) → IsChunkOf setup (producer_of setup place) other → other ≡ chunk)
    (more : List Call) (dropped : (writer world place).calls ≡ Begun false ∷ more) (some : 0 < length (writer world place).begun) where
  round : HasVainRounds setup place (writer world place) 0 1
  round = (done.writers place inside).vain.dropped 0 (subst (λ (calls : List Call). At calls 0 (Begun false)) (sym dropped) refl)

  -- its round in vain, before which it had won no chunk
  lost : (n : ℕ) × (ask : Ask) × At round.front.asked n ask × (ask.won ≡ false) × (ask.chunk ≡ chunk)
  lost = lost_here setup place (writer world place) 0 1 round chunk own

  at_lost : At (writer world place).asked lost.0 lost.1
  at_lost = subst (λ (l : List Ask). At l lost.0 lost.1) (sym round.goes_on.asks_are) (at_front round.front.asked round.goes_on.asks lost.0 lost.1 lost.2)

  none_won : won_chunks round.front.asked ≡ []
  none_won =
      let written = has_written setup place round.front laid round.between in
      let none = one_dropped (writer world place).calls round.front.calls more dropped round.goes_on.calls round.goes_on.calls_are round.noted in
      let pages = none_kept (payload_at setup place) (packets_of round.front.calls) written.cut.cut.pages none written.cut.cut.cut in
      round.in_turn ∙ no_entry round.front.begun (pages_begun setup place round.front written ∙ pages)

  -- the first claim that it won
  win : FirstWin (writer world place).asked
  win =
      let all = ap (λ (chunks : List ℕ). length chunks) (done.writers place inside).in_turn in
      let long = length-map (writer world place).begun chunk_of in
      first_win (writer world place).asked (omega (arith, some, all, long))

  win_behind : length round.front.asked ≤ win.at
  win_behind = by_place (cases_lt win.at (length round.front.asked))
    where
      by_place : (win.at < length round.front.asked) ⊎ (length round.front.asked ≤ win.at) → length round.front.asked ≤ win.at
      by_place (inr past) = past
      by_place (inl low) =
          let early = at_within round.front.asked round.goes_on.asks win.at win.ask low
          (subst (λ (l : List Ask). At l win.at win.ask) round.goes_on.asks_are win.there) in
          let there = won_at round.front.asked win.at win.ask early win.won in
          absurd (some-ne-none win.ask.chunk (sym (subst (λ (l : List ℕ). At l there.0 win.ask.chunk) none_won there.1)))

  less : lost.0 < win.at
  less = let low = at_inside round.front.asked lost.1 lost.0 lost.2 in let past = win_behind in omega (arith, low, past)

  -- it is one of the producer's only chunk
  same : lost.1.chunk ≡ win.ask.chunk
  same =
      let lines = done.writers place inside in
      let there = won_at (writer world place).asked win.at win.ask win.there win.won in
      let begun : At (map chunk_of (writer world place).begun) there.0 win.ask.chunk =
      subst (λ (l : List ℕ). At l there.0 win.ask.chunk) lines.in_turn there.1 in
      lost.4 ∙ sym (only win.ask.chunk (own_at setup (producer_of setup place) (writer world place).begun lines.between.agrees.claims.own_chunks there.0
      win.ask.chunk begun))

  pub waits_until_another_arrives : ∥ ArrivesBefore world.service.events place ∥₁
  waits_until_another_arrives =
      ∥∥₁_elim done.leads squash₁ (λ (goes : (other : World) × Leads setup done.stood other × (other.writers ≡ world.writers) × (other.service ≡ world.service)).
      ∥∥₁_map₂ done.reached goes.1
      (λ (first : (moves : List Move) × IsSchedule setup (first_world setup) moves done.stood) (then : (moves : List Move) × IsSchedule setup done.stood moves goes.0).
      let schedule = schedules_join.both setup (first_world setup) done.stood goes.0 first.0 then.0 first.1 then.1 in
      let asked : (writer goes.0 place).asked ≡ (writer world place).asked = ap (λ (views : List WriterView). (get_or views place newcomer).asked) goes.2 in
      subst (λ (view : ServiceView). ArrivesBefore view.events place) goes.3
      (first_wins_follow_arrivals setup (first.0 ++ then.0) goes.0 schedule place lost.0 win.at lost.1 win.ask
      (subst (λ (l : List Ask). At l lost.0 lost.1) (sym asked) at_lost) lost.3
      (subst (λ (l : List Ask). At l win.at win.ask) (sym asked) win.there) win.won
      same less (subst (λ (l : List Ask). won_chunks (take win.at l) ≡ []) (sym asked) win.none))))
