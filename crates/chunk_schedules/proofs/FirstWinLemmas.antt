-- A writer whose first claim that wins follows one in vain of the same chunk has waited until that arrived.
use Rattle.std.proofs.Common.{◌≡◌, ◌∙◌, ℕ, zero, suc, ◌<◌, ◌≤◌, ◌⊎◌, inl, inr, Bool, true, false, List, [], ◌∷◌, ◌++◌, length, map, set, take, refl, sym, ap, subst, arith, ⊎_elim}
use Rattle.std.proofs.lemmas.Bool.{true≢false}
use Rattle.std.proofs.lemmas.Bool.Decides.{nat_tests}
use Rattle.std.proofs.lemmas.List.{take-append-le, take_all}
use mathlib.Core.Option.{some-injective, some-ne-none}
use Rattle.chunk_plain.specs.Setup.{Setup, sequence_of}
use Rattle.chunk_plain.specs.Views.{At, Ask, BegunChunk, Completed, Noted, WriterView, chunk_of, newcomer, taken_of}
use Rattle.chunk_plain.specs.World.{World, Status, Unclaimed, Claimed, Stamped, Writing, Ready, Reading, status, writer}
use Rattle.chunk_plain.specs.Steps.{claims}
use Rattle.chunk_plain.specs.Owned.{IsOwned, times, won_chunks}
use Rattle.chunk_plain.specs.Plain.{first_world}
use Rattle.chunk_plain.specs.Words.{is_arrival_noted}
use Rattle.chunk_plain.proofs.ArrivedLemmas.{arrival_stays}
use Rattle.chunk_plain.proofs.Lists.{changed, at_inside, at_more, times-first}
use Rattle.chunk_plain.proofs.MadeLemmas.{first_owned}
use Rattle.chunk_schedules.specs.Moves.{Move, Claims, Stamps, Begins, SetsHeader, Publishes, Completes, Calls, Looks, Takes, Learns, Releases, Notes, Commits, HearsOf, Answers, Requests, ReadsAnswer, MayMove, IsWriter, claimed_in, behind}
use Rattle.chunk_schedules.specs.Schedules.{IsSchedule}
use Rattle.chunk_schedules.specs.Laws.{ArrivesBefore, FindsHad, FirstWinsFollowArrivals}
use Rattle.chunk_schedules.proofs.FreedLemmas.{FindsFreed, finds_freed}
use Rattle.chunk_schedules.proofs.GrowLemmas.{grown_along}
use Rattle.chunk_schedules.proofs.ScheduleLemmas.{schedules_join, schedules_keep_ownership}
use Rattle.chunk_schedules.proofs.TakenLemmas.{arrived_were_taken}
use Rattle.chunk_schedules.proofs.VainLemmas.{claims_in_vain_find_had}

-- ---- where a claim won, nobody had the chunk

-- the move is the writer's claim with this number, of a chunk that nobody has
record Wins (world : World) (place number : ℕ) (ask : Ask) : Type 0 where
  pub count : length (writer world place).asked ≡ number
  pub free : status world ask.chunk ≡ Unclaimed

-- the claim was there before the move, or the move makes it
abbrev StoodOrWins : World → (place number : ℕ) → Ask → Type 0
StoodOrWins world place number ask = At (writer world place).asked number ask ⊎ Wins world place number ask

-- a move that changes one writer's view and not its claims
keeps_asked : (world : World) (mover place number : ℕ) (view : WriterView) (ask : Ask) → IsWriter world mover
    → view.asked ≡ (writer world mover).asked
    → At (writer (record world { writers = set world.writers mover view }) place).asked number ask → StoodOrWins world place number ask
keeps_asked world mover place number view ask inside same =
    changed (λ (known : WriterView). At known.asked number ask → StoodOrWins world place number ask) world.writers mover place view newcomer inside
    (λ is at. inl (subst (λ (k : ℕ). At (writer world k).asked number ask) (sym is) (subst (λ l. At l number ask) same at)))
    (λ _ at. inl at)

-- a claim of a chunk that nobody has
wins : (world : World) (mover about found place number : ℕ) (ask : Ask) → IsWriter world mover → status world about ≡ Unclaimed
    → At (writer (record world { writers = set world.writers mover (claims (writer world mover) about found true) }) place).asked number ask
    → StoodOrWins world place number ask
wins world mover about found place number ask inside free =
    changed (λ (known : WriterView). At known.asked number ask → StoodOrWins world place number ask) world.writers mover place
    (claims (writer world mover) about found true) newcomer inside
    (λ is at. ⊎_elim (λ old. inl (subst (λ (k : ℕ). At (writer world k).asked number ask) (sym is) old))
    (λ new. inr (record {
      count = ap (λ (k : ℕ). length (writer world k).asked) is ∙ sym new.0;
      free = subst (λ (a : Ask). status world a.chunk ≡ Unclaimed) new.1 free;
    }))
    (at_more (writer world mover).asked _ ask number at))
    (λ _ at. inl at)

-- one of a chunk that somebody has doesn't win
loses : (world : World) (mover about found place number : ℕ) (ask : Ask) → IsWriter world mover → ask.won ≡ true
    → At (writer (record world { writers = set world.writers mover (claims (writer world mover) about found false) }) place).asked number ask
    → StoodOrWins world place number ask
loses world mover about found place number ask inside won =
    changed (λ (known : WriterView). At known.asked number ask → StoodOrWins world place number ask) world.writers mover place
    (claims (writer world mover) about found false) newcomer inside
    (λ is at. ⊎_elim (λ old. inl (subst (λ (k : ℕ). At (writer world k).asked number ask) (sym is) old))
    (λ new. absurd (true≢false (sym won ∙ sym (ap (λ (a : Ask). a.won) new.1))))
    (at_more (writer world mover).asked _ ask number at))
    (λ _ at. inl at)

claims_stood : (world : World) (mover about found place number : ℕ) (ask : Ask) → IsWriter world mover → ask.won ≡ true
    → (is : Status) → status world about ≡ is → At (writer (claimed_in world mover about found is) place).asked number ask
    → StoodOrWins world place number ask
claims_stood world mover about found place number ask inside won Unclaimed is = wins world mover about found place number ask inside is
claims_stood world mover about found place number ask inside won (Claimed other) is = loses world mover about found place number ask inside won
claims_stood world mover about found place number ask inside won (Stamped other position) is = loses world mover about found place number ask inside won
claims_stood world mover about found place number ask inside won (Writing other position draft) is = loses world mover about found place number ask inside won
claims_stood world mover about found place number ask inside won (Ready other position content) is = loses world mover about found place number ask inside won
claims_stood world mover about found place number ask inside won (Reading other position content) is = loses world mover about found place number ask inside won

stood_or_wins : (setup : Setup) (world : World) (move : Move) (place number : ℕ) (ask : Ask) → MayMove setup world move → ask.won ≡ true
    → At (writer (behind world move) place).asked number ask → StoodOrWins world place number ask
stood_or_wins setup world (Claims mover about found) place number ask may won at =
    claims_stood world mover about found place number ask may.0 won (status world about) refl at
stood_or_wins setup world (Stamps mover about) place number ask may won at = keeps_asked world mover place number _ ask may.0 refl at
stood_or_wins setup world (Begins mover about words) place number ask may won at = keeps_asked world mover place number _ ask may.0 refl at
stood_or_wins setup world (SetsHeader mover about position head) place number ask may won at = keeps_asked world mover place number _ ask may.0 refl at
stood_or_wins setup world (Publishes mover about position index word) place number ask may won at = keeps_asked world mover place number _ ask may.0 refl at
stood_or_wins setup world (Completes mover about position content) place number ask may won at = keeps_asked world mover place number _ ask may.0 refl at
stood_or_wins setup world (Calls mover call) place number ask may won at = keeps_asked world mover place number _ ask may refl at
stood_or_wins setup world (Looks about word header found) place number ask may won at = inl at
stood_or_wins setup world (Takes mover about word header) place number ask may won at = inl at
stood_or_wins setup world (Learns mover about content) place number ask may won at = inl at
stood_or_wins setup world (Releases about) place number ask may won at = inl at
stood_or_wins setup world (Notes event) place number ask may won at = inl at
stood_or_wins setup world (Commits committed) place number ask may won at = inl at
stood_or_wins setup world (HearsOf mover requests) place number ask may won at = keeps_asked world mover place number _ ask may.0 refl at
stood_or_wins setup world (Answers mover flush chunks) place number ask may won at = keeps_asked world mover place number _ ask may.0 refl at
stood_or_wins setup world Requests place number ask may won at = inl at
stood_or_wins setup world (ReadsAnswer mover flush chunks) place number ask may won at = inl at

-- the world in which the claim with this number won, between those before and those behind
record FindsFree (setup : Setup) (old new : World) (place number : ℕ) (ask : Ask) : Type 0 where
  pub mid : World
  pub before : List Move
  pub after : List Move
  pub first : IsSchedule setup old before mid
  pub then : IsSchedule setup mid after new
  pub count : length (writer mid place).asked ≡ number
  pub free : status mid ask.chunk ≡ Unclaimed

finds_free : (setup : Setup) (old new : World) (moves : List Move) (place number : ℕ) (ask : Ask) → IsSchedule setup old moves new → ask.won ≡ true
    → At (writer new place).asked number ask → At (writer old place).asked number ask ⊎ FindsFree setup old new place number ask
finds_free setup old new [] place number ask same won at = inl (subst (λ (world : World). At (writer world place).asked number ask) same at)
finds_free setup old new (move ∷ moves) place number ask schedule won at =
    ⊎_elim
    (λ stood. ⊎_elim (λ before. inl before)
    (λ made. inr (record { mid = old; before = []; after = move ∷ moves; first = refl; then = schedule; count = made.count; free = made.free }))
    (stood_or_wins setup old move place number ask schedule.0 won stood))
    (λ found. inr (record {
      mid = found.mid;
      before = move ∷ found.before;
      after = found.after;
      first = (schedule.0, found.first);
      then = found.then;
      count = found.count;
      free = found.free;
    }))
    (finds_free setup (behind old move) new moves place number ask schedule.1 won at)

-- ---- who has won nothing has begun nothing

no_fewer : (x y : ℕ) (ys : List ℕ) → times x ys ≤ times x (y ∷ ys)
no_fewer x y ys = grind (arith, nat_tests)

-- a chunk that was begun stands among those that were
counted : (begun : List BegunChunk) (n : ℕ) (entry : BegunChunk) → At begun n entry → 0 < times (chunk_of entry) (map chunk_of begun)
counted [] n entry at = absurd (some-ne-none entry (sym at))
counted (first ∷ begun) zero entry at =
    subst (λ (one : BegunChunk). 0 < times (chunk_of one) (map chunk_of (first ∷ begun))) (some-injective first entry at)
    (let more = times-first (chunk_of first) (map chunk_of begun) in omega (arith, more))
counted (first ∷ begun) (suc n) entry at =
    let rest = counted begun n entry at in
    let more = no_fewer (chunk_of entry) (chunk_of first) (map chunk_of begun) in
    omega (arith, rest, more)

-- and so none of its chunks was taken
none_taken_of : (world : World) (place number : ℕ) → IsOwned world → won_chunks (writer world place).asked ≡ [] → number < (taken_of world.service place).count → ⊥
none_taken_of world place number owned none low =
    let entry = (owned.counts place).completed number low in
    let some = counted (writer world place).begun number (Completed entry.0 entry.1) entry.2 in
    let all = (owned.counts place).wins entry.0 in
    let nothing : times entry.0 (won_chunks (writer world place).asked) ≡ 0 = ap (times entry.0) none in
    omega (arith, some, all, nothing)

not_true : (b : Bool) → (b ≡ true → ⊥) → b ≡ false
not_true true never = absurd (never refl)
not_true false never = refl

-- ---- so what it waited for has arrived

module _ (setup : Setup) (moves : List Move) (world : World) (schedule : IsSchedule setup (first_world setup) moves world) (place i j : ℕ) (lost won : Ask)
    (at_lost : At (writer world place).asked i lost) (vain : lost.won ≡ false) (at_won : At (writer world place).asked j won) (gained : won.won ≡ true)
    (same : lost.chunk ≡ won.chunk) (less : i < j) (none : won_chunks (take j (writer world place).asked) ≡ []) where
  had : FindsHad setup moves (first_world setup) world place i lost
  had = claims_in_vain_find_had setup moves world schedule place i lost at_lost vain

  module _ (won_there : FindsFree setup had.mid world place j won) where
    reached : IsSchedule setup (first_world setup) (had.before ++ won_there.before) won_there.mid
    reached = schedules_join.both setup (first_world setup) had.mid won_there.mid had.before won_there.before had.first won_there.first

    -- by then it had made just the claims before
    asked_by_then : take j (writer world place).asked ≡ (writer won_there.mid place).asked
    asked_by_then =
        let grown = grown_along setup won_there.mid world won_there.after place won_there.then in
        let count = won_there.count in
        ap (take j) grown.asks_are
        ∙ (take-append-le j (writer won_there.mid place).asked grown.asks (omega (arith, count))
        ∙ take_all j (writer won_there.mid place).asked (omega (arith, count)))

    none_yet : (number : ℕ) → is_arrival_noted (sequence_of place) number won_there.mid.service.events ≡ true → ⊥
    none_yet number has =
        none_taken_of won_there.mid place number
        (schedules_keep_ownership setup (first_world setup) won_there.mid (had.before ++ won_there.before) (first_owned setup) reached).0
        (ap won_chunks (sym asked_by_then) ∙ none)
        (arrived_were_taken setup (had.before ++ won_there.before) won_there.mid reached place number has)

    arrives : FindsFreed setup won_there.before had.mid won_there.mid won.chunk → ArrivesBefore world.service.events place
    arrives freed =
        let more = grown_along setup freed.mid won_there.mid (Releases won.chunk ∷ freed.after) place freed.then in
        let rest = grown_along setup won_there.mid world won_there.after place won_there.then in
        record {
          before = won_there.mid.service.events;
          after = rest.events;
          notes_are = rest.events_are;
          other = freed.may.place;
          position = freed.may.position;
          arrived = subst (λ (notes : List Noted). is_arrival_noted (sequence_of freed.may.place) freed.may.position notes ≡ true) (sym more.events_are)
              (arrival_stays (sequence_of freed.may.place) freed.may.position freed.mid.service.events more.events freed.may.arrived);
          none_yet = λ number. not_true (is_arrival_noted (sequence_of place) number won_there.mid.service.events) (none_yet number);
        }

    arrives_then : ArrivesBefore world.service.events place
    arrives_then =
        ⊎_elim
        (λ free. absurd (had.had (ap (status had.mid) same ∙ free)))
        (λ freed. arrives freed)
        (finds_freed setup had.mid won_there.mid won_there.before won.chunk won_there.first won_there.free)

  found : ArrivesBefore world.service.events place
  found =
      ⊎_elim
      (λ early. absurd (let low = at_inside (writer had.mid place).asked won j early in let count = had.count in omega (arith, low, count, less)))
      (λ there. arrives_then there)
      (finds_free setup had.mid world (Claims place lost.chunk lost.found ∷ had.after) place j won had.then gained at_won)

pub first_wins_follow_arrivals : FirstWinsFollowArrivals
first_wins_follow_arrivals setup moves world schedule place i j lost won at_lost vain at_won gained same less none =
    found setup moves world schedule place i j lost won at_lost vain at_won gained same less none
