-- Each claim in vain of a schedule was made where somebody had the chunk.
use Rattle.std.proofs.Common.{◌≡◌, ℕ, ◌⊎◌, inl, inr, true, false, List, [], ◌∷◌, length, set, refl, sym, ◌∙◌, ap, subst, ⊎_elim}
use Rattle.std.proofs.lemmas.Bool.{true≢false}
use mathlib.Core.Option.{some-ne-none}
use Rattle.chunk_plain.specs.Views.{At, Ask, WriterView, newcomer}
use Rattle.chunk_plain.specs.World.{World, Status, Unclaimed, Claimed, Stamped, Writing, Ready, Reading, status, writer}
use Rattle.chunk_plain.specs.Steps.{claims}
use Rattle.chunk_plain.specs.Plain.{first_world}
use Rattle.chunk_plain.proofs.Lists.{changed, at_more}
use Rattle.chunk_plain.proofs.MadeLemmas.{all_same}
use Rattle.chunk_plain.specs.Setup.{Setup}
use Rattle.chunk_schedules.specs.Moves.{Move, Claims, Stamps, Begins, SetsHeader, Publishes, Completes, Calls, Looks, Takes, Learns, Releases, Notes, Commits, HearsOf, Answers, Requests, ReadsAnswer, MayMove, IsWriter, claimed_in, behind}
use Rattle.chunk_schedules.specs.Schedules.{IsSchedule}
use Rattle.chunk_schedules.specs.Laws.{ClaimsInVainFindHad, FindsHad}

-- the move is the writer's claim with this number, of a chunk that somebody has
record MakesInVain (world : World) (move : Move) (place number : ℕ) (ask : Ask) : Type 0 where
  pub is : move ≡ Claims place ask.chunk ask.found
  pub count : length (writer world place).asked ≡ number
  pub had : status world ask.chunk ≡ Unclaimed → ⊥

-- the claim was there before the move, or the move makes it
abbrev StoodOrMade : World → Move → (place number : ℕ) → Ask → Type 0
StoodOrMade world move place number ask = At (writer world place).asked number ask ⊎ MakesInVain world move place number ask

-- a move that changes one writer's view and not its claims
keeps_asked : (world : World) (move : Move) (mover place number : ℕ) (view : WriterView) (ask : Ask) → IsWriter world mover
    → view.asked ≡ (writer world mover).asked
    → At (writer (record world { writers = set world.writers mover view }) place).asked number ask → StoodOrMade world move place number ask
keeps_asked world move mover place number view ask inside same =
    changed (λ (known : WriterView). At known.asked number ask → StoodOrMade world move place number ask) world.writers mover place view newcomer inside
    (λ is at. inl (subst (λ (k : ℕ). At (writer world k).asked number ask) (sym is) (subst (λ l. At l number ask) same at)))
    (λ _ at. inl at)

-- a claim of a chunk that nobody has isn't in vain
wins : (world : World) (mover chunk found place number : ℕ) (ask : Ask) → IsWriter world mover → ask.won ≡ false
    → At (writer (record world { writers = set world.writers mover (claims (writer world mover) chunk found true) }) place).asked number ask
    → StoodOrMade world (Claims mover chunk found) place number ask
wins world mover chunk found place number ask inside lost =
    changed (λ (known : WriterView). At known.asked number ask → StoodOrMade world (Claims mover chunk found) place number ask) world.writers mover place
    (claims (writer world mover) chunk found true) newcomer inside
    (λ is at. ⊎_elim (λ old. inl (subst (λ (k : ℕ). At (writer world k).asked number ask) (sym is) old))
    (λ new. absurd (true≢false (ap (λ (a : Ask). a.won) new.1 ∙ lost)))
    (at_more (writer world mover).asked _ ask number at))
    (λ _ at. inl at)

-- one of a chunk that somebody has is
loses : (world : World) (mover chunk found place number : ℕ) (ask : Ask) → IsWriter world mover → (status world chunk ≡ Unclaimed → ⊥)
    → At (writer (record world { writers = set world.writers mover (claims (writer world mover) chunk found false) }) place).asked number ask
    → StoodOrMade world (Claims mover chunk found) place number ask
loses world mover chunk found place number ask inside had =
    changed (λ (known : WriterView). At known.asked number ask → StoodOrMade world (Claims mover chunk found) place number ask) world.writers mover place
    (claims (writer world mover) chunk found false) newcomer inside
    (λ is at. ⊎_elim (λ old. inl (subst (λ (k : ℕ). At (writer world k).asked number ask) (sym is) old))
    (λ new. inr (record {
      is = ap (λ (k : ℕ). Claims k chunk found) (sym is) ∙ ap (λ (a : Ask). Claims place a.chunk a.found) new.1;
      count = ap (λ (k : ℕ). length (writer world k).asked) is ∙ sym new.0;
      had = subst (λ (a : Ask). status world a.chunk ≡ Unclaimed → ⊥) new.1 had;
    }))
    (at_more (writer world mover).asked _ ask number at))
    (λ _ at. inl at)

claims_stood : (world : World) (mover chunk found place number : ℕ) (ask : Ask) → IsWriter world mover → ask.won ≡ false
    → (is : Status) → status world chunk ≡ is → At (writer (claimed_in world mover chunk found is) place).asked number ask
    → StoodOrMade world (Claims mover chunk found) place number ask
claims_stood world mover chunk found place number ask inside lost Unclaimed is = wins world mover chunk found place number ask inside lost
claims_stood world mover chunk found place number ask inside lost (Claimed other) is = loses world mover chunk found place number ask inside (λ free. absurd cc)
claims_stood world mover chunk found place number ask inside lost (Stamped other position) is = loses world mover chunk found place number ask inside (λ free. absurd cc)
claims_stood world mover chunk found place number ask inside lost (Writing other position draft) is = loses world mover chunk found place number ask inside (λ free. absurd cc)
claims_stood world mover chunk found place number ask inside lost (Ready other position content) is = loses world mover chunk found place number ask inside (λ free. absurd cc)
claims_stood world mover chunk found place number ask inside lost (Reading other position content) is = loses world mover chunk found place number ask inside (λ free. absurd cc)

stood_or_made : (setup : Setup) (world : World) (move : Move) (place number : ℕ) (ask : Ask) → MayMove setup world move → ask.won ≡ false
    → At (writer (behind world move) place).asked number ask → StoodOrMade world move place number ask
stood_or_made setup world (Claims mover chunk found) place number ask may lost at =
    claims_stood world mover chunk found place number ask may.0 lost (status world chunk) refl at
stood_or_made setup world (Stamps mover chunk) place number ask may lost at = keeps_asked world (Stamps mover chunk) mover place number _ ask may.0 refl at
stood_or_made setup world (Begins mover chunk words) place number ask may lost at = keeps_asked world (Begins mover chunk words) mover place number _ ask may.0 refl at
stood_or_made setup world (SetsHeader mover chunk position head) place number ask may lost at = keeps_asked world (SetsHeader mover chunk position head) mover place number _ ask may.0 refl at
stood_or_made setup world (Publishes mover chunk position index word) place number ask may lost at = keeps_asked world (Publishes mover chunk position index word) mover place number _ ask may.0 refl at
stood_or_made setup world (Completes mover chunk position content) place number ask may lost at = keeps_asked world (Completes mover chunk position content) mover place number _ ask may.0 refl at
stood_or_made setup world (Calls mover call) place number ask may lost at = keeps_asked world (Calls mover call) mover place number _ ask may refl at
stood_or_made setup world (Looks chunk word header found) place number ask may lost at = inl at
stood_or_made setup world (Takes mover chunk word header) place number ask may lost at = inl at
stood_or_made setup world (Learns mover chunk content) place number ask may lost at = inl at
stood_or_made setup world (Releases chunk) place number ask may lost at = inl at
stood_or_made setup world (Notes event) place number ask may lost at = inl at
stood_or_made setup world (Commits committed) place number ask may lost at = inl at
stood_or_made setup world (HearsOf mover requests) place number ask may lost at = keeps_asked world (HearsOf mover requests) mover place number _ ask may.0 refl at
stood_or_made setup world (Answers mover flush chunks) place number ask may lost at = keeps_asked world (Answers mover flush chunks) mover place number _ ask may.0 refl at
stood_or_made setup world Requests place number ask may lost at = inl at
stood_or_made setup world (ReadsAnswer mover flush chunks) place number ask may lost at = inl at

-- a move is put before the moves that lead to the claim
found_later : (setup : Setup) (old new : World) (move : Move) (moves : List Move) (place number : ℕ) (ask : Ask) → MayMove setup old move
    → FindsHad setup moves (behind old move) new place number ask → FindsHad setup (move ∷ moves) old new place number ask
found_later setup old new move moves place number ask may found = record {
  mid = found.mid;
  before = move ∷ found.before;
  after = found.after;
  moves_are = ap (λ (l : List Move). move ∷ l) found.moves_are;
  first = (may, found.first);
  then = found.then;
  count = found.count;
  had = found.had;
}

-- a claim in vain at the end of a schedule was there before it, or was made where somebody had the chunk
finds_had : (setup : Setup) (old new : World) (moves : List Move) (place number : ℕ) (ask : Ask) → IsSchedule setup old moves new → ask.won ≡ false
    → At (writer new place).asked number ask → At (writer old place).asked number ask ⊎ FindsHad setup moves old new place number ask
finds_had setup old new [] place number ask same lost at = inl (subst (λ (world : World). At (writer world place).asked number ask) same at)
finds_had setup old new (move ∷ moves) place number ask schedule lost at =
    ⊎_elim
    (λ stood. ⊎_elim (λ before. inl before)
    (λ made. inr (record {
      mid = old;
      before = [];
      after = moves;
      moves_are = ap (λ (one : Move). one ∷ moves) made.is;
      first = refl;
      then = subst (λ (one : Move). IsSchedule setup old (one ∷ moves) new) made.is schedule;
      count = made.count;
      had = made.had;
    }))
    (stood_or_made setup old move place number ask schedule.0 lost stood))
    (λ found. inr (found_later setup old new move moves place number ask schedule.0 found))
    (finds_had setup (behind old move) new moves place number ask schedule.1 lost at)

pub claims_in_vain_find_had : ClaimsInVainFindHad
claims_in_vain_find_had setup moves world schedule place number ask at lost =
    ⊎_elim
    (λ stood. absurd (some-ne-none ask (sym (subst (λ (view : WriterView). At view.asked number ask) (all_same newcomer setup.writers place) stood))))
    (λ found. found)
    (finds_had setup (first_world setup) world moves place number ask schedule lost at)
