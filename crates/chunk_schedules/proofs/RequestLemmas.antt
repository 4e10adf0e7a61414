-- Each request of a schedule was made behind as many events as it says, while no chunk was read.
use Rattle.std.proofs.Common.{◌≡◌, ℕ, ◌⊎◌, inl, inr, List, [], ◌∷◌, length, refl, sym, ap, subst, ⊎_elim}
use mathlib.Core.Option.{some-ne-none}
use Rattle.chunk_plain.specs.Setup.{Setup}
use Rattle.chunk_plain.specs.Views.{At, Letter, Asked, Heard, ServiceView}
use Rattle.chunk_plain.specs.World.{World, Status, Unclaimed, Claimed, Stamped, Writing, Ready, Reading, status}
use Rattle.chunk_plain.specs.Plain.{first_world}
use Rattle.chunk_plain.proofs.Lists.{at_more}
use Rattle.chunk_schedules.specs.Moves.{Move, Claims, Stamps, Begins, SetsHeader, Publishes, Completes, Calls, Looks, Takes, Learns, Releases, Notes, Commits, HearsOf, Answers, Requests, ReadsAnswer, MayMove, claimed_in, behind}
use Rattle.chunk_schedules.specs.Schedules.{IsSchedule}
use Rattle.chunk_schedules.specs.Laws.{FindsRequest, RequestsAreMadeInTurn}

-- the move makes the request that is this letter, behind so many events
record MakesRequest (world : World) (move : Move) (number events : ℕ) : Type 0 where
  pub is : move ≡ Requests
  pub count : length world.service.letters ≡ number
  pub noted : length world.service.events ≡ events
  pub none_read : world.service.reading ≡ []

-- the letter was there before the move, or the move makes it
abbrev StoodOrMade : World → Move → (number events : ℕ) → Type 0
StoodOrMade world move number events = At world.service.letters number (Asked events) ⊎ MakesRequest world move number events

-- how many events were noted before a request
abbrev stamp_of : Letter → ℕ
stamp_of (Asked events) = events
stamp_of (Heard place flush chunks) = 0

-- a claim leaves the service's view
claimed_service : (world : World) (place chunk found : ℕ) (is : Status) → (claimed_in world place chunk found is).service ≡ world.service
claimed_service world place chunk found Unclaimed = refl
claimed_service world place chunk found (Claimed other) = refl
claimed_service world place chunk found (Stamped other position) = refl
claimed_service world place chunk found (Writing other position draft) = refl
claimed_service world place chunk found (Ready other position content) = refl
claimed_service world place chunk found (Reading other position content) = refl

stood_or_made : (setup : Setup) (world : World) (move : Move) (number events : ℕ) → MayMove setup world move
    → At (behind world move).service.letters number (Asked events) → StoodOrMade world move number events
stood_or_made setup world (Claims place chunk found) number events may at =
    inl (subst (λ (view : ServiceView). At view.letters number (Asked events))
    (claimed_service world place chunk found (status world chunk)) at)
stood_or_made setup world (Stamps place chunk) number events may at = inl at
stood_or_made setup world (Begins place chunk words) number events may at = inl at
stood_or_made setup world (SetsHeader place chunk position head) number events may at = inl at
stood_or_made setup world (Publishes place chunk position index word) number events may at = inl at
stood_or_made setup world (Completes place chunk position content) number events may at = inl at
stood_or_made setup world (Calls place call) number events may at = inl at
stood_or_made setup world (Looks chunk word header found) number events may at = inl at
stood_or_made setup world (Takes place chunk word header) number events may at = inl at
stood_or_made setup world (Learns place chunk content) number events may at = inl at
stood_or_made setup world (Releases chunk) number events may at = inl at
stood_or_made setup world (Notes event) number events may at = inl at
stood_or_made setup world (Commits committed) number events may at = inl at
stood_or_made setup world (HearsOf place known) number events may at = inl at
stood_or_made setup world (Answers place flush chunks) number events may at = inl at
stood_or_made setup world Requests number events may at =
    ⊎_elim
    (λ old. inl old)
    (λ new. inr (record { is = refl; count = sym new.0; noted = ap stamp_of new.1; none_read = may }))
    (at_more world.service.letters (Asked (length world.service.events)) (Asked events) number at)
stood_or_made setup world (ReadsAnswer place flush chunks) number events may at =
    ⊎_elim
    (λ old. inl old)
    (λ new. absurd (let never : Heard place flush chunks ≡ Asked events = new.1 in cc))
    (at_more world.service.letters (Heard place flush chunks) (Asked events) number at)

-- a move is put before the moves that lead to the request
found_later : (setup : Setup) (old new : World) (move : Move) (moves : List Move) (number events : ℕ) → MayMove setup old move
    → FindsRequest setup moves (behind old move) new number events → FindsRequest setup (move ∷ moves) old new number events
found_later setup old new move moves number events may found = record {
  mid = found.mid;
  before = move ∷ found.before;
  after = found.after;
  moves_are = ap (λ (l : List Move). move ∷ l) found.moves_are;
  first = (may, found.first);
  then = found.then;
  count = found.count;
  noted = found.noted;
  none_read = found.none_read;
}

-- a request at the end of a schedule was made before it, or is one of its moves
finds_request : (setup : Setup) (old new : World) (moves : List Move) (number events : ℕ) → IsSchedule setup old moves new
    → At new.service.letters number (Asked events)
    → At old.service.letters number (Asked events) ⊎ FindsRequest setup moves old new number events
finds_request setup old new [] number events same at =
    inl (subst (λ (world : World). At world.service.letters number (Asked events)) same at)
finds_request setup old new (move ∷ moves) number events schedule at =
    ⊎_elim
    (λ stood. ⊎_elim (λ before. inl before)
    (λ made. inr (record {
      mid = old;
      before = [];
      after = moves;
      moves_are = ap (λ (one : Move). one ∷ moves) made.is;
      first = refl;
      then = subst (λ (one : Move). IsSchedule setup old (one ∷ moves) new) made.is schedule;
      count = made.count;
      noted = made.noted;
      none_read = made.none_read;
    }))
    (stood_or_made setup old move number events schedule.0 stood))
    (λ found. inr (found_later setup old new move moves number events schedule.0 found))
    (finds_request setup (behind old move) new moves number events schedule.1 at)

pub requests_are_made_in_turn : RequestsAreMadeInTurn
requests_are_made_in_turn setup moves world schedule number events at =
    ⊎_elim
    (λ stood. absurd (some-ne-none (Asked events) (sym stood)))
    (λ found. found)
    (finds_request setup (first_world setup) world moves number events schedule at)
