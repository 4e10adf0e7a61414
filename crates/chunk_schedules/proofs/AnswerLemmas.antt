-- Each answer of a schedule was given behind as many calls as it says, and where its writer might give it.
use Rattle.std.proofs.Common.{◌≡◌, ℕ, ◌⊎◌, inl, inr, true, false, List, [], ◌∷◌, length, set, refl, sym, ◌∙◌, ap, subst, ⊎_elim}
use mathlib.Core.Option.{some-ne-none}
use Rattle.chunk_plain.specs.Views.{At, Reply, WriterView, newcomer}
use Rattle.chunk_plain.specs.World.{World, Status, Unclaimed, Claimed, Stamped, Writing, Ready, Reading, status, writer}
use Rattle.chunk_plain.specs.Steps.{claims}
use Rattle.chunk_plain.specs.Letters.{answers_with}
use Rattle.chunk_plain.specs.Plain.{first_world}
use Rattle.chunk_plain.proofs.Lists.{changed, at_more}
use Rattle.chunk_plain.proofs.MadeLemmas.{all_same}
use Rattle.chunk_plain.specs.Setup.{Setup}
use Rattle.chunk_schedules.specs.Moves.{Move, Claims, Stamps, Begins, SetsHeader, Publishes, Completes, Calls, Looks, Takes, Learns, Releases, Notes, Commits, HearsOf, Answers, Requests, ReadsAnswer, MayMove, MayAnswer, IsWriter, claimed_in, behind}
use Rattle.chunk_schedules.specs.Schedules.{IsSchedule}
use Rattle.chunk_schedules.specs.Laws.{AnswersAreGivenInTurn, FindsAnswer}

-- the move gives this answer, the writer's one with this number
record GivesAnswer (world : World) (move : Move) (place number : ℕ) (reply : Reply) : Type 0 where
  pub is : move ≡ Answers place reply.flush reply.chunks
  pub count : length (writer world place).letters.answers ≡ number
  pub noted : length (writer world place).calls ≡ reply.calls
  pub may : MayAnswer (writer world place) reply.flush reply.chunks

-- the answer was there before the move, or the move gives it
abbrev StoodOrGiven : World → Move → (place number : ℕ) → Reply → Type 0
StoodOrGiven world move place number reply = At (writer world place).letters.answers number reply ⊎ GivesAnswer world move place number reply

-- a move that changes one writer's view and not its answers
keeps_answers : (world : World) (move : Move) (mover place number : ℕ) (view : WriterView) (reply : Reply) → IsWriter world mover
    → view.letters.answers ≡ (writer world mover).letters.answers
    → At (writer (record world { writers = set world.writers mover view }) place).letters.answers number reply → StoodOrGiven world move place number reply
keeps_answers world move mover place number view reply inside same =
    changed (λ (known : WriterView). At known.letters.answers number reply → StoodOrGiven world move place number reply) world.writers mover place view newcomer inside
    (λ is at. inl (subst (λ (k : ℕ). At (writer world k).letters.answers number reply) (sym is) (subst (λ l. At l number reply) same at)))
    (λ _ at. inl at)

-- one that gives an answer
gives : (world : World) (mover flush chunks place number : ℕ) (reply : Reply) → IsWriter world mover → MayAnswer (writer world mover) flush chunks
    → At (writer (record world { writers = set world.writers mover (answers_with (writer world mover) flush chunks) }) place).letters.answers number reply
    → StoodOrGiven world (Answers mover flush chunks) place number reply
gives world mover flush chunks place number reply inside may =
    changed (λ (known : WriterView). At known.letters.answers number reply → StoodOrGiven world (Answers mover flush chunks) place number reply) world.writers mover place
    (answers_with (writer world mover) flush chunks) newcomer inside
    (λ is at. ⊎_elim (λ old. inl (subst (λ (k : ℕ). At (writer world k).letters.answers number reply) (sym is) old))
    (λ new. inr (record {
      is = ap (λ (k : ℕ). Answers k flush chunks) (sym is) ∙ ap (λ (r : Reply). Answers place r.flush r.chunks) new.1;
      count = ap (λ (k : ℕ). length (writer world k).letters.answers) is ∙ sym new.0;
      noted = ap (λ (k : ℕ). length (writer world k).calls) is ∙ ap (λ (r : Reply). r.calls) new.1;
      may = subst (λ (r : Reply). MayAnswer (writer world place) r.flush r.chunks) new.1
          (subst (λ (k : ℕ). MayAnswer (writer world k) flush chunks) (sym is) may);
    }))
    (at_more (writer world mover).letters.answers _ reply number at))
    (λ _ at. inl at)

-- a claim gives none, whether it wins or not
claims_stood : (world : World) (mover chunk found place number : ℕ) (reply : Reply) → IsWriter world mover → (is : Status)
    → At (writer (claimed_in world mover chunk found is) place).letters.answers number reply → StoodOrGiven world (Claims mover chunk found) place number reply
claims_stood world mover chunk found place number reply inside Unclaimed at =
    keeps_answers world (Claims mover chunk found) mover place number (claims (writer world mover) chunk found true) reply inside refl at
claims_stood world mover chunk found place number reply inside (Claimed other) at =
    keeps_answers world (Claims mover chunk found) mover place number (claims (writer world mover) chunk found false) reply inside refl at
claims_stood world mover chunk found place number reply inside (Stamped other position) at =
    keeps_answers world (Claims mover chunk found) mover place number (claims (writer world mover) chunk found false) reply inside refl at
claims_stood world mover chunk found place number reply inside (Writing other position draft) at =
    keeps_answers world (Claims mover chunk found) mover place number (claims (writer world mover) chunk found false) reply inside refl at
claims_stood world mover chunk found place number reply inside (Ready other position content) at =
    keeps_answers world (Claims mover chunk found) mover place number (claims (writer world mover) chunk found false) reply inside refl at
claims_stood world mover chunk found place number reply inside (Reading other position content) at =
    keeps_answers world (Claims mover chunk found) mover place number (claims (writer world mover) chunk found false) reply inside refl at

stood_or_given : (setup : Setup) (world : World) (move : Move) (place number : ℕ) (reply : Reply) → MayMove setup world move
    → At (writer (behind world move) place).letters.answers number reply → StoodOrGiven world move place number reply
stood_or_given setup world (Claims mover chunk found) place number reply may at =
    claims_stood world mover chunk found place number reply may.0 (status world chunk) at
stood_or_given setup world (Stamps mover chunk) place number reply may at = keeps_answers world (Stamps mover chunk) mover place number _ reply may.0 refl at
stood_or_given setup world (Begins mover chunk words) place number reply may at = keeps_answers world (Begins mover chunk words) mover place number _ reply may.0 refl at
stood_or_given setup world (SetsHeader mover chunk position head) place number reply may at = keeps_answers world (SetsHeader mover chunk position head) mover place number _ reply may.0 refl at
stood_or_given setup world (Publishes mover chunk position index word) place number reply may at = keeps_answers world (Publishes mover chunk position index word) mover place number _ reply may.0 refl at
stood_or_given setup world (Completes mover chunk position content) place number reply may at = keeps_answers world (Completes mover chunk position content) mover place number _ reply may.0 refl at
stood_or_given setup world (Calls mover call) place number reply may at = keeps_answers world (Calls mover call) mover place number _ reply may refl at
stood_or_given setup world (Looks chunk word header found) place number reply may at = inl at
stood_or_given setup world (Takes mover chunk word header) place number reply may at = inl at
stood_or_given setup world (Learns mover chunk content) place number reply may at = inl at
stood_or_given setup world (Releases chunk) place number reply may at = inl at
stood_or_given setup world (Notes event) place number reply may at = inl at
stood_or_given setup world (Commits committed) place number reply may at = inl at
stood_or_given setup world (HearsOf mover requests) place number reply may at = keeps_answers world (HearsOf mover requests) mover place number _ reply may.0 refl at
stood_or_given setup world (Answers mover flush chunks) place number reply may at = gives world mover flush chunks place number reply may.0 may.1 at
stood_or_given setup world Requests place number reply may at = inl at
stood_or_given setup world (ReadsAnswer mover flush chunks) place number reply may at = inl at

-- a move is put before the moves that lead to the answer
found_later : (setup : Setup) (old new : World) (move : Move) (moves : List Move) (place number : ℕ) (reply : Reply) → MayMove setup old move
    → FindsAnswer setup moves (behind old move) new place number reply → FindsAnswer setup (move ∷ moves) old new place number reply
found_later setup old new move moves place number reply may found = record {
  mid = found.mid;
  before = move ∷ found.before;
  after = found.after;
  moves_are = ap (λ (l : List Move). move ∷ l) found.moves_are;
  first = (may, found.first);
  then = found.then;
  count = found.count;
  noted = found.noted;
  may = found.may;
}

-- an answer at the end of a schedule was given before it, or is one of its moves
finds_answer : (setup : Setup) (old new : World) (moves : List Move) (place number : ℕ) (reply : Reply) → IsSchedule setup old moves new
    → At (writer new place).letters.answers number reply
    → At (writer old place).letters.answers number reply ⊎ FindsAnswer setup moves old new place number reply
finds_answer setup old new [] place number reply same at =
    inl (subst (λ (world : World). At (writer world place).letters.answers number reply) same at)
finds_answer setup old new (move ∷ moves) place number reply schedule at =
    ⊎_elim
    (λ stood. ⊎_elim (λ before. inl before)
    (λ given. inr (record {
      mid = old;
      before = [];
      after = moves;
      moves_are = ap (λ (one : Move). one ∷ moves) given.is;
      first = refl;
      then = subst (λ (one : Move). IsSchedule setup old (one ∷ moves) new) given.is schedule;
      count = given.count;
      noted = given.noted;
      may = given.may;
    }))
    (stood_or_given setup old move place number reply schedule.0 stood))
    (λ found. inr (found_later setup old new move moves place number reply schedule.0 found))
    (finds_answer setup (behind old move) new moves place number reply schedule.1 at)

pub answers_are_given_in_turn : AnswersAreGivenInTurn
answers_are_given_in_turn setup moves world schedule place number reply at =
    ⊎_elim
    (λ stood. absurd (some-ne-none reply (sym (subst (λ (view : WriterView). At view.letters.answers number reply) (all_same newcomer setup.writers place) stood))))
    (λ found. found)
    (finds_answer setup (first_world setup) world moves place number reply schedule at)
