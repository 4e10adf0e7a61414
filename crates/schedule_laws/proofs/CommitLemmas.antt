-- What comes by commits in a schedule, and what is noted in order.
use Rattle.std.proofs.Common.{◌≡◌, ℕ, List, [], ◌∷◌, refl, sym, subst}
use Rattle.chunk_plain.specs.Setup.{Setup}
use Rattle.chunk_plain.specs.Views.{ServiceView, taken_of}
use Rattle.chunk_plain.specs.World.{World, Status, Unclaimed, Claimed, Stamped, Writing, Ready, Reading, status}
use Rattle.chunk_plain.specs.Plain.{first_world}
use Rattle.world_model.specs.Accounts.{NoneCommitted}
use Rattle.service_core.specs.Agreement.{is_closed}
use Rattle.replay_model.proofs.RawLemmas.{none_committed_more, none_committed_yet}
use Rattle.chunk_schedules.specs.Moves.{Move, Claims, Stamps, Begins, SetsHeader, Publishes, Completes, Calls, Looks, Takes, Learns, Releases, Notes, Commits, HearsOf, Answers, Requests, ReadsAnswer, claimed_in, behind}
use Rattle.chunk_schedules.specs.Schedules.{IsSchedule, CommitsNone}
use Rattle.schedule_laws.specs.Laws.{ServingIsInOrder}

claimed_commits : (world : World) (place chunk found : ℕ) (is : Status) → (claimed_in world place chunk found is).service ≡ world.service
claimed_commits world place chunk found Unclaimed = refl
claimed_commits world place chunk found (Claimed other) = refl
claimed_commits world place chunk found (Stamped other position) = refl
claimed_commits world place chunk found (Writing other position draft) = refl
claimed_commits world place chunk found (Ready other position content) = refl
claimed_commits world place chunk found (Reading other position content) = refl

commits_elsewhere : (setup : Setup) (sequence : ℕ) (old new : World) (moves : List Move) → IsSchedule setup old moves new → CommitsNone sequence moves
    → NoneCommitted old.service sequence → NoneCommitted new.service sequence
commits_elsewhere setup sequence old new [] schedule none all = subst (λ (world : World). NoneCommitted world.service sequence) (sym schedule) all
commits_elsewhere setup sequence old new (Claims place chunk found ∷ moves) schedule none all =
    commits_elsewhere setup sequence (behind old (Claims place chunk found)) new moves schedule.1 none
    (subst (λ (service : ServiceView). NoneCommitted service sequence) (sym (claimed_commits old place chunk found (status old chunk))) all)
commits_elsewhere setup sequence old new (Stamps place chunk ∷ moves) schedule none all =
    commits_elsewhere setup sequence (behind old (Stamps place chunk)) new moves schedule.1 none all
commits_elsewhere setup sequence old new (Begins place chunk words ∷ moves) schedule none all =
    commits_elsewhere setup sequence (behind old (Begins place chunk words)) new moves schedule.1 none all
commits_elsewhere setup sequence old new (SetsHeader place chunk position head ∷ moves) schedule none all =
    commits_elsewhere setup sequence (behind old (SetsHeader place chunk position head)) new moves schedule.1 none all
commits_elsewhere setup sequence old new (Publishes place chunk position index word ∷ moves) schedule none all =
    commits_elsewhere setup sequence (behind old (Publishes place chunk position index word)) new moves schedule.1 none all
commits_elsewhere setup sequence old new (Completes place chunk position content ∷ moves) schedule none all =
    commits_elsewhere setup sequence (behind old (Completes place chunk position content)) new moves schedule.1 none all
commits_elsewhere setup sequence old new (Calls place call ∷ moves) schedule none all =
    commits_elsewhere setup sequence (behind old (Calls place call)) new moves schedule.1 none all
commits_elsewhere setup sequence old new (Looks chunk word header found ∷ moves) schedule none all =
    commits_elsewhere setup sequence (behind old (Looks chunk word header found)) new moves schedule.1 none all
commits_elsewhere setup sequence old new (Takes place chunk word header ∷ moves) schedule none all =
    commits_elsewhere setup sequence (behind old (Takes place chunk word header)) new moves schedule.1 none all
commits_elsewhere setup sequence old new (Learns place chunk content ∷ moves) schedule none all =
    commits_elsewhere setup sequence (behind old (Learns place chunk content)) new moves schedule.1 none all
commits_elsewhere setup sequence old new (Releases chunk ∷ moves) schedule none all =
    commits_elsewhere setup sequence (behind old (Releases chunk)) new moves schedule.1 none all
commits_elsewhere setup sequence old new (Notes event ∷ moves) schedule none all =
    commits_elsewhere setup sequence (behind old (Notes event)) new moves schedule.1 none all
commits_elsewhere setup sequence old new (Commits committed ∷ moves) schedule none all =
    commits_elsewhere setup sequence (behind old (Commits committed)) new moves schedule.1 none.1 (none_committed_more old.service committed sequence all none.0)
commits_elsewhere setup sequence old new (HearsOf place number ∷ moves) schedule none all =
    commits_elsewhere setup sequence (behind old (HearsOf place number)) new moves schedule.1 none all
commits_elsewhere setup sequence old new (Answers place flush chunks ∷ moves) schedule none all =
    commits_elsewhere setup sequence (behind old (Answers place flush chunks)) new moves schedule.1 none all
commits_elsewhere setup sequence old new (Requests ∷ moves) schedule none all =
    commits_elsewhere setup sequence (behind old Requests) new moves schedule.1 none all
commits_elsewhere setup sequence old new (ReadsAnswer place flush chunks ∷ moves) schedule none all =
    commits_elsewhere setup sequence (behind old (ReadsAnswer place flush chunks)) new moves schedule.1 none all

-- where no move commits an image of the sequence, none came
pub none_committed : (setup : Setup) (moves : List Move) (world : World) (sequence : ℕ) → IsSchedule setup (first_world setup) moves world → CommitsNone sequence moves
    → NoneCommitted world.service sequence
none_committed setup moves world sequence schedule none =
    commits_elsewhere setup sequence (first_world setup) world moves schedule none (none_committed_yet (first_world setup).service sequence refl)

-- a service that agrees with its view noted in order
pub serving_is_in_order : (S : Type 0) → ServingIsInOrder S
serving_is_in_order S setup view core agrees place inside none = record {
  last = record { come = (taken_of view place).count; closed = is_closed setup core place; due = [] };
  leads = agrees.order place inside none;
  none_due = refl;
}
