-- The service of a schedule reads one chunk at most.
use Rattle.std.proofs.Common.{◌≡◌, ℕ, ◌≤◌, List, [], ◌∷◌, ◌++◌, length, sym, ap, ◌∙◌, subst, arith}
use Rattle.chunk_plain.specs.Setup.{Setup}
use Rattle.chunk_plain.specs.World.{World, Status, Unclaimed, Claimed, Stamped, Writing, Ready, Reading, status}
use Rattle.chunk_plain.specs.Owned.{times, reads_of, IsOwned}
use Rattle.chunk_plain.specs.Plain.{first_world}
use Rattle.chunk_plain.proofs.Lists.{length-without}
use Rattle.chunk_plain.proofs.MadeLemmas.{first_owned}
use Rattle.chunk_schedules.specs.Moves.{Move, Claims, Stamps, Begins, SetsHeader, Publishes, Completes, Calls, Looks, Takes, Learns, Releases, Notes, Commits, HearsOf, Answers, Requests, ReadsAnswer, MayMove, claimed_in, behind}
use Rattle.chunk_schedules.specs.Schedules.{IsSchedule}
use Rattle.chunk_schedules.specs.Laws.{AtMostOneIsRead}
use Rattle.chunk_schedules.proofs.MoveLemmas.{move_keeps}

-- the service reads one chunk at most
abbrev ReadsFew : World → Type 0
ReadsFew world = length world.service.reading ≤ 1

claims_keep : (world : World) (place chunk found : ℕ) (is : Status) → ReadsFew world → ReadsFew (claimed_in world place chunk found is)
claims_keep world place chunk found Unclaimed few = few
claims_keep world place chunk found (Claimed other) few = few
claims_keep world place chunk found (Stamped other position) few = few
claims_keep world place chunk found (Writing other position draft) few = few
claims_keep world place chunk found (Ready other position content) few = few
claims_keep world place chunk found (Reading other position content) few = few

few_keep : (setup : Setup) (world : World) (move : Move) → MayMove setup world move → IsOwned world → ReadsFew world
    → ReadsFew (behind world move)
few_keep setup world (Claims place chunk found) may owned few = claims_keep world place chunk found (status world chunk) few
few_keep setup world (Stamps place chunk) may owned few = few
few_keep setup world (Begins place chunk words) may owned few = few
few_keep setup world (SetsHeader place chunk position head) may owned few = few
few_keep setup world (Publishes place chunk position index word) may owned few = few
few_keep setup world (Completes place chunk position content) may owned few = few
few_keep setup world (Calls place call) may owned few = few
few_keep setup world (Looks chunk word header found) may owned few = few
few_keep setup world (Takes place chunk word header) may owned few =
    let one = ap (λ (chunks : List ℕ). length (chunks ++ chunk ∷ [])) may.5 in omega (arith, one)
few_keep setup world (Learns place chunk content) may owned few = few
few_keep setup world (Releases chunk) may owned few =
    let once : times chunk world.service.reading ≡ 1 = owned.reads chunk ∙ ap reads_of may.1.reading in
    let less = length-without chunk world.service.reading (omega (arith, once)) in
    omega (arith, few, less)
few_keep setup world (Notes event) may owned few = few
few_keep setup world (Commits committed) may owned few = few
few_keep setup world (HearsOf place number) may owned few = few
few_keep setup world (Answers place flush chunks) may owned few = few
few_keep setup world Requests may owned few = few
few_keep setup world (ReadsAnswer place flush chunks) may owned few = few

all_along : (setup : Setup) (old new : World) (moves : List Move) → IsOwned old → ReadsFew old → IsSchedule setup old moves new
    → ReadsFew new
all_along setup old new [] owned few same = subst ReadsFew (sym same) few
all_along setup old new (move ∷ moves) owned few schedule =
    all_along setup (behind old move) new moves (move_keeps setup old move schedule.0 owned) (few_keep setup old move schedule.0 owned few)
    schedule.1

pub at_most_one_is_read : AtMostOneIsRead
at_most_one_is_read setup moves world schedule =
    all_along setup (first_world setup) world moves (first_owned setup) (omega arith) schedule
