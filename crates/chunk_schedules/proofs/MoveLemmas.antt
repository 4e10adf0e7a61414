-- Each move keeps a world owned, with as many writers and chunks.
use Rattle.std.proofs.Common.{◌≡◌, ℕ, length, None, refl, sym, ap, subst, length-set}
use Rattle.chunk_plain.specs.World.{World, Status, Unclaimed, Claimed, Stamped, Writing, Ready, Reading, status, writer}
use Rattle.chunk_plain.specs.Steps.{looks_at, takes_in, notes, notes_commit, served, serviced}
use Rattle.chunk_plain.specs.Letters.{answers_with, requests, hears_answer}
use Rattle.chunk_plain.specs.Owned.{IsOwned}
use Rattle.chunk_plain.specs.Drafts.{draft_at, ends_by}
use Rattle.chunk_plain.specs.Plain.{read_as}
use Rattle.chunk_plain.proofs.WriterSteps.{claims_owned, misses_owned, notes_owned, notes_call_owned, stamps_owned, begins_owned}
use Rattle.chunk_plain.proofs.EntrySteps.{heads_owned, publishes_owned, completes_owned}
use Rattle.chunk_plain.proofs.ServiceSteps.{takes_owned, learns_owned, lets_go_owned}
use Rattle.chunk_plain.proofs.Owned.{serviced_owned, looks_owned}
use Rattle.chunk_plain.specs.Setup.{Setup}
use Rattle.chunk_schedules.specs.Moves.{Move, Claims, Stamps, Begins, SetsHeader, Publishes, Completes, Calls, Looks, Takes, Learns, Releases, Notes, Commits, HearsOf, Answers, Requests, ReadsAnswer, MayMove, IsWriter, IsChunk, IsNext, claimed_in, behind}

-- a claim, by what the chunk is used for
claims_keep : (world : World) (place chunk found : ℕ) → IsOwned world → IsWriter world place → IsChunk world chunk → (is : Status) → status world chunk ≡ is
    → IsOwned (claimed_in world place chunk found is)
claims_keep world place chunk found owned inside there Unclaimed free = claims_owned world place chunk found owned inside there free
claims_keep world place chunk found owned inside there (Claimed other) is = misses_owned world place chunk found owned inside (λ free. absurd cc)
claims_keep world place chunk found owned inside there (Stamped other position) is = misses_owned world place chunk found owned inside (λ free. absurd cc)
claims_keep world place chunk found owned inside there (Writing other position draft) is = misses_owned world place chunk found owned inside (λ free. absurd cc)
claims_keep world place chunk found owned inside there (Ready other position content) is = misses_owned world place chunk found owned inside (λ free. absurd cc)
claims_keep world place chunk found owned inside there (Reading other position content) is = misses_owned world place chunk found owned inside (λ free. absurd cc)

-- a chunk is taken behind a look at it
takes_keep : (world : World) (place chunk word header : ℕ) → IsOwned world → IsWriter world place → IsChunk world chunk → IsNext world place chunk
    → IsOwned (behind world (Takes place chunk word header))
takes_keep world place chunk word header owned inside there next =
    let looked : World = serviced world (looks_at world.service chunk word header None) in
    let owned_then : IsOwned looked = looks_owned world chunk word header None owned (λ one is. absurd cc) in
    let taken = takes_owned looked place chunk next.0 owned_then inside there next.1 in
    subst (λ (to : Status). IsOwned (served world (takes_in (looks_at world.service chunk word header None) place chunk) chunk to))
    (sym (ap read_as next.1)) taken

pub move_keeps : (setup : Setup) (world : World) (move : Move) → MayMove setup world move → IsOwned world → IsOwned (behind world move)
move_keeps setup world (Claims place chunk found) may owned = claims_keep world place chunk found owned may.0 may.1 (status world chunk) refl
move_keeps setup world (Stamps place chunk) may owned = stamps_owned world place chunk owned may.0 may.1 may.2 may.3
move_keeps setup world (Begins place chunk words) may owned = begins_owned world place chunk words owned may.0 may.1 may.2
move_keeps setup world (SetsHeader place chunk position head) may owned =
    heads_owned world place chunk position (draft_at (writer world place) position) head (ends_by (writer world place) position head.count) owned may.0 may.1 may.2
    may.3.follows may.3.reads
move_keeps setup world (Publishes place chunk position index word) may owned =
    publishes_owned world place chunk position index word (draft_at (writer world place) position) owned may.0 may.1 may.2 may.3.inside may.3.kept
move_keeps setup world (Completes place chunk position content) may owned =
    completes_owned world place chunk position (draft_at (writer world place) position) content owned may.0 may.1 may.2
    may.3.position_is may.3.sequence_is may.3.head_is may.3.inside may.3.bytes
move_keeps setup world (Calls place call) may owned = notes_call_owned world place call owned may
move_keeps setup world (Looks chunk word header found) may owned = looks_owned world chunk word header found owned may.there
move_keeps setup world (Takes place chunk word header) may owned = takes_keep world place chunk word header owned may.0 may.1 may.2
move_keeps setup world (Learns place chunk content) may owned = learns_owned world place chunk content owned may.0 may.1.taken may.1.completed
move_keeps setup world (Releases chunk) may owned =
    lets_go_owned world chunk may.1.place may.1.position may.1.content owned may.0 may.1.reading
move_keeps setup world (Notes event) may owned = serviced_owned world (notes world.service event) owned refl refl refl
move_keeps setup world (Commits committed) may owned = serviced_owned world (notes_commit world.service committed) owned refl refl refl
move_keeps setup world (HearsOf place number) may owned =
    notes_owned world place (writer world place).calls (record (writer world place).letters { known = number }) owned may.0
move_keeps setup world (Answers place flush chunks) may owned =
    notes_owned world place (writer world place).calls (answers_with (writer world place) flush chunks).letters owned may.0
move_keeps setup world Requests may owned = serviced_owned world (requests world.service) owned refl refl refl
move_keeps setup world (ReadsAnswer place flush chunks) may owned =
    serviced_owned world (hears_answer world.service place flush chunks) owned refl refl refl

-- as many writers

claimed_writers : (world : World) (place chunk found : ℕ) (is : Status) → length (claimed_in world place chunk found is).writers ≡ length world.writers
claimed_writers world place chunk found Unclaimed = length-set world.writers place _
claimed_writers world place chunk found (Claimed other) = length-set world.writers place _
claimed_writers world place chunk found (Stamped other position) = length-set world.writers place _
claimed_writers world place chunk found (Writing other position draft) = length-set world.writers place _
claimed_writers world place chunk found (Ready other position content) = length-set world.writers place _
claimed_writers world place chunk found (Reading other position content) = length-set world.writers place _

pub move_writers : (world : World) (move : Move) → length (behind world move).writers ≡ length world.writers
move_writers world (Claims place chunk found) = claimed_writers world place chunk found (status world chunk)
move_writers world (Stamps place chunk) = length-set world.writers place _
move_writers world (Begins place chunk words) = length-set world.writers place _
move_writers world (SetsHeader place chunk position head) = length-set world.writers place _
move_writers world (Publishes place chunk position index word) = length-set world.writers place _
move_writers world (Completes place chunk position content) = length-set world.writers place _
move_writers world (Calls place call) = length-set world.writers place _
move_writers world (Looks chunk word header found) = refl
move_writers world (Takes place chunk word header) = refl
move_writers world (Learns place chunk content) = refl
move_writers world (Releases chunk) = refl
move_writers world (Notes event) = refl
move_writers world (Commits committed) = refl
move_writers world (HearsOf place number) = length-set world.writers place _
move_writers world (Answers place flush chunks) = length-set world.writers place _
move_writers world Requests = refl
move_writers world (ReadsAnswer place flush chunks) = refl

-- and as many chunks

claimed_chunks : (world : World) (place chunk found : ℕ) (is : Status) → length (claimed_in world place chunk found is).chunks ≡ length world.chunks
claimed_chunks world place chunk found Unclaimed = length-set world.chunks chunk _
claimed_chunks world place chunk found (Claimed other) = refl
claimed_chunks world place chunk found (Stamped other position) = refl
claimed_chunks world place chunk found (Writing other position draft) = refl
claimed_chunks world place chunk found (Ready other position content) = refl
claimed_chunks world place chunk found (Reading other position content) = refl

pub move_chunks : (world : World) (move : Move) → length (behind world move).chunks ≡ length world.chunks
move_chunks world (Claims place chunk found) = claimed_chunks world place chunk found (status world chunk)
move_chunks world (Stamps place chunk) = length-set world.chunks chunk _
move_chunks world (Begins place chunk words) = length-set world.chunks chunk _
move_chunks world (SetsHeader place chunk position head) = length-set world.chunks chunk _
move_chunks world (Publishes place chunk position index word) = length-set world.chunks chunk _
move_chunks world (Completes place chunk position content) = length-set world.chunks chunk _
move_chunks world (Calls place call) = refl
move_chunks world (Looks chunk word header found) = refl
move_chunks world (Takes place chunk word header) = length-set world.chunks chunk _
move_chunks world (Learns place chunk content) = refl
move_chunks world (Releases chunk) = length-set world.chunks chunk _
move_chunks world (Notes event) = refl
move_chunks world (Commits committed) = refl
move_chunks world (HearsOf place number) = refl
move_chunks world (Answers place flush chunks) = refl
move_chunks world Requests = refl
move_chunks world (ReadsAnswer place flush chunks) = refl
