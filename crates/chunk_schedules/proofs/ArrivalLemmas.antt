-- What a schedule took and reads no longer has arrived.
use Rattle.std.proofs.Common.{◌≡◌, ℕ, ◌+◌, ◌<◌, inl, inr, true, List, [], ◌∷◌, ◌++◌, length, set, get_or, refl, sym, ap, ◌∙◌, subst, arith, ⊎_elim}
use Rattle.std.proofs.lemmas.List.{get_or-set_same, get_or-set_other}
use native.Mathlib.Decide.{ℕ_discrete}
use mathlib.Core.Logic.{dite}
use Rattle.chunk_plain.specs.Setup.{Setup, sequence_of}
use Rattle.chunk_plain.specs.Views.{Content, Taken, none_taken, Noted, Commit, ServiceView, taken_of}
use Rattle.chunk_plain.specs.World.{World, Status, Unclaimed, Claimed, Stamped, Writing, Ready, Reading, status, writer}
use Rattle.chunk_plain.specs.Steps.{learns, lets_go, notes, notes_commit, served, serviced}
use Rattle.chunk_plain.specs.Owned.{claims_of, IsOwned}
use Rattle.chunk_plain.specs.Drafts.{draft_at}
use Rattle.chunk_plain.specs.Plain.{first_world, read_as}
use Rattle.chunk_plain.specs.Words.{is_arrival_noted}
use Rattle.chunk_plain.proofs.ArrivedLemmas.{arrival_stays}
use Rattle.chunk_plain.proofs.Lists.{changed}
use Rattle.chunk_plain.proofs.MadeLemmas.{all_same, first_owned}
use Rattle.chunk_schedules.specs.Moves.{Move, Claims, Stamps, Begins, SetsHeader, Publishes, Completes, Calls, Looks, Takes, Learns, Releases, Notes, Commits, HearsOf, Answers, Requests, ReadsAnswer, MayMove, MayRelease, IsNext, IsChunk, claimed_in, behind}
use Rattle.chunk_schedules.specs.Schedules.{IsSchedule}
use Rattle.chunk_schedules.specs.Laws.{IsReadOrArrived, FreedHaveArrived}
use Rattle.chunk_schedules.proofs.MoveLemmas.{move_keeps}

-- each chunk that was taken is read still, or has arrived
abbrev AllReadOrArrived : World → Type 0
AllReadOrArrived world = (place position : ℕ) → position < (taken_of world.service place).count → IsReadOrArrived world place position

-- the service isn't reading a chunk with this status
abbrev IsUnread : Status → Type 0
IsUnread (Reading place position content) = ⊥
IsUnread _ = Unit {0}

-- where the status of such a chunk changes, a chunk that is read is so still
still_read : (world : World) (chunk : ℕ) (to : Status) (place position other : ℕ) (content : Content) → IsUnread (status world chunk)
    → status world other ≡ Reading place position content
    → get_or (set world.chunks chunk to) other Unclaimed ≡ Reading place position content
still_read world chunk to place position other content unread is =
    get_or-set_other world.chunks chunk other to Unclaimed (λ same. subst IsUnread (ap (status world) (sym same) ∙ is) unread) ∙ is

-- a writer's move changes the status of no other chunk, and nothing that was noted
moved_keeps : (world : World) (chunk : ℕ) (to : Status) → IsUnread (status world chunk) → AllReadOrArrived world
    → AllReadOrArrived (record world { chunks = set world.chunks chunk to })
moved_keeps world chunk to unread all other number low =
    ⊎_elim
    (λ read. inl (read.0, read.1, still_read world chunk to other number read.0 read.1 unread read.2))
    (λ has. inr has)
    (all other number low)

claims_keep : (world : World) (place chunk found : ℕ) (is : Status) → status world chunk ≡ is → AllReadOrArrived world
    → AllReadOrArrived (claimed_in world place chunk found is)
claims_keep world place chunk found Unclaimed free all =
    moved_keeps world chunk (Claimed place) (subst IsUnread (sym free) tt) all
claims_keep world place chunk found (Claimed other) is all = all
claims_keep world place chunk found (Stamped other position) is all = all
claims_keep world place chunk found (Writing other position draft) is all = all
claims_keep world place chunk found (Ready other position content) is all = all
claims_keep world place chunk found (Reading other position content) is all = all

-- a chunk that a writer has claimed isn't read
claimed_unread : (place : ℕ) (is : Status) → 0 < claims_of place is → IsUnread is
claimed_unread place Unclaimed some = tt
claimed_unread place (Claimed other) some = tt
claimed_unread place (Stamped other position) some = tt
claimed_unread place (Writing other position draft) some = tt
claimed_unread place (Ready other position content) some = tt
claimed_unread place (Reading other position content) some = absurd (omega (arith, some))

-- one chunk more is taken, which is read then
module _ (world : World) (place chunk word header : ℕ) (next : IsNext world place chunk) (there : IsChunk world chunk)
    (inside : place < length world.service.taken) (all : AllReadOrArrived world) where
  abbrev taking : World
  taking = behind world (Takes place chunk word header)

  old_still : (other number : ℕ) → number < (taken_of world.service other).count → IsReadOrArrived taking other number
  old_still other number low =
      let unread : IsUnread (status world chunk) = subst IsUnread (sym next.1) tt in
      ⊎_elim
      (λ read. inl (read.0, read.1, still_read world chunk (read_as (status world chunk)) other number read.0 read.1 unread read.2))
      (λ has. inr has)
      (all other number low)

  takes_keep : AllReadOrArrived taking
  takes_keep other number low =
      let count : ℕ = (taken_of world.service place).count in
      let counted : Taken = record (taken_of world.service place) { count = count + 1 } in
      let now : status taking chunk ≡ Reading place count next.0 =
      get_or-set_same world.chunks chunk (read_as (status world chunk)) Unclaimed there ∙ ap read_as next.1 in
      dite (ℕ_discrete other place)
      (λ same.
      let below : number < count + 1 =
      subst (λ (t : Taken). number < t.count) (get_or-set_same world.service.taken place counted none_taken inside)
      (subst (λ (p : ℕ). number < (taken_of taking.service p).count) same low) in
      dite (ℕ_discrete number count)
      (λ last. inl (
        chunk,
        next.0,
        subst (λ (p : ℕ). status taking chunk ≡ Reading p number next.0) (sym same)
            (subst (λ (n : ℕ). status taking chunk ≡ Reading place n next.0) (sym last) now),
      ))
      (λ earlier. old_still other number
      (subst (λ (p : ℕ). number < (taken_of world.service p).count) (sym same) (omega (arith, below, earlier)))))
      (λ differs. old_still other number
      (subst (λ (t : Taken). number < t.count) (get_or-set_other world.service.taken place other counted none_taken differs) low))

-- a content that joins the view leaves how many were taken
learns_keep : (world : World) (place : ℕ) (content : Content) → place < length world.service.taken → AllReadOrArrived world
    → AllReadOrArrived (serviced world (learns world.service place content))
learns_keep world place content inside all other number low =
    let taken : Taken = taken_of world.service place in
    let learnt : Taken = record taken { contents = taken.contents ++ content ∷ [] } in
    let same =
    changed (λ (t : Taken). t.count ≡ (taken_of world.service other).count) world.service.taken place other learnt none_taken inside
    (λ is. ap (λ (p : ℕ). (taken_of world.service p).count) (sym is)) (λ _. refl) in
    all other number (subst (λ (n : ℕ). number < n) same low)

-- a chunk is freed whose arrival is noted
releases_keep : (world : World) (chunk : ℕ) → MayRelease world chunk → AllReadOrArrived world
    → AllReadOrArrived (served world (lets_go world.service chunk) chunk Unclaimed)
releases_keep world chunk may all other number low =
    ⊎_elim
    (λ read. dite (ℕ_discrete read.0 chunk)
    (λ same.
    let one : Reading other number read.1 ≡ Reading may.place may.position may.content =
    sym read.2 ∙ ap (status world) same ∙ may.reading in
    let place_is : other ≡ may.place = cc in
    let position_is : number ≡ may.position = cc in
    inr (subst (λ (p : ℕ). is_arrival_noted (sequence_of p) number world.service.events ≡ true) (sym place_is)
    (subst (λ (n : ℕ). is_arrival_noted (sequence_of may.place) n world.service.events ≡ true) (sym position_is) may.arrived)))
    (λ differs. inl (read.0, read.1, get_or-set_other world.chunks chunk read.0 Unclaimed Unclaimed differs ∙ read.2)))
    (λ has. inr has)
    (all other number low)

-- what has arrived has so behind one note more
noted_keeps : (world : World) (view : ServiceView) (note : Noted) → view.taken ≡ world.service.taken
    → view.events ≡ world.service.events ++ note ∷ [] → AllReadOrArrived world → AllReadOrArrived (serviced world view)
noted_keeps world view note taken events all other number low =
    ⊎_elim
    (λ read. inl read)
    (λ has. inr (subst (λ (noted : List Noted). is_arrival_noted (sequence_of other) number noted ≡ true) (sym events)
    (arrival_stays (sequence_of other) number world.service.events (note ∷ []) has)))
    (all other number (subst (λ (ts : List Taken). number < (get_or ts other none_taken).count) taken low))

arrivals_keep : (setup : Setup) (world : World) (move : Move) → MayMove setup world move → IsOwned world → AllReadOrArrived world
    → AllReadOrArrived (behind world move)
arrivals_keep setup world (Claims place chunk found) may owned all = claims_keep world place chunk found (status world chunk) refl all
arrivals_keep setup world (Stamps place chunk) may owned all =
    let some = may.2 in
    let claimed = (owned.owns place chunk).claimed in
    moved_keeps world chunk _ (claimed_unread place (status world chunk) (omega (arith, some, claimed))) all
arrivals_keep setup world (Begins place chunk words) may owned all =
    let was = (owned.owns place chunk).stamp_is (length (writer world place).begun) may.2 in
    moved_keeps world chunk _ (subst IsUnread (sym was) tt) all
arrivals_keep setup world (SetsHeader place chunk position head) may owned all =
    let was = (owned.owns place chunk).held_is position (draft_at (writer world place) position) may.2 in
    moved_keeps world chunk _ (subst IsUnread (sym was) tt) all
arrivals_keep setup world (Publishes place chunk position index word) may owned all =
    let was = (owned.owns place chunk).held_is position (draft_at (writer world place) position) may.2 in
    moved_keeps world chunk _ (subst IsUnread (sym was) tt) all
arrivals_keep setup world (Completes place chunk position content) may owned all =
    let was = (owned.owns place chunk).held_is position (draft_at (writer world place) position) may.2 in
    moved_keeps world chunk _ (subst IsUnread (sym was) tt) all
arrivals_keep setup world (Calls place call) may owned all = all
arrivals_keep setup world (Looks chunk word header found) may owned all = all
arrivals_keep setup world (Takes place chunk word header) may owned all =
    let within = may.0 in
    let many = owned.all_taken in
    takes_keep world place chunk word header may.2 may.1 (omega (arith, within, many)) all
arrivals_keep setup world (Learns place chunk content) may owned all =
    let within = may.0 in
    let many = owned.all_taken in
    learns_keep world place content (omega (arith, within, many)) all
arrivals_keep setup world (Releases chunk) may owned all = releases_keep world chunk may.1 all
arrivals_keep setup world (Notes event) may owned all = noted_keeps world (notes world.service event) event refl refl all
arrivals_keep setup world (Commits committed) may owned all =
    noted_keeps world (notes_commit world.service committed) (Commit (length world.service.commits)) refl refl all
arrivals_keep setup world (HearsOf place number) may owned all = all
arrivals_keep setup world (Answers place flush chunks) may owned all = all
arrivals_keep setup world Requests may owned all = all
arrivals_keep setup world (ReadsAnswer place flush chunks) may owned all = all

-- along a schedule
all_along : (setup : Setup) (old new : World) (moves : List Move) → IsOwned old → AllReadOrArrived old → IsSchedule setup old moves new
    → AllReadOrArrived new
all_along setup old new [] owned all same = subst AllReadOrArrived (sym same) all
all_along setup old new (move ∷ moves) owned all schedule =
    all_along setup (behind old move) new moves (move_keeps setup old move schedule.0 owned)
    (arrivals_keep setup old move schedule.0 owned all) schedule.1

pub freed_have_arrived : FreedHaveArrived
freed_have_arrived setup moves world schedule =
    all_along setup (first_world setup) world moves (first_owned setup)
    (λ place position low.
    absurd (let none = ap (λ (t : Taken). t.count) (all_same none_taken setup.writers place) in omega (arith, low, none)))
    schedule
