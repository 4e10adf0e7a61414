-- Whatever a schedule notes as arrived it has taken.
use Rattle.std.proofs.Common.{◌≡◌, ℕ, ◌+◌, ◌-◌, ◌<◌, ◌≤◌, ◌⊎◌, inl, inr, ◌||◌, Bool, true, false, None, List, [], ◌∷◌, ◌++◌, length, refl, sym, ap, ◌∙◌, subst, arith, ⊎_elim}
use Rattle.std.specs.Prelude.{◌==◌}
use Rattle.std.proofs.Math.Bool.{or-false}
use Rattle.std.proofs.lemmas.Bool.{and_parts, eqb-true, or_cases}
use Rattle.std.proofs.lemmas.List.Folds.{list_any-append}
use Rattle.chunk_plain.specs.Setup.{Setup, sequence_of}
use Rattle.chunk_plain.specs.Views.{Content, Taken, none_taken, Noted, Arrive, Partial, Patched, Closed, Read, Commit, ServiceView, taken_of}
use Rattle.chunk_plain.specs.World.{World, Status, Unclaimed, Claimed, Stamped, Writing, Ready, Reading, status}
use Rattle.chunk_plain.specs.Steps.{looks_at, takes_in, learns}
use Rattle.chunk_plain.specs.Owned.{IsOwned}
use Rattle.chunk_plain.specs.Plain.{first_world}
use Rattle.chunk_plain.specs.Words.{is_arrival_note, is_arrival_noted, MayNote}
use Rattle.chunk_plain.proofs.Lists.{changed}
use Rattle.chunk_plain.proofs.MadeLemmas.{first_owned}
use Rattle.chunk_schedules.specs.Moves.{Move, Claims, Stamps, Begins, SetsHeader, Publishes, Completes, Calls, Looks, Takes, Learns, Releases, Notes, Commits, HearsOf, Answers, Requests, ReadsAnswer, MayMove, claimed_in, behind}
use Rattle.chunk_schedules.specs.Schedules.{IsSchedule}
use Rattle.chunk_schedules.specs.Laws.{ArrivedWereTaken}
use Rattle.chunk_schedules.proofs.MoveLemmas.{move_keeps}

-- each chunk whose arrival is noted was taken
abbrev AllTaken : ServiceView → Type 0
AllTaken view =
    (place position : ℕ) → is_arrival_noted (sequence_of place) position view.events ≡ true → position < (taken_of view place).count

-- an arrival that is noted behind one note more was noted before, or is that note's
last_note : (notes : List Noted) (note : Noted) (sequence position : ℕ) → is_arrival_noted sequence position (notes ++ note ∷ []) ≡ true
    → (is_arrival_noted sequence position notes ≡ true) ⊎ (is_arrival_note sequence position note ≡ true)
last_note notes note sequence position has =
    let last : Bool = is_arrival_note sequence position note in
    ⊎_elim
    (λ before. inl before)
    (λ new. inr (sym (or-false last) ∙ new))
    (or_cases (is_arrival_noted sequence position notes) (last || false)
    (sym (list_any-append (is_arrival_note sequence position) notes (note ∷ [])) ∙ has))

-- an arrival may be noted of a chunk that was taken
may_be_taken : (view : ServiceView) (note : Noted) (place position : ℕ) → MayNote view note
    → is_arrival_note (sequence_of place) position note ≡ true → position < (taken_of view place).count
may_be_taken view (Arrive sequence number) place position may is =
    let parts = and_parts (sequence == sequence_of place) (number == position) is in
    let sequence_is : sequence ≡ sequence_of place = eqb-true sequence (sequence_of place) parts.0 in
    let position_is : number ≡ position = eqb-true number position parts.1 in
    let place_is : sequence - 2 ≡ place = omega (arith, sequence_is) in
    subst (λ (n : ℕ). n < (taken_of view place).count) position_is
    (subst (λ (p : ℕ). number < (taken_of view p).count) place_is may)
may_be_taken view (Partial sequence number limit) place position may is = absurd (let never : false ≡ true = is in cc)
may_be_taken view (Patched sequence number) place position may is = absurd (let never : false ≡ true = is in cc)
may_be_taken view (Closed sequence) place position may is = absurd (let never : false ≡ true = is in cc)
may_be_taken view (Read sequence limit) place position may is = absurd (let never : false ≡ true = is in cc)
may_be_taken view (Commit number) place position may is = absurd (let never : false ≡ true = is in cc)

-- one chunk more is taken, of no writer fewer
takes_keep : (view : ServiceView) (place chunk : ℕ) → place < length view.taken → AllTaken view → AllTaken (takes_in view place chunk)
takes_keep view place chunk inside all other position has =
    let counted : Taken = record (taken_of view place) { count = (taken_of view place).count + 1 } in
    let rises : (taken_of view other).count ≤ (taken_of (takes_in view place chunk) other).count =
    changed (λ (t : Taken). (taken_of view other).count ≤ t.count) view.taken place other counted none_taken inside
    (λ same. let is = ap (λ (p : ℕ). (taken_of view p).count) same in omega (arith, is)) (λ _. omega arith) in
    let before = all other position has in
    omega (arith, before, rises)

-- a content that joins the view leaves how many were taken
learns_keep : (view : ServiceView) (place : ℕ) (content : Content) → place < length view.taken → AllTaken view
    → AllTaken (learns view place content)
learns_keep view place content inside all other position has =
    let taken : Taken = taken_of view place in
    let learnt : Taken = record taken { contents = taken.contents ++ content ∷ [] } in
    let same : (taken_of (learns view place content) other).count ≡ (taken_of view other).count =
    changed (λ (t : Taken). t.count ≡ (taken_of view other).count) view.taken place other learnt none_taken inside
    (λ is. ap (λ (p : ℕ). (taken_of view p).count) (sym is)) (λ _. refl) in
    subst (λ (n : ℕ). position < n) (sym same) (all other position has)

-- each note keeps it
notes_keep : (view : ServiceView) (note : Noted) → MayNote view note → AllTaken view
    → AllTaken (record view { events = view.events ++ note ∷ [] })
notes_keep view note may all place position has =
    ⊎_elim
    (λ before. all place position before)
    (λ last. may_be_taken view note place position may last)
    (last_note view.events note (sequence_of place) position has)

claims_keep : (world : World) (place chunk found : ℕ) (is : Status) → AllTaken world.service
    → AllTaken (claimed_in world place chunk found is).service
claims_keep world place chunk found Unclaimed all = all
claims_keep world place chunk found (Claimed other) all = all
claims_keep world place chunk found (Stamped other position) all = all
claims_keep world place chunk found (Writing other position draft) all = all
claims_keep world place chunk found (Ready other position content) all = all
claims_keep world place chunk found (Reading other position content) all = all

taken_keep : (setup : Setup) (world : World) (move : Move) → MayMove setup world move → IsOwned world → AllTaken world.service
    → AllTaken (behind world move).service
taken_keep setup world (Claims place chunk found) may owned all = claims_keep world place chunk found (status world chunk) all
taken_keep setup world (Stamps place chunk) may owned all = all
taken_keep setup world (Begins place chunk words) may owned all = all
taken_keep setup world (SetsHeader place chunk position head) may owned all = all
taken_keep setup world (Publishes place chunk position index word) may owned all = all
taken_keep setup world (Completes place chunk position content) may owned all = all
taken_keep setup world (Calls place call) may owned all = all
taken_keep setup world (Looks chunk word header found) may owned all = all
taken_keep setup world (Takes place chunk word header) may owned all =
    let within = may.0 in
    let many = owned.all_taken in
    takes_keep (looks_at world.service chunk word header None) place chunk (omega (arith, within, many)) all
taken_keep setup world (Learns place chunk content) may owned all =
    let within = may.0 in
    let many = owned.all_taken in
    learns_keep world.service place content (omega (arith, within, many)) all
taken_keep setup world (Releases chunk) may owned all = all
taken_keep setup world (Notes event) may owned all = notes_keep world.service event may.1 all
taken_keep setup world (Commits committed) may owned all = notes_keep world.service (Commit (length world.service.commits)) tt all
taken_keep setup world (HearsOf place number) may owned all = all
taken_keep setup world (Answers place flush chunks) may owned all = all
taken_keep setup world Requests may owned all = all
taken_keep setup world (ReadsAnswer place flush chunks) may owned all = all

all_along : (setup : Setup) (old new : World) (moves : List Move) → IsOwned old → AllTaken old.service → IsSchedule setup old moves new
    → AllTaken new.service
all_along setup old new [] owned all same = subst (λ (world : World). AllTaken world.service) (sym same) all
all_along setup old new (move ∷ moves) owned all schedule =
    all_along setup (behind old move) new moves (move_keeps setup old move schedule.0 owned)
    (taken_keep setup old move schedule.0 owned all) schedule.1

pub arrived_were_taken : ArrivedWereTaken
arrived_were_taken setup moves world schedule =
    all_along setup (first_world setup) world moves (first_owned setup)
    (λ place position has. absurd (let never : false ≡ true = has in cc)) schedule
