-- A chunk that somebody had, and that nobody has behind a schedule, was freed by a move of it.
use Rattle.std.proofs.Common.{◌≡◌, ◌∙◌, ℕ, ◌⊎◌, inl, inr, List, [], ◌∷◌, ◌++◌, get_or, set, refl, sym, ap, subst, ⊎_elim}
use Rattle.chunk_plain.specs.Setup.{Setup}
use Rattle.chunk_plain.specs.Views.{Content, Draft, taken_of}
use Rattle.chunk_plain.specs.World.{World, Status, Unclaimed, Claimed, Stamped, Writing, Ready, Reading, status}
use Rattle.chunk_plain.specs.Plain.{read_as}
use Rattle.chunk_plain.proofs.Lists.{changed}
use Rattle.chunk_schedules.specs.Moves.{Move, Claims, Stamps, Begins, SetsHeader, Publishes, Completes, Calls, Looks, Takes, Learns, Releases, Notes, Commits, HearsOf, Answers, Requests, ReadsAnswer, MayMove, MayRelease, IsChunk, claimed_in, behind}
use Rattle.chunk_schedules.specs.Schedules.{IsSchedule}

-- the move frees the chunk
record Frees (world : World) (move : Move) (chunk : ℕ) : Type 0 where
  pub is : move ≡ Releases chunk
  pub may : MayRelease world chunk

-- the chunk was free before the move, or the move frees it
abbrev WasFreeOrFreed : World → Move → (chunk : ℕ) → Type 0
WasFreeOrFreed world move chunk = (status world chunk ≡ Unclaimed) ⊎ Frees world move chunk

had_stamped : (place position : ℕ) → Stamped place position ≡ Unclaimed → ⊥
had_stamped place position is = let never : Stamped place position ≡ Unclaimed = is in cc

had_writing : (place position : ℕ) (draft : Draft) → Writing place position draft ≡ Unclaimed → ⊥
had_writing place position draft is = let never : Writing place position draft ≡ Unclaimed = is in cc

had_ready : (place position : ℕ) (content : Content) → Ready place position content ≡ Unclaimed → ⊥
had_ready place position content is = let never : Ready place position content ≡ Unclaimed = is in cc

-- a move behind which somebody has the chunk that it is about
keeps_had : (world : World) (move : Move) (about chunk : ℕ) (to : Status) → IsChunk world about → (to ≡ Unclaimed → ⊥)
    → get_or (set world.chunks about to) chunk Unclaimed ≡ Unclaimed → WasFreeOrFreed world move chunk
keeps_had world move about chunk to inside had =
    changed (λ (is : Status). is ≡ Unclaimed → WasFreeOrFreed world move chunk) world.chunks about chunk to Unclaimed inside
    (λ _ free. absurd (had free))
    (λ _ free. inl free)

claims_free : (world : World) (mover about found chunk : ℕ) → IsChunk world about → (is : Status)
    → status (claimed_in world mover about found is) chunk ≡ Unclaimed → WasFreeOrFreed world (Claims mover about found) chunk
claims_free world mover about found chunk inside Unclaimed free =
    keeps_had world (Claims mover about found) about chunk (Claimed mover) inside
    (λ same. absurd (let never : Claimed mover ≡ Unclaimed = same in cc)) free
claims_free world mover about found chunk inside (Claimed other) free = inl free
claims_free world mover about found chunk inside (Stamped other position) free = inl free
claims_free world mover about found chunk inside (Writing other position draft) free = inl free
claims_free world mover about found chunk inside (Ready other position content) free = inl free
claims_free world mover about found chunk inside (Reading other position content) free = inl free

was_free_or_freed : (setup : Setup) (world : World) (move : Move) (chunk : ℕ) → MayMove setup world move → status (behind world move) chunk ≡ Unclaimed
    → WasFreeOrFreed world move chunk
was_free_or_freed setup world (Claims mover about found) chunk may free = claims_free world mover about found chunk may.1 (status world about) free
was_free_or_freed setup world (Stamps mover about) chunk may free =
    keeps_had world (Stamps mover about) about chunk _ may.1 (had_stamped mover _) free
was_free_or_freed setup world (Begins mover about words) chunk may free =
    keeps_had world (Begins mover about words) about chunk _ may.1 (had_writing mover _ _) free
was_free_or_freed setup world (SetsHeader mover about position head) chunk may free =
    keeps_had world (SetsHeader mover about position head) about chunk _ may.1 (had_writing mover _ _) free
was_free_or_freed setup world (Publishes mover about position index word) chunk may free =
    keeps_had world (Publishes mover about position index word) about chunk _ may.1 (had_writing mover _ _) free
was_free_or_freed setup world (Completes mover about position content) chunk may free =
    keeps_had world (Completes mover about position content) about chunk _ may.1 (had_ready mover position content) free
was_free_or_freed setup world (Calls mover call) chunk may free = inl free
was_free_or_freed setup world (Looks about word header found) chunk may free = inl free
was_free_or_freed setup world (Takes mover about word header) chunk may free =
    let next = may.2 in
    let reads : read_as (status world about) ≡ Reading mover (taken_of world.service mover).count next.0 = ap read_as next.1 in
    keeps_had world (Takes mover about word header) about chunk (read_as (status world about)) may.1
    (λ same. absurd (let never : Reading mover (taken_of world.service mover).count next.0 ≡ Unclaimed = sym reads ∙ same in cc)) free
was_free_or_freed setup world (Learns mover about content) chunk may free = inl free
was_free_or_freed setup world (Releases about) chunk may free =
    changed (λ (is : Status). is ≡ Unclaimed → WasFreeOrFreed world (Releases about) chunk) world.chunks about chunk Unclaimed Unclaimed may.0
    (λ same _. inr (record { is = ap Releases (sym same); may = subst (MayRelease world) (sym same) may.1 }))
    (λ _ still. inl still)
    free
was_free_or_freed setup world (Notes event) chunk may free = inl free
was_free_or_freed setup world (Commits committed) chunk may free = inl free
was_free_or_freed setup world (HearsOf mover requests) chunk may free = inl free
was_free_or_freed setup world (Answers mover flush chunks) chunk may free = inl free
was_free_or_freed setup world Requests chunk may free = inl free
was_free_or_freed setup world (ReadsAnswer mover flush chunks) chunk may free = inl free

-- one of these moves frees the chunk: it is the one between those before and those after
pub record FindsFreed (setup : Setup) (moves : List Move) (old new : World) (chunk : ℕ) : Type 0 where
  pub mid : World
  pub before : List Move
  pub after : List Move
  pub moves_are : moves ≡ before ++ Releases chunk ∷ after
  pub first : IsSchedule setup old before mid
  pub then : IsSchedule setup mid (Releases chunk ∷ after) new
  pub may : MayRelease mid chunk

-- a move is put before the moves that lead to it
found_later : (setup : Setup) (old new : World) (move : Move) (moves : List Move) (chunk : ℕ) → MayMove setup old move
    → FindsFreed setup moves (behind old move) new chunk → FindsFreed setup (move ∷ moves) old new chunk
found_later setup old new move moves chunk may found = record {
  mid = found.mid;
  before = move ∷ found.before;
  after = found.after;
  moves_are = ap (λ (l : List Move). move ∷ l) found.moves_are;
  first = (may, found.first);
  then = found.then;
  may = found.may;
}

-- a chunk that nobody has behind a schedule was free before it, or a move of it frees the chunk
pub finds_freed : (setup : Setup) (old new : World) (moves : List Move) (chunk : ℕ) → IsSchedule setup old moves new → status new chunk ≡ Unclaimed
    → (status old chunk ≡ Unclaimed) ⊎ FindsFreed setup moves old new chunk
finds_freed setup old new [] chunk same free = inl (subst (λ (world : World). status world chunk ≡ Unclaimed) same free)
finds_freed setup old new (move ∷ moves) chunk schedule free =
    ⊎_elim
    (λ later. ⊎_elim (λ before. inl before)
    (λ frees. inr (record {
      mid = old;
      before = [];
      after = moves;
      moves_are = ap (λ (one : Move). one ∷ moves) frees.is;
      first = refl;
      then = subst (λ (one : Move). IsSchedule setup old (one ∷ moves) new) frees.is schedule;
      may = frees.may;
    }))
    (was_free_or_freed setup old move chunk schedule.0 later))
    (λ found. inr (found_later setup old new move moves chunk schedule.0 found))
    (finds_freed setup (behind old move) new moves chunk schedule.1 free)
