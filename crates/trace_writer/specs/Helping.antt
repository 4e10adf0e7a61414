-- The helper that a writer asks for chunks: one that stalls, or one that tries so often and then drops.
use Rattle.std.specs.Prelude.{◌≡◌, ◌≢◌, ℕ, zero, suc, Bool, true, false, length, ◌+◌}
use Rattle.trace_base.specs.declared.policy.WriterPolicy.{WriterPolicy}
use Rattle.trace_base.specs.declared.policy.WriterPolicy.TheVariants.{Drops, Stalls, StallsThenDrops}
use Rattle.chunk_plain.specs.Meaning.{Meaning}
use Rattle.trace_writer.specs.declared.route.Route.{Route}
use Rattle.trace_writer.specs.Moments.{StepMoment}
use Rattle.trace_writer.specs.OwnSteps.{IsSilent, GetsChunk, IsVainTry, IsOutNow}

-- a help leaves the view of each writer's seat
pub record LeavesWriters {T W S : Type 0} (means : Meaning T W S) (old new : T) : Type 0 where
  pub setup_stays : means.setup new ≡ means.setup old
  pub writers_stay : (seat : W) → means.sits old seat → means.sits new seat × (means.view new seat ≡ means.view old seat)

-- and a writer's call, with all helps that it asks for, those of the other writers' seats; and what the writer knows of flush requests
pub record LeavesOthers {T W S : Type 0} (means : Meaning T W S)
    (old : T) (seat : W) (new : T) (after : W) : Type 0 where
  pub setup_stays : means.setup new ≡ means.setup old
  pub seat_stays : means.sits new after
  pub place_stays : means.place after ≡ means.place seat
  pub writers_stay : (other : W) → means.sits old other → means.place other ≢ means.place seat
      → means.sits new other × (means.view new other ≡ means.view old other)
  pub letters_stay : (means.view new after).letters ≡ (means.view old seat).letters

-- whether a writer with this policy loses its packet where it is out of chunks
abbrev pub loses : WriterPolicy → Bool
loses Drops = true
loses Stalls = false
loses (StallsThenDrops tries) = true

-- how many full rounds of claims a loss has behind it
abbrev pub rounds_for : WriterPolicy → ℕ
rounds_for Drops = 1
rounds_for Stalls = 1
rounds_for (StallsThenDrops tries) = suc tries

-- A writer tries for one chunk, with so many asks left: where a round of claims is in vain it asks for a help, and claims again
-- whatever that answers. It gets one (false), or the round behind its last ask was in vain too (true).
pub data Tries {H T W : Type 0} (gets vain : T → W → T → W → Type 0) (helps : H → T → Bool → H → T → Type 0)
    : ℕ → H → T → W → Bool → H → T → W → Type 0 where
  Gains : (left : ℕ) (helper : H) (old : T) (seat : W) (new : T) (after : W) → gets old seat new after
      → Tries gets vain helps left helper old seat false helper new after
  Again : (left : ℕ) (helper : H) (old : T) (seat : W) (asking : T) (asker : W) (answer : Bool) (helped : H) (freed : T) (stopped : Bool) (kept : H) (new : T) (after : W)
      → vain old seat asking asker → helps helper asking answer helped freed → Tries gets vain helps left helped freed asker stopped kept new after
      → Tries gets vain helps (suc left) helper old seat stopped kept new after
  Ends : (helper : H) (old : T) (seat : W) (new : T) (after : W) → vain old seat new after
      → Tries gets vain helps zero helper old seat true helper new after

-- What a writer does for a call, with the helps that it asks for: silent steps, and for each further chunk the claims by which it
-- gets one; only its last steps note calls. A writer that stalls asks for a help where it is out of chunks, and claims again
-- behind one that freed a chunk; it stops (true) behind one that freed none. A writer that drops stops where it is out of
-- chunks. One that tries so often and then drops tries for each chunk anew, and stops where all its tries were in vain. Each help
-- is asked for behind a full round of claims of its own, and a writer that stops claims no more.
pub data Works {H T W : Type 0} (policy : WriterPolicy) (silent last gets vain out : T → W → T → W → Type 0) (helps : H → T → Bool → H → T → Type 0)
    : H → T → W → Bool → H → T → W → Type 0 where
  Done : (helper : H) (old : T) (seat : W) (new : T) (after : W) → last old seat new after
      → Works policy silent last gets vain out helps helper old seat false helper new after
  Silent : (helper : H) (old : T) (seat : W) (next : T) (moved : W) (stopped : Bool) (left : H) (new : T) (after : W)
      → silent old seat next moved → Works policy silent last gets vain out helps helper next moved stopped left new after
      → Works policy silent last gets vain out helps helper old seat stopped left new after
  Gets : (helper : H) (old : T) (seat : W) (next : T) (moved : W) (stopped : Bool) (left : H) (new : T) (after : W)
      → gets old seat next moved → Works policy silent last gets vain out helps helper next moved stopped left new after
      → Works policy silent last gets vain out helps helper old seat stopped left new after
  Helped : (helper : H) (old : T) (seat : W) (asking : T) (asker : W) (helped : H) (freed : T) (stopped : Bool) (left : H) (new : T) (after : W)
      → policy ≡ Stalls → out old seat asking asker → helps helper asking true helped freed
      → Works policy silent last gets vain out helps helped freed asker stopped left new after
      → Works policy silent last gets vain out helps helper old seat stopped left new after
  Refused : (helper : H) (old : T) (seat : W) (asking : T) (asker : W) (left : H) (kept : T) (new : T) (after : W)
      → policy ≡ Stalls → out old seat asking asker → helps helper asking false left kept → last kept asker new after
      → Works policy silent last gets vain out helps helper old seat true left new after
  Lost : (helper : H) (old : T) (seat : W) (mid : T) (between : W) (new : T) (after : W)
      → policy ≡ Drops → out old seat mid between → last mid between new after
      → Works policy silent last gets vain out helps helper old seat true helper new after
  Tried : (helper : H) (old : T) (seat : W) (tries : ℕ) (kept : H) (next : T) (moved : W) (stopped : Bool) (left : H) (new : T) (after : W)
      → policy ≡ StallsThenDrops tries → Tries gets vain helps tries helper old seat false kept next moved
      → Works policy silent last gets vain out helps kept next moved stopped left new after
      → Works policy silent last gets vain out helps helper old seat stopped left new after
  GivesUp : (helper : H) (old : T) (seat : W) (tries : ℕ) (left : H) (mid : T) (between : W) (new : T) (after : W)
      → policy ≡ StallsThenDrops tries → Tries gets vain helps tries helper old seat true left mid between → last mid between new after
      → Works policy silent last gets vain out helps helper old seat true left new after

-- The same on a route: with the policy of its writer, the chunks of its producer, and helps that leave the view of each writer's seat;
-- `last` are the steps that come last.
abbrev pub WorksOn : {H T W S : Type 0} → Meaning T W S → (H → T → ℕ → Bool → H → T → Type 0) → (last : T → W → T → W → Type 0) → (begins : Bool) → Route
    → H → T → W → Bool → H → T → W → Type 0
WorksOn means helps last begins route =
    Works route.spec.policy (IsSilent means) last (GetsChunk means route) (IsVainTry means route begins) (IsOutNow means route)
    (λ asked table answer behind freed. helps asked table route.spec.producer answer behind freed × LeavesWriters means table freed)

-- What a writer does to its table, its seat and its helper before it notes its call, which may be a packet's begin, whether it stops since
-- no chunk is to be had, and its steps: each claim is one, and each begin of a chunk.
pub record IsWork {H T W S : Type 0} (means : Meaning T W S) (needs : H → T → Type 0) (helps : H → T → ℕ → Bool → H → T → Type 0)
    (begins : Bool) (route : Route) (before : StepMoment H T W) (stopped : Bool) (behind : StepMoment H T W) : Type 0 where
  pub others : LeavesOthers means before.table before.seat behind.table behind.seat
  pub works : WorksOn means helps (IsSilent means) begins route
      before.helper before.table before.seat stopped behind.helper behind.table behind.seat
  pub needed : needs behind.helper behind.table
  pub counts : behind.steps + (length (means.view before.table before.seat).asked + length (means.view before.table before.seat).begun)
      ≡ before.steps + (length (means.view behind.table behind.seat).asked + length (means.view behind.table behind.seat).begun)

-- whether a call that finds no chunk ends with a help that freed none, so that its writer stalls: one that loses its packet never does
abbrev pub refuses : WriterPolicy → Bool → Bool
refuses Drops stopped = false
refuses Stalls stopped = stopped
refuses (StallsThenDrops tries) stopped = false
