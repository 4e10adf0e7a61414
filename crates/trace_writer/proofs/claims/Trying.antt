-- A writer that tries so often and then drops, among its tries for one chunk.
use Rattle.std.proofs.Common.{◌≡◌, ℕ, suc, ◌+◌, ◌-◌, ◌<◌, Bool, true, false, not, List, length, refl, sym, subst, arith, is_some, Option, Some, None, IfSome, IfNone}
use Rattle.std.proofs.lemmas.Bool.{true≢false}
use Rattle.trace_base.specs.declared.policy.WriterPolicy.TheVariants.{StallsThenDrops}
use Rattle.chunk_plain.specs.declared.tokens.Held.{Held as HeldToken}
use Rattle.chunk_plain.specs.Drafts.{draft_at}
use Rattle.chunk_plain.specs.Steps.{moved, with_writer_view}
use Rattle.chunk_plain.specs.Views.{BegunChunk, WriterView}
use Rattle.chunk_plain.specs.Meaning.{Meaning, IsWriterStep}
use Rattle.chunk_plain.specs.World.{World, Unclaimed, Writing, status}
use Rattle.chunk_plain.proofs.SeatSteps.{stays}
use Rattle.claim_arbiter.specs.Claiming.{AsksInVain, ClaimsInTurn, NoneFree}
use Rattle.trace_writer.specs.declared.route.Route.{Route}
use Rattle.trace_writer.specs.Helping.{LeavesWriters, LeavesOthers, Tries, Gains, Again, Ends, Done, Tried, GivesUp, IsWork}
use Rattle.trace_writer.specs.Moments.{at_step}
use Rattle.trace_writer.specs.OwnSteps.{NoneHeld, GetsChunk, IsVainTry}
use Rattle.trace_writer.proofs.claims.Asking.{won_counts, lost_counts, gets_chunk, in_vain}
use Rattle.trace_writer.proofs.claims.QuietRows.{silent_none}
use Rattle.trace_writer.proofs.claims.Working.{leaves_own, leaves_both, leaves_help}

-- in the midst of a packet a writer may hold what it will
pub within : (begun : List BegunChunk) → false ≡ true → NoneHeld begun
within begun wrong = absurd (true≢false (sym wrong))

-- the tries of a writer on a table
abbrev pub TriesHere : {H T W S : Type 0} (means : Meaning T W S) → (H → T → ℕ → Bool → H → T → Type 0) → Bool → Route → ℕ → H → T → W → Bool → H → T → W → Type 0
TriesHere means helps begins route =
    Tries (GetsChunk means route) (IsVainTry means route begins) (λ asked table answer behind freed. helps asked table route.spec.producer answer behind freed × LeavesWriters means table freed)

-- Some tries were in vain, and so many asks are left: whatever comes of these comes of all.
pub record IsTrying {H T W S : Type 0} (means : Meaning T W S) (needs : H → T → Type 0) (helps : H → T → ℕ → Bool → H → T → Type 0)
    (begins : Bool) (route : Route) (tries : ℕ) (helper : H) (old : T) (seat : W) (steps left : ℕ) (middle : H) (mid : T) (between : W) (half : ℕ) : Type 0 where
  pub others : LeavesOthers means old seat mid between
  pub needed : needs middle mid
  pub counts : half + (length (means.view old seat).asked + length (means.view old seat).begun) ≡ steps + (length (means.view mid between).asked + length (means.view mid between).begun)
  pub rest : (stopped : Bool) (kept : H) (new : T) (after : W) → TriesHere means helps begins route left middle mid between stopped kept new after
      → TriesHere means helps begins route tries helper old seat stopped kept new after

module _ {H T W S : Type 0} (means : Meaning T W S) (needs : H → T → Type 0) (helps : H → T → ℕ → Bool → H → T → Type 0) where
  pub trying_none : {begins : Bool} (route : Route) (tries : ℕ) (helper : H) (table : T) (seat : W) (steps : ℕ) → means.sits table seat → needs helper table
      → IsTrying means needs helps begins route tries helper table seat steps tries helper table seat steps
  trying_none route tries helper table seat steps there needed = record {
    others = leaves_own means needs helps table seat table seat (stays means table seat there);
    needed = needed;
    counts = refl;
    rest = λ stopped kept new after more. more;
  }

  -- a round was in vain, and a help was asked for
  pub trying_on : {begins : Bool} (route : Route) (tries : ℕ) (helper : H) (old : T) (seat : W) (steps left : ℕ) (middle : H) (mid : T) (between : W) (half : ℕ)
      (asking : T) (asker : W) (later : ℕ) (answer : Bool) (helped : H) (freed : T)
      → IsTrying means needs helps begins route tries helper old seat steps left middle mid between half → 0 < left → IsVainTry means route begins mid between asking asker
      → later + (length (means.view mid between).asked + length (means.view mid between).begun) ≡ half + (length (means.view asking asker).asked + length (means.view asking asker).begun)
      → helps middle asking route.spec.producer answer helped freed → LeavesWriters means asking freed → needs helped freed
      → IsTrying means needs helps begins route tries helper old seat steps (left - 1) helped freed asker later
  trying_on {begins} route tries helper old seat steps left middle mid between half asking asker later answer helped freed on some vain counts helps_ leaves needed = record {
    others = leaves_both means needs helps old seat mid between freed asker on.others
        (leaves_both means needs helps mid between asking asker freed asker (leaves_own means needs helps mid between asking asker vain.vain.step)
        (leaves_help means needs helps asking asker freed vain.vain.step.seat_stays leaves));
    needed = needed;
    counts = subst (λ (v : WriterView). later + (length (means.view old seat).asked + length (means.view old seat).begun) ≡ steps + (length v.asked + length v.begun))
        (sym (leaves.writers_stay asker vain.vain.step.seat_stays).1) (let first = on.counts in omega (arith, first, counts));
    rest = λ stopped kept new after more. on.rest stopped kept new after
        (subst (λ (n : ℕ). TriesHere means helps begins route n middle mid between stopped kept new after) one_more
        (Again (left - 1) middle mid between asking asker answer helped freed stopped kept new after vain (helps_, leaves) more));
  }
    where
      one_more : suc (left - 1) ≡ left
      one_more = omega (arith, some)

  -- the claim won
  pub trying_gets : {begins : Bool} (route : Route) (tries : ℕ) (helper : H) (old : T) (seat : W) (steps left : ℕ) (middle : H) (mid : T) (between : W) (half : ℕ) (new : T) (after : W) (later : ℕ)
      → ((helper : H) (old new : T) (seat after : W) → IsWriterStep means old seat new after → needs helper old → needs helper new)
      → route.spec.policy ≡ StallsThenDrops tries
      → IsTrying means needs helps begins route tries helper old seat steps left middle mid between half → GetsChunk means route mid between new after
      → later + (length (means.view mid between).asked + length (means.view mid between).begun) ≡ half + (length (means.view new after).asked + length (means.view new after).begun)
      → IsWork means needs helps begins route (at_step helper old seat steps) false (at_step middle new after later)
  trying_gets route tries helper old seat steps left middle mid between half new after later keeps trying on gets counts = record {
    others = leaves_both means needs helps old seat mid between new after on.others (leaves_own means needs helps mid between new after gets.step);
    works = Tried helper old seat tries middle new after false middle new after trying (on.rest false middle new after (Gains left middle mid between new after gets))
        (Done middle new after new after (silent_none means new after gets.step.seat_stays));
    needed = keeps middle mid new between after gets.step on.needed;
    counts = let first = on.counts in omega (arith, first, counts);
  }

  -- the round behind the last ask was in vain too
  pub trying_ends : {begins : Bool} (route : Route) (tries : ℕ) (helper : H) (old : T) (seat : W) (steps left : ℕ) (middle : H) (mid : T) (between : W) (half : ℕ) (new : T) (after : W) (later : ℕ)
      → ((helper : H) (old new : T) (seat after : W) → IsWriterStep means old seat new after → needs helper old → needs helper new)
      → route.spec.policy ≡ StallsThenDrops tries
      → IsTrying means needs helps begins route tries helper old seat steps left middle mid between half → left ≡ 0 → IsVainTry means route begins mid between new after
      → later + (length (means.view mid between).asked + length (means.view mid between).begun) ≡ half + (length (means.view new after).asked + length (means.view new after).begun)
      → IsWork means needs helps begins route (at_step helper old seat steps) true (at_step middle new after later)
  trying_ends {begins} route tries helper old seat steps left middle mid between half new after later keeps trying on none vain counts = record {
    others = leaves_both means needs helps old seat mid between new after on.others (leaves_own means needs helps mid between new after vain.vain.step);
    works = GivesUp helper old seat tries middle new after new after trying
        (on.rest true middle new after
        (subst (λ (n : ℕ). TriesHere means helps begins route n middle mid between true middle new after) (sym none) (Ends middle mid between new after vain)))
        (silent_none means new after vain.vain.step.seat_stays);
    needed = keeps middle mid new between after vain.vain.step on.needed;
    counts = let first = on.counts in omega (arith, first, counts);
  }

  -- the last round, whether it got a chunk or not
  pub tried_last : {begins : Bool} (route : Route) (tries : ℕ) (helper : H) (old : T) (seat : W) (steps left : ℕ) (middle : H) (mid : T) (between : W) (half position : ℕ) (new : T) (after : W) (later : ℕ)
      (answer : Option HeldToken)
      → ((helper : H) (old new : T) (seat after : W) → IsWriterStep means old seat new after → needs helper old → needs helper new)
      → route.spec.policy ≡ StallsThenDrops tries
      → IsTrying means needs helps begins route tries helper old seat steps left middle mid between half → left ≡ 0 → (begins ≡ true → NoneHeld (means.view mid between).begun)
      → IsWriterStep means mid between new after
      → IfSome answer (λ held. ClaimsInTurn (means.setup mid) route.arbiter.first route.arbiter.chunks held.chunk (means.view mid between) (means.view new after))
      → IfSome answer (λ held. later ≡ half + (held.chunk - route.arbiter.first) + 2)
      → IfSome answer (λ held. (world : World) → means.told mid ≡ Some world → NoneFree world route.arbiter.first held.chunk × ∥ status world held.chunk ≡ Unclaimed ∥₁
      × (means.told new ≡ Some (moved world (means.place between) (means.view new after) held.chunk (Writing (means.place between) position (draft_at (means.view new after) position)))))
      → IfNone answer (AsksInVain (means.setup mid) route.arbiter.first route.arbiter.chunks (means.view mid between) (means.view new after))
      → IfNone answer (later ≡ half + route.arbiter.chunks)
      → IfNone answer ((world : World) → means.told mid ≡ Some world → NoneFree world route.arbiter.first (route.arbiter.first + route.arbiter.chunks)
      × (means.told new ≡ Some (with_writer_view world (means.place between) (means.view new after))))
      → IsWork means needs helps begins route (at_step helper old seat steps) (not (is_some answer)) (at_step middle new after later)
  tried_last route tries helper old seat steps left middle mid between half position new after later (Some held) keeps trying on none holds step won steps_won told_won lost steps_lost told_lost =
      trying_gets route tries helper old seat steps left middle mid between half new after later keeps trying on
      (gets_chunk means route held.chunk position mid between new after step won told_won)
      (won_counts (means.setup mid) route.arbiter.first route.arbiter.chunks held.chunk (means.view mid between) (means.view new after) half later won steps_won)
  tried_last route tries helper old seat steps left middle mid between half position new after later None keeps trying on none holds step won steps_won told_won lost steps_lost told_lost =
      trying_ends route tries helper old seat steps left middle mid between half new after later keeps trying on none
      (record { vain = in_vain means route mid between new after step lost told_lost; none_held = holds })
      (lost_counts (means.setup mid) route.arbiter.first route.arbiter.chunks (means.view mid between) (means.view new after) half later lost steps_lost)
