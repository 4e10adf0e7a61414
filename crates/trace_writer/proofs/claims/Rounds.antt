-- A round of claims of a writer that drops, as its work.
use Rattle.std.proofs.Common.{◌≡◌, ℕ, ◌+◌, ◌-◌, Bool, true, false, not, length, ap, arith, is_some, Option, Some, None, IfSome, IfNone}
use Rattle.trace_base.specs.declared.policy.WriterPolicy.TheVariants.{Drops}
use Rattle.chunk_plain.specs.declared.tokens.Held.{Held as HeldToken}
use Rattle.chunk_plain.specs.Drafts.{draft_at}
use Rattle.chunk_plain.specs.Steps.{moved, with_writer_view}
use Rattle.chunk_plain.specs.Meaning.{Meaning, IsWriterStep}
use Rattle.chunk_plain.specs.World.{World, Unclaimed, Writing, status}
use Rattle.claim_arbiter.specs.Claiming.{AsksInVain, ClaimsInTurn, NoneFree}
use Rattle.trace_writer.specs.declared.route.Route.{Route}
use Rattle.trace_writer.specs.Helping.{IsWork}
use Rattle.trace_writer.specs.Moments.{at_step}
use Rattle.trace_writer.specs.OwnSteps.{NoneHeld, MakesRound}
use Rattle.trace_writer.proofs.claims.Asking.{won_counts, lost_counts, gets_chunk, out_now}
use Rattle.trace_writer.proofs.holding.KeptChunks.{keeps_long}
use Rattle.trace_writer.proofs.claims.Working.{work_gets, work_lost, work_then}

module _ {H T W S : Type 0} (means : Meaning T W S) (needs : H → T → Type 0) (helps : H → T → ℕ → Bool → H → T → Type 0) where
  -- a writer that drops, and holds no chunk
  pub round_work : {begins : Bool} (route : Route) (helper : H) (old : T) (seat : W) (steps position : ℕ) (new : T) (after : W) (later : ℕ) (answer : Option HeldToken)
      → ((helper : H) (old new : T) (seat after : W) → IsWriterStep means old seat new after → needs helper old → needs helper new)
      → needs helper old → route.spec.policy ≡ Drops → NoneHeld (means.view old seat).begun → IsWriterStep means old seat new after
      → IfSome answer (λ held. ClaimsInTurn (means.setup old) route.arbiter.first route.arbiter.chunks held.chunk (means.view old seat) (means.view new after))
      → IfSome answer (λ held. later ≡ steps + (held.chunk - route.arbiter.first) + 2)
      → IfSome answer (λ held. (world : World) → means.told old ≡ Some world → NoneFree world route.arbiter.first held.chunk × ∥ status world held.chunk ≡ Unclaimed ∥₁
      × (means.told new ≡ Some (moved world (means.place seat) (means.view new after) held.chunk (Writing (means.place seat) position (draft_at (means.view new after) position)))))
      → IfNone answer (AsksInVain (means.setup old) route.arbiter.first route.arbiter.chunks (means.view old seat) (means.view new after))
      → IfNone answer (later ≡ steps + route.arbiter.chunks)
      → IfNone answer ((world : World) → means.told old ≡ Some world → NoneFree world route.arbiter.first (route.arbiter.first + route.arbiter.chunks)
      × (means.told new ≡ Some (with_writer_view world (means.place seat) (means.view new after))))
      → IsWork means needs helps begins route (at_step helper old seat steps) (not (is_some answer)) (at_step helper new after later)
  round_work route helper old seat steps position new after later (Some held) keeps needed drops none step won steps_won told_won lost steps_lost told_lost =
      work_gets means needs helps route helper old seat steps new after later keeps needed
      (gets_chunk means route held.chunk position old seat new after step won told_won)
      (won_counts (means.setup old) route.arbiter.first route.arbiter.chunks held.chunk (means.view old seat) (means.view new after) steps later won steps_won)
  round_work route helper old seat steps position new after later None keeps needed drops none step won steps_won told_won lost steps_lost told_lost =
      work_lost means needs helps route helper old seat steps new after later keeps needed drops
      (out_now means route old seat new after step lost none told_lost)
      (lost_counts (means.setup old) route.arbiter.first route.arbiter.chunks (means.view old seat) (means.view new after) steps later lost steps_lost)

  -- and one that was writing
  pub round_is_work : {begins : Bool} (route : Route) (helper : H) (old : T) (seat : W) (steps : ℕ) (stopped : Bool) (new : T) (after : W) (later : ℕ)
      → ((helper : H) (old new : T) (seat after : W) → IsWriterStep means old seat new after → needs helper old → needs helper new)
      → needs helper old → route.spec.policy ≡ Drops → MakesRound means route stopped old seat new after
      → later + (length (means.view old seat).asked + length (means.view old seat).begun) ≡ steps + (length (means.view new after).asked + length (means.view new after).begun)
      → IsWork means needs helps begins route (at_step helper old seat steps) stopped (at_step helper new after later)
  round_is_work route helper old seat steps false new after later keeps needed drops round counts =
      let mid = round.0 in let between = round.1 in let gets = round.2 in let silent = round.3 in
      let asks = ap length silent.quiet.asked in let chunks = keeps_long (means.view mid between).begun (means.view new after).begun silent.quiet.chunks in
      work_then means needs helps route helper old seat steps false helper mid between later new after keeps
      (work_gets means needs helps route helper old seat steps mid between later keeps needed gets (omega (arith, counts, asks, chunks)))
      silent
  round_is_work route helper old seat steps true new after later keeps needed drops out counts =
      work_lost means needs helps route helper old seat steps new after later keeps needed drops out counts
