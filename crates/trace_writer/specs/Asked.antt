-- What a call of a writer does, and what one leaves that is refused.
use Rattle.std.specs.Prelude.{◌≡◌, ℕ, ◌+◌, ◌-◌, ◌*◌, ◌≤◌, Bool, true, false, List, [], ◌∷◌, ◌++◌, length, Result, Ok, Err, if◌then◌else◌}
use Rattle.trace_base.specs.declared.policy.WriterPolicy.{WriterPolicy}
use Rattle.trace_base.specs.declared.policy.WriterPolicy.TheVariants.{Drops, Stalls, StallsThenDrops}
use Rattle.trace_model.specs.Calls.{Call, Begun, GivenUp}
use Rattle.chunk_plain.specs.Meaning.{Meaning}
use Rattle.claim_arbiter.specs.Claiming.{range_in}
use Rattle.trace_writer.specs.declared.fault.Begun.{Begun as BegunPacket}
use Rattle.trace_writer.specs.declared.fault.Begun.TheVariants.{Kept, Dropping}
use Rattle.trace_writer.specs.declared.fault.CallFault.{CallFault}
use Rattle.trace_writer.specs.Empty.{is_stalled}
use Rattle.trace_writer.specs.Helping.{LeavesOthers, WorksOn, loses, rounds_for, refuses}
use Rattle.trace_writer.specs.Losing.{LosesBehind}
use Rattle.trace_writer.specs.Moments.{CallMoment, view_at}
use Rattle.trace_writer.specs.OwnSteps.{IsQuiet}

-- What is noted of a field call. Where it stops since no chunk is to be had, a writer that loses packets gives its own up.
abbrev pub written_as : Bool → WriterPolicy → Call → List Call
written_as false policy call = call ∷ []
written_as true Drops call = call ∷ GivenUp ∷ []
written_as true Stalls call = call ∷ []
written_as true (StallsThenDrops tries) call = call ∷ GivenUp ∷ []

-- What is noted of a packet's begin. Where there is no chunk for it, a writer that loses packets drops it, and one that stalls begins none.
abbrev pub begun_as : Bool → WriterPolicy → List Call
begun_as false policy = Begun true ∷ []
begun_as true Drops = Begun false ∷ []
begun_as true Stalls = []
begun_as true (StallsThenDrops tries) = Begun false ∷ []

-- whether a packet's begin found no chunk
abbrev pub stops_with : Result BegunPacket CallFault → Bool
stops_with (Ok Kept) = false
stops_with (Ok Dropping) = true
stops_with (Err fault) = true

-- whether a call begins a packet
abbrev pub begins_one : Call → Bool
begins_one (Begun kept) = true
begins_one call = false

-- what is noted of any call that may need a chunk
abbrev pub noted_as : Bool → WriterPolicy → Call → List Call
noted_as stopped policy (Begun kept) = begun_as stopped policy
noted_as stopped policy call = written_as stopped policy call

-- A call of a writer that isn't stalled, which may be a packet's begin: what it did, whether it stopped since no chunk was to be had, which calls it noted behind
-- its claims, whether its writer is stalled now, and its steps. A writer that loses its packet does so behind its rounds of claims in
-- vain, and makes at most so many for each chunk that it begins, and for the chunk that isn't there.
pub record IsAsked {H T W S : Type 0} (means : Meaning T W S) (needs : H → T → Type 0) (helps : H → T → ℕ → Bool → H → T → Type 0)
    (begins stopped : Bool) (noted : List Call) (before behind : CallMoment H T W) : Type 0 where
  pub others : LeavesOthers means before.table before.core.seat behind.table behind.core.seat
  pub works : WorksOn means helps (IsQuiet means) begins before.core.writer.route
      before.helper before.table before.core.seat stopped behind.helper behind.table behind.core.seat
  pub needed : needs behind.helper behind.table
  pub counts : behind.steps + (length (view_at means before).asked + length (view_at means before).begun)
      ≡ before.steps + (length (view_at means behind).asked + length (view_at means behind).begun)
  pub notes : (view_at means behind).calls ≡ (view_at means before).calls ++ noted
  pub stalls : is_stalled behind.core.writer.state ≡ refuses before.core.writer.route.spec.policy stopped
  pub lost : stopped ≡ true → loses before.core.writer.route.spec.policy ≡ true
      → LosesBehind (means.setup before.table) (range_in before.core.writer.route.arbiter) (rounds_for before.core.writer.route.spec.policy)
      (view_at means before) (view_at means behind)
  pub few_steps : loses before.core.writer.route.spec.policy ≡ true → behind.steps ≤ before.steps
      + (length (view_at means behind).begun - length (view_at means before).begun)
      * (rounds_for before.core.writer.route.spec.policy * before.core.writer.route.arbiter.chunks + 1)
      + (if stopped then rounds_for before.core.writer.route.spec.policy * before.core.writer.route.arbiter.chunks else 0)

-- The call was refused for this fault, and changed nothing.
pub record LeavesAll {A H T W : Type 0} (fault : CallFault) (before : CallMoment H T W) (answer : Result A CallFault) (behind : CallMoment H T W) : Type 0 where
  pub answer_is : answer ≡ Err fault
  pub writer_stays : behind.core ≡ before.core
  pub table_stays : behind.table ≡ before.table
  pub helper_stays : behind.helper ≡ before.helper
  pub steps_stay : behind.steps ≡ before.steps
