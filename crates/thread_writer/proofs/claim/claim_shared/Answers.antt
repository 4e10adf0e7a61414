use Rattle.std.proofs.Common.{Option, Some, None, IfSome, length}
use Rattle.chunk_plain.specs.declared.tokens.Held.{Held}
use Rattle.chunk_plain.specs.Drafts.{IsHolding}
use Rattle.chunk_plain.specs.Setup.{Setup}
use Rattle.chunk_plain.specs.Views.{WriterView}
use Rattle.chunk_plain.specs.Words.{IsBegun}
use Rattle.chunk_words.specs.Sits.{setup_in, known_by}
use Rattle.claim_arbiter.specs.declared.arbiter.Arbiter.{Arbiter}
use Rattle.claim_arbiter.specs.Claiming.{ClaimsInTurn}
use Rattle.thread_writer.specs.Claiming.{ClaimsAs}
use Rattle.thread_writer.specs.Lent.{lent}
use Rattle.thread_writer.specs.Standing.{step_stays}
use Rattle.thread_writer.proofs.Identity.{sits_back}
use Rattle.thread_writer.proofs.claim.claim_shared.Goals as goal

claims_as : (setup : Setup) (arbiter : Arbiter) (old new : WriterView) (answer : Option Held)
    → IfSome answer (λ held. ClaimsInTurn setup arbiter.first arbiter.chunks held.chunk old new)
    → IfSome answer (λ held. IsBegun setup held.chunk (length old.begun) held) → IfSome answer (λ held. IsHolding new held.chunk (length old.begun))
    → IfSome answer (λ held. ClaimsAs setup arbiter old new held)
claims_as setup arbiter old new None won begun holding = tt
claims_as setup arbiter old new (Some held) won begun holding = record { claims = won; begun = begun; holding = holding }

pub returns-clause-won : goal.returns-clause-won
returns-clause-won g c =
    let e = c.claim_over.ensures in
    claims_as (setup_in c.args.table.now) c.args.arbiter.now (known_by c.args.seat.now) (known_by c.claim_over.new.seat) c.claim_over.result e.won e.begun e.holding

pub returns-clause-seat : goal.returns-clause-seat
returns-clause-seat g c =
    let behind = c.claim_over.new.table in let step = c.claim_over.ensures.step in
    sits_back c.args.table.now behind.table.now c.claim_over.new.seat (step_stays (lent c.args.table) behind c.args.seat.now c.claim_over.new.seat step)
    step.setup_stays step.seat_stays
