use Rattle.std.proofs.Common.{◌≡◌, ℕ, ◌<◌, length, subst, sym, arith, rules}
use Rattle.std.proofs.lemmas.Grind.{common_steps}
use Rattle.chunk_plain.specs.declared.tokens.Held.{Held as HeldToken}
use Rattle.chunk_plain.specs.Payload.{byte_in}
use Rattle.chunk_plain.specs.Views.{Draft}
use Rattle.chunk_plain.specs.Drafts.{draft_at, published, IsHolding}
use Rattle.chunk_plain.proofs.Holding.{redrafts_holds, published_more}
use Rattle.chunk_plain.proofs.SeatSteps.{steps_follow}
use Rattle.claim_arbiter.proofs.Turns.{turn_sealed}
use Rattle.part_rows.proofs.claims.fill.Goals as goal

pub publish-requires-clause-may : goal.publish-requires-clause-may
publish-requires-clause-may g c =
    let setup = g.W.Words.means.setup c.args.table.now in let arbiter = c.args.arbiter.now in
    let none = turn_sealed setup arbiter.first arbiter.chunks c.in_ok-held.held.chunk (g.W.Words.means.view c.args.table.now c.args.seat.now) (g.W.Words.means.view c.claim_over.new.table c.claim_over.new.seat) c.in_ok-held.held.position
    c.in_ok-held.ensures.won c.in_ok-held.ensures.begun.position_is in
    record {
      held = first_of (search rules, grind (arith, common_steps));
      size = first_of (search rules, grind (arith, common_steps));
      order = omega arith;
      inside = first_of (search rules, grind (arith, common_steps));
      kept = λ j below. absurd (omega (arith, none));
    }

pub complete-requires-clause-held : goal.complete-requires-clause-held
complete-requires-clause-held g c =
    let old = g.W.Words.means.view c.claim_over.new.table c.claim_over.new.seat in let new = g.W.Words.means.view c.publish.new.self c.publish.new.seat in
    let held = c.in_ok-held.held in
    let holding = subst (λ i. IsHolding old held.chunk i) (sym c.in_ok-held.ensures.begun.position_is) c.in_ok-held.ensures.holding in
    let bytes = c.publish.ensures.view in
    let draft : Draft = record (draft_at old held.position) { words = bytes.words } in
    redrafts_holds old new held c.publish.new.held draft bytes.view c.publish.ensures.held holding

pub complete-requires-clause-published : goal.complete-requires-clause-published
complete-requires-clause-published g c =
    let old = g.W.Words.means.view c.claim_over.new.table c.claim_over.new.seat in let new = g.W.Words.means.view c.publish.new.self c.publish.new.seat in
    let held = c.in_ok-held.held in
    let holding = subst (λ i. IsHolding old held.chunk i) (sym c.in_ok-held.ensures.begun.position_is) c.in_ok-held.ensures.holding in
    let bytes = c.publish.ensures.view in
    let copy = held.body.payload.items in
    let joined = held.body.payload.ok.0 in
    let size : c.len-size.result ≡ length copy = omega (arith, c.len-size.ensures) in
    subst (λ (h : HeldToken). (j : ℕ) → j < length h.body.payload.items → published new h.position j ≡ byte_in h.body.payload.items j) (sym c.publish.ensures.held)
    (λ j below. published_more old new held.chunk held.position 0 c.len-size.result copy holding bytes (omega arith) (omega arith) (λ i less. absurd (omega arith)) j (omega arith))

pub returns : goal.returns
returns g c =
    let one = steps_follow g.W.Words.means c.args.table.now c.args.seat.now c.claim_over.new.table c.claim_over.new.seat c.publish.new.self c.publish.new.seat c.in_ok-held.ensures.step c.publish.ensures.step in
    record { step = steps_follow g.W.Words.means c.args.table.now c.args.seat.now c.publish.new.self c.publish.new.seat c.complete.new.self c.complete.new.seat one c.complete.ensures.step }
