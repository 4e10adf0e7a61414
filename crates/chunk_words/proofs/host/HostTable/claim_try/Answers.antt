use Rattle.std.proofs.Common.{◌≡◌, true, false, subst, sym, ap, ◌∙◌}
use Rattle.page_geometry.specs.PageBits.{IsClaimed}
use Rattle.chunk_plain.specs.declared.setup.Spot.{Spot}
use Rattle.chunk_plain.specs.Setup.{spot, producer_of, IsChunkOf}
use Rattle.chunk_plain.specs.Steps.{claims}
use Rattle.chunk_plain.specs.Words.{WasHad}
use Rattle.chunk_plain.proofs.Resting.{claims_rest}
use Rattle.chunk_words.specs.Knows.{view_of, place_of}
use Rattle.chunk_words.specs.Moves.{Mine, is_clear}
use Rattle.chunk_words.proofs.Rests.{sits_now}
use Rattle.chunk_words.proofs.Asking.{seen_claimed, asked_in_vain, claimed_behind}
use Rattle.chunk_words.proofs.host.HostTable.claim_try.Goals as goal

pub step_claim-found-requires-clause-chunk : goal.step_claim-found-requires-clause-chunk
step_claim-found-requires-clause-chunk c =
    let setup = c.args.self.now.layout in
    subst (λ p. IsChunkOf setup (producer_of setup p) c.args.chunk) (sym c.step_ask-seen.ensures.place) c.requires.chunk

pub returns-then-claimed-clause-seat : goal.returns-then-claimed-clause-seat
returns-then-claimed-clause-seat c =
    let self = c.args.self.now in let seat = c.args.seat.now in let ask = c.step_ask-seen in let view = view_of seat.seat.me.0 in
    sits_now self seat ask.new.seat (claims view c.args.chunk ask.result false) c.requires.seat ask.ensures.seat ask.ensures.place
    (asked_in_vain self.layout c.args.chunk ask.result seat.seat.me ask.new.seat.seat.me ask.ensures.me
    (subst (λ (s : Spot). IsClaimed ask.result s.place) c.spot-spot.ensures.spot (c.claimed.ensures.0 c.if-claimed.true)))
    (claims_rest self.layout seat.place view c.requires.seat.rests.rests c.args.chunk ask.result false c.requires.chunk)

pub returns-then-claimed-2-clause-seat : goal.returns-then-claimed-2-clause-seat
returns-then-claimed-2-clause-seat c =
    let self = c.args.self.now in let seat = c.args.seat.now in let ask = c.step_ask-seen in let claim = c.step_claim-found in let view = view_of seat.seat.me.0 in
    let place = (spot self.layout c.args.chunk).place in let won = is_clear claim.result place in
    sits_now self seat claim.new.seat (claims view c.args.chunk claim.result won) c.requires.seat (claim.ensures.seat ∙ ask.ensures.seat) (claim.ensures.place ∙ ask.ensures.place)
    (claimed_behind self.layout c.args.chunk ask.result claim.result seat.seat.me ask.new.seat.seat.me claim.new.seat.seat.me ask.ensures.me
    (λ bit. absurd (let yes_ : c.claimed.result ≡ true = c.claimed.ensures.1 (subst (λ (s : Spot). IsClaimed ask.result s.place) (sym c.spot-spot.ensures.spot) bit) in cc)) claim.ensures.me)
    (claims_rest self.layout seat.place view c.requires.seat.rests.rests c.args.chunk claim.result won c.requires.chunk)

pub returns-else-claimed-2-clause-seat : goal.returns-else-claimed-2-clause-seat
returns-else-claimed-2-clause-seat c =
    let self = c.args.self.now in let seat = c.args.seat.now in let ask = c.step_ask-seen in let claim = c.step_claim-found in let view = view_of seat.seat.me.0 in
    let place = (spot self.layout c.args.chunk).place in let won = is_clear claim.result place in
    sits_now self seat claim.new.seat (claims view c.args.chunk claim.result won) c.requires.seat (claim.ensures.seat ∙ ask.ensures.seat) (claim.ensures.place ∙ ask.ensures.place)
    (claimed_behind self.layout c.args.chunk ask.result claim.result seat.seat.me ask.new.seat.seat.me claim.new.seat.seat.me ask.ensures.me
    (λ bit. absurd (let yes_ : c.claimed.result ≡ true = c.claimed.ensures.1 (subst (λ (s : Spot). IsClaimed ask.result s.place) (sym c.spot-spot.ensures.spot) bit) in cc)) claim.ensures.me)
    (claims_rest self.layout seat.place view c.requires.seat.rests.rests c.args.chunk claim.result won c.requires.chunk)

pub returns-then-claimed-clause-had : goal.returns-then-claimed-clause-had
returns-then-claimed-clause-had c =
    let self = c.args.self.now in let seat = c.args.seat.now in let ask = c.step_ask-seen in
    let place_is : place_of seat.seat.me.0 ≡ seat.place = ap (λ (m : Mine). place_of m.0) c.requires.seat.rests.idle in
    ∣ subst (λ p. WasHad self.layout p c.args.chunk (view_of ask.new.seat.seat.me.0)) place_is (ask.ensures.me.had
    (seen_claimed ask.result (spot self.layout c.args.chunk).place (subst (λ (s : Spot). IsClaimed ask.result s.place) c.spot-spot.ensures.spot (c.claimed.ensures.0 c.if-claimed.true)))) ∣₁

pub returns-then-claimed-2-clause-had : goal.returns-then-claimed-2-clause-had
returns-then-claimed-2-clause-had c =
    let self = c.args.self.now in let seat = c.args.seat.now in let ask = c.step_ask-seen in let claim = c.step_claim-found in
    let place_is : place_of ask.new.seat.seat.me.0 ≡ seat.place = ap (λ (m : Mine). place_of m.0) ask.ensures.me.new_is ∙ ap (λ (m : Mine). place_of m.0) c.requires.seat.rests.idle in
    ∣ subst (λ p. WasHad self.layout p c.args.chunk (view_of claim.new.seat.seat.me.0)) place_is (claim.ensures.me.had
    (seen_claimed claim.result (spot self.layout c.args.chunk).place (subst (λ (s : Spot). IsClaimed claim.result s.place) c.spot-spot.ensures.spot (c.claimed-2.ensures.0 c.if-claimed-2.true)))) ∣₁
