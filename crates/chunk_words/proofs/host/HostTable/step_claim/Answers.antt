use Rattle.std.proofs.Common.{subst, bit_or}
use Rattle.page_geometry.specs.PageBits.{Claims as ClaimsBit, KeepsOthers}
use Rattle.chunk_plain.specs.declared.setup.Spot.{Spot}
use Rattle.chunk_words.specs.Knows.{view_of}
use Rattle.chunk_words.proofs.WriterMoves.{claims_allowed}
use Rattle.chunk_words.proofs.host.HostTable.step_claim.Goals as goal

pub make_or-requires-clause-allowed : goal.make_or-requires-clause-allowed
make_or-requires-clause-allowed c =
    let self = c.args.self.now in let seat = c.args.seat.now in let mask = c.claim_mask-mask.result in
    rw (self.key, c.page_index-at.ensures.here, c.spot-spot.ensures.spot, c.requires.seat.idle)
    (claims_allowed self.layout _ seat.seat.id seat.place c.args.chunk mask (view_of seat.seat.me.0) c.requires.chunk
    (subst (λ (s : Spot). (word : _) → ClaimsBit word (bit_or word mask) s.place s.layout) c.spot-spot.ensures.spot c.claim_mask-mask.ensures.step)
    (subst (λ (s : Spot). (word : _) → KeepsOthers word (bit_or word mask) s.place) c.spot-spot.ensures.spot c.claim_mask-mask.ensures.others))
