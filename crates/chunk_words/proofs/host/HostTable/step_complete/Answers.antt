use Rattle.std.proofs.Common.{subst, bit_or}
use Rattle.page_geometry.specs.PageBits.{HasState, SetsState, KeepsOthers}
use Rattle.page_geometry.specs.declared.chunk_state.ChunkState.TheVariants.{BeingWritten, Complete}
use Rattle.chunk_plain.specs.declared.setup.Spot.{Spot}
use Rattle.chunk_words.specs.Knows.{view_of}
use Rattle.chunk_words.specs.Moves.{body_in}
use Rattle.chunk_words.proofs.WriterEnds.{completes_by}
use Rattle.chunk_words.proofs.host.HostTable.step_complete.Goals as goal

pub make_or-requires-clause-allowed : goal.make_or-requires-clause-allowed
make_or-requires-clause-allowed c =
    let self = c.args.self.now in let seat = c.args.seat.now in let mask = c.complete_mask.result in
    rw (self.key, c.page_index.ensures.here, c.spot-spot.ensures.spot, c.requires.out)
    (completes_by self.layout _ seat.seat.id seat.place c.args.chunk c.args.position mask (body_in seat.seat.me.1) (view_of seat.seat.me.0) c.requires.body c.requires.held c.requires.whole
    (subst (λ (s : Spot). (word : _) → HasState word s.place BeingWritten → SetsState word (bit_or word mask) s.place Complete) c.spot-spot.ensures.spot c.complete_mask.ensures.step)
    (subst (λ (s : Spot). (word : _) → KeepsOthers word (bit_or word mask) s.place) c.spot-spot.ensures.spot c.complete_mask.ensures.others))
