use Rattle.std.proofs.Common.{subst, bit_or}
use Rattle.page_geometry.specs.PageBits.{HasState, SetsState, KeepsOthers}
use Rattle.page_geometry.specs.declared.chunk_state.ChunkState.TheVariants.{Free, BeingWritten}
use Rattle.chunk_plain.specs.declared.setup.Spot.{Spot}
use Rattle.chunk_words.specs.Knows.{view_of}
use Rattle.chunk_words.proofs.WriterMoves.{begins_allowed}
use Rattle.chunk_words.proofs.host.HostTable.step_begin.Goals as goal

pub make_or-requires-clause-allowed : goal.make_or-requires-clause-allowed
make_or-requires-clause-allowed c =
    let self = c.args.self.now in let seat = c.args.seat.now in let mask = c.begin_mask.result in
    rw (self.key, c.page_index.ensures.here, c.spot-spot.ensures.spot, c.requires.out)
    (begins_allowed self.layout _ seat.seat.id seat.place c.args.chunk mask (view_of seat.seat.me.0) c.requires.chunk c.requires.stamped
    (subst (λ (s : Spot). (word : _) → HasState word s.place Free → SetsState word (bit_or word mask) s.place BeingWritten) c.spot-spot.ensures.spot c.begin_mask.ensures.step)
    (subst (λ (s : Spot). (word : _) → KeepsOthers word (bit_or word mask) s.place) c.spot-spot.ensures.spot c.begin_mask.ensures.others))
