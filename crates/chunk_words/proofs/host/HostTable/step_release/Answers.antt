use Rattle.std.proofs.Common.{◌<◌, ◌^◌, subst, bit_and}
use Rattle.page_geometry.specs.PageBits.{HasState, Releases, KeepsOthers}
use Rattle.page_geometry.specs.declared.chunk_state.ChunkState.TheVariants.{BeingRead}
use Rattle.chunk_plain.specs.declared.setup.Spot.{Spot}
use Rattle.chunk_words.specs.Knows.{made_of, desk_of, watch_of, service_of}
use Rattle.chunk_words.specs.Moves.{body_in}
use Rattle.chunk_words.proofs.ServiceEnds.{releases_by}
use Rattle.chunk_words.proofs.host.HostTable.step_release.Goals as goal

pub make_and-requires-clause-allowed : goal.make_and-requires-clause-allowed
make_and-requires-clause-allowed c =
    let self = c.args.self.now in let seat = c.args.seat.now.seat in let k = seat.me.0 in let mask = c.release_mask.result in
    rw (self.key, c.page_index.ensures.here, c.spot-spot.ensures.spot, c.requires.out)
    (releases_by self.layout _ seat.id (made_of k) (desk_of k) c.args.chunk mask (body_in seat.me.1) (watch_of k) (service_of k) c.requires.body c.requires.reading c.requires.arrived c.requires.size
    (subst (λ (s : Spot). (found : _) → found < 2 ^ 64 → HasState found s.place BeingRead → Releases found (bit_and found mask) s.place) c.spot-spot.ensures.spot c.release_mask.ensures.step)
    (subst (λ (s : Spot). (found : _) → KeepsOthers found (bit_and found mask) s.place) c.spot-spot.ensures.spot c.release_mask.ensures.others))
