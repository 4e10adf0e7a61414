use Rattle.std.proofs.Common.{◌+◌, arith}
use Rattle.page_geometry.proofs.MaskLemmas.{all_but}
use Rattle.layout_tuner.specs.Knows.{view_of}
use Rattle.layout_tuner.proofs.UserTurns.{gives_allowed}
use Rattle.layout_tuner.proofs.table.TuneTable.step_give.Goals as goal

pub make_and-requires-clause-allowed : goal.make_and-requires-clause-allowed
make_and-requires-clause-allowed c =
    let self = c.args.self.now in let seat = c.args.seat.now in let has = c.requires.claimed in
    rw (self.key, c.page_index.ensures.here, c.requires.seat.idle)
    (gives_allowed self.shape _ seat.seat.id seat.number c.args.page c.args.place _ (view_of seat.seat.me.0) has.page_in has.place_in has.claimed
    (all_but c.claim_bit-mask.result (32 + c.args.place) (let place_in = has.place_in in omega (arith, place_in)) (c.claim_bit-mask.type_inv) c.claim_bit-mask.ensures))
