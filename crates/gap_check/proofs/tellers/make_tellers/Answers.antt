use Rattle.std.proofs.Common.{◌∙◌, ◌+◌, Some, ap, sym, arith, subst, List}
use Rattle.packet_runs.specs.declared.teller.Teller.{Teller}
use Rattle.gap_check.proofs.TakenLemmas.{AreMade, made_more, made_all}
use Rattle.gap_check.proofs.tellers.make_tellers.Goals as goal
use Rattle.std.proofs.lemmas.Option.{slice_get-get_or}

pub loop-packets-preserved : goal.loop-packets-preserved
loop-packets-preserved c =
    let here = slice_get-get_or c.args.emitted.now c.loop-packets.packets-index c.packets-item.result c.loop-packets-test.true ∙ ap Some (sym c.packets-item.is) in
    subst (λ (ts : List Teller). AreMade c.args.emitted.now ts (c.loop-packets.packets-index + 1)) (sym c.in_ok-push.ensures.items)
    (made_more c.args.emitted.now c.loop-packets.tellers.items c.loop-packets.packets-index c.in_ok-teller.teller c.packets-item.result c.loop-packets.invariant here
    c.in_ok-teller.ensures.after c.in_ok-teller.ensures.ready)

pub returns : goal.returns
returns c = made_all c.args.emitted.now c.loop-packets.tellers.items c.loop-packets.packets-index c.loop-packets.invariant (omega arith)
