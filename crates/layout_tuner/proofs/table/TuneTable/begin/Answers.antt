use Rattle.std.proofs.Common.{◌∙◌, ap, arith}
use Rattle.chunk_plain.specs.Owned.{times}
use Rattle.chunk_plain.proofs.Lists.{times-here}
use Rattle.layout_tuner.specs.PageWords.{spot}
use Rattle.layout_tuner.specs.Knows.{UserView}
use Rattle.layout_tuner.specs.Sits.{known_by}
use Rattle.layout_tuner.proofs.table.TuneTable.begin.Goals as goal

pub returns-clause-held : goal.returns-clause-held
returns-clause-held c =
    let at = spot c.args.claimed.page c.args.claimed.place in
    let one = ap (λ (v : UserView). times at v.held) c.step_begin.ensures.view ∙ times-here at (known_by c.args.seat.now).held in
    record { page_in = c.requires.claimed.page_in; place_in = c.requires.claimed.place_in; held = omega (arith, one) }
