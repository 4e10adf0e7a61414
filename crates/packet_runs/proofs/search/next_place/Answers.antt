use Rattle.std.proofs.Common.{arith}
use Rattle.std.proofs.lemmas.Bool.{false≢true}
use Rattle.packet_runs.proofs.SearchLemmas.{try_border, try_none}
use Rattle.packet_runs.proofs.search.next_place.Goals as goal

pub places-preserved : goal.places-preserved
places-preserved c =
    let short = c.places.invariant.short in
    try_border c.args.emitted.now c.args.place c.args.len c.args.packet.now c.places.at c.places.matched _ c.places.invariant
    (c.requires.known c.places.matched (omega arith) (omega arith)) (λ e. false≢true (c.if-goes_on.ensures.1 e))

pub returns-clause-none : goal.returns-clause-none
returns-clause-none c = try_none c.args.emitted.now c.args.place c.args.len c.args.packet.now c.places.at c.places.matched c.places.invariant (omega arith)
