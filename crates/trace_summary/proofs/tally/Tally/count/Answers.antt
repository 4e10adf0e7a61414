use Rattle.std.proofs.Common.{◌∙◌, length, ap}
use Rattle.trace_summary.specs.Added.{with_packet}
use Rattle.trace_summary.specs.declared.summary.Totals.{Totals}
use Rattle.trace_summary.proofs.CountLemmas.{count_at_hand}
use Rattle.trace_summary.proofs.tally.Tally.count.Goals as goal

pub returns-clause-each : goal.returns-clause-each
returns-clause-each c =
    let packet = c.args.packet.now in
    let bytes = length packet.content.now in
    let turned = c.in_ok-turn_to.ensures in
    count_at_hand c.args.self.now (record c.turn_to.new.self { totals = c.with_packet-self.result }) packet.sequence packet.marked bytes turned.at_hand
    (c.with_packet-self.ensures ∙ ap (λ (totals : Totals). with_packet totals packet.marked bytes) turned.totals) turned.others
