use Rattle.std.proofs.Common.{List, length}
use Rattle.scenario_text.specs.declared.scenario.NumberedLine.{NumberedLine}
use Rattle.scenario_check.specs.Emissions.{AreAsked}
use Rattle.scenario_check.specs.Progress.{HaveTaken}
use Rattle.scenario_check.proofs.EmissionLemmas.{collected}
use Rattle.scenario_check.proofs.collect.scenario_packets.Goals as goal
use Rattle.field_tree.proofs.EndLemmas.{if_ok_more}

pub returns-clause-packets : goal.returns-clause-packets
returns-clause-packets c =
    let emitters = c.in_ok-emitters.emitters.items in
    if_ok_more c.finish_all.result (λ packets. (lines : List NumberedLine) → HaveTaken lines emitters → AreAsked lines (length emitters) packets.items) _
    (λ packets asks. (collected c.args.scenario.now c.requires emitters packets.items c.in_ok-emitters.ensures.many c.in_ok-emitters.ensures.taken asks).packets) c.finish_all.ensures

pub returns-clause-writers : goal.returns-clause-writers
returns-clause-writers c =
    let emitters = c.in_ok-emitters.emitters.items in
    if_ok_more c.finish_all.result (λ packets. (lines : List NumberedLine) → HaveTaken lines emitters → AreAsked lines (length emitters) packets.items) _
    (λ packets asks. (collected c.args.scenario.now c.requires emitters packets.items c.in_ok-emitters.ensures.many c.in_ok-emitters.ensures.taken asks).writers) c.finish_all.ensures

pub returns-clause-few : goal.returns-clause-few
returns-clause-few c =
    let emitters = c.in_ok-emitters.emitters.items in
    if_ok_more c.finish_all.result (λ packets. (lines : List NumberedLine) → HaveTaken lines emitters → AreAsked lines (length emitters) packets.items) _
    (λ packets asks. (collected c.args.scenario.now c.requires emitters packets.items c.in_ok-emitters.ensures.many c.in_ok-emitters.ensures.taken asks).few) c.finish_all.ensures

pub returns-clause-clean : goal.returns-clause-clean
returns-clause-clean c =
    let emitters = c.in_ok-emitters.emitters.items in
    if_ok_more c.finish_all.result (λ packets. (lines : List NumberedLine) → HaveTaken lines emitters → AreAsked lines (length emitters) packets.items) _
    (λ packets asks. (collected c.args.scenario.now c.requires emitters packets.items c.in_ok-emitters.ensures.many c.in_ok-emitters.ensures.taken asks).clean) c.finish_all.ensures
