-- A help leaves what it needs, and uses up ids.
use Rattle.std.proofs.Common.{◌∙◌, ◌<◌, ltb-true, sym, subst}
use Rattle.chunk_plain.specs.Setup.{Setup}
use Rattle.service_core.specs.Agreement.{ServiceAgrees, IsOpen}
use Rattle.service_core.proofs.RoomLemmas.{ids_fall}
use Rattle.replay_host.proofs.helper.CollectingServiceHelperOn.help.Goals as goal

pub returns-clause-needs : goal.returns-clause-needs
returns-clause-needs g c =
    let means = g.W.Words.means in
    let was = c.requires.needs in
    let step = c.collect-count.ensures.leaves.step in
    record {
      served = record {
        serves = step.seat_stays;
        agrees = subst (λ (s : Setup). ServiceAgrees s (means.service_view c.collect-count.new.table c.collect-count.new.self.seat) c.collect-count.new.self) (sym step.setup_stays) c.collect-count.ensures.leaves.agrees;
        reads = step.reads_stay was.served.reads;
      };
      opened = subst (λ (s : Setup). IsOpen s c.collect-count.new.self c.args.self.now.producer) (sym step.setup_stays)
          (λ place below of_producer. c.collect-count.ensures.leaves.keeps.closed place below ∙ was.opened place below of_producer);
    }

pub returns-clause-turns : goal.returns-clause-turns
returns-clause-turns g c some =
    let means = g.W.Words.means in
    let old = means.service_view c.args.table.now c.args.self.now.service.seat in
    let new = means.service_view c.collect-count.new.table c.collect-count.new.self.seat in
    let more : 0 < c.collect-count.result = ltb-true 0 c.collect-count.result some in
    ids_fall (means.setup c.args.table.now) old new c.args.self.now.service c.collect-count.new.self c.args.producer c.collect-count.result
    c.requires.needs.served.agrees c.collect-count.ensures.leaves.agrees c.collect-count.ensures.takes c.ids_fit.ensures more
