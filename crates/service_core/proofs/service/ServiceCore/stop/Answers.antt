use Rattle.std.proofs.Common.{rules}
use Rattle.service_core.specs.Agreement.{KeepsTaking}
use Rattle.service_core.proofs.AgreeLemmas.{agrees_kept}
use Rattle.service_core.proofs.service.ServiceCore.stop.Goals as goal

pub returns-clause-agrees : goal.returns-clause-agrees
returns-clause-agrees g c setup view agrees =
    let done = record c.args.self.now { session = c.stop.new.self } in
    let keeps : KeepsTaking c.args.self.now done = search rules in
    agrees_kept setup view c.args.self.now done keeps agrees
