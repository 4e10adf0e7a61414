use Rattle.std.proofs.Common.{◌∙◌, refl, ap}
use Rattle.session_core.specs.Sessions.{SessionValue}
use Rattle.thread_service.proofs.Standing.{kept_serves, left_requests}
use Rattle.thread_service.proofs.service.Service.acknowledge.Goals as goal

pub returns-clause-serves : goal.returns-clause-serves
returns-clause-serves c table serves = kept_serves table c.args.self.now.core c.acknowledge.new.self c.acknowledge.ensures.keeps
    (ap (λ (s : SessionValue). s.requests) c.acknowledge.ensures.after ∙ left_requests _ c.args.self.now.core.session _ refl) serves
