use Rattle.std.proofs.Common.{◌∙◌, sym, ap}
use Rattle.session_core.specs.Sessions.{SessionValue}
use Rattle.chunk_plain.specs.Laying.{setup_of}
use Rattle.chunk_words.specs.Sits.{known_by_service}
use Rattle.thread_service.proofs.Standing.{made_serves}
use Rattle.thread_service.proofs.service.Service.make.Goals as goal

pub returns : goal.returns
returns c = record {
  made = c.in_ok-core.ensures;
  serves = λ table attends setup unused none.
      made_serves table (setup_of c.args.producers.now c.args.writers.now) c.args.seat c.in_ok-core.core c.in_ok-core.ensures.seat_is attends setup
      (c.in_ok-core.ensures.agrees (known_by_service c.args.seat) unused) (ap (λ (s : SessionValue). s.requests) c.in_ok-core.ensures.session ∙ sym none);
}
