use Rattle.std.proofs.Common.{◌∙◌, [], ◌∷◌, ◌++◌, ◌+◌, length, sym, ap, subst}
use Rattle.chunk_plain.specs.Views.{Asked, ServiceView, asked_in}
use Rattle.chunk_words.specs.Sits.{setup_in, known_by_service}
use Rattle.chunk_words.proofs.MailSteps.{asked_more}
use Rattle.service_core.specs.Agreement.{ServiceAgrees}
use Rattle.thread_service.specs.Serving.{core_of}
use Rattle.thread_service.proofs.Standing.{agrees_letters, answered_requests}
use Rattle.thread_service.proofs.service.Service.request_flush.Goals as goal

-- the session's own call leaves the service as it agreed, reading no chunk
pub ask-requires-clause-none_read : goal.ask-requires-clause-none_read
ask-requires-clause-none_read c = c.request_flush.ensures.agrees.none_read

pub returns-clause-serves : goal.returns-clause-serves
returns-clause-serves c =
    let core = c.request_flush.new.self in
    let old = known_by_service core.seat in
    let setup = setup_in c.args.table.now in
    let view = c.ask.ensures.view in
    let agrees : ServiceAgrees setup old core = subst (λ t. ServiceAgrees (setup_in t.table.now) old core) c.request_flush.ensures.table c.request_flush.ensures.agrees in
    let before = core_of c.args.self.now in
    let asked = answered_requests _ c.in_ok-flush.flush _ before.session core.session (sym c.in_ok-flush.was ∙ c.request_flush.ensures.answer) c.request_flush.ensures.after
    ∙ ap (λ n. n + 1) (c.requires.serves.asked ∙ sym (ap (λ s. asked_in (known_by_service s).letters) c.request_flush.ensures.keeps.seat)) in
    record {
      attends = c.ask.ensures.seat;
      agrees = subst (λ (v : ServiceView). ServiceAgrees setup v (record core { seat = c.ask.new.seat })) (sym view)
          (agrees_letters old (old.letters ++ Asked (length old.events) ∷ []) setup core c.ask.new.seat agrees);
      asked = asked ∙ sym (asked_more old.letters (length old.events)) ∙ sym (ap (λ (v : ServiceView). asked_in v.letters) view);
    }
