use Rattle.std.proofs.Common.{◌-◌, ◌∙◌, [], ◌∷◌, ◌++◌, sym, ap, subst, arith}
use Rattle.chunk_plain.specs.Views.{Heard, ServiceView, asked_in}
use Rattle.chunk_words.proofs.MailSteps.{asked_heard}
use Rattle.chunk_words.specs.Moves.{IsLastAnswer}
use Rattle.chunk_words.specs.Sits.{setup_in}
use Rattle.service_core.specs.Agreement.{ServiceAgrees}
use Rattle.thread_service.specs.Serving.{view_in}
use Rattle.thread_service.proofs.Standing.{agrees_letters}
use Rattle.thread_service.proofs.service.Service.answer_of.Goals as goal

pub returns-clause-serves : goal.returns-clause-serves
returns-clause-serves c =
    let core = c.args.self.now.core in
    let old = view_in c.args.self.now in
    let setup = setup_in c.args.table.now in
    let answer = Heard (c.args.writer - 1) c.answered.result.0 c.answered.result.1 in
    let view = c.answered.ensures.view in
    record {
      attends = c.answered.ensures.seat;
      agrees = subst (λ (v : ServiceView). ServiceAgrees setup v (record core { seat = c.answered.new.seat })) (sym view)
          (agrees_letters old (old.letters ++ answer ∷ []) setup core c.answered.new.seat c.requires.serves.agrees);
      asked = c.requires.serves.asked ∙ sym (ap (λ (v : ServiceView). asked_in v.letters) view ∙ asked_heard old.letters _ _ _);
    }

pub returns-clause-answer : goal.returns-clause-answer
returns-clause-answer c =
    let answer = c.answered.ensures.answer in
    let asked = answer.asked in
    let requests = c.requires.serves.asked in
    record {
      view = c.answered.ensures.view;
      asked = omega (arith, asked, requests);
      told = answer.told;
      none = answer.none;
      last = subst (λ (v : ServiceView). IsLastAnswer v (c.args.writer - 1) c.answered.result.0 c.answered.result.1) (sym c.answered.ensures.view) answer.last;
      heard = answer.heard;
    }
