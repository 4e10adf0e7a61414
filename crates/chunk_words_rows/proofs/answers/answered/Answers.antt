use Rattle.std.proofs.Common.{◌∙◌, ap}
use Rattle.chunk_plain.specs.Views.{asked_in, ServiceView}
use Rattle.chunk_words.specs.Knows.{service_of}
use Rattle.chunk_words.proofs.MailSteps.{asked_heard}
use Rattle.chunk_words_rows.proofs.answers.answered.Goals as goal

pub returns-clause-asked : goal.returns-clause-asked
returns-clause-asked c =
    ap (λ (v : ServiceView). asked_in v.letters) c.answered.ensures.view
    ∙ asked_heard (service_of c.args.service.now.seat.me.0).letters _ _ _

pub returns-clause-none_read : goal.returns-clause-none_read
returns-clause-none_read c = ap (λ (v : ServiceView). v.reading) c.answered.ensures.view ∙ c.requires.none_read
