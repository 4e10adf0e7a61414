-- A flush, and its answer to the requests before.
use Rattle.std.proofs.Common.{◌≡◌, ◌∙◌, ℕ, ◌<◌, false, length, refl, sym, ap, subst}
use Rattle.std.specs.Prelude.{slice_get, slice_set, Some}
use Rattle.trace_model.specs.Packets.{packets_of, is_writing}
use Rattle.trace_writer.specs.declared.writer.WriterCore.{WriterCore}
use Rattle.service_core.proofs.AgreeLemmas.{first_stays}
use Rattle.replay_host.specs.Tally.{IsTally}
use Rattle.replay_host.proofs.AnswerLemmas.{host_session, answer_host, answer_place, answer_open, answer_ready, writing_is, core_read, first_session, keeps_answer, done_answered}
use Rattle.replay_host.proofs.RowLemmas.{AreLaws}
use Rattle.replay_host.proofs.requests.Host+W+W+Writer+W+Service.answer.Goals as goal

pub flush-requires-clause-open : goal.flush-requires-clause-open
flush-requires-clause-open g c = answer_open g.W.Words.means c.args.place c.args.self.now c.requires.may.0

pub flush-requires-clause-ready : goal.flush-requires-clause-ready
flush-requires-clause-ready g c = answer_ready g.W.Words.means c.args.place c.args.self.now c.requires.may.0 c.requires.may.1

pub returns : goal.returns
returns g c =
    let means = g.W.Words.means in
    let laws : AreLaws means = record {
      told_view = g.met.W.Words.told_view;
      told_service_view = g.met.W.Words.told_service_view;
      told_writers = g.met.W.Words.told_writers;
      told_owned = g.met.W.Words.told_owned;
    } in
    let old = c.args.self.now in
    let mid = c.flush.new.self in
    let place : ℕ = c.args.place in
    let may = c.requires.may.0 in
    let was = answer_host means place old may in
    let below = answer_place means place old may in
    let asked = c.flush.ensures.asked in
    let after = c.flush.ensures.host in
    let between : (core : WriterCore _) → slice_get old.writers.items place ≡ Some core
    → is_writing (packets_of (means.view old.table core.seat).calls) ≡ false =
    λ core at. writing_is means place old may core at ∙ c.requires.may.1 in
    let first = first_stays (means.setup old.table) old.helper.service mid.helper.service asked.service.keeps.fields in
    let at = core_read means mid place c.index.result.now after (subst (λ s. place < length s.writers) (sym asked.service.setup_is) below)
    c.index.ensures in
    let seated = after.stands.seated place c.index.result.now at in
    record {
      answered = record {
        chunks = c.completed-chunks.result;
        goes = record {
          host = host_session means mid _ after refl refl refl refl c.acknowledge.ensures.keeps
              (c.acknowledge.ensures.agrees _ _ after.stands.served.agrees);
          keeps = keeps_answer means place old mid _ _ _ _ between asked refl refl refl c.acknowledge.ensures.keeps
              c.acknowledge.ensures.after
              c.answer.ensures.made c.answer.ensures.room c.answer.ensures.told first;
          tally = λ notes writers tally. c.answer.ensures.tally notes writers
              (subst (λ f. IsTally notes writers f) (sym asked.books.flushes) tally);
          done = done_answered means laws place c.completed-chunks.result old mid _ c.index.result.now between was below after asked at
              (c.completed-chunks.ensures _ _ _ seated.agrees) refl
              (first_session (means.setup old.table) mid.helper.service c.acknowledge.new.self c.acknowledge.ensures.keeps ∙ first)
              c.acknowledge.ensures.keeps.seat;
        };
        answered = c.answer.ensures.answered ∙ ap (λ f. slice_set f.answered.items place f.made) asked.books.flushes;
      };
    }
