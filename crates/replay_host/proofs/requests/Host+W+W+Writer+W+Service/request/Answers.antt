-- A request is made of the session, and counted.
use Rattle.std.proofs.Common.{◌∙◌, refl, ap, subst}
use Rattle.session_core.specs.Sessions.{SessionValue}
use Rattle.service_core.specs.Agreement.{ServiceAgrees}
use Rattle.replay_host.proofs.AnswerLemmas.{host_session, first_session}
use Rattle.replay_host.proofs.RequestLemmas.{state_requested, requests_more, request_done}
use Rattle.replay_host.proofs.RowLemmas.{AreLaws}
use Rattle.replay_host.proofs.requests.Host+W+W+Writer+W+Service.request.Goals as goal

pub returns : goal.returns
returns g c =
    let means = g.W.Words.means in
    let laws : AreLaws means = record {
      told_view = g.met.W.Words.told_view;
      told_service_view = g.met.W.Words.told_service_view;
      told_writers = g.met.W.Words.told_writers;
      told_owned = g.met.W.Words.told_owned;
    } in
    let old = c.args.self.now in
    let keeps = c.request_flush.ensures.keeps in
    let table = c.request_flush.ensures.table in
    let agrees = subst (λ s. ServiceAgrees (means.setup old.table) (means.service_view old.table s) c.request_flush.new.self) keeps.seat
    (subst (λ t. ServiceAgrees (means.setup t) (means.service_view t c.request_flush.new.self.seat) c.request_flush.new.self) table
    c.request_flush.ensures.agrees) in
    record {
      requested = record {
        host = host_session means old _ c.requires.host table refl refl refl keeps agrees;
        table = table;
        writers = refl;
        opened = refl;
        first = first_session (means.setup old.table) old.helper.service c.request_flush.new.self keeps;
        tally = c.request.ensures.tally;
        made = c.request.ensures.made;
        room = c.request.ensures.room;
        told = c.request.ensures.told;
        answered = c.request.ensures.answered;
        state = ap (λ (s : SessionValue). s.state) c.request_flush.ensures.after ∙ state_requested _ old.helper.service.session;
        requests = ap (λ (s : SessionValue). s.requests) c.request_flush.ensures.after ∙ requests_more old.helper.service.session
            c.requires.started;
        done = request_done means laws old _ table keeps;
      };
    }
