use Rattle.std.proofs.Common.{rules, ◌≡◌, ◌∙◌, ◌+◌, ℕ, length, sym, ap, subst, arith}
use Rattle.chunk_plain.specs.Setup.{Setup}
use Rattle.chunk_plain.specs.Views.{ServiceView, asked_in}
use Rattle.chunk_words.proofs.MailSteps.{asked_more}
use Rattle.chunk_words.specs.Sits.{setup_in, known_by_pass}
use Rattle.scenario_text.specs.declared.scenario.LineKind.TheVariants as line
use Rattle.session_core.specs.States.{Flush, answered_as, refusal_in}
use Rattle.session_core.specs.Sessions.{SessionValue, left_as, requested}
use Rattle.session_core.specs.declared.answers.SessionState.{SessionState}
use Rattle.service_core.specs.Agreement.{first_of}
use Rattle.replay_model.specs.Flushes.{requests_in}
use Rattle.thread_service.specs.Requesting.{PassRequests}
use Rattle.thread_service.specs.Serving.{core_of, view_in}
use Rattle.thread_host.specs.Jobs.{TellsLine}
use Rattle.thread_host.specs.Tally.{IsTally, KeepsAnswers}
use Rattle.thread_host.specs.Turns.{IsNext}
use Rattle.thread_host.proofs.Growing.{request_grows}
use Rattle.thread_host.proofs.KeptAnswers.{answers_asked}
use Rattle.thread_host.proofs.ReadAnswers.{requested_view}
use Rattle.thread_host.proofs.TallyLemmas.{tally_asked}
use Rattle.thread_host.proofs.Telling.{request_tells}
use Rattle.thread_host.proofs.Turning.{turns_line}
use Rattle.thread_host.proofs.locked.Locked.request_passing.Goals as goal

pub request_passing-requires-clause-fewer : goal.request_passing-requires-clause-fewer
request_passing-requires-clause-fewer g c = let room = c.requires.room.room in let few = c.requires.room.few in omega (arith, room, few)

-- a started session refuses no request
pub unreachable-requires : goal.unreachable-requires
unreachable-requires g c =
    let made = asked_in (known_by_pass c.args.pass.now).letters + 1 in
    absurd (let wrong = sym c.in-Err.is ∙ c.request_passing.ensures.request.answer
    ∙ ap (λ (state : SessionState). answered_as (refusal_in Flush state) made) c.args.self.now.started in cc)

pub returns : goal.returns
returns g c =
    let old = c.args.self.now.service in let new = c.request_passing.new.self in
    let passed = known_by_pass c.args.pass.now in let pass = known_by_pass c.request_passing.new.pass in
    let calls = c.request_passing.ensures in
    let setup_is = c.requires.table.setup_is in
    let asks = requested_view (core_of old).session.state (view_in old) (view_in new) c.args.self.now.started calls.passes.view in
    let knows : pass ≡ view_in new =
    subst (λ (state : SessionState). PassRequests (refusal_in Flush state) passed pass (view_in new)) c.args.self.now.started calls.passes.knows in
    let asked : asked_in pass.letters ≡ asked_in passed.letters + 1 =
    ap (λ (v : ServiceView). asked_in v.letters) (knows ∙ asks) ∙ asked_more (view_in old).letters (length (view_in old).events)
    ∙ ap (λ n. n + 1) calls.passes.goes_on.asked in
    record {
      pass = record { passes = calls.serves.passes; known = calls.serves.known };
      requested = record {
        requests = asks;
        knows = knows;
        told = λ taken. subst (λ (setup : Setup). TellsLine setup g.N.HostName.first line.Request passed pass taken taken) setup_is
            (request_tells (setup_in c.args.table.now) (core_of old) g.N.HostName.first passed pass taken
            (ap (λ (setup : Setup). first_of setup (core_of old)) setup_is ∙ c.args.self.now.began) calls.passes.passes asked);
        desk = calls.desk;
      };
      turns = let is = c.turns.view_is in let same = c.audit.ensures.amount in let more = c.add.ensures.amount in omega (arith, is, same, more);
    }

pub invariant_of-self : goal.invariant_of-self
invariant_of-self g c =
    let old = c.args.self.now.service in let new = c.request_passing.new.self in
    let calls = c.request_passing.ensures in
    let asks = requested_view (core_of old).session.state (view_in old) (view_in new) c.args.self.now.started calls.passes.view in
    let session : (core_of new).session ≡ requested (core_of old).session =
    calls.request.after ∙ ap (λ (state : SessionState). left_as (refusal_in Flush state) (core_of old).session (requested (core_of old).session)) c.args.self.now.started in
    record {
      serves = search rules;
      «open» = search rules;
      began = search rules;
      own = ap (λ (v : ServiceView). v.commits) asks ∙ c.args.self.now.own;
      grows = request_grows g.N.HostName.setup g.N.HostName.lines g.N.HostName.start (view_in old) (view_in new) asks c.args.self.now.grows;
      played =
          let same = c.audit.ensures.whole (c.turns.invariant ∙ c.requires.turn.whole.0) in
          let total = c.audit.ensures.total in let more = c.add.ensures.total in
          turns_line g.N.HostName.setup g.N.HostName.first g.N.HostName.lines c.args.self.now.book.total c.add.new.self.total line.Request g.N.HostName.start
          (view_in old) (view_in new)
          (subst (λ (n : ℕ). IsNext g.N.HostName.lines n line.Request) (sym c.turns.view_is ∙ same) c.requires.turn.next) (omega (arith, total, more)) asks
          c.args.self.now.played;
      started = ap (λ (s : SessionValue). s.state) session ∙ c.args.self.now.started;
      few =
          let more = ap (λ (v : ServiceView). asked_in v.letters) asks ∙ asked_more (view_in old).letters (length (view_in old).events) in
          let went = calls.passes.goes_on.asked in let room = c.requires.room.room in
          omega (arith, more, went, room);
      tallied = subst (λ (v : ServiceView). IsTally (requests_in g.N.HostName.lines) (length g.N.HostName.setup.writers) v.letters c.args.self.now.tally) (sym asks)
          (tally_asked (requests_in g.N.HostName.lines) (length g.N.HostName.setup.writers) (length (view_in old).events) (view_in old).letters c.args.self.now.tally
          c.args.self.now.tallied);
      kept = subst (λ (v : ServiceView). KeepsAnswers (length g.N.HostName.setup.writers) v.letters (core_of new).session) (sym asks)
          (answers_asked (length g.N.HostName.setup.writers) (length (view_in old).events) (view_in old).letters (core_of old).session (core_of new).session session
          c.args.self.now.kept);
    }
