-- The service is there, and comes back as what the lock's type says of it.
use Rattle.std.proofs.Common.{rules, ◌≡◌, ◌∙◌, Option, Some, List, [], ◌∷◌, length, refl, sym, ap, subst, arith}
use Rattle.std.specs.Option.{IsSomeAnd}
use Rattle.trace_model.specs.Buffers.{Buffer}
use Rattle.trace_model.specs.Calls.{Flushed}
use Rattle.replay_model.specs.Flushes.{requests_in}
use Rattle.replay_model.specs.Played.{buffers_of}
use Rattle.chunk_words.specs.Sits.{setup_in}
use Rattle.scenario_text.specs.declared.scenario.NumberedLine.{NumberedLine}
use Rattle.scenario_text.specs.Scenario.{parts_of}
use Rattle.thread_writer.specs.declared.writer.TraceWriter.{TraceWriter}
use Rattle.thread_service.specs.declared.service.Service.{Service}
use Rattle.thread_service.specs.Serving.{view_in}
use Rattle.thread_host.specs.Tally.{IsTally}
use Rattle.thread_host.specs.declared.tally.Tally.{Tally}
use Rattle.thread_host.specs.Hosts.{AreReadyFrom, IsServed, HavePlayed, HavePlayedFrom}
use Rattle.thread_host.specs.Terms.{PlaysJob, ServiceRuns}
use Rattle.thread_host.proofs.Growing.{grows_none}
use Rattle.thread_host.proofs.Hosting.{all_played, given_back, held_of, never_none, ready_from, serves_named}
use Rattle.thread_host.proofs.Ordered.{grown_ordered}
use Rattle.thread_host.proofs.Parts.{grown_scraped}
use Rattle.thread_host.proofs.host.Host.run_jobs.Goals as goal

pub unreachable-requires : goal.unreachable-requires
unreachable-requires g c =
    never_none (IsServed (parts_of c.args.scenario.now) c.args.self.now.table) c.args.self.now.service c.requires.host.served
    (sym c.take.ensures.value ∙ c.in_default.is)

pub unreachable-requires-in_default-take : goal.unreachable-requires-in_default-take
unreachable-requires-in_default-take g c =
    never_none (λ (tally : Tally). IsSomeAnd c.args.self.now.service (λ (service : Service).
    IsTally (requests_in c.args.scenario.now.lines) (length (setup_in c.args.self.now.table).writers) (view_in service).letters tally))
    c.args.self.now.tally c.requires.host.tallied (sym c.take-2.ensures.value ∙ c.in_default-take.is)

pub run_named-service-requires-clause-service : goal.run_named-service-requires-clause-service
run_named-service-requires-clause-service g c κs within =
    let table = c.args.self.now.table in let lines = c.args.scenario.now.lines in let service = c.in-Some.service in
    let there : c.args.self.now.service ≡ Some service = sym c.take.ensures.value ∙ c.in-Some.is in
    let served = held_of (IsServed (parts_of c.args.scenario.now) table) c.args.self.now.service service c.requires.host.served there in
    record {
      kept_is = record {
        serves = serves_named table service served.serves;
        opened = served.opened;
        began = refl;
        own = served.own;
        grows = grows_none (setup_in table) lines (view_in service);
        started = served.started;
        few = served.few;
        tallied = held_of (λ (service : Service). IsTally (requests_in lines) (length (setup_in table).writers) (view_in service).letters c.in-Some-take.tally)
            c.args.self.now.service service
            (held_of (λ (tally : Tally). IsSomeAnd c.args.self.now.service (λ (service : Service).
            IsTally (requests_in lines) (length (setup_in table).writers) (view_in service).letters tally))
            c.args.self.now.tally c.in-Some-take.tally c.requires.host.tallied (sym c.take-2.ensures.value ∙ c.in-Some-take.is)) there;
        kept = served.kept;
      };
      start_is = refl;
    }

pub run_named-service-requires-clause-plays : goal.run_named-service-requires-clause-plays
run_named-service-requires-clause-plays g c κs within = (
  record {
    whole = (refl, omega arith);
    table_is = record { identity = refl; setup_is = refl };
    lines_are = refl;
    few = c.requires.host.few_requests;
    pass_is = record { passes = c.requires.host.pass; known = c.requires.host.known };
    none_asked = c.requires.unasked;
  },
  c.requires.may,
)

pub run_named-service-requires-clause-ready : goal.run_named-service-requires-clause-ready
run_named-service-requires-clause-ready g c κs within =
    let lines = c.args.scenario.now.lines in
    let table = c.args.self.now.table in
    record {
      named_are = record {
        table_is = record { identity = refl; setup_is = refl };
        specs_are = search rules;
        lines_are = c.by_writers-own.ensures;
      };
      ready = subst (λ (ls : List NumberedLine). AreReadyFrom ls table 0 c.as_mut_slice.result.now) (sym c.by_writers-own.ensures)
          (subst (AreReadyFrom lines table 0) (sym c.as_mut_slice.ensures.value) (ready_from lines table c.args.writers.now.items c.requires.writers));
    }

pub returns-clause-host : goal.returns-clause-host
returns-clause-host g c =
    let table = c.args.self.now.table in
    let setup = setup_in table in let lines = c.args.scenario.now.lines in
    let host = c.requires.host in
    let before = c.in-Some.service in
    let after = c.run_named-service.result.0 in
    let back = c.run_named-service.ensures.service.kept_is in
    let pass = c.run_named-service.ensures.job.pass_is in
    let served = held_of (IsServed (parts_of c.args.scenario.now) table) c.args.self.now.service before host.served (sym c.take.ensures.value ∙ c.in-Some.is) in
    record {
      host = record {
        laid = host.laid;
        specs = host.specs;
        producers = host.producers;
        served = record {
          serves = back.serves table (record { identity = refl; setup_is = refl });
          opened = back.opened;
          began = back.began ∙ served.began;
          own = back.own;
          scraped = grown_scraped setup lines (view_in before) (view_in after) back.grows served.scraped;
          started = back.started;
          few = back.few;
          in_order = grown_ordered setup lines (view_in before) (view_in after) back.grows served.in_order;
          kept = back.kept;
        };
        pass = pass.passes;
        known = pass.known;
        tallied = back.tallied;
        few_requests = host.few_requests;
        no_seats = host.no_seats;
        room = host.room;
        few_buffers = host.few_buffers;
        buffers = host.buffers;
        sequences = host.sequences;
        flushes = host.flushes;
        raws = host.raws;
      };
      table = refl;
    }

-- the service was there, and its buffers were the scenario's
pub returns-clause-service : goal.returns-clause-service
returns-clause-service g c =
    let table = c.args.self.now.table in let setup = setup_in table in
    let before = c.in-Some.service in let after = Some c.run_named-service.result.0 in
    let back = c.run_named-service.ensures.service in
    let there : c.args.self.now.service ≡ Some before = sym c.take.ensures.value ∙ c.in-Some.is in
    let served = held_of (IsServed (parts_of c.args.scenario.now) table) c.args.self.now.service before c.requires.host.served there in
    subst (λ (o : Option Service). ServiceRuns setup (buffers_of (parts_of c.args.scenario.now) setup) c.args.scenario.now.lines o after c.run_named-service.result.2) (sym there)
    (subst (λ (first : List Buffer). ServiceRuns setup first c.args.scenario.now.lines (Some before) after c.run_named-service.result.2) served.began
    (record { grows = back.kept_is.grows; played = back.played }))

pub returns-clause-job : goal.returns-clause-job
returns-clause-job g c =
    let table = c.args.self.now.table in
    let served = held_of (IsServed (parts_of c.args.scenario.now) table) c.args.self.now.service c.in-Some.service c.requires.host.served
    (sym c.take.ensures.value ∙ c.in-Some.is) in
    subst (λ (first : List Buffer). PlaysJob (setup_in table) first c.args.scenario.now.lines table
    (record { pass = c.args.self.now.pass; taken = g.T.Sink.taken c.args.out.now; faults = g.T.Sink.faults c.args.out.now })
    (record { pass = c.run_named-service.new.pass; taken = g.T.Sink.taken c.run_named-service.new.out; faults = g.T.Sink.faults c.run_named-service.new.out })
    (g.T.Sink.may_write c.run_named-service.new.out) c.run_named-service.result.2) served.began c.run_named-service.ensures.job

pub returns-clause-played : goal.returns-clause-played
returns-clause-played g c =
    let table = c.args.self.now.table in
    let lent : List TraceWriter = c.as_mut_slice.result.now in
    let new : List TraceWriter = c.run_named-service.new.writers in
    let whole : length lent ≡ length c.args.writers.now.items = ap (λ (ws : List TraceWriter). length ws) c.as_mut_slice.ensures.value in
    let played = c.run_named-service.ensures.played in
    subst (HavePlayed c.args.scenario.now.lines (Flushed ∷ []) table) (sym (given_back new c.args.writers.now.items c.args.writers.now.len (played.many ∙ c.as_mut_slice.ensures.len)))
    (all_played c.args.scenario.now.lines table lent new (whole ∙ c.requires.writers.many)
    (subst (λ (lines : List NumberedLine). HavePlayedFrom lines table 0 lent new) c.by_writers-own.ensures played))
