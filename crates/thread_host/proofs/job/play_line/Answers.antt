use Rattle.std.proofs.Common.{◌∙◌, ◌+◌, refl, sym, ap, subst}
use Rattle.std.specs.Prelude.{if◌then◌else◌}
use Rattle.chunk_words.specs.Sits.{known_by_pass}
use Rattle.scenario_text.specs.declared.scenario.LineKind.{LineKind}
use Rattle.run_model.specs.Lines.{is_service_line}
use Rattle.thread_host.specs.Jobs.{TellsLine}
use Rattle.thread_host.specs.Turns.{IsNext}
use Rattle.thread_host.proofs.Telling.{collect_tells, scrape_tells, unread_tells}
use Rattle.thread_host.proofs.Turning.{none_own}
use Rattle.thread_host.proofs.job.play_line.Goals as goal

pub returns-in-Collect-clause-told : goal.returns-in-Collect-clause-told
returns-in-Collect-clause-told g c =
    collect_tells g.N.HostName.setup g.N.HostName.first c.args.line.now c.in-Collect.producer (known_by_pass c.args.pass.now) (g.O.Sink.taken c.args.out.now)
    c.in-Collect.is

pub returns-in-Scrape-clause-told : goal.returns-in-Scrape-clause-told
returns-in-Scrape-clause-told g c =
    scrape_tells g.N.HostName.setup g.N.HostName.first c.args.line.now c.in-Scrape.producer (known_by_pass c.args.pass.now) (g.O.Sink.taken c.args.out.now)
    c.in-Scrape.is

pub returns-in-Request-clause-told : goal.returns-in-Request-clause-told
returns-in-Request-clause-told g c =
    subst (λ (kind : LineKind). TellsLine g.N.HostName.setup g.N.HostName.first kind (known_by_pass c.args.pass.now) (known_by_pass c.request_passing.new.pass)
    (g.O.Sink.taken c.args.out.now) (g.O.Sink.taken c.args.out.now)) (sym c.in-Request.is) (c.request_passing.ensures.requested.told (g.O.Sink.taken c.args.out.now))

pub request_passing-requires-clause-room : goal.request_passing-requires-clause-room
request_passing-requires-clause-room g c = record { room = c.requires.line.room c.in-Request.is; few = c.requires.line.few }

pub collect_for_line-taken-requires-clause-turn : goal.collect_for_line-taken-requires-clause-turn
collect_for_line-taken-requires-clause-turn g c = record {
  whole = c.requires.line.whole;
  next = subst (λ (kind : LineKind). IsNext g.N.HostName.lines c.args.turns.now kind) c.in-Collect.is (c.requires.line.next (ap is_service_line c.in-Collect.is));
}

pub scrape-taken-requires-clause-turn : goal.scrape-taken-requires-clause-turn
scrape-taken-requires-clause-turn g c = record {
  whole = c.requires.line.whole;
  next = subst (λ (kind : LineKind). IsNext g.N.HostName.lines c.args.turns.now kind) c.in-Scrape.is (c.requires.line.next (ap is_service_line c.in-Scrape.is));
}

pub request_passing-requires-clause-turn : goal.request_passing-requires-clause-turn
request_passing-requires-clause-turn g c = record {
  whole = c.requires.line.whole;
  next = subst (λ (kind : LineKind). IsNext g.N.HostName.lines c.args.turns.now kind) c.in-Request.is (c.requires.line.next (ap is_service_line c.in-Request.is));
}

pub read_passing-requires-clause-turn : goal.read_passing-requires-clause-turn
read_passing-requires-clause-turn g c = record {
  whole = c.requires.line.whole;
  next = subst (λ (kind : LineKind). IsNext g.N.HostName.lines c.args.turns.now kind) c.in-Read.is (c.requires.line.next (ap is_service_line c.in-Read.is));
}

pub returns-in-Collect-clause-turns : goal.returns-in-Collect-clause-turns
returns-in-Collect-clause-turns g c =
    c.collect_for_line-taken.ensures.turns ∙ ap (λ (kind : LineKind). c.args.turns.now + (if is_service_line kind then 2 else 0)) (sym c.in-Collect.is)

pub returns-in-Scrape-clause-turns : goal.returns-in-Scrape-clause-turns
returns-in-Scrape-clause-turns g c =
    c.scrape-taken.ensures.turns ∙ ap (λ (kind : LineKind). c.args.turns.now + (if is_service_line kind then 2 else 0)) (sym c.in-Scrape.is)

pub returns-in-Request-clause-turns : goal.returns-in-Request-clause-turns
returns-in-Request-clause-turns g c =
    c.request_passing.ensures.turns ∙ ap (λ (kind : LineKind). c.args.turns.now + (if is_service_line kind then 2 else 0)) (sym c.in-Request.is)

pub returns : goal.returns
returns g c = record {
  pass = c.requires.pass;
  told = unread_tells g.N.HostName.setup g.N.HostName.first c.args.line.now (known_by_pass c.args.pass.now) (g.O.Sink.taken c.args.out.now)
      c.in_default.not-Read c.in_default.not-Request;
  sink = record { stands = refl; count = refl; goes_on = c.requires.may };
  turns = none_own c.args.line.now c.in_default.not-Collect c.in_default.not-Scrape c.in_default.not-Read c.in_default.not-Request c.args.turns.now;
}
