-- No line has taken a turn yet; and once the jobs are done, the turns that were taken say what was played.
use Rattle.std.proofs.Common.{rules, ◌≡◌, ◌+◌, ℕ, suc, List, length, sym, subst}
use Rattle.std.specs.Prelude.{MatchResult}
use Rattle.chunk_plain.specs.Views.{ServiceView}
use Rattle.scenario_text.specs.declared.scenario.NumberedLine.{NumberedLine}
use Rattle.run_model.specs.Lines.{service_lines}
use Rattle.thread_service.specs.Serving.{view_in}
use Rattle.thread_host.specs.Turns.{PlaysTurns}
use Rattle.thread_host.proofs.Turning.{ended_far, turns_none}
use Rattle.thread_host.proofs.running.run_named.Goals as goal

pub new-requires-clause-played : goal.new-requires-clause-played
new-requires-clause-played g c =
    let view = view_in c.args.service in
    subst (λ (n : ℕ). PlaysTurns g.N.HostName.setup g.N.HostName.first g.N.HostName.lines n g.N.HostName.start view) (sym c.open-book.ensures.total)
    (subst (λ (v : ServiceView). PlaysTurns g.N.HostName.setup g.N.HostName.first g.N.HostName.lines 0 v view) c.requires.service.start_is
    (turns_none g.N.HostName.setup g.N.HostName.first g.N.HostName.lines view))

pub returns-clause-service : goal.returns-clause-service
returns-clause-service g c =
    let back = c.into_parts-service in let told = c.join_mut-told.result.0 in let turns : ℕ = c.turns-2-1.given.0 in
    record {
      kept_is = back.ensures.kept;
      played = ended_far g.N.HostName.setup g.N.HostName.first g.N.HostName.lines turns g.N.HostName.start (view_in back.result.0) told
          (subst (λ (ls : List NumberedLine). MatchResult told (λ _. turns ≡ length (service_lines ls) + length (service_lines ls))
          (λ _. (done : ℕ) × (turns ≡ suc (done + done)))) c.requires.plays.0.lines_are (search rules)) back.ensures.played;
    }
