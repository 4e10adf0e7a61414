-- What the jobs told, and what was read behind them, is a run.
use Rattle.std.proofs.Common.{◌∙◌, sym, ap, subst}
use Rattle.chunk_plain.specs.Plain.{first_world}
use Rattle.chunk_plain.specs.Views.{ServiceView, asked_in}
use Rattle.chunk_words.specs.declared.host.HostTable.{HostTable}
use Rattle.chunk_words.specs.Sits.{setup_in, known_by_pass}
use Rattle.scenario_text.specs.Scenario.{Parts, parts_of}
use Rattle.replay_model.specs.Played.{buffers_of}
use Rattle.run_model.specs.Lines.{PlaysAll, PlaysSome}
use Rattle.thread_service.specs.Serving.{view_in}
use Rattle.thread_host.specs.Hosts.{HasReadAnswers}
use Rattle.thread_host.specs.Jobs.{FailsLines, TellsLines}
use Rattle.thread_host.proofs.WholeLemmas.{all_played, end_fails, has_run, is_there, lines_fail, some_played}
use Rattle.thread_host.proofs.whole.run.Goals as goal

pub returns-in-Ok-finish-clause-ends : goal.returns-in-Ok-finish-clause-ends
returns-in-Ok-finish-clause-ends g c =
    let scenario : Parts = parts_of c.args.scenario.now in
    let settled = c.settle-settled.result in
    let made = c.in-Ok.host in
    let before = g.T.Sink.taken c.args.out.now in
    let between = g.T.Sink.taken c.run-ran.new.out in
    let after = g.T.Sink.taken c.finish.new.out in
    let first = known_by_pass made.pass in
    let same_pass = subst (λ (known : ServiceView). TellsLines (setup_in made.table) (buffers_of scenario (setup_in made.table)) scenario.lines first known before between)
    (sym c.settle-settled.ensures.stays.pass) c.in-Ok-ran.ensures.job.told in
    let same_table = subst (λ (table : HostTable). TellsLines (setup_in table) (buffers_of scenario (setup_in table)) scenario.lines first (known_by_pass settled.pass) before between)
    (sym (c.settle-settled.ensures.stays.table ∙ c.run-ran.ensures.host.table)) same_pass in
    let answers = subst (λ (table : HostTable). HasReadAnswers table (view_in settled.service)) (sym c.settle-settled.ensures.stays.table)
    (c.settle-settled.ensures.answered c.run-ran.ensures.writers.answered) in
    let settles = c.settle-settled.ensures.settled scenario c.run-ran.ensures.host.host c.run-ran.ensures.writers.played in
    let lines = subst (λ (table : HostTable). PlaysAll (setup_in table) (buffers_of scenario (setup_in table)) scenario.lines (first_world (setup_in table)).service
    settles.0.stood.service) (sym (c.settle-settled.ensures.stays.table ∙ c.run-ran.ensures.host.table))
    (all_played (setup_in made.table) (buffers_of scenario (setup_in made.table)) scenario.lines _ made.service c.run-ran.new.self.service settles.0.stood.service
    c.in-Ok.ensures.fresh c.in-Ok-ran.ensures.service.played (is_there _ c.run-ran.new.self.service c.run-ran.ensures.host.host.served) settles.1) in
    let finished = c.in-Ok-finish.ensures.done scenario settles.0 in
    has_run c.every_run_is_faithful.ensures c.every_run_is_balanced.ensures c.every_run_counts_packets.ensures c.every_enough_run_is_complete.ensures
    c.args.scenario.now settled settles.0 first before between after c.in-Ok-finish.done c.requires.scenario c.requires.raws c.in-Ok.ensures.unread same_table c.in-Ok.ensures.unasked
    (c.settle-settled.ensures.requests ∙ ap (λ (v : ServiceView). asked_in v.letters) (sym c.settle-settled.ensures.stays.pass)) answers lines finished

pub returns-in-Err-finish-clause-ends : goal.returns-in-Err-finish-clause-ends
returns-in-Err-finish-clause-ends g c =
    let scenario : Parts = parts_of c.args.scenario.now in
    let settled = c.settle-settled.result in
    let made = c.in-Ok.host in
    let before = g.T.Sink.taken c.args.out.now in
    let between = g.T.Sink.taken c.run-ran.new.out in
    let first = known_by_pass made.pass in
    let same_pass = subst (λ (known : ServiceView). TellsLines (setup_in made.table) (buffers_of scenario (setup_in made.table)) scenario.lines first known before between)
    (sym c.settle-settled.ensures.stays.pass) c.in-Ok-ran.ensures.job.told in
    let same_table = subst (λ (table : HostTable). TellsLines (setup_in table) (buffers_of scenario (setup_in table)) scenario.lines first (known_by_pass settled.pass) before between)
    (sym (c.settle-settled.ensures.stays.table ∙ c.run-ran.ensures.host.table)) same_pass in
    let settles = c.settle-settled.ensures.settled scenario c.run-ran.ensures.host.host c.run-ran.ensures.writers.played in
    let lines = subst (λ (table : HostTable). PlaysAll (setup_in table) (buffers_of scenario (setup_in table)) scenario.lines (first_world (setup_in table)).service
    settles.0.stood.service) (sym (c.settle-settled.ensures.stays.table ∙ c.run-ran.ensures.host.table))
    (all_played (setup_in made.table) (buffers_of scenario (setup_in made.table)) scenario.lines _ made.service c.run-ran.new.self.service settles.0.stood.service
    c.in-Ok.ensures.fresh c.in-Ok-ran.ensures.service.played (is_there _ c.run-ran.new.self.service c.run-ran.ensures.host.host.served) settles.1) in
    end_fails c.every_stopped_run_is_faithful.ensures scenario settled settles.0 first c.in-Ok.ensures.unread before between (g.T.Sink.taken c.finish.new.out) same_table
    lines (c.in-Err-finish.ensures.fails scenario settles.0)

pub returns-in-Err-clause-ends : goal.returns-in-Err-clause-ends
returns-in-Err-clause-ends g c =
    let scenario : Parts = parts_of c.args.scenario.now in
    let settled = c.settle-settled.result in
    let made = c.in-Ok.host in
    let before = g.T.Sink.taken c.args.out.now in
    let after = g.T.Sink.taken c.run-ran.new.out in
    let first = known_by_pass made.pass in
    let same_pass = subst (λ (known : ServiceView). FailsLines (setup_in made.table) (buffers_of scenario (setup_in made.table)) scenario.lines first known before after)
    (sym c.settle-settled.ensures.stays.pass) c.in-Err.ensures.job.told in
    let same_table = subst (λ (table : HostTable). FailsLines (setup_in table) (buffers_of scenario (setup_in table)) scenario.lines first (known_by_pass settled.pass) before after)
    (sym (c.settle-settled.ensures.stays.table ∙ c.run-ran.ensures.host.table)) same_pass in
    let settles = c.settle-settled.ensures.settled scenario c.run-ran.ensures.host.host c.run-ran.ensures.writers.played in
    let lines = subst (λ (table : HostTable). PlaysSome (setup_in table) (buffers_of scenario (setup_in table)) scenario.lines (first_world (setup_in table)).service
    settles.0.stood.service) (sym (c.settle-settled.ensures.stays.table ∙ c.run-ran.ensures.host.table))
    (some_played (setup_in made.table) (buffers_of scenario (setup_in made.table)) scenario.lines _ made.service c.run-ran.new.self.service settles.0.stood.service
    c.in-Ok.ensures.fresh c.in-Err.ensures.service.played (is_there _ c.run-ran.new.self.service c.run-ran.ensures.host.host.served) settles.1) in
    lines_fail c.every_stopped_run_is_faithful.ensures scenario settled settles.0 first c.in-Ok.ensures.unread before after same_table lines
    (c.let_go.ensures.left scenario settles.0)
