-- A writer that drops asks no helper, and one that begins no packet wants none.
use Rattle.std.proofs.Common.{◌∙◌, sym, ap, arith}
use Rattle.service_core.specs.Agreement.{spec_at}
use Rattle.run_model.specs.Collected.{asks_help}
use Rattle.thread_writer.specs.contracts.helper.NoHelpHelper.TheImpl.{ghosts as nobody}
use Rattle.thread_host.specs.Playing.{lost_in}
use Rattle.thread_host.proofs.Helped.{idle_helps, none_wanted}
use Rattle.thread_host.proofs.PlayedWriters.{asks_too, begins, drops_never, none_lost, policy_here}
use Rattle.thread_host.proofs.writing.writer_job.Goals as goal

pub returns-then-not-asks_help-clause-played : goal.returns-then-not-asks_help-clause-played
returns-then-not-asks_help-clause-played g c =
    let ready = c.requires.ready in
    c.play_all.ensures.played c.args.place (omega arith)
    (begins nobody.helps nobody.of_table c.args.lines.now c.args.table.now c.args.place _ _ c.args.writer.now (omega arith) ready tt
    (drops_never nobody.helps c.args.lines.now c.args.table.now c.args.place c.args.writer.now ready
    (ap asks_help (sym (c.policy.ensures c.args.table.now ready.writes)) ∙ sym c.asks_help.ensures ∙ c.if-not-asks_help.true)))

pub returns-then-not-asks_help-clause-asks : goal.returns-then-not-asks_help-clause-asks
returns-then-not-asks_help-clause-asks g c =
    let ready = c.requires.ready in
    none_wanted c.args.takings (lost_in c.play_all.new.writer) (spec_at g.N.HostName.setup.writers c.args.place).policy
    (ap asks_help (sym (policy_here g.N.HostName.setup c.args.lines.now c.args.table.now c.args.place c.args.writer.now c.requires.named.table_is.setup_is ready))
    ∙ ap asks_help (sym (c.policy.ensures c.args.table.now ready.writes)) ∙ sym c.asks_help.ensures ∙ c.if-not-asks_help.true)

pub returns-then-not-begins_packets-clause-asks : goal.returns-then-not-begins_packets-clause-asks
returns-then-not-begins_packets-clause-asks g c =
    let ready = c.requires.ready in
    idle_helps _ _ c.args.writer.now _ _ c.play_all-then-not-begins_packets.ensures.helped
    (none_lost c.args.lines.now c.args.table.now c.args.place c.args.writer.now ready)
    (spec_at g.N.HostName.setup.writers c.args.place).policy
    (policy_here g.N.HostName.setup c.args.lines.now c.args.table.now c.args.place c.args.writer.now c.requires.named.table_is.setup_is ready)
    c.args.takings (λ helper producer answer next helped. helped)

-- One that stalls, for ever or so often, and begins a packet, asks for help.
pub play_helped-requires-clause-asks : goal.play_helped-requires-clause-asks
play_helped-requires-clause-asks g c =
    let ready = c.requires.ready in
    asks_too g.N.HostName.setup g.N.HostName.lines c.args.lines.now c.args.place _ c.begins_packets.result
    (ap asks_help (sym (policy_here g.N.HostName.setup c.args.lines.now c.args.table.now c.args.place c.args.writer.now c.requires.named.table_is.setup_is ready))
    ∙ ap asks_help (sym (c.policy.ensures c.args.table.now ready.writes)) ∙ sym c.asks_help.ensures ∙ c.if-not-asks_help.false)
    c.begins_packets.ensures c.if-not-begins_packets.false c.requires.named.lines_are (omega arith)
