-- The helper is asked for the chunks of its writer's producer, and never refuses; each time it counts one taking.
use Rattle.std.proofs.Common.{◌≡◌, ◌∙◌, ◌≤◌, ◌+◌, ◌*◌, ℕ, true, List, sym, ap, subst}
use Rattle.trace_base.specs.declared.policy.WriterSpec.{WriterSpec}
use Rattle.replay_model.specs.Does.{asks_for}
use Rattle.service_core.specs.Agreement.{spec_at}
use Rattle.run_model.specs.Collected.{has_asker}
use Rattle.thread_host.specs.Playing.{lost_in}
use Rattle.thread_host.proofs.Collected.{asked_here}
use Rattle.thread_host.proofs.Helped.{counted_helps}
use Rattle.thread_host.proofs.PlayedWriters.{none_lost, policy_here}
use Rattle.thread_host.proofs.writing.play_helped.Goals as goal

pub new-requires-clause-asked : goal.new-requires-clause-asked
new-requires-clause-asked g c =
    subst (λ (producer : ℕ). has_asker g.N.HostName.setup g.N.HostName.lines producer ≡ true) (sym c.requires.own)
    (asked_here g.N.HostName.setup g.N.HostName.lines c.args.place c.requires.asks)

pub new-requires-clause-own : goal.new-requires-clause-own
new-requires-clause-own g c =
    ap (λ (specs : List WriterSpec). (spec_at specs c.args.place).producer) c.requires.named.specs_are ∙ sym c.requires.own

pub returns-clause-asks : goal.returns-clause-asks
returns-clause-asks g c =
    let setup = g.N.HostName.setup in
    let lost = asks_for (spec_at setup.writers c.args.place).policy * lost_in c.play_all.new.writer in
    subst (λ (count : ℕ). c.args.takings + lost ≤ count) (sym c.into_takings.ensures)
    (subst (λ (count : ℕ). count + lost ≤ c.play_all.new.help.help.takings) c.new.ensures.takings
    (counted_helps _ _ c.args.writer.now c.play_all.new.help c.play_all.new.writer c.play_all.ensures.helped
    (none_lost c.args.lines.now c.args.table.now c.args.place c.args.writer.now c.requires.ready)
    (spec_at setup.writers c.args.place).policy
    (policy_here setup c.args.lines.now c.args.table.now c.args.place c.args.writer.now c.requires.named.table_is.setup_is c.requires.ready)
    (λ help. help.takings) (λ helper producer answer next helped. helped.2)))
