use Rattle.std.proofs.Common.{◌∙◌, ap, [], set}
use Rattle.std.proofs.lemmas.List.{get_or_read}
use Rattle.trace_base.specs.declared.policy.FullPolicy.TheVariants.{Ring}
use Rattle.trace_model.specs.Buffers.{Buffer, empty_buffer}
use Rattle.trace_model.specs.Patches.{with_close}
use Rattle.trace_model.specs.History.{Closed}
use Rattle.service_core.proofs.RouteLemmas.{event_at}
use Rattle.service_core.proofs.routing.close_in.Goals as goal

pub returns : goal.returns
returns c =
    let bs = c.args.buffers.now.items in
    let read = get_or_read bs c.args.index c.index_mut.result.now c.requires.at.1.inside c.index_mut.ensures.value (empty_buffer 0 Ring []) in
    ap (λ (b : Buffer). set bs c.args.index b) (c.close_sequence.ensures ∙ ap (λ (b : Buffer). with_close b c.args.sequence) read)
    ∙ event_at bs c.args.index c.requires.at.0 (Closed c.args.sequence) c.requires.at.1
