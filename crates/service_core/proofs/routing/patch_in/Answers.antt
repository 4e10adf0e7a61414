use Rattle.std.proofs.Common.{◌∙◌, ap, [], set, map}
use Rattle.commit_body.specs.Patches.{patch_value}
use Rattle.trace_model.specs.Buffers.{Buffer}
use Rattle.trace_model.specs.Patches.{with_patches}
use Rattle.trace_model.specs.History.{Patched}
use Rattle.std.proofs.lemmas.List.{get_or_read}
use Rattle.trace_base.specs.declared.policy.FullPolicy.TheVariants.{Ring}
use Rattle.trace_model.specs.Buffers.{empty_buffer}
use Rattle.trace_model.specs.Ids.{placed_patches}
use Rattle.service_core.proofs.RouteLemmas.{event_at}
use Rattle.service_core.proofs.routing.patch_in.Goals as goal
use Rattle.service_core.specs.Routing.{from_at}
use Rattle.trace_buffer.specs.Calls.{from_in}

pub returns : goal.returns
returns c =
    let bs = c.args.buffers.now.items in
    let given = map patch_value c.args.patches.now in
    let patches = placed_patches (from_at bs c.args.index c.args.sequence) given in
    let read = get_or_read bs c.args.index c.index_mut.result.now c.requires.1.inside c.index_mut.ensures.value (empty_buffer 0 Ring []) in
    ap (λ (b : Buffer). set bs c.args.index b) (c.patch_all.ensures ∙ ap (λ (b : Buffer). with_patches b c.args.sequence (placed_patches (from_in b c.args.sequence) given)) read)
    ∙ event_at bs c.args.index c.requires.0 (Patched c.args.sequence patches) c.requires.1
