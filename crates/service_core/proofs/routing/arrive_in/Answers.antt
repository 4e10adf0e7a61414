use Rattle.std.proofs.Common.{◌∙◌, ap, [], set}
use Rattle.trace_model.specs.Buffers.{Buffer}
use Rattle.trace_model.specs.Arrivals.{with_image}
use Rattle.chunk_image.specs.Values.{image_value}
use Rattle.std.proofs.lemmas.List.{get_or_read}
use Rattle.trace_base.specs.declared.policy.FullPolicy.TheVariants.{Ring}
use Rattle.trace_model.specs.Buffers.{empty_buffer}
use Rattle.trace_model.specs.Ids.{placed_image}
use Rattle.service_core.proofs.RouteLemmas.{image_at}
use Rattle.service_core.proofs.routing.arrive_in.Goals as goal
use Rattle.service_core.specs.Routing.{from_at}
use Rattle.trace_buffer.specs.Calls.{from_in}

pub returns-clause-after : goal.returns-clause-after
returns-clause-after c =
    let bs = c.args.buffers.now.items in
    let read = get_or_read bs c.args.index c.index_mut.result.now c.requires.at.inside c.index_mut.ensures.value (empty_buffer 0 Ring []) in
    ap (λ (b : Buffer). set bs c.args.index b) (c.arrive.ensures.after ∙ ap (λ (b : Buffer). with_image b (placed_image (from_in b c.args.image.now.sequence) (image_value c.args.image.now))) read)
    ∙ image_at bs c.args.index _ (placed_image (from_at bs c.args.index c.args.image.now.sequence) (image_value c.args.image.now)) c.requires.at
