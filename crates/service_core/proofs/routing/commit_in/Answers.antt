use Rattle.std.proofs.Common.{ℕ, ◌∙◌, ap, [], set, map}
use Rattle.std.proofs.lemmas.List.{get_or_read}
use Rattle.trace_base.specs.declared.policy.FullPolicy.TheVariants.{Ring}
use Rattle.trace_model.specs.Buffers.{Buffer, empty_buffer}
use Rattle.trace_model.specs.Sequences.{is_known}
use Rattle.trace_model.specs.Arrivals.{with_image}
use Rattle.trace_model.specs.Patches.{with_patches}
use Rattle.trace_model.specs.History.{Committed}
use Rattle.trace_model.specs.Ids.{placed_image, placed_patches}
use Rattle.chunk_image.specs.Values.{image_value}
use Rattle.commit_body.specs.Patches.{patch_value}
use Rattle.service_core.proofs.RouteLemmas.{event_at, known_image, from_image}
use Rattle.service_core.proofs.routing.commit_in.Goals as goal
use Rattle.service_core.specs.Routing.{from_at}
use Rattle.trace_buffer.specs.Calls.{from_in}

pub patch_all-requires : goal.patch_all-requires
patch_all-requires c =
    let bs = c.args.buffers.now.items in
    let buffer = c.index_mut-buffer.result.now in
    let image = placed_image (from_in buffer c.args.image.now.sequence) (image_value c.args.image.now) in
    let read = get_or_read bs c.args.index buffer c.requires.at.inside c.index_mut-buffer.ensures.value (empty_buffer 0 Ring []) in
    let known = ap (λ (b : Buffer). is_known b.sequences image.sequence) read ∙ c.requires.at.known in
    ap (λ (b : Buffer). is_known b.sequences image.sequence) c.arrive-arrived.ensures.after ∙ known_image buffer image image.sequence known ∙ known

pub returns-clause-after : goal.returns-clause-after
returns-clause-after c =
    let bs = c.args.buffers.now.items in
    let buffer = c.index_mut-buffer.result.now in
    let q = c.args.image.now.sequence in
    let given = image_value c.args.image.now in
    let from = from_at bs c.args.index q in
    let image = placed_image from given in
    let patches = map patch_value c.args.patches.now in
    let read = get_or_read bs c.args.index buffer c.requires.at.inside c.index_mut-buffer.ensures.value (empty_buffer 0 Ring []) in
    let known = ap (λ (b : Buffer). is_known b.sequences q) read ∙ c.requires.at.known in
    let arrived = c.arrive-arrived.ensures.after ∙ ap (λ (b : Buffer). with_image b (placed_image (from_in b q) given)) read in
    let still = ap (λ (b : Buffer). from_in b q) c.arrive-arrived.ensures.after ∙ from_image buffer (placed_image (from_in buffer q) given) q known
    ∙ ap (λ (b : Buffer). from_in b q) read in
    ap (λ (b : Buffer). set bs c.args.index b)
    (c.patch_all.ensures ∙ ap (λ (n : ℕ). with_patches c.arrive-arrived.new.self q (placed_patches n patches)) still ∙ ap (λ (b : Buffer). with_patches b q (placed_patches from patches)) arrived)
    ∙ event_at bs c.args.index _ (Committed image (placed_patches from patches)) c.requires.at
