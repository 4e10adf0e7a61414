use Rattle.std.proofs.Common.{sym, ap, ◌∙◌, subst}
use Rattle.trace_model.specs.Buffers.{live_at}
use Rattle.trace_model.specs.Images.{Chunk}
use Rattle.trace_buffer.specs.Calls.{place_in}
use Rattle.trace_model.specs.Reading.{is_readable}
use Rattle.trace_buffer.proofs.FindLemmas.{no_place}
use Rattle.sequence_reader.specs.Spots.{FitsChunk}
use Rattle.sequence_reader.specs.Steps.{ShowsIn}
use Rattle.sequence_reader.proofs.StepLemmas.{lent, shown}
use Rattle.sequence_reader.proofs.step.look_in.Goals as goal

pub image_at-requires : goal.image_at-requires
image_at-requires c = ap (λ n. place_in (live_at c.args.buffer.now c.args.bounds.sequence n)) (sym c.requires.here) ∙ sym c.requires.held ∙ c.in-Some.is

pub absent-requires-clause-none : goal.absent-requires-clause-none
absent-requires-clause-none c =
    no_place (live_at c.args.buffer.now c.args.bounds.sequence c.args.spot.chunk_id)
    (ap (λ n. place_in (live_at c.args.buffer.now c.args.bounds.sequence n)) (sym c.requires.here) ∙ sym c.requires.held ∙ c.in-None.is)

pub present-requires-clause-reads : goal.present-requires-clause-reads
present-requires-clause-reads c =
    let image = lent c.image_at.result.0 c.image_at.result.1.now (live_at c.args.buffer.now c.args.bounds.sequence c.args.spot.chunk_id) c.image_at.ensures.image in
    ap is_readable image.tells.reads

pub present-requires-clause-fits : goal.present-requires-clause-fits
present-requires-clause-fits c =
    let image = lent c.image_at.result.0 c.image_at.result.1.now (live_at c.args.buffer.now c.args.bounds.sequence c.args.spot.chunk_id) c.image_at.ensures.image in
    subst (λ (chunk : Chunk). FitsChunk c.args.bounds.closed chunk c.args.spot) (sym image.tells.chunk)
    (c.requires.spot c.if-spot-bounds.false image.stored image.live)

pub returns-in-Some : goal.returns-in-Some
returns-in-Some c =
    let image = lent c.image_at.result.0 c.image_at.result.1.now (live_at c.args.buffer.now c.args.bounds.sequence c.args.spot.chunk_id) c.image_at.ensures.image in
    record {
      shows = shown c.args.buffer.now c.args.bounds c.args.spot image.stored c.requires.bounds c.if-spot-bounds.false image.live c.present.result
          (subst (λ (chunk : Chunk). ShowsIn c.args.bounds.closed chunk c.args.spot c.present.result) image.tells.chunk c.present.ensures.shows);
    }
