use Rattle.std.proofs.Common.{◌≡◌, None, IfNone, sym, ◌∙◌, subst}
use Rattle.trace_model.specs.Buffers.{live_at}
use Rattle.trace_buffer.proofs.FindLemmas.{no_place}
use Rattle.trace_buffer.proofs.buffer.TraceBuffer.image_of.Goals as goal

pub returns-in_err-place-clause-none : goal.returns-in_err-place-clause-none
returns-in_err-place-clause-none c =
    subst (λ o. IfNone o (live_at c.args.self.now c.args.sequence c.args.chunk_id ≡ None)) (sym c.from_residual.ensures)
    (no_place (live_at c.args.self.now c.args.sequence c.args.chunk_id) (sym c.place_of.ensures ∙ c.in_err-place.was))

pub image_at-requires : goal.image_at-requires
image_at-requires c = sym c.place_of.ensures ∙ c.in_ok-place.was
