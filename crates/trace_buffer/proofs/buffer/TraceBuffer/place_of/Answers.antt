use Rattle.std.proofs.Common.{◌≡◌, ℕ, sym, ap, ◌∙◌, subst}
use Rattle.std.specs.Option.{option_map}
use Rattle.trace_model.specs.Buffers.{Buffer, live_at}
use Rattle.trace_buffer.specs.Calls.{place_in}
use Rattle.trace_buffer.specs.Records.{record_of}
use Rattle.trace_buffer.proofs.FindLemmas.{live_is, far_none, place_told}
use Rattle.trace_buffer.proofs.buffer.TraceBuffer.place_of.Goals as goal

pub returns-in_default : goal.returns-in_default
returns-in_default c =
    sym (ap place_in (live_is c.self.inside.ring c.args.self.now.live c.args.sequence c.args.chunk_id (ap (λ (b : Buffer). b.live) c.self.view_is)
    ∙ ap (option_map record_of) (far_none c.self.inside.rows.items c.self.inside.ring.live c.args.sequence c.args.chunk_id c.self.invariant.parts.kept (c.in_default.ensures))))

pub returns : goal.returns
returns c =
    let same : c.in-Ok.position ≡ c.args.chunk_id = c.in-Ok.ensures.1 in
    subst (λ (n : ℕ). c.find_place.result ≡ place_in (live_at c.args.self.now c.args.sequence n)) same
    (c.find_place.ensures.place
    ∙ place_told _
    ∙ sym (ap place_in (live_is c.self.inside.ring c.args.self.now.live c.args.sequence c.in-Ok.position (ap (λ (b : Buffer). b.live) c.self.view_is))))
