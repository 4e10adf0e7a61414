use Rattle.std.proofs.Common.{◌≡◌, ◌≤◌, List, ℕ, length, Some, refl, sym, ap, ◌∙◌, subst, IsSome}
use Rattle.std.specs.Option.{option_map}
use Rattle.ring_bytes.specs.Value.{Stored}
use Rattle.trace_model.specs.Buffers.{Buffer, live_at}
use Rattle.trace_buffer.specs.Calls.{IsImageOf}
use Rattle.trace_buffer.specs.Records.{record_of, is_at_key}
use Rattle.trace_buffer.proofs.FindLemmas.{found_there, live_is, kept_found, mapped, tells_record, payload_small}
use Rattle.trace_buffer.proofs.RowLemmas.{size_fits}
use Rattle.trace_buffer.proofs.buffer.TraceBuffer.image_at.Goals as goal

pub key_at-requires : goal.key_at-requires
key_at-requires c =
    let f = found_there c.self.inside.ring c.args.self.now.live c.args.sequence c.args.chunk_id c.args.place (ap (λ (b : Buffer). b.live) c.self.view_is) c.self.invariant.parts.indexed.places_once c.requires in
    subst IsSome (sym f.there) refl

pub payload_at-requires : goal.payload_at-requires
payload_at-requires c =
    let f = found_there c.self.inside.ring c.args.self.now.live c.args.sequence c.args.chunk_id c.args.place (ap (λ (b : Buffer). b.live) c.self.view_is) c.self.invariant.parts.indexed.places_once c.requires in
    subst IsSome (sym f.there) refl

pub returns-clause-image : goal.returns-clause-image
returns-clause-image c =
    let f = found_there c.self.inside.ring c.args.self.now.live c.args.sequence c.args.chunk_id c.args.place (ap (λ (b : Buffer). b.live) c.self.view_is) c.self.invariant.parts.indexed.places_once c.requires in
    let kept = kept_found (is_at_key c.args.sequence c.args.chunk_id) c.self.inside.rows.items c.self.inside.ring.live f.stored c.self.invariant.parts.kept f.found in
    let key : c.key_at.result ≡ f.stored.key = mapped (λ (s : Stored). s.key) _ f.stored c.key_at.result f.there c.key_at.ensures in
    let payload : c.payload_at.result.now ≡ f.stored.payload = mapped (λ (s : Stored). s.payload) _ f.stored c.payload_at.result.now f.there c.payload_at.ensures in
    let live : live_at c.args.self.now c.args.sequence c.args.chunk_id ≡ Some (record_of f.stored) =
    live_is c.self.inside.ring c.args.self.now.live c.args.sequence c.args.chunk_id (ap (λ (b : Buffer). b.live) c.self.view_is) ∙ ap (option_map record_of) f.found in
    subst (IsImageOf c.key_at.result c.payload_at.result.now) (sym live) (tells_record f.stored c.key_at.result c.payload_at.result.now kept.reads key payload)

pub returns-clause-small : goal.returns-clause-small
returns-clause-small c =
    let f = found_there c.self.inside.ring c.args.self.now.live c.args.sequence c.args.chunk_id c.args.place (ap (λ (b : Buffer). b.live) c.self.view_is) c.self.invariant.parts.indexed.places_once c.requires in
    let kept = kept_found (is_at_key c.args.sequence c.args.chunk_id) c.self.inside.rows.items c.self.inside.ring.live f.stored c.self.invariant.parts.kept f.found in
    let payload : c.payload_at.result.now ≡ f.stored.payload = mapped (λ (s : Stored). s.payload) _ f.stored c.payload_at.result.now f.there c.payload_at.ensures in
    let fits = size_fits c.self.inside.ring.room c.self.inside.index.capacity f.stored.key.sequence c.self.inside.rows.items c.self.invariant.parts.fit kept.known in
    subst (λ (bytes : List ℕ). length bytes ≤ 67108864) (sym payload)
    (payload_small (length f.stored.payload) _ c.self.inside.ring.room kept.size fits c.size-room.ensures.most)
