use Rattle.std.proofs.Common.{◌≡◌, nat_le, sym, ap, ◌∙◌}
use Rattle.std.specs.Option.{option_map}
use Rattle.ring_bytes.specs.declared.key.RecordKey.{RecordKey}
use Rattle.ring_bytes.specs.Value.{Stored}
use Rattle.trace_model.specs.Arrivals.{has_as_many}
use Rattle.trace_model.specs.Buffers.{Buffer}
use Rattle.trace_buffer.specs.Records.{record_of, is_at_key}
use Rattle.trace_buffer.proofs.FindLemmas.{is_found, none_is, live_is, kept_found, mapped}
use Rattle.trace_buffer.proofs.LossLemmas.{reading_length}
use Rattle.trace_buffer.proofs.buffer.TraceBuffer.has_as_many.Goals as goal

pub returns-in-None : goal.returns-in-None
returns-in-None c =
    sym
    (ap (has_as_many c.args.count)
    (live_is c.self.inside.ring c.args.self.now.live c.args.sequence c.args.chunk_id (ap (λ (b : Buffer). b.live) c.self.view_is)
    ∙ ap (option_map record_of) (none_is c.self.inside.ring c.args.sequence c.args.chunk_id c.find_place.result c.in-None.is c.find_place.ensures.place)))

pub returns-in-Some : goal.returns-in-Some
returns-in-Some c =
    let f = is_found c.self.inside.ring c.args.sequence c.args.chunk_id c.in-Some.place c.find_place.result c.in-Some.is c.find_place.ensures.place c.find_place.ensures.there in
    let kept = kept_found (is_at_key c.args.sequence c.args.chunk_id) c.self.inside.rows.items c.self.inside.ring.live f.stored c.self.invariant.parts.kept f.found in
    let key : c.key_at.result ≡ f.stored.key = mapped (λ (s : Stored). s.key) _ f.stored c.key_at.result f.there c.key_at.ensures in
    ap (λ (k : RecordKey). nat_le c.args.count k.count) key
    ∙ ap (λ n. nat_le c.args.count n) (sym (reading_length f.stored.key.count f.stored.payload kept.reads))
    ∙ sym
    (ap (has_as_many c.args.count)
    (live_is c.self.inside.ring c.args.self.now.live c.args.sequence c.args.chunk_id (ap (λ (b : Buffer). b.live) c.self.view_is)
    ∙ ap (option_map record_of) f.found))
