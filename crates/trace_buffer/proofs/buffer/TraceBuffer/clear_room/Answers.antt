use Rattle.std.proofs.Common.{◌≡◌, ℕ, List, length, map, sum_by, sym, ap, ◌∙◌, subst}
use Rattle.std.proofs.lemmas.List.{length-map}
use Rattle.std.specs.Vec.{with_items}
use Rattle.ring_bytes.specs.Value.{RingValue}
use Rattle.trace_model.specs.Buffers.{Buffer, BufferRecord, made_room, with_losses}
use Rattle.trace_model.specs.Counts.{raised}
use Rattle.trace_model.specs.Sequences.{Sequence}
use Rattle.trace_buffer.specs.BufferFields.{buffer_view, AreParts}
use Rattle.trace_buffer.specs.Records.{record_of, meets_record, met_records, displaced, unread_losses}
use Rattle.trace_buffer.specs.Unfinished.{unfinished_of}
use Rattle.trace_buffer.proofs.PartLemmas.{items_of}
use Rattle.trace_buffer.proofs.RoomLemmas.{map_stay}
use Rattle.trace_buffer.proofs.buffer.TraceBuffer.clear_room.Goals as goal

pub invariant_of-self : goal.invariant_of-self
invariant_of-self c =
    let gone : List BufferRecord = met_records c.self.inside.ring c.args.size in
    let all : c.make_room-self-inside.new.rows ≡ map (with_losses gone) c.self.inside.rows.items =
    c.make_room-self-inside.ensures.rows ∙ ap (map (with_losses gone)) c.deref_mut.ensures.value in
    record {
      parts = subst (AreParts c.make_room-self-inside.new.ring c.make_room-self-inside.new.index)
          (sym (items_of c.self.inside.rows c.make_room-self-inside.new.rows (ap length all ∙ length-map c.self.inside.rows.items (with_losses gone))))
          c.make_room-self-inside.ensures.parts;
      counted = c.make_room-self-inside.ensures.counted
          ∙ ap (λ ss. unfinished_of ss c.make_room-self-inside.new.ring.live)
          (sym (items_of c.self.inside.rows c.make_room-self-inside.new.rows (ap length all ∙ length-map c.self.inside.rows.items (with_losses gone))));
    }

pub returns : goal.returns
returns c =
    let ring : RingValue = c.self.inside.ring in
    let size : ℕ = c.args.size in
    let gone : List BufferRecord = met_records ring size in
    let all : c.make_room-self-inside.new.rows ≡ map (with_losses gone) c.self.inside.rows.items =
    c.make_room-self-inside.ensures.rows ∙ ap (map (with_losses gone)) c.deref_mut.ensures.value in
    let rows : (with_items c.self.inside.rows c.make_room-self-inside.new.rows).items ≡ map (with_losses gone) c.self.inside.rows.items =
    items_of c.self.inside.rows c.make_room-self-inside.new.rows (ap length all ∙ length-map c.self.inside.rows.items (with_losses gone)) ∙ all in
    let lost : c.make_room-self-inside.result ≡ raised c.self.inside.overwritten (sum_by (unread_losses c.self.inside.rows.items) gone) =
    c.make_room-self-inside.ensures.lost ∙ ap (λ (ss : List Sequence). raised c.self.inside.overwritten (sum_by (unread_losses ss) gone)) c.deref_mut.ensures.value in
    let next : c.make_room-self-inside.new.ring ≡ displaced ring size = c.make_room-self-inside.ensures.ring in
    (λ i. record (buffer_view c.self.inside) { room = (next i).room; next = (next i).next; live = map record_of (next i).live; overwritten = lost i; sequences = rows i })
    ∙ (λ i. record (buffer_view c.self.inside) {
      live = map_stay (meets_record ring size) ring.live i;
      overwritten = raised c.self.inside.overwritten (sum_by (unread_losses c.self.inside.rows.items) gone);
      sequences = map (with_losses gone) c.self.inside.rows.items;
    })
    ∙ ap (λ (b : Buffer). made_room b size) c.self.view_is
