use Rattle.std.proofs.Common.{◌≡◌, ℕ, List, length, filter, not, true, sym, ap, ◌∙◌}
use Rattle.std.specs.List.{find}
use Rattle.page_geometry.specs.Sizes.{record_size}
use Rattle.trace_model.specs.Arrivals.{is_too_far}
use Rattle.trace_model.specs.Buffers.{Buffer, BufferRecord, made_room, meets, is_of, live_at, with_losses}
use Rattle.trace_model.specs.Sequences.{Sequence, is_known, sequence_in, has_arrived}
use Rattle.trace_buffer.proofs.PartLemmas.{known_map, sequence_map, keeps_losses, sizes}
use Rattle.trace_buffer.proofs.RoomLemmas.{find_filter, find_unmet}
use Rattle.trace_buffer.proofs.buffer.TraceBuffer.displace.Goals as goal

-- the sequence once the records are lost
there : (v new : Buffer) (n m q : ℕ) → new ≡ made_room v m → m ≡ n → is_known v.sequences q ≡ true → sequence_in new.sequences q ≡ with_losses (filter (meets v n) v.live) (sequence_in v.sequences q)
there v new n m q is size known =
    ap (λ (b : Buffer). sequence_in b.sequences q) (is ∙ ap (made_room v) size)
    ∙ sequence_map (with_losses (filter (meets v n) v.live)) v.sequences q (sizes (keeps_losses (filter (meets v n) v.live))) known

pub keep-requires-clause-known : goal.keep-requires-clause-known
keep-requires-clause-known c =
    let v : Buffer = c.args.self.now in
    let gone : List BufferRecord = filter (meets v c.size_of_record-size.result) v.live in
    ap (λ (b : Buffer). is_known b.sequences c.args.key.sequence) c.clear_room.ensures
    ∙ known_map (with_losses gone) v.sequences c.args.key.sequence (sizes (keeps_losses gone)) ∙ c.requires.known

pub keep-requires-clause-size : goal.keep-requires-clause-size
keep-requires-clause-size c =
    c.requires.size
    ∙ sym (ap (λ (s : Sequence). s.size) (there c.args.self.now c.clear_room.new.self (record_size (length c.args.payload.now)) c.size_of_record-size.result c.args.key.sequence c.clear_room.ensures c.size_of_record-size.ensures c.requires.known))

pub keep-requires-clause-part : goal.keep-requires-clause-part
keep-requires-clause-part c partial =
    let state = there c.args.self.now c.clear_room.new.self (record_size (length c.args.payload.now)) c.size_of_record-size.result c.args.key.sequence c.clear_room.ensures c.size_of_record-size.ensures c.requires.known in (
      ap (λ (s : Sequence). has_arrived s c.args.key.chunk_id) state ∙ (c.requires.part partial).0,
      ap (λ (s : Sequence). is_too_far s c.args.key.chunk_id) state ∙ (c.requires.part partial).1,
    )

pub keep-requires-clause-none : goal.keep-requires-clause-none
keep-requires-clause-none c =
    let v : Buffer = c.args.self.now in
    ap (λ (b : Buffer). live_at b c.args.key.sequence c.args.key.chunk_id) c.clear_room.ensures
    ∙ find_filter (is_of c.args.key.sequence c.args.key.chunk_id) (λ r. not (meets v c.size_of_record-size.result r)) v.live c.requires.none

pub keep-requires-clause-free : goal.keep-requires-clause-free
keep-requires-clause-free c =
    let v : Buffer = c.args.self.now in
    let n : ℕ = record_size (length c.args.payload.now) in
    ap (λ (b : Buffer). find (meets b n) b.live) (c.clear_room.ensures ∙ ap (made_room v) c.size_of_record-size.ensures)
    ∙ find_unmet (meets v n) v.live
