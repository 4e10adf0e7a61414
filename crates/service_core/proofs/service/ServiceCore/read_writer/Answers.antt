-- A read in the buffer of the writer, and its note: with the limit, or where a write failed with the number that it delivered.
use Rattle.std.proofs.Common.{◌≡◌, ◌+◌, ◌-◌, [], ◌∷◌, length, OnOk, OnErr, arith, refl, subst, ap, ◌∙◌, set}
use Rattle.std.specs.Vec.{with_item}
use Rattle.byte_io.specs.Bytes.{after_told}
use Rattle.trace_model.specs.Buffers.{Buffer}
use Rattle.trace_model.specs.History as model
use Rattle.trace_model.specs.History.{buffers_after}
use Rattle.trace_model.specs.Sequences.{is_known}
use Rattle.trace_model.specs.Reads.{delivered_by, with_read}
use Rattle.sequence_reader.specs.Ends.{record_bytes, EndsInRecordAt}
use Rattle.service_core.specs.Reading.{FailsIn}
use Rattle.service_core.proofs.KeptLemmas.{found_at}
use Rattle.service_core.proofs.ReadingLemmas.{MeetsBuffer, meets_buffer, read_buffers, read_taken, read_many, read_fails, delivered_most, read_on}
use Rattle.service_core.proofs.service.ServiceCore.read_writer.Goals as goal

pub index_mut-buffer-requires : goal.index_mut-buffer-requires
index_mut-buffer-requires g c =
    let setup = g.W.Words.means.setup c.args.table.now in
    let view = g.W.Words.means.service_view c.args.table.now c.args.self.now.seat in
    let core = c.args.self.now in
    let at = found_at setup view core c.args.place c.requires.asks.service.agrees c.requires.place c.index.result.now c.from-index.result c.index.ensures c.from-index.ensures in
    let inside = at.inside in
    let joined = core.buffers.ok.0 in
    omega (arith, inside, joined)

pub read_counted-delivered-requires-clause-known : goal.read_counted-delivered-requires-clause-known
read_counted-delivered-requires-clause-known g c =
    let setup = g.W.Words.means.setup c.args.table.now in
    let view = g.W.Words.means.service_view c.args.table.now c.args.self.now.seat in
    let meets = meets_buffer setup view c.args.self.now c.args.place c.requires.asks.service.agrees c.requires.place c.index.result.now c.from-index.result
    c.index_mut-buffer.result.now c.index.ensures c.from-index.ensures c.index_mut-buffer.ensures.value in
    ap (λ (b : Buffer). is_known b.sequences (c.args.place + 2)) meets.is ∙ meets.at.known

-- the buffer that was read is that of the writer, and the whole read was done there
whole : (g : _) (c : goal.After-note g) → MeetsBuffer c.args.self.now.buffers.items (c.from-index.result - 1) (c.args.place + 2) c.index_mut-buffer.result.now
    × (set c.args.self.now.buffers.items (c.from-index.result - 1) c.read_counted-delivered.new.buffer
    ≡ buffers_after c.args.self.now.buffers.items (model.Read (c.args.place + 2) c.args.limit ∷ []))
whole g c =
    let setup = g.W.Words.means.setup c.args.table.now in
    let view = g.W.Words.means.service_view c.args.table.now c.args.self.now.seat in
    let met = c.index_mut-buffer.result.now in
    let new = c.read_counted-delivered.new.buffer in
    let q = c.args.place + 2 in
    let meets = meets_buffer setup view c.args.self.now c.args.place c.requires.asks.service.agrees c.requires.place c.index.result.now c.from-index.result met
    c.index.ensures c.from-index.ensures c.index_mut-buffer.ensures.value in
    let after = subst (λ r. OnOk r (new ≡ with_read met q c.args.limit)) c.in-Ok.is c.read_counted-delivered.ensures.after in
    (meets, read_buffers c.args.self.now.buffers.items (c.from-index.result - 1) q met meets c.args.limit new after)

pub returns-in-Ok-clause-leaves : goal.returns-in-Ok-clause-leaves
returns-in-Ok-clause-leaves g c =
    let core = c.args.self.now in
    let done = record core { seat = c.note.new.seat; buffers = with_item core.buffers (c.from-index.result - 1) c.read_counted-delivered.new.buffer } in
    read_on g.W.Words.means c.args.table.now core c.note.new.self done (c.args.place + 2) c.args.limit c.requires.asks.service
    (record { layout = refl; specs = refl; writers = refl; session = refl }) (whole g c).1 refl
    (record { view = c.note.ensures.view; step = c.note.ensures.step; told = c.note.ensures.told })

pub returns-in-Ok-clause-reads : goal.returns-in-Ok-clause-reads
returns-in-Ok-clause-reads g c =
    let bs = c.args.self.now.buffers.items in
    let index = c.from-index.result - 1 in
    let q = c.args.place + 2 in
    let met = c.index_mut-buffer.result.now in
    let read = whole g c in
    let before = g.O.Sink.taken c.args.out.now in
    let taken = g.O.Sink.taken c.read_counted-delivered.new.out in
    let many = c.read_counted-delivered.result.delivered in
    let records = subst (λ r. OnOk r (taken ≡ after_told before (record_bytes q (delivered_by met q c.args.limit)))) c.in-Ok.is c.read_counted-delivered.ensures.records in
    let all = subst (λ r. OnOk r (many ≡ length (delivered_by met q c.args.limit))) c.in-Ok.is c.read_counted-delivered.ensures.whole in
    let most = delivered_most met q c.args.limit in
    record {
      view = c.note.ensures.view;
      buffers = read.1;
      taken = read_taken bs index q met read.0 c.args.limit before taken records;
      many = read_many bs index q met read.0 c.args.limit many all;
      most = omega (arith, most, all);
    }

-- or a write failed in it, and a read of what was delivered was done there
front : (g : _) (c : goal.After-note-in-Err g) → FailsIn c.args.self.now.buffers.items (c.args.place + 2) c.args.limit c.read_counted-delivered.result.delivered
    (g.O.Sink.taken c.args.out.now) (g.O.Sink.taken c.read_counted-delivered.new.out)
    × (set c.args.self.now.buffers.items (c.from-index.result - 1) c.read_counted-delivered.new.buffer
    ≡ buffers_after c.args.self.now.buffers.items (model.Read (c.args.place + 2) c.read_counted-delivered.result.delivered ∷ []))
front g c =
    let setup = g.W.Words.means.setup c.args.table.now in
    let view = g.W.Words.means.service_view c.args.table.now c.args.self.now.seat in
    let bs = c.args.self.now.buffers.items in
    let index = c.from-index.result - 1 in
    let met = c.index_mut-buffer.result.now in
    let new = c.read_counted-delivered.new.buffer in
    let q = c.args.place + 2 in
    let count = c.read_counted-delivered.result.delivered in
    let before = g.O.Sink.taken c.args.out.now in
    let taken = g.O.Sink.taken c.read_counted-delivered.new.out in
    let meets = meets_buffer setup view c.args.self.now c.args.place c.requires.asks.service.agrees c.requires.place c.index.result.now c.from-index.result met
    c.index.ensures c.from-index.ensures c.index_mut-buffer.ensures.value in
    let part = subst (λ r. OnErr r (EndsInRecordAt met new before taken q c.args.limit count)) c.in-Err.is c.read_counted-delivered.ensures.part in
    (read_fails bs index q met meets c.args.limit count new before taken part, read_buffers bs index q met meets count new part.buffer)

pub returns-in-Err-clause-leaves : goal.returns-in-Err-clause-leaves
returns-in-Err-clause-leaves g c =
    let core = c.args.self.now in
    let done = record core { seat = c.note-in-Err.new.seat; buffers = with_item core.buffers (c.from-index.result - 1) c.read_counted-delivered.new.buffer } in
    read_on g.W.Words.means c.args.table.now core c.note-in-Err.new.self done (c.args.place + 2) c.read_counted-delivered.result.delivered c.requires.asks.service
    (record { layout = refl; specs = refl; writers = refl; session = refl }) (front g c).1 refl
    (record { view = c.note-in-Err.ensures.view; step = c.note-in-Err.ensures.step; told = c.note-in-Err.ensures.told })

pub returns-in-Err-clause-fails : goal.returns-in-Err-clause-fails
returns-in-Err-clause-fails g c = record { count = c.read_counted-delivered.result.delivered; view = c.note-in-Err.ensures.view; fails = (front g c).0 }
