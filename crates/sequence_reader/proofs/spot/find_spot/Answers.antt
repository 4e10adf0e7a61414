use Rattle.std.proofs.Common.{◌≡◌, suc, ◌+◌, sym, ap, ◌∙◌, arith}
use Rattle.trace_model.specs.Buffers.{live_at}
use Rattle.trace_model.specs.Row.{place}
use Rattle.sequence_reader.specs.declared.spot.Spot.{Spot}
use Rattle.sequence_reader.specs.Spots.{rows_of, cursor_of}
use Rattle.sequence_reader.proofs.StepLemmas.{lent}
use Rattle.sequence_reader.proofs.SpotLemmas.{fits_within, fits_part, passed_row}
use Rattle.sequence_reader.proofs.spot.find_spot.Goals as goal

pub returns-then-passed-key-clause-spot : goal.returns-then-passed-key-clause-spot
returns-then-passed-key-clause-spot c low other found =
    let o = live_at c.args.buffer.now c.args.bounds.sequence c.args.cursor.chunk_id in
    let image = lent c.in-Some.key c.in-Some.payload.now o c.in-Some.ensures.some in
    fits_within c.in-Some.key c.in-Some.payload.now image.stored other o c.args.bounds.closed
    (record { chunk_id = c.args.cursor.chunk_id; passed = c.args.cursor.passed; offset = c.start_of-offset.result })
    image.tells image.live found c.if-passed-key.true c.start_of-offset.ensures

pub returns-then-both-clause-spot : goal.returns-then-both-clause-spot
returns-then-both-clause-spot c low other found =
    let o = live_at c.args.buffer.now c.args.bounds.sequence c.args.cursor.chunk_id in
    let image = lent c.in-Some.key c.in-Some.payload.now o c.in-Some.ensures.some in
    fits_part c.in-Some.key c.in-Some.payload.now image.stored other o c.args.bounds.closed
    (record { chunk_id = c.args.cursor.chunk_id; passed = c.args.cursor.passed; offset = 0 })
    image.tells image.live found c.if-passed-key.false (sym c.both.ensures ∙ c.if-both.true)

pub returns-clause-row : goal.returns-clause-row
returns-clause-row c =
    let o = live_at c.args.buffer.now c.args.bounds.sequence c.args.cursor.chunk_id in
    let image = lent c.in-Some.key c.in-Some.payload.now o c.in-Some.ensures.some in
    let next : suc c.args.cursor.chunk_id ≡ c.args.cursor.chunk_id + 1 = omega arith in
    passed_row c.args.buffer.now c.args.bounds c.args.cursor.chunk_id c.args.cursor.passed c.in-Some.key c.in-Some.payload.now image.stored
    c.requires.bounds image.tells image.live c.if-chunk_id-bounds.false c.if-passed-key.false (sym c.both.ensures ∙ c.if-both.false)
    ∙ ap (λ n. rows_of c.args.buffer.now c.args.bounds.sequence (place n 0)) next
    ∙ ap (λ (spot : Spot). rows_of c.args.buffer.now c.args.bounds.sequence (cursor_of spot)) (sym c.at_start.ensures)
