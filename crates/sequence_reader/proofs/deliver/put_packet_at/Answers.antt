use Rattle.std.proofs.Common.{◌≡◌, ℕ, Bool, List, length, sym, ap, ap₂, ◌∙◌, subst}
use Rattle.std.proofs.lemmas.Result.{on_err_weaker}
use Rattle.trace_base.proofs.Choices.{on_ok}
use Rattle.byte_io.specs.Bytes.{Intake, after_told, TakesPart}
use Rattle.trace_file.specs.Parts.{Writing, record_head, record_tail}
use Rattle.trace_file.proofs.RecordLemmas.{written_whole, part_of_head, part_of_body, part_of_tail}
use Rattle.sequence_reader.specs.Spots.{rows_of, cursor_of}
use Rattle.sequence_reader.specs.Links.{first_bytes}
use Rattle.sequence_reader.proofs.PutLemmas.{first_long, on_err}
use Rattle.sequence_reader.proofs.deliver.put_packet_at.Goals as goal

-- the head, by the bytes that follow
head_is : (before mid : Intake) (body : List ℕ) (len sequence : ℕ) (marked : Bool) → length body ≡ len → mid ≡ after_told before (record_head len sequence marked)
    → mid ≡ after_told before (record_head (length body) sequence marked)
head_is before mid body len sequence marked long is = is ∙ ap (λ n. after_told before (record_head n sequence marked)) (sym long)

-- the tail, as the writer keeps it
tail_is : (writer start : Writing) (len sequence : ℕ) (marked : Bool) → writer ≡ record start { left = 0 } → start ≡ record { left = len; sequence = sequence; marked = marked }
    → record_tail writer.sequence writer.marked ≡ record_tail sequence marked
tail_is writer start len sequence marked after begun =
    ap₂ record_tail (ap (λ (w : Writing). w.sequence) after ∙ ap (λ (w : Writing). w.sequence) begun) (ap (λ (w : Writing). w.marked) after ∙ ap (λ (w : Writing). w.marked) begun)

pub returns-in_err-writer-clause-part : goal.returns-in_err-writer-clause-part
returns-in_err-writer-clause-part g c =
    let body : List ℕ = first_bytes (rows_of c.args.buffer.now c.args.bounds.sequence (cursor_of c.args.spot)) in
    let long : length body ≡ c.args.len = first_long _ c.args.len c.requires.packet in
    let before = g.O.Sink.taken c.args.out.now in
    let after = g.O.Sink.taken c.start_long.new.out in
    on_err c.from_residual.result _
    (part_of_head before after body c.args.bounds.sequence c.args.marked
    (subst (λ n. TakesPart before after (record_head n c.args.bounds.sequence c.args.marked)) (sym long) c.in_err-writer.ensures.part))

pub returns-in_err-put_pieces-clause-part : goal.returns-in_err-put_pieces-clause-part
returns-in_err-put_pieces-clause-part g c =
    let body : List ℕ = first_bytes (rows_of c.args.buffer.now c.args.bounds.sequence (cursor_of c.args.spot)) in
    let long : length body ≡ c.args.len = first_long _ c.args.len c.requires.packet in
    let before = g.O.Sink.taken c.args.out.now in
    let mid = g.O.Sink.taken c.start_long.new.out in
    on_err c.from_residual-in_err-put_pieces.result _
    (part_of_body before mid (g.O.Sink.taken c.put_pieces.new.out) body c.args.bounds.sequence c.args.marked
    (head_is before mid body c.args.len c.args.bounds.sequence c.args.marked long c.in_ok-writer.ensures.all) c.in_err-put_pieces.ensures.part)

pub returns-clause-all : goal.returns-clause-all
returns-clause-all g c =
    let body : List ℕ = first_bytes (rows_of c.args.buffer.now c.args.bounds.sequence (cursor_of c.args.spot)) in
    let long : length body ≡ c.args.len = first_long _ c.args.len c.requires.packet in
    let before = g.O.Sink.taken c.args.out.now in
    let mid = g.O.Sink.taken c.start_long.new.out in
    let last = g.O.Sink.taken c.put_pieces.new.out in
    let tail = tail_is c.put_pieces.new.writer c.in_ok-writer.writer c.args.len c.args.bounds.sequence c.args.marked c.in_ok-put_pieces.ensures.ended c.in_ok-writer.ensures.writer in
    on_ok c.end.result _ _
    (λ took.
    took
    ∙ ap₂ after_told (c.in_ok-put_pieces.ensures.all ∙ ap (λ i. after_told i body) (head_is before mid body c.args.len c.args.bounds.sequence c.args.marked long c.in_ok-writer.ensures.all)) tail
    ∙ written_whole before body c.args.bounds.sequence c.args.marked)
    c.end.ensures.all

pub returns-clause-part : goal.returns-clause-part
returns-clause-part g c =
    let body : List ℕ = first_bytes (rows_of c.args.buffer.now c.args.bounds.sequence (cursor_of c.args.spot)) in
    let long : length body ≡ c.args.len = first_long _ c.args.len c.requires.packet in
    let before = g.O.Sink.taken c.args.out.now in
    let mid = g.O.Sink.taken c.start_long.new.out in
    let last = g.O.Sink.taken c.put_pieces.new.out in
    let tail = tail_is c.put_pieces.new.writer c.in_ok-writer.writer c.args.len c.args.bounds.sequence c.args.marked c.in_ok-put_pieces.ensures.ended c.in_ok-writer.ensures.writer in
    on_err_weaker c.end.result
    (λ part.
    part_of_tail before mid last (g.O.Sink.taken c.end.new.out) body c.args.bounds.sequence c.args.marked
    (head_is before mid body c.args.len c.args.bounds.sequence c.args.marked long c.in_ok-writer.ensures.all) c.in_ok-put_pieces.ensures.all
    (subst (TakesPart last (g.O.Sink.taken c.end.new.out)) tail part))
    c.end.ensures.part
