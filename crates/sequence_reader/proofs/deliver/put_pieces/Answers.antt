use Rattle.std.proofs.Common.{◌≡◌, ◌-◌, List, true, refl, sym, ap, ◌∙◌, subst, length}
use Rattle.trace_model.specs.Row.{Link}
use Rattle.trace_file.specs.Parts.{Writing}
use Rattle.sequence_reader.specs.Spots.{rows_of, cursor_of}
use Rattle.sequence_reader.proofs.PutLemmas.{IsPutting, PutsMore, puts_at, putting_at, putting_more, putting_part, on_err}
use Rattle.sequence_reader.proofs.deliver.put_pieces.Goals as goal

pub loop-next-init : goal.loop-next-init
loop-next-init g c = record {
  putting = putting_at c.args.buffer.now c.args.bounds c.args.spot c.args.first (g.O.Sink.taken c.args.out.now) c.args.writer.now.left c.requires.first c.requires.packet;
  writer = refl;
  faults = refl;
  may = c.requires.may;
}

pub returns-in_err-part-clause-part : goal.returns-in_err-part-clause-part
returns-in_err-part-clause-part g c =
    let is = c.loop-next.invariant.putting in
    let start : List Link = rows_of c.args.buffer.now c.args.bounds.sequence (cursor_of c.args.spot) in
    let now : List Link = rows_of c.args.buffer.now c.args.bounds.sequence (cursor_of is.at) in
    let behind : List Link = rows_of c.args.buffer.now c.args.bounds.sequence (cursor_of c.loop-next.piece.behind) in
    let puts = puts_at c.args.buffer.now c.args.bounds is.at c.loop-next.piece c.loop-next.writer.left is.here is.putting.whole in
    on_err c.from_residual.result _
    (putting_part start now behind (g.O.Sink.taken c.args.out.now) (g.O.Sink.taken c.loop-next.out) c.loop-next.writer.left c.loop-next.piece.bytes.now
    is.putting (g.O.Sink.taken c.part.new.out) c.loop-next.piece.runs_on puts c.in_err-part.ensures.part)

pub loop-next-preserved : goal.loop-next-preserved
loop-next-preserved g c =
    let is = c.loop-next.invariant.putting in
    let start : List Link = rows_of c.args.buffer.now c.args.bounds.sequence (cursor_of c.args.spot) in
    let now : List Link = rows_of c.args.buffer.now c.args.bounds.sequence (cursor_of is.at) in
    let behind : List Link = rows_of c.args.buffer.now c.args.bounds.sequence (cursor_of c.loop-next.piece.behind) in
    let bytes = c.loop-next.piece.bytes.now in
    let puts = puts_at c.args.buffer.now c.args.bounds is.at c.loop-next.piece c.loop-next.writer.left is.here is.putting.whole in
    let more : PutsMore now bytes true behind c.loop-next.writer.left = subst (λ r. PutsMore now bytes r behind c.loop-next.writer.left) c.if-not-piece.false puts in
    let left : c.part.new.self.left ≡ c.loop-next.writer.left - length bytes = ap (λ (w : Writing). w.left) c.in_ok-part.ensures.left in
    record {
      putting = record {
        at = c.loop-next.piece.behind;
        here = c.in-Fragment.ensures.shows;
        putting = subst (IsPutting start behind (g.O.Sink.taken c.args.out.now) (g.O.Sink.taken c.part.new.out)) (sym left)
            (putting_more start now behind (g.O.Sink.taken c.args.out.now) (g.O.Sink.taken c.loop-next.out) c.loop-next.writer.left bytes
            is.putting (g.O.Sink.taken c.part.new.out) more c.in_ok-part.ensures.all);
      };
      writer = c.in_ok-part.ensures.left
          ∙ (λ i. record (c.loop-next.invariant.writer i) { left = sym left i });
      faults = c.in_ok-part.ensures.count ∙ c.loop-next.invariant.faults;
      may = c.in_ok-part.ensures.goes_on;
    }
