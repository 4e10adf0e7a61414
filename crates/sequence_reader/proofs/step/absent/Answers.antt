use Rattle.std.proofs.Common.{◌<◌, ◌∷◌, [], suc, true, false, refl, cond, sym, ap, ◌∙◌, subst}
use Rattle.trace_model.specs.Row.{Gap, Stop, place, horizon}
use Rattle.trace_model.specs.Row as row
use Rattle.trace_model.specs.Sequences.{sequence_in}
use Rattle.sequence_reader.specs.Spots.{rows_of, cursor_of}
use Rattle.sequence_reader.specs.Steps.{Shows}
use Rattle.sequence_reader.proofs.RowLemmas.{row_gone, row_never, slot_gone, slot_never}
use Rattle.sequence_reader.proofs.step.absent.Goals as goal

pub returns-then-lost : goal.returns-then-lost
returns-then-lost c =
    let b = c.args.buffer.now in
    let q = c.args.bounds.sequence in
    let i = c.args.spot.chunk_id in
    let before : i < horizon (sequence_in b.sequences q) = subst (λ n. i < n) (sym c.requires.bounds.end) c.requires.before in
    record {
      shows = record {
        links = row_gone b (sequence_in b.sequences q) i c.args.spot.passed
            (slot_gone b q i c.lost.result c.requires.bounds.known c.requires.none c.lost.ensures c.if-lost.true) before;
        before = c.requires.before;
      };
    }

pub returns-then-bounds : goal.returns-then-bounds
returns-then-bounds c =
    let b = c.args.buffer.now in
    let q = c.args.bounds.sequence in
    let i = c.args.spot.chunk_id in
    let before : i < horizon (sequence_in b.sequences q) = subst (λ n. i < n) (sym c.requires.bounds.end) c.requires.before in
    record {
      shows = record {
        links = row_never b (sequence_in b.sequences q) i c.args.spot.passed
            (slot_never b q i c.lost.result c.requires.bounds.known c.requires.none c.lost.ensures c.if-lost.false) before
            ∙ ap (λ p. cond p (Gap (cursor_of c.args.spot) (place (suc i) 0) false ∷ rows_of b q (place (suc i) 0)) (Stop (cursor_of c.args.spot) row.Missing true ∷ []))
            (c.requires.bounds.closed ∙ c.if-bounds.true);
        before = c.requires.before;
      };
    }

pub returns : goal.returns
returns c =
    let b = c.args.buffer.now in
    let q = c.args.bounds.sequence in
    let i = c.args.spot.chunk_id in
    let before : i < horizon (sequence_in b.sequences q) = subst (λ n. i < n) (sym c.requires.bounds.end) c.requires.before in
    record {
      shows = subst (Shows b c.args.bounds c.args.spot) (sym c.missing.ensures)
          (record {
            at = cursor_of c.args.spot;
            reason = row.Missing;
            links_are = row_never b (sequence_in b.sequences q) i c.args.spot.passed
                (slot_never b q i c.lost.result c.requires.bounds.known c.requires.none c.lost.ensures c.if-lost.false) before
                ∙ ap (λ p. cond p (Gap (cursor_of c.args.spot) (place (suc i) 0) false ∷ rows_of b q (place (suc i) 0)) (Stop (cursor_of c.args.spot) row.Missing true ∷ []))
                (c.requires.bounds.closed ∙ c.if-bounds.false);
            told = refl;
          });
    }
