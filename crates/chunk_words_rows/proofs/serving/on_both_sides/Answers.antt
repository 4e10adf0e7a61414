use Rattle.std.proofs.Common.{ℕ, ◌<◌, ◌∙◌, subst, sym, ap, arith}
use Rattle.chunk_plain.specs.Setup.{IsChunkOf, producer_of, from_of}
use Rattle.chunk_words.specs.Sits.{setup_in}
use Rattle.chunk_words_rows.proofs.serving.on_both_sides.Goals as goal

pub join-filled-requires-after_bounds : goal.join-filled-requires-after_bounds
join-filled-requires-after_bounds g c κs lives =
    let setup = setup_in c.args.host.now in
    let own : (chunk : ℕ) → chunk < 14 → IsChunkOf setup (producer_of setup c.args.writer.place) chunk
    = λ chunk below. subst (λ p. IsChunkOf setup (producer_of setup p) chunk) (sym c.requires.writer.0) (c.requires.page.chunks chunk 0 (omega arith) below) in
    let from = ap (from_of setup) c.requires.writer.0 ∙ c.requires.page.froms 0 (omega arith) in (
      (λ _ _ _ _. (c.requires.writer.1, (c.requires.writer.2, (own, (from, omega arith))))),
      (λ _ _ _ _. (c.requires.page, (c.requires.service, (c.requires.next, omega arith)))),
    )
