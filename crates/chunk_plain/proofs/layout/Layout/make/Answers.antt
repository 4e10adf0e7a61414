use Rattle.chunk_plain.proofs.LayingLemmas.{setup_laid}
use Rattle.chunk_plain.proofs.layout.Layout.make.Goals as goal

pub invariant_of-result : goal.invariant_of-result
invariant_of-result c =
    rw (c.in_ok-pages.ensures.pages, c.in_ok-pages.ensures.spots, c.in_ok-pages.ensures.ranges, c.in_ok-sizes.ensures) (setup_laid c.args.producers.now c.in_ok-to_vec.field-0.items c.requires.producers c.requires.some_page c.requires.pages)
