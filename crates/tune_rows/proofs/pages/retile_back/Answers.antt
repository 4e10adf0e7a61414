use Rattle.std.proofs.Common.{◌∙◌, ap, sym}
use Rattle.layout_tuner.specs.PageWords.{chunks_of}
use Rattle.layout_tuner.specs.Knows.{first_spots}
use Rattle.layout_tuner.specs.Sits.{known_by}
use Rattle.tune_run.proofs.Giving.{partitioned_claims}
use Rattle.tune_rows.proofs.pages.retile_back.Goals as goal

pub give_all-requires-clause-claimed : goal.give_all-requires-clause-claimed
give_all-requires-clause-claimed t c =
    let tile = c.in-Ok.tile in let is = c.in-Ok.ensures.ok in
    partitioned_claims c.args.page c.args.layout (known_by c.args.seat.now) (known_by c.retile.new.seat) c.requires.seat.none is.partitions
    ∙ (ap (λ p. first_spots p (chunks_of c.args.layout)) (sym is.page_is) ∙ ap (first_spots tile.page) (sym is.chunks_are))
