use Rattle.std.proofs.Common.{◌∙◌, ℕ, ap, arith}
use Rattle.page_geometry.specs.Sizes.{payload_size}
use Rattle.chunk_words_rows.proofs.OnePage.{room}
use Rattle.chunk_words_rows.proofs.writing.the_service_takes_all_that_two_writers_complete.Goals as goal

pub all_three-service-requires-clause-size : goal.all_three-service-requires-clause-size
all_three-service-requires-clause-size g c = λ κs.
    let geometry = c.in_ok-geometry.geometry in let made = c.in_ok-geometry.ensures in
    ap (λ (size : ℕ). payload_size size geometry.chunks) made.page_size ∙ (ap (λ (chunks : ℕ). payload_size 4096 chunks) made.chunks ∙ room)

pub look-requires-clause-chunk : goal.look-requires-clause-chunk
look-requires-clause-chunk g c = c.in_ok-host.ensures.page.inside 0 (omega arith)
