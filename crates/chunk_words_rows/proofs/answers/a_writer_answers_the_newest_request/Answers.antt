use Rattle.std.proofs.Common.{◌∙◌, ℕ, ap}
use Rattle.page_geometry.specs.Sizes.{payload_size}
use Rattle.chunk_words_rows.proofs.OnePage.{room}
use Rattle.chunk_words_rows.proofs.answers.a_writer_answers_the_newest_request.Goals as goal

pub writer_for-writer-requires-clause-size : goal.writer_for-writer-requires-clause-size
writer_for-writer-requires-clause-size g c =
    let geometry = c.in_ok-geometry.geometry in let made = c.in_ok-geometry.ensures in
    ap (λ (size : ℕ). payload_size size geometry.chunks) made.page_size ∙ (ap (λ (chunks : ℕ). payload_size 4096 chunks) made.chunks ∙ room)
