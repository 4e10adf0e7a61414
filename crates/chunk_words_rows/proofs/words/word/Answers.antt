use Rattle.std.proofs.Common.{arith}
use Rattle.chunk_words_rows.proofs.Takings.{looked}
use Rattle.chunk_words_rows.proofs.words.word.Goals as goal

pub look-word-requires-clause-chunk : goal.look-word-requires-clause-chunk
look-word-requires-clause-chunk c = c.requires.page.inside 0 (omega arith)

pub returns-clause-taken : goal.returns-clause-taken
returns-clause-taken c = let looks = c.look-word.ensures.view in looked c.args.service.now c.look-word.new.seat 0 _ _ 0 looks.found c.requires.taken looks.view
