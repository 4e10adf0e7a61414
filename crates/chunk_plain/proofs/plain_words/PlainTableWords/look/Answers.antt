use Rattle.std.proofs.Common.{◌≡◌, subst}
use Rattle.page_geometry.specs.Header.{packed}
use Rattle.chunk_plain.specs.Setup.{spot}
use Rattle.chunk_plain.specs.World.{World, status}
use Rattle.chunk_plain.specs.Shows.{ShowsPage, ShowsHeader}
use Rattle.chunk_plain.proofs.Looking.{look_shown}
use Rattle.chunk_plain.proofs.plain_words.PlainTableWords.look.Goals as goal

pub returns-clause-shown : goal.returns-clause-shown
returns-clause-shown c = λ world e.
    let self = c.args.self.now in let seen = c.peek-seen.result in
    let same : self.told.world ≡ world = cc in
    subst (λ (w : World). ∥ (ShowsPage self.layout w (spot self.layout c.args.chunk) seen.word.0 (status w c.args.chunk) × ShowsHeader self.layout (packed seen.header) (status w c.args.chunk)) ∥₁) same
    (look_shown self.layout self.words.items self.slots.items self.told.world self.kept c.args.chunk seen.word.0 (packed seen.header) c.requires.chunk c.peek-seen.ensures.word c.peek-seen.ensures.header)
