use Rattle.std.proofs.Common.{◌≡◌, ◌∙◌, List, subst, ap}
use Rattle.chunk_plain.specs.Payload.{byte_at}
use Rattle.chunk_plain.specs.World.{World, status}
use Rattle.chunk_plain.specs.Stored.{Stored, stored_at}
use Rattle.chunk_plain.specs.Shows.{ShowsPayload}
use Rattle.chunk_plain.proofs.Looking as looking
use Rattle.chunk_plain.proofs.plain_words.PlainTableWords.load.Goals as goal

pub returns-clause-loads : goal.returns-clause-loads
returns-clause-loads c = let self = c.args.self.now in
    let words_are = c.words_of.ensures ∙ ap (λ (l : List Stored). (stored_at l c.args.chunk).words) c.deref.ensures.value in
    record {
      size = c.unpack.ensures.size;
      found = looking.load_found self.layout self.words.items self.slots.items self.told.world self.kept c.args.chunk c.unpack.new.into c.requires.chunk (c.unpack.ensures.size ∙ c.requires.size)
          (λ j below. c.unpack.ensures.bytes j below ∙ ap (λ l. byte_at l j) words_are);
      read = λ reading. looking.load_read self.layout self.words.items self.slots.items self.told.world self.kept c.args.chunk c.unpack.new.into c.requires.chunk (c.unpack.ensures.size ∙ c.requires.size)
          (λ j below. c.unpack.ensures.bytes j below ∙ ap (λ l. byte_at l j) words_are) reading c.requires.seat;
    }

pub returns-clause-shown : goal.returns-clause-shown
returns-clause-shown c = λ world e. let self = c.args.self.now in
    let words_are = c.words_of.ensures ∙ ap (λ (l : List Stored). (stored_at l c.args.chunk).words) c.deref.ensures.value in
    let same : self.told.world ≡ world = cc in
    subst (λ (w : World). ∥ ShowsPayload (status w c.args.chunk) c.unpack.new.into ∥₁) same
    (looking.load_shown self.layout self.words.items self.slots.items self.told.world self.kept c.args.chunk c.unpack.new.into c.requires.chunk (c.unpack.ensures.size ∙ c.requires.size)
    (λ j below. c.unpack.ensures.bytes j below ∙ ap (λ l. byte_at l j) words_are))
