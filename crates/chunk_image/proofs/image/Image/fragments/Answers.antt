use Rattle.std.proofs.Common.{ap, sym, ◌∙◌, arith}
use Rattle.trace_model.specs.Reading.{Fragments, Unreadable}
use Rattle.chunk_image.proofs.ReadingLemmas.{reading_part, reading_all, every_read, none_read}
use Rattle.chunk_image.proofs.image.Image.fragments.Goals as goal

pub returns-then-readable-max-clause-reading : goal.returns-then-readable-max-clause-reading
returns-then-readable-max-clause-reading c =
    ap Unreadable c.readable_count-readable.ensures
    ∙ sym (reading_part c.args.self.now.count c.args.self.now.payload.now (omega arith))

pub returns-then-readable-max-clause-every : goal.returns-then-readable-max-clause-every
returns-then-readable-max-clause-every c fragments reads long =
    none_read c.args.self.now.count c.args.self.now.payload.now fragments (omega arith) reads long

pub returns-clause-reading : goal.returns-clause-reading
returns-clause-reading c =
    ap Fragments c.new-fragments.ensures.fragments
    ∙ sym (reading_all c.args.self.now.count c.args.self.now.payload.now (omega arith))

pub returns-clause-every : goal.returns-clause-every
returns-clause-every c fragments reads long =
    c.new-fragments.ensures.fragments
    ∙ every_read c.args.self.now.count c.args.self.now.payload.now fragments (omega arith) reads long
