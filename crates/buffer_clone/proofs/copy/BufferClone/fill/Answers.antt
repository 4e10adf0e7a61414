use Rattle.std.proofs.Common.{sym, ap, ◌∙◌}
use Rattle.trace_buffer.specs.Clones.{numbers_of}
use Rattle.buffer_clone.proofs.NumberLemmas.{same_numbers}
use Rattle.buffer_clone.proofs.copy.BufferClone.fill.Goals as goal

pub close_all-requires : goal.close_all-requires
close_all-requires c =
    c.deref.ensures.value ∙ c.self.invariant.numbers ∙ ap numbers_of c.self.view_is
    ∙ same_numbers c.args.self.now.sequences c.args.buffer.now.sequences c.requires.sequences
    ∙ ap numbers_of (sym c.copy_from.ensures)

pub reset_all-requires : goal.reset_all-requires
reset_all-requires c =
    c.deref-2.ensures.value ∙ c.self.invariant.numbers ∙ ap numbers_of c.self.view_is
    ∙ same_numbers c.args.self.now.sequences c.args.buffer.now.sequences c.requires.sequences
    ∙ ap numbers_of (sym c.copy_from.ensures)
    ∙ sym c.close_all.ensures.same

pub invariant_of-self : goal.invariant_of-self
invariant_of-self c = record {
  numbers = c.self.invariant.numbers ∙ ap numbers_of c.self.view_is
      ∙ same_numbers c.args.self.now.sequences c.args.buffer.now.sequences c.requires.sequences
      ∙ ap numbers_of (sym c.copy_from.ensures)
      ∙ sym c.close_all.ensures.same
      ∙ sym c.reset_all.ensures.same;
}
