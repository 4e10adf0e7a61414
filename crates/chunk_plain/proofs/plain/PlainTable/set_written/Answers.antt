use Rattle.std.proofs.Common.{◌≡◌, ◌<◌, ◌∙◌, get_or, length, bit_or, ap, subst, arith, rules, List, ℕ}
use Rattle.std.proofs.lemmas.Grind.{get_or_default_zero}
use Rattle.chunk_plain.proofs.Known as known
use Rattle.chunk_plain.specs.Stored.{Stored, stored_at}
use Rattle.chunk_plain.specs.Views.{fresh}
use Rattle.chunk_plain.specs.World.{Writing, writer}
use Rattle.chunk_plain.specs.Steps.{begins, moved}
use Rattle.chunk_plain.proofs.plain.PlainTable.set_written.Goals as goal

pub spot-spot-requires : goal.spot-spot-requires
spot-spot-requires c = let self = c.args.self.now in known.stamped_inside self.layout self.words.items self.slots.items self.told.world self.kept c.args.place c.args.chunk _ c.requires.stamped

pub words_of-requires : goal.words_of-requires
words_of-requires c = let self = c.args.self.now in
    let inside : c.args.chunk < length self.layout.spots = known.stamped_inside self.layout self.words.items self.slots.items self.told.world self.kept c.args.place c.args.chunk _ c.requires.stamped in
    omega (arith, self.slot_count, c.deref.ensures.len)

pub invariant_of-self-clause-kept : goal.invariant_of-self-clause-kept
invariant_of-self-clause-kept c = let self = c.args.self.now in
    let at = c.spot-spot.result in let found = c.index-found.result.now in
    let inside : at.page < length self.words.items = search rules in
    let words_is = c.words_of.ensures ∙ ap (λ (l : List Stored). (stored_at l c.args.chunk).words) c.deref.ensures.value in
    let is : found ≡ get_or self.words.items at.page 0 = c.index-found.ensures ∙ get_or_default_zero self.words.items at.page found inside in
    known.begin_step self.layout self.words.items self.slots.items self.told.world self.kept c.make_step.new.told.world c.args.place c.args.chunk found (bit_or found c.begin_mask.result) at
    c.spot-spot.ensures.spot self.laid c.requires.place c.requires.stamped is (c.begin_mask.ensures.step found) (c.begin_mask.ensures.others found)
    (subst (λ (w : List ℕ). c.make_step.new.told.world ≡ moved self.told.world c.args.place (begins (writer self.told.world c.args.place) c.args.chunk w) c.args.chunk (Writing c.args.place (length (writer self.told.world c.args.place).begun) (fresh w)))
    words_is c.make_step.ensures.world)
