use Rattle.std.proofs.Common.{set, bit_and, sym, subst}
use Rattle.chunk_plain.proofs.Known as known
use Rattle.chunk_plain.specs.declared.setup.Spot.{Spot}
use Rattle.chunk_plain.specs.Plain.{IsKept}
use Rattle.page_geometry.specs.PageBits.{HasState, SetsState, KeepsOthers}
use Rattle.page_geometry.specs.declared.chunk_state.ChunkState.TheVariants.{Complete, BeingRead}
use Rattle.chunk_plain.proofs.plain.PlainTable.set_read.Goals as goal

pub invariant_of-self-clause-kept : goal.invariant_of-self-clause-kept
invariant_of-self-clause-kept c = let self = c.args.self.now in
    let at = c.spot-spot.result in let word = c.args.word in let new = bit_and word c.take_mask.result in let next = c.make_step.new.told.world in
    let steps = subst (λ (s : Spot). HasState word s.place Complete → SetsState word new s.place BeingRead) c.spot-spot.ensures.spot (c.take_mask.ensures.step word c.ranges.word.fits) in
    let others = subst (λ (s : Spot). KeepsOthers word new s.place) c.spot-spot.ensures.spot (c.take_mask.ensures.others word) in
    subst (λ (s : Spot). ∥ IsKept self.layout (set self.words.items s.page new) self.slots.items next ∥₁) (sym c.spot-spot.ensures.spot)
    (known.take_step self.layout self.words.items self.slots.items self.told.world self.kept next c.args.place c.args.chunk word new c.args.header self.laid c.requires.place c.requires.chunk c.requires.word c.requires.ready steps others c.make_step.ensures.world)
