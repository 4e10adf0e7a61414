use Rattle.std.proofs.Common.{◌≡◌, ◌<◌, ◌∙◌, get_or, length, bit_or, ap, sym, rules, List}
use Rattle.std.proofs.lemmas.Grind.{get_or_default_zero}
use Rattle.chunk_plain.proofs.Known as known
use Rattle.commit_body.specs.declared.body.CommitBody.{CommitBody}
use Rattle.chunk_plain.specs.Setup.{spot}
use Rattle.chunk_plain.specs.World.{writer}
use Rattle.chunk_plain.specs.Stored.{Stored, stored_at}
use Rattle.chunk_plain.specs.Plain.{StandsWhole}
use Rattle.chunk_plain.proofs.plain.PlainTable.set_complete.Goals as goal

pub spot-spot-requires : goal.spot-spot-requires
spot-spot-requires c = let self = c.args.self.now in known.held_inside self.layout self.words.items self.slots.items self.told.world self.kept c.args.place c.args.chunk c.args.position c.requires.held

pub invariant_of-self-clause-kept : goal.invariant_of-self-clause-kept
invariant_of-self-clause-kept c = let self = c.args.self.now in
    let at = c.spot-spot.result in let found = c.index-found.result.now in let body = c.body_of.result.now in
    let inside : at.page < length self.words.items = search rules in
    let there = sym (ap (λ (l : List Stored). (stored_at l c.args.chunk).body) c.deref.ensures.value) ∙ c.body_of.ensures in
    let is : found ≡ get_or self.words.items at.page 0 = c.index-found.ensures ∙ get_or_default_zero self.words.items at.page found inside in
    known.complete_step self.layout self.words.items self.slots.items self.told.world self.kept c.make_step.new.told.world c.args.place c.args.chunk c.args.position found (bit_or found c.complete_mask.result) body at
    c.spot-spot.ensures.spot self.laid c.requires.place c.requires.held there
    (known.some_is (λ (b : CommitBody). StandsWhole (spot self.layout c.args.chunk).payload_size (writer self.told.world c.args.place) c.args.position b) _ body there c.requires.whole)
    is (c.complete_mask.ensures.step found) (c.complete_mask.ensures.others found) c.make_step.ensures.world
