use Rattle.std.proofs.Common.{◌≡◌, ◌<◌, ◌∙◌, get_or, length, vec_len, bit_and, rules}
use Rattle.std.proofs.lemmas.Grind.{get_or_default_zero}
use Rattle.chunk_plain.proofs.Known as known
use Rattle.commit_body.specs.declared.body.CommitBody.{CommitBody}
use Rattle.chunk_plain.specs.Setup.{spot}
use Rattle.chunk_plain.specs.Stored.{stored_at}
use Rattle.chunk_plain.proofs.plain.PlainTable.set_free.Goals as goal

pub spot-spot-requires : goal.spot-spot-requires
spot-spot-requires c = let self = c.args.self.now in known.read_inside self.layout self.words.items self.slots.items self.told.world self.kept c.args.chunk c.requires.reading

pub invariant_of-self-clause-kept : goal.invariant_of-self-clause-kept
invariant_of-self-clause-kept c = let self = c.args.self.now in
    let at = c.spot-spot.result in let found = c.index-found.result.now in
    let inside : at.page < length self.words.items = search rules in
    let is : found ≡ get_or self.words.items at.page 0 = c.index-found.ensures ∙ get_or_default_zero self.words.items at.page found inside in
    let there = known.some_there (stored_at self.slots.items c.args.chunk).body c.requires.body in
    known.free_step self.layout self.words.items self.slots.items self.told.world self.kept c.make_step.new.told.world c.args.chunk found (bit_and found c.release_mask.result) there.0 at
    c.spot-spot.ensures.spot self.laid c.requires.reading there.1
    (known.some_is (λ (b : CommitBody). vec_len b.payload ≡ (spot self.layout c.args.chunk).payload_size) _ there.0 there.1 c.requires.size)
    is (c.release_mask.ensures.step found c.type_inv.found.fits) (c.release_mask.ensures.others found) c.make_step.ensures.world
