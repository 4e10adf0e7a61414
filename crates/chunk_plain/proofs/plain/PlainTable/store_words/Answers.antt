use Rattle.std.proofs.Common.{◌<◌, ◌∙◌, ℕ, List, length, ap, subst, arith}
use Rattle.chunk_plain.specs.Payload.{StoredUpTo}
use Rattle.chunk_plain.specs.Stored.{Stored, stored_at}
use Rattle.chunk_plain.specs.Steps.{with_words, drafted}
use Rattle.chunk_plain.specs.Drafts.{draft_at}
use Rattle.chunk_plain.specs.World.{writer}
use Rattle.chunk_plain.proofs.Known as known
use Rattle.chunk_plain.proofs.Publishing.{sealed_stays}
use Rattle.chunk_plain.proofs.plain.PlainTable.store_words.Goals as goal

pub put_words-requires-clause-inside : goal.put_words-requires-clause-inside
put_words-requires-clause-inside c = let self = c.args.self.now in
    let inside : c.args.chunk < length self.layout.spots = known.held_inside self.layout self.words.items self.slots.items self.told.world self.kept c.args.place c.args.chunk c.args.position c.requires.may.held in omega (arith, self.slot_count)

pub put_words-requires-clause-within : goal.put_words-requires-clause-within
put_words-requires-clause-within c = let self = c.args.self.now in
    let inside = known.held_inside self.layout self.words.items self.slots.items self.told.world self.kept c.args.place c.args.chunk c.args.position c.requires.may.held in
    let room = known.room self.layout self.words.items self.slots.items self.told.world self.kept c.args.chunk inside in
    let size = c.requires.may.size in let most = c.requires.may.inside in omega arith

pub returns-clause-words : goal.returns-clause-words
returns-clause-words c = let self = c.args.self.now in
    subst (λ (l : List ℕ). StoredUpTo c.args.payload.now c.args.first c.args.end l (stored_at c.put_words.new.slots.items c.args.chunk).words)
    (known.draft_here self.layout self.words.items self.slots.items self.told.world self.kept c.args.place c.args.chunk c.args.position c.requires.may.held)
    c.put_words.ensures.words

pub words_of-requires : goal.words_of-requires
words_of-requires c = let self = c.args.self.now in
    let inside : c.args.chunk < length self.layout.spots = known.held_inside self.layout self.words.items self.slots.items self.told.world self.kept c.args.place c.args.chunk c.args.position c.requires.may.held in
    let same = c.put_words.ensures.len in let seen = c.deref.ensures.len in omega (arith, self.slot_count, same, seen)

pub returns-clause-world : goal.returns-clause-world
returns-clause-world c = let self = c.args.self.now in
    let seen = c.words_of.ensures ∙ ap (λ (l : List Stored). (stored_at l c.args.chunk).words) c.deref.ensures.value in
    c.make_step.ensures.world
    ∙ ap (λ (l : List ℕ). drafted self.told.world c.args.place c.args.chunk c.args.position (with_words (draft_at (writer self.told.world c.args.place) c.args.position) l)) seen

pub invariant_of-self-clause-kept : goal.invariant_of-self-clause-kept
invariant_of-self-clause-kept c =
    let self = c.args.self.now in let stored = (stored_at c.put_words.new.slots.items c.args.chunk).words in
    let seen = c.words_of.ensures ∙ ap (λ (l : List Stored). (stored_at l c.args.chunk).words) c.deref.ensures.value in
    let draft = draft_at (writer self.told.world c.args.place) c.args.position in
    let upto : StoredUpTo c.args.payload.now c.args.first c.args.end draft.words stored =
    subst (λ (l : List ℕ). StoredUpTo c.args.payload.now c.args.first c.args.end l stored)
    (known.draft_here self.layout self.words.items self.slots.items self.told.world self.kept c.args.place c.args.chunk c.args.position c.requires.may.held)
    c.put_words.ensures.words in
    known.words_step self.layout self.words.items self.slots.items self.told.world self.kept c.make_step.new.told.world c.put_words.new.slots.items c.args.place c.args.chunk c.args.position stored
    self.laid c.requires.place c.requires.may.held c.put_words.ensures.words.count
    (sealed_stays (writer self.told.world c.args.place) c.args.position c.args.first c.args.end c.args.payload.now stored c.requires.may.kept upto)
    c.put_words.ensures.rest
    (c.make_step.ensures.world
    ∙ ap (λ (l : List ℕ). drafted self.told.world c.args.place c.args.chunk c.args.position (with_words draft l)) seen)
