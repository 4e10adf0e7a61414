use Rattle.std.proofs.Common.{◌≡◌, ℕ, ◌/◌, ◌≤◌, ◌∙◌, List, length, refl, ap, sym, subst, arith, Some}
use Rattle.chunk_plain.specs.Payload.{StoredUpTo}
use Rattle.chunk_plain.specs.Views.{Draft, Held, WriterView}
use Rattle.chunk_plain.specs.World.{World, Writing, writer}
use Rattle.chunk_plain.specs.Steps.{redrafts, with_words, moved}
use Rattle.chunk_plain.specs.Drafts.{draft_at}
use Rattle.chunk_plain.specs.Stored.{stored_at}
use Rattle.chunk_plain.specs.Words.{KeepsSealed}
use Rattle.chunk_plain.proofs.Known as known
use Rattle.chunk_plain.proofs.Resting as resting
use Rattle.chunk_plain.proofs.Publishing as publishing
use Rattle.chunk_plain.proofs.plain_words.PlainTableWords.publish.Goals as goal

pub store_words-requires-clause-may : goal.store_words-requires-clause-may
store_words-requires-clause-may c = record {
  held = c.requires.may.held;
  size = ap (λ (l : List ℕ). length l) c.deref.ensures.value ∙ sym c.args.held.now.body.payload.ok.0 ∙ c.requires.may.size;
  order = c.stored_end-end.ensures.least;
  inside = let many = ap (λ (l : List ℕ). length l) c.deref.ensures.value in let joined = c.args.held.now.body.payload.ok.0 in
      let within = c.stored_end-end.ensures.within in omega arith;
  kept = subst (KeepsSealed (writer c.args.self.now.told.world c.args.seat.now.place) c.args.held.now.position) (sym c.deref.ensures.value) c.requires.may.kept;
}

pub returns-clause-view : goal.returns-clause-view
returns-clause-view c =
    let self = c.args.self.now in let place = c.args.seat.now.place in let chunk = c.args.held.now.chunk in let position = c.args.held.now.position in
    let copy = c.args.held.now.body.payload.items in
    let stored = (stored_at c.store_words.new.self.slots.items chunk).words in
    let old = draft_at (writer self.told.world place) position in
    let size = c.requires.may.size in let joined = c.args.held.now.body.payload.ok.0 in
    let whole : c.args.to ≤ length copy = let inside = c.requires.may.inside in omega arith in
    record {
      words = stored;
      bytes = publishing.published_range copy old.words stored c.args.from c.args.to c.stored_end-end.result
          c.requires.may.order whole (λ less. c.stored_end-end.ensures.some less) c.stored_end-end.ensures.most
          (subst (λ (l : List ℕ). StoredUpTo l (c.args.from / 8) c.stored_end-end.result old.words stored) c.deref.ensures.value c.store_words.ensures.words);
      view = publishing.drafted_view self.told.world c.store_words.new.self.told.world place chunk position (with_words old stored) c.store_words.ensures.world
          (known.seat_inside self.layout self.words.items self.slots.items self.told.world self.kept place c.requires.seat.inside);
    }

pub returns-clause-step : goal.returns-clause-step
returns-clause-step c =
    let self = c.args.self.now in let place = c.args.seat.now.place in let next = c.store_words.new.self.told.world in
    let chunk = c.args.held.now.chunk in let position = c.args.held.now.position in
    let draft : Draft = with_words (draft_at (writer self.told.world place) position) (stored_at c.store_words.new.self.slots.items chunk).words in
    let view = redrafts (writer self.told.world place) chunk position draft in
    let layout_is = c.store_words.ensures.layout in let world_is = c.store_words.ensures.world in
    let writers_are = ap (λ (w : World). w.writers) world_is in
    record {
      setup_stays = layout_is;
      seat_stays = resting.seat_stays self.layout _ place view (writer next place) layout_is
          (known.view_now self.layout self.words.items self.slots.items self.told.world self.kept next place view c.requires.seat.inside writers_are)
          (resting.entry_rest self.layout place (writer self.told.world place) c.requires.seat chunk position (Held chunk draft) c.requires.may.held refl);
      place_stays = refl;
      writers_stay = λ other there differs. resting.others_stay self.layout _ self.told.world next place view other.place layout_is writers_are there differs;
      service_stays = λ other serves. resting.serving_stays self.layout _ self.told.world.service next.service layout_is (ap (λ (w : World). w.service) world_is) serves;
      reads_stay = λ other takes. takes;
      letters_stay = ap (λ (v : WriterView). v.letters) (known.view_now self.layout self.words.items self.slots.items self.told.world self.kept next place view c.requires.seat.inside writers_are);
    }

pub returns-clause-told : goal.returns-clause-told
returns-clause-told c = λ world e.
    let self = c.args.self.now in let place = c.args.seat.now.place in let next = c.store_words.new.self.told.world in
    let chunk = c.args.held.now.chunk in let position = c.args.held.now.position in
    let draft : Draft = with_words (draft_at (writer self.told.world place) position) (stored_at c.store_words.new.self.slots.items chunk).words in
    let same : self.told.world ≡ world = cc in
    subst (λ (w : World). Some next ≡ Some (moved w place (writer next place) chunk (Writing place position (draft_at (writer next place) position)))) same
    (ap (λ (w : World). Some w) (resting.told_drafted self.told.world next place chunk position draft (known.seat_inside self.layout self.words.items self.slots.items self.told.world self.kept place c.requires.seat.inside) c.requires.may.held c.store_words.ensures.world))
