use Rattle.std.proofs.Common.{◌≡◌, refl, ap, subst, Some}
use Rattle.chunk_plain.proofs.Resting as resting
use Rattle.chunk_plain.specs.World.{World, Writing, writer}
use Rattle.chunk_plain.specs.Views.{Held, WriterView}
use Rattle.chunk_plain.specs.Steps.{redrafts, with_head, moved}
use Rattle.chunk_plain.specs.Drafts.{draft_at, ends_by}
use Rattle.std.proofs.Common.{ℕ, ◌+◌, ◌<◌, ◌∙◌, length, arith}
use Rattle.page_geometry.specs.Header.{packed}
use Rattle.chunk_plain.proofs.Known as known
use Rattle.chunk_plain.proofs.plain_words.PlainTableWords.set_header.Goals as goal

pub id_at-requires : goal.id_at-requires
id_at-requires c = c.requires.seat.inside

pub header_index-at-requires : goal.header_index-at-requires
header_index-at-requires c = let self = c.args.self.now in known.held_inside self.layout self.words.items self.slots.items self.told.world self.kept c.args.seat.now.place c.args.held.now.chunk c.args.held.now.position c.requires.may.held

pub index_mut-requires : goal.index_mut-requires
index_mut-requires c = let self = c.args.self.now in
    let inside : c.args.held.now.chunk < length self.layout.spots = known.held_inside self.layout self.words.items self.slots.items self.told.world self.kept c.args.seat.now.place c.args.held.now.chunk c.args.held.now.position c.requires.may.held in omega (arith, self.word_count, c.header_index-at.ensures)

pub invariant_of-self-clause-kept : goal.invariant_of-self-clause-kept
invariant_of-self-clause-kept c = let self = c.args.self.now in
    known.header_step self.layout self.words.items self.slots.items self.told.world self.kept c.make_step.new.told.world c.args.seat.now.place c.args.held.now.chunk c.args.held.now.position c.header_index-at.result c.pack.result c.args.count c.args.flags
    c.header_index-at.ensures self.laid c.requires.seat.inside (let few = self.few_writers in omega arith) c.requires.may.held c.fits-held.1.0.1 (omega arith) (omega arith)
    (c.pack.ensures.word ∙ ap (λ (i : ℕ). packed (record { chunk_id = i; writer_id = c.args.seat.now.place + 1; count = c.args.count; flags = c.args.flags })) c.id_at.ensures) c.requires.may.follows c.requires.may.reads c.requires.may.inside c.make_step.ensures.world

pub returns-clause-step : goal.returns-clause-step
returns-clause-step c =
    let self = c.args.self.now in let place = c.args.seat.now.place in let next = c.make_step.new.told.world in
    let draft = with_head (draft_at (writer self.told.world place) c.args.held.now.position) (record { count = c.args.count; flags = c.args.flags }) (ends_by (writer self.told.world place) c.args.held.now.position c.args.count) in
    let view = redrafts (writer self.told.world place) c.args.held.now.chunk c.args.held.now.position draft in
    let writers_are = ap (λ (w : World). w.writers) c.make_step.ensures.world in
    record {
      setup_stays = refl;
      seat_stays = resting.seat_stays self.layout _ place view (writer next place) refl
          (known.view_now self.layout self.words.items self.slots.items self.told.world self.kept next place view c.requires.seat.inside writers_are) (resting.entry_rest self.layout place (writer self.told.world place) c.requires.seat c.args.held.now.chunk c.args.held.now.position (Held c.args.held.now.chunk draft) c.requires.may.held refl);
      place_stays = refl;
      writers_stay = λ other there differs. resting.others_stay self.layout _ self.told.world next place view other.place refl writers_are there differs;
      service_stays = λ other serves. resting.serving_stays self.layout _ self.told.world.service next.service refl (ap (λ (w : World). w.service) c.make_step.ensures.world) serves;
      reads_stay = λ other takes. takes;
      letters_stay = ap (λ (v : WriterView). v.letters) (known.view_now self.layout self.words.items self.slots.items self.told.world self.kept next place view c.requires.seat.inside writers_are);
    }

pub returns-clause-told : goal.returns-clause-told
returns-clause-told c = λ world e.
    let self = c.args.self.now in let place = c.args.seat.now.place in let next = c.make_step.new.told.world in
    let draft = with_head (draft_at (writer self.told.world place) c.args.held.now.position) (record { count = c.args.count; flags = c.args.flags }) (ends_by (writer self.told.world place) c.args.held.now.position c.args.count) in
    let same : self.told.world ≡ world = cc in
    subst (λ (w : World). Some next ≡ Some (moved w place (writer next place) c.args.held.now.chunk (Writing place c.args.held.now.position (draft_at (writer next place) c.args.held.now.position)))) same
    (ap (λ (w : World). Some w) (resting.told_drafted self.told.world next place c.args.held.now.chunk c.args.held.now.position draft
    (known.seat_inside self.layout self.words.items self.slots.items self.told.world self.kept place c.requires.seat.inside) c.requires.may.held c.make_step.ensures.world))
