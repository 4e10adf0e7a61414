use Rattle.std.proofs.lemmas.List.{get_or-set_same}
use Rattle.std.proofs.Common.{◌≡◌, ◌*◌, ◌≤◌, ◌∙◌, arith, ap, sym, subst, refl, length, List, Some, IsSome}
use Rattle.chunk_plain.specs.Setup.{spot}
use Rattle.chunk_plain.specs.Views.{fresh, WriterView}
use Rattle.chunk_plain.specs.World.{World, Unclaimed, Writing, status, writer}
use Rattle.chunk_plain.specs.Steps.{stamps, begins, moved}
use Rattle.chunk_plain.specs.Drafts.{draft_at}
use Rattle.chunk_plain.specs.Stored.{Stored, stored_at}
use Rattle.chunk_plain.specs.Plain.{IsLent}
use Rattle.chunk_plain.proofs.Holding.{begins_draft, begun_at}
use Rattle.chunk_plain.proofs.Known as known
use Rattle.chunk_plain.proofs.Resting as resting
use Rattle.chunk_plain.proofs.plain_words.PlainTableWords.begin.Goals as goal

pub position_at-position-requires : goal.position_at-position-requires
position_at-position-requires c = c.requires.seat.inside

pub take_body-body-requires-clause-lent : goal.take_body-body-requires-clause-lent
take_body-body-requires-clause-lent c =
    let self = c.args.self.now in let place = c.args.seat.now.place in let chunk = c.args.claimed.chunk in
    let one = c.store_first_header.new.self in let two = c.set_written.new.self in
    let words = (stored_at one.slots.items chunk).words in
    let inside_w = known.seat_inside self.layout self.words.items self.slots.items self.told.world self.kept place c.requires.seat.inside in
    let world_is = resting.begun_world self.told.world one.told.world two.told.world place chunk words inside_w c.store_first_header.ensures.world c.set_written.ensures.world in
    let many = known.chunks_inside self.layout self.words.items self.slots.items self.told.world self.kept in
    let inside_c = known.claimed_inside self.layout self.words.items self.slots.items self.told.world self.kept place chunk c.requires.may.claimed in
    let to = Writing place (length (writer self.told.world place).begun) (fresh words) in
    let is : status two.told.world chunk ≡ to = ap (λ (w : World). status w chunk) world_is ∙ get_or-set_same self.told.world.chunks chunk to Unclaimed (omega (arith, many)) in
    ∣ subst IsLent (sym is) tt ∣₁

pub take_body-body-requires-clause-there : goal.take_body-body-requires-clause-there
take_body-body-requires-clause-there c = let self = c.args.self.now in
    let same = c.set_written.ensures.slots ∙ c.store_first_header.ensures.slots in
    subst (λ (l : List Stored). IsSome (stored_at l c.args.claimed.chunk).body) (sym same) (known.claimed_body self.layout self.words.items self.slots.items self.told.world self.kept c.args.seat.now.place c.args.claimed.chunk c.requires.may.claimed)

pub returns-clause-held : goal.returns-clause-held
returns-clause-held c = let self = c.args.self.now in
    let same = c.set_written.ensures.slots ∙ c.store_first_header.ensures.slots in
    record {
      chunk_is = refl;
      position_is = begun_at self.layout c.args.seat.now.place (length (writer self.told.world c.args.seat.now.place).begun) c.args.id c.position_at-position.result
          c.requires.may.id_is (let few = c.requires.may.few_begun in omega (arith, few)) c.position_at-position.ensures;
      whole = known.claimed_size self.layout self.words.items self.slots.items self.told.world self.kept c.args.seat.now.place c.args.claimed.chunk c.take_body-body.result c.requires.may.claimed
          (sym (ap (λ (l : List Stored). (stored_at l c.args.claimed.chunk).body) same) ∙ c.take_body-body.ensures.body);
      empty = c.clear.ensures;
    }

pub returns-clause-view : goal.returns-clause-view
returns-clause-view c =
    let self = c.args.self.now in let place = c.args.seat.now.place in let chunk = c.args.claimed.chunk in
    let one = c.store_first_header.new.self in let two = c.set_written.new.self in
    let words = (stored_at one.slots.items chunk).words in
    let inside_w = known.seat_inside self.layout self.words.items self.slots.items self.told.world self.kept place c.requires.seat.inside in
    let world_is = resting.begun_world self.told.world one.told.world two.told.world place chunk words inside_w c.store_first_header.ensures.world c.set_written.ensures.world in
    let three = c.take_body-body.new.self in
    let last_is = c.take_body-body.ensures.world ∙ world_is in
    let view = begins (stamps (writer self.told.world place) chunk) chunk words in
    record {
      words = words;
      room = subst (λ (l : List Stored). (spot self.layout chunk).payload_size ≤ 8 * length (stored_at l chunk).words) (sym c.store_first_header.ensures.slots)
          (known.room self.layout self.words.items self.slots.items self.told.world self.kept chunk (known.claimed_inside self.layout self.words.items self.slots.items self.told.world self.kept place chunk c.requires.may.claimed));
      view = known.view_now self.layout self.words.items self.slots.items self.told.world self.kept three.told.world place view c.requires.seat.inside (ap (λ (w : World). w.writers) last_is);
    }

pub returns-clause-step : goal.returns-clause-step
returns-clause-step c =
    let self = c.args.self.now in let place = c.args.seat.now.place in let chunk = c.args.claimed.chunk in
    let one = c.store_first_header.new.self in let two = c.set_written.new.self in
    let words = (stored_at one.slots.items chunk).words in
    let inside_w = known.seat_inside self.layout self.words.items self.slots.items self.told.world self.kept place c.requires.seat.inside in
    let world_is = resting.begun_world self.told.world one.told.world two.told.world place chunk words inside_w c.store_first_header.ensures.world c.set_written.ensures.world in
    let next = c.take_body-body.new.self.told.world in
    let last_is = c.take_body-body.ensures.world ∙ world_is in
    let view = begins (stamps (writer self.told.world place) chunk) chunk words in
    let layout_is = c.take_body-body.ensures.layout ∙ (c.set_written.ensures.layout ∙ c.store_first_header.ensures.layout) in
    let writers_are = ap (λ (w : World). w.writers) last_is in
    record {
      setup_stays = layout_is;
      seat_stays = resting.seat_stays self.layout _ place view (writer next place) layout_is
          (known.view_now self.layout self.words.items self.slots.items self.told.world self.kept next place view c.requires.seat.inside writers_are)
          (resting.begins_rest self.layout place (writer self.told.world place) c.requires.seat chunk words c.requires.may.claimed);
      place_stays = refl;
      writers_stay = λ other there differs. resting.others_stay self.layout _ self.told.world next place view other.place layout_is writers_are there differs;
      service_stays = λ other serves. resting.serving_stays self.layout _ self.told.world.service next.service layout_is (ap (λ (w : World). w.service) last_is) serves;
      reads_stay = λ other takes. takes;
      letters_stay = ap (λ (v : WriterView). v.letters) (known.view_now self.layout self.words.items self.slots.items self.told.world self.kept next place view c.requires.seat.inside writers_are);
    }

pub returns-clause-told : goal.returns-clause-told
returns-clause-told c = λ world e.
    let self = c.args.self.now in let place = c.args.seat.now.place in let chunk = c.args.claimed.chunk in
    let one = c.store_first_header.new.self in let two = c.set_written.new.self in
    let words = (stored_at one.slots.items chunk).words in
    let inside_w = known.seat_inside self.layout self.words.items self.slots.items self.told.world self.kept place c.requires.seat.inside in
    let world_is = resting.begun_world self.told.world one.told.world two.told.world place chunk words inside_w c.store_first_header.ensures.world c.set_written.ensures.world in
    let next = c.take_body-body.new.self.told.world in
    let last_is = c.take_body-body.ensures.world ∙ world_is in
    let view = begins (stamps (writer self.told.world place) chunk) chunk words in
    let same : self.told.world ≡ world = cc in
    let view_is = known.view_now self.layout self.words.items self.slots.items self.told.world self.kept next place view c.requires.seat.inside (ap (λ (w : World). w.writers) last_is) in
    let n = length (writer self.told.world place).begun in
    let draft_is : draft_at (writer next place) n ≡ fresh words = ap (λ v. draft_at v n) view_is ∙ begins_draft (writer self.told.world place) chunk words in
    subst (λ (w : World). Some next ≡ Some (moved w place (writer next place) chunk (Writing place n (draft_at (writer next place) n)))) same
    (ap (λ (w : World). Some w) (last_is
    ∙ (ap (λ d. moved self.told.world place view chunk (Writing place n d)) (sym draft_is)
    ∙ ap (λ v. moved self.told.world place v chunk (Writing place n (draft_at (writer next place) n))) (sym view_is))))
