use Rattle.std.proofs.Common.{◌≡◌, ◌∙◌, ap, subst, refl}
use Rattle.commit_body.specs.declared.body.CommitBody.{CommitBody}
use Rattle.chunk_plain.specs.Views.{Completed, WriterView}
use Rattle.chunk_plain.specs.World.{World, Ready, writer}
use Rattle.chunk_plain.specs.Steps.{completes, moved}
use Rattle.chunk_plain.specs.Drafts.{head_at}
use Rattle.chunk_plain.specs.Shows.{content_of}
use Rattle.chunk_plain.proofs.Known as known
use Rattle.chunk_plain.proofs.Resting as resting
use Rattle.chunk_plain.proofs.plain_words.PlainTableWords.complete.Goals as goal
use Rattle.chunk_plain.specs.Setup.{Setup, from_of}

pub put_body-requires : goal.put_body-requires
put_body-requires c = let self = c.args.self.now in record { lent = known.held_lent self.layout self.words.items self.slots.items self.told.world self.kept c.args.seat.now.place c.args.held.chunk c.args.held.position c.requires.held }

pub returns-clause-step : goal.returns-clause-step
returns-clause-step c =
    let self = c.args.self.now in let place = c.args.seat.now.place in let next = c.set_complete.new.self.told.world in
    let chunk = c.args.held.chunk in let position = c.args.held.position in
    let content = content_of (from_of self.layout place) place position (head_at (writer self.told.world place) position) c.args.held.body in
    let view = completes (writer self.told.world place) chunk position content in
    let between = c.put_body.new.self.told.world in
    let from = from_of c.put_body.new.self.layout place in
    let middle : next ≡ moved between place (completes (writer between place) chunk position (content_of from place position (head_at (writer between place) position) c.args.held.body)) chunk (Ready place position (content_of from place position (head_at (writer between place) position) c.args.held.body)) =
    known.some_is (λ (b : CommitBody). next ≡ moved between place (completes (writer between place) chunk position (content_of from place position (head_at (writer between place) position) b)) chunk (Ready place position (content_of from place position (head_at (writer between place) position) b))) _ c.args.held.body c.put_body.ensures.body c.set_complete.ensures.world in
    let world_is : next ≡ moved self.told.world place view chunk (Ready place position content) =
    subst (λ (w : World). next ≡ moved w place (completes (writer w place) chunk position (content_of (from_of self.layout place) place position (head_at (writer w place) position) c.args.held.body)) chunk (Ready place position (content_of (from_of self.layout place) place position (head_at (writer w place) position) c.args.held.body))) c.put_body.ensures.world
    (subst (λ (s : Setup). next ≡ moved between place (completes (writer between place) chunk position (content_of (from_of s place) place position (head_at (writer between place) position) c.args.held.body)) chunk (Ready place position (content_of (from_of s place) place position (head_at (writer between place) position) c.args.held.body))) c.put_body.ensures.layout middle) in
    let layout_is = c.set_complete.ensures.layout ∙ c.put_body.ensures.layout in
    let writers_are = ap (λ (w : World). w.writers) world_is in
    record {
      setup_stays = layout_is;
      seat_stays = resting.seat_stays self.layout _ place view (writer next place) layout_is
          (known.view_now self.layout self.words.items self.slots.items self.told.world self.kept next place view c.requires.seat.inside writers_are)
          (resting.entry_rest self.layout place (writer self.told.world place) c.requires.seat chunk position (Completed chunk content) c.requires.held refl);
      place_stays = refl;
      writers_stay = λ other there differs. resting.others_stay self.layout _ self.told.world next place view other.place layout_is writers_are there differs;
      service_stays = λ other serves. resting.serving_stays self.layout _ self.told.world.service next.service layout_is (ap (λ (w : World). w.service) world_is) serves;
      reads_stay = λ other takes. takes;
      letters_stay = ap (λ (v : WriterView). v.letters) (known.view_now self.layout self.words.items self.slots.items self.told.world self.kept next place view c.requires.seat.inside writers_are);
    }
