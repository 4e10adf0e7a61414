use Rattle.std.proofs.Common.{refl}
use Rattle.chunk_plain.proofs.Resting as resting
use Rattle.std.proofs.Common.{ap}
use Rattle.chunk_plain.proofs.Known as known
use Rattle.chunk_plain.proofs.plain_words.PlainTableWords.note_call.Goals as goal
use Rattle.chunk_plain.specs.Views.{WriterView}
use Rattle.chunk_plain.specs.World.{World, writer}
use Rattle.chunk_plain.specs.Steps.{notes_call}
use Rattle.chunk_plain.specs.Words.{call_of}

pub invariant_of-self-clause-kept : goal.invariant_of-self-clause-kept
invariant_of-self-clause-kept c = let self = c.args.self.now in
    known.call_step self.layout self.words.items self.slots.items self.told.world self.kept c.make_step.new.told.world c.args.seat.now.place (call_of c.args.call) c.requires.inside c.make_step.ensures.world

pub returns-clause-view : goal.returns-clause-view
returns-clause-view c = let self = c.args.self.now in
    known.view_now self.layout self.words.items self.slots.items self.told.world self.kept c.make_step.new.told.world c.args.seat.now.place (notes_call (writer self.told.world c.args.seat.now.place) (call_of c.args.call)) c.requires.inside (ap (λ (w : World). w.writers) c.make_step.ensures.world)

pub returns-clause-step : goal.returns-clause-step
returns-clause-step c =
    let self = c.args.self.now in let place = c.args.seat.now.place in let next = c.make_step.new.told.world in
    let view = notes_call (writer self.told.world place) (call_of c.args.call) in
    let writers_are = ap (λ (w : World). w.writers) c.make_step.ensures.world in
    record {
      setup_stays = refl;
      seat_stays = resting.seat_stays self.layout _ place view (writer next place) refl
          (known.view_now self.layout self.words.items self.slots.items self.told.world self.kept next place view c.requires.inside writers_are) (resting.notes_rest self.layout place (writer self.told.world place) c.requires (call_of c.args.call));
      place_stays = refl;
      writers_stay = λ other there differs. resting.others_stay self.layout _ self.told.world next place view other.place refl writers_are there differs;
      service_stays = λ other serves. resting.serving_stays self.layout _ self.told.world.service next.service refl (ap (λ (w : World). w.service) c.make_step.ensures.world) serves;
      reads_stay = λ other takes. takes;
      letters_stay = ap (λ (v : WriterView). v.letters) (known.view_now self.layout self.words.items self.slots.items self.told.world self.kept next place view c.requires.inside writers_are);
    }
