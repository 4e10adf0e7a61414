use Rattle.std.proofs.Common.{refl, ap}
use Rattle.chunk_plain.specs.Views.{ServiceView}
use Rattle.chunk_plain.specs.Words.{event_of}
use Rattle.chunk_words.specs.Sits.{known_by_service}
use Rattle.thread_service.proofs.GoingOn.{event_read, goes_noting}
use Rattle.thread_service.proofs.PassLemmas.{passes_further, passes_read}
use Rattle.thread_service.proofs.passing.PassingWords.note.Goals as goal

pub note-requires-clause-read : goal.note-requires-clause-read
note-requires-clause-read g c is = absurd (c.is_read.ensures.no c.if-is_read.false is)

pub note_read-requires-clause-read : goal.note_read-requires-clause-read
note_read-requires-clause-read g c = c.is_read.ensures.yes c.if-is_read.true

pub returns-then-is_read-clause-step : goal.returns-then-is_read-clause-step
returns-then-is_read-clause-step g c =
    let did = c.note_read.ensures in
    record {
      setup_stays = refl;
      seat_stays = passes_read g.N.Start.table g.N.Start.passed g.N.Start.view g.N.Start.desk c.args.self.now.table.now c.args.self.now.pass
          c.note_read.new.pass c.args.seat.now c.note_read.new.seat (event_of c.args.event)
          (event_read c.args.event (c.is_read.ensures.yes c.if-is_read.true)) c.requires.seat did.joins.passes did.seat did.joins.desk did.joins.goes_on did.view did.known;
      writers_stay = λ other there. (there, refl);
      reads_stay = λ takes. takes;
      letters_stay = ap (λ (v : ServiceView). v.letters) did.view;
    }

pub returns-clause-step : goal.returns-clause-step
returns-clause-step g c = record {
  setup_stays = refl;
  seat_stays = passes_further g.N.Start.table g.N.Start.passed g.N.Start.view g.N.Start.desk c.args.self.now.table.now c.args.self.now.pass c.args.seat.now c.note.new.seat c.requires.seat c.note.ensures.seat c.note.ensures.desk
      (goes_noting c.args.event (known_by_service c.args.seat.now) (known_by_service c.note.new.seat) (c.is_read.ensures.no c.if-is_read.false) c.note.ensures.view);
  writers_stay = λ other there. (there, refl);
  reads_stay = λ takes. takes;
  letters_stay = ap (λ (v : ServiceView). v.letters) c.note.ensures.view;
}
