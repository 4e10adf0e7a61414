-- The rule of the table is ownership in its eight parts.
use Rattle.std.proofs.Common.{subst, sym, ◌∙◌}
use Rattle.chunk_words.specs.GoesOn.{GoesOn}
use Rattle.chunk_plain.specs.Setup.{Setup}
use Rattle.chunk_plain.specs.Views.{ServiceView}
use Rattle.chunk_plain.proofs.OwnershipLemmas.{ownership}
use Rattle.chunk_words.specs.Knows.{Writer, Service, Pass}
use Rattle.chunk_words.specs.Rule.{IsMade, IsShared}
use Rattle.chunk_words.specs.Laws.{SharedOwnership}
use Rattle.chunk_words.proofs.WriterMoves.{Table}

pub shared_ownership : (setup : Setup) (state : Table) → IsShared setup state → SharedOwnership setup state
shared_ownership setup state r = record {
  world = r.world;
  front = r.front;
  slots = r.slots;
  roll = r.roll;
  words = r.words;
  mail = r.mail;
  bodies = r.bodies;
  parts = ownership setup r.front r.slots r.world r.kept;
  reached = r.led.reached;
  writers = λ seat place hand view at. (r.manned.each seat (Writer place hand view) at).0;
  one_seat = λ seat other place hand held view known at there. sym (r.manned.each seat (Writer place hand view) at).1 ∙ (r.manned.each other (Writer place held known) there).1;
  service = λ seat hand made desk watch view at. (r.manned.each seat (Service hand made desk watch view) at).0;
  one_service = λ seat other hand held made more desk other_desk watch watched view known at there.
      sym (r.manned.each seat (Service hand made desk watch view) at).1 ∙ (r.manned.each other (Service held more other_desk watched known) there).1;
  pass = λ seat view at. let fits = r.manned.each seat (Pass view) at in
      subst (λ (known : ServiceView). GoesOn known r.world.service) (sym fits.0) (r.manned.goes_on (subst IsMade (sym fits.2) tt));
  one_pass = λ seat other view known at there. sym (r.manned.each seat (Pass view) at).1 ∙ (r.manned.each other (Pass known) there).1;
}
