-- From each state of a writer its pages are a cut of its packets.
use Rattle.std.proofs.Common.{◌∷◌, refl}
use Rattle.cut_steps.specs.Laws.{StatesAreCuts}
use Rattle.cut_steps.proofs.RawCutLemmas.{raw_cut_is_cut}
use Rattle.cut_steps.proofs.BetweenCuts.{between_cut, between_held_cut}
use Rattle.cut_steps.proofs.Sealing.{writing_cut}
use Rattle.cut_steps.proofs.StalledCuts.{stalled_cut, stalled_runs, idle_runs}

pub states_are_cuts : StatesAreCuts
states_are_cuts = record {
  idle = λ size packets pages offset between stays. raw_cut_is_cut size packets pages (between_cut size packets pages offset between stays);
  between = λ size packets pages page unsent offset between continues held.
      raw_cut_is_cut size packets _ (between_held_cut size packets pages page unsent offset between continues held.stays held.settled held.brings held.full);
  writing = λ size packet older pages page done now unsent holes w some held.
      raw_cut_is_cut size _ _
      (writing_cut size packet packet older pages page done now unsent holes w held.holds held.stays held.unmarked held.settled some held.brings held.full refl refl refl w.given_up);
  stalled = λ size packet later older pages holes coming w g. (
    raw_cut_is_cut size (later ∷ older) pages (stalled_cut size packet later older pages holes coming w g),
    stalled_runs size packet later older pages holes coming w g,
  );
  stalled_between = idle_runs;
}
