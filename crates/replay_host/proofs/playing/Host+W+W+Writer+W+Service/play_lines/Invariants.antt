-- The lines before those that are still to come were played, and their clones are filled.
use Rattle.std.proofs.Common.{◌≡◌, ◌-◌, ℕ, [], length, map, take, drop}
use Rattle.scenario_text.specs.Clones.{clones_in}
use Rattle.scenario_text.specs.Scenario.{Parts}
use Rattle.service_core.specs.Agreement.{first_of}
use Rattle.service_core.specs.Routing.{buffer_at}
use Rattle.replay_host.specs.Cloning.{HaveCloned}
use Rattle.replay_host.specs.Raws.{HasRoom}
use Rattle.replay_host.specs.Whole.{Begins, HavePlayedTo}
use Rattle.replay_host.proofs.playing.Host+W+W+Writer+W+Service.play_lines.Given as goal

abbrev pub invariant-lines : goal.invariant-lines
invariant-lines g l = record {
  place : ℕ;
  left : drop place l.fn.lines ≡ l.walk;
  played : (scenario : Parts) → scenario.lines ≡ l.fn.lines → Begins g.W.Words.means scenario l.fn.self
      → HavePlayedTo g.W.Words.means scenario place l.fn.self (g.O.Sink.taken l.fn.out) l.self (g.O.Sink.taken l.out);
  made : (scenario : Parts) → scenario.lines ≡ l.fn.lines → Begins g.W.Words.means scenario l.fn.self
      → HaveCloned g.W.Words.means scenario [] (take place scenario.lines) l.fn.self l.self (take l.filled l.clones);
  coming : drop l.filled l.clones ≡ map (λ (number : ℕ). buffer_at (first_of (g.W.Words.means.setup l.fn.self.table) l.fn.self.helper.service) (number - 1))
      (clones_in (drop place l.fn.lines));
  room : HasRoom (g.W.Words.means.setup l.fn.self.table).sizes l.payloads;
  steady : g.O.Sink.faults l.out ≡ g.O.Sink.faults l.fn.out;
  may : g.O.Sink.may_write l.out;
}

abbrev pub decreases-lines : goal.decreases-lines
decreases-lines g l = length l.walk
