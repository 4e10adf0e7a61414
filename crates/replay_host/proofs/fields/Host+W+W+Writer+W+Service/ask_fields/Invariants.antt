-- The nodes before these were asked for, and these are to come.
use Rattle.std.proofs.Common.{◌≡◌, ℕ, List, ◌++◌, length, map}
use Rattle.trace_model.specs.Calls.{Call}
use Rattle.field_tree.specs.Nodes.{Shown}
use Rattle.scenario_text.specs.Accepted.{node_call}
use Rattle.replay_host.specs.Asking.{AreReady}
use Rattle.replay_host.specs.Playing.{IsHost, HasAsked, asked_all}
use Rattle.replay_host.proofs.fields.Host+W+W+Writer+W+Service.ask_fields.Given as goal

abbrev pub invariant-nodes : goal.invariant-nodes
invariant-nodes g l = record {
  host : IsHost g.W.Words.means l.self;
  before : List Shown;
  cut : l.fields ≡ before ++ l.left;
  asked : HasAsked g.W.Words.means l.place (map node_call before) l.fn.self l.self;
  ready : (coming : ℕ → List Call) × AreReady g.W.Words.means l.self.table l.self.writers.items (asked_all l.place (map node_call l.left) coming);
}

abbrev pub decreases-nodes : goal.decreases-nodes
decreases-nodes g l = length l.left
