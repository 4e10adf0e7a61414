-- The nodes before these were asked for, and these are to come.
use Rattle.std.proofs.Common.{◌≡◌, List, ◌++◌, length, map}
use Rattle.field_tree.specs.Nodes.{Shown}
use Rattle.scenario_text.specs.Accepted.{node_call}
use Rattle.thread_host.specs.Playing.{HelpsLosses, MayBeAsked, WasAsked}
use Rattle.thread_host.proofs.asking.ask_fields.Given as goal

abbrev pub invariant-nodes : goal.invariant-nodes
invariant-nodes g l = record {
  before : List Shown;
  cut : l.fields ≡ before ++ l.left;
  asked : WasAsked g.H.Helper.helps g.H.Helper.of_table l.table (map node_call before) l.fn.help l.fn.writer l.help l.writer;
  helped : HelpsLosses g.H.Helper.helps l.fn.help l.fn.writer l.help l.writer;
  going : MayBeAsked g.H.Helper.helps g.H.Helper.of_table l.table (map node_call l.left) l.help l.writer;
}

abbrev pub decreases-nodes : goal.decreases-nodes
decreases-nodes g l = length l.left
