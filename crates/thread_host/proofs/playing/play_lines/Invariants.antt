-- The lines before those that are still to come were played.
use Rattle.std.proofs.Common.{◌≡◌, List, ◌++◌, length}
use Rattle.std.specs.List.{flat_map}
use Rattle.scenario_text.specs.declared.scenario.LineKind.{LineKind}
use Rattle.scenario_text.specs.Accepted.{named_calls, own_kinds}
use Rattle.thread_host.specs.Playing.{HelpsLosses, MayBeAsked, WasAsked}
use Rattle.thread_host.proofs.playing.play_lines.Given as goal

abbrev pub invariant-lines : goal.invariant-lines
invariant-lines g l = record {
  before : List LineKind;
  all : before ++ l.walk ≡ own_kinds l.number l.lines;
  asked : WasAsked g.H.Helper.helps g.H.Helper.of_table l.table (flat_map named_calls before) l.fn.help l.fn.writer l.help l.writer;
  helped : HelpsLosses g.H.Helper.helps l.fn.help l.fn.writer l.help l.writer;
  going : MayBeAsked g.H.Helper.helps g.H.Helper.of_table l.table (flat_map named_calls l.walk) l.help l.writer;
}

abbrev pub decreases-lines : goal.decreases-lines
decreases-lines g l = length l.walk
