-- The lines so far have their answers, and there is room for the others.
use Rattle.std.proofs.Common.{◌≡◌, ◌++◌, ◌+◌, ◌≤◌, drop, length, vec_len}
use Rattle.std.specs.Prelude.{vec_capacity}
use Rattle.scenario_text.specs.Raws.{raw_numbers}
use Rattle.replay_model.specs.Raws.{raw_lines}
use Rattle.replay_host.specs.Raws.{raws_in}
use Rattle.replay_host.proofs.raws.fill_raws.Given as goal

abbrev pub invariant-lines : goal.invariant-lines
invariant-lines l = record {
  filled : l.raws.items ++ raw_lines (raw_numbers l.walk) (drop l.told l.answers) ≡ raw_lines (raw_numbers l.fn.lines) l.fn.answers;
  told : l.told ≤ length l.answers;
  room : vec_len l.raws + raws_in l.walk ≤ vec_capacity l.raws;
}

abbrev pub decreases-lines : goal.decreases-lines
decreases-lines l = length l.walk
