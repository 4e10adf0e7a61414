use Rattle.std.proofs.Common.{◌≡◌, ◌≤◌, [], take, drop}
use Rattle.config_text.specs.Judging.{HasCounts}
use Rattle.config_text.specs.Kept.{blocks_kept}
use Rattle.config_text.specs.Looking.{known_of}
use Rattle.config_text.specs.Reasons.{first_refusal}
use Rattle.config_text.proofs.look_ups.LookUps.judge.Given as goal

abbrev pub invariant-loop-block : goal.invariant-loop-block
invariant-loop-block l = record {
  goes_on : first_refusal (known_of l.self) (blocks_kept l.entries (take l.block-index l.blocks)) (blocks_kept l.entries (drop l.block-index l.blocks))
      ≡ first_refusal (known_of l.self) [] (blocks_kept l.entries l.blocks);
  counted : HasCounts l.before (blocks_kept l.entries (take l.block-index l.blocks));
  low : (l.before.buffers ≤ l.block-index) × (l.before.producers ≤ l.block-index) × (l.before.sources ≤ l.block-index);
}
