use Rattle.std.proofs.Common.{◌≡◌, ℕ, List, take, map}
use Rattle.std.specs.Borrow.{Bor}
use Rattle.config_text.specs.Kept.{blocks_kept}
use Rattle.config_text.specs.Narrow.{buffer_of}
use Rattle.config_text.specs.Reasons.{buffers_said}
use Rattle.config_text.proofs.building.buffers_of.Given as goal

abbrev pub invariant-loop-block : goal.invariant-loop-block
invariant-loop-block l = (entries : List (Bor (List ℕ))) → l.buffers.items ≡ map buffer_of (buffers_said (blocks_kept entries (take l.block-index l.blocks)))
