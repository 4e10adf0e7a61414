use Rattle.std.proofs.Common.{◌≡◌, ◌-◌, ◌≤◌, map, length}
use Rattle.commit_body.specs.Patches.{patch_value}
use Rattle.stream_frames.specs.Decoding.{patches_at}
use Rattle.stream_frames.proofs.LoopLemmas.{with_front}
use Rattle.stream_frames.proofs.patches.PatchBytes.put_into.Given as goal

abbrev pub invariant-loop : goal.invariant-loop
invariant-loop l = record {
  few : length l.room.items ≤ l.counter;
  read : with_front (map patch_value l.room.items) (patches_at (l.self.count - l.counter) l.rest)
      ≡ patches_at l.self.count l.self.bytes.now;
}
