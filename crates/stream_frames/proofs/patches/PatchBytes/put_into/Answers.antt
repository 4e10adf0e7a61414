-- Each patch is there, since each was looked at.
use Rattle.std.proofs.Common.{map, ap, arith}
use Rattle.std.proofs.lemmas.List.{map_push}
use Rattle.commit_body.specs.Patches.{patch_value}
use Rattle.stream_frames.specs.Decoding.{patches_at, first_of}
use Rattle.stream_frames.proofs.LoopLemmas.{goes_on, fails, is_done, none_read, all_there}
use Rattle.stream_frames.proofs.patches.PatchBytes.put_into.Goals as goal

pub loop-init : goal.loop-init
loop-init c =
    rw c.clear.ensures (record { few = omega arith; read = none_read c.args.self.now.count c.args.self.now.bytes.now })

pub unreachable-requires : goal.unreachable-requires
unreachable-requires c =
    let self = c.args.self.now in
    let patches = patches_at self.count self.bytes.now in
    let none = rw c.in_default.is at c.patch_at.ensures in
    all_there patches self.there
    (fails (map patch_value c.loop.room.items) self.count c.loop.counter c.loop.rest.now patches c.loop-test.true none c.loop.invariant.read)

pub push-requires : goal.push-requires
push-requires c =
    let few = c.loop.invariant.few in
    let most = c.args.self.now.few in
    let left = c.loop-test.true in
    (omega arith, omega (arith, few, most, left))

pub loop-preserved : goal.loop-preserved
loop-preserved c =
    let self = c.args.self.now in
    let patch = c.in-Some.patch in
    let few = c.loop.invariant.few in
    let read = rw c.in-Some.is at c.patch_at.ensures in
    record {
      few = omega (arith, c.push.ensures.len, few);
      read = rw (c.push.ensures.items, map_push patch_value c.loop.room.items patch)
          (goes_on (map patch_value c.loop.room.items) self.count c.loop.counter c.loop.rest.now (patch_value patch) c.in-Some.behind.now
          (patches_at self.count self.bytes.now) c.loop-test.true read c.loop.invariant.read);
    }

pub returns : goal.returns
returns c =
    let self = c.args.self.now in
    let all = is_done (map patch_value c.loop.room.items) self.count c.loop.counter c.loop.rest.now (patches_at self.count self.bytes.now)
    c.loop-test.false c.loop.invariant.read in
    ap first_of all
