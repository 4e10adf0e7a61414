use Rattle.std.proofs.Common.{◌+◌, ◌≤◌, length, arith}
use Rattle.byte_io.proofs.KeptLemmas.{kept}
use Rattle.byte_io.proofs.buffered.PendingBytes.keep.Goals as goal

pub returns : goal.returns
returns c =
    let within : c.args.self.now.filled ≤ length c.args.self.now.bytes.items = omega (arith, c.args.self.now.in_room, c.args.self.now.has_room) in
    let fits : c.args.self.now.filled + length c.args.piece.now ≤ c.args.self.now.bytes.len = omega (arith, c.requires, c.args.self.now.has_room) in
    kept c.args.self.now.passed c.args.self.now.filled c.args.self.now.bytes.len c.args.self.now.bytes.items c.deref_mut.result.now c.args.piece.now c.copy_from_slice.new.self
    _ _ c.args.self.now.in_filled within fits c.deref_mut.ensures.value c.copy_from_slice.ensures.after
