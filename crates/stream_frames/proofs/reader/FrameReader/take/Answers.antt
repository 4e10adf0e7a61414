-- The bytes that are taken end no frame but with the last of them, and there is room for them.
use Rattle.std.proofs.Common.{◌++◌, ℕ, Bool, List, take, sym, subst, arith}
use Rattle.std.proofs.lemmas.List.{length-take}
use Rattle.stream_frames.specs.Reads.{TakesBytes}
use Rattle.stream_frames.specs.Values.{limits_value}
use Rattle.stream_frames.proofs.FrontLemmas.{short_reach, short_room}
use Rattle.stream_frames.proofs.ReaderLemmas.{takes}
use Rattle.stream_frames.proofs.reader.FrameReader.take.Goals as goal

pub wanted-requires : goal.wanted-requires
wanted-requires c =
    rw c.deref.ensures.value (short_reach (limits_value c.args.self.now.limits) c.args.self.now.have.items c.requires.reading.short)

pub unreachable-requires : goal.unreachable-requires
unreachable-requires c =
    let have = c.args.self.now.have.items in
    let room = c.args.self.now.room in
    let most = short_room (limits_value c.args.self.now.limits) have c.requires.reading.short in
    let wanted = rw c.deref.ensures.value at c.wanted.ensures in
    let count = c.min-count.ensures in
    let full = c.in-Err.ensures.full in
    omega (arith, full, room, most, wanted, count, length-take c.min-count.result c.args.piece.now, c.deref.ensures.len, c.deref.ensures.value)

pub returns-clause-takes : goal.returns-clause-takes
returns-clause-takes c =
    let self = c.args.self.now in
    let have = self.have.items in
    let limits = limits_value self.limits in
    let piece = c.args.piece.now in
    let count = c.min-count.result in
    let wanted = rw c.deref.ensures.value at c.wanted.ensures in
    let least = c.min-count.ensures in
    let some = c.requires.some in
    let room = short_reach limits have c.requires.reading.short in
    let all = takes limits self.at have piece count c.requires.reading.short (omega arith) (omega arith) (omega arith) in
    let P : List ℕ → Bool → Type 0 = λ bytes closed. TakesBytes limits (record { at = self.at; have = have; closed = closed }) piece count (record { at = self.at; have = bytes; closed = closed }) in
    subst (λ (bytes : List ℕ). P bytes self.closed) (sym c.in-Ok.ensures.items)
    (subst (λ (closed : Bool). P (have ++ take count piece) closed) (sym c.requires.open) all)
