use Rattle.std.proofs.Common.{refl}
use Rattle.chunk_plain.specs.Views.{Head, Held}
use Rattle.chunk_plain.specs.Steps.{redrafts, with_head}
use Rattle.chunk_plain.specs.Drafts.{draft_at, ends_by}
use Rattle.chunk_plain.proofs.Resting.{entry_rest}
use Rattle.chunk_words.specs.Knows.{view_of}
use Rattle.chunk_words.proofs.Rests.{sits_now, held_of_table}
use Rattle.chunk_words.proofs.host.HostTable.set_header.Goals as goal

pub step_header-requires-clause-chunk : goal.step_header-requires-clause-chunk
step_header-requires-clause-chunk c =
    let self = c.args.self.now in let seat = c.args.seat.now in
    held_of_table self.layout seat.place c.args.held.now.chunk c.args.held.now.position (view_of seat.seat.me.0) self.laid c.requires.seat.rests.rests c.requires.may.held

pub returns-clause-seat : goal.returns-clause-seat
returns-clause-seat c =
    let self = c.args.self.now in let seat = c.args.seat.now in let chunk = c.args.held.now.chunk in let position = c.args.held.now.position in
    let view = view_of seat.seat.me.0 in let head : Head = record { count = c.args.count; flags = c.args.flags } in
    let draft = with_head (draft_at view position) head (ends_by view position c.args.count) in
    sits_now self seat c.step_header.new.seat (redrafts view chunk position draft) c.requires.seat c.step_header.ensures.seat c.step_header.ensures.place c.step_header.ensures.me
    (entry_rest self.layout seat.place view c.requires.seat.rests.rests chunk position (Held chunk draft) c.requires.may.held refl)
