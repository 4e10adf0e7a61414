use Rattle.std.proofs.Common.{sym, ◌∙◌}
use Rattle.ring_bytes.specs.Rows.{live_row}
use Rattle.ring_bytes.proofs.RowLemmas.{row_within}
use Rattle.ring_bytes.proofs.LiveLemmas.{first_is, first_front, first_append}
use Rattle.ring_bytes.proofs.walk.first_of_two.Goals as goal

pub returns-in-Some : goal.returns-in-Some
returns-in-Some c =
    let one = live_row c.args.bytes.now c.args.at c.args.end in
    let two = live_row c.args.bytes.now c.args.second c.args.last in
    let all = first_is c.args.at c.args.end one (row_within c.args.bytes.now c.args.at c.args.end c.requires.room c.requires.row) in
    sym (first_front one two c.in-Some.found (sym all ∙ sym c.first_live.ensures ∙ c.in-Some.is))

pub returns-in-None : goal.returns-in-None
returns-in-None c =
    let one = live_row c.args.bytes.now c.args.at c.args.end in
    let two = live_row c.args.bytes.now c.args.second c.args.last in
    let all = first_is c.args.at c.args.end one (row_within c.args.bytes.now c.args.at c.args.end c.requires.room c.requires.row) in
    let rest = first_is c.args.second c.args.last two (row_within c.args.bytes.now c.args.second c.args.last c.requires.second_room c.requires.second_row) in
    c.first_live-in-None.ensures
    ∙ rest
    ∙ sym (first_append one two (sym all ∙ sym c.first_live.ensures ∙ c.in-None.is))
