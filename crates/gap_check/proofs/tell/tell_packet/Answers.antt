use Rattle.std.proofs.Common.{◌≡◌, ◌∙◌, ◌-◌, ◌<◌, ℕ, List, length, get_or, Some, ap, sym, arith}
use Rattle.std.specs.Prelude.{slice_get}
use Rattle.trace_model.specs.Delivery.{Delivered, sequence_of}
use Rattle.gap_check.specs.Taken.{HasTaken}
use Rattle.gap_check.proofs.TakenLemmas.{none_untold, said_told, said_untold}
use Rattle.gap_check.proofs.tell.tell_packet.Goals as goal
use Rattle.std.proofs.lemmas.Option.{slice_get-get_or}
use Rattle.trace_base.proofs.Lists.{some_there}

pub tell-requires-clause-ready : goal.tell-requires-clause-ready
tell-requires-clause-ready c =
    let writer : ℕ = c.args.packet.now.sequence - c.from-first.result in
    let all = c.requires.taken.1 in
    let within : writer < length c.args.emitted.now = omega arith in
    let here : slice_get c.args.emitted.now writer ≡ Some c.index-emitted-writer.result = slice_get-get_or c.args.emitted.now writer c.index-emitted-writer.result within ∙ ap Some (sym c.index-emitted-writer.is) in
    (all.each writer c.index-emitted-writer.result (get_or c.args.tellers.now writer c.index-tellers-writer.result) here
    (slice_get-get_or c.args.tellers.now writer c.index-tellers-writer.result (omega (arith, all.many)))).ready

pub tell-requires-clause-few : goal.tell-requires-clause-few
tell-requires-clause-few c =
    let writer : ℕ = c.args.packet.now.sequence - c.from-first.result in
    let within : writer < length c.args.emitted.now = omega arith in
    c.requires.few writer c.index-emitted-writer.result (slice_get-get_or c.args.emitted.now writer c.index-emitted-writer.result within ∙ ap Some (sym c.index-emitted-writer.is))

pub returns-in-None-clause-untold : goal.returns-in-None-clause-untold
returns-in-None-clause-untold c = λ delivered taken no.
    let writer : ℕ = c.args.packet.now.sequence - c.from-first.result in
    let within : writer < length c.args.emitted.now = omega arith in
    let there = some_there c.args.emitted.now writer within in
    none_untold c.args.emitted.now delivered (record { sequence = c.args.packet.now.sequence; bytes = c.args.packet.now.bytes.now }) writer there.0 there.1
    (omega (arith, c.from-first.ensures)) c.in-None.ensures.none

pub returns-in-Some-clause-told : goal.returns-in-Some-clause-told
returns-in-Some-clause-told c = λ delivered taken yes'.
    let writer : ℕ = c.args.packet.now.sequence - c.from-first.result in
    let within : writer < length c.args.emitted.now = omega arith in
    let here : slice_get c.args.emitted.now writer ≡ Some c.index-emitted-writer.result = slice_get-get_or c.args.emitted.now writer c.index-emitted-writer.result within ∙ ap Some (sym c.index-emitted-writer.is) in
    said_told c.args.emitted.now delivered c.args.tellers.now (record { sequence = c.args.packet.now.sequence; bytes = c.args.packet.now.bytes.now }) writer c.index-emitted-writer.result
    (get_or c.args.tellers.now writer c.index-tellers-writer.result) c.tell.new.self c.in-Some.said.now c.in-Some.marked taken here
    (slice_get-get_or c.args.tellers.now writer c.index-tellers-writer.result (omega (arith, taken.many))) (omega (arith, c.from-first.ensures)) c.in-Some.ensures.says c.in-Some.ensures.only
    (λ said after. c.tell.ensures.told said after yes') (c.tell.ensures.ready yes')

pub returns-in-Some-clause-untold : goal.returns-in-Some-clause-untold
returns-in-Some-clause-untold c = λ delivered taken no.
    let writer : ℕ = c.args.packet.now.sequence - c.from-first.result in
    let within : writer < length c.args.emitted.now = omega arith in
    let here : slice_get c.args.emitted.now writer ≡ Some c.index-emitted-writer.result = slice_get-get_or c.args.emitted.now writer c.index-emitted-writer.result within ∙ ap Some (sym c.index-emitted-writer.is) in
    said_untold c.args.emitted.now delivered c.args.tellers.now (record { sequence = c.args.packet.now.sequence; bytes = c.args.packet.now.bytes.now }) writer c.index-emitted-writer.result
    (get_or c.args.tellers.now writer c.index-tellers-writer.result) c.in-Some.said.now c.in-Some.marked taken c.requires.clean here
    (slice_get-get_or c.args.tellers.now writer c.index-tellers-writer.result (omega (arith, taken.many))) (omega (arith, c.from-first.ensures)) c.in-Some.ensures.says c.in-Some.ensures.only
    (λ said after. c.tell.ensures.untold said after no)
