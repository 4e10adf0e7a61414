use Rattle.std.proofs.Common.{◌+◌, arith, List, ℕ, subst, sym}
use Rattle.packet_runs.specs.Borders.{BordersBelow}
use Rattle.packet_runs.specs.Tellers.{run_at}
use Rattle.packet_runs.proofs.RunLemmas.{gone_on, not_gone_on, borders_moved, ready_more}
use Rattle.packet_runs.proofs.teller.Teller.go_on.Goals as goal

pub next_border-border-requires-clause-known : goal.next_border-border-requires-clause-known
next_border-border-requires-clause-known c =
    let teller = c.args.self.now in
    subst (λ (borders : List ℕ). BordersBelow (run_at c.args.emitted.now c.in-Some.at) borders (teller.len + 1)) (sym c.deref-in-Some.ensures.value)
    (borders_moved c.args.emitted.now teller.place teller.len c.args.packet.now c.in-Some.at teller.borders.items c.in-Some.ensures.stands c.requires.ready.known)

pub returns-in-None-clause-untold : goal.returns-in-None-clause-untold
returns-in-None-clause-untold c = λ said after no.
    let teller = c.args.self.now in
    not_gone_on c.args.emitted.now said teller.place teller.len c.args.packet.now after (omega arith) c.in-None.ensures.none

pub returns-in-Some-clause-ready : goal.returns-in-Some-clause-ready
returns-in-Some-clause-ready c = λ yes'.
    let teller = c.args.self.now in
    let fits = c.in-Some.ensures.stands.fits in
    ready_more c.args.emitted.now c.in-Some.at teller.len c.next_border-border.result teller.borders.items (omega arith) c.requires.ready.room
    (borders_moved c.args.emitted.now teller.place teller.len c.args.packet.now c.in-Some.at teller.borders.items c.in-Some.ensures.stands c.requires.ready.known) c.next_border-border.ensures

pub returns-in-Some-clause-told : goal.returns-in-Some-clause-told
returns-in-Some-clause-told c = λ said after yes'.
    let teller = c.args.self.now in
    gone_on c.args.emitted.now said teller.place teller.len c.args.packet.now c.in-Some.at after (omega arith) c.in-Some.ensures.onward c.in-Some.ensures.stands c.in-Some.ensures.first
