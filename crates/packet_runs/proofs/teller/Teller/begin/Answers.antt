use Rattle.std.proofs.Common.{arith, inl, inr}
use Rattle.packet_runs.proofs.RunLemmas.{IsBehind, begun, not_begun, wanted_within}
use Rattle.packet_runs.proofs.teller.Teller.begin.Goals as goal
use Rattle.packet_runs.proofs.teller.Teller.begin.Goals.{then-self-eq0, else-self-eq0}

pub returns-then-from-len-clause-untold : goal.returns-then-from-len-clause-untold
returns-then-from-len-clause-untold c = λ said after no.
    let teller = c.args.self.now in
    let behind : IsBehind teller.place teller.len c.if-self-eq0.from = elim c.if-self-eq0.branch [ then-self-eq0 w ↦ inl (w.if-self-eq0.true, w.from-is) | else-self-eq0 w ↦ inr (omega arith, w.from-is) ] in
    not_begun c.args.emitted.now said teller.place teller.len c.if-self-eq0.from c.args.packet.now after behind
    (wanted_within c.args.emitted.now c.if-self-eq0.from 0 c.args.packet.now c.if-self-eq0.from (omega arith))

pub returns-in-None-clause-untold : goal.returns-in-None-clause-untold
returns-in-None-clause-untold c = λ said after no.
    let teller = c.args.self.now in
    let behind : IsBehind teller.place teller.len c.if-self-eq0.from = elim c.if-self-eq0.branch [ then-self-eq0 w ↦ inl (w.if-self-eq0.true, w.from-is) | else-self-eq0 w ↦ inr (omega arith, w.from-is) ] in
    not_begun c.args.emitted.now said teller.place teller.len c.if-self-eq0.from c.args.packet.now after behind c.in-None.ensures.none

pub returns-in-Some-clause-told : goal.returns-in-Some-clause-told
returns-in-Some-clause-told c = λ said after yes'.
    let teller = c.args.self.now in
    let behind : IsBehind teller.place teller.len c.if-self-eq0.from = elim c.if-self-eq0.branch [ then-self-eq0 w ↦ inl (w.if-self-eq0.true, w.from-is) | else-self-eq0 w ↦ inr (omega arith, w.from-is) ] in
    begun c.args.emitted.now said teller.place teller.len c.if-self-eq0.from c.args.packet.now c.in-Some.at after behind c.in-Some.ensures.onward c.in-Some.ensures.stands c.in-Some.ensures.first
