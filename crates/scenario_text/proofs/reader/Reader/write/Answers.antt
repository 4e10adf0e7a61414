use Rattle.std.proofs.Common.{◌≡◌, ◌∙◌, Ok, ap, arith}
use Rattle.scenario_text.specs.Reasons.{given_by}
use Rattle.scenario_text.specs.State.{len_of, nesting_of, packet_of}
use Rattle.scenario_text.specs.View.{state_of}
use Rattle.scenario_text.proofs.WriteLemmas.{refused_as_too_long, refused_as_too_many}
use Rattle.scenario_text.proofs.reader.Reader.write.Goals as goal

pub returns-then-from : goal.returns-then-from
returns-then-from c =
    let given : given_by (nesting_of (packet_of (state_of c.args.self.now) c.args.writer)) c.args.line.now c.args.step ≡ Ok c.in_ok-addition.addition.fields =
    rw (← c.packet-packet.ensures.value, ← c.nesting_of.ensures) c.in_ok-addition.ensures.0 in
    let len = c.len_of.ensures ∙ ap len_of c.packet-packet.ensures.value in
    refused_as_too_long (state_of c.args.self.now) c.args.number c.args.line.now c.args.writer c.args.step c.in_ok-addition.addition.fields
    c.in_ok-addition.addition.len c.requires.front given c.in_ok-addition.ensures.1 (omega (arith, len))

pub returns-then-from-2 : goal.returns-then-from-2
returns-then-from-2 c =
    let given : given_by (nesting_of (packet_of (state_of c.args.self.now) c.args.writer)) c.args.line.now c.args.step ≡ Ok c.in_ok-addition.addition.fields =
    rw (← c.packet-packet.ensures.value, ← c.nesting_of.ensures) c.in_ok-addition.ensures.0 in
    let len = c.len_of.ensures ∙ ap len_of c.packet-packet.ensures.value in
    refused_as_too_many (state_of c.args.self.now) c.args.number c.args.line.now c.args.writer c.args.step c.in_ok-addition.addition.fields
    c.in_ok-addition.addition.len c.requires.front given c.in_ok-addition.ensures.1 (omega (arith, len)) (omega arith)
