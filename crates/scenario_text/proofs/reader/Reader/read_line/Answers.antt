use Rattle.std.proofs.Common.{Result, sym, subst}
use Rattle.scenario_text.specs.declared.reason.Reason.{Reason}
use Rattle.scenario_text.specs.Answers.{LeadsTo}
use Rattle.scenario_text.specs.State.{State}
use Rattle.scenario_text.specs.View.{state_of}
use Rattle.scenario_text.proofs.PacketLemmas.{packet_form}
use Rattle.scenario_text.proofs.reader.Reader.read_line.Goals as goal

pub returns-in-Some : goal.returns-in-Some
returns-in-Some c =
    let leads = packet_form (state_of c.args.self.now) c.args.number c.args.line.now c.in-Some.found.writer c.in-Some.found.fields.now c.in-Some.ensures in
    subst (λ (given : Result State Reason). LeadsTo (state_of c.play_packet.new.self) c.play_packet.result given) (sym leads) c.play_packet.ensures
