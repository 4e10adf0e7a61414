use Rattle.std.proofs.Common.{◌≡◌, ◌++◌, Some, None, Result, IfOk, MatchResult, refl, subst}
use Rattle.trace_writer.specs.declared.fault.Begun.{Begun as BegunPacket}
use Rattle.trace_writer.specs.declared.fault.CallFault.{CallFault}
use Rattle.trace_writer.specs.Asked.{begun_as, stops_with}
use Rattle.trace_writer.specs.Core.{route_of}
use Rattle.thread_writer.specs.Writing.{core_of, view_in}
use Rattle.tracesmb_c.specs.Lending.{view_of}
use Rattle.tracesmb_c.proofs.CallLemmas.{no_reason, noted_if_ok, reason_is, begin_noted, going, again, on}
use Rattle.tracesmb_c.proofs.CallLemmas.{none_refused, lost_behind, out_of_chunks, dropping_stops}
use Rattle.tracesmb_c.proofs.writer.OwnedWriter.begin_at.Goals as goal

-- a writer that goes on refuses no begin
pub unreachable-requires : goal.unreachable-requires
unreachable-requires g c =
    let did = c.begin.ensures.call in
    let went = going c.drops_never_stall.ensures c.args.self.now c.begin.new.self c.begin.result c.requires.ready c.deref.ensures did in
    let goes_on = on c.drops_never_stall.ensures c.args.self.now c.begin.new.self c.begin.result c.requires.ready c.deref.ensures did in
    let wrong : no_reason ≡ Some c.in_default.field-0 =
    subst (λ (r : Result BegunPacket CallFault). MatchResult r (λ _. no_reason ≡ None) (λ fault. no_reason ≡ Some fault)) c.in_default.is
    (reason_is c.begin.result None refl did went goes_on) in
    cc

pub returns : goal.returns
returns g c =
    let did = c.begin.ensures.call in
    let went = going c.drops_never_stall.ensures c.args.self.now c.begin.new.self c.begin.result c.requires.ready c.deref.ensures did in
    record {
      ready = again c.drops_never_stall.ensures c.args.self.now c.begin.new.self c.begin.result c.requires.ready c.deref.ensures did;
      notes = begin_noted c.args.self.now c.begin.new.self c.in-Ok.begun c.requires.ready
          (subst (λ (r : Result BegunPacket CallFault). IfOk r (λ _. (view_in c.begin.new.self).calls
          ≡ (view_of c.args.self.now).calls ++ begun_as (stops_with r) (route_of (core_of c.args.self.now.writer)).spec.policy)) c.in-Ok.is
          (noted_if_ok c.begin.result None refl did went));
      reason = λ drops.
          out_of_chunks c.args.self.now c.deref.result.now c.begin.new.self c.requires.ready c.deref.ensures
          (lost_behind did (none_refused (core_of c.args.self.now.writer) went) c.requires.ready.drops
          (dropping_stops c.begin.result c.in-Ok.begun c.in-Ok.is drops));
      begun = c.in-Ok.ensures.in_packet;
      depth = c.in-Ok.ensures.depth;
    }
