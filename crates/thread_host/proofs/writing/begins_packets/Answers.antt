-- The walk goes over the writer's own lines.
use Rattle.std.proofs.Common.{◌∙◌, Bool, List, length, sym, ap, arith}
use Rattle.std.specs.Prelude.{◌||◌}
use Rattle.std.specs.List.{list_any}
use Rattle.scenario_text.specs.declared.scenario.LineKind.{LineKind}
use Rattle.run_model.specs.Collected.{begins_packet}
use Rattle.thread_host.proofs.writing.begins_packets.Goals as goal

pub lines-init : goal.lines-init
lines-init c = record { same = ap (list_any begins_packet) c.walk_of-walk.ensures }

pub lines-smaller : goal.lines-smaller
lines-smaller c = omega (arith, ap (λ (kinds : List LineKind). length kinds) c.in-Some.ensures.first)

pub lines-preserved : goal.lines-preserved
lines-preserved c =
    let others : List LineKind = c.next.new.self in
    record {
      same = ap (λ (b : Bool). b || list_any begins_packet others) (sym c.if-begins_packet.false ∙ c.begins_packet.ensures)
          ∙ sym (ap (list_any begins_packet) c.in-Some.ensures.first) ∙ c.lines.invariant.same;
    }

pub returns-then-begins_packet : goal.returns-then-begins_packet
returns-then-begins_packet c =
    let others : List LineKind = c.next.new.self in
    ap (λ (b : Bool). b || list_any begins_packet others) (sym c.if-begins_packet.true ∙ c.begins_packet.ensures)
    ∙ sym (ap (list_any begins_packet) c.in-Some.ensures.first) ∙ c.lines.invariant.same

pub returns : goal.returns
returns c =
    let none = rw c.in_default.is at c.next.ensures.none in
    sym (ap (list_any begins_packet) none.0) ∙ c.lines.invariant.same
