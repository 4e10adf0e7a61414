use Rattle.std.proofs.Common.{◌≡◌, ◌++◌, ℕ, List, length, take, drop, subst, sym, ap, arith}
use Rattle.emitted_packets.specs.declared.emitter.Emitter.{Emitter}
use Rattle.emitted_packets.proofs.EmitLemmas.{put_back}
use Rattle.scenario_check.specs.Progress.{HaveTaken, MayCome}
use Rattle.scenario_check.proofs.EmissionLemmas.{scenario_may}
use Rattle.scenario_check.proofs.collect.emit_all.Goals as goal

pub take_lines-requires-clause-may : goal.take_lines-requires-clause-may
take_lines-requires-clause-may c =
    let scenario = c.args.scenario.now in
    let many : length scenario.writers.items ≡ length c.deref_mut.result.now =
    omega (arith, ap length c.deref_mut.ensures.value, c.in_ok-emitters.ensures.many, c.len.ensures, scenario.writers.ok.0) in
    subst (λ (n : ℕ). MayCome n scenario.lines) many (scenario_may scenario c.requires)

pub take_lines-requires-clause-none : goal.take_lines-requires-clause-none
take_lines-requires-clause-none c = rw c.deref_mut.ensures.value (c.in_ok-emitters.ensures.none)

pub returns-clause-taken : goal.returns-clause-taken
returns-clause-taken c =
    let items : List Emitter = c.in_ok-emitters.emitters.items in
    let new : List Emitter = c.take_lines.new.emitters in
    let all : take c.in_ok-emitters.emitters.len (new ++ drop (length new) items) ≡ new =
    put_back items new c.in_ok-emitters.emitters.len (omega (arith, c.in_ok-emitters.emitters.ok.0)) (omega (arith, ap length c.deref_mut.ensures.value)) in
    subst (HaveTaken c.args.scenario.now.lines) (sym all) c.in_ok-take_lines.ensures
