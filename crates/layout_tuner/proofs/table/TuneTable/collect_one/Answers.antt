use Rattle.std.proofs.Common.{◌∙◌, rules, sym, subst}
use denote.Enum.Bare.{same_true}
use Rattle.page_geometry.specs.PageBits.{HasState}
use Rattle.page_geometry.specs.contracts.chunk_state.ChunkState.{the_type}
use Rattle.page_geometry.specs.declared.chunk_state.ChunkState.TheVariants.{Complete}
use Rattle.layout_tuner.specs.Sits.{known_by_collector}
use Rattle.layout_tuner.proofs.WordBits.{is_full-bits}
use Rattle.layout_tuner.proofs.Collections.{collects_full}
use Rattle.layout_tuner.proofs.table.TuneTable.collect_one.Goals as goal

pub returns-then-eq-clause-collects : goal.returns-then-eq-clause-collects
returns-then-eq-clause-collects c =
    let found = c.step_look-found.result in let place = c.args.place in
    let bits : HasState found place Complete = subst (HasState found place) (same_true the_type (search rules) _ _ (sym c.eq.ensures ∙ c.if-eq.true)) c.state.ensures.bits in
    collects_full c.args.self.now.shape.users c.args.page place found (known_by_collector c.args.seat.now) (known_by_collector c.step_look-found.new.seat) (known_by_collector c.step_take.new.seat)
    (known_by_collector c.step_release.new.seat) c.step_look-found.ensures.looks c.requires.seat.none_read (is_full-bits found place bits.low bits.high) c.step_take.ensures.view c.step_release.ensures.view
