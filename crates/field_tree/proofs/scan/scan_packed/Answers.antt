use Rattle.std.proofs.Common.{ℕ, [], ◌∷◌, ap, ◌∙◌}
use Rattle.field_tree.specs.declared.mode.Mode.TheVariants.{Tick, Pairs}
use Rattle.field_tree.specs.Scanning.{reading_with}
use Rattle.field_tree.proofs.ScanLemmas.{stays_here, over_front, at_tick}
use Rattle.field_tree.proofs.scan.scan_packed.Goals as goal

pub returns-in-Some-eq39-default : goal.returns-in-Some-eq39-default
returns-in-Some-eq39-default c nodes depth =
    let field = c.args.field in
    let tick = c.in-Some-eq39-default in
    let to = reading_with nodes depth [] (Pairs field) in
    over_front 39 (reading_with nodes depth [] (Tick field)) to to
    c.args.bytes.now tick.behind.now tick.behind.now (tick.ensures ∙ ap (λ (b : ℕ). b ∷ tick.behind.now) tick.field-0-0-test)
    (at_tick nodes depth field) (stays_here to tick.behind.now)

pub returns-in_default : goal.returns-in_default
returns-in_default c nodes depth = stays_here (reading_with nodes depth [] (Tick c.args.field)) c.args.bytes.now
