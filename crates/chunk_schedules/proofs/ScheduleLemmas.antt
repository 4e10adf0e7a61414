-- Schedules join, and keep a world owned.
use Rattle.std.proofs.Common.{◌∙◌, List, [], ◌∷◌, ◌++◌, length, refl, sym, ap, subst}
use Rattle.chunk_plain.specs.World.{World}
use Rattle.chunk_plain.specs.Owned.{IsOwned}
use Rattle.chunk_plain.specs.Setup.{Setup}
use Rattle.chunk_schedules.specs.Moves.{Move, behind}
use Rattle.chunk_schedules.specs.Schedules.{IsSchedule}
use Rattle.chunk_schedules.specs.Laws.{SchedulesJoin, SchedulesKeepOwnership}
use Rattle.chunk_schedules.proofs.MoveLemmas.{move_keeps, move_writers, move_chunks}

both : (setup : Setup) (old mid new : World) (moves more : List Move) → IsSchedule setup old moves mid → IsSchedule setup mid more new
    → IsSchedule setup old (moves ++ more) new
both setup old mid new [] more first then = subst (λ (world : World). IsSchedule setup world more new) first then
both setup old mid new (move ∷ moves) more first then = (first.0, both setup (behind old move) mid new moves more first.1 then)

front : (setup : Setup) (old new : World) (moves more : List Move) → IsSchedule setup old (moves ++ more) new
    → (mid : World) × IsSchedule setup old moves mid × IsSchedule setup mid more new
front setup old new [] more all = (old, refl, all)
front setup old new (move ∷ moves) more all =
    let rest = front setup (behind old move) new moves more all.1 in
    (rest.0, (all.0, rest.1), rest.2)

pub schedules_join : SchedulesJoin
schedules_join = record { none = λ setup world. refl; both = both; front = front }

pub schedules_keep_ownership : SchedulesKeepOwnership
schedules_keep_ownership setup old new [] owned same =
    (subst IsOwned (sym same) owned, ap (λ (world : World). length world.writers) same, ap (λ (world : World). length world.chunks) same)
schedules_keep_ownership setup old new (move ∷ moves) owned schedule =
    let rest = schedules_keep_ownership setup (behind old move) new moves (move_keeps setup old move schedule.0 owned) schedule.1 in
    (rest.0, rest.1 ∙ move_writers old move, rest.2 ∙ move_chunks old move)
