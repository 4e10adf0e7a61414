-- The seat of a user alone.
use Rattle.std.proofs.Common.{◌≡◌, ◌+◌, List, [], ◌∷◌, ◌++◌, length, subst, sym, ap, ◌∙◌, arith}
use Rattle.std.proofs.lemmas.List.{length-append}
use Rattle.chunk_plain.specs.Views.{At}
use Rattle.chunk_plain.proofs.Lists.{at_seam}
use Rattle.layout_tuner.specs.declared.table.TuneTable.{TuneTable}
use Rattle.layout_tuner.specs.declared.seats.TuneSeat.{TuneSeat}
use Rattle.layout_tuner.specs.Knows.{UserView}
use Rattle.layout_tuner.specs.Closed.{HasNewSeats}
use Rattle.tune_speed.specs.Ready.{IsReady}

-- the last seat of a list of one is ready
pub only_of : (table : TuneTable) (all left : List TuneSeat) (seat : TuneSeat) → table.shape.pages ≡ 4 → HasNewSeats table 1 all → all ≡ left ++ seat ∷ [] → IsReady table seat
only_of table all left seat four has is =
    let whole : length all ≡ length left + 1 = ap (λ (l : List TuneSeat). length l) is ∙ length-append left (seat ∷ []) in
    let count = has.count_is in
    let none : length left ≡ 0 = omega (arith, count, whole) in
    let at : At all 0 seat = subst (λ l. At l 0 seat) (sym is) (subst (λ n. At (left ++ seat ∷ []) n seat) none (at_seam left [] seat)) in
    let here = has.each 0 seat at in
    record { four = four; sits = here.1; none = ap (λ (v : UserView). v.claimed) here.2 }
