-- The last seats of a list of seats.
use Rattle.std.proofs.Common.{◌≡◌, ℕ, ◌+◌, List, [], ◌∷◌, ◌++◌, length, subst, sym, refl, ap, ◌∙◌, arith}
use Rattle.std.proofs.lemmas.List.{length-append}
use Rattle.chunk_plain.specs.Views.{At}
use Rattle.chunk_plain.proofs.Lists.{at_seam}
use Rattle.layout_tuner.specs.declared.table.TuneTable.{TuneTable}
use Rattle.layout_tuner.specs.declared.seats.TuneSeat.{TuneSeat}
use Rattle.layout_tuner.specs.Knows.{UserView}
use Rattle.layout_tuner.specs.Closed.{HasNewSeats}
use Rattle.tune_rows.specs.Hands.{HasNone}

at_end_before : (seats more : List TuneSeat) (seat : TuneSeat) → At ((seats ++ seat ∷ []) ++ more) (length seats) seat
at_end_before [] more seat = refl
at_end_before (x ∷ xs) more seat = at_end_before xs more seat

one_less : (all left : List TuneSeat) (seat : TuneSeat) (n : ℕ) → length all ≡ n + 1 → all ≡ left ++ seat ∷ [] → length left ≡ n
one_less all left seat n count is =
    let same : length all ≡ length left + 1 = ap (λ (l : List TuneSeat). length l) is ∙ length-append left (seat ∷ []) in omega (arith, count, same)

has_none : (table : TuneTable) (all : List TuneSeat) (place : ℕ) (seat : TuneSeat) → table.shape.pages ≡ 4 → HasNewSeats table 2 all → At all place seat → HasNone table seat
has_none table all place seat four has at = let is = has.each place seat at in record { four = four; sits = is.1; none = ap (λ (v : UserView). v.claimed) is.2 }

pub second_of : (table : TuneTable) (all left : List TuneSeat) (second : TuneSeat) → table.shape.pages ≡ 4 → HasNewSeats table 2 all → all ≡ left ++ second ∷ [] → HasNone table second
second_of table all left second four has is =
    has_none table all 1 second four has (subst (λ l. At l 1 second) (sym is)
    (subst (λ n. At (left ++ second ∷ []) n second) (one_less all left second 1 has.count_is is) (at_seam left [] second)))

pub first_of : (table : TuneTable) (all left rest : List TuneSeat) (first second : TuneSeat) → table.shape.pages ≡ 4 → HasNewSeats table 2 all → all ≡ left ++ second ∷ [] → left ≡ rest ++ first ∷ []
    → HasNone table first
first_of table all left rest first second four has is before =
    let short : length rest ≡ 0 = one_less left rest first 0 (one_less all left second 1 has.count_is is) before in
    has_none table all 0 first four has (subst (λ l. At l 0 first) (sym is)
    (subst (λ (l : List TuneSeat). At (l ++ second ∷ []) 0 first) (sym before)
    (subst (λ n. At ((rest ++ first ∷ []) ++ second ∷ []) n first) short (at_end_before rest (second ∷ []) first))))
