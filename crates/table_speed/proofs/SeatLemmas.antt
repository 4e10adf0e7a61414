-- The last seat of a list of seats.
use Rattle.std.proofs.Common.{◌≡◌, ◌+◌, List, [], ◌∷◌, ◌++◌, length, subst, sym, refl, ap, ◌∙◌}
use Rattle.std.proofs.lemmas.List.{length-append}
use Rattle.atomic_table.proofs.Lists.{at_longer, at_last}
use Rattle.chunk_plain.specs.Views.{At, newcomer}
use Rattle.chunk_words.specs.declared.host.HostTable.{HostTable}
use Rattle.chunk_words.specs.declared.seats.WriterSeat.{WriterSeat}
use Rattle.chunk_words.specs.Made.{HasWriterSeats}
use Rattle.chunk_words.specs.Sits.{Sits, known_by}

-- how many are left
pub one_less : (all left : List WriterSeat) (seat : WriterSeat) → all ≡ left ++ seat ∷ [] → length all ≡ length left + 1
one_less all left seat is = ap (λ (l : List WriterSeat). length l) is ∙ length-append left (seat ∷ [])

-- the last seat, and those that are left
pub last_seat : (table : HostTable) (all left : List WriterSeat) (seat : WriterSeat) → HasWriterSeats table (length all) all → all ≡ left ++ seat ∷ []
    → (seat.place ≡ length left) × Sits table seat × (known_by seat ≡ newcomer)
last_seat table all left seat has is = has.each (length left) seat (subst (λ l. At l (length left) seat) (sym is) (at_last left seat (length left) refl))

pub seats_left : (table : HostTable) (all left : List WriterSeat) (seat : WriterSeat) → HasWriterSeats table (length all) all → all ≡ left ++ seat ∷ []
    → HasWriterSeats table (length left) left
seats_left table all left seat has is = record {
  count_is = refl;
  each = λ place other at. has.each place other (subst (λ l. At l place other) (sym is) (at_longer left (seat ∷ []) place other at));
}
