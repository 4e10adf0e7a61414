-- The last seats of a list of seats.
use Rattle.std.proofs.Common.{◌≡◌, ℕ, ◌+◌, List, [], ◌∷◌, ◌++◌, length, subst, sym, refl, ap, ◌∙◌, arith}
use Rattle.std.proofs.lemmas.List.{length-append}
use Rattle.chunk_plain.specs.Views.{At}
use Rattle.chunk_plain.proofs.Lists.{at_seam}
use Rattle.chunk_words.specs.declared.host.HostTable.{HostTable}
use Rattle.chunk_words.specs.declared.seats.WriterSeat.{WriterSeat}
use Rattle.chunk_words.specs.Made.{HasWriterSeats}
use Rattle.chunk_words_rows.specs.Fresh.{IsFreshSeat}

at_end_before : (seats more : List WriterSeat) (seat : WriterSeat) → At ((seats ++ seat ∷ []) ++ more) (length seats) seat
at_end_before [] more seat = refl
at_end_before (x ∷ xs) more seat = at_end_before xs more seat

one_less : (all left : List WriterSeat) (seat : WriterSeat) (n : ℕ) → length all ≡ n + 1 → all ≡ left ++ seat ∷ [] → length left ≡ n
one_less all left seat n count is =
    let same : length all ≡ length left + 1 = ap (λ (l : List WriterSeat). length l) is ∙ length-append left (seat ∷ []) in omega (arith, count, same)

pub second_of : (table : HostTable) (all left : List WriterSeat) (second : WriterSeat) → HasWriterSeats table 2 all → all ≡ left ++ second ∷ [] → IsFreshSeat table 1 second
second_of table all left second has is =
    has.each 1 second (subst (λ l. At l 1 second) (sym is)
    (subst (λ n. At (left ++ second ∷ []) n second) (one_less all left second 1 has.count_is is) (at_seam left [] second)))

pub first_of : (table : HostTable) (all left rest : List WriterSeat) (first second : WriterSeat) → HasWriterSeats table 2 all → all ≡ left ++ second ∷ [] → left ≡ rest ++ first ∷ []
    → IsFreshSeat table 0 first
first_of table all left rest first second has is before =
    let short : length rest ≡ 0 = one_less left rest first 0 (one_less all left second 1 has.count_is is) before in
    has.each 0 first (subst (λ l. At l 0 first) (sym is)
    (subst (λ (l : List WriterSeat). At (l ++ second ∷ []) 0 first) (sym before)
    (subst (λ n. At ((rest ++ first ∷ []) ++ second ∷ []) n first) short (at_end_before rest (second ∷ []) first))))
