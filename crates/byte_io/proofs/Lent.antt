-- What follows from the clauses of an adapter for the sink that it was lent.
use Rattle.std.proofs.Common.{◌≡◌, ℕ, List, [], ◌∷◌, ◌++◌, length, take, drop, Result, Ok, Err, IfOk, OnErr, refl, sym, ◌∙◌, ap, subst, arith, append_assoc, append-nil}
use Rattle.std.proofs.lemmas.Grind.{common_steps}
use Rattle.std.proofs.lemmas.List.{take-append-drop, take-append-le, append_cancel_left}
use Rattle.byte_io.specs.Bytes.{Loan, Intake, told, untold, after_told, lent_by, told_bytes, IsGrown, TakesPart, TakesUpTo, HandsOn}
use Rattle.byte_io.proofs.Told.{after_told_again}

-- an adapter takes the bytes, and so does what it hands them on to
pub after_told_lent : (loan : Loan) (old : Intake) (bytes : List ℕ) → after_told (lent_by loan old) bytes ≡ lent_by loan (after_told old bytes)
after_told_lent loan (told taken loans) bytes = refl
after_told_lent loan (untold loans) bytes = refl

-- what was passed on and what still waits is what waited
pub up_to_joined : (old new : Intake) (bytes rest : List ℕ) → TakesUpTo old new bytes rest → after_told new rest ≡ after_told old bytes
up_to_joined old new bytes rest done =
    ap (λ intake. after_told intake rest) done.taken ∙ after_told_again old done.part rest ∙ ap (λ all. after_told old all) (sym done.cut)

-- a sink that has taken more has taken none back
pub grown_after : (start old : Intake) (bytes : List ℕ) → IsGrown start old → IsGrown start (after_told old bytes)
grown_after (told first loans) (told taken loans') bytes grown = grind (arith, common_steps, take-append-le)
grown_after (untold loans) old bytes grown = grind (arith, common_steps)
grown_after (told first loans) (untold loans') bytes grown = grown

-- the same after a run of writes
pub grown_up_to : (start old new : Intake) (bytes rest : List ℕ) → TakesUpTo old new bytes rest → IsGrown start old → IsGrown start new
grown_up_to start old new bytes rest done grown =
    let P : Intake → Type 0 = λ intake. IsGrown start intake in
    subst P (sym done.taken) (grown_after start old done.part grown)

-- the same whatever a write answered
pub grown_written : {E : Type 0} (start old new : Intake) (result : Result ℕ E) (piece : List ℕ) → IsGrown start old
    → IfOk result (λ count. new ≡ after_told old (take count piece)) → OnErr result (new ≡ old) → IsGrown start new
grown_written start old new (Ok count) piece grown wrote failed =
    let P : Intake → Type 0 = λ intake. IsGrown start intake in
    subst P (sym wrote) (grown_after start old (take count piece) grown)
grown_written start old new (Err fault) piece grown wrote failed =
    let P : Intake → Type 0 = λ intake. IsGrown start intake in
    subst P (sym failed) grown

-- what was passed on of a list that goes on from a start, where some bytes of it still wait
record Passed (start first waits part : List ℕ) : Type 0 where
  passed : List ℕ
  first_is : first ≡ start ++ passed
  part_is : part ≡ passed ++ waits

-- a list that still has its start, and with what waits is the start and a part, has what was passed on of the part
passed_of : (start first waits part : List ℕ) → take (length start) first ≡ start → first ++ waits ≡ start ++ part → Passed start first waits part
passed_of start first waits part grown same =
    let split : first ≡ start ++ drop (length start) first = sym (take-append-drop (length start) first) ∙ ap (λ front. front ++ drop (length start) first) grown in
    let joined : start ++ part ≡ start ++ (drop (length start) first ++ waits) =
    sym same ∙ ap (λ all. all ++ waits) split ∙ append_assoc start (drop (length start) first) waits in
    record { passed = drop (length start) first; first_is = split; part_is = append_cancel_left start _ _ joined }

-- a part that is cut again cuts the whole
cut_again : (bytes part rest passed waits : List ℕ) → bytes ≡ part ++ rest → part ≡ passed ++ waits → bytes ≡ passed ++ (waits ++ rest)
cut_again bytes part rest passed waits whole front = whole ∙ ap (λ all. all ++ rest) front ∙ append_assoc passed waits rest

-- equal bytes on equal loans
same_told : (bytes bytes' : List ℕ) (loans loans' : List Loan) → bytes ≡ bytes' → loans ≡ loans' → told bytes loans ≡ told bytes' loans'
same_told bytes bytes' loans loans' same same_loans = cc

-- the case of a sink that tells its bytes
told_part : (first second part rest waits bytes : List ℕ) (loans loans' : List Loan) → take (length first) second ≡ first → bytes ≡ part ++ rest
    → second ++ waits ≡ first ++ part → loans' ≡ loans → TakesPart (told first loans) (told second loans') bytes
told_part first second part rest waits bytes loans loans' kept whole same same_loans =
    let cut = passed_of first second waits part kept same in
    record {
      part = cut.passed;
      rest = waits ++ rest;
      cut = cut_again bytes part rest cut.passed waits whole cut.part_is;
      taken = same_told second (first ++ cut.passed) loans' loans cut.first_is same_loans;
    }

-- where an adapter took part of some bytes, the sink that it was lent took part of them
pub lent_part : (loan loan' : Loan) (old new : Intake) (waits bytes : List ℕ) → loan.start ≡ told_bytes old
    → take (length loan'.start) (told_bytes new) ≡ loan'.start
    → TakesPart (lent_by loan (after_told old [])) (lent_by loan' (after_told new waits)) bytes → TakesPart old new bytes
lent_part loan loan' (told first loans) (told second loans') waits bytes started grown done =
    let same : told (second ++ waits) (loan' ∷ loans') ≡ told ((first ++ []) ++ done.part) (loan ∷ loans) = done.taken in
    let same_loan : loan' ≡ loan = cc in
    let start_is : loan'.start ≡ first = ap (λ l. l.start) same_loan ∙ started in
    let P : List ℕ → Type 0 = λ start. take (length start) second ≡ start in
    told_part first second done.part done.rest waits bytes loans loans' (subst P start_is grown) done.cut (grind (arith, common_steps, same)) cc
lent_part loan loan' (untold loans) (untold loans') waits bytes started grown done =
    let same : untold (loan' ∷ loans') ≡ untold (loan ∷ loans) = done.taken in
    record { part = []; rest = bytes; cut = refl; taken = cc }
lent_part loan loan' (told first loans) (untold loans') waits bytes started grown done =
    let same : untold (loan' ∷ loans') ≡ told ((first ++ []) ++ done.part) (loan ∷ loans) = done.taken in
    absurd cc
lent_part loan loan' (untold loans) (told second loans') waits bytes started grown done =
    let same : told (second ++ waits) (loan' ∷ loans') ≡ untold (loan ∷ loans) = done.taken in
    absurd cc

-- an adapter took all of some bytes, and then those that waited were passed on, but for a rest
pub handed_on : (old mid new : Intake) (bytes waits rest : List ℕ) → HandsOn old mid bytes waits → TakesUpTo mid new waits rest → TakesPart old new bytes
handed_on (told first loans) (told second loans') new bytes waits rest handed done =
    let all : told (second ++ waits) loans' ≡ told (first ++ bytes) loans = handed.all in
    let whole : waits ≡ done.part ++ rest = done.cut in
    let same : (second ++ done.part) ++ rest ≡ first ++ bytes = append_assoc second done.part rest ∙ ap (λ behind. second ++ behind) (sym whole) ∙ ap told_bytes all in
    let kept : take (length first) (second ++ done.part) ≡ first = grown_after (told first loans) (told second loans') done.part handed.grown in
    let front : TakesPart (told first loans) (told (second ++ done.part) loans') bytes =
    told_part first (second ++ done.part) bytes [] rest bytes loans loans' kept (sym (append-nil bytes)) same cc in
    let P : Intake → Type 0 = λ intake. TakesPart (told first loans) intake bytes in
    subst P (sym done.taken) front
handed_on (untold loans) (untold loans') new bytes waits rest handed done =
    record { part = []; rest = bytes; cut = refl; taken = done.taken ∙ handed.all }
handed_on (told first loans) (untold loans') new bytes waits rest handed done =
    let all : untold loans' ≡ told (first ++ bytes) loans = handed.all in absurd cc
handed_on (untold loans) (told second loans') new bytes waits rest handed done =
    let all : told (second ++ waits) loans' ≡ untold loans = handed.all in absurd cc
