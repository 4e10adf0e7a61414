-- What a call of a reader or writer of std does, as what the adapters over it tell.
use Rattle.std.proofs.Common.{◌≡◌, ℕ, List, [], ◌++◌, take, Option, Some, None, IfSome, refl, ap, arith}
use Rattle.std.specs.Io.KnownBytes.{Keeps, Appends, Consumes, IsAtEnd}
use Rattle.byte_io.specs.Bytes.{Intake, told, untold, before_told, after_told}
use Rattle.byte_io.specs.Known.{StillTells, still_told, taken_in}

-- what was known still is behind a read that gave bytes
pub tells_consumed : (start old new : Option (List ℕ)) (bytes : List ℕ) → StillTells start old → Consumes old new bytes → StillTells start new
tells_consumed None old new bytes tells gone = λ known. grind (arith, known)
tells_consumed (Some s) None new bytes tells gone = grind (arith, tells refl)
tells_consumed (Some s) (Some xs) None bytes tells gone = absurd gone
tells_consumed (Some s) (Some xs) (Some ys) bytes tells gone = λ known. refl

-- and behind a call that changed nothing
pub tells_kept : (start old new : Option (List ℕ)) → StillTells start old → Keeps old new → StillTells start new
tells_kept None old new tells same = λ known. grind (arith, known)
tells_kept (Some s) None new tells same = grind (arith, tells refl)
tells_kept (Some s) (Some xs) None tells same = absurd same
tells_kept (Some s) (Some xs) (Some ys) tells same = λ known. refl

-- and behind a write that took bytes
pub tells_appended : (start old new : Option (List ℕ)) (bytes : List ℕ) → StillTells start old → Appends old new bytes → StillTells start new
tells_appended None old new bytes tells more = λ known. grind (arith, known)
tells_appended (Some s) None new bytes tells more = grind (arith, tells refl)
tells_appended (Some s) (Some xs) None bytes tells more = absurd more
tells_appended (Some s) (Some xs) (Some ys) bytes tells more = λ known. refl

-- bytes that a read gave stood in front of what is left
pub gives_consumed : (start old new : Option (List ℕ)) (bytes : List ℕ) → StillTells start old → Consumes old new bytes
    → still_told start old ≡ before_told bytes (still_told start new)
gives_consumed None old new bytes tells gone = refl
gives_consumed (Some s) None new bytes tells gone = grind (arith, tells refl)
gives_consumed (Some s) (Some xs) None bytes tells gone = absurd gone
gives_consumed (Some s) (Some xs) (Some ys) bytes tells gone = ap (λ left. Some left) gone

-- a call that failed left what is told as it was
pub told_kept : (start old new : Option (List ℕ)) → StillTells start old → Keeps old new → still_told start new ≡ still_told start old
told_kept None old new tells same = refl
told_kept (Some s) None new tells same = grind (arith, tells refl)
told_kept (Some s) (Some xs) None tells same = absurd same
told_kept (Some s) (Some xs) (Some ys) tells same = ap (λ bytes. Some bytes) same

-- at the end of the reader nothing is left
pub ends_told : (start new : Option (List ℕ)) → IsAtEnd new → IfSome (still_told start new) (λ rest. rest ≡ [])
ends_told None new ended = tt
ends_told (Some s) None ended = tt
ends_told (Some s) (Some ys) ended = ended

-- bytes that the writer took are taken
pub takes_appended : (start old new : Option (List ℕ)) (bytes : List ℕ) → StillTells start old → Appends old new bytes
    → taken_in (still_told start new) ≡ after_told (taken_in (still_told start old)) bytes
takes_appended None old new bytes tells more = refl
takes_appended (Some s) None new bytes tells more = grind (arith, tells refl)
takes_appended (Some s) (Some xs) None bytes tells more = absurd more
takes_appended (Some s) (Some xs) (Some ys) bytes tells more = ap (λ taken. told taken []) more
