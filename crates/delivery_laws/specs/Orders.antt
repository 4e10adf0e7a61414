-- The history of one sequence as a service makes it: all chunks of its writer in order, each one's patches right behind it.
use Rattle.std.specs.Prelude.{◌≡◌, ℕ, suc, ◌==◌, Bool, true, false, List, [], ◌∷◌, Some, slice_get, MatchBool}
use Rattle.trace_model.specs.Images.{Patch}
use Rattle.trace_model.specs.History.{Event, Arrives, ArrivesInPart, Patched, Committed, Closed, Read}
use Rattle.delivery_laws.specs.Sheets.{Sheet}
use Rattle.delivery_laws.specs.Histories.{IsPart}

-- So many chunks of the sequence have come, it is closed or not, and these patches are due next. Parts of a chunk come before
-- it, while the sequence is open; nothing of it comes by a commit. What other sequences do is free, but that the patches which
-- are due come first.
abbrev pub InOrder : List Sheet → ℕ → ℕ → Bool → List Patch → List Event → Type 0
InOrder sheets sequence come closed due [] = due ≡ []
InOrder sheets sequence come closed due (Arrives other chunk_id chunk ∷ events) =
    (due ≡ [])
    × MatchBool (other == sequence)
    ((closed ≡ false) × (chunk_id ≡ come) × (sheet : Sheet) × (slice_get sheets come ≡ Some sheet) × (chunk ≡ sheet.chunk)
    × InOrder sheets sequence (suc come) closed sheet.patches events)
    (InOrder sheets sequence come closed [] events)
InOrder sheets sequence come closed due (ArrivesInPart other chunk_id chunk ∷ events) =
    (due ≡ [])
    × MatchBool (other == sequence)
    ((closed ≡ false) × (chunk_id ≡ come) × IsPart sheets come chunk × InOrder sheets sequence come closed [] events)
    (InOrder sheets sequence come closed [] events)
InOrder sheets sequence come closed due (Patched other patches ∷ events) =
    MatchBool (other == sequence)
    ((patches ≡ due) × InOrder sheets sequence come closed [] events)
    ((due ≡ []) × InOrder sheets sequence come closed [] events)
InOrder sheets sequence come closed due (Committed image patches ∷ events) =
    (due ≡ []) × ((image.sequence == sequence) ≡ false) × InOrder sheets sequence come closed [] events
InOrder sheets sequence come closed due (Closed other ∷ events) =
    (due ≡ [])
    × MatchBool (other == sequence)
    ((closed ≡ false) × InOrder sheets sequence come true [] events)
    (InOrder sheets sequence come closed [] events)
InOrder sheets sequence come closed due (Read other limit ∷ events) = (due ≡ []) × InOrder sheets sequence come closed [] events
