-- Histories of a buffer in which the chunks of one sequence come by commits, in whatever order, and agree with what its writer wrote.
use Rattle.std.specs.Prelude.{◌≡◌, ℕ, ◌==◌, ◌<◌, Bool, true, false, List, [], ◌∷◌, ◌++◌, length, MatchBool, ⊤}
use Rattle.trace_base.specs.declared.policy.FullPolicy.{FullPolicy}
use Rattle.trace_model.specs.Buffers.{empty_buffer}
use Rattle.trace_model.specs.History.{Event, Arrives, ArrivesInPart, Patched, Committed, Closed, Read, delivered_to}
use Rattle.trace_model.specs.Images.{Image, Fragment, Patch, whole_chunk}
use Rattle.trace_model.specs.Reading.{Fragments, reading_of}
use Rattle.trace_model.specs.Sequences.{Sequence, IsFresh, is_among, is_known, sequence_in, with_number}
use Rattle.delivery_laws.specs.Histories.{AreTold, IsComplete}
use Rattle.delivery_laws.specs.Sheets.{Sheet, SheetsAgree, all_parts, packets_in}
use Rattle.commit_laws.specs.Commits.{NoneIsRefused, commits_in, patches_brought}

-- the patches that the sequence's commits bring, in the order in which they come
abbrev pub patches_to : ℕ → List Event → List Patch
patches_to sequence events = patches_brought (commits_in sequence events)

-- The image is the writer's chunk at its position, which is complete, while these patches are still to come.
pub record IsImageOf (sheets : List Sheet) (later : List Patch) (image : Image) : Type 0 where
  pub fragments : List Fragment
  pub reads : reading_of image.count image.payload ≡ Fragments fragments
  pub complete : IsComplete sheets later image.chunk_id (whole_chunk image.flags fragments)

-- The events agree with the chunks of the sequence's writer: these have come, and the sequence is closed or not. Each commit brings one of
-- them, while its own patches and those of the commits behind are to come; nothing comes otherwise, and where the sequence is closed all have
-- come. What other sequences do is free.
abbrev pub AreCommitted : List Sheet → ℕ → List ℕ → Bool → List Event → Type 0
AreCommitted sheets sequence came closed [] = ⊤
AreCommitted sheets sequence came closed (Arrives other chunk_id chunk ∷ events) =
    ((other == sequence) ≡ false) × AreCommitted sheets sequence came closed events
AreCommitted sheets sequence came closed (ArrivesInPart other chunk_id chunk ∷ events) =
    ((other == sequence) ≡ false) × AreCommitted sheets sequence came closed events
AreCommitted sheets sequence came closed (Patched other patches ∷ events) =
    ((other == sequence) ≡ false) × AreCommitted sheets sequence came closed events
AreCommitted sheets sequence came closed (Committed image patches ∷ events) =
    MatchBool (image.sequence == sequence)
    ((closed ≡ false) × IsImageOf sheets (patches ++ patches_to sequence events) image
    × AreCommitted sheets sequence (with_number image.chunk_id came) closed events)
    (AreCommitted sheets sequence came closed events)
AreCommitted sheets sequence came closed (Closed other ∷ events) =
    MatchBool (other == sequence)
    (((i : ℕ) → i < length sheets → is_among i came ≡ true) × AreCommitted sheets sequence came true events)
    (AreCommitted sheets sequence came closed events)
AreCommitted sheets sequence came closed (Read other limit ∷ events) = AreCommitted sheets sequence came closed events

-- Of any chunks with flags that agree, and any history of commits that agrees with them and of which none is refused: what its reads deliver
-- are packets that were written whole, in order, each once, and marked exactly where one is missing. Records are overwritten or discarded
-- meanwhile, and reads have limits.
abbrev pub EveryCommitHistoryTells : Type 0
EveryCommitHistoryTells =
    (sheets : List Sheet) (sequence record_size room : ℕ) (policy : FullPolicy) (sequences : List Sequence) (events : List Event)
    → SheetsAgree false sheets → is_known sequences sequence ≡ true → IsFresh sequence record_size (sequence_in sequences sequence)
    → AreCommitted sheets sequence [] false events
    → NoneIsRefused sequence (empty_buffer room policy sequences) events
    → AreTold (packets_in (all_parts sheets)) true 0 (delivered_to sequence (empty_buffer room policy sequences) events)
