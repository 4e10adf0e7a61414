-- The delivery theorem's words: what a trace holds, and when it is faithful to the packets that writers emitted.
use Rattle.std.specs.Prelude.{◌≡◌, ℕ, ◌+◌, ◌==◌, ◌<◌, ◌≤◌, List, [], ◌∷◌, ◌++◌, length, map, filter, All, Some, slice_get}
use Rattle.trace_model.specs.Tells.{Tells}

-- one record of a trace, and the sequence that it is of
pub record Delivered : Type 0 where
  pub sequence : ℕ
  pub bytes : List ℕ

-- the bytes of a trace: its records one behind another, and nothing else
abbrev pub trace_of : List Delivered → List ℕ
trace_of [] = []
trace_of (d ∷ others) = d.bytes ++ trace_of others

-- the records of one sequence, in their order
abbrev pub records_of : ℕ → List Delivered → List (List ℕ)
records_of sequence delivered = map (λ d. d.bytes) (filter (λ d. d.sequence == sequence) delivered)

-- Writers are counted from 0 here; sequence 1 is the service's own, so that they have the sequences from 2 on.
abbrev pub sequence_of : ℕ → ℕ
sequence_of writer = writer + 2

-- Each record is of a writer's sequence, and the records of each sequence tell of the packets that its writer
-- emitted: exact, whole, once, in order, and marked exactly where the packet before is missing.
pub record IsFaithful (emitted : List (List (List ℕ))) (delivered : List Delivered) : Type 0 where
  pub known : All (λ d. (2 ≤ d.sequence) × (d.sequence < sequence_of (length emitted))) delivered
  pub told : (writer : ℕ) (packets : List (List ℕ)) → slice_get emitted writer ≡ Some packets
      → Tells packets (sequence_of writer) (records_of (sequence_of writer) delivered)

-- The same of these writers' own records alone, where others may commit chunks in a writer's name: what stands in the other sequences
-- is free.
pub record IsFaithfulOf (Own : ℕ → Type 0) (emitted : List (List (List ℕ))) (delivered : List Delivered) : Type 0 where
  pub known : All (λ d. (2 ≤ d.sequence) × (d.sequence < sequence_of (length emitted))) delivered
  pub told : (writer : ℕ) (packets : List (List ℕ)) → Own writer → slice_get emitted writer ≡ Some packets
      → Tells packets (sequence_of writer) (records_of (sequence_of writer) delivered)

-- no packet of any writer is missing
abbrev pub IsComplete : List (List (List ℕ)) → List Delivered → Type 0
IsComplete emitted delivered = (writer : ℕ) (packets : List (List ℕ)) → slice_get emitted writer ≡ Some packets
    → length (records_of (sequence_of writer) delivered) ≡ length packets
