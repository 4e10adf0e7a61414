-- A record written in parts: its head, the packet's bytes in pieces, and its tail. The record itself is `record_of`.
use Rattle.std.specs.Prelude.{◌≡◌, ℕ, ◌+◌, Bool, List, [], ◌∷◌, ◌++◌, length}
use Rattle.std.specs.List.{flat_map}
use Rattle.byte_io.specs.Bytes.{Intake, after_told, TakesPart}
use Rattle.wire_varint.specs.Varint.{varint}
use Rattle.trace_model.specs.Record.{mark_where, record_of}

-- what stands behind the packet's bytes: its sequence, and the mark, where there is one
abbrev pub record_tail : ℕ → Bool → List ℕ
record_tail sequence marked = 0x50 ∷ varint sequence ++ mark_where marked

-- what stands before so many of them: the record's tag, and the length of its content
abbrev pub record_head : ℕ → ℕ → Bool → List ℕ
record_head len sequence marked = 0x0A ∷ varint (len + length (record_tail sequence marked))

-- a record of which the head is written: how many bytes of its packet are still to come, and what its tail will say
pub record Writing : Type 0 where
  pub left : ℕ
  pub sequence : ℕ
  pub marked : Bool

-- Any cut of a packet into pieces

abbrev pub joined_pieces : List (List ℕ) → List ℕ
joined_pieces pieces = flat_map (λ piece. piece) pieces

-- what a sink has taken after these pieces
abbrev pub after_pieces : Intake → List (List ℕ) → Intake
after_pieces before [] = before
after_pieces before (piece ∷ pieces) = after_pieces (after_told before piece) pieces

-- Head, pieces and tail are the record, whatever the pieces are; and where a sink fails, it has a front part of the record.
pub record RecordsAreCut : Type 0 where
  pub whole : (before : Intake) (pieces : List (List ℕ)) (sequence : ℕ) (marked : Bool)
      → after_told
      (after_pieces (after_told before (record_head (length (joined_pieces pieces)) sequence marked)) pieces)
      (record_tail sequence marked)
      ≡ after_told before (record_of (joined_pieces pieces) sequence marked)
  -- in the head
  pub head : (before after : Intake) (body : List ℕ) (sequence : ℕ) (marked : Bool)
      → TakesPart before after (record_head (length body) sequence marked)
      → TakesPart before after (record_of body sequence marked)
  -- in a piece, of which others come before and behind
  pub piece : (before after : Intake) (pieces : List (List ℕ)) (piece : List ℕ) (others : List (List ℕ)) (sequence : ℕ) (marked : Bool)
      → TakesPart
      (after_pieces (after_told before (record_head (length (joined_pieces (pieces ++ piece ∷ others))) sequence marked)) pieces)
      after piece
      → TakesPart before after (record_of (joined_pieces (pieces ++ piece ∷ others)) sequence marked)
  -- in the tail
  pub tail : (before after : Intake) (pieces : List (List ℕ)) (sequence : ℕ) (marked : Bool)
      → TakesPart
      (after_pieces (after_told before (record_head (length (joined_pieces pieces)) sequence marked)) pieces)
      after (record_tail sequence marked)
      → TakesPart before after (record_of (joined_pieces pieces) sequence marked)
