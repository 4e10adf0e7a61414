-- A record is its head, the packet's bytes and its tail, and so is what a sink has taken that took these one behind another.
use Rattle.std.proofs.Common.{◌≡◌, ℕ, ◌<◌, Bool, false, true, List, [], ◌∷◌, ◌++◌, length, refl, sym, ap, ◌∙◌, subst, length-append, append_assoc}
use Rattle.std.proofs.lemmas.List.Concat.{flat_map-append}
use Rattle.byte_io.specs.Bytes.{Intake, after_told, TakesPart}
use Rattle.byte_io.proofs.Told.{after_told_again, after_told_nothing, part_first, part_second}
use Rattle.wire_varint.specs.Varint.{varint}
use Rattle.wire_varint.proofs.Groups.{groups_last}
use Rattle.trace_model.specs.Record.{content_of, dropped_mark, mark_where, record_of}
use Rattle.trace_file.specs.Parts.{record_head, record_tail, joined_pieces, after_pieces, RecordsAreCut}

pub record_is : (body : List ℕ) (sequence : ℕ) (marked : Bool)
    → record_of body sequence marked ≡ record_head (length body) sequence marked ++ (body ++ record_tail sequence marked)
unfolding record_of content_of
record_is body sequence marked =
    let tail : List ℕ = record_tail sequence marked in
    let content : body ++ 0x50 ∷ varint sequence ++ mark_where marked ≡ body ++ tail =
    append_assoc body (0x50 ∷ varint sequence) (mark_where marked) in
    ap (λ (bytes : List ℕ). 0x0A ∷ varint (length bytes) ++ bytes) content
    ∙ ap (λ (n : ℕ). 0x0A ∷ varint n ++ (body ++ tail)) (length-append body tail)

-- A sink that took the head, and then the body, and then the tail

pub written_whole : (before : Intake) (body : List ℕ) (sequence : ℕ) (marked : Bool)
    → after_told (after_told (after_told before (record_head (length body) sequence marked)) body) (record_tail sequence marked)
    ≡ after_told before (record_of body sequence marked)
written_whole before body sequence marked =
    after_told_again (after_told before (record_head (length body) sequence marked)) body (record_tail sequence marked)
    ∙ after_told_again before (record_head (length body) sequence marked) (body ++ record_tail sequence marked)
    ∙ ap (after_told before) (sym (record_is body sequence marked))

is_part : (before after : Intake) (body : List ℕ) (sequence : ℕ) (marked : Bool)
    → TakesPart before after (record_head (length body) sequence marked ++ (body ++ record_tail sequence marked))
    → TakesPart before after (record_of body sequence marked)
is_part before after body sequence marked part =
    subst (TakesPart before after) (sym (record_is body sequence marked)) part

pub part_of_head : (before after : Intake) (body : List ℕ) (sequence : ℕ) (marked : Bool)
    → TakesPart before after (record_head (length body) sequence marked) → TakesPart before after (record_of body sequence marked)
part_of_head before after body sequence marked part =
    is_part before after body sequence marked
    (part_first before after (record_head (length body) sequence marked) (body ++ record_tail sequence marked) part)

pub part_of_body : (before mid after : Intake) (body : List ℕ) (sequence : ℕ) (marked : Bool)
    → mid ≡ after_told before (record_head (length body) sequence marked) → TakesPart mid after body
    → TakesPart before after (record_of body sequence marked)
part_of_body before mid after body sequence marked head part =
    is_part before after body sequence marked
    (part_second before mid after (record_head (length body) sequence marked) (body ++ record_tail sequence marked) head
    (part_first mid after body (record_tail sequence marked) part))

pub part_of_tail : (before mid last after : Intake) (body : List ℕ) (sequence : ℕ) (marked : Bool)
    → mid ≡ after_told before (record_head (length body) sequence marked) → last ≡ after_told mid body
    → TakesPart last after (record_tail sequence marked) → TakesPart before after (record_of body sequence marked)
part_of_tail before mid last after body sequence marked head whole part =
    is_part before after body sequence marked
    (part_second before mid after (record_head (length body) sequence marked) (body ++ record_tail sequence marked) head
    (part_second mid last after body (record_tail sequence marked) whole part))

-- In any pieces

pub pieces_are : (before : Intake) (pieces : List (List ℕ)) → after_pieces before pieces ≡ after_told before (joined_pieces pieces)
pieces_are before [] = sym (after_told_nothing before)
pieces_are before (piece ∷ pieces) =
    pieces_are (after_told before piece) pieces ∙ after_told_again before piece (joined_pieces pieces)

pub records_are_cut : RecordsAreCut
records_are_cut = record {
  whole = λ before pieces sequence marked.
      ap (λ intake. after_told intake (record_tail sequence marked))
      (pieces_are (after_told before (record_head (length (joined_pieces pieces)) sequence marked)) pieces)
      ∙ written_whole before (joined_pieces pieces) sequence marked;
  head = part_of_head;
  piece = λ before after pieces piece others sequence marked part.
      let body : List ℕ = joined_pieces (pieces ++ piece ∷ others) in
      let mid : Intake = after_told before (record_head (length body) sequence marked) in
      part_of_body before mid after body sequence marked refl
      (subst (TakesPart mid after) (sym (flat_map-append (λ (bytes : List ℕ). bytes) pieces (piece ∷ others)))
      (part_second mid (after_pieces mid pieces) after (joined_pieces pieces) (piece ++ joined_pieces others) (pieces_are mid pieces)
      (part_first (after_pieces mid pieces) after piece (joined_pieces others) part)));
  tail = λ before after pieces sequence marked part.
      let body : List ℕ = joined_pieces pieces in
      let mid : Intake = after_told before (record_head (length body) sequence marked) in
      part_of_tail before mid (after_pieces mid pieces) after body sequence marked refl (pieces_are mid pieces) part;
}

-- a number below 128 is one byte
pub varint_short : (n : ℕ) → n < 128 → varint n ≡ n ∷ []
unfolding varint
varint_short n short = groups_last 9 n short

pub tail_long : (sequence : ℕ) (marked : Bool) → sequence < 128 → marked ≡ true → record_tail sequence marked ≡ 0x50 ∷ sequence ∷ dropped_mark
tail_long sequence marked short with_mark =
    ap (λ (m : Bool). 0x50 ∷ varint sequence ++ mark_where m) with_mark ∙ ap (λ (bytes : List ℕ). 0x50 ∷ bytes ++ dropped_mark) (varint_short sequence short)

pub tail_short : (sequence : ℕ) (marked : Bool) → sequence < 128 → marked ≡ false → record_tail sequence marked ≡ 0x50 ∷ sequence ∷ []
tail_short sequence marked short plain =
    ap (λ (m : Bool). 0x50 ∷ varint sequence ++ mark_where m) plain ∙ ap (λ (bytes : List ℕ). 0x50 ∷ bytes ++ []) (varint_short sequence short)
