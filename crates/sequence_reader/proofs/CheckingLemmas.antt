-- The bytes of a packet, checked fragment by fragment.
use Rattle.std.proofs.Common.{◌≡◌, ◌∙◌, ℕ, ◌+◌, ◌-◌, ◌^◌, ◌≤◌, true, false, List, [], ◌++◌, length, refl, sym, ap, arith, append_assoc, length-append}
use Rattle.std.proofs.lemmas.List.{append-nil}
use Rattle.trace_model.specs.Buffers.{Buffer}
use Rattle.trace_model.specs.Walks.{Walk, packet_start, walk_over, is_between, is_accepted}
use Rattle.packet_check.proofs.CheckLemmas.{accepted_is}
use Rattle.packet_check.proofs.RiseLemmas.{walk_counts}
use Rattle.packet_check.proofs.WalkLemmas.{walked_on}
use Rattle.sequence_reader.specs.declared.spot.Bounds.{Bounds}
use Rattle.sequence_reader.specs.declared.spot.Spot.{Spot}
use Rattle.sequence_reader.specs.declared.step.Piece as code
use Rattle.sequence_reader.specs.Links.{first_bytes}
use Rattle.sequence_reader.specs.Spots.{rows_of, cursor_of}
use Rattle.sequence_reader.specs.Steps.{IsPieceAt}
use Rattle.sequence_reader.specs.Turns.{IsWholeAt, IsCountable}
use Rattle.sequence_reader.proofs.PutLemmas.{PutsMore, puts_at}

-- a packet is checked up to this fragment
pub record IsChecking (b : Buffer) (bounds : Bounds) (spot : Spot) (piece : code.Piece) (check : Walk) : Type 0 where
  pub at : Spot
  pub here : IsPieceAt b bounds at piece
  pub done : List ℕ
  pub bytes : first_bytes (rows_of b bounds.sequence (cursor_of spot)) ≡ done ++ first_bytes (rows_of b bounds.sequence (cursor_of at))
  pub walked : check ≡ walk_over packet_start done
  pub left : ℕ
  pub whole : IsWholeAt (rows_of b bounds.sequence (cursor_of at)) left
  pub long : length done + left ≤ 2 ^ 59

pub checking_at : (b : Buffer) (bounds : Bounds) (spot : Spot) (piece : code.Piece) (check : Walk) → IsPieceAt b bounds spot piece
    → IsCountable (rows_of b bounds.sequence (cursor_of spot)) → check ≡ packet_start → IsChecking b bounds spot piece check
checking_at b bounds spot piece check here packet begun = record {
  at = spot;
  here = here;
  done = [];
  bytes = refl;
  walked = begun;
  left = packet.len;
  whole = packet.whole;
  long = omega (arith, packet.few);
}

module _ (b : Buffer) (bounds : Bounds) (spot : Spot) (piece : code.Piece) (check : Walk) (is : IsChecking b bounds spot piece check) where
  puts : PutsMore (rows_of b bounds.sequence (cursor_of is.at)) piece.bytes.now piece.runs_on (rows_of b bounds.sequence (cursor_of piece.behind)) is.left
  puts = puts_at b bounds is.at piece is.left is.here is.whole

  -- there is room for it
  pub checking_room : check.at + length piece.bytes.now ≤ 2 ^ 63
  checking_room =
      let counted : check.at ≡ 0 + length is.done = ap (λ (w : Walk). w.at) is.walked ∙ walk_counts is.done packet_start in
      omega (arith, counted, puts.short, is.long)

  -- with this fragment
  now_walked : (next : Walk) → next ≡ walk_over check piece.bytes.now → next ≡ walk_over packet_start (is.done ++ piece.bytes.now)
  now_walked next fed =
      fed ∙ ap (λ (w : Walk). walk_over w piece.bytes.now) is.walked ∙ sym (walked_on packet_start is.done piece.bytes.now)

  all_bytes : first_bytes (rows_of b bounds.sequence (cursor_of spot)) ≡ (is.done ++ piece.bytes.now) ++ puts.rest
  all_bytes =
      is.bytes ∙ ap (λ xs. is.done ++ xs) puts.begins ∙ sym (append_assoc is.done piece.bytes.now puts.rest)

  pub checking_end : (next : Walk) → next ≡ walk_over check piece.bytes.now → piece.runs_on ≡ false
      → is_between next.part ≡ is_accepted (first_bytes (rows_of b bounds.sequence (cursor_of spot)))
  checking_end next fed last =
      let all : first_bytes (rows_of b bounds.sequence (cursor_of spot)) ≡ is.done ++ piece.bytes.now =
      all_bytes ∙ ap (λ xs. (is.done ++ piece.bytes.now) ++ xs) (puts.last last).0 ∙ append-nil (is.done ++ piece.bytes.now) in
      ap (λ (w : Walk). is_between w.part) (now_walked next fed)
      ∙ sym (accepted_is (is.done ++ piece.bytes.now)) ∙ ap is_accepted (sym all)

  pub checking_more : (next : Walk) (other : code.Piece) → next ≡ walk_over check piece.bytes.now → piece.runs_on ≡ true
      → IsPieceAt b bounds piece.behind other → IsChecking b bounds spot other next
  checking_more next other fed on here =
      let more = puts.more on in
      record {
        at = piece.behind;
        here = here;
        done = is.done ++ piece.bytes.now;
        bytes = all_bytes ∙ ap (λ xs. (is.done ++ piece.bytes.now) ++ xs) more.0;
        walked = now_walked next fed;
        left = is.left - length piece.bytes.now;
        whole = more.1;
        long = omega (arith, is.long, puts.short, length-append is.done piece.bytes.now);
      }

pub ruleset checking_steps = (checking_at, checking_room, checking_end, checking_more)
