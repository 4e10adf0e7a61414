-- What a read does at a link, as the reader finds it.
use Rattle.std.proofs.Common.{◌≡◌, ◌∙◌, ◌&&◌, ◌||◌, not, Bool, true, false, cond, List, ◌∷◌, sym, ap, arith}
use Rattle.std.proofs.lemmas.List.{append-nil}
use Rattle.trace_model.specs.Buffers.{Buffer}
use Rattle.trace_model.specs.Reads.{turn_by, is_spoilt}
use Rattle.trace_model.specs.Row as row
use Rattle.trace_model.specs.Row.{Link, Joined, bytes_of, joined_to, chain_of}
use Rattle.trace_model.specs.Walks.{is_accepted}
use Rattle.sequence_reader.specs.declared.link.Chain.{Chain}
use Rattle.sequence_reader.specs.declared.link.Fate.TheVariants.{Whole}
use Rattle.sequence_reader.specs.declared.spot.Bounds.{Bounds}
use Rattle.sequence_reader.specs.declared.spot.Spot.{Spot}
use Rattle.sequence_reader.specs.declared.step.Piece.{Piece}
use Rattle.sequence_reader.specs.Links.{fate_value, first_bytes, IsWalked, IsPacket}
use Rattle.sequence_reader.specs.Spots.{rows_of, cursor_of}
use Rattle.sequence_reader.specs.Steps.{IsPieceAt}
use Rattle.sequence_reader.specs.Turns.{IsCountable}

-- the bytes of a packet of one fragment
pub piece_bytes : (b : Buffer) (bounds : Bounds) (spot : Spot) (first : Piece) → IsPieceAt b bounds spot first
    → (first.runs_on && not first.dropped) ≡ false → first_bytes (rows_of b bounds.sequence (cursor_of spot)) ≡ first.bytes.now
piece_bytes b bounds spot first is ends =
    let one : row.Piece = record { at = cursor_of spot; fragment = is.fragment; runs_on = first.runs_on } in
    let alone : row.Chain = chain_of one (cursor_of first.behind) first.headless first.awaits in
    let behind : List Link = rows_of b bounds.sequence (cursor_of first.behind) in
    ap first_bytes is.links
    ∙ ap (λ (c : Bool). first_bytes (cond c (joined_to alone behind) (Joined alone ∷ behind)))
    (ap (λ (d : Bool). first.runs_on && not d) is.dropped ∙ ends)
    ∙ append-nil is.fragment.bytes ∙ is.bytes

-- what is checked of it
pub piece_judged : (b : Buffer) (bounds : Bounds) (spot : Spot) (first : Piece) (accepted : Bool) → IsPieceAt b bounds spot first
    → (first.runs_on && not first.dropped) ≡ false → accepted ≡ is_accepted first.bytes.now
    → accepted ≡ is_accepted (first_bytes (rows_of b bounds.sequence (cursor_of spot)))
piece_judged b bounds spot first accepted is ends said = said ∙ ap is_accepted (sym (piece_bytes b bounds spot first is ends))

-- a whole chain is a packet
pub walked_whole : (b : Buffer) (bounds : Bounds) (chain : Chain) → IsWalked b bounds chain → chain.goes_on ≡ false → chain.fate ≡ Whole
    → IsCountable (rows_of b bounds.sequence (cursor_of chain.at))
walked_whole b bounds chain walked stops is =
    let ended = walked.ended stops in
    record {
      len = chain.len;
      whole = record {
        chain = walked.seen;
        rest = rows_of b bounds.sequence (cursor_of chain.next);
        links_are = ended.links_are;
        fate = ended.fate_is ∙ ap fate_value is;
        long = walked.len;
      };
      few = omega (arith, walked.further, walked.near);
    }

pub ruleset judge_steps = (piece_judged, walked_whole)

-- what a read does at a whole chain with its start that awaits nothing
module _ (b : Buffer) (bounds : Bounds) (chain : Chain) (walked : IsWalked b bounds chain) (stops : chain.goes_on ≡ false) (is : chain.fate ≡ Whole)
    (begins : chain.headless ≡ false) (done : chain.awaits ≡ false) where
  turn_is : (accepted : Bool) → accepted ≡ is_accepted (first_bytes (rows_of b bounds.sequence (cursor_of chain.at)))
      → turn_by walked.seen.fate walked.seen.headless (is_spoilt walked.seen) ≡ turn_by row.Whole false (not accepted)
  turn_is accepted judged =
      let ended = walked.ended stops in
      let same : is_accepted (bytes_of walked.seen.pieces) ≡ accepted = sym (judged ∙ ap (λ ls. is_accepted (first_bytes ls)) ended.links_are) in
      ap (λ f. turn_by f walked.seen.headless (is_spoilt walked.seen)) (ended.fate_is ∙ ap fate_value is)
      ∙ ap (λ h. turn_by row.Whole h (is_spoilt walked.seen)) (walked.headless ∙ begins)
      ∙ ap (λ a. turn_by row.Whole false (a || not (is_accepted (bytes_of walked.seen.pieces)))) (walked.awaits ∙ done)
      ∙ ap (λ a. turn_by row.Whole false (not a)) same

  -- a packet that is accepted
  pub found_packet : (accepted : Bool) → accepted ≡ is_accepted (first_bytes (rows_of b bounds.sequence (cursor_of chain.at))) → accepted ≡ true
      → (first : Piece) → IsPieceAt b bounds chain.at first → IsPacket b bounds chain.at chain.next first chain.len
  found_packet accepted judged passes first here = record {
    begins = here;
    is = record {
      link = Joined walked.seen;
      links_are = (walked.ended stops).links_are;
      turn_is = turn_is accepted judged ∙ ap (λ a. turn_by row.Whole false (not a)) passes;
      next_is = λ cursor. walked.next;
    };
    long = walked.len;
    few = omega (arith, walked.further, walked.near);
    behind = walked.spot;
  }
