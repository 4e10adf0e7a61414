-- Following a chain from fragment to fragment.
use Rattle.std.proofs.Common.{◌≡◌, ◌+◌, ◌&&◌, ◌||◌, not, Bool, true, false, cond, List, [], ◌∷◌, ◌++◌, length, refl, sym, ap, ◌∙◌, arith, length-append, true≢false}
use Rattle.std.proofs.lemmas.List.Concat.{flat_map-append}
use Rattle.trace_model.specs.Buffers.{Buffer}
use Rattle.trace_model.specs.Images.{Fragment}
use Rattle.trace_model.specs.Row as row
use Rattle.trace_model.specs.Row.{Link, Joined, Gap, place, bytes_of, joined_to, with_piece, chain_of}
use Rattle.trace_model.specs.Sequences.{Cursor}
use Rattle.trace_model.proofs.JoinLemmas.{merged, before_start, before_more, before_last}
use Rattle.sequence_reader.specs.declared.ends.Why.{Why}
use Rattle.sequence_reader.specs.declared.link.Chain.{Chain}
use Rattle.sequence_reader.specs.declared.link.Fate.{Fate}
use Rattle.sequence_reader.specs.declared.link.Fate.TheVariants.{Whole, Marked, IntoLost, CutOff, Open}
use Rattle.sequence_reader.specs.declared.spot.Bounds.{Bounds}
use Rattle.sequence_reader.specs.declared.spot.Spot.{Spot}
use Rattle.sequence_reader.specs.declared.step.Piece.{Piece}
use Rattle.sequence_reader.specs.Links.{fate_value, TellsStop, IsWalked}
use Rattle.sequence_reader.specs.Spots.{rows_of, cursor_of}
use Rattle.sequence_reader.specs.Steps.{IsPieceAt, IsGapAt, IsStopAt}

abbrev pub last_fate : Bool → Fate
last_fate dropped = cond dropped Marked Whole

fate_of_last : (dropped : Bool) → cond dropped row.Marked row.Whole ≡ fate_value (last_fate dropped)
fate_of_last true = refl
fate_of_last false = refl

tells_nothing : (links : List Link) (dropped : Bool) → TellsStop links (last_fate dropped)
tells_nothing links true = tt
tells_nothing links false = tt

module _ (b : Buffer) (bounds : Bounds) where
  abbrev rows : Cursor → List Link
  rows at = rows_of b bounds.sequence at

  abbrev piece_in : Spot → Piece → Fragment → row.Piece
  piece_in spot piece fragment = record { at = cursor_of spot; fragment = fragment; runs_on = piece.runs_on }

  -- the chain of one fragment

  abbrev pub begun_chain : Spot → Piece → Chain
  begun_chain spot piece = record {
    at = spot;
    headless = piece.headless;
    awaits = piece.awaits;
    len = length piece.bytes.now;
    next = piece.behind;
    goes_on = piece.runs_on && not piece.dropped;
    fate = last_fate piece.dropped;
  }

  one_long : (piece : Piece) (fragment : Fragment) → fragment.bytes ≡ piece.bytes.now → length (fragment.bytes ++ []) ≡ length piece.bytes.now
  one_long piece fragment is = omega (arith, length-append fragment.bytes [], ap length is)

  pub walked_begun : (spot : Spot) (piece : Piece) → IsPieceAt b bounds spot piece → IsWalked b bounds (begun_chain spot piece)
  walked_begun spot piece is =
      let one : row.Piece = piece_in spot piece is.fragment in
      let seen : row.Chain = chain_of one (cursor_of piece.behind) piece.headless piece.awaits in
      let same : (one.runs_on && not one.fragment.dropped) ≡ (piece.runs_on && not piece.dropped) = ap (λ d. piece.runs_on && not d) is.dropped in
      record {
        seen = seen;
        headless = refl;
        awaits = refl;
        next = refl;
        len = one_long piece is.fragment is.bytes;
        on = λ goes. is.links ∙ ap (λ g. cond g (joined_to seen (rows (cursor_of piece.behind))) (Joined seen ∷ rows (cursor_of piece.behind))) (same ∙ goes);
        ended = λ stops. record {
          links_are = is.links ∙ ap (λ g. cond g (joined_to seen (rows (cursor_of piece.behind))) (Joined seen ∷ rows (cursor_of piece.behind))) (same ∙ stops);
          fate_is = ap (λ d. cond d row.Marked row.Whole) is.dropped ∙ fate_of_last piece.dropped;
          stop = tells_nothing (rows (cursor_of piece.behind)) piece.dropped;
        };
        spot = is.behind;
        further = omega (arith, is.further);
        near = is.near;
      }

  -- the chain with one fragment more

  abbrev pub longer_chain : Chain → Piece → Chain
  longer_chain chain piece = record chain {
    awaits = chain.awaits || piece.awaits;
    len = chain.len + length piece.bytes.now;
    next = piece.behind;
    goes_on = piece.runs_on && not piece.dropped;
    fate = last_fate piece.dropped;
  }

  pub walked_longer : (chain : Chain) (piece : Piece) → IsWalked b bounds chain → chain.goes_on ≡ true → IsPieceAt b bounds chain.next piece → piece.headless ≡ true
      → IsWalked b bounds (longer_chain chain piece)
  walked_longer chain piece walked on is continues =
      let one : row.Piece = piece_in chain.next piece is.fragment in
      let other : row.Chain = chain_of one (cursor_of piece.behind) piece.headless piece.awaits in
      let same : (one.runs_on && not one.fragment.dropped) ≡ (piece.runs_on && not piece.dropped) = ap (λ d. piece.runs_on && not d) is.dropped in
      let joined : rows (cursor_of chain.at) ≡ joined_to walked.seen (with_piece one (cursor_of piece.behind) piece.headless piece.awaits (rows (cursor_of piece.behind))) =
      walked.on on ∙ ap (joined_to walked.seen) is.links in
      let more : length (bytes_of (walked.seen.pieces ++ one ∷ [])) ≡ chain.len + length piece.bytes.now =
      omega (
        arith,
        ap length (flat_map-append (λ (p : row.Piece). p.fragment.bytes) walked.seen.pieces (one ∷ [])),
        length-append (bytes_of walked.seen.pieces) (bytes_of (one ∷ [])),
        one_long piece is.fragment is.bytes,
        walked.len,
      ) in
      record {
        seen = merged walked.seen other;
        headless = walked.headless;
        awaits = ap (λ a. a || piece.awaits) walked.awaits;
        next = refl;
        len = more;
        on = λ goes. joined ∙ before_more walked.seen one (cursor_of piece.behind) piece.awaits (rows (cursor_of piece.behind)) piece.headless (same ∙ goes) continues;
        ended = λ stops. record {
          links_are = joined ∙ before_last walked.seen one (cursor_of piece.behind) piece.awaits (rows (cursor_of piece.behind)) piece.headless (same ∙ stops) continues;
          fate_is = ap (λ d. cond d row.Marked row.Whole) is.dropped ∙ fate_of_last piece.dropped;
          stop = tells_nothing (rows (cursor_of piece.behind)) piece.dropped;
        };
        spot = is.behind;
        further = omega (arith, is.further, walked.further);
        near = is.near;
      }

  -- the chain at its end

  abbrev pub ended_chain : Chain → Fate → Chain
  ended_chain chain fate = record chain { goes_on = false; fate = fate }

  ended_as : (chain : Chain) (walked : IsWalked b bounds chain) (fate : Fate)
      → rows (cursor_of chain.at) ≡ Joined (record walked.seen { fate = fate_value fate }) ∷ rows (cursor_of chain.next)
      → TellsStop (rows (cursor_of chain.next)) fate
      → IsWalked b bounds (ended_chain chain fate)
  ended_as chain walked fate links tells = record {
    seen = record walked.seen { fate = fate_value fate };
    headless = walked.headless;
    awaits = walked.awaits;
    next = walked.next;
    len = walked.len;
    on = λ goes. absurd (true≢false (sym goes));
    ended = λ stops. record { links_are = links; fate_is = refl; stop = tells };
    spot = walked.spot;
    further = walked.further;
    near = walked.near;
  }

  pub walked_to_start : (chain : Chain) (piece : Piece) → IsWalked b bounds chain → chain.goes_on ≡ true → IsPieceAt b bounds chain.next piece → piece.headless ≡ false
      → IsWalked b bounds (ended_chain chain CutOff)
  walked_to_start chain piece walked on is begins =
      let one : row.Piece = piece_in chain.next piece is.fragment in
      ended_as chain walked CutOff
      (walked.on on ∙ ap (joined_to walked.seen) is.links
      ∙ before_start walked.seen one (cursor_of piece.behind) piece.awaits (rows (cursor_of piece.behind)) (one.runs_on && not one.fragment.dropped) piece.headless refl begins
      ∙ ap (λ links. Joined (record walked.seen { fate = row.CutOff }) ∷ links) (sym is.links))
      tt

  pub walked_to_gap : (chain : Chain) (lost : Bool) → IsWalked b bounds chain → chain.goes_on ≡ true → IsGapAt b bounds chain.next lost
      → IsWalked b bounds (ended_chain chain (cond lost IntoLost CutOff))
  walked_to_gap chain true walked on is =
      ended_as chain walked IntoLost
      (walked.on on ∙ ap (joined_to walked.seen) is.links ∙ ap (λ links. Joined (record walked.seen { fate = row.IntoLost }) ∷ links) (sym is.links)) tt
  walked_to_gap chain false walked on is =
      ended_as chain walked CutOff
      (walked.on on ∙ ap (joined_to walked.seen) is.links ∙ ap (λ links. Joined (record walked.seen { fate = row.CutOff }) ∷ links) (sym is.links)) tt

  pub walked_to_stop : (chain : Chain) (why : Why) (may : Bool) → IsWalked b bounds chain → chain.goes_on ≡ true → IsStopAt (rows (cursor_of chain.next)) why may
      → IsWalked b bounds (ended_chain chain (cond may (Open why) CutOff))
  walked_to_stop chain why true walked on is =
      ended_as chain walked (Open why)
      (walked.on on ∙ ap (joined_to walked.seen) is.links_are ∙ ap (λ links. Joined (record walked.seen { fate = row.Open }) ∷ links) (sym is.links_are)) is
  walked_to_stop chain why false walked on is =
      ended_as chain walked CutOff
      (walked.on on ∙ ap (joined_to walked.seen) is.links_are ∙ ap (λ links. Joined (record walked.seen { fate = row.CutOff }) ∷ links) (sym is.links_are)) tt
