-- Which calls a writer may wait in: fields, and the begin of a nested message.
use Rattle.std.proofs.Common.{◌≡◌, ◌∙◌, ℕ, ◌==◌, false, IsTrue, List, [], ◌∷◌, ◌++◌, length, None, sym, ap, arith, append_assoc, length-append}
use Rattle.std.proofs.lemmas.Bool.{eq-eqb, or_left, true≢false}
use Rattle.trace_model.specs.Packets.{Packet, flat, open_length, open_places}
use Rattle.trace_model.specs.Sequences.{is_among}
use Rattle.trace_model.proofs.PacketLemmas.{flat_written}
use Rattle.cut_steps.specs.GoesOn.{GoesOn}
use Rattle.cut_steps.proofs.Places.{flat_begun, open_places-innermost}

-- further bytes are to be written
pub goes_on-more : (standing packet : Packet) (level rest : List ℕ) (outer : List (List ℕ))
    → packet.kept ≡ standing.kept → packet.follows_flush ≡ standing.follows_flush → packet.given_up ≡ None → packet.finished ≡ false
    → packet.text.closed ≡ standing.text.closed → standing.text.levels ≡ level ∷ outer → packet.text.levels ≡ (level ++ rest) ∷ outer
    → GoesOn standing packet []
goes_on-more standing packet level rest outer kept flush given unfinished closed old new = record {
  kept = kept;
  follows_flush = flush;
  given_up = given;
  finished = unfinished;
  closed = closed;
  bytes = (rest, ap (flat open_length) new ∙ flat_written open_length rest level outer ∙ ap (λ (levels : List (List ℕ)). flat open_length levels ++ rest) (sym old));
  further = [];
  places = ap open_places new ∙ open_places-innermost (level ++ rest) level outer ∙ sym (ap open_places old);
  behind = tt;
  come = λ n h. absurd (true≢false (sym h));
}

-- A message is to begin, of whose tag this is left: its length may come at that place alone.
pub goes_on-nested : (standing packet : Packet) (level rest : List ℕ) (outer : List (List ℕ)) (coming : List ℕ)
    → packet.kept ≡ standing.kept → packet.follows_flush ≡ standing.follows_flush → packet.given_up ≡ None → packet.finished ≡ false
    → packet.text.closed ≡ standing.text.closed → standing.text.levels ≡ level ∷ outer → packet.text.levels ≡ [] ∷ (level ++ rest) ∷ outer
    → ((n : ℕ) → IsTrue (is_among n coming) → n ≡ length (flat open_length ((level ++ rest) ∷ outer)))
    → GoesOn standing packet coming
goes_on-nested standing packet level rest outer coming kept flush given unfinished closed old new come =
    let bytes : flat open_length ((level ++ rest) ∷ outer) ≡ flat open_length standing.text.levels ++ rest =
    flat_written open_length rest level outer ∙ ap (λ (levels : List (List ℕ)). flat open_length levels ++ rest) (sym old) in
    let place : ℕ = length (flat open_length ((level ++ rest) ∷ outer)) in
    record {
      kept = kept;
      follows_flush = flush;
      given_up = given;
      finished = unfinished;
      closed = closed;
      bytes = (
        rest ++ open_length,
        ap (flat open_length) new ∙ flat_begun open_length (level ++ rest) outer
            ∙ ap (λ (xs : List ℕ). xs ++ open_length) bytes ∙ append_assoc (flat open_length standing.text.levels) rest open_length,
      );
      further = place ∷ [];
      places = ap open_places new ∙ ap (λ (ns : List ℕ). place ∷ ns) (open_places-innermost (level ++ rest) level outer ∙ sym (ap open_places old));
      behind = (omega (arith, ap length bytes, length-append (flat open_length standing.text.levels) rest), tt);
      come = λ n h. or_left (place == n) false (eq-eqb place n (sym (come n h)));
    }
