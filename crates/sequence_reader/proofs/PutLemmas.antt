-- The bytes of a packet, written fragment by fragment.
use Rattle.std.proofs.Common.{◌≡◌, ℕ, ◌+◌, ◌-◌, ◌≤◌, ◌&&◌, ◌||◌, not, Bool, true, false, cond, List, [], ◌∷◌, ◌++◌, length, refl, sym, ap, ◌∙◌, subst, arith, append_assoc, length-append, OnErr, Result, Ok, Err, true≢false}
use Rattle.byte_io.specs.Bytes.{Intake, after_told, TakesPart}
use Rattle.byte_io.proofs.Told.{after_told_again, after_told_nothing, part_first, part_second}
use Rattle.trace_model.specs.Buffers.{Buffer}
use Rattle.trace_model.specs.Row.{Piece, Chain, Whole, Marked, IntoLost, CutOff, Open, Link, Joined, Gap, Stop, bytes_of, joined_to, with_piece, chain_of}
use Rattle.trace_model.specs.Sequences.{Cursor}
use Rattle.sequence_reader.specs.declared.spot.Bounds.{Bounds}
use Rattle.sequence_reader.specs.declared.spot.Spot.{Spot}
use Rattle.sequence_reader.specs.declared.step.Piece as code
use Rattle.sequence_reader.specs.Spots.{rows_of, cursor_of}
use Rattle.sequence_reader.specs.Steps.{IsPieceAt}
use Rattle.sequence_reader.specs.Links.{first_bytes}
use Rattle.sequence_reader.specs.Turns.{IsWholeAt}

-- the first fragment of a whole packet, and what is behind it
pub record PutsMore (links : List Link) (bytes : List ℕ) (runs_on : Bool) (behind : List Link) (left : ℕ) : Type 0 where
  pub rest : List ℕ
  pub begins : first_bytes links ≡ bytes ++ rest
  pub short : length bytes ≤ left
  pub last : runs_on ≡ false → (rest ≡ []) × (left ≡ length bytes)
  pub more : runs_on ≡ true → (rest ≡ first_bytes behind) × IsWholeAt behind (left - length bytes)

whole_fate : (a b : Chain) (xs ys : List Link) → Joined a ∷ xs ≡ Joined b ∷ ys → b.fate ≡ Whole → a.fate ≡ Whole
whole_fate a b xs ys is fate = let same : a ≡ b = cc in ap (λ (c : Chain). c.fate) same ∙ fate

whole_long : (a b : Chain) (xs ys : List Link) (left : ℕ) → Joined a ∷ xs ≡ Joined b ∷ ys → length (bytes_of b.pieces) ≡ left → length (bytes_of a.pieces) ≡ left
whole_long a b xs ys left is long = let same : a ≡ b = cc in ap (λ (c : Chain). length (bytes_of c.pieces)) same ∙ long

no_open : Open ≡ Whole → ⊥
no_open is = absurd (cc)

no_cut : CutOff ≡ Whole → ⊥
no_cut is = absurd (cc)

no_mark : Marked ≡ Whole → ⊥
no_mark is = absurd (cc)

no_gap : (lost : Bool) → cond lost IntoLost CutOff ≡ Whole → ⊥
no_gap true is = absurd (cc)
no_gap false is = absurd (cc)

no_stop : (may : Bool) → cond may Open CutOff ≡ Whole → ⊥
no_stop true is = absurd (cc)
no_stop false is = absurd (cc)

module _ (one : Piece) (next : Cursor) (headless awaits : Bool) (left : ℕ) where
  abbrev alone : Chain
  alone = chain_of one next headless awaits

  -- it runs on
  runs : (behind : List Link) → IsWholeAt (joined_to alone behind) left → PutsMore (joined_to alone behind) one.fragment.bytes true behind left
  runs [] whole = absurd (no_open (whole_fate (record alone { fate = Open }) whole.chain [] whole.rest whole.links_are whole.fate))
  runs (Gap at behind lost ∷ links) whole =
      absurd (no_gap lost (whole_fate (record alone { fate = cond lost IntoLost CutOff }) whole.chain (Gap at behind lost ∷ links) whole.rest whole.links_are whole.fate))
  runs (Stop at why may ∷ links) whole =
      absurd (no_stop may (whole_fate (record alone { fate = cond may Open CutOff }) whole.chain (Stop at why may ∷ links) whole.rest whole.links_are whole.fate))
  runs (Joined third ∷ links) whole = of third.headless whole
    where
      joined : Chain
      joined = record alone { next = third.next; pieces = one ∷ third.pieces; awaits = awaits || third.awaits; fate = third.fate }

      row : Bool → List Link
      row h = cond h (Joined joined ∷ links) (Joined (record alone { fate = CutOff }) ∷ Joined third ∷ links)

      of : (h : Bool) → IsWholeAt (row h) left → PutsMore (row h) one.fragment.bytes true (Joined third ∷ links) left
      of true whole =
          let long : length (bytes_of (one ∷ third.pieces)) ≡ left = whole_long joined whole.chain links whole.rest left whole.links_are whole.long in
          let parts : length (one.fragment.bytes ++ bytes_of third.pieces) ≡ length one.fragment.bytes + length (bytes_of third.pieces) = length-append one.fragment.bytes (bytes_of third.pieces) in
          record {
            rest = bytes_of third.pieces;
            begins = refl;
            short = omega (arith, long, parts);
            last = λ is. absurd (true≢false is);
            more = λ is. (
              refl,
              record {
                chain = third;
                rest = links;
                links_are = refl;
                fate = whole_fate joined whole.chain links whole.rest whole.links_are whole.fate;
                long = omega (arith, long, parts);
              },
            );
          }
      of false whole = absurd (no_cut (whole_fate (record alone { fate = CutOff }) whole.chain (Joined third ∷ links) whole.rest whole.links_are whole.fate))

  -- it ends
  ends : (behind : List Link) → IsWholeAt (Joined alone ∷ behind) left → (one.fragment.dropped ≡ false) × PutsMore (Joined alone ∷ behind) one.fragment.bytes false behind left
  ends behind whole =
      let long : length (one.fragment.bytes ++ []) ≡ left = whole_long alone whole.chain behind whole.rest left whole.links_are whole.long in
      let same : length (one.fragment.bytes ++ []) ≡ length one.fragment.bytes + 0 = length-append one.fragment.bytes [] in (
        undropped one.fragment.dropped (whole_fate alone whole.chain behind whole.rest whole.links_are whole.fate),
        record {
          rest = [];
          begins = refl;
          short = omega (arith, long, same);
          last = λ is. (refl, omega (arith, long, same));
          more = λ is. absurd (true≢false (sym is));
        },
      )
    where
      undropped : (d : Bool) → cond d Marked Whole ≡ Whole → d ≡ false
      undropped true is = absurd (no_mark is)
      undropped false is = refl

  pub puts_more : (behind : List Link) → IsWholeAt (with_piece one next headless awaits behind) left
      → PutsMore (with_piece one next headless awaits behind) one.fragment.bytes one.runs_on behind left
  puts_more behind whole = of one.runs_on one.fragment.dropped refl refl whole
    where
      row : Bool → List Link
      row b = cond b (joined_to alone behind) (Joined alone ∷ behind)

      of : (r d : Bool) → one.runs_on ≡ r → one.fragment.dropped ≡ d → IsWholeAt (row (r && not d)) left → PutsMore (row (r && not d)) one.fragment.bytes r behind left
      of true false runs_on dropped whole = runs behind whole
      of false d runs_on dropped whole = (ends behind whole).1
      of true true runs_on dropped whole = absurd (true≢false (sym dropped ∙ (ends behind whole).0))

-- What a sink has taken

pub record IsPutting (start now : List Link) (before after : Intake) (left : ℕ) : Type 0 where
  pub done : List ℕ
  pub bytes : first_bytes start ≡ done ++ first_bytes now
  pub taken : after ≡ after_told before done
  pub whole : IsWholeAt now left

module _ (start now behind : List Link) (before mid : Intake) (left : ℕ) (bytes : List ℕ) (putting : IsPutting start now before mid left) where
  whole_bytes : (runs_on : Bool) (puts : PutsMore now bytes runs_on behind left) → first_bytes start ≡ putting.done ++ (bytes ++ puts.rest)
  whole_bytes runs_on puts = putting.bytes ∙ ap (λ xs. putting.done ++ xs) puts.begins

  pub putting_more : (after : Intake) → PutsMore now bytes true behind left → after ≡ after_told mid bytes → IsPutting start behind before after (left - length bytes)
  putting_more after puts took = record {
    done = putting.done ++ bytes;
    bytes =
        whole_bytes true puts
        ∙ sym (append_assoc putting.done bytes puts.rest)
        ∙ ap (λ xs. (putting.done ++ bytes) ++ xs) (puts.more refl).0;
    taken = took ∙ ap (λ intake. after_told intake bytes) putting.taken ∙ after_told_again before putting.done bytes;
    whole = (puts.more refl).1;
  }

  pub putting_part : (after : Intake) (runs_on : Bool) → PutsMore now bytes runs_on behind left → TakesPart mid after bytes → TakesPart before after (first_bytes start)
  putting_part after runs_on puts part =
      subst (TakesPart before after) (sym (whole_bytes runs_on puts))
      (part_second before mid after putting.done (bytes ++ puts.rest) putting.taken (part_first mid after bytes puts.rest part))

pub puts_at : (b : Buffer) (bounds : Bounds) (spot : Spot) (piece : code.Piece) (left : ℕ) → IsPieceAt b bounds spot piece
    → IsWholeAt (rows_of b bounds.sequence (cursor_of spot)) left
    → PutsMore (rows_of b bounds.sequence (cursor_of spot)) piece.bytes.now piece.runs_on (rows_of b bounds.sequence (cursor_of piece.behind)) left
puts_at b bounds spot piece left is whole =
    let one : Piece = record { at = cursor_of spot; fragment = is.fragment; runs_on = piece.runs_on } in
    let behind : List Link = rows_of b bounds.sequence (cursor_of piece.behind) in
    let puts = puts_more one (cursor_of piece.behind) piece.headless piece.awaits left behind (subst (λ links. IsWholeAt links left) is.links whole) in
    subst (λ bytes. PutsMore (rows_of b bounds.sequence (cursor_of spot)) bytes piece.runs_on behind left) is.bytes
    (subst (λ links. PutsMore links is.fragment.bytes piece.runs_on behind left) (sym is.links) puts)

pub first_long : (links : List Link) (len : ℕ) → IsWholeAt links len → length (first_bytes links) ≡ len
first_long links len whole = ap (λ ls. length (first_bytes ls)) whole.links_are ∙ whole.long

-- Facts for one answer

pub on_err : {T E : Type 0} (r : Result T E) (P : Type 0) → P → OnErr r P
on_err (Ok value) P holds = tt
on_err (Err fault) P holds = holds

-- a packet is written up to this fragment
pub record IsPuttingAt (b : Buffer) (bounds : Bounds) (spot : Spot) (piece : code.Piece) (before after : Intake) (left : ℕ) : Type 0 where
  pub at : Spot
  pub here : IsPieceAt b bounds at piece
  pub putting : IsPutting (rows_of b bounds.sequence (cursor_of spot)) (rows_of b bounds.sequence (cursor_of at)) before after left

pub putting_at : (b : Buffer) (bounds : Bounds) (spot : Spot) (piece : code.Piece) (before : Intake) (left : ℕ) → IsPieceAt b bounds spot piece
    → IsWholeAt (rows_of b bounds.sequence (cursor_of spot)) left → IsPuttingAt b bounds spot piece before before left
putting_at b bounds spot piece before left here whole = record {
  at = spot;
  here = here;
  putting = record { done = []; bytes = refl; taken = sym (after_told_nothing before); whole = whole };
}
