-- The payload of a held chunk: its fragments as a page has them, once the last one's size is put in.
use Rattle.std.proofs.Common.{◌≡◌, ◌∙◌, ℕ, ◌+◌, ◌-◌, ◌≤◌, Bool, true, false, List, [], ◌∷◌, ◌++◌, length, take, drop, refl, sym, ap, arith, append_assoc, append-nil, length-append}
use Rattle.std.proofs.lemmas.List.{take-append-drop, length-take}
use Rattle.wire_varint.specs.Varint.{redundant}
use Rattle.trace_model.specs.Images.{Patch, with_bytes}
use Rattle.trace_model.specs.Fragments.{drop_mark}
use Rattle.trace_model.specs.Pages.{Page, framed, laid}
use Rattle.trace_model.specs.Cut.{IsWellFormedPage}
use Rattle.wire_varint.proofs.Lengths.{length-redundant}
use Rattle.cut_steps.specs.RawChains.{offset_behind}
use Rattle.cut_steps.proofs.Places.{with_bytes_left, with_bytes_right, with_bytes_mid, length_with_bytes}
use Rattle.cut_steps.specs.Pieces.{ContinuesWithByte}
use Rattle.trace_writer.specs.declared.fragment.OpenFragment.{OpenFragment}
use Rattle.trace_writer.specs.Filled.{frames, HasOpenFragment, HasByte}

-- Fragments one behind another

pub length-framed : (bytes : List ℕ) → length (framed bytes) ≡ 4 + length bytes
length-framed bytes = length-append (redundant (length bytes)) bytes ∙ ap (λ (n : ℕ). n + length bytes) (length-redundant (length bytes))

pub laid_behind : (done : List (List ℕ)) (now rest : List ℕ) → laid false (done ++ now ∷ []) rest ≡ frames done ++ (redundant (length now) ++ (now ++ rest))
laid_behind [] now rest = append_assoc (redundant (length now)) now rest
laid_behind (bytes ∷ []) now rest =
    ap (λ (xs : List ℕ). framed bytes ++ xs) (append_assoc (redundant (length now)) now rest)
    ∙ ap (λ (xs : List ℕ). xs ++ (redundant (length now) ++ (now ++ rest))) (sym (append-nil (framed bytes)))
laid_behind (bytes ∷ next ∷ others) now rest =
    ap (λ (xs : List ℕ). framed bytes ++ xs) (laid_behind (next ∷ others) now rest)
    ∙ sym (append_assoc (framed bytes) (frames (next ∷ others)) (redundant (length now) ++ (now ++ rest)))

pub laid_dropped : (done : List (List ℕ)) (now : List ℕ) → laid true (done ++ now ∷ []) [] ≡ frames done ++ (drop_mark ++ now)
laid_dropped [] now = ap (λ (xs : List ℕ). drop_mark ++ xs) (append-nil now)
laid_dropped (bytes ∷ []) now =
    ap (λ (xs : List ℕ). framed bytes ++ (drop_mark ++ xs)) (append-nil now)
    ∙ ap (λ (xs : List ℕ). xs ++ (drop_mark ++ now)) (sym (append-nil (framed bytes)))
laid_dropped (bytes ∷ next ∷ others) now =
    ap (λ (xs : List ℕ). framed bytes ++ xs) (laid_dropped (next ∷ others) now)
    ∙ sym (append_assoc (framed bytes) (frames (next ∷ others)) (drop_mark ++ now))

pub offset_behind-frames : (done : List (List ℕ)) (at : ℕ) → offset_behind at done ≡ at + length (frames done)
offset_behind-frames [] at = omega arith
offset_behind-frames (bytes ∷ others) at =
    let framed_is : length (framed bytes) ≡ 4 + length bytes = length-framed bytes in
    let all : length (frames (bytes ∷ others)) ≡ length (framed bytes) + length (frames others) = length-append (framed bytes) (frames others) in
    offset_behind-frames others (at + length bytes + 4) ∙ omega (arith, framed_is, all)

-- The fragment that is written

pub written_offset : (payload : List ℕ) (start at count : ℕ) (done : List (List ℕ)) (now : List ℕ) → HasOpenFragment payload start at count done now
    → offset_behind 4 done ≡ start + 4
written_offset payload start at count done now w = offset_behind-frames done 4 ∙ omega (arith, w.start_is)

pub written_long : (payload : List ℕ) (start at count : ℕ) (done : List (List ℕ)) (now : List ℕ) (w : HasOpenFragment payload start at count done now)
    → length payload ≡ at + length w.rest
written_long payload start at count done now w =
    ap length w.payload_is
    ∙ length-append (frames done) (w.four ++ (now ++ w.rest))
    ∙ omega (arith, length-append w.four (now ++ w.rest), length-append now w.rest, w.four_is, w.start_is, w.at_is)

pub written_moved : {payload other : List ℕ} (start begin at end count many : ℕ) (done : List (List ℕ)) (now : List ℕ)
    → other ≡ payload → begin ≡ start → end ≡ at → many ≡ count → HasOpenFragment payload start at count done now → HasOpenFragment other begin end many done now
written_moved start begin at end count many done now payload_is start_is at_is count_is w = record {
  four = w.four;
  rest = w.rest;
  four_is = w.four_is;
  payload_is = payload_is ∙ w.payload_is;
  start_is = start_is ∙ w.start_is;
  at_is = omega (arith, w.at_is);
  count_is = count_is ∙ w.count_is;
}

-- its size is put in
pub written_ended : (payload : List ℕ) (start at count : ℕ) (done : List (List ℕ)) (now : List ℕ) (w : HasOpenFragment payload start at count done now)
    → with_bytes payload start (redundant (at - start - 4)) ≡ laid false (done ++ now ∷ []) w.rest
written_ended payload start at count done now w =
    let size : at - start - 4 ≡ length now = omega (arith, w.at_is) in
    let same : length w.four ≡ length (redundant (length now)) = w.four_is ∙ sym (length-redundant (length now)) in
    ap (λ (n : ℕ). with_bytes payload start (redundant n)) size
    ∙ ap (λ (n : ℕ). with_bytes payload n (redundant (length now))) w.start_is
    ∙ ap (λ (xs : List ℕ). with_bytes xs (length (frames done)) (redundant (length now))) (w.payload_is ∙ sym (append_assoc (frames done) w.four (now ++ w.rest)))
    ∙ with_bytes_mid (frames done) w.four (now ++ w.rest) (redundant (length now)) same
    ∙ append_assoc (frames done) (redundant (length now)) (now ++ w.rest)
    ∙ sym (laid_behind done now w.rest)

-- the drop mark is put in for its size
pub written_dropped : (payload : List ℕ) (start at count : ℕ) (done : List (List ℕ)) (now : List ℕ) (w : HasOpenFragment payload start at count done now)
    → with_bytes payload start drop_mark ≡ laid true (done ++ (now ++ w.rest) ∷ []) []
written_dropped payload start at count done now w =
    ap (λ (n : ℕ). with_bytes payload n drop_mark) w.start_is
    ∙ ap (λ (xs : List ℕ). with_bytes xs (length (frames done)) drop_mark) (w.payload_is ∙ sym (append_assoc (frames done) w.four (now ++ w.rest)))
    ∙ with_bytes_mid (frames done) w.four (now ++ w.rest) drop_mark w.four_is
    ∙ append_assoc (frames done) drop_mark (now ++ w.rest)
    ∙ sym (laid_dropped done (now ++ w.rest))

-- four bytes are put into it
pub written_put : (payload : List ℕ) (start at count : ℕ) (done : List (List ℕ)) (now : List ℕ) (offset : ℕ) (four : List ℕ) → length four ≡ 4
    → start + 4 ≤ offset → offset + 4 ≤ at → HasOpenFragment payload start at count done now
    → HasOpenFragment (with_bytes payload offset four) start at count done (with_bytes now (offset - offset_behind 4 done) four)
written_put payload start at count done now offset four long behind within w =
    let place : ℕ = offset - offset_behind 4 done in
    let place_is : place ≡ offset - (start + 4) = ap (λ (n : ℕ). offset - n) (written_offset payload start at count done now w) in
    let inside : place + length four ≤ length now = omega (arith, w.at_is, place_is, long) in
    let front : List ℕ = frames done ++ w.four in
    let front_long : length front ≡ start + 4 = length-append (frames done) w.four ∙ omega (arith, w.four_is, w.start_is) in
    let same : length (with_bytes now place four) ≡ length now = length_with_bytes now four place inside in
    record {
      four = w.four;
      rest = w.rest;
      four_is = w.four_is;
      payload_is = ap (λ (xs : List ℕ). with_bytes xs offset four) (w.payload_is ∙ sym (append_assoc (frames done) w.four (now ++ w.rest)))
          ∙ ap (λ (n : ℕ). with_bytes (front ++ (now ++ w.rest)) n four) (omega (arith, front_long, place_is))
          ∙ with_bytes_right front (now ++ w.rest) four place
          ∙ ap (λ (xs : List ℕ). front ++ xs) (with_bytes_left now w.rest four place inside)
          ∙ append_assoc (frames done) w.four (with_bytes now place four ++ w.rest);
      start_is = w.start_is;
      at_is = omega (arith, w.at_is, same);
      count_is = w.count_is;
    }

-- a fragment that was just started in a chunk without others
pub written_first : (payload : List ℕ) → 4 ≤ length payload → HasOpenFragment payload 0 4 1 [] []
written_first payload long = record {
  four = take 4 payload;
  rest = drop 4 payload;
  four_is = omega (arith, length-take 4 payload);
  payload_is = sym (take-append-drop 4 payload);
  start_is = refl;
  at_is = refl;
  count_is = refl;
}

-- Pages

-- the held chunk as it is completed where the packet runs on
abbrev pub run_page : Bool → Bool → List (List ℕ) → List ℕ → List Patch → Page
run_page continues awaits fragments rest patches = record {
  continues = continues;
  runs_on = true;
  awaits = awaits;
  fragments = fragments;
  dropped = false;
  rest = rest;
  patches = patches;
}

-- and where it is given up
abbrev pub lost_page : Bool → List (List ℕ) → List Patch → Page
lost_page continues fragments patches = record {
  continues = continues;
  runs_on = false;
  awaits = false;
  fragments = fragments;
  dropped = true;
  rest = [];
  patches = patches;
}

pub full_run : (payload : List ℕ) (start at count size : ℕ) (done : List (List ℕ)) (now : List ℕ) (continues awaits : Bool) (patches : List Patch)
    (w : HasOpenFragment payload start at count done now) → length payload ≡ size → count ≤ 1023
    → IsWellFormedPage size (run_page continues awaits (done ++ now ∷ []) w.rest patches)
full_run payload start at count size done now continues awaits patches w long few =
    let many : length (done ++ now ∷ []) ≡ length done + 1 = length-append done (now ∷ []) in
    let fills : start + length (redundant (at - start - 4)) ≤ length payload =
    omega (arith, length-redundant (at - start - 4), written_long payload start at count done now w, w.at_is) in
    record {
      some = omega (arith, many);
      most = omega (arith, many, w.count_is);
      whole = ap length (sym (written_ended payload start at count done now w))
          ∙ length_with_bytes payload (redundant (at - start - 4)) start fills
          ∙ long;
      dropped = λ marked. absurd (cc);
    }

pub full_lost : (payload : List ℕ) (start at count size : ℕ) (done : List (List ℕ)) (now : List ℕ) (continues : Bool) (patches : List Patch)
    (w : HasOpenFragment payload start at count done now) → length payload ≡ size → count ≤ 1023
    → IsWellFormedPage size (lost_page continues (done ++ (now ++ w.rest) ∷ []) patches)
full_lost payload start at count size done now continues patches w long few =
    let many : length (done ++ (now ++ w.rest) ∷ []) ≡ length done + 1 = length-append done ((now ++ w.rest) ∷ []) in
    let fills : start + length drop_mark ≤ length payload = omega (arith, written_long payload start at count done now w, w.at_is) in
    record {
      some = omega (arith, many);
      most = omega (arith, many, w.count_is);
      whole = ap length (sym (written_dropped payload start at count done now w))
          ∙ length_with_bytes payload drop_mark start fills
          ∙ long;
      dropped = λ marked. (refl, refl);
    }

-- a fragment that continues a packet has a byte
pub continues_with_byte : (fragment : OpenFragment) (payload : List ℕ) (done : List (List ℕ)) (now : List ℕ)
    → HasOpenFragment payload fragment.start fragment.at fragment.count done now → HasByte fragment → ContinuesWithByte fragment.continues done now
continues_with_byte fragment payload done now written byte goes first =
    let start : fragment.start ≡ 0 = written.start_is ∙ ap (λ (before : List (List ℕ)). length (frames before)) first in
    omega (arith, byte goes start, written.at_is, start)
