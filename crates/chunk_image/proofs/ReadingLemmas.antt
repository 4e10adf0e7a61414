-- Whole payloads: what can be read is what the relation has, and where that ends is the first fragment that can't be read.
use Rattle.std.proofs.Common.{◌≡◌, ℕ, zero, suc, max, ◌-◌, ◌<◌, ◌≤◌, ◌==◌, true, List, [], ◌∷◌, length, drop, Option, Some, None, inl, inr, refl, ap, sym, subst, ◌∙◌, get_or, All, Fits, w8, arith}
use Rattle.std.proofs.lemmas.Bool.{eq-eqb, eqb-true}
use Rattle.std.proofs.lemmas.Grind.{get_or_default_zero}
use Rattle.std.proofs.lemmas.List.Elements.{All-drop}
use Rattle.trace_model.specs.Images.{Fragment}
use Rattle.trace_model.specs.Fragments.{ReadsOne, ReadsDropped, ReadsAs}
use Rattle.trace_model.specs.Reading.{Fragments, Unreadable, size_of, fragment_of, fragment_end, reading_of}
use Rattle.trace_model.proofs.ReadingLemmas.{StandsFirst, read_kept, read_dropped, read_sound}
use Rattle.trace_model.proofs.ReadsAsLemmas.{reading_is_exact}
use Rattle.chunk_image.specs.Readable.{readable_from}
use Rattle.trace_model.specs.Unread.{BeginsWith, StopsAt, IsFirstUnread}
use Rattle.chunk_image.proofs.ReadableLemmas.{readable_zero, readable_some, readable_none, at_most, all_readable, part_readable}

-- The model's reading of a payload, of which so many fragments are wanted, and at least one

pub reading_part : (count : ℕ) (payload : List ℕ) → length (readable_from count 0 payload) < max count 1
    → reading_of count payload ≡ Unreadable (length (readable_from count 0 payload))
reading_part zero payload part = ap (λ fragments. Unreadable (length fragments)) (sym (readable_zero 0 payload))
reading_part (suc more) payload part = part_readable (suc more) 0 0 payload (omega (arith, part)) ∙ ap Unreadable (omega arith)

pub reading_all : (count : ℕ) (payload : List ℕ) → max count 1 ≤ length (readable_from count 0 payload)
    → reading_of count payload ≡ Fragments (readable_from count 0 payload)
reading_all zero payload all = absurd (omega (arith, all, ap length (readable_zero 0 payload)))
reading_all (suc more) payload all =
    all_readable (suc more) 0 0 payload (omega (arith, all, at_most (suc more) 0 payload))

-- The relation

-- what the type of a slice says of its items
pub bytes_below : (bytes : List ℕ) → ((i : ℕ) → Fits w8 (get_or bytes i 0)) → All (λ byte. byte < 256) bytes
bytes_below bytes fits k d within = let same = get_or_default_zero bytes k d within in omega (arith, fits k, same)

pub reads_all : (count : ℕ) (payload : List ℕ) → All (λ byte. byte < 256) payload → max count 1 ≤ length (readable_from count 0 payload)
    → ReadsAs payload (readable_from count 0 payload)
reads_all count payload below all =
    (reading_is_exact.sound count payload (readable_from count 0 payload) below (reading_all count payload all)).0

reading_is : (count : ℕ) (payload : List ℕ) (fragments : List Fragment) → ReadsAs payload fragments → length fragments ≡ count
    → reading_of count payload ≡ Fragments fragments
reading_is count payload fragments reads long =
    ap (λ n. reading_of n payload) (sym long) ∙ reading_is_exact.complete payload fragments reads

pub every_read : (count : ℕ) (payload : List ℕ) (fragments : List Fragment) → max count 1 ≤ length (readable_from count 0 payload)
    → ReadsAs payload fragments → length fragments ≡ count → readable_from count 0 payload ≡ fragments
every_read count payload fragments all reads long =
    let found = reading_all count payload all in
    let same = reading_is count payload fragments reads long in
    cc

pub none_read : (count : ℕ) (payload : List ℕ) (fragments : List Fragment) → length (readable_from count 0 payload) < max count 1
    → ReadsAs payload fragments → length fragments ≡ count → ⊥
none_read count payload fragments part reads long =
    let none = reading_part count payload part in
    let found = reading_is count payload fragments reads long in
    cc

-- Where reading ends

-- behind these fragments no other one stands
record Ends (left at : ℕ) (bytes : List ℕ) (before : List Fragment) : Type 0 where
  place : ℕ
  rest : List ℕ
  begins : BeginsWith at bytes before place rest
  unread : (fragment : Fragment) (behind : List ℕ) → ReadsOne place rest fragment behind → ⊥
  undropped : suc (length before) ≡ left → (fragment : Fragment) → ReadsDropped place rest fragment → ⊥

ends_none : (left at : ℕ) (bytes : List ℕ) → fragment_of (left == 0) at bytes (size_of 4 bytes) ≡ None → Ends (suc left) at bytes []
ends_none left at bytes e = record {
  place = at;
  rest = bytes;
  begins = (refl, refl);
  unread = λ fragment behind one. let found = read_kept (left == 0) at bytes fragment behind one in cc;
  undropped = λ last fragment dropped.
      let is_last : (left == 0) ≡ true = eq-eqb left 0 (omega (arith, last)) in
      let none : fragment_of true at bytes (size_of 4 bytes) ≡ None = ap (λ l. fragment_of l at bytes (size_of 4 bytes)) (sym is_last) ∙ e in
      let found = read_dropped at bytes fragment dropped in
      cc;
}

-- what isn't the last fragment has no drop mark
stands_whole : (left at : ℕ) (bytes : List ℕ) (fragment : Fragment) → 0 < left → StandsFirst (left == 0) at bytes fragment
    → ReadsOne at bytes fragment (drop (fragment_end fragment - at) bytes)
stands_whole left at bytes fragment more (inl marked) = absurd (omega (arith, eqb-true left 0 marked.0, more))
stands_whole left at bytes fragment more (inr one) = one

ends_some : (left at : ℕ) (bytes : List ℕ) (fragment : Fragment) (behind : List ℕ) (before : List Fragment) → ReadsOne at bytes fragment behind
    → Ends left (fragment_end fragment) behind before → Ends (suc left) at bytes (fragment ∷ before)
ends_some left at bytes fragment behind before one ends = record {
  place = ends.place;
  rest = ends.rest;
  begins = (behind, one, ends.begins);
  unread = ends.unread;
  undropped = λ last. ends.undropped (omega (arith, last));
}

ends_with : (left at : ℕ) (bytes : List ℕ) (o : Option Fragment) → fragment_of (left == 0) at bytes (size_of 4 bytes) ≡ o
    → All (λ byte. byte < 256) bytes → length (readable_from (suc left) at bytes) < suc left
    → ((place : ℕ) (rest : List ℕ) → All (λ byte. byte < 256) rest → length (readable_from left place rest) < left → Ends left place rest (readable_from left place rest))
    → Ends (suc left) at bytes (readable_from (suc left) at bytes)
ends_with left at bytes None e below part others =
    let P : List Fragment → Type 0 = Ends (suc left) at bytes in
    subst P (sym (readable_none left at bytes e)) (ends_none left at bytes e)
ends_with left at bytes (Some fragment) e below part others =
    let readable = readable_some left at bytes fragment e in
    let place : ℕ = fragment_end fragment in
    let rest : List ℕ = drop (place - at) bytes in
    let more : length (readable_from left place rest) < left = omega (arith, ap length readable, part) in
    let P : List Fragment → Type 0 = Ends (suc left) at bytes in
    subst P (sym readable)
    (ends_some left at bytes fragment rest (readable_from left place rest)
    (stands_whole left at bytes fragment (omega (arith, more)) (read_sound (left == 0) at bytes fragment below e))
    (others place rest (All-drop (λ byte. byte < 256) (place - at) bytes below) more))

part_ends : (left at : ℕ) (bytes : List ℕ) → All (λ byte. byte < 256) bytes → length (readable_from left at bytes) < left
    → Ends left at bytes (readable_from left at bytes)
part_ends zero at bytes below part = absurd (omega (arith, part))
part_ends (suc left) at bytes below part =
    ends_with left at bytes (fragment_of (left == 0) at bytes (size_of 4 bytes)) refl below part
    (λ place rest below_rest more. part_ends left place rest below_rest more)

part_stops : (count : ℕ) (payload : List ℕ) → All (λ byte. byte < 256) payload → length (readable_from count 0 payload) < count
    → StopsAt count (length (readable_from count 0 payload)) payload
part_stops count payload below part =
    let ends : Ends count 0 payload (readable_from count 0 payload) = part_ends count 0 payload below part in
    record {
      among = part;
      before = readable_from count 0 payload;
      place = ends.place;
      rest = ends.rest;
      number_is = refl;
      begins = ends.begins;
      unread = ends.unread;
      undropped = ends.undropped;
    }

pub first_unread : (count : ℕ) (payload : List ℕ) → All (λ byte. byte < 256) payload → length (readable_from count 0 payload) < max count 1
    → IsFirstUnread count payload (length (readable_from count 0 payload))
first_unread zero payload below part = ap length (readable_zero 0 payload)
first_unread (suc more) payload below part = part_stops (suc more) payload below (omega (arith, part))
