-- The ring once the bytes of one live record were changed.
use Rattle.std.proofs.Common.{◌≡◌, ℕ, ◌+◌, ◌≤◌, cond, List, [], ◌∷◌, ◌++◌, length, sym, ap, ◌∙◌, subst, arith}
use Rattle.page_geometry.specs.Sizes.{record_size}
use Rattle.ring_bytes.specs.declared.header.Header.{Header}
use Rattle.ring_bytes.specs.Bytes.{slice, SameOutside}
use Rattle.ring_bytes.specs.Fields.{live_of}
use Rattle.ring_bytes.specs.Header.{header_at, header_of, StandsAt, is_live}
use Rattle.ring_bytes.specs.Rows.{IsRow, IsPast, stored_of, live_row}
use Rattle.ring_bytes.specs.Value.{Stored, without_stored, change_at, put_at, with_bytes}
use Rattle.ring_bytes.proofs.RowLemmas.{part, size_least, row_one, past_then}
use Rattle.ring_bytes.proofs.ListLemmas.{without_only, change_only}
use Rattle.ring_bytes.proofs.PlaceLemmas.{AreHalves, IsAt}
use Rattle.ring_bytes.proofs.SliceLemmas.{put_same, same_wider, slice_put_within}

-- the bytes between a record's ends are parts with these live records
pub record IsNow (b c : List ℕ) (place size : ℕ) (records : List Stored) : Type 0 where
  pub same : SameOutside place (place + size) b c
  pub row : IsRow c place (place + size)
  pub live : live_row c place (place + size) ≡ records

-- what stays of a record's header in front of a payload that stays
pub reheaded : (b c : List ℕ) (next size clear front place : ℕ) (s : Stored) (header : Header) → (here : IsAt b next size clear front place s) → SameOutside place (place + 16) b c → header_at c place ≡ header → StandsAt c place header → header.len ≡ here.header.len → IsNow b c place (record_size here.header.len) (cond (is_live header) (record { at = place; key = header.key; payload = s.payload } ∷ []) [])
reheaded b c next size clear front place s header here same there stands len =
    let least = size_least here.header.len in
    let one = row_one c place header there stands (omega (arith, len, here.small)) in
    let end : place + record_size header.len ≡ place + record_size here.header.len = ap (λ n. place + record_size n) len in
    let payload : slice (place + 16) header.len c ≡ s.payload =
    same.above (place + 16) header.len (omega arith)
    ∙ ap (λ n. slice (place + 16) n b) len
    ∙ ap (λ (t : Stored). t.payload) here.is in
    record {
      same = same_wider place (place + 16) place (place + record_size here.header.len) b c (omega arith) (omega arith) same;
      row = subst (λ n. IsRow c place n) end one.0;
      live =
          ap (λ n. live_row c place n) (sym end)
          ∙ one.1
          ∙ ap (λ x. cond (is_live header) (record { at = place; key = header.key; payload = x } ∷ []) []) payload;
    }

-- four bytes of the payload, or any piece of it
pub patched : (b c : List ℕ) (next size clear front place offset : ℕ) (piece : List ℕ) (s : Stored) → (here : IsAt b next size clear front place s) → length b ≡ size → offset + length piece ≤ here.header.len → c ≡ put_at (place + 16 + offset) piece b → IsNow b c place (record_size here.header.len) (with_bytes offset piece s ∷ [])
patched b c next size clear front place offset piece s here whole fits is =
    let least = size_least here.header.len in
    let same : SameOutside (place + 16 + offset) (place + 16 + offset + length piece) b c =
    subst (λ x. SameOutside (place + 16 + offset) (place + 16 + offset + length piece) b x) (sym is)
    (put_same (place + 16 + offset) piece b (omega (arith, whole, here.inside))) in
    let bytes : slice place 16 c ≡ slice place 16 b = same.below place 16 (omega arith) in
    let there : header_at c place ≡ here.header = ap header_of bytes ∙ here.there in
    let one = row_one c place here.header there (bytes ∙ here.stands) here.small in
    let was : slice (place + 16) here.header.len b ≡ s.payload = ap (λ (t : Stored). t.payload) here.is in
    let payload : slice (place + 16) here.header.len c ≡ put_at offset piece s.payload =
    ap (slice (place + 16) here.header.len) is
    ∙ slice_put_within (place + 16) here.header.len offset piece b fits (omega (arith, whole, here.inside))
    ∙ ap (put_at offset piece) was in
    let at_is : place ≡ s.at = ap (λ (t : Stored). t.at) here.is in
    let key_is : here.header.key ≡ s.key = ap (λ (t : Stored). t.key) here.is in
    let stored : stored_of c (part place here.header) ≡ with_bytes offset piece s =
    λ i. record { at = at_is i; key = key_is i; payload = payload i } in
    record {
      same = same_wider (place + 16 + offset) (place + 16 + offset + length piece) place (place + record_size here.header.len) b c (omega arith) (omega arith) same;
      row = one.0;
      live =
          one.1
          ∙ ap (λ x. cond x (stored_of c (part place here.header) ∷ []) []) here.alive
          ∙ ap (λ t. t ∷ []) stored;
    }

-- The ring's list afterwards

pub dropped_list : (b c : List ℕ) (next size clear front place : ℕ) (s : Stored) → (here : IsAt b next size clear front place s) → IsNow b c place (record_size here.header.len) [] → AreHalves c next size clear front × (live_of c next size ≡ without_stored place (live_of b next size))
dropped_list b c next size clear front place s here now =
    let then = here.changes c now.same now.row in (
      then.0,
      then.1
          ∙ ap (λ xs. here.only.before ++ (xs ++ here.only.behind)) now.live
          ∙ sym (without_only place (live_of b next size) s here.only),
    )

pub changed_list : (b c : List ℕ) (next size clear front place : ℕ) (s : Stored) (change : Stored → Stored) → (here : IsAt b next size clear front place s) → IsNow b c place (record_size here.header.len) (change s ∷ []) → AreHalves c next size clear front × (live_of c next size ≡ change_at place change (live_of b next size))
changed_list b c next size clear front place s change here now =
    let then = here.changes c now.same now.row in (
      then.0,
      then.1
          ∙ ap (λ xs. here.only.before ++ (xs ++ here.only.behind)) now.live
          ∙ sym (change_only place change (live_of b next size) s here.only),
    )

-- cursors that moved on
pub halves_on : (c : List ℕ) (next size clear front clear_now front_now : ℕ) → AreHalves c next size clear front → IsPast c clear clear_now size → IsPast c front front_now next → AreHalves c next size clear_now front_now
halves_on c next size clear front clear_now front_now halves older newer = record {
  whole = halves.whole;
  next_in = halves.next_in;
  older = past_then c next clear clear_now size halves.older older;
  newer = past_then c 0 front front_now next halves.newer newer;
}
