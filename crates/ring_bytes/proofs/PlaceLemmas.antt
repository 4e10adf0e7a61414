-- A live record of a ring at its place, and what a change of its bytes leaves.
use Rattle.std.proofs.Common.{◌≡◌, ℕ, ◌+◌, ◌<◌, ◌≤◌, Bool, true, List, ◌∷◌, ◌++◌, length, Option, Some, None, refl, sym, ap, ap₂, ◌∙◌, subst, arith, append_assoc, eqb-true}
use Rattle.std.specs.List.{find}
use Rattle.page_geometry.specs.Sizes.{record_size}
use Rattle.ring_bytes.specs.declared.header.Header.{Header}
use Rattle.ring_bytes.specs.declared.ring.TheConstants.{MAX_RING_SIZE}
use Rattle.ring_bytes.specs.Bytes.{SameOutside}
use Rattle.ring_bytes.specs.Fields.{live_of}
use Rattle.ring_bytes.specs.Header.{header_at, StandsAt, is_live}
use Rattle.ring_bytes.specs.Rows.{IsRow, IsPast, stored_of, live_row}
use Rattle.ring_bytes.specs.Value.{Stored, OnlyAt, is_at}
use Rattle.ring_bytes.proofs.RowLemmas.{part, size_least, row_order, row_within, row_below, row_above, past_row, past_below, past_above}
use Rattle.ring_bytes.proofs.ListLemmas.{find_front, find_back, find_true, none_at_below, none_at_above, none_at_append}
use Rattle.ring_bytes.proofs.CutLemmas.{IsCut, cut, recut}

-- the halves of a ring: the older parts and the newer ones
pub record AreHalves (b : List ℕ) (next size clear front : ℕ) : Type 0 where
  pub whole : length b ≡ size
  pub next_in : next ≤ size
  pub older : IsPast b next clear size
  pub newer : IsPast b 0 front next

pub record IsAt (b : List ℕ) (next size clear front place : ℕ) (s : Stored) : Type 0 where
  pub header : Header
  pub there : header_at b place ≡ header
  pub stands : StandsAt b place header
  pub is : stored_of b (part place header) ≡ s
  pub alive : is_live header ≡ true
  pub small : header.len < MAX_RING_SIZE
  pub inside : place + record_size header.len ≤ size
  pub only : OnlyAt place (live_of b next size) s
  pub changes : (c : List ℕ) → SameOutside place (place + record_size header.len) b c → IsRow c place (place + record_size header.len)
      → AreHalves c next size clear front
      × (live_of c next size ≡ only.before ++ (live_row c place (place + record_size header.len) ++ only.behind))
  pub in_older : next ≤ place → IsRow b (place + record_size header.len) size
      × (only.behind ≡ live_row b (place + record_size header.len) size ++ live_row b 0 next)
  pub in_newer : place < next → IsRow b (place + record_size header.len) next
      × (only.behind ≡ live_row b (place + record_size header.len) next)

at_older : (b : List ℕ) (next size clear front : ℕ) (s : Stored) → AreHalves b next size clear front → IsCut b clear size (live_row b clear size) s → IsAt b next size clear front s.at s
at_older b next size clear front s halves is =
    let to : ℕ = s.at + record_size is.header.len in
    let newer : List Stored = live_row b 0 next in
    let low : List Stored = live_row b clear s.at in
    let high : List Stored = live_row b to size in
    let least = size_least is.header.len in
    let dead_order = row_order b next clear halves.older.dead in
    let low_order = row_order b clear s.at is.low in
    let high_order = row_order b to size is.high in
    let newer_row = past_row b 0 front next halves.newer in
    let newer_in = row_within b 0 next (omega (arith, halves.whole, halves.next_in)) newer_row.0 in
    record {
      header = is.header;
      there = is.there;
      stands = is.stands;
      is = is.is;
      alive = is.alive;
      small = is.small;
      inside = high_order;
      only = record {
        before = low;
        behind = high ++ newer;
        split =
            ap (λ xs. xs ++ newer) ((past_row b next clear size halves.older).1 ∙ is.all)
            ∙ append_assoc low (s ∷ high) newer;
        here = refl;
        none_before = none_at_below clear s.at s.at low (row_within b clear s.at (omega (arith, halves.whole)) is.low) (omega arith);
        none_behind =
            none_at_append s.at high newer
            (none_at_above to size s.at high (row_within b to size (omega (arith, halves.whole)) is.high) (omega arith))
            (none_at_below 0 next s.at newer newer_in (omega arith));
      };
      changes = λ c same now.
          let older = recut b c next clear size s halves.older is same now in
          let below = past_below b c s.at to 0 front next same (omega arith) halves.newer in
          let kept = (row_below b c s.at to 0 next same (omega arith) newer_row.0).1 in (
            record { whole = same.size ∙ halves.whole; next_in = halves.next_in; older = older.0; newer = below },
            ap₂ (λ xs ys. xs ++ ys) older.1 kept
                ∙ append_assoc low (live_row c s.at to ++ high) newer
                ∙ ap (λ xs. low ++ xs) (append_assoc (live_row c s.at to) high newer),
          );
      in_older = λ behind. (is.high, refl);
      in_newer = λ before. absurd (omega arith);
    }

at_newer : (b : List ℕ) (next size clear front : ℕ) (s : Stored) → AreHalves b next size clear front → IsCut b front next (live_row b front next) s → IsAt b next size clear front s.at s
at_newer b next size clear front s halves is =
    let to : ℕ = s.at + record_size is.header.len in
    let older : List Stored = live_row b next size in
    let low : List Stored = live_row b front s.at in
    let high : List Stored = live_row b to next in
    let least = size_least is.header.len in
    let low_order = row_order b front s.at is.low in
    let high_order = row_order b to next is.high in
    let older_row = past_row b next clear size halves.older in
    let older_in = row_within b next size (omega (arith, halves.whole)) older_row.0 in
    record {
      header = is.header;
      there = is.there;
      stands = is.stands;
      is = is.is;
      alive = is.alive;
      small = is.small;
      inside = omega (arith, halves.next_in);
      only = record {
        before = older ++ low;
        behind = high;
        split =
            ap (λ xs. older ++ xs) ((past_row b 0 front next halves.newer).1 ∙ is.all)
            ∙ sym (append_assoc older low (s ∷ high));
        here = refl;
        none_before =
            none_at_append s.at older low
            (none_at_above next size s.at older older_in (omega arith))
            (none_at_below front s.at s.at low (row_within b front s.at (omega (arith, halves.whole, halves.next_in)) is.low) (omega arith));
        none_behind = none_at_above to next s.at high (row_within b to next (omega (arith, halves.whole, halves.next_in)) is.high) (omega arith);
      };
      changes = λ c same now.
          let newer = recut b c 0 front next s halves.newer is same now in
          let above = past_above b c s.at to next clear size same (omega arith) halves.older in
          let kept = (row_above b c s.at to next size same (omega arith) older_row.0).1 in (
            record { whole = same.size ∙ halves.whole; next_in = halves.next_in; older = above; newer = newer.0 },
            ap₂ (λ xs ys. xs ++ ys) kept newer.1
                ∙ sym (append_assoc older low (live_row c s.at to ++ high)),
          );
      in_older = λ behind. absurd (omega arith);
      in_newer = λ before. (is.high, refl);
    }

-- a live record that passes a test, whichever, is alone at its place
pub at_found : (b : List ℕ) (next size clear front : ℕ) (P : Stored → Bool) (s : Stored) → AreHalves b next size clear front → find P (live_of b next size) ≡ Some s → IsAt b next size clear front s.at s
at_found b next size clear front P s halves found = of (find P (live_row b next size)) refl
  where
    older_is : live_row b next size ≡ live_row b clear size
    older_is = (past_row b next clear size halves.older).1

    newer_is : live_row b 0 next ≡ live_row b front next
    newer_is = (past_row b 0 front next halves.newer).1

    of : (o : Option Stored) → find P (live_row b next size) ≡ o → IsAt b next size clear front s.at s
    of (Some t) is =
        let same : Some t ≡ Some s = sym (find_front P (live_row b next size) (live_row b 0 next) t is) ∙ found in
        let here : t ≡ s = cc in
        let older : find P (live_row b clear size) ≡ Some s = ap (find P) (sym older_is) ∙ is ∙ same in
        at_older b next size clear front s halves (cut b clear size P s halves.older.rest older)
    of None is =
        let newer : find P (live_row b front next) ≡ Some s =
        ap (find P) (sym newer_is) ∙ sym (find_back P (live_row b next size) (live_row b 0 next) is) ∙ found in
        at_newer b next size clear front s halves (cut b front next P s halves.newer.rest newer)

-- the record at a place
pub at_place : (b : List ℕ) (next size clear front place : ℕ) (s : Stored) → AreHalves b next size clear front → find (is_at place) (live_of b next size) ≡ Some s → IsAt b next size clear front place s
at_place b next size clear front place s halves found =
    let here : s.at ≡ place = eqb-true s.at place (find_true (is_at place) (live_of b next size) s found) in
    subst (λ n. IsAt b next size clear front n s) here (at_found b next size clear front (is_at place) s halves found)
