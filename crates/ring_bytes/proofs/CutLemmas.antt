-- A row cut at one of its records.
use Rattle.std.proofs.Common.{◌≡◌, ℕ, ◌+◌, ◌<◌, Bool, true, false, cond, List, [], ◌∷◌, ◌++◌, Some, refl, sym, ap, ap₂, ◌∙◌, subst, arith, append_assoc}
use Rattle.std.specs.List.{find}
use Rattle.page_geometry.specs.Sizes.{record_size}
use Rattle.ring_bytes.specs.declared.header.Header.{Header}
use Rattle.ring_bytes.specs.declared.ring.TheConstants.{MAX_RING_SIZE}
use Rattle.ring_bytes.specs.Bytes.{SameOutside}
use Rattle.ring_bytes.specs.Header.{header_at, StandsAt, is_live}
use Rattle.ring_bytes.specs.Rows.{Part, row, AreParts, IsRow, IsPast, stored_of, live_in, live_row}
use Rattle.ring_bytes.specs.Value.{Stored}
use Rattle.ring_bytes.proofs.RowLemmas.{part, is_row, live_is, row_one, row_none, row_append, row_order, row_below, row_above, past_row}

-- the row from `lo` to `hi` has these live records, and the record is one of them
pub record IsCut (b : List ℕ) (lo hi : ℕ) (live : List Stored) (s : Stored) : Type 0 where
  pub header : Header
  pub there : header_at b s.at ≡ header
  pub stands : StandsAt b s.at header
  pub is : stored_of b (part s.at header) ≡ s
  pub alive : is_live header ≡ true
  pub small : header.len < MAX_RING_SIZE
  pub low : IsRow b lo s.at
  pub high : IsRow b (s.at + record_size header.len) hi
  pub all : live ≡ live_row b lo s.at ++ s ∷ live_row b (s.at + record_size header.len) hi

-- more parts in front
cut_more : (b : List ℕ) (lo mid hi : ℕ) (front live : List Stored) (s : Stored) → IsRow b lo mid → live_row b lo mid ≡ front → IsCut b mid hi live s → IsCut b lo hi (front ++ live) s
cut_more b lo mid hi front live s one is cut =
    let low = row_append b lo mid s.at one cut.low in
    record {
      header = cut.header;
      there = cut.there;
      stands = cut.stands;
      is = cut.is;
      alive = cut.alive;
      small = cut.small;
      low = low.0;
      high = cut.high;
      all =
          ap₂ (λ xs ys. xs ++ ys) (sym is) cut.all
          ∙ sym (append_assoc (live_row b lo mid) (live_row b mid s.at) (s ∷ live_row b (s.at + record_size cut.header.len) hi))
          ∙ ap (λ xs. xs ++ s ∷ live_row b (s.at + record_size cut.header.len) hi) (sym low.1);
    }

cut_here : (b : List ℕ) (lo hi : ℕ) (p : Part) (ps : List Part) → AreParts b lo (p ∷ ps) hi → is_live p.header ≡ true → IsCut b lo hi (stored_of b p ∷ live_in b ps) (stored_of b p)
cut_here b lo hi p ps are alive =
    let rest : AreParts b (p.at + record_size p.header.len) ps hi =
    subst (λ n. AreParts b (n + record_size p.header.len) ps hi) (sym are.0) are.4 in
    let none = row_none b lo in
    record {
      header = p.header;
      there = ap (λ n. header_at b n) are.0 ∙ sym are.1;
      stands = subst (λ n. StandsAt b n p.header) (sym are.0) are.3;
      is = refl;
      alive = alive;
      small = are.2;
      low = subst (λ n. IsRow b lo n) (sym are.0) none.0;
      high = is_row b (p.at + record_size p.header.len) ps hi rest;
      all =
          ap (λ xs. stored_of b p ∷ xs) (sym (live_is b (p.at + record_size p.header.len) ps hi rest))
          ∙ ap (λ xs. xs ++ stored_of b p ∷ live_row b (p.at + record_size p.header.len) hi) (sym (ap (λ n. live_row b lo n) are.0 ∙ none.1));
    }

cut_parts : (b : List ℕ) (lo hi : ℕ) (ps : List Part) (P : Stored → Bool) (s : Stored) → AreParts b lo ps hi → find P (live_in b ps) ≡ Some s → IsCut b lo hi (live_in b ps) s
cut_parts b lo hi [] P s are found = absurd (cc)
cut_parts b lo hi (p ∷ ps) P s are found =
    by_kind (is_live p.header) refl (λ x same. cut_parts b (lo + record_size p.header.len) hi ps P x are.4 same) found
  where
    one : (x : Bool) → is_live p.header ≡ x → IsRow b lo (lo + record_size p.header.len) × (live_row b lo (lo + record_size p.header.len) ≡ cond x (stored_of b p ∷ []) [])
    one x is =
        let first = row_one b lo p.header (sym are.1) are.3 are.2 in
        let same : stored_of b (part lo p.header) ≡ stored_of b p = ap (λ n. stored_of b (part n p.header)) (sym are.0) in
        (first.0, first.1 ∙ ap (λ y. cond y (stored_of b (part lo p.header) ∷ []) []) is ∙ ap (λ t. cond x (t ∷ []) []) same)

    by_test : (y : Bool) → is_live p.header ≡ true → ((x : Stored) → find P (live_in b ps) ≡ Some x → IsCut b (lo + record_size p.header.len) hi (live_in b ps) x) → cond y (Some (stored_of b p)) (find P (live_in b ps)) ≡ Some s → IsCut b lo hi (stored_of b p ∷ live_in b ps) s
    by_test true is later same =
        let here : stored_of b p ≡ s = cc in
        subst (λ t. IsCut b lo hi (stored_of b p ∷ live_in b ps) t) here (cut_here b lo hi p ps are is)
    by_test false is later same =
        cut_more b lo (lo + record_size p.header.len) hi (stored_of b p ∷ []) (live_in b ps) s (one true is).0 (one true is).1 (later s same)

    by_kind : (x : Bool) → is_live p.header ≡ x → ((t : Stored) → find P (live_in b ps) ≡ Some t → IsCut b (lo + record_size p.header.len) hi (live_in b ps) t) → find P (cond x (stored_of b p ∷ live_in b ps) (live_in b ps)) ≡ Some s → IsCut b lo hi (cond x (stored_of b p ∷ live_in b ps) (live_in b ps)) s
    by_kind false is later same =
        cut_more b lo (lo + record_size p.header.len) hi [] (live_in b ps) s (one false is).0 (one false is).1 (later s same)
    by_kind true is later same = by_test (P (stored_of b p)) is later same

pub cut : (b : List ℕ) (lo hi : ℕ) (P : Stored → Bool) (s : Stored) → IsRow b lo hi → find P (live_row b lo hi) ≡ Some s → IsCut b lo hi (live_row b lo hi) s
cut b lo hi P s is found = cut_parts b lo hi (row b lo hi) P s is.are found

-- The row once the record's bytes were changed.
pub recut : (b c : List ℕ) (from at end : ℕ) (s : Stored) → IsPast b from at end → (is : IsCut b at end (live_row b at end) s) → SameOutside s.at (s.at + record_size is.header.len) b c → IsRow c s.at (s.at + record_size is.header.len) → IsPast c from at end × (live_row c from end ≡ live_row b at s.at ++ (live_row c s.at (s.at + record_size is.header.len) ++ live_row b (s.at + record_size is.header.len) end))
recut b c from at end s past is same now =
    let to : ℕ = s.at + record_size is.header.len in
    let order = row_order b at s.at is.low in
    let low = row_below b c s.at to at s.at same (omega arith) is.low in
    let high = row_above b c s.at to to end same (omega arith) is.high in
    let back = row_append c s.at to end now high.0 in
    let whole = row_append c at s.at end low.0 back.0 in
    let dead = row_below b c s.at to from at same (omega arith) past.dead in
    let pasts : IsPast c from at end = record { dead = dead.0; none = dead.1 ∙ past.none; rest = whole.0 } in (
      pasts,
      (past_row c from at end pasts).1
          ∙ whole.1
          ∙ ap₂ (λ xs ys. xs ++ ys) low.1 (back.1 ∙ ap (λ xs. live_row c s.at to ++ xs) high.1),
    )
