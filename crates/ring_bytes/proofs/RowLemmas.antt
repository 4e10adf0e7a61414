-- Rows of parts: read, put together, taken apart, and left alone by a write elsewhere.
use Rattle.std.proofs.Common.{◌≡◌, ℕ, zero, suc, ◌+◌, ◌%◌, ◌<◌, ◌≤◌, Bool, true, false, cond, List, [], ◌∷◌, ◌++◌, length, drop, sum_by, refl, sym, ap, ap₂, ◌∙◌, subst, arith, length-take, length-drop, le-ltb, lt-ltb}
use Rattle.std.proofs.lemmas.List.Sums.{sum_by-cons}
use Rattle.page_geometry.specs.Sizes.{record_size}
use Rattle.ring_bytes.specs.declared.header.Header.{Header}
use Rattle.ring_bytes.specs.declared.ring.TheConstants.{MAX_RING_SIZE}
use Rattle.ring_bytes.specs.Bytes.{slice, SameOutside}
use Rattle.ring_bytes.specs.Header.{header_at, header_of, StandsAt, is_live}
use Rattle.ring_bytes.specs.Rows.{Part, parts, row, AreParts, IsRow, stored_of, live_in, live_row, IsPast}
use Rattle.ring_bytes.specs.Value.{Stored, size_of}

abbrev pub part : ℕ → Header → Part
part at header = record { at = at; header = header }

pub size_least : (len : ℕ) → len + 16 ≤ record_size len
size_least len = omega arith

pub size_units : (len : ℕ) → record_size len % 16 ≡ 0
size_units len = omega arith

-- What a row reads as

pub parts_order : (bytes : List ℕ) (lo : ℕ) (ps : List Part) (hi : ℕ) → AreParts bytes lo ps hi → lo ≤ hi
parts_order bytes lo [] hi are = omega arith
parts_order bytes lo (p ∷ ps) hi are = let rest = parts_order bytes (lo + record_size p.header.len) ps hi are.4 in omega arith

parts_are : (limit : ℕ) (bytes : List ℕ) (lo : ℕ) (ps : List Part) (hi : ℕ) → AreParts bytes lo ps hi → hi ≤ lo + limit → parts limit bytes lo hi ≡ ps
parts_are zero bytes lo [] hi are enough = refl
parts_are zero bytes lo (p ∷ ps) hi are enough =
    let rest = parts_order bytes (lo + record_size p.header.len) ps hi are.4 in
    let more = size_least p.header.len in
    absurd (omega arith)
parts_are (suc limit) bytes lo [] hi are enough =
    ap (λ b. cond b (part lo (header_at bytes lo) ∷ parts limit bytes (lo + record_size (header_at bytes lo).len) hi) []) (le-ltb lo hi (omega arith))
parts_are (suc limit) bytes lo (p ∷ ps) hi are enough =
    let rest = parts_order bytes (lo + record_size p.header.len) ps hi are.4 in
    let more = size_least p.header.len in
    let header : header_at bytes lo ≡ p.header = sym are.1 in
    let here : part lo (header_at bytes lo) ≡ p = λ i. record { at = sym are.0 i; header = header i } in
    let again : AreParts bytes (lo + record_size (header_at bytes lo).len) ps hi =
    subst (λ (h : Header). AreParts bytes (lo + record_size h.len) ps hi) are.1 are.4 in
    let less : hi ≤ lo + record_size (header_at bytes lo).len + limit =
    subst (λ (h : Header). hi ≤ lo + record_size h.len + limit) are.1 (omega arith) in
    ap (λ b. cond b (part lo (header_at bytes lo) ∷ parts limit bytes (lo + record_size (header_at bytes lo).len) hi) []) (lt-ltb lo hi (omega arith))
    ∙ ap₂ (λ (q : Part) (qs : List Part). q ∷ qs) here (parts_are limit bytes (lo + record_size (header_at bytes lo).len) ps hi again less)

pub row_is : (bytes : List ℕ) (lo : ℕ) (ps : List Part) (hi : ℕ) → AreParts bytes lo ps hi → row bytes lo hi ≡ ps
unfolding row
row_is bytes lo ps hi are = parts_are hi bytes lo ps hi are (omega arith)

pub is_row : (bytes : List ℕ) (lo : ℕ) (ps : List Part) (hi : ℕ) → AreParts bytes lo ps hi → IsRow bytes lo hi
is_row bytes lo ps hi are = record { are = subst (λ qs. AreParts bytes lo qs hi) (sym (row_is bytes lo ps hi are)) are }

pub live_is : (bytes : List ℕ) (lo : ℕ) (ps : List Part) (hi : ℕ) → AreParts bytes lo ps hi → live_row bytes lo hi ≡ live_in bytes ps
live_is bytes lo ps hi are = ap (live_in bytes) (row_is bytes lo ps hi are)

pub row_order : (bytes : List ℕ) (lo hi : ℕ) → IsRow bytes lo hi → lo ≤ hi
row_order bytes lo hi is = parts_order bytes lo (row bytes lo hi) hi is.are

-- Rows put together

pub row_none : (bytes : List ℕ) (at : ℕ) → IsRow bytes at at × (live_row bytes at at ≡ [])
row_none bytes at = (is_row bytes at [] at refl, live_is bytes at [] at refl)

pub row_one : (bytes : List ℕ) (at : ℕ) (header : Header) → header_at bytes at ≡ header → StandsAt bytes at header → header.len < MAX_RING_SIZE → IsRow bytes at (at + record_size header.len) × (live_row bytes at (at + record_size header.len) ≡ cond (is_live header) (stored_of bytes (part at header) ∷ []) [])
row_one bytes at header is stands small =
    let are : AreParts bytes at (part at header ∷ []) (at + record_size header.len) = (refl, sym is, small, stands, refl) in
    (is_row bytes at (part at header ∷ []) (at + record_size header.len) are, live_is bytes at (part at header ∷ []) (at + record_size header.len) are)

parts_append : (bytes : List ℕ) (lo mid hi : ℕ) (ps qs : List Part) → AreParts bytes lo ps mid → AreParts bytes mid qs hi → AreParts bytes lo (ps ++ qs) hi
parts_append bytes lo mid hi [] qs one two = subst (λ n. AreParts bytes n qs hi) (sym one) two
parts_append bytes lo mid hi (p ∷ ps) qs one two = (one.0, one.1, one.2, one.3, parts_append bytes (lo + record_size p.header.len) mid hi ps qs one.4 two)

live_append : (bytes : List ℕ) (ps qs : List Part) → live_in bytes (ps ++ qs) ≡ live_in bytes ps ++ live_in bytes qs
live_append bytes [] qs = refl
live_append bytes (p ∷ ps) qs =
    let P : Bool → Type 0 = λ b. cond b (stored_of bytes p ∷ live_in bytes (ps ++ qs)) (live_in bytes (ps ++ qs)) ≡ cond b (stored_of bytes p ∷ live_in bytes ps) (live_in bytes ps) ++ live_in bytes qs in
    elim (is_live p.header) as P [
      | true ↦ ap (λ ss. stored_of bytes p ∷ ss) (live_append bytes ps qs)
      | false ↦ live_append bytes ps qs
    ]

pub row_append : (bytes : List ℕ) (lo mid hi : ℕ) → IsRow bytes lo mid → IsRow bytes mid hi → IsRow bytes lo hi × (live_row bytes lo hi ≡ live_row bytes lo mid ++ live_row bytes mid hi)
row_append bytes lo mid hi one two =
    let are = parts_append bytes lo mid hi (row bytes lo mid) (row bytes mid hi) one.are two.are in (
      is_row bytes lo (row bytes lo mid ++ row bytes mid hi) hi are,
      live_is bytes lo (row bytes lo mid ++ row bytes mid hi) hi are ∙ live_append bytes (row bytes lo mid) (row bytes mid hi),
    )

-- Rows left alone

parts_stay : (b c : List ℕ) (lo hi : ℕ) (ps : List Part) → ((at count : ℕ) → lo ≤ at → at + count ≤ hi → slice at count c ≡ slice at count b) → AreParts b lo ps hi → AreParts c lo ps hi × (live_in c ps ≡ live_in b ps)
parts_stay b c lo hi [] same are = (are, refl)
parts_stay b c lo hi (p ∷ ps) same are =
    let size = size_least p.header.len in
    let order = parts_order b (lo + record_size p.header.len) ps hi are.4 in
    let rest = parts_stay b c (lo + record_size p.header.len) hi ps (λ at count above under. same at count (omega arith) under) are.4 in
    let bytes : slice lo 16 c ≡ slice lo 16 b = same lo 16 (omega arith) (omega arith) in
    let header : header_at b lo ≡ header_at c lo = ap header_of (sym bytes) in
    let payload : slice (p.at + 16) p.header.len c ≡ slice (p.at + 16) p.header.len b =
    same (p.at + 16) p.header.len (omega (arith, are.0)) (omega (arith, are.0)) in
    let stored : stored_of c p ≡ stored_of b p = λ i. record { at = p.at; key = p.header.key; payload = payload i } in (
      (are.0, are.1 ∙ header, are.2, bytes ∙ are.3, rest.0),
      ap₂ (λ (s : Stored) (ss : List Stored). cond (is_live p.header) (s ∷ ss) ss) stored rest.1,
    )

pub row_stays : (b c : List ℕ) (lo hi : ℕ) → ((at count : ℕ) → lo ≤ at → at + count ≤ hi → slice at count c ≡ slice at count b) → IsRow b lo hi → IsRow c lo hi × (live_row c lo hi ≡ live_row b lo hi)
row_stays b c lo hi same is =
    let stay = parts_stay b c lo hi (row b lo hi) same is.are in
    (is_row c lo (row b lo hi) hi stay.0, live_is c lo (row b lo hi) hi stay.0 ∙ stay.1)

pub row_below : (b c : List ℕ) (from to lo hi : ℕ) → SameOutside from to b c → hi ≤ from → IsRow b lo hi → IsRow c lo hi × (live_row c lo hi ≡ live_row b lo hi)
row_below b c from to lo hi same below is = row_stays b c lo hi (λ at count above under. same.below at count (omega arith)) is

pub row_above : (b c : List ℕ) (from to lo hi : ℕ) → SameOutside from to b c → to ≤ lo → IsRow b lo hi → IsRow c lo hi × (live_row c lo hi ≡ live_row b lo hi)
row_above b c from to lo hi same above is = row_stays b c lo hi (λ at count over under. same.above at count (omega arith)) is

-- One part read

pub record IsStep (bytes : List ℕ) (at end : ℕ) : Type 0 where
  pub small : (header_at bytes at).len < MAX_RING_SIZE
  pub stands : StandsAt bytes at (header_at bytes at)
  pub inside : at + record_size (header_at bytes at).len ≤ end
  pub rest : IsRow bytes (at + record_size (header_at bytes at).len) end
  pub live : live_row bytes at end ≡ cond (is_live (header_at bytes at)) (stored_of bytes (part at (header_at bytes at)) ∷ live_row bytes (at + record_size (header_at bytes at).len) end) (live_row bytes (at + record_size (header_at bytes at).len) end)

step_of : (bytes : List ℕ) (at end : ℕ) (ps : List Part) → AreParts bytes at ps end → at < end → IsStep bytes at end
step_of bytes at end [] are before = absurd (omega arith)
step_of bytes at end (p ∷ ps) are before =
    let header : p.header ≡ header_at bytes at = are.1 in
    let here : p ≡ part at (header_at bytes at) = λ i. record { at = are.0 i; header = header i } in
    let rest : AreParts bytes (at + record_size (header_at bytes at).len) ps end =
    subst (λ (h : Header). AreParts bytes (at + record_size h.len) ps end) header are.4 in
    record {
      small = subst (λ (h : Header). h.len < MAX_RING_SIZE) header are.2;
      stands = subst (StandsAt bytes at) header are.3;
      inside = parts_order bytes (at + record_size (header_at bytes at).len) ps end rest;
      rest = is_row bytes (at + record_size (header_at bytes at).len) ps end rest;
      live =
          live_is bytes at (p ∷ ps) end are
          ∙ ap (λ (q : Part). cond (is_live q.header) (stored_of bytes q ∷ live_in bytes ps) (live_in bytes ps)) here
          ∙ ap (λ ss. cond (is_live (header_at bytes at)) (stored_of bytes (part at (header_at bytes at)) ∷ ss) ss)
          (sym (live_is bytes (at + record_size (header_at bytes at).len) ps end rest));
    }

pub step : (bytes : List ℕ) (at end : ℕ) → IsRow bytes at end → at < end → IsStep bytes at end
step bytes at end is before = step_of bytes at end (row bytes at end) is.are before

-- Where the records of a row lie

abbrev pub AllIn : ℕ → ℕ → List Stored → Type 0
AllIn lo hi [] = Unit {0}
AllIn lo hi (s ∷ ss) = (lo ≤ s.at) × (s.at + size_of s ≤ hi) × AllIn lo hi ss

pub all_wider : (lo hi lower upper : ℕ) (ss : List Stored) → lower ≤ lo → hi ≤ upper → AllIn lo hi ss → AllIn lower upper ss
all_wider lo hi lower upper [] low high all = tt
all_wider lo hi lower upper (s ∷ ss) low high all = (omega (arith, all.0), omega (arith, all.1), all_wider lo hi lower upper ss low high all.2)

pub length_slice : (at count : ℕ) (bytes : List ℕ) → at + count ≤ length bytes → length (slice at count bytes) ≡ count
length_slice at count bytes inside = omega (arith, length-take count (drop at bytes), length-drop at bytes)

pub stored_size : (bytes : List ℕ) (at : ℕ) (header : Header) → at + 16 + header.len ≤ length bytes → size_of (stored_of bytes (part at header)) ≡ record_size header.len
stored_size bytes at header inside = ap record_size (length_slice (at + 16) header.len bytes inside)

parts_within : (bytes : List ℕ) (lo hi : ℕ) (ps : List Part) → hi ≤ length bytes → AreParts bytes lo ps hi → AllIn lo hi (live_in bytes ps)
parts_within bytes lo hi [] inside are = tt
parts_within bytes lo hi (p ∷ ps) inside are =
    let least = size_least p.header.len in
    let order = parts_order bytes (lo + record_size p.header.len) ps hi are.4 in
    let rest = all_wider (lo + record_size p.header.len) hi lo hi (live_in bytes ps) (omega arith) (omega arith) (parts_within bytes (lo + record_size p.header.len) hi ps inside are.4) in
    let size : size_of (stored_of bytes p) ≡ record_size p.header.len = stored_size bytes p.at p.header (omega (arith, are.0)) in
    let P : Bool → Type 0 = λ b. AllIn lo hi (cond b (stored_of bytes p ∷ live_in bytes ps) (live_in bytes ps)) in
    elim (is_live p.header) as P [
      | true ↦ (omega (arith, are.0), omega (arith, are.0, size), rest)
      | false ↦ rest
    ]

pub row_within : (bytes : List ℕ) (lo hi : ℕ) → hi ≤ length bytes → IsRow bytes lo hi → AllIn lo hi (live_row bytes lo hi)
row_within bytes lo hi inside is = parts_within bytes lo hi (row bytes lo hi) inside is.are

parts_few : (bytes : List ℕ) (lo hi : ℕ) (ps : List Part) → hi ≤ length bytes → AreParts bytes lo ps hi → lo + sum_by size_of (live_in bytes ps) ≤ hi
parts_few bytes lo hi [] inside are = omega arith
parts_few bytes lo hi (p ∷ ps) inside are =
    let least = size_least p.header.len in
    let order = parts_order bytes (lo + record_size p.header.len) ps hi are.4 in
    let rest = parts_few bytes (lo + record_size p.header.len) hi ps inside are.4 in
    let size : size_of (stored_of bytes p) ≡ record_size p.header.len = stored_size bytes p.at p.header (omega (arith, are.0)) in
    let P : Bool → Type 0 = λ b. lo + sum_by size_of (cond b (stored_of bytes p ∷ live_in bytes ps) (live_in bytes ps)) ≤ hi in
    elim (is_live p.header) as P [
      | true ↦ omega (arith, size, sum_by-cons size_of (stored_of bytes p) (live_in bytes ps))
      | false ↦ omega arith
    ]

-- the records of a row take no more than it has
pub row_few : (bytes : List ℕ) (lo hi : ℕ) → hi ≤ length bytes → IsRow bytes lo hi → lo + sum_by size_of (live_row bytes lo hi) ≤ hi
row_few bytes lo hi inside is = parts_few bytes lo hi (row bytes lo hi) inside is.are

parts_units : (bytes : List ℕ) (lo hi : ℕ) (ps : List Part) → AreParts bytes lo ps hi → lo % 16 ≡ hi % 16
parts_units bytes lo hi [] are = ap (λ n. n % 16) are
parts_units bytes lo hi (p ∷ ps) are =
    let units = size_units p.header.len in
    let rest = parts_units bytes (lo + record_size p.header.len) hi ps are.4 in
    omega arith

pub row_units : (bytes : List ℕ) (lo hi : ℕ) → IsRow bytes lo hi → lo % 16 ≡ hi % 16
row_units bytes lo hi is = parts_units bytes lo hi (row bytes lo hi) is.are

-- Rows of which nothing is live up to a place

pub past_row : (bytes : List ℕ) (from at end : ℕ) → IsPast bytes from at end → IsRow bytes from end × (live_row bytes from end ≡ live_row bytes at end)
past_row bytes from at end past =
    let whole = row_append bytes from at end past.dead past.rest in
    (whole.0, whole.1 ∙ ap (λ ss. ss ++ live_row bytes at end) past.none)

pub past_then : (bytes : List ℕ) (from at then end : ℕ) → IsPast bytes from at end → IsPast bytes at then end → IsPast bytes from then end
past_then bytes from at then end one two =
    let whole = row_append bytes from at then one.dead two.dead in
    record {
      dead = whole.0;
      none = whole.1 ∙ ap₂ (λ ss ts. ss ++ ts) one.none two.none;
      rest = two.rest;
    }

pub past_none : (bytes : List ℕ) (at end : ℕ) → IsRow bytes at end → IsPast bytes at at end
past_none bytes at end is = record { dead = (row_none bytes at).0; none = (row_none bytes at).1; rest = is }

pub past_below : (b c : List ℕ) (from to lo at hi : ℕ) → SameOutside from to b c → hi ≤ from → IsPast b lo at hi → IsPast c lo at hi
past_below b c from to lo at hi same below past =
    let order = row_order b at hi past.rest in
    let dead = row_below b c from to lo at same (omega arith) past.dead in
    record {
      dead = dead.0;
      none = dead.1 ∙ past.none;
      rest = (row_below b c from to at hi same below past.rest).0;
    }

pub past_above : (b c : List ℕ) (from to lo at hi : ℕ) → SameOutside from to b c → to ≤ lo → IsPast b lo at hi → IsPast c lo at hi
past_above b c from to lo at hi same above past =
    let order = row_order b lo at past.dead in
    let dead = row_above b c from to lo at same above past.dead in
    record {
      dead = dead.0;
      none = dead.1 ∙ past.none;
      rest = (row_above b c from to at hi same (omega arith) past.rest).0;
    }
