-- Going from one part of a row to the next.
use Rattle.std.proofs.Common.{◌≡◌, ℕ, ◌+◌, ◌<◌, ◌≤◌, Bool, true, false, cond, nat_lt, List, [], ◌∷◌, Some, None, refl, sym, ap, ◌∙◌, subst, arith, le-ltb, lt-ltb}
use Rattle.std.specs.List.{find}
use Rattle.page_geometry.specs.Sizes.{record_size}
use Rattle.ring_bytes.specs.declared.header.Header.{Header}
use Rattle.ring_bytes.specs.declared.ring.TheConstants.{MAX_RING_SIZE}
use Rattle.ring_bytes.specs.Header.{header_at, StandsAt, is_live}
use Rattle.ring_bytes.specs.Rows.{IsRow, IsPast, live_row, stored_of}
use Rattle.ring_bytes.specs.Value.{Stored}
use Rattle.ring_bytes.proofs.RowLemmas.{part, AllIn, step, row_one, past_then}

-- a header read of a row, as the code has it
pub record IsRead (bytes : List ℕ) (at end : ℕ) (header : Header) : Type 0 where
  pub small : header.len < MAX_RING_SIZE
  pub stands : StandsAt bytes at header
  pub inside : at + record_size header.len ≤ end
  pub rest : IsRow bytes (at + record_size header.len) end
  pub live : live_row bytes at end ≡ cond (is_live header) (stored_of bytes (part at header) ∷ live_row bytes (at + record_size header.len) end) (live_row bytes (at + record_size header.len) end)

pub read_of : (bytes : List ℕ) (at end : ℕ) (header : Header) → IsRow bytes at end → at < end → header ≡ header_at bytes at → IsRead bytes at end header
read_of bytes at end header is before same =
    let s = step bytes at end is before in
    subst (λ (h : Header). IsRead bytes at end h) (sym same)
    record { small = s.small; stands = s.stands; inside = s.inside; rest = s.rest; live = s.live }

-- a part that isn't live is walked over
pub walk_on : (bytes : List ℕ) (at end then : ℕ) (header : Header) → IsRead bytes at end header → is_live header ≡ false → then ≡ at + record_size header.len → IsRow bytes then end × (live_row bytes then end ≡ live_row bytes at end)
walk_on bytes at end then header read dead is = (
  subst (λ n. IsRow bytes n end) (sym is) read.rest,
  ap (λ n. live_row bytes n end) is
      ∙ sym (read.live
      ∙ ap (λ b. cond b (stored_of bytes (part at header) ∷ live_row bytes (at + record_size header.len) end) (live_row bytes (at + record_size header.len) end)) dead),
)

pub past_more : (bytes : List ℕ) (from at end then : ℕ) (header : Header) → IsPast bytes from at end → header ≡ header_at bytes at → IsRead bytes at end header → is_live header ≡ false → then ≡ at + record_size header.len → IsPast bytes from then end
past_more bytes from at end then header past same read dead is =
    let one = row_one bytes at header (sym same) read.stands read.small in
    subst (λ n. IsPast bytes from n end) (sym is)
    (past_then bytes from at (at + record_size header.len) end past
    record {
      dead = one.0;
      none = one.1 ∙ ap (λ b. cond b (stored_of bytes (part at header) ∷ []) []) dead;
      rest = read.rest;
    })

-- the walk ends at a live part that begins before the limit
pub found_here : (bytes : List ℕ) (at end limit : ℕ) (header : Header) → IsRead bytes at end header → is_live header ≡ true → at < limit → find (λ (stored : Stored). nat_lt stored.at limit) (live_row bytes at end) ≡ Some (stored_of bytes (part at header))
found_here bytes at end limit header read live before =
    ap (find (λ (stored : Stored). nat_lt stored.at limit))
    (read.live
    ∙ ap (λ b. cond b (stored_of bytes (part at header) ∷ live_row bytes (at + record_size header.len) end) (live_row bytes (at + record_size header.len) end)) live)
    ∙ ap (λ b. cond b (Some (stored_of bytes (part at header))) (find (λ (stored : Stored). nat_lt stored.at limit) (live_row bytes (at + record_size header.len) end))) (lt-ltb at limit before)

-- none of these begins before the limit
pub none_before : (lo hi limit : ℕ) (ss : List Stored) → AllIn lo hi ss → limit ≤ lo → find (λ (stored : Stored). nat_lt stored.at limit) ss ≡ None
none_before lo hi limit [] all over = refl
none_before lo hi limit (s ∷ ss) all over =
    ap (λ b. cond b (Some s) (find (λ (stored : Stored). nat_lt stored.at limit) ss)) (le-ltb s.at limit (omega (arith, all.0)))
    ∙ none_before lo hi limit ss all.2 over

-- where none begins before the limit, the part isn't live
pub dead_before : (bytes : List ℕ) (at end limit : ℕ) (header : Header) → IsRead bytes at end header → at < limit → find (λ (stored : Stored). nat_lt stored.at limit) (live_row bytes at end) ≡ None → is_live header ≡ false
dead_before bytes at end limit header read before none = of (is_live header) refl
  where
    of : (b : Bool) → is_live header ≡ b → is_live header ≡ false
    of false is = is
    of true is = let there = found_here bytes at end limit header read is before in absurd (cc)
