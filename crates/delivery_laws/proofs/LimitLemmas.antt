-- A history that ends with a read, and what that read delivers with another limit.
use Rattle.std.proofs.Common.{◌≡◌, ◌∙◌, ℕ, zero, suc, ◌-◌, ◌≤◌, Bool, true, false, ◌&&◌, ◌||◌, List, [], ◌∷◌, ◌++◌, length, take, refl, sym, ap, arith, length-take}
use Rattle.std.specs.Prelude.{Some, cond, ◌==◌, slice_get, MatchBool}
use Rattle.std.proofs.Math.Nat.{min-le_left}
use Rattle.trace_base.proofs.Choices.{more_isnt_none}
use Rattle.trace_model.specs.Counts.{one_if}
use Rattle.trace_model.specs.History.{Event, Arrives, ArrivesInPart, Patched, Committed, Closed, Read}
use Rattle.trace_model.specs.Images.{Patch}
use Rattle.trace_model.specs.Reads.{Delivery, delivered_of, delivers, ends, link_bytes, passed_by, turn_of}
use Rattle.trace_model.specs.Row.{Link}
use Rattle.delivery_laws.specs.Histories.{IsPart}
use Rattle.delivery_laws.specs.Orders.{InOrder}
use Rattle.delivery_laws.specs.Sheets.{Sheet}

module _ (sheets : List Sheet) (q read limit other_limit : ℕ) (later : List Event) where
  -- a read may end the history, with whatever limit
  pub read_further : (early : List Event) (come : ℕ) (closed : Bool) (due : List Patch) → InOrder sheets q come closed due (early ++ Read read limit ∷ later)
      → InOrder sheets q come closed due (early ++ Read read other_limit ∷ [])
  read_further [] come closed due order = (order.0, refl)
  read_further (Arrives other chunk_id chunk ∷ early) come closed due order =
      (order.0, by_same (other == q) order.1 (λ ps o. read_further early (suc come) closed ps o) (λ o. read_further early come closed [] o))
    where
      by_same : (x : Bool)
          → MatchBool x ((closed ≡ false) × (chunk_id ≡ come) × (sheet : Sheet) × (slice_get sheets come ≡ Some sheet) × (chunk ≡ sheet.chunk)
          × InOrder sheets q (suc come) closed sheet.patches (early ++ Read read limit ∷ later)) (InOrder sheets q come closed [] (early ++ Read read limit ∷ later))
          → ((ps : List Patch) → InOrder sheets q (suc come) closed ps (early ++ Read read limit ∷ later) → InOrder sheets q (suc come) closed ps (early ++ Read read other_limit ∷ []))
          → (InOrder sheets q come closed [] (early ++ Read read limit ∷ later) → InOrder sheets q come closed [] (early ++ Read read other_limit ∷ []))
          → MatchBool x ((closed ≡ false) × (chunk_id ≡ come) × (sheet : Sheet) × (slice_get sheets come ≡ Some sheet) × (chunk ≡ sheet.chunk)
          × InOrder sheets q (suc come) closed sheet.patches (early ++ Read read other_limit ∷ [])) (InOrder sheets q come closed [] (early ++ Read read other_limit ∷ []))
      by_same true h here rest = (h.0, h.1, h.2, h.3, h.4, here h.2.patches h.5)
      by_same false h here rest = rest h
  read_further (ArrivesInPart other chunk_id chunk ∷ early) come closed due order =
      (order.0, by_same (other == q) order.1 (λ o. read_further early come closed [] o))
    where
      by_same : (x : Bool)
          → MatchBool x ((closed ≡ false) × (chunk_id ≡ come) × IsPart sheets come chunk × InOrder sheets q come closed [] (early ++ Read read limit ∷ later))
          (InOrder sheets q come closed [] (early ++ Read read limit ∷ later))
          → (InOrder sheets q come closed [] (early ++ Read read limit ∷ later) → InOrder sheets q come closed [] (early ++ Read read other_limit ∷ []))
          → MatchBool x ((closed ≡ false) × (chunk_id ≡ come) × IsPart sheets come chunk × InOrder sheets q come closed [] (early ++ Read read other_limit ∷ []))
          (InOrder sheets q come closed [] (early ++ Read read other_limit ∷ []))
      by_same true h rest = (h.0, h.1, h.2, rest h.3)
      by_same false h rest = rest h
  read_further (Patched other patches ∷ early) come closed due order = by_same (other == q) order (λ o. read_further early come closed [] o)
    where
      by_same : (x : Bool)
          → MatchBool x ((patches ≡ due) × InOrder sheets q come closed [] (early ++ Read read limit ∷ later)) ((due ≡ []) × InOrder sheets q come closed [] (early ++ Read read limit ∷ later))
          → (InOrder sheets q come closed [] (early ++ Read read limit ∷ later) → InOrder sheets q come closed [] (early ++ Read read other_limit ∷ []))
          → MatchBool x ((patches ≡ due) × InOrder sheets q come closed [] (early ++ Read read other_limit ∷ [])) ((due ≡ []) × InOrder sheets q come closed [] (early ++ Read read other_limit ∷ []))
      by_same true h rest = (h.0, rest h.1)
      by_same false h rest = (h.0, rest h.1)
  read_further (Committed image patches ∷ early) come closed due order = (order.0, order.1, read_further early come closed [] order.2)
  read_further (Closed other ∷ early) come closed due order =
      (order.0, by_same (other == q) order.1 (λ o. read_further early come true [] o) (λ o. read_further early come closed [] o))
    where
      by_same : (x : Bool)
          → MatchBool x ((closed ≡ false) × InOrder sheets q come true [] (early ++ Read read limit ∷ later)) (InOrder sheets q come closed [] (early ++ Read read limit ∷ later))
          → (InOrder sheets q come true [] (early ++ Read read limit ∷ later) → InOrder sheets q come true [] (early ++ Read read other_limit ∷ []))
          → (InOrder sheets q come closed [] (early ++ Read read limit ∷ later) → InOrder sheets q come closed [] (early ++ Read read other_limit ∷ []))
          → MatchBool x ((closed ≡ false) × InOrder sheets q come true [] (early ++ Read read other_limit ∷ [])) (InOrder sheets q come closed [] (early ++ Read read other_limit ∷ []))
      by_same true h here rest = (h.0, here h.1)
      by_same false h here rest = rest h
  read_further (Read other more ∷ early) come closed due order = (order.0, read_further early come closed [] order.1)

-- ---- with a smaller limit

module _ (link : Link) (links : List Link) where
  -- what a read passes of these links, of which the first one ends it or is delivered
  abbrev passed : ℕ → Bool → Bool → List Link
  passed limit is_end is_due = cond (is_end || (is_due && (limit == 0))) [] (link ∷ passed_by (limit - one_if is_due) links)

  passed_is : (limit : ℕ) (is_end is_due : Bool) → ends (turn_of link) ≡ is_end → delivers (turn_of link) ≡ is_due
      → passed_by limit (link ∷ links) ≡ passed limit is_end is_due
  passed_is limit is_end is_due end_is due_is =
      ap (λ (b : Bool). passed limit b (delivers (turn_of link))) end_is ∙ ap (passed limit is_end) due_is

  -- and what it delivers of them
  abbrev given : Bool → Bool → List Link → List Delivery
  given marked is_due rest = cond is_due (record { body = link_bytes link; marked = marked } ∷ delivered_of false rest) (delivered_of true rest)

none_taken : {A : Type 0} (count : ℕ) → take {A = A} count [] ≡ []
none_taken zero = refl
none_taken (suc count) = refl

-- what a read with a smaller limit delivers is a front part
abbrev GivesFront : (few many : ℕ) → Bool → List Link → Type 0
GivesFront few many marked links = delivered_of marked (passed_by few links) ≡ take few (delivered_of marked (passed_by many links))

module _ (link : Link) (links : List Link) (marked : Bool) (end_not : ends (turn_of link) ≡ false)
    (later : (behind : Bool) (few many : ℕ) → few ≤ many → GivesFront few many behind links) where
  -- where the first link is delivered
  first_due : delivers (turn_of link) ≡ true → (few many : ℕ) → few ≤ many → GivesFront few many marked (link ∷ links)
  first_due due_is zero many low = ap (delivered_of marked) (passed_is link links zero false true end_not due_is)
  first_due due_is (suc few) zero low = absurd (omega (arith, low))
  first_due due_is (suc few) (suc many) low =
      goes_on few
      ∙ ap (λ (ds : List Delivery). record { body = link_bytes link; marked = marked } ∷ ds) (later false few many (omega (arith, low)))
      ∙ sym (ap (take (suc few)) (goes_on many))
    where
      goes_on : (left : ℕ) → delivered_of marked (passed_by (suc left) (link ∷ links))
          ≡ record { body = link_bytes link; marked = marked } ∷ delivered_of false (passed_by left links)
      goes_on left =
          let same : suc left - 1 ≡ left = omega arith in
          ap (delivered_of marked) (passed_is link links (suc left) false true end_not due_is)
          ∙ ap (λ (b : Bool). delivered_of marked (cond b [] (link ∷ passed_by (suc left - 1) links))) (more_isnt_none left)
          ∙ ap (λ (b : Bool). given link links marked b (passed_by (suc left - 1) links)) due_is
          ∙ ap (λ (n : ℕ). record { body = link_bytes link; marked = marked } ∷ delivered_of false (passed_by n links)) same

  -- where it is passed
  first_passed : delivers (turn_of link) ≡ false → (few many : ℕ) → few ≤ many → GivesFront few many marked (link ∷ links)
  first_passed due_is few many low = goes_on few ∙ later true few many low ∙ sym (ap (take few) (goes_on many))
    where
      goes_on : (limit : ℕ) → delivered_of marked (passed_by limit (link ∷ links)) ≡ delivered_of true (passed_by limit links)
      goes_on limit =
          let same : limit - 0 ≡ limit = omega arith in
          ap (delivered_of marked) (passed_is link links limit false false end_not due_is)
          ∙ ap (λ (b : Bool). given link links marked b (passed_by (limit - 0) links)) due_is
          ∙ ap (λ (n : ℕ). delivered_of true (passed_by n links)) same

-- where it ends the read
first_ends : (link : Link) (links : List Link) (marked : Bool) → ends (turn_of link) ≡ true → (few many : ℕ) → GivesFront few many marked (link ∷ links)
first_ends link links marked end_is few many =
    let due = delivers (turn_of link) in
    ap (delivered_of marked) (passed_is link links few true due end_is refl)
    ∙ sym (none_taken few)
    ∙ sym (ap (λ (ls : List Link). take few (delivered_of marked ls)) (passed_is link links many true due end_is refl))

pub fewer_delivered : (links : List Link) (marked : Bool) (few many : ℕ) → few ≤ many
    → delivered_of marked (passed_by few links) ≡ take few (delivered_of marked (passed_by many links))
fewer_delivered [] marked few many low = sym (none_taken few)
fewer_delivered (link ∷ links) marked few many low =
    by_turn (ends (turn_of link)) (delivers (turn_of link)) refl refl (λ behind less more below. fewer_delivered links behind less more below)
  where
    by_turn : (is_end is_due : Bool) → ends (turn_of link) ≡ is_end → delivers (turn_of link) ≡ is_due
        → ((behind : Bool) (less more : ℕ) → less ≤ more → GivesFront less more behind links) → GivesFront few many marked (link ∷ links)
    by_turn true is_due end_is due_is later = first_ends link links marked end_is few many
    by_turn false true end_is due_is later = first_due link links marked end_is later due_is few many low
    by_turn false false end_is due_is later = first_passed link links marked end_is later due_is few many low

-- and a read delivers no more than its limit
pub delivered_within : (marked : Bool) (limit : ℕ) (links : List Link) → length (delivered_of marked (passed_by limit links)) ≤ limit
delivered_within marked limit links =
    let front = ap (λ (ds : List Delivery). length ds) (fewer_delivered links marked limit limit (omega arith)) in
    let long = length-take limit (delivered_of marked (passed_by limit links)) in
    let least = min-le_left limit (length (delivered_of marked (passed_by limit links))) in
    omega (arith, front, long, least)
