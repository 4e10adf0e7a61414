-- What comes in an account is of the writer's pages, and nothing comes behind the close.
use Rattle.std.proofs.Common.{◌≡◌, ◌∙◌, ℕ, suc, ◌+◌, ◌≤◌, Bool, true, false, not, ◌&&◌, ◌||◌, List, [], ◌∷◌, length, Some, refl, sym, ap, subst, arith}
use Rattle.std.specs.Prelude.{◌==◌, slice_get, MatchBool}
use Rattle.std.proofs.lemmas.Bool.{false≢true, eq-eqb, and_from}
use Rattle.std.proofs.Math.Bool.{and-false, or-false, or-true}
use Rattle.trace_model.specs.Images.{Chunk, Fragment, Patch}
use Rattle.trace_model.specs.Fading.{ShowFragments}
use Rattle.trace_model.specs.Packets.{packets_of}
use Rattle.trace_model.specs.Pages.{Page, chunk_of, patches_of}
use Rattle.trace_model.specs.Cut.{newest_goes_on}
use Rattle.trace_model.specs.History.{Event, Arrives, ArrivesInPart, Patched, Committed, Closed, Read}
use Rattle.trace_model.specs.CauseLaws.{closes_last}
use Rattle.trace_model.proofs.PageLemmas.{fragments_long, settled_long}
use Rattle.model_laws.specs.Starts.{IsOfPage, ArePagesOf}
use Rattle.delivery_laws.specs.Sheets.{Sheet}
use Rattle.delivery_laws.specs.Histories.{IsPart}
use Rattle.delivery_laws.specs.Orders.{InOrder}
use Rattle.delivery_laws.specs.WriterSheets.{sheets_of}
use Rattle.delivery_laws.specs.DeliveryLaws.{AccountsAreHistories}
use Rattle.delivery_laws.proofs.CompleteLemmas.{sheet_at}

no_more : (partial awaits : Bool) (fragments written : List Fragment) → ShowFragments partial awaits fragments written → length fragments ≤ length written
no_more partial awaits [] written h = omega arith
no_more partial awaits (f ∷ fs) [] h = absurd h
no_more partial awaits (f ∷ fs) (w ∷ ws) h = omega (arith, no_more partial awaits fs ws h.2)

-- a chunk that comes whole, and a part of one, are of the page
whole_of : (goes : Bool) (pages : List Page) (come : ℕ) (sheet : Sheet) (chunk : Chunk) → slice_get (sheets_of goes pages) come ≡ Some sheet → chunk ≡ sheet.chunk
    → IsOfPage pages come chunk
whole_of goes pages come sheet chunk get same =
    let is = sheet_at (patches_of pages) goes pages 0 come sheet get in
    let long = fragments_long 4 is.page.dropped is.page.fragments in
    let as_long = ap (λ (c : Chunk). length c.fragments) same in
    let fragments = ap (λ (fs : List Fragment). length fs) is.fragments in
    record {
      page = is.page;
      there = is.get;
      continues = ap (λ (c : Chunk). c.continues) same ∙ is.continues;
      no_more = omega (arith, long, as_long, fragments);
    }

part_of : (goes : Bool) (pages : List Page) (come : ℕ) (chunk : Chunk) → IsPart (sheets_of goes pages) come chunk → IsOfPage pages come chunk
part_of goes pages come chunk part =
    let is = sheet_at (patches_of pages) goes pages 0 come part.sheet part.there in
    let long = fragments_long 4 is.page.dropped is.page.fragments in
    let few = no_more true false chunk.fragments part.sheet.written part.shows in
    let written = ap (λ (fs : List Fragment). length fs) is.written in
    let settled = settled_long (patches_of pages) (0 + come) (chunk_of is.page).fragments in
    record {
      page = is.page;
      there = is.get;
      continues = part.continues ∙ is.continues;
      no_more = omega (arith, long, few, written, settled);
    }

pages_in_order : (goes : Bool) (pages : List Page) (q : ℕ) (events : List Event) (come : ℕ) (closed : Bool) (due : List Patch)
    → InOrder (sheets_of goes pages) q come closed due events → ArePagesOf q pages events
pages_in_order goes pages q [] come closed due order = tt
pages_in_order goes pages q (Arrives other chunk_id chunk ∷ events) come closed due order =
    by_same (other == q) refl order.1
    (λ ps o. pages_in_order goes pages q events (suc come) closed ps o) (λ o. pages_in_order goes pages q events come closed [] o)
  where
    by_same : (x : Bool) → (other == q) ≡ x
        → MatchBool x ((closed ≡ false) × (chunk_id ≡ come) × (sheet : Sheet) × (slice_get (sheets_of goes pages) come ≡ Some sheet) × (chunk ≡ sheet.chunk)
        × InOrder (sheets_of goes pages) q (suc come) closed sheet.patches events) (InOrder (sheets_of goes pages) q come closed [] events)
        → ((ps : List Patch) → InOrder (sheets_of goes pages) q (suc come) closed ps events → ArePagesOf q pages events)
        → (InOrder (sheets_of goes pages) q come closed [] events → ArePagesOf q pages events)
        → (other ≡ q → IsOfPage pages chunk_id chunk) × ArePagesOf q pages events
    by_same true e h here rest =
        ((λ s. subst (λ (i : ℕ). IsOfPage pages i chunk) (sym h.1) (whole_of goes pages come h.2 chunk h.3 h.4)), here h.2.patches h.5)
    by_same false e h here rest = ((λ s. absurd (false≢true (sym e ∙ eq-eqb other q s))), rest h)
pages_in_order goes pages q (ArrivesInPart other chunk_id chunk ∷ events) come closed due order =
    by_same (other == q) refl order.1 (λ o. pages_in_order goes pages q events come closed [] o)
  where
    by_same : (x : Bool) → (other == q) ≡ x
        → MatchBool x ((closed ≡ false) × (chunk_id ≡ come) × IsPart (sheets_of goes pages) come chunk × InOrder (sheets_of goes pages) q come closed [] events)
        (InOrder (sheets_of goes pages) q come closed [] events)
        → (InOrder (sheets_of goes pages) q come closed [] events → ArePagesOf q pages events)
        → (other ≡ q → IsOfPage pages chunk_id chunk) × ArePagesOf q pages events
    by_same true e h rest = ((λ s. subst (λ (i : ℕ). IsOfPage pages i chunk) (sym h.1) (part_of goes pages come chunk h.2)), rest h.3)
    by_same false e h rest = ((λ s. absurd (false≢true (sym e ∙ eq-eqb other q s))), rest h)
pages_in_order goes pages q (Patched other patches ∷ events) come closed due order =
    by_same (other == q) order (λ o. pages_in_order goes pages q events come closed [] o)
  where
    by_same : (x : Bool) → MatchBool x ((patches ≡ due) × InOrder (sheets_of goes pages) q come closed [] events) ((due ≡ []) × InOrder (sheets_of goes pages) q come closed [] events)
        → (InOrder (sheets_of goes pages) q come closed [] events → ArePagesOf q pages events) → ArePagesOf q pages events
    by_same true h rest = rest h.1
    by_same false h rest = rest h.1
pages_in_order goes pages q (Committed image patches ∷ events) come closed due order =
    ((λ s. absurd (false≢true (sym order.1 ∙ eq-eqb image.sequence q s))), pages_in_order goes pages q events come closed [] order.2)
pages_in_order goes pages q (Closed other ∷ events) come closed due order =
    by_same (other == q) order.1 (λ c o. pages_in_order goes pages q events come c [] o)
  where
    by_same : (x : Bool) → MatchBool x ((closed ≡ false) × InOrder (sheets_of goes pages) q come true [] events) (InOrder (sheets_of goes pages) q come closed [] events)
        → ((c : Bool) → InOrder (sheets_of goes pages) q come c [] events → ArePagesOf q pages events) → ArePagesOf q pages events
    by_same true h rest = rest true h.1
    by_same false h rest = rest closed h
pages_in_order goes pages q (Read other limit ∷ events) come closed due order = pages_in_order goes pages q events come closed [] order.1

module _ (sheets : List Sheet) (q : ℕ) where
  -- an event that may come leaves the rest as it is
  stays : (closed comes closes : Bool) (now : Bool) (events : List Event) → (closed && comes) ≡ false → (closed || closes) ≡ now → closes_last q now events ≡ true
      → (not (closed && comes) && closes_last q (closed || closes) events) ≡ true
  stays closed comes closes now events none e h =
      and_from (not (closed && comes)) (closes_last q (closed || closes) events) (ap not none) (ap (λ (b : Bool). closes_last q b events) e ∙ h)

  closes_in_order : (events : List Event) (come : ℕ) (closed : Bool) (due : List Patch) → InOrder sheets q come closed due events → closes_last q closed events ≡ true
  closes_in_order [] come closed due order = refl
  closes_in_order (Arrives other chunk_id chunk ∷ events) come closed due order =
      by_same (other == q) refl order.1 (λ ps o. closes_in_order events (suc come) closed ps o) (λ o. closes_in_order events come closed [] o)
    where
      by_same : (x : Bool) → (other == q) ≡ x
          → MatchBool x ((closed ≡ false) × (chunk_id ≡ come) × (sheet : Sheet) × (slice_get sheets come ≡ Some sheet) × (chunk ≡ sheet.chunk)
          × InOrder sheets q (suc come) closed sheet.patches events) (InOrder sheets q come closed [] events)
          → ((ps : List Patch) → InOrder sheets q (suc come) closed ps events → closes_last q closed events ≡ true)
          → (InOrder sheets q come closed [] events → closes_last q closed events ≡ true)
          → (not (closed && (other == q)) && closes_last q (closed || false) events) ≡ true
      by_same true e h here rest = stays closed (other == q) false closed events (ap (λ (b : Bool). b && (other == q)) h.0) (or-false closed) (here h.2.patches h.5)
      by_same false e h here rest = stays closed (other == q) false closed events (ap (λ (b : Bool). closed && b) e ∙ and-false closed) (or-false closed) (rest h)
  closes_in_order (ArrivesInPart other chunk_id chunk ∷ events) come closed due order =
      by_same (other == q) refl order.1 (λ o. closes_in_order events come closed [] o)
    where
      by_same : (x : Bool) → (other == q) ≡ x
          → MatchBool x ((closed ≡ false) × (chunk_id ≡ come) × IsPart sheets come chunk × InOrder sheets q come closed [] events) (InOrder sheets q come closed [] events)
          → (InOrder sheets q come closed [] events → closes_last q closed events ≡ true)
          → (not (closed && (other == q)) && closes_last q (closed || false) events) ≡ true
      by_same true e h rest = stays closed (other == q) false closed events (ap (λ (b : Bool). b && (other == q)) h.0) (or-false closed) (rest h.3)
      by_same false e h rest = stays closed (other == q) false closed events (ap (λ (b : Bool). closed && b) e ∙ and-false closed) (or-false closed) (rest h)
  closes_in_order (Patched other patches ∷ events) come closed due order =
      stays closed false false closed events (and-false closed) (or-false closed) (by_same (other == q) order (λ o. closes_in_order events come closed [] o))
    where
      by_same : (x : Bool) → MatchBool x ((patches ≡ due) × InOrder sheets q come closed [] events) ((due ≡ []) × InOrder sheets q come closed [] events)
          → (InOrder sheets q come closed [] events → closes_last q closed events ≡ true) → closes_last q closed events ≡ true
      by_same true h rest = rest h.1
      by_same false h rest = rest h.1
  closes_in_order (Committed image patches ∷ events) come closed due order =
      stays closed (image.sequence == q) false closed events (ap (λ (b : Bool). closed && b) order.1 ∙ and-false closed) (or-false closed)
      (closes_in_order events come closed [] order.2)
  closes_in_order (Closed other ∷ events) come closed due order =
      by_same (other == q) refl order.1 (λ c o. closes_in_order events come c [] o)
    where
      by_same : (x : Bool) → (other == q) ≡ x
          → MatchBool x ((closed ≡ false) × InOrder sheets q come true [] events) (InOrder sheets q come closed [] events)
          → ((c : Bool) → InOrder sheets q come c [] events → closes_last q c events ≡ true)
          → (not (closed && false) && closes_last q (closed || (other == q)) events) ≡ true
      by_same true e h rest = stays closed false (other == q) true events (and-false closed) (ap (λ (b : Bool). closed || b) e ∙ or-true closed) (rest true h.1)
      by_same false e h rest = stays closed false (other == q) closed events (and-false closed) (ap (λ (b : Bool). closed || b) e ∙ or-false closed) (rest closed h)
  closes_in_order (Read other limit ∷ events) come closed due order =
      stays closed false false closed events (and-false closed) (or-false closed) (closes_in_order events come closed [] order.1)

pub accounts_are_histories : AccountsAreHistories
accounts_are_histories size calls pages sequences q record_size events account countable = record {
  cut = account.cut;
  countable = countable;
  known = account.known;
  start = account.start;
  arrivals = pages_in_order (newest_goes_on (packets_of calls)) pages q events 0 false [] account.order;
  closes = closes_in_order (sheets_of (newest_goes_on (packets_of calls)) pages) q events 0 false [] account.order;
}
