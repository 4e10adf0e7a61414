-- What a scrape found of a chunk reads as the first fragments of the page that the chunk is.
use Rattle.std.proofs.Common.{◌≡◌, ◌∙◌, ℕ, zero, suc, ◌+◌, ◌^◌, ◌<◌, ◌≤◌, Bool, true, false, ◌&&◌, List, [], ◌∷◌, ◌++◌, length, take, Some, refl, sym, ap, arith, length-append, length-take}
use Rattle.std.specs.Prelude.{cond, All, ◌==◌}
use Rattle.std.specs.List.{flat_map}
use Rattle.std.proofs.lemmas.Bool.{false≢true, eqb-true, and_parts}
use Rattle.std.proofs.lemmas.List.{get_or_append_left}
use Rattle.std.proofs.lemmas.List.Elements.{All-nil, All-cons}
use Rattle.trace_base.specs.declared.limits.TheConstants.{MAX_FRAGMENTS}
use Rattle.trace_model.specs.Fragments.{drop_size}
use Rattle.trace_model.specs.Images.{Fragment, Patch, patched_last}
use Rattle.trace_model.specs.Pages.{Page, framed, laid, fragments_from}
use Rattle.trace_model.specs.Fading.{ShowFragments}
use Rattle.trace_model.specs.Written.{settled_fragments}
use Rattle.trace_model.specs.Cut.{IsWellFormedPage}
use Rattle.trace_model.specs.Reading.{Fragments, reading_of}
use Rattle.wire_varint.specs.Varint.{redundant}
use Rattle.chunk_plain.specs.Views.{At, Found, Look}
use Rattle.chunk_plain.specs.Payload.{byte_in, sealed_to, HasFragments, ends_from}
use Rattle.chunk_plain.specs.Histories.{is_scraped, found_among}
use Rattle.chunk_plain.proofs.Frames.{frames_read}
use Rattle.chunk_plain.proofs.Sealing.{reads_same, ends_grow, length-ends_from}
use Rattle.world_model.proofs.OwnLemmas.{page_reads}

-- The look

-- the look among these that found it: so many fragments of the writer's chunk at this position
pub record IsLooked (place position count : ℕ) (looks : List Look) (found : Found) : Type 0 where
  pub number : ℕ
  pub look : Look
  pub at : At looks number look
  pub found_is : look.found ≡ Some found
  pub place_is : found.place ≡ place
  pub position_is : found.position ≡ position
  pub count_is : length found.ends ≡ count

pub looked : (place position count : ℕ) (looks : List Look) (found : Found) → found_among place position count looks ≡ Some found → IsLooked place position count looks found
looked place position count [] found e = absurd (cc)
looked place position count (look ∷ looks) found e = step (is_scraped place position count look.found) refl e (looked place position count looks found)
  where
    step : (b : Bool) → is_scraped place position count look.found ≡ b → cond b look.found (found_among place position count looks) ≡ Some found
        → (found_among place position count looks ≡ Some found → IsLooked place position count looks found) → IsLooked place position count (look ∷ looks) found
    step true s f rest =
        let holds : ((found.place == place) && (found.position == position)) && (length found.ends == count) ≡ true = sym (ap (is_scraped place position count) f) ∙ s in
        let two = and_parts ((found.place == place) && (found.position == position)) (length found.ends == count) holds in
        let both = and_parts (found.place == place) (found.position == position) two.0 in
        record {
          number = 0;
          look = look;
          at = refl;
          found_is = f;
          place_is = eqb-true found.place place both.0;
          position_is = eqb-true found.position position both.1;
          count_is = eqb-true (length found.ends) count two.1;
        }
    step false s f rest =
        let h = rest f in
        record { number = suc h.number; look = h.look; at = h.at; found_is = h.found_is; place_is = h.place_is; position_is = h.position_is; count_is = h.count_is }

-- The bytes

record HasFront (k : ℕ) (texts : List (List ℕ)) (payload : List ℕ) : Type 0 where
  tail : List ℕ
  is : payload ≡ flat_map framed (take k texts) ++ tail

behind_front : (k : ℕ) (text : List ℕ) (texts : List (List ℕ)) (payload : List ℕ) → HasFront k texts payload → HasFront (suc k) (text ∷ texts) (framed text ++ payload)
behind_front k text texts payload h =
    record { tail = h.tail; is = ap (λ (xs : List ℕ). framed text ++ xs) h.is ∙ sym (append_assoc (framed text) (flat_map framed (take k texts)) h.tail) }
  where
    append_assoc : (xs ys zs : List ℕ) → (xs ++ ys) ++ zs ≡ xs ++ (ys ++ zs)
    append_assoc [] ys zs = refl
    append_assoc (x ∷ xs) ys zs = ap (λ (l : List ℕ). x ∷ l) (append_assoc xs ys zs)

laid_front : (k : ℕ) (dropped : Bool) (texts : List (List ℕ)) (rest : List ℕ) → k < length texts → HasFront k texts (laid dropped texts rest)
laid_front zero dropped texts rest low = record { tail = laid dropped texts rest; is = refl }
laid_front (suc k) dropped [] rest low = absurd (omega (arith, low))
laid_front (suc k) dropped (text ∷ []) rest low = absurd (omega (arith, low))
laid_front (suc k) true (text ∷ next ∷ texts) rest low =
    behind_front k text (next ∷ texts) (laid true (next ∷ texts) rest) (laid_front k true (next ∷ texts) rest (omega (arith, low)))
laid_front (suc k) false (text ∷ next ∷ texts) rest low =
    behind_front k text (next ∷ texts) (laid false (next ∷ texts) rest) (laid_front k false (next ∷ texts) rest (omega (arith, low)))

laid_frames : (texts : List (List ℕ)) → laid false texts [] ≡ flat_map framed texts
laid_frames [] = refl
laid_frames (text ∷ []) = refl
laid_frames (text ∷ next ∷ texts) = ap (λ (xs : List ℕ). framed text ++ xs) (laid_frames (next ∷ texts))

same_front : (xs ys us vs : List ℕ) → xs ++ us ≡ ys ++ vs → length xs ≡ length ys → xs ≡ ys
same_front [] [] us vs e f = refl
same_front [] (y ∷ ys) us vs e f = absurd (omega (arith, f))
same_front (x ∷ xs) [] us vs e f = absurd (omega (arith, f))
same_front (x ∷ xs) (y ∷ ys) us vs e f =
    let head : x ≡ y = cc in
    let rest : xs ++ us ≡ ys ++ vs = cc in
    let tail = same_front xs ys us vs rest (omega (arith, f)) in
    ap (λ (z : ℕ). z ∷ xs) head ∙ ap (λ (l : List ℕ). y ∷ l) tail

pub all_small : (texts : List (List ℕ)) → length (flat_map framed texts) < 2 ^ 28 → All (λ (text : List ℕ). length text < 2 ^ 28) texts
all_small [] low = All-nil (λ (text : List ℕ). length text < 2 ^ 28)
all_small (text ∷ texts) low =
    let whole = length-append (framed text) (flat_map framed texts) in
    let one = length-append (redundant (length text)) text in
    All-cons (λ (t : List ℕ). length t < 2 ^ 28) text texts (omega (arith, low, whole, one)) (all_small texts (omega (arith, low, whole)))

-- the bytes that were found are the first fragments, with their sizes in front
pub sealed_is : (sealed ends rest : List ℕ) (dropped : Bool) (texts : List (List ℕ)) (unused : List ℕ) → HasFragments (byte_in sealed) ends → length sealed ≡ sealed_to ends
    → length ends < length texts → length (laid dropped texts unused) < drop_size → laid dropped texts unused ≡ sealed ++ rest
    → sealed ≡ flat_map framed (take (length ends) texts)
sealed_is sealed ends rest dropped texts unused reads whole more small begins =
    let all : List ℕ = laid dropped texts unused in
    let k : ℕ = length ends in
    let h = laid_front k dropped texts unused more in
    let first : List (List ℕ) = take k texts in
    let frames : List ℕ = flat_map framed first in
    let long : length all ≡ length frames + length h.tail = ap (λ (xs : List ℕ). length xs) h.is ∙ length-append frames h.tail in
    let many : length first ≡ k = omega (arith, length-take k texts, more) in
    let below : length frames < 2 ^ 28 = omega (arith, small, long) in
    let sealed_reads : HasFragments (byte_in all) ends =
    reads_same (byte_in sealed) (byte_in all) ends
    (λ j low. let inside : j < length sealed = omega (arith, low, whole) in
    sym (ap (λ (xs : List ℕ). byte_in xs j) begins ∙ get_or_append_left sealed rest 0 j inside)) reads in
    let frames_are = frames_read (byte_in all) first (all_small first below)
    (λ j low. ap (λ (xs : List ℕ). byte_in xs j) h.is ∙ get_or_append_left frames h.tail 0 j low) in
    let other : List ℕ = ends_from (byte_in all) 0 (length first) in
    let as_many : length other ≡ k = length-ends_from (byte_in all) 0 (length first) ∙ many in
    let up = ends_grow (byte_in all) ends other sealed_reads frames_are.0 (omega (arith, as_many)) in
    let down = ends_grow (byte_in all) other ends frames_are.0 sealed_reads (omega (arith, as_many)) in
    let end = frames_are.1 in
    same_front sealed frames rest h.tail (sym begins ∙ h.is) (omega (arith, whole, up, down, end))

-- the first fragments as a page of their own
abbrev front_page : List (List ℕ) → Page
front_page texts = record { continues = false; runs_on = false; awaits = false; fragments = texts; dropped = false; rest = []; patches = [] }

pub front_reads : (k : ℕ) (texts : List (List ℕ)) (sealed : List ℕ) → sealed ≡ flat_map framed (take k texts) → 0 < k → k < length texts → length texts ≤ MAX_FRAGMENTS
    → length sealed < drop_size → reading_of k sealed ≡ Fragments (fragments_from 4 false (take k texts))
front_reads k texts sealed is least more most small =
    let first : List (List ℕ) = take k texts in
    let many : length first ≡ k = omega (arith, length-take k texts, more) in
    let laid_is : laid false first [] ≡ sealed = laid_frames first ∙ sym is in
    let full : IsWellFormedPage (length sealed) (front_page first) = record {
      some = omega (arith, many, least);
      most = omega (arith, many, more, most);
      whole = ap (λ (xs : List ℕ). length xs) laid_is;
      dropped = λ e. absurd (false≢true e);
    } in
    ap (λ (n : ℕ). reading_of n sealed) (sym many)
    ∙ ap (λ (xs : List ℕ). reading_of (length first) xs) (sym laid_is)
    ∙ page_reads (length sealed) (front_page first) small full

-- The fragments

fragments_front : (k at : ℕ) (dropped : Bool) (texts : List (List ℕ)) → k < length texts
    → ShowFragments true false (fragments_from at false (take k texts)) (fragments_from at dropped texts)
fragments_front zero at dropped [] low = absurd (omega (arith, low))
fragments_front zero at dropped (text ∷ []) low = tt
fragments_front zero at dropped (text ∷ next ∷ texts) low = tt
fragments_front (suc k) at dropped [] low = absurd (omega (arith, low))
fragments_front (suc k) at dropped (text ∷ []) low = absurd (omega (arith, low))
fragments_front (suc zero) at dropped (text ∷ next ∷ texts) low = (refl, (λ e. refl), fragments_front zero (at + length text + 4) dropped (next ∷ texts) (omega arith))
fragments_front (suc (suc k)) at dropped (text ∷ next ∷ texts) low =
    (refl, (λ e. refl), fragments_front (suc k) (at + length text + 4) dropped (next ∷ texts) (omega (arith, low)))

front_patched : (patch : Patch) (fs ws : List Fragment) → ShowFragments true false fs ws → ShowFragments true false fs (patched_last patch ws)
front_patched patch [] [] h = absurd h
front_patched patch [] (w ∷ []) h = tt
front_patched patch [] (w ∷ next ∷ ws) h = tt
front_patched patch (f ∷ fs) [] h = absurd h
front_patched patch (f ∷ []) (w ∷ []) h = absurd h.2
front_patched patch (f ∷ g ∷ fs) (w ∷ []) h = absurd h.2
front_patched patch (f ∷ fs) (w ∷ next ∷ ws) h = (h.0, h.1, front_patched patch fs (next ∷ ws) h.2)

front_settled : (patches : List Patch) (position : ℕ) (fs ws : List Fragment) → ShowFragments true false fs ws → ShowFragments true false fs (settled_fragments patches position ws)
front_settled [] position fs ws h = h
front_settled (patch ∷ patches) position fs ws h =
    front_settled patches position fs (cond (patch.chunk_id == position) (patched_last patch ws) ws) (step (patch.chunk_id == position))
  where
    step : (b : Bool) → ShowFragments true false fs (cond b (patched_last patch ws) ws)
    step true = front_patched patch fs ws h
    step false = h

pub front_shows : (k position : ℕ) (patches : List Patch) (dropped : Bool) (texts : List (List ℕ)) → k < length texts
    → ShowFragments true false (fragments_from 4 false (take k texts)) (settled_fragments patches position (fragments_from 4 dropped texts))
front_shows k position patches dropped texts low =
    front_settled patches position (fragments_from 4 false (take k texts)) (fragments_from 4 dropped texts) (fragments_front k 4 dropped texts low)
