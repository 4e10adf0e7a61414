-- The row of slots that fit what was written walks over it.
use Rattle.std.proofs.Common.{◌≡◌, ◌∙◌, ℕ, zero, suc, ◌<◌, ◌≤◌, ◌⊎◌, max, Bool, true, false, not, ◌&&◌, List, [], ◌∷◌, ◌++◌, length, drop, Some, refl, sym, ap, subst, arith, inl, inr}
use Rattle.std.specs.Prelude.{cond, ◌==◌, slice_get}
use Rattle.std.proofs.lemmas.Bool.{cases_lt, and_right}
use Rattle.std.proofs.lemmas.List.{drop_all}
use Rattle.std.proofs.Math.Bool.{and-false, and-true}
use Rattle.trace_base.proofs.Choices.{more_isnt_none}
use Rattle.trace_base.proofs.Lists.{one_left}
use Rattle.trace_model.specs.Images.{Chunk, Fragment}
use Rattle.trace_model.specs.Fading.{ShowFragments}
use Rattle.trace_model.specs.Row.{Slot, Here, Gone, Never, Link, Gap, Stop, Missing, Partial, Unpatched, place, place_behind, with_piece, is_last, is_part, chunk_links, row_of}
use Rattle.trace_model.proofs.FadingLemmas.{show_dropped}
use Rattle.delivery_laws.specs.Sheets.{Sheet, Part, WrittenPacket, parts_from, all_parts, tail_bytes, ends_whole, packets_in, SheetsAgree}
use Rattle.delivery_laws.proofs.Walks.{Follows, Walks, parts_at, Inside, StandsAt, ShowsSheet, FitsFrom}
use Rattle.delivery_laws.proofs.PieceLemmas.{IsPiece, piece_walks}

-- Places

-- the parts behind a place are those left of its chunk, and then those of the next one
pub parts_next : (sheets : List Sheet) (chunk_id passed : ℕ) (sheet : Sheet) → slice_get sheets chunk_id ≡ Some sheet
    → parts_at sheets chunk_id passed
    ≡ parts_from (sheet.chunk.continues && (passed == 0)) sheet.chunk.runs_on (drop passed sheet.written) ++ parts_at sheets (suc chunk_id) 0
parts_next [] chunk_id passed sheet get = absurd (cc)
parts_next (first ∷ []) zero passed sheet get =
    let same : first ≡ sheet = cc in
    ap (λ (s : Sheet). parts_from (s.chunk.continues && (passed == 0)) s.chunk.runs_on (drop passed s.written) ++ []) same
parts_next (first ∷ second ∷ sheets) zero passed sheet get =
    let same : first ≡ sheet = cc in
    ap (λ (s : Sheet). parts_from (s.chunk.continues && (passed == 0)) s.chunk.runs_on (drop passed s.written) ++ all_parts (second ∷ sheets)) same
    ∙ ap (λ (b : Bool). parts_from (sheet.chunk.continues && (passed == 0)) sheet.chunk.runs_on (drop passed sheet.written)
    ++ (parts_from b second.chunk.runs_on second.written ++ all_parts sheets)) (sym (and-true second.chunk.continues))
parts_next (first ∷ sheets) (suc chunk_id) passed sheet get = parts_next sheets chunk_id passed sheet get

pub all_at_start : (sheets : List Sheet) → parts_at sheets 0 0 ≡ all_parts sheets
all_at_start [] = refl
all_at_start (sheet ∷ sheets) =
    ap (λ (b : Bool). parts_from b sheet.chunk.runs_on sheet.written ++ all_parts sheets) (and-true sheet.chunk.continues)

-- behind a chunk a packet begins exactly where it doesn't run on
follows_next : (sheets : List Sheet) (chunk_id : ℕ) (runs_on : Bool) (sheet : Sheet) → SheetsAgree runs_on sheets → slice_get sheets chunk_id ≡ Some sheet
    → Follows (not sheet.chunk.runs_on) (parts_at sheets (suc chunk_id) 0)
follows_next [] chunk_id runs_on sheet agree get = absurd (cc)
follows_next (first ∷ []) zero runs_on sheet agree get = tt
follows_next (first ∷ second ∷ sheets) zero runs_on sheet agree get =
    begins second.written agree.2.1
  where
    begins : (fragments : List Fragment) → 0 < length fragments
        → Follows (not sheet.chunk.runs_on) (parts_from (second.chunk.continues && (0 == 0)) second.chunk.runs_on fragments ++ all_parts sheets)
    begins [] some = absurd (omega (arith, some))
    begins (fragment ∷ fragments) some =
        let same : first ≡ sheet = cc in
        ap not (and-true second.chunk.continues ∙ agree.2.0 ∙ ap (λ (s : Sheet). s.chunk.runs_on) same)
follows_next (first ∷ sheets) (suc chunk_id) runs_on sheet agree get = follows_next sheets chunk_id first.chunk.runs_on sheet agree.2 get

pub inside_first : (sheets : List Sheet) (runs_on : Bool) (chunk_id : ℕ) → SheetsAgree runs_on sheets → Inside sheets chunk_id 0
inside_first [] runs_on chunk_id agree sheet get = absurd (cc)
inside_first (first ∷ sheets) runs_on zero agree sheet get =
    let same : first ≡ sheet = cc in
    subst (λ (s : Sheet). 0 < length s.written) same agree.1
inside_first (first ∷ sheets) runs_on (suc chunk_id) agree sheet get = inside_first sheets first.chunk.runs_on chunk_id agree.2 sheet get

-- Fragments that are there, and those that were written

ended : (awaits : Bool) (written : List Fragment) → ShowFragments false awaits [] written → written ≡ []
ended awaits [] h = refl
ended awaits (w ∷ ws) h = absurd h

more_to_come : (k : ℕ) (awaits : Bool) (written : List Fragment) → ShowFragments true awaits [] (drop k written) → k < length written
more_to_come zero awaits [] h = absurd h
more_to_come zero awaits (w ∷ ws) h = omega arith
more_to_come (suc k) awaits [] h = absurd h
more_to_come (suc k) awaits (w ∷ ws) h = omega (arith, more_to_come k awaits ws h)

-- a fragment that is there runs on exactly where the written one does
same_ends : (sheet : Sheet) (chunk : Chunk) → ShowsSheet sheet chunk → (others more : List Fragment) → ShowFragments chunk.partial chunk.awaits others more
    → not (sheet.chunk.runs_on && is_last more) ≡ not (chunk.runs_on && is_last others)
same_ends sheet chunk shows others more h = by_part chunk.partial refl others more h
  where
    by_part : (p : Bool) → chunk.partial ≡ p → (others more : List Fragment) → ShowFragments p chunk.awaits others more
        → not (sheet.chunk.runs_on && is_last more) ≡ not (chunk.runs_on && is_last others)
    by_part true e [] [] h = absurd h
    by_part true e [] (w ∷ ws) h = ap not (and-false sheet.chunk.runs_on ∙ sym (ap (λ (b : Bool). b && true) (shows.stays e).0))
    by_part true e (f ∷ fs) [] h = absurd h
    by_part true e (f ∷ fs) (w ∷ ws) h = ap not (and-false sheet.chunk.runs_on ∙ sym (and-false chunk.runs_on))
    by_part false e [] [] h = ap (λ (b : Bool). not (b && true)) (sym (shows.goes e))
    by_part false e [] (w ∷ ws) h = absurd h
    by_part false e (f ∷ fs) [] h = absurd h
    by_part false e (f ∷ fs) (w ∷ ws) h = ap not (and-false sheet.chunk.runs_on ∙ sym (and-false chunk.runs_on))

-- the packets that begin in a list of parts are those of its front, some, and then those of its rest
split_parts : (front rest : List Part) → (between : List WrittenPacket) × (packets_in (front ++ rest) ≡ between ++ packets_in rest)
split_parts [] rest = ([], refl)
split_parts (part ∷ front) rest =
    let further = split_parts front rest in
    step part.starts further.0 further.1
  where
    step : (b : Bool) (between : List WrittenPacket) → packets_in (front ++ rest) ≡ between ++ packets_in rest
        → (more : List WrittenPacket) × (cond b
        (record { bytes = part.bytes ++ tail_bytes (front ++ rest); whole = ends_whole part (front ++ rest) } ∷ packets_in (front ++ rest))
        (packets_in (front ++ rest)) ≡ more ++ packets_in rest)
    step true between e = (
      record { bytes = part.bytes ++ tail_bytes (front ++ rest); whole = ends_whole part (front ++ rest) } ∷ between,
      ap (λ (ps : List WrittenPacket). record { bytes = part.bytes ++ tail_bytes (front ++ rest); whole = ends_whole part (front ++ rest) } ∷ ps) e,
    )
    step false between e = (between, e)

module _ (sheets : List Sheet) (Over : ℕ → Type 0) (closed : Bool) (agree : SheetsAgree false sheets) where
  -- the fragments of a chunk that is there, of which so many come before
  links_walk : (chunk_id : ℕ) (sheet : Sheet) (chunk : Chunk) (rest : List Link) → slice_get sheets chunk_id ≡ Some sheet → ShowsSheet sheet chunk
      → (chunk.partial ≡ false → Walks (StandsAt sheets) Over rest (parts_at sheets (suc chunk_id) 0))
      → (chunk.partial ≡ true → (k : ℕ) → length chunk.fragments ≤ k → k < length sheet.written → (parts : List Part) → parts_at sheets chunk_id k ≡ parts → k ≡ length chunk.fragments → Walks (StandsAt sheets) Over rest parts)
      → (fragments written : List Fragment) (k : ℕ) → drop k chunk.fragments ≡ fragments → drop k sheet.written ≡ written → k ≤ length chunk.fragments
      → ShowFragments chunk.partial chunk.awaits fragments written
      → Walks (StandsAt sheets) Over (chunk_links closed chunk_id chunk k fragments rest)
      (parts_from (sheet.chunk.continues && (k == 0)) sheet.chunk.runs_on written ++ parts_at sheets (suc chunk_id) 0)
  links_walk chunk_id sheet chunk rest get shows whole part [] written k e d low h = by_part chunk.partial refl h
    where
      all_passed : (k : ℕ) (fragments : List Fragment) → drop k fragments ≡ [] → length fragments ≤ k
      all_passed k [] e = omega arith
      all_passed zero (f ∷ fs) e = absurd (cc)
      all_passed (suc k) (f ∷ fs) e = omega (arith, all_passed k fs e)

      by_part : (p : Bool) → chunk.partial ≡ p → ShowFragments p chunk.awaits [] written
          → Walks (StandsAt sheets) Over rest (parts_from (sheet.chunk.continues && (k == 0)) sheet.chunk.runs_on written ++ parts_at sheets (suc chunk_id) 0)
      by_part true p h =
          let passed = all_passed k chunk.fragments e in
          part p k passed
          (more_to_come k chunk.awaits sheet.written (subst (λ (ws : List Fragment). ShowFragments true chunk.awaits [] ws) (sym d) h))
          (parts_from (sheet.chunk.continues && (k == 0)) sheet.chunk.runs_on written ++ parts_at sheets (suc chunk_id) 0)
          (parts_next sheets chunk_id k sheet get ∙ ap (λ (ws : List Fragment). parts_from (sheet.chunk.continues && (k == 0)) sheet.chunk.runs_on ws ++ parts_at sheets (suc chunk_id) 0) d)
          (omega (arith, passed, low))
      by_part false p h =
          subst (λ (ws : List Fragment). Walks (StandsAt sheets) Over rest (parts_from (sheet.chunk.continues && (k == 0)) sheet.chunk.runs_on ws ++ parts_at sheets (suc chunk_id) 0))
          (sym (ended chunk.awaits written h)) (whole p)
  links_walk chunk_id sheet chunk rest get shows whole part (f ∷ fs) [] k e d low h = absurd h
  links_walk chunk_id sheet chunk rest get shows whole part (f ∷ fs) (w ∷ ws) k e d low h =
      by_stop ((chunk.awaits && is_last fs) && not closed)
      (links_walk chunk_id sheet chunk rest get shows whole part fs ws (suc k) left.0 (one_left k sheet.written w ws d).0 (omega (arith, left.1)) h.2)
    where
      left : (drop (suc k) chunk.fragments ≡ fs) × (k < length chunk.fragments)
      left = one_left k chunk.fragments f fs e

      here : StandsAt sheets chunk_id k (record { starts = not (sheet.chunk.continues && (k == 0)); ends = not (sheet.chunk.runs_on && is_last ws); dropped = w.dropped; bytes = w.bytes } ∷ (parts_from false sheet.chunk.runs_on ws ++ parts_at sheets (suc chunk_id) 0))
      here = (
        parts_next sheets chunk_id k sheet get ∙ ap (λ (xs : List Fragment). parts_from (sheet.chunk.continues && (k == 0)) sheet.chunk.runs_on xs ++ parts_at sheets (suc chunk_id) 0) d,
        λ other found.
            let same : sheet ≡ other = cc in
            subst (λ (s : Sheet). k < length s.written) same (one_left k sheet.written w ws d).1,
      )

      onward : (ws : List Fragment) → Follows (not (sheet.chunk.runs_on && is_last ws)) (parts_from false sheet.chunk.runs_on ws ++ parts_at sheets (suc chunk_id) 0)
      onward [] = subst (λ (b : Bool). Follows (not b) (parts_at sheets (suc chunk_id) 0)) (sym (and-true sheet.chunk.runs_on)) (follows_next sheets chunk_id false sheet agree get)
      onward (x ∷ xs) = ap not (sym (and-false sheet.chunk.runs_on))

      is : IsPiece (StandsAt sheets) (record { at = place chunk_id k; fragment = f; runs_on = chunk.runs_on && is_last fs }) (chunk.continues && (k == 0)) (chunk.awaits && is_last fs)
          (record { starts = not (sheet.chunk.continues && (k == 0)); ends = not (sheet.chunk.runs_on && is_last ws); dropped = w.dropped; bytes = w.bytes })
          (parts_from false sheet.chunk.runs_on ws ++ parts_at sheets (suc chunk_id) 0)
      is = record {
        here = here;
        starts = ap (λ (b : Bool). not (b && (k == 0))) (sym shows.continues);
        ends = same_ends sheet chunk shows fs ws h.2;
        dropped = h.0;
        bytes = λ a. sym (h.1 a);
        follows = onward ws;
      }

      by_stop : (b : Bool)
          → Walks (StandsAt sheets) Over (chunk_links closed chunk_id chunk (suc k) fs rest) (parts_from (sheet.chunk.continues && (suc k == 0)) sheet.chunk.runs_on ws ++ parts_at sheets (suc chunk_id) 0)
          → Walks (StandsAt sheets) Over (cond b
          (Stop (place chunk_id k) Unpatched (chunk.continues && (k == 0)) ∷ [])
          (with_piece (record { at = place chunk_id k; fragment = f; runs_on = chunk.runs_on && is_last fs }) (place_behind (is_part closed chunk) chunk_id k (is_last fs))
          (chunk.continues && (k == 0)) (chunk.awaits && is_last fs) (chunk_links closed chunk_id chunk (suc k) fs rest)))
          (record { starts = not (sheet.chunk.continues && (k == 0)); ends = not (sheet.chunk.runs_on && is_last ws); dropped = w.dropped; bytes = w.bytes } ∷ (parts_from false sheet.chunk.runs_on ws ++ parts_at sheets (suc chunk_id) 0))
      by_stop true n = inl here
      by_stop false n =
          piece_walks (StandsAt sheets) Over (record { at = place chunk_id k; fragment = f; runs_on = chunk.runs_on && is_last fs }) (place_behind (is_part closed chunk) chunk_id k (is_last fs))
          (chunk.continues && (k == 0)) (chunk.awaits && is_last fs)
          (record { starts = not (sheet.chunk.continues && (k == 0)); ends = not (sheet.chunk.runs_on && is_last ws); dropped = w.dropped; bytes = w.bytes })
          (chunk_links closed chunk_id chunk (suc k) fs rest)
          (parts_from false sheet.chunk.runs_on ws ++ parts_at sheets (suc chunk_id) 0) is
          (subst (λ (b : Bool). Walks (StandsAt sheets) Over (chunk_links closed chunk_id chunk (suc k) fs rest) (parts_from b sheet.chunk.runs_on ws ++ parts_at sheets (suc chunk_id) 0))
          (ap (λ (b : Bool). sheet.chunk.continues && b) (more_isnt_none k) ∙ and-false sheet.chunk.continues) n)

  -- a chunk that is lost is passed by a gap
  gap_walks : (chunk_id passed : ℕ) (lost : Bool) (sheet : Sheet) (links : List Link) → slice_get sheets chunk_id ≡ Some sheet → Inside sheets chunk_id passed
      → Walks (StandsAt sheets) Over links (parts_at sheets (suc chunk_id) 0)
      → Walks (StandsAt sheets) Over (Gap (place chunk_id passed) (place (suc chunk_id) 0) lost ∷ links) (parts_at sheets chunk_id passed)
  gap_walks chunk_id passed lost sheet links get inside w =
      by_left (drop passed sheet.written) refl
    where
      by_left : (written : List Fragment) → drop passed sheet.written ≡ written
          → Walks (StandsAt sheets) Over (Gap (place chunk_id passed) (place (suc chunk_id) 0) lost ∷ links) (parts_at sheets chunk_id passed)
      by_left [] e = absurd (past passed sheet.written e (inside sheet get))
        where
          past : (k : ℕ) (xs : List Fragment) → drop k xs ≡ [] → k < length xs → ⊥
          past k [] e low = omega (arith, low)
          past zero (x ∷ xs) e low = cc
          past (suc k) (x ∷ xs) e low = past k xs e (omega (arith, low))
      by_left (x ∷ xs) e =
          let parts : parts_at sheets chunk_id passed ≡ record { starts = not (sheet.chunk.continues && (passed == 0)); ends = not (sheet.chunk.runs_on && is_last xs); dropped = x.dropped; bytes = x.bytes }
          ∷ (parts_from false sheet.chunk.runs_on xs ++ parts_at sheets (suc chunk_id) 0) =
          parts_next sheets chunk_id passed sheet get ∙ ap (λ (ys : List Fragment). parts_from (sheet.chunk.continues && (passed == 0)) sheet.chunk.runs_on ys ++ parts_at sheets (suc chunk_id) 0) e in
          let between = split_parts (parts_from false sheet.chunk.runs_on xs) (parts_at sheets (suc chunk_id) 0) in
          subst (λ (ps : List Part). Walks (StandsAt sheets) Over (Gap (place chunk_id passed) (place (suc chunk_id) 0) lost ∷ links) ps) (sym parts)
          (parts_at sheets (suc chunk_id) 0, record { here = (parts, inside); between = between.0; after = between.1 }, w)

  here_walks : (chunk_id passed : ℕ) (sheet : Sheet) (chunk : Chunk) (slots : List Slot) → slice_get sheets chunk_id ≡ Some sheet → ShowsSheet sheet chunk
      → ((chunk.partial && closed) ≡ true → (slots ≡ []) × Over (suc chunk_id)) → Inside sheets chunk_id passed
      → Walks (StandsAt sheets) Over (row_of closed (suc chunk_id) 0 slots) (parts_at sheets (suc chunk_id) 0)
      → Walks (StandsAt sheets) Over (row_of closed chunk_id passed (Here chunk ∷ slots)) (parts_at sheets chunk_id passed)
  here_walks chunk_id passed sheet chunk slots get shows ends inside w = by_length (cases_lt passed (length chunk.fragments))
    where
      over : (slots : List Slot) → slots ≡ [] → closed ≡ true → Over (suc chunk_id) → (parts : List Part) → Walks (StandsAt sheets) Over (row_of closed (suc chunk_id) 0 slots) parts
      over [] e c o parts = inr o
      over (slot ∷ slots) e c o parts = absurd (cc)

      -- behind the fragments of a partial record
      stops : (k n : ℕ) → max k (length chunk.fragments) ≡ n → chunk.partial ≡ true → n < length sheet.written → (parts : List Part) → parts_at sheets chunk_id n ≡ parts
          → Walks (StandsAt sheets) Over (cond (is_part closed chunk) (Stop (place chunk_id (max k (length chunk.fragments))) Partial false ∷ []) (row_of closed (suc chunk_id) 0 slots)) parts
      stops k n m p low parts e = by_close closed refl
        where
          by_close : (c : Bool) → closed ≡ c
              → Walks (StandsAt sheets) Over (cond (chunk.partial && not closed) (Stop (place chunk_id (max k (length chunk.fragments))) Partial false ∷ []) (row_of closed (suc chunk_id) 0 slots)) parts
          by_close true c =
              subst (λ (b : Bool). Walks (StandsAt sheets) Over (cond b (Stop (place chunk_id (max k (length chunk.fragments))) Partial false ∷ []) (row_of closed (suc chunk_id) 0 slots)) parts)
              (sym (and_right chunk.partial (not closed) (ap not c)))
              (let o = ends (ap (λ (b : Bool). b && closed) p ∙ c) in over slots o.0 c o.1 parts)
          by_close false c =
              subst (λ (b : Bool). Walks (StandsAt sheets) Over (cond b (Stop (place chunk_id (max k (length chunk.fragments))) Partial false ∷ []) (row_of closed (suc chunk_id) 0 slots)) parts)
              (sym (ap (λ (b : Bool). b && not closed) p ∙ ap not c))
              (inl (subst (λ (x : ℕ). StandsAt sheets chunk_id x parts) (sym m) (
                e,
                λ other found.
                    let same : sheet ≡ other = cc in
                    subst (λ (s : Sheet). n < length s.written) same low,
              )))

      whole : (k : ℕ) → chunk.partial ≡ false
          → Walks (StandsAt sheets) Over (cond (is_part closed chunk) (Stop (place chunk_id (max k (length chunk.fragments))) Partial false ∷ []) (row_of closed (suc chunk_id) 0 slots)) (parts_at sheets (suc chunk_id) 0)
      whole k p = subst (λ (b : Bool). Walks (StandsAt sheets) Over (cond (b && not closed) (Stop (place chunk_id (max k (length chunk.fragments))) Partial false ∷ []) (row_of closed (suc chunk_id) 0 slots)) (parts_at sheets (suc chunk_id) 0)) (sym p) w

      by_length : ((passed < length chunk.fragments) ⊎ (length chunk.fragments ≤ passed))
          → Walks (StandsAt sheets) Over (row_of closed chunk_id passed (Here chunk ∷ slots)) (parts_at sheets chunk_id passed)
      by_length (inl low) =
          subst (λ (ps : List Part). Walks (StandsAt sheets) Over (row_of closed chunk_id passed (Here chunk ∷ slots)) ps) (sym (parts_next sheets chunk_id passed sheet get))
          (links_walk chunk_id sheet chunk (cond (is_part closed chunk) (Stop (place chunk_id (max passed (length chunk.fragments))) Partial false ∷ []) (row_of closed (suc chunk_id) 0 slots)) get shows
          (whole passed) (λ p k high inside_k parts e same. stops passed k (omega (arith, low, same)) p inside_k parts e)
          (drop passed chunk.fragments) (drop passed sheet.written) passed refl refl (omega (arith, low))
          (show_dropped passed chunk.partial chunk.awaits chunk.fragments sheet.written shows.shows (omega (arith, low))))
      by_length (inr high) =
          subst (λ (fs : List Fragment). Walks (StandsAt sheets) Over (chunk_links closed chunk_id chunk passed fs (cond (is_part closed chunk) (Stop (place chunk_id (max passed (length chunk.fragments))) Partial false ∷ []) (row_of closed (suc chunk_id) 0 slots))) (parts_at sheets chunk_id passed))
          (sym (drop_all passed chunk.fragments high)) (by_part chunk.partial refl)
        where
          too_far : (awaits : Bool) (fragments written : List Fragment) → ShowFragments false awaits fragments written → length written ≤ length fragments
          too_far awaits [] [] h = omega arith
          too_far awaits [] (w ∷ ws) h = absurd h
          too_far awaits (f ∷ fs) [] h = absurd h
          too_far awaits (f ∷ fs) (w ∷ ws) h = omega (arith, too_far awaits fs ws h.2)

          by_part : (p : Bool) → chunk.partial ≡ p
              → Walks (StandsAt sheets) Over (cond (is_part closed chunk) (Stop (place chunk_id (max passed (length chunk.fragments))) Partial false ∷ []) (row_of closed (suc chunk_id) 0 slots)) (parts_at sheets chunk_id passed)
          by_part true p = stops passed passed (omega (arith, high)) p (inside sheet get) (parts_at sheets chunk_id passed) refl
          by_part false p =
              let long = too_far chunk.awaits chunk.fragments sheet.written (subst (λ (b : Bool). ShowFragments b chunk.awaits chunk.fragments sheet.written) p shows.shows) in
              let within = inside sheet get in
              absurd (omega (arith, long, within, high))

  pub row_walks : (slots : List Slot) (chunk_id passed : ℕ) → FitsFrom sheets Over closed chunk_id slots → Inside sheets chunk_id passed
      → Walks (StandsAt sheets) Over (row_of closed chunk_id passed slots) (parts_at sheets chunk_id passed)
  row_walks [] chunk_id passed fits inside = inl (refl, inside)
  row_walks (Here chunk ∷ slots) chunk_id passed fits inside =
      here_walks chunk_id passed fits.0.0 chunk slots fits.0.1 fits.0.2 fits.1 inside
      (row_walks slots (suc chunk_id) 0 fits.2 (inside_first sheets false (suc chunk_id) agree))
  row_walks (Gone ∷ slots) chunk_id passed fits inside =
      gap_walks chunk_id passed true fits.0.0 (row_of closed (suc chunk_id) 0 slots) fits.0.1 inside
      (row_walks slots (suc chunk_id) 0 fits.2 (inside_first sheets false (suc chunk_id) agree))
  row_walks (Never ∷ slots) chunk_id passed fits inside =
      subst (λ (c : Bool). Walks (StandsAt sheets) Over (cond c
      (Gap (place chunk_id passed) (place (suc chunk_id) 0) false ∷ row_of closed (suc chunk_id) 0 slots) (Stop (place chunk_id passed) Missing true ∷ [])) (parts_at sheets chunk_id passed))
      (sym fits.1) (inl (refl, inside))
