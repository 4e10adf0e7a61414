-- What is known of a buffer on the way of a legal history: so the row of the sequence walks over what was written.
use Rattle.std.proofs.Common.{◌≡◌, ◌∙◌, ℕ, zero, suc, ◌+◌, ◌-◌, ◌<◌, ◌≤◌, ◌⊎◌, Bool, true, false, not, ◌&&◌, ◌||◌, List, [], ◌∷◌, length, Option, Some, None, refl, sym, ap, subst, arith, inl, inr}
use Rattle.std.specs.Prelude.{cond, ◌==◌, slice_get, find, MatchBool}
use Rattle.std.proofs.lemmas.Bool.{false≢true, eqb-true, and_parts, cases_lt, or_left, or_right}
use Rattle.trace_model.specs.Images.{Fragment, Patch, patched_last, last_holds}
use Rattle.trace_model.specs.Fading.{ShowFragments}
use Rattle.trace_model.specs.Sequences.{is_among, has_arrived, base_of, end_of, above_all, first_absent, sequence_in, is_known}
use Rattle.trace_model.specs.Buffers.{Buffer, BufferRecord, is_of, live_at}
use Rattle.trace_model.specs.Row.{is_last, slot_from, slots_of, horizon, row_from_cursor}
use Rattle.trace_model.proofs.SequenceLemmas.{number_of}
use Rattle.delivery_laws.specs.Sheets.{Sheet, SheetsAgree}
use Rattle.delivery_laws.specs.Histories.{Completes}
use Rattle.delivery_laws.proofs.Walks.{Walks, StandsAt, Inside, parts_at, ShowsSheet, FitsFrom}
use Rattle.delivery_laws.proofs.RowWalks.{row_walks}
use Rattle.delivery_laws.proofs.AdjacentLemmas.{NoneEmpty}
use Rattle.delivery_laws.proofs.IdLemmas.{upto, among_upto, not_upto, length_upto, least_upto, above_upto, above_among, above_most}

-- a live record of the sequence, of which so many chunks have come: what it has shows what was written
pub record IsGood (sheets : List Sheet) (come : ℕ) (later : List Patch) (r : BufferRecord) : Type 0 where
  pub sheet : Sheet
  pub there : slice_get sheets r.chunk_id ≡ Some sheet
  pub continues : r.chunk.continues ≡ sheet.chunk.continues
  pub complete : r.chunk.partial ≡ false
      → (r.chunk_id < come) × (r.chunk.runs_on ≡ sheet.chunk.runs_on) × Completes later r.chunk_id r.chunk.awaits r.chunk.fragments sheet.written
  pub part : r.chunk.partial ≡ true
      → (r.chunk_id ≡ come) × (r.chunk.runs_on ≡ false) × (r.chunk.awaits ≡ false) × ShowFragments true false r.chunk.fragments sheet.written
  pub some : 0 < length r.chunk.fragments

-- each record of the sequence has the property
abbrev pub EachOf : ℕ → (BufferRecord → Type 0) → List BufferRecord → Type 0
EachOf q P [] = Unit {0}
EachOf q P (r ∷ rs) = ((r.sequence == q) ≡ true → P r) × EachOf q P rs

abbrev pub HasSheet : List Sheet → ℕ → Type 0
HasSheet sheets chunk_id = (sheet : Sheet) × (slice_get sheets chunk_id ≡ Some sheet)

pub record IsKnown (sheets : List Sheet) (q come : ℕ) (closed : Bool) (later : List Patch) (b : Buffer) : Type 0 where
  pub known : is_known b.sequences q ≡ true
  pub arrived : (sequence_in b.sequences q).arrived ≡ upto come
  pub shut : (sequence_in b.sequences q).closed ≡ closed
  pub none : closed ≡ false → (sequence_in b.sequences q).final ≡ []
  pub final : (i : ℕ) → is_among i (sequence_in b.sequences q).final ≡ true → (i ≡ come) × HasSheet sheets i
  pub came : (i : ℕ) → i < come → HasSheet sheets i
  pub live : EachOf q (IsGood sheets come later) b.live

-- behind the end of a closed sequence
abbrev pub Past : Bool → ℕ → ℕ → Type 0
Past closed come chunk_id = (closed ≡ true) × (suc come ≤ chunk_id)

not_last_patched : (patch : Patch) (f : Fragment) (fs : List Fragment) → is_last (patched_last patch (f ∷ fs)) ≡ false
not_last_patched patch f [] = refl
not_last_patched patch f (g ∷ gs) = refl

-- a patch changes the last fragment's bytes alone
shows_before : (patch : Patch) (awaits : Bool) (fs ws : List Fragment) → ShowFragments false awaits (patched_last patch fs) ws → ShowFragments false true fs ws
shows_before patch awaits [] ws h = h
shows_before patch awaits (f ∷ []) [] h = absurd h
shows_before patch awaits (f ∷ []) (w ∷ ws) h = (h.0, λ e. absurd (false≢true (sym e)), h.2)
shows_before patch awaits (f ∷ g ∷ gs) [] h = absurd h
shows_before patch awaits (f ∷ g ∷ gs) (w ∷ ws) h = (
  h.0,
  λ e. h.1 (ap (λ (b : Bool). awaits && b) (not_last_patched patch g gs) ∙ and_false awaits),
  shows_before patch awaits (g ∷ gs) ws h.2,
)
  where
    and_false : (b : Bool) → (b && false) ≡ false
    and_false true = refl
    and_false false = refl

pub completes_shows : (later : List Patch) (chunk_id : ℕ) (awaits : Bool) (fs ws : List Fragment) → Completes later chunk_id awaits fs ws → ShowFragments false awaits fs ws
completes_shows [] chunk_id awaits fs ws h = h
completes_shows (patch ∷ later) chunk_id awaits fs ws h =
    by_id (patch.chunk_id == chunk_id) h (completes_shows later chunk_id (not patch.last) (patched_last patch fs) ws) (completes_shows later chunk_id awaits fs ws)
  where
    by_id : (b : Bool)
        → MatchBool b ((awaits ≡ true) × (last_holds fs patch ≡ true) × Completes later chunk_id (not patch.last) (patched_last patch fs) ws) (Completes later chunk_id awaits fs ws)
        → (Completes later chunk_id (not patch.last) (patched_last patch fs) ws → ShowFragments false (not patch.last) (patched_last patch fs) ws)
        → (Completes later chunk_id awaits fs ws → ShowFragments false awaits fs ws) → ShowFragments false awaits fs ws
    by_id true h here other = subst (λ (a : Bool). ShowFragments false a fs ws) (sym h.0) (shows_before patch (not patch.last) fs ws (here h.2))
    by_id false h here other = other h

pub good_shows : (sheets : List Sheet) (come : ℕ) (later : List Patch) (r : BufferRecord) (good : IsGood sheets come later r) → ShowsSheet good.sheet r.chunk
good_shows sheets come later r good = record {
  continues = good.continues;
  shows = by_part r.chunk.partial refl;
  goes = λ p. (good.complete p).1;
  stays = λ p. ((good.part p).1, (good.part p).2);
  some = good.some;
}
  where
    by_part : (p : Bool) → r.chunk.partial ≡ p → ShowFragments p r.chunk.awaits r.chunk.fragments good.sheet.written
    by_part true p =
        let part = good.part p in
        subst (λ (a : Bool). ShowFragments true a r.chunk.fragments good.sheet.written) (sym part.2) part.3
    by_part false p = completes_shows later r.chunk_id r.chunk.awaits r.chunk.fragments good.sheet.written (good.complete p).2

-- the record that is found
pub record IsFound (P : BufferRecord → Type 0) (chunk_id : ℕ) (r : BufferRecord) : Type 0 where
  pub holds : P r
  pub same : r.chunk_id ≡ chunk_id

pub found_at : (q : ℕ) (P : BufferRecord → Type 0) (chunk_id : ℕ) (rs : List BufferRecord) (r : BufferRecord) → EachOf q P rs → find (is_of q chunk_id) rs ≡ Some r → IsFound P chunk_id r
found_at q P chunk_id [] r each found = absurd (cc)
found_at q P chunk_id (t ∷ rs) r each found = step (is_of q chunk_id t) refl found (found_at q P chunk_id rs r each.1)
  where
    step : (b : Bool) → is_of q chunk_id t ≡ b → cond b (Some t) (find (is_of q chunk_id) rs) ≡ Some r
        → (find (is_of q chunk_id) rs ≡ Some r → IsFound P chunk_id r) → IsFound P chunk_id r
    step true e f k =
        let parts = and_parts (t.sequence == q) (t.chunk_id == chunk_id) e in
        let same : t ≡ r = cc in
        subst (IsFound P chunk_id) same (record { holds = each.0 parts.0; same = eqb-true t.chunk_id chunk_id parts.1 })
    step false e f k = k f

-- of a list of positions that arrived, the least that isn't there
abbrev least_of : List ℕ → ℕ
least_of arrived = first_absent (length arrived) 0 arrived

pub base_is : (come : ℕ) (arrived : List ℕ) → arrived ≡ upto come → first_absent (length arrived) 0 arrived ≡ come
base_is come arrived e = ap least_of e ∙ least_upto come (length (upto come)) 0 (let long = length_upto come in omega (arith, long))

module _ (sheets : List Sheet) (q come : ℕ) (closed : Bool) (later : List Patch) (b : Buffer) (known : IsKnown sheets q come closed later b) where
  pub arrived_above : above_all (sequence_in b.sequences q).arrived ≡ come
  arrived_above = ap above_all known.arrived ∙ above_upto come

  -- one above the last chunk of which the row can show anything
  pub horizon_most : horizon (sequence_in b.sequences q) ≤ suc come
  horizon_most = by_close (sequence_in b.sequences q).closed
    where
      by_close : (c : Bool) → cond c (end_of (sequence_in b.sequences q)) (suc (base_of (sequence_in b.sequences q))) ≤ suc come
      by_close true =
          let most = above_most come (sequence_in b.sequences q).final (λ j h. (known.final j h).0) in
          let above = arrived_above in
          omega (arith, above, most)
      by_close false =
          let base = base_is come (sequence_in b.sequences q).arrived known.arrived in
          omega (arith, base)

  pub arrived_is : (i : ℕ) → has_arrived (sequence_in b.sequences q) i ≡ is_among i (upto come)
  arrived_is i = ap (is_among i) known.arrived

  -- a position of which nothing is known
  pub unknown_open : (i : ℕ) → i < horizon (sequence_in b.sequences q)
      → (has_arrived (sequence_in b.sequences q) i || is_among i (sequence_in b.sequences q).final) ≡ false → (sequence_in b.sequences q).closed ≡ false
  unknown_open i low unknown = by_close (sequence_in b.sequences q).closed refl low
    where
      none : is_among i (sequence_in b.sequences q).final ≡ true → ⊥
      none h = false≢true (sym unknown ∙ or_right (has_arrived (sequence_in b.sequences q) i) (is_among i (sequence_in b.sequences q).final) h)

      high : i < come → ⊥
      high h = false≢true (sym unknown ∙ or_left (has_arrived (sequence_in b.sequences q) i) (is_among i (sequence_in b.sequences q).final) (arrived_is i ∙ among_upto i come h))

      by_close : (c : Bool) → (sequence_in b.sequences q).closed ≡ c
          → i < cond c (end_of (sequence_in b.sequences q)) (suc (base_of (sequence_in b.sequences q))) → (sequence_in b.sequences q).closed ≡ false
      by_close false e low = e
      by_close true e low = by_place (cases_lt i come)
        where
          by_place : ((i < come) ⊎ (come ≤ i)) → (sequence_in b.sequences q).closed ≡ false
          by_place (inl h) = absurd (high h)
          by_place (inr h) =
              let above = arrived_above in
              let final = above_among i come (sequence_in b.sequences q).final (λ j k. (known.final j k).0) (omega (arith, low, above, h)) in
              let same : come ≡ i = omega (arith, h, final.0) in
              absurd (none (subst (λ (n : ℕ). is_among n (sequence_in b.sequences q).final ≡ true) same final.1))

  known_sheet : (i : ℕ) → (has_arrived (sequence_in b.sequences q) i || is_among i (sequence_in b.sequences q).final) ≡ true → HasSheet sheets i
  known_sheet i h = by_arrived (has_arrived (sequence_in b.sequences q) i) refl h
    where
      by_arrived : (a : Bool) → has_arrived (sequence_in b.sequences q) i ≡ a → (a || is_among i (sequence_in b.sequences q).final) ≡ true → HasSheet sheets i
      by_arrived true e h = by_place (cases_lt i come)
        where
          by_place : ((i < come) ⊎ (come ≤ i)) → HasSheet sheets i
          by_place (inl low) = known.came i low
          by_place (inr high) = absurd (false≢true (sym (arrived_is i ∙ not_upto i come high) ∙ e))
      by_arrived false e h = (known.final i h).1

  pub live_is : (i : ℕ) → live_at b (sequence_in b.sequences q).number i ≡ live_at b q i
  live_is i = ap (λ (n : ℕ). live_at b n i) (number_of b.sequences q known.known)

  pub known_fits : (count i : ℕ) → (0 < count → i + count ≡ horizon (sequence_in b.sequences q))
      → FitsFrom sheets (Past closed come) (sequence_in b.sequences q).closed i (slots_of b (sequence_in b.sequences q) i count)
  known_fits zero i ends = tt
  known_fits (suc count) i ends =
      let rest = known_fits count (suc i) (λ some. let e = ends (omega arith) in omega (arith, e)) in
      by_live (live_at b (sequence_in b.sequences q).number i) refl (has_arrived (sequence_in b.sequences q) i || is_among i (sequence_in b.sequences q).final) refl rest
    where
      end : i + suc count ≡ horizon (sequence_in b.sequences q)
      end = ends (omega arith)

      by_live : (o : Option BufferRecord) → live_at b (sequence_in b.sequences q).number i ≡ o
          → (k : Bool) → (has_arrived (sequence_in b.sequences q) i || is_among i (sequence_in b.sequences q).final) ≡ k
          → FitsFrom sheets (Past closed come) (sequence_in b.sequences q).closed (suc i) (slots_of b (sequence_in b.sequences q) (suc i) count)
          → FitsFrom sheets (Past closed come) (sequence_in b.sequences q).closed i (slot_from o k ∷ slots_of b (sequence_in b.sequences q) (suc i) count)
      by_live (Some r) e k f rest =
          let found = found_at q (IsGood sheets come later) i b.live r known.live (sym (live_is i) ∙ e) in (
            (found.holds.sheet, subst (λ (n : ℕ). slice_get sheets n ≡ Some found.holds.sheet) found.same found.holds.there, good_shows sheets come later r found.holds),
            (λ both.
                let parts = and_parts r.chunk.partial (sequence_in b.sequences q).closed both in
                let place = (found.holds.part parts.0).0 in
                let same = found.same in
                let most = horizon_most in
                let last = end in
                (none_more count (omega (arith, place, same, most, last)), (sym known.shut ∙ parts.1, omega (arith, place, same)))),
            rest,
          )
        where
          none_more : (n : ℕ) → n ≡ 0 → slots_of b (sequence_in b.sequences q) (suc i) n ≡ []
          none_more zero e = refl
          none_more (suc n) e = absurd (omega (arith, e))
      by_live None e true f rest = (known_sheet i f, tt, rest)
      by_live None e false f rest = (tt, unknown_open i (let last = end in omega (arith, last)) f, rest)

  pub known_some : (count i : ℕ) → NoneEmpty (slots_of b (sequence_in b.sequences q) i count)
  known_some zero i = tt
  known_some (suc count) i =
      by_live (live_at b (sequence_in b.sequences q).number i) refl (has_arrived (sequence_in b.sequences q) i || is_among i (sequence_in b.sequences q).final) (known_some count (suc i))
    where
      by_live : (o : Option BufferRecord) → live_at b (sequence_in b.sequences q).number i ≡ o → (k : Bool)
          → NoneEmpty (slots_of b (sequence_in b.sequences q) (suc i) count) → NoneEmpty (slot_from o k ∷ slots_of b (sequence_in b.sequences q) (suc i) count)
      by_live (Some r) e k rest = ((found_at q (IsGood sheets come later) i b.live r known.live (sym (live_is i) ∙ e)).holds.some, rest)
      by_live None e true rest = rest
      by_live None e false rest = rest

  -- the row walks from wherever the cursor is inside
  pub known_walks : SheetsAgree false sheets → Inside sheets (sequence_in b.sequences q).cursor.chunk_id (sequence_in b.sequences q).cursor.passed
      → Walks (StandsAt sheets) (Past closed come) (row_from_cursor b (sequence_in b.sequences q))
      (parts_at sheets (sequence_in b.sequences q).cursor.chunk_id (sequence_in b.sequences q).cursor.passed)
  known_walks agree inside =
      row_walks sheets (Past closed come) (sequence_in b.sequences q).closed agree
      (slots_of b (sequence_in b.sequences q) (sequence_in b.sequences q).cursor.chunk_id (horizon (sequence_in b.sequences q) - (sequence_in b.sequences q).cursor.chunk_id))
      (sequence_in b.sequences q).cursor.chunk_id (sequence_in b.sequences q).cursor.passed
      (known_fits (horizon (sequence_in b.sequences q) - (sequence_in b.sequences q).cursor.chunk_id) (sequence_in b.sequences q).cursor.chunk_id (λ some. omega (arith, some)))
      inside
