-- What is known of a buffer on the way of a history of commits, whatever their order: so the row of the sequence walks over what was written.
use Rattle.std.proofs.Common.{◌≡◌, ◌∙◌, ℕ, zero, suc, ◌+◌, ◌-◌, ◌<◌, ◌≤◌, ◌⊎◌, Bool, true, false, ◌||◌, List, [], ◌∷◌, length, Option, Some, None, refl, sym, ap, subst, arith, inl, inr}
use Rattle.std.specs.Prelude.{cond, ◌==◌, slice_get}
use Rattle.std.proofs.lemmas.Bool.{false≢true, eq-eqb, and_parts, cases_lt, or_left, or_right}
use Rattle.std.proofs.lemmas.Option.{slice_get_within}
use Rattle.trace_model.specs.Fading.{ShowFragments}
use Rattle.trace_model.specs.Images.{Patch}
use Rattle.trace_model.specs.Sequences.{above_all, base_of, end_of, has_arrived, is_among, is_known, sequence_in}
use Rattle.trace_model.specs.Buffers.{Buffer, BufferRecord, live_at}
use Rattle.trace_model.specs.Row.{horizon, row_from_cursor, slot_from, slots_of}
use Rattle.trace_model.proofs.SequenceLemmas.{number_of}
use Rattle.delivery_laws.specs.Histories.{Completes}
use Rattle.delivery_laws.specs.Sheets.{Sheet, SheetsAgree}
use Rattle.delivery_laws.proofs.AdjacentLemmas.{NoneEmpty}
use Rattle.delivery_laws.proofs.CalmLemmas.{Nowhere}
use Rattle.delivery_laws.proofs.KnownLemmas.{EachOf, HasSheet, completes_shows, found_at}
use Rattle.delivery_laws.proofs.RowWalks.{row_walks}
use Rattle.delivery_laws.proofs.Walks.{FitsFrom, Inside, ShowsSheet, StandsAt, Walks, parts_at}

-- A live record of the sequence, of which these chunks came: what it has shows what was written.
pub record IsMetRecord (sheets : List Sheet) (came : List ℕ) (later : List Patch) (r : BufferRecord) : Type 0 where
  pub sheet : Sheet
  pub there : slice_get sheets r.chunk_id ≡ Some sheet
  pub whole : r.chunk.partial ≡ false
  pub arrived : is_among r.chunk_id came ≡ true
  pub continues : r.chunk.continues ≡ sheet.chunk.continues
  pub runs_on : r.chunk.runs_on ≡ sheet.chunk.runs_on
  pub completes : Completes later r.chunk_id r.chunk.awaits r.chunk.fragments sheet.written
  pub some : 0 < length r.chunk.fragments

-- The buffer has met the chunks with these ids, and these patches are still to come, in this order.
pub record IsMet (sheets : List Sheet) (q : ℕ) (came : List ℕ) (closed : Bool) (later : List Patch) (b : Buffer) : Type 0 where
  pub known : is_known b.sequences q ≡ true
  pub arrived : (sequence_in b.sequences q).arrived ≡ came
  pub shut : (sequence_in b.sequences q).closed ≡ closed
  pub none : (sequence_in b.sequences q).final ≡ []
  pub sheet_of : (i : ℕ) → is_among i came ≡ true → HasSheet sheets i
  pub all : closed ≡ true → (i : ℕ) → i < length sheets → is_among i came ≡ true
  pub live : EachOf q (IsMetRecord sheets came later) b.live

pub met_shows : (sheets : List Sheet) (came : List ℕ) (later : List Patch) (r : BufferRecord) (met : IsMetRecord sheets came later r) → ShowsSheet met.sheet r.chunk
met_shows sheets came later r met = record {
  continues = met.continues;
  shows = subst (λ (p : Bool). ShowFragments p r.chunk.awaits r.chunk.fragments met.sheet.written) (sym met.whole)
      (completes_shows later r.chunk_id r.chunk.awaits r.chunk.fragments met.sheet.written met.completes);
  goes = λ p. met.runs_on;
  stays = λ p. absurd (false≢true (sym met.whole ∙ p));
  some = met.some;
}

-- below one above the greatest number there is one at least as great
above_some : (i : ℕ) (numbers : List ℕ) → i < above_all numbers → (j : ℕ) × (i ≤ j) × (is_among j numbers ≡ true)
above_some i [] low = absurd (omega (arith, low))
above_some i (n ∷ numbers) low = by_first (cases_lt n i) (λ l. above_some i numbers l)
  where
    by_first : ((n < i) ⊎ (i ≤ n)) → (i < above_all numbers → (j : ℕ) × (i ≤ j) × (is_among j numbers ≡ true)) → (j : ℕ) × (i ≤ j) × (is_among j (n ∷ numbers) ≡ true)
    by_first (inr high) rest = (n, high, or_left (n == n) (is_among n numbers) (eq-eqb n n refl))
    by_first (inl less) rest =
        let found = rest (omega (arith, low, less)) in
        (found.0, found.1, or_right (n == found.0) (is_among found.0 numbers) found.2)

module _ (sheets : List Sheet) (q : ℕ) (came : List ℕ) (closed : Bool) (later : List Patch) (b : Buffer) (met : IsMet sheets q came closed later b) where
  pub live_is : (i : ℕ) → live_at b (sequence_in b.sequences q).number i ≡ live_at b q i
  live_is i = ap (λ (n : ℕ). live_at b n i) (number_of b.sequences q met.known)

  -- an id of which nothing is known
  pub unknown_open : (i : ℕ) → i < horizon (sequence_in b.sequences q)
      → (has_arrived (sequence_in b.sequences q) i || is_among i (sequence_in b.sequences q).final) ≡ false → (sequence_in b.sequences q).closed ≡ false
  unknown_open i low unknown = by_close (sequence_in b.sequences q).closed refl low
    where
      not_came : (x : Bool) → (x || is_among i (sequence_in b.sequences q).final) ≡ false → x ≡ false
      not_came true e = absurd (false≢true (sym e))
      not_came false e = refl

      by_close : (c : Bool) → (sequence_in b.sequences q).closed ≡ c
          → i < cond c (end_of (sequence_in b.sequences q)) (suc (base_of (sequence_in b.sequences q))) → (sequence_in b.sequences q).closed ≡ false
      by_close false e low = e
      by_close true e low =
          let arrived = ap above_all met.arrived in
          let none = ap above_all met.none in
          let above = above_some i came (omega (arith, low, arrived, none)) in
          let has = met.sheet_of above.0 above.2 in
          let inside = slice_get_within sheets above.0 has.0 has.1 in
          let high = above.1 in
          absurd (false≢true (sym (not_came (has_arrived (sequence_in b.sequences q) i) unknown)
          ∙ ap (is_among i) met.arrived ∙ met.all (sym met.shut ∙ e) i (omega (arith, high, inside))))

  known_sheet : (i : ℕ) → (has_arrived (sequence_in b.sequences q) i || is_among i (sequence_in b.sequences q).final) ≡ true → HasSheet sheets i
  known_sheet i h = met.sheet_of i (was (has_arrived (sequence_in b.sequences q) i) refl h)
    where
      was : (x : Bool) → has_arrived (sequence_in b.sequences q) i ≡ x → (x || is_among i (sequence_in b.sequences q).final) ≡ true → is_among i came ≡ true
      was true e h = sym (ap (is_among i) met.arrived) ∙ e
      was false e h = absurd (false≢true (sym (ap (is_among i) met.none) ∙ h))

  met_fits : (count i : ℕ) → (0 < count → i + count ≡ horizon (sequence_in b.sequences q))
      → FitsFrom sheets Nowhere (sequence_in b.sequences q).closed i (slots_of b (sequence_in b.sequences q) i count)
  met_fits zero i ends = tt
  met_fits (suc count) i ends =
      by_live (live_at b (sequence_in b.sequences q).number i) refl (has_arrived (sequence_in b.sequences q) i || is_among i (sequence_in b.sequences q).final) refl
      (met_fits count (suc i) (λ some. let e = ends (omega arith) in omega (arith, e)))
    where
      end : i + suc count ≡ horizon (sequence_in b.sequences q)
      end = ends (omega arith)

      by_live : (o : Option BufferRecord) → live_at b (sequence_in b.sequences q).number i ≡ o
          → (k : Bool) → (has_arrived (sequence_in b.sequences q) i || is_among i (sequence_in b.sequences q).final) ≡ k
          → FitsFrom sheets Nowhere (sequence_in b.sequences q).closed (suc i) (slots_of b (sequence_in b.sequences q) (suc i) count)
          → FitsFrom sheets Nowhere (sequence_in b.sequences q).closed i (slot_from o k ∷ slots_of b (sequence_in b.sequences q) (suc i) count)
      by_live (Some r) e k f rest =
          let found = found_at q (IsMetRecord sheets came later) i b.live r met.live (sym (live_is i) ∙ e) in (
            (found.holds.sheet, subst (λ (n : ℕ). slice_get sheets n ≡ Some found.holds.sheet) found.same found.holds.there, met_shows sheets came later r found.holds),
            (λ both. absurd (false≢true (sym found.holds.whole ∙ (and_parts r.chunk.partial (sequence_in b.sequences q).closed both).0))),
            rest,
          )
      by_live None e true f rest = (known_sheet i f, tt, rest)
      by_live None e false f rest = (tt, unknown_open i (let last = end in omega (arith, last)) f, rest)

  pub met_some : (count i : ℕ) → NoneEmpty (slots_of b (sequence_in b.sequences q) i count)
  met_some zero i = tt
  met_some (suc count) i =
      by_live (live_at b (sequence_in b.sequences q).number i) refl (has_arrived (sequence_in b.sequences q) i || is_among i (sequence_in b.sequences q).final) (met_some count (suc i))
    where
      by_live : (o : Option BufferRecord) → live_at b (sequence_in b.sequences q).number i ≡ o → (k : Bool)
          → NoneEmpty (slots_of b (sequence_in b.sequences q) (suc i) count) → NoneEmpty (slot_from o k ∷ slots_of b (sequence_in b.sequences q) (suc i) count)
      by_live (Some r) e k rest = ((found_at q (IsMetRecord sheets came later) i b.live r met.live (sym (live_is i) ∙ e)).holds.some, rest)
      by_live None e true rest = rest
      by_live None e false rest = rest

  -- the row walks from wherever the cursor is inside
  pub met_walks : SheetsAgree false sheets → Inside sheets (sequence_in b.sequences q).cursor.chunk_id (sequence_in b.sequences q).cursor.passed
      → Walks (StandsAt sheets) Nowhere (row_from_cursor b (sequence_in b.sequences q))
      (parts_at sheets (sequence_in b.sequences q).cursor.chunk_id (sequence_in b.sequences q).cursor.passed)
  met_walks agree inside =
      row_walks sheets Nowhere (sequence_in b.sequences q).closed agree
      (slots_of b (sequence_in b.sequences q) (sequence_in b.sequences q).cursor.chunk_id (horizon (sequence_in b.sequences q) - (sequence_in b.sequences q).cursor.chunk_id))
      (sequence_in b.sequences q).cursor.chunk_id (sequence_in b.sequences q).cursor.passed
      (met_fits (horizon (sequence_in b.sequences q) - (sequence_in b.sequences q).cursor.chunk_id) (sequence_in b.sequences q).cursor.chunk_id (λ some. omega (arith, some)))
      inside
