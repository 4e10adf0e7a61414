-- A buffer in which all that came of a sequence is there: its row is clean.
use Rattle.std.proofs.Common.{◌≡◌, ◌∙◌, ℕ, zero, suc, ◌+◌, ◌-◌, ◌<◌, ◌≤◌, ◌⊎◌, Bool, true, false, ◌||◌, List, [], ◌∷◌, length, drop, Option, Some, None, refl, sym, ap, subst, arith, inl, inr}
use Rattle.std.specs.Prelude.{cond, slice_get, find}
use Rattle.std.proofs.lemmas.Bool.{false≢true, and_parts, cases_lt}
use Rattle.std.proofs.lemmas.Option.{slice_get_within, slice_get_past}
use Rattle.trace_model.specs.Images.{Fragment, Patch}
use Rattle.trace_model.specs.Fading.{ShowFragments}
use Rattle.trace_model.specs.Sequences.{is_among, has_arrived, base_of, end_of, sequence_in}
use Rattle.trace_model.specs.Buffers.{Buffer, BufferRecord, is_of, live_at}
use Rattle.trace_model.specs.Sent.{chunks_of, LastsAre}
use Rattle.trace_model.specs.Row.{Slot, Here, Gone, Never, slot_from, slots_of, horizon, row_from_cursor}
use Rattle.trace_model.specs.Reads.{passed_by, left_by, is_marked}
use Rattle.delivery_laws.specs.Sheets.{Sheet, Part, SheetsAgree, all_parts, packets_in, sheet_patches}
use Rattle.delivery_laws.proofs.Walks.{Follows, Walks, parts_at, Inside, StandsAt, FitsFrom}
use Rattle.delivery_laws.proofs.RowWalks.{row_walks}
use Rattle.delivery_laws.proofs.IdLemmas.{not_upto}
use Rattle.delivery_laws.proofs.KnownLemmas.{IsGood, EachOf, HasSheet, IsKnown, Past, IsFound, found_at, good_shows, known_fits, unknown_open, arrived_is, arrived_above, live_is}
use Rattle.delivery_laws.proofs.RoomLemmas.{has_record, IsRoomy}
use Rattle.delivery_laws.proofs.AcceptedParts.{AreAccepted, accepted_at}
use Rattle.delivery_laws.proofs.CleanRows.{NoneDropped, Clean, IsCleanChunk, CleanSlots, row_clean, IsCleanRead, reads_clean}

-- whether a packet runs on into the chunk
abbrev pub continues_in : Option Sheet → Bool
continues_in None = false
continues_in (Some sheet) = sheet.chunk.continues

abbrev pub continues_at : List Sheet → ℕ → Bool
continues_at sheets chunk_id = continues_in (slice_get sheets chunk_id)

-- Of a writer's sheets: none has a drop mark, each runs on exactly where the next one continues it, and each that awaits patches
-- gets some later on, of which the last has the mark.
pub record AreWhole (sheets : List Sheet) : Type 0 where
  pub kept : (chunk_id : ℕ) (sheet : Sheet) → slice_get sheets chunk_id ≡ Some sheet → NoneDropped sheet.written
  pub next : (chunk_id : ℕ) (sheet : Sheet) → slice_get sheets chunk_id ≡ Some sheet → continues_at sheets (suc chunk_id) ≡ sheet.chunk.runs_on
  pub sent : (chunk_id : ℕ) (sheet : Sheet) → slice_get sheets chunk_id ≡ Some sheet → sheet.chunk.awaits ≡ true
      → is_among chunk_id (chunks_of (sheet_patches (drop chunk_id sheets))) ≡ true
  pub lasts : LastsAre [] (sheet_patches sheets)

-- a record that awaits a patch gets one
abbrev pub Waits : List Patch → BufferRecord → Type 0
Waits later r = r.chunk.awaits ≡ true → is_among r.chunk_id (chunks_of later) ≡ true

-- what is known of a buffer in which nothing is lost
pub record Calm (sheets : List Sheet) (q come : ℕ) (closed : Bool) (later : List Patch) (b : Buffer) : Type 0 where
  pub known : IsKnown sheets q come closed later b
  pub roomy : IsRoomy b
  pub all : (i : ℕ) → i < come → has_record q i b.live ≡ true
  pub waits : EachOf q (Waits later) b.live
  pub lasts : LastsAre [] later
  pub inside : Inside sheets (sequence_in b.sequences q).cursor.chunk_id (sequence_in b.sequences q).cursor.passed
  pub follows : Follows true (parts_at sheets (sequence_in b.sequences q).cursor.chunk_id (sequence_in b.sequences q).cursor.passed)
  pub over : closed ≡ true → (come ≡ length sheets) × (later ≡ [])

kept_seen : (partial awaits : Bool) (fs ws : List Fragment) → ShowFragments partial awaits fs ws → NoneDropped ws → NoneDropped fs
kept_seen partial awaits [] ws h k = tt
kept_seen partial awaits (f ∷ fs) [] h k = absurd h
kept_seen partial awaits (f ∷ fs) (w ∷ ws) h k = (h.0 ∙ k.0, kept_seen partial awaits fs ws h.2 k.1)

-- a live record is found
record_found : (q i : ℕ) (rs : List BufferRecord) → has_record q i rs ≡ true → find (is_of q i) rs ≡ None → ⊥
record_found q i [] h n = false≢true h
record_found q i (r ∷ rs) h n = step (is_of q i r) h n (record_found q i rs)
  where
    step : (x : Bool) → (x || has_record q i rs) ≡ true → cond x (Some r) (find (is_of q i) rs) ≡ None → (has_record q i rs ≡ true → find (is_of q i) rs ≡ None → ⊥) → ⊥
    step true h n k = cc
    step false h n k = k h n

past_end_parts : (sheets : List Sheet) (chunk_id passed : ℕ) → length sheets ≤ chunk_id → parts_at sheets chunk_id passed ≡ []
past_end_parts [] chunk_id passed low = refl
past_end_parts (sheet ∷ sheets) zero passed low = absurd (omega (arith, low))
past_end_parts (sheet ∷ sheets) (suc chunk_id) passed low = past_end_parts sheets chunk_id passed (omega (arith, low))

-- no final part is among the slots
abbrev NoFinalParts : Bool → List Slot → Type 0
NoFinalParts closed [] = Unit {0}
NoFinalParts closed (Here chunk ∷ slots) = (chunk.partial ≡ true → closed ≡ false) × NoFinalParts closed slots
NoFinalParts closed (Gone ∷ slots) = NoFinalParts closed slots
NoFinalParts closed (Never ∷ slots) = NoFinalParts closed slots

abbrev pub Nowhere : ℕ → Type 0
Nowhere chunk_id = ⊥

fits_nowhere : (sheets : List Sheet) (Over : ℕ → Type 0) (closed : Bool) (slots : List Slot) (i : ℕ) → FitsFrom sheets Over closed i slots → NoFinalParts closed slots → FitsFrom sheets Nowhere closed i slots
fits_nowhere sheets Over closed [] i f n = tt
fits_nowhere sheets Over closed (Here chunk ∷ slots) i f n = (
  f.0,
  (λ both. let parts = and_parts chunk.partial closed both in absurd (false≢true (sym (n.0 parts.0) ∙ parts.1))),
  fits_nowhere sheets Over closed slots (suc i) f.2 n.1,
)
fits_nowhere sheets Over closed (Gone ∷ slots) i f n = (f.0, tt, fits_nowhere sheets Over closed slots (suc i) f.2 n)
fits_nowhere sheets Over closed (Never ∷ slots) i f n = (tt, f.1, fits_nowhere sheets Over closed slots (suc i) f.2 n)

module _ (sheets : List Sheet) (whole : AreWhole sheets) (q come : ℕ) (closed : Bool) (later : List Patch) (b : Buffer) (calm : Calm sheets q come closed later b) where
  -- once the sequence is closed, nothing is to come
  shut_over : (sequence_in b.sequences q).closed ≡ true → (come ≡ length sheets) × (later ≡ [])
  shut_over c = calm.over (sym calm.known.shut ∙ c)

  none_past : (sequence_in b.sequences q).closed ≡ true → HasSheet sheets come → ⊥
  none_past c has =
      let low = slice_get_within sheets come has.0 has.1 in
      let end = (shut_over c).0 in
      omega (arith, low, end)

  open_if : (c : Bool) → (sequence_in b.sequences q).closed ≡ c → (c ≡ true → ⊥) → (sequence_in b.sequences q).closed ≡ false
  open_if true e h = absurd (h refl)
  open_if false e h = e

  part_open : (r : BufferRecord) → IsGood sheets come later r → r.chunk.partial ≡ true → (sequence_in b.sequences q).closed ≡ false
  part_open r good p =
      open_if (sequence_in b.sequences q).closed refl
      (λ c. none_past c (subst (HasSheet sheets) (good.part p).0 (good.sheet, good.there)))

  -- what is known of a live record, beside that it is good
  record IsThere (i : ℕ) (r : BufferRecord) : Type 0 where
    good : IsFound (IsGood sheets come later) i r
    waits : IsFound (Waits later) i r

  there_at : (i : ℕ) (r : BufferRecord) → live_at b (sequence_in b.sequences q).number i ≡ Some r → IsThere i r
  there_at i r e = record {
    good = found_at q (IsGood sheets come later) i b.live r calm.known.live (sym (live_is sheets q come closed later b calm.known i) ∙ e);
    waits = found_at q (Waits later) i b.live r calm.waits (sym (live_is sheets q come closed later b calm.known i) ∙ e);
  }

  clean_there : (i : ℕ) (r : BufferRecord) → IsThere i r → IsCleanChunk (length sheets) (sequence_in b.sequences q).closed (continues_at sheets) i r.chunk
  clean_there i r there =
      let good = there.good.holds in
      let at : slice_get sheets i ≡ Some good.sheet = subst (λ (n : ℕ). slice_get sheets n ≡ Some good.sheet) there.good.same good.there in
      let shows = good_shows sheets come later r good in
      record {
        some = good.some;
        kept = kept_seen r.chunk.partial r.chunk.awaits r.chunk.fragments good.sheet.written shows.shows (whole.kept i good.sheet at);
        awaits = λ a. open_if (sequence_in b.sequences q).closed refl
            (λ c. false≢true (sym (ap (λ (ps : List Patch). is_among r.chunk_id (chunks_of ps)) (shut_over c).1) ∙ there.waits.holds a));
        continues = good.continues ∙ sym (ap continues_in at);
        part = λ p. (part_open r good p, (good.part p).1);
        whole = λ p. (good.complete p).1 ∙ sym (whole.next i good.sheet at);
      }

  -- no chunk that came is gone
  none_gone : (i : ℕ) → (has_arrived (sequence_in b.sequences q) i || is_among i (sequence_in b.sequences q).final) ≡ true → live_at b (sequence_in b.sequences q).number i ≡ None → ⊥
  none_gone i h n = by_arrived (has_arrived (sequence_in b.sequences q) i) refl h
    where
      none : live_at b q i ≡ None
      none = sym (live_is sheets q come closed later b calm.known i) ∙ n

      by_final : is_among i (sequence_in b.sequences q).final ≡ true → (c : Bool) → closed ≡ c → ⊥
      by_final f false e = false≢true (sym (ap (is_among i) (calm.known.none e)) ∙ f)
      by_final f true e =
          let is = calm.known.final i f in
          none_past (calm.known.shut ∙ e) (subst (HasSheet sheets) is.0 is.1)

      by_arrived : (a : Bool) → has_arrived (sequence_in b.sequences q) i ≡ a → (a || is_among i (sequence_in b.sequences q).final) ≡ true → ⊥
      by_arrived true e h = by_place (cases_lt i come)
        where
          by_place : ((i < come) ⊎ (come ≤ i)) → ⊥
          by_place (inl low) = record_found q i b.live (calm.all i low) none
          by_place (inr high) = false≢true (sym (arrived_is sheets q come closed later b calm.known i ∙ not_upto i come high) ∙ e)
      by_arrived false e h = by_final h closed refl

  -- a closed sequence ends behind all chunks
  ends_behind : (i : ℕ) → horizon (sequence_in b.sequences q) ≤ i → (sequence_in b.sequences q).closed ≡ true → length sheets ≤ i
  ends_behind i low c =
      let end = (shut_over c).0 in
      let above = arrived_above sheets q come closed later b calm.known in
      let at : horizon (sequence_in b.sequences q) ≡ end_of (sequence_in b.sequences q) =
      ap (λ (x : Bool). cond x (end_of (sequence_in b.sequences q)) (suc (base_of (sequence_in b.sequences q)))) c in
      omega (arith, low, end, above, at)

  slots_clean : (count i : ℕ) → (0 < count → i + count ≡ horizon (sequence_in b.sequences q)) → (count ≡ 0 → horizon (sequence_in b.sequences q) ≤ i)
      → CleanSlots (length sheets) (sequence_in b.sequences q).closed (continues_at sheets) i (slots_of b (sequence_in b.sequences q) i count)
  slots_clean zero i some none = (
    (λ into. open_if (sequence_in b.sequences q).closed refl
        (λ c. false≢true (sym (ap continues_in (slice_get_past sheets i (ends_behind i (none refl) c))) ∙ into))),
    (λ c. ends_behind i (none refl) c),
  )
  slots_clean (suc count) i some none =
      by_live (live_at b (sequence_in b.sequences q).number i) refl (has_arrived (sequence_in b.sequences q) i || is_among i (sequence_in b.sequences q).final) refl
      (slots_clean count (suc i) (λ h. let e = some (omega arith) in omega (arith, e)) (λ z. let e = some (omega arith) in omega (arith, e, z)))
    where
      end : i + suc count ≡ horizon (sequence_in b.sequences q)
      end = some (omega arith)

      by_live : (o : Option BufferRecord) → live_at b (sequence_in b.sequences q).number i ≡ o
          → (k : Bool) → (has_arrived (sequence_in b.sequences q) i || is_among i (sequence_in b.sequences q).final) ≡ k
          → CleanSlots (length sheets) (sequence_in b.sequences q).closed (continues_at sheets) (suc i) (slots_of b (sequence_in b.sequences q) (suc i) count)
          → CleanSlots (length sheets) (sequence_in b.sequences q).closed (continues_at sheets) i (slot_from o k ∷ slots_of b (sequence_in b.sequences q) (suc i) count)
      by_live (Some r) e k f rest = (clean_there i r (there_at i r e), λ p. rest)
      by_live None e true f rest = absurd (none_gone i f e)
      by_live None e false f rest = unknown_open sheets q come closed later b calm.known i (let last = end in omega (arith, last)) f

  none_final : (count i : ℕ) → NoFinalParts (sequence_in b.sequences q).closed (slots_of b (sequence_in b.sequences q) i count)
  none_final zero i = tt
  none_final (suc count) i =
      by_live (live_at b (sequence_in b.sequences q).number i) refl (has_arrived (sequence_in b.sequences q) i || is_among i (sequence_in b.sequences q).final) (none_final count (suc i))
    where
      by_live : (o : Option BufferRecord) → live_at b (sequence_in b.sequences q).number i ≡ o → (k : Bool)
          → NoFinalParts (sequence_in b.sequences q).closed (slots_of b (sequence_in b.sequences q) (suc i) count)
          → NoFinalParts (sequence_in b.sequences q).closed (slot_from o k ∷ slots_of b (sequence_in b.sequences q) (suc i) count)
      by_live (Some r) e k rest = ((λ p. part_open r (there_at i r e).good.holds p), rest)
      by_live None e true rest = rest
      by_live None e false rest = rest

  pub calm_walks : SheetsAgree false sheets → Walks (StandsAt sheets) Nowhere (row_from_cursor b (sequence_in b.sequences q))
      (parts_at sheets (sequence_in b.sequences q).cursor.chunk_id (sequence_in b.sequences q).cursor.passed)
  calm_walks agree =
      row_walks sheets Nowhere (sequence_in b.sequences q).closed agree
      (slots_of b (sequence_in b.sequences q) (sequence_in b.sequences q).cursor.chunk_id (horizon (sequence_in b.sequences q) - (sequence_in b.sequences q).cursor.chunk_id))
      (sequence_in b.sequences q).cursor.chunk_id (sequence_in b.sequences q).cursor.passed
      (fits_nowhere sheets (Past closed come) (sequence_in b.sequences q).closed
      (slots_of b (sequence_in b.sequences q) (sequence_in b.sequences q).cursor.chunk_id (horizon (sequence_in b.sequences q) - (sequence_in b.sequences q).cursor.chunk_id))
      (sequence_in b.sequences q).cursor.chunk_id
      (known_fits sheets q come closed later b calm.known (horizon (sequence_in b.sequences q) - (sequence_in b.sequences q).cursor.chunk_id) (sequence_in b.sequences q).cursor.chunk_id (λ some. omega (arith, some)))
      (none_final (horizon (sequence_in b.sequences q) - (sequence_in b.sequences q).cursor.chunk_id) (sequence_in b.sequences q).cursor.chunk_id))
      calm.inside

  pub calm_clean : Clean (length sheets) (sequence_in b.sequences q).closed (row_from_cursor b (sequence_in b.sequences q))
  calm_clean =
      row_clean (length sheets) (sequence_in b.sequences q).closed (continues_at sheets)
      (slots_of b (sequence_in b.sequences q) (sequence_in b.sequences q).cursor.chunk_id (horizon (sequence_in b.sequences q) - (sequence_in b.sequences q).cursor.chunk_id))
      (sequence_in b.sequences q).cursor.chunk_id (sequence_in b.sequences q).cursor.passed
      (slots_clean (horizon (sequence_in b.sequences q) - (sequence_in b.sequences q).cursor.chunk_id) (sequence_in b.sequences q).cursor.chunk_id (λ some. omega (arith, some)) (λ none. omega (arith, none)))

  pub stands_past : (chunk_id passed : ℕ) (parts : List Part) → length sheets ≤ chunk_id → (StandsAt sheets chunk_id passed parts ⊎ ⊥) → packets_in parts ≡ []
  stands_past chunk_id passed parts low (inl at) = ap packets_in (sym at.0 ∙ past_end_parts sheets chunk_id passed low)
  stands_past chunk_id passed parts low (inr none) = absurd none

  pub calm_read : SheetsAgree false sheets → AreAccepted (all_parts sheets) → (limit : ℕ)
      → IsCleanRead (StandsAt sheets) Nowhere (length sheets) (sequence_in b.sequences q).closed stands_past limit (is_marked (sequence_in b.sequences q))
      (passed_by limit (row_from_cursor b (sequence_in b.sequences q))) (left_by limit (row_from_cursor b (sequence_in b.sequences q)))
      (parts_at sheets (sequence_in b.sequences q).cursor.chunk_id (sequence_in b.sequences q).cursor.passed)
  calm_read agree accepted limit =
      reads_clean (StandsAt sheets) Nowhere (length sheets) (sequence_in b.sequences q).closed stands_past
      (row_from_cursor b (sequence_in b.sequences q)) limit (is_marked (sequence_in b.sequences q))
      (parts_at sheets (sequence_in b.sequences q).cursor.chunk_id (sequence_in b.sequences q).cursor.passed)
      (calm_walks agree) calm_clean calm.follows
      (accepted_at sheets (sequence_in b.sequences q).cursor.chunk_id (sequence_in b.sequences q).cursor.passed accepted)
