-- The stop place of a row is the first place at which one of its chunks stops a reader.
use Rattle.std.proofs.Common.{◌≡◌, ◌∙◌, ℕ, zero, suc, ◌+◌, ◌-◌, ◌<◌, ◌≤◌, max, Bool, true, false, not, ◌&&◌, ◌||◌, List, [], ◌∷◌, ◌++◌, length, drop, Option, Some, None, refl, sym, ap, subst, arith, inl, inr, length-drop}
use Rattle.std.specs.Prelude.{cond, ◌==◌, ◌⊎◌, count_by, nat_le}
use Rattle.std.proofs.lemmas.Bool.{cases_eq, cases_lt, eqb-true, eq-eqb, ne_eqb, le-leb, lt-leb, false≢true}
use Rattle.std.proofs.lemmas.List.Sums.{count_by-le-length}
use Rattle.trace_model.specs.Images.{Fragment, Chunk}
use Rattle.trace_model.specs.Sequences.{Sequence, Cursor, is_among, has_arrived, first_absent, base_of, end_of}
use Rattle.trace_model.specs.Buffers.{Buffer, BufferRecord, live_at}
use Rattle.trace_model.specs.Row.{Slot, Here, Gone, Never, Piece, Chain, Whole, Marked, CutOff, Link, Joined, Gap, Stop, Missing, Partial, Unpatched, End, joined_to, with_piece, place, is_last, is_part, place_behind, chunk_links, row_of, slot_from, slot_of, slots_of, row_from_cursor}
use Rattle.trace_model.specs.Reads.{StopPlace, stop_place}
use Rattle.model_laws.specs.StopLaws.{passed_in, WaitsFor, StopsIn, LetsPass, IsFirstStop, IsOpenIn, StopPlacesAreFirst}
use Rattle.model_laws.proofs.PlaceCounts.{count-cons}

-- The least missing number

-- so many of the numbers are at least this one
abbrev from_on : ℕ → List ℕ → ℕ
from_on n numbers = count_by (λ m. nat_le n m) numbers

fewer_behind : (n : ℕ) (numbers : List ℕ) → from_on (suc n) numbers ≤ from_on n numbers
fewer_behind n [] = omega arith
fewer_behind n (m ∷ numbers) =
    let here = count-cons (λ k. nat_le n k) m numbers in
    let there = count-cons (λ k. nat_le (suc n) k) m numbers in
    let rest = fewer_behind n numbers in
    step (cases_lt n m) here there rest
  where
    step : (n < m) ⊎ (m ≤ n) → from_on n (m ∷ numbers) ≡ cond (nat_le n m) 1 0 + from_on n numbers
        → from_on (suc n) (m ∷ numbers) ≡ cond (nat_le (suc n) m) 1 0 + from_on (suc n) numbers → from_on (suc n) numbers ≤ from_on n numbers
        → from_on (suc n) (m ∷ numbers) ≤ from_on n (m ∷ numbers)
    step (inl h) here there rest =
        let one : cond {A = ℕ} (nat_le n m) 1 0 ≡ 1 = ap (λ (b : Bool). cond {A = ℕ} b 1 0) (le-leb n m (omega (arith, h))) in
        let two : cond {A = ℕ} (nat_le (suc n) m) 1 0 ≡ 1 = ap (λ (b : Bool). cond {A = ℕ} b 1 0) (le-leb (suc n) m (omega (arith, h))) in
        omega (arith, here, there, rest, one, two)
    step (inr h) here there rest =
        let two : cond {A = ℕ} (nat_le (suc n) m) 1 0 ≡ 0 = ap (λ (b : Bool). cond {A = ℕ} b 1 0) (lt-leb (suc n) m (omega (arith, h))) in
        omega (arith, here, there, rest, two)

one_fewer : (n : ℕ) (numbers : List ℕ) → is_among n numbers ≡ true → suc (from_on (suc n) numbers) ≤ from_on n numbers
one_fewer n [] h = absurd (false≢true h)
one_fewer n (m ∷ numbers) h =
    let here = count-cons (λ k. nat_le n k) m numbers in
    let there = count-cons (λ k. nat_le (suc n) k) m numbers in
    step (m == n) refl h here there (one_fewer n numbers) (fewer_behind n (m ∷ numbers)) (fewer_behind n numbers)
  where
    step : (b : Bool) → (m == n) ≡ b → (b || is_among n numbers) ≡ true
        → from_on n (m ∷ numbers) ≡ cond (nat_le n m) 1 0 + from_on n numbers → from_on (suc n) (m ∷ numbers) ≡ cond (nat_le (suc n) m) 1 0 + from_on (suc n) numbers
        → (is_among n numbers ≡ true → suc (from_on (suc n) numbers) ≤ from_on n numbers) → from_on (suc n) (m ∷ numbers) ≤ from_on n (m ∷ numbers)
        → from_on (suc n) numbers ≤ from_on n numbers → suc (from_on (suc n) (m ∷ numbers)) ≤ from_on n (m ∷ numbers)
    step true e a here there rest all fewer =
        let same : m ≡ n = eqb-true m n e in
        let one : cond {A = ℕ} (nat_le n m) 1 0 ≡ 1 = ap (λ (b : Bool). cond {A = ℕ} b 1 0) (le-leb n m (omega (arith, same))) in
        let two : cond {A = ℕ} (nat_le (suc n) m) 1 0 ≡ 0 = ap (λ (b : Bool). cond {A = ℕ} b 1 0) (lt-leb (suc n) m (omega (arith, same))) in
        omega (arith, here, there, one, two, fewer)
    step false e a here there rest all fewer =
        let less = rest a in
        mono (cases_lt n m) less
      where
        mono : (n < m) ⊎ (m ≤ n) → suc (from_on (suc n) numbers) ≤ from_on n numbers → suc (from_on (suc n) (m ∷ numbers)) ≤ from_on n (m ∷ numbers)
        mono (inl k) less =
            let one : cond {A = ℕ} (nat_le n m) 1 0 ≡ 1 = ap (λ (b : Bool). cond {A = ℕ} b 1 0) (le-leb n m (omega (arith, k))) in
            let two : cond {A = ℕ} (nat_le (suc n) m) 1 0 ≡ 1 = ap (λ (b : Bool). cond {A = ℕ} b 1 0) (le-leb (suc n) m (omega (arith, k))) in
            omega (arith, here, there, less, one, two)
        mono (inr k) less =
            let two : cond {A = ℕ} (nat_le (suc n) m) 1 0 ≡ 0 = ap (λ (b : Bool). cond {A = ℕ} b 1 0) (lt-leb (suc n) m (omega (arith, k))) in
            omega (arith, here, there, less, two)

none_from : (n : ℕ) (numbers : List ℕ) → from_on n numbers ≡ 0 → is_among n numbers ≡ false
none_from n [] h = refl
none_from n (m ∷ numbers) h = step (is_among n (m ∷ numbers)) refl
  where
    step : (b : Bool) → is_among n (m ∷ numbers) ≡ b → b ≡ false
    step true e = absurd (let less = one_fewer n (m ∷ numbers) e in omega (arith, less, h))
    step false e = refl

absent_first : (tries n : ℕ) (numbers : List ℕ) → from_on n numbers ≤ tries → is_among (first_absent tries n numbers) numbers ≡ false
absent_first zero n numbers h = none_from n numbers (omega (arith, h))
absent_first (suc tries) n numbers h = step (is_among n numbers) refl (absent_first tries (suc n) numbers)
  where
    step : (b : Bool) → is_among n numbers ≡ b → (from_on (suc n) numbers ≤ tries → is_among (first_absent tries (suc n) numbers) numbers ≡ false)
        → is_among (cond b (first_absent tries (suc n) numbers) n) numbers ≡ false
    step true e k = k (let less = one_fewer n numbers e in omega (arith, less, h))
    step false e k = e

-- the least missing id hasn't arrived
pub base_absent : (state : Sequence) → has_arrived state (base_of state) ≡ false
base_absent state = absent_first (length state.arrived) 0 state.arrived (count_by-le-length (λ m. nat_le 0 m) state.arrived)

-- Stop places of rows

joined_stop : (chain : Chain) (links : List Link) → stop_place (joined_to chain links) ≡ stop_place links
joined_stop chain [] = refl
joined_stop chain (Joined rest ∷ links) = step rest.headless
  where
    step : (b : Bool) → stop_place (cond b
        (Joined (record chain { next = rest.next; pieces = chain.pieces ++ rest.pieces; awaits = chain.awaits || rest.awaits; fate = rest.fate }) ∷ links)
        (Joined (record chain { fate = CutOff }) ∷ Joined rest ∷ links)) ≡ stop_place links
    step true = refl
    step false = refl
joined_stop chain (Gap here next lost ∷ links) = refl
joined_stop chain (Stop here why may ∷ links) = refl

piece_stop : (piece : Piece) (next : Cursor) (headless awaits : Bool) (links : List Link) → stop_place (with_piece piece next headless awaits links) ≡ stop_place links
piece_stop piece next headless awaits links = step (piece.runs_on && not piece.fragment.dropped) (record {
  at = piece.at;
  next = next;
  headless = headless;
  pieces = piece ∷ [];
  awaits = awaits;
  fate = cond piece.fragment.dropped Marked Whole;
})
  where
    step : (b : Bool) (chain : Chain) → stop_place (cond b (joined_to chain links) (Joined chain ∷ links)) ≡ stop_place links
    step true chain = joined_stop chain links
    step false chain = refl

-- a chunk that nothing is awaited of, or in a closed sequence
chunk_passes : (closed : Bool) (fragments : List Fragment) (chunk_id passed : ℕ) (chunk : Chunk) (rest : List Link) → (chunk.awaits && not closed) ≡ false
    → stop_place (chunk_links closed chunk_id chunk passed fragments rest) ≡ stop_place rest
chunk_passes closed [] chunk_id passed chunk rest e = refl
chunk_passes closed (fragment ∷ others) chunk_id passed chunk rest e =
    step ((chunk.awaits && is_last others) && not closed) (none chunk.awaits (is_last others) closed e)
    ∙ chunk_passes closed others chunk_id (suc passed) chunk rest e
  where
    none : (a b c : Bool) → (a && not c) ≡ false → ((a && b) && not c) ≡ false
    none true true c h = h
    none true false c h = refl
    none false b c h = refl

    step : (b : Bool) → b ≡ false → stop_place (cond b
        (Stop (place chunk_id passed) Unpatched (chunk.continues && (passed == 0)) ∷ [])
        (with_piece (record { at = place chunk_id passed; fragment = fragment; runs_on = chunk.runs_on && is_last others })
        (place_behind (is_part closed chunk) chunk_id passed (is_last others)) (chunk.continues && (passed == 0)) (chunk.awaits && is_last others)
        (chunk_links closed chunk_id chunk (suc passed) others rest))) ≡ stop_place (chunk_links closed chunk_id chunk (suc passed) others rest)
    step true n = absurd (false≢true (sym n))
    step false n = piece_stop (record { at = place chunk_id passed; fragment = fragment; runs_on = chunk.runs_on && is_last others })
        (place_behind (is_part closed chunk) chunk_id passed (is_last others)) (chunk.continues && (passed == 0)) (chunk.awaits && is_last others)
        (chunk_links closed chunk_id chunk (suc passed) others rest)

-- the last fragment awaits a patch
chunk_waits : (fragments : List Fragment) (chunk_id passed : ℕ) (chunk : Chunk) (rest : List Link) → chunk.awaits ≡ true → 0 < length fragments
    → stop_place (chunk_links false chunk_id chunk passed fragments rest) ≡ record { at = place chunk_id (passed + length fragments - 1); why = Unpatched }
chunk_waits [] chunk_id passed chunk rest e some = absurd (omega (arith, some))
chunk_waits (fragment ∷ []) chunk_id passed chunk rest e some =
    step chunk.awaits e
  where
    step : (b : Bool) → b ≡ true → stop_place (cond ((b && true) && true)
        (Stop (place chunk_id passed) Unpatched (chunk.continues && (passed == 0)) ∷ [])
        (with_piece (record { at = place chunk_id passed; fragment = fragment; runs_on = chunk.runs_on && true })
        (place_behind (is_part false chunk) chunk_id passed true) (chunk.continues && (passed == 0)) (b && true) rest))
        ≡ record { at = place chunk_id (passed + 1 - 1); why = Unpatched }
    step true n = ap (λ (m : ℕ). record { at = place chunk_id m; why = Unpatched }) (omega arith)
    step false n = absurd (false≢true n)
chunk_waits (fragment ∷ next ∷ others) chunk_id passed chunk rest e some =
    step chunk.awaits
    ∙ chunk_waits (next ∷ others) chunk_id (suc passed) chunk rest e (omega arith)
    ∙ ap (λ (m : ℕ). record { at = place chunk_id m; why = Unpatched }) (omega arith)
  where
    step : (b : Bool) → stop_place (cond ((b && false) && true)
        (Stop (place chunk_id passed) Unpatched (chunk.continues && (passed == 0)) ∷ [])
        (with_piece (record { at = place chunk_id passed; fragment = fragment; runs_on = chunk.runs_on && false })
        (place_behind (is_part false chunk) chunk_id passed false) (chunk.continues && (passed == 0)) (b && false)
        (chunk_links false chunk_id chunk (suc passed) (next ∷ others) rest)))
        ≡ stop_place (chunk_links false chunk_id chunk (suc passed) (next ∷ others) rest)
    step true = piece_stop (record { at = place chunk_id passed; fragment = fragment; runs_on = chunk.runs_on && false })
        (place_behind (is_part false chunk) chunk_id passed false) (chunk.continues && (passed == 0)) false
        (chunk_links false chunk_id chunk (suc passed) (next ∷ others) rest)
    step false = piece_stop (record { at = place chunk_id passed; fragment = fragment; runs_on = chunk.runs_on && false })
        (place_behind (is_part false chunk) chunk_id passed false) (chunk.continues && (passed == 0)) false
        (chunk_links false chunk_id chunk (suc passed) (next ∷ others) rest)

-- Open sequences

-- the first stop from this chunk on, of which so many fragments were passed
record FirstFrom (b : Buffer) (s : Sequence) (id passed : ℕ) (stop : StopPlace) : Type 0 where
  chunk_id : ℕ
  not_before : id ≤ chunk_id
  lets : (earlier : ℕ) → id ≤ earlier → earlier < chunk_id → LetsPass (slot_of b s earlier) (passed_in (place id passed) earlier)
  stops : StopsIn (slot_of b s chunk_id) chunk_id (passed_in (place id passed) chunk_id) stop

passed_here : (id passed : ℕ) → passed_in (place id passed) id ≡ passed
passed_here id passed = ap (λ (b : Bool). cond b passed 0) (eq-eqb id id refl)

passed_later : (id passed n : ℕ) → suc id ≤ n → passed_in (place id passed) n ≡ passed_in (place (suc id) 0) n
passed_later id passed n h = ap (λ (b : Bool). cond b passed 0) (ne_eqb n id (λ e. omega (arith, e, h))) ∙ none (n == suc id)
  where
    none : (b : Bool) → ◌≡◌ {A = ℕ} 0 (cond b 0 0)
    none true = refl
    none false = refl

stops_now : (b : Buffer) (s : Sequence) (id passed : ℕ) (stop : StopPlace) → StopsIn (slot_of b s id) id passed stop → FirstFrom b s id passed stop
stops_now b s id passed stop h = record {
  chunk_id = id;
  not_before = omega arith;
  lets = λ earlier low high. absurd (omega (arith, low, high));
  stops = subst (λ (n : ℕ). StopsIn (slot_of b s id) id n stop) (sym (passed_here id passed)) h;
}

stops_later : (b : Buffer) (s : Sequence) (id passed : ℕ) (stop : StopPlace) → LetsPass (slot_of b s id) passed → FirstFrom b s (suc id) 0 stop → FirstFrom b s id passed stop
stops_later b s id passed stop lets from = record {
  chunk_id = from.chunk_id;
  not_before = omega (arith, from.not_before);
  lets = before;
  stops = subst (λ (n : ℕ). StopsIn (slot_of b s from.chunk_id) from.chunk_id n stop) (sym (passed_later id passed from.chunk_id from.not_before)) from.stops;
}
  where
    before : (n : ℕ) → id ≤ n → n < from.chunk_id → LetsPass (slot_of b s n) (passed_in (place id passed) n)
    before n low high = here (cases_eq n id)
      where
        here : ((n ≡ id) ⊎ (n ≡ id → ⊥)) → LetsPass (slot_of b s n) (passed_in (place id passed) n)
        here (inl e) = subst (λ (m : ℕ). LetsPass (slot_of b s m) (passed_in (place id passed) m)) (sym e)
            (subst (λ (m : ℕ). LetsPass (slot_of b s id) m) (sym (passed_here id passed)) lets)
        here (inr d) =
            let more : suc id ≤ n = grind (arith, low, d) in
            subst (λ (m : ℕ). LetsPass (slot_of b s n) m) (sym (passed_later id passed n more)) (from.lets n more high)

-- whether the last fragment is waited for
waits_or_not : (chunk : Chunk) (passed : ℕ) → WaitsFor chunk passed ⊎ (WaitsFor chunk passed → ⊥)
waits_or_not chunk passed = step chunk.awaits refl (cases_lt passed (length chunk.fragments))
  where
    step : (b : Bool) → chunk.awaits ≡ b → ((passed < length chunk.fragments) ⊎ (length chunk.fragments ≤ passed)) → WaitsFor chunk passed ⊎ (WaitsFor chunk passed → ⊥)
    step true e (inl h) = inl (record { awaits = e; ahead = h })
    step true e (inr h) = inr (λ w. absurd (omega (arith, h, w.ahead)))
    step false e h = inr (λ w. false≢true (sym e ∙ w.awaits))

-- the stop place behind a chunk that isn't waited for
behind_chunk : (chunk : Chunk) (id passed : ℕ) (rest : List Link) → (WaitsFor chunk passed → ⊥)
    → stop_place (chunk_links false id chunk passed (drop passed chunk.fragments) rest) ≡ stop_place rest
behind_chunk chunk id passed rest none = step (drop passed chunk.fragments) refl chunk.awaits refl
  where
    step : (fs : List Fragment) → drop passed chunk.fragments ≡ fs → (a : Bool) → chunk.awaits ≡ a → stop_place (chunk_links false id chunk passed fs rest) ≡ stop_place rest
    step [] e a f = refl
    step (fragment ∷ others) e true f =
        absurd (none (record { awaits = f; ahead = let long = length-drop passed chunk.fragments in let some = ap length e in omega (arith, long, some) }))
    step (fragment ∷ others) e false f = chunk_passes false (fragment ∷ others) id passed chunk rest (ap (λ (b : Bool). b && true) f)

open_row : (count id passed : ℕ) (b : Buffer) (s : Sequence) → IsOpenIn b s → id + count ≡ suc (base_of s) → id ≤ base_of s
    → FirstFrom b s id passed (stop_place (row_of false id passed (slots_of b s id count)))
open_row zero id passed b s o e h = absurd (omega (arith, e, h))
open_row (suc count) id passed b s o e h =
    by_slot (live_at b s.number id) refl (has_arrived s id || is_among id s.final) refl (λ less. open_row count (suc id) 0 b s o (omega (arith, e)) less)
  where
    later : List Slot
    later = slots_of b s (suc id) count

    not_last : has_arrived s id ≡ true → suc id ≤ base_of s
    not_last arrived = by_order (cases_eq id (base_of s))
      where
        by_order : ((id ≡ base_of s) ⊎ (id ≡ base_of s → ⊥)) → suc id ≤ base_of s
        by_order (inl same) = absurd (false≢true (sym (base_absent s) ∙ subst (λ (n : ℕ). has_arrived s n ≡ true) same arrived))
        by_order (inr apart) = grind (arith, h, apart)

    known_is : (has_arrived s id || is_among id s.final) ≡ has_arrived s id
    known_is = ap (λ (ids : List ℕ). has_arrived s id || is_among id ids) o.none_final ∙ either (has_arrived s id)
      where
        either : (x : Bool) → (x || false) ≡ x
        either true = refl
        either false = refl

    by_chunk : (r : BufferRecord) → live_at b s.number id ≡ Some r → slot_of b s id ≡ Here r.chunk
        → (suc id ≤ base_of s → FirstFrom b s (suc id) 0 (stop_place (row_of false (suc id) 0 later)))
        → (WaitsFor r.chunk passed ⊎ (WaitsFor r.chunk passed → ⊥)) → (p : Bool) → r.chunk.partial ≡ p
        → FirstFrom b s id passed (stop_place (row_of false id passed (Here r.chunk ∷ later)))
    by_chunk r live slot rest (inl waits) p f =
        let long = length-drop passed r.chunk.fragments in
        let place_is : passed + length (drop passed r.chunk.fragments) - 1 ≡ length r.chunk.fragments - 1 = omega (arith, long, waits.ahead) in
        let stop : stop_place (row_of false id passed (Here r.chunk ∷ later)) ≡ record { at = place id (length r.chunk.fragments - 1); why = Unpatched } =
        chunk_waits (drop passed r.chunk.fragments) id passed r.chunk
        (cond (is_part false r.chunk) (Stop (place id (max passed (length r.chunk.fragments))) Partial false ∷ []) (row_of false (suc id) 0 later)) waits.awaits (omega (arith, long, waits.ahead))
        ∙ ap (λ (m : ℕ). record { at = place id m; why = Unpatched }) place_is in
        stops_now b s id passed (stop_place (row_of false id passed (Here r.chunk ∷ later)))
        (subst (λ (x : Slot). StopsIn x id passed (stop_place (row_of false id passed (Here r.chunk ∷ later)))) (sym slot) (inl (waits, stop)))
    by_chunk r live slot rest (inr none) true f =
        let stop : stop_place (row_of false id passed (Here r.chunk ∷ later)) ≡ record { at = place id (max passed (length r.chunk.fragments)); why = Partial } =
        behind_chunk r.chunk id passed (cond (is_part false r.chunk) (Stop (place id (max passed (length r.chunk.fragments))) Partial false ∷ []) (row_of false (suc id) 0 later)) none
        ∙ ap (λ (x : Bool). stop_place (cond (x && true) (Stop (place id (max passed (length r.chunk.fragments))) Partial false ∷ []) (row_of false (suc id) 0 later))) f in
        stops_now b s id passed (stop_place (row_of false id passed (Here r.chunk ∷ later)))
        (subst (λ (x : Slot). StopsIn x id passed (stop_place (row_of false id passed (Here r.chunk ∷ later)))) (sym slot) (inr (none, f, stop)))
    by_chunk r live slot rest (inr none) false f =
        let stop : stop_place (row_of false id passed (Here r.chunk ∷ later)) ≡ stop_place (row_of false (suc id) 0 later) =
        behind_chunk r.chunk id passed (cond (is_part false r.chunk) (Stop (place id (max passed (length r.chunk.fragments))) Partial false ∷ []) (row_of false (suc id) 0 later)) none
        ∙ ap (λ (x : Bool). stop_place (cond (x && true) (Stop (place id (max passed (length r.chunk.fragments))) Partial false ∷ []) (row_of false (suc id) 0 later))) f in
        subst (FirstFrom b s id passed) (sym stop)
        (stops_later b s id passed (stop_place (row_of false (suc id) 0 later)) (subst (λ (x : Slot). LetsPass x passed) (sym slot) (none, f)) (rest (not_last (o.come id r live f))))

    by_slot : (live : Option BufferRecord) → live_at b s.number id ≡ live → (known : Bool) → (has_arrived s id || is_among id s.final) ≡ known
        → (suc id ≤ base_of s → FirstFrom b s (suc id) 0 (stop_place (row_of false (suc id) 0 later)))
        → FirstFrom b s id passed (stop_place (row_of false id passed (slot_from live known ∷ later)))
    by_slot (Some r) f known g rest =
        by_chunk r f (ap (λ (l : Option BufferRecord). slot_from l (has_arrived s id || is_among id s.final)) f) rest (waits_or_not r.chunk passed) r.chunk.partial refl
    by_slot None f true g rest =
        let slot : slot_of b s id ≡ Gone = ap (λ (l : Option BufferRecord). slot_from l (has_arrived s id || is_among id s.final)) f ∙ ap (slot_from None) g in
        stops_later b s id passed (stop_place (row_of false (suc id) 0 later)) (subst (λ (x : Slot). LetsPass x passed) (sym slot) tt) (rest (not_last (sym known_is ∙ g)))
    by_slot None f false g rest =
        let slot : slot_of b s id ≡ Never = ap (λ (l : Option BufferRecord). slot_from l (has_arrived s id || is_among id s.final)) f ∙ ap (slot_from None) g in
        stops_now b s id passed (record { at = place id passed; why = Missing }) (subst (λ (x : Slot). StopsIn x id passed (record { at = place id passed; why = Missing })) (sym slot) refl)

-- Closed sequences

abbrev end_at : Cursor → StopPlace
end_at at = record { at = at; why = End }

abbrev closed_end : ℕ → ℕ → List Slot → Cursor
closed_end id passed [] = place id passed
closed_end id passed (slot ∷ slots) = closed_end (suc id) 0 slots

closed_row : (slots : List Slot) (id passed : ℕ) → stop_place (row_of true id passed slots) ≡ record { at = closed_end id passed slots; why = End }
closed_row [] id passed = refl
closed_row (Here chunk ∷ slots) id passed =
    chunk_passes true (drop passed chunk.fragments) id passed chunk
    (cond (is_part true chunk) (Stop (place id (max passed (length chunk.fragments))) Partial false ∷ []) (row_of true (suc id) 0 slots)) (never chunk.awaits)
    ∙ ap (λ (x : Bool). stop_place (cond x (Stop (place id (max passed (length chunk.fragments))) Partial false ∷ []) (row_of true (suc id) 0 slots))) (never chunk.partial)
    ∙ closed_row slots (suc id) 0
  where
    never : (b : Bool) → (b && false) ≡ false
    never true = refl
    never false = refl
closed_row (Gone ∷ slots) id passed = closed_row slots (suc id) 0
closed_row (Never ∷ slots) id passed = closed_row slots (suc id) 0

slots_end : (count id passed : ℕ) (b : Buffer) (s : Sequence) → closed_end id passed (slots_of b s id (suc count)) ≡ place (id + suc count) 0
slots_end zero id passed b s = ap (λ (n : ℕ). place n 0) (omega arith)
slots_end (suc count) id passed b s = slots_end count (suc id) 0 b s ∙ ap (λ (n : ℕ). place n 0) (omega arith)

pub stop_places_are_first : StopPlacesAreFirst
stop_places_are_first = record {
  unclosed = λ b s o.
      let row : row_from_cursor b s ≡ row_of false s.cursor.chunk_id s.cursor.passed (slots_of b s s.cursor.chunk_id (suc (base_of s) - s.cursor.chunk_id)) =
      ap (λ (x : Bool). row_of x s.cursor.chunk_id s.cursor.passed (slots_of b s s.cursor.chunk_id (cond x (end_of s) (suc (base_of s)) - s.cursor.chunk_id))) o.unclosed in
      let from : FirstFrom b s s.cursor.chunk_id s.cursor.passed (stop_place (row_of false s.cursor.chunk_id s.cursor.passed (slots_of b s s.cursor.chunk_id (suc (base_of s) - s.cursor.chunk_id)))) =
      open_row (suc (base_of s) - s.cursor.chunk_id) s.cursor.chunk_id s.cursor.passed b s o (omega (arith, o.cursor)) o.cursor in
      subst (IsFirstStop b s) (sym (ap stop_place row))
      (record { chunk_id = from.chunk_id; not_before = from.not_before; passed = from.lets; stops = from.stops });
  closed = λ b s closed.
      let count : ℕ = end_of s - s.cursor.chunk_id in
      let row : row_from_cursor b s ≡ row_of true s.cursor.chunk_id s.cursor.passed (slots_of b s s.cursor.chunk_id count) =
      ap (λ (x : Bool). row_of x s.cursor.chunk_id s.cursor.passed (slots_of b s s.cursor.chunk_id (cond x (end_of s) (suc (base_of s)) - s.cursor.chunk_id))) closed in
      ap stop_place row ∙ closed_row (slots_of b s s.cursor.chunk_id count) s.cursor.chunk_id s.cursor.passed
      ∙ ap end_at (by_order b s (cases_lt s.cursor.chunk_id (end_of s)));
}
  where
    by_order : (b : Buffer) (s : Sequence) → ((s.cursor.chunk_id < end_of s) ⊎ (end_of s ≤ s.cursor.chunk_id))
        → closed_end s.cursor.chunk_id s.cursor.passed (slots_of b s s.cursor.chunk_id (end_of s - s.cursor.chunk_id))
        ≡ cond (nat_le (end_of s) s.cursor.chunk_id) s.cursor (place (end_of s) 0)
    by_order b s (inl less) =
        let left : ℕ = end_of s - s.cursor.chunk_id - 1 in
        let some : end_of s - s.cursor.chunk_id ≡ suc left = omega (arith, less) in
        let last : s.cursor.chunk_id + suc left ≡ end_of s = omega (arith, less) in
        ap (λ (n : ℕ). closed_end s.cursor.chunk_id s.cursor.passed (slots_of b s s.cursor.chunk_id n)) some
        ∙ slots_end left s.cursor.chunk_id s.cursor.passed b s
        ∙ ap (λ (n : ℕ). place n 0) last
        ∙ sym (ap (λ (x : Bool). cond x s.cursor (place (end_of s) 0)) (lt-leb (end_of s) s.cursor.chunk_id less))
    by_order b s (inr far) =
        let none : end_of s - s.cursor.chunk_id ≡ 0 = omega (arith, far) in
        ap (λ (n : ℕ). closed_end s.cursor.chunk_id s.cursor.passed (slots_of b s s.cursor.chunk_id n)) none
        ∙ sym (ap (λ (x : Bool). cond x s.cursor (place (end_of s) 0)) (le-leb (end_of s) s.cursor.chunk_id far))
