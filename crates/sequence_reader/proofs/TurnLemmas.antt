-- One link of a row at a time: what a read does at it, and what is left of the read behind it.
use Rattle.std.proofs.Common.{◌≡◌, ℕ, zero, suc, ◌+◌, ◌-◌, ◌<◌, ◌==◌, ◌&&◌, ◌||◌, not, Bool, true, false, cond, List, [], ◌∷◌, ◌++◌, length, refl, sym, ap, ap₂, ◌∙◌, arith, ne_eqb}
use Rattle.std.proofs.lemmas.List.Sums.{sum_by-cons}
use Rattle.trace_model.specs.Counts.{raised, one_if}
use Rattle.trace_model.specs.Buffers.{Buffer}
use Rattle.trace_model.specs.Reads.{Turn, Dropped, Lost, Cut, turn_of, delivers, ends, counts_under, passed_by, left_by, Delivery, link_bytes, delivered_of, missing_after, next_of, cursor_after, count_of, sequence_after, is_marked, delivered_by, with_read, advanced, read_end, end_before, AtLimit, Stopped, stop_place}
use Rattle.trace_model.specs.Row.{Link, horizon, row_of, slot_of, slots_of}
use Rattle.trace_model.specs.Sequences.{Sequence, Cursor, sequence_in, is_known, changed_at}
use Rattle.trace_model.proofs.SequenceLemmas.{changed_here, known_changed}
use Rattle.trace_model.proofs.CountedLemmas.{raised-raised, raised-none}
use Rattle.trace_buffer.specs.Calls.{with_advance}
use Rattle.trace_buffer.proofs.DeliverLemmas.{changed_twice}
use Rattle.sequence_reader.specs.Ends.{row_met}
use Rattle.sequence_reader.specs.Spots.{row_at, rows_of}

-- Counts

count_cons : (test : Turn → Bool) (link : Link) (links : List Link) → count_of test (link ∷ links) ≡ one_if (test (turn_of link)) + count_of test links
count_cons test link links =
    sum_by-cons (λ (l : Link). cond (test (turn_of l)) 1 0) link links
    ∙ ap (λ n. n + count_of test links) (one (test (turn_of link)))
  where
    one : (b : Bool) → ◌≡◌ {A = ℕ} (cond b 1 0) (one_if b)
    one true = refl
    one false = refl

-- The row is the same wherever its reader stands

slots_after : (b : Buffer) (q : ℕ) (to at : Cursor) (t turn : Turn) (s : Sequence) (n i : ℕ) → slots_of (with_advance b q to t) (advanced at turn s) i n ≡ slots_of b s i n
slots_after b q to at t turn s zero i = refl
slots_after b q to at t turn s (suc n) i = ap (λ slots. slot_of b s i ∷ slots) (slots_after b q to at t turn s n (suc i))

keeps_number : (to : Cursor) (t : Turn) (s : Sequence) → (advanced to t s).number ≡ s.number
keeps_number to t s = refl

state_after : (b : Buffer) (q : ℕ) (to : Cursor) (t : Turn) → is_known b.sequences q ≡ true
    → sequence_in (with_advance b q to t).sequences q ≡ advanced to t (sequence_in b.sequences q)
state_after b q to t known = changed_here q (advanced to t) (keeps_number to t) b.sequences known

pub known_after : (b : Buffer) (q : ℕ) (to : Cursor) (t : Turn) → is_known b.sequences q ≡ true → is_known (with_advance b q to t).sequences q ≡ true
known_after b q to t known = known_changed q q (advanced to t) (keeps_number to t) b.sequences ∙ known

pub rows_after : (b : Buffer) (q : ℕ) (to : Cursor) (t : Turn) (at : Cursor) → is_known b.sequences q ≡ true → rows_of (with_advance b q to t) q at ≡ rows_of b q at
rows_after b q to t at known =
    let s : Sequence = sequence_in b.sequences q in
    ap (λ state. row_at (with_advance b q to t) state at) (state_after b q to t known)
    ∙ ap (row_of s.closed at.chunk_id at.passed) (slots_after b q to to t t s (horizon s - at.chunk_id) at.chunk_id)

pub met_after : (b : Buffer) (q : ℕ) (to : Cursor) (t : Turn) → is_known b.sequences q ≡ true → row_met (with_advance b q to t) q ≡ rows_of b q to
met_after b q to t known =
    ap (λ (state : Sequence). rows_of (with_advance b q to t) q state.cursor) (state_after b q to t known) ∙ rows_after b q to t to known

pub closed_after : (b : Buffer) (q : ℕ) (to : Cursor) (t : Turn) → is_known b.sequences q ≡ true → (sequence_in (with_advance b q to t).sequences q).closed ≡ (sequence_in b.sequences q).closed
closed_after b q to t known = ap (λ (s : Sequence). s.closed) (state_after b q to t known)

pub horizon_after : (b : Buffer) (q : ℕ) (to : Cursor) (t : Turn) → is_known b.sequences q ≡ true → horizon (sequence_in (with_advance b q to t).sequences q) ≡ horizon (sequence_in b.sequences q)
horizon_after b q to t known = ap horizon (state_after b q to t known)

-- the next delivery is marked unless this was one
marked_by : (t : Turn) (count : ℕ) → (not (delivers t) || (raised count (one_if (delivers t)) == 0)) ≡ not (delivers t)
marked_by t count = of (delivers t)
  where
    of : (d : Bool) → (not d || (raised count (one_if d) == 0)) ≡ not d
    of true = ne_eqb (raised count 1) 0 (λ e. absurd (omega (arith, e)))
    of false = refl

pub marked_after : (b : Buffer) (q : ℕ) (to : Cursor) (t : Turn) → is_known b.sequences q ≡ true → is_marked (sequence_in (with_advance b q to t).sequences q) ≡ not (delivers t)
marked_after b q to t known = ap is_marked (state_after b q to t known) ∙ marked_by t (sequence_in b.sequences q).delivered

-- What a read does at the first link

-- what is delivered at a link
abbrev pub given_at : Turn → Link → Bool → List Delivery
given_at t link marked = cond (delivers t) (record { body = link_bytes link; marked = marked } ∷ []) []

module _ (link : Link) (rest : List Link) (t : Turn) (turn : turn_of link ≡ t) (on : ends t ≡ false) where
  few : (d : Bool) (limit more : ℕ) → limit ≡ one_if d + more → (d && (limit == 0)) ≡ false
  few true limit more is = ne_eqb limit 0 (λ e. absurd (omega (arith, e, is)))
  few false limit more is = refl

  goes : (limit more : ℕ) → limit ≡ one_if (delivers t) + more → (ends (turn_of link) || (delivers (turn_of link) && (limit == 0))) ≡ false
  goes limit more is =
      ap (λ u. ends u || (delivers u && (limit == 0))) turn
      ∙ ap (λ e. e || (delivers t && (limit == 0))) on
      ∙ few (delivers t) limit more is

  less : (limit more : ℕ) → limit ≡ one_if (delivers t) + more → limit - one_if (delivers (turn_of link)) ≡ more
  less limit more is =
      let same : one_if (delivers (turn_of link)) ≡ one_if (delivers t) = ap (λ u. one_if (delivers u)) turn in
      omega (arith, is, same)

  pub passes_one : (limit more : ℕ) → limit ≡ one_if (delivers t) + more → passed_by limit (link ∷ rest) ≡ link ∷ passed_by more rest
  passes_one limit more is =
      ap (λ c. cond c [] (link ∷ passed_by (limit - one_if (delivers (turn_of link))) rest)) (goes limit more is)
      ∙ ap (λ n. link ∷ passed_by n rest) (less limit more is)

  pub leaves_rest : (limit more : ℕ) → limit ≡ one_if (delivers t) + more → left_by limit (link ∷ rest) ≡ left_by more rest
  leaves_rest limit more is =
      ap (λ c. cond c (link ∷ rest) (left_by (limit - one_if (delivers (turn_of link))) rest)) (goes limit more is)
      ∙ ap (λ n. left_by n rest) (less limit more is)

  pub gives_one : (marked : Bool) (links : List Link) → delivered_of marked (link ∷ links) ≡ given_at t link marked ++ delivered_of (not (delivers t)) links
  gives_one marked links = ap (λ u. choice (delivers u)) turn ∙ of (delivers t)
    where
      choice : Bool → List Delivery
      choice d = cond d (record { body = link_bytes link; marked = marked } ∷ delivered_of false links) (delivered_of true links)

      of : (d : Bool) → choice d ≡ cond d (record { body = link_bytes link; marked = marked } ∷ []) [] ++ delivered_of (not d) links
      of true = refl
      of false = refl

  counted : (test : Turn → Bool) (count : ℕ) (links : List Link) → raised count (count_of test (link ∷ links)) ≡ raised (raised count (one_if (test t))) (count_of test links)
  counted test count links =
      ap (raised count) (count_cons test link links ∙ ap (λ u. one_if (test u) + count_of test links) turn)
      ∙ sym (raised-raised count (one_if (test t)) (count_of test links))

  pub sequence_on : (next : Cursor) → ((cursor : Cursor) → next_of cursor link ≡ next) → (links : List Link) (s : Sequence) → sequence_after (link ∷ links) s ≡ sequence_after links (advanced next t s)
  sequence_on next next_is links s = λ i. record s {
    cursor = cursor_after (next_is s.cursor i) links;
    missing = missing_after (not (delivers (turn i))) links;
    delivered = counted delivers s.delivered links i;
    dropped = counted (counts_under Dropped) s.dropped links i;
    lost = counted (counts_under Lost) s.lost links i;
    cut = counted (counts_under Cut) s.cut links i;
  }

-- The sequences of a buffer

changed_none : (q : ℕ) (f : Sequence → Sequence) → ((s : Sequence) → f s ≡ s) → (ss : List Sequence) → changed_at q f ss ≡ ss
changed_none q f is [] = refl
changed_none q f is (s ∷ ss) = ap₂ (λ t ts. t ∷ ts) (of (s.number == q)) (changed_none q f is ss)
  where
    of : (b : Bool) → cond b (f s) s ≡ s
    of true = is s
    of false = refl

nothing_after : (s : Sequence) → sequence_after [] s ≡ s
nothing_after s = λ i. record s {
  delivered = raised-none s.delivered i;
  dropped = raised-none s.dropped i;
  lost = raised-none s.lost i;
  cut = raised-none s.cut i;
}

-- A read, by its first link

module _ (b : Buffer) (q : ℕ) (link : Link) (rest : List Link) (t : Turn) (next : Cursor) (known : is_known b.sequences q ≡ true)
    (links : row_met b q ≡ link ∷ rest) (rest_is : rest ≡ rows_of b q next) (turn : turn_of link ≡ t) (on : ends t ≡ false)
    (next_is : (cursor : Cursor) → next_of cursor link ≡ next) where
  rest_met : rest ≡ row_met (with_advance b q next t) q
  rest_met = rest_is ∙ sym (met_after b q next t known)

  passed_met : (limit more : ℕ) → limit ≡ one_if (delivers t) + more → passed_by limit (row_met b q) ≡ link ∷ passed_by more (row_met (with_advance b q next t) q)
  passed_met limit more is =
      ap (passed_by limit) links ∙ passes_one link rest t turn on limit more is ∙ ap (λ ls. link ∷ passed_by more ls) rest_met

  pub read_on : (limit more : ℕ) → limit ≡ one_if (delivers t) + more → with_read b q limit ≡ with_read (with_advance b q next t) q more
  read_on limit more is =
      ap (λ ls. record b { sequences = changed_at q (sequence_after ls) b.sequences }) (passed_met limit more is)
      ∙ ap (λ ss. record b { sequences = ss })
      (changed_twice q (sequence_after (passed_by more (row_met (with_advance b q next t) q))) (advanced next t)
      (sequence_after (link ∷ passed_by more (row_met (with_advance b q next t) q))) (keeps_number next t)
      (sequence_on link rest t turn on next next_is (passed_by more (row_met (with_advance b q next t) q))) b.sequences)

  pub told_on : (limit more : ℕ) → limit ≡ one_if (delivers t) + more
      → delivered_by b q limit ≡ given_at t link (is_marked (sequence_in b.sequences q)) ++ delivered_by (with_advance b q next t) q more
  told_on limit more is =
      let marked : Bool = is_marked (sequence_in b.sequences q) in
      ap (delivered_of marked) (passed_met limit more is)
      ∙ gives_one link rest t turn on marked (passed_by more (row_met (with_advance b q next t) q))
      ∙ ap (λ m. given_at t link marked ++ delivered_of m (passed_by more (row_met (with_advance b q next t) q))) (sym (marked_after b q next t known))

  pub end_on : (limit more : ℕ) → limit ≡ one_if (delivers t) + more → read_end limit (row_met b q) ≡ read_end more (row_met (with_advance b q next t) q)
  end_on limit more is =
      ap (λ ls. end_before ls) (ap (left_by limit) links ∙ leaves_rest link rest t turn on limit more is ∙ ap (left_by more) rest_met)

  pub shorter : length (row_met (with_advance b q next t) q) < length (row_met b q)
  shorter =
      let one : length (row_met b q) ≡ suc (length rest) = ap length links in
      let same : length rest ≡ length (row_met (with_advance b q next t) q) = ap length rest_met in
      omega (arith, one, same)

-- Where it is done

-- no limit is met before a packet that is due
none_due : (marked : Bool) (links : List Link) → delivered_of marked (passed_by 0 links) ≡ []
none_due marked [] = refl
none_due marked (link ∷ links) = of (delivers (turn_of link)) (ends (turn_of link)) refl (none_due true links)
  where
    of : (d e : Bool) → delivers (turn_of link) ≡ d → delivered_of true (passed_by 0 links) ≡ [] → delivered_of marked (cond (e || (d && (0 == 0))) [] (link ∷ passed_by (0 - one_if d) links)) ≡ []
    of true true is later = refl
    of true false is later = refl
    of false true is later = refl
    of false false is later =
        ap (λ d. cond d (record { body = link_bytes link; marked = marked } ∷ delivered_of false (passed_by 0 links)) (delivered_of true (passed_by 0 links))) is
        ∙ later

pub none_at_zero : (b : Buffer) (q : ℕ) → delivered_by b q 0 ≡ []
none_at_zero b q = none_due (is_marked (sequence_in b.sequences q)) (row_met b q)

module _ (b : Buffer) (q limit : ℕ) (link : Link) (rest : List Link) (links : row_met b q ≡ link ∷ rest)
    (stops : (ends (turn_of link) || (delivers (turn_of link) && (limit == 0))) ≡ true) where
  none_passed : passed_by limit (row_met b q) ≡ []
  none_passed = ap (passed_by limit) links ∙ ap (λ c. cond c [] (link ∷ passed_by (limit - one_if (delivers (turn_of link))) rest)) stops

  pub read_nothing : with_read b q limit ≡ b
  read_nothing =
      ap (λ ls. record b { sequences = changed_at q (sequence_after ls) b.sequences }) none_passed
      ∙ ap (λ ss. record b { sequences = ss }) (changed_none q (sequence_after []) nothing_after b.sequences)

  pub told_nothing : delivered_by b q limit ≡ []
  told_nothing = ap (delivered_of (is_marked (sequence_in b.sequences q))) none_passed

  pub end_here : read_end limit (row_met b q) ≡ cond (delivers (turn_of link)) AtLimit (Stopped (stop_place (link ∷ rest)))
  end_here =
      ap (λ ls. end_before (left_by limit ls)) links
      ∙ ap (λ c. end_before (cond c (link ∷ rest) (left_by (limit - one_if (delivers (turn_of link))) rest))) stops
