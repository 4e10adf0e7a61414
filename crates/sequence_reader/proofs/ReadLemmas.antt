-- A whole read, from its steps.
use Rattle.std.proofs.Common.{◌≡◌, ℕ, ◌+◌, ◌-◌, ◌<◌, ◌≤◌, ◌==◌, ◌&&◌, ◌||◌, not, Bool, true, false, cond, List, [], ◌∷◌, ◌++◌, length, refl, sym, ap, ap₂, ◌∙◌, subst, arith, append_assoc, length-append, eq-eqb, true≢false}
use Rattle.std.proofs.lemmas.List.{append-nil}
use Rattle.byte_io.specs.Bytes.{Intake, after_told, TakesPart}
use Rattle.byte_io.proofs.Told.{after_told_again, after_told_nothing}
use Rattle.trace_model.specs.Buffers.{Buffer}
use Rattle.trace_model.specs.Counts.{one_if}
use Rattle.trace_model.specs.Reads.{Turn, Delivers, delivers, ends, turn_of, Delivery, link_bytes, is_marked, delivered_by, with_read, read_end, stop_place, AtLimit, Stopped}
use Rattle.trace_model.specs.Record.{record_of}
use Rattle.trace_model.specs.Row.{Link}
use Rattle.trace_model.specs.Sequences.{Cursor, sequence_in, is_known}
use Rattle.trace_buffer.specs.Answers.{turn_value}
use Rattle.trace_buffer.specs.Calls.{with_advance}
use Rattle.trace_buffer.specs.declared.answers.Passed.{Passed}
use Rattle.trace_buffer.specs.declared.answers.Passed.TheVariants.{Delivered, Dropped, Overwritten, Discarded, Cut, Nothing}
use Rattle.sequence_reader.specs.declared.ends.Why.{Why}
use Rattle.sequence_reader.specs.declared.ends.Why.TheVariants.{Limit}
use Rattle.sequence_reader.specs.declared.progress.Progress.{Progress}
use Rattle.sequence_reader.specs.declared.spot.Bounds.{Bounds}
use Rattle.sequence_reader.specs.Ends.{record_bytes, row_met, why_told, stop_told, EndsInRecordAt}
use Rattle.sequence_reader.specs.Links.{IsLink, EndsAt}
use Rattle.sequence_reader.specs.Spots.{AreBounds, IsSpot, IsHeld, rows_of, cursor_of}
use Rattle.sequence_reader.specs.Turns.{IsAt, IsReadTo, GoesOn, IsDone, Fails}
use Rattle.sequence_reader.proofs.TurnLemmas.{given_at, read_on, told_on, end_on, shorter, none_at_zero, read_nothing, told_nothing, end_here, known_after, rows_after, met_after, closed_after, horizon_after, marked_after}

-- The records of packets

pub record_bytes-append : (q : ℕ) (ds es : List Delivery) → record_bytes q (ds ++ es) ≡ record_bytes q ds ++ record_bytes q es
record_bytes-append q [] es = refl
record_bytes-append q (d ∷ ds) es =
    ap (λ bytes. record_of d.body q d.marked ++ bytes) (record_bytes-append q ds es)
    ∙ sym (append_assoc (record_of d.body q d.marked) (record_bytes q ds) (record_bytes q es))

-- What a read keeps of its sequence stays true

pub bounds_after : (b : Buffer) (bounds : Bounds) (to : Cursor) (t : Turn) → AreBounds b bounds → AreBounds (with_advance b bounds.sequence to t) bounds
bounds_after b bounds to t are = record {
  known = known_after b bounds.sequence to t are.known;
  closed = closed_after b bounds.sequence to t are.known ∙ are.closed;
  end = horizon_after b bounds.sequence to t are.known ∙ are.end;
  low = are.low;
}

pub at_after : (b : Buffer) (bounds : Bounds) (t : Turn) (next : Progress) → AreBounds b bounds → IsSpot b bounds next.at → IsHeld b bounds.sequence next.held → not (delivers t) ≡ next.marked
    → IsAt (with_advance b bounds.sequence (cursor_of next.at) t) bounds next
at_after b bounds t next are spot held marked = record {
  bounds_are = bounds_after b bounds (cursor_of next.at) t are;
  spot = spot;
  held = held;
  links = met_after b bounds.sequence (cursor_of next.at) t are.known ∙ sym (rows_after b bounds.sequence (cursor_of next.at) t (cursor_of next.at) are.known);
  marked = marked_after b bounds.sequence (cursor_of next.at) t are.known ∙ marked;
}

-- One link

module _ (b : Buffer) (q : ℕ) (before after : Intake) (t : Turn) (next : Cursor) (known : is_known b.sequences q ≡ true) (on : ends t ≡ false)
    (links : List Link) (met : row_met b q ≡ links) (is : IsLink links (rows_of b q next) t next)
    (took : after ≡ after_told before (record_bytes q (given_at t is.link (is_marked (sequence_in b.sequences q))))) where
  abbrev given : List Delivery
  given = given_at t is.link (is_marked (sequence_in b.sequences q))

  one_given : (limit : ℕ) → limit ≡ one_if (delivers t) → delivered_by b q limit ≡ given
  one_given limit one =
      let all : limit ≡ one_if (delivers t) + 0 = omega (arith, one) in
      told_on b q is.link (rows_of b q next) t next known (met ∙ is.links_are) refl is.turn_is on is.next_is limit 0 all
      ∙ ap (λ ds. given ++ ds) (none_at_zero (with_advance b q next t) q)
      ∙ append-nil given

  given_many : length given ≡ one_if (delivers t)
  given_many = of (delivers t)
    where
      of : (d : Bool) → length {A = Delivery} (cond d (record { body = link_bytes is.link; marked = is_marked (sequence_in b.sequences q) } ∷ []) []) ≡ one_if d
      of true = refl
      of false = refl

  pub read_one : (count : ℕ) → count ≡ one_if (delivers t) → IsReadTo b (with_advance b q next t) before after q count
  read_one count one = record {
    state = λ more limit sum. read_on b q is.link (rows_of b q next) t next known (met ∙ is.links_are) refl is.turn_is on is.next_is limit more (omega (arith, sum, one));
    told = λ more limit sum.
        told_on b q is.link (rows_of b q next) t next known (met ∙ is.links_are) refl is.turn_is on is.next_is limit more (omega (arith, sum, one))
        ∙ ap (λ ds. ds ++ delivered_by (with_advance b q next t) q more) (sym (one_given count one));
    end = λ more limit sum. end_on b q is.link (rows_of b q next) t next known (met ∙ is.links_are) refl is.turn_is on is.next_is limit more (omega (arith, sum, one));
    many = ap length (one_given count one) ∙ given_many ∙ sym one;
    taken = took ∙ ap (λ ds. after_told before (record_bytes q ds)) (sym (one_given count one));
  }

  pub fewer_links : length (row_met (with_advance b q next t) q) < length (row_met b q)
  fewer_links = shorter b q is.link (rows_of b q next) t next known (met ∙ is.links_are) refl is.turn_is on is.next_is

-- Nothing, and then one read behind another

pub read_none : (b : Buffer) (q : ℕ) (intake : Intake) → IsReadTo b b intake intake q 0
read_none b q intake = record {
  state = λ more limit sum. ap (with_read b q) (plain more limit sum);
  told = λ more limit sum. ap (delivered_by b q) (plain more limit sum) ∙ ap (λ ds. ds ++ delivered_by b q more) (sym (none_at_zero b q));
  end = λ more limit sum. ap (λ n. read_end n (row_met b q)) (plain more limit sum);
  many = ap length (none_at_zero b q);
  taken = sym (ap (λ ds. after_told intake (record_bytes q ds)) (none_at_zero b q) ∙ after_told_nothing intake);
}
  where
    plain : (more limit : ℕ) → limit ≡ 0 + more → limit ≡ more
    plain more limit sum = omega (arith, sum)

pub read_both : (a b c : Buffer) (before mid after : Intake) (q m n : ℕ) → IsReadTo a b before mid q m → IsReadTo b c mid after q n → IsReadTo a c before after q (m + n)
read_both a b c before mid after q m n first second =
    let all : delivered_by a q (m + n) ≡ delivered_by a q m ++ delivered_by b q n = first.told n (m + n) refl in
    record {
      state = λ more limit sum. first.state (n + more) limit (omega (arith, sum)) ∙ second.state more (n + more) refl;
      told = λ more limit sum.
          first.told (n + more) limit (omega (arith, sum))
          ∙ ap (λ ds. delivered_by a q m ++ ds) (second.told more (n + more) refl)
          ∙ sym (append_assoc (delivered_by a q m) (delivered_by b q n) (delivered_by c q more))
          ∙ ap (λ ds. ds ++ delivered_by c q more) (sym all);
      end = λ more limit sum. first.end (n + more) limit (omega (arith, sum)) ∙ second.end more (n + more) refl;
      many = ap length all ∙ length-append (delivered_by a q m) (delivered_by b q n) ∙ ap₂ (λ x y. x + y) first.many second.many;
      taken =
          second.taken
          ∙ ap (λ intake. after_told intake (record_bytes q (delivered_by b q n))) first.taken
          ∙ after_told_again before (record_bytes q (delivered_by a q m)) (record_bytes q (delivered_by b q n))
          ∙ ap (after_told before) (sym (record_bytes-append q (delivered_by a q m) (delivered_by b q n)))
          ∙ ap (λ ds. after_told before (record_bytes q ds)) (sym all);
    }

pub read_further : (start old new : Buffer) (before mid after : Intake) (q done next : ℕ) → IsReadTo start old before mid q done → IsReadTo old new mid after q (next - done) → done ≤ next
    → IsReadTo start new before after q next
read_further start old new before mid after q done next first second later =
    let sum : done + (next - done) ≡ next = omega (arith, later) in
    subst (IsReadTo start new before after q) sum (read_both start old new before mid after q done (next - done) first second)

-- Where a read ends

pub done_at_stop : (b : Buffer) (q rest : ℕ) (intake : Intake) (links : List Link) (why : Why) → row_met b q ≡ links → EndsAt links why → IsDone b b intake intake q rest why
done_at_stop b q rest intake links why met is =
    let here : row_met b q ≡ is.link ∷ is.rest = met ∙ is.links_are in
    let stops : (ends (turn_of is.link) || (delivers (turn_of is.link) && (rest == 0))) ≡ true = ap (λ t. ends t || (delivers t && (rest == 0))) is.turn_is in
    record {
      same = refl;
      untouched = refl;
      none = told_nothing b q rest is.link is.rest here stops;
      read = read_nothing b q rest is.link is.rest here stops;
      told =
          ap why_told (end_here b q rest is.link is.rest here stops)
          ∙ ap (λ t. why_told (cond (delivers t) AtLimit (Stopped (stop_place (is.link ∷ is.rest))))) is.turn_is
          ∙ ap (λ ls. stop_told (stop_place ls)) (sym is.links_are)
          ∙ is.told;
    }

due_stops : (link : Link) (rest : ℕ) → turn_of link ≡ Delivers → rest ≡ 0 → (ends (turn_of link) || (delivers (turn_of link) && (rest == 0))) ≡ true
due_stops link rest due none = ap (λ t. ends t || (delivers t && (rest == 0))) due ∙ eq-eqb rest 0 none

pub done_at_limit : (b : Buffer) (q rest : ℕ) (intake : Intake) (links others : List Link) (next : Cursor) → rest ≡ 0 → row_met b q ≡ links → IsLink links others Delivers next
    → IsDone b b intake intake q rest Limit
done_at_limit b q rest intake links others next none met is =
    let here : row_met b q ≡ is.link ∷ others = met ∙ is.links_are in
    let stops = due_stops is.link rest is.turn_is none in
    record {
      same = refl;
      untouched = refl;
      none = told_nothing b q rest is.link others here stops;
      read = read_nothing b q rest is.link others here stops;
      told =
          ap why_told (end_here b q rest is.link others here stops)
          ∙ ap (λ t. why_told (cond (delivers t) AtLimit (Stopped (stop_place (is.link ∷ others))))) is.turn_is;
    }

pub fails_here : (b : Buffer) (q rest : ℕ) (before after : Intake) (links : List Link) (next : Cursor) (marked : Bool) → 0 < rest → is_known b.sequences q ≡ true → row_met b q ≡ links
    → (is : IsLink links (rows_of b q next) Delivers next) → is_marked (sequence_in b.sequences q) ≡ marked
    → TakesPart before after (record_of (link_bytes is.link) q marked) → Fails b b before after q rest
fails_here b q rest before after links next marked some known met is marked_is part = record {
  failed = record { body = link_bytes is.link; marked = is_marked (sequence_in b.sequences q) };
  others = delivered_by (with_advance b q next Delivers) q (rest - 1);
  same = refl;
  due = told_on b q is.link (rows_of b q next) Delivers next known (met ∙ is.links_are) refl is.turn_is refl is.next_is rest (rest - 1) (omega (arith, some));
  read = read_nothing b q 0 is.link (rows_of b q next) (met ∙ is.links_are) (due_stops is.link 0 is.turn_is refl);
  part = subst (λ m. TakesPart before after (record_of (link_bytes is.link) q m)) (sym marked_is) part;
}

-- The whole

pub record IsReadWhole (start new : Buffer) (before after : Intake) (q limit count : ℕ) (why : Why) : Type 0 where
  pub records : after ≡ after_told before (record_bytes q (delivered_by start q limit))
  pub after_is : new ≡ with_read start q limit
  pub whole : count ≡ length (delivered_by start q limit)

whole_at : (start old new : Buffer) (before mid after : Intake) (q limit count : ℕ) (why : Why) → count ≤ limit → IsReadTo start old before mid q count → IsDone old new mid after q (limit - count) why
    → IsReadWhole start new before after q limit count why
whole_at start old new before mid after q limit count why most read done =
    let sum : limit ≡ count + (limit - count) = omega (arith, most) in
    let all : delivered_by start q limit ≡ delivered_by start q count =
    read.told (limit - count) limit sum ∙ ap (λ ds. delivered_by start q count ++ ds) done.none ∙ append-nil (delivered_by start q count) in
    record {
      records = done.untouched ∙ read.taken ∙ ap (λ ds. after_told before (record_bytes q ds)) (sym all);
      after_is = done.same ∙ sym (read.state (limit - count) limit sum ∙ done.read);
      whole = sym (ap length all ∙ read.many);
    }

pub read_whole : (start old new : Buffer) (before mid after : Intake) (q same limit count : ℕ) (why : Why) → same ≡ q → count ≤ limit → IsReadTo start old before mid same count
    → IsDone old new mid after same (limit - count) why → IsReadWhole start new before after q limit count why
read_whole start old new before mid after q same limit count why is most read done =
    subst (λ n. IsReadWhole start new before after n limit count why) is (whole_at start old new before mid after same limit count why most read done)

pub read_why : (start old new : Buffer) (before mid after : Intake) (q same limit count : ℕ) (why : Why) → same ≡ q → count ≤ limit → IsReadTo start old before mid same count
    → IsDone old new mid after same (limit - count) why → why ≡ why_told (read_end limit (row_met start q))
read_why start old new before mid after q same limit count why is most read done =
    let sum : limit ≡ count + (limit - count) = omega (arith, most) in
    subst (λ n. why ≡ why_told (read_end limit (row_met start n))) is (sym (ap why_told (read.end (limit - count) limit sum) ∙ done.told))

-- a write failed behind what was read
pub read_fails : (start old new : Buffer) (before mid after : Intake) (q same limit count : ℕ) → same ≡ q → count ≤ limit → IsReadTo start old before mid same count
    → Fails old new mid after same (limit - count) → EndsInRecordAt start new before after q limit count
read_fails start old new before mid after q same limit count is most read fails =
    let sum : limit ≡ count + (limit - count) = omega (arith, most) in
    let all : count ≡ count + 0 = omega arith in
    subst (λ n. EndsInRecordAt start new before after n limit count) is
    (record {
      delivered = delivered_by start same count;
      failed = fails.failed;
      others = fails.others;
      cut = read.told (limit - count) limit sum ∙ ap (λ ds. delivered_by start same count ++ ds) fails.due;
      number = read.many;
      fewer = refl;
      buffer = fails.same ∙ sym (read.state 0 count all ∙ fails.read);
      part = subst (λ intake. TakesPart intake after (record_of fails.failed.body same fails.failed.marked)) read.taken fails.part;
    })

-- As the steps have it

pub taken_one : (before after : Intake) (q : ℕ) (wrote body : List ℕ) (marked mark : Bool) → wrote ≡ body → mark ≡ marked → after ≡ after_told before (record_of wrote q marked)
    → after ≡ after_told before (record_bytes q (record { body = body; marked = mark } ∷ []))
taken_one before after q wrote body marked mark same is took =
    took
    ∙ ap₂ (λ bytes m. after_told before (record_of bytes q m)) same (sym is)
    ∙ ap (after_told before) (sym (append-nil (record_of body q mark)))

pub goes_by : (b : Buffer) (bounds : Bounds) (before after : Intake) (limit : ℕ) (progress next : Progress) (t : Turn) → IsAt b bounds progress → ends t ≡ false
    → (is : IsLink (rows_of b bounds.sequence (cursor_of progress.at)) (rows_of b bounds.sequence (cursor_of next.at)) t (cursor_of next.at))
    → after ≡ after_told before (record_bytes bounds.sequence (given_at t is.link (is_marked (sequence_in b.sequences bounds.sequence))))
    → IsSpot b bounds next.at → IsHeld b bounds.sequence next.held → not (delivers t) ≡ next.marked → next.delivered ≤ limit → next.delivered ≡ progress.delivered + one_if (delivers t)
    → GoesOn b (with_advance b bounds.sequence (cursor_of next.at) t) before after bounds limit progress next
goes_by b bounds before after limit progress next t at on is took spot held marked most count = record {
  at = at_after b bounds t next at.bounds_are spot held marked;
  most = most;
  later = omega (arith, count);
  read = read_one b bounds.sequence before after t (cursor_of next.at) at.bounds_are.known on (rows_of b bounds.sequence (cursor_of progress.at)) at.links is took
      (next.delivered - progress.delivered) (omega (arith, count));
  shorter = fewer_links b bounds.sequence before after t (cursor_of next.at) at.bounds_are.known on (rows_of b bounds.sequence (cursor_of progress.at)) at.links is took;
}

pub stays_on : (passed : Passed) → ends (turn_value passed) ≡ false
stays_on Delivered = refl
stays_on Dropped = refl
stays_on Overwritten = refl
stays_on Discarded = refl
stays_on Cut = refl
stays_on Nothing = refl

pub taken_none : (intake : Intake) (q : ℕ) (body : List ℕ) (marked d : Bool) → d ≡ false
    → intake ≡ after_told intake (record_bytes q (cond d (record { body = body; marked = marked } ∷ []) []))
taken_none intake q body marked true is = absurd (true≢false is)
taken_none intake q body marked false is = sym (after_told_nothing intake)

pub none_counted : (count : ℕ) (d : Bool) → d ≡ false → count ≡ count + one_if d
none_counted count true is = absurd (true≢false is)
none_counted count false is = omega arith
