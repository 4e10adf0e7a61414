-- Reading the sequences of a buffer one by one.
use Rattle.std.proofs.Common.{◌≡◌, ◌∙◌, ℕ, ◌+◌, ◌-◌, ◌<◌, ◌≤◌, true, cond, List, [], ◌∷◌, ◌++◌, length, map, drop, get_or, refl, sym, ap, ap₂, subst, arith, append-nil, append_assoc, length-append}
use Rattle.std.proofs.lemmas.List.{drop_more, length-map, map-append}
use Rattle.byte_io.specs.Bytes.{Intake, after_told, TakesPart}
use Rattle.byte_io.proofs.Told.{after_told_again}
use Rattle.delivery_laws.proofs.LimitLemmas.{delivered_within}
use Rattle.trace_model.specs.Buffers.{Buffer}
use Rattle.trace_model.specs.Counts.{last_count}
use Rattle.trace_model.specs.Delivery.{Delivered, trace_of}
use Rattle.trace_model.specs.History.{Event, Read, state_after, buffer_after, records_at, reads_of, record_in}
use Rattle.trace_model.specs.Reads.{Delivery, delivered_by, with_read, is_marked, passed_by, sequence_after}
use Rattle.trace_model.specs.Record.{record_of}
use Rattle.trace_model.specs.Row.{row_from_cursor}
use Rattle.trace_model.specs.Sequences.{is_known, sequence_in}
use Rattle.sequence_reader.specs.Ends.{record_bytes, EndsInRecord}
use Rattle.trace_buffer.specs.Clones.{numbers_of}
use Rattle.buffer_clone.specs.Clones.{clone_reads, records_by, EndsInClone}
use Rattle.buffer_clone.proofs.NumberLemmas.{numbers_changed, known_at, state_parts}

-- Records one behind another

trace_parts : (xs ys : List Delivered) → trace_of (xs ++ ys) ≡ trace_of xs ++ trace_of ys
trace_parts [] ys = refl
trace_parts (x ∷ xs) ys = ap (λ (bytes : List ℕ). x.bytes ++ bytes) (trace_parts xs ys) ∙ sym (append_assoc x.bytes (trace_of xs) (trace_of ys))

records_parts : (b : Buffer) (xs ys : List Event) → records_by b (xs ++ ys) ≡ records_by b xs ++ records_by (state_after b xs) ys
records_parts b [] ys = refl
records_parts b (x ∷ xs) ys =
    ap (λ (ds : List Delivered). records_at (b ∷ []) x ++ ds) (records_parts (buffer_after b x) xs ys)
    ∙ sym (append_assoc (records_at (b ∷ []) x) (records_by (buffer_after b x) xs) (records_by (state_after (buffer_after b x) xs) ys))

pub most_delivered : (b : Buffer) (q limit : ℕ) → length (delivered_by b q limit) ≤ limit
most_delivered b q limit =
    let state = sequence_in b.sequences q in
    delivered_within (is_marked state) limit (row_from_cursor b state)

-- One read of a sequence that the buffer has
module _ (b : Buffer) (q : ℕ) (known : is_known b.sequences q ≡ true) where
  pub read_after : (n : ℕ) → buffer_after b (Read q n) ≡ with_read b q n
  read_after n = ap (λ x. cond x (with_read b q n) b) known

  pub read_at : (n : ℕ) → records_at (b ∷ []) (Read q n) ≡ map (record_in q) (delivered_by b q n)
  read_at n =
      ap (λ x. cond x (map (record_in q) (delivered_by b q n)) [] ++ []) known
      ∙ append-nil (map (record_in q) (delivered_by b q n))

  -- behind other events, of which it is the last
  behind : (old : Buffer) (events : List Event) (n : ℕ) → b ≡ state_after old events
      → records_by old (events ++ Read q n ∷ []) ≡ records_by old events ++ map (record_in q) (delivered_by b q n)
  behind old events n is =
      records_parts old events (Read q n ∷ [])
      ∙ ap (λ (c : Buffer). records_by old events ++ records_by c (Read q n ∷ [])) (sym is)
      ∙ ap (λ (ds : List Delivered). records_by old events ++ ds) (append-nil (records_at (b ∷ []) (Read q n)) ∙ read_at n)

  state_behind : (old : Buffer) (events : List Event) (n : ℕ) → b ≡ state_after old events → with_read b q n ≡ state_after old (events ++ Read q n ∷ [])
  state_behind old events n is =
      sym (read_after n)
      ∙ ap (λ (c : Buffer). buffer_after c (Read q n)) is
      ∙ sym (state_parts old events (Read q n ∷ []))

-- The reading

-- The first sequences were read, so many; the others are still to be read, with what is left of the limit.
pub record ReadsFirst (old now : Buffer) (many left : ℕ) (before after : Intake) : Type 0 where
  pub events : List Event
  pub rest : clone_reads old ≡ events ++ reads_of left now (drop many (numbers_of old))
  pub now_is : now ≡ state_after old events
  pub same : numbers_of now ≡ numbers_of old
  pub taken : after ≡ after_told before (trace_of (records_by old events))
  pub count : length (records_by old events) + left ≡ last_count

module _ (old now : Buffer) (many left d q : ℕ) (before between : Intake) (reads : ReadsFirst old now many left before between)
    (inside : many < length (numbers_of old)) (q_is : q ≡ get_or (numbers_of old) many d) where
  pub known : is_known now.sequences q ≡ true
  known = known_at now (numbers_of old) many d q reads.same inside q_is

  next_reads : List Event
  next_reads = reads_of (left - length (delivered_by now q left)) (with_read now q left) (drop (many + 1) (numbers_of old))

  next : clone_reads old ≡ reads.events ++ Read q left ∷ next_reads
  unfolding next_reads
  next =
      reads.rest
      ∙ ap (λ (ns : List ℕ). reads.events ++ reads_of left now ns)
      (drop_more (numbers_of old) many d inside ∙ ap (λ n. n ∷ drop (many + 1) (numbers_of old)) (sym q_is))

  pub same_after : (n : ℕ) → numbers_of (with_read now q n) ≡ numbers_of old
  same_after n =
      numbers_changed q (sequence_after (passed_by n (row_from_cursor now (sequence_in now.sequences q)))) (λ s. refl) now.sequences ∙ reads.same

  pub reads_one : (new : Buffer) (after : Intake) (delivered : ℕ) → new ≡ with_read now q left → after ≡ after_told between (record_bytes q (delivered_by now q left))
      → delivered ≡ length (delivered_by now q left) → ReadsFirst old new (many + 1) (left - delivered) before after
  unfolding next_reads
  reads_one new after delivered is taken number =
      let done : List Event = reads.events ++ Read q left ∷ [] in
      let records : records_by old done ≡ records_by old reads.events ++ map (record_in q) (delivered_by now q left) = behind now q known old reads.events left reads.now_is in
      record {
        events = done;
        rest = next
            ∙ sym (append_assoc reads.events (Read q left ∷ []) next_reads)
            ∙ ap₂ (λ n (c : Buffer). done ++ reads_of (left - n) c (drop (many + 1) (numbers_of old))) (sym number) (sym is);
        now_is = is ∙ state_behind now q known old reads.events left reads.now_is;
        same = ap numbers_of is ∙ same_after left;
        taken = taken
            ∙ ap (λ (i : Intake). after_told i (record_bytes q (delivered_by now q left))) reads.taken
            ∙ after_told_again before (trace_of (records_by old reads.events)) (record_bytes q (delivered_by now q left))
            ∙ ap (after_told before)
            (sym (trace_parts (records_by old reads.events) (map (record_in q) (delivered_by now q left))) ∙ ap trace_of (sym records));
        count = let long = ap length records in
            let both = length-append (records_by old reads.events) (map (record_in q) (delivered_by now q left)) in
            let mapped = length-map (delivered_by now q left) (record_in q) in
            let most = most_delivered now q left in
            let sum = reads.count in
            omega (arith, long, both, mapped, most, sum, number);
      }

  pub reads_fail : (new : Buffer) (after : Intake) → EndsInRecord now new between after q left → EndsInClone old new before after
  reads_fail new after ends =
      let e = ends.ends in
      let done : List Event = reads.events ++ Read q ends.count ∷ [] in
      let whole : List Delivered = records_by old reads.events ++ map (record_in q) e.delivered in
      let records : records_by old done ≡ whole =
      behind now q known old reads.events ends.count reads.now_is ∙ ap (λ (ds : List Delivery). records_by old reads.events ++ map (record_in q) ds) e.fewer in
      let later : List Delivered = records_by (buffer_after now (Read q left)) next_reads in
      let here : records_at (now ∷ []) (Read q left) ≡ map (record_in q) e.delivered ++ record_in q e.failed ∷ map (record_in q) e.others =
      read_at now q known left ∙ ap (map (record_in q)) e.cut ∙ map-append (record_in q) e.delivered (e.failed ∷ e.others) in
      record {
        firsts = reads.events;
        sequence = q;
        left = left;
        count = ends.count;
        others = next_reads;
        cut = next;
        clone = e.buffer ∙ state_behind now q known old reads.events ends.count reads.now_is;
        failed = record_in q e.failed;
        later = map (record_in q) e.others ++ later;
        due = ap (records_by old) next
            ∙ records_parts old reads.events (Read q left ∷ next_reads)
            ∙ ap (λ (c : Buffer). records_by old reads.events ++ records_by c (Read q left ∷ next_reads)) (sym reads.now_is)
            ∙ ap (λ (ds : List Delivered). records_by old reads.events ++ (ds ++ later)) here
            ∙ ap (λ (ds : List Delivered). records_by old reads.events ++ ds)
            (append_assoc (map (record_in q) e.delivered) (record_in q e.failed ∷ map (record_in q) e.others) later)
            ∙ sym (append_assoc (records_by old reads.events) (map (record_in q) e.delivered) (record_in q e.failed ∷ (map (record_in q) e.others ++ later)))
            ∙ ap (λ (ds : List Delivered). ds ++ record_in q e.failed ∷ (map (record_in q) e.others ++ later)) (sym records);
        part = subst (λ (i : Intake). TakesPart i after (record_of e.failed.body q e.failed.marked))
            (ap (λ (i : Intake). after_told i (record_bytes q e.delivered)) reads.taken
            ∙ after_told_again before (trace_of (records_by old reads.events)) (record_bytes q e.delivered)
            ∙ ap (after_told before)
            (sym (trace_parts (records_by old reads.events) (map (record_in q) e.delivered)) ∙ ap trace_of (sym records)))
            e.part;
      }
