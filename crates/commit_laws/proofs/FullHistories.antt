-- Over a history of commits whose buffer has bytes enough, and which ends with a read of the closed sequence, each whole packet
-- is delivered, where the packet check accepts each.
use Rattle.std.proofs.Common.{◌≡◌, ◌∙◌, ℕ, zero, suc, ◌+◌, ◌-◌, ◌<◌, ◌≤◌, ◌⊎◌, Bool, true, false, ◌||◌, List, [], ◌∷◌, ◌++◌, length, Option, Some, None, refl, sym, ap, subst, arith, inl, inr, length-append}
use Rattle.std.specs.Prelude.{cond, ◌==◌, find, slice_get, MatchBool}
use Rattle.std.proofs.lemmas.Bool.{false≢true, eq-eqb, eqb-true}
use Rattle.trace_model.specs.Buffers.{Buffer, BufferRecord, is_of, live_at}
use Rattle.trace_model.specs.History.{Event, Arrives, ArrivesInPart, Patched, Committed, Closed, Read, buffer_after, delivered_at, delivered_to, event_sequence}
use Rattle.trace_model.specs.Images.{Patch}
use Rattle.trace_model.specs.Reads.{Delivery, delivered_by, delivered_of, is_marked, left_by, passed_by, sequence_after, with_read}
use Rattle.trace_model.specs.Row.{Link, horizon, row_from_cursor, slot_from, slots_of}
use Rattle.trace_model.specs.Sequences.{Cursor, Sequence, above_all, base_of, end_of, has_arrived, is_among, is_known, sequence_in, with_number}
use Rattle.delivery_laws.specs.Room.{asked, asks}
use Rattle.delivery_laws.specs.Sheets.{Sheet, SheetsAgree, all_parts, packets_in}
use Rattle.delivery_laws.proofs.AcceptedParts.{AreAccepted}
use Rattle.delivery_laws.proofs.AdjacentLemmas.{begin_of, cursor_is, reader_after, row_adjacent}
use Rattle.delivery_laws.proofs.DeliversAll.{taken}
use Rattle.delivery_laws.proofs.KnownLemmas.{completes_shows, found_at}
use Rattle.delivery_laws.proofs.OwnEvents.{read_now}
use Rattle.delivery_laws.proofs.RoomLemmas.{Grows, event_grows, has_record}
use Rattle.delivery_laws.proofs.Walks.{Inside, parts_at}
use Rattle.commit_laws.specs.CommitHistories.{AreCommitted, IsImageOf, patches_to}
use Rattle.commit_laws.specs.Commits.{NoneIsRefused, commits_in, patches_brought}
use Rattle.commit_laws.proofs.CommitEvents.{read_met}
use Rattle.commit_laws.proofs.CommitSteps.{IsOn, event_on, is_read_of, none_delivered, own_read}
use Rattle.commit_laws.proofs.FullReads.{IsFullRead, reads_full, wholes}
use Rattle.commit_laws.proofs.FullRows.{DropsEnd, FullSlots, Holds, IsFullChunk, StaysOpen, held_stands, row_holds}
use Rattle.commit_laws.proofs.FullSteps.{AllSettle, IsFull, Waits, event_full, has_last}
use Rattle.commit_laws.proofs.MetRecords.{IsMet, IsMetRecord, live_is, met_some, unknown_open}

-- a live record is found
found_none : (q i : ℕ) (rs : List BufferRecord) → has_record q i rs ≡ true → find (is_of q i) rs ≡ None → ⊥
found_none q i [] h n = false≢true h
found_none q i (r ∷ rs) h n = step (is_of q i r) h n (found_none q i rs)
  where
    step : (x : Bool) → (x || has_record q i rs) ≡ true → cond x (Some r) (find (is_of q i) rs) ≡ None → (has_record q i rs ≡ true → find (is_of q i) rs ≡ None → ⊥) → ⊥
    step true h n k = cc
    step false h n k = k h n

-- a member is below one above the greatest
among_below : (i : ℕ) (numbers : List ℕ) → is_among i numbers ≡ true → i < above_all numbers
among_below i [] h = absurd (false≢true h)
among_below i (n ∷ numbers) h = by_first (n == i) refl h (among_below i numbers)
  where
    by_first : (b : Bool) → (n == i) ≡ b → (b || is_among i numbers) ≡ true → (is_among i numbers ≡ true → i < above_all numbers) → i < above_all (n ∷ numbers)
    by_first true e h rest = let same = eqb-true n i e in omega (arith, same)
    by_first false e h rest = let low = rest h in omega (arith, low)

-- nothing comes to a closed sequence
none_committed : (sheets : List Sheet) (q : ℕ) (came : List ℕ) (events : List Event) → AreCommitted sheets q came true events → commits_in q events ≡ []
none_committed sheets q came [] h = refl
none_committed sheets q came (Arrives other id chunk ∷ events) h = none_committed sheets q came events h.1
none_committed sheets q came (ArrivesInPart other id chunk ∷ events) h = none_committed sheets q came events h.1
none_committed sheets q came (Patched other patches ∷ events) h = none_committed sheets q came events h.1
none_committed sheets q came (Read other limit ∷ events) h = none_committed sheets q came events h
none_committed sheets q came (Closed other ∷ events) h = by_own (other == q) h (none_committed sheets q came events)
  where
    by_own : (x : Bool) → MatchBool x (((i : ℕ) → i < length sheets → is_among i came ≡ true) × AreCommitted sheets q came true events) (AreCommitted sheets q came true events)
        → (AreCommitted sheets q came true events → commits_in q events ≡ []) → commits_in q events ≡ []
    by_own true h rest = rest h.1
    by_own false h rest = rest h
none_committed sheets q came (Committed image patches ∷ events) h = by_own (image.sequence == q) h (none_committed sheets q came events)
  where
    by_own : (x : Bool)
        → MatchBool x ((true ≡ false) × IsImageOf sheets (patches ++ patches_to q events) image × AreCommitted sheets q (with_number image.chunk_id came) true events)
        (AreCommitted sheets q came true events)
        → (AreCommitted sheets q came true events → commits_in q events ≡ [])
        → cond x (record { image = image; patches = patches } ∷ commits_in q events) (commits_in q events) ≡ []
    by_own true h rest = absurd (false≢true (sym h.0))
    by_own false h rest = rest h

-- Some event is a read of the sequence, once it is closed, whose limit is at least so many packets.
abbrev pub IsReadLast : (q packets : ℕ) → Buffer → List Event → Type 0
IsReadLast q packets b [] = ⊥
IsReadLast q packets b (event ∷ events) =
    ((limit : ℕ) × (event ≡ Read q limit) × ((sequence_in b.sequences q).closed ≡ true) × (packets ≤ limit)) ⊎ IsReadLast q packets (buffer_after b event) events

module _ (sheets : List Sheet) (agree : SheetsAgree false sheets) (drops : (i : ℕ) (sheet : Sheet) → slice_get sheets i ≡ Some sheet → DropsEnd sheet)
    (accepted : AreAccepted (all_parts sheets)) (q : ℕ) where
  -- how many whole packets begin behind the cursor
  abbrev pub ahead : Sequence → ℕ
  ahead s = wholes (packets_in (parts_at sheets s.cursor.chunk_id s.cursor.passed))

  module _ (came : List ℕ) (closed : Bool) (later : List Patch) (b : Buffer) (met : IsMet sheets q came closed later b) (full : IsFull sheets q later b) (over : closed ≡ true → later ≡ []) where
    abbrev state : Sequence
    state = sequence_in b.sequences q

    full_chunk : (i : ℕ) (r : BufferRecord) → live_at b (sequence_in b.sequences q).number i ≡ Some r
        → IsFullChunk sheets (sequence_in b.sequences q).closed (sequence_in b.sequences q).closed (λ c. c) agree i r.chunk
    full_chunk i r e =
        let there : live_at b q i ≡ Some r = sym (live_is sheets q came closed later b met i) ∙ e in
        let good = found_at q (IsMetRecord sheets came later) i b.live r met.live there in
        let waits = found_at q (Waits sheets q later) i b.live r full.waits there in
        let is = good.holds in
        let at : slice_get sheets i ≡ Some is.sheet = subst (λ (n : ℕ). slice_get sheets n ≡ Some is.sheet) good.same is.there in
        record {
          sheet = is.sheet;
          there = at;
          whole = is.whole;
          continues = is.continues;
          runs_on = is.runs_on;
          shows = completes_shows later r.chunk_id r.chunk.awaits r.chunk.fragments is.sheet.written is.completes;
          drops = drops i is.sheet at;
          goes_on = λ a. (waits.holds a).0 is.sheet is.there;
          stays = λ a c. subst (StaysOpen sheets) good.same (by_last (waits.holds a).1 (over (sym met.shut ∙ c)));
          unended = λ a o. o;
        }
      where
        by_last : (has_last r.chunk_id later ≡ true) ⊎ StaysOpen sheets r.chunk_id → later ≡ [] → StaysOpen sheets r.chunk_id
        by_last (inl h) none = absurd (false≢true (sym (ap (has_last r.chunk_id) none) ∙ h))
        by_last (inr h) none = h

    -- no chunk that came is gone
    none_gone : (i : ℕ) → (has_arrived (sequence_in b.sequences q) i || is_among i (sequence_in b.sequences q).final) ≡ true → live_at b (sequence_in b.sequences q).number i ≡ None → ⊥
    none_gone i h n = by_arrived (has_arrived (sequence_in b.sequences q) i) refl h
      where
        by_arrived : (x : Bool) → has_arrived (sequence_in b.sequences q) i ≡ x → (x || is_among i (sequence_in b.sequences q).final) ≡ true → ⊥
        by_arrived true e h = found_none q i b.live (full.all i e) (sym (live_is sheets q came closed later b met i) ∙ n)
        by_arrived false e h = false≢true (sym (ap (is_among i) met.none) ∙ h)

    -- a closed sequence ends behind all chunks
    ends_behind : (i : ℕ) → horizon (sequence_in b.sequences q) ≤ i → (sequence_in b.sequences q).closed ≡ true → length sheets ≤ i
    ends_behind i low c =
        let at : horizon (sequence_in b.sequences q) ≡ end_of (sequence_in b.sequences q) =
        ap (λ (x : Bool). cond x (end_of (sequence_in b.sequences q)) (suc (base_of (sequence_in b.sequences q)))) c in
        let arrived = ap above_all met.arrived in
        by_length (length sheets) refl (omega (arith, at, low, arrived))
      where
        by_length : (n : ℕ) → length sheets ≡ n → above_all came ≤ i → length sheets ≤ i
        by_length zero e low = omega (arith, e)
        by_length (suc n) e low =
            let below = among_below n came (met.all (sym met.shut ∙ c) n (omega (arith, e))) in
            omega (arith, e, low, below)

    full_slots : (count i : ℕ) → (0 < count → i + count ≡ horizon (sequence_in b.sequences q)) → (count ≡ 0 → horizon (sequence_in b.sequences q) ≤ i)
        → FullSlots sheets (sequence_in b.sequences q).closed (sequence_in b.sequences q).closed (λ c. c) agree i (slots_of b (sequence_in b.sequences q) i count)
    full_slots zero i some none = λ c. ends_behind i (none refl) c
    full_slots (suc count) i some none =
        by_live (live_at b (sequence_in b.sequences q).number i) refl (has_arrived (sequence_in b.sequences q) i || is_among i (sequence_in b.sequences q).final) refl
        (full_slots count (suc i) (λ h. let e = some (omega arith) in omega (arith, e)) (λ z. let e = some (omega arith) in omega (arith, e, z)))
      where
        end : i + suc count ≡ horizon (sequence_in b.sequences q)
        end = some (omega arith)

        by_live : (o : Option BufferRecord) → live_at b (sequence_in b.sequences q).number i ≡ o
            → (k : Bool) → (has_arrived (sequence_in b.sequences q) i || is_among i (sequence_in b.sequences q).final) ≡ k
            → FullSlots sheets (sequence_in b.sequences q).closed (sequence_in b.sequences q).closed (λ c. c) agree (suc i) (slots_of b (sequence_in b.sequences q) (suc i) count)
            → FullSlots sheets (sequence_in b.sequences q).closed (sequence_in b.sequences q).closed (λ c. c) agree i (slot_from o k ∷ slots_of b (sequence_in b.sequences q) (suc i) count)
        by_live (Some r) e k f rest = (full_chunk i r e, rest)
        by_live None e true f rest = absurd (none_gone i f e)
        by_live None e false f rest =
            let opened = unknown_open sheets q came closed later b met i (let last = end in omega (arith, last)) f in
            (opened, opened)

    full_holds : Inside sheets (sequence_in b.sequences q).cursor.chunk_id (sequence_in b.sequences q).cursor.passed
        → Holds sheets (sequence_in b.sequences q).closed (sequence_in b.sequences q).closed (row_from_cursor b (sequence_in b.sequences q))
        (parts_at sheets (sequence_in b.sequences q).cursor.chunk_id (sequence_in b.sequences q).cursor.passed)
    full_holds inside =
        row_holds sheets (sequence_in b.sequences q).closed (sequence_in b.sequences q).closed (λ c. c) agree
        (slots_of b (sequence_in b.sequences q) (sequence_in b.sequences q).cursor.chunk_id (horizon (sequence_in b.sequences q) - (sequence_in b.sequences q).cursor.chunk_id))
        (sequence_in b.sequences q).cursor.chunk_id (sequence_in b.sequences q).cursor.passed
        (full_slots (horizon (sequence_in b.sequences q) - (sequence_in b.sequences q).cursor.chunk_id) (sequence_in b.sequences q).cursor.chunk_id (λ some. omega (arith, some)) (λ none. omega (arith, none)))
        inside

    -- A read

    record IsReadBy (limit : ℕ) : Type 0 where
      inside : Inside sheets (sequence_in (with_read b q limit).sequences q).cursor.chunk_id (sequence_in (with_read b q limit).sequences q).cursor.passed
      count : ahead (sequence_in b.sequences q) ≡ length (delivered_by b q limit) + ahead (sequence_in (with_read b q limit).sequences q)
      all : (sequence_in b.sequences q).closed ≡ true → ahead (sequence_in b.sequences q) ≤ limit → ahead (sequence_in b.sequences q) ≤ length (delivered_by b q limit)

    read_by : (limit : ℕ) → Inside sheets (sequence_in b.sequences q).cursor.chunk_id (sequence_in b.sequences q).cursor.passed → IsReadBy limit
    read_by limit inside = by_passed (passed_by limit (row_from_cursor b (sequence_in b.sequences q))) refl
      where
        now : sequence_in (with_read b q limit).sequences q ≡ sequence_after (passed_by limit (row_from_cursor b (sequence_in b.sequences q))) (sequence_in b.sequences q)
        now = read_now q limit b met.known

        read : IsFullRead sheets (sequence_in b.sequences q).closed (sequence_in b.sequences q).closed limit (is_marked (sequence_in b.sequences q))
            (passed_by limit (row_from_cursor b (sequence_in b.sequences q))) (left_by limit (row_from_cursor b (sequence_in b.sequences q)))
            (parts_at sheets (sequence_in b.sequences q).cursor.chunk_id (sequence_in b.sequences q).cursor.passed)
        read = reads_full sheets (sequence_in b.sequences q).closed (sequence_in b.sequences q).closed (λ c. c) accepted (row_from_cursor b (sequence_in b.sequences q)) limit
            (is_marked (sequence_in b.sequences q)) (parts_at sheets (sequence_in b.sequences q).cursor.chunk_id (sequence_in b.sequences q).cursor.passed) (full_holds inside)

        whole : (sequence_in b.sequences q).closed ≡ true → ahead (sequence_in b.sequences q) ≤ limit → ahead (sequence_in b.sequences q) ≤ length (delivered_by b q limit)
        whole c low = let none = read.all c low in let count = read.count in omega (arith, none, count)

        by_passed : (ls : List Link) → passed_by limit (row_from_cursor b (sequence_in b.sequences q)) ≡ ls → IsReadBy limit
        by_passed [] e =
            let cursor : (sequence_in (with_read b q limit).sequences q).cursor ≡ (sequence_in b.sequences q).cursor =
            ap (λ (x : Sequence). x.cursor) (now ∙ ap (λ (ls : List Link). sequence_after ls (sequence_in b.sequences q)) e) in
            let same : ahead (sequence_in (with_read b q limit).sequences q) ≡ ahead (sequence_in b.sequences q) =
            ap (λ (k : Cursor). wholes (packets_in (parts_at sheets k.chunk_id k.passed))) cursor in
            let none : length (delivered_by b q limit) ≡ 0 = ap (λ (ls : List Link). length (delivered_of (is_marked (sequence_in b.sequences q)) ls)) e in
            record {
              inside = subst (λ (k : Cursor). Inside sheets k.chunk_id k.passed) (sym cursor) inside;
              count = omega (arith, same, none);
              all = whole;
            }
        by_passed (link ∷ links) e =
            let cursor : (sequence_in (with_read b q limit).sequences q).cursor ≡ begin_of (left_by limit (row_from_cursor b (sequence_in b.sequences q))) =
            ap (λ (x : Sequence). x.cursor) now
            ∙ cursor_is limit (row_from_cursor b (sequence_in b.sequences q)) (sequence_in b.sequences q).cursor
            (row_adjacent (sequence_in b.sequences q).closed
            (slots_of b (sequence_in b.sequences q) (sequence_in b.sequences q).cursor.chunk_id (horizon (sequence_in b.sequences q) - (sequence_in b.sequences q).cursor.chunk_id))
            (sequence_in b.sequences q).cursor.chunk_id (sequence_in b.sequences q).cursor.passed
            (met_some sheets q came closed later b met (horizon (sequence_in b.sequences q) - (sequence_in b.sequences q).cursor.chunk_id) (sequence_in b.sequences q).cursor.chunk_id))
            ∙ ap (λ (ls : List Link). reader_after (sequence_in b.sequences q).cursor ls (left_by limit (row_from_cursor b (sequence_in b.sequences q)))) e in
            let at = held_stands sheets (sequence_in b.sequences q).closed (sequence_in b.sequences q).closed (left_by limit (row_from_cursor b (sequence_in b.sequences q))) read.behind read.holds in
            let same : ahead (sequence_in (with_read b q limit).sequences q) ≡ wholes (packets_in read.behind) =
            ap (λ (k : Cursor). wholes (packets_in (parts_at sheets k.chunk_id k.passed))) cursor ∙ ap (λ ps. wholes (packets_in ps)) at.0 in
            let count = read.count in
            record {
              inside = subst (λ (k : Cursor). Inside sheets k.chunk_id k.passed) (sym cursor) at.1;
              count = omega (arith, same, count);
              all = whole;
            }

  -- Histories

  module _ (packets : ℕ) where
    abbrev Rest : List Event → Type 0
    Rest events = (b : Buffer) (came : List ℕ) (closed : Bool) → IsOn sheets q came closed b events → IsFull sheets q (patches_to q events) b → AllSettle sheets q events
        → b.next + asked b events ≤ b.room → Inside sheets (sequence_in b.sequences q).cursor.chunk_id (sequence_in b.sequences q).cursor.passed
        → ahead (sequence_in b.sequences q) ≤ packets → IsReadLast q packets b events → ahead (sequence_in b.sequences q) ≤ length (delivered_to q b events)

    over : (came : List ℕ) (closed : Bool) (events : List Event) → AreCommitted sheets q came closed events → closed ≡ true → patches_to q events ≡ []
    over came closed events committed c =
        ap patches_brought (none_committed sheets q came events (subst (λ (x : Bool). AreCommitted sheets q came x events) c committed))

    rest_settle : (event : Event) (events : List Event) → AllSettle sheets q (event ∷ events) → AllSettle sheets q events
    rest_settle (Arrives other id chunk) events h = h
    rest_settle (ArrivesInPart other id chunk) events h = h
    rest_settle (Patched other patches) events h = h
    rest_settle (Committed image patches) events h = h.1
    rest_settle (Closed other) events h = h
    rest_settle (Read other limit) events h = h

    -- the read of the sequence
    own_all : (b : Buffer) (came : List ℕ) (closed : Bool) (limit : ℕ) (events : List Event) → Rest events → IsOn sheets q came closed b (Read q limit ∷ events)
        → IsFull sheets q (patches_to q events) b → AllSettle sheets q events → b.next + asked b (Read q limit ∷ events) ≤ b.room
        → Inside sheets (sequence_in b.sequences q).cursor.chunk_id (sequence_in b.sequences q).cursor.passed
        → ahead (sequence_in b.sequences q) ≤ packets → IsReadLast q packets b (Read q limit ∷ events)
        → ahead (sequence_in b.sequences q) ≤ length (delivered_by b q limit ++ delivered_to q (with_read b q limit) events)
    own_all b came closed limit events rest on full settle fits inside few last = by_last last
      where
        is : IsReadBy came closed (patches_to q events) b on.met full (over came closed events on.committed) limit
        is = read_by came closed (patches_to q events) b on.met full (over came closed events on.committed) limit inside

        long : length (delivered_by b q limit ++ delivered_to q (with_read b q limit) events) ≡ length (delivered_by b q limit) + length (delivered_to q (with_read b q limit) events)
        long = length-append (delivered_by b q limit) (delivered_to q (with_read b q limit) events)

        now : with_read b q limit ≡ buffer_after b (Read q limit)
        now = taken b (Read q limit) on.met.known

        grows : Grows b (buffer_after b (Read q limit)) (cond (is_known b.sequences q) (asks b (Read q limit)) 0)
        grows = event_grows b (Read q limit) full.roomy (omega (arith, fits))

        by_last : ((n : ℕ) × (Read q limit ≡ Read q n) × ((sequence_in b.sequences q).closed ≡ true) × (packets ≤ n)) ⊎ IsReadLast q packets (buffer_after b (Read q limit)) events
            → ahead (sequence_in b.sequences q) ≤ length (delivered_by b q limit ++ delivered_to q (with_read b q limit) events)
        by_last (inl h) =
            let same : limit ≡ h.0 = cc in
            let enough = h.3 in
            let given = is.all h.2 (omega (arith, few, enough, same)) in
            let l = long in
            omega (arith, given, l)
        by_last (inr h) =
            let count = is.count in
            let l = long in
            let g = grows in
            let next = g.next in
            let room = g.room in
            let fits' : (buffer_after b (Read q limit)).next + asked (buffer_after b (Read q limit)) events ≤ (buffer_after b (Read q limit)).room = omega (arith, fits, next, room) in
            let more = rest (with_read b q limit) came closed
            (record {
              met = read_met sheets q came closed (patches_to q events) limit b on.met;
              committed = on.committed;
              accepted = subst (λ (c : Buffer). NoneIsRefused q c events) (sym now) on.accepted;
            })
            (record {
              roomy = record { below = full.roomy.below; unshut = full.roomy.unshut };
              all = λ i a. full.all i (sym (ap (λ (s : Sequence). is_among i s.arrived) (read_now q limit b on.met.known)) ∙ a);
              waits = full.waits;
            })
            settle (subst (λ (c : Buffer). c.next + asked c events ≤ c.room) (sym now) fits') is.inside (omega (arith, count, few)) (subst (λ (c : Buffer). IsReadLast q packets c events) (sym now) h) in
            omega (arith, count, l, more)

    pub delivers_wholes : (events : List Event) → Rest events
    delivers_wholes [] b came closed on full settle fits inside few last = absurd last
    delivers_wholes (event ∷ events) b came closed on full settle fits inside few last = by_read (is_read_of q event) refl (delivers_wholes events)
      where
        low : b.next + cond (is_known b.sequences (event_sequence event)) (asks b event) 0 ≤ b.room
        low = omega (arith, fits)

        not_last : is_read_of q event ≡ false → ((limit : ℕ) × (event ≡ Read q limit) × ((sequence_in b.sequences q).closed ≡ true) × (packets ≤ limit)) ⊎ IsReadLast q packets (buffer_after b event) events
            → IsReadLast q packets (buffer_after b event) events
        not_last e (inl h) = absurd (false≢true (sym e ∙ ap (is_read_of q) h.1 ∙ eq-eqb q q refl))
        not_last e (inr h) = h

        by_read : (x : Bool) → is_read_of q event ≡ x → Rest events → ahead (sequence_in b.sequences q) ≤ length (delivered_at q b event ++ delivered_to q (buffer_after b event) events)
        by_read false e rest =
            let goes = event_on sheets q came closed b events event e on inside in
            let now = event_full sheets q came closed b events event e on full settle inside low in
            let grows = event_grows b event full.roomy low in
            let next = grows.next in
            let room = grows.room in
            let cursor = goes.reader.cursor in
            let same : ahead (sequence_in (buffer_after b event).sequences q) ≡ ahead (sequence_in b.sequences q) =
            ap (λ (k : Cursor). wholes (packets_in (parts_at sheets k.chunk_id k.passed))) cursor in
            let more = rest (buffer_after b event) goes.came goes.closed goes.on now (rest_settle event events settle) (omega (arith, fits, next, room))
            (subst (λ (k : Cursor). Inside sheets k.chunk_id k.passed) (sym cursor) inside) (omega (arith, few, same)) (not_last e last) in
            subst (λ (ds : List Delivery). ahead (sequence_in b.sequences q) ≤ length (ds ++ delivered_to q (buffer_after b event) events)) (sym (none_delivered q b event e)) (omega (arith, more, same))
        by_read true e rest = own (own_read q event e).0 (own_read q event e).1
          where
            own : (limit : ℕ) → event ≡ Read q limit → ahead (sequence_in b.sequences q) ≤ length (delivered_at q b event ++ delivered_to q (buffer_after b event) events)
            own limit same =
                let all = own_all b came closed limit events rest (subst (λ (ev : Event). IsOn sheets q came closed b (ev ∷ events)) same on)
                (subst (λ (ev : Event). IsFull sheets q (patches_to q (ev ∷ events)) b) same full) (rest_settle event events settle)
                (subst (λ (ev : Event). b.next + asked b (ev ∷ events) ≤ b.room) same fits) inside few
                (subst (λ (ev : Event). IsReadLast q packets b (ev ∷ events)) same last) in
                subst (λ (ev : Event). ahead (sequence_in b.sequences q) ≤ length (delivered_at q b ev ++ delivered_to q (buffer_after b ev) events)) (sym same)
                (subst (λ (x : Bool). ahead (sequence_in b.sequences q) ≤ length (cond x (delivered_by b q limit) [] ++ delivered_to q (buffer_after b (Read q limit)) events)) (sym (eq-eqb q q refl))
                (subst (λ (c : Buffer). ahead (sequence_in b.sequences q) ≤ length (delivered_by b q limit ++ delivered_to q c events)) (taken b (Read q limit) on.met.known) all))
