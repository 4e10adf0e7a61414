-- Every history of commits tells: event by event, what is known is kept, and each read tells from where its reader stands.
use Rattle.std.proofs.Common.{◌≡◌, ◌∙◌, ℕ, ◌+◌, ◌-◌, ◌<◌, ◌⊎◌, Bool, true, false, not, ◌||◌, List, [], ◌∷◌, ◌++◌, refl, sym, ap, subst, arith, inl, inr}
use Rattle.std.specs.Prelude.{cond, ◌==◌}
use Rattle.std.proofs.lemmas.Bool.{false≢true, eq-eqb, ne_eqb}
use Rattle.trace_base.specs.declared.policy.FullPolicy.{FullPolicy}
use Rattle.trace_model.specs.Buffers.{Buffer, empty_buffer}
use Rattle.trace_model.specs.Counts.{raised}
use Rattle.trace_model.specs.History.{Event, Read, buffer_after, delivered_at, delivered_to}
use Rattle.trace_model.specs.Images.{Patch}
use Rattle.trace_model.specs.Reads.{Delivery, count_of, delivered_by, delivered_of, delivers, is_marked, left_by, missing_after, passed_by, sequence_after, turn_of, with_read}
use Rattle.trace_model.specs.Row.{Link, horizon, row_from_cursor, slots_of}
use Rattle.trace_model.specs.Sequences.{Cursor, Sequence, IsFresh, is_known, sequence_in}
use Rattle.model_laws.proofs.PlaceCounts.{count-cons}
use Rattle.delivery_laws.specs.Histories.{AreTold}
use Rattle.delivery_laws.specs.Sheets.{Part, Sheet, SheetsAgree, all_parts, packets_in}
use Rattle.delivery_laws.proofs.AdjacentLemmas.{begin_of, cursor_is, reader_after, row_adjacent}
use Rattle.delivery_laws.proofs.CalmLemmas.{Nowhere}
use Rattle.delivery_laws.proofs.DeliversAll.{taken}
use Rattle.delivery_laws.proofs.HistoryLemmas.{walk_stands}
use Rattle.delivery_laws.proofs.KeepLemmas.{SameReader}
use Rattle.delivery_laws.proofs.OwnEvents.{read_now}
use Rattle.delivery_laws.proofs.ReadTells.{IsBefore, read_tells}
use Rattle.delivery_laws.proofs.RowWalks.{all_at_start, inside_first}
use Rattle.delivery_laws.proofs.Walks.{Inside, StandsAt, parts_at}
use Rattle.commit_laws.specs.CommitHistories.{EveryCommitHistoryTells, patches_to}
use Rattle.commit_laws.specs.Commits.{NoneIsRefused}
use Rattle.commit_laws.proofs.CommitEvents.{read_met}
use Rattle.commit_laws.proofs.CommitSteps.{IsOn, event_on, is_read_of, none_delivered, own_read}
use Rattle.commit_laws.proofs.MetRecords.{IsMet, met_some, met_walks}

-- Marks: behind links of which the last was delivered something was delivered

some_delivered : (missing : Bool) (links : List Link) → missing_after missing links ≡ false → (missing ≡ false) ⊎ (0 < count_of delivers links)
some_delivered missing [] none = inl none
some_delivered missing (link ∷ links) none =
    by_first (delivers (turn_of link)) refl (count-cons (λ (l : Link). delivers (turn_of l)) link links) (some_delivered (not (delivers (turn_of link))) links none)
  where
    by_first : (b : Bool) → delivers (turn_of link) ≡ b → count_of delivers (link ∷ links) ≡ cond {A = ℕ} (delivers (turn_of link)) 1 0 + count_of delivers links
        → ((not (delivers (turn_of link)) ≡ false) ⊎ (0 < count_of delivers links)) → (missing ≡ false) ⊎ (0 < count_of delivers (link ∷ links))
    by_first true e counted rest = inr (let one = ap (λ (b : Bool). cond {A = ℕ} b 1 0) e in omega (arith, counted, one))
    by_first false e counted (inl h) = absurd (false≢true (sym h ∙ ap not e))
    by_first false e counted (inr h) = inr (omega (arith, counted, h))

marked_behind : (s : Sequence) (link : Link) (links : List Link) → is_marked (sequence_after (link ∷ links) s) ≡ missing_after (is_marked s) (link ∷ links)
marked_behind s link links = by_missing (missing_after s.missing (link ∷ links)) refl
  where
    counted : (n : ℕ) → 0 < n → (raised s.delivered n == 0) ≡ false
    counted n some = ne_eqb (raised s.delivered n) 0 (λ none. let up : 0 < raised s.delivered n = omega (arith, some) in omega (arith, up, none))

    by_missing : (m : Bool) → missing_after s.missing (link ∷ links) ≡ m → (m || (raised s.delivered (count_of delivers (link ∷ links)) == 0)) ≡ m
    by_missing true e = refl
    by_missing false e = by_some (some_delivered true (link ∷ links) e)
      where
        by_some : (true ≡ false) ⊎ (0 < count_of delivers (link ∷ links)) → (raised s.delivered (count_of delivers (link ∷ links)) == 0) ≡ false
        by_some (inl h) = absurd (false≢true (sym h))
        by_some (inr h) = counted (count_of delivers (link ∷ links)) h

module _ (sheets : List Sheet) (agree : SheetsAgree false sheets) (q : ℕ) where
  -- a reader that is inside what was written
  record IsReader (first : Bool) (next : ℕ) (s : Sequence) : Type 0 where
    inside : Inside sheets s.cursor.chunk_id s.cursor.passed
    before : IsBefore (packets_in (all_parts sheets)) (is_marked s) first next (parts_at sheets s.cursor.chunk_id s.cursor.passed)

  same_reader : (first : Bool) (next : ℕ) (s t : Sequence) → SameReader s t → IsReader first next s → IsReader first next t
  same_reader first next s t same is = record {
    inside = subst (λ (c : Cursor). Inside sheets c.chunk_id c.passed) (sym same.cursor) is.inside;
    before = subst (λ (c : Cursor). IsBefore (packets_in (all_parts sheets)) (is_marked t) first next (parts_at sheets c.chunk_id c.passed)) (sym same.cursor)
        (subst (λ (m : Bool). IsBefore (packets_in (all_parts sheets)) m first next (parts_at sheets s.cursor.chunk_id s.cursor.passed))
        (ap (λ (b : Bool). b || (s.delivered == 0)) (sym same.missing) ∙ ap (λ (n : ℕ). t.missing || (n == 0)) (sym same.delivered)) is.before);
  }

  -- whatever is known then, the events tell
  abbrev Rest : List Event → Type 0
  Rest events = (b : Buffer) (came : List ℕ) (closed : Bool) (first : Bool) (next : ℕ) → IsOn sheets q came closed b events
      → IsReader first next (sequence_in b.sequences q) → AreTold (packets_in (all_parts sheets)) first next (delivered_to q b events)

  module _ (b : Buffer) (came : List ℕ) (closed : Bool) (first : Bool) (next limit : ℕ) (events : List Event) (rest : Rest events)
      (met : IsMet sheets q came closed (patches_to q events) b) (reader : IsReader first next (sequence_in b.sequences q))
      (on : IsOn sheets q came closed (with_read b q limit) events) where
    abbrev row : List Link
    row = row_from_cursor b (sequence_in b.sequences q)

    now : sequence_in (with_read b q limit).sequences q ≡ sequence_after (passed_by limit (row_from_cursor b (sequence_in b.sequences q))) (sequence_in b.sequences q)
    now = read_now q limit b met.known

    -- a read passes nothing
    none_passed : passed_by limit row ≡ [] → AreTold (packets_in (all_parts sheets)) first next (delivered_by b q limit ++ delivered_to q (with_read b q limit) events)
    none_passed none =
        let same : sequence_in (with_read b q limit).sequences q ≡ sequence_after [] (sequence_in b.sequences q) = now ∙ ap (λ (ls : List Link). sequence_after ls (sequence_in b.sequences q)) none in
        subst (λ (ls : List Link). AreTold (packets_in (all_parts sheets)) first next (delivered_of (is_marked (sequence_in b.sequences q)) ls ++ delivered_to q (with_read b q limit) events)) (sym none)
        (rest (with_read b q limit) came closed first next on
        (same_reader first next (sequence_in b.sequences q) (sequence_in (with_read b q limit).sequences q)
        (record {
          cursor = ap (λ (x : Sequence). x.cursor) same;
          missing = ap (λ (x : Sequence). x.missing) same;
          delivered = ap (λ (x : Sequence). x.delivered) same ∙ omega arith;
        }) reader))

    -- a read passes something
    some_passed : (link : Link) (links : List Link) → passed_by limit row ≡ link ∷ links
        → AreTold (packets_in (all_parts sheets)) first next (delivered_by b q limit ++ delivered_to q (with_read b q limit) events)
    some_passed link links some =
        read_tells (StandsAt sheets) Nowhere (packets_in (all_parts sheets)) (delivered_to q (with_read b q limit) events) row limit (is_marked (sequence_in b.sequences q)) first next
        (parts_at sheets (sequence_in b.sequences q).cursor.chunk_id (sequence_in b.sequences q).cursor.passed)
        (met_walks sheets q came closed (patches_to q events) b met agree reader.inside)
        reader.before
        (λ first' next' parts walks before.
        rest (with_read b q limit) came closed first' next' on
        (stands first' next' parts before (walk_stands (StandsAt sheets) Nowhere (left_by limit row) parts walks)))
      where
        cursor_now : (sequence_in (with_read b q limit).sequences q).cursor ≡ begin_of (left_by limit row)
        cursor_now =
            ap (λ (x : Sequence). x.cursor) now
            ∙ cursor_is limit row (sequence_in b.sequences q).cursor
            (row_adjacent (sequence_in b.sequences q).closed
            (slots_of b (sequence_in b.sequences q) (sequence_in b.sequences q).cursor.chunk_id (horizon (sequence_in b.sequences q) - (sequence_in b.sequences q).cursor.chunk_id))
            (sequence_in b.sequences q).cursor.chunk_id (sequence_in b.sequences q).cursor.passed
            (met_some sheets q came closed (patches_to q events) b met (horizon (sequence_in b.sequences q) - (sequence_in b.sequences q).cursor.chunk_id) (sequence_in b.sequences q).cursor.chunk_id))
            ∙ ap (λ (ls : List Link). reader_after (sequence_in b.sequences q).cursor ls (left_by limit row)) some

        marked_now : is_marked (sequence_in (with_read b q limit).sequences q) ≡ missing_after (is_marked (sequence_in b.sequences q)) (passed_by limit row)
        marked_now =
            ap is_marked now
            ∙ ap (λ (ls : List Link). is_marked (sequence_after ls (sequence_in b.sequences q))) some
            ∙ marked_behind (sequence_in b.sequences q) link links
            ∙ ap (missing_after (is_marked (sequence_in b.sequences q))) (sym some)

        stands : (first' : Bool) (next' : ℕ) (parts : List Part)
            → IsBefore (packets_in (all_parts sheets)) (missing_after (is_marked (sequence_in b.sequences q)) (passed_by limit row)) first' next' parts
            → (StandsAt sheets (begin_of (left_by limit row)).chunk_id (begin_of (left_by limit row)).passed parts ⊎ ⊥)
            → IsReader first' next' (sequence_in (with_read b q limit).sequences q)
        stands first' next' parts before (inr nowhere) = absurd nowhere
        stands first' next' parts before (inl at) = record {
          inside = subst (λ (c : Cursor). Inside sheets c.chunk_id c.passed) (sym cursor_now) at.1;
          before = subst (λ (c : Cursor). IsBefore (packets_in (all_parts sheets)) (is_marked (sequence_in (with_read b q limit).sequences q)) first' next' (parts_at sheets c.chunk_id c.passed)) (sym cursor_now)
              (subst (λ (ps : List Part). IsBefore (packets_in (all_parts sheets)) (is_marked (sequence_in (with_read b q limit).sequences q)) first' next' ps) (sym at.0)
              (subst (λ (m : Bool). IsBefore (packets_in (all_parts sheets)) m first' next' parts) (sym marked_now) before));
        }

    own_tells : AreTold (packets_in (all_parts sheets)) first next (delivered_by b q limit ++ delivered_to q (with_read b q limit) events)
    own_tells = by_passed (passed_by limit row) refl
      where
        by_passed : (ls : List Link) → passed_by limit row ≡ ls → AreTold (packets_in (all_parts sheets)) first next (delivered_by b q limit ++ delivered_to q (with_read b q limit) events)
        by_passed [] e = none_passed e
        by_passed (link ∷ links) e = some_passed link links e

  commits_tell : (events : List Event) → Rest events
  commits_tell [] b came closed first next on reader = tt
  commits_tell (event ∷ events) b came closed first next on reader = by_read (is_read_of q event) refl (commits_tell events)
    where
      by_read : (x : Bool) → is_read_of q event ≡ x → Rest events
          → AreTold (packets_in (all_parts sheets)) first next (delivered_at q b event ++ delivered_to q (buffer_after b event) events)
      by_read false e rest =
          let goes = event_on sheets q came closed b events event e on reader.inside in
          subst (λ (ds : List Delivery). AreTold (packets_in (all_parts sheets)) first next (ds ++ delivered_to q (buffer_after b event) events)) (sym (none_delivered q b event e))
          (rest (buffer_after b event) goes.came goes.closed first next goes.on
          (same_reader first next (sequence_in b.sequences q) (sequence_in (buffer_after b event).sequences q) goes.reader reader))
      by_read true e rest = own (own_read q event e).0 (own_read q event e).1
        where
          own : (limit : ℕ) → event ≡ Read q limit → AreTold (packets_in (all_parts sheets)) first next (delivered_at q b event ++ delivered_to q (buffer_after b event) events)
          own limit same =
              let on' : IsOn sheets q came closed b (Read q limit ∷ events) = subst (λ (ev : Event). IsOn sheets q came closed b (ev ∷ events)) same on in
              let read : with_read b q limit ≡ buffer_after b (Read q limit) = taken b (Read q limit) on'.met.known in
              let told = own_tells b came closed first next limit events rest on'.met reader
              (record {
                met = read_met sheets q came closed (patches_to q events) limit b on'.met;
                committed = on'.committed;
                accepted = subst (λ (c : Buffer). NoneIsRefused q c events) (sym read) on'.accepted;
              }) in
              subst (λ (ev : Event). AreTold (packets_in (all_parts sheets)) first next (delivered_at q b ev ++ delivered_to q (buffer_after b ev) events)) (sym same)
              (subst (λ (x : Bool). AreTold (packets_in (all_parts sheets)) first next (cond x (delivered_by b q limit) [] ++ delivered_to q (buffer_after b (Read q limit)) events)) (sym (eq-eqb q q refl))
              (subst (λ (c : Buffer). AreTold (packets_in (all_parts sheets)) first next (delivered_by b q limit ++ delivered_to q c events)) read told))

-- At the start of a history

pub fresh_met : (sheets : List Sheet) (q record_size room : ℕ) (policy : FullPolicy) (sequences : List Sequence) (later : List Patch) → is_known sequences q ≡ true
    → IsFresh q record_size (sequence_in sequences q) → IsMet sheets q [] false later (empty_buffer room policy sequences)
fresh_met sheets q record_size room policy sequences later known start = record {
  known = known;
  arrived = ap (λ (s : Sequence). s.arrived) start;
  shut = ap (λ (s : Sequence). s.closed) start;
  none = ap (λ (s : Sequence). s.final) start;
  sheet_of = λ i h. absurd (false≢true h);
  all = λ c. absurd (false≢true c);
  live = tt;
}

pub every_commit_history_tells : EveryCommitHistoryTells
every_commit_history_tells sheets q record_size room policy sequences events agree known start committed accepted =
    commits_tell sheets agree q events (empty_buffer room policy sequences) [] false true 0
    (record {
      met = fresh_met sheets q record_size room policy sequences (patches_to q events) known start;
      committed = committed;
      accepted = accepted;
    })
    (subst (IsReader sheets agree q true 0) (sym start) (record {
      inside = inside_first sheets false 0 agree;
      before = record {
        at = 0;
        from = ap packets_in (sym (all_at_start sheets));
        rising = omega arith;
        unmarked = λ e. absurd (false≢true (sym e));
        skipped = λ e. inl refl;
      };
    }))
