-- Each event fixes outcomes that weren't fixed before, and no two of one packet.
use Rattle.std.proofs.Common.{◌≡◌, ◌∙◌, ℕ, Bool, true, false, not, ◌&&◌, ◌||◌, List, [], ◌∷◌, map, length, refl, sym, ap, subst, inl, inr}
use Rattle.std.specs.Prelude.{filter, cond, ◌⊎◌, ◌==◌, find, Some, is_some}
use Rattle.std.proofs.lemmas.Bool.{cases_eq, and_parts, or_parts, eq-eqb, ne_eqb, eqb-true, false≢true}
use Rattle.std.proofs.Math.Bool.{and-false}
use Rattle.trace_model.specs.Images.{Chunk, complete_chunk, partial_chunk}
use Rattle.trace_model.specs.Places.{place_after}
use Rattle.trace_model.specs.Sequences.{Sequence, has_arrived, sequence_in, is_known, changed_at, unread_of}
use Rattle.trace_model.specs.Buffers.{Buffer, BufferRecord, is_of, live_at, meets, with_losses}
use Rattle.trace_model.specs.Arrivals.{Arrived, Kept, Rewritten, Duplicate, Discarded, TooFar, BadChunk, arrival_of, partial_arrival_of, is_refused, is_too_far, has_as_many, settled, arrival_noted, with_arrived, with_discarded}
use Rattle.trace_model.specs.Causes.{Fixed, fixed_by_arrival, unread_start_places, lost_at}
use Rattle.trace_model.specs.RowLaws.{UpTo}
use Rattle.trace_model.proofs.CursorLemmas.{Each, each-append, each-then}
use Rattle.trace_model.proofs.SequenceLemmas.{number_of}
use Rattle.trace_model.proofs.LossPlaceLemmas.{AreUnread, unread_places}
use Rattle.trace_model.proofs.RecordLemmas.{NoneOf}
use Rattle.trace_model.proofs.FixedLemmas.{later_same, IsFixed, IsNew, new_apart, Holds, Steps, steps_none, Turns, turns_both, holds_mapped, holds_turned}
use Rattle.trace_model.proofs.ArrivalLemmas.{turns_losses, turns_arrived, turns_discarded, has_come, IsFreshRecord, placed_steps}

-- What an outcome says of the chunk

abbrev pub Facts : Buffer → ℕ → ℕ → Arrived → Type 0
Facts b p chunk_id Kept = (has_arrived (sequence_in b.sequences p) chunk_id ≡ false) × NoneOf p chunk_id b.live
Facts b p chunk_id Discarded = (has_arrived (sequence_in b.sequences p) chunk_id ≡ false) × NoneOf p chunk_id b.live
Facts b p chunk_id Rewritten = Unit {0}
Facts b p chunk_id Duplicate = Unit {0}
Facts b p chunk_id TooFar = Unit {0}
Facts b p chunk_id (BadChunk fragment) = Unit {0}

none_found : (test : BufferRecord → Bool) (rs : List BufferRecord) → is_some (find test rs) ≡ false → Each (λ r. test r ≡ false) rs
none_found test [] h = tt
none_found test (r ∷ rs) h = step (test r) refl h (none_found test rs)
  where
    step : (b : Bool) → test r ≡ b → is_some (cond b (Some r) (find test rs)) ≡ false → (is_some (find test rs) ≡ false → Each (λ t. test t ≡ false) rs)
        → (test r ≡ false) × Each (λ t. test t ≡ false) rs
    step true e h k = absurd (false≢true (sym h))
    step false e h k = (e, k h)

module _ (b : Buffer) (p chunk_id : ℕ) where
  placing_facts : has_arrived (sequence_in b.sequences p) chunk_id ≡ false → (x : Bool) → is_some (live_at b p chunk_id) ≡ x → (y : Bool)
      → Facts b p chunk_id (cond x Rewritten (cond y Discarded Kept))
  placing_facts absent true e y = tt
  placing_facts absent false e true = (absent, none_found (is_of p chunk_id) b.live e)
  placing_facts absent false e false = (absent, none_found (is_of p chunk_id) b.live e)

  facts_from : (x : Bool) → (x ≡ false → has_arrived (sequence_in b.sequences p) chunk_id ≡ false) → (y : Bool)
      → Facts b p chunk_id (cond x Duplicate (cond y TooFar
      (cond (is_some (live_at b p chunk_id)) Rewritten (cond (is_refused b (sequence_in b.sequences p).size) Discarded Kept))))
  facts_from true h y = tt
  facts_from false h true = tt
  facts_from false h false = placing_facts (h refl) (is_some (live_at b p chunk_id)) refl (is_refused b (sequence_in b.sequences p).size)

  pub arrival_facts : Facts b p chunk_id (arrival_of b p chunk_id)
  arrival_facts = facts_from (has_arrived (sequence_in b.sequences p) chunk_id) (λ e. e) (is_too_far (sequence_in b.sequences p) chunk_id)

  pub partial_facts : (count : ℕ) → Facts b p chunk_id (partial_arrival_of b p chunk_id count)
  partial_facts count =
      facts_from (has_arrived (sequence_in b.sequences p) chunk_id
      || (has_as_many count (live_at b p chunk_id) || (unread_of (sequence_in b.sequences p) chunk_id count == 0)))
      (λ e. (or_parts (has_arrived (sequence_in b.sequences p) chunk_id)
      (has_as_many count (live_at b p chunk_id) || (unread_of (sequence_in b.sequences p) chunk_id count == 0)) e).0)
      (is_too_far (sequence_in b.sequences p) chunk_id)

-- A chunk of the sequence that gets no place

discarded_steps : (q : ℕ) (closed : Bool) (old new : List Sequence) (live : List BufferRecord) (fixed : List Fixed) (chunk_id : ℕ) (chunk : Chunk)
    → Turns q old new → Holds q closed old live fixed → closed ≡ false → has_arrived (sequence_in old q) chunk_id ≡ false → NoneOf q chunk_id live
    → has_arrived (sequence_in new q) chunk_id ≡ true → Steps q closed new live fixed (map lost_at (unread_start_places (sequence_in old q) chunk_id chunk))
discarded_steps q closed old new live fixed chunk_id chunk turns h opened absent none comes =
    let s : Sequence = sequence_in old q in
    let given : List Fixed = map lost_at (unread_start_places s chunk_id chunk) in
    let are : AreUnread s chunk_id given = unread_places s chunk_id chunk in
    let goes : Holds q closed new live fixed = holds_turned q closed old new live fixed turns h in
    record {
      holds = record {
        known = goes.known;
        once = goes.once;
        come = goes.come;
        shut = goes.shut;
        before = each-append (IsFixed q (sequence_in new q) live) given fixed
            (each-then (λ (f : Fixed). (f.at.chunk_id ≡ chunk_id) × UpTo s.cursor f.at) (IsFixed q (sequence_in new q) live)
            (λ f i. inr (subst (λ (n : ℕ). NoneOf q n live) (sym i.0) none, inl (subst (λ (n : ℕ). has_arrived (sequence_in new q) n ≡ true) (sym i.0) comes))) given are.each)
            goes.before;
      };
      apart = new_apart q s live fixed given h.before
          (each-then (λ (f : Fixed). (f.at.chunk_id ≡ chunk_id) × UpTo s.cursor f.at) (IsNew q s live)
          (λ f i. (i.1, λ gone finished. unfinished f i.0 finished)) given are.each);
      distinct = are.distinct;
    }
  where
    unfinished : (f : Fixed) → f.at.chunk_id ≡ chunk_id → ((has_arrived (sequence_in old q) f.at.chunk_id ≡ true) ⊎ ((sequence_in old q).closed ≡ true)) → ⊥
    unfinished f e (inl a) = false≢true (sym absent ∙ subst (λ (n : ℕ). has_arrived (sequence_in old q) n ≡ true) e a)
    unfinished f e (inr c) = false≢true (sym opened ∙ sym h.shut ∙ c)

-- Arrivals by their outcome

-- the sequence of a record in a new place is p, and it has this chunk
abbrev new_record : Buffer → ℕ → ℕ → Chunk → BufferRecord
new_record b p chunk_id chunk = record {
  sequence = p;
  chunk_id = chunk_id;
  at = place_after b.room b.next (sequence_in b.sequences p).size;
  size = (sequence_in b.sequences p).size;
  chunk = chunk;
}

-- what the outcome of a complete chunk, and of a partial one, leaves
abbrev pub complete_after : Buffer → ℕ → ℕ → Chunk → Arrived → Buffer
complete_after b p chunk_id chunk outcome =
    arrival_noted outcome p chunk_id (length chunk.fragments) (settled outcome b p chunk_id (complete_chunk chunk))

abbrev pub partial_after : Buffer → ℕ → ℕ → Chunk → Arrived → Buffer
partial_after b p chunk_id chunk outcome = settled outcome b p chunk_id (partial_chunk chunk)

abbrev CompleteSteps : ℕ → Bool → Buffer → List Fixed → ℕ → Chunk → ℕ → Arrived → Type 0
CompleteSteps q closed b old chunk_id chunk p outcome =
    is_known b.sequences p ≡ true → (p ≡ q → closed ≡ false) → Facts b p chunk_id outcome
    → Steps q closed (complete_after b p chunk_id chunk outcome).sequences (complete_after b p chunk_id chunk outcome).live old
    (fixed_by_arrival b (sequence_in b.sequences q) (sequence_in b.sequences p) outcome false chunk_id chunk)

abbrev PartialSteps : ℕ → Bool → Buffer → List Fixed → ℕ → Chunk → ℕ → Arrived → Type 0
PartialSteps q closed b old chunk_id chunk p outcome =
    is_known b.sequences p ≡ true → (p ≡ q → closed ≡ false) → Facts b p chunk_id outcome
    → Steps q closed (partial_after b p chunk_id chunk outcome).sequences (partial_after b p chunk_id chunk outcome).live old
    (fixed_by_arrival b (sequence_in b.sequences q) (sequence_in b.sequences p) outcome true chunk_id chunk)

-- the record of another sequence
fresh_other : (q p : ℕ) (closed : Bool) (s t : Sequence) (live : List BufferRecord) (r : BufferRecord) → r.sequence ≡ p → (p ≡ q → ⊥) → (r.sequence == q) ≡ true
    → IsFreshRecord q closed s t live r
fresh_other q p closed s t live r e d same = absurd (d (sym e ∙ eqb-true r.sequence q same))

-- a record of the chunk is rewritten
rewritten_same : (p chunk_id : ℕ) (chunk : Chunk) (r : BufferRecord) → ((cond (is_of p chunk_id r) (record r { chunk = chunk }) r).sequence ≡ r.sequence)
    × ((cond (is_of p chunk_id r) (record r { chunk = chunk }) r).chunk_id ≡ r.chunk_id)
rewritten_same p chunk_id chunk r = step (is_of p chunk_id r)
  where
    step : (x : Bool) → ((cond x (record r { chunk = chunk }) r).sequence ≡ r.sequence) × ((cond x (record r { chunk = chunk }) r).chunk_id ≡ r.chunk_id)
    step true = (refl, refl)
    step false = (refl, refl)

rewritten_comes : (q p chunk_id : ℕ) (chunk : Chunk) (s t : Sequence) → ((i : ℕ) → has_arrived s i ≡ true → has_arrived t i ≡ true)
    → (p ≡ q → chunk.partial ≡ false → has_arrived t chunk_id ≡ true)
    → (r : BufferRecord) → ((r.sequence == q) ≡ true → r.chunk.partial ≡ false → has_arrived s r.chunk_id ≡ true)
    → ((cond (is_of p chunk_id r) (record r { chunk = chunk }) r).sequence == q) ≡ true → (cond (is_of p chunk_id r) (record r { chunk = chunk }) r).chunk.partial ≡ false
    → has_arrived t (cond (is_of p chunk_id r) (record r { chunk = chunk }) r).chunk_id ≡ true
rewritten_comes q p chunk_id chunk s t later comes r come = step (is_of p chunk_id r) refl
  where
    step : (x : Bool) → is_of p chunk_id r ≡ x → ((cond x (record r { chunk = chunk }) r).sequence == q) ≡ true → (cond x (record r { chunk = chunk }) r).chunk.partial ≡ false
        → has_arrived t (cond x (record r { chunk = chunk }) r).chunk_id ≡ true
    step true e same whole =
        let parts = and_parts (r.sequence == p) (r.chunk_id == chunk_id) e in
        subst (λ (n : ℕ). has_arrived t n ≡ true) (sym (eqb-true r.chunk_id chunk_id parts.1))
        (comes (sym (eqb-true r.sequence p parts.0) ∙ eqb-true r.sequence q same) whole)
    step false e same whole = later r.chunk_id (come same whole)

-- Of the sequence itself

complete_own : (q : ℕ) (closed : Bool) (b : Buffer) (old : List Fixed) → Holds q closed b.sequences b.live old → (chunk_id : ℕ) (chunk : Chunk) (outcome : Arrived)
    → CompleteSteps q closed b old chunk_id chunk q outcome
complete_own q closed b old h chunk_id chunk Kept known opened facts =
    let lost : List BufferRecord = filter (meets b (sequence_in b.sequences q).size) b.live in
    let middle : List Sequence = map (with_losses lost) b.sequences in
    let first : Turns q b.sequences middle = turns_losses q lost b.sequences h.known in
    let turns : Turns q b.sequences (changed_at q (with_arrived chunk_id (length chunk.fragments)) middle) =
    turns_both q b.sequences middle (changed_at q (with_arrived chunk_id (length chunk.fragments)) middle) first
    (turns_arrived q q chunk_id (length chunk.fragments) middle first.known) in
    placed_steps q closed b.sequences (changed_at q (with_arrived chunk_id (length chunk.fragments)) middle) b.live old (meets b (sequence_in b.sequences q).size)
    (new_record b q chunk_id (complete_chunk chunk)) turns h
    (λ e. record { opened = opened refl; absent = facts.0; none = facts.1; comes = λ whole. has_come q chunk_id (length chunk.fragments) middle first.known })
complete_own q closed b old h chunk_id chunk Rewritten known opened facts =
    let turns : Turns q b.sequences (changed_at q (with_arrived chunk_id (length chunk.fragments)) b.sequences) =
    turns_arrived q q chunk_id (length chunk.fragments) b.sequences h.known in
    steps_none q closed (complete_after b q chunk_id chunk Rewritten).sequences (complete_after b q chunk_id chunk Rewritten).live old
    (holds_mapped q closed b.sequences (changed_at q (with_arrived chunk_id (length chunk.fragments)) b.sequences) b.live old
    (λ (r : BufferRecord). cond (is_of q chunk_id r) (record r { chunk = complete_chunk chunk }) r) (rewritten_same q chunk_id (complete_chunk chunk)) turns
    (rewritten_comes q q chunk_id (complete_chunk chunk) (sequence_in b.sequences q) (sequence_in (changed_at q (with_arrived chunk_id (length chunk.fragments)) b.sequences) q)
    turns.later.arrived (λ e whole. has_come q chunk_id (length chunk.fragments) b.sequences h.known)) h)
complete_own q closed b old h chunk_id chunk Duplicate known opened facts = steps_none q closed b.sequences b.live old h
complete_own q closed b old h chunk_id chunk Discarded known opened facts =
    let middle : List Sequence = changed_at q (with_discarded chunk_id (complete_chunk chunk)) b.sequences in
    let first : Turns q b.sequences middle = turns_discarded q q chunk_id (complete_chunk chunk) b.sequences h.known in
    let new : List Sequence = changed_at q (with_arrived chunk_id (length chunk.fragments)) middle in
    let turns : Turns q b.sequences new = turns_both q b.sequences middle new first (turns_arrived q q chunk_id (length chunk.fragments) middle first.known) in
    let is : (((sequence_in b.sequences q).number == (sequence_in b.sequences q).number) && not false) ≡ true =
    ap (λ (x : Bool). x && true) (eq-eqb (sequence_in b.sequences q).number (sequence_in b.sequences q).number refl) in
    subst (λ (x : Bool). Steps q closed new b.live old (cond x (map lost_at (unread_start_places (sequence_in b.sequences q) chunk_id chunk)) [])) (sym is)
    (discarded_steps q closed b.sequences new b.live old chunk_id chunk turns h (opened refl) facts.0 facts.1
    (has_come q chunk_id (length chunk.fragments) middle first.known))
complete_own q closed b old h chunk_id chunk TooFar known opened facts = steps_none q closed b.sequences b.live old h
complete_own q closed b old h chunk_id chunk (BadChunk fragment) known opened facts = steps_none q closed b.sequences b.live old h

partial_own : (q : ℕ) (closed : Bool) (b : Buffer) (old : List Fixed) → Holds q closed b.sequences b.live old → (chunk_id : ℕ) (chunk : Chunk) (outcome : Arrived)
    → PartialSteps q closed b old chunk_id chunk q outcome
partial_own q closed b old h chunk_id chunk Kept known opened facts =
    let lost : List BufferRecord = filter (meets b (sequence_in b.sequences q).size) b.live in
    placed_steps q closed b.sequences (map (with_losses lost) b.sequences) b.live old (meets b (sequence_in b.sequences q).size)
    (new_record b q chunk_id (partial_chunk chunk)) (turns_losses q lost b.sequences h.known) h
    (λ e. record { opened = opened refl; absent = facts.0; none = facts.1; comes = λ whole. absurd (false≢true (sym whole)) })
partial_own q closed b old h chunk_id chunk Rewritten known opened facts =
    steps_none q closed b.sequences (partial_after b q chunk_id chunk Rewritten).live old
    (holds_mapped q closed b.sequences b.sequences b.live old
    (λ (r : BufferRecord). cond (is_of q chunk_id r) (record r { chunk = partial_chunk chunk }) r) (rewritten_same q chunk_id (partial_chunk chunk))
    (record { known = h.known; later = later_same (sequence_in b.sequences q); closed = refl })
    (rewritten_comes q q chunk_id (partial_chunk chunk) (sequence_in b.sequences q) (sequence_in b.sequences q) (λ i a. a) (λ e whole. absurd (false≢true (sym whole)))) h)
partial_own q closed b old h chunk_id chunk Duplicate known opened facts = steps_none q closed b.sequences b.live old h
partial_own q closed b old h chunk_id chunk Discarded known opened facts =
    subst (λ (x : Bool). Steps q closed b.sequences b.live old (cond x (map lost_at (unread_start_places (sequence_in b.sequences q) chunk_id chunk)) []))
    (sym (and-false ((sequence_in b.sequences q).number == (sequence_in b.sequences q).number))) (steps_none q closed b.sequences b.live old h)
partial_own q closed b old h chunk_id chunk TooFar known opened facts = steps_none q closed b.sequences b.live old h
partial_own q closed b old h chunk_id chunk (BadChunk fragment) known opened facts = steps_none q closed b.sequences b.live old h

-- Of another sequence

complete_other : (q p : ℕ) (closed : Bool) (b : Buffer) (old : List Fixed) → (p ≡ q → ⊥) → Holds q closed b.sequences b.live old → (chunk_id : ℕ) (chunk : Chunk) (outcome : Arrived)
    → CompleteSteps q closed b old chunk_id chunk p outcome
complete_other q p closed b old d h chunk_id chunk Kept known opened facts =
    let lost : List BufferRecord = filter (meets b (sequence_in b.sequences p).size) b.live in
    let middle : List Sequence = map (with_losses lost) b.sequences in
    let first : Turns q b.sequences middle = turns_losses q lost b.sequences h.known in
    let new : List Sequence = changed_at p (with_arrived chunk_id (length chunk.fragments)) middle in
    placed_steps q closed b.sequences new b.live old (meets b (sequence_in b.sequences p).size) (new_record b p chunk_id (complete_chunk chunk))
    (turns_both q b.sequences middle new first (turns_arrived p q chunk_id (length chunk.fragments) middle first.known)) h
    (fresh_other q p closed (sequence_in b.sequences q) (sequence_in new q) b.live (new_record b p chunk_id (complete_chunk chunk)) refl d)
complete_other q p closed b old d h chunk_id chunk Rewritten known opened facts =
    let new : List Sequence = changed_at p (with_arrived chunk_id (length chunk.fragments)) b.sequences in
    let turns : Turns q b.sequences new = turns_arrived p q chunk_id (length chunk.fragments) b.sequences h.known in
    steps_none q closed new (complete_after b p chunk_id chunk Rewritten).live old
    (holds_mapped q closed b.sequences new b.live old
    (λ (r : BufferRecord). cond (is_of p chunk_id r) (record r { chunk = complete_chunk chunk }) r) (rewritten_same p chunk_id (complete_chunk chunk)) turns
    (rewritten_comes q p chunk_id (complete_chunk chunk) (sequence_in b.sequences q) (sequence_in new q) turns.later.arrived (λ e. absurd (d e))) h)
complete_other q p closed b old d h chunk_id chunk Duplicate known opened facts = steps_none q closed b.sequences b.live old h
complete_other q p closed b old d h chunk_id chunk Discarded known opened facts =
    let middle : List Sequence = changed_at p (with_discarded chunk_id (complete_chunk chunk)) b.sequences in
    let first : Turns q b.sequences middle = turns_discarded p q chunk_id (complete_chunk chunk) b.sequences h.known in
    let new : List Sequence = changed_at p (with_arrived chunk_id (length chunk.fragments)) middle in
    let turns : Turns q b.sequences new = turns_both q b.sequences middle new first (turns_arrived p q chunk_id (length chunk.fragments) middle first.known) in
    let differs : ((sequence_in b.sequences q).number == (sequence_in b.sequences p).number) ≡ false =
    ne_eqb (sequence_in b.sequences q).number (sequence_in b.sequences p).number
    (λ e. d (sym (number_of b.sequences p known) ∙ sym e ∙ number_of b.sequences q h.known)) in
    subst (λ (x : Bool). Steps q closed new b.live old (cond (x && true) (map lost_at (unread_start_places (sequence_in b.sequences q) chunk_id chunk)) [])) (sym differs)
    (steps_none q closed new b.live old (holds_turned q closed b.sequences new b.live old turns h))
complete_other q p closed b old d h chunk_id chunk TooFar known opened facts = steps_none q closed b.sequences b.live old h
complete_other q p closed b old d h chunk_id chunk (BadChunk fragment) known opened facts = steps_none q closed b.sequences b.live old h

partial_other : (q p : ℕ) (closed : Bool) (b : Buffer) (old : List Fixed) → (p ≡ q → ⊥) → Holds q closed b.sequences b.live old → (chunk_id : ℕ) (chunk : Chunk) (outcome : Arrived)
    → PartialSteps q closed b old chunk_id chunk p outcome
partial_other q p closed b old d h chunk_id chunk Kept known opened facts =
    let lost : List BufferRecord = filter (meets b (sequence_in b.sequences p).size) b.live in
    let new : List Sequence = map (with_losses lost) b.sequences in
    placed_steps q closed b.sequences new b.live old (meets b (sequence_in b.sequences p).size) (new_record b p chunk_id (partial_chunk chunk))
    (turns_losses q lost b.sequences h.known) h
    (fresh_other q p closed (sequence_in b.sequences q) (sequence_in new q) b.live (new_record b p chunk_id (partial_chunk chunk)) refl d)
partial_other q p closed b old d h chunk_id chunk Rewritten known opened facts =
    steps_none q closed b.sequences (partial_after b p chunk_id chunk Rewritten).live old
    (holds_mapped q closed b.sequences b.sequences b.live old
    (λ (r : BufferRecord). cond (is_of p chunk_id r) (record r { chunk = partial_chunk chunk }) r) (rewritten_same p chunk_id (partial_chunk chunk))
    (record { known = h.known; later = later_same (sequence_in b.sequences q); closed = refl })
    (rewritten_comes q p chunk_id (partial_chunk chunk) (sequence_in b.sequences q) (sequence_in b.sequences q) (λ i a. a) (λ e. absurd (d e))) h)
partial_other q p closed b old d h chunk_id chunk Duplicate known opened facts = steps_none q closed b.sequences b.live old h
partial_other q p closed b old d h chunk_id chunk Discarded known opened facts =
    subst (λ (x : Bool). Steps q closed b.sequences b.live old (cond x (map lost_at (unread_start_places (sequence_in b.sequences q) chunk_id chunk)) []))
    (sym (and-false ((sequence_in b.sequences q).number == (sequence_in b.sequences p).number))) (steps_none q closed b.sequences b.live old h)
partial_other q p closed b old d h chunk_id chunk TooFar known opened facts = steps_none q closed b.sequences b.live old h
partial_other q p closed b old d h chunk_id chunk (BadChunk fragment) known opened facts = steps_none q closed b.sequences b.live old h

pub complete_steps : (q p : ℕ) (closed : Bool) (b : Buffer) (old : List Fixed) → Holds q closed b.sequences b.live old → (chunk_id : ℕ) (chunk : Chunk) (outcome : Arrived)
    → CompleteSteps q closed b old chunk_id chunk p outcome
complete_steps q p closed b old h chunk_id chunk outcome = step (cases_eq p q)
  where
    step : ((p ≡ q) ⊎ (p ≡ q → ⊥)) → CompleteSteps q closed b old chunk_id chunk p outcome
    step (inl e) = subst (λ (n : ℕ). CompleteSteps q closed b old chunk_id chunk n outcome) (sym e) (complete_own q closed b old h chunk_id chunk outcome)
    step (inr d) = complete_other q p closed b old d h chunk_id chunk outcome

pub partial_steps : (q p : ℕ) (closed : Bool) (b : Buffer) (old : List Fixed) → Holds q closed b.sequences b.live old → (chunk_id : ℕ) (chunk : Chunk) (outcome : Arrived)
    → PartialSteps q closed b old chunk_id chunk p outcome
partial_steps q p closed b old h chunk_id chunk outcome = step (cases_eq p q)
  where
    step : ((p ≡ q) ⊎ (p ≡ q → ⊥)) → PartialSteps q closed b old chunk_id chunk p outcome
    step (inl e) = subst (λ (n : ℕ). PartialSteps q closed b old chunk_id chunk n outcome) (sym e) (partial_own q closed b old h chunk_id chunk outcome)
    step (inr d) = partial_other q p closed b old d h chunk_id chunk outcome
