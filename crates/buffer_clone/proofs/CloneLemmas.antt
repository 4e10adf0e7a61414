-- What is read of a clone, sequence by sequence, and that it is told.
use Rattle.std.proofs.Common.{◌≡◌, ◌∙◌, ℕ, ◌-◌, ◌⊎◌, Bool, true, false, cond, List, [], ◌∷◌, ◌++◌, length, map, refl, sym, ap, ap₂, subst, inl, inr, eqb-true, eq-eqb, true≢false, append-nil, append_assoc}
use Rattle.std.specs.Prelude.{◌||◌, ◌==◌}
use Rattle.std.proofs.lemmas.Bool.{or_parts}
use Rattle.trace_base.specs.declared.policy.FullPolicy.{FullPolicy}
use Rattle.trace_model.specs.Buffers.{Buffer, BufferRecord, empty_buffer}
use Rattle.trace_model.specs.Calls.{Call}
use Rattle.trace_model.specs.Counts.{last_count}
use Rattle.trace_model.specs.History.{Event, Closed, Read, buffer_after, state_after, delivered_to, reads_of}
use Rattle.trace_model.specs.Packets.{emissions_of}
use Rattle.trace_model.specs.Pages.{Page}
use Rattle.trace_model.specs.Patches.{with_close, closed_buffer, closed_sequence}
use Rattle.trace_model.specs.Reads.{Delivery, delivered_by, with_read, passed_by, sequence_after}
use Rattle.trace_model.specs.Row.{row_from_cursor}
use Rattle.trace_model.specs.Sequences.{Sequence, is_known, is_among, sequence_in}
use Rattle.trace_model.specs.Tells.{Tells}
use Rattle.trace_model.proofs.SequenceLemmas.{changed_here, changed_other, sequence_in-map, known-map}
use Rattle.delivery_laws.specs.DeliveryLaws.{IsAccountOf}
use Rattle.delivery_laws.specs.Orders.{InOrder}
use Rattle.delivery_laws.proofs.AskLemmas.{known_after}
use Rattle.world_model.proofs.ProjectLemmas.{once_writes}
use Rattle.trace_buffer.specs.BufferFields.{NumbersOnce}
use Rattle.trace_buffer.specs.Clones.{none_delivered, numbers_of, all_closed, cloned}
use Rattle.buffer_clone.specs.Clones.{clone_reads}
use Rattle.buffer_clone.specs.Laws.{EveryCloneIsTold}
use Rattle.buffer_clone.proofs.NumberLemmas.{made_after, same_numbers, numbers_in, numbers_map, state_parts}
use Rattle.buffer_clone.proofs.ToldLemmas.{LooksSame, delivered_same, reset_delivers, mark_first, told_of, new_consumer, sheets}
use Rattle.buffer_clone.proofs.OrderLemmas.{close_other, closed_behind, shut_is, order_on, read_last, close_last}

-- the number stands once in the list
abbrev Once : ℕ → List ℕ → Type 0
Once q [] = ⊥
Once q (p ∷ ps) = (((p == q) ≡ true) × (is_among q ps ≡ false)) ⊎ (((p == q) ≡ false) × Once q ps)

among_known : (ss : List Sequence) (q : ℕ) → is_among q (numbers_in ss) ≡ is_known ss q
among_known [] q = refl
among_known (s ∷ ss) q = ap (λ (b : Bool). (s.number == q) || b) (among_known ss q)

once_in : (ss : List Sequence) (q : ℕ) → NumbersOnce ss → is_known ss q ≡ true → Once q (numbers_in ss)
once_in [] q once known = absurd (true≢false (sym known))
once_in (s ∷ ss) q once known = of (s.number == q) refl known (once_in ss q once.1)
  where
    of : (x : Bool) → (s.number == q) ≡ x → (x || is_known ss q) ≡ true → (is_known ss q ≡ true → Once q (numbers_in ss))
        → (((s.number == q) ≡ true) × (is_among q (numbers_in ss) ≡ false)) ⊎ (((s.number == q) ≡ false) × Once q (numbers_in ss))
    of true e k rest = inl (e, among_known ss q ∙ subst (λ (n : ℕ). is_known ss n ≡ false) (eqb-true s.number q e) once.0)
    of false e k rest = inr (e, rest k)

-- Closes

same_then : (q : ℕ) (a b c : Buffer) → LooksSame q a b → LooksSame q b c → LooksSame q a c
same_then q a b c one two = record { live = one.live ∙ two.live; state = one.state ∙ two.state }

closes_others : (ps : List ℕ) (b : Buffer) (q : ℕ) → is_known b.sequences q ≡ true → is_among q ps ≡ false → LooksSame q (state_after b (map Closed ps)) b
closes_others [] b q known none = record { live = refl; state = refl }
closes_others (p ∷ ps) b q known none =
    let no = or_parts (p == q) (is_among q ps) none in
    let next : Buffer = buffer_after b (Closed p) in
    same_then q (state_after next (map Closed ps)) next b
    (closes_others ps next q (known_after b (Closed p) q ∙ known) no.1)
    (close_other b p q known no.0)

close_same : (q : ℕ) (a b : Buffer) → is_known a.sequences q ≡ true → is_known b.sequences q ≡ true → LooksSame q a b → LooksSame q (with_close a q) (with_close b q)
close_same q a b here there same =
    subst (λ (x : Bool). LooksSame q (cond x a (closed_buffer a q)) (with_close b q)) (sym (ap (λ (s : Sequence). s.closed) same.state))
    (of (sequence_in b.sequences q).closed)
  where
    of : (x : Bool) → LooksSame q (cond x a (closed_buffer a q)) (cond x b (closed_buffer b q))
    of true = same
    of false = record {
      live = same.live;
      state = changed_here q (closed_sequence a.live) (λ s. refl) a.sequences here
          ∙ ap₂ (λ (live : List BufferRecord) (s : Sequence). closed_sequence live s) same.live same.state
          ∙ sym (changed_here q (closed_sequence b.live) (λ s. refl) b.sequences there);
    }

-- where all are closed, the sequence looks as where it alone is
closes_own : (ps : List ℕ) (b : Buffer) (q : ℕ) → is_known b.sequences q ≡ true → Once q ps → LooksSame q (state_after b (map Closed ps)) (with_close b q)
closes_own [] b q known once = absurd once
closes_own (p ∷ ps) b q known (inl h) =
    let next : Buffer = buffer_after b (Closed p) in
    subst (LooksSame q (state_after next (map Closed ps)))
    (ap (λ (n : ℕ). buffer_after b (Closed n)) (eqb-true p q h.0) ∙ ap (λ (x : Bool). cond x (with_close b q) b) known)
    (closes_others ps next q (known_after b (Closed p) q ∙ known) h.1)
closes_own (p ∷ ps) b q known (inr h) =
    let next : Buffer = buffer_after b (Closed p) in
    let there = known_after b (Closed p) q ∙ known in
    same_then q (state_after next (map Closed ps)) (with_close next q) (with_close b q)
    (closes_own ps next q there h.1)
    (close_same q next b there known (close_other b p q known h.0))

-- Reads

none_read : (q : ℕ) (ps : List ℕ) (limit : ℕ) (b c : Buffer) → is_among q ps ≡ false → delivered_to q b (reads_of limit c ps) ≡ []
none_read q [] limit b c none = refl
none_read q (p ∷ ps) limit b c none =
    let no = or_parts (p == q) (is_among q ps) none in
    let left : ℕ = limit - length (delivered_by c p limit) in
    ap (λ (x : Bool). cond x (delivered_by b p limit) [] ++ delivered_to q (buffer_after b (Read p limit)) (reads_of left (with_read c p limit) ps)) no.0
    ∙ none_read q ps left (buffer_after b (Read p limit)) (with_read c p limit) no.1

read_other : (p q limit : ℕ) (b : Buffer) → is_known b.sequences q ≡ true → (p == q) ≡ false → LooksSame q (with_read b p limit) b
read_other p q limit b known apart = record {
  live = refl;
  state = changed_other p q (sequence_after (passed_by limit (row_from_cursor b (sequence_in b.sequences p)))) (λ s. refl) b.sequences known
      (λ e. true≢false (sym (eq-eqb p q e) ∙ apart));
}

-- what a reading delivers of a sequence that it reads once
abbrev Reads : ℕ → Buffer → List Delivery → Type 0
Reads q b deliveries = (limit : ℕ) × (deliveries ≡ delivered_by b q limit)

read_once : (q : ℕ) (ps : List ℕ) (limit : ℕ) (b : Buffer) → Once q ps → is_known b.sequences q ≡ true → ((p : ℕ) → is_among p ps ≡ true → is_known b.sequences p ≡ true)
    → Reads q b (delivered_to q b (reads_of limit b ps))
read_once q [] limit b once known all = absurd once
read_once q (p ∷ ps) limit b (inl h) known all =
    let left : ℕ = limit - length (delivered_by b p limit) in
    let rest : List Event = reads_of left (with_read b p limit) ps in (
      limit,
      ap (λ (x : Bool). cond x (delivered_by b p limit) [] ++ delivered_to q (buffer_after b (Read p limit)) rest) h.0
          ∙ ap (λ (ds : List Delivery). delivered_by b p limit ++ ds) (none_read q ps left (buffer_after b (Read p limit)) (with_read b p limit) h.1)
          ∙ append-nil (delivered_by b p limit)
          ∙ ap (λ (n : ℕ). delivered_by b n limit) (eqb-true p q h.0),
    )
read_once q (p ∷ ps) limit b (inr h) known all =
    let left : ℕ = limit - length (delivered_by b p limit) in
    let next : Buffer = with_read b p limit in
    let rest : List Event = reads_of left next ps in
    let first : is_known b.sequences p ≡ true = all p (ap (λ (x : Bool). x || is_among p ps) (eq-eqb p p refl)) in
    let is : buffer_after b (Read p limit) ≡ next = ap (λ (x : Bool). cond x next b) first in
    let kept : (n : ℕ) → is_known next.sequences n ≡ is_known b.sequences n = λ n. sym (ap (λ (c : Buffer). is_known c.sequences n) is) ∙ known_after b (Read p limit) n in
    let later = read_once q ps left next h.1 (kept q ∙ known) (λ n among. kept n ∙ all n (more p n ps among)) in (
      later.0,
      ap (λ (x : Bool). cond x (delivered_by b p limit) [] ++ delivered_to q (buffer_after b (Read p limit)) rest) h.0
          ∙ ap (λ (c : Buffer). delivered_to q c rest) is
          ∙ later.1
          ∙ delivered_same q later.0 next b (read_other p q limit b known h.0),
    )
  where
    more : (p n : ℕ) (ps : List ℕ) → is_among n ps ≡ true → is_among n (p ∷ ps) ≡ true
    more p n ps among = of (p == n) among
      where
        of : (x : Bool) → is_among n ps ≡ true → (x || is_among n ps) ≡ true
        of true a = refl
        of false a = a

-- Numbers stay

numbers_after : (events : List Event) (b : Buffer) → numbers_of (state_after b events) ≡ numbers_of b
numbers_after events b = same_numbers (state_after b events).sequences b.sequences (made_after events b)

known_later : (events : List Event) (b : Buffer) (q : ℕ) → is_known (state_after b events).sequences q ≡ is_known b.sequences q
known_later [] b q = refl
known_later (event ∷ events) b q = known_later events (buffer_after b event) q ∙ known_after b event q

-- The law

-- the clone's sequence, read with a limit, is what a new consumer gets of the sequence once it is closed
clone_delivers : (q limit : ℕ) (b : Buffer) → is_known b.sequences q ≡ true → Once q (numbers_of b)
    → delivered_by (cloned b) q limit ≡ mark_first (delivered_by (with_close b q) q limit)
clone_delivers q limit b known once =
    let same = closes_own (numbers_of b) b q known once in
    let there : is_known (all_closed b).sequences q ≡ true = known_later (map Closed (numbers_of b)) b q ∙ known in
    reset_delivers q limit (cloned b) (all_closed b) refl (sequence_in-map none_delivered (λ s. refl) (all_closed b).sequences q there)
    ∙ ap mark_first (delivered_same q limit (all_closed b) (with_close b q) same)

module _ (size : ℕ) (calls : List Call) (pages : List Page) (room : ℕ) (policy : FullPolicy) (sequences : List Sequence) (q record_size : ℕ) (events : List Event)
    (account : IsAccountOf size calls pages sequences q record_size events) where
  abbrev start : Buffer
  start = empty_buffer room policy sequences

  behind_known : is_known (state_after start events).sequences q ≡ true
  behind_known = known_later events start q ∙ account.known

  -- the sequence was closed, or is closed now
  closed_told : (limit : ℕ) → Tells (emissions_of calls) q (told_of q (mark_first (delivered_by (with_close (state_after start events) q) q limit)))
  closed_told limit = of (sequence_in (state_after start events).sequences q).closed refl
    where
      order : List Event → Type 0
      order tail = InOrder (sheets size calls pages room policy sequences q record_size events account) q 0 false [] (events ++ tail)

      shut : (x : Bool) → (sequence_in (state_after start events).sequences q).closed ≡ x → closed_behind q false events ≡ x
      shut x e = sym (shut_is q events start false account.known (ap (λ (s : Sequence). s.closed) account.start)) ∙ e

      of : (x : Bool) → (sequence_in (state_after start events).sequences q).closed ≡ x
          → Tells (emissions_of calls) q (told_of q (mark_first (delivered_by (cond x (state_after start events) (closed_buffer (state_after start events) q)) q limit)))
      of true e =
          new_consumer size calls pages room policy sequences q record_size events account limit events
          (order_on (sheets size calls pages room policy sequences q record_size events account) q (Read q limit ∷ []) events 0 false [] account.order
          (λ come. read_last (sheets size calls pages room policy sequences q record_size events account) q limit come (closed_behind q false events)))
      of false e =
          let now : Buffer = state_after start events in
          let done : state_after start (events ++ Closed q ∷ []) ≡ closed_buffer now q =
          state_parts start events (Closed q ∷ [])
          ∙ ap (λ (x : Bool). cond x (with_close now q) now) behind_known
          ∙ ap (λ (x : Bool). cond x now (closed_buffer now q)) e in
          subst (λ (c : Buffer). Tells (emissions_of calls) q (told_of q (mark_first (delivered_by c q limit)))) done
          (new_consumer size calls pages room policy sequences q record_size events account limit (events ++ Closed q ∷ [])
          (subst (InOrder (sheets size calls pages room policy sequences q record_size events account) q 0 false [])
          (sym (append_assoc events (Closed q ∷ []) (Read q limit ∷ [])))
          (order_on (sheets size calls pages room policy sequences q record_size events account) q (Closed q ∷ Read q limit ∷ []) events 0 false [] account.order
          (λ come. close_last (sheets size calls pages room policy sequences q record_size events account) q limit come (closed_behind q false events) (shut false e)))))

pub every_clone_is_told : EveryCloneIsTold
every_clone_is_told size calls pages room policy sequences q record_size events once account =
    let b : Buffer = state_after (empty_buffer room policy sequences) events in
    let clone : Buffer = cloned b in
    let numbers : numbers_of b ≡ numbers_in sequences = numbers_after events (empty_buffer room policy sequences) in
    let of_clone : numbers_of clone ≡ numbers_of b =
    numbers_map none_delivered (λ s. refl) (all_closed b).sequences ∙ numbers_after (map Closed (numbers_of b)) b in
    let known : is_known b.sequences q ≡ true = known_later events (empty_buffer room policy sequences) q ∙ account.known in
    let alone : Once q (numbers_of b) = subst (Once q) (sym numbers) (once_in sequences q once account.known) in
    let there : is_known clone.sequences q ≡ true =
    known-map none_delivered (λ s. refl) (all_closed b).sequences q ∙ known_later (map Closed (numbers_of b)) b q ∙ known in
    let read = read_once q (numbers_of clone) last_count clone (subst (Once q) (sym of_clone) alone) there
    (λ p among. sym (among_known clone.sequences p) ∙ among) in
    subst (Tells (emissions_of calls) q)
    (sym (once_writes q (clone_reads clone) clone (clone ∷ []) (inl (refl, there, tt))
    ∙ ap (told_of q) (read.1 ∙ clone_delivers q read.0 b known alone)))
    (closed_told size calls pages room policy sequences q record_size events account read.0)
