-- What an arrival does to what is known of a sequence.
use Rattle.std.proofs.Common.{◌≡◌, ◌∙◌, ℕ, suc, Bool, true, false, not, ◌&&◌, List, [], ◌∷◌, ◌++◌, map, refl, sym, ap, subst, arith, inl, inr}
use Rattle.std.specs.Prelude.{filter, cond, ◌⊎◌, ◌==◌, nat_le}
use Rattle.std.specs.List.{flat_map}
use Rattle.std.proofs.lemmas.Bool.{cases_eq, and_parts, and_from, eqb-true, eq-eqb, false≢true, false_from_ne_true}
use Rattle.trace_model.specs.Images.{Chunk}
use Rattle.trace_model.specs.Sequences.{Sequence, has_arrived, sequence_in, is_known, changed_at}
use Rattle.trace_model.specs.Buffers.{BufferRecord, is_of, with_losses}
use Rattle.trace_model.specs.Arrivals.{with_arrived, with_discarded}
use Rattle.trace_model.specs.Causes.{Fixed, fixed_by_loss}
use Rattle.trace_model.specs.RowLaws.{UpTo}
use Rattle.trace_model.proofs.CursorLemmas.{each-append, each-then, each-filter, same_up_to}
use Rattle.trace_model.proofs.SequenceLemmas.{sequence_in-map, known-map, number_of, changed_here, changed_other, known_changed, among_more, among_new}
use Rattle.trace_model.proofs.RecordLemmas.{NoneOf, not_none, Once, once-filter, Finished, IsLost, AreLost, losses_fix}
use Rattle.trace_model.proofs.FixedLemmas.{Later, later_same, IsFixed, fixed_later, finished_later, IsNew, new_apart, Holds, Steps, Turns}

-- How sequences change

pub turns_changed : (p q : ℕ) (f : Sequence → Sequence) → ((s : Sequence) → (f s).number ≡ s.number) → ((s : Sequence) → Later s (f s))
    → ((s : Sequence) → (f s).closed ≡ s.closed) → (ss : List Sequence) → is_known ss q ≡ true → Turns q ss (changed_at p f ss)
turns_changed p q f keeps later closed ss known = record {
  known = known_changed p q f keeps ss ∙ known;
  later = by_later (cases_eq p q);
  closed = by_closed (cases_eq p q);
}
  where
    here : p ≡ q → sequence_in (changed_at p f ss) q ≡ f (sequence_in ss q)
    here e = subst (λ (n : ℕ). sequence_in (changed_at n f ss) q ≡ f (sequence_in ss q)) (sym e) (changed_here q f keeps ss known)

    by_later : ((p ≡ q) ⊎ (p ≡ q → ⊥)) → Later (sequence_in ss q) (sequence_in (changed_at p f ss) q)
    by_later (inl e) = subst (λ (t : Sequence). Later (sequence_in ss q) t) (sym (here e)) (later (sequence_in ss q))
    by_later (inr d) = subst (λ (t : Sequence). Later (sequence_in ss q) t) (sym (changed_other p q f keeps ss known d)) (later_same (sequence_in ss q))

    by_closed : ((p ≡ q) ⊎ (p ≡ q → ⊥)) → (sequence_in (changed_at p f ss) q).closed ≡ (sequence_in ss q).closed
    by_closed (inl e) = ap (λ (t : Sequence). t.closed) (here e) ∙ closed (sequence_in ss q)
    by_closed (inr d) = ap (λ (t : Sequence). t.closed) (changed_other p q f keeps ss known d)

pub turns_losses : (q : ℕ) (records : List BufferRecord) (ss : List Sequence) → is_known ss q ≡ true → Turns q ss (map (with_losses records) ss)
turns_losses q records ss known =
    let is : sequence_in (map (with_losses records) ss) q ≡ with_losses records (sequence_in ss q) = sequence_in-map (with_losses records) (λ s. refl) ss q known in
    record {
      known = known-map (with_losses records) (λ s. refl) ss q ∙ known;
      later = subst (λ (t : Sequence). Later (sequence_in ss q) t) (sym is) (record { cursor = same_up_to (sequence_in ss q).cursor; arrived = λ i h. h; closed = λ h. h });
      closed = ap (λ (t : Sequence). t.closed) is;
    }

later_arrived : (chunk_id count : ℕ) (s : Sequence) → Later s (with_arrived chunk_id count s)
later_arrived chunk_id count s = record {
  cursor = step ((s.cursor.chunk_id == chunk_id) && nat_le count s.cursor.passed) refl;
  arrived = λ i h. among_more i chunk_id s.arrived h;
  closed = λ h. h;
}
  where
    step : (b : Bool) → ((s.cursor.chunk_id == chunk_id) && nat_le count s.cursor.passed) ≡ b
        → UpTo s.cursor (cond b (record { chunk_id = suc chunk_id; passed = 0 }) s.cursor)
    step true e = inl (omega (arith, eqb-true s.cursor.chunk_id chunk_id (and_parts (s.cursor.chunk_id == chunk_id) (nat_le count s.cursor.passed) e).0))
    step false e = same_up_to s.cursor

pub turns_arrived : (p q chunk_id count : ℕ) (ss : List Sequence) → is_known ss q ≡ true → Turns q ss (changed_at p (with_arrived chunk_id count) ss)
turns_arrived p q chunk_id count ss known =
    turns_changed p q (with_arrived chunk_id count) (λ s. refl) (later_arrived chunk_id count) (λ s. refl) ss known

pub has_come : (q chunk_id count : ℕ) (ss : List Sequence) → is_known ss q ≡ true → has_arrived (sequence_in (changed_at q (with_arrived chunk_id count) ss) q) chunk_id ≡ true
has_come q chunk_id count ss known =
    ap (λ (t : Sequence). has_arrived t chunk_id) (changed_here q (with_arrived chunk_id count) (λ s. refl) ss known)
    ∙ among_new chunk_id (sequence_in ss q).arrived

pub turns_discarded : (p q chunk_id : ℕ) (chunk : Chunk) (ss : List Sequence) → is_known ss q ≡ true → Turns q ss (changed_at p (with_discarded chunk_id chunk) ss)
turns_discarded p q chunk_id chunk ss known =
    turns_changed p q (with_discarded chunk_id chunk) (λ s. refl)
    (λ s. record { cursor = same_up_to s.cursor; arrived = λ i h. h; closed = λ h. h }) (λ s. refl) ss known

-- A new record behind those that are left

once-snoc : (q : ℕ) (rs : List BufferRecord) (r : BufferRecord) → Once q rs → ((r.sequence == q) ≡ true → NoneOf q r.chunk_id rs) → Once q (rs ++ r ∷ [])
once-snoc q [] r h k = ((λ e. tt), tt)
once-snoc q (t ∷ ts) r h k = (
  (λ e. each-append (λ u. is_of q t.chunk_id u ≡ false) ts (r ∷ []) (h.0 e) (
    false_from_ne_true (is_of q t.chunk_id r) (λ same.
        let parts = and_parts (r.sequence == q) (r.chunk_id == t.chunk_id) same in
        let none : NoneOf q r.chunk_id (t ∷ ts) = k parts.0 in
        false≢true (sym none.0 ∙ and_from (t.sequence == q) (t.chunk_id == r.chunk_id) e
        (eq-eqb t.chunk_id r.chunk_id (sym (eqb-true r.chunk_id t.chunk_id parts.1))))),
    tt,
  )),
  once-snoc q ts r h.1 (λ e. (k e).1),
)

-- what is known of a record in a new place, where it is of the sequence
pub record IsFreshRecord (q : ℕ) (closed : Bool) (s t : Sequence) (live : List BufferRecord) (r : BufferRecord) : Type 0 where
  pub opened : closed ≡ false
  pub absent : has_arrived s r.chunk_id ≡ false
  pub none : NoneOf q r.chunk_id live
  pub comes : r.chunk.partial ≡ false → has_arrived t r.chunk_id ≡ true

unfinished : (q : ℕ) (closed : Bool) (s t : Sequence) (live : List BufferRecord) (r : BufferRecord) → s.closed ≡ closed → IsFreshRecord q closed s t live r
    → Finished s r.chunk_id → ⊥
unfinished q closed s t live r e fresh (inl h) = false≢true (sym fresh.absent ∙ h)
unfinished q closed s t live r e fresh (inr h) = false≢true (sym fresh.opened ∙ sym e ∙ h)

pub placed_steps : (q : ℕ) (closed : Bool) (old new : List Sequence) (live : List BufferRecord) (fixed : List Fixed) (lost : BufferRecord → Bool) (r : BufferRecord)
    → Turns q old new → Holds q closed old live fixed
    → ((r.sequence == q) ≡ true → IsFreshRecord q closed (sequence_in old q) (sequence_in new q) live r)
    → Steps q closed new (filter (λ t. not (lost t)) live ++ r ∷ []) fixed (flat_map (fixed_by_loss (sequence_in old q)) (filter lost live))
placed_steps q closed old new live fixed lost r turns h fresh = record {
  holds = record {
    known = turns.known;
    once = once-snoc q left r (once-filter q (λ t. not (lost t)) live h.once)
        (λ e. each-filter (λ t. is_of q r.chunk_id t ≡ false) (λ t. not (lost t)) live (fresh e).none);
    come = each-append (λ (t : BufferRecord). (t.sequence == q) ≡ true → t.chunk.partial ≡ false → has_arrived (sequence_in new q) t.chunk_id ≡ true) left (r ∷ [])
        (each-then (λ (t : BufferRecord). (t.sequence == q) ≡ true → t.chunk.partial ≡ false → has_arrived (sequence_in old q) t.chunk_id ≡ true)
        (λ (t : BufferRecord). (t.sequence == q) ≡ true → t.chunk.partial ≡ false → has_arrived (sequence_in new q) t.chunk_id ≡ true)
        (λ t k e p. turns.later.arrived t.chunk_id (k e p)) left
        (each-filter (λ (t : BufferRecord). (t.sequence == q) ≡ true → t.chunk.partial ≡ false → has_arrived (sequence_in old q) t.chunk_id ≡ true) (λ t. not (lost t)) live h.come))
        ((λ e p. (fresh e).comes p), tt);
    shut = turns.closed ∙ h.shut;
    before = each-append (IsFixed q (sequence_in new q) (left ++ r ∷ [])) given fixed
        (each-then (IsLost q (sequence_in old q) live left) (IsFixed q (sequence_in new q) (left ++ r ∷ []))
        (λ f i. inr (
          each-append (λ t. is_of q f.at.chunk_id t ≡ false) left (r ∷ []) i.gone (
            false_from_ne_true (is_of q f.at.chunk_id r) (λ same.
                let parts = and_parts (r.sequence == q) (r.chunk_id == f.at.chunk_id) same in
                not_none q f.at.chunk_id live i.there (subst (λ (n : ℕ). NoneOf q n live) (eqb-true r.chunk_id f.at.chunk_id parts.1) (fresh parts.0).none)),
            tt,
          ),
          finished_later (sequence_in old q) (sequence_in new q) f.at.chunk_id turns.later i.finished,
        )) given are.each)
        (each-then (IsFixed q (sequence_in old q) live) (IsFixed q (sequence_in new q) (left ++ r ∷ []))
        (λ f k. fixed_later q (sequence_in old q) (sequence_in new q) live (left ++ r ∷ []) f turns.later stay k) fixed h.before);
  };
  apart = new_apart q (sequence_in old q) live fixed given h.before
      (each-then (IsLost q (sequence_in old q) live left) (IsNew q (sequence_in old q) live)
      (λ f i. (i.unread, λ none finished. not_none q f.at.chunk_id live i.there none)) given are.each);
  distinct = are.distinct;
}
  where
    left : List BufferRecord
    left = filter (λ t. not (lost t)) live

    given : List Fixed
    given = flat_map (fixed_by_loss (sequence_in old q)) (filter lost live)

    are : AreLost q (sequence_in old q) live left given
    are = losses_fix q (sequence_in old q) lost live (number_of old q h.known) h.once h.come

    stay : (chunk_id : ℕ) → NoneOf q chunk_id live → Finished (sequence_in old q) chunk_id → NoneOf q chunk_id (left ++ r ∷ [])
    stay chunk_id none finished = each-append (λ t. is_of q chunk_id t ≡ false) left (r ∷ []) (each-filter (λ t. is_of q chunk_id t ≡ false) (λ t. not (lost t)) live none) (
      false_from_ne_true (is_of q chunk_id r) (λ same.
          let parts = and_parts (r.sequence == q) (r.chunk_id == chunk_id) same in
          unfinished q closed (sequence_in old q) (sequence_in new q) live r h.shut (fresh parts.0)
          (subst (λ (n : ℕ). Finished (sequence_in old q) n) (sym (eqb-true r.chunk_id chunk_id parts.1)) finished)),
      tt,
    )
