-- The parts of a buffer, once a chunk has arrived complete of which no part is there.
use Rattle.std.proofs.Common.{◌≡◌, ℕ, ◌==◌, ◌&&◌, Bool, true, false, cond, List, [], ◌∷◌, map, Some, None, Vec, Global, refl, sym, ap, ap₂, ◌∙◌, subst, eq-eqb, ne_eqb, true≢false}
use Rattle.std.specs.List.{find}
use Rattle.std.specs.Vec.{with_items}
use Rattle.chunk_index.specs.Value.{IndexValue}
use Rattle.ring_bytes.specs.Value.{Stored, RingValue}
use Rattle.trace_model.specs.Arrivals.{is_too_far, with_arrived}
use Rattle.trace_model.specs.Sequences.{Sequence, sequence_in, changed_at, has_arrived}
use Rattle.trace_model.proofs.SequenceLemmas.{number_of}
use Rattle.trace_buffer.specs.BufferFields.{AreParts, AllKept, IsKept}
use Rattle.trace_buffer.specs.Records.{is_at_key}
use Rattle.trace_buffer.proofs.PartLemmas.{KeepsSize, known_map, once_map, fit_map, sequence_map, rows_after}
use Rattle.trace_buffer.proofs.RisingLemmas.{still_near, still_absent}

arrived_at : ℕ → ℕ → ℕ → Sequence → Sequence
arrived_at number id count s = cond (s.number == number) (with_arrived id count s) s

keeps_arrived : (number id count : ℕ) → KeepsSize (arrived_at number id count)
unfolding arrived_at
keeps_arrived number id count = record {
  number = λ s. of_number s (s.number == number);
  size = λ s. of_size s (s.number == number);
}
  where
    of_number : (s : Sequence) (b : Bool) → (cond b (with_arrived id count s) s).number ≡ s.number
    of_number s true = refl
    of_number s false = refl

    of_size : (s : Sequence) (b : Bool) → (cond b (with_arrived id count s) s).size ≡ s.size
    of_size s true = refl
    of_size s false = refl

-- another position stays absent and near
stays_near : (number id count other : ℕ) (s : Sequence) → ((s.number == number) ≡ true → (id == other) ≡ false) → (has_arrived s other ≡ false) × (is_too_far s other ≡ false) → (has_arrived (arrived_at number id count s) other ≡ false) × (is_too_far (arrived_at number id count s) other ≡ false)
unfolding arrived_at
stays_near number id count other s apart near = of (s.number == number) apart
  where
    of : (b : Bool) → (b ≡ true → (id == other) ≡ false) → (has_arrived (cond b (with_arrived id count s) s) other ≡ false) × (is_too_far (cond b (with_arrived id count s) s) other ≡ false)
    of true is = (still_absent s id count other (is refl) near.0, still_near s id count other near.1)
    of false is = near

no_part : (number id : ℕ) (s : Stored) → (is_at_key number id s && s.key.partial) ≡ false → s.key.partial ≡ true → (s.key.sequence == number) ≡ true → (id == s.key.chunk_id) ≡ false
no_part number id s none partial same =
    ne_eqb id s.key.chunk_id
    (λ e.
    true≢false
    (sym
    (ap₂ (λ b d. (b && (s.key.chunk_id == id)) && d) same partial ∙ ap (λ b. b && true) (eq-eqb s.key.chunk_id id (sym e)))
    ∙ none))

kept_one : (number id count : ℕ) (rows : List Sequence) (s : Stored) → (is_at_key number id s && s.key.partial) ≡ false → IsKept rows s → IsKept (map (arrived_at number id count) rows) s
kept_one number id count rows s none is =
    let n : ℕ = s.key.sequence in
    let f : Sequence → Sequence = arrived_at number id count in
    let keeps : KeepsSize f = keeps_arrived number id count in
    let there : sequence_in (map f rows) n ≡ f (sequence_in rows n) = sequence_map f rows n keeps is.known in
    record {
      known = known_map f rows n keeps ∙ is.known;
      size = is.size ∙ sym (ap (λ (t : Sequence). t.size) there ∙ keeps.size (sequence_in rows n));
      reads = is.reads;
      number = is.number;
      id = is.id;
      part = λ partial.
          subst (λ (t : Sequence). (has_arrived t s.key.chunk_id ≡ false) × (is_too_far t s.key.chunk_id ≡ false)) (sym there)
          (stays_near number id count s.key.chunk_id (sequence_in rows n)
          (λ same. no_part number id s none partial (ap (λ m. m == number) (sym (number_of rows n is.known)) ∙ same))
          (is.part partial));
    }

kept_arrived : (number id count : ℕ) (rows : List Sequence) (ss : List Stored) → find (λ (s : Stored). is_at_key number id s && s.key.partial) ss ≡ None → AllKept rows ss → AllKept (map (arrived_at number id count) rows) ss
kept_arrived number id count rows [] none kept = tt
kept_arrived number id count rows (s ∷ ss) none kept =
    of (is_at_key number id s && s.key.partial) refl none (kept_arrived number id count rows ss)
  where
    of : (b : Bool) → (is_at_key number id s && s.key.partial) ≡ b → cond b (Some s) (find (λ (t : Stored). is_at_key number id t && t.key.partial) ss) ≡ None → (find (λ (t : Stored). is_at_key number id t && t.key.partial) ss ≡ None → AllKept rows ss → AllKept (map (arrived_at number id count) rows) ss) → AllKept (map (arrived_at number id count) rows) (s ∷ ss)
    of true is h rest = absurd (cc)
    of false is h rest = (kept_one number id count rows s is kept.0, rest h kept.1)

parts_arrived : (ring : RingValue) (index : IndexValue) (rows : List Sequence) (number id count : ℕ) → find (λ (s : Stored). is_at_key number id s && s.key.partial) ring.live ≡ None → AreParts ring index rows → AreParts ring index (map (arrived_at number id count) rows)
parts_arrived ring index rows number id count none parts =
    let keeps = keeps_arrived number id count in
    record {
      indexed = parts.indexed;
      kept = kept_arrived number id count rows ring.live none parts.kept;
      once = once_map (arrived_at number id count) rows keeps parts.once;
      fit = fit_map ring.room index.capacity (arrived_at number id count) rows keeps parts.fit;
    }

pub parts_noted : (ring : RingValue) (index : IndexValue) (v : Vec Sequence Global) (seen new : List Sequence) (number id count : ℕ) → find (λ (s : Stored). is_at_key number id s && s.key.partial) ring.live ≡ None → AreParts ring index v.items → seen ≡ v.items → new ≡ changed_at number (with_arrived id count) seen → AreParts ring index (with_items v new).items
unfolding arrived_at
parts_noted ring index v seen new number id count none parts same is =
    subst (AreParts ring index) (sym (rows_after v seen new number (with_arrived id count) same is))
    (parts_arrived ring index v.items number id count none parts)
