-- The parts of a buffer, where its sequences change.
use Rattle.std.proofs.Common.{◌≡◌, ℕ, ◌+◌, ◌*◌, ◌<◌, ◌≤◌, ◌==◌, ◌||◌, Bool, true, false, cond, List, [], ◌∷◌, length, map, Vec, Global, refl, sym, ap, ap₂, ◌∙◌, subst, arith, true≢false}
use Rattle.std.proofs.lemmas.List.{with_items_is, length-map}
use Rattle.std.specs.Vec.{with_items}
use Rattle.chunk_index.specs.Value.{IndexValue}
use Rattle.ring_bytes.specs.Value.{Stored, RingValue}
use Rattle.trace_model.specs.Arrivals.{is_too_far}
use Rattle.ring_bytes.specs.declared.key.RecordKey.{RecordKey}
use Rattle.trace_model.specs.Buffers.{BufferRecord, with_losses}
use Rattle.trace_model.specs.Reads.{Turn, advanced}
use Rattle.trace_buffer.specs.Calls.{delivered_to}
use Rattle.trace_buffer.specs.Keys.{discarded_by}
use Rattle.trace_model.specs.Sequences.{Cursor, Sequence, is_known, sequence_in, changed_at, has_arrived}
use Rattle.trace_buffer.specs.BufferFields.{AreParts, AllKept, IsKept, AllFit, NumbersOnce}

-- a change that leaves alone what the records of a sequence are kept by
pub record KeepsRow (f : Sequence → Sequence) : Type 0 where
  pub number : (s : Sequence) → (f s).number ≡ s.number
  pub size : (s : Sequence) → (f s).size ≡ s.size
  pub arrived : (s : Sequence) → (f s).arrived ≡ s.arrived

-- a change that leaves alone number and size
pub record KeepsSize (f : Sequence → Sequence) : Type 0 where
  pub number : (s : Sequence) → (f s).number ≡ s.number
  pub size : (s : Sequence) → (f s).size ≡ s.size

pub sizes : {f : Sequence → Sequence} → KeepsRow f → KeepsSize f
sizes keeps = record { number = keeps.number; size = keeps.size }

pub known_map : (f : Sequence → Sequence) (rows : List Sequence) (n : ℕ) → KeepsSize f → is_known (map f rows) n ≡ is_known rows n
known_map f [] n keeps = refl
known_map f (s ∷ rows) n keeps = ap₂ (λ m b. (m == n) || b) (keeps.number s) (known_map f rows n keeps)

pub once_map : (f : Sequence → Sequence) (rows : List Sequence) → KeepsSize f → NumbersOnce rows → NumbersOnce (map f rows)
once_map f [] keeps once = tt
once_map f (s ∷ rows) keeps once =
    (known_map f rows (f s).number keeps ∙ ap (is_known rows) (keeps.number s) ∙ once.0, once_map f rows keeps once.1)

pub fit_map : (room capacity : ℕ) (f : Sequence → Sequence) (rows : List Sequence) → KeepsSize f → AllFit room capacity rows → AllFit room capacity (map f rows)
fit_map room capacity f [] keeps fit = tt
fit_map room capacity f (s ∷ rows) keeps fit = (
  subst (λ n. n ≤ room) (sym (keeps.size s)) fit.0,
  subst (λ n. room < n * (capacity + 1)) (sym (keeps.size s)) fit.1,
  fit_map room capacity f rows keeps fit.2,
)

pub sequence_map : (f : Sequence → Sequence) (rows : List Sequence) (n : ℕ) → KeepsSize f → is_known rows n ≡ true → sequence_in (map f rows) n ≡ f (sequence_in rows n)
sequence_map f [] n keeps known = absurd (true≢false (sym known))
sequence_map f (s ∷ rows) n keeps known =
    ap (λ m. cond (m == n) (f s) (sequence_in (map f rows) n)) (keeps.number s)
    ∙ of (s.number == n) (sequence_map f rows n keeps) known
  where
    of : (b : Bool) → (is_known rows n ≡ true → sequence_in (map f rows) n ≡ f (sequence_in rows n)) → (b || is_known rows n) ≡ true → cond b (f s) (sequence_in (map f rows) n) ≡ f (cond b s (sequence_in rows n))
    of true later is = refl
    of false later is = later is

arrived_same : (s t : Sequence) (id : ℕ) → t.arrived ≡ s.arrived → (has_arrived s id ≡ false) × (is_too_far s id ≡ false) → (has_arrived t id ≡ false) × (is_too_far t id ≡ false)
arrived_same s t id same near = (
  ap (λ (ids : List ℕ). has_arrived (record s { arrived = ids }) id) same ∙ near.0,
  ap (λ (ids : List ℕ). is_too_far (record s { arrived = ids }) id) same ∙ near.1,
)

kept_one : (f : Sequence → Sequence) (rows : List Sequence) (stored : Stored) → KeepsRow f → IsKept rows stored → IsKept (map f rows) stored
kept_one f rows stored keeps is =
    let n : ℕ = stored.key.sequence in
    let there : sequence_in (map f rows) n ≡ f (sequence_in rows n) = sequence_map f rows n (sizes keeps) is.known in
    record {
      known = known_map f rows n (sizes keeps) ∙ is.known;
      size = is.size ∙ sym (ap (λ (s : Sequence). s.size) there ∙ keeps.size (sequence_in rows n));
      reads = is.reads;
      number = is.number;
      id = is.id;
      part = λ partial. arrived_same (sequence_in rows n) (sequence_in (map f rows) n) stored.key.chunk_id
          (ap (λ (s : Sequence). s.arrived) there ∙ keeps.arrived (sequence_in rows n)) (is.part partial);
    }

kept_map : (f : Sequence → Sequence) (rows : List Sequence) (ss : List Stored) → KeepsRow f → AllKept rows ss → AllKept (map f rows) ss
kept_map f rows [] keeps kept = tt
kept_map f rows (s ∷ ss) keeps kept = (kept_one f rows s keeps kept.0, kept_map f rows ss keeps kept.1)

pub parts_map : (ring : RingValue) (index : IndexValue) (rows : List Sequence) (f : Sequence → Sequence) → KeepsRow f → AreParts ring index rows → AreParts ring index (map f rows)
parts_map ring index rows f keeps parts = record {
  indexed = parts.indexed;
  kept = kept_map f rows ring.live keeps parts.kept;
  once = once_map f rows (sizes keeps) parts.once;
  fit = fit_map ring.room index.capacity f rows (sizes keeps) parts.fit;
}

-- a change of the sequence with a number
pub sizes_at : (number : ℕ) (g : Sequence → Sequence) → KeepsSize g → KeepsSize (λ s. cond (s.number == number) (g s) s)
sizes_at number g keeps = record {
  number = λ s. of_number s (s.number == number);
  size = λ s. of_size s (s.number == number);
}
  where
    of_number : (s : Sequence) (b : Bool) → (cond b (g s) s).number ≡ s.number
    of_number s true = keeps.number s
    of_number s false = refl

    of_size : (s : Sequence) (b : Bool) → (cond b (g s) s).size ≡ s.size
    of_size s true = keeps.size s
    of_size s false = refl

pub keeps_at : (number : ℕ) (g : Sequence → Sequence) → KeepsRow g → KeepsRow (λ s. cond (s.number == number) (g s) s)
keeps_at number g keeps =
    let sized = sizes_at number g (sizes keeps) in
    record { number = sized.number; size = sized.size; arrived = λ s. of_arrived s (s.number == number) }
  where
    of_arrived : (s : Sequence) (b : Bool) → (cond b (g s) s).arrived ≡ s.arrived
    of_arrived s true = keeps.arrived s
    of_arrived s false = refl

pub parts_at : (ring : RingValue) (index : IndexValue) (rows new : List Sequence) (number : ℕ) (g : Sequence → Sequence) → KeepsRow g → AreParts ring index rows → new ≡ changed_at number g rows → AreParts ring index new
parts_at ring index rows new number g keeps parts is =
    subst (AreParts ring index) (sym is) (parts_map ring index rows (λ s. cond (s.number == number) (g s) s) (keeps_at number g keeps) parts)

-- the same of the vector in which they stand

pub items_of : (v : Vec Sequence Global) (new : List Sequence) → length new ≡ length v.items → (with_items v new).items ≡ new
items_of v new same = with_items_is v new (omega (arith, same, v.ok.0))

pub rows_after : (v : Vec Sequence Global) (seen new : List Sequence) (number : ℕ) (g : Sequence → Sequence) → seen ≡ v.items → new ≡ changed_at number g seen → (with_items v new).items ≡ changed_at number g v.items
rows_after v seen new number g same is =
    let all : new ≡ changed_at number g v.items = is ∙ ap (changed_at number g) same in
    items_of v new (ap length all ∙ length-map v.items (λ (s : Sequence). cond (s.number == number) (g s) s)) ∙ all

pub parts_after : (ring : RingValue) (index : IndexValue) (v : Vec Sequence Global) (seen new : List Sequence) (number : ℕ) (g : Sequence → Sequence) → KeepsRow g → AreParts ring index v.items → seen ≡ v.items → new ≡ changed_at number g seen → AreParts ring index (with_items v new).items
parts_after ring index v seen new number g keeps parts same is =
    parts_at ring index v.items (with_items v new).items number g keeps parts (rows_after v seen new number g same is)

pub keeps_advanced : (to : Cursor) (turn : Turn) → KeepsRow (advanced to turn)
keeps_advanced to turn = record { number = λ s. refl; size = λ s. refl; arrived = λ s. refl }

pub keeps_delivered : (to : Cursor) (count : ℕ) → KeepsRow (delivered_to to count)
keeps_delivered to count = record { number = λ s. refl; size = λ s. refl; arrived = λ s. refl }

pub keeps_discarded : (key : RecordKey) → KeepsRow (discarded_by key)
keeps_discarded key = record { number = λ s. refl; size = λ s. refl; arrived = λ s. refl }

pub keeps_losses : (lost : List BufferRecord) → KeepsRow (with_losses lost)
keeps_losses lost = record { number = λ s. refl; size = λ s. refl; arrived = λ s. refl }
