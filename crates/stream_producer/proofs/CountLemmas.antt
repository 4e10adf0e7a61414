-- Counts that are put in their places.
use Rattle.std.proofs.Common.{◌≡◌, ◌∙◌, ℕ, suc, ◌+◌, ◌-◌, ◌<◌, Some, List, [], ◌∷◌, length, map, get_or, refl, ap, arith}
use Rattle.std.specs.Prelude.{slice_get}
use Rattle.trace_base.specs.declared.policy.WriterSpec.{WriterSpec}
use Rattle.trace_model.specs.Buffers.{Buffer}
use Rattle.trace_model.specs.Sequences.{sequence_in}
use Rattle.chunk_plain.specs.Setup.{sequence_of}
use Rattle.trace_buffer.specs.Answers.{state_of}
use Rattle.loss_report.specs.declared.counts.SequenceCounts.{SequenceCounts}
use Rattle.service_core.specs.Agreement.{spec_at}
use Rattle.service_core.specs.Routing.{buffer_at}
use Rattle.stream_producer.specs.Counting.{counts_read, counts_from}

-- a list is another one mapped, where it is so at each place
pub map_each : {A B : Type 0} (f : A → B) (xs : List A) (ys : List B) → length ys ≡ length xs
    → ((i : ℕ) (x : A) (d : B) → slice_get xs i ≡ Some x → get_or ys i d ≡ f x) → ys ≡ map f xs
map_each f [] [] long each = refl
map_each f [] (y ∷ ys) long each = absurd (omega (arith, long))
map_each f (x ∷ xs) [] long each = absurd (omega (arith, long))
map_each f (x ∷ xs) (y ∷ ys) long each =
    ap (λ z. z ∷ ys) (each 0 x y refl) ∙ ap (λ zs. f x ∷ zs) (map_each f xs ys (omega (arith, long)) (λ i z d at. each (suc i) z d at))

-- what is counted of the writer at this place
abbrev pub count_of : List Buffer → (place : ℕ) → WriterSpec → SequenceCounts
count_of buffers place spec =
    counts_read (state_of (buffer_at buffers (spec.buffer - 1)).policy
    (sequence_in (buffer_at buffers (spec.buffer - 1)).sequences (sequence_of place)))

counts_behind : (buffers : List Buffer) (place : ℕ) (specs : List WriterSpec) (ys : List SequenceCounts) → length ys ≡ length specs
    → ((i : ℕ) (d : SequenceCounts) → i < length specs → get_or ys i d ≡ count_of buffers (place + i) (spec_at specs i))
    → ys ≡ counts_from buffers place specs
counts_behind buffers place [] [] long each = refl
counts_behind buffers place [] (y ∷ ys) long each = absurd (omega (arith, long))
counts_behind buffers place (spec ∷ specs) [] long each = absurd (omega (arith, long))
counts_behind buffers place (spec ∷ specs) (y ∷ ys) long each =
    ap (λ z. z ∷ ys) (each 0 y (omega arith) ∙ ap (λ (n : ℕ). count_of buffers n spec) (let here : place + 0 ≡ place = omega arith in here))
    ∙ ap (λ zs. count_of buffers place spec ∷ zs) (counts_behind buffers (suc place) specs ys (omega (arith, long))
    (λ i d below. each (suc i) d (omega (arith, below))
    ∙ ap (λ (n : ℕ). count_of buffers n (spec_at specs i)) (let same : place + suc i ≡ suc place + i = omega arith in same)))

pub counts_each : (buffers : List Buffer) (specs : List WriterSpec) (ys : List SequenceCounts) → length ys ≡ length specs
    → ((i : ℕ) (d : SequenceCounts) → i < length specs → get_or ys i d ≡ count_of buffers i (spec_at specs i))
    → ys ≡ counts_from buffers 0 specs
counts_each buffers specs ys long each =
    counts_behind buffers 0 specs ys long
    (λ i d below. each i d below ∙ ap (λ (n : ℕ). count_of buffers n (spec_at specs i)) (let same : i ≡ 0 + i = omega arith in same))
