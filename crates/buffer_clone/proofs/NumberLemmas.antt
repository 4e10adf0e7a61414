-- The numbers of a buffer's sequences, which no event changes.
use Rattle.std.proofs.Common.{◌≡◌, ◌∙◌, ℕ, zero, suc, ◌<◌, ◌==◌, ◌||◌, Bool, true, false, cond, List, [], ◌∷◌, ◌++◌, length, map, get_or, refl, sym, ap, ap₂, subst, arith, eq-eqb}
use Rattle.std.proofs.lemmas.Bool.{or_right}
use Rattle.trace_base.specs.declared.policy.FullPolicy.{FullPolicy}
use Rattle.trace_model.specs.Buffers.{Buffer, empty_buffer}
use Rattle.trace_model.specs.History.{Event, state_after, buffer_after}
use Rattle.trace_model.proofs.ShapeLemmas.{Shape, shapes, shapes_event}
use Rattle.trace_model.specs.Sequences.{Sequence, is_known, changed_at}
use Rattle.trace_buffer.specs.declared.answers.SequenceSpec.{SequenceSpec}
use Rattle.trace_buffer.specs.Clones.{made_from, numbers_of}
use Rattle.trace_buffer.specs.Made.{sequence_of}

abbrev pub numbers_in : List Sequence → List ℕ
numbers_in states = map (λ (state : Sequence). state.number) states

-- a change that leaves each number
pub numbers_map : (f : Sequence → Sequence) → ((s : Sequence) → (f s).number ≡ s.number) → (ss : List Sequence) → numbers_in (map f ss) ≡ numbers_in ss
numbers_map f keeps [] = refl
numbers_map f keeps (s ∷ ss) = ap₂ (λ n ns. n ∷ ns) (keeps s) (numbers_map f keeps ss)

pub numbers_changed : (q : ℕ) (f : Sequence → Sequence) → ((s : Sequence) → (f s).number ≡ s.number) → (ss : List Sequence) → numbers_in (changed_at q f ss) ≡ numbers_in ss
numbers_changed q f keeps ss = numbers_map (λ s. cond (s.number == q) (f s) s) (λ s. of s (s.number == q)) ss
  where
    of : (s : Sequence) (b : Bool) → (cond b (f s) s).number ≡ s.number
    of s true = keeps s
    of s false = refl

-- the sequence with such a number is there
known_in : (ss : List Sequence) (i d : ℕ) → i < length (numbers_in ss) → is_known ss (get_or (numbers_in ss) i d) ≡ true
known_in [] i d inside = absurd (omega arith)
known_in (s ∷ ss) zero d inside = ap (λ b. b || is_known ss s.number) (eq-eqb s.number s.number refl)
known_in (s ∷ ss) (suc i) d inside =
    or_right (s.number == get_or (numbers_in ss) i d) (is_known ss (get_or (numbers_in ss) i d)) (known_in ss i d (omega arith))

pub known_at : (b : Buffer) (numbers : List ℕ) (i d q : ℕ) → numbers_of b ≡ numbers → i < length numbers → q ≡ get_or numbers i d → is_known b.sequences q ≡ true
known_at b numbers i d q same inside is =
    ap (is_known b.sequences) (is ∙ ap (λ (ns : List ℕ). get_or ns i d) (sym same))
    ∙ known_in b.sequences i d (subst (λ (ns : List ℕ). i < length ns) (sym same) inside)

-- what is made from the same sequences has the same numbers
made_numbers : (ss : List Sequence) → map (λ (made : ℕ × ℕ). made.0) (map made_from ss) ≡ numbers_in ss
made_numbers [] = refl
made_numbers (s ∷ ss) = ap (λ ns. s.number ∷ ns) (made_numbers ss)

pub same_numbers : (ss ts : List Sequence) → map made_from ss ≡ map made_from ts → numbers_in ss ≡ numbers_in ts
same_numbers ss ts same = sym (made_numbers ss) ∙ ap (map (λ (made : ℕ × ℕ). made.0)) same ∙ made_numbers ts

made_spec : (specs : List SequenceSpec) → numbers_in (map sequence_of specs) ≡ map (λ (spec : SequenceSpec). spec.sequence) specs
made_spec [] = refl
made_spec (spec ∷ specs) = ap (λ ns. spec.sequence ∷ ns) (made_spec specs)

-- the numbers of the sequences that a buffer was made for
pub numbers_made : (b : Buffer) (room : ℕ) (policy : FullPolicy) (specs : List SequenceSpec) (numbers : List ℕ) → numbers ≡ map (λ (spec : SequenceSpec). spec.sequence) specs
    → b ≡ empty_buffer room policy (map sequence_of specs) → numbers ≡ numbers_of b
numbers_made b room policy specs numbers is made = is ∙ sym (made_spec specs) ∙ ap numbers_of (sym made)

-- Events one behind another

pub state_parts : (b : Buffer) (xs ys : List Event) → state_after b (xs ++ ys) ≡ state_after (state_after b xs) ys
state_parts b [] ys = refl
state_parts b (x ∷ xs) ys = state_parts (buffer_after b x) xs ys

made_seen : (ss : List Sequence) → map (λ (s : Shape). (s.number, s.size)) (shapes false ss) ≡ map made_from ss
made_seen [] = refl
made_seen (s ∷ ss) = ap (λ (made : List (ℕ × ℕ)). made_from s ∷ made) (made_seen ss)

-- behind any events a buffer is one that was made for the same sequences
pub made_after : (events : List Event) (b : Buffer) → map made_from (state_after b events).sequences ≡ map made_from b.sequences
made_after [] b = refl
made_after (event ∷ events) b =
    made_after events (buffer_after b event)
    ∙ sym (made_seen (buffer_after b event).sequences)
    ∙ ap (map (λ (s : Shape). (s.number, s.size))) (shapes_event b event)
    ∙ made_seen b.sequences
