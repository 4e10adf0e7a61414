-- The first buffers as they are made, writer by writer and buffer by buffer.
use Rattle.std.proofs.Common.{◌≡◌, ◌≢◌, ◌∙◌, ℕ, zero, suc, ◌+◌, ◌-◌, ◌<◌, ◌≤◌, Bool, true, false, ◌||◌, List, [], ◌∷◌, ◌++◌, length, map, take, get_or, refl, sym, ap, arith, append-nil, length-take-le}
use Rattle.std.specs.Prelude.{cond, ◌==◌, replicate}
use Rattle.chunk_plain.specs.Views.{Taken, none_taken}
use Rattle.std.specs.List.{list_any}
use Rattle.std.proofs.lemmas.Bool.{eq-eqb, ne_eqb}
use Rattle.std.proofs.lemmas.List.{take_more, get_or-map, map-append}
use Rattle.trace_base.specs.declared.policy.WriterSpec.{WriterSpec}
use Rattle.page_geometry.specs.Sizes.{record_size, payload_size}
use Rattle.trace_model.specs.Sequences.{Sequence, fresh}
use Rattle.trace_model.specs.Buffers.{Buffer, empty_buffer}
use Rattle.chunk_plain.specs.declared.setup.ProducerSpec.{ProducerSpec}
use Rattle.chunk_plain.specs.Setup.{Setup, size_of, no_writer}
use Rattle.chunk_plain.specs.Laying.{ranges_of, chunks_in, setup_of}
use Rattle.world_model.specs.FirstBuffers as first
use Rattle.world_model.specs.FirstBuffers.{sequences_from, first_buffers}
use Rattle.trace_buffer.specs.declared.answers.SequenceSpec.{SequenceSpec}
use Rattle.trace_buffer.specs.Made.{sequence_of, AreDistinct, AllSmall}
use Rattle.service_core.specs.Agreement.{spec_at}

-- the numbers of the sequences are below this one
abbrev pub AllBelow : ℕ → List SequenceSpec → Type 0
AllBelow n [] = Unit {0}
AllBelow n (spec ∷ specs) = (spec.sequence < n) × AllBelow n specs

pub below_later : (n m : ℕ) (specs : List SequenceSpec) → n ≤ m → AllBelow n specs → AllBelow m specs
below_later n m [] low below = tt
below_later n m (spec ∷ specs) low below = let first = below.0 in (omega (arith, first, low), below_later n m specs low below.1)

pub below_append : (n : ℕ) (specs : List SequenceSpec) (spec : SequenceSpec) → spec.sequence < n → AllBelow n specs → AllBelow n (specs ++ spec ∷ [])
below_append n [] spec low below = (low, tt)
below_append n (s ∷ specs) spec low below = (below.0, below_append n specs spec low below.1)

pub small_append : (room : ℕ) (specs : List SequenceSpec) (spec : SequenceSpec) → record_size spec.payload ≤ room → AllSmall room specs → AllSmall room (specs ++ spec ∷ [])
small_append room [] spec low small = (low, tt)
small_append room (s ∷ specs) spec low small = (small.0, small_append room specs spec low small.1)

pub distinct_append : (specs : List SequenceSpec) (spec : SequenceSpec) → AllBelow spec.sequence specs → AreDistinct specs → AreDistinct (specs ++ spec ∷ [])
distinct_append [] spec below distinct = (refl, tt)
distinct_append (s ∷ specs) spec below distinct =
    let low = below.0 in
    (none specs distinct.0 (ne_eqb spec.sequence s.sequence (λ e. omega (arith, e, low))), distinct_append specs spec below.1 distinct.1)
  where
    none : (rest : List SequenceSpec) → list_any (λ (other : SequenceSpec). other.sequence == s.sequence) rest ≡ false → (spec.sequence == s.sequence) ≡ false
        → list_any (λ (other : SequenceSpec). other.sequence == s.sequence) (rest ++ spec ∷ []) ≡ false
    none [] h e = ap (λ (b : Bool). b || false) e
    none (r ∷ rest) h e = step (r.sequence == s.sequence) h (none rest)
      where
        step : (b : Bool) → (b || list_any (λ (other : SequenceSpec). other.sequence == s.sequence) rest) ≡ false
            → (list_any (λ (other : SequenceSpec). other.sequence == s.sequence) rest ≡ false → (spec.sequence == s.sequence) ≡ false
            → list_any (λ (other : SequenceSpec). other.sequence == s.sequence) (rest ++ spec ∷ []) ≡ false)
            → (b || list_any (λ (other : SequenceSpec). other.sequence == s.sequence) (rest ++ spec ∷ [])) ≡ false
        step true h k = absurd (cc)
        step false h k = k h e

-- the sequences of a buffer, with one more writer
from_append : (setup : Setup) (buffer place : ℕ) (specs : List WriterSpec) (spec : WriterSpec)
    → sequences_from setup buffer place (specs ++ spec ∷ [])
    ≡ sequences_from setup buffer place specs ++ cond (spec.buffer == buffer) (fresh (place + length specs + 2) (record_size (size_of setup spec.producer)) spec.from ∷ []) []
from_append setup buffer place [] spec =
    ap (λ (n : ℕ). cond (spec.buffer == buffer) (fresh (n + 2) (record_size (size_of setup spec.producer)) spec.from ∷ []) []) (let same : place ≡ place + 0 = omega arith in same)
from_append setup buffer place (s ∷ specs) spec =
    let later : suc place + length specs ≡ place + suc (length specs) = omega arith in
    let rest = from_append setup buffer (suc place) specs spec
    ∙ ap (λ (n : ℕ). sequences_from setup buffer (suc place) specs ++ cond (spec.buffer == buffer) (fresh (n + 2) (record_size (size_of setup spec.producer)) spec.from ∷ []) []) later in
    step (s.buffer == buffer) rest
  where
    step : (b : Bool)
        → sequences_from setup buffer (suc place) (specs ++ spec ∷ []) ≡ sequences_from setup buffer (suc place) specs ++ cond (spec.buffer == buffer) (fresh (place + suc (length specs) + 2) (record_size (size_of setup spec.producer)) spec.from ∷ []) []
        → cond b (fresh (place + 2) (record_size (size_of setup s.producer)) s.from ∷ sequences_from setup buffer (suc place) (specs ++ spec ∷ [])) (sequences_from setup buffer (suc place) (specs ++ spec ∷ []))
        ≡ cond b (fresh (place + 2) (record_size (size_of setup s.producer)) s.from ∷ sequences_from setup buffer (suc place) specs) (sequences_from setup buffer (suc place) specs)
        ++ cond (spec.buffer == buffer) (fresh (place + suc (length specs) + 2) (record_size (size_of setup spec.producer)) spec.from ∷ []) []
    step true rest = ap (λ (ss : List Sequence). fresh (place + 2) (record_size (size_of setup s.producer)) s.from ∷ ss) rest
    step false rest = rest

from_next : (setup : Setup) (buffer : ℕ) (specs : List WriterSpec) (i : ℕ) → i < length specs
    → sequences_from setup buffer 0 (take (i + 1) specs)
    ≡ sequences_from setup buffer 0 (take i specs) ++ cond ((spec_at specs i).buffer == buffer) (fresh (i + 2) (record_size (size_of setup (spec_at specs i).producer)) (spec_at specs i).from ∷ []) []
from_next setup buffer specs i below =
    let spec : WriterSpec = spec_at specs i in
    let long : 0 + length (take i specs) ≡ i = let same = length-take-le i specs (omega arith) in omega (arith, same) in
    ap (sequences_from setup buffer 0) (take_more specs i no_writer below)
    ∙ from_append setup buffer 0 (take i specs) spec
    ∙ ap (λ (n : ℕ). sequences_from setup buffer 0 (take i specs) ++ cond (spec.buffer == buffer) (fresh (n + 2) (record_size (size_of setup spec.producer)) spec.from ∷ []) []) long

pub from_skip : (setup : Setup) (buffer : ℕ) (specs : List WriterSpec) (i : ℕ) → i < length specs → (spec_at specs i).buffer ≢ buffer
    → sequences_from setup buffer 0 (take (i + 1) specs) ≡ sequences_from setup buffer 0 (take i specs)
from_skip setup buffer specs i below differs =
    let spec : WriterSpec = spec_at specs i in
    from_next setup buffer specs i below
    ∙ ap (λ (b : Bool). sequences_from setup buffer 0 (take i specs) ++ cond b (fresh (i + 2) (record_size (size_of setup spec.producer)) spec.from ∷ []) []) (ne_eqb spec.buffer buffer differs)
    ∙ append-nil (sequences_from setup buffer 0 (take i specs))

pub from_add : (setup : Setup) (buffer : ℕ) (specs : List WriterSpec) (i : ℕ) → i < length specs → (spec_at specs i).buffer ≡ buffer
    → sequences_from setup buffer 0 (take (i + 1) specs)
    ≡ sequences_from setup buffer 0 (take i specs) ++ fresh (i + 2) (record_size (size_of setup (spec_at specs i).producer)) (spec_at specs i).from ∷ []
from_add setup buffer specs i below same =
    let spec : WriterSpec = spec_at specs i in
    from_next setup buffer specs i below
    ∙ ap (λ (b : Bool). sequences_from setup buffer 0 (take i specs) ++ cond b (fresh (i + 2) (record_size (size_of setup spec.producer)) spec.from ∷ []) []) (eq-eqb spec.buffer buffer same)

-- one sequence more was made
pub made_more : (setup : Setup) (buffer : ℕ) (specs : List WriterSpec) (i : ℕ) (made : List SequenceSpec) (one : SequenceSpec) → i < length specs → (spec_at specs i).buffer ≡ buffer
    → one.sequence ≡ i + 2 → one.payload ≡ size_of setup (spec_at specs i).producer → one.from ≡ (spec_at specs i).from → map sequence_of made ≡ sequences_from setup buffer 0 (take i specs)
    → map sequence_of (made ++ one ∷ []) ≡ sequences_from setup buffer 0 (take (i + 1) specs)
made_more setup buffer specs i made one below same number payload from before =
    map-append sequence_of made (one ∷ [])
    ∙ ap (λ (ss : List Sequence). ss ++ sequence_of one ∷ []) before
    ∙ ap (λ (n : ℕ). sequences_from setup buffer 0 (take i specs) ++ fresh n (record_size one.payload) one.from ∷ []) number
    ∙ ap (λ (p : ℕ). sequences_from setup buffer 0 (take i specs) ++ fresh (i + 2) (record_size p) one.from ∷ []) payload
    ∙ ap (λ (n : ℕ). sequences_from setup buffer 0 (take i specs) ++ fresh (i + 2) (record_size (size_of setup (spec_at specs i).producer)) n ∷ []) from
    ∙ sym (from_add setup buffer specs i below same)

-- each producer has chunks, and its payload size
pub ranges_long : (first : ℕ) (producers : List ProducerSpec) → length (ranges_of first producers) ≡ length producers
ranges_long first [] = refl
ranges_long first (p ∷ ps) = ap suc (ranges_long (first + chunks_in p) ps)

pub size_is : (producers : List ProducerSpec) (writers : List WriterSpec) (producer : ℕ) (d : ProducerSpec) → producer - 1 < length producers
    → size_of (setup_of producers writers) producer ≡ payload_size (get_or producers (producer - 1) d).geometry.page_size (get_or producers (producer - 1) d).geometry.chunks
size_is producers writers producer d below =
    get_or-map (λ (p : ProducerSpec). payload_size p.geometry.page_size p.geometry.chunks) producers (producer - 1) d 0 below

-- one buffer more
first_append : (setup : Setup) (n : ℕ) (specs : List first.BufferSpec) (spec : first.BufferSpec)
    → first_buffers setup n (specs ++ spec ∷ []) ≡ first_buffers setup n specs ++ empty_buffer spec.size spec.policy (sequences_from setup (n + length specs) 0 setup.writers) ∷ []
first_append setup n [] spec =
    ap (λ (m : ℕ). empty_buffer spec.size spec.policy (sequences_from setup m 0 setup.writers) ∷ []) (let same : n ≡ n + 0 = omega arith in same)
first_append setup n (s ∷ specs) spec =
    let later : suc n + length specs ≡ n + suc (length specs) = omega arith in
    ap (λ (bs : List Buffer). empty_buffer s.size s.policy (sequences_from setup n 0 setup.writers) ∷ bs)
    (first_append setup (suc n) specs spec ∙ ap (λ (m : ℕ). first_buffers setup (suc n) specs ++ empty_buffer spec.size spec.policy (sequences_from setup m 0 setup.writers) ∷ []) later)

pub first_next : (setup : Setup) (specs : List first.BufferSpec) (spec : first.BufferSpec) (i : ℕ) → length specs ≡ i
    → first_buffers setup 1 (specs ++ spec ∷ []) ≡ first_buffers setup 1 specs ++ empty_buffer spec.size spec.policy (sequences_from setup (i + 1) 0 setup.writers) ∷ []
first_next setup specs spec i long =
    first_append setup 1 specs spec
    ∙ ap (λ (m : ℕ). first_buffers setup 1 specs ++ empty_buffer spec.size spec.policy (sequences_from setup m 0 setup.writers) ∷ [])
    (let same : 1 + length specs ≡ i + 1 = omega (arith, long) in same)

-- nothing was taken of any writer
pub none_counted : (taken : List Taken) (n : ℕ) → length taken ≡ n → ((place : ℕ) → (get_or taken place none_taken).count ≡ 0)
    → replicate n 0 ≡ map (λ (t : Taken). t.count) taken
none_counted taken n long none = ap (λ (k : ℕ). replicate k 0) (sym long) ∙ all taken none
  where
    all : (ts : List Taken) → ((place : ℕ) → (get_or ts place none_taken).count ≡ 0) → replicate (length ts) 0 ≡ map (λ (t : Taken). t.count) ts
    all [] none = refl
    all (t ∷ ts) none =
        ap (λ (k : ℕ). k ∷ replicate (length ts) 0) (sym (none zero)) ∙ ap (λ (ks : List ℕ). t.count ∷ ks) (all ts (λ place. none (suc place)))
