-- What the lines say of chunks and buffer bytes, producer by producer and buffer by buffer.
use Rattle.std.proofs.Common.{◌≡◌, ◌∙◌, ℕ, zero, suc, ◌+◌, ◌-◌, ◌*◌, ◌<◌, ◌≤◌, Bool, true, false, ◌||◌, List, [], ◌∷◌, length, map, get_or, filter, sum_by, Some, refl, sym, ap, subst, arith, cond}
use Rattle.std.specs.Prelude.{◌==◌, nat_le, slice_get, IsTrue}
use Rattle.std.specs.List.{list_all, enumerate_from, AllZip}
use Rattle.std.proofs.lemmas.Bool.{eq-eqb, false≢true, leb-true, and_parts}
use Rattle.std.proofs.lemmas.List.Sums.{sum_by-cons}
use Rattle.trace_base.specs.declared.policy.WriterPolicy.{WriterPolicy}
use Rattle.trace_base.specs.declared.policy.WriterPolicy.TheVariants.{Drops, Stalls, StallsThenDrops}
use Rattle.trace_base.specs.declared.policy.WriterSpec.{WriterSpec}
use Rattle.page_geometry.specs.Sizes.{payload_size, record_size}
use Rattle.trace_model.specs.Enough.{ChunkRoom, WriterLoad, most_chunks, payload_in, stalls, is_enough_for, has_chunks_enough, most_bytes, has_bytes_enough}
use Rattle.trace_model.specs.Packets.{emissions_of}
use Rattle.trace_writer.specs.Helping.{loses}
use Rattle.chunk_plain.specs.declared.setup.ProducerSpec.{ProducerSpec}
use Rattle.chunk_plain.specs.Laying.{ranges_of, sizes_of, chunks_in}
use Rattle.scenario_text.specs.declared.scenario.ProducerLine.{ProducerLine}
use Rattle.scenario_text.specs.declared.scenario.NumberedLine.{NumberedLine}
use Rattle.scenario_text.specs.Accepted.{calls_asked, is_closed_by}
use Rattle.replay_model.specs.Enough.{closed_from, room_of, loads_from}
use Rattle.replay_model.specs.Played.{IsSpecOf}
use Rattle.replay_model.proofs.BalanceLemmas.{get_map}

-- ---- from lists to their elements

-- a test that holds of all holds of the one with this number
all_at : {X : Type 0} (test : ℕ → X → Bool) (n : ℕ) (xs : List X) (i : ℕ) (x : X) → list_all (λ (one : ℕ × X). test one.0 one.1) (enumerate_from n xs) ≡ true → slice_get xs i ≡ Some x
    → test (n + i) x ≡ true
all_at test n [] i x all get = absurd (cc)
all_at test n (y ∷ xs) zero x all get =
    let same : y ≡ x = cc in
    let first = and_parts (test n y) (list_all (λ one. test one.0 one.1) (enumerate_from (n + 1) xs)) all in
    subst (λ (m : ℕ). test m x ≡ true) (let at : n ≡ n + 0 = omega arith in at) (subst (λ z. test n z ≡ true) same first.0)
all_at test n (y ∷ xs) (suc i) x all get =
    let both = and_parts (test n y) (list_all (λ one. test one.0 one.1) (enumerate_from (n + 1) xs)) all in
    subst (λ (m : ℕ). test m x ≡ true) (let at : n + 1 + i ≡ n + suc i = omega arith in at) (all_at test (n + 1) xs i x both.1 get)

-- ---- sums over the loads

-- the chunks that the loads of a producer's writers take at most, of which the first writer has this number
abbrev pub most_from : List NumberedLine → (producer payload number : ℕ) → List WriterSpec → ℕ
most_from lines producer payload number [] = 0
most_from lines producer payload number (spec ∷ specs) =
    cond (spec.producer == producer) (most_chunks payload (emissions_of (calls_asked number lines))) 0 + most_from lines producer payload (suc number) specs

sum_cond : (f : WriterLoad → ℕ) (b : Bool) (x : WriterLoad) (xs : List WriterLoad) → sum_by f (cond b (x ∷ xs) xs) ≡ cond b (f x) 0 + sum_by f xs
sum_cond f true x xs = sum_by-cons f x xs
sum_cond f false x xs = omega arith

sum_of_loads : (lines : List NumberedLine) (producer payload number : ℕ) (specs : List WriterSpec)
    → sum_by (λ (load : WriterLoad). most_chunks payload load.emitted) (filter (λ (load : WriterLoad). load.spec.producer == producer) (loads_from lines number specs))
    ≡ most_from lines producer payload number specs
sum_of_loads lines producer payload number [] = refl
sum_of_loads lines producer payload number (spec ∷ specs) =
    sum_cond (λ (load : WriterLoad). most_chunks payload load.emitted) (spec.producer == producer)
    (record { spec = spec; emitted = emissions_of (calls_asked number lines) })
    (filter (λ (load : WriterLoad). load.spec.producer == producer) (loads_from lines (suc number) specs))
    ∙ ap (λ (n : ℕ). cond (spec.producer == producer) (most_chunks payload (emissions_of (calls_asked number lines))) 0 + n) (sum_of_loads lines producer payload (suc number) specs)

-- a policy that loses packets is none that stalls
loses_not_stalls : (policy : WriterPolicy) → loses policy ≡ true → stalls policy ≡ false
loses_not_stalls Drops losing = refl
loses_not_stalls Stalls losing = absurd (false≢true losing)
loses_not_stalls (StallsThenDrops tries) losing = refl

-- a writer whose policy loses packets is no one that stalls
losing_among : (lines : List NumberedLine) (producer number : ℕ) (specs : List WriterSpec) (i : ℕ) (spec : WriterSpec) → slice_get specs i ≡ Some spec
    → spec.producer ≡ producer → loses spec.policy ≡ true
    → list_all (λ (load : WriterLoad). stalls load.spec.policy) (filter (λ (load : WriterLoad). load.spec.producer == producer) (loads_from lines number specs)) ≡ true → ⊥
losing_among lines producer number [] i spec get mine losing all = absurd (cc)
losing_among lines producer number (first ∷ specs) zero spec get mine losing all =
    let same : first ≡ spec = cc in
    let own : (first.producer == producer) ≡ true = eq-eqb first.producer producer (ap (λ (s : WriterSpec). s.producer) same ∙ mine) in
    let later : List WriterLoad = filter (λ (load : WriterLoad). load.spec.producer == producer) (loads_from lines (suc number) specs) in
    let one : WriterLoad = record { spec = first; emitted = emissions_of (calls_asked number lines) } in
    let kept : list_all (λ (load : WriterLoad). stalls load.spec.policy) (one ∷ later) ≡ true =
    sym (ap (λ (b : Bool). list_all (λ (load : WriterLoad). stalls load.spec.policy) (cond b (one ∷ later) later)) own) ∙ all in
    let both = and_parts (stalls first.policy) (list_all (λ (load : WriterLoad). stalls load.spec.policy) later) kept in
    let never : stalls first.policy ≡ false = ap (λ (s : WriterSpec). stalls s.policy) same ∙ loses_not_stalls spec.policy losing in
    false≢true (sym never ∙ both.0)
losing_among lines producer number (first ∷ specs) (suc i) spec get mine losing all =
    step (first.producer == producer) all (λ h. losing_among lines producer (suc number) specs i spec get mine losing h)
  where
    step : (b : Bool)
        → list_all (λ (load : WriterLoad). stalls load.spec.policy)
        (cond b (record { spec = first; emitted = emissions_of (calls_asked number lines) } ∷ filter (λ (load : WriterLoad). load.spec.producer == producer) (loads_from lines (suc number) specs))
        (filter (λ (load : WriterLoad). load.spec.producer == producer) (loads_from lines (suc number) specs))) ≡ true
        → (list_all (λ (load : WriterLoad). stalls load.spec.policy) (filter (λ (load : WriterLoad). load.spec.producer == producer) (loads_from lines (suc number) specs)) ≡ true → ⊥) → ⊥
    step true all rest = rest (and_parts (stalls first.policy) _ all).1
    step false all rest = rest all

or_right : (a b : Bool) → (a || b) ≡ true → (a ≡ true → ⊥) → b ≡ true
or_right true b is none = absurd (none refl)
or_right false b is none = is

-- Where chunks are enough, those of a producer with a writer whose policy loses packets are as many as its writers' packets take at most.
pub chunks_enough : (lines : List NumberedLine) (producers : List ProducerLine) (specs : List WriterSpec) (i : ℕ) (spec : WriterSpec) (line : ProducerLine)
    → IsTrue (has_chunks_enough (map room_of producers) (loads_from lines 1 specs)) → slice_get specs i ≡ Some spec → loses spec.policy ≡ true
    → 1 ≤ spec.producer → slice_get producers (spec.producer - 1) ≡ Some line
    → most_from lines spec.producer (payload_size line.page_size line.chunks) 1 specs ≤ line.pages * line.chunks
chunks_enough lines producers specs i spec line enough get losing least there =
    let loads : List WriterLoad = loads_from lines 1 specs in
    let room : ChunkRoom = room_of line in
    let holds = all_at (λ (number : ℕ) (one : ChunkRoom). is_enough_for (filter (λ (load : WriterLoad). load.spec.producer == number) loads) one) 1 (map room_of producers)
    (spec.producer - 1) room enough (get_map room_of producers (spec.producer - 1) line there) in
    let number : 1 + (spec.producer - 1) ≡ spec.producer = omega (arith, least) in
    let here : is_enough_for (filter (λ (load : WriterLoad). load.spec.producer == spec.producer) loads) room ≡ true =
    subst (λ (n : ℕ). is_enough_for (filter (λ (load : WriterLoad). load.spec.producer == n) loads) room ≡ true) number holds in
    let fits = or_right _ (nat_le (sum_by (λ (load : WriterLoad). most_chunks room.payload load.emitted) (filter (λ (load : WriterLoad). load.spec.producer == spec.producer) loads)) room.chunks) here
    (losing_among lines spec.producer 1 specs i spec get refl losing) in
    let low = leb-true (sum_by (λ (load : WriterLoad). most_chunks room.payload load.emitted) (filter (λ (load : WriterLoad). load.spec.producer == spec.producer) loads)) room.chunks fits in
    subst (λ (n : ℕ). n ≤ room.chunks) (sum_of_loads lines spec.producer room.payload 1 specs) low

-- ---- the same for bytes

-- the payload size of a writer's chunks
abbrev pub payload_for : List ProducerLine → WriterSpec → ℕ
payload_for producers spec = payload_in (slice_get (map room_of producers) (spec.producer - 1))

-- the bytes that the records of a buffer's writers take at most, of which the first writer has this number
abbrev pub bytes_from : List NumberedLine → List ProducerLine → (buffer number : ℕ) → List WriterSpec → ℕ
bytes_from lines producers buffer number [] = 0
bytes_from lines producers buffer number (spec ∷ specs) =
    cond (spec.buffer == buffer) (most_chunks (payload_for producers spec) (emissions_of (calls_asked number lines)) * record_size (payload_for producers spec)) 0
    + bytes_from lines producers buffer (suc number) specs

sum_of_bytes : (lines : List NumberedLine) (producers : List ProducerLine) (buffer number : ℕ) (specs : List WriterSpec)
    → sum_by (most_bytes (map room_of producers)) (filter (λ (load : WriterLoad). load.spec.buffer == buffer) (loads_from lines number specs))
    ≡ bytes_from lines producers buffer number specs
sum_of_bytes lines producers buffer number [] = refl
sum_of_bytes lines producers buffer number (spec ∷ specs) =
    sum_cond (most_bytes (map room_of producers)) (spec.buffer == buffer)
    (record { spec = spec; emitted = emissions_of (calls_asked number lines) })
    (filter (λ (load : WriterLoad). load.spec.buffer == buffer) (loads_from lines (suc number) specs))
    ∙ ap (λ (n : ℕ). cond (spec.buffer == buffer) (most_chunks (payload_for producers spec) (emissions_of (calls_asked number lines)) * record_size (payload_for producers spec)) 0 + n)
    (sum_of_bytes lines producers buffer (suc number) specs)

pub bytes_enough : (lines : List NumberedLine) (producers : List ProducerLine) (sizes : List ℕ) (specs : List WriterSpec) (i size : ℕ)
    → IsTrue (has_bytes_enough sizes (map room_of producers) (loads_from lines 1 specs)) → slice_get sizes i ≡ Some size
    → bytes_from lines producers (1 + i) 1 specs ≤ size
bytes_enough lines producers sizes specs i size enough get =
    let loads : List WriterLoad = loads_from lines 1 specs in
    let holds = all_at (λ (number one : ℕ). nat_le (sum_by (most_bytes (map room_of producers)) (filter (λ (load : WriterLoad). load.spec.buffer == number) loads)) one) 1 sizes i size enough get in
    let low = leb-true (sum_by (most_bytes (map room_of producers)) (filter (λ (load : WriterLoad). load.spec.buffer == (1 + i)) loads)) size holds in
    subst (λ (n : ℕ). n ≤ size) (sum_of_bytes lines producers (1 + i) 1 specs) low

-- ---- no producer is closed

pub none_closed : (lines : List NumberedLine) (number : ℕ) (producers : List ProducerLine) (i : ℕ) → closed_from lines number producers ≡ [] → i < length producers
    → is_closed_by lines (number + i) ≡ false
none_closed lines number [] i none low = absurd (omega (arith, low))
none_closed lines number (producer ∷ producers) zero none low =
    subst (λ (n : ℕ). is_closed_by lines n ≡ false) (let at : number ≡ number + 0 = omega arith in at) (step (is_closed_by lines number) refl none)
  where
    step : (b : Bool) → is_closed_by lines number ≡ b → cond b (number ∷ closed_from lines (suc number) producers) (closed_from lines (suc number) producers) ≡ []
        → is_closed_by lines number ≡ false
    step true is none = absurd (cc)
    step false is none = is
none_closed lines number (producer ∷ producers) (suc i) none low =
    subst (λ (n : ℕ). is_closed_by lines n ≡ false) (let at : suc number + i ≡ number + suc i = omega arith in at)
    (none_closed lines (suc number) producers i (step (is_closed_by lines number) none) (omega (arith, low)))
  where
    step : (b : Bool) → cond b (number ∷ closed_from lines (suc number) producers) (closed_from lines (suc number) producers) ≡ [] → closed_from lines (suc number) producers ≡ []
    step true none = absurd (cc)
    step false none = none

-- ---- the table's set-up

pub size_is : (lines : List ProducerLine) (specs : List ProducerSpec) (i : ℕ) (line : ProducerLine) → AllZip IsSpecOf lines specs → slice_get lines i ≡ Some line
    → get_or (sizes_of specs) i 0 ≡ payload_size line.page_size line.chunks
size_is [] specs i line all get = absurd (cc)
size_is (one ∷ lines) [] i line all get = absurd all
size_is (one ∷ lines) (spec ∷ specs) zero line all get =
    let same : one ≡ line = cc in
    ap (λ (n : ℕ). payload_size n spec.geometry.chunks) all.0.page_size ∙ ap (payload_size one.page_size) all.0.chunks
    ∙ ap (λ (l : ProducerLine). payload_size l.page_size l.chunks) same
size_is (one ∷ lines) (spec ∷ specs) (suc i) line all get = size_is lines specs i line all.1 get

pub count_is : (lines : List ProducerLine) (specs : List ProducerSpec) (first i : ℕ) (line : ProducerLine) → AllZip IsSpecOf lines specs → slice_get lines i ≡ Some line
    → (get_or (ranges_of first specs) i (record { first = 0; count = 0 })).count ≡ line.pages * line.chunks
count_is [] specs first i line all get = absurd (cc)
count_is (one ∷ lines) [] first i line all get = absurd all
count_is (one ∷ lines) (spec ∷ specs) first zero line all get =
    let same : one ≡ line = cc in
    ap (λ (n : ℕ). n * spec.geometry.chunks) all.0.pages ∙ ap (λ (n : ℕ). one.pages * n) all.0.chunks
    ∙ ap (λ (l : ProducerLine). l.pages * l.chunks) same
count_is (one ∷ lines) (spec ∷ specs) first (suc i) line all get = count_is lines specs (first + chunks_in spec) i line all.1 get
