-- What becomes of what arrives.
use Rattle.std.proofs.Common.{◌≡◌, ℕ, ◌<◌, ◌^◌, ◌==◌, ◌||◌, Bool, true, false, cond, List, map, Option, Some, None, is_some, refl, sym, ap, ap₂, ◌∙◌}
use Rattle.std.specs.FinMap.{FinMap, get}
use Rattle.std.specs.List.{find}
use Rattle.std.specs.Option.{option_map}
use Rattle.std.specs.Ordering.{nat_cmp}
use Rattle.chunk_index.specs.Value.{key_of}
use Rattle.ring_bytes.specs.Value.{Stored, RingValue}
use Rattle.trace_model.specs.Arrivals.{Kept, Rewritten, Duplicate, Discarded, TooFar, is_too_far, is_refused, placing_of, arrival_of, partial_arrival_of, has_as_many}
use Rattle.trace_model.specs.Buffers.{Buffer, BufferRecord, is_of, live_at}
use Rattle.trace_model.specs.Sequences.{Sequence, sequence_in, has_arrived, unread_of}
use Rattle.trace_buffer.specs.BufferFields.{IsIndexed}
use Rattle.trace_buffer.specs.Records.{record_of, is_at_key}
use Rattle.trace_buffer.proofs.FindLemmas.{live_is}

-- A complete chunk

arrival_is : (v : Buffer) (q i n : ℕ) (row : Sequence) (b d : Bool) → row ≡ sequence_in v.sequences q → n ≡ i → b ≡ has_arrived row n → d ≡ is_too_far row i → cond b Duplicate (cond d TooFar (placing_of v q i)) ≡ arrival_of v q i
arrival_is v q i n row b d row_is n_is b_is d_is =
    ap₂ (λ x y. cond x Duplicate (cond y TooFar (placing_of v q i)))
    (b_is ∙ ap (has_arrived row) n_is ∙ ap (λ (s : Sequence). has_arrived s i) row_is)
    (d_is ∙ ap (λ (s : Sequence). is_too_far s i) row_is)

pub is_double : (v : Buffer) (q i n : ℕ) (row : Sequence) (b : Bool) → row ≡ sequence_in v.sequences q → n ≡ i → b ≡ has_arrived row n → b ≡ true → Duplicate ≡ arrival_of v q i
is_double v q i n row b row_is n_is b_is holds =
    sym (ap (λ x. cond x Duplicate (cond (is_too_far row i) TooFar (placing_of v q i))) holds)
    ∙ arrival_is v q i n row b (is_too_far row i) row_is n_is b_is refl

pub is_far : (v : Buffer) (q i n : ℕ) (row : Sequence) (b d : Bool) → row ≡ sequence_in v.sequences q → n ≡ i → b ≡ has_arrived row n → d ≡ is_too_far row i → b ≡ false → d ≡ true → TooFar ≡ arrival_of v q i
is_far v q i n row b d row_is n_is b_is d_is absent far =
    sym (ap₂ (λ x y. cond x Duplicate (cond y TooFar (placing_of v q i))) absent far) ∙ arrival_is v q i n row b d row_is n_is b_is d_is

pub is_placed : (v : Buffer) (q i n : ℕ) (row : Sequence) (b d : Bool) → row ≡ sequence_in v.sequences q → n ≡ i → b ≡ has_arrived row n → d ≡ is_too_far row i → b ≡ false → d ≡ false → placing_of v q i ≡ arrival_of v q i
is_placed v q i n row b d row_is n_is b_is d_is absent near =
    sym (ap₂ (λ x y. cond x Duplicate (cond y TooFar (placing_of v q i))) absent near) ∙ arrival_is v q i n row b d row_is n_is b_is d_is

-- The first fragments of one

pub is_no_new : Buffer → ℕ → ℕ → ℕ → Bool
is_no_new v q i count =
    has_arrived (sequence_in v.sequences q) i
    || (has_as_many count (live_at v q i) || (unread_of (sequence_in v.sequences q) i count == 0))

pub no_new_is : (v : Buffer) (q i n count : ℕ) (row : Sequence) (a b d : Bool) → row ≡ sequence_in v.sequences q → n ≡ i → a ≡ has_arrived row n → b ≡ has_as_many count (live_at v q i) → d ≡ (unread_of row i count == 0) → (a || (b || d)) ≡ is_no_new v q i count
unfolding is_no_new
no_new_is v q i n count row a b d row_is n_is a_is b_is d_is =
    ap₂ (λ x y. x || y) (a_is ∙ ap (has_arrived row) n_is ∙ ap (λ (s : Sequence). has_arrived s i) row_is)
    (ap₂ (λ x y. x || y) b_is (d_is ∙ ap (λ (s : Sequence). unread_of s i count == 0) row_is))

pub no_new : (v : Buffer) (q i count : ℕ) → is_no_new v q i count ≡ true → Duplicate ≡ partial_arrival_of v q i count
unfolding is_no_new
no_new v q i count holds =
    sym (ap (λ b. cond b Duplicate (cond (is_too_far (sequence_in v.sequences q) i) TooFar (placing_of v q i))) holds)

pub part_far : (v : Buffer) (q i count : ℕ) (row : Sequence) (d : Bool) → is_no_new v q i count ≡ false → row ≡ sequence_in v.sequences q → d ≡ is_too_far row i → d ≡ true → TooFar ≡ partial_arrival_of v q i count
unfolding is_no_new
part_far v q i count row d new row_is d_is far =
    sym
    (ap₂ (λ b e. cond b Duplicate (cond e TooFar (placing_of v q i))) new
    (ap (λ (s : Sequence). is_too_far s i) (sym row_is) ∙ sym d_is ∙ far))

pub part_placed : (v : Buffer) (q i count : ℕ) (row : Sequence) (d : Bool) → is_no_new v q i count ≡ false → row ≡ sequence_in v.sequences q → d ≡ is_too_far row i → d ≡ false → placing_of v q i ≡ partial_arrival_of v q i count
unfolding is_no_new
part_placed v q i count row d new row_is d_is near =
    sym
    (ap₂ (λ b e. cond b Duplicate (cond e TooFar (placing_of v q i))) new
    (ap (λ (s : Sequence). is_too_far s i) (sym row_is) ∙ sym d_is ∙ near))

-- Whether the chunk has a record

pub some_same : {X Y Z : Type 0} (f : X → Y) (g : X → Z) (o : Option X) → is_some (option_map f o) ≡ is_some (option_map g o)
some_same f g None = refl
some_same f g (Some x) = refl

pub is_there : (ring : RingValue) (places : FinMap nat_cmp ℕ) (live : List BufferRecord) (q i : ℕ) (found : Option ℕ) (b : Bool) → IsIndexed places ring.live → q < 2 ^ 32 → i < 2 ^ 32 → map record_of ring.live ≡ live → found ≡ get places (key_of q i) → b ≡ is_some found → b ≡ is_some (find (is_of q i) live)
is_there ring places live q i found b is low below view found_is told =
    told
    ∙ ap is_some (found_is ∙ is.found q i low below)
    ∙ some_same (λ (s : Stored). s.at) record_of (find (is_at_key q i) ring.live)
    ∙ ap is_some (sym (live_is ring live q i view))

placing_if : (v : Buffer) (q i : ℕ) (b d : Bool) → b ≡ is_some (live_at v q i) → d ≡ is_refused v (sequence_in v.sequences q).size → cond b Rewritten (cond d Discarded Kept) ≡ placing_of v q i
placing_if v q i b d b_is d_is = ap₂ (λ x y. cond x Rewritten (cond y Discarded Kept)) b_is d_is

pub placing_there : (v : Buffer) (q i : ℕ) (b : Bool) → b ≡ is_some (live_at v q i) → b ≡ true → Rewritten ≡ placing_of v q i
placing_there v q i b b_is holds =
    sym (ap (λ x. cond x Rewritten (cond (is_refused v (sequence_in v.sequences q).size) Discarded Kept)) holds)
    ∙ placing_if v q i b (is_refused v (sequence_in v.sequences q).size) b_is refl

pub placing_refused : (v : Buffer) (q i : ℕ) (b d : Bool) → b ≡ is_some (live_at v q i) → d ≡ is_refused v (sequence_in v.sequences q).size → b ≡ false → d ≡ true → Discarded ≡ placing_of v q i
placing_refused v q i b d b_is d_is none holds =
    sym (ap₂ (λ x y. cond x Rewritten (cond y Discarded Kept)) none holds) ∙ placing_if v q i b d b_is d_is

pub placing_kept : (v : Buffer) (q i : ℕ) (b d : Bool) → b ≡ is_some (live_at v q i) → d ≡ is_refused v (sequence_in v.sequences q).size → b ≡ false → d ≡ false → Kept ≡ placing_of v q i
placing_kept v q i b d b_is d_is none not_refused =
    sym (ap₂ (λ x y. cond x Rewritten (cond y Discarded Kept)) none not_refused) ∙ placing_if v q i b d b_is d_is
