-- What is kept on the way of a history: a packet whose outcome was fixed begins before the cursor, or in a chunk that is
-- gone for good.
use Rattle.std.proofs.Common.{◌≡◌, ◌∙◌, ℕ, Bool, true, false, ◌&&◌, List, [], ◌∷◌, ◌++◌, map, sym, ap, subst, arith, inl, inr}
use Rattle.std.specs.Prelude.{◌⊎◌, ◌==◌}
use Rattle.std.proofs.lemmas.Bool.{false_from_ne_true}
use Rattle.trace_model.specs.Sequences.{Sequence, has_arrived, sequence_in, is_known}
use Rattle.trace_model.specs.Buffers.{BufferRecord, is_of}
use Rattle.trace_model.specs.Causes.{Fixed, is_same_place}
use Rattle.trace_model.specs.CauseLaws.{AreDistinct}
use Rattle.trace_model.specs.RowLaws.{Before, UpTo}
use Rattle.trace_model.proofs.CursorLemmas.{Each, each-then, each-map, before_up_to, up_to_up_to, not_both, same_parts, same_up_to, Apart, AllApart}
use Rattle.trace_model.proofs.RecordLemmas.{NoneOf, Once, Come, Finished}

-- the second state of a sequence comes after the first
pub record Later (s t : Sequence) : Type 0 where
  pub cursor : UpTo s.cursor t.cursor
  pub arrived : (chunk_id : ℕ) → has_arrived s chunk_id ≡ true → has_arrived t chunk_id ≡ true
  pub closed : s.closed ≡ true → t.closed ≡ true

pub later_same : (s : Sequence) → Later s s
later_same s = record { cursor = same_up_to s.cursor; arrived = λ i h. h; closed = λ h. h }

pub later_both : (s t u : Sequence) → Later s t → Later t u → Later s u
later_both s t u h k = record {
  cursor = up_to_up_to s.cursor t.cursor u.cursor h.cursor k.cursor;
  arrived = λ i a. k.arrived i (h.arrived i a);
  closed = λ c. k.closed (h.closed c);
}

abbrev pub IsFixed : ℕ → Sequence → List BufferRecord → Fixed → Type 0
IsFixed q s live f = Before f.at s.cursor ⊎ (NoneOf q f.at.chunk_id live × Finished s f.at.chunk_id)

pub finished_later : (s t : Sequence) (chunk_id : ℕ) → Later s t → Finished s chunk_id → Finished t chunk_id
finished_later s t chunk_id h (inl a) = inl (h.arrived chunk_id a)
finished_later s t chunk_id h (inr c) = inr (h.closed c)

-- chunks that are gone stay so
abbrev pub StayGone : ℕ → Sequence → List BufferRecord → List BufferRecord → Type 0
StayGone q s live after = (chunk_id : ℕ) → NoneOf q chunk_id live → Finished s chunk_id → NoneOf q chunk_id after

pub fixed_later : (q : ℕ) (s t : Sequence) (live after : List BufferRecord) (f : Fixed) → Later s t → StayGone q s live after
    → IsFixed q s live f → IsFixed q t after f
fixed_later q s t live after f h g (inl k) = inl (before_up_to f.at s.cursor t.cursor k h.cursor)
fixed_later q s t live after f h g (inr k) = inr (g f.at.chunk_id k.0 k.1, finished_later s t f.at.chunk_id h k.1)

-- an outcome that wasn't fixed before
abbrev pub IsNew : ℕ → Sequence → List BufferRecord → Fixed → Type 0
IsNew q s live f = UpTo s.cursor f.at × (NoneOf q f.at.chunk_id live → Finished s f.at.chunk_id → ⊥)

new_differs : (q : ℕ) (s : Sequence) (live : List BufferRecord) (f g : Fixed) → IsFixed q s live f → IsNew q s live g → is_same_place f.at g.at ≡ false
new_differs q s live f g (inl h) n = false_from_ne_true (is_same_place f.at g.at) (λ e.
    let same : (f.at.chunk_id ≡ g.at.chunk_id) × (f.at.passed ≡ g.at.passed) = same_parts f.at g.at e in
    not_both f.at g.at (before_up_to f.at s.cursor g.at h n.0) (inr (sym same.0, omega (arith, same.1))))
new_differs q s live f g (inr h) n = false_from_ne_true (is_same_place f.at g.at) (λ e.
    let same : (f.at.chunk_id ≡ g.at.chunk_id) × (f.at.passed ≡ g.at.passed) = same_parts f.at g.at e in
    n.1 (subst (λ (i : ℕ). NoneOf q i live) same.0 h.0) (subst (λ (i : ℕ). Finished s i) same.0 h.1))

pub new_apart : (q : ℕ) (s : Sequence) (live : List BufferRecord) (old new : List Fixed) → Each (IsFixed q s live) old → Each (IsNew q s live) new → AllApart old new
new_apart q s live old new h k =
    each-then (IsNew q s live) (λ (g : Fixed). Apart g old)
    (λ g n. each-then (IsFixed q s live) (λ (f : Fixed). is_same_place f.at g.at ≡ false) (λ f i. new_differs q s live f g i n) old h) new k

-- What is known of sequence q on the way
pub record Holds (q : ℕ) (closed : Bool) (sequences : List Sequence) (live : List BufferRecord) (fixed : List Fixed) : Type 0 where
  pub known : is_known sequences q ≡ true
  pub once : Once q live
  pub come : Come q (sequence_in sequences q) live
  pub shut : (sequence_in sequences q).closed ≡ closed
  pub before : Each (IsFixed q (sequence_in sequences q) live) fixed

-- What an event does to it, which fixes these outcomes
pub record Steps (q : ℕ) (closed : Bool) (sequences : List Sequence) (live : List BufferRecord) (old new : List Fixed) : Type 0 where
  pub holds : Holds q closed sequences live (new ++ old)
  pub apart : AllApart old new
  pub distinct : AreDistinct new

pub steps_none : (q : ℕ) (closed : Bool) (sequences : List Sequence) (live : List BufferRecord) (old : List Fixed)
    → Holds q closed sequences live old → Steps q closed sequences live old []
steps_none q closed sequences live old h = record { holds = h; apart = tt; distinct = tt }

-- how a sequence's state changes
pub record Turns (q : ℕ) (old new : List Sequence) : Type 0 where
  pub known : is_known new q ≡ true
  pub later : Later (sequence_in old q) (sequence_in new q)
  pub closed : (sequence_in new q).closed ≡ (sequence_in old q).closed

pub turns_both : (q : ℕ) (a b c : List Sequence) → Turns q a b → Turns q b c → Turns q a c
turns_both q a b c h k = record {
  known = k.known;
  later = later_both (sequence_in a q) (sequence_in b q) (sequence_in c q) h.later k.later;
  closed = k.closed ∙ h.closed;
}

-- Changes of what records have

-- the record is of the same chunk
abbrev SameChunk : (BufferRecord → BufferRecord) → Type 0
SameChunk f = (r : BufferRecord) → ((f r).sequence ≡ r.sequence) × ((f r).chunk_id ≡ r.chunk_id)

is_of_same : (q chunk_id : ℕ) (f : BufferRecord → BufferRecord) → SameChunk f → (r : BufferRecord) → is_of q chunk_id (f r) ≡ is_of q chunk_id r
is_of_same q chunk_id f h r =
    ap (λ (n : ℕ). (n == q) && ((f r).chunk_id == chunk_id)) (h r).0 ∙ ap (λ (n : ℕ). (r.sequence == q) && (n == chunk_id)) (h r).1

pub none-map : (q chunk_id : ℕ) (f : BufferRecord → BufferRecord) → SameChunk f → (rs : List BufferRecord) → NoneOf q chunk_id rs → NoneOf q chunk_id (map f rs)
none-map q chunk_id f h rs k =
    each-map (λ (r : BufferRecord). is_of q chunk_id r ≡ false) (λ (r : BufferRecord). is_of q chunk_id r ≡ false) f (λ r e. is_of_same q chunk_id f h r ∙ e) rs k

pub once-map : (q : ℕ) (f : BufferRecord → BufferRecord) → SameChunk f → (rs : List BufferRecord) → Once q rs → Once q (map f rs)
once-map q f h [] k = tt
once-map q f h (r ∷ rs) k = (
  (λ e. subst (λ (i : ℕ). NoneOf q i (map f rs)) (sym (h r).1)
      (none-map q r.chunk_id f h rs (k.0 (subst (λ (n : ℕ). (n == q) ≡ true) (h r).0 e)))),
  once-map q f h rs k.1,
)

-- the sequence goes on, and records change in their places
pub holds_mapped : (q : ℕ) (closed : Bool) (old new : List Sequence) (live : List BufferRecord) (fixed : List Fixed) (f : BufferRecord → BufferRecord)
    → SameChunk f → Turns q old new
    → ((r : BufferRecord) → ((r.sequence == q) ≡ true → r.chunk.partial ≡ false → has_arrived (sequence_in old q) r.chunk_id ≡ true)
    → ((f r).sequence == q) ≡ true → (f r).chunk.partial ≡ false → has_arrived (sequence_in new q) (f r).chunk_id ≡ true)
    → Holds q closed old live fixed → Holds q closed new (map f live) fixed
holds_mapped q closed old new live fixed f same turns come h = record {
  known = turns.known;
  once = once-map q f same live h.once;
  come = each-map (λ (r : BufferRecord). (r.sequence == q) ≡ true → r.chunk.partial ≡ false → has_arrived (sequence_in old q) r.chunk_id ≡ true)
      (λ (r : BufferRecord). (r.sequence == q) ≡ true → r.chunk.partial ≡ false → has_arrived (sequence_in new q) r.chunk_id ≡ true) f come live h.come;
  shut = turns.closed ∙ h.shut;
  before = each-then (IsFixed q (sequence_in old q) live) (IsFixed q (sequence_in new q) (map f live))
      (λ g k. fixed_later q (sequence_in old q) (sequence_in new q) live (map f live) g turns.later (λ i n e. none-map q i f same live n) k) fixed h.before;
}

-- the sequence goes on, and records stay
pub holds_turned : (q : ℕ) (closed : Bool) (old new : List Sequence) (live : List BufferRecord) (fixed : List Fixed)
    → Turns q old new → Holds q closed old live fixed → Holds q closed new live fixed
holds_turned q closed old new live fixed turns h = record {
  known = turns.known;
  once = h.once;
  come = each-then (λ (r : BufferRecord). (r.sequence == q) ≡ true → r.chunk.partial ≡ false → has_arrived (sequence_in old q) r.chunk_id ≡ true)
      (λ (r : BufferRecord). (r.sequence == q) ≡ true → r.chunk.partial ≡ false → has_arrived (sequence_in new q) r.chunk_id ≡ true)
      (λ r k e p. turns.later.arrived r.chunk_id (k e p)) live h.come;
  shut = turns.closed ∙ h.shut;
  before = each-then (IsFixed q (sequence_in old q) live) (IsFixed q (sequence_in new q) live)
      (λ g k. fixed_later q (sequence_in old q) (sequence_in new q) live live g turns.later (λ i n e. n) k) fixed h.before;
}
