-- Which chunks of a sequence have a live record, and what losing records fixes.
use Rattle.std.proofs.Common.{◌≡◌, ◌∙◌, ℕ, Bool, true, false, not, ◌&&◌, List, [], ◌∷◌, ◌++◌, map, refl, sym, subst, inl, inr}
use Rattle.std.specs.Prelude.{filter, cond, ◌⊎◌, ◌==◌}
use Rattle.std.specs.List.{flat_map}
use Rattle.std.proofs.lemmas.Bool.{and_parts, and_from, eqb-true, eq-eqb, false≢true, false_from_ne_true}
use Rattle.trace_model.specs.Sequences.{Sequence, has_arrived}
use Rattle.trace_model.specs.Buffers.{BufferRecord, is_of, is_loss_of}
use Rattle.trace_model.specs.Causes.{Fixed, is_same_place, unread_start_places, lost_at, fixed_by_loss}
use Rattle.trace_model.specs.CauseLaws.{AreDistinct}
use Rattle.trace_model.specs.RowLaws.{UpTo}
use Rattle.trace_model.proofs.CursorLemmas.{Each, each-append, each-then, each-filter, same_parts, distinct-append, Apart}
use Rattle.trace_model.proofs.LossPlaceLemmas.{AreUnread, unread_places}

-- no record is of the chunk; some record is
abbrev pub NoneOf : ℕ → ℕ → List BufferRecord → Type 0
NoneOf q chunk_id rs = Each (λ r. is_of q chunk_id r ≡ false) rs

abbrev pub Has : ℕ → ℕ → List BufferRecord → Type 0
Has q chunk_id [] = ⊥
Has q chunk_id (r ∷ rs) = (is_of q chunk_id r ≡ true) ⊎ Has q chunk_id rs

pub not_none : (q chunk_id : ℕ) (rs : List BufferRecord) → Has q chunk_id rs → NoneOf q chunk_id rs → ⊥
not_none q chunk_id [] h k = h
not_none q chunk_id (r ∷ rs) (inl h) k = false≢true (sym k.0 ∙ h)
not_none q chunk_id (r ∷ rs) (inr h) k = not_none q chunk_id rs h k.1

-- at most one record is of each chunk
abbrev pub Once : ℕ → List BufferRecord → Type 0
Once q [] = Unit {0}
Once q (r ∷ rs) = ((r.sequence == q) ≡ true → NoneOf q r.chunk_id rs) × Once q rs

pub once-filter : (q : ℕ) (p : BufferRecord → Bool) (rs : List BufferRecord) → Once q rs → Once q (filter p rs)
once-filter q p [] h = tt
once-filter q p (r ∷ rs) h = step (p r) (once-filter q p rs h.1)
  where
    step : (b : Bool) → Once q (filter p rs) → Once q (cond b (r ∷ filter p rs) (filter p rs))
    step true k = ((λ e. each-filter (λ t. is_of q r.chunk_id t ≡ false) p rs (h.0 e)), k)
    step false k = k

is_of_parts : (q chunk_id : ℕ) (r : BufferRecord) → is_of q chunk_id r ≡ true → ((r.sequence == q) ≡ true) × (r.chunk_id ≡ chunk_id)
is_of_parts q chunk_id r h =
    let parts = and_parts (r.sequence == q) (r.chunk_id == chunk_id) h in
    (parts.0, eqb-true r.chunk_id chunk_id parts.1)

-- each complete record's chunk has arrived
abbrev pub Come : ℕ → Sequence → List BufferRecord → Type 0
Come q s rs = Each (λ r. (r.sequence == q) ≡ true → r.chunk.partial ≡ false → has_arrived s r.chunk_id ≡ true) rs

-- no chunk comes any more that has this id and no record
abbrev pub Finished : Sequence → ℕ → Type 0
Finished s chunk_id = (has_arrived s chunk_id ≡ true) ⊎ (s.closed ≡ true)

-- What is fixed by losing records, of which these were there and those are left

pub record IsLost (q : ℕ) (s : Sequence) (had left : List BufferRecord) (f : Fixed) : Type 0 where
  pub unread : UpTo s.cursor f.at
  pub there : Has q f.at.chunk_id had
  pub gone : NoneOf q f.at.chunk_id left
  pub finished : Finished s f.at.chunk_id

pub record AreLost (q : ℕ) (s : Sequence) (had left : List BufferRecord) (fixed : List Fixed) : Type 0 where
  pub each : Each (IsLost q s had left) fixed
  pub distinct : AreDistinct fixed

finished_by : (q : ℕ) (s : Sequence) (r : BufferRecord) → s.number ≡ q → is_loss_of s r ≡ true
    → ((r.sequence == q) ≡ true → r.chunk.partial ≡ false → has_arrived s r.chunk_id ≡ true)
    → ((r.sequence == q) ≡ true) × Finished s r.chunk_id
finished_by q s r n h come =
    let parts = and_parts (r.sequence == s.number) (not (r.chunk.partial && not s.closed)) h in
    let mine : (r.sequence == q) ≡ true = subst (λ (m : ℕ). (r.sequence == m) ≡ true) n parts.0 in
    (mine, step r.chunk.partial refl s.closed refl parts.1)
  where
    step : (p : Bool) → r.chunk.partial ≡ p → (c : Bool) → s.closed ≡ c → not (p && not c) ≡ true → Finished s r.chunk_id
    step true e true f k = inr f
    step true e false f k = absurd (false≢true k)
    step false e c f k = inl (come (subst (λ (m : ℕ). (r.sequence == m) ≡ true) n (and_parts (r.sequence == s.number) (not (r.chunk.partial && not s.closed)) h).0) e)

-- an outcome of a chunk that has a record isn't one of a chunk that has none
apart_of : (q chunk_id : ℕ) (rs : List BufferRecord) (f g : Fixed) → f.at.chunk_id ≡ chunk_id → NoneOf q chunk_id rs → Has q g.at.chunk_id rs
    → is_same_place f.at g.at ≡ false
apart_of q chunk_id rs f g e none has = false_from_ne_true (is_same_place f.at g.at) (λ same.
    not_none q g.at.chunk_id rs has (subst (λ (i : ℕ). NoneOf q i rs) (sym e ∙ (same_parts f.at g.at same).0) none))

-- a record that stays doesn't bring back a chunk of the others
none_more : (q chunk_id : ℕ) (r : BufferRecord) (rs left : List BufferRecord) → ((r.sequence == q) ≡ true → NoneOf q r.chunk_id rs)
    → Has q chunk_id rs → NoneOf q chunk_id left → NoneOf q chunk_id (r ∷ left)
none_more q chunk_id r rs left once has none = (
  false_from_ne_true (is_of q chunk_id r) (λ e.
      let parts : ((r.sequence == q) ≡ true) × (r.chunk_id ≡ chunk_id) = is_of_parts q chunk_id r e in
      not_none q chunk_id rs has (subst (λ (i : ℕ). NoneOf q i rs) parts.1 (once parts.0))),
  none,
)

lost_stays : (q : ℕ) (s : Sequence) (r : BufferRecord) (rs left : List BufferRecord) (fixed : List Fixed)
    → ((r.sequence == q) ≡ true → NoneOf q r.chunk_id rs) → AreLost q s rs left fixed → AreLost q s (r ∷ rs) (r ∷ left) fixed
lost_stays q s r rs left fixed once h = record {
  each = each-then (IsLost q s rs left) (IsLost q s (r ∷ rs) (r ∷ left))
      (λ f i. record { unread = i.unread; there = inr i.there; gone = none_more q f.at.chunk_id r rs left once i.there i.gone; finished = i.finished }) fixed h.each;
  distinct = h.distinct;
}

lost_more : (q : ℕ) (s : Sequence) (r : BufferRecord) (rs left : List BufferRecord) (fixed : List Fixed)
    → AreLost q s rs left fixed → AreLost q s (r ∷ rs) left fixed
lost_more q s r rs left fixed h = record {
  each = each-then (IsLost q s rs left) (IsLost q s (r ∷ rs) left)
      (λ f i. record { unread = i.unread; there = inr i.there; gone = i.gone; finished = i.finished }) fixed h.each;
  distinct = h.distinct;
}

-- the outcomes of one record that is lost, before those of others
lost_first : (q : ℕ) (s : Sequence) (r : BufferRecord) (rs left : List BufferRecord) (here fixed : List Fixed)
    → (r.sequence == q) ≡ true → Finished s r.chunk_id → NoneOf q r.chunk_id rs → NoneOf q r.chunk_id left
    → AreUnread s r.chunk_id here → AreLost q s rs left fixed → AreLost q s (r ∷ rs) left (here ++ fixed)
lost_first q s r rs left here fixed mine finished none gone u h = record {
  each = each-append (IsLost q s (r ∷ rs) left) here fixed
      (each-then (λ (f : Fixed). (f.at.chunk_id ≡ r.chunk_id) × UpTo s.cursor f.at) (IsLost q s (r ∷ rs) left)
      (λ f i. record {
        unread = i.1;
        there = inl (and_from (r.sequence == q) (r.chunk_id == f.at.chunk_id) mine (eq-eqb r.chunk_id f.at.chunk_id (sym i.0)));
        gone = subst (λ (n : ℕ). NoneOf q n left) (sym i.0) gone;
        finished = subst (λ (n : ℕ). Finished s n) (sym i.0) finished;
      }) here u.each)
      (lost_more q s r rs left fixed h).each;
  distinct = distinct-append here fixed u.distinct h.distinct
      (each-then (IsLost q s rs left) (λ (g : Fixed). Apart g here)
      (λ g i. each-then (λ (f : Fixed). (f.at.chunk_id ≡ r.chunk_id) × UpTo s.cursor f.at) (λ (f : Fixed). is_same_place f.at g.at ≡ false)
      (λ f k. apart_of q r.chunk_id rs f g k.0 none i.there) here u.each) fixed h.each);
}

pub losses_fix : (q : ℕ) (s : Sequence) (lost : BufferRecord → Bool) (rs : List BufferRecord) → s.number ≡ q → Once q rs → Come q s rs
    → AreLost q s rs (filter (λ r. not (lost r)) rs) (flat_map (fixed_by_loss s) (filter lost rs))
losses_fix q s lost [] n once come = record { each = tt; distinct = tt }
losses_fix q s lost (r ∷ rs) n once come = step (lost r) (losses_fix q s lost rs n once.1 come.1)
  where
    by_loss : (b : Bool) → is_loss_of s r ≡ b → AreLost q s rs (filter (λ t. not (lost t)) rs) (flat_map (fixed_by_loss s) (filter lost rs))
        → AreLost q s (r ∷ rs) (filter (λ t. not (lost t)) rs)
        (cond b (map lost_at (unread_start_places s r.chunk_id r.chunk)) [] ++ flat_map (fixed_by_loss s) (filter lost rs))
    by_loss true e h =
        let is : ((r.sequence == q) ≡ true) × Finished s r.chunk_id = finished_by q s r n e come.0 in
        lost_first q s r rs (filter (λ t. not (lost t)) rs) (map lost_at (unread_start_places s r.chunk_id r.chunk)) (flat_map (fixed_by_loss s) (filter lost rs))
        is.0 is.1 (once.0 is.0) (each-filter (λ t. is_of q r.chunk_id t ≡ false) (λ t. not (lost t)) rs (once.0 is.0)) (unread_places s r.chunk_id r.chunk) h
    by_loss false e h = lost_more q s r rs (filter (λ t. not (lost t)) rs) (flat_map (fixed_by_loss s) (filter lost rs)) h

    step : (b : Bool) → AreLost q s rs (filter (λ t. not (lost t)) rs) (flat_map (fixed_by_loss s) (filter lost rs))
        → AreLost q s (r ∷ rs) (cond (not b) (r ∷ filter (λ t. not (lost t)) rs) (filter (λ t. not (lost t)) rs))
        (flat_map (fixed_by_loss s) (cond b (r ∷ filter lost rs) (filter lost rs)))
    step true h = by_loss (is_loss_of s r) refl h
    step false h = lost_stays q s r rs (filter (λ t. not (lost t)) rs) (flat_map (fixed_by_loss s) (filter lost rs)) once.0 h
